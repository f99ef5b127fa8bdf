-- Adding terms to an element one after another: what is collected from two formal sums, one after the other, is what is
-- collected from both. A coefficient of an element is the weight that stands at its pairing, since an element is the one with
-- its coefficients; so the sums at each place decide.
use Rattle.std.proofs.Common.{◌≡◌, ◌≢◌, ℕ, zero, suc, ◌+◌, ◌%◌, ◌<◌, ◌≤◌, Bool, true, false, cond, List, [], ◌∷◌, ◌++◌, append_assoc, append-nil, map, take, take_all, length, get_or, refl, sym, ap, ap₂, ◌∙◌, arith, subst, All, Ordering, Less, Equal, Greater, get_or-set_other, get_or-set_same}
use Rattle.std.specs.List.{AllByRecursion}
use Rattle.std.specs.List.Sorted.{IsStrictlySortedBy}
use Rattle.std.specs.Cmp.Lexicographic.{slice_cmp}
use Rattle.std.specs.Ordering.{nat_cmp}
use Rattle.std.specs.Str.{bytes_eq}
use Rattle.std.proofs.Math.Nat.{mod-add-mod, add-mod, mod-mod, mod-eq_of_lt}
use Rattle.std.proofs.Math.ListN.{set, length-set}
use Rattle.std.proofs.lemmas.Bool.{false≢true, false_from_ne_true}
use Rattle.std.proofs.lemmas.Slice.Eq.{bytes_eq-Decides}
use Rattle.std.proofs.lemmas.List.{get_or_default, same_lists, length-map, get_or-map}
use Rattle.std.proofs.lemmas.List.Elements.{All-head, All-tail}
use Rattle.std.proofs.lemmas.List.Sums.{sum_by-cons}
use Rattle.state_sums.specs.Networks.{Term}
use Rattle.arc_gluing.proofs.OneEdge.{same_or_not}
use Rattle.strand_algebra.specs.Elements.{IsElement, coefficient, collected, add}
use Rattle.strand_algebra.specs.Laws.{nothing}
use Rattle.strand_algebra.specs.Noncrossing.{noncrossing}
use Rattle.strand_algebra.proofs.Collecting.{picked, coefficient-append, IsElement-collected, coefficient_below}
use Rattle.strand_algebra.proofs.Operations.{IsElement-add}
use Rattle.strand_algebra.proofs.NoncrossingLists.{order_same, noncrossing_sorted}
use Rattle.strand_algebra.proofs.ElementLaws.{element_collected}

-- the collected term at p
abbrev pub at_pairing : ℕ → List Term → List ℕ → Term
at_pairing m x p = record { weight = coefficient x p % m; partner = p }

-- the term at a place is the collected one at its pairing
pub element_is : (m n : ℕ) (x : List Term) (j : ℕ) (d : Term) → 0 < m → IsElement m n x → j < length x → get_or x j d ≡ at_pairing m x (get_or x j d).partner
element_is m n x j d h e l =
    let whole = element_collected m n x h e in
    let same : get_or (collected m n x) j d ≡ get_or x j d = ap (λ ts. get_or ts j d) whole in
    let lm = ap length whole ∙ sym refl in
    let ln = length-map (noncrossing n) (at_pairing m x) in
    let at : get_or (collected m n x) j d ≡ at_pairing m x (get_or (noncrossing n) j d.partner) = get_or-map (at_pairing m x) (noncrossing n) j d.partner d (omega (arith, l, lm, ln)) in
    sym same ∙ at ∙ ap (at_pairing m x) (ap (λ t. t.partner) (sym at ∙ same))

-- A COEFFICIENT IS THE WEIGHT AT ITS PAIRING
pub own_weight : (m n : ℕ) (x : List Term) (j : ℕ) (d : Term) → 0 < m → IsElement m n x → j < length x → coefficient x (get_or x j d).partner ≡ (get_or x j d).weight
own_weight m n x j d h e l =
    let small = coefficient_below m n x (get_or x j d).partner h e in
    sym (ap (λ t. t.weight) (element_is m n x j d h e l) ∙ mod-eq_of_lt small)

-- ---- two formal sums with equal coefficients
map_same : {X : Type 0} (f g : List ℕ → X) (ps : List (List ℕ)) → ((j : ℕ) (d : List ℕ) → j < length ps → f (get_or ps j d) ≡ g (get_or ps j d)) → map f ps ≡ map g ps
map_same f g [] h = refl
map_same f g (p ∷ ps) h = ap₂ (λ x xs. x ∷ xs) (h 0 [] (omega arith)) (map_same f g ps (λ j d l. h (suc j) d (omega arith)))

collected_same : (m n : ℕ) (x y : List Term) → ((j : ℕ) (d : List ℕ) → j < length (noncrossing n) → coefficient x (get_or (noncrossing n) j d) % m ≡ coefficient y (get_or (noncrossing n) j d) % m) → collected m n x ≡ collected m n y
collected_same m n x y h =
    map_same (at_pairing m x) (at_pairing m y) (noncrossing n) (λ j d l. ap (λ w. record { weight = w; partner = get_or (noncrossing n) j d }) (h j d l))

pub coefficient-single : (t : Term) (p : List ℕ) → coefficient (t ∷ []) p ≡ picked p t
coefficient-single t p = let c = sum_by-cons (picked p) t [] in omega (arith, c)

-- WHAT IS COLLECTED HAS THE COEFFICIENTS MODULO m
collected_at : (m n : ℕ) (x : List Term) (j : ℕ) (d : List ℕ) → 0 < m → j < length (noncrossing n) → coefficient (collected m n x) (get_or (noncrossing n) j d) ≡ coefficient x (get_or (noncrossing n) j d) % m
collected_at m n x j d h l =
    let whole = IsElement-collected m n x h in
    let long = length-map (noncrossing n) (at_pairing m x) in
    let k : j < length (collected m n x) = omega (arith, long, l) in
    let at = get_or-map (at_pairing m x) (noncrossing n) j d (at_pairing m x d) l in
    sym (ap (λ t. coefficient (collected m n x) t.partner) at) ∙ own_weight m n (collected m n x) j (at_pairing m x d) h whole k ∙ ap (λ t. t.weight) at

-- ADDING ONE AFTER THE OTHER
pub add_more : (m n : ℕ) (x y z : List Term) → 0 < m → add m n (add m n x y) z ≡ add m n x (y ++ z)
add_more m n x y z h =
    collected_same m n (add m n x y ++ z) (x ++ (y ++ z))
    (λ j d l.
    let p = get_or (noncrossing n) j d in
    ap (λ k. k % m) (coefficient-append (add m n x y) z p ∙ ap (λ k. k + coefficient z p) (collected_at m n (x ++ y) j d h l))
    ∙ mod-add-mod (coefficient (x ++ y) p) m (coefficient z p)
    ∙ ap (λ k. k % m) (sym (coefficient-append (x ++ y) z p) ∙ ap (λ ts. coefficient ts p) (append_assoc x y z)))

pub add_none : (m n : ℕ) (x : List Term) → 0 < m → IsElement m n x → add m n x [] ≡ x
add_none m n x h e = ap (collected m n) (append-nil x) ∙ element_collected m n x h e

pub collected_more : (m n : ℕ) (x y : List Term) → 0 < m → add m n (collected m n x) y ≡ collected m n (x ++ y)
collected_more m n x y h = add_more m n [] x y h

-- TERMS OF WEIGHT 0
no_weight : (y : List Term) (p : List ℕ) → All (λ term. term.weight ≡ 0) y → coefficient y p ≡ 0
no_weight [] p h = refl
no_weight (t ∷ y) p h =
    let first = All-head (λ term. term.weight ≡ 0) t y h in
    let one = sum_by-cons (picked p) t y in
    let rest = no_weight y p (All-tail (λ term. term.weight ≡ 0) t y h) in
    let none : picked p t ≡ 0 = grind (arith, first) in
    omega (arith, one, rest, none)

pub add_zeros : (m n : ℕ) (x y : List Term) → 0 < m → IsElement m n x → All (λ term. term.weight ≡ 0) y → add m n x y ≡ x
add_zeros m n x y h e none =
    collected_same m n (x ++ y) x (λ j d l. let p = get_or (noncrossing n) j d in
    ap (λ k. k % m) (let c = coefficient-append x y p in let w = no_weight y p none in omega (arith, c, w)))
    ∙ element_collected m n x h e

-- A WEIGHT AND ITS RESIDUE
pub add_reduced : (m n w : ℕ) (x : List Term) (p : List ℕ) → 0 < m → add m n x (record { weight = w % m; partner = p } ∷ []) ≡ add m n x (record { weight = w; partner = p } ∷ [])
add_reduced m n w x p h =
    let small : Term = record { weight = w % m; partner = p } in
    let full : Term = record { weight = w; partner = p } in
    collected_same m n (x ++ small ∷ []) (x ++ full ∷ [])
    (λ j d l. let q = get_or (noncrossing n) j d in
    ap (λ k. k % m) (coefficient-append x (small ∷ []) q ∙ ap (λ k. coefficient x q + k) (coefficient-single small q))
    ∙ reduced (bytes_eq q p) (coefficient x q)
    ∙ ap (λ k. k % m) (sym (coefficient-append x (full ∷ []) q ∙ ap (λ k. coefficient x q + k) (coefficient-single full q))))
  where
    reduced : (b : Bool) (a : ℕ) → (a + cond b (w % m) 0) % m ≡ (a + cond b w 0) % m
    reduced true a = add-mod a (w % m) m ∙ ap (λ k. (a % m + k) % m) (mod-mod w m) ∙ sym (add-mod a w m)
    reduced false a = refl

-- ---- the places of the pairings
after_head : (p : List ℕ) (ps : List (List ℕ)) (j : ℕ) (d : List ℕ) → AllByRecursion (λ q. slice_cmp nat_cmp p q ≡ Less) ps → j < length ps → slice_cmp nat_cmp p (get_or ps j d) ≡ Less
after_head p [] j d h l = absurd (omega (arith, l))
after_head p (q ∷ ps) zero d h l = h.0
after_head p (q ∷ ps) (suc j) d h l = after_head p ps j d h.1 (omega (arith, l))

-- a later pairing is greater
pub increasing : (ps : List (List ℕ)) (i j : ℕ) (d : List ℕ) → IsStrictlySortedBy (slice_cmp nat_cmp) ps → i < j → j < length ps → slice_cmp nat_cmp (get_or ps i d) (get_or ps j d) ≡ Less
unfolding IsStrictlySortedBy
increasing [] i j d s a b = absurd (omega (arith, b))
increasing (p ∷ ps) zero zero d s a b = absurd (omega (arith, a))
increasing (p ∷ ps) zero (suc j) d s a b = after_head p ps j d s.0 (omega (arith, b))
increasing (p ∷ ps) (suc i) zero d s a b = absurd (omega (arith, a))
increasing (p ∷ ps) (suc i) (suc j) d s a b = increasing ps i j d s.1 (omega (arith, a)) (omega (arith, b))

is_less : Ordering → Bool
is_less Less = true
is_less Equal = false
is_less Greater = false

pub less_differs : (p q : List ℕ) → slice_cmp nat_cmp p q ≡ Less → p ≢ q
unfolding is_less
less_differs p q h e = let t = sym (ap is_less (order_same p)) ∙ ap is_less (ap (slice_cmp nat_cmp p) e ∙ h) in absurd (false≢true t)

-- the pairing at a place of an element
pub partner_at : (m n : ℕ) (x : List Term) (j : ℕ) (d : Term) → IsElement m n x → j < length x → (get_or x j d).partner ≡ get_or (noncrossing n) j d.partner
partner_at m n x j d e l = sym (get_or-map (λ term. term.partner) x j d d.partner l) ∙ ap (λ ps. get_or ps j d.partner) e.partners

pub element_length : (m n : ℕ) (x : List Term) → IsElement m n x → length x ≡ length (noncrossing n)
element_length m n x e = sym (length-map x (λ term. term.partner)) ∙ ap length e.partners

pub same_or_less : {R : Type 0} (j i : ℕ) → (j ≡ i → R) → (j < i → R) → (i < j → R) → R
same_or_less zero zero same below above = same refl
same_or_less zero (suc i) same below above = below (omega arith)
same_or_less (suc j) zero same below above = above (omega arith)
same_or_less (suc j) (suc i) same below above = same_or_less j i (λ e. same (ap suc e)) (λ l. below (omega (arith, l))) (λ l. above (omega (arith, l)))

-- two places of an element have two pairings
places_differ : (m n : ℕ) (x : List Term) (i j : ℕ) (d : Term) → IsElement m n x → i < length x → j < length x → j ≢ i → (get_or x j d).partner ≢ (get_or x i d).partner
places_differ m n x i j d e k l differ same =
    let long = element_length m n x e in
    let at : get_or (noncrossing n) j d.partner ≡ get_or (noncrossing n) i d.partner = sym (partner_at m n x j d e l) ∙ same ∙ partner_at m n x i d e k in
    same_or_less j i
    (λ e. differ e)
    (λ b. less_differs (get_or (noncrossing n) j d.partner) (get_or (noncrossing n) i d.partner) (increasing (noncrossing n) j i d.partner (noncrossing_sorted n) b (omega (arith, k, long))) at)
    (λ b. less_differs (get_or (noncrossing n) i d.partner) (get_or (noncrossing n) j d.partner) (increasing (noncrossing n) i j d.partner (noncrossing_sorted n) b (omega (arith, l, long))) (sym at))

-- A WRITE AT THE PLACE OF A PAIRING
module _ (m n : ℕ) (x : List Term) (i a w : ℕ) (p : List ℕ) (h : 0 < m) (e : IsElement m n x) (l : i < length x)
    (weight_is : (d : Term) → a ≡ (get_or x i d).weight) (partner_is : (d : Term) → p ≡ (get_or x i d).partner) where
  abbrev new : Term
  new = record { weight = w; partner = p }

  abbrev written : Term
  written = record { weight = (a + w) % m; partner = p }

  added_at : (j : ℕ) (d : Term) → j < length x → get_or (add m n x (new ∷ [])) j d ≡ at_pairing m (x ++ new ∷ []) (get_or x j d).partner
  added_at j d k =
      let long = element_length m n x e in
      get_or-map (at_pairing m (x ++ new ∷ [])) (noncrossing n) j d.partner d (omega (arith, k, long)) ∙ ap (at_pairing m (x ++ new ∷ [])) (sym (partner_at m n x j d e k))

  -- the coefficient there
  sum_at : (q : List ℕ) → coefficient (x ++ new ∷ []) q ≡ coefficient x q + picked q new
  sum_at q = coefficient-append x (new ∷ []) q ∙ ap (λ k. coefficient x q + k) (coefficient-single new q)

  put_here : (d : Term) → get_or (set x i written) i d ≡ get_or (add m n x (new ∷ [])) i d
  put_here d =
      let q = (get_or x i d).partner in
      let there : coefficient (x ++ new ∷ []) q ≡ a + w =
      sum_at q ∙ ap₂ (λ u b. u + cond b w 0) (own_weight m n x i d h e l ∙ sym (weight_is d)) ((bytes_eq-Decides q p).1 (sym (partner_is d))) in
      get_or-set_same x i written d l
      ∙ sym (added_at i d l ∙ ap₂ (λ u q. record { weight = u % m; partner = q }) there (sym (partner_is d)))

  put_elsewhere : (j : ℕ) (d : Term) → j < length x → j ≢ i → get_or (set x i written) j d ≡ get_or (add m n x (new ∷ [])) j d
  put_elsewhere j d k differ =
      let q = (get_or x j d).partner in
      let other : bytes_eq q p ≡ false = false_from_ne_true (bytes_eq q p) (λ t. places_differ m n x i j d e l k differ ((bytes_eq-Decides q p).0 t ∙ partner_is d)) in
      let there : coefficient (x ++ new ∷ []) q ≡ coefficient x q = sum_at q ∙ ap (λ b. coefficient x q + cond b w 0) other ∙ omega arith in
      get_or-set_other x i j written d differ
      ∙ element_is m n x j d h e k
      ∙ sym (added_at j d k ∙ ap (λ u. record { weight = u % m; partner = q }) there)

  put_at : (j : ℕ) (d : Term) → j < length (set x i written) → get_or (set x i written) j d ≡ get_or (add m n x (new ∷ [])) j d
  put_at j d k =
      let long = length-set x i written in
      same_or_not j i
      (λ same. let P : ℕ → Type 0 = λ z. get_or (set x i written) z d ≡ get_or (add m n x (new ∷ [])) z d in subst P (sym same) (put_here d))
      (λ differ. put_elsewhere j d (omega (arith, long, k)) differ)

  pub put_weight : set x i written ≡ add m n x (new ∷ [])
  put_weight =
      let whole = IsElement-add m n x (new ∷ []) h in
      same_lists (set x i written) (add m n x (new ∷ []))
      (length-set x i written ∙ element_length m n x e ∙ sym (element_length m n (add m n x (new ∷ [])) whole)) put_at

-- as a loop of the code writes it: s is the residue of the sum of both weights
pub collect_step : (m n : ℕ) (x : List Term) (i w s : ℕ) (p : List ℕ) (t u : Term) → 0 < m → IsElement m n x → i < length x →
    t ≡ get_or x i t → u ≡ get_or x i u → ((d : Term) → p ≡ (get_or x i d).partner) → s ≡ (t.weight + w) % m →
    set x i (record { weight = s; partner = u.partner }) ≡ add m n x (record { weight = w; partner = p } ∷ [])
collect_step m n x i w s p t u h e l at_t at_u partner_is sum_is =
    ap₂ (λ v q. set x i (record { weight = v; partner = q })) sum_is (ap (λ d. d.partner) at_u ∙ sym (partner_is u))
    ∙ put_weight m n x i t.weight w p h e l (λ d. ap (λ k. k.weight) (at_t ∙ get_or_default x i t d l)) partner_is

-- ---- nothing collected yet
-- each pairing with weight 0
abbrev pub zeros : List (List ℕ) → List Term
zeros ps = map (λ p. record { weight = 0; partner = p }) ps

pub zeros_are : (m n : ℕ) → 0 < m → zeros (noncrossing n) ≡ nothing m n
zeros_are m n h = map_same (λ p. record { weight = 0; partner = p }) (at_pairing m []) (noncrossing n) (λ j d l. ap (λ w. record { weight = w; partner = get_or (noncrossing n) j d }) (sym (mod-eq_of_lt h)))

pub zeros_partners : (n : ℕ) → map (λ term. term.partner) (zeros (noncrossing n)) ≡ noncrossing n
zeros_partners n = ap (map (λ term. term.partner)) (zeros_are 1 n (omega arith)) ∙ (IsElement-collected 1 n [] (omega arith)).partners

-- a loop over all the pairings has filled the list
pub zeros_filled : (n i : ℕ) (x : List Term) (ps : List (List ℕ)) → x ≡ zeros (take i ps) → length ps ≤ i → ps ≡ noncrossing n → x ≡ zeros (noncrossing n)
zeros_filled n i x ps e l whole = e ∙ ap zeros (take_all i ps l ∙ whole)
