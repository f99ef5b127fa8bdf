-- Elements and formal sums: what is collected from a formal sum is alike to it, and two elements that are alike are one. For
-- each noncrossing pairing stands once in an element.
--
--     signed x            the terms of x as a formal sum over the whole numbers
--     AreNoncrossingTerms n x    each pairing of x is a noncrossing one of 2n points
use Rattle.std.proofs.Common.{◌≡◌, ℕ, zero, suc, ◌+◌, ◌%◌, ◌<◌, Bool, true, false, cond, if◌then◌else◌, List, [], ◌∷◌, ◌++◌, map, length, get_or, drop, ℤ, pos, ◌+ℤ◌, ◌*ℤ◌, refl, sym, ap, ap₂, ◌∙◌, arith, subst, All, Contains, Ordering, Less, Equal, Greater, ⊎_elim, mod-lt}
use Rattle.std.specs.List.{AllByRecursion}
use Rattle.std.specs.List.Sorted.{IsStrictlySortedBy}
use Rattle.std.specs.Cmp.Lexicographic.{slice_cmp}
use Rattle.std.specs.Ordering.{nat_cmp}
use Rattle.std.specs.Str.{bytes_eq}
use Rattle.std.proofs.lemmas.Bool.{cases_Bool, false_from_ne_true}
use Rattle.std.proofs.lemmas.List.{map-id}
use Rattle.std.proofs.lemmas.List.Elements.{All-map, All-head, All-tail}
use Rattle.std.proofs.lemmas.List.Sums.{sum_by-append, sum_by-cons}
use Rattle.std.proofs.lemmas.Slice.Eq.{bytes_eq-Decides}
use Rattle.graph_parts.proofs.Renaming.{map_map}
use Rattle.ring_identities.specs.Residues.{Congruent}
use Rattle.ring_identities.proofs.Congruences.{congruent_refl, congruent_plus, congruent_times, congruent_eq, congruent_trans, natural_mod, same_residue, residue_small}
use Rattle.ring_identities.proofs.Identities.{reads, by_ring}
use Rattle.state_sums.specs.Networks.{Term}
use Rattle.strand_algebra.specs.Elements.{IsElement, coefficient, collected}
use Rattle.strand_algebra.specs.Noncrossing.{noncrossing}
use Rattle.strand_algebra.proofs.Each.{Each-from_map, every}
use Rattle.strand_algebra.proofs.FormalSums.{Sum, total, AreAlike}
use Rattle.strand_algebra.proofs.NoncrossingLists.{IsNoncrossingOf, order_same, each_noncrossing, all_noncrossing, noncrossing_sorted}

-- the terms over the whole numbers
abbrev pub signed : List Term → Sum
signed x = map (λ term. (pos term.weight, term.partner)) x

abbrev pub AreNoncrossingTerms : ℕ → List Term → Type 0
AreNoncrossingTerms n x = AllByRecursion (λ term. IsNoncrossingOf (n + n) term.partner) x

-- worth 1 at p alone
abbrev pub only_at : List ℕ → List ℕ → ℤ
only_at p q = cond (bytes_eq p q) (pos 1) (pos 0)

-- the weight where the pairing is p
abbrev pub picked : List ℕ → Term → ℕ
picked p term = if bytes_eq p term.partner then term.weight else 0

coefficient-cons : (t : Term) (x : List Term) (p : List ℕ) → coefficient (t ∷ x) p ≡ picked p t + coefficient x p
coefficient-cons t x p = sum_by-cons (picked p) t x

pub coefficient-append : (x y : List Term) (p : List ℕ) → coefficient (x ++ y) p ≡ coefficient x p + coefficient y p
coefficient-append x y p = sum_by-append (picked p) x y

picked_signed : (a : ℕ) (b : Bool) → pos (cond b a 0) ≡ pos a *ℤ cond b (pos 1) (pos 0)
picked_signed a true = by_ring (pos a ∷ []) (search reads depth 30) (search reads depth 30) refl
picked_signed a false = by_ring (pos a ∷ []) (search reads depth 30) (search reads depth 30) refl

-- A COEFFICIENT IS A TOTAL
pub coefficient_total : (x : List Term) (p : List ℕ) → pos (coefficient x p) ≡ total (signed x) (only_at p)
coefficient_total [] p = refl
coefficient_total (t ∷ x) p = ap pos (coefficient-cons t x p) ∙ ap₂ (λ a b. a +ℤ b) (picked_signed t.weight (bytes_eq p t.partner)) (coefficient_total x p)

-- ---- equality of pairings by the test
pub bytes_eq-same : (p : List ℕ) → bytes_eq p p ≡ true
bytes_eq-same p = (bytes_eq-Decides p p).1 refl

not_less : (p q : List ℕ) → p ≡ q → slice_cmp nat_cmp p q ≡ Less → ⊥
not_less p q e h = distinct (sym (order_same p) ∙ ap (slice_cmp nat_cmp p) e ∙ h)
  where
    is_less : Ordering → Bool
    is_less Less = true
    is_less Equal = false
    is_less Greater = false

    apart : false ≡ true → ⊥
    apart h = grind (arith, h)

    distinct : Equal ≡ Less → ⊥
    distinct h = apart (ap is_less h)

pub less_differs : (p q : List ℕ) → slice_cmp nat_cmp p q ≡ Less → bytes_eq q p ≡ false
less_differs p q h = false_from_ne_true (bytes_eq q p) (λ t. not_less p q (sym ((bytes_eq-Decides q p).0 t)) h)

pub differs_less : (p q : List ℕ) → slice_cmp nat_cmp p q ≡ Less → bytes_eq p q ≡ false
differs_less p q h = false_from_ne_true (bytes_eq p q) (λ t. not_less p q ((bytes_eq-Decides p q).0 t) h)

each_at : {X : Type 0} (P : X → Type 0) (xs : List X) (x : X) → AllByRecursion P xs → Contains xs x → P x
each_at P [] x p c = absurd (let l = c.1 in omega (arith, l))
each_at P (y ∷ xs) x p (zero, l, e) = subst P e p.0
each_at P (y ∷ xs) x p (suc k, l, e) = each_at P xs x p.1 (k, omega arith, e)

-- ---- sums over a list of pairings
-- each pairing with its weight
abbrev weighed : (List ℕ → ℕ) → List (List ℕ) → Sum
weighed c ps = map (λ p. (pos (c p), p)) ps

weighed_mod : (m : ℕ) (c : List ℕ → ℕ) (ps : List (List ℕ)) (w : List ℕ → ℤ) → 0 < m → Congruent m (total (weighed (λ p. c p % m) ps) w) (total (weighed c ps) w)
weighed_mod m c [] w h = congruent_refl m (pos 0)
weighed_mod m c (p ∷ ps) w h = congruent_plus (congruent_times (natural_mod h (congruent_refl m (pos (c p)))) (congruent_refl m (w p))) (weighed_mod m c ps w h)

weighed_plus : (c d : List ℕ → ℕ) (ps : List (List ℕ)) (w : List ℕ → ℤ) → total (weighed (λ p. c p + d p) ps) w ≡ total (weighed c ps) w +ℤ total (weighed d ps) w
weighed_plus c d [] w = by_ring [] (search reads depth 30) (search reads depth 30) refl
weighed_plus c d (p ∷ ps) w =
    ap (λ k. pos (c p + d p) *ℤ w p +ℤ k) (weighed_plus c d ps w)
    ∙ by_ring (pos (c p) ∷ pos (d p) ∷ w p ∷ total (weighed c ps) w ∷ total (weighed d ps) w ∷ []) (search reads depth 30) (search reads depth 30) refl

weighed_same : (c d : List ℕ → ℕ) (ps : List (List ℕ)) (w : List ℕ → ℤ) → AllByRecursion (λ p. c p ≡ d p) ps → total (weighed c ps) w ≡ total (weighed d ps) w
weighed_same c d [] w h = refl
weighed_same c d (p ∷ ps) w h = ap₂ (λ a b. pos a *ℤ w p +ℤ b) h.0 (weighed_same c d ps w h.1)

weighed_none : (ps : List (List ℕ)) (w : List ℕ → ℤ) → total (weighed (λ p. 0) ps) w ≡ pos 0
weighed_none [] w = refl
weighed_none (p ∷ ps) w = ap (λ k. pos 0 *ℤ w p +ℤ k) (weighed_none ps w) ∙ by_ring (w p ∷ []) (search reads depth 30) (search reads depth 30) refl

-- only q counts, and stands once
weighed_once : (a : ℕ) (q : List ℕ) (ps : List (List ℕ)) (w : List ℕ → ℤ) → IsStrictlySortedBy (slice_cmp nat_cmp) ps → Contains ps q →
    total (weighed (λ p. if bytes_eq p q then a else 0) ps) w ≡ pos a *ℤ w q
unfolding IsStrictlySortedBy
weighed_once a q [] w s c = absurd (let l = c.1 in omega (arith, l))
weighed_once a q (p ∷ ps) w s (zero, l, e) =
    let e : p ≡ q = e in
    ap₂ (λ b k. pos (cond b a 0) *ℤ w p +ℤ k) (ap (bytes_eq p) (sym e) ∙ bytes_eq-same p)
    (weighed_same (λ z. if bytes_eq z q then a else 0) (λ z. 0) ps w
    (later ps s.0 (λ z h. ap (λ b. cond b a 0) (ap (bytes_eq z) (sym e) ∙ less_differs p z h)))
    ∙ weighed_none ps w)
    ∙ ap (λ z. pos a *ℤ w z +ℤ pos 0) e
    ∙ by_ring (pos a ∷ w q ∷ []) (search reads depth 30) (search reads depth 30) refl
  where
    later : {P Q : List ℕ → Type 0} (zs : List (List ℕ)) → AllByRecursion P zs → ((z : List ℕ) → P z → Q z) → AllByRecursion Q zs
    later [] h f = tt
    later (z ∷ zs) h f = (f z h.0, later zs h.1 f)
weighed_once a q (p ∷ ps) w s (suc k, l, e) =
    let there : Contains ps q = (k, omega arith, e) in
    ap₂ (λ b t. pos (cond b a 0) *ℤ w p +ℤ t) (differs_less p q (each_at (λ z. slice_cmp nat_cmp p z ≡ Less) ps q s.0 there)) (weighed_once a q ps w s.1 there)
    ∙ by_ring (w p ∷ pos a ∷ w q ∷ []) (search reads depth 30) (search reads depth 30) refl

weighed_coefficients : (n : ℕ) (x : List Term) (w : List ℕ → ℤ) → AreNoncrossingTerms n x → total (weighed (coefficient x) (noncrossing n)) w ≡ total (signed x) w
weighed_coefficients n [] w h = weighed_same (coefficient []) (λ p. 0) (noncrossing n) w (every (λ p. coefficient [] p ≡ 0) (λ p. refl) (noncrossing n)) ∙ weighed_none (noncrossing n) w
weighed_coefficients n (t ∷ x) w h =
    weighed_same (coefficient (t ∷ x)) (λ p. picked p t + coefficient x p) (noncrossing n) w (every (λ p. coefficient (t ∷ x) p ≡ picked p t + coefficient x p) (λ p. coefficient-cons t x p) (noncrossing n))
    ∙ weighed_plus (λ p. picked p t) (coefficient x) (noncrossing n) w
    ∙ ap₂ (λ a b. a +ℤ b) (weighed_once t.weight t.partner (noncrossing n) w (noncrossing_sorted n) (all_noncrossing n t.partner h.0)) (weighed_coefficients n x w h.1)

-- WHAT IS COLLECTED IS ALIKE
pub collected_alike : (m n : ℕ) (x : List Term) → 0 < m → AreNoncrossingTerms n x → AreAlike m (signed (collected m n x)) (signed x)
collected_alike m n x h f w =
    congruent_trans (congruent_eq (ap (λ s. total s w) (map_map (λ term. (pos term.weight, term.partner)) (λ p. record { weight = coefficient x p % m; partner = p }) (noncrossing n))))
    (congruent_trans (weighed_mod m (coefficient x) (noncrossing n) w h) (congruent_eq (weighed_coefficients n x w f)))

-- AND IS AN ELEMENT
pub IsElement-collected : (m n : ℕ) (x : List Term) → 0 < m → IsElement m n (collected m n x)
IsElement-collected m n x h = record {
  partners = map_map (λ term. term.partner) (λ p. record { weight = coefficient x p % m; partner = p }) (noncrossing n) ∙ map-id (noncrossing n);
  below = All-map (λ term. term.weight < m) (λ p. record { weight = coefficient x p % m; partner = p }) (noncrossing n) (λ i d l. mod-lt (coefficient x (get_or (noncrossing n) i d)) h);
}

pub noncrossing_element : (m n : ℕ) (x : List Term) → IsElement m n x → AreNoncrossingTerms n x
noncrossing_element m n x h = Each-from_map (IsNoncrossingOf (n + n)) (λ term. term.partner) x (let s = each_noncrossing n in rw (← h.partners) at s)

-- ---- elements by their coefficients
absent : (p : List ℕ) (x : List Term) → AllByRecursion (λ z. slice_cmp nat_cmp p z ≡ Less) (map (λ term. term.partner) x) → coefficient x p ≡ 0
absent p [] h = refl
absent p (t ∷ x) h = coefficient-cons t x p ∙ ap₂ (λ b k. cond b t.weight 0 + k) (differs_less p t.partner h.0) (absent p x h.1)

here : (t : Term) (x : List Term) → AllByRecursion (λ z. slice_cmp nat_cmp t.partner z ≡ Less) (map (λ term. term.partner) x) → coefficient (t ∷ x) t.partner ≡ t.weight
here t x h = coefficient-cons t x t.partner ∙ ap₂ (λ b k. cond b t.weight 0 + k) (bytes_eq-same t.partner) (absent t.partner x h) ∙ omega arith

elsewhere : (t : Term) (x : List Term) (p : List ℕ) → bytes_eq p t.partner ≡ false → coefficient (t ∷ x) p ≡ coefficient x p
elsewhere t x p f = coefficient-cons t x p ∙ ap (λ b. cond b t.weight 0 + coefficient x p) f ∙ omega arith

same_weight : (m a b : ℕ) → 0 < m → a < m → b < m → Congruent m (pos a) (pos b) → a ≡ b
same_weight m a b h p q c = sym (residue_small m a p) ∙ same_residue h c ∙ residue_small m b q

abbrev partners : List Term → List (List ℕ)
partners x = map (λ term. term.partner) x

no_head : (x : List ℕ) (xs : List (List ℕ)) → [] ≡ x ∷ xs → ⊥
no_head x xs e = let l = ap length e in omega (arith, l)

same_lists : (m : ℕ) (x y : List Term) → 0 < m → partners x ≡ partners y → IsStrictlySortedBy (slice_cmp nat_cmp) (partners x) → IsStrictlySortedBy (slice_cmp nat_cmp) (partners y) →
    All (λ term. term.weight < m) x → All (λ term. term.weight < m) y → ((p : List ℕ) → Congruent m (pos (coefficient x p)) (pos (coefficient y p))) → x ≡ y
unfolding IsStrictlySortedBy
same_lists m [] [] h e s t a b c = refl
same_lists m [] (u ∷ y) h e s t a b c = absurd (no_head u.partner (partners y) e)
same_lists m (t ∷ x) [] h e s r a b c = absurd (no_head t.partner (partners x) (sym e))
same_lists m (t ∷ x) (u ∷ y) h e s r a b c =
    let small : Term → Type 0 = λ term. term.weight < m in
    let first : t.partner ≡ u.partner = ap (λ ps. get_or ps 0 []) e in
    let weights : t.weight ≡ u.weight =
    same_weight m t.weight u.weight h (All-head small t x a) (All-head small u y b)
    (congruent_trans (congruent_eq (ap pos (sym (here t x s.0))))
    (congruent_trans (c t.partner) (congruent_eq (ap pos (ap (coefficient (u ∷ y)) first ∙ here u y r.0))))) in
    ap₂ (λ f g. f ∷ g) (λ i. record { weight = weights i; partner = first i })
    (same_lists m x y h (ap (drop 1) e) s.1 r.1 (All-tail small t x a) (All-tail small u y b)
    (λ p. ⊎_elim
    (λ q. let same : p ≡ t.partner = (bytes_eq-Decides p t.partner).0 q in
    congruent_eq (ap pos (ap (coefficient x) same ∙ absent t.partner x s.0 ∙ sym (ap (coefficient y) (same ∙ first) ∙ absent u.partner y r.0))))
    (λ q. congruent_trans (congruent_eq (ap pos (sym (elsewhere t x p q))))
    (congruent_trans (c p) (congruent_eq (ap pos (elsewhere u y p (ap (bytes_eq p) (sym first) ∙ q))))))
    (cases_Bool (bytes_eq p t.partner))))

-- ALIKE ELEMENTS ARE ONE
pub same_elements : (m n : ℕ) (x y : List Term) → 0 < m → IsElement m n x → IsElement m n y → AreAlike m (signed x) (signed y) → x ≡ y
same_elements m n x y h ex ey c =
    let sorted = noncrossing_sorted n in
    same_lists m x y h (ex.partners ∙ sym ey.partners) (rw (← ex.partners) at sorted) (rw (← ey.partners) at sorted) ex.below ey.below
    (λ p. congruent_trans (congruent_eq (coefficient_total x p)) (congruent_trans (c (only_at p)) (congruent_eq (sym (coefficient_total y p)))))

below_list : (m : ℕ) (x : List Term) (p : List ℕ) → 0 < m → IsStrictlySortedBy (slice_cmp nat_cmp) (partners x) → All (λ term. term.weight < m) x → coefficient x p < m
unfolding IsStrictlySortedBy
below_list m [] p h s a = h
below_list m (t ∷ x) p h s a =
    let small : Term → Type 0 = λ term. term.weight < m in
    ⊎_elim
    (λ q. let e = ap (coefficient (t ∷ x)) ((bytes_eq-Decides p t.partner).0 q) ∙ here t x s.0 in let l = All-head small t x a in omega (arith, e, l))
    (λ q. let e = elsewhere t x p q in let ih = below_list m x p h s.1 (All-tail small t x a) in omega (arith, e, ih))
    (cases_Bool (bytes_eq p t.partner))

-- A COEFFICIENT OF AN ELEMENT IS BELOW m
pub coefficient_below : (m n : ℕ) (x : List Term) (p : List ℕ) → 0 < m → IsElement m n x → coefficient x p < m
coefficient_below m n x p h e = let sorted = noncrossing_sorted n in below_list m x p h (rw (← e.partners) at sorted) e.below
