-- One more strand on the right keeps products and loops: names of the stack are names of the wider stack, whose new strand is
-- joined through. What the wider stack joins is told by a label of its names that each of its edges keeps.
use Rattle.std.proofs.Common.{◌≡◌, ℕ, suc, ◌+◌, ◌-◌, ◌<◌, ◌≤◌, ◌≢◌, Bool, true, false, cond, nat_lt, ◌||◌, ◌==◌, if◌then◌else◌, List, ◌∷◌, ◌++◌, map, length, slice_index, take, drop, length-append, refl, sym, ap, ap₂, ◌∙◌, arith, All, ⊎_elim}
use Rattle.std.proofs.lemmas.List.Elements.{All-append, All-map}
use Rattle.std.proofs.lemmas.Bool.{cases_Bool, eqb-true, eq-eqb, or_left, or_right, or_cases}
use Rattle.std.proofs.lemmas.Bool.Decides.{nat_tests}
use Rattle.std.proofs.lemmas.List.{length-map, length-take-le, length-drop, get_or_append_left, get_or-append-add, get_or-map, get_or-take, get_or-drop}
use Rattle.std.specs.List.{range_with_len}
use Rattle.std.specs.Set.{is_member, distinct_count}
use Rattle.graph_parts.proofs.Through.{keeps_Joined, member_label}
use Rattle.list_lemmas.proofs.Ranges.{All-range, is_member-range}
use Rattle.graph_parts.proofs.Agreement.{eqb_from_iff, to_All, label_count-agree}
use Rattle.graph_parts.proofs.Counting.{is_member-map, distinct_count-cons}
use Rattle.graph_parts.proofs.Distinct.{distinct_count-le_from_within}
use Rattle.graph_parts.proofs.Renaming.{map_map}
use Rattle.graph_parts.proofs.Walks.{Joined-from_labels}
use Rattle.graph_parts.specs.Labels.{label_of, label_count}
use Rattle.strand_algebra.proofs.Contractions.{below_range, in_map, out_map, member_map}
use Rattle.strand_algebra.proofs.LabelProducts.{pairs, label_stack, outer, label_product, label_loops, IsPairingOf}
use Rattle.strand_algebra.proofs.Stacks.{not_below, outer_below, below_is, is_below, All-pairs, Matches-product, IsPairingOf-product}
use Rattle.strand_algebra.proofs.StraightStrands.{product_is, low_edge, high_edge, seam_edge}
use Rattle.strand_algebra.specs.StrandPairings.{seams, moved, widened}

-- ---- the points of the wider pairing
front_length : (n : ℕ) (p : List ℕ) → n ≤ length p → length (map (moved n) (take n p)) ≡ n
front_length n p h = length-map (take n p) (moved n) ∙ length-take-le n p h

back_length : (n : ℕ) (p : List ℕ) → length p ≡ n + n → length (map (moved n) (drop n p)) ≡ n
back_length n p h = length-map (drop n p) (moved n) ∙ length-drop n p ∙ omega (arith, h)

wide_length : (n : ℕ) (p : List ℕ) → length p ≡ n + n → length (widened n p) ≡ n + 1 + (n + 1)
wide_length n p h =
    length-append (map (moved n) (take n p)) ((n + 1) ∷ n ∷ map (moved n) (drop n p))
    ∙ (let a = front_length n p (omega (arith, h)) in let b = back_length n p h in omega (arith, a, b))

wide_low : (n : ℕ) (p : List ℕ) (i : ℕ) → length p ≡ n + n → i < n → slice_index (widened n p) i ≡ moved n (slice_index p i)
wide_low n p i h b =
    let a = front_length n p (omega (arith, h)) in
    get_or_append_left (map (moved n) (take n p)) ((n + 1) ∷ n ∷ map (moved n) (drop n p)) 0 i (omega (arith, a, b))
    ∙ get_or-map (moved n) (take n p) i 0 0 (let c = length-take-le n p (omega (arith, h)) in omega (arith, c, b))
    ∙ ap (moved n) (get_or-take n p i 0 b)

wide_past : (n : ℕ) (p : List ℕ) (i : ℕ) → length p ≡ n + n → slice_index (widened n p) (n + i) ≡ slice_index ((n + 1) ∷ n ∷ map (moved n) (drop n p)) i
wide_past n p i h =
    let a = front_length n p (omega (arith, h)) in
    ap (λ k. slice_index (widened n p) (k + i)) (sym a) ∙ get_or-append-add (map (moved n) (take n p)) ((n + 1) ∷ n ∷ map (moved n) (drop n p)) i 0

wide_high : (n : ℕ) (p : List ℕ) (i : ℕ) → length p ≡ n + n → i < n → slice_index (widened n p) (n + (i + 2)) ≡ moved n (slice_index p (n + i))
wide_high n p i h b =
    let s : i + 2 ≡ suc (suc i) = omega arith in
    wide_past n p (i + 2) h ∙ ap (slice_index ((n + 1) ∷ n ∷ map (moved n) (drop n p))) s
    ∙ get_or-map (moved n) (drop n p) i 0 0 (let c = length-drop n p in omega (arith, c, h, b))
    ∙ ap (moved n) (get_or-drop n p i 0)

pub moved_below : (n i : ℕ) → i < n + n → moved n i < n + 1 + (n + 1)
moved_below n i b = grind (arith, nat_tests)

moved_one : (n i j : ℕ) → moved n i ≡ moved n j → i ≡ j
moved_one n i j e = grind (arith, nat_tests, e)

-- the point that moves to j
abbrev pub unmoved : ℕ → ℕ → ℕ
unmoved n j = if nat_lt j n then j else j - 2

pub unmoved_moved : (n i : ℕ) → unmoved n (moved n i) ≡ i
unmoved_moved n i = grind (arith, nat_tests)

moved_unmoved : (n j : ℕ) → (j == n) ≡ false → (j == n + 1) ≡ false → moved n (unmoved n j) ≡ j
moved_unmoved n j a b = grind (arith, nat_tests, a, b)

unmoved_below : (n j : ℕ) → j < n + 1 + (n + 1) → (j == n) ≡ false → (j == n + 1) ≡ false → unmoved n j < n + n
unmoved_below n j h a b = grind (arith, nat_tests, a, b)

pub wide_old : (n : ℕ) (p : List ℕ) → length p ≡ n + n → (i : ℕ) → i < n + n → slice_index (widened n p) (moved n i) ≡ moved n (slice_index p i)
wide_old n p h i b =
    ⊎_elim
    (λ l. let s : moved n i ≡ i = grind (arith, nat_tests, l) in ap (slice_index (widened n p)) s ∙ wide_low n p i h (grind (arith, nat_tests, l)))
    (λ l. let s : moved n i ≡ n + (i - n + 2) = grind (arith, nat_tests, l) in
    let z : n + (i - n) ≡ i = grind (arith, nat_tests, l) in
    ap (slice_index (widened n p)) s ∙ wide_high n p (i - n) h (omega (arith, b, z)) ∙ ap (λ k. moved n (slice_index p k)) z)
    (cases_Bool (nat_lt i n))

pub wide_new : (n : ℕ) (p : List ℕ) → length p ≡ n + n → slice_index (widened n p) n ≡ n + 1
wide_new n p h = (let z : n ≡ n + 0 = omega arith in ap (slice_index (widened n p)) z) ∙ wide_past n p 0 h

pub wide_next : (n : ℕ) (p : List ℕ) → length p ≡ n + n → slice_index (widened n p) (n + 1) ≡ n
wide_next n p h = wide_past n p 1 h

-- a fact on each point: the two new ones and the old ones
pub by_points : (n : ℕ) (P : ℕ → Type 0) → P n → P (n + 1) → ((i : ℕ) → i < n + n → P (moved n i)) → (j : ℕ) → j < n + 1 + (n + 1) → P j
by_points n P a b h j c =
    ⊎_elim
    (λ e. let s : n ≡ j = sym (eqb-true j n e) in rw s at a)
    (λ d. ⊎_elim
    (λ e. let s : n + 1 ≡ j = sym (eqb-true j (n + 1) e) in rw s at b)
    (λ f. let t = h (unmoved n j) (unmoved_below n j c d f) in let s = moved_unmoved n j d f in rw s at t)
    (cases_Bool (j == n + 1)))
    (cases_Bool (j == n))

pub IsPairingOf-widened : (n : ℕ) (p : List ℕ) → IsPairingOf (n + n) p → IsPairingOf (n + 1 + (n + 1)) (widened n p)
IsPairingOf-widened n p hp = record {
  length_is = wide_length n p hp.length_is;
  stays = by_points n (λ j. slice_index (widened n p) j < n + 1 + (n + 1)) (let e = wide_new n p hp.length_is in omega (arith, e)) (let e = wide_next n p hp.length_is in omega (arith, e))
      (λ i b. let e = wide_old n p hp.length_is i b in let f = moved_below n (slice_index p i) (hp.stays i b) in omega (arith, e, f));
  turns = by_points n (λ j. slice_index (widened n p) (slice_index (widened n p) j) ≡ j) (ap (slice_index (widened n p)) (wide_new n p hp.length_is) ∙ wide_next n p hp.length_is) (ap (slice_index (widened n p)) (wide_next n p hp.length_is) ∙ wide_new n p hp.length_is)
      (λ i b. ap (slice_index (widened n p)) (wide_old n p hp.length_is i b) ∙ wide_old n p hp.length_is (slice_index p i) (hp.stays i b) ∙ ap (moved n) (hp.turns i b));
  moves = by_points n (λ j. slice_index (widened n p) j ≢ j) (λ e. let f = wide_new n p hp.length_is in omega (arith, e, f)) (λ e. let f = wide_next n p hp.length_is in omega (arith, e, f))
      (λ i b e. hp.moves i b (moved_one n (slice_index p i) i (sym (wide_old n p hp.length_is i b) ∙ e)));
}

-- the name in the wider stack
abbrev pub wider : ℕ → ℕ → ℕ
wider n x = if nat_lt x (n + n) then moved n x else n + 1 + (n + 1) + moved n (x - (n + n))

wider_high : (n i : ℕ) → wider n (n + n + i) ≡ n + 1 + (n + 1) + moved n i
wider_high n i = let z : n + n + i - (n + n) ≡ i = omega arith in let t : nat_lt (n + n + i) (n + n) ≡ false = grind (arith, nat_tests) in rw (t, z)

wider_low : (n x : ℕ) → x < n + n → wider n x ≡ moved n x
wider_low n x b = grind (arith, nat_tests)

wider_outer : (n i : ℕ) → i < n + n → wider n (outer n i) ≡ outer (n + 1) (moved n i)
wider_outer n i b = grind (arith, nat_tests)

outer_new : (n : ℕ) → outer (n + 1) n ≡ n
outer_new n = grind (arith, nat_tests)

outer_next : (n : ℕ) → outer (n + 1) (n + 1) ≡ n + 1 + (n + 1) + (n + 1)
outer_next n = grind (arith, nat_tests)

less_one : (a b c d : ℕ) → a ≡ 1 + c → b ≡ 1 + d → a - b ≡ c - d
less_one a b c d e f = omega (arith, e, f)

pub less_than : (n i : ℕ) → (i == n) ≡ false → i < n + 1 → i < n
less_than n i d b = grind (arith, nat_tests, d, b)

-- ---- the other way: a label of the wider names that the wider stack keeps
abbrev is_new : ℕ → ℕ → Bool
is_new n y = y == n || (y == n + 1 || (y == n + 1 + (n + 1) + n || y == n + 1 + (n + 1) + (n + 1)))

abbrev narrower : ℕ → ℕ → ℕ
narrower n y = if nat_lt y (n + 1 + (n + 1)) then unmoved n y else n + n + unmoved n (y - (n + 1 + (n + 1)))

abbrev mark : (ℕ → ℕ) → ℕ → ℕ → ℕ
mark l n y = if is_new n y then 0 else suc (l (narrower n y))

old_low : (n i : ℕ) → i < n + n → is_new n (moved n i) ≡ false
old_low n i b = grind (arith, nat_tests)

old_high : (n i : ℕ) → i < n + n → is_new n (n + 1 + (n + 1) + moved n i) ≡ false
old_high n i b = grind (arith, nat_tests)

narrower_low : (n i : ℕ) → i < n + n → narrower n (moved n i) ≡ i
narrower_low n i b = grind (arith, nat_tests)

narrower_plain : (n k i : ℕ) → unmoved n k ≡ i → narrower n (n + 1 + (n + 1) + k) ≡ n + n + i
narrower_plain n k i e = let z : n + 1 + (n + 1) + k - (n + 1 + (n + 1)) ≡ k = omega arith in let t : nat_lt (n + 1 + (n + 1) + k) (n + 1 + (n + 1)) ≡ false = grind (arith, nat_tests) in rw (t, z) (ap (λ j. n + n + j) e)

mark_low : (l : ℕ → ℕ) (n i : ℕ) → i < n + n → mark l n (moved n i) ≡ suc (l i)
mark_low l n i b = ap₂ (λ c x. cond c 0 (suc (l x))) (old_low n i b) (narrower_low n i b)

mark_high : (l : ℕ → ℕ) (n i : ℕ) → i < n + n → mark l n (n + 1 + (n + 1) + moved n i) ≡ suc (l (n + n + i))
mark_high l n i b = ap₂ (λ c x. cond c 0 (suc (l x))) (old_high n i b) (narrower_plain n (moved n i) i (unmoved_moved n i))

new_1 : (n : ℕ) → is_new n n ≡ true
new_1 n = grind (arith, nat_tests)

new_2 : (n : ℕ) → is_new n (n + 1) ≡ true
new_2 n = grind (arith, nat_tests)

new_3 : (n : ℕ) → is_new n (n + 1 + (n + 1) + n) ≡ true
new_3 n = grind (arith, nat_tests)

new_4 : (n : ℕ) → is_new n (n + 1 + (n + 1) + (n + 1)) ≡ true
new_4 n = grind (arith, nat_tests)

mark_new : (l : ℕ → ℕ) (n y : ℕ) → is_new n y ≡ true → mark l n y ≡ 0
mark_new l n y h = ap (λ c. cond c 0 (suc (l (narrower n y)))) h

wider_mark : (l : ℕ → ℕ) (n x : ℕ) → x < n + n + (n + n) → mark l n (wider n x) ≡ suc (l x)
wider_mark l n x b =
    ⊎_elim
    (λ c. let lt : x < n + n = grind (arith, nat_tests, c) in ap (mark l n) (wider_low n x lt) ∙ mark_low l n x lt)
    (λ c. let ge : n + n ≤ x = grind (arith, nat_tests, c) in let z : n + n + (x - (n + n)) ≡ x = omega arith in
    ap (mark l n) (ap (wider n) (sym z) ∙ wider_high n (x - (n + n))) ∙ mark_high l n (x - (n + n)) (omega arith) ∙ ap (λ k. suc (l k)) z)
    (cases_Bool (nat_lt x (n + n)))

pub moved_close : (n i : ℕ) → i < n → moved n (n + n - 1 - i) ≡ n + 1 + (n + 1) - 1 - i
moved_close n i b = grind (arith, nat_tests)

pub moved_low : (n i : ℕ) → i < n → moved n i ≡ i
moved_low n i b = grind (arith, nat_tests)

-- the same labels, the same count
pub label_count-like : (l : ℕ → ℕ) (xs ys : List ℕ) → ((x : ℕ) → is_member ◌==◌ xs x ≡ true → (y : ℕ) × ((is_member ◌==◌ ys y ≡ true) × (l x ≡ l y))) → ((y : ℕ) → is_member ◌==◌ ys y ≡ true → (x : ℕ) × ((is_member ◌==◌ xs x ≡ true) × (l y ≡ l x))) → label_count l xs ≡ label_count l ys
label_count-like l xs ys h k =
    let le = distinct_count-le_from_within (map l xs) (map l ys) (All-map (λ z. is_member ◌==◌ (map l ys) z ≡ true) l xs (to_All (λ x. is_member ◌==◌ (map l ys) (l x)) xs (λ x m. let t = h x m in ap (is_member ◌==◌ (map l ys)) t.1.1 ∙ is_member-map l ys t.0 t.1.0))) in
    let ge = distinct_count-le_from_within (map l ys) (map l xs) (All-map (λ z. is_member ◌==◌ (map l xs) z ≡ true) l ys (to_All (λ y. is_member ◌==◌ (map l xs) (l y)) ys (λ y m. let t = k y m in ap (is_member ◌==◌ (map l xs)) t.1.1 ∙ is_member-map l xs t.0 t.1.0))) in
    omega (arith, le, ge)

pub zero_suc : (k : ℕ) → 0 ≡ suc k → ⊥
zero_suc k e = omega (arith, e)

pub suc_suc : (a b : ℕ) → suc a ≡ suc b → a ≡ b
suc_suc a b e = omega (arith, e)

wider_below : (n x : ℕ) → x < n + n + (n + n) → wider n x < n + 1 + (n + 1) + (n + 1 + (n + 1))
wider_below n x b = grind (arith, nat_tests)

module _ (n : ℕ) (p q : List ℕ) (hp : IsPairingOf (n + n) p) (hq : IsPairingOf (n + n) q) where
  abbrev P : List ℕ
  P = widened n p

  abbrev Q : List ℕ
  Q = widened n q

  hP : IsPairingOf (n + 1 + (n + 1)) P
  hP = IsPairingOf-widened n p hp

  hQ : IsPairingOf (n + 1 + (n + 1)) Q
  hQ = IsPairingOf-widened n q hq

  abbrev K : ℕ → ℕ
  K = label_of (label_stack (n + 1) P Q)

  -- the edges of the stack join names in the wider one
  edges_kept : All (λ e. K (wider n e.0) ≡ K (wider n e.1)) (label_stack n p q)
  edges_kept =
      All-append (λ e. K (wider n e.0) ≡ K (wider n e.1)) (pairs 0 q) (pairs (n + n) p ++ seams n)
      (All-pairs (λ e. K (wider n e.0) ≡ K (wider n e.1)) 0 q (λ i h.
      let b : i < n + n = let s = hq.length_is in omega (arith, s) in
      let y : 0 + i ≡ i = omega arith in let z : 0 + slice_index q i ≡ slice_index q i = omega arith in
      ap (λ k. K (wider n k)) y ∙ ap K (wider_low n i b) ∙ low_edge (n + 1) P Q hP hQ (moved n i) (moved_below n i b) ∙ ap K (wide_old n q hq.length_is i b ∙ sym (wider_low n (slice_index q i) (hq.stays i b))) ∙ sym (ap (λ k. K (wider n k)) z)))
      (All-append (λ e. K (wider n e.0) ≡ K (wider n e.1)) (pairs (n + n) p) (seams n)
      (All-pairs (λ e. K (wider n e.0) ≡ K (wider n e.1)) (n + n) p (λ i h.
      let b : i < n + n = let s = hp.length_is in omega (arith, s) in
      ap K (wider_high n i) ∙ high_edge (n + 1) P Q hP hQ (moved n i) (moved_below n i b) ∙ ap (λ k. K (n + 1 + (n + 1) + k)) (wide_old n p hp.length_is i b) ∙ sym (ap K (wider_high n (slice_index p i)))))
      (All-map (λ e. K (wider n e.0) ≡ K (wider n e.1)) (λ i. (n + n + i, n + n - 1 - i)) (range_with_len 0 n) (All-range (λ i. K (wider n (n + n + i)) ≡ K (wider n (n + n - 1 - i))) 0 n (λ i x y.
      let s : moved n i ≡ i = grind (arith, nat_tests) in
      let t : wider n (n + n - 1 - i) ≡ n + 1 + (n + 1) - 1 - i = grind (arith, nat_tests) in
      ap K (wider_high n i ∙ ap (λ k. n + 1 + (n + 1) + k) s) ∙ seam_edge (n + 1) P Q hP hQ i (omega arith) ∙ sym (ap K t)))))

  joined_kept : (x y : ℕ) → label_of (label_stack n p q) x ≡ label_of (label_stack n p q) y → K (wider n x) ≡ K (wider n y)
  joined_kept x y e = keeps_Joined (λ k. K (wider n k)) (label_stack n p q) edges_kept (Joined-from_labels (label_stack n p q) x y e)

  -- the new strand is joined through
  new_joined : K n ≡ K (outer (n + 1) (n + 1))
  new_joined =
      let s = outer_next n in
      let t : n + 1 + (n + 1) - 1 - n ≡ n + 1 = omega arith in
      low_edge (n + 1) P Q hP hQ n (omega arith) ∙ ap K (wide_new n q hq.length_is)
      ∙ sym (seam_edge (n + 1) P Q hP hQ n (omega arith) ∙ ap K t)
      ∙ high_edge (n + 1) P Q hP hQ n (omega arith) ∙ ap (λ k. K (n + 1 + (n + 1) + k)) (wide_new n p hp.length_is) ∙ sym (ap K s)

  -- THE PRODUCT OF THE WIDER PAIRINGS
  pub product_widened : label_product (n + 1) P Q ≡ widened n (label_product n p q)
  product_widened =
      let own = IsPairingOf-product n p q hp hq in
      let tells = Matches-product n p q hp hq in
      let first = outer_new n in
      product_is (n + 1) P Q hP hQ (widened n (label_product n p q)) (IsPairingOf-widened n (label_product n p q) own)
      (by_points n (λ j. K (outer (n + 1) j) ≡ K (outer (n + 1) (slice_index (widened n (label_product n p q)) j)))
      (ap K first ∙ new_joined ∙ sym (ap (λ k. K (outer (n + 1) k)) (wide_new n (label_product n p q) own.length_is)))
      (sym new_joined ∙ ap K (sym first) ∙ sym (ap (λ k. K (outer (n + 1) k)) (wide_next n (label_product n p q) own.length_is)))
      (λ i b.
      let c : slice_index (label_product n p q) i < n + n = own.stays i b in
      let same : label_of (label_stack n p q) (outer n i) ≡ label_of (label_stack n p q) (outer n (slice_index (label_product n p q) i)) =
      eqb-true _ _ (tells.tells i (slice_index (label_product n p q) i) (is_below (n + n) i b) (is_below (n + n) _ c) ∙ or_right (i == slice_index (label_product n p q) i) _ (eq-eqb _ _ refl)) in
      ap K (sym (wider_outer n i b)) ∙ joined_kept (outer n i) (outer n (slice_index (label_product n p q) i)) same ∙ ap K (wider_outer n (slice_index (label_product n p q) i) c)
      ∙ sym (ap (λ k. K (outer (n + 1) k)) (wide_old n (label_product n p q) own.length_is i b))))

  abbrev Ls : ℕ → ℕ
  Ls = label_of (label_stack n p q)

  marks_kept : All (λ e. mark Ls n e.0 ≡ mark Ls n e.1) (label_stack (n + 1) P Q)
  marks_kept =
      All-append (λ e. mark Ls n e.0 ≡ mark Ls n e.1) (pairs 0 Q) (pairs (n + 1 + (n + 1)) P ++ seams (n + 1))
      (All-pairs (λ e. mark Ls n e.0 ≡ mark Ls n e.1) 0 Q (λ j h.
      let y : 0 + j ≡ j = omega arith in let z : 0 + slice_index Q j ≡ slice_index Q j = omega arith in
      ap (mark Ls n) y
      ∙ by_points n (λ k. mark Ls n k ≡ mark Ls n (slice_index Q k))
      (mark_new Ls n n (new_1 n) ∙ sym (ap (mark Ls n) (wide_new n q hq.length_is) ∙ mark_new Ls n (n + 1) (new_2 n)))
      (mark_new Ls n (n + 1) (new_2 n) ∙ sym (ap (mark Ls n) (wide_next n q hq.length_is) ∙ mark_new Ls n n (new_1 n)))
      (λ i b. mark_low Ls n i b ∙ ap suc (low_edge n p q hp hq i b) ∙ sym (ap (mark Ls n) (wide_old n q hq.length_is i b) ∙ mark_low Ls n (slice_index q i) (hq.stays i b)))
      j (let s = hQ.length_is in omega (arith, s))
      ∙ sym (ap (mark Ls n) z)))
      (All-append (λ e. mark Ls n e.0 ≡ mark Ls n e.1) (pairs (n + 1 + (n + 1)) P) (seams (n + 1))
      (All-pairs (λ e. mark Ls n e.0 ≡ mark Ls n e.1) (n + 1 + (n + 1)) P (λ j h.
      by_points n (λ k. mark Ls n (n + 1 + (n + 1) + k) ≡ mark Ls n (n + 1 + (n + 1) + slice_index P k))
      (mark_new Ls n _ (new_3 n) ∙ sym (ap (λ k. mark Ls n (n + 1 + (n + 1) + k)) (wide_new n p hp.length_is) ∙ mark_new Ls n _ (new_4 n)))
      (mark_new Ls n _ (new_4 n) ∙ sym (ap (λ k. mark Ls n (n + 1 + (n + 1) + k)) (wide_next n p hp.length_is) ∙ mark_new Ls n _ (new_3 n)))
      (λ i b. mark_high Ls n i b ∙ ap suc (high_edge n p q hp hq i b) ∙ sym (ap (λ k. mark Ls n (n + 1 + (n + 1) + k)) (wide_old n p hp.length_is i b) ∙ mark_high Ls n (slice_index p i) (hp.stays i b)))
      j (let s = hP.length_is in omega (arith, s))))
      (All-map (λ e. mark Ls n e.0 ≡ mark Ls n e.1) (λ i. (n + 1 + (n + 1) + i, n + 1 + (n + 1) - 1 - i)) (range_with_len 0 (n + 1))
      (All-range (λ i. mark Ls n (n + 1 + (n + 1) + i) ≡ mark Ls n (n + 1 + (n + 1) - 1 - i)) 0 (n + 1) (λ i x y.
      ⊎_elim
      (λ e. let s : i ≡ n = eqb-true i n e in let t : n + 1 + (n + 1) - 1 - n ≡ n + 1 = omega arith in
      ap (λ k. mark Ls n (n + 1 + (n + 1) + k)) s ∙ mark_new Ls n _ (new_3 n) ∙ sym (ap (λ k. mark Ls n (n + 1 + (n + 1) - 1 - k)) s ∙ ap (mark Ls n) t ∙ mark_new Ls n (n + 1) (new_2 n)))
      (λ d. let b : i < n = less_than n i d (omega arith) in
      ap (λ k. mark Ls n (n + 1 + (n + 1) + k)) (sym (moved_low n i b)) ∙ mark_high Ls n i (omega arith) ∙ ap suc (seam_edge n p q hp hq i b) ∙ sym (ap (mark Ls n) (sym (moved_close n i b)) ∙ mark_low Ls n (n + n - 1 - i) (omega arith)))
      (cases_Bool (i == n))))))

  marks : (y z : ℕ) → K y ≡ K z → mark Ls n y ≡ mark Ls n z
  marks y z e = keeps_Joined (mark Ls n) (label_stack (n + 1) P Q) marks_kept (Joined-from_labels (label_stack (n + 1) P Q) y z e)

  told : (x y : ℕ) → x < n + n + (n + n) → y < n + n + (n + n) → (K (wider n x) == K (wider n y)) ≡ (Ls x == Ls y)
  told x y a b =
      eqb_from_iff (K (wider n x)) (K (wider n y)) (Ls x) (Ls y)
      (λ e. suc_suc (Ls x) (Ls y) (sym (wider_mark Ls n x a) ∙ marks (wider n x) (wider n y) e ∙ wider_mark Ls n y b))
      (joined_kept x y)

  wider_count : (xs : List ℕ) → ((x : ℕ) → is_member ◌==◌ xs x ≡ true → x < n + n + (n + n)) → label_count K (n ∷ map (wider n) xs) ≡ 1 + label_count Ls xs
  wider_count xs h =
      let out = member_label K n (map (wider n) xs) (λ z m e. let t = member_map (wider n) xs z m in
      zero_suc (Ls t.0) (sym (mark_new Ls n n (new_1 n)) ∙ marks n z e ∙ ap (mark Ls n) t.1.1 ∙ wider_mark Ls n t.0 (h t.0 t.1.0))) in
      let c = distinct_count-cons (K n) (map K (map (wider n) xs)) in
      let s = ap (distinct_count ◌==◌) (map_map K (wider n) xs)
      ∙ label_count-agree (λ x. nat_lt x (n + n + (n + n))) (λ x. K (wider n x)) Ls xs (λ u v a b. told u v (below_is (n + n + (n + n)) u a) (below_is (n + n + (n + n)) v b)) (to_All (λ x. nat_lt x (n + n + (n + n))) xs (λ x m. is_below (n + n + (n + n)) x (h x m))) in
      c ∙ ap₂ (λ a b. cond a 0 1 + b) out s

  abbrev all : List ℕ
  all = range_with_len 0 (n + n + (n + n))

  abbrev all_wide : List ℕ
  all_wide = range_with_len 0 (n + 1 + (n + 1) + (n + 1 + (n + 1)))

  here : (xs : List ℕ) → is_member ◌==◌ (n ∷ xs) n ≡ true
  here xs = or_left (n == n) (is_member ◌==◌ xs n) (eq-eqb n n refl)

  later : (xs : List ℕ) (y : ℕ) → is_member ◌==◌ xs y ≡ true → is_member ◌==◌ (n ∷ xs) y ≡ true
  later xs y m = or_right (y == n) (is_member ◌==◌ xs y) m

  in_wide : (x : ℕ) → x < n + n + (n + n) → is_member ◌==◌ (n ∷ map (wider n) all) (wider n x) ≡ true
  in_wide x b = later (map (wider n) all) (wider n x) (is_member-map (wider n) all x (is_member-range 0 (n + n + (n + n)) x (omega arith) (omega arith)))

  -- each wide name has the label of n or of a wider name
  low_like : (j : ℕ) → j < n + 1 + (n + 1) → (y : ℕ) × ((is_member ◌==◌ (n ∷ map (wider n) all) y ≡ true) × (K j ≡ K y))
  low_like =
      by_points n (λ j. (y : ℕ) × ((is_member ◌==◌ (n ∷ map (wider n) all) y ≡ true) × (K j ≡ K y)))
      (n, (here (map (wider n) all), refl))
      (n, (here (map (wider n) all), sym (low_edge (n + 1) P Q hP hQ n (omega arith) ∙ ap K (wide_new n q hq.length_is))))
      (λ i b. (wider n i, (in_wide i (omega arith), sym (ap K (wider_low n i b)))))

  high_like : (j : ℕ) → j < n + 1 + (n + 1) → (y : ℕ) × ((is_member ◌==◌ (n ∷ map (wider n) all) y ≡ true) × (K (n + 1 + (n + 1) + j) ≡ K y))
  high_like =
      by_points n (λ j. (y : ℕ) × ((is_member ◌==◌ (n ∷ map (wider n) all) y ≡ true) × (K (n + 1 + (n + 1) + j) ≡ K y)))
      (n, (here (map (wider n) all), high_edge (n + 1) P Q hP hQ n (omega arith) ∙ ap (λ k. K (n + 1 + (n + 1) + k)) (wide_new n p hp.length_is) ∙ ap K (sym (outer_next n)) ∙ sym new_joined))
      (n, (here (map (wider n) all), ap K (sym (outer_next n)) ∙ sym new_joined))
      (λ i b. (wider n (n + n + i), (in_wide (n + n + i) (omega arith), sym (ap K (wider_high n i)))))

  all_count : label_count K all_wide ≡ label_count K (n ∷ map (wider n) all)
  all_count =
      label_count-like K all_wide (n ∷ map (wider n) all)
      (λ x m. let b = below_range 0 (n + 1 + (n + 1) + (n + 1 + (n + 1))) x m in
      ⊎_elim
      (λ c. low_like x (below_is (n + 1 + (n + 1)) x c))
      (λ c. let ge = not_below (n + 1 + (n + 1)) x c in let z : n + 1 + (n + 1) + (x - (n + 1 + (n + 1))) ≡ x = omega (arith, ge) in
      let t = high_like (x - (n + 1 + (n + 1))) (omega (arith, b, ge)) in (t.0, (t.1.0, ap K (sym z) ∙ t.1.1)))
      (cases_Bool (nat_lt x (n + 1 + (n + 1)))))
      (λ y m. ⊎_elim
      (λ e. (n, (is_member-range 0 (n + 1 + (n + 1) + (n + 1 + (n + 1))) n (omega arith) (omega arith), ap K (eqb-true y n e))))
      (λ o. let t = out_map (wider n) (n + n + (n + n)) y o in let w = wider_below n t.0 t.1.0 in (y, (is_member-range 0 (n + 1 + (n + 1) + (n + 1 + (n + 1))) y (omega arith) (let e = t.1.1 in omega (arith, w, e)), refl)))
      (or_cases (y == n) (is_member ◌==◌ (map (wider n) all) y) m))

  abbrev outers : List ℕ
  outers = map (outer n) (range_with_len 0 (n + n))

  outer_like : (j : ℕ) → j < n + 1 + (n + 1) → (y : ℕ) × ((is_member ◌==◌ (n ∷ map (wider n) outers) y ≡ true) × (K (outer (n + 1) j) ≡ K y))
  outer_like =
      by_points n (λ j. (y : ℕ) × ((is_member ◌==◌ (n ∷ map (wider n) outers) y ≡ true) × (K (outer (n + 1) j) ≡ K y)))
      (n, (here (map (wider n) outers), ap K (outer_new n)))
      (n, (here (map (wider n) outers), sym new_joined))
      (λ i b. (wider n (outer n i), (later (map (wider n) outers) (wider n (outer n i)) (is_member-map (wider n) outers (outer n i) (in_map (outer n) (n + n) i b)), sym (ap K (wider_outer n i b)))))

  outer_count : label_count K (map (outer (n + 1)) (range_with_len 0 (n + 1 + (n + 1)))) ≡ label_count K (n ∷ map (wider n) outers)
  outer_count =
      label_count-like K (map (outer (n + 1)) (range_with_len 0 (n + 1 + (n + 1)))) (n ∷ map (wider n) outers)
      (λ x m. let t = out_map (outer (n + 1)) (n + 1 + (n + 1)) x m in let l = outer_like t.0 t.1.0 in (l.0, (l.1.0, ap K t.1.1 ∙ l.1.1)))
      (λ y m. ⊎_elim
      (λ e. (outer (n + 1) n, (in_map (outer (n + 1)) (n + 1 + (n + 1)) n (omega arith), ap K (eqb-true y n e ∙ sym (outer_new n)))))
      (λ o. let t = member_map (wider n) outers y o in let s = out_map (outer n) (n + n) t.0 t.1.0 in
      (outer (n + 1) (moved n s.0), (in_map (outer (n + 1)) (n + 1 + (n + 1)) (moved n s.0) (moved_below n s.0 s.1.0), ap K (t.1.1 ∙ ap (wider n) s.1.1 ∙ wider_outer n s.0 s.1.0))))
      (or_cases (y == n) (is_member ◌==◌ (map (wider n) outers) y) m))

  -- AND ITS LOOPS
  pub loops_widened : label_loops (n + 1) P Q ≡ label_loops n p q
  loops_widened =
      let a = all_count ∙ wider_count all (λ x m. let b = below_range 0 (n + n + (n + n)) x m in omega (arith, b)) in
      let o = outer_count ∙ wider_count outers (λ x m. let t = out_map (outer n) (n + n) x m in let b = outer_below n t.0 t.1.0 in let e = t.1.1 in omega (arith, b, e)) in
      less_one (label_count K all_wide) (label_count K (map (outer (n + 1)) (range_with_len 0 (n + 1 + (n + 1))))) (label_count Ls all) (label_count Ls outers) a o
