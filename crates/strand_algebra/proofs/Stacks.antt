-- The product of two pairings is a pairing, and tells the outer points that lie in one part: the labels of both tell their
-- pairs, and each seam joins two of these.
use Rattle.std.proofs.Common.{◌≡◌, ℕ, zero, suc, ◌+◌, ◌-◌, ◌<◌, ◌≤◌, Bool, true, false, nat_lt, nat_le, ◌&&◌, ◌||◌, ◌==◌, if◌then◌else◌, List, [], ◌∷◌, ◌++◌, map, length, slice_index, sym, ap, ap₂, ◌∙◌, arith, All, Contains, append_assoc, ⊎_elim}
use Rattle.std.proofs.lemmas.List.Elements.{All-append, All-map, All-head, All-tail, Contains-append_left, Contains-append_right}
use Rattle.std.proofs.lemmas.Bool.{cases_Bool, eqb-true}
use Rattle.std.proofs.lemmas.Bool.Decides.{nat_tests}
use Rattle.std.proofs.lemmas.List.FromFn.{length-map-range_with_len, get_or-map-range_with_len}
use Rattle.std.specs.List.{range_with_len}
use Rattle.std.specs.Set.{is_member}
use Rattle.list_lemmas.proofs.Bools.{apart_from_test}
use Rattle.list_lemmas.proofs.Ranges.{All-range, is_member-range}
use Rattle.graph_parts.proofs.Agreement.{eqb_from_iff}
use Rattle.graph_parts.proofs.Counting.{label_after-append}
use Rattle.graph_parts.proofs.Walks.{Contains-later}
use Rattle.graph_parts.specs.Labels.{relabel, label_after, label_of}
use Rattle.strand_algebra.proofs.LabelProducts.{pairs, label_stack, outer, other, label_product, IsPairingOf}
use Rattle.strand_algebra.proofs.Matchings.{Matches, cut, without, Matches-cut, Matches-same, Matches-pairs, Matches-partner}
use Rattle.strand_algebra.specs.StrandPairings.{seams}

-- ---- lists of numbers in a row
pub Contains-range : (f : ℕ → ℕ × ℕ) (a k i : ℕ) → a ≤ i → i < a + k → Contains (map f (range_with_len a k)) (f i)
Contains-range f a zero i p q = absurd (omega arith)
Contains-range f a (suc k) i p q =
    ⊎_elim
    (λ e. let same : a ≡ i = sym (eqb-true i a e) in (0, omega arith, ap f same))
    (λ d. Contains-later (f a) (f i) (map f (range_with_len (a + 1) k)) (Contains-range f (a + 1) k i (grind (arith, nat_tests, d, p)) (omega arith)))
    (cases_Bool (i == a))

-- ---- the names of a stack that are open after a edges of the seam
abbrev pub is_open : ℕ → ℕ → ℕ → Bool
is_open n a x = nat_lt x (n + n - a) || (nat_le (n + n + a) x && nat_lt x (n + n + (n + n)))

pub one_more : (n a x : ℕ) → a < n → without (is_open n a) (n + n + a) (n + n - 1 - a) x ≡ is_open n (a + 1) x
one_more n a x h = grind (arith, nat_tests)

pub open_up : (n a : ℕ) → a < n → is_open n a (n + n + a) ≡ true
open_up n a h = grind (arith, nat_tests)

pub open_down : (n a : ℕ) → a < n → is_open n a (n + n - 1 - a) ≡ true
open_down n a h = grind (arith, nat_tests)

pub open_apart : (n a : ℕ) → a < n → (n + n + a == n + n - 1 - a) ≡ false
open_apart n a h = grind (arith, nat_tests)

pub Matches-seam : (n k a : ℕ) (l m : ℕ → ℕ) → a + k ≡ n → Matches (is_open n a) l m →
    (w : ℕ → ℕ) × Matches (is_open n n) (label_after l (map (λ i. (n + n + i, n + n - 1 - i)) (range_with_len a k))) w
Matches-seam n zero a l m e h = (m, Matches-same (is_open n a) (is_open n n) l m (λ x. let f : a ≡ n = omega arith in ap (λ t. is_open n t x) f) h)
Matches-seam n (suc k) a l m e h =
    let lt : a < n = omega arith in
    Matches-seam n k (a + 1) (relabel l (n + n + a, n + n - 1 - a)) (cut m (n + n + a) (n + n - 1 - a)) (omega arith)
    (Matches-same (without (is_open n a) (n + n + a) (n + n - 1 - a)) (is_open n (a + 1)) _ _ (λ x. one_more n a x lt)
    (Matches-cut (is_open n a) l m (n + n + a) (n + n - 1 - a) (open_up n a lt) (open_down n a lt) (open_apart n a lt) h))

-- ---- the partners in two pairings, q's names first
abbrev pub partner_in : ℕ → List ℕ → List ℕ → ℕ → ℕ
partner_in n p q x = if nat_lt x (n + n) then slice_index q x else n + n + slice_index p (x - (n + n))

pub All-pairs : (P : ℕ × ℕ → Type 0) (first : ℕ) (p : List ℕ) → ((i : ℕ) → i < length p → P (first + i, first + slice_index p i)) → All P (pairs first p)
All-pairs P first p h = All-map P (λ i. (first + i, first + slice_index p i)) (range_with_len 0 (length p)) (All-range (λ i. P (first + i, first + slice_index p i)) 0 (length p) (λ i a b. h i (omega arith)))

pub Contains-pairs : (first : ℕ) (p : List ℕ) (x y : ℕ) → first ≤ x → x < first + length p → y ≡ first + slice_index p (x - first) → Contains (pairs first p) (x, y)
Contains-pairs first p x y a b e =
    let c = Contains-range (λ i. (first + i, first + slice_index p i)) 0 (length p) (x - first) (omega arith) (omega arith) in
    let s : first + (x - first) ≡ x = omega arith in
    rw (← e, s) at c

module _ (n : ℕ) (p q : List ℕ) (hp : IsPairingOf (n + n) p) (hq : IsPairingOf (n + n) q) where
  from_open : (x : ℕ) → is_open n 0 x ≡ true → x < n + n + (n + n)
  from_open x h = grind (arith, nat_tests, h)

  to_open : (x : ℕ) → x < n + n + (n + n) → is_open n 0 x ≡ true
  to_open x h = grind (arith, nat_tests, h)

  partner_stays : (x : ℕ) → x < n + n + (n + n) → partner_in n p q x < n + n + (n + n)
  partner_stays x h = let a = hq.stays x in let b = hp.stays (x - (n + n)) in grind (arith, nat_tests, a, b)

  partner_low : (x : ℕ) → x < n + n → partner_in n p q x ≡ slice_index q x
  partner_low x h = grind (arith, nat_tests)

  partner_high : (x : ℕ) → n + n ≤ x → partner_in n p q x ≡ n + n + slice_index p (x - (n + n))
  partner_high x h = grind (arith, nat_tests)

  partner_turns : (x : ℕ) → x < n + n + (n + n) → partner_in n p q (partner_in n p q x) ≡ x
  partner_turns x h =
      ⊎_elim
      (λ low. let lt : x < n + n = grind (arith, nat_tests, low) in
      ap (partner_in n p q) (partner_low x lt) ∙ partner_low (slice_index q x) (hq.stays x lt) ∙ hq.turns x lt)
      (λ high. let ge : n + n ≤ x = grind (arith, nat_tests, high) in
      let lt : x - (n + n) < n + n = omega arith in
      let back : n + n + slice_index p (x - (n + n)) - (n + n) ≡ slice_index p (x - (n + n)) = omega arith in
      ap (partner_in n p q) (partner_high x ge) ∙ partner_high (n + n + slice_index p (x - (n + n))) (omega arith)
      ∙ ap (λ k. n + n + slice_index p k) back ∙ (let t = hp.turns (x - (n + n)) lt in omega (arith, t)))
      (cases_Bool (nat_lt x (n + n)))

  partner_moves : (x : ℕ) → x < n + n + (n + n) → (partner_in n p q x == x) ≡ false
  partner_moves x h = let a = hq.moves x in let b = hp.moves (x - (n + n)) in grind (arith, nat_tests, a, b)

  only_partners : All (λ e. (is_open n 0 e.0 ≡ true) × (e.1 ≡ partner_in n p q e.0)) (pairs 0 q ++ pairs (n + n) p)
  only_partners =
      All-append (λ e. (is_open n 0 e.0 ≡ true) × (e.1 ≡ partner_in n p q e.0)) (pairs 0 q) (pairs (n + n) p)
      (All-pairs (λ e. (is_open n 0 e.0 ≡ true) × (e.1 ≡ partner_in n p q e.0)) 0 q (λ i h.
      let lt : i < n + n = let s = hq.length_is in omega (arith, s) in
      let z : 0 + i ≡ i = omega arith in
      (to_open (0 + i) (omega arith), (let y : 0 + slice_index q i ≡ slice_index q i = omega arith in y ∙ sym (partner_low i lt) ∙ ap (partner_in n p q) (sym z)))))
      (All-pairs (λ e. (is_open n 0 e.0 ≡ true) × (e.1 ≡ partner_in n p q e.0)) (n + n) p (λ i h.
      let lt : i < n + n = let s = hp.length_is in omega (arith, s) in
      let z : n + n + i - (n + n) ≡ i = omega arith in
      (to_open (n + n + i) (omega arith), ap (λ k. n + n + slice_index p k) (sym z) ∙ sym (partner_high (n + n + i) (omega arith)))))

  from_none : (r : List ℕ) (x : ℕ) → slice_index r x ≡ 0 + slice_index r (x - 0)
  from_none r x = (let z : x ≡ x - 0 = omega arith in ap (slice_index r) z) ∙ omega arith

  has_partners : (x : ℕ) → is_open n 0 x ≡ true → Contains (pairs 0 q ++ pairs (n + n) p) (x, partner_in n p q x)
  has_partners x o =
      let b = from_open x o in
      ⊎_elim
      (λ low. let lt : x < n + n = grind (arith, nat_tests, low) in
      Contains-append_left (pairs 0 q) (pairs (n + n) p) (x, partner_in n p q x)
      (Contains-pairs 0 q x (partner_in n p q x) (omega arith) (let s = hq.length_is in omega (arith, s)) (partner_low x lt ∙ from_none q x)))
      (λ high. let ge : n + n ≤ x = grind (arith, nat_tests, high) in
      Contains-append_right (pairs 0 q) (pairs (n + n) p) (x, partner_in n p q x)
      (Contains-pairs (n + n) p x (partner_in n p q x) ge (let s = hp.length_is in omega (arith, s)) (partner_high x ge)))
      (cases_Bool (nat_lt x (n + n)))

  pub Matches-two : Matches (is_open n 0) (label_of (pairs 0 q ++ pairs (n + n) p)) (partner_in n p q)
  Matches-two =
      Matches-pairs (is_open n 0) (partner_in n p q) (pairs 0 q ++ pairs (n + n) p)
      (λ u i. to_open (partner_in n p q u) (partner_stays u (from_open u i))) (λ u i. partner_turns u (from_open u i)) (λ u i. partner_moves u (from_open u i)) only_partners has_partners

  pub stack_label : label_of (label_stack n p q) ≡ label_after (label_of (pairs 0 q ++ pairs (n + n) p)) (seams n)
  stack_label = ap label_of (sym (append_assoc (pairs 0 q) (pairs (n + n) p) (seams n))) ∙ label_after-append (λ x. x) (pairs 0 q ++ pairs (n + n) p) (seams n)

  pub Matches-stack : (w : ℕ → ℕ) × Matches (is_open n n) (label_of (label_stack n p q)) w
  Matches-stack = let s = Matches-seam n n 0 (label_of (pairs 0 q ++ pairs (n + n) p)) (partner_in n p q) (omega arith) Matches-two in rw stack_label s

-- ---- the outer points by their numbers
abbrev pub inner : ℕ → ℕ → ℕ
inner n x = if nat_lt x n then x else x - (n + n)

pub outer_below : (n i : ℕ) → i < n + n → outer n i < n + n + (n + n)
outer_below n i b = grind (arith, nat_tests)

pub outer_open : (n i : ℕ) → nat_lt i (n + n) ≡ true → is_open n n (outer n i) ≡ true
outer_open n i h = grind (arith, nat_tests, h)

inner_below : (n x : ℕ) → is_open n n x ≡ true → nat_lt (inner n x) (n + n) ≡ true
inner_below n x h = grind (arith, nat_tests, h)

pub outer_inner : (n x : ℕ) → is_open n n x ≡ true → outer n (inner n x) ≡ x
outer_inner n x h = grind (arith, nat_tests, h)

pub inner_outer : (n i : ℕ) → inner n (outer n i) ≡ i
inner_outer n i = grind (arith, nat_tests)

pub Matches-outer : (n : ℕ) (l m : ℕ → ℕ) → Matches (is_open n n) l m → Matches (λ i. nat_lt i (n + n)) (λ i. l (outer n i)) (λ i. inner n (m (outer n i)))
Matches-outer n l m h = record {
  stays = λ i b. inner_below n (m (outer n i)) (h.stays (outer n i) (outer_open n i b));
  turns = λ i b.
      ap (λ k. inner n (m k)) (outer_inner n (m (outer n i)) (h.stays (outer n i) (outer_open n i b))) ∙ ap (inner n) (h.turns (outer n i) (outer_open n i b)) ∙ inner_outer n i;
  moves = λ i b.
      eqb_from_iff (inner n (m (outer n i))) i (m (outer n i)) (outer n i)
      (λ e. sym (outer_inner n (m (outer n i)) (h.stays (outer n i) (outer_open n i b))) ∙ ap (outer n) e)
      (λ e. ap (inner n) e ∙ inner_outer n i)
      ∙ h.moves (outer n i) (outer_open n i b);
  tells = λ i j b c.
      h.tells (outer n i) (outer n j) (outer_open n i b) (outer_open n j c)
      ∙ ap₂ (λ s t. s || t)
      (eqb_from_iff (outer n i) (outer n j) i j (λ e. sym (inner_outer n i) ∙ ap (inner n) e ∙ inner_outer n j) (ap (outer n)))
      (eqb_from_iff (m (outer n i)) (outer n j) (inner n (m (outer n i))) j (λ e. ap (inner n) e ∙ inner_outer n j)
      (λ e. sym (outer_inner n (m (outer n i)) (h.stays (outer n i) (outer_open n i b))) ∙ ap (outer n) e));
}

-- ---- the first other one with the same label is the partner
other_plain : (l : ℕ → ℕ) (y x w : ℕ) (ys : List ℕ) → (l x == l y) ≡ (x == y || w == y) → (w == x) ≡ false → ((w == y) ≡ false → other l ys x ≡ w) → other l (y ∷ ys) x ≡ w
other_plain l y x w ys t d ih = grind (arith, nat_tests)

pub other_is : (inside : ℕ → Bool) (l m : ℕ → ℕ) (points : List ℕ) (x : ℕ) → Matches inside l m → All (λ y. inside y ≡ true) points → inside x ≡ true → is_member ◌==◌ points (m x) ≡ true → other l points x ≡ m x
other_is inside l m [] x h a p i = absurd (grind (arith, i))
other_is inside l m (y ∷ ys) x h a p i =
    other_plain l y x (m x) ys (h.tells x y p (All-head (λ z. inside z ≡ true) y ys a)) (h.moves x p)
    (λ d. other_is inside l m ys x h (All-tail (λ z. inside z ≡ true) y ys a) p (let e = i in grind (arith, d, e)))

pub not_below : (k x : ℕ) → nat_lt x k ≡ false → k ≤ x
not_below k x h = grind (arith, nat_tests, h)

pub below_is : (k i : ℕ) → nat_lt i k ≡ true → i < k
below_is k i h = grind (arith, nat_tests, h)

pub is_below : (k i : ℕ) → i < k → nat_lt i k ≡ true
is_below k i h = grind (arith, nat_tests, h)

module _ (n : ℕ) (p q : List ℕ) (hp : IsPairingOf (n + n) p) (hq : IsPairingOf (n + n) q) where
  -- THE PRODUCT TELLS THE OUTER POINTS OF ONE PART
  pub Matches-product : Matches (λ i. nat_lt i (n + n)) (λ i. label_of (label_stack n p q) (outer n i)) (slice_index (label_product n p q))
  Matches-product =
      let s = Matches-stack n p q hp hq in
      let label = label_of (label_stack n p q) in
      let h = Matches-outer n label s.0 s.1 in
      Matches-partner (λ i. nat_lt i (n + n)) (λ i. label (outer n i)) (λ i. inner n (s.0 (outer n i))) (slice_index (label_product n p q))
      (λ i b.
      sym (other_is (λ j. nat_lt j (n + n)) (λ j. label (outer n j)) (λ j. inner n (s.0 (outer n j))) (range_with_len 0 (n + n)) i h
      (All-range (λ j. nat_lt j (n + n) ≡ true) 0 (n + n) (λ j x y. is_below (n + n) j (omega arith))) b
      (is_member-range 0 (n + n) (inner n (s.0 (outer n i))) (omega arith) (let c = below_is (n + n) _ (h.stays i b) in omega (arith, c))))
      ∙ sym (get_or-map-range_with_len (other (λ j. label (outer n j)) (range_with_len 0 (n + n))) 0 (n + n) i i 0 (below_is (n + n) i b) (omega arith)))
      h

  pub IsPairingOf-product : IsPairingOf (n + n) (label_product n p q)
  IsPairingOf-product =
      let h = Matches-product in
      record {
        length_is = length-map-range_with_len (other (λ i. label_of (label_stack n p q) (outer n i)) (range_with_len 0 (n + n))) 0 (n + n);
        stays = λ i b. below_is (n + n) _ (h.stays i (is_below (n + n) i b));
        turns = λ i b. h.turns i (is_below (n + n) i b);
        moves = λ i b e. (let f = h.moves i (is_below (n + n) i b) in apart_from_test (slice_index (label_product n p q) i) i f e);
      }
