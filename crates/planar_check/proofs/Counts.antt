-- Counting one number more, edges between numbers in range, and the places, after and owners in range.
use Rattle.std.proofs.Common.{inl, inr, ◌≡◌, ℕ, ◌+◌, ◌<◌, cond, true, false, Bool, List, [], ◌∷◌, ◌++◌, length, map, count_by, sym, subst, ap, ◌∙◌, arith, All, length-append}
use Rattle.std.specs.List.{range_with_len}
use Rattle.std.proofs.lemmas.Bool.{cases_Bool}
use Rattle.std.proofs.lemmas.List.Elements.{All-nil, All-append, All-map, All-same, All-weaker, All-head, All-tail}
use Rattle.std.proofs.lemmas.List.Sums.{sum_by-append}
use Rattle.planar_check.specs.Places.{labels_by_place, slot_after, slots_after, owners, first_passing, is_across, other_place, other_places}
use Rattle.list_lemmas.proofs.Ranges.{range_push, All-below}

-- what a test counts
abbrev once : Bool → ℕ
once b = cond b 1 0

count-more : (p : ℕ → Bool) (n : ℕ) → count_by p (range_with_len 0 (n + 1)) ≡ count_by p (range_with_len 0 n) + once (p n)
count-more p n =
    let split = ap (count_by p) (range_push n) ∙ sum_by-append (λ x. once (p x)) (range_with_len 0 n) (n ∷ []) in
    omega (arith, split)

module _ (p : ℕ → Bool) (n before after : ℕ) (is : before ≡ count_by p (range_with_len 0 n)) where
  pub counted_yes : p n ≡ true → after ≡ before + 1 → after ≡ count_by p (range_with_len 0 (n + 1))
  counted_yes t e = let one : once (p n) ≡ 1 = ap once t in omega (arith, count-more p n, one, e, is)

  pub counted_no : p n ≡ false → after ≡ before → after ≡ count_by p (range_with_len 0 (n + 1))
  counted_no t e = let none : once (p n) ≡ 0 = ap once t in omega (arith, count-more p n, none, e, is)

pub edges_among : (f : ℕ → ℕ × ℕ) (m n : ℕ) (edges : List (ℕ × ℕ)) → edges ≡ map f (range_with_len 0 m) → ((k : ℕ) → k < m → ((f k).0 < n) × ((f k).1 < n)) →
    All (λ edge. (edge.0 < n) × (edge.1 < n)) edges
edges_among f m n edges is h =
    let P : ℕ × ℕ → Type 0 = λ edge. (edge.0 < n) × (edge.1 < n) in
    All-same P edges (map f (range_with_len 0 m)) is (All-map P f (range_with_len 0 m) (All-below (λ k. P (f k)) m h))

slot_after-below : (start n slot : ℕ) → slot < n → slot_after start n slot < start + n
slot_after-below start n slot l = omega arith

pub after_below : (start : ℕ) (cs : List (List ℕ)) → All (λ p. p < start + length (labels_by_place cs)) (slots_after start cs)
after_below start [] = All-nil (λ p. p < start + 0)
after_below start (c ∷ cs) =
    let n = length c in
    let all = length-append c (labels_by_place cs) in
    let P : ℕ → Type 0 = λ p. p < start + length (c ++ labels_by_place cs) in
    let Q : ℕ → Type 0 = λ p. p < start + length c + length (labels_by_place cs) in
    All-append P (map (slot_after start n) (range_with_len 0 n)) (slots_after (start + n) cs)
    (All-map P (slot_after start n) (range_with_len 0 n) (All-below (λ slot. P (slot_after start n slot)) n (λ slot l. omega (arith, all, slot_after-below start n slot l))))
    (All-weaker Q P (λ p h. omega (arith, all, h)) (slots_after (start + n) cs) (after_below (start + n) cs))

pub owners_below : (number : ℕ) (cs : List (List ℕ)) → All (λ o. o < number + length cs) (owners number cs)
owners_below number [] = All-nil (λ o. o < number + 0)
owners_below number (c ∷ cs) =
    let P : ℕ → Type 0 = λ o. o < number + length (c ∷ cs) in
    let Q : ℕ → Type 0 = λ o. o < number + 1 + length cs in
    All-append P (map (λ _. number) c) (owners (number + 1) cs)
    (All-map P (λ _. number) c (λ k d l. omega arith))
    (All-weaker Q P (λ o h. omega (arith, h)) (owners (number + 1) cs) (owners_below (number + 1) cs))

pub first_below : (test : ℕ → Bool) (ns : List ℕ) (none n : ℕ) → All (λ x. x < n) ns → none < n → first_passing test ns none < n
first_below test [] none n h l = l
first_below test (x ∷ ns) none n h l =
    let below : ℕ → Type 0 = λ y. y < n in
    elim (cases_Bool (test x)) [
      | inl t ↦ subst below (sym (ap (λ (b : Bool). cond b x (first_passing test ns none)) t)) (All-head below x ns h)
      | inr t ↦ subst below (sym (ap (λ (b : Bool). cond b x (first_passing test ns none)) t)) (first_below test ns none n (All-tail below x ns h) l)
    ]

pub others_below : (labels : List ℕ) → All (λ p. p < length labels) (other_places labels)
unfolding other_place
others_below labels =
    let n = length labels in
    let below : ℕ → Type 0 = λ p. p < n in
    All-map below (other_place labels) (range_with_len 0 n) (All-below (λ p. below (other_place labels p)) n (λ p l.
    first_below (is_across labels p) (range_with_len 0 n) p n (All-below below n (λ k h. h)) l))
