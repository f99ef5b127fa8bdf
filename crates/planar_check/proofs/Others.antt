-- Whether a place is across the edge from another; and what comes behind a list that is made by a function of
-- the index, or of the elements of another list.
use Rattle.std.proofs.Common.{◌≡◌, ◌≢◌, ℕ, ◌+◌, ◌<◌, true, false, List, [], ◌∷◌, ◌++◌, map, length, take, slice_index, refl, sym, ap, ◌∙◌, arith, eq-eqb, ne_eqb}
use Rattle.std.specs.List.{range_with_len}
use Rattle.std.proofs.lemmas.List.{take_more, map-append}
use Rattle.std.proofs.lemmas.List.FromFn.{map-range_with_len_more}
use Rattle.planar_check.specs.Places.{is_across}

module _ (labels : List ℕ) (p q : ℕ) where
  pub across : q ≢ p → slice_index labels q ≡ slice_index labels p → is_across labels p q ≡ true
  across ne e = rw (ne_eqb q p ne, eq-eqb (slice_index labels q) (slice_index labels p) e) refl

  pub across_same : q ≡ p → is_across labels p q ≡ false
  across_same e = rw (eq-eqb q p e) refl

  pub across_not : q ≢ p → slice_index labels q ≢ slice_index labels p → is_across labels p q ≡ false
  across_not ne d = rw (ne_eqb q p ne, ne_eqb (slice_index labels q) (slice_index labels p) d) refl

pub mapped_push : {X : Type 0} (f : ℕ → X) (n : ℕ) (before after : List X) → before ≡ map f (range_with_len 0 n) → after ≡ before ++ f n ∷ [] → after ≡ map f (range_with_len 0 (n + 1))
mapped_push {X} f n before after b a =
    let same : 0 + n ≡ n = omega arith in
    a ∙ (ap (λ (xs : List X). xs ++ f n ∷ []) b ∙ sym (map-range_with_len_more f 0 n n same))

pub mapped_more : {X : Type 0} (f : ℕ → X) (xs : List ℕ) (i : ℕ) (before after : List X) → i < length xs → before ≡ map f (take i xs) → after ≡ before ++ f (slice_index xs i) ∷ [] → after ≡ map f (take (i + 1) xs)
mapped_more {X} f xs i before after l b a =
    a ∙ (ap (λ (ys : List X). ys ++ f (slice_index xs i) ∷ []) b ∙ sym (ap (map f) (take_more xs i 0 l) ∙ map-append f (take i xs) (slice_index xs i ∷ [])))
