-- A word beside a bundle slides through the crossing of bundles: the third move for bundles.
use Rattle.std.proofs.Common.{◌≡◌, ◌≢◌, ℕ, zero, suc, Bool, true, false, ◌+◌, ◌<◌, ◌≤◌, ◌⊎◌, inl, inr, ⊎_elim, List, [], ◌∷◌, ◌++◌, refl, sym, ap, ap₂, ◌∙◌, arith, append_assoc, append-nil, subst}
use Rattle.state_sums.specs.LocalSums.{AreSkeinNumbers}
use Rattle.strand_words.specs.Words.{Letter, SameWord, over, under, inverted}
use Rattle.strand_words.specs.Grids.{crossed, row, grid, raised}
use Rattle.strand_words.proofs.Braids.{over_under, braided}
use Rattle.strand_words.proofs.Rewriting.{back, on, same, behind, before, far_letters, letter_far, IsBelow, IsFrom, IsBelow-append}
use Rattle.piece_laws.proofs.SkeinEquations.{exchanged_numbers}
use Rattle.std.proofs.lemmas.Bool.{cases_eq}

-- the letter at another place
abbrev pub moved : Letter → ℕ → Letter
moved letter i = record { at = i; straight = letter.straight; hook = letter.hook }

-- it is a crossing of these weights, one way or the other
abbrev pub IsCrossing : ℕ → ℕ → Letter → Type 0
IsCrossing a b letter = (letter ≡ over a b letter.at) ⊎ (letter ≡ under a b letter.at)

-- crossings among the strands from low on, below high
abbrev pub IsBraid : ℕ → ℕ → ℕ → ℕ → List Letter → Type 0
IsBraid a b low high [] = Unit {0}
IsBraid a b low high (letter ∷ word) = (low ≤ letter.at) × (letter.at + 1 < high) × IsCrossing a b letter × IsBraid a b low high word

pub crossing_moved : (a b : ℕ) (j : Letter) → IsCrossing a b j → (i : ℕ) → IsCrossing a b (moved j i)
crossing_moved a b j (inl e) i = inl (ap (λ k. moved k i) e)
crossing_moved a b j (inr e) i = inr (ap (λ k. moved k i) e)

module _ (m a b delta : ℕ) (numbers : AreSkeinNumbers m a b delta) where
  pub numbers_of : (s : Bool) (i : ℕ) → AreSkeinNumbers m (crossed a b s i).straight (crossed a b s i).hook delta
  numbers_of true i = numbers
  numbers_of false i = exchanged_numbers numbers

  -- what slides through, its inverse does too
  inverted_too : (x : List Letter) (j k : Letter) → AreSkeinNumbers m j.straight j.hook delta → AreSkeinNumbers m k.straight k.hook delta →
      SameWord m delta (x ++ j ∷ []) (k ∷ x) → SameWord m delta (x ++ inverted j ∷ []) (inverted k ∷ x)
  inverted_too x j k p q s =
      let jj : SameWord m delta (j ∷ inverted j ∷ []) [] = over_under m j.straight j.hook delta j.at p in
      let kk : SameWord m delta (inverted k ∷ k ∷ []) [] = over_under m k.hook k.straight delta k.at (exchanged_numbers q) in
      back
      (on (same (sym (append-nil (inverted k ∷ x))))
      (on (back (behind (inverted k ∷ x) jj))
      (on (same (ap (λ w. inverted k ∷ w) (sym (append_assoc x (j ∷ []) (inverted j ∷ [])))))
      (on (behind (inverted k ∷ []) (before (inverted j ∷ []) s))
      (before (x ++ inverted j ∷ []) kk)))))

  -- three crossings, two of them of one strand that lies above both others, or below both
  right_over : (s : Bool) (i : ℕ) → SameWord m delta (crossed a b s i ∷ crossed a b s (i + 1) ∷ crossed a b s i ∷ []) (crossed a b s (i + 1) ∷ crossed a b s i ∷ crossed a b s (i + 1) ∷ [])
  right_over true i = braided m a b delta i numbers
  right_over false i = braided m b a delta i (exchanged_numbers numbers)

  right_under : (s : Bool) (i : ℕ) →
      SameWord m delta (crossed a b s i ∷ crossed a b s (i + 1) ∷ inverted (crossed a b s i) ∷ []) (inverted (crossed a b s (i + 1)) ∷ crossed a b s i ∷ crossed a b s (i + 1) ∷ [])
  right_under s i = inverted_too (crossed a b s i ∷ crossed a b s (i + 1) ∷ []) (crossed a b s i) (crossed a b s (i + 1)) (numbers_of s i) (numbers_of s (i + 1)) (right_over s i)

  left_under : (s : Bool) (i : ℕ) →
      SameWord m delta (crossed a b s (i + 1) ∷ crossed a b s i ∷ inverted (crossed a b s (i + 1)) ∷ []) (inverted (crossed a b s i) ∷ crossed a b s (i + 1) ∷ crossed a b s i ∷ [])
  left_under s i = inverted_too (crossed a b s (i + 1) ∷ crossed a b s i ∷ []) (crossed a b s (i + 1)) (crossed a b s i) (numbers_of s (i + 1)) (numbers_of s i) (back (right_over s i))

  -- any crossing at i+1 before, at i behind
  pub third : (s : Bool) (j : Letter) → IsCrossing a b j → (i : ℕ) →
      SameWord m delta (crossed a b s i ∷ crossed a b s (i + 1) ∷ moved j i ∷ []) (moved j (i + 1) ∷ crossed a b s i ∷ crossed a b s (i + 1) ∷ [])
  third true j (inl e) i = rw e (right_over true i)
  third true j (inr e) i = rw e (right_under true i)
  third false j (inl e) i = rw e (right_under false i)
  third false j (inr e) i = rw e (right_over false i)

  -- and at i before, at i+1 behind
  pub third_left : (s : Bool) (j : Letter) → IsCrossing a b j → (i : ℕ) →
      SameWord m delta (moved j i ∷ crossed a b s (i + 1) ∷ crossed a b s i ∷ []) (crossed a b s (i + 1) ∷ crossed a b s i ∷ moved j (i + 1) ∷ [])
  third_left true j (inl e) i = rw e (right_over true i)
  third_left true j (inr e) i = rw e (back (left_under true i))
  third_left false j (inl e) i = rw e (back (left_under false i))
  third_left false j (inr e) i = rw e (right_over false i)

  -- ---- rows
  pub row-IsFrom : (s : Bool) (i count bound : ℕ) → bound ≤ i → IsFrom bound (row a b s i count)
  row-IsFrom s i zero bound l = tt
  row-IsFrom s i (suc count) bound l = (l, row-IsFrom s (i + 1) count bound (omega (arith, l)))

  pub row-IsBelow : (s : Bool) (i count bound : ℕ) → i + count < bound → IsBelow bound (row a b s i count)
  row-IsBelow s i zero bound l = tt
  row-IsBelow s i (suc count) bound l = (omega (arith, l), row-IsBelow s (i + 1) count bound (omega (arith, l)))

  pub grid-IsBelow : (s : Bool) (i rows columns bound : ℕ) → i + rows + columns < bound + 1 → IsBelow bound (grid a b s i rows columns)
  grid-IsBelow s i zero columns bound l = tt
  grid-IsBelow s i (suc rows) columns bound l =
      IsBelow-append bound (row a b s (i + rows) columns) (grid a b s i rows columns) (row-IsBelow s (i + rows) columns bound (omega (arith, l)))
      (grid-IsBelow s i rows columns bound (omega (arith, l)))

  -- A LETTER SLIDES THROUGH A ROW
  pub slide_letter : (s : Bool) (j : Letter) → IsCrossing a b j → (i count p : ℕ) → i ≤ p → p + 1 < i + count →
      SameWord m delta (moved j (p + 1) ∷ row a b s i count) (row a b s i count ++ moved j p ∷ [])
  slide_letter s j c i zero p l h = absurd (omega (arith, l, h))
  slide_letter s j c i (suc zero) p l h = absurd (omega (arith, l, h))
  slide_letter s j c i (suc (suc count)) p l h =
      let first : SameWord m delta (moved j (i + 1) ∷ row a b s i (suc (suc count))) (row a b s i (suc (suc count)) ++ moved j i ∷ []) =
      on (before (row a b s (i + 1 + 1) count) (back (third s j c i)))
      (behind (crossed a b s i ∷ crossed a b s (i + 1) ∷ [])
      (letter_far (i + 1 + 1) (moved j i) (row a b s (i + 1 + 1) count) (omega arith) (row-IsFrom s (i + 1 + 1) count (i + 1 + 1) (omega arith)))) in
      ⊎_elim (λ (e : i ≡ p). subst (λ x. SameWord m delta (moved j (x + 1) ∷ row a b s i (suc (suc count))) (row a b s i (suc (suc count)) ++ moved j x ∷ [])) e first)
      (λ (n : i ≢ p).
      on (before (row a b s (i + 1) (suc count)) (back (far_letters (crossed a b s i) (moved j (p + 1)) (omega (arith, l, n)))))
      (behind (crossed a b s i ∷ []) (slide_letter s j c (i + 1) (suc count) p (omega (arith, l, n)) (omega (arith, h)))))
      (cases_eq i p)

  -- A WORD SLIDES THROUGH A ROW
  pub slide_row : (s : Bool) (w : List Letter) (i count : ℕ) → IsBraid a b i (i + count) w → SameWord m delta (raised 1 w ++ row a b s i count) (row a b s i count ++ w)
  slide_row s [] i count h = same (sym (append-nil (row a b s i count)))
  slide_row s (j ∷ w) i count h =
      on (behind (moved j (j.at + 1) ∷ []) (slide_row s w i count h.3))
      (on (before w (slide_letter s j h.2 i count j.at h.0 h.1)) (same (append_assoc (row a b s i count) (j ∷ []) w)))

  pub raised-IsBraid : (k low high : ℕ) (w : List Letter) → IsBraid a b low high w → IsBraid a b (low + k) (high + k) (raised k w)
  raised-IsBraid k low high [] h = tt
  raised-IsBraid k low high (j ∷ w) h =
      (omega (arith, h.0), omega (arith, h.1), crossing_moved a b j h.2 (j.at + k), raised-IsBraid k low high w h.3)

  pub raised-zero : (w : List Letter) → raised 0 w ≡ w
  raised-zero [] = refl
  raised-zero (j ∷ w) = ap₂ (λ n v. moved j n ∷ v) (let e : j.at + 0 ≡ j.at = omega arith in e) (raised-zero w)

  pub raised-more : (k : ℕ) (w : List Letter) → raised 1 (raised k w) ≡ raised (suc k) w
  raised-more k [] = refl
  raised-more k (j ∷ w) = ap₂ (λ n v. moved j n ∷ v) (let e : j.at + k + 1 ≡ j.at + suc k = omega arith in e) (raised-more k w)

  -- A WORD SLIDES THROUGH A BUNDLE THAT CROSSES IT
  pub slide_grid : (s : Bool) (w : List Letter) (i rows columns : ℕ) → IsBraid a b i (i + columns) w →
      SameWord m delta (raised rows w ++ grid a b s i rows columns) (grid a b s i rows columns ++ w)
  slide_grid s w i zero columns h = same (append-nil (raised 0 w) ∙ raised-zero w)
  slide_grid s w i (suc rows) columns h =
      let first = row a b s (i + rows) columns in
      let rest = grid a b s i rows columns in
      let up : IsBraid a b (i + rows) (i + rows + columns) (raised rows w) =
      subst (λ n. IsBraid a b (i + rows) n (raised rows w)) (let e : i + columns + rows ≡ i + rows + columns = omega arith in e) (raised-IsBraid rows i (i + columns) w h) in
      on (same (ap (λ v. v ++ (first ++ rest)) (sym (raised-more rows w)) ∙ sym (append_assoc (raised 1 (raised rows w)) first rest)))
      (on (before rest (slide_row s (raised rows w) (i + rows) columns up))
      (on (same (append_assoc first (raised rows w) rest))
      (on (behind first (slide_grid s w i rows columns h)) (same (sym (append_assoc first rest w))))))
