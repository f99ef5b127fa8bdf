-- The coloured moves, as words: bundles of strands in place of strands. A crossing of bundles is a word of crossings, and a word
-- slides through a bundle that crosses it.
use Rattle.std.proofs.Common.{◌≡◌, ◌≢◌, ℕ, zero, suc, Bool, true, false, not, ◌+◌, ◌<◌, ◌≤◌, ◌⊎◌, inl, inr, ⊎_elim, List, [], ◌∷◌, ◌++◌, refl, sym, ap, ap₂, ◌∙◌, arith, append_assoc, append-nil, subst}
use Rattle.state_sums.specs.LocalSums.{AreSkeinNumbers}
use Rattle.strand_words.specs.Words.{Letter, SameWord}
use Rattle.strand_words.specs.Grids.{crossed, row, grid, raised}
use Rattle.strand_words.proofs.Braids.{over_under}
use Rattle.strand_words.proofs.Rewriting.{itself, back, on, same, behind, before, letter_far, far_words}
use Rattle.strand_words.proofs.Slides.{moved, IsCrossing, IsBraid, third_left, row-IsFrom, grid-IsBelow, slide_grid}
use Rattle.piece_laws.proofs.SkeinEquations.{exchanged_numbers}
use Rattle.std.proofs.lemmas.Bool.{cases_eq}

module _ (m a b delta : ℕ) (numbers : AreSkeinNumbers m a b delta) where
  -- ---- a bundle in two parts
  row_apart : (s : Bool) (i z y : ℕ) → row a b s i (z + y) ≡ row a b s i z ++ row a b s (i + z) y
  row_apart s i zero y = ap₂ (row a b s) (let e : i ≡ i + 0 = omega arith in e) (let e : 0 + y ≡ y = omega arith in e)
  row_apart s i (suc z) y =
      ap (row a b s i) (let e : suc z + y ≡ suc (z + y) = omega arith in e)
      ∙ ap (λ w. crossed a b s i ∷ w) (row_apart s (i + 1) z y ∙ ap (λ n. row a b s (i + 1) z ++ row a b s n y) (let e : i + 1 + z ≡ i + suc z = omega arith in e))

  pub rows_apart : (s : Bool) (i p q u : ℕ) → grid a b s i (p + q) u ≡ grid a b s (i + q) p u ++ grid a b s i q u
  rows_apart s i zero q u = ap (λ n. grid a b s i n u) (let e : 0 + q ≡ q = omega arith in e)
  rows_apart s i (suc p) q u =
      ap (λ n. grid a b s i n u) (let e : suc p + q ≡ suc (p + q) = omega arith in e)
      ∙ ap₂ (λ n w. row a b s n u ++ w) (let e : i + (p + q) ≡ i + q + p = omega arith in e) (rows_apart s i p q u)
      ∙ sym (append_assoc (row a b s (i + q + p) u) (grid a b s (i + q) p u) (grid a b s i q u))

  pub grid_in_columns : (s : Bool) (i x z y : ℕ) → SameWord m delta (grid a b s i x (z + y)) (grid a b s i x z ++ grid a b s (i + z) x y)
  grid_in_columns s i zero z y = itself
  grid_in_columns s i (suc x) z y =
      let near = row a b s (i + x) z in
      let far = row a b s (i + x + z) y in
      let one = grid a b s i x z in
      let other = grid a b s (i + z) x y in
      on (same (ap (λ w. w ++ grid a b s i x (z + y)) (row_apart s (i + x) z y) ∙ append_assoc near far (grid a b s i x (z + y))))
      (on (behind near (on (behind far (grid_in_columns s i x z y))
      (on (same (sym (append_assoc far one other)))
      (on (before other (back (far_words (i + x + z) one far (grid-IsBelow m a b delta numbers s i x z (i + x + z) (omega arith)) (row-IsFrom m a b delta numbers s (i + x + z) y (i + x + z) (omega arith)))))
      (same (append_assoc one far other))))))
      (same (sym (append_assoc near one (far ++ other)) ∙ ap (λ n. (near ++ one) ++ (row a b s n y ++ other)) (let e : i + x + z ≡ i + z + x = omega arith in e))))

  -- ---- the mirror image of a slide
  two_rows : (s : Bool) (j : Letter) → IsCrossing a b j → (p u : ℕ) →
      SameWord m delta (moved j p ∷ (row a b s (p + 1) u ++ row a b s p u)) (row a b s (p + 1) u ++ (row a b s p u ++ moved j (p + u) ∷ []))
  two_rows s j c p zero = same (ap (λ n. moved j n ∷ []) (let e : p ≡ p + 0 = omega arith in e))
  two_rows s j c p (suc u) =
      let right = crossed a b s (p + 1) in
      let left = crossed a b s p in
      let up = row a b s (p + 1 + 1) u in
      let low = row a b s (p + 1) u in
      let gather : SameWord m delta (up ++ left ∷ []) (left ∷ up) = back (letter_far (p + 1 + 1) left up (omega arith) (row-IsFrom m a b delta numbers s (p + 1 + 1) u (p + 1 + 1) (omega arith))) in
      let swap : (rest : List Letter) → SameWord m delta (up ++ left ∷ rest) (left ∷ (up ++ rest)) =
      λ rest. on (same (sym (append_assoc up (left ∷ []) rest))) (before rest gather) in
      on (behind (moved j p ∷ right ∷ []) (swap low))
      (on (before (up ++ low) (third_left m a b delta numbers s j c p))
      (on (behind (right ∷ left ∷ []) (two_rows s j c (p + 1) u))
      (on (behind (right ∷ []) (back (swap (low ++ moved j (p + 1 + u) ∷ []))))
      (same (ap (λ n. right ∷ (up ++ left ∷ (low ++ moved j n ∷ []))) (let e : p + 1 + u ≡ p + suc u = omega arith in e))))))

  left_letter : (s : Bool) (j : Letter) → IsCrossing a b j → (i rows u p : ℕ) → i ≤ p → p + 1 < i + rows →
      SameWord m delta (moved j p ∷ grid a b s i rows u) (grid a b s i rows u ++ moved j (p + u) ∷ [])
  left_letter s j c i zero u p l h = absurd (omega (arith, l, h))
  left_letter s j c i (suc zero) u p l h = absurd (omega (arith, l, h))
  left_letter s j c i (suc (suc rows)) u p l h =
      let first = row a b s (i + suc rows) u in
      let rest = grid a b s i (suc rows) u in
      ⊎_elim
      (λ (e : i + rows ≡ p).
      let second = row a b s (i + rows) u in
      let last = grid a b s i rows u in
      let high : SameWord m delta (moved j (i + rows + u) ∷ last) (last ++ moved j (i + rows + u) ∷ []) =
      back (far_words (i + rows + u) last (moved j (i + rows + u) ∷ []) (grid-IsBelow m a b delta numbers s i rows u (i + rows + u) (omega arith)) ((let t : i + rows + u ≤ i + rows + u = omega arith in t), tt)) in
      let all : SameWord m delta (moved j (i + rows) ∷ (first ++ (second ++ last))) ((first ++ (second ++ last)) ++ moved j (i + rows + u) ∷ []) =
      on (same (ap (λ n. moved j (i + rows) ∷ (row a b s n u ++ (second ++ last))) (let t : i + suc rows ≡ i + rows + 1 = omega arith in t) ∙ ap (λ w. moved j (i + rows) ∷ w) (sym (append_assoc (row a b s (i + rows + 1) u) second last))))
      (on (before last (two_rows s j c (i + rows) u))
      (on (same (append_assoc (row a b s (i + rows + 1) u) (second ++ moved j (i + rows + u) ∷ []) last ∙ ap (λ w. row a b s (i + rows + 1) u ++ w) (append_assoc second (moved j (i + rows + u) ∷ []) last)))
      (on (behind (row a b s (i + rows + 1) u) (behind second high))
      (same (ap (λ n. row a b s n u ++ (second ++ (last ++ moved j (i + rows + u) ∷ []))) (let t : i + rows + 1 ≡ i + suc rows = omega arith in t)
      ∙ ap (λ w. first ++ w) (sym (append_assoc second last (moved j (i + rows + u) ∷ [])))
      ∙ sym (append_assoc first (second ++ last) (moved j (i + rows + u) ∷ []))))))) in
      subst (λ n. SameWord m delta (moved j n ∷ grid a b s i (suc (suc rows)) u) (grid a b s i (suc (suc rows)) u ++ moved j (n + u) ∷ [])) e all)
      (λ (n : i + rows ≢ p).
      on (before rest (letter_far (i + suc rows) (moved j p) first (omega (arith, l, h, n)) (row-IsFrom m a b delta numbers s (i + suc rows) u (i + suc rows) (omega arith))))
      (on (same (append_assoc first (moved j p ∷ []) rest))
      (on (behind first (left_letter s j c i (suc rows) u p l (omega (arith, l, h, n))))
      (same (sym (append_assoc first rest (moved j (p + u) ∷ [])))))))
      (cases_eq (i + rows) p)

  -- A WORD SLIDES THROUGH A BUNDLE TO ITS RIGHT
  pub slide_left : (s : Bool) (w : List Letter) (i rows columns : ℕ) → IsBraid a b i (i + rows) w →
      SameWord m delta (w ++ grid a b s i rows columns) (grid a b s i rows columns ++ raised columns w)
  slide_left s [] i rows columns h = same (sym (append-nil (grid a b s i rows columns)))
  slide_left s (j ∷ w) i rows columns h =
      let g = grid a b s i rows columns in
      on (behind (j ∷ []) (slide_left s w i rows columns h.3))
      (on (before (raised columns w) (left_letter s j h.2 i rows columns j.at h.0 h.1)) (same (append_assoc g (moved j (j.at + columns) ∷ []) (raised columns w))))

  -- ---- bundles are words of crossings
  is_crossing : (s : Bool) (i : ℕ) → IsCrossing a b (crossed a b s i)
  is_crossing true i = inl refl
  is_crossing false i = inr refl

  pub row-IsBraid : (s : Bool) (i count low high : ℕ) → low ≤ i → i + count < high → IsBraid a b low high (row a b s i count)
  row-IsBraid s i zero low high l h = tt
  row-IsBraid s i (suc count) low high l h = (l, omega (arith, h), is_crossing s i, row-IsBraid s (i + 1) count low high (omega (arith, l)) (omega (arith, h)))

  IsBraid-append : (low high : ℕ) (u v : List Letter) → IsBraid a b low high u → IsBraid a b low high v → IsBraid a b low high (u ++ v)
  IsBraid-append low high [] v p q = q
  IsBraid-append low high (j ∷ u) v p q = (p.0, p.1, p.2, IsBraid-append low high u v p.3 q)

  pub grid-IsBraid : (s : Bool) (i rows columns low high : ℕ) → low ≤ i → i + rows + columns ≤ high → IsBraid a b low high (grid a b s i rows columns)
  grid-IsBraid s i zero columns low high l h = tt
  grid-IsBraid s i (suc rows) columns low high l h =
      IsBraid-append low high (row a b s (i + rows) columns) (grid a b s i rows columns) (row-IsBraid s (i + rows) columns low high (omega (arith, l)) (omega (arith, h)))
      (grid-IsBraid s i rows columns low high l (omega (arith, h)))

  pub raised-row : (s : Bool) (k i count : ℕ) → raised k (row a b s i count) ≡ row a b s (i + k) count
  raised-row s k i zero = refl
  raised-row s k i (suc count) =
      ap (λ w. crossed a b s (i + k) ∷ w) (raised-row s k (i + 1) count ∙ ap (λ n. row a b s n count) (let e : i + 1 + k ≡ i + k + 1 = omega arith in e))

  raised-append : (k : ℕ) (u v : List Letter) → raised k (u ++ v) ≡ raised k u ++ raised k v
  raised-append k [] v = refl
  raised-append k (j ∷ u) v = ap (λ w. moved j (j.at + k) ∷ w) (raised-append k u v)

  pub raised-grid : (s : Bool) (k i rows columns : ℕ) → raised k (grid a b s i rows columns) ≡ grid a b s (i + k) rows columns
  raised-grid s k i zero columns = refl
  raised-grid s k i (suc rows) columns =
      raised-append k (row a b s (i + rows) columns) (grid a b s i rows columns)
      ∙ ap₂ (λ u v. u ++ v) (raised-row s k (i + rows) columns ∙ ap (λ n. row a b s n columns) (let e : i + rows + k ≡ i + k + rows = omega arith in e)) (raised-grid s k i rows columns)

  -- ---- A BUNDLE IS PULLED OFF ANOTHER ONE
  one_column : (s : Bool) (i u : ℕ) → SameWord m delta (row a b s i u ++ grid a b (not s) i u 1) []
  one_column s i zero = itself
  one_column s i (suc u) =
      let letter = crossed a b s i in
      let rest = row a b s (i + 1) u in
      let last = crossed a b (not s) i in
      -- the last column of u+1 rows is that of u rows one place further right, and then the letter at i
      let split : grid a b (not s) i (suc u) 1 ≡ grid a b (not s) (i + 1) u 1 ++ last ∷ [] =
      ap (λ n. grid a b (not s) i n 1) (let e : suc u ≡ u + 1 = omega arith in e) ∙ rows_apart (not s) i u 1 1 ∙ ap (λ n. grid a b (not s) (i + 1) u 1 ++ crossed a b (not s) n ∷ []) (let e : i + 0 ≡ i = omega arith in e) in
      on (same (ap (λ w. letter ∷ (rest ++ w)) split ∙ ap (λ w. letter ∷ w) (sym (append_assoc rest (grid a b (not s) (i + 1) u 1) (last ∷ [])))))
      (on (behind (letter ∷ []) (before (last ∷ []) (one_column s (i + 1) u))) (opposite s i))
    where
      opposite : (s : Bool) (i : ℕ) → SameWord m delta (crossed a b s i ∷ crossed a b (not s) i ∷ []) []
      opposite true i = over_under m a b delta i numbers
      opposite false i = over_under m b a delta i (exchanged_numbers numbers)

  no_columns : (s : Bool) (i rows : ℕ) → grid a b s i rows 0 ≡ []
  no_columns s i zero = refl
  no_columns s i (suc rows) = no_columns s i rows

  -- THE SECOND MOVE OF BUNDLES
  pub bundle_second : (s : Bool) (i o u : ℕ) → SameWord m delta (grid a b s i o u ++ grid a b (not s) i u o) []
  bundle_second s i zero u = same (no_columns (not s) i u)
  bundle_second s i (suc o) u =
      let first = row a b s (i + o) u in
      let one = grid a b s i o u in
      let other = grid a b (not s) i u o in
      let last = grid a b (not s) (i + o) u 1 in
      on (same (ap (λ n. (first ++ one) ++ grid a b (not s) i u n) (let e : suc o ≡ o + 1 = omega arith in e)))
      (on (behind (first ++ one) (grid_in_columns (not s) i u o 1))
      (on (same (append_assoc first one (other ++ last) ∙ ap (λ w. first ++ w) (sym (append_assoc one other last))))
      (on (behind first (before last (bundle_second s i o u))) (one_column s (i + o) u))))

  -- THE THIRD MOVE OF BUNDLES: the bundle on the left lies above both others, or below both
  pub left_over_both : (s t : Bool) (i x y z : ℕ) →
      SameWord m delta (grid a b s i x y ++ (grid a b s (i + y) x z ++ grid a b t i y z)) (grid a b t (i + x) y z ++ (grid a b s i x z ++ grid a b s (i + z) x y))
  left_over_both s t i x y z =
      let w = grid a b t i y z in
      on (same (sym (append_assoc (grid a b s i x y) (grid a b s (i + y) x z) w)))
      (on (before w (back (grid_in_columns s i x y z)))
      (on (back (slide_grid m a b delta numbers s w i x (y + z) (grid-IsBraid t i y z i (i + (y + z)) (omega arith) (omega arith))))
      (on (same (ap₂ (λ v n. v ++ grid a b s i x n) (raised-grid t x i y z) (let e : y + z ≡ z + y = omega arith in e)))
      (behind (grid a b t (i + x) y z) (grid_in_columns s i x z y)))))

  -- and the bundle on the right
  pub right_over_both : (s t : Bool) (i x y z : ℕ) →
      SameWord m delta (grid a b t i x y ++ (grid a b s (i + y) x z ++ grid a b s i y z)) (grid a b s (i + x) y z ++ (grid a b s i x z ++ grid a b t (i + z) x y))
  right_over_both s t i x y z =
      let w = grid a b t i x y in
      on (same (ap (λ v. w ++ v) (sym (rows_apart s i x y z))))
      (on (slide_left s w i (x + y) z (grid-IsBraid t i x y i (i + (x + y)) (omega arith) (omega arith)))
      (on (same (ap₂ (λ n v. grid a b s i n z ++ v) (let e : x + y ≡ y + x = omega arith in e) (raised-grid t z i x y) ∙ ap (λ v. v ++ grid a b t (i + z) x y) (rows_apart s i y x z)))
      (same (append_assoc (grid a b s (i + x) y z) (grid a b s i x z) (grid a b t (i + z) x y)))))

  -- both in one: three bundles of heights
  pub bundle_third : (s t v : Bool) (i x y z : ℕ) → (s ≡ t) ⊎ (t ≡ v) →
      SameWord m delta (grid a b s i x y ++ (grid a b t (i + y) x z ++ grid a b v i y z)) (grid a b v (i + x) y z ++ (grid a b t i x z ++ grid a b s (i + z) x y))
  bundle_third s t v i x y z (inl e) = rw e (left_over_both t v i x y z)
  bundle_third s t v i x y z (inr e) = rw e (right_over_both v s i x y z)
