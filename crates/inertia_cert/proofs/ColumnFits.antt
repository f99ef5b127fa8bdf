-- Products column by column: the entries of L P and of P-transposed times L P fit column by column exactly where they all do; and
-- where a column of L P is listed, what is formed of the list is what is formed of the column.
use Rattle.std.proofs.Common.{◌≡◌, ℕ, zero, suc, pred, ◌<◌, ◌≤◌, ℤ, Bool, true, false, ◌&&◌, List, [], ◌∷◌, length, set, eqb, ◌≢◌, ◌↔◌, IsTrue, inl, inr, refl, sym, ap, ap₂, subst, ◌∙◌, arith}
use Rattle.list_lemmas.proofs.Bools.{and_first, and_second, same_bool}
use Rattle.inertia_laws.specs.Fractions.{Fraction, plus, times}
use Rattle.inertia_laws.specs.Range.{every, every_place, add_fits, multiply_fits}
use Rattle.inertia_laws.specs.Checking.{summed, sum_fits, image_entry, image_fits, congruence_entry, congruence_fits}
use Rattle.inertia_laws.proofs.Agreement.{every-agree}
use Rattle.inertia_laws.proofs.CheckedFits.{every_at, every_all, place_at, place_all}
use Rattle.inertia_cert.specs.Columns.{AreImages, column_fits}
use Rattle.inertia_cert.specs.declared.fraction.Fraction as program
use Rattle.inertia_cert.specs.Values.{value}
use Rattle.inertia_cert.specs.Grids.{listed_at}
use Rattle.std.proofs.lemmas.Bool.{cases_Bool, eqb-true, eqb-false, true≢false}

summed-agree : (n : ℕ) (f g : ℕ → Fraction) → ((k : ℕ) → k ≤ n → f k ≡ g k) → summed n f ≡ summed n g
summed-agree zero f g h = h 0 (omega arith)
summed-agree (suc n) f g h =
    let last : suc n ≤ suc n = omega arith in
    ap₂ plus (summed-agree n f g (λ k l. h k (omega (arith, l)))) (h (suc n) last)

sum_fits-agree : (n : ℕ) (f g : ℕ → Fraction) → ((k : ℕ) → k ≤ n → f k ≡ g k) → sum_fits n f ≡ sum_fits n g
sum_fits-agree zero f g h = refl
sum_fits-agree (suc n) f g h =
    let last : suc n ≤ suc n = omega arith in
    let before : (k : ℕ) → k ≤ n → f k ≡ g k = λ k l. h k (omega (arith, l)) in
    ap₂ (λ a b. a && b) (sum_fits-agree n f g before) (ap₂ add_fits (summed-agree n f g before) (h (suc n) last))

module _ (n : ℕ) (l : ℕ → ℕ → ℤ) (p : ℕ → ℕ → Fraction) where
  -- ---- a column that is listed
  module _ (column : ℕ) (list : ℕ → Fraction) (images : AreImages n l p column n list) (row : ℕ) (within : row < n) where
    product_same : (k : ℕ) → k ≤ pred n → times (p k row) (list k) ≡ times (p k row) (image_entry n l p k column)
    product_same k h = ap (times (p k row)) (images.are k (omega arith))

    pub listed_entry : summed (pred n) (λ k. times (p k row) (list k)) ≡ congruence_entry n l p row column
    listed_entry = summed-agree (pred n) _ _ product_same

    pub listed_fits : (every n (λ k. multiply_fits (p k row) (list k)) && sum_fits (pred n) (λ k. times (p k row) (list k))) ≡ congruence_fits n l p row column
    listed_fits =
        ap₂ (λ a b. a && b)
        (every-agree n _ _ (λ k h. ap (multiply_fits (p k row)) (images.are k h)))
        (sum_fits-agree (pred n) _ _ product_same)

    -- the same, where the number of rows has another name
    pub listed_entry_by : (size : ℕ) → size ≡ n → summed (pred size) (λ k. times (p k row) (list k)) ≡ congruence_entry n l p row column
    listed_entry_by size same = ap (λ s. summed (pred s) (λ k. times (p k row) (list k))) same ∙ listed_entry

    pub listed_fits_by : (size : ℕ) → size ≡ n → (every size (λ k. multiply_fits (p k row) (list k)) && sum_fits (pred size) (λ k. times (p k row) (list k))) ≡ congruence_fits n l p row column
    listed_fits_by size same = ap (λ s. every s (λ k. multiply_fits (p k row) (list k)) && sum_fits (pred s) (λ k. times (p k row) (list k))) same ∙ listed_fits

  -- ---- all columns
  parts : every n (column_fits n l p) ≡ true → every_place n (image_fits n l p) && every_place n (congruence_fits n l p) ≡ true
  parts e =
      ap₂ (λ u v. u && v)
      (place_all n (image_fits n l p) (λ i j hi hj. every_at n i (λ k. image_fits n l p k j) (and_first _ _ (every_at n j (column_fits n l p) e hj)) hi))
      (place_all n (congruence_fits n l p) (λ i j hi hj. every_at n i (λ k. congruence_fits n l p k j) (and_second _ _ (every_at n j (column_fits n l p) e hj)) hi))

  whole : every_place n (image_fits n l p) && every_place n (congruence_fits n l p) ≡ true → every n (column_fits n l p) ≡ true
  whole e =
      every_all n (column_fits n l p) (λ j hj.
      ap₂ (λ u v. u && v)
      (every_all n (λ k. image_fits n l p k j) (λ k hk. place_at n k j (image_fits n l p) (and_first _ _ e) hk hj))
      (every_all n (λ k. congruence_fits n l p k j) (λ k hk. place_at n k j (congruence_fits n l p) (and_second _ _ e) hk hj)))

  -- COLUMN BY COLUMN, ALL ENTRIES
  pub columns_fit : every n (column_fits n l p) ≡ every_place n (image_fits n l p) && every_place n (congruence_fits n l p)
  columns_fit = same_bool _ _ parts whole

-- ---- a list of which one entry is written
set_here : (entries : List program.Fraction) (k : ℕ) (x : program.Fraction) → k < length entries → listed_at (set entries k x) k ≡ value x
set_here [] k x h = absurd (omega (arith, h))
set_here (e ∷ es) zero x h = refl
set_here (e ∷ es) (suc k) x h = set_here es k x (omega (arith, h))

set_there : (entries : List program.Fraction) (k i : ℕ) (x : program.Fraction) → i ≢ k → listed_at (set entries k x) i ≡ listed_at entries i
set_there [] k i x h = refl
set_there (e ∷ es) zero zero x h = absurd (h refl)
set_there (e ∷ es) zero (suc i) x h = refl
set_there (e ∷ es) (suc k) zero x h = refl
set_there (e ∷ es) (suc k) (suc i) x h = set_there es k i x (λ s. h (ap (λ n. suc n) s))

-- ONE IMAGE MORE
pub images_more : (n : ℕ) (l : ℕ → ℕ → ℤ) (p : ℕ → ℕ → Fraction) (column k : ℕ) (entries : List program.Fraction) (x : program.Fraction) → k < length entries → AreImages n l p column k (listed_at entries) →
    image_fits n l p k column ≡ true → value x ≡ image_entry n l p k column → AreImages n l p column (suc k) (listed_at (set entries k x))
images_more n l p column k entries x within before fit is = record {
  fit = ap₂ (λ u v. u && v) before.fit fit;
  are = λ i h. elim (cases_Bool (eqb i k)) [
    | inl e ↦ (let same = eqb-true i k e in
        subst (λ j. listed_at (set entries k x) j ≡ image_entry n l p j column) (sym same) (set_here entries k x within ∙ is))
    | inr e ↦ (let other = eqb-false i k e in set_there entries k i x other ∙ before.are i (omega (arith, h, other)))
  ];
}

-- ---- one place more of which it is said whether something holds
module _ (P : ℕ → Type 0) (k : ℕ) (same b new : Bool) (before : IsTrue same ↔ ((j : ℕ) → j < k → P j)) (here : IsTrue b ↔ P k) where
  pub decided_no : b ≡ false → new ≡ false → IsTrue new ↔ ((j : ℕ) → j < suc k → P j)
  decided_no fails e = ((λ t. absurd (true≢false (sym t ∙ e))), (λ h. absurd (let last : k < suc k = omega arith in true≢false (sym (here.1 (h k last)) ∙ fails))))

  pub decided_yes : b ≡ true → new ≡ same → IsTrue new ↔ ((j : ℕ) → j < suc k → P j)
  decided_yes holds e = (
    (λ t j h. elim (cases_Bool (eqb j k)) [
      | inl s ↦ subst P (sym (eqb-true j k s)) (here.0 holds)
      | inr s ↦ (let other = eqb-false j k s in before.0 (sym e ∙ t) j (omega (arith, h, other)))
    ]),
    (λ h. e ∙ before.1 (λ j l. h j (omega (arith, l)))),
  )
