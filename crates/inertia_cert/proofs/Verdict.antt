-- The answer of a check: what the comparisons of both products say is what the certificate's equations say.
use Rattle.std.proofs.Common.{◌≡◌, ℕ, ◌<◌, ◌↔◌, Bool, true, false, ◌&&◌, IsTrue, ℤ, sym, subst, ap, ap₂, ◌∙◌, arith}
use Rattle.std.proofs.lemmas.Bool.{true≢false}
use Rattle.inertia_laws.specs.Matrices.{is_positive}
use Rattle.inertia_laws.specs.Certificates.{identity, IsCertificate}
use Rattle.inertia_laws.specs.Agreement.{Agree}
use Rattle.inertia_laws.specs.Range.{every, every_place}
use Rattle.inertia_laws.specs.Checking.{product_entry, product_fits, congruence_entry, check_fits, diagonal_matrix}
use Rattle.inertia_laws.proofs.CheckedEquations.{IsLowest, certificate_from, inverse_to, congruence_to}
use Rattle.inertia_cert.proofs.ColumnFits.{columns_fit}
use Rattle.inertia_cert.specs.declared.elimination.Elimination.{Elimination}
use Rattle.inertia_cert.specs.SymmetricMatrices.{SquareMatrix, entry}
use Rattle.inertia_cert.specs.Eliminations.{size_of}
use Rattle.inertia_cert.specs.Grids.{at}
use Rattle.inertia_cert.specs.Columns.{column_fits}
use Rattle.inertia_cert.proofs.GridEntries.{at_kept}
use Rattle.list_lemmas.proofs.Bools.{and_false}

-- the number of rows is known by three names: the matrix's, P's and the one that was counted with
module _ (m : SquareMatrix) (c : Elimination) (same : size_of c ≡ m.size) (size : ℕ) (counted : size ≡ m.size) where
  abbrev n : ℕ
  n = m.size

  abbrev l : ℕ → ℕ → ℤ
  l = entry m

  p_rows : c.p.size ≡ n
  p_rows = c.p_size ∙ same

  q_rows : c.q.size ≡ n
  q_rows = c.q_size ∙ same

  p_positive : (i j : ℕ) → i < n → j < n → is_positive (at c.p i j).den ≡ true
  p_positive i j hi hj = (at_kept c.p i j (omega (arith, p_rows)) (omega (arith, p_rows))).0

  q_positive : (i j : ℕ) → i < n → j < n → is_positive (at c.q i j).den ≡ true
  q_positive i j hi hj = (at_kept c.q i j (omega (arith, q_rows)) (omega (arith, q_rows))).0

  d_positive : (i : ℕ) → i < n → is_positive (at c.matrix i i).den ≡ true
  d_positive i hi = (at_kept c.matrix i i (omega (arith, same)) (omega (arith, same))).0

  d_lowest : (i : ℕ) → i < n → IsLowest (at c.matrix i i)
  d_lowest i hi = (at_kept c.matrix i i (omega (arith, same)) (omega (arith, same))).1

  by_parts : check_fits n l (at c.p) (at c.q) ≡ every_place n (product_fits n (at c.p) (at c.q)) && every n (column_fits n l (at c.p))
  by_parts = ap (λ b. every_place n (product_fits n (at c.p) (at c.q)) && b) (sym (columns_fit n l (at c.p)))

  inverse_fits : every_place size (product_fits c.p.size (at c.p) (at c.q)) ≡ every_place n (product_fits n (at c.p) (at c.q))
  inverse_fits = ap₂ (λ a b. every_place a (product_fits b (at c.p) (at c.q))) counted p_rows

  pub inverse_refused : every_place size (product_fits c.p.size (at c.p) (at c.q)) ≡ false → check_fits n l (at c.p) (at c.q) ≡ false
  inverse_refused e = by_parts ∙ ap (λ b. b && every n (column_fits n l (at c.p))) (sym inverse_fits ∙ e)

  pub congruence_refused : every n (column_fits n l (at c.p)) ≡ false → check_fits n l (at c.p) (at c.q) ≡ false
  congruence_refused e = by_parts ∙ ap (λ b. every_place n (product_fits n (at c.p) (at c.q)) && b) e ∙ and_false (every_place n (product_fits n (at c.p) (at c.q)))

  pub all_fit : every_place size (product_fits c.p.size (at c.p) (at c.q)) ≡ true → every n (column_fits n l (at c.p)) ≡ true → check_fits n l (at c.p) (at c.q) ≡ true
  all_fit e g = by_parts ∙ ap₂ (λ u v. u && v) (sym inverse_fits ∙ e) g

  module _ (inverse : Bool) (first : IsTrue inverse ↔ Agree size (product_entry c.p.size (at c.p) (at c.q)) identity) where
    is_inverse : IsTrue inverse ↔ Agree n (product_entry n (at c.p) (at c.q)) identity
    is_inverse = subst (λ b. IsTrue inverse ↔ Agree n (product_entry b (at c.p) (at c.q)) identity) p_rows (subst (λ a. IsTrue inverse ↔ Agree a (product_entry c.p.size (at c.p) (at c.q)) identity) counted first)

    -- P Q isn't the identity
    pub no_certificate : inverse ≡ false → IsTrue inverse ↔ IsCertificate n l (at c.p) (at c.q) (λ i. at c.matrix i i)
    no_certificate e = (
      λ h. absurd (true≢false (sym h ∙ e)),
      λ certificate. is_inverse.1 (inverse_to n l (at c.p) (at c.q) (λ i. at c.matrix i i) p_positive q_positive d_positive d_lowest certificate),
    )

    pub by_congruence : (congruence : Bool) → IsTrue congruence ↔ ((j : ℕ) → j < n → (i : ℕ) → i < n → congruence_entry n l (at c.p) i j ≡ diagonal_matrix (λ i. at c.matrix i i) i j) → inverse ≡ true → IsTrue congruence ↔ IsCertificate n l (at c.p) (at c.q) (λ i. at c.matrix i i)
    by_congruence congruence second e =
        let is_congruent : IsTrue congruence ↔ Agree n (congruence_entry n l (at c.p)) (diagonal_matrix (λ i. at c.matrix i i)) =
        ((λ h i j hi hj. second.0 h j hj i hi), (λ h. second.1 (λ j hj i hi. h i j hi hj))) in
        let holds : IsTrue inverse = e in (
          λ h. certificate_from n l (at c.p) (at c.q) (λ i. at c.matrix i i) p_positive q_positive d_positive d_lowest (is_inverse.0 holds) (is_congruent.0 h),
          λ certificate. is_congruent.1 (congruence_to n l (at c.p) (at c.q) (λ i. at c.matrix i i) p_positive q_positive d_positive d_lowest certificate),
        )
