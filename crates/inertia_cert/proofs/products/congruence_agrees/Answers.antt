use Rattle.std.proofs.Common.{◌≡◌, ◌<◌, ◌↔◌, ◌&&◌, ℕ, true, IsTrue, subst, ap₂, arith, add-one}
use Rattle.inertia_laws.specs.Range.{every}
use Rattle.inertia_laws.specs.Checking.{congruence_entry, diagonal_matrix}
use Rattle.inertia_laws.proofs.FirstStep.{every-false}
use Rattle.inertia_cert.specs.SymmetricMatrices.{entry}
use Rattle.inertia_cert.specs.Grids.{at}
use Rattle.inertia_cert.specs.Columns.{column_fits}
use Rattle.inertia_cert.proofs.ColumnFits.{decided_no, decided_yes}
use Rattle.inertia_cert.proofs.products.congruence_agrees.Goals as goal
use Rattle.inertia_cert.proofs.products.congruence_agrees.Goals.{then-not-branch, else-not-branch}

pub returns-in_err-column_agrees : goal.returns-in_err-column_agrees
returns-in_err-column_agrees c =
    let n = c.args.matrix.now.size in
    rw c.from_residual.ensures
    (every-false n c.loop-column.column (column_fits n (entry c.args.matrix.now) (at c.args.p.now)) (omega (arith, c.requires.same_size)) (c.in_err-column_agrees.ensures {u = tt}))

pub loop-column-preserved : goal.loop-column-preserved
loop-column-preserved c =
    let n = c.args.matrix.now.size in
    let l = entry c.args.matrix.now in
    let p = at c.args.p.now in
    let made = c.in_ok-column_agrees.ensures {u = tt} in
    let b = c.in_ok-column_agrees.field-0 in
    let P : ℕ → Type 0 = λ j. (i : ℕ) → i < n → congruence_entry n l p i j ≡ diagonal_matrix (λ i. at c.args.diagonal.now i i) i j in
    rw add-one
    (record {
      fit = ap₂ (λ u v. u && v) c.loop-column.invariant.fit made.0;
      same = elim c.if-not-branch.branch [
        | then-not-branch w ↦ decided_no P c.loop-column.column c.loop-column.same b c.if-not-branch.same c.loop-column.invariant.same made.1 w.if-not-branch.true w.same-is
        | else-not-branch w ↦ decided_yes P c.loop-column.column c.loop-column.same b c.if-not-branch.same c.loop-column.invariant.same made.1 w.if-not-branch.false w.same-is
      ];
    })

pub returns : goal.returns
returns c =
    let n = c.args.matrix.now.size in
    let l = entry c.args.matrix.now in
    let p = at c.args.p.now in
    let whole : c.loop-column.column ≡ n = omega (arith, c.requires.same_size, c.loop-column-test.false, c.loop-column.auto.column-end) in
    let Q : ℕ → Type 0 = λ k. (every k (column_fits n l p) ≡ true) × (IsTrue c.loop-column.same ↔ ((j : ℕ) → j < k → (i : ℕ) → i < n → congruence_entry n l p i j ≡ diagonal_matrix (λ i. at c.args.diagonal.now i i) i j)) in
    subst Q whole (c.loop-column.invariant.fit, c.loop-column.invariant.same)
