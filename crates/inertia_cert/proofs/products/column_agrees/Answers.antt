use Rattle.std.proofs.Common.{◌≡◌, ◌<◌, ◌↔◌, ◌&&◌, ℕ, IsTrue, sym, ap, ap₂, ◌∙◌, arith, add-one}
use Rattle.list_lemmas.proofs.Bools.{and_false}
use Rattle.inertia_laws.specs.Range.{every}
use Rattle.inertia_laws.specs.Checking.{image_fits, congruence_entry, congruence_fits, diagonal_matrix}
use Rattle.inertia_laws.proofs.FirstStep.{every-false}
use Rattle.inertia_cert.specs.SymmetricMatrices.{entry}
use Rattle.inertia_cert.specs.Grids.{at, listed_at}
use Rattle.inertia_cert.proofs.ColumnFits.{listed_entry_by, listed_fits_by, decided_no, decided_yes}
use Rattle.inertia_cert.proofs.products.column_agrees.Goals as goal
use Rattle.inertia_cert.proofs.products.column_agrees.Goals.{then-not-is_same, else-not-is_same}

pub returns-in_err-here : goal.returns-in_err-here
returns-in_err-here c =
    let n = c.args.matrix.now.size in
    let l = entry c.args.matrix.now in
    let p = at c.args.p.now in
    let column = c.args.column in
    let row = c.loop-row.row in
    let within : row < n = omega (arith, c.requires.same_size) in
    let fits = listed_fits_by n l p column (listed_at c.write_image.new.image_column) (c.in_ok-write_image.ensures {u = tt}) row within c.args.p.now.size c.requires.same_size in
    rw c.from_residual-in_err-here.ensures
    (ap (λ b. every n (λ k. image_fits n l p k column) && b)
    (every-false n row (λ i. congruence_fits n l p i column) within (sym fits ∙ c.in_err-here.ensures {u = tt}))
    ∙ and_false (every n (λ k. image_fits n l p k column)))

pub loop-row-preserved : goal.loop-row-preserved
loop-row-preserved c =
    let n = c.args.matrix.now.size in
    let l = entry c.args.matrix.now in
    let p = at c.args.p.now in
    let column = c.args.column in
    let row = c.loop-row.row in
    let within : row < n = omega (arith, c.requires.same_size) in
    let list = listed_at c.write_image.new.image_column in
    let images = c.in_ok-write_image.ensures {u = tt} in
    let fits = listed_fits_by n l p column list images row within c.args.p.now.size c.requires.same_size in
    let made = c.in_ok-here.ensures {u = tt} in
    let is = made.1 ∙ listed_entry_by n l p column list images row within c.args.p.now.size c.requires.same_size in
    let P : ℕ → Type 0 = λ i. congruence_entry n l p i column ≡ diagonal_matrix (λ i. at c.args.diagonal.now i i) i column in
    let here : IsTrue c.is_same.result ↔ P row = (
      (λ t. sym is ∙ (c.is_same.ensures.0 t ∙ c.diagonal_entry.ensures)),
      (λ e. c.is_same.ensures.1 (is ∙ (e ∙ sym c.diagonal_entry.ensures))),
    ) in
    rw add-one
    (record {
      fit = ap₂ (λ u v. u && v) c.loop-row.invariant.fit (sym fits ∙ made.0);
      same = elim c.if-not-is_same.branch [
        | then-not-is_same w ↦ decided_no P row c.loop-row.same c.is_same.result c.if-not-is_same.same c.loop-row.invariant.same here w.if-not-is_same.true w.same-is
        | else-not-is_same w ↦ decided_yes P row c.loop-row.same c.is_same.result c.if-not-is_same.same c.loop-row.invariant.same here w.if-not-is_same.false w.same-is
      ];
    })
