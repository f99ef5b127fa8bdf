use Rattle.std.proofs.Common.{◌≡◌, ℕ, ◌-◌, suc, Bool, not, true, if◌then◌else◌, sym, ap, ◌∙◌, arith, of_z}
use Rattle.std.specs.Int.{w128}
use Rattle.inertia_laws.specs.Matrices.{is_zero}
use Rattle.inertia_laws.proofs.FirstStep.{first_from-some, first_from-none}
use Rattle.inertia_cert.specs.Grids.{at}
use Rattle.inertia_cert.proofs.Opposites.{not_zero_test}
use Rattle.inertia_cert.proofs.places.first_not_zero.Goals as goal

pub returns-then-at-ne0-clause-value : goal.returns-then-at-ne0-clause-value
returns-then-at-ne0-clause-value c =
    let test : ℕ → Bool = λ j. not (is_zero (at c.args.matrix.now (if c.args.on_diagonal then j else c.args.after) j).num) in
    let here : test c.loop-place.place ≡ true =
    ap (λ i. not (is_zero (at c.args.matrix.now i c.loop-place.place).num)) (sym c.looked_at-row.ensures)
    ∙ ap (λ x. not (is_zero x.num)) (sym c.at.ensures)
    ∙ not_zero_test c.at.result.num (λ e. c.if-at-ne0.true (ap (of_z w128) e)) in
    sym (first_from-some (c.args.matrix.now.size - suc c.args.after) (suc c.args.after) c.loop-place.place test (omega arith) (omega arith) here (λ a low high. c.loop-place.invariant a low high))

pub returns-clause-value : goal.returns-clause-value
returns-clause-value c =
    let test : ℕ → Bool = λ j. not (is_zero (at c.args.matrix.now (if c.args.on_diagonal then j else c.args.after) j).num) in
    sym (first_from-none (c.args.matrix.now.size - suc c.args.after) (suc c.args.after) test (λ a low high. c.loop-place.invariant a low (omega arith)))
