use Rattle.std.proofs.Common.{◌≡◌, ◌-◌, ap, ◌∙◌, subst}
use Rattle.std.specs.Result.{IfOk}
use Rattle.root_quantum.specs.QuantumNumbers.{loop_value}
use Rattle.strand_algebra.specs.Projectors.{wenzl_factor}
use Rattle.temperley_lieb.specs.Elements.{Element}
use Rattle.wenzl_table.proofs.Steps.{next_made}
use Rattle.wenzl_table.proofs.building.next.Goals as goal

pub returns-clause-value : goal.returns-clause-value
returns-clause-value c =
    let p = c.args.params.now in
    let f = c.args.f.now in
    let m = p.modulus in
    let d = loop_value p in
    let P : Element → Type 0 = λ x. IfOk c.add.result (λ e. e ≡ x) in
    subst P
    (next_made m d f.strands c.factor.result (wenzl_factor m d c.args.inverse (f.strands - 1)) f.terms c.in_ok-wide.wide c.in_ok-round.round c.in_ok-rest.rest c.requires.some
    (c.in_ok-wide.ensures {u = tt}).value (c.in_ok-round.ensures {u = tt}).value (c.in_ok-rest.ensures {u = tt}).value
    (c.factor.ensures.value ∙ ap (λ k. wenzl_factor m d c.args.inverse (k - 1)) c.strands.ensures.value))
    c.add.ensures.value
