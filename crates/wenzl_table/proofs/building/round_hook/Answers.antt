use Rattle.std.proofs.Common.{◌≡◌, subst}
use Rattle.std.specs.Result.{IfOk}
use Rattle.root_quantum.specs.QuantumNumbers.{loop_value}
use Rattle.temperley_lieb.specs.Elements.{Element}
use Rattle.wenzl_table.proofs.Steps.{round_is}
use Rattle.wenzl_table.proofs.building.round_hook.Goals as goal

pub returns-clause-value : goal.returns-clause-value
returns-clause-value c =
    let p = c.args.params.now in
    let f = c.args.f.now in
    let P : Element → Type 0 = λ x. IfOk c.multiply-2.result (λ e. e ≡ x) in
    subst P
    (round_is p.modulus (loop_value p) f.strands c.strands.result c.strands-2.result f.terms c.in_ok-last.last c.in_ok-hooked.hooked c.strands.ensures.value c.strands-2.ensures.value
    (c.in_ok-last.ensures {u = tt}).value (c.in_ok-hooked.ensures {u = tt}).value)
    c.multiply-2.ensures.value
