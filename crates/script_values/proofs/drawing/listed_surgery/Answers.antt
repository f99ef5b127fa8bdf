use Rattle.std.proofs.Common.{ℕ, ap, subst}
use Rattle.frontier_laws.specs.Orders.{View}
use Rattle.frontier_sweep.specs.Next.{next_of}
use Rattle.wrt_values.specs.Surgery.{surgery_value}
use Rattle.wrt_values.specs.Values.{Gives}
use Rattle.script_values.proofs.drawing.listed_surgery.Goals as goal

pub returns : goal.returns
returns g c =
    let N : (View → ℕ) → Type 0 = λ next. Gives (surgery_value next c.args.params.now c.args.framed.now) c.surgery_value.result in
    subst N (ap next_of c.keep-listed.ensures) c.surgery_value.ensures
