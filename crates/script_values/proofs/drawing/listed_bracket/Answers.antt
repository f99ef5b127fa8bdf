use Rattle.std.proofs.Common.{ℕ, ap, subst}
use Rattle.frontier_laws.specs.Orders.{View}
use Rattle.frontier_sweep.specs.Next.{next_of}
use Rattle.wrt_values.specs.Values.{Gives, bracket_value}
use Rattle.script_values.proofs.drawing.listed_bracket.Goals as goal

pub returns : goal.returns
returns c =
    let N : (View → ℕ) → Type 0 = λ next. Gives (bracket_value next c.args.params.now c.args.planar.now) c.bracket_value.result in
    subst N (ap next_of c.keep-listed.ensures) c.bracket_value.ensures
