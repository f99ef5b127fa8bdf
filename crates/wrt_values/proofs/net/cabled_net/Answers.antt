use Rattle.std.proofs.Common.{◌≡◌, ◌∙◌, Ok, ap, subst}
use Rattle.root_quantum.specs.Parameters.{Parameters}
use Rattle.planar_check.specs.Components.{greatest}
use Rattle.skein_network.specs.Refusals.{net_refusal}
use Rattle.skein_network.specs.declared.fault.CableFault.TheVariants.{NoInverse}
use Rattle.wrt_values.specs.Inverses.{inverses}
use Rattle.wrt_values.proofs.MissingInverses.{IsMissing, inverses_exist, cable_faults}
use Rattle.wrt_values.proofs.net.cabled_net.Goals as goal

pub returns-in-Ok-clause-inverses : goal.returns-in-Ok-clause-inverses
returns-in-Ok-clause-inverses c =
    let P : Parameters → Type 0 = λ p. inverses p (greatest c.args.colours.now) ≡ Ok tt in
    subst P c.in_ok-table.ensures.0 (inverses_exist c.in_ok-table.table.params (greatest c.args.colours.now) c.in-Ok.ensures.inverses)

pub returns-in-Err-NoInverse-clause-refused : goal.returns-in-Err-NoInverse-clause-refused
returns-in-Err-NoInverse-clause-refused c =
    let n = greatest c.args.colours.now in
    let top = c.in_ok-table.ensures.1 ∙ c.top_colour.ensures in
    let fit = ap (λ t. net_refusal t c.args.net.now c.args.colours.now) top ∙ c.requires in
    let missing = cable_faults c.in_ok-table.table.params n _ _ fit c.in-Err-NoInverse.ensures.refused in
    let P : Parameters → Type 0 = λ p. IsMissing p n (NoInverse c.in-Err-NoInverse.index c.in-Err-NoInverse.common) in
    subst P c.in_ok-table.ensures.0 (subst (IsMissing c.in_ok-table.table.params n) c.in-Err-NoInverse.field-0-is missing)
