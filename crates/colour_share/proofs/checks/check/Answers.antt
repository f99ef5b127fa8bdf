use Rattle.std.proofs.Common.{subst}
use Rattle.wenzl_table.specs.Inverses.{AreCoprime}
use Rattle.colour_share.proofs.checks.check.Goals as goal

pub returns-in_ok-check_inverses-clause-inverses : goal.returns-in_ok-check_inverses-clause-inverses
returns-in_ok-check_inverses-clause-inverses c =
    λ some. subst (AreCoprime c.args.params.now) c.greatest_colour.ensures.colour ((c.in_ok-check_inverses.ensures {u = tt}).coprime)
