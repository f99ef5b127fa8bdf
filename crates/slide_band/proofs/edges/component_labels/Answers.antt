use Rattle.std.proofs.Common.{ap, length, arith}
use Rattle.slide_laws.proofs.FewLabels.{distinct_short}
use Rattle.slide_band.proofs.edges.component_labels.Goals as goal

pub returns-clause-few : goal.returns-clause-few
returns-clause-few c =
    let all = ap length c.deref.ensures.value in
    let few = c.in_ok-all.ensures.few in
    let made = ap length c.in_ok-labels.ensures in
    omega (arith, all, few, made, distinct_short c.deref.result.now)
