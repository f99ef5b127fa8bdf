use Rattle.std.proofs.Common.{◌<◌, get_or, ◌∙◌, arith, length-set}
use Rattle.std.proofs.lemmas.Bool.Decides.{nat_tests}
use Rattle.part_labels.proofs.Forests.{IsDescending-set, StandsFor-halve}
use Rattle.part_labels.proofs.forest.root.Goals as goal

pub loop-parents-preserved : goal.loop-parents-preserved
loop-parents-preserved c =
    let ps = c.loop-parents.parents in
    let at = c.loop-parents.at in
    let parent = get_or ps at 0 in
    let above = get_or ps parent 0 in
    let within = c.loop-parents.invariant.0 in
    let descends = c.loop-parents.invariant.1 in
    let first = descends at within in
    let below : parent < at = grind (arith, nat_tests, first, c.loop-parents-test.true) in
    let second = descends parent (omega (arith, below, within)) in
    let falls : above < at = omega (arith, below, second) in
    let n = length-set ps at above in (
      omega (arith, n, falls, within),
      IsDescending-set ps at above within (omega (arith, falls)) descends,
      λ label h.
          let known = c.loop-parents.invariant.2 label h in
          let like = known.1.same parent (omega (arith, below, within)) ∙ known.1.same at within in
          (like ∙ known.0, StandsFor-halve ps at above within label falls like known.1),
    )
