use Rattle.std.proofs.Common.{ap, sym, ◌∙◌, arith}
use Rattle.part_labels.proofs.Forests.{StandsFor-join}
use Rattle.part_labels.proofs.forest.join.Goals as goal

pub returns-clause-joined : goal.returns-clause-joined
returns-clause-joined c = λ label h.
    let after = c.root-left.ensures.kept label h in
    let last = c.root-right.ensures.kept label after in
    let a = c.root-left.ensures.label label h in
    let b = c.root-right.ensures.label label after in
    let top_a = after.root c.root-left.result c.root-left.ensures.in_range c.root-left.ensures.root in
    let top_b = last.root c.root-right.result c.root-right.ensures.in_range c.root-right.ensures.root in
    StandsFor-join label c.root-right.new.parents c.args.left c.args.right c.max.result c.min.result (omega (arith, c.max.ensures, a, b)) (omega (arith, c.min.ensures, a, b))
    (omega (arith, c.max.ensures, c.root-left.ensures.in_range, c.root-right.ensures.in_range, c.root-right.auto.parents)) (ap label (sym a) ∙ top_a ∙ a) (ap label (sym b) ∙ top_b ∙ b) last
