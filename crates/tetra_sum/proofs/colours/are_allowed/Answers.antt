use Rattle.std.proofs.Common.{◌&&◌, ◌+◌, Bool, [], drop, sym, ap, ◌∙◌}
use Rattle.std.proofs.lemmas.List.{drop_more}
use Rattle.tetra_sum.specs.Colourings.{are_allowed}
use Rattle.tetra_sum.proofs.colours.are_allowed.Goals as goal

pub returns-then-not-allows : goal.returns-then-not-allows
returns-then-not-allows c =
    let here = c.if-not-allows.ensures {u = tt} in
    sym (c.loop-face.invariant ∙ ap (are_allowed c.args.r c.args.labels.now c.args.colours.now) (drop_more c.args.faces.now c.loop-face.face-index [] c.loop-face-test.true) ∙ ap (λ (b : Bool). b && are_allowed c.args.r c.args.labels.now c.args.colours.now (drop (c.loop-face.face-index + 1) c.args.faces.now)) (sym here))

pub loop-face-preserved : goal.loop-face-preserved
loop-face-preserved c =
    let here = c.if-not-allows.ensures {u = tt} in
    c.loop-face.invariant ∙ ap (are_allowed c.args.r c.args.labels.now c.args.colours.now) (drop_more c.args.faces.now c.loop-face.face-index [] c.loop-face-test.true) ∙ ap (λ (b : Bool). b && are_allowed c.args.r c.args.labels.now c.args.colours.now (drop (c.loop-face.face-index + 1) c.args.faces.now)) (sym here)
