use Rattle.std.proofs.Common.{◌||◌, ◌+◌, Bool, [], drop, sym, ap, ◌∙◌}
use Rattle.std.proofs.lemmas.List.{drop_more}
use Rattle.tetra_reader.specs.Tetras.{is_listed}
use Rattle.tetra_reader.proofs.tetra.is_listed.Goals as goal

pub returns-then-is_face : goal.returns-then-is_face
returns-then-is_face c =
    let here = c.if-is_face.ensures {u = tt} in
    sym (c.loop-face.invariant ∙ ap (λ fs. is_listed fs c.args.a c.args.b c.args.c) (drop_more c.args.faces.now c.loop-face.face-index [] c.loop-face-test.true) ∙ ap (λ (b : Bool). b || is_listed (drop (c.loop-face.face-index + 1) c.args.faces.now) c.args.a c.args.b c.args.c) (sym here))

pub loop-face-preserved : goal.loop-face-preserved
loop-face-preserved c =
    let here = c.if-is_face.ensures {u = tt} in
    c.loop-face.invariant ∙ ap (λ fs. is_listed fs c.args.a c.args.b c.args.c) (drop_more c.args.faces.now c.loop-face.face-index [] c.loop-face-test.true) ∙ ap (λ (b : Bool). b || is_listed (drop (c.loop-face.face-index + 1) c.args.faces.now) c.args.a c.args.b c.args.c) (sym here)
