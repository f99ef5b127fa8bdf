use Rattle.std.proofs.Common.{◌++◌, ◌∷◌, [], ℕ, slice_index, ap, ◌∙◌}
use Rattle.planar_check.specs.Components.{rank}
use Rattle.planar_check.proofs.Others.{mapped_more}
use Rattle.planar_check.proofs.sign.leasts_at.Goals as goal

pub loop-label-preserved : goal.loop-label-preserved
loop-label-preserved c =
    let before = c.loop-label.found.items in
    mapped_more (λ label. slice_index c.args.leasts.now (rank c.args.names.now label)) c.args.labels.now c.loop-label.label-index before _ c.loop-label-test.true c.loop-label.invariant
    (c.in_ok-push.ensures.items ∙ ap (λ (k : ℕ). before ++ slice_index c.args.leasts.now k ∷ []) c.rank.ensures)
