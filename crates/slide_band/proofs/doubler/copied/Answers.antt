use Rattle.std.proofs.Common.{◌+◌, sym, ap, ◌∙◌, arith}
use Rattle.slide_band.proofs.Ranks.{rank_is}
use Rattle.slide_band.proofs.doubler.copied.Goals as goal

pub returns-then-name-x : goal.returns-then-name-x
returns-then-name-x c =
    ap (λ n. c.args.first + n)
    (c.loop-name.invariant.counted ∙ sym (rank_is c.args.names.now c.args.x c.loop-name.name-index (omega arith) c.loop-name.invariant.before (λ h. c.if-name-x.true)))

pub returns : goal.returns
returns c =
    ap (λ n. c.args.first + n)
    (c.loop-name.invariant.counted ∙ sym (rank_is c.args.names.now c.args.x c.loop-name.name-index (omega arith) c.loop-name.invariant.before (λ h. absurd (omega (arith, h)))))
