use Rattle.std.proofs.Common.{◌≡◌, ℕ, ap, ◌∙◌, [], ◌∷◌, ◌++◌, map, arith}
use Rattle.std.specs.List.{range_with_len}
use Rattle.planar_check.specs.Tables.{signed_from}
use Rattle.planar_check.proofs.Others.{mapped_push}
use Rattle.planar_check.proofs.sign.signed_crossings.Goals as goal

pub returns-clause-crossings : goal.returns-clause-crossings
returns-clause-crossings c =
    let whole : c.loop-crossing.crossing ≡ c.args.count = omega (arith, c.loop-crossing-test.false, c.loop-crossing.auto.crossing-end) in
    c.loop-crossing.invariant.are ∙ ap (λ (n : ℕ). map (signed_from c.args.entered.now c.args.leasts.now c.args.all.now) (range_with_len 0 n)) whole

pub loop-crossing-preserved : goal.loop-crossing-preserved
loop-crossing-preserved c =
    let before = c.loop-crossing.crossings.items in
    record {
      are = mapped_push (signed_from c.args.entered.now c.args.leasts.now c.args.all.now) c.loop-crossing.crossing before _ c.loop-crossing.invariant.are
          (c.in_ok-push.ensures.items ∙ ap (λ x. before ++ x ∷ []) c.signed_at.ensures);
      few = omega (arith, c.in_ok-push.ensures.len, c.loop-crossing.invariant.few);
    }
