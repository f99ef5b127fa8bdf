use Rattle.std.proofs.Common.{◌≡◌, ℕ, Bool, [], ◌∷◌, ◌++◌, length, map, slice_index, ap, ◌∙◌, arith}
use Rattle.std.specs.BTreeMap.{get}
use Rattle.std.specs.List.{range_with_len}
use Rattle.std.specs.Ordering.{nat_cmp}
use Rattle.planar_check.specs.Tables.{is_same_walk}
use Rattle.planar_check.proofs.Others.{mapped_push}
use Rattle.planar_check.proofs.sign.entered.Goals as goal

pub loop-place-preserved : goal.loop-place-preserved
loop-place-preserved c =
    let before = c.loop-place.entered.items in
    mapped_push (λ place. is_same_walk c.args.walks.now place (get nat_cmp c.args.firsts.now (slice_index c.args.leasts.now place)))
    c.loop-place.place before _ c.loop-place.invariant (c.in_ok-push.ensures.items ∙ ap (λ (b : Bool). before ++ b ∷ []) c.is_entered.ensures)

pub returns : goal.returns
returns c =
    let whole : c.loop-place.place ≡ length c.args.leasts.now = omega (arith, c.loop-place-test.false, c.loop-place.auto.place-end) in
    c.loop-place.invariant ∙ ap (λ (n : ℕ). map (λ place. is_same_walk c.args.walks.now place (get nat_cmp c.args.firsts.now (slice_index c.args.leasts.now place))) (range_with_len 0 n)) whole
