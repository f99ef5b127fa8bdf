use Rattle.std.proofs.Common.{◌≡◌, ◌-◌, ◌++◌, map, sym, ap, ap₂, ◌∙◌, arith}
use Rattle.std.specs.List.{flat_map, range_with_len}
use Rattle.strand_algebra.specs.Noncrossing.{nested}
use Rattle.temperley_lieb.proofs.NestedLists.{all_noncrossing_at, around, noncrossing_round, round_more}
use Rattle.temperley_lieb.proofs.noncrossing.+noncrossing.Goals as goal

pub push_around-requires-clause-inner : goal.push_around-requires-clause-inner
push_around-requires-clause-inner t c = all_noncrossing_at c.loop-k.k c.deref.result.now (c.deref.ensures.value ∙ c.in_ok-inner.ensures {u = tt})

pub push_around-requires-clause-behind : goal.push_around-requires-clause-behind
push_around-requires-clause-behind t c = all_noncrossing_at (c.args.strands - 1 - c.loop-k.k) c.deref-in-loop-k.result.now (c.deref-in-loop-k.ensures.value ∙ c.in_ok-behind.ensures {u = tt})

pub loop-k-preserved : goal.loop-k-preserved
loop-k-preserved t c =
    let k = c.loop-k.k in
    c.in_ok-push_around.ensures {u = tt}
    ∙ ap₂ (λ xs ys. c.loop-k.list.items ++ flat_map (λ inside. map (nested k inside) xs) ys)
    (c.deref-in-loop-k.ensures.value ∙ c.in_ok-behind.ensures {u = tt}) (c.deref.ensures.value ∙ c.in_ok-inner.ensures {u = tt})
    ∙ ap (λ zs. zs ++ around c.args.strands k) c.loop-k.invariant
    ∙ sym (round_more c.args.strands k)

pub returns : goal.returns
returns t c =
    let whole : c.loop-k.k ≡ c.args.strands = omega arith in
    c.loop-k.invariant ∙ ap (λ k. flat_map (around c.args.strands) (range_with_len 0 k)) whole ∙ noncrossing_round c.args.strands (omega arith)
