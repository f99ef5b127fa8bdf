use Rattle.std.proofs.Common.{subst, sym}
use Rattle.strand_algebra.specs.Laws.{IsNoncrossingOn}
use Rattle.temperley_lieb.proofs.NestedLists.{nested_pairing}
use Rattle.temperley_lieb.proofs.noncrossing.push_before_each.Goals as goal

pub nested-requires-clause-pairing : goal.nested-requires-clause-pairing
nested-requires-clause-pairing c =
    nested_pairing c.args.k c.args.rest c.args.inside.now c.outer-item.result c.requires.inside
    (subst (IsNoncrossingOn c.args.rest) (sym c.outer-item.is) (c.requires.behind c.loop-outer.outer-index c.outer-item.result c.loop-outer-test.true))
