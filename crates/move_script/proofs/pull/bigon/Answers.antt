use Rattle.std.proofs.Common.{◌∙◌, sym, ap, arith}
use Rattle.std.specs.List.{find}
use Rattle.std.proofs.lemmas.List.{drop_all}
use Rattle.diagram_moves.specs.Moves.{is_bigon, slot_pairs}
use Rattle.move_script.proofs.Loops.{find_here, find_more, pair_at, pairs_from}
use Rattle.move_script.proofs.pull.bigon.Goals as goal

pub returns-then-is_bigon-clause-found : goal.returns-then-is_bigon-clause-found
returns-then-is_bigon-clause-found c =
    find_here (is_bigon c.args.here.now c.args.there.now) slot_pairs c.loop-k.k (pair_at c.loop-k.k) _ c.loop-k.invariant (pairs_from c.loop-k.k c.loop-k-test.true) (sym c.is_bigon.ensures ∙ c.if-is_bigon.true)

pub loop-k-preserved : goal.loop-k-preserved
loop-k-preserved c =
    find_more (is_bigon c.args.here.now c.args.there.now) slot_pairs c.loop-k.k (pair_at c.loop-k.k) _ c.loop-k.invariant (pairs_from c.loop-k.k c.loop-k-test.true) (sym c.is_bigon.ensures ∙ c.if-is_bigon.false)

pub returns-clause-found : goal.returns-clause-found
returns-clause-found c = sym (ap (find (is_bigon c.args.here.now c.args.there.now)) (drop_all c.loop-k.k slot_pairs (omega (arith, c.loop-k-test.false)))) ∙ c.loop-k.invariant
