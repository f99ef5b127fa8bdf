use Rattle.std.proofs.Common.{length, arith}
use Rattle.arc_pairing.proofs.SeamLists.{first_slot}
use Rattle.arc_pairing.proofs.seam.slot_of.Goals as goal

pub returns-then-name-other-clause-slot : goal.returns-then-name-other-clause-slot
returns-then-name-other-clause-slot c = first_slot c.args.all.now c.args.name c.loop-place.place (omega arith) c.loop-place.invariant (λ l. c.if-name-other.true)

pub returns-clause-slot : goal.returns-clause-slot
returns-clause-slot c =
    first_slot c.args.all.now c.args.name (length c.args.all.now) (omega arith) (λ k l. c.loop-place.invariant k (omega (arith, l))) (λ l. absurd (omega (arith, l)))
