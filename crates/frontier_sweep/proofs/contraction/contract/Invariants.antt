use Rattle.frontier_sweep.proofs.Contractions.{IsContractedTo}
use Rattle.frontier_sweep.proofs.contraction.contract.Given as goal

abbrev pub invariant-loop-taken : goal.invariant-loop-taken
invariant-loop-taken g l = IsContractedTo (g.C.Choose.answers l.chooser) l.powers.modulus l.powers.delta l.network l.taken l.frontier l.own
