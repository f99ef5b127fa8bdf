use Rattle.tetra_sum.proofs.known.find.Given as goal

abbrev pub invariant-loop-there : goal.invariant-loop-there
invariant-loop-there l = Unit {0}
