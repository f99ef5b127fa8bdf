use Rattle.strand_algebra.proofs.PairingLaws as proof
use Rattle.strand_algebra.proofs.laws.straight_strands_change_nothing.Goals as goal

pub returns : goal.returns
returns c = proof.keeps_both_sides
