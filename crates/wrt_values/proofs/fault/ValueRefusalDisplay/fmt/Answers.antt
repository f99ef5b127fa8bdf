use Rattle.std.proofs.Common.{append_assoc}
use Rattle.wrt_values.specs.Refusals.{text_of_inverse, text_of_omega}
use Rattle.wrt_values.proofs.fault.ValueRefusalDisplay.fmt.Goals as goal

pub returns-in-NoInverse-clause-writes : goal.returns-in-NoInverse-clause-writes
unfolding text_of_inverse
returns-in-NoInverse-clause-writes g c = λ plain ok. rw c.in-NoInverse.is (c.write-in-NoInverse.ensures.writes plain ok)

pub returns-in-Wide-clause-writes : goal.returns-in-Wide-clause-writes
returns-in-Wide-clause-writes g c = λ plain ok. rw c.in-Wide.is (simp append_assoc (simp append_assoc at (c.write-in-Wide.ensures.writes plain ok)))

pub returns-in-Table-clause-writes : goal.returns-in-Table-clause-writes
returns-in-Table-clause-writes g c = λ plain ok. rw c.in-Table.is (c.write-in-Table.ensures.writes plain ok)

pub returns-in-Plus-clause-writes : goal.returns-in-Plus-clause-writes
unfolding text_of_omega
returns-in-Plus-clause-writes g c = λ plain ok.
    let s = c.in-NoOmegaInverse in
    rw (s.is, c.in-Plus.is) (c.write-in-Plus.ensures.writes plain ok)

pub returns-in-Minus-clause-writes : goal.returns-in-Minus-clause-writes
unfolding text_of_omega
returns-in-Minus-clause-writes g c = λ plain ok.
    let s = c.in-NoOmegaInverse in
    rw (s.is, c.in-Minus.is) (c.write-in-Minus.ensures.writes plain ok)
