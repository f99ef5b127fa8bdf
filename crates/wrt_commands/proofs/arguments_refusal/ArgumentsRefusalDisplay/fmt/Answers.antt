use Rattle.wrt_commands.proofs.arguments_refusal.ArgumentsRefusalDisplay.fmt.Goals as goal

pub returns-in-ColourCount-clause-writes : goal.returns-in-ColourCount-clause-writes
returns-in-ColourCount-clause-writes g c = λ plain ok. rw c.in-ColourCount.is (c.write.ensures.writes plain ok)

pub returns-in-ColourTooLarge-clause-writes : goal.returns-in-ColourTooLarge-clause-writes
returns-in-ColourTooLarge-clause-writes g c = λ plain ok. rw c.in-ColourTooLarge.is (c.write-in-ColourTooLarge.ensures.writes plain ok)

pub returns-in-Unequal-clause-writes : goal.returns-in-Unequal-clause-writes
returns-in-Unequal-clause-writes g c = λ plain ok. rw c.in-Unequal.is (c.write-in-Unequal.ensures.writes plain ok)

pub returns-in-NotAdmissible-clause-writes : goal.returns-in-NotAdmissible-clause-writes
returns-in-NotAdmissible-clause-writes g c = λ plain ok. rw c.in-NotAdmissible.is (c.write-in-NotAdmissible.ensures.writes plain ok)

pub returns-in-Order-clause-writes : goal.returns-in-Order-clause-writes
returns-in-Order-clause-writes g c = λ plain ok. rw c.in-Order.is (c.write-in-Order.ensures.writes plain ok)

pub returns-in-FramingCount-clause-writes : goal.returns-in-FramingCount-clause-writes
returns-in-FramingCount-clause-writes g c = λ plain ok. rw c.in-FramingCount.is (c.write-in-FramingCount.ensures.writes plain ok)
