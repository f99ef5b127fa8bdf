use Rattle.wrt_commands.proofs.braid_refusal.BraidRefusalDisplay.fmt.Goals as goal

pub returns-in-Entry-clause-writes : goal.returns-in-Entry-clause-writes
returns-in-Entry-clause-writes g c = λ plain ok. rw c.in-Entry.is (c.write-in-Entry.ensures.writes plain ok)
