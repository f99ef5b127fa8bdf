use Rattle.std.proofs.Common.{◌≡◌, take}
use Rattle.pd_reader.proofs.Least.{least_among}
use Rattle.pd_reader.proofs.label.unpaired.Given as goal

-- the least label so far that doesn't stand twice
abbrev pub invariant-loop-label : goal.invariant-loop-label
invariant-loop-label l = l.least ≡ least_among l.labels (take l.label-index l.labels)
