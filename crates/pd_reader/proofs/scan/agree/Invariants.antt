use Rattle.std.proofs.Common.{length, ◌-◌, ◌≡◌, ◌+◌, ◌≤◌, drop}
use Rattle.text_shapes.specs.Reach.{common}
use Rattle.text_shapes.proofs.Scans.{agreed}
use Rattle.pd_reader.proofs.scan.agree.Given as goal

abbrev pub invariant-loop-count : goal.invariant-loop-count
invariant-loop-count l = record {
  in_word : l.count ≤ length l.word;
  in_bytes : l.at + l.count ≤ length l.bytes;
  same : agreed l.bytes l.word l.at l.count ≡ common l.word (drop l.at l.bytes);
}

abbrev pub decreases-loop-count : goal.decreases-loop-count
decreases-loop-count l = length l.word - l.count
