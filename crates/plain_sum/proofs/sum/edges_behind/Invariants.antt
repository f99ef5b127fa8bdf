use Rattle.std.proofs.Common.{◌≡◌, ◌+◌, ◌++◌, take, map, length, zip}
use Rattle.std.specs.List.{range_with_len}
use Rattle.plain_sum.proofs.sum.edges_behind.Given as goal

abbrev pub invariant-loop-place : goal.invariant-loop-place
invariant-loop-place l =
    l.more.items ≡ l.edges ++ zip (take l.place (range_with_len l.start (length l.partners))) (map (λ partner. l.start + partner) (take l.place l.partners))
