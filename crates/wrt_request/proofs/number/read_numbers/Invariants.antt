use Rattle.std.proofs.Common.{◌≡◌, ◌++◌, ◌+◌, length, drop, map}
use Rattle.std.specs.Result.{result_map_both}
use Rattle.wrt_request.specs.Numbers.{numbers_from}
use Rattle.wrt_request.proofs.number.read_numbers.Given as goal

-- The numbers that were read, before those of the texts that are left.
abbrev pub invariant-loop-text : goal.invariant-loop-text
invariant-loop-text l =
    (length l.numbers.items ≡ l.text-index)
    × (numbers_from 1 (map (λ s. s.now) l.texts) ≡ result_map_both (λ ns. l.numbers.items ++ ns) (λ fault. fault) (numbers_from (l.text-index + 1) (map (λ s. s.now) (drop l.text-index l.texts))))
