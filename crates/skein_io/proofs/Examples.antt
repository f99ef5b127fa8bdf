-- The definitions, at small values.
use Rattle.std.proofs.Common.{◌≡◌, ◌-◌, ◌^◌, [], ◌∷◌, Some, None, refl, arith}
use Rattle.skein_io.specs.Faults.{one_more, Rose}
use Rattle.skein_io.specs.Source.{Takes, TakesExactly, IsSuffix}
use Rattle.skein_io.specs.Sink.{Appends}

-- counts of faults, below their end and at it
rose_by_one : Rose 3 4
rose_by_one = omega arith

rose_by_four : Rose 3 7
rose_by_four = omega arith

did_not_rise : Rose 3 3 → ⊥
did_not_rise rose = omega arith

rose_at_the_end : Rose (2 ^ 64 - 1) (2 ^ 64 - 1)
rose_at_the_end = omega arith

stops : one_more (2 ^ 64 - 1) ≡ 2 ^ 64 - 1
stops = refl

-- 5, 6 are taken from 5, 6, 7, and 7 is left
takes : Takes (Some (5 ∷ 6 ∷ 7 ∷ [])) (5 ∷ 6 ∷ []) (Some (7 ∷ []))
takes = (7 ∷ [], refl, refl)

takes_two : TakesExactly 2 (Some (5 ∷ 6 ∷ 7 ∷ [])) (Some (7 ∷ []))
takes_two = (5 ∷ 6 ∷ [], refl, takes)

is_suffix : IsSuffix (Some (7 ∷ [])) (Some (5 ∷ 6 ∷ 7 ∷ []))
is_suffix = (5 ∷ 6 ∷ [], takes)

untold : Takes None (5 ∷ 6 ∷ []) None
untold = refl

-- 7, 8 are appended behind 5, 6
appends : Appends (Some (5 ∷ 6 ∷ [])) (7 ∷ 8 ∷ []) (Some (5 ∷ 6 ∷ 7 ∷ 8 ∷ []))
appends = refl
