-- Laws over the definitions alone.
use Rattle.std.specs.Prelude.{◌≡◌, ℕ, List, Result}
use Rattle.braid_trace.specs.declared.fault.BraidFault.{BraidFault}
use Rattle.braid_trace.specs.Braids.{BraidWord}
use Rattle.braid_trace.specs.Faults.{IsBraidReading}

-- all bytes have a reading
abbrev pub ReadingsExist : Type 0
ReadingsExist = (bytes : List ℕ) → (reading : Result BraidWord BraidFault) × IsBraidReading bytes reading

-- and no two
abbrev pub ReadingsAreUnique : Type 0
ReadingsAreUnique = (bytes : List ℕ) (x y : Result BraidWord BraidFault) → IsBraidReading bytes x → IsBraidReading bytes y → x ≡ y
