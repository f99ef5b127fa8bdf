-- Laws over the definitions alone.
use Rattle.std.specs.Prelude.{◌≡◌, ℕ, List, Result}
use Rattle.tetra_reader.specs.declared.item.TetraItem.{TetraItem}
use Rattle.tetra_reader.specs.declared.fault.TetraText.{TetraText}
use Rattle.tetra_reader.specs.Faults.{IsTetraReading}

-- all bytes have a reading
abbrev pub ReadingsExist : Type 0
ReadingsExist = (bytes : List ℕ) → (reading : Result (List TetraItem) TetraText) × IsTetraReading bytes reading

-- and no two
abbrev pub ReadingsAreUnique : Type 0
ReadingsAreUnique = (bytes : List ℕ) (x y : Result (List TetraItem) TetraText) → IsTetraReading bytes x → IsTetraReading bytes y → x ≡ y
