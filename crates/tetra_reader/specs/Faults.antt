-- How bytes are refused as tetrahedra, and what they are read as. (This project's own.)
--
--     cause fault                   what a fault says: a place, a reason against the items, or want of memory
--     IsTetraRefusal bytes fault    a refusal of bytes
--     IsTetraReading bytes result   the bytes are a text of these items, or are refused for that fault
use Rattle.std.specs.Prelude.{ℕ, List, Result}
use Rattle.std.specs.List.{AllByRecursion}
use Rattle.pd_reader.specs.Answers.{IsReadAs, IsRefusal}
use Rattle.pd_reader.specs.Faults.{Cause, at_place, against, no_memory}
use Rattle.pd_reader.specs.declared.fault.Place.{Place}
use Rattle.pd_reader.specs.declared.fault.Place.TheVariants as places
use Rattle.tetra_reader.specs.declared.item.TetraItem.{TetraItem}
use Rattle.tetra_reader.specs.declared.fault.TetraText.{TetraText}
use Rattle.tetra_reader.specs.declared.fault.TetraText.TheVariants as faults
use Rattle.tetra_reader.specs.Tetras.{IsTextTetraItem, tetra_tokens, refusal}

abbrev pub cause : TetraText → Cause TetraText
cause (faults.Head n) = at_place (places.Head n)
cause (faults.Number n) = at_place (places.Number n)
cause (faults.Text n) = at_place (places.Text n)
cause (faults.TooMany limit) = against (faults.TooMany limit)
cause (faults.Face tetrahedron) = against (faults.Face tetrahedron)
cause faults.Memory = no_memory

-- the fault at a place
abbrev pub of_place : Place → TetraText
of_place (places.Head n) = faults.Head n
of_place (places.Number n) = faults.Number n
of_place (places.Text n) = faults.Text n

abbrev pub IsTetraRefusal : List ℕ → TetraText → Type 0
IsTetraRefusal bytes fault = IsRefusal (AllByRecursion IsTextTetraItem) tetra_tokens refusal bytes (cause fault)

abbrev pub IsTetraReading : List ℕ → Result (List TetraItem) TetraText → Type 0
IsTetraReading = IsReadAs (AllByRecursion IsTextTetraItem) tetra_tokens refusal cause
