-- What a refusal of a text says. It is at a place of the bytes, or against what the text spells, or it is want
-- of memory; F are the reasons against what a text of a shape spells.
--
--     Cause F                 at a place, against the value for a reason, or no_memory
--     byte_of place           the byte at which a place is
--     NamesByte bytes place   it is named by that byte: Head by a letter, Number by a digit, Text by
--                             any other byte, or by the end
--     IsNamed bytes cause     the same of a cause that is at a place
--     cause fault             the cause of a fault of PD and Net texts, which of_place and of_items make
use Rattle.std.specs.Prelude.{◌≡◌, ℕ, ◌<◌, true, false, List, length, slice_index}
use Rattle.text_shapes.specs.Reach.{is_digit, is_letter}
use Rattle.pd_reader.specs.declared.fault.DiagramFault.{DiagramFault}
use Rattle.pd_reader.specs.declared.fault.DiagramFault.TheVariants as reasons
use Rattle.pd_reader.specs.declared.fault.Place.{Place}
use Rattle.pd_reader.specs.declared.fault.Place.TheVariants as places
use Rattle.pd_reader.specs.declared.fault.TextFault.{TextFault}
use Rattle.pd_reader.specs.declared.fault.TextFault.TheVariants as faults

-- why bytes are refused
pub data Cause (F : Type 0) : Type 0 where
  at_place : Place → Cause F
  against : F → Cause F
  no_memory : Cause F

-- the byte at which a place is
abbrev pub byte_of : Place → ℕ
byte_of (places.Head at) = at
byte_of (places.Number at) = at
byte_of (places.Text at) = at

-- the place is named by the byte there
abbrev pub NamesByte : List ℕ → Place → Type 0
NamesByte bytes (places.Head at) = (at < length bytes) × (is_letter (slice_index bytes at) ≡ true)
NamesByte bytes (places.Number at) = (at < length bytes) × (is_digit (slice_index bytes at) ≡ true)
NamesByte bytes (places.Text at) = at < length bytes → (is_letter (slice_index bytes at) ≡ false) × (is_digit (slice_index bytes at) ≡ false)

abbrev pub IsNamed : {F : Type 0} → List ℕ → Cause F → Type 0
IsNamed bytes (at_place place) = NamesByte bytes place
IsNamed bytes (against reason) = Unit {0}
IsNamed bytes no_memory = Unit {0}

-- ---- the faults of PD and Net texts

abbrev pub cause : TextFault → Cause DiagramFault
cause (faults.Head n) = at_place (places.Head n)
cause (faults.Number n) = at_place (places.Number n)
cause (faults.Text n) = at_place (places.Text n)
cause (faults.TooMany limit) = against (reasons.TooMany limit)
cause (faults.Label label count) = against (reasons.Label label count)
cause faults.Memory = no_memory

-- the fault at a place
abbrev pub of_place : Place → TextFault
of_place (places.Head at) = faults.Head at
of_place (places.Number at) = faults.Number at
of_place (places.Text at) = faults.Text at

-- the fault of a text whose items are refused
abbrev pub of_items : DiagramFault → TextFault
of_items (reasons.TooMany limit) = faults.TooMany limit
of_items (reasons.Label label count) = faults.Label label count
of_items reasons.Memory = faults.Memory
