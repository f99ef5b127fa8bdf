-- How bytes are refused as a braid, and what they are read as. (This project's own.)
--
--     cause fault                   what a fault says: a place, a reason against the braid, or want of memory
--     IsBraidRefusal bytes fault    a refusal of bytes
--     IsBraidReading bytes result   the bytes are a text of this braid, or are refused for that fault
use Rattle.std.specs.Prelude.{ℕ, List, Result}
use Rattle.pd_reader.specs.Answers.{IsReadAs, IsRefusal}
use Rattle.pd_reader.specs.Faults.{Cause, at_place, against, no_memory}
use Rattle.pd_reader.specs.declared.fault.Place.{Place}
use Rattle.pd_reader.specs.declared.fault.Place.TheVariants as places
use Rattle.braid_trace.specs.declared.fault.BraidFault.{BraidFault}
use Rattle.braid_trace.specs.declared.fault.BraidFault.TheVariants as faults
use Rattle.braid_trace.specs.Braids.{BraidWord, IsTextBraid, braid_tokens, refusal}

abbrev pub cause : BraidFault → Cause BraidFault
cause (faults.Head n) = at_place (places.Head n)
cause (faults.Number n) = at_place (places.Number n)
cause (faults.Text n) = at_place (places.Text n)
cause (faults.Strands given) = against (faults.Strands given)
cause (faults.TooMany limit) = against (faults.TooMany limit)
cause (faults.Entry n strands) = against (faults.Entry n strands)
cause faults.Memory = no_memory

-- the fault at a place
abbrev pub of_place : Place → BraidFault
of_place (places.Head n) = faults.Head n
of_place (places.Number n) = faults.Number n
of_place (places.Text n) = faults.Text n

abbrev pub IsBraidRefusal : List ℕ → BraidFault → Type 0
IsBraidRefusal bytes fault = IsRefusal IsTextBraid braid_tokens refusal bytes (cause fault)

abbrev pub IsBraidReading : List ℕ → Result BraidWord BraidFault → Type 0
IsBraidReading = IsReadAs IsTextBraid braid_tokens refusal cause
