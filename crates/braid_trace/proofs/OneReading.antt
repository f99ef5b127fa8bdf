-- Each input has exactly one reading as a braid.
use Rattle.std.proofs.Common.{◌≡◌, ℕ, ltb, Bool, true, false, cond, length, Option, Some, None, option_map, refl, sym, ap, ap₂, inr}
use Rattle.text_shapes.proofs.Readings.{text_read, read_unique}
use Rattle.pd_reader.specs.declared.fault.Place.{Place}
use Rattle.pd_reader.specs.declared.fault.Place.TheVariants as places
use Rattle.pd_reader.specs.Faults.{at_place, against}
use Rattle.pd_reader.proofs.Readings.{Gave, each_is_read, one_reading}
use Rattle.braid_trace.specs.declared.braid.TheConstants.{MOST_STRANDS, MOST_ENTRIES}
use Rattle.braid_trace.specs.declared.fault.BraidFault.{BraidFault}
use Rattle.braid_trace.specs.declared.fault.BraidFault.TheVariants as faults
use Rattle.braid_trace.specs.Braids.{BraidWord, IsTextBraid, braid_tokens, first_wide, refusal}
use Rattle.braid_trace.specs.Faults.{cause, of_place}
use Rattle.braid_trace.specs.Laws.{ReadingsExist, ReadingsAreUnique}
use Rattle.braid_trace.proofs.Texts.{braid_readable, braid_are_tokens}

pub is_at : (place : Place) → cause (of_place place) ≡ at_place place
is_at (places.Head n) = refl
is_at (places.Number n) = refl
is_at (places.Text n) = refl

-- a reason is no place and not want of memory
reason_kept : (many long : Bool) (given limit : ℕ) (wide : Option ℕ) (first : BraidFault) → cond many (Some (faults.Strands given)) (cond long (Some (faults.TooMany limit)) (option_map (λ at. faults.Entry at given) wide)) ≡ Some first → cause first ≡ against first
reason_kept true long given limit wide first e = (let same : faults.Strands given ≡ first = cc in rw (sym same) refl)
reason_kept false true given limit wide first e = (let same : faults.TooMany limit ≡ first = cc in rw (sym same) refl)
reason_kept false false given limit None first e = absurd cc
reason_kept false false given limit (Some at) first e = (let same : faults.Entry at given ≡ first = cc in rw (sym same) refl)

pub is_against : (braid : BraidWord) (first : BraidFault) → refusal braid ≡ Some first → cause first ≡ against first
is_against braid first e = reason_kept (ltb MOST_STRANDS braid.strands) (ltb MOST_ENTRIES (length braid.word)) braid.strands MOST_ENTRIES (first_wide braid.strands braid.word) first e

-- what the check of the braid gave
pub gave_reason : (braid : BraidWord) (fault : BraidFault) → refusal braid ≡ Some fault → Gave (cause fault) (refusal braid)
gave_reason braid fault e = inr (fault, is_against braid fault e, e)

told_apart : (f g : BraidFault) → cause f ≡ cause g → f ≡ g
told_apart (faults.Head a) (faults.Head b) e = let same : a ≡ b = cc in ap faults.Head same
told_apart (faults.Number a) (faults.Number b) e = let same : a ≡ b = cc in ap faults.Number same
told_apart (faults.Text a) (faults.Text b) e = let same : a ≡ b = cc in ap faults.Text same
told_apart (faults.Strands a) (faults.Strands b) e = let same : a ≡ b = cc in ap faults.Strands same
told_apart (faults.TooMany a) (faults.TooMany b) e = let same : a ≡ b = cc in ap faults.TooMany same
told_apart (faults.Entry a m) (faults.Entry b n) e = let same : a ≡ b = cc in let strands : m ≡ n = cc in ap₂ faults.Entry same strands
told_apart faults.Memory faults.Memory e = refl
told_apart f g e = absurd cc

-- THERE IS ONE
pub readings_exist_lem : ReadingsExist
readings_exist_lem bytes = each_is_read IsTextBraid braid_tokens refusal cause braid_are_tokens bytes of_place (λ fault. fault) is_at is_against (text_read IsTextBraid braid_tokens braid_readable bytes)

-- AND ONE ONLY
pub readings_are_unique_lem : ReadingsAreUnique
readings_are_unique_lem bytes x y h k =
    one_reading IsTextBraid braid_tokens refusal bytes (λ v w s t. read_unique IsTextBraid braid_tokens braid_are_tokens bytes (text_read IsTextBraid braid_tokens braid_readable bytes) v w s t) cause told_apart x y h k
