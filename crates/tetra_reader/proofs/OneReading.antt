-- Each input has exactly one reading as tetrahedra.
use Rattle.std.proofs.Common.{◌≡◌, ◌⊎◌, ℕ, ltb, Bool, true, false, cond, length, List, Option, Some, None, option_map, refl, sym, ap, inl, inr}
use Rattle.std.specs.List.{AllByRecursion}
use Rattle.text_shapes.proofs.Readings.{read_unique}
use Rattle.pd_reader.specs.declared.fault.Place.{Place}
use Rattle.pd_reader.specs.declared.fault.Place.TheVariants as places
use Rattle.pd_reader.specs.Faults.{at_place, against}
use Rattle.pd_reader.proofs.Readings.{Gave, each_is_read, one_reading}
use Rattle.tetra_reader.specs.declared.tetra.TheConstants.{MOST_ITEMS}
use Rattle.tetra_reader.specs.declared.item.TetraItem.{TetraItem}
use Rattle.tetra_reader.specs.declared.fault.TetraText.{TetraText}
use Rattle.tetra_reader.specs.declared.fault.TetraText.TheVariants as faults
use Rattle.tetra_reader.specs.Tetras.{IsTextTetraItem, tetra_tokens, faces_of, tetrahedra_of, first_unlisted, refusal}
use Rattle.tetra_reader.specs.Faults.{cause, of_place}
use Rattle.tetra_reader.specs.Laws.{ReadingsExist, ReadingsAreUnique}
use Rattle.tetra_reader.proofs.ItemCalls.{tetra_are_tokens, tetra_read}

pub is_at : (place : Place) → cause (of_place place) ≡ at_place place
is_at (places.Head n) = refl
is_at (places.Number n) = refl
is_at (places.Text n) = refl

-- a reason is no place and not want of memory
reason_kept : (many : Bool) (limit : ℕ) (unlisted : Option ℕ) (first : TetraText) → cond many (Some (faults.TooMany limit)) (option_map (λ t. faults.Face t) unlisted) ≡ Some first → cause first ≡ against first
reason_kept true limit unlisted first e = (let same : faults.TooMany limit ≡ first = cc in rw (sym same) refl)
reason_kept false limit None first e = absurd cc
reason_kept false limit (Some t) first e = (let same : faults.Face t ≡ first = cc in rw (sym same) refl)

pub is_against : (v : List TetraItem) (first : TetraText) → refusal v ≡ Some first → cause first ≡ against first
is_against v first e = reason_kept (ltb MOST_ITEMS (length v)) MOST_ITEMS (first_unlisted (faces_of v) (tetrahedra_of v)) first e

-- what the check of the items gave
pub gave_reason : (v : List TetraItem) (fault : TetraText) → (fault ≡ faults.Memory) ⊎ (refusal v ≡ Some fault) → Gave (cause fault) (refusal v)
gave_reason v fault (inl e) = inl (ap cause e)
gave_reason v fault (inr e) = inr (fault, is_against v fault e, e)

told_apart : (f g : TetraText) → cause f ≡ cause g → f ≡ g
told_apart (faults.Head a) (faults.Head b) e = let same : a ≡ b = cc in ap faults.Head same
told_apart (faults.Number a) (faults.Number b) e = let same : a ≡ b = cc in ap faults.Number same
told_apart (faults.Text a) (faults.Text b) e = let same : a ≡ b = cc in ap faults.Text same
told_apart (faults.TooMany a) (faults.TooMany b) e = let same : a ≡ b = cc in ap faults.TooMany same
told_apart (faults.Face a) (faults.Face b) e = let same : a ≡ b = cc in ap faults.Face same
told_apart faults.Memory faults.Memory e = refl
told_apart f g e = absurd cc

-- THERE IS ONE
pub readings_exist_lem : ReadingsExist
readings_exist_lem bytes =
    each_is_read (AllByRecursion IsTextTetraItem) tetra_tokens refusal cause tetra_are_tokens bytes of_place (λ fault. fault) is_at is_against (tetra_read bytes)

-- AND ONE ONLY
pub readings_are_unique_lem : ReadingsAreUnique
readings_are_unique_lem bytes x y h k =
    one_reading (AllByRecursion IsTextTetraItem) tetra_tokens refusal bytes (λ v w s t. read_unique (AllByRecursion IsTextTetraItem) tetra_tokens tetra_are_tokens bytes (tetra_read bytes) v w s t) cause told_apart x y h k
