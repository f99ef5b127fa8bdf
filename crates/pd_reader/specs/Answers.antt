-- What a reader of texts of any shape answers. A shape says which values fit it, which tokens spell each, and
-- what the reason against a value is, if there is one; E are the reader's faults, and each has a cause.
--
--     Answers cause reason value result    what the reader answers to a text of the value, where reason is the
--                                          reason against it: the value, or the reason, and it may always
--                                          answer want of memory
--     IsRefusal fits tokens reason bytes c    bytes are refused for c: at a place they stop being the
--                                          beginning of a text, and otherwise they are a text of a value that
--                                          there is this reason against
--     IsReadAs fits tokens reason cause bytes result    the bytes are a text of this value, which there is no
--                                          reason against, or are refused for this fault, but not for want of
--                                          memory: so it says what the bytes are, whoever reads them
use Rattle.std.specs.Prelude.{◌≡◌, ◌≢◌, ◌⊎◌, ℕ, List, Option, Some, None, Result, Ok, Err}
use Rattle.text_shapes.specs.Shapes.{IsText, IsLongestBeginning}
use Rattle.pd_reader.specs.Faults.{Cause, at_place, against, no_memory, byte_of, IsNamed}

-- the value, or the reason against it
module _ {V F E : Type 0} (cause : E → Cause F) where
  abbrev pub Answers : Option F → V → Result V E → Type 0
  Answers None value (Ok read) = read ≡ value
  Answers None value (Err fault) = cause fault ≡ no_memory
  Answers (Some reason) value (Ok read) = ⊥
  Answers (Some reason) value (Err fault) = (cause fault ≡ no_memory) ⊎ (cause fault ≡ against reason)

module _ {V F : Type 0} (fits : V → Type 0) (tokens : V → List (List ℕ)) (reason : V → Option F) (bytes : List ℕ) where
  -- the bytes are no text, and stop being the beginning of one at the place
  abbrev pub StopsAtPlace : ℕ → Type 0
  StopsAtPlace place = IsLongestBeginning fits tokens bytes place × ((value : V) → IsText fits tokens bytes value → ⊥)

  -- the bytes are a text of a value that there is this reason against
  abbrev pub IsRefusedText : F → Type 0
  IsRefusedText first = (value : V) × IsText fits tokens bytes value × (reason value ≡ Some first)

  abbrev pub IsRefusal : Cause F → Type 0
  IsRefusal (at_place place) = StopsAtPlace (byte_of place)
  IsRefusal (against first) = IsRefusedText first
  IsRefusal no_memory = Unit {0}

-- what the bytes are
module _ {V F E : Type 0} (fits : V → Type 0) (tokens : V → List (List ℕ)) (reason : V → Option F) (cause : E → Cause F) (bytes : List ℕ) where
  abbrev pub IsReadAs : Result V E → Type 0
  IsReadAs (Ok value) = IsText fits tokens bytes value × (reason value ≡ None)
  IsReadAs (Err fault) = (cause fault ≢ no_memory) × IsRefusal fits tokens reason bytes (cause fault) × IsNamed bytes (cause fault)
