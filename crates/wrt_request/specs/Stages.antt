-- What a call that reads a part of a command line answers. (This project's own.)
--
--     after part next              what follows from the part, or the refusal of the part
--     Fails defined fault          the definition refuses for this fault, or memory was wanting
--     Reads view defined result    the value of `result`, so viewed, is the definition's; or it fails so
use Rattle.std.specs.Prelude.{◌≡◌, Result, Ok, Err}
use Rattle.wrt_request.specs.declared.fault.PartsRefusal.{PartsRefusal}
use Rattle.wrt_request.specs.declared.fault.PartsFault.{PartsFault}
use Rattle.wrt_request.specs.declared.fault.PartsFault.TheVariants.{Refused, Memory}

-- What follows from the part, or the refusal of the part.
abbrev pub after : {A B R : Type 0} → Result A R → (A → Result B R) → Result B R
after (Ok part) next = next part
after (Err refusal) next = Err refusal

-- The definition's refusal, or want of memory.
abbrev pub Fails : {A : Type 0} → Result A PartsRefusal → PartsFault → Type 0
Fails defined (Refused refusal) = defined ≡ Err refusal
Fails defined Memory = Unit {0}

-- The definition's value, or its refusal, or want of memory.
abbrev pub Reads : {A B : Type 0} → (B → A) → Result A PartsRefusal → Result B PartsFault → Type 0
Reads view defined (Ok part) = defined ≡ Ok (view part)
Reads view defined (Err fault) = Fails defined fault
