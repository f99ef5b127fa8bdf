-- What the words of a command line come to: their parts, or none where `clap` refuses them. (This project's own, in the
-- words of `clap`'s definition.)
--
--     command_line words        the word `wrtcalc`, and then the words
--     is_taken line             `clap` has no fault against the command line
--     takes_line line           the definition of `clap` takes the command line
--     line_texts line           the parts of the command line, or none where `clap` has a fault against it
--     parts_of words            the same by the words behind the program's name
--     AnswersWords texts result       the call answers with these parts, or refuses where there are none, but for memory
--
-- The words "bracket 41 --turns 2 5" have the command "bracket", the numbers "41", "2" and "5" and the flag; "--turns" alone
-- has no parts (proofs/Examples.antt).
use Rattle.std.specs.Prelude.{◌≡◌, Result, Ok, Err, Bool, List, ◌∷◌, Option, Some, None, if◌then◌else◌, codes}
use Rattle.clap.specs.Walk.{is_empty}
use Rattle.clap.specs.Simple.{matches_of}
use Rattle.clap.specs.Faults.{fault_of}
use Rattle.clap.specs.Takes.{takes}
use Rattle.wrt_parts.specs.Texts.{Text, Texts, texts_of}
use Rattle.wrt_parts.specs.declared.parts.Parts.{Parts}
use Rattle.wrt_words.specs.Program.{program_app}
use Rattle.wrt_words.specs.Matched.{texts_in}
use Rattle.wrt_words.specs.declared.fault.WordsFault.{WordsFault}
use Rattle.wrt_words.specs.declared.fault.WordsFault.TheVariants.{Refused, Memory}

-- The word `wrtcalc`, and then the words.
abbrev pub command_line : List Text → List Text
command_line words = codes "wrtcalc" ∷ words

-- `clap` has no fault against the command line.
unfoldable pub is_taken : List Text → Bool
is_taken line = is_empty (fault_of program_app line)

-- The definition of `clap` takes the command line.
unfoldable pub takes_line : List Text → Bool
takes_line line = takes program_app line

-- The parts of the command line by what `clap` matches.
unfoldable pub matched_texts : List Text → Texts
matched_texts line = texts_in (matches_of program_app line)

-- The parts of the command line, where `clap` takes it.
unfoldable pub line_texts : List Text → Option Texts
line_texts line = if is_taken line then Some (matched_texts line) else None

-- The parts of the words behind the program's name.
abbrev pub parts_of : List Text → Option Texts
parts_of words = line_texts (command_line words)

-- The call answers with these parts, or refuses where there are none; memory may be wanting at any words.
abbrev pub AnswersWords : Option Texts → Result Parts WordsFault → Type 0
AnswersWords texts (Ok parts) = texts ≡ Some (texts_of parts)
AnswersWords texts (Err Refused) = texts ≡ None
AnswersWords texts (Err Memory) = Unit {0}
