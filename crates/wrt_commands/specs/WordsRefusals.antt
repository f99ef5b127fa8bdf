-- Refused words: their status and their lines. (This project's own.)
use Rattle.std.specs.Prelude.{ℕ, List, ◌++◌, codes, decimal}
use Rattle.wrt_request.specs.Options.{name_of}
use Rattle.wrt_request.specs.declared.fault.PartsRefusal.{PartsRefusal}
use Rattle.wrt_request.specs.declared.fault.PartsRefusal.TheVariants as parts
use Rattle.wrt_commands.specs.declared.status.Status.{Status}
use Rattle.wrt_commands.specs.declared.status.Status.TheVariants as statuses
use Rattle.wrt_commands.specs.declared.words_refusal.WordsRefusal.{WordsRefusal}
use Rattle.wrt_commands.specs.declared.words_refusal.WordsRefusal.TheVariants.{NoCommandLine, Parts}

abbrev pub status_of_words : WordsRefusal → Status
status_of_words refusal = statuses.Words

-- The line of the parts of a command line that ask for nothing.
abbrev pub text_of_parts : PartsRefusal → List ℕ
text_of_parts parts.UnknownCommand = codes "unknown command"
text_of_parts (parts.Takes numbers) = codes "the command takes " ++ decimal numbers ++ codes " numbers"
text_of_parts (parts.Number position) = codes "number " ++ decimal position ++ codes " is not a decimal number below 2^64"
text_of_parts (parts.Option option) = codes "option --" ++ name_of option ++ codes " does not belong to this command"
text_of_parts (parts.List option) = codes "list of --" ++ name_of option ++ codes " refused"
text_of_parts parts.Workers = codes "workers are 1 to 64"
text_of_parts parts.Crossings = codes "crossings are 1 to 256"
text_of_parts parts.ColorsAndFraming = codes "moves takes one of --colors and --framing"

abbrev pub text_of_words : WordsRefusal → List ℕ
text_of_words NoCommandLine = codes "words refused"
text_of_words (Parts refusal) = text_of_parts refusal
