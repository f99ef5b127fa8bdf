-- Inputs that are too long: their limit, their status and their line. (This project's own.)
use Rattle.std.specs.Prelude.{ℕ, List, ◌++◌, codes, decimal}
use Rattle.wrt_commands.specs.declared.input.TheConstants.{MOST_BYTES}
use Rattle.wrt_commands.specs.declared.status.Status.{Status}
use Rattle.wrt_commands.specs.declared.status.Status.TheVariants as statuses
use Rattle.wrt_commands.specs.declared.too_long.TooLong.{TooLong}

-- The refusal of an input of more than 1,048,576 bytes.
abbrev pub past_limit : TooLong
past_limit = record { limit = MOST_BYTES }

abbrev pub status_of_length : TooLong → Status
status_of_length refusal = statuses.Limit

abbrev pub text_of_length : TooLong → List ℕ
text_of_length refusal = codes "input is longer than " ++ decimal refusal.limit ++ codes " bytes"
