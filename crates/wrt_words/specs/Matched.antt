-- The parts of the words that `clap` matched. What it matched is a list of rows: the id of an argument with its values.
-- (This project's own, in the words of `clap`'s definition.)
--
--     is_set name rows     the flag is given: its row has the value `true`
--     numbers_in rows      all values of `numbers`, in their order
--     texts_in rows        the parts
use Rattle.std.specs.Prelude.{Bool, false, List, [], codes, unwrap_or}
use Rattle.std.specs.Option.{option_map_or}
use Rattle.std.specs.Str.{bytes_eq}
use Rattle.clap.specs.Walk.{Row, all_of, first_of}
use Rattle.wrt_parts.specs.Texts.{Text, Texts}

-- The flag is given.
abbrev pub is_set : Text → List Row → Bool
is_set name rows = option_map_or (λ text. bytes_eq text (codes "true")) (first_of name rows) false

-- The words behind the command.
abbrev pub numbers_in : List Row → List Text
numbers_in rows = unwrap_or (all_of (codes "numbers") rows) []

-- The parts.
abbrev pub texts_in : List Row → Texts
texts_in rows = record {
  command = unwrap_or (first_of (codes "command") rows) [];
  numbers = numbers_in rows;
  colors = first_of (codes "colors") rows;
  framing = first_of (codes "framing") rows;
  workers = first_of (codes "workers") rows;
  order = first_of (codes "order") rows;
  turns = is_set (codes "turns") rows;
  even = is_set (codes "even") rows;
}
