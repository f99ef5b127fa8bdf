-- The parts of a command line as texts, which are lists of bytes. (This project's own.)
--
--     Texts             a command, the numbers behind it, the value of each option that is given, and whether each flag is
--     texts_of parts    the texts of the program's `Parts`
--
-- Of "bracket 41 2 5 --turns" the command is "bracket", the numbers are "41", "2" and "5", no option has a value, and
-- of the flags `--turns` is given.
use Rattle.std.specs.Prelude.{ℕ, Bool, List, Option, map, option_map}
use Rattle.wrt_parts.specs.declared.parts.Parts.{Parts}

-- The bytes of a word.
abbrev pub Text : Type 0
Text = List ℕ

pub record Texts : Type 0 where
  pub command : Text
  pub numbers : List Text
  pub colors : Option Text
  pub framing : Option Text
  pub workers : Option Text
  pub order : Option Text
  pub turns : Bool
  pub even : Bool

-- The texts of the parts.
abbrev pub texts_of : Parts → Texts
texts_of parts = record {
  command = parts.command.now;
  numbers = map (λ s. s.now) parts.numbers.items;
  colors = option_map (λ s. s.now) parts.colors;
  framing = option_map (λ s. s.now) parts.framing;
  workers = option_map (λ s. s.now) parts.workers;
  order = option_map (λ s. s.now) parts.order;
  turns = parts.turns;
  even = parts.even;
}
