-- The definitions, computed: what parts the words have, where they have any.
use Rattle.std.proofs.Common.{◌≡◌, refl, codes, true, false, List, [], Some, None}
use Rattle.std.specs.Prelude.{◌==◌}
use Rattle.std.specs.List.{slice_split}
use Rattle.wrt_parts.specs.Texts.{Text, Texts}
use Rattle.wrt_words.specs.Words.{parts_of, takes_line, command_line}
use Rattle.wrt_words.proofs.OnLiterals.{words_on_literals}

-- The words that stand with single spaces (32) between them.
abbrev spaced : Text → List Text
spaced = slice_split (λ b. b == 32)

-- A command with its numbers, and no option.
abbrev bare : Text → List Text → Texts
bare command numbers = record {
  command = command;
  numbers = numbers;
  colors = None;
  framing = None;
  workers = None;
  order = None;
  turns = false;
  even = false;
}

bracket : parts_of (spaced (codes "bracket 41 2 5")) ≡ Some (bare (codes "bracket") (spaced (codes "41 2 5")))
unfolding words_on_literals
bracket = refl

flag_behind : parts_of (spaced (codes "bracket 41 2 5 --turns")) ≡ Some (record (bare (codes "bracket") (spaced (codes "41 2 5"))) { turns = true })
unfolding words_on_literals
flag_behind = refl

flag_between : parts_of (spaced (codes "bracket 41 --turns 2 5")) ≡ Some (record (bare (codes "bracket") (spaced (codes "41 2 5"))) { turns = true })
unfolding words_on_literals
flag_between = refl

flag_before : parts_of (spaced (codes "--turns bracket 41 2 5")) ≡ Some (record (bare (codes "bracket") (spaced (codes "41 2 5"))) { turns = true })
unfolding words_on_literals
flag_before = refl

value_behind_equals : parts_of (spaced (codes "bracket 41 2 5 --order=3,1,2")) ≡ Some (record (bare (codes "bracket") (spaced (codes "41 2 5"))) { order = Some (codes "3,1,2") })
unfolding words_on_literals
value_behind_equals = refl

value_in_the_next_word : parts_of (spaced (codes "bracket 41 2 5 --order 3,1,2")) ≡ Some (record (bare (codes "bracket") (spaced (codes "41 2 5"))) { order = Some (codes "3,1,2") })
unfolding words_on_literals
value_in_the_next_word = refl

number_behind_a_value : parts_of (spaced (codes "bracket --order greedy 41 2 5")) ≡ Some (record (bare (codes "bracket") (spaced (codes "41 2 5"))) { order = Some (codes "greedy") })
unfolding words_on_literals
number_behind_a_value = refl

empty_value : parts_of (spaced (codes "bracket 41 2 5 --order=")) ≡ Some (record (bare (codes "bracket") (spaced (codes "41 2 5"))) { order = Some [] })
unfolding words_on_literals
empty_value = refl

value_with_equals : parts_of (spaced (codes "bracket 41 2 5 --order=a=b")) ≡ Some (record (bare (codes "bracket") (spaced (codes "41 2 5"))) { order = Some (codes "a=b") })
unfolding words_on_literals
value_with_equals = refl

value_with_hyphen : parts_of (spaced (codes "wrt 41 2 5 --framing=-1")) ≡ Some (record (bare (codes "wrt") (spaced (codes "41 2 5"))) { framing = Some (codes "-1") })
unfolding words_on_literals
value_with_hyphen = refl

all_options : parts_of (spaced (codes "wrt 41 2 5 --even --order=x --workers=4 --framing=f --colors=c --turns")) ≡ Some (record (bare (codes "wrt") (spaced (codes "41 2 5"))) { colors = Some (codes "c"); framing = Some (codes "f"); workers = Some (codes "4"); order = Some (codes "x"); turns = true; even = true })
unfolding words_on_literals
all_options = refl

no_numbers : parts_of (spaced (codes "torus")) ≡ Some (bare (codes "torus") [])
unfolding words_on_literals
no_numbers = refl

-- Two spaces in a row have the empty word between them.
empty_number : parts_of (spaced (codes "bracket  41 2 5")) ≡ Some (bare (codes "bracket") (spaced (codes " 41 2 5")))
unfolding words_on_literals
empty_number = refl

empty_command : parts_of (spaced (codes " 41 2 5")) ≡ Some (bare (codes "") (spaced (codes "41 2 5")))
unfolding words_on_literals
empty_command = refl

lone_hyphen : parts_of (spaced (codes "bracket 41 -")) ≡ Some (bare (codes "bracket") (spaced (codes "41 -")))
unfolding words_on_literals
lone_hyphen = refl

behind_two_hyphens : parts_of (spaced (codes "bracket -- 41 -2 --turns")) ≡ Some (bare (codes "bracket") (spaced (codes "41 -2 --turns")))
unfolding words_on_literals
behind_two_hyphens = refl

two_hyphens_twice : parts_of (spaced (codes "bracket 41 -- -- 5")) ≡ Some (bare (codes "bracket") (spaced (codes "41 -- 5")))
unfolding words_on_literals
two_hyphens_twice = refl

two_hyphens_first : parts_of (spaced (codes "-- bracket 41 2 5")) ≡ Some (bare (codes "bracket") (spaced (codes "41 2 5")))
unfolding words_on_literals
two_hyphens_first = refl

help_as_a_command : parts_of (spaced (codes "help")) ≡ Some (bare (codes "help") [])
unfolding words_on_literals
help_as_a_command = refl

no_words : parts_of [] ≡ None
unfolding words_on_literals
no_words = refl

no_command : parts_of (spaced (codes "--turns")) ≡ None
unfolding words_on_literals
no_command = refl

no_value : parts_of (spaced (codes "bracket 41 2 5 --order")) ≡ None
unfolding words_on_literals
no_value = refl

value_that_begins_with_hyphen : parts_of (spaced (codes "wrt 41 2 5 --framing -1")) ≡ None
unfolding words_on_literals
value_that_begins_with_hyphen = refl

option_twice : parts_of (spaced (codes "bracket 41 2 5 --order=listed --order=greedy")) ≡ None
unfolding words_on_literals
option_twice = refl

flag_twice : parts_of (spaced (codes "bracket 41 2 5 --turns --turns")) ≡ None
unfolding words_on_literals
flag_twice = refl

flag_with_value : parts_of (spaced (codes "bracket 41 2 5 --turns=true")) ≡ None
unfolding words_on_literals
flag_with_value = refl

unknown_option : parts_of (spaced (codes "bracket 41 2 5 --odd")) ≡ None
unfolding words_on_literals
unknown_option = refl

part_of_an_option : parts_of (spaced (codes "bracket 41 2 5 --turn")) ≡ None
unfolding words_on_literals
part_of_an_option = refl

capital_letters : parts_of (spaced (codes "bracket 41 2 5 --TURNS")) ≡ None
unfolding words_on_literals
capital_letters = refl

short_option : parts_of (spaced (codes "bracket 41 2 -5")) ≡ None
unfolding words_on_literals
short_option = refl

argument_as_an_option : parts_of (spaced (codes "bracket 41 2 5 --numbers=x")) ≡ None
unfolding words_on_literals
argument_as_an_option = refl

three_hyphens : parts_of (spaced (codes "bracket 41 2 5 ---turns")) ≡ None
unfolding words_on_literals
three_hyphens = refl

help : parts_of (spaced (codes "--help")) ≡ None
unfolding words_on_literals
help = refl

help_behind : parts_of (spaced (codes "bracket 41 2 5 --help")) ≡ None
unfolding words_on_literals
help_behind = refl

short_help : parts_of (spaced (codes "-h")) ≡ None
unfolding words_on_literals
short_help = refl

version : parts_of (spaced (codes "--version")) ≡ None
unfolding words_on_literals
version = refl

-- The other word of `clap` agrees on these.
takes_bracket : takes_line (command_line (spaced (codes "bracket 41 --turns 2 5 --order=3,1,2"))) ≡ true
unfolding words_on_literals
takes_bracket = refl

takes_no_word : takes_line (command_line []) ≡ false
unfolding words_on_literals
takes_no_word = refl

takes_no_help : takes_line (command_line (spaced (codes "bracket 41 2 5 --help"))) ≡ false
unfolding words_on_literals
takes_no_help = refl

takes_no_option_twice : takes_line (command_line (spaced (codes "bracket 41 2 5 --order=listed --order=greedy"))) ≡ false
unfolding words_on_literals
takes_no_option_twice = refl
