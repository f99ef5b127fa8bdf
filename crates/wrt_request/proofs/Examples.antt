-- The definitions, computed.
use Rattle.std.proofs.Common.{◌≡◌, refl, codes, true, false, [], ◌∷◌, Some, None, Ok, Err, pos, negsuc}
use Rattle.std.specs.Prelude.{◌==◌}
use Rattle.std.specs.List.{slice_split}
use Rattle.wrt_parts.specs.Texts.{Text, Texts}
use Rattle.wrt_request.specs.declared.order.OrderWord.TheVariants.{Listed, Greedy, Given}
use Rattle.wrt_request.specs.declared.option_name.OptionName.TheVariants.{Colors, Framing, Workers, Order, Even}
use Rattle.wrt_request.specs.declared.request.Numbers.{Numbers}
use Rattle.wrt_request.specs.declared.request.Task.TheVariants.{Bracket, Colored, Torus, Braid, Moves, Tetrahedra, Wrt}
use Rattle.wrt_request.specs.declared.request.DiagramValues.TheVariants.{Brackets, Coloured, Surgery}
use Rattle.wrt_request.specs.declared.fault.PartsRefusal.TheVariants as refusals
use Rattle.wrt_request.specs.declared.fault.PartsRefusal.TheVariants.{UnknownCommand, Takes, Number, Crossings, ColorsAndFraming}
use Rattle.wrt_request.proofs.OnLiterals.{request_on_literals}
use Rattle.wrt_request.specs.Decimals.{decimal_value}
use Rattle.wrt_request.specs.Framings.{framings_of}
use Rattle.wrt_request.specs.Lists.{list_value}
use Rattle.wrt_request.specs.Requests.{request_of}
use Rattle.wrt_request.specs.Workers.{workers_of}

-- A command with the numbers that stand with single spaces (32) between them, and no option.
abbrev bare : Text → Text → Texts
bare command numbers = record {
  command = command;
  numbers = slice_split (λ b. b == 32) numbers;
  colors = None;
  framing = None;
  workers = None;
  order = None;
  turns = false;
  even = false;
}

abbrev at_41 : Numbers
at_41 = record { modulus = 41; root = 2; level = 5 }

zero : decimal_value (codes "0") ≡ Some 0
unfolding request_on_literals
zero = refl

needless_zero : decimal_value (codes "007") ≡ None
unfolding request_on_literals
needless_zero = refl

two_zeros : decimal_value (codes "00") ≡ None
unfolding request_on_literals
two_zeros = refl

empty : decimal_value [] ≡ None
unfolding request_on_literals
empty = refl

plus : decimal_value (codes "+7") ≡ None
unfolding request_on_literals
plus = refl

minus : decimal_value (codes "-7") ≡ None
unfolding request_on_literals
minus = refl

letter : decimal_value (codes "1a") ≡ None
unfolding request_on_literals
letter = refl

greatest : decimal_value (codes "18446744073709551615") ≡ Some 18446744073709551615
unfolding request_on_literals
greatest = refl

too_great : decimal_value (codes "18446744073709551616") ≡ None
unfolding request_on_literals
too_great = refl

a_list : list_value (codes "3,1,2") ≡ Some (3 ∷ 1 ∷ 2 ∷ [])
unfolding request_on_literals
a_list = refl

empty_list : list_value [] ≡ Some []
unfolding request_on_literals
empty_list = refl

list_of_zero : list_value (codes "0") ≡ Some (0 ∷ [])
unfolding request_on_literals
list_of_zero = refl

nine_digits : list_value (codes "999999999") ≡ Some (999999999 ∷ [])
unfolding request_on_literals
nine_digits = refl

ten_digits : list_value (codes "1,1000000000") ≡ None
unfolding request_on_literals
ten_digits = refl

two_commas : list_value (codes "3,,1") ≡ None
unfolding request_on_literals
two_commas = refl

last_comma : list_value (codes "3,1,") ≡ None
unfolding request_on_literals
last_comma = refl

first_comma : list_value (codes ",3") ≡ None
unfolding request_on_literals
first_comma = refl

space_in_list : list_value (codes "3, 1") ≡ None
unfolding request_on_literals
space_in_list = refl

needless_zero_in_list : list_value (codes "3,01") ≡ None
unfolding request_on_literals
needless_zero_in_list = refl

sign_in_list : list_value (codes "3,+1") ≡ None
unfolding request_on_literals
sign_in_list = refl

whole_numbers : framings_of (Some (codes "1,-2,0")) ≡ Ok (Some (pos 1 ∷ negsuc 1 ∷ pos 0 ∷ []))
unfolding request_on_literals
whole_numbers = refl

no_framing : framings_of (Some []) ≡ Ok (Some [])
unfolding request_on_literals
no_framing = refl

framings_not_given : framings_of None ≡ Ok None
unfolding request_on_literals
framings_not_given = refl

minus_zero : framings_of (Some (codes "-0")) ≡ Ok (Some (pos 0 ∷ []))
unfolding request_on_literals
minus_zero = refl

least_whole_number : framings_of (Some (codes "-9223372036854775808")) ≡ Ok (Some (negsuc 9223372036854775807 ∷ []))
unfolding request_on_literals
least_whole_number = refl

below_the_least : framings_of (Some (codes "-9223372036854775809")) ≡ Err (refusals.List Framing)
unfolding request_on_literals
below_the_least = refl

greatest_whole_number : framings_of (Some (codes "9223372036854775807")) ≡ Ok (Some (pos 9223372036854775807 ∷ []))
unfolding request_on_literals
greatest_whole_number = refl

above_the_greatest : framings_of (Some (codes "1,9223372036854775808")) ≡ Err (refusals.List Framing)
unfolding request_on_literals
above_the_greatest = refl

two_minuses : framings_of (Some (codes "--1")) ≡ Err (refusals.List Framing)
unfolding request_on_literals
two_minuses = refl

lone_minus : framings_of (Some (codes "1,-")) ≡ Err (refusals.List Framing)
unfolding request_on_literals
lone_minus = refl

plus_in_framings : framings_of (Some (codes "+1")) ≡ Err (refusals.List Framing)
unfolding request_on_literals
plus_in_framings = refl

needless_zero_in_framings : framings_of (Some (codes "-01")) ≡ Err (refusals.List Framing)
unfolding request_on_literals
needless_zero_in_framings = refl

no_framing_between : framings_of (Some (codes "1,,2")) ≡ Err (refusals.List Framing)
unfolding request_on_literals
no_framing_between = refl

one_worker : workers_of None ≡ Ok 1
unfolding request_on_literals
one_worker = refl

most_workers : workers_of (Some (codes "64")) ≡ Ok 64
unfolding request_on_literals
most_workers = refl

too_many_workers : workers_of (Some (codes "65")) ≡ Err refusals.Workers
unfolding request_on_literals
too_many_workers = refl

no_workers : workers_of (Some (codes "0")) ≡ Err refusals.Workers
unfolding request_on_literals
no_workers = refl

workers_with_a_zero : workers_of (Some (codes "01")) ≡ Err refusals.Workers
unfolding request_on_literals
workers_with_a_zero = refl

a_bracket : request_of (bare (codes "bracket") (codes "41 2 5")) ≡ Ok (record { task = Bracket (record { order = Listed; turns = false }); numbers = at_41 })
unfolding request_on_literals
a_bracket = refl

a_torus_link : request_of (record (bare (codes "torus") (codes "2 41 2 5")) { turns = true }) ≡ Ok (record { task = Torus 2 (record { order = Listed; turns = true }); numbers = at_41 })
unfolding request_on_literals
a_torus_link = refl

greedily : request_of (record (bare (codes "bracket") (codes "41 2 5")) { order = Some (codes "greedy") }) ≡ Ok (record { task = Bracket (record { order = Greedy; turns = false }); numbers = at_41 })
unfolding request_on_literals
greedily = refl

by_its_name : request_of (record (bare (codes "bracket") (codes "41 2 5")) { order = Some (codes "listed") }) ≡ Ok (record { task = Bracket (record { order = Listed; turns = false }); numbers = at_41 })
unfolding request_on_literals
by_its_name = refl

in_an_order : request_of (record (bare (codes "bracket") (codes "41 2 5")) { order = Some (codes "3,1,2"); turns = true }) ≡ Ok (record { task = Bracket (record { order = (Given (3 ∷ 1 ∷ 2 ∷ [])); turns = true }); numbers = at_41 })
unfolding request_on_literals
in_an_order = refl

in_the_empty_order : request_of (record (bare (codes "bracket") (codes "41 2 5")) { order = Some [] }) ≡ Ok (record { task = Bracket (record { order = (Given []); turns = false }); numbers = at_41 })
unfolding request_on_literals
in_the_empty_order = refl

with_colours : request_of (record (bare (codes "colored") (codes "41 2 5")) { colors = Some (codes "2,0") }) ≡ Ok (record { task = Colored (2 ∷ 0 ∷ []) (record { order = Listed; turns = false }); numbers = at_41 })
unfolding request_on_literals
with_colours = refl

without_colours : request_of (bare (codes "colored") (codes "41 2 5")) ≡ Ok (record { task = Colored [] (record { order = Listed; turns = false }); numbers = at_41 })
unfolding request_on_literals
without_colours = refl

colours_before_the_order : request_of (record (bare (codes "colored") (codes "41 2 5")) { colors = Some (codes "1,,2"); order = Some (codes "x") }) ≡ Err (refusals.List Colors)
unfolding request_on_literals
colours_before_the_order = refl

a_surgery_value : request_of (record (bare (codes "wrt") (codes "41 2 5")) { framing = Some (codes "-1,2"); workers = Some (codes "4"); even = true }) ≡ Ok (record { task = Wrt (Some (negsuc 0 ∷ pos 2 ∷ [])) 4 true (record { order = Listed; turns = false }); numbers = at_41 })
unfolding request_on_literals
a_surgery_value = refl

without_framings : request_of (bare (codes "wrt") (codes "41 2 5")) ≡ Ok (record { task = Wrt None 1 false (record { order = Listed; turns = false }); numbers = at_41 })
unfolding request_on_literals
without_framings = refl

framings_before_the_order : request_of (record (bare (codes "wrt") (codes "41 2 5")) { framing = Some (codes "+1"); order = Some (codes "x"); workers = Some (codes "0") }) ≡ Err (refusals.List Framing)
unfolding request_on_literals
framings_before_the_order = refl

order_before_the_workers : request_of (record (bare (codes "wrt") (codes "41 2 5")) { order = Some (codes "x"); workers = Some (codes "0") }) ≡ Err (refusals.List Order)
unfolding request_on_literals
order_before_the_workers = refl

even_torus : request_of (record (bare (codes "torus") (codes "2 41 2 5")) { even = true }) ≡ Err (refusals.Option Even)
unfolding request_on_literals
even_torus = refl

most_crossings : request_of (bare (codes "torus") (codes "256 41 2 5")) ≡ Ok (record { task = Torus 256 (record { order = Listed; turns = false }); numbers = at_41 })
unfolding request_on_literals
most_crossings = refl

another_command : request_of (bare (codes "homfly") (codes "41 2 5")) ≡ Err UnknownCommand
unfolding request_on_literals
another_command = refl

capital_letter : request_of (bare (codes "Bracket") (codes "41 2 5")) ≡ Err UnknownCommand
unfolding request_on_literals
capital_letter = refl

no_command : request_of (bare (codes "") (codes "41 2 5")) ≡ Err UnknownCommand
unfolding request_on_literals
no_command = refl

two_numbers : request_of (bare (codes "bracket") (codes "41 2")) ≡ Err (Takes 3)
unfolding request_on_literals
two_numbers = refl

three_numbers_of_four : request_of (bare (codes "torus") (codes "41 2 5")) ≡ Err (Takes 4)
unfolding request_on_literals
three_numbers_of_four = refl

four_numbers_of_three : request_of (bare (codes "bracket") (codes "2 41 2 5")) ≡ Err (Takes 3)
unfolding request_on_literals
four_numbers_of_three = refl

second_number : request_of (bare (codes "bracket") (codes "41 02 x")) ≡ Err (Number 2)
unfolding request_on_literals
second_number = refl

-- The numbers are looked at before the crossings.
fourth_number : request_of (bare (codes "torus") (codes "0 41 2 +5")) ≡ Err (Number 4)
unfolding request_on_literals
fourth_number = refl

empty_number : request_of (bare (codes "bracket") (codes "41  5")) ≡ Err (Number 2)
unfolding request_on_literals
empty_number = refl

workers_of_bracket : request_of (record (bare (codes "bracket") (codes "41 2 5")) { workers = Some (codes "2") }) ≡ Err (refusals.Option Workers)
unfolding request_on_literals
workers_of_bracket = refl

-- The options are looked at before their values.
first_foreign_option : request_of (record (bare (codes "bracket") (codes "41 2 5")) { colors = Some []; workers = Some []; order = Some (codes "x") }) ≡ Err (refusals.Option Colors)
unfolding request_on_literals
first_foreign_option = refl

foreign_flagged : request_of (record (bare (codes "torus") (codes "2 41 2 5")) { framing = Some (codes "1"); turns = true }) ≡ Err (refusals.Option Framing)
unfolding request_on_literals
foreign_flagged = refl

-- The values of the options are looked at before the crossings.
no_order : request_of (record (bare (codes "torus") (codes "0 41 2 5")) { order = Some (codes "1;2") }) ≡ Err (refusals.List Order)
unfolding request_on_literals
no_order = refl

order_in_capitals : request_of (record (bare (codes "bracket") (codes "41 2 5")) { order = Some (codes "Listed") }) ≡ Err (refusals.List Order)
unfolding request_on_literals
order_in_capitals = refl

no_crossings : request_of (bare (codes "torus") (codes "0 41 2 5")) ≡ Err Crossings
unfolding request_on_literals
no_crossings = refl

too_many_crossings : request_of (bare (codes "torus") (codes "257 41 2 5")) ≡ Err Crossings
unfolding request_on_literals
too_many_crossings = refl

-- braid 41 2 5 asks for the bracket of the braid on the input
a_braid : request_of (bare (codes "braid") (codes "41 2 5")) ≡ Ok (record { task = Braid; numbers = at_41 })
unfolding request_on_literals
a_braid = refl

-- tv 41 2 5 for the sum over the tetrahedra on it, and takes no option
some_tetrahedra : request_of (bare (codes "tv") (codes "41 2 5")) ≡ Ok (record { task = Tetrahedra; numbers = at_41 })
unfolding request_on_literals
some_tetrahedra = refl

no_option : request_of (record (bare (codes "tv") (codes "41 2 5")) { order = Some (codes "listed") }) ≡ Err (refusals.Option Order)
unfolding request_on_literals
no_option = refl

-- `moves` takes one list at most: without one it is about brackets, and an empty list is a list
moves_without_lists : request_of (bare (codes "moves") (codes "41 2 5")) ≡ Ok (record { task = Moves Brackets; numbers = at_41 })
unfolding request_on_literals
moves_without_lists = refl

moves_with_colours : request_of (record (bare (codes "moves") (codes "41 2 5")) { colors = Some (codes "2,1") }) ≡ Ok (record { task = Moves (Coloured (2 ∷ 1 ∷ [])); numbers = at_41 })
unfolding request_on_literals
moves_with_colours = refl

moves_with_no_framings : request_of (record (bare (codes "moves") (codes "41 2 5")) { framing = Some [] }) ≡ Ok (record { task = Moves (Surgery []); numbers = at_41 })
unfolding request_on_literals
moves_with_no_framings = refl

moves_with_both : request_of (record (bare (codes "moves") (codes "41 2 5")) { colors = Some (codes "2"); framing = Some (codes "0") }) ≡ Err ColorsAndFraming
unfolding request_on_literals
moves_with_both = refl

-- the lists are looked at before that
list_before_both : request_of (record (bare (codes "moves") (codes "41 2 5")) { colors = Some (codes "2"); framing = Some (codes "x") }) ≡ Err (refusals.List Framing)
unfolding request_on_literals
list_before_both = refl
