-- Bytes as tokens. White space is the space, the tab, the carriage return and the line feed. Any
-- amount of it may stand before, between and after tokens, and none inside one.
-- (This project's own.)
--
--     is_space byte            the byte is white space
--     IsSpelled tokens bytes   the bytes are these tokens, one after the other
--     IsNumber n               n has one to six decimal digits, the first of them not 0
--     IsNumeral digits n       the digits are one to six, the first not 0, and spell n in decimal
--     number_tokens n          the one token that spells n
--
-- The bytes of "[ 12 ]" are spelled by the tokens "[", "12" and "]", and also by "[", "1", "2" and "]", since
-- white space between tokens may be none. In a shape of text a mark stands behind each number, so that its
-- values are told apart.
use Rattle.std.specs.Prelude.{◌≡◌, ◌≢◌, ℕ, ◌<◌, ◌≤◌, Bool, true, ◌==◌, ◌||◌, List, [], ◌∷◌, ◌++◌, length, slice_index, decimal}
use Rattle.std.specs.List.{AllByRecursion}
use Rattle.std.proofs.Common.{lit<}
use Rattle.std.specs.Str.Parse.{AllDigits, digits_value}

-- the space, the tab, the carriage return or the line feed
unfoldable pub is_space : ℕ → Bool
is_space byte = byte == 32 || byte == 9 || byte == 13 || byte == 10

abbrev pub IsSpace : ℕ → Type 0
IsSpace byte = is_space byte ≡ true

-- the bytes are these tokens, with white space before, between and after them, and none inside one
abbrev pub IsSpelled : List (List ℕ) → List ℕ → Type 0
IsSpelled [] bytes = AllByRecursion IsSpace bytes
IsSpelled (token ∷ tokens) bytes = (space rest : List ℕ) × AllByRecursion IsSpace space × (bytes ≡ space ++ (token ++ rest)) × IsSpelled tokens rest

-- one to six decimal digits, the first not 0
pub record IsNumber (n : ℕ) : Type 0 where
  pub low : 0 < n
  pub high : n < 1000000

pub one_is_a_number : IsNumber 1
one_is_a_number = record { low = lit< tt; high = lit< tt }

abbrev pub number_tokens : ℕ → List (List ℕ)
number_tokens n = decimal n ∷ []

-- the same of the digits: these are the decimal digits of a number
pub record IsNumeral (digits : List ℕ) (n : ℕ) : Type 0 where
  pub are_digits : AllDigits 10 digits
  pub some : 0 < length digits
  pub at_most_six : length digits ≤ 6
  pub first_is_not_zero : slice_index digits 0 ≢ 48
  pub value : digits_value 10 digits ≡ n
