-- Numbers as the program's words write them: decimal digits without a sign, with no 0 first but in 0 itself, below 2^64.
-- (This project's own.)
--
--     is_decimal text        one digit or more, and 0 first only where it is the one digit
--     decimal_value text     the number that the text writes: 41 for "41", and none for "041", "+41" and "41a"
--     is_marked text         the text begins with a plus or a needless 0
--
-- A text writes a number below 2^64 exactly where it is the number's decimal spelling (specs/Laws.antt).
use Rattle.std.specs.Prelude.{◌&&◌, ◌||◌, ◌==◌, ◌^◌, ℕ, Bool, not, List, length, Option, Some, None, if◌then◌else◌, nat_lt, slice_index}
use Rattle.std.specs.Str.{all_ascii_digits}
use Rattle.std.specs.Str.Parse.{digits_value}

-- One digit or more, and 0 (48) first only where it is the one digit.
abbrev pub is_decimal : List ℕ → Bool
is_decimal text = nat_lt 0 (length text) && (all_ascii_digits text && not (slice_index text 0 == 48 && nat_lt 1 (length text)))

-- The number below 2^64 that the text writes.
unfoldable pub decimal_value : List ℕ → Option ℕ
decimal_value text =
    if is_decimal text && nat_lt (digits_value 10 text) (2 ^ 64) then Some (digits_value 10 text) else None

-- A plus (43) stands first, or a 0 that isn't needed.
abbrev pub is_marked : List ℕ → Bool
is_marked text = nat_lt 0 (length text) && (slice_index text 0 == 43 || (slice_index text 0 == 48 && nat_lt 1 (length text)))
