-- The framings, as the value of `--framing` says them: the empty text, or whole numbers with single commas between them. A whole
-- number is spelled as the numbers behind a command are, with at most one minus before it, and fits 64 bits with its sign.
-- (This project's own.)
--
--     signed_value text     the whole number that the text writes: -1 for "-1" and 0 for "-0", none for "+1", "--1" and "-01"
--     framings_of value     none where there is no value; else the list that it writes
--
-- "1,-2" writes 1 and -2, and the empty text no number; "1,,2" writes no list.
use Rattle.std.specs.Prelude.{◌==◌, ◌^◌, ℕ, ℤ, pos, neg_ℤ, List, [], ◌∷◌, Option, Some, None, Result, Ok, Err, if◌then◌else◌, nat_lt, option_and_then}
use Rattle.wrt_parts.specs.Texts.{Text}
use Rattle.wrt_request.specs.Decimals.{decimal_value}
use Rattle.wrt_request.specs.Lists.{members_by, pieces_of}
use Rattle.wrt_request.specs.declared.option_name.OptionName.TheVariants.{Framing}
use Rattle.wrt_request.specs.declared.fault.PartsRefusal.{PartsRefusal}
use Rattle.wrt_request.specs.declared.fault.PartsRefusal.TheVariants as refusals

-- The number, where it is below 2^63.
abbrev pub without_sign : ℕ → Option ℤ
without_sign n = if nat_lt n (2 ^ 63) then Some (pos n) else None

-- The number's negative, where the number is at most 2^63.
abbrev pub with_minus : ℕ → Option ℤ
with_minus n = if nat_lt (2 ^ 63) n then None else Some (neg_ℤ (pos n))

-- The whole number that the text writes. A minus is 45.
unfoldable pub signed_value : List ℕ → Option ℤ
signed_value [] = None
signed_value (byte ∷ bytes) =
    if byte == 45 then option_and_then with_minus (decimal_value bytes) else option_and_then without_sign (decimal_value (byte ∷ bytes))

-- A list as framings that are given.
abbrev pub given_framings : Option (List ℤ) → Result (Option (List ℤ)) PartsRefusal
given_framings (Some list) = Ok (Some list)
given_framings None = Err (refusals.List Framing)

-- The framings that the value says, where there is one.
abbrev pub framings_of : Option Text → Result (Option (List ℤ)) PartsRefusal
framings_of None = Ok None
framings_of (Some text) = given_framings (members_by signed_value (pieces_of text))
