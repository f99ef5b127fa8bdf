-- How far bytes go on as given tokens say. This is the one machine with which every place of a refusal
-- is found: it follows a list of tokens byte by byte. A shape's place of refusal is the greatest such
-- number over its values.
--
--     reach token tokens bytes   how many of the bytes go on as the rest of a token and the tokens
--                                after it say, and one more where they end as these do
--     place bytes at tokens      the same from a place on, as a place: for "PD(" and the tokens of
--                                "PD[]" it is 2, and for "PD[]" itself 5, one past the end
--     common word bytes          how many first bytes of a word the bytes have
--     IsToken, IsWord            what a token is, and one of letters and digits
--     IsMarked tokens            a mark comes next, or nothing: it ends a word before it
--     BeginsUnclosed tokens      something comes that is told from the mark that closes a list
use Rattle.std.specs.Prelude.{◌≡◌, ℕ, suc, ◌+◌, ◌<◌, Bool, true, false, cond, ◌==◌, ◌&&◌, ◌||◌, nat_le, List, [], ◌∷◌, length, drop, Option, Some, None}
use Rattle.std.specs.List.{AllByRecursion}
use Rattle.text_shapes.specs.Tokens.{is_space}

-- what is left of a token, and the tokens after it
abbrev pub Rest : Type 0
Rest = List ℕ × List (List ℕ)

-- the first byte of a token
abbrev pub start : List (List ℕ) → ℕ → Option Rest
start [] byte = None
start ([] ∷ tokens) byte = None
start ((c ∷ token) ∷ tokens) byte = cond (byte == c) (Some (token, tokens)) None

-- what is left after a byte
abbrev pub step : List ℕ → List (List ℕ) → ℕ → Option Rest
step [] tokens byte = cond (is_space byte) (Some ([], tokens)) (start tokens byte)
step (c ∷ token) tokens byte = cond (byte == c) (Some (token, tokens)) None

abbrev pub onward : Option Rest → (Rest → ℕ) → ℕ
onward None f = 0
onward (Some rest) f = suc (f rest)

-- the end counts where nothing is left
abbrev pub at_end : List ℕ → List (List ℕ) → ℕ
at_end [] [] = 1
at_end [] (t ∷ ts) = 0
at_end (c ∷ token) tokens = 0

-- how many bytes go on as what is left of a token and the tokens after it say, and one more for the end
unfoldable pub reach : List ℕ → List (List ℕ) → List ℕ → ℕ
reach token tokens [] = at_end token tokens
reach token tokens (b ∷ bytes) = onward (step token tokens b) (λ rest. reach rest.0 rest.1 bytes)

-- the place up to which the bytes go on so from a place on
abbrev pub place : List ℕ → ℕ → List (List ℕ) → ℕ
place bytes at tokens = at + reach [] tokens (drop at bytes)

-- a token has a byte, and begins with none of white space
abbrev pub IsToken : List ℕ → Type 0
IsToken [] = ⊥
IsToken (c ∷ token) = is_space c ≡ false

abbrev pub AreTokens : List (List ℕ) → Type 0
AreTokens = AllByRecursion IsToken

-- how many first bytes of a word the bytes have
unfoldable pub common : List ℕ → List ℕ → ℕ
common [] bytes = 0
common (c ∷ word) [] = 0
common (c ∷ word) (b ∷ bytes) = cond (b == c) (suc (common word bytes)) 0

abbrev pub is_digit : ℕ → Bool
is_digit byte = nat_le 48 byte && nat_le byte 57

abbrev pub is_letter : ℕ → Bool
is_letter byte = (nat_le 65 byte && nat_le byte 90) || (nat_le 97 byte && nat_le byte 122)

-- a letter or a digit
unfoldable pub is_word_byte : ℕ → Bool
is_word_byte byte = is_digit byte || is_letter byte

-- letters and digits, at least one
abbrev pub IsWord : List ℕ → Type 0
IsWord word = (0 < length word) × AllByRecursion (λ byte. is_word_byte byte ≡ true) word

-- no letter and no digit comes next: a token that begins with neither, or none
abbrev pub IsMarked : List (List ℕ) → Type 0
IsMarked [] = Unit {0}
IsMarked ([] ∷ tokens) = ⊥
IsMarked ((c ∷ token) ∷ tokens) = is_word_byte c ≡ false

-- a mark that closes a list: the bracket or the brace
abbrev pub is_closing : ℕ → Bool
is_closing byte = byte == 93 || byte == 125

-- the tokens begin, and with none of these
abbrev pub BeginsUnclosed : List (List ℕ) → Type 0
BeginsUnclosed [] = ⊥
BeginsUnclosed ([] ∷ tokens) = ⊥
BeginsUnclosed ((c ∷ token) ∷ tokens) = is_closing c ≡ false
