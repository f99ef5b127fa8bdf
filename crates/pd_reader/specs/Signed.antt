-- Signed numbers of texts: a number, or `-` and a number. These are two tokens, so white space may stand
-- between them. (This project's own.)
--
--     IsSigned z         z has one to six decimal digits, the first of them not 0
--     signed_tokens z    the tokens that spell it: for -12 these are "-" and "12"
use Rattle.std.specs.Prelude.{ℕ, suc, ℤ, pos, negsuc, codes, refl, List, ◌∷◌}
use Rattle.text_shapes.specs.Tokens.{IsNumber, number_tokens}
use Rattle.text_shapes.specs.Reach.{BeginsUnclosed}
use Rattle.text_shapes.proofs.Numbers.{number_begins_unclosed}

abbrev pub IsSigned : ℤ → Type 0
IsSigned (pos n) = IsNumber n
IsSigned (negsuc k) = IsNumber (suc k)

abbrev pub signed_tokens : ℤ → List (List ℕ)
signed_tokens (pos n) = number_tokens n
signed_tokens (negsuc k) = codes "-" ∷ number_tokens (suc k)

pub signed_begins_unclosed : (z : ℤ) → IsSigned z → BeginsUnclosed (signed_tokens z)
signed_begins_unclosed (pos n) h = number_begins_unclosed n h
signed_begins_unclosed (negsuc k) h = refl
