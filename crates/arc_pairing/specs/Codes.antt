-- Pairings as numbers, one to one (this project's own): the partners of at most 24 points are digits to base 32, the first
-- one lowest, and the number of points stands above them.
--
--     digits_of partner      the number with these digits; of 1,0 it is 1
--     code_of partner        digits_of partner + 2^120 times the number of points
--     weight place           32 to that power: what a digit at that place counts
--     Spells code partner    the code is that of a list of at most 24 numbers below 32
--     OneCodeLaw             pairings with one code are one
use Rattle.std.specs.Prelude.{◌≡◌, ℕ, zero, suc, ◌+◌, ◌*◌, ◌<◌, ◌≤◌, List, [], ◌∷◌, length, slice_index}
use Rattle.arc_pairing.specs.Pairings.{IsShortPairing}
use Rattle.arc_pairing.specs.declared.limits.TheConstants.{MOST_POINTS}

-- The number with these digits to base 32, the first one lowest.
abbrev pub digits_of : List ℕ → ℕ
digits_of [] = 0
digits_of (digit ∷ digits) = digit + 32 * digits_of digits

-- The partners as digits, and the number of points above them: 2^120 is 32^24.
abbrev pub code_of : List ℕ → ℕ
code_of partner = digits_of partner + length partner * 1329227995784915872903807060280344576

-- 32 to that power.
abbrev pub weight : ℕ → ℕ
weight zero = 1
weight (suc place) = 32 * weight place

-- The code of a list of at most 24 numbers below 32, which need be no pairing.
pub record Spells (code : ℕ) (partner : List ℕ) : Type 0 where
  pub short : length partner ≤ MOST_POINTS
  pub small : (i : ℕ) → i < length partner → slice_index partner i < 32
  pub is : code ≡ code_of partner

-- Pairings with one code are one.
abbrev pub OneCodeLaw : Type 0
OneCodeLaw = (p q : List ℕ) → IsShortPairing p → IsShortPairing q → code_of p ≡ code_of q → p ≡ q
