-- Braids as words, and their texts BR[n,{e,..,e}] (KnotTheory's): n strands, and for each entry i or -i a
-- crossing of the strands at i and i+1.
--
--     IsBraidText bytes braid     the bytes are a text of the braid
--     first_wide n word           the first entry, from 1, whose size is at least n: it is a crossing of no two
--                                 of n strands
--     refusal braid               the first reason against it: more than 6 strands, more than 250 entries, or
--                                 such an entry
--     IsBraid braid               what a braid keeps
--
-- "BR[2,{1,-1}]" is a text of 2 strands and the word 1, -1.
use Rattle.std.specs.Prelude.{ℕ, suc, ◌<◌, ◌≤◌, ℤ, cond, nat_le, nat_lt, codes, List, [], ◌∷◌, ◌++◌, length, Option, Some, None, option_map}
use Rattle.std.specs.Int.RustNames.{unsigned_abs}
use Rattle.std.specs.List.{AllByRecursion}
use Rattle.text_shapes.specs.Tokens.{IsNumber, number_tokens}
use Rattle.text_shapes.specs.Shapes.{IsText, items_inside}
use Rattle.pd_reader.specs.Signed.{IsSigned, signed_tokens}
use Rattle.braid_trace.specs.declared.braid.TheConstants.{MOST_STRANDS, MOST_ENTRIES}
use Rattle.braid_trace.specs.declared.fault.BraidFault.{BraidFault}
use Rattle.braid_trace.specs.declared.fault.BraidFault.TheVariants as faults

pub record BraidWord : Type 0 where
  pub strands : ℕ
  pub word : List ℤ

-- ---- texts

-- a number of strands and signed numbers
pub record IsTextBraid (braid : BraidWord) : Type 0 where
  pub is_number : IsNumber braid.strands
  pub are_signed : AllByRecursion IsSigned braid.word

-- the tokens behind the number of strands: ,{e,..,e}]
abbrev pub entries_tokens : List ℤ → List (List ℕ)
entries_tokens word = codes "," ∷ codes "{" ∷ (items_inside 125 signed_tokens word ++ codes "]" ∷ [])

abbrev pub braid_tokens : BraidWord → List (List ℕ)
braid_tokens braid = codes "BR" ∷ codes "[" ∷ (number_tokens braid.strands ++ entries_tokens braid.word)

abbrev pub IsBraidText : List ℕ → BraidWord → Type 0
IsBraidText = IsText IsTextBraid braid_tokens

-- ---- braids

abbrev pub first_wide : ℕ → List ℤ → Option ℕ
first_wide n [] = None
first_wide n (e ∷ word) = cond (nat_le n (unsigned_abs e)) (Some 1) (option_map suc (first_wide n word))

abbrev pub refusal : BraidWord → Option BraidFault
refusal braid =
    cond (nat_lt MOST_STRANDS braid.strands) (Some (faults.Strands braid.strands))
    (cond (nat_lt MOST_ENTRIES (length braid.word)) (Some (faults.TooMany MOST_ENTRIES))
    (option_map (λ at. faults.Entry at braid.strands) (first_wide braid.strands braid.word)))

-- at least one strand and at most 6, at most 250 entries, and each crosses two of the strands
pub record IsBraid (braid : BraidWord) : Type 0 where
  pub some : 1 ≤ braid.strands
  pub few_strands : braid.strands ≤ MOST_STRANDS
  pub few_entries : length braid.word ≤ MOST_ENTRIES
  pub cross : AllByRecursion (λ e. (1 ≤ unsigned_abs e) × (unsigned_abs e < braid.strands)) braid.word
