-- The first entry that crosses no two of the strands, found from the left; and what it means that there is no
-- reason against the braid of a text.
--
--     first_wide-more, first_wide-here    one entry more, which crosses two of them, or doesn't
--     unrefused_is_braid                  where there is no reason, it keeps what a braid does
use Rattle.std.proofs.Common.{inl, inr, ◌≡◌, ℕ, suc, ◌+◌, ◌<◌, ◌≤◌, ltb, leb, ℤ, pos, negsuc, Bool, true, false, List, [], ◌∷◌, ◌++◌, length, Option, Some, None, option_map, refl, ap, arith}
use Rattle.std.specs.Int.RustNames.{unsigned_abs}
use Rattle.std.specs.List.{AllByRecursion}
use Rattle.std.proofs.lemmas.Bool.{cases_Bool, leb-false, le-leb, lt-leb, ltb-false}
use Rattle.pd_reader.specs.Signed.{IsSigned}
use Rattle.braid_trace.specs.declared.braid.TheConstants.{MOST_STRANDS, MOST_ENTRIES}
use Rattle.braid_trace.specs.declared.fault.BraidFault.TheVariants as faults
use Rattle.braid_trace.specs.Braids.{BraidWord, IsTextBraid, IsBraid, first_wide, refusal}

front_narrow : (n : ℕ) (e : ℤ) (word : List ℤ) → first_wide n (e ∷ word) ≡ None → (leb n (unsigned_abs e) ≡ false) × (first_wide n word ≡ None)
front_narrow n e word h = by_test (leb n (unsigned_abs e)) refl (first_wide n word) refl
  where
    by_test : (b : Bool) → leb n (unsigned_abs e) ≡ b → (o : Option ℕ) → first_wide n word ≡ o → (leb n (unsigned_abs e) ≡ false) × (first_wide n word ≡ None)
    by_test true t o s = let bad : Some 1 ≡ None = rw t at h in absurd cc
    by_test false t None s = (t, s)
    by_test false t (Some k) s = let bad : Some (suc k) ≡ None = rw (t, s) at h in absurd cc

pub first_wide-more : (n : ℕ) (front : List ℤ) (e : ℤ) → first_wide n front ≡ None → unsigned_abs e < n → first_wide n (front ++ e ∷ []) ≡ None
first_wide-more n [] e h lt = rw (lt-leb n (unsigned_abs e) lt) refl
first_wide-more n (d ∷ front) e h lt =
    let parts = front_narrow n d front h in
    rw (parts.0, first_wide-more n front e parts.1 lt) refl

pub first_wide-here : (n : ℕ) (front : List ℤ) (e : ℤ) (back : List ℤ) → first_wide n front ≡ None → n ≤ unsigned_abs e → first_wide n (front ++ e ∷ back) ≡ Some (length front + 1)
first_wide-here n [] e back h le = rw (le-leb n (unsigned_abs e) le) refl
first_wide-here n (d ∷ front) e back h le =
    let parts = front_narrow n d front h in
    rw (parts.0, first_wide-here n front e back parts.1 le) (ap (λ (k : ℕ). Some k) (omega arith))

-- each entry of a text has a size
signed_size : (e : ℤ) → IsSigned e → 1 ≤ unsigned_abs e
signed_size (pos n) h = omega (arith, h.low)
signed_size (negsuc k) h = omega arith

narrow : (n : ℕ) (word : List ℤ) → AllByRecursion IsSigned word → first_wide n word ≡ None → AllByRecursion (λ e. (1 ≤ unsigned_abs e) × (unsigned_abs e < n)) word
narrow n [] h e = tt
narrow n (d ∷ word) h e =
    let parts = front_narrow n d word e in
    ((signed_size d h.0, leb-false n (unsigned_abs d) parts.0), narrow n word h.1 parts.1)

no_entry : (n : ℕ) (o : Option ℕ) → option_map (λ at. faults.Entry at n) o ≡ None → o ≡ None
no_entry n None e = refl
no_entry n (Some at) e = absurd cc

-- A BRAID OF A TEXT THAT IS NOT REFUSED
pub unrefused_is_braid : (braid : BraidWord) → IsTextBraid braid → refusal braid ≡ None → IsBraid braid
unrefused_is_braid braid h e =
    elim (cases_Bool (ltb MOST_STRANDS braid.strands)) [
      | inl many ↦ (let bad : Some (faults.Strands braid.strands) ≡ None = rw many at e in absurd cc)
      | inr few ↦ elim (cases_Bool (ltb MOST_ENTRIES (length braid.word))) [
        | inl long ↦ (let bad : Some (faults.TooMany MOST_ENTRIES) ≡ None = rw (few, long) at e in absurd cc)
        | inr short ↦ record {
          some = omega (arith, h.is_number.low);
          few_strands = ltb-false MOST_STRANDS braid.strands few;
          few_entries = ltb-false MOST_ENTRIES (length braid.word) short;
          cross = narrow braid.strands braid.word h.are_signed (no_entry braid.strands (first_wide braid.strands braid.word) (rw (few, short) at e));
        }
      ]
    ]
