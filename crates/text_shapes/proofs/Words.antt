-- Where a word stands, each other breaks off no later than it ends, unless it has the word in front and the
-- byte behind it too. So no reader looks ahead: each alternative is tried, and the furthest place counts.
use Rattle.std.proofs.Common.{inl, inr, ◌≡◌, ℕ, suc, ◌+◌, ◌≤◌, true, false, eqb, leb, ◌&&◌, List, [], ◌∷◌, ◌++◌, length, drop, refl, sym, ap, subst, ◌∙◌, arith, zero-le, suc-le-suc}
use Rattle.std.specs.List.{AllByRecursion}
use Rattle.std.proofs.lemmas.Bool.{eqb-true, ne_eqb, cases_Bool, or_cases, and_parts, leb-true}
use Rattle.text_shapes.specs.Reach.{IsMarked, IsToken, IsWord, is_digit, is_letter, is_word_byte, place, reach}
use Rattle.text_shapes.specs.Readers.{Stands}
use Rattle.text_shapes.specs.Tokens.{is_space}
use Rattle.text_shapes.proofs.ReachLemmas.{over_space, over_token, reach-cons}
use Rattle.text_shapes.proofs.Scans.{reach-start}

word_byte_low : (b : ℕ) → is_word_byte b ≡ true → 48 ≤ b
unfolding is_word_byte
word_byte_low b h =
    elim (or_cases (is_digit b) (is_letter b) h) [
      | inl d ↦ leb-true 48 b (and_parts (leb 48 b) (leb b 57) d).0
      | inr k ↦ elim (or_cases (leb 65 b && leb b 90) (leb 97 b && leb b 122) k) [
        | inl d ↦ omega (arith, leb-true 65 b (and_parts (leb 65 b) (leb b 90) d).0)
        | inr d ↦ omega (arith, leb-true 97 b (and_parts (leb 97 b) (leb b 122) d).0)
      ]
    ]

pub digit_is_word_byte : (b : ℕ) → is_digit b ≡ true → is_word_byte b ≡ true
unfolding is_word_byte
digit_is_word_byte b h = rw h refl

-- no letter and no digit is white space
pub word_byte_no_space : (b : ℕ) → is_word_byte b ≡ true → is_space b ≡ false
unfolding is_space
word_byte_no_space b h =
    let low = word_byte_low b h in
    rw (ne_eqb b 32 (λ e. omega (arith, low)), ne_eqb b 9 (λ e. omega (arith, low)), ne_eqb b 13 (λ e. omega (arith, low)), ne_eqb b 10 (λ e. omega (arith, low))) refl

-- where a mark comes next, or nothing, no letter and no digit goes on
marked_ends : (ts : List (List ℕ)) (b : ℕ) (bs : List ℕ) → IsMarked ts → is_word_byte b ≡ true → reach [] ts (b ∷ bs) ≡ 0
marked_ends [] b bs h e = reach-cons [] [] b bs ∙ rw (word_byte_no_space b e) refl
marked_ends ([] ∷ ts) b bs h e = absurd h
marked_ends ((c ∷ w) ∷ ts) b bs h e =
    let ne : b ≡ c → ⊥ = λ same. let no : false ≡ true = sym h ∙ (ap is_word_byte (sym same) ∙ e) in absurd cc in
    reach-cons [] ((c ∷ w) ∷ ts) b bs ∙ rw (word_byte_no_space b e, ne_eqb b c ne) refl

-- a word w stands. Another goes no further than w does, unless it has w in front and the byte after it too
pub beaten : (w other : List ℕ) (ts : List (List ℕ)) (rest : List ℕ) → AllByRecursion (λ b. is_word_byte b ≡ true) w → IsMarked ts → (other ≡ w → ⊥)
    → ((c : ℕ) (x y : List ℕ) → other ≡ w ++ c ∷ x → rest ≡ c ∷ y → ⊥) → reach other ts (w ++ rest) ≤ length w
unfolding reach
beaten [] [] ts rest all marked ne stop = absurd (ne refl)
beaten [] (c ∷ x) ts [] all marked ne stop = zero-le
beaten [] (c ∷ x) ts (b ∷ y) all marked ne stop =
    let other : b ≡ c → ⊥ = λ e. stop c x y refl (rw e refl) in
    rw (ne_eqb b c other) zero-le
beaten (b ∷ w) [] ts rest all marked ne stop = subst (λ n. n ≤ suc (length w)) (sym (marked_ends ts b (w ++ rest) marked all.0)) zero-le
beaten (b ∷ w) (c ∷ other) ts rest all marked ne stop =
    elim (cases_Bool (eqb b c)) [
      | inl e ↦ let same = eqb-true b c e in
          rw e (suc-le-suc (beaten w other ts rest all.1 marked (λ h. ne (rw (same, h) refl)) (λ d x y h. stop d x y (rw (same, h) refl))))
      | inr e ↦ rw e zero-le
    ]

-- the first byte of what begins with a word
pub IsWord-token : (w : List ℕ) → IsWord w → IsToken w
IsWord-token [] h = absurd (omega (arith, h.0))
IsWord-token (c ∷ w) h = word_byte_no_space c h.1.0

-- the same where a token begins
pub beaten_token : (w other : List ℕ) (ts : List (List ℕ)) (rest : List ℕ) → IsWord w → IsWord other → IsMarked ts → (other ≡ w → ⊥)
    → ((c : ℕ) (x y : List ℕ) → other ≡ w ++ c ∷ x → rest ≡ c ∷ y → ⊥) → reach [] (other ∷ ts) (w ++ rest) ≤ length w
beaten_token [] other ts rest h o marked ne stop = absurd (omega (arith, h.0))
beaten_token (b ∷ w) [] ts rest h o marked ne stop = absurd (omega (arith, o.0))
beaten_token (b ∷ w) (c ∷ other) ts rest h o marked ne stop =
    rw (reach-start c other ts (b ∷ (w ++ rest)) (λ lt. word_byte_no_space b h.1.0)) (beaten (b ∷ w) (c ∷ other) ts rest h.1 marked ne stop)

-- a token that stands leads on
pub place-stands : (bytes : List ℕ) (at : ℕ) (t : List ℕ) (next : ℕ) (ts : List (List ℕ)) → IsToken t → Stands bytes at t next → place bytes at (t ∷ ts) ≡ place bytes next ts
place-stands bytes at t next ts token s =
    let one : reach [] (t ∷ ts) (drop at bytes) ≡ length s.space + (length t + reach [] ts (drop next bytes)) = ap (reach [] (t ∷ ts)) s.split ∙ over_space s.space (t ∷ ts) (t ++ drop next bytes) s.blank ∙ ap (λ n. length s.space + n) (over_token t ts (drop next bytes) token) in
    omega (arith, one, s.sum)

-- WHERE A WORD STANDS, ANOTHER GOES NO FURTHER
pub place-beaten : (bytes : List ℕ) (at : ℕ) (w other : List ℕ) (next : ℕ) (ts : List (List ℕ)) → Stands bytes at w next → IsWord w → IsWord other → IsMarked ts → (other ≡ w → ⊥)
    → ((c : ℕ) (x y : List ℕ) → other ≡ w ++ c ∷ x → drop next bytes ≡ c ∷ y → ⊥) → place bytes at (other ∷ ts) ≤ next
place-beaten bytes at w other next ts s h o marked ne stop =
    let one : reach [] (other ∷ ts) (drop at bytes) ≡ length s.space + reach [] (other ∷ ts) (w ++ drop next bytes) = ap (reach [] (other ∷ ts)) s.split ∙ over_space s.space (other ∷ ts) (w ++ drop next bytes) s.blank in
    omega (arith, one, s.sum, beaten_token w other ts (drop next bytes) h o marked ne stop)
