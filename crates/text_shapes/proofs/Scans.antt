-- One byte more of white space, of a word, of a number, and what a scan of these says of how far the bytes
-- go on: where a word stands they go on behind it, and where it doesn't they go on up to its first byte
-- that differs.
use Rattle.std.proofs.Common.{inl, inr, ◌≡◌, ℕ, suc, ◌+◌, ◌*◌, ◌/◌, ◌%◌, ◌<◌, ◌≤◌, true, false, eqb, leb, List, [], ◌∷◌, ◌++◌, length, drop, get_or, decimal, refl, sym, ap, ◌∙◌, append_assoc, arith, length-append, length-drop, drop-drop, add-zero, zero-le, suc-le-suc, get_or-drop}
use Rattle.std.specs.List.{AllByRecursion}
use Rattle.std.proofs.lemmas.Bool.{eqb-true, eq-eqb, ne_eqb, cases_Bool, and_parts, leb-true}
use Rattle.std.proofs.lemmas.List.{drop_more, drop_all}
use Rattle.std.proofs.lemmas.Fmt.{decimal_step, decimal_digit}
use Rattle.text_shapes.specs.Reach.{IsToken, common, is_digit, reach}
use Rattle.text_shapes.specs.Readers.{Falls, Skips, Stands}
use Rattle.text_shapes.specs.Tokens.{IsNumber, IsSpace, is_space}
use Rattle.text_shapes.proofs.Elements.{All-push}
use Rattle.text_shapes.proofs.ReachLemmas.{over_space}

-- the bytes from one place to another
pub record Spaces (bytes : List ℕ) (at next : ℕ) : Type 0 where
  pub space : List ℕ
  pub blank : AllByRecursion IsSpace space
  pub split : drop at bytes ≡ space ++ drop next bytes
  pub within : next ≤ length bytes
  pub sum : next ≡ at + length space

pub Spaces-none : (bytes : List ℕ) (at : ℕ) → at ≤ length bytes → Spaces bytes at at
Spaces-none bytes at h = record { space = []; blank = tt; split = refl; within = h; sum = omega arith }

pub Spaces-more : (bytes : List ℕ) (at next : ℕ) → Spaces bytes at next → next < length bytes → is_space (get_or bytes next 0) ≡ true → Spaces bytes at (next + 1)
Spaces-more bytes at next h lt s =
    let b = get_or bytes next 0 in
    record {
      space = h.space ++ b ∷ [];
      blank = All-push IsSpace h.space b h.blank s;
      split = h.split ∙ ap (λ (x : List ℕ). h.space ++ x) (drop_more bytes next 0 lt) ∙ sym (append_assoc h.space (b ∷ []) (drop (next + 1) bytes));
      within = omega arith;
      sum = omega (arith, length-append h.space (b ∷ []), h.sum);
    }

-- ---- words

pub common-same : (c : ℕ) (w : List ℕ) (b : ℕ) (bs : List ℕ) → b ≡ c → common (c ∷ w) (b ∷ bs) ≡ suc (common w bs)
unfolding common
common-same c w b bs e = rw (eq-eqb b c e) refl

pub common-other : (c : ℕ) (w : List ℕ) (b : ℕ) (bs : List ℕ) → (b ≡ c → ⊥) → common (c ∷ w) (b ∷ bs) ≡ 0
unfolding common
common-other c w b bs e = rw (ne_eqb b c e) refl

pub common-no_word : (bs : List ℕ) → common [] bs ≡ 0
unfolding common
common-no_word bs = refl

pub common-no_bytes : (w : List ℕ) → common w [] ≡ 0
unfolding common
common-no_bytes [] = refl
common-no_bytes (c ∷ w) = refl

abbrev pub agreed : List ℕ → List ℕ → ℕ → ℕ → ℕ
agreed bytes word at count = count + common (drop count word) (drop (at + count) bytes)

pub agreed-more : (bytes word : List ℕ) (at count : ℕ) → count < length word → at + count < length bytes → get_or bytes (at + count) 0 ≡ get_or word count 0 → agreed bytes word at (count + 1) ≡ agreed bytes word at count
agreed-more bytes word at count lt lt2 e =
    rw (drop_more word count 0 lt, drop_more bytes (at + count) 0 lt2, common-same (get_or word count 0) (drop (count + 1) word) (get_or bytes (at + count) 0) (drop (at + count + 1) bytes) e)
    (let g : at + (count + 1) ≡ at + count + 1 = omega arith in rw g (omega arith))

pub agreed-word : (bytes word : List ℕ) (at count : ℕ) → length word ≤ count → agreed bytes word at count ≡ count
agreed-word bytes word at count le = rw (drop_all count word le, common-no_word (drop (at + count) bytes)) (omega arith)

pub agreed-bytes : (bytes word : List ℕ) (at count : ℕ) → length bytes ≤ at + count → agreed bytes word at count ≡ count
agreed-bytes bytes word at count le = rw (drop_all (at + count) bytes le, common-no_bytes (drop count word)) (omega arith)

pub agreed-other : (bytes word : List ℕ) (at count : ℕ) → count < length word → at + count < length bytes → (get_or bytes (at + count) 0 ≡ get_or word count 0 → ⊥) → agreed bytes word at count ≡ count
agreed-other bytes word at count lt lt2 e =
    rw (drop_more word count 0 lt, drop_more bytes (at + count) 0 lt2, common-other (get_or word count 0) (drop (count + 1) word) (get_or bytes (at + count) 0) (drop (at + count + 1) bytes) e) (omega arith)

-- ---- numbers

pub record Digits (bytes : List ℕ) (at n next : ℕ) : Type 0 where
  pub fits : IsNumber n
  pub within : next ≤ length bytes
  pub split : drop at bytes ≡ decimal n ++ drop next bytes
  pub sum : next ≡ at + length (decimal n)

pub Digits-first : (bytes : List ℕ) (at : ℕ) (d : ℕ) → at < length bytes → get_or bytes at 0 ≡ 48 + d → 0 < d → d < 10 → Digits bytes at d (at + 1)
Digits-first bytes at d lt e low high =
    let one = decimal_digit d high in
    record {
      fits = record { low = low; high = omega arith };
      within = omega arith;
      split = drop_more bytes at 0 lt ∙ rw (e, one) refl;
      sum = rw one refl;
    }

decimal_more : (n d : ℕ) → 0 < n → n < 100000 → d < 10 → decimal (n * 10 + d) ≡ decimal n ++ ((48 + d) ∷ [])
decimal_more n d low high lt =
    let q : (n * 10 + d) / 10 ≡ n = omega arith in
    let r : (n * 10 + d) % 10 ≡ d = omega arith in
    decimal_step (n * 10 + d) (omega arith) (omega arith) ∙ rw (q, r) refl

pub Digits-more : (bytes : List ℕ) (at n next d : ℕ) → Digits bytes at n next → n < 100000 → next < length bytes → get_or bytes next 0 ≡ 48 + d → d < 10 → Digits bytes at (n * 10 + d) (next + 1)
Digits-more bytes at n next d h high lt e small =
    let more = decimal_more n d h.fits.low high small in
    let rest : drop next bytes ≡ (48 + d) ∷ drop (next + 1) bytes = drop_more bytes next 0 lt ∙ rw e refl in
    record {
      fits = record { low = omega (arith, h.fits.low); high = omega arith };
      within = omega arith;
      split = h.split ∙ rw (more, rest) (sym (append_assoc (decimal n) ((48 + d) ∷ []) (drop (next + 1) bytes)));
      sum = rw more (omega (arith, h.sum, length-append (decimal n) ((48 + d) ∷ [])));
    }

pub digit_bounds : (b : ℕ) → is_digit b ≡ true → (48 ≤ b) × (b ≤ 57)
digit_bounds b e = let p = and_parts (leb 48 b) (leb b 57) e in (leb-true 48 b p.0, leb-true b 57 p.1)

-- ---- words that stand, and words that don't

common-whole : (w bs : List ℕ) → common w bs ≡ length w → bs ≡ w ++ drop (length w) bs
unfolding common
common-whole [] bs e = refl
common-whole (c ∷ w) [] e = absurd cc
common-whole (c ∷ w) (b ∷ bs) e =
    elim (cases_Bool (eqb b c)) [
      | inl same ↦ let e' : common w bs ≡ length w = cc (rw same at e) in
          rw (eqb-true b c same) (ap (λ (x : List ℕ). c ∷ x) (common-whole w bs e'))
      | inr other ↦ let no : 0 ≡ suc (length w) = rw other at e in absurd (omega arith)
    ]

common-bound : (w bs : List ℕ) → common w bs ≤ length bs
unfolding common
common-bound [] bs = zero-le
common-bound (c ∷ w) [] = zero-le
common-bound (c ∷ w) (b ∷ bs) =
    elim (cases_Bool (eqb b c)) [
      | inl same ↦ rw same (suc-le-suc (common-bound w bs))
      | inr other ↦ rw other zero-le
    ]

-- where a word breaks off, the input goes on no further
reach-falls : (w : List ℕ) (ts : List (List ℕ)) (bs : List ℕ) → (common w bs ≡ length w → ⊥) → reach w ts bs ≡ common w bs
unfolding reach common
reach-falls [] ts bs ne = absurd (ne refl)
reach-falls (c ∷ w) ts [] ne = refl
reach-falls (c ∷ w) ts (b ∷ bs) ne =
    elim (cases_Bool (eqb b c)) [
      | inl same ↦ rw same (ap suc (reach-falls w ts bs (λ e. ne (rw same (ap suc e)))))
      | inr other ↦ rw other refl
    ]

-- a token begins where no white space is
pub reach-start : (c : ℕ) (w : List ℕ) (ts : List (List ℕ)) (bs : List ℕ) → (0 < length bs → is_space (get_or bs 0 0) ≡ false) → reach [] ((c ∷ w) ∷ ts) bs ≡ reach (c ∷ w) ts bs
unfolding reach
reach-start c w ts [] h = refl
reach-start c w ts (b ∷ bs) h = rw (h (omega arith)) refl

pub at_head : (bytes : List ℕ) (at : ℕ) → get_or (drop at bytes) 0 0 ≡ get_or bytes at 0
at_head bytes at = get_or-drop at bytes 0 0 ∙ rw add-zero refl

pub word_stands : (bytes : List ℕ) (at next : ℕ) (word : List ℕ) → Skips bytes at next → common word (drop next bytes) ≡ length word → Stands bytes at word (next + length word)
word_stands bytes at next word s e =
    let whole = common-whole word (drop next bytes) e in
    record {
      space = s.space;
      blank = s.blank;
      split = s.split ∙ ap (λ (x : List ℕ). s.space ++ x) (whole ∙ rw (drop-drop (length word) next bytes) refl);
      within = omega (arith, s.within, e, common-bound word (drop next bytes), length-drop next bytes);
      sum = omega (arith, s.sum);
    }

pub word_falls : (bytes : List ℕ) (at next : ℕ) (word : List ℕ) → IsToken word → Skips bytes at next → (common word (drop next bytes) ≡ length word → ⊥) → Falls bytes at word (next + common word (drop next bytes))
word_falls bytes at next [] t s ne = absurd t
word_falls bytes at next (c ∷ w) t s ne =
    record {
      within = omega (arith, s.within, common-bound (c ∷ w) (drop next bytes), length-drop next bytes);
      same = λ ts.
          let stop : 0 < length (drop next bytes) → is_space (get_or (drop next bytes) 0 0) ≡ false = λ lt. rw (at_head bytes next) (s.stops (omega (arith, length-drop next bytes))) in
          let one = reach-start c w ts (drop next bytes) stop ∙ reach-falls (c ∷ w) ts (drop next bytes) ne in
          let two : reach [] ((c ∷ w) ∷ ts) (drop at bytes) ≡ length s.space + reach [] ((c ∷ w) ∷ ts) (drop next bytes) = ap (reach [] ((c ∷ w) ∷ ts)) s.split ∙ over_space s.space ((c ∷ w) ∷ ts) (drop next bytes) s.blank in
          omega (arith, one, two, s.sum);
    }
