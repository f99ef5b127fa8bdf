-- Where the longest number stands, each other number breaks off no later than it ends, and where none
-- begins each breaks off at once.
--
--     number_found, number_missed    the same behind white space
--     number_begins_unclosed         its first byte
use Rattle.std.proofs.Common.{inl, inr, ◌≡◌, ◌⊎◌, ℕ, ◌+◌, ◌*◌, ◌/◌, ◌%◌, ◌^◌, ◌-◌, ◌<◌, ◌≤◌, true, false, leb, List, [], ◌∷◌, ◌++◌, length, drop, get_or, decimal, refl, sym, ap, subst, ◌∙◌, arith, length-append, length-drop}
use Rattle.std.specs.List.{AllByRecursion}
use Rattle.std.specs.Str.Parse.{AllDigits}
use Rattle.std.proofs.lemmas.Bool.{ne_eqb, cases_eq, and_from, and_parts, le-leb, leb-true}
use Rattle.std.proofs.lemmas.Str.Parse.{digit_at}
use Rattle.std.proofs.lemmas.Fmt.{decimal_is_IsNumeral, decimal_step, length-decimal-le, decimal_injective, first_decimal, decimal_nonempty}
use Rattle.text_shapes.specs.Reach.{BeginsUnclosed, IsWord, is_closing, is_digit, is_word_byte, place, reach}
use Rattle.text_shapes.specs.Readers.{Found, LongestNumber, Missed, Skips, Stands}
use Rattle.text_shapes.specs.Tokens.{IsNumber, is_space, number_tokens, one_is_a_number}
use Rattle.text_shapes.proofs.ReachLemmas.{over_space}
use Rattle.text_shapes.proofs.Scans.{at_head}
use Rattle.text_shapes.proofs.Ends.{word_ends}
use Rattle.text_shapes.proofs.Words.{IsWord-token, digit_is_word_byte, place-beaten, place-stands}

abbrev IsDigit : ℕ → Type 0
IsDigit b = is_digit b ≡ true

all_digits : (ds : List ℕ) → AllDigits 10 ds → AllByRecursion IsDigit ds
all_digits [] h = tt
all_digits (c ∷ cs) h =
    let r = digit_at (c ∷ cs) 0 h (omega arith) in
    (and_from (leb 48 c) (leb c 57) (le-leb 48 c (omega (arith, r))) (le-leb c 57 (omega (arith, r))), all_digits cs h.1)

digits_are_word_bytes : (ds : List ℕ) → AllByRecursion IsDigit ds → AllByRecursion (λ b. is_word_byte b ≡ true) ds
digits_are_word_bytes [] h = tt
digits_are_word_bytes (d ∷ ds) h = (digit_is_word_byte d h.0, digits_are_word_bytes ds h.1)

pub small : (n : ℕ) → IsNumber n → n < 2 ^ 64
small n h = omega (arith, h.high)

decimal_digits : (n : ℕ) → IsNumber n → AllByRecursion IsDigit (decimal n)
decimal_digits n h = all_digits (decimal n) (decimal_is_IsNumeral n (small n h)).0.1

pub decimal-word : (n : ℕ) → IsNumber n → IsWord (decimal n)
decimal-word n h = (decimal_nonempty n (small n h), digits_are_word_bytes (decimal n) (decimal_digits n h))

longer : (k m : ℕ) → 0 < m → ((n : ℕ) → m ≤ n → n < 1000000 → k ≤ length (decimal n)) → (n : ℕ) → 10 * m ≤ n → n < 1000000 → k + 1 ≤ length (decimal n)
longer k m low h n le lt =
    let tenth : m ≤ n / 10 = omega arith in
    let one = h (n / 10) tenth (omega arith) in
    rw (decimal_step n (omega arith) (omega arith)) (omega (arith, one, length-append (decimal (n / 10)) ((48 + n % 10) ∷ [])))

six : (n : ℕ) → 100000 ≤ n → n < 1000000 → 6 ≤ length (decimal n)
six = longer 5 10000 (omega arith) (longer 4 1000 (omega arith) (longer 3 100 (omega arith) (longer 2 10 (omega arith) (longer 1 1 (omega arith) (λ n low lt. decimal_nonempty n (omega arith))))))

last_digit : (xs : List ℕ) (c : ℕ) (ys : List ℕ) → AllByRecursion IsDigit (xs ++ c ∷ ys) → is_digit c ≡ true
last_digit [] c ys h = h.0
last_digit (x ∷ xs) c ys h = last_digit xs c ys h.1

-- no longer number stands there
no_longer : (bytes : List ℕ) (at n next : ℕ) → LongestNumber bytes at n next → (m : ℕ) → IsNumber m → (c : ℕ) (x y : List ℕ) → decimal m ≡ decimal n ++ c ∷ x → drop next bytes ≡ c ∷ y → ⊥
no_longer bytes at n next s m fits c x y e r =
    elim s.longest [
      | inl long ↦ omega (arith, six n long s.fits.high, length-decimal-le 6 m (omega arith) (omega (arith, fits.high)) (small m fits), ap (length {A = ℕ}) e, length-append (decimal n) (c ∷ x))
      | inr stop ↦
          let digit = last_digit (decimal n) c x (subst (AllByRecursion IsDigit) e (decimal_digits m fits)) in
          let lt : next < length bytes = omega (arith, ap (length {A = ℕ}) r, length-drop next bytes) in
          let is : get_or bytes next 0 ≡ c = sym (at_head bytes next) ∙ rw r refl in
          let no : true ≡ false = sym digit ∙ (ap is_digit (sym is) ∙ stop lt) in
          absurd cc
    ]

number_apart : (m n : ℕ) → IsNumber m → IsNumber n → (m ≡ n → ⊥) → decimal m ≡ decimal n → ⊥
number_apart m n h k ne e = ne (decimal_injective m n (small m h) (small n k) e)

-- THE LONGEST NUMBER IS FOUND
pub number_found : (bytes : List ℕ) (at start n next : ℕ) → Skips bytes at start → LongestNumber bytes start n next → Found IsNumber number_tokens bytes at n next
number_found bytes at start n next skip s =
    let word = decimal-word n s.fits in
    let stands : Stands bytes at (decimal n) next = record { space = skip.space; blank = skip.blank; split = skip.split ∙ ap (λ (x : List ℕ). skip.space ++ x) s.split; within = s.within; sum = omega (arith, skip.sum, s.sum) } in
    record {
      fits_shape = s.fits;
      from = omega (arith, skip.sum, s.sum, word.0);
      ends = word_ends bytes at (decimal n) next word stands;
      within = s.within;
      same = λ ts. place-stands bytes at (decimal n) next ts (IsWord-token (decimal n) word) stands;
      others = λ m ts fits marked. elim (cases_eq m n) [
        | inl e ↦ inl e
        | inr ne ↦ inr (place-beaten bytes at (decimal n) (decimal m) next ts stands word (decimal-word m fits) marked (number_apart m n fits s.fits ne) (no_longer bytes start n next s m fits))
      ];
    }

first_of_number : (ds : List ℕ) → 0 < length ds → AllByRecursion IsDigit ds → 48 < get_or ds 0 0 → (c : ℕ) × (w : List ℕ) × (ds ≡ c ∷ w) × (48 < c) × (is_digit c ≡ true)
first_of_number [] lt all high = absurd (omega arith)
first_of_number (c ∷ w) lt all high = (c, w, refl, high, all.0)

-- a number begins with a digit, and not with a mark that closes
pub number_begins_unclosed : (n : ℕ) → IsNumber n → BeginsUnclosed (number_tokens n)
number_begins_unclosed n h =
    let f = first_of_number (decimal n) (decimal_nonempty n (small n h)) (decimal_digits n h) (first_decimal n h.low (small n h)) in
    let high = leb-true f.0 57 (and_parts (leb 48 f.0) (leb f.0 57) f.4).1 in
    let apart : is_closing f.0 ≡ false = rw (ne_eqb f.0 93 (λ e. omega (arith, high)), ne_eqb f.0 125 (λ e. omega (arith, high))) refl in
    subst (λ (ds : List ℕ). BeginsUnclosed (ds ∷ [])) (sym f.2) apart

-- where no number begins, each breaks off
no_number : (c : ℕ) (w : List ℕ) (ts : List (List ℕ)) (bs : List ℕ) → 48 < c → is_digit c ≡ true → (0 < length bs → is_space (get_or bs 0 0) ≡ false)
    → (0 < length bs → (is_digit (get_or bs 0 0) ≡ false) ⊎ (get_or bs 0 0 ≡ 48)) → reach [] ((c ∷ w) ∷ ts) bs ≡ 0
unfolding reach
no_number c w ts [] high digit stop none = refl
no_number c w ts (b ∷ bs) high digit stop none =
    let ne : b ≡ c → ⊥ = λ e. elim (none (omega arith)) [ inl none_here ↦ (let bad : false ≡ true = sym none_here ∙ (ap is_digit e ∙ digit) in absurd cc) | inr is ↦ omega arith ] in
    rw (stop (omega arith), ne_eqb b c ne) refl

-- WHERE NONE BEGINS, NONE IS
pub number_missed : (bytes : List ℕ) (at start : ℕ) → Skips bytes at start → (start < length bytes → (is_digit (get_or bytes start 0) ≡ false) ⊎ (get_or bytes start 0 ≡ 48)) → Missed IsNumber number_tokens bytes at start
number_missed bytes at start skip none = record {
  within = skip.within;
  furthest = 1;
  fits_shape = one_is_a_number;
  reached = λ more. breaks 1 more one_is_a_number;
  most = λ m more fits. omega (arith, breaks m more fits);
}
  where
    breaks : (m : ℕ) (ts : List (List ℕ)) → IsNumber m → place bytes at (decimal m ∷ ts) ≡ start
    breaks m ts fits =
        let f = first_of_number (decimal m) (decimal_nonempty m (small m fits)) (decimal_digits m fits) (first_decimal m fits.low (small m fits)) in
        let len : length (drop start bytes) ≡ length bytes - start = length-drop start bytes in
        let zero_more : reach [] (decimal m ∷ ts) (drop start bytes) ≡ 0 = rw f.2 (no_number f.0 f.1 ts (drop start bytes) f.3 f.4 (λ lt. rw (at_head bytes start) (skip.stops (omega arith))) (λ lt. rw (at_head bytes start) (none (omega arith)))) in
        let one : reach [] (decimal m ∷ ts) (drop at bytes) ≡ length skip.space + reach [] (decimal m ∷ ts) (drop start bytes) = ap (reach [] (decimal m ∷ ts)) skip.split ∙ over_space skip.space (decimal m ∷ ts) (drop start bytes) skip.blank in
        omega (arith, one, zero_more, skip.sum)
