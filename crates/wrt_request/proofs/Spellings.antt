-- A text writes a number exactly where it is the number's decimal spelling.
use Rattle.std.proofs.Common.{◌≡◌, ◌∙◌, refl, arith, ap, sym, ◌<◌, ◌^◌, ℕ, Bool, true, false, cond, List, length, get_or, Some, None, zero, suc}
use Rattle.std.specs.Prelude.{decimal}
use Rattle.std.specs.Str.{all_ascii_digits}
use Rattle.std.specs.Str.Parse.{digits_value}
use Rattle.std.proofs.lemmas.Bool.Decides.{nat_tests}
use Rattle.std.proofs.lemmas.Fmt.{decimal-digits_value, decimal_nonempty, digits_decimal, digits_value-decimal, first_decimal, decimal_digit}
use Rattle.wrt_request.specs.Decimals.{decimal_value}
use Rattle.wrt_request.specs.Laws.{NumbersBySpelling}
use Rattle.wrt_request.proofs.Numerals.{own, decimal_test, test_digits, test_some, test_small}

test_plain : (n x v : ℕ) (digits : Bool) → decimal_test n x digits v ≡ true → x ≡ 48 → n ≡ 1
test_plain n x v digits h = grind (arith, nat_tests)

test_all : (n x v : ℕ) (digits : Bool) → digits ≡ true → 0 < n → v < 2 ^ 64 → (x ≡ 48 → n ≡ 1) → decimal_test n x digits v ≡ true
test_all n x v digits d some small plain = grind (arith, nat_tests)

-- The number of a text has the text as its spelling.
pub spelling : (text : List ℕ) (n : ℕ) → decimal_value text ≡ Some n → (n < 2 ^ 64) × (text ≡ decimal n)
unfolding decimal_value
spelling text n is = go (decimal_test (length text) (get_or text 0 0) (all_ascii_digits text) (digits_value 10 text)) refl is
  where
    go : (b : Bool) → decimal_test (length text) (get_or text 0 0) (all_ascii_digits text) (digits_value 10 text) ≡ b
        → cond b (Some (digits_value 10 text)) None ≡ Some n → (n < 2 ^ 64) × (text ≡ decimal n)
    go false e none = absurd (grind (arith, none))
    go true e some =
        let value : digits_value 10 text ≡ n = grind (arith, some) in
        let digits = test_digits (length text) (get_or text 0 0) (digits_value 10 text) (all_ascii_digits text) e in
        let nonempty = test_some (length text) (get_or text 0 0) (digits_value 10 text) (all_ascii_digits text) e in
        let small = test_small (length text) (get_or text 0 0) (digits_value 10 text) (all_ascii_digits text) e in
        let plain = test_plain (length text) (get_or text 0 0) (digits_value 10 text) (all_ascii_digits text) e in
        (omega (arith, small, value), sym (decimal-digits_value own text digits nonempty plain small) ∙ ap decimal value)

-- A 0 stands first in the spelling of 0 only, and there alone.
zero_alone : (n : ℕ) → n < 2 ^ 64 → get_or (decimal n) 0 0 ≡ 48 → length (decimal n) ≡ 1
zero_alone zero small first = rw (decimal_digit 0 (omega arith)) refl
zero_alone (suc n) small first = absurd (omega (arith, first_decimal (suc n) (omega arith) small, first))

-- The spelling of a number writes it.
pub spelled : (n : ℕ) → n < 2 ^ 64 → decimal_value (decimal n) ≡ Some n
unfolding decimal_value
spelled n small =
    let text = decimal n in
    let value : digits_value 10 text ≡ n = digits_value-decimal own n small in
    let e = test_all (length text) (get_or text 0 0) (digits_value 10 text) (all_ascii_digits text)
    (digits_decimal own n small) (decimal_nonempty n small) (omega (arith, value, small)) (zero_alone n small) in
    rw e (ap Some value)

pub numbers_law : NumbersBySpelling
numbers_law text n = (spelling text n, λ h. ap decimal_value h.1 ∙ spelled n h.0)
