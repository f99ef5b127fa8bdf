-- The numbers of a text are one to six decimal digits whose first isn't 0, and each of those is one.
use Rattle.std.proofs.Common.{inl, inr, ◌≡◌, ℕ, ◌^◌, ◌<◌, ◌≤◌, List, length, get_or, decimal, sym, ap, ◌∙◌, arith}
use Rattle.std.specs.Str.Parse.{AllDigits, digits_value}
use Rattle.std.proofs.lemmas.Str.Parse.{numerals_by_value, tells_digits}
use Rattle.std.proofs.lemmas.Int.Digits.{digits_value-lt}
use Rattle.std.proofs.lemmas.Fmt.{decimal-digits_value, decimal_is_IsNumeral, length-decimal-le, first_decimal, decimal_digit}
use Rattle.std.proofs.lemmas.Bool.{cases_eq}
use Rattle.std.proofs.Math.Nat.{pow-le-pow_right}
use Rattle.text_shapes.specs.Tokens.{IsNumber, IsNumeral}
use Rattle.text_shapes.proofs.Numbers.{small}

value_bound : (ds : List ℕ) → AllDigits 10 ds → length ds ≤ 6 → digits_value 10 ds < 1000000
value_bound ds h le =
    let one = digits_value-lt 10 ds h in
    let two : 10 ^ length ds ≤ 10 ^ 6 = pow-le-pow_right (omega arith) le in
    omega (arith, one, two)

pub numeral_is : (ds : List ℕ) (n : ℕ) → IsNumeral ds n → IsNumber n × (ds ≡ decimal n)
numeral_is ds n h =
    let high = value_bound ds h.are_digits h.at_most_six in
    let spelled = decimal-digits_value (numerals_by_value (AllDigits 10) tells_digits) ds h.are_digits h.some (λ e. absurd (h.first_is_not_zero e)) (omega (arith, high)) in
    let low : 0 < digits_value 10 ds = elim (cases_eq (digits_value 10 ds) 0) [
      | inl zero_value ↦ absurd (h.first_is_not_zero (ap (λ (xs : List ℕ). get_or xs 0 0) (sym spelled ∙ (ap decimal zero_value ∙ decimal_digit 0 (omega arith)))))
      | inr ne ↦ omega (arith, ne)
    ] in
    (record { low = omega (arith, low, h.value); high = omega (arith, high, h.value) }, sym spelled ∙ ap decimal h.value)

-- AND EACH NUMBER OF A TEXT IS SPELLED SO
pub is_numeral : (n : ℕ) → IsNumber n → IsNumeral (decimal n) n
is_numeral n h =
    let d = decimal_is_IsNumeral n (small n h) in
    record {
      are_digits = d.0.1;
      some = d.0.0;
      at_most_six = length-decimal-le 6 n (omega arith) (omega (arith, h.high)) (small n h);
      first_is_not_zero = λ e. omega (arith, first_decimal n h.low (small n h), e);
      value = d.1;
    }
