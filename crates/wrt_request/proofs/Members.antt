-- A number of at most nine digits is below 10^9, and so below 2^32.
use Rattle.std.proofs.Common.{◌≡◌, refl, arith, ◌<◌, ◌≤◌, ◌^◌, ℕ, Bool, true, false, cond, List, length, nat_lt, get_or, Some, None}
use Rattle.std.specs.Str.Parse.{digits_value}
use Rattle.std.specs.Str.{all_ascii_digits}
use Rattle.std.proofs.lemmas.Bool.Decides.{nat_tests}
use Rattle.std.proofs.lemmas.Str.Parse.{digits_value_short}
use Rattle.wrt_request.specs.Decimals.{decimal_value}
use Rattle.wrt_request.specs.Lists.{member_value}
use Rattle.wrt_request.proofs.Numerals.{own, decimal_test, test_digits}

pub member_value-long : (text : List ℕ) → 9 < length text → None ≡ member_value text
unfolding member_value
member_value-long text long = let e : nat_lt 9 (length text) ≡ true = grind (arith, nat_tests) in rw e refl

pub member_value-short : (text : List ℕ) → length text ≤ 9 → decimal_value text ≡ member_value text
unfolding member_value
member_value-short text short = let e : nat_lt 9 (length text) ≡ false = grind (arith, nat_tests) in rw e refl

-- A text that writes a number has digits only, and the number is theirs.
decimal-digits : (text : List ℕ) (n : ℕ) → Some n ≡ decimal_value text → (all_ascii_digits text ≡ true) × (n ≡ digits_value 10 text)
unfolding decimal_value
decimal-digits text n is = go (decimal_test (length text) (get_or text 0 0) (all_ascii_digits text) (digits_value 10 text)) refl is
  where
    go : (b : Bool) → decimal_test (length text) (get_or text 0 0) (all_ascii_digits text) (digits_value 10 text) ≡ b
        → Some n ≡ cond b (Some (digits_value 10 text)) None → (all_ascii_digits text ≡ true) × (n ≡ digits_value 10 text)
    go true e some = (test_digits (length text) (get_or text 0 0) (digits_value 10 text) (all_ascii_digits text) e, grind (arith, some))
    go false e none = absurd (grind (arith, none))

pub member-small : (text : List ℕ) (n : ℕ) → length text ≤ 9 → Some n ≡ decimal_value text → n < 10 ^ 9
member-small text n short is =
    let d = decimal-digits text n is in
    let small : digits_value 10 text < 10 ^ 9 = digits_value_short own text 9 d.0 short in
    omega (arith, small, d.1)
