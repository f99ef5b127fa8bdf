-- What a text with a minus before it writes, and one without; and which numbers fit 64 bits with their sign.
use Rattle.std.proofs.Common.{◌≡◌, ◌≢◌, ap, refl, arith, ◌^◌, ◌<◌, ◌≤◌, ℕ, ℤ, pos, neg_ℤ, Bool, true, false, cond, List, [], ◌∷◌, nat_lt, Option, Some, None, w64, FitsSigned, ◌+ℤ◌, ◌-ℤ◌}
use Rattle.std.proofs.lemmas.Int.{ints}
use Rattle.std.specs.Prelude.{◌==◌, option_and_then}
use Rattle.std.specs.Option.{SomeIff}
use Rattle.std.proofs.lemmas.Bool.Decides.{nat_tests}
use Rattle.wrt_request.specs.Decimals.{decimal_value}
use Rattle.wrt_request.specs.Framings.{signed_value, with_minus, without_sign}

pub signed-minus : (text digits : List ℕ) → text ≡ 45 ∷ digits → signed_value text ≡ option_and_then with_minus (decimal_value digits)
unfolding signed_value
signed-minus text digits is = rw is refl

pub signed-plain : (text : List ℕ) → ((rest : List ℕ) → text ≢ 45 ∷ rest) → signed_value text ≡ option_and_then without_sign (decimal_value text)
unfolding signed_value decimal_value
signed-plain [] other = refl
signed-plain (byte ∷ bytes) other = go (byte == 45) refl
  where
    go : (b : Bool) → (byte == 45) ≡ b
        → cond b (option_and_then with_minus (decimal_value bytes)) (option_and_then without_sign (decimal_value (byte ∷ bytes))) ≡ option_and_then without_sign (decimal_value (byte ∷ bytes))
    go true e = let same : byte ≡ 45 = grind (arith, nat_tests) in absurd (other bytes (ap (λ (x : ℕ). x ∷ bytes) same))
    go false e = refl

minus-within : (n : ℕ) → n ≤ 2 ^ 63 → FitsSigned w64 (pos 0 -ℤ pos n)
minus-within n h = omega (arith, ints)

minus-bound : (n : ℕ) → FitsSigned w64 (pos 0 -ℤ pos n) → n ≤ 2 ^ 63
minus-bound n h = omega (arith, ints)

plain-within : (n : ℕ) → n < 2 ^ 63 → FitsSigned w64 (pos 0 +ℤ pos n)
plain-within n h = omega (arith, ints)

plain-bound : (n : ℕ) → FitsSigned w64 (pos 0 +ℤ pos n) → n < 2 ^ 63
plain-bound n h = omega (arith, ints)

pub minus-fits : (n : ℕ) (r : Option ℤ) → SomeIff r (FitsSigned w64 (pos 0 -ℤ pos n)) (pos 0 -ℤ pos n) → r ≡ with_minus n
minus-fits n None h = go (nat_lt (2 ^ 63) n) refl
  where
    go : (b : Bool) → nat_lt (2 ^ 63) n ≡ b → None ≡ cond b None (Some (neg_ℤ (pos n)))
    go true e = refl
    go false e = absurd (h (minus-within n (grind (arith, nat_tests))))
minus-fits n (Some x) h =
    let within : nat_lt (2 ^ 63) n ≡ false = let bound = minus-bound n h.0 in grind (arith, nat_tests) in
    let is : x ≡ neg_ℤ (pos n) = omega (arith, ints, h.1) in
    rw (within, is) refl

pub plain-fits : (n : ℕ) (r : Option ℤ) → SomeIff r (FitsSigned w64 (pos 0 +ℤ pos n)) (pos 0 +ℤ pos n) → r ≡ without_sign n
plain-fits n None h = go (nat_lt n (2 ^ 63)) refl
  where
    go : (b : Bool) → nat_lt n (2 ^ 63) ≡ b → None ≡ cond b (Some (pos n)) None
    go true e = absurd (h (plain-within n (grind (arith, nat_tests))))
    go false e = refl
plain-fits n (Some x) h =
    let within : nat_lt n (2 ^ 63) ≡ true = let bound = plain-bound n h.0 in grind (arith, nat_tests) in
    let is : x ≡ pos n = omega (arith, ints, h.1) in
    rw (within, is) refl
