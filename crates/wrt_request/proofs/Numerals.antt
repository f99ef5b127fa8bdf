-- What std's `parse` reads, where no sign and no needless 0 stands first, is the number that the definition says.
use Rattle.std.proofs.Common.{◌≡◌, ◌≢◌, ap, refl, arith, ◌<◌, ◌^◌, ◌&&◌, ◌||◌, not, ℕ, Bool, true, false, cond, ltb, eqb, List, [], ◌∷◌, length, Some, None, Result, Ok, Err, get_or}
use Rattle.std.specs.Result.{OkIff, result_ok}
use Rattle.std.specs.Str.{all_ascii_digits}
use Rattle.std.specs.Str.Parse.{ParsesUnsigned, digits_value}
use Rattle.std.proofs.lemmas.Bool.Decides.{nat_tests}
use Rattle.std.proofs.lemmas.Str.Parse.{IsNumeralModel, not_in_digits, numerals_by_value, parse_plain, tells_all_ascii_digits}
use Rattle.wrt_request.specs.Decimals.{decimal_value, is_marked}

pub own : IsNumeralModel (λ ds. all_ascii_digits ds ≡ true) (digits_value 10)
own = numerals_by_value (λ ds. all_ascii_digits ds ≡ true) tells_all_ascii_digits

abbrev marked_test : ℕ → ℕ → Bool
marked_test n x = ltb 0 n && (eqb x 43 || (eqb x 48 && ltb 1 n))

abbrev pub decimal_test : ℕ → ℕ → Bool → ℕ → Bool
decimal_test n x digits v = (ltb 0 n && (digits && not (eqb x 48 && ltb 1 n))) && ltb v (2 ^ 64)

marked_test_none : (n x v : ℕ) (digits : Bool) → (digits ≡ true → 0 < n → x ≢ 43) → marked_test n x ≡ true → decimal_test n x digits v ≡ false
marked_test_none n x v digits no_plus marked = grind (arith, nat_tests)

plain_test : (n x v : ℕ) (digits : Bool) → digits ≡ true → 0 < n → v < 2 ^ 64 → marked_test n x ≡ false → decimal_test n x digits v ≡ true
plain_test n x v digits d some small plain = grind (arith, nat_tests)

pub test_digits : (n x v : ℕ) (digits : Bool) → decimal_test n x digits v ≡ true → digits ≡ true
test_digits n x v digits h = grind (arith, nat_tests)

pub test_some : (n x v : ℕ) (digits : Bool) → decimal_test n x digits v ≡ true → 0 < n
test_some n x v digits h = grind (arith, nat_tests)

pub test_small : (n x v : ℕ) (digits : Bool) → decimal_test n x digits v ≡ true → v < 2 ^ 64
test_small n x v digits h = grind (arith, nat_tests)

no_plus : (n x : ℕ) → marked_test n x ≡ false → 0 < n → x ≢ 43
no_plus n x plain some = grind (arith, nat_tests)

pub marked_none : (text : List ℕ) → is_marked text ≡ true → None ≡ decimal_value text
unfolding decimal_value
marked_none text marked =
    let e = marked_test_none (length text) (get_or text 0 0) (digits_value 10 text) (all_ascii_digits text)
    (λ d some. not_in_digits own text 43 d (λ h. absurd (omega arith)) 0 some) marked in
    rw e refl

not_plus : (text : List ℕ) → is_marked text ≡ false → get_or text 0 0 ≢ 43
not_plus [] plain = λ e. absurd (omega arith)
not_plus (c ∷ cs) plain = no_plus (length (c ∷ cs)) c plain (omega arith)

pub plain_parsed : {E : Type 0} (text : List ℕ) (r : Result ℕ E) → ParsesUnsigned 64 10 text r → is_marked text ≡ false → result_ok r ≡ decimal_value text
unfolding decimal_value
plain_parsed {E} text r h plain = go r (parse_plain own 64 text r h (not_plus text plain))
  where
    err : (b : Bool) → decimal_test (length text) (get_or text 0 0) (all_ascii_digits text) (digits_value 10 text) ≡ b
        → ((all_ascii_digits text ≡ true) × (0 < length text) × (digits_value 10 text < 2 ^ 64) → ⊥)
        → None ≡ cond b (Some (digits_value 10 text)) None
    err true e never = absurd (never (
      test_digits (length text) (get_or text 0 0) (digits_value 10 text) (all_ascii_digits text) e,
      test_some (length text) (get_or text 0 0) (digits_value 10 text) (all_ascii_digits text) e,
      test_small (length text) (get_or text 0 0) (digits_value 10 text) (all_ascii_digits text) e,
    ))
    err false e never = refl

    go : (o : Result ℕ E) → OkIff o ((all_ascii_digits text ≡ true) × (0 < length text) × (digits_value 10 text < 2 ^ 64)) (digits_value 10 text)
        → result_ok o ≡ decimal_value text
    go (Ok x) k =
        let e = plain_test (length text) (get_or text 0 0) (digits_value 10 text) (all_ascii_digits text) k.0.0 k.0.1 k.0.2 plain in
        rw e (ap Some k.1)
    go (Err x) k = err (decimal_test (length text) (get_or text 0 0) (all_ascii_digits text) (digits_value 10 text)) refl k
