-- The signs + and - are readable: so an argument of a call may be a mark too, and a call with numbers and signs
-- is read by the lemmas of Calling.
use Rattle.std.proofs.Common.{inl, inr, ◌≡◌, ◌⊎◌, ℕ, ◌+◌, ◌-◌, ◌<◌, ◌≤◌, Bool, true, false, List, [], ◌∷◌, ◌++◌, length, get_or, refl, ◌∙◌, arith}
use Rattle.text_shapes.specs.Tokens.{is_space}
use Rattle.text_shapes.specs.Reach.{place}
use Rattle.text_shapes.specs.Readers.{Found, IsReadable, Missed, Skips}
use Rattle.text_shapes.proofs.Places.{IsStop, place-mark, place-no_mark, place-skips}
use Rattle.text_shapes.proofs.Scanning.{byte_at, skipped}

abbrev IsSign : Bool → Type 0
IsSign sign = Unit {0}

abbrev sign_byte : Bool → ℕ
sign_byte true = 43
sign_byte false = 45

abbrev sign_tokens : Bool → List (List ℕ)
sign_tokens sign = (sign_byte sign ∷ []) ∷ []

module _ (bytes : List ℕ) (at here : ℕ) (skip : Skips bytes at here) where
  stop : IsStop bytes here
  stop = (skip.within, skip.stops)

  stands : (c : ℕ) (more : List (List ℕ)) → here < length bytes → get_or bytes here 0 ≡ c → place bytes at ((c ∷ []) ∷ more) ≡ place bytes (here + 1) more
  stands c more lt e = place-skips bytes at here ((c ∷ []) ∷ more) skip ∙ place-mark bytes here c more stop lt e

  falls : (c : ℕ) (more : List (List ℕ)) → (here < length bytes → get_or bytes here 0 ≡ c → ⊥) → place bytes at ((c ∷ []) ∷ more) ≡ here
  falls c more ne = place-skips bytes at here ((c ∷ []) ∷ more) skip ∙ place-no_mark bytes here c [] more stop ne

  not_space : (sign : Bool) → get_or bytes here 0 ≡ sign_byte sign → is_space (get_or bytes (here + 1 - 1) 0) ≡ false
  unfolding is_space
  not_space true e = (let same : here + 1 - 1 ≡ here = omega arith in rw (same, e) refl)
  not_space false e = (let same : here + 1 - 1 ≡ here = omega arith in rw (same, e) refl)

  sign_found : (sign : Bool) → here < length bytes → get_or bytes here 0 ≡ sign_byte sign → Found IsSign sign_tokens bytes at sign (here + 1)
  sign_found sign lt e = record {
    fits_shape = tt;
    from = omega (arith, skip.sum);
    ends = not_space sign e;
    within = omega (arith, lt);
    same = λ more. stands (sign_byte sign) more lt e;
    others = λ other more h marked. by_cases sign other more e;
  }
    where
      by_cases : (x y : Bool) (more : List (List ℕ)) → get_or bytes here 0 ≡ sign_byte x → (y ≡ x) ⊎ (place bytes at (sign_tokens y ++ more) ≤ here + 1)
      by_cases true true more e = inl refl
      by_cases false false more e = inl refl
      by_cases true false more e = inr (omega (arith, falls 45 more (λ l k. omega (arith, e, k))))
      by_cases false true more e = inr (omega (arith, falls 43 more (λ l k. omega (arith, e, k))))

  sign_missed : (here < length bytes → get_or bytes here 0 ≡ 43 → ⊥) → (here < length bytes → get_or bytes here 0 ≡ 45 → ⊥) → Missed IsSign sign_tokens bytes at here
  sign_missed no_plus no_minus = record {
    within = skip.within;
    furthest = true;
    fits_shape = tt;
    reached = λ more. falls 43 more no_plus;
    most = λ sign more h. by_cases sign more;
  }
    where
      by_cases : (sign : Bool) (more : List (List ℕ)) → place bytes at (sign_tokens sign ++ more) ≤ here
      by_cases true more = omega (arith, falls 43 more no_plus)
      by_cases false more = omega (arith, falls 45 more no_minus)

-- A SIGN IS READABLE
pub sign_readable : IsReadable IsSign sign_tokens
sign_readable bytes at le =
    let s = skipped bytes at le in
    elim (byte_at bytes s.0 43) [
      | inl plus ↦ inl (true, s.0 + 1, sign_found bytes at s.0 s.1 true plus.0 plus.1)
      | inr no_plus ↦ elim (byte_at bytes s.0 45) [
        | inl minus ↦ inl (false, s.0 + 1, sign_found bytes at s.0 s.1 false minus.0 minus.1)
        | inr no_minus ↦ inr (s.0, sign_missed bytes at s.0 s.1 no_plus no_minus)
      ]
    ]
