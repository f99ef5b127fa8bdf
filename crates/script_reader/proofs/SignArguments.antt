-- The arguments of a step are readable: numbers, and the signs + and -.
use Rattle.std.proofs.Common.{inl, inr, ◌≡◌, ◌⊎◌, ℕ, ◌+◌, ◌-◌, ◌<◌, ◌≤◌, false, List, [], ◌∷◌, ◌++◌, length, get_or, refl, ap, ◌∙◌, arith}
use Rattle.text_shapes.specs.Tokens.{is_space, IsNumber, number_tokens}
use Rattle.text_shapes.specs.Reach.{place, IsMarked, AreTokens}
use Rattle.text_shapes.specs.Readers.{Found, IsReadable, Missed, Skips}
use Rattle.text_shapes.proofs.Arguments.{HasSome}
use Rattle.text_shapes.proofs.Places.{IsStop, place-mark, place-no_mark, place-skips}
use Rattle.text_shapes.proofs.Scanning.{byte_at, number_readable, skipped}
use Rattle.pd_reader.proofs.TextTokens.{numbers_are_tokens}
use Rattle.planar_check.specs.declared.sign.Sign.{Sign}
use Rattle.planar_check.specs.declared.sign.Sign.TheVariants as signs
use Rattle.script_reader.specs.declared.argument.StepArgument.{StepArgument}
use Rattle.script_reader.specs.declared.argument.StepArgument.TheVariants as arguments
use Rattle.script_reader.specs.StepTexts.{IsArgumentOf, IsSign, IsTextArgument, argument_tokens, sign_tokens, some_argument, some_is_argument}

abbrev pub sign_byte : Sign → ℕ
sign_byte signs.Plus = 43
sign_byte signs.Minus = 45

module _ (bytes : List ℕ) (at here : ℕ) (skip : Skips bytes at here) where
  stop : IsStop bytes here
  stop = (skip.within, skip.stops)

  stands : (c : ℕ) (more : List (List ℕ)) → here < length bytes → get_or bytes here 0 ≡ c → place bytes at ((c ∷ []) ∷ more) ≡ place bytes (here + 1) more
  stands c more lt e = place-skips bytes at here ((c ∷ []) ∷ more) skip ∙ place-mark bytes here c more stop lt e

  falls : (c : ℕ) (more : List (List ℕ)) → (here < length bytes → get_or bytes here 0 ≡ c → ⊥) → place bytes at ((c ∷ []) ∷ more) ≡ here
  falls c more ne = place-skips bytes at here ((c ∷ []) ∷ more) skip ∙ place-no_mark bytes here c [] more stop ne

  not_space : (sign : Sign) → get_or bytes here 0 ≡ sign_byte sign → is_space (get_or bytes (here + 1 - 1) 0) ≡ false
  unfolding is_space
  not_space signs.Plus e = (let same : here + 1 - 1 ≡ here = omega arith in rw (same, e) refl)
  not_space signs.Minus e = (let same : here + 1 - 1 ≡ here = omega arith in rw (same, e) refl)

  stands_as : (sign : Sign) (more : List (List ℕ)) → here < length bytes → get_or bytes here 0 ≡ sign_byte sign → place bytes at (sign_tokens sign ++ more) ≡ place bytes (here + 1) more
  stands_as signs.Plus more lt e = stands 43 more lt e
  stands_as signs.Minus more lt e = stands 45 more lt e

  other_sign : (x y : Sign) (more : List (List ℕ)) → get_or bytes here 0 ≡ sign_byte x → (y ≡ x) ⊎ (place bytes at (sign_tokens y ++ more) ≤ here + 1)
  other_sign signs.Plus signs.Plus more e = inl refl
  other_sign signs.Minus signs.Minus more e = inl refl
  other_sign signs.Plus signs.Minus more e = inr (omega (arith, falls 45 more (λ l k. omega (arith, e, k))))
  other_sign signs.Minus signs.Plus more e = inr (omega (arith, falls 43 more (λ l k. omega (arith, e, k))))

  pub sign_found : (sign : Sign) → here < length bytes → get_or bytes here 0 ≡ sign_byte sign → Found IsSign sign_tokens bytes at sign (here + 1)
  sign_found sign lt e = record {
    fits_shape = tt;
    from = omega (arith, skip.sum);
    ends = not_space sign e;
    within = omega (arith, lt);
    same = λ more. stands_as sign more lt e;
    others = λ other more h marked. other_sign sign other more e;
  }

  no_sign : (here < length bytes → get_or bytes here 0 ≡ 43 → ⊥) → (here < length bytes → get_or bytes here 0 ≡ 45 → ⊥) → (sign : Sign) (more : List (List ℕ)) → place bytes at (sign_tokens sign ++ more) ≤ here
  no_sign no_plus no_minus signs.Plus more = omega (arith, falls 43 more no_plus)
  no_sign no_plus no_minus signs.Minus more = omega (arith, falls 45 more no_minus)

  pub sign_missed : (here < length bytes → get_or bytes here 0 ≡ 43 → ⊥) → (here < length bytes → get_or bytes here 0 ≡ 45 → ⊥) → Missed IsSign sign_tokens bytes at here
  sign_missed no_plus no_minus = record {
    within = skip.within;
    furthest = signs.Plus;
    fits_shape = tt;
    reached = λ more. falls 43 more no_plus;
    most = λ sign more h. no_sign no_plus no_minus sign more;
  }

sign_readable : IsReadable IsSign sign_tokens
sign_readable bytes at le =
    let s = skipped bytes at le in
    elim (byte_at bytes s.0 43) [
      | inl plus ↦ inl (signs.Plus, s.0 + 1, sign_found bytes at s.0 s.1 signs.Plus plus.0 plus.1)
      | inr no_plus ↦ elim (byte_at bytes s.0 45) [
        | inl minus ↦ inl (signs.Minus, s.0 + 1, sign_found bytes at s.0 s.1 signs.Minus minus.0 minus.1)
        | inr no_minus ↦ inr (s.0, sign_missed bytes at s.0 s.1 no_plus no_minus)
      ]
    ]

-- ---- as arguments
module _ (bytes : List ℕ) (at : ℕ) where
  pub number_argument : (slot n next : ℕ) → Found IsNumber number_tokens bytes at n next → Found (IsArgumentOf (arguments.Number slot)) argument_tokens bytes at (arguments.Number n) next
  number_argument slot n next f = record { fits_shape = (tt, f.fits_shape); from = f.from; ends = f.ends; within = f.within; same = f.same; others = others }
    where
      others : (b : StepArgument) (more : List (List ℕ)) → IsArgumentOf (arguments.Number slot) b → IsMarked more → (b ≡ arguments.Number n) ⊎ (place bytes at (argument_tokens b ++ more) ≤ next)
      others (arguments.Number m) more h marked = elim (f.others m more h.1 marked) [ inl e ↦ inl (ap (λ (x : ℕ). arguments.Number x) e) | inr le ↦ inr le ]
      others (arguments.Sign s) more h marked = absurd h.0

  pub no_number_argument : (slot p : ℕ) → Missed IsNumber number_tokens bytes at p → Missed (IsArgumentOf (arguments.Number slot)) argument_tokens bytes at p
  no_number_argument slot p m = record { within = m.within; furthest = arguments.Number m.furthest; fits_shape = (tt, m.fits_shape); reached = m.reached; most = most }
    where
      most : (b : StepArgument) (more : List (List ℕ)) → IsArgumentOf (arguments.Number slot) b → place bytes at (argument_tokens b ++ more) ≤ p
      most (arguments.Number n) more h = m.most n more h.1
      most (arguments.Sign s) more h = absurd h.0

  pub sign_argument : (slot sign : Sign) (next : ℕ) → Found IsSign sign_tokens bytes at sign next → Found (IsArgumentOf (arguments.Sign slot)) argument_tokens bytes at (arguments.Sign sign) next
  sign_argument slot sign next f = record { fits_shape = (tt, tt); from = f.from; ends = f.ends; within = f.within; same = f.same; others = others }
    where
      others : (b : StepArgument) (more : List (List ℕ)) → IsArgumentOf (arguments.Sign slot) b → IsMarked more → (b ≡ arguments.Sign sign) ⊎ (place bytes at (argument_tokens b ++ more) ≤ next)
      others (arguments.Sign s) more h marked = elim (f.others s more tt marked) [ inl e ↦ inl (ap (λ (x : Sign). arguments.Sign x) e) | inr le ↦ inr le ]
      others (arguments.Number n) more h marked = absurd h.0

  pub no_sign_argument : (slot : Sign) (p : ℕ) → Missed IsSign sign_tokens bytes at p → Missed (IsArgumentOf (arguments.Sign slot)) argument_tokens bytes at p
  no_sign_argument slot p m = record { within = m.within; furthest = arguments.Sign m.furthest; fits_shape = (tt, tt); reached = m.reached; most = most }
    where
      most : (b : StepArgument) (more : List (List ℕ)) → IsArgumentOf (arguments.Sign slot) b → place bytes at (argument_tokens b ++ more) ≤ p
      most (arguments.Sign s) more h = m.most s more tt
      most (arguments.Number n) more h = absurd h.0

-- AN ARGUMENT IS READABLE
pub argument_readable : (slot : StepArgument) → IsReadable (IsArgumentOf slot) argument_tokens
argument_readable (arguments.Number slot) bytes at le = elim (number_readable bytes at le) [
  | inl n ↦ inl (arguments.Number n.0, n.1, number_argument bytes at slot n.0 n.1 n.2)
  | inr missed ↦ inr (missed.0, no_number_argument bytes at slot missed.0 missed.1)
]
argument_readable (arguments.Sign slot) bytes at le = elim (sign_readable bytes at le) [
  | inl s ↦ inl (arguments.Sign s.0, s.1, sign_argument bytes at slot s.0 s.1 s.2)
  | inr missed ↦ inr (missed.0, no_sign_argument bytes at slot missed.0 missed.1)
]

pub has_some_argument : HasSome IsArgumentOf
has_some_argument = record { some = some_argument; some_fits = some_is_argument }

-- its tokens are tokens
sign_are_tokens : (sign : Sign) → AreTokens (sign_tokens sign)
unfolding is_space
sign_are_tokens signs.Plus = (refl, tt)
sign_are_tokens signs.Minus = (refl, tt)

pub argument_are_tokens : (a : StepArgument) → IsTextArgument a → AreTokens (argument_tokens a)
argument_are_tokens (arguments.Number n) h = numbers_are_tokens n h
argument_are_tokens (arguments.Sign sign) h = sign_are_tokens sign
