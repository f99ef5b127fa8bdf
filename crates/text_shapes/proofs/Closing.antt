-- The bytes of marks: where one that closes stands, no item does.
use Rattle.std.proofs.Common.{inl, inr, ◌≡◌, ◌⊎◌, ℕ, ◌<◌, ◌≤◌, ◌==◌, Bool, true, false, List, [], ◌∷◌, ◌++◌, length, get_or, sym, ap, ◌∙◌, refl, arith}
use Rattle.std.proofs.lemmas.Bool.{eqb-true, or_cases}
use Rattle.text_shapes.specs.Tokens.{is_space}
use Rattle.text_shapes.specs.Reach.{place, is_closing, is_word_byte, IsToken, BeginsUnclosed}
use Rattle.text_shapes.proofs.Places.{IsStop, place-no_mark}

-- a byte that isn't there
pub not_there : (b : Bool) (bytes : List ℕ) (at c : ℕ) → b ≡ false → ((at < length bytes) × (get_or bytes at 0 ≡ c) → b ≡ true) → at < length bytes → get_or bytes at 0 ≡ c → ⊥
not_there b bytes at c is_false there lt e = let bad : false ≡ true = sym is_false ∙ there (lt, e) in absurd cc

-- a mark that closes is the bracket or the brace
closing_cases : (c : ℕ) → is_closing c ≡ true → (c ≡ 93) ⊎ (c ≡ 125)
closing_cases c h = elim (or_cases (c == 93) (c == 125) h) [ inl e ↦ inl (eqb-true c 93 e) | inr e ↦ inr (eqb-true c 125 e) ]

pub closing_apart : (c : ℕ) → is_closing c ≡ true → c ≡ 44 → ⊥
closing_apart c h e = elim (closing_cases c h) [ inl is ↦ omega arith | inr is ↦ omega arith ]

pub closing_marks : (c : ℕ) → is_closing c ≡ true → is_word_byte c ≡ false
unfolding is_word_byte
closing_marks c h = elim (closing_cases c h) [ inl is ↦ rw is refl | inr is ↦ rw is refl ]

pub closing_no_space : (c : ℕ) → is_closing c ≡ true → is_space c ≡ false
unfolding is_space
closing_no_space c h = elim (closing_cases c h) [ inl is ↦ rw is refl | inr is ↦ rw is refl ]

-- where it stands, nothing goes on that begins with another byte
pub closing_begins_none : (bytes : List ℕ) (at c : ℕ) (tokens : List (List ℕ)) (more : List (List ℕ)) → IsStop bytes at → get_or bytes at 0 ≡ c → is_closing c ≡ true → BeginsUnclosed tokens
    → place bytes at (tokens ++ more) ≤ at
closing_begins_none bytes at c [] more stop e closing h = absurd h
closing_begins_none bytes at c ([] ∷ tokens) more stop e closing h = absurd h
closing_begins_none bytes at c ((d ∷ token) ∷ tokens) more stop e closing h =
    let apart : d ≡ c → ⊥ = λ same. let bad : false ≡ true = sym h ∙ (ap is_closing same ∙ closing) in absurd cc in
    omega (arith, place-no_mark bytes at d token (tokens ++ more) stop (λ lt k. apart (sym k ∙ e)))

pub bracket_is_token : IsToken (91 ∷ [])
unfolding is_space
bracket_is_token = refl
