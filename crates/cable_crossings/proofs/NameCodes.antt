-- Names that are written out as numbers: edge m of strand i, of the bundle with a tag, has the number 8 (32 i + m) and the tag more. Such a
-- number tells its strand and its edge, so names for strands and edges are names for numbers.
use Rattle.std.proofs.Common.{◌≡◌, ℕ, zero, suc, ◌+◌, ◌-◌, ◌*◌, ◌/◌, ◌%◌, ◌<◌, ◌≤◌, ◌⊎◌, inl, inr, nat_lt, nat_le, true, false, cond, refl, ap, ap₂, ◌∙◌, arith}
use Rattle.std.proofs.lemmas.Bool.Decides.{nat_tests}

-- ---- names in pieces: one up to an index, and another one past it
pub in_lt : (k i p q : ℕ) → k < i → cond (nat_lt k i) p q ≡ p
in_lt k i p q l = grind (arith, nat_tests, l)

pub out_lt : (k i p q : ℕ) → i ≤ k → cond (nat_lt k i) p q ≡ q
out_lt k i p q l = grind (arith, nat_tests, l)

pub below_or : (k i : ℕ) → (k < i) ⊎ (i ≤ k)
below_or k i = elim (nat_lt k i) as (λ b. nat_lt k i ≡ b → (k < i) ⊎ (i ≤ k)) [ true ↦ (λ t. inl (grind (arith, nat_tests, t))) | false ↦ (λ t. inr (grind (arith, nat_tests, t))) ] refl

pub in_le : (i k p q : ℕ) → i ≤ k → cond (nat_le i k) p q ≡ p
in_le i k p q l = grind (arith, nat_tests, l)

pub out_le : (i k p q : ℕ) → k < i → cond (nat_le i k) p q ≡ q
out_le i k p q l = grind (arith, nat_tests, l)

-- two functions, one behind the other, that meet
pub joined : (f g : ℕ → ℕ) (at j : ℕ) → f at ≡ g 0 → cond (nat_le (at + j) at) (f (at + j)) (g (at + j - at)) ≡ g j
joined f g at zero e = let s : at + 0 ≡ at = omega arith in in_le (at + 0) at (f (at + 0)) (g (at + 0 - at)) (omega arith) ∙ ap f s ∙ e
joined f g at (suc j) e = let s : at + suc j - at ≡ suc j = omega arith in out_le (at + suc j) at (f (at + suc j)) (g (at + suc j - at)) (omega arith) ∙ ap g s

-- ---- numbers
-- the number of edge m of strand i, of the bundle with this tag
abbrev pub code : ℕ → ℕ → ℕ → ℕ
code tag i m = 8 * (32 * i + m) + tag

-- the name that is picked by the tag, the strand and the edge of a number
abbrev pub named_by : (ℕ → ℕ → ℕ → ℕ) → ℕ → ℕ
named_by pick w = pick (w % 8) (w / 8 / 32) (w / 8 % 32)

-- A NUMBER TELLS ITS STRAND AND ITS EDGE
pub named_by-code : (pick : ℕ → ℕ → ℕ → ℕ) (tag i m : ℕ) → tag < 8 → m < 32 → named_by pick (code tag i m) ≡ pick tag i m
named_by-code pick tag i m t l =
    let w = code tag i m in
    let e : w % 8 ≡ tag = omega (arith, t) in
    let q : w / 8 / 32 ≡ i = omega (arith, t, l) in
    let p : w / 8 % 32 ≡ m = omega (arith, t, l) in
    ap (λ s. pick s (w / 8 / 32) (w / 8 % 32)) e ∙ ap₂ (pick tag) q p
