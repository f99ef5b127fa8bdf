-- The search for a Delta that shares a factor with the modulus: it passes an index that shares none, and stops at one that does.
use Rattle.std.proofs.Common.{◌≡◌, ℕ, suc, ◌+◌, ◌-◌, ◌<◌, ◌==◌, not, Bool, false, cond, if◌then◌else◌, find, Option, Some, None, option_map, ap, subst, ◌∙◌, arith}
use Rattle.std.specs.Int.{IsGcd}
use Rattle.std.specs.List.{range_with_len}
use Rattle.std.specs.Option.{option_or}
use Rattle.std.proofs.lemmas.Bool.{eq-eqb}
use Rattle.std.proofs.lemmas.Bool.Decides.{nat_tests}
use Rattle.std.proofs.lemmas.Nat.Gcd.{same_from_IsGcd}
use Rattle.inertia_laws.specs.Fractions.{gcd}
use Rattle.inertia_laws.proofs.Values.{gcd_is}
use Rattle.root_quantum.specs.Parameters.{Parameters}
use Rattle.root_quantum.specs.QuantumNumbers.{delta}
use Rattle.tetra_sum.specs.declared.fault.TetraFault.{TetraFault}
use Rattle.tetra_sum.specs.declared.fault.TetraFault.TheVariants as faults
use Rattle.tetra_sum.specs.Refusals.{shares_factor, delta_refusal, inverse_refusal}

-- the refusal that a search comes to, of so many indices from one on
abbrev pub searched : Parameters → ℕ → ℕ → Option TetraFault
searched p index n = option_map (λ k. faults.NoInverse k (gcd (delta p k) p.modulus)) (find (shares_factor p) (range_with_len index n))

pub passes_index : (p : Parameters) (index n : ℕ) → IsGcd (delta p index) p.modulus 1 → searched p index (suc n) ≡ searched p (index + 1) n
passes_index p index n coprime =
    let one : gcd (delta p index) p.modulus ≡ 1 = same_from_IsGcd (delta p index) p.modulus (gcd (delta p index) p.modulus) 1 (gcd_is (delta p index) p.modulus) coprime in
    ap (λ (b : Bool). option_map (λ k. faults.NoInverse k (gcd (delta p k) p.modulus)) (cond (not b) (Some index) (find (shares_factor p) (range_with_len (index + 1) n)))) (eq-eqb (gcd (delta p index) p.modulus) 1 one)

pub stops_at_index : (p : Parameters) (index n common : ℕ) → IsGcd (delta p index) p.modulus common → (IsGcd (delta p index) p.modulus 1 → ⊥) → searched p index (suc n) ≡ Some (faults.NoInverse index common)
stops_at_index p index n common divisor shared =
    let g = gcd (delta p index) p.modulus in
    let same : g ≡ common = same_from_IsGcd (delta p index) p.modulus g common (gcd_is (delta p index) p.modulus) divisor in
    let other : g ≡ 1 → ⊥ = λ one. shared (subst (λ k. IsGcd (delta p index) p.modulus k) one (gcd_is (delta p index) p.modulus)) in
    let test : (g == 1) ≡ false = grind (arith, nat_tests, other) in
    ap (λ (b : Bool). option_map (λ k. faults.NoInverse k (gcd (delta p k) p.modulus)) (cond (not b) (Some index) (find (shares_factor p) (range_with_len (index + 1) n)))) test
    ∙ ap (λ k. Some (faults.NoInverse index k)) same

-- one index of those that are left
pub one_less : (p : Parameters) (index r : ℕ) → index < r - 2 → searched p index (r - 2 - index) ≡ searched p index (suc (r - 2 - (index + 1)))
one_less p index r h = let n : r - 2 - index ≡ suc (r - 2 - (index + 1)) = omega arith in ap (searched p index) n

pub none_left : (p : Parameters) (index n : ℕ) → n ≡ 0 → searched p index n ≡ None
none_left p index n e = ap (searched p index) e

-- ---- with a label, or without
pub no_label : (p : Parameters) (n : ℕ) → n ≡ 0 → inverse_refusal p n ≡ None
no_label p n e = ap (λ (b : Bool). if b then None else delta_refusal p) (eq-eqb n 0 e)

pub some_label : (p : Parameters) (n : ℕ) → 0 < n → inverse_refusal p n ≡ delta_refusal p
some_label p n h = let test : (n == 0) ≡ false = grind (arith, nat_tests, h) in ap (λ (b : Bool). if b then None else delta_refusal p) test

pub first_refused : (a b : Option TetraFault) (fault : TetraFault) → a ≡ Some fault → option_or a b ≡ Some fault
first_refused a b fault e = ap (λ o. option_or o b) e

pub second_of : (a b : Option TetraFault) → a ≡ None → option_or a b ≡ b
second_of a b e = ap (λ o. option_or o b) e
