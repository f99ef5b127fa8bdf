-- Remainders of sums, products and powers, and a list that is filled with them.
use Rattle.std.proofs.Common.{◌≡◌, ◌≢◌, length, slice_index, get_or-set_same, get_or-set_other, ℕ, ◌<◌, ◌==◌, Bool, false, List, true, sym, refl, ap, ◌∙◌, ◌+◌, ◌*◌, ◌^◌, ◌%◌, arith}
use Rattle.std.specs.Prelude.{pos, ◌+ℤ◌, ◌*ℤ◌}
use Rattle.ring_identities.proofs.PowerLemmas.{power-pos}
use Rattle.ring_identities.specs.Powers.{power}
use Rattle.ring_identities.specs.Residues.{residue}
use Rattle.std.proofs.Math.ListN.{set}
use Rattle.std.proofs.Math.Nat.{pow-zero}
use Rattle.std.proofs.lemmas.Bool.Decides.{nat_tests}
use Rattle.std.proofs.lemmas.Nat.{mul-mod_second}

-- The residue of a sum of natural numbers is their sum's remainder.
pub residue_of_sum : (m a b : ℕ) → residue m (pos a +ℤ pos b) ≡ (a + b) % m
unfolding residue
residue_of_sum m a b = refl

-- The residue of a product of natural numbers is their product's remainder.
residue_of_product : (m a b : ℕ) → residue m (pos a *ℤ pos b) ≡ a * b % m
unfolding residue
residue_of_product m a b = refl

-- A coefficient times a weight and a power, each product reduced.
pub scaled_products : (m coefficient weight step inner outer k : ℕ) → step ≡ k % m → inner ≡ residue m (pos weight *ℤ pos step) → outer ≡ residue m (pos coefficient *ℤ pos inner) →
    outer ≡ coefficient * (weight * k) % m
scaled_products m coefficient weight step inner outer k power_is inner_is outer_is =
    outer_is
    ∙ residue_of_product m coefficient inner
    ∙ ap (λ inner. coefficient * inner % m) (inner_is ∙ residue_of_product m weight step ∙ ap (λ step. weight * step % m) power_is ∙ mul-mod_second weight k m)
    ∙ mul-mod_second coefficient (weight * k) m

-- With no loop the power is 1, and one product is enough.
pub scaled_once : (m coefficient weight delta outer : ℕ) → outer ≡ residue m (pos coefficient *ℤ pos weight) → outer ≡ coefficient * (weight * delta ^ 0) % m
scaled_once m coefficient weight delta outer outer_is =
    let one : weight * 1 ≡ weight = omega arith in
    outer_is
    ∙ residue_of_product m coefficient weight
    ∙ ap (λ worth. coefficient * worth % m) (sym (ap (λ k. weight * k) (pow-zero delta) ∙ one))

-- The residue of a power is the power's remainder.
residue_of_nat : (m a : ℕ) → residue m (pos a) ≡ a % m
unfolding residue
residue_of_nat m a = refl

pub residue_of_power : (m a n : ℕ) → residue m (power (pos a) n) ≡ a ^ n % m
residue_of_power m a n = ap (residue m) (power-pos a n) ∙ residue_of_nat m (a ^ n)

-- A list that agrees with f below i does so below i + 1 when f i is set at i.
pub filled_more : (f : ℕ → ℕ) (xs : List ℕ) (i value : ℕ) → i < length xs → value ≡ f i → ((k : ℕ) → k < i → slice_index xs k ≡ f k) →
    (k : ℕ) → k < i + 1 → slice_index (set xs i value) k ≡ f k
filled_more f xs i value within is before k small = at (k == i) refl
  where
    at : (b : Bool) → (k == i) ≡ b → slice_index (set xs i value) k ≡ f k
    at true e = let same : k ≡ i = grind (arith, nat_tests, e) in ap (slice_index (set xs i value)) same ∙ get_or-set_same xs i value 0 within ∙ is ∙ ap f (sym same)
    at false e = let apart : k ≢ i = grind (arith, nat_tests, e) in get_or-set_other xs i k value 0 apart ∙ before k (omega (arith, small, apart))

-- A COEFFICIENT TIMES A POWER, BOTH REDUCED
pub product_of_remainders : (m delta coefficient free n step outer : ℕ) → n ≡ free → step ≡ residue m (power (pos delta) n) → outer ≡ residue m (pos coefficient *ℤ pos step) → outer ≡ coefficient * delta ^ free % m
product_of_remainders m delta coefficient free n step outer n_is step_is outer_is =
    outer_is
    ∙ residue_of_product m coefficient step
    ∙ ap (λ step. coefficient * step % m) (step_is ∙ residue_of_power m delta n ∙ ap (λ n. delta ^ n % m) n_is)
    ∙ mul-mod_second coefficient (delta ^ free) m
