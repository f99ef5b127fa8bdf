-- The refusal for a missing inverse is the relation's: the first index that the search finds is the first that shares a factor, since
-- the search passes only indices that share none.
use Rattle.std.proofs.Common.{◌≡◌, ◌≢◌, ◌⊎◌, inl, inr, ◌∙◌, ◌<◌, ◌≤◌, ◌+◌, ◌-◌, ℕ, zero, suc, Bool, true, false, cond, Option, Some, None, Result, Ok, Err, refl, sym, ap, ap₂, subst, arith, eqb}
use Rattle.std.specs.Prelude.{find}
use Rattle.std.specs.Int.{IsGcd}
use Rattle.std.specs.List.{range_with_len}
use Rattle.std.proofs.lemmas.Bool.Decides.{nat_tests}
use Rattle.inertia_laws.specs.Fractions.{gcd}
use Rattle.inertia_laws.proofs.Values.{gcd_is}
use Rattle.root_quantum.specs.Parameters.{Parameters}
use Rattle.root_quantum.specs.QuantumNumbers.{delta}
use Rattle.wenzl_table.specs.Inverses.{AreCoprime, IsFirstCommon}
use Rattle.wenzl_table.proofs.FirstCommons.{none_first, one_index, one_common}
use Rattle.skein_network.specs.Refusals.{IsNoInverse}
use Rattle.skein_network.specs.declared.fault.CableFault.{CableFault}
use Rattle.skein_network.specs.declared.fault.CableFault.TheVariants as faults
use Rattle.wrt_values.specs.Inverses.{shares_factor, against_index, inverses}
use Rattle.wrt_values.specs.declared.fault.ValueRefusal.TheVariants.{NoInverse}

-- ---- a search among the numbers from a on
module _ (test : ℕ → Bool) where
  -- the test is passed by none of the numbers from a on, before b
  abbrev NoneBefore : ℕ → ℕ → Type 0
  NoneBefore a b = (j : ℕ) → a ≤ j → j < b → test j ≡ false

  one_more : (a b : ℕ) → test a ≡ false → NoneBefore (a + 1) b → NoneBefore a b
  one_more a b first rest j low high = cases (eqb j a) refl
    where
      cases : (same : Bool) → eqb j a ≡ same → test j ≡ false
      cases true e = let is : j ≡ a = grind (arith, nat_tests) in ap test is ∙ first
      cases false e = rest j (grind (arith, nat_tests)) high

  -- what a search finds from a on, before b: the first that passes, or that none does
  abbrev Finds : ℕ → ℕ → Option ℕ → Type 0
  Finds a b None = NoneBefore a b
  Finds a b (Some k) = (k < b) × (a ≤ k) × (test k ≡ true) × NoneBefore a k

  later : (a b : ℕ) (found : Option ℕ) → test a ≡ false → Finds (a + 1) b found → Finds a b found
  later a b None first h = one_more a b first h
  later a b (Some k) first h = (h.0, omega (arith, h.1), h.2, one_more a k first h.3)

  first_is : (a b : ℕ) → a < b → test a ≡ true → Finds a b (Some a)
  first_is a b low e = (low, omega arith, e, λ j l h. absurd (omega (arith, l, h)))

  one_step : (a b : ℕ) → a < b → (found : Option ℕ) → Finds (a + 1) b found → (passes : Bool) → test a ≡ passes → Finds a b (cond passes (Some a) found)
  one_step a b low found h true e = first_is a b low e
  one_step a b low found h false e = later a b found e h

  searched : (n a b : ℕ) → a + n ≡ b → Finds a b (find test (range_with_len a n))
  searched zero a b is = λ j low high. absurd (omega (arith, is, low, high))
  searched (suc n) a b is = one_step a b (omega (arith, is)) (find test (range_with_len (a + 1) n)) (searched n (a + 1) b (omega (arith, is))) (test a) refl

-- ---- the inverses
module _ (p : Parameters) where
  coprime : (k : ℕ) → shares_factor p k ≡ false → IsGcd (delta p k) p.modulus 1
  coprime k h =
      let one : gcd (delta p k) p.modulus ≡ 1 = grind (arith, nat_tests, h) in
      subst (λ (g : ℕ). IsGcd (delta p k) p.modulus g) one (gcd_is (delta p k) p.modulus)

  shared : (k : ℕ) → shares_factor p k ≡ true → gcd (delta p k) p.modulus ≢ 1
  shared k h = λ e. absurd (grind (arith, nat_tests, h, e))

  coprime_before : (n b : ℕ) → n ≤ b → NoneBefore (shares_factor p) 1 b → AreCoprime p n
  coprime_before n b far h k low high = coprime k (h k (omega (arith, low)) (omega (arith, high, far)))

  is_first : (n k : ℕ) → Finds (shares_factor p) 1 (1 + (n - 1)) (Some k) → IsFirstCommon p n k (gcd (delta p k) p.modulus)
  is_first n k h =
      record { above = omega (arith, h.1); below = omega (arith, h.0, h.1); divisor = gcd_is (delta p k) p.modulus; shared = shared k h.2; before = coprime_before k k (omega arith) h.3 }

  refused_at : (n index common : ℕ) → IsFirstCommon p n index common → (found : Option ℕ) → Finds (shares_factor p) 1 (1 + (n - 1)) found → against_index p found ≡ Err (NoInverse index common)
  refused_at n index common first None h = absurd (none_first p n index common (coprime_before n (1 + (n - 1)) (omega arith) h) first)
  refused_at n index common first (Some k) h =
      let here = is_first n k h in
      let g = gcd (delta p k) p.modulus in
      ap₂ (λ j b. Err (NoInverse j b)) (one_index p n k index g common here first) (one_common p n k index g common here first)

  passed : (n : ℕ) → ((index common : ℕ) → IsFirstCommon p n index common → ⊥) → (found : Option ℕ) → Finds (shares_factor p) 1 (1 + (n - 1)) found → against_index p found ≡ Ok tt
  passed n none None h = refl
  passed n none (Some k) h = absurd (none k (gcd (delta p k) p.modulus) (is_first n k h))

  -- THE FIRST THAT SHARES A FACTOR IS REFUSED
  pub inverses_refused : (n index common : ℕ) → IsFirstCommon p n index common → inverses p n ≡ Err (NoInverse index common)
  inverses_refused n index common first = refused_at n index common first _ (searched (shares_factor p) (n - 1) 1 (1 + (n - 1)) refl)

  -- AND WHERE NONE DOES NOTHING IS
  pub inverses_exist : (n : ℕ) → ((index common : ℕ) → IsFirstCommon p n index common → ⊥) → inverses p n ≡ Ok tt
  inverses_exist n none = passed n none _ (searched (shares_factor p) (n - 1) 1 (1 + (n - 1)) refl)

-- ---- faults of a cable whose colours fit
abbrev pub IsMissing : Parameters → ℕ → CableFault → Type 0
IsMissing p n (faults.NoInverse index common) = inverses p n ≡ Err (NoInverse index common)
IsMissing p n faults.Memory = Unit {0}
IsMissing p n fault = ⊥

missing_at : (p : Parameters) (n : ℕ) (fault : CableFault) → IsNoInverse p n fault → IsMissing p n fault
missing_at p n (faults.NoInverse index common) h = inverses_refused p n index common h
missing_at p n (faults.ColourCount given wanted) h = absurd h
missing_at p n (faults.ColourTooLarge colour limit) h = absurd h
missing_at p n (faults.Unequal edge) h = absurd h
missing_at p n (faults.NotAdmissible vertex) h = absurd h
missing_at p n faults.Memory h = absurd h

-- SUCH A FAULT IS A MISSING INVERSE, OR WANT OF MEMORY
pub cable_faults : (p : Parameters) (n : ℕ) (found : Option CableFault) (fault : CableFault) → found ≡ None
    → (fault ≡ faults.Memory) ⊎ ((found ≡ Some fault) ⊎ ((found ≡ None) × IsNoInverse p n fault)) → IsMissing p n fault
cable_faults p n found fault fit (inl memory) = subst (IsMissing p n) (sym memory) tt
cable_faults p n found fault fit (inr (inl refused)) = let e : None ≡ Some fault = sym fit ∙ refused in absurd (cc)
cable_faults p n found fault fit (inr (inr missing)) = missing_at p n fault missing.1
