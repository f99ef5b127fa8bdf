-- Tests that pass at all places below a size, and at all places of a matrix.
use Rattle.std.proofs.Common.{◌≡◌, ℕ, zero, suc, ◌≢◌, ◌<◌, Bool, true, false, ◌&&◌, eqb, refl, ap, ap₂, ◌∙◌, arith}
use Rattle.std.proofs.lemmas.Bool.{eqb-true, eqb-false}
use Rattle.inertia_laws.specs.Range.{every, every_place}
use Rattle.list_lemmas.proofs.Bools.{and_first, and_second}

pub every_at : (n i : ℕ) (test : ℕ → Bool) → every n test ≡ true → i < n → test i ≡ true
every_at zero i test e h = absurd (omega arith)
every_at (suc n) i test e h =
    elim (eqb i n) as (λ v. eqb i n ≡ v → test i ≡ true) [
      | true ↦ λ same. ap test (eqb-true i n same) ∙ and_second (every n test) (test n) e
      | false ↦ λ other. let apart : i ≢ n = eqb-false i n other in every_at n i test (and_first (every n test) (test n) e) (omega arith)
    ] refl

pub every_all : (n : ℕ) (test : ℕ → Bool) → ((i : ℕ) → i < n → test i ≡ true) → every n test ≡ true
every_all zero test h = refl
every_all (suc n) test h =
    let last : n < suc n = omega arith in
    ap₂ (λ u v. u && v) (every_all n test (λ i below. h i (omega arith))) (h n last)

pub place_at : (n i j : ℕ) (test : ℕ → ℕ → Bool) → every_place n test ≡ true → i < n → j < n → test i j ≡ true
place_at n i j test e hi hj = every_at n j (test i) (every_at n i (λ a. every n (test a)) e hi) hj

pub place_all : (n : ℕ) (test : ℕ → ℕ → Bool) → ((i j : ℕ) → i < n → j < n → test i j ≡ true) → every_place n test ≡ true
place_all n test h = every_all n _ (λ i hi. every_all n (test i) (λ j hj. h i j hi hj))
