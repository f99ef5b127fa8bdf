-- One more term of a sum of reduced fractions.
use Rattle.std.proofs.Common.{◌≡◌, ℕ, zero, suc, pred, ◌≢◌, ◌<◌, ◌≤◌, Bool, true, false, ◌&&◌, eqb, refl, sym, ap, ap₂, ◌∙◌, arith}
use Rattle.std.proofs.lemmas.Bool.{eqb-true, eqb-false}
use Rattle.inertia_laws.specs.Fractions.{Fraction, plus}
use Rattle.inertia_laws.specs.Range.{every, add_fits}
use Rattle.inertia_laws.specs.Checking.{summed, sum_fits}
use Rattle.inertia_laws.proofs.FirstStep.{every-false}
use Rattle.list_lemmas.proofs.Bools.{and_false}

pub sum_more : (place : ℕ) (f : ℕ → Fraction) (s : Fraction) → 0 < place → s ≡ summed (pred place) f → plus s (f place) ≡ summed place f
sum_more zero f s h e = absurd (omega arith)
sum_more (suc place) f s h e = ap (λ t. plus t (f (suc place))) e

pub fits_more : (place : ℕ) (f : ℕ → Fraction) (s : Fraction) → 0 < place → s ≡ summed (pred place) f → sum_fits (pred place) f ≡ true → add_fits s (f place) ≡ true → sum_fits place f ≡ true
fits_more zero f s h e before here = absurd (omega arith)
fits_more (suc place) f s h e before here = ap₂ (λ u v. u && v) before (ap (λ t. add_fits t (f (suc place))) (sym e) ∙ here)

sum_fits-false : (n m : ℕ) (f : ℕ → Fraction) → m ≤ n → sum_fits m f ≡ false → sum_fits n f ≡ false
sum_fits-false zero zero f h e = e
sum_fits-false zero (suc m) f h e = absurd (omega arith)
sum_fits-false (suc n) m f h e =
    elim (eqb m (suc n)) as (λ v. eqb m (suc n) ≡ v → sum_fits (suc n) f ≡ false) [
      | true ↦ λ same. ap (λ k. sum_fits k f) (sym (eqb-true m (suc n) same)) ∙ e
      | false ↦ λ other. let apart : m ≢ suc n = eqb-false m (suc n) other in ap (λ b. b && add_fits (summed n f) (f (suc n))) (sum_fits-false n m f (omega arith) e)
    ] refl

fits_here : (place : ℕ) (f : ℕ → Fraction) (s : Fraction) → 0 < place → s ≡ summed (pred place) f → add_fits s (f place) ≡ false → sum_fits place f ≡ false
fits_here zero f s h e here = absurd (omega arith)
fits_here (suc place) f s h e here = ap (λ b. sum_fits place f && b) (ap (λ t. add_fits t (f (suc place))) (sym e) ∙ here) ∙ and_false (sum_fits place f)

-- a term or its sum that doesn't fit
pub sum_refused : (count place : ℕ) (test : ℕ → Bool) (f : ℕ → Fraction) (s : Fraction) → 0 < place → place < count → s ≡ summed (pred place) f → test place && add_fits s (f place) ≡ false → every count test && sum_fits (pred count) f ≡ false
sum_refused count place test f s h below e refused =
    elim (test place) as (λ v. test place ≡ v → v && add_fits s (f place) ≡ false → every count test && sum_fits (pred count) f ≡ false) [
      | true ↦ λ fit rest.
          let within : place ≤ pred count = omega arith in
          ap (λ b. every count test && b) (sum_fits-false (pred count) place f within (fits_here place f s h e rest)) ∙ and_false (every count test)
      | false ↦ λ fit rest. ap (λ b. b && sum_fits (pred count) f) (every-false count place test below fit)
    ] refl refused
