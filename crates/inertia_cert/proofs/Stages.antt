-- A step of a program's elimination is the definition's: its two halves follow each other, and the tables of the first need
-- only agree with the definition's below n.
use Rattle.std.proofs.Common.{◌≡◌, ℕ, zero, suc, ◌<◌, ℤ, Bool, true, false, ◌&&◌, refl, sym, subst, ap, ap₂, ◌∙◌}
use Rattle.inertia_laws.specs.Fractions as logic
use Rattle.inertia_laws.specs.Elimination.{State, add_column, add_row, prepared, finished, step, start, steps}
use Rattle.inertia_laws.specs.Agreement.{Agree, AgreeAll}
use Rattle.inertia_laws.specs.Range.{every, every_place, add_row_fits, prepared_fits, finished_fits, step_fits}
use Rattle.inertia_laws.proofs.Agreement.{AgreeAll-trans, every_place-agree, add_row-agree, add_row_fits-agree, finished-agree, finished_fits-agree, step-agree, step_fits-agree}
use Rattle.inertia_cert.specs.declared.fault.FormFault.{FormFault}
use Rattle.inertia_cert.specs.declared.fault.FormFault.TheVariants.{OutOfBits, Memory}
use Rattle.inertia_cert.specs.Grids.{CausedBy}

every_true : (n : ℕ) (f : ℕ → Bool) → ((i : ℕ) → f i ≡ true) → every n f ≡ true
every_true zero f h = refl
every_true (suc n) f h = ap₂ (λ u v. u && v) (every_true n f h) (h n)

pub every_place_true : (n : ℕ) → every_place n (λ i j. true) ≡ true
every_place_true n = every_true n _ (λ i. every_true n _ (λ j. refl))

pub caused_and : (fault : FormFault) (a b : Bool) → CausedBy fault b → CausedBy fault (a && b)
caused_and Memory a b h = tt
caused_and OutOfBits true b h = h
caused_and OutOfBits false b h = refl

pub caused_first : (fault : FormFault) (a b : Bool) → CausedBy fault a → CausedBy fault (a && b)
caused_first Memory a b h = tt
caused_first OutOfBits true b h = cc
caused_first OutOfBits false b h = refl

-- ---- part 2: rows are added in the table whose columns were
module _ (n k j : ℕ) (hk : k < n) (hj : j < n) (columns m : ℕ → ℕ → logic.Fraction) (h : Agree n columns (add_column k j m)) where
  pub rows_made : (rows : ℕ → ℕ → logic.Fraction) → Agree n rows (add_row k j columns) → Agree n rows (add_row k j (add_column k j m))
  rows_made rows g a b ha hb = g a b ha hb ∙ add_row-agree n k hk columns (add_column k j m) h j hj a b ha hb

  pub rows_fit : every_place n (add_row_fits k j columns) ≡ every_place n (add_row_fits k j (add_column k j m))
  rows_fit = every_place-agree n _ _ (add_row_fits-agree n k hk columns (add_column k j m) h j hj)

-- ---- the two halves of a step; r is the state between them
module _ (n size k : ℕ) (same : size ≡ n) (hk : k < n) (r s : State) (h : AgreeAll n r (prepared n k s)) where
  pub step_made : (x : State) → AgreeAll size x (finished size k r) → AgreeAll n x (step n k s)
  step_made x g = AgreeAll-trans (subst (λ w. AgreeAll w x (finished w k r)) same g) (finished-agree n k hk r (prepared n k s) h)

  halves_fit : finished_fits size k r ≡ finished_fits n k (prepared n k s)
  halves_fit = ap (λ w. finished_fits w k r) same ∙ finished_fits-agree n k hk r (prepared n k s) h

  pub step_fit : prepared_fits n k s ≡ true → finished_fits size k r ≡ true → step_fits n k s ≡ true
  step_fit e g = ap₂ (λ u v. u && v) e (sym halves_fit ∙ g)

  pub step_refused : (fault : FormFault) → CausedBy fault (finished_fits size k r) → CausedBy fault (step_fits n k s)
  step_refused fault g = caused_and fault (prepared_fits n k s) (finished_fits n k (prepared n k s)) (subst (CausedBy fault) halves_fit g)

-- ---- one more step of the whole elimination; r is the state before it
module _ (n size k : ℕ) (l : ℕ → ℕ → ℤ) (same : size ≡ n) (hk : k < n) (r : State) (h : AgreeAll n r (steps n k (start l))) where
  pub one_more : (x : State) → AgreeAll size x (step size k r) → AgreeAll n x (steps n (suc k) (start l))
  one_more x g = AgreeAll-trans (subst (λ w. AgreeAll w x (step w k r)) same g) (step-agree n k hk r (steps n k (start l)) h)

  pub same_fit : step_fits size k r ≡ step_fits n k (steps n k (start l))
  same_fit = ap (λ w. step_fits w k r) same ∙ step_fits-agree n k hk r (steps n k (start l)) h
