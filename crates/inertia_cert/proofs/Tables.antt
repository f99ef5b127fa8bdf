-- Tables that are made entry by entry: the entry at a place, and why one was not made.
use Rattle.std.proofs.Common.{◌≡◌, ℕ, zero, suc, ◌≢◌, ◌+◌, ◌-◌, ◌*◌, ◌<◌, Bool, true, false, List, [], ◌∷◌, ◌++◌, length, get_or, eqb, refl, sym, ap, ◌∙◌, arith}
use Rattle.std.proofs.lemmas.Bool.{eqb-true, eqb-false}
use Rattle.std.proofs.lemmas.List.{length-append, get_or-append_right, length-map}
use Rattle.inertia_laws.specs.Fractions as logic
use Rattle.inertia_laws.specs.Range.{every}
use Rattle.inertia_laws.proofs.FirstStep.{every-false}
use Rattle.inertia_cert.specs.declared.fraction.Fraction.{Fraction}
use Rattle.inertia_cert.specs.declared.fault.FormFault.{FormFault}
use Rattle.inertia_cert.specs.declared.fault.FormFault.TheVariants.{OutOfBits, Memory}
use Rattle.inertia_cert.specs.Grids.{values, listed, tabulated, CausedBy}

pub caused_later : (fault : FormFault) (n c : ℕ) (test : ℕ → Bool) → c < n → CausedBy fault (test c) → CausedBy fault (every n test)
caused_later Memory n c test h e = tt
caused_later OutOfBits n c test h e = every-false n c test h e

pub length-listed : (n : ℕ) (f : ℕ → logic.Fraction) → length (listed n f) ≡ n
length-listed zero f = refl
length-listed (suc n) f = omega (arith, length-append (listed n f) (f n ∷ []), length-listed n f)

get-before : {X : Type 0} (xs ys : List X) (i : ℕ) (d : X) → i < length xs → get_or (xs ++ ys) i d ≡ get_or xs i d
get-before [] ys i d h = absurd (omega arith)
get-before (x ∷ xs) ys zero d h = refl
get-before (x ∷ xs) ys (suc i) d h = get-before xs ys i d (omega arith)

pub get-listed : (n j : ℕ) (f : ℕ → logic.Fraction) (d : logic.Fraction) → j < n → get_or (listed n f) j d ≡ f j
get-listed zero j f d h = absurd (omega arith)
get-listed (suc n) j f d h =
    elim (eqb j n) as (λ v. eqb j n ≡ v → get_or (listed n f ++ f n ∷ []) j d ≡ f j) [
      | true ↦ λ e.
          let same : j ≡ n = eqb-true j n e in
          get_or-append_right (listed n f) (f n ∷ []) n j d (length-listed n f) (omega arith)
          ∙ ap (λ i. get_or (f n ∷ []) i d) (let none : j - n ≡ 0 = omega arith in none)
          ∙ ap f (sym same)
      | false ↦ λ e.
          let other : j ≢ n = eqb-false j n e in
          get-before (listed n f) (f n ∷ []) j d (omega (arith, length-listed n f)) ∙ get-listed n j f d (omega arith)
    ] refl

pub length-tabulated : (n rows : ℕ) (f : ℕ → ℕ → logic.Fraction) → length (tabulated n rows f) ≡ rows * n
length-tabulated n zero f = omega arith
length-tabulated n (suc rows) f = omega (arith, length-append (tabulated n rows f) (listed n (f rows)), length-tabulated n rows f, length-listed n (f rows))

-- an earlier row ends before a later one
pub row_before : (n i rows j : ℕ) → i < rows → j < n → i * n + j < rows * n
row_before n i zero j h g = absurd (omega arith)
row_before n i (suc rows) j h g =
    elim (eqb i rows) as (λ v. eqb i rows ≡ v → i * n + j < suc rows * n) [
      | true ↦ λ e. let same : i * n ≡ rows * n = ap (λ r. r * n) (eqb-true i rows e) in omega arith
      | false ↦ λ e. let other : i ≢ rows = eqb-false i rows e in let before : i * n + j < rows * n = row_before n i rows j (omega arith) g in omega arith
    ] refl

pub get-tabulated : (n rows i j : ℕ) (f : ℕ → ℕ → logic.Fraction) (d : logic.Fraction) → i < rows → j < n → get_or (tabulated n rows f) (i * n + j) d ≡ f i j
get-tabulated n zero i j f d h g = absurd (omega arith)
get-tabulated n (suc rows) i j f d h g =
    elim (eqb i rows) as (λ v. eqb i rows ≡ v → get_or (tabulated n rows f ++ listed n (f rows)) (i * n + j) d ≡ f i j) [
      | true ↦ λ e.
          let same : i ≡ rows = eqb-true i rows e in
          let row : i * n ≡ rows * n = ap (λ r. r * n) same in
          get_or-append_right (tabulated n rows f) (listed n (f rows)) (rows * n) (i * n + j) d (length-tabulated n rows f) (omega arith)
          ∙ ap (λ k. get_or (listed n (f rows)) k d) (let rest : i * n + j - rows * n ≡ j = omega arith in rest)
          ∙ get-listed n j (f rows) d g
          ∙ ap (λ r. f r j) (sym same)
      | false ↦ λ e.
          let other : i ≢ rows = eqb-false i rows e in
          let below : i < rows = omega arith in
          get-before (tabulated n rows f) (listed n (f rows)) (i * n + j) d (omega (arith, length-tabulated n rows f, row_before n i rows j below g))
          ∙ get-tabulated n rows i j f d below g
    ] refl

-- as many entries as were tabulated
pub length-entries : (entries : List Fraction) (n : ℕ) (f : ℕ → ℕ → logic.Fraction) → values entries ≡ tabulated n n f → length entries ≡ n * n
length-entries entries n f made = sym (length-map entries _) ∙ ap length made ∙ length-tabulated n n f
