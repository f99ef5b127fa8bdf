-- Linear equations in whole numbers whose right sides are 0.
use Rattle.std.proofs.Common.{◌≡◌, ℕ, zero, suc, ◌<◌, List, [], ◌∷◌, map, length, ℤ, pos, ◌+ℤ◌, ◌*ℤ◌, neg_ℤ, true, false, cond, eqb, refl, sym, ap, ap₂, ◌∙◌, arith}
use Rattle.std.proofs.lemmas.Bool.{ne_eqb, eq-eqb}
use Rattle.std.proofs.lemmas.List.{length-map}
use Rattle.ring_identities.proofs.Identities.{reads, by_ring}
use Rattle.ring_identities.proofs.Integers.{times_zero}
use Rattle.inertia_laws.specs.Matrices.{is_zero, dot, single}
use Rattle.inertia_laws.specs.Equations.{Solves, Solution}
use Rattle.inertia_laws.proofs.Totals.{total_agree, total_none, total_plus, total_times}
use Rattle.inertia_laws.proofs.Signs.{is_zero_means, zero_of_times}

-- rest is the list without the equation at one of its places
data Takes : List (ℕ → ℤ) → (ℕ → ℤ) → List (ℕ → ℤ) → Type 0 where
  here : {row : ℕ → ℤ} {rows : List (ℕ → ℤ)} → Takes (row ∷ rows) row rows
  later : {other row : ℕ → ℤ} {rows rest : List (ℕ → ℤ)} → Takes rows row rest → Takes (other ∷ rows) row (other ∷ rest)

abbrev AreWithout : ℕ → List (ℕ → ℤ) → Type 0
AreWithout m [] = Unit {0}
AreWithout m (row ∷ rows) = (row m ≡ pos 0) × AreWithout m rows

data Choice (m : ℕ) (rows : List (ℕ → ℤ)) : Type 0 where
  all_zero : AreWithout m rows → Choice m rows
  found : (row : ℕ → ℤ) (rest : List (ℕ → ℤ)) → Takes rows row rest → is_zero (row m) ≡ false → Choice m rows

choose : (m : ℕ) (rows : List (ℕ → ℤ)) → Choice m rows
choose m [] = all_zero tt
choose m (row ∷ rows) =
    elim (is_zero (row m)) as (λ v. is_zero (row m) ≡ v → Choice m (row ∷ rows)) [
      | true ↦ λ e. elim (choose m rows) [ all_zero h ↦ all_zero (is_zero_means (row m) e, h) | found other rest takes e ↦ found other (row ∷ rest) (later takes) e ]
      | false ↦ λ e. found row rows here e
    ] refl

-- the unknown m taken out of a row by the pivot
abbrev combine : ℕ → (ℕ → ℤ) → (ℕ → ℤ) → ℕ → ℤ
combine m pivot row j = pivot m *ℤ row j +ℤ neg_ℤ (row m) *ℤ pivot j

abbrev extend : ℕ → (ℕ → ℤ) → (ℕ → ℤ) → ℕ → ℤ
extend m pivot x j = cond (eqb j m) (neg_ℤ (dot m pivot x)) (pivot m *ℤ x j)

dot_combine : (m : ℕ) (pivot row x : ℕ → ℤ) → dot m (combine m pivot row) x ≡ pivot m *ℤ dot m row x +ℤ neg_ℤ (row m) *ℤ dot m pivot x
dot_combine m pivot row x =
    total_agree m _ _ (λ j below. by_ring (pivot m ∷ row j ∷ row m ∷ pivot j ∷ x j ∷ []) (search reads depth 30) (search reads depth 30) refl)
    ∙ total_plus m (λ j. pivot m *ℤ (row j *ℤ x j)) (λ j. neg_ℤ (row m) *ℤ (pivot j *ℤ x j))
    ∙ ap₂ (λ u v. u +ℤ v) (total_times m (pivot m) (λ j. row j *ℤ x j)) (total_times m (neg_ℤ (row m)) (λ j. pivot j *ℤ x j))

extend_at : (m : ℕ) (pivot x : ℕ → ℤ) → extend m pivot x m ≡ neg_ℤ (dot m pivot x)
extend_at m pivot x = ap (λ b. cond b (neg_ℤ (dot m pivot x)) (pivot m *ℤ x m)) (eq-eqb m m refl)

extend_below : (m : ℕ) (pivot x : ℕ → ℤ) (j : ℕ) → j < m → extend m pivot x j ≡ pivot m *ℤ x j
extend_below m pivot x j below = ap (λ b. cond b (neg_ℤ (dot m pivot x)) (pivot m *ℤ x j)) (ne_eqb j m (λ e. omega arith))

dot_extend : (m : ℕ) (pivot row x : ℕ → ℤ) → dot (suc m) row (extend m pivot x) ≡ pivot m *ℤ dot m row x +ℤ row m *ℤ neg_ℤ (dot m pivot x)
dot_extend m pivot row x =
    ap₂ (λ u v. u +ℤ v)
    (total_agree m _ _ (λ j below. ap (λ u. row j *ℤ u) (extend_below m pivot x j below) ∙ by_ring (row j ∷ pivot m ∷ x j ∷ []) (search reads depth 30) (search reads depth 30) refl) ∙ total_times m (pivot m) (λ j. row j *ℤ x j))
    (ap (λ u. row m *ℤ u) (extend_at m pivot x))

opposite : (p d : ℤ) → p *ℤ d +ℤ p *ℤ neg_ℤ d ≡ pos 0
opposite p d = by_ring (p ∷ d ∷ []) (search reads depth 30) (search reads depth 30) refl

moved : (p d r e : ℤ) → p *ℤ d +ℤ r *ℤ neg_ℤ e ≡ p *ℤ d +ℤ neg_ℤ r *ℤ e
moved p d r e = by_ring (p ∷ d ∷ r ∷ e ∷ []) (search reads depth 30) (search reads depth 30) refl

restore_all : (m : ℕ) (pivot x : ℕ → ℤ) (rows : List (ℕ → ℤ)) → Solves m x (map (combine m pivot) rows) → Solves (suc m) (extend m pivot x) rows
restore_all m pivot x [] h = tt
restore_all m pivot x (row ∷ rows) h =
    (dot_extend m pivot row x ∙ moved (pivot m) (dot m row x) (row m) (dot m pivot x) ∙ sym (dot_combine m pivot row x) ∙ h.0, restore_all m pivot x rows h.1)

restore : (m : ℕ) {pivot : ℕ → ℤ} (x : ℕ → ℤ) {rows rest : List (ℕ → ℤ)} → Takes rows pivot rest → Solves m x (map (combine m pivot) rest) → Solves (suc m) (extend m pivot x) rows
restore m x (here {row} {rows}) h = (dot_extend m row row x ∙ opposite (row m) (dot m row x), restore_all m row x rows h)
restore m x (later {other} {row} takes) h =
    (dot_extend m row other x ∙ moved (row m) (dot m other x) (other m) (dot m row x) ∙ sym (dot_combine m row other x) ∙ h.0, restore m x takes h.1)

takes_length : {rows : List (ℕ → ℤ)} {row : ℕ → ℤ} {rest : List (ℕ → ℤ)} → Takes rows row rest → length rows ≡ suc (length rest)
takes_length here = refl
takes_length (later takes) = ap suc (takes_length takes)

-- where no equation has the unknown m, the vector 0, .., 0, 1 is a solution
last_solves : (m : ℕ) (rows : List (ℕ → ℤ)) → AreWithout m rows → Solves (suc m) (single m (pos 1)) rows
last_solves m [] h = tt
last_solves m (row ∷ rows) h = (
  ap₂ (λ u v. u +ℤ v)
      (total_none m _ (λ j below. ap (λ b. row j *ℤ cond b (pos 1) (pos 0)) (ne_eqb j m (λ e. omega arith)) ∙ times_zero (row j)))
      (ap₂ (λ u b. u *ℤ cond b (pos 1) (pos 0)) h.0 (eq-eqb m m refl)),
  last_solves m rows h.1,
)

pub solve : (n : ℕ) (rows : List (ℕ → ℤ)) → length rows < n → Solution n rows
solve zero rows h = absurd (omega arith)
solve (suc m) rows h =
    elim (choose m rows) [
      | all_zero without ↦ record { x = single m (pos 1); place = m; within = omega arith; not_zero = ap (λ b. is_zero (cond b (pos 1) (pos 0))) (eq-eqb m m refl); solves = last_solves m rows without }
      | found row rest takes e ↦
          let fewer : length (map (combine m row) rest) < m = omega (arith, takes_length takes, length-map rest (combine m row)) in
          let less = solve m (map (combine m row) rest) fewer in
          record {
            x = extend m row less.x;
            place = less.place;
            within = omega (arith, less.within);
            not_zero = ap is_zero (extend_below m row less.x less.place less.within) ∙ zero_of_times (row m) (less.x less.place) e ∙ less.not_zero;
            solves = restore m less.x takes less.solves;
          }
    ]
