-- Matrices that agree in the places below n: so do what the elimination makes of them and the tests on what it forms.
-- Every definition of the elimination reads entries below n alone, so each lemma names those that it reads.
use Rattle.std.proofs.Common.{◌≡◌, ℕ, zero, suc, ◌+◌, ◌-◌, ◌<◌, ◌≤◌, Bool, true, false, not, ◌&&◌, ◌||◌, Option, Some, None, cond, eqb, refl, subst, ap, ap₂, ◌∙◌, arith}
use Rattle.inertia_laws.specs.Matrices.{is_zero}
use Rattle.inertia_laws.specs.Fractions.{Fraction}
use Rattle.inertia_laws.specs.Elimination.{State, exchanged, exchange, add_column, add_row, take_row, add_place, clear_matrix, clear_columns, gathered, clear, first_from, or_added, or_exchanged, prepared, finished, step}
use Rattle.inertia_laws.specs.Range.{every, every_place, add_column_fits, add_row_fits, take_row_fits, add_place_fits, clear_matrix_fits, clear_columns_fits, gather_place_fits, gather_fits, clear_fits, added_fits, exchanged_fits, prepared_fits, finished_fits, step_fits}
use Rattle.inertia_laws.specs.Agreement.{Agree, AgreeAll}
use Rattle.inertia_laws.proofs.Moves.{exchanged_below}

-- a place that was found is below n
abbrev pub IsBelow : ℕ → Option ℕ → Type 0
IsBelow n None = Unit {0}
IsBelow n (Some j) = j < n

-- ---- tests
pub every-agree : (n : ℕ) (f g : ℕ → Bool) → ((i : ℕ) → i < n → f i ≡ g i) → every n f ≡ every n g
every-agree zero f g h = refl
every-agree (suc n) f g h =
    let last : n < suc n = omega arith in
    ap₂ (λ u v. u && v) (every-agree n f g (λ i below. h i (omega arith))) (h n last)

pub every_place-agree : (n : ℕ) (f g : ℕ → ℕ → Bool) → ((i j : ℕ) → i < n → j < n → f i j ≡ g i j) → every_place n f ≡ every_place n g
every_place-agree n f g h = every-agree n _ _ (λ i hi. every-agree n (f i) (g i) (λ j hj. h i j hi hj))

pub first_from-agree : (count i n : ℕ) (f g : ℕ → Bool) → i + count ≤ n → ((j : ℕ) → i ≤ j → j < n → f j ≡ g j) → first_from count i f ≡ first_from count i g
first_from-agree zero i n f g fit h = refl
first_from-agree (suc count) i n f g fit h =
    let within : i < n = omega arith in
    let self : i ≤ i = omega arith in
    ap₂ (λ b rest. cond b (Some i) rest) (h i self within) (first_from-agree count (suc i) n f g (omega arith) (λ j above below. h j (omega arith) below))

pub first_from-below : (count i n : ℕ) (f : ℕ → Bool) → i + count ≤ n → IsBelow n (first_from count i f)
first_from-below zero i n f fit = tt
first_from-below (suc count) i n f fit =
    elim (f i) as (λ v. IsBelow n (cond v (Some i) (first_from count (suc i) f))) [ true ↦ omega arith | false ↦ first_from-below count (suc i) n f (omega arith) ]

module _ (n k : ℕ) (hk : k < n) (x y : ℕ → ℕ → Fraction) (h : Agree n x y) where
  pub clear_matrix-agree : Agree n (clear_matrix k x) (clear_matrix k y)
  clear_matrix-agree i j hi hj =
      let here = h i j hi hj in
      let column = h i k hi hk in
      let row = h k j hk hj in
      let pivot = h k k hk hk in
      let row_i = h k i hk hi in
      cc

  pub clear_matrix_fits-agree : (i j : ℕ) → i < n → j < n → clear_matrix_fits k x i j ≡ clear_matrix_fits k y i j
  clear_matrix_fits-agree i j hi hj =
      let here = h i j hi hj in
      let column = h i k hi hk in
      let row = h k j hk hj in
      let pivot = h k k hk hk in
      cc

  module _ (p r : ℕ → ℕ → Fraction) (g : Agree n p r) where
    pub clear_columns-agree : Agree n (clear_columns k x p) (clear_columns k y r)
    clear_columns-agree i j hi hj =
        let here = g i j hi hj in
        let column = g i k hi hk in
        let row = h k j hk hj in
        let pivot = h k k hk hk in
        cc

    pub clear_columns_fits-agree : (i j : ℕ) → i < n → j < n → clear_columns_fits k x p i j ≡ clear_columns_fits k y r i j
    clear_columns_fits-agree i j hi hj =
        let here = g i j hi hj in
        let column = g i k hi hk in
        let row = h k j hk hj in
        let pivot = h k k hk hk in
        cc

    pub gathered-agree : (b : ℕ) → b < n → (c : ℕ) → c ≤ n → gathered k x p b c ≡ gathered k y r b c
    gathered-agree b hb zero hc = g k b hk hb
    gathered-agree b hb (suc c) hc =
        let within : c < n = omega arith in
        let before = gathered-agree b hb c (omega arith) in
        let here = g c b within hb in
        let row = h k c hk within in
        let pivot = h k k hk hk in
        cc

    gather_place_fits-agree : (b : ℕ) → b < n → (c : ℕ) → c < n → gather_place_fits k x p b c ≡ gather_place_fits k y r b c
    gather_place_fits-agree b hb c hc =
        let before = gathered-agree b hb c (omega arith) in
        let here = g c b hc hb in
        let row = h k c hk hc in
        let pivot = h k k hk hk in
        cc

    pub gather_fits-agree : (i j : ℕ) → i < n → j < n → gather_fits n k x p i j ≡ gather_fits n k y r i j
    gather_fits-agree i j hi hj = ap (λ b. not (eqb i k) || b) (every-agree n _ _ (λ c hc. gather_place_fits-agree j hj c hc))

  module _ (j : ℕ) (hj : j < n) where
    pub add_column-agree : Agree n (add_column k j x) (add_column k j y)
    add_column-agree a b ha hb =
        let here = h a b ha hb in
        let column = h a k ha hk in
        let other = h a j ha hj in
        cc

    pub add_row-agree : Agree n (add_row k j x) (add_row k j y)
    add_row-agree a b ha hb =
        let here = h a b ha hb in
        let row = h k b hk hb in
        let other = h j b hj hb in
        cc

    pub take_row-agree : Agree n (take_row k j x) (take_row k j y)
    take_row-agree a b ha hb =
        let here = h a b ha hb in
        let row = h k b hk hb in
        let other = h j b hj hb in
        cc

    pub add_column_fits-agree : (a b : ℕ) → a < n → b < n → add_column_fits k j x a b ≡ add_column_fits k j y a b
    add_column_fits-agree a b ha hb =
        let column = h a k ha hk in
        let other = h a j ha hj in
        cc

    pub add_row_fits-agree : (a b : ℕ) → a < n → b < n → add_row_fits k j x a b ≡ add_row_fits k j y a b
    add_row_fits-agree a b ha hb =
        let row = h k b hk hb in
        let other = h j b hj hb in
        cc

    pub take_row_fits-agree : (a b : ℕ) → a < n → b < n → take_row_fits k j x a b ≡ take_row_fits k j y a b
    take_row_fits-agree a b ha hb =
        let row = h k b hk hb in
        let other = h j b hj hb in
        cc

-- ---- states
module _ (n k : ℕ) (hk : k < n) (s t : State) (h : AgreeAll n s t) where
  pub exchange-agree : (j : ℕ) → j < n → AgreeAll n (exchange k j s) (exchange k j t)
  exchange-agree j hj = record {
    m = λ a b ha hb. h.m (exchanged k j a) (exchanged k j b) (exchanged_below n k j a hk hj ha) (exchanged_below n k j b hk hj hb);
    p = λ a b ha hb. h.p a (exchanged k j b) ha (exchanged_below n k j b hk hj hb);
    q = λ a b ha hb. h.q (exchanged k j a) b (exchanged_below n k j a hk hj ha) hb;
  }

  pub add_place-agree : (j : ℕ) → j < n → AgreeAll n (add_place k j s) (add_place k j t)
  add_place-agree j hj = record {
    m = add_row-agree n k hk (add_column k j s.m) (add_column k j t.m) (add_column-agree n k hk s.m t.m h.m j hj) j hj;
    p = add_column-agree n k hk s.p t.p h.p j hj;
    q = take_row-agree n k hk s.q t.q h.q j hj;
  }

  pub add_place_fits-agree : (j : ℕ) → j < n → add_place_fits n k j s ≡ add_place_fits n k j t
  add_place_fits-agree j hj =
      let columns = every_place-agree n _ _ (add_column_fits-agree n k hk s.m t.m h.m j hj) in
      let rows = every_place-agree n _ _ (add_row_fits-agree n k hk (add_column k j s.m) (add_column k j t.m) (add_column-agree n k hk s.m t.m h.m j hj) j hj) in
      let p_columns = every_place-agree n _ _ (add_column_fits-agree n k hk s.p t.p h.p j hj) in
      let q_rows = every_place-agree n _ _ (take_row_fits-agree n k hk s.q t.q h.q j hj) in
      ap₂ (λ u v. u && v) (ap₂ (λ u v. u && v) (ap₂ (λ u v. u && v) columns rows) p_columns) q_rows

  clear-agree : AgreeAll n (clear n k s) (clear n k t)
  clear-agree = record {
    m = clear_matrix-agree n k hk s.m t.m h.m;
    p = clear_columns-agree n k hk s.m t.m h.m s.p t.p h.p;
    q = λ a b ha hb. elim (eqb a k) as (λ v. cond v (gathered k s.m s.q b n) (s.q a b) ≡ cond v (gathered k t.m t.q b n) (t.q a b)) [
      | true ↦ gathered-agree n k hk s.m t.m h.m s.q t.q h.q b hb n (omega arith)
      | false ↦ h.q a b ha hb
    ];
  }

  clear_fits-agree : clear_fits n k s ≡ clear_fits n k t
  clear_fits-agree =
      let entries = every_place-agree n _ _ (clear_matrix_fits-agree n k hk s.m t.m h.m) in
      let columns = every_place-agree n _ _ (clear_columns_fits-agree n k hk s.m t.m h.m s.p t.p h.p) in
      let rows = every_place-agree n _ _ (gather_fits-agree n k hk s.m t.m h.m s.q t.q h.q) in
      ap₂ (λ u v. u && v) (ap₂ (λ u v. u && v) entries columns) rows

  zero-agree : is_zero (s.m k k).num ≡ is_zero (t.m k k).num
  zero-agree = ap (λ x. is_zero x.num) (h.m k k hk hk)

  pub finished-agree : AgreeAll n (finished n k s) (finished n k t)
  finished-agree =
      subst (λ v. AgreeAll n (finished n k s) (cond v t (clear n k t))) zero-agree
      (elim (is_zero (s.m k k).num) as (λ v. AgreeAll n (cond v s (clear n k s)) (cond v t (clear n k t))) [ true ↦ h | false ↦ clear-agree ])

  pub finished_fits-agree : finished_fits n k s ≡ finished_fits n k t
  finished_fits-agree = ap₂ (λ u v. u || v) zero-agree clear_fits-agree

  -- ---- parts 1 and 2
  row-agree : first_from (n - suc k) (suc k) (λ j. not (is_zero (s.m k j).num)) ≡ first_from (n - suc k) (suc k) (λ j. not (is_zero (t.m k j).num))
  row-agree = first_from-agree (n - suc k) (suc k) n _ _ (omega arith) (λ j above below. ap (λ x. not (is_zero x.num)) (h.m k j hk below))

  diagonal-agree : first_from (n - suc k) (suc k) (λ j. not (is_zero (s.m j j).num)) ≡ first_from (n - suc k) (suc k) (λ j. not (is_zero (t.m j j).num))
  diagonal-agree = first_from-agree (n - suc k) (suc k) n _ _ (omega arith) (λ j above below. ap (λ x. not (is_zero x.num)) (h.m j j below below))

  or_added-agree : (r : Option ℕ) → IsBelow n r → AgreeAll n (or_added k s r) (or_added k t r)
  or_added-agree None below = h
  or_added-agree (Some j) below = add_place-agree j below

  added_fits-agree : (r : Option ℕ) → IsBelow n r → added_fits n k s r ≡ added_fits n k t r
  added_fits-agree None below = refl
  added_fits-agree (Some j) below = add_place_fits-agree j below

  row_below : IsBelow n (first_from (n - suc k) (suc k) (λ j. not (is_zero (s.m k j).num)))
  row_below = first_from-below (n - suc k) (suc k) n _ (omega arith)

  or_exchanged-agree : (r : Option ℕ) → IsBelow n r → AgreeAll n (or_exchanged n k s r) (or_exchanged n k t r)
  or_exchanged-agree None below =
      subst (λ r. AgreeAll n (or_added k s (first_from (n - suc k) (suc k) (λ j. not (is_zero (s.m k j).num)))) (or_added k t r)) row-agree (or_added-agree _ row_below)
  or_exchanged-agree (Some j) below = exchange-agree j below

  exchanged_fits-agree : (r : Option ℕ) → IsBelow n r → exchanged_fits n k s r ≡ exchanged_fits n k t r
  exchanged_fits-agree None below = added_fits-agree _ row_below ∙ ap (added_fits n k t) row-agree
  exchanged_fits-agree (Some j) below = refl

  diagonal_below : IsBelow n (first_from (n - suc k) (suc k) (λ j. not (is_zero (s.m j j).num)))
  diagonal_below = first_from-below (n - suc k) (suc k) n _ (omega arith)

  pub prepared-agree : AgreeAll n (prepared n k s) (prepared n k t)
  prepared-agree =
      let place : Option ℕ = first_from (n - suc k) (suc k) (λ j. not (is_zero (s.m j j).num)) in
      subst (λ v. AgreeAll n (prepared n k s) (cond v (or_exchanged n k t (first_from (n - suc k) (suc k) (λ j. not (is_zero (t.m j j).num)))) t)) zero-agree
      (subst (λ r. AgreeAll n (prepared n k s) (cond (is_zero (s.m k k).num) (or_exchanged n k t r) t)) diagonal-agree
      (elim (is_zero (s.m k k).num) as (λ v. AgreeAll n (cond v (or_exchanged n k s place) s) (cond v (or_exchanged n k t place) t)) [ true ↦ or_exchanged-agree place diagonal_below | false ↦ h ]))

  pub prepared_fits-agree : prepared_fits n k s ≡ prepared_fits n k t
  prepared_fits-agree = ap₂ (λ u v. not u || v) zero-agree (exchanged_fits-agree _ diagonal_below ∙ ap (exchanged_fits n k t) diagonal-agree)

module _ (n k : ℕ) (hk : k < n) (s t : State) (h : AgreeAll n s t) where
  pub step-agree : AgreeAll n (step n k s) (step n k t)
  step-agree = finished-agree n k hk (prepared n k s) (prepared n k t) (prepared-agree n k hk s t h)

  pub step_fits-agree : step_fits n k s ≡ step_fits n k t
  step_fits-agree = ap₂ (λ u v. u && v) (prepared_fits-agree n k hk s t h) (finished_fits-agree n k hk (prepared n k s) (prepared n k t) (prepared-agree n k hk s t h))

pub AgreeAll-trans : {n : ℕ} {s t u : State} → AgreeAll n s t → AgreeAll n t u → AgreeAll n s u
AgreeAll-trans h g = record {
  m = λ i j hi hj. h.m i j hi hj ∙ g.m i j hi hj;
  p = λ i j hi hj. h.p i j hi hj ∙ g.p i j hi hj;
  q = λ i j hi hj. h.q i j hi hj ∙ g.q i j hi hj;
}
