-- The elimination that gives a certificate of inertia, over fractions of any size. (This project's own.) M starts as the
-- matrix, P and Q as the identity. Step k, from 0, makes row k and column k of M zero outside the diagonal:
--
--     1. Where M_kk is 0 and a later diagonal entry isn't, the first such place is exchanged with k.
--     2. Else, where M_kk is 0 and a later entry of row k isn't, place j of the first such is added to place k.
--     3. Where M_kk is still 0, the step ends.
--     4. Else, with rho_j = M_kj / M_kk, rho_j times place k is taken from each later place j.
--
-- P takes each move of columns, Q the opposite move of rows, so that P Q stays the identity and M stays P-transposed
-- times the matrix times P. Every sum, product and quotient is reduced.
--
--     State                       M, P and Q
--     start l                     the state at the beginning
--     exchange k j, add_place k j, clear n k    the moves of parts 1, 2 and 4
--     first_from count i test     the least of so many places from i on that passes
--     prepared n k, step n k      parts 1 and 2, and the whole step
--     steps n k, eliminated n l   the first k steps, and the state at the end
use Rattle.std.specs.Prelude.{ℕ, zero, suc, ◌-◌, Bool, not, ◌&&◌, ◌==◌, nat_lt, if◌then◌else◌, ℤ, pos, Option, Some, None}
use Rattle.inertia_laws.specs.Matrices.{is_zero}
use Rattle.inertia_laws.specs.Fractions.{Fraction, whole, plus, minus, times, ratio}
use Rattle.inertia_laws.specs.Certificates.{identity}

-- the matrix as it stands, and the two that come with it
pub record State : Type 0 where
  pub m : ℕ → ℕ → Fraction
  pub p : ℕ → ℕ → Fraction
  pub q : ℕ → ℕ → Fraction

abbrev pub start : (ℕ → ℕ → ℤ) → State
start l = record { m = λ i j. whole (l i j); p = identity; q = identity }

-- the place that i comes from, where k and j are exchanged
abbrev pub exchanged : ℕ → ℕ → ℕ → ℕ
exchanged k j i = if i == k then j else if i == j then k else i

abbrev pub exchange : ℕ → ℕ → State → State
exchange k j s = record {
  m = λ a b. s.m (exchanged k j a) (exchanged k j b);
  p = λ a b. s.p a (exchanged k j b);
  q = λ a b. s.q (exchanged k j a) b;
}

-- column j is added to column k
abbrev pub add_column : ℕ → ℕ → (ℕ → ℕ → Fraction) → ℕ → ℕ → Fraction
add_column k j m a b = if b == k then plus (m a k) (m a j) else m a b

-- row j is added to row k
abbrev pub add_row : ℕ → ℕ → (ℕ → ℕ → Fraction) → ℕ → ℕ → Fraction
add_row k j m a b = if a == k then plus (m k b) (m j b) else m a b

-- row k is taken from row j
abbrev pub take_row : ℕ → ℕ → (ℕ → ℕ → Fraction) → ℕ → ℕ → Fraction
take_row k j m a b = if a == j then minus (m j b) (m k b) else m a b

abbrev pub add_place : ℕ → ℕ → State → State
add_place k j s = record { m = add_row k j (add_column k j s.m); p = add_column k j s.p; q = take_row k j s.q }

-- the places after k whose entry in column k is not 0
abbrev pub is_met : ℕ → (ℕ → ℕ → Fraction) → ℕ → Bool
is_met k m i = nat_lt k i && not (is_zero (m i k).num)

-- the places after k whose entry in row k is not 0
abbrev pub is_cleared : ℕ → (ℕ → ℕ → Fraction) → ℕ → Bool
is_cleared k m j = nat_lt k j && not (is_zero (m k j).num)

abbrev pub clear_matrix : ℕ → (ℕ → ℕ → Fraction) → ℕ → ℕ → Fraction
clear_matrix k m a b =
    if a == k then (if is_cleared k m b then whole (pos 0) else m a b)
    else if b == k then (if is_cleared k m a then whole (pos 0) else m a b)
    else if is_cleared k m b && is_met k m a then minus (m a b) (times (m a k) (ratio (m k b) (m k k)))
    else m a b

abbrev pub clear_columns : ℕ → (ℕ → ℕ → Fraction) → (ℕ → ℕ → Fraction) → ℕ → ℕ → Fraction
clear_columns k m p a b = if is_cleared k m b then minus (p a b) (times (ratio (m k b) (m k k)) (p a k)) else p a b

-- what row k of Q holds at b after the rows below n were added
abbrev pub gathered : ℕ → (ℕ → ℕ → Fraction) → (ℕ → ℕ → Fraction) → ℕ → ℕ → Fraction
gathered k m q b zero = q k b
gathered k m q b (suc n) = if is_cleared k m n then plus (gathered k m q b n) (times (ratio (m k n) (m k k)) (q n b)) else gathered k m q b n

abbrev pub clear : ℕ → ℕ → State → State
clear n k s = record {
  m = clear_matrix k s.m;
  p = clear_columns k s.m s.p;
  q = λ a b. if a == k then gathered k s.m s.q b n else s.q a b;
}

-- the least place from i on, of so many, that passes
abbrev pub first_from : ℕ → ℕ → (ℕ → Bool) → Option ℕ
first_from zero i test = None
first_from (suc count) i test = if test i then Some i else first_from count (suc i) test

abbrev pub or_added : ℕ → State → Option ℕ → State
or_added k s None = s
or_added k s (Some j) = add_place k j s

abbrev pub or_exchanged : ℕ → ℕ → State → Option ℕ → State
or_exchanged n k s None = or_added k s (first_from (n - suc k) (suc k) (λ j. not (is_zero (s.m k j).num)))
or_exchanged n k s (Some j) = exchange k j s

-- parts 1 and 2 of step k: the state in which the entry at k is not 0, if there is one
abbrev pub prepared : ℕ → ℕ → State → State
prepared n k s = if is_zero (s.m k k).num then or_exchanged n k s (first_from (n - suc k) (suc k) (λ j. not (is_zero (s.m j j).num))) else s

abbrev pub finished : ℕ → ℕ → State → State
finished n k s = if is_zero (s.m k k).num then s else clear n k s

abbrev pub step : ℕ → ℕ → State → State
step n k s = finished n k (prepared n k s)

abbrev pub steps : ℕ → ℕ → State → State
steps n zero s = s
steps n (suc k) s = step n k (steps n k s)

abbrev pub eliminated : ℕ → (ℕ → ℕ → ℤ) → State
eliminated n l = steps n n (start l)
