-- What a program's elimination stands for, and the certificate that it gives.
--
--     size_of e, state e       the size, and M, P and Q as matrices of fractions
--     CertifiedInertia         a certificate, with certificate_size, p_of, q_of and diagonal_of
--     certified e              the certificate that a finished elimination gives
--     IsReached n c s          its matrices are those of the state s, below n
use Rattle.std.specs.Prelude.{◌≡◌, ℕ, ◌<◌}
use Rattle.inertia_laws.specs.Fractions as logic
use Rattle.inertia_laws.specs.Elimination.{State}
use Rattle.inertia_laws.specs.Agreement.{Agree}
use Rattle.inertia_cert.specs.declared.elimination.Elimination.{Elimination}
use Rattle.inertia_cert.specs.Grids.{FractionTable, entry_in, table_of, at}

-- the number of rows
abbrev pub size_of : Elimination → ℕ
size_of e = e.matrix.size

-- M, P and Q as they stand
abbrev pub state : Elimination → State
state e = record { m = at e.matrix; p = at e.p; q = at e.q }

-- ---- a certificate
-- a certificate as contracts see it: P and Q, and the matrix whose diagonal counts
pub record CertifiedInertia : Type 0 where
  pub matrix : FractionTable
  pub p : FractionTable
  pub q : FractionTable

-- the certificate that a finished elimination gives
abbrev pub certified : Elimination → CertifiedInertia
certified e = record { matrix = table_of e.matrix; p = table_of e.p; q = table_of e.q }

abbrev pub certificate_size : CertifiedInertia → ℕ
certificate_size c = c.matrix.size

abbrev pub p_of : CertifiedInertia → ℕ → ℕ → logic.Fraction
p_of c = entry_in c.p

abbrev pub q_of : CertifiedInertia → ℕ → ℕ → logic.Fraction
q_of c = entry_in c.q

abbrev pub diagonal_of : CertifiedInertia → ℕ → logic.Fraction
diagonal_of c i = entry_in c.matrix i i

-- P, Q and the diagonal are those of this state, below n
pub record IsReached (n : ℕ) (c : CertifiedInertia) (s : State) : Type 0 where
  pub p : Agree n (p_of c) s.p
  pub q : Agree n (q_of c) s.q
  pub diagonal : (i : ℕ) → i < n → diagonal_of c i ≡ s.m i i
