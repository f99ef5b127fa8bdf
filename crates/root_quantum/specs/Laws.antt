-- Laws of parameters of either form and of the numbers that they fix, as congruences modulo m. (Lickorish,
-- ch. 13; Kauffman and Lins.)
--
--     RootTimesInverse         A A^-1 = 1
--     LoopValueOfSquares       delta = -A^2 - A^-2
--     DeltaFirst, DeltaNext    Delta_0 = 1, Delta_1 = delta, Delta_(n+2) = delta Delta_(n+1) - Delta_n
--     DeltaSquare              Delta_(n+1)^2 - Delta_(n+2) Delta_n = 1
--     TwistNone, TwistOne      mu_n^0 = 1, and mu_1 = -A^3
--     TwistSum                 mu_n^s mu_n^t = mu_n^(s+t)
--     EqualParameters          two are equal exactly where m, A, r and the form are
--     GreatestOfColours        the greatest colour of the form is one, none is greater, and it is at most the top colour
--     Accepted, Refused        `refusal` is None exactly at parameters, and else the fault
use Rattle.std.specs.Prelude.{◌≡◌, ◌≤◌, ◌↔◌, Some, None, ℕ, suc, ℤ, pos, ◌+ℤ◌, ◌-ℤ◌, ◌*ℤ◌, neg_ℤ}
use Rattle.std.specs.List.{All, Contains}
use Rattle.ring_identities.specs.Residues.{Congruent}
use Rattle.root_quantum.specs.Parameters.{Parameters, IsParameters, top_colour}
use Rattle.root_quantum.specs.Colours.{form_colours, greatest_colour}
use Rattle.root_quantum.specs.declared.form.Form.{Form}
use Rattle.root_quantum.specs.Refusals.{IsRefused, refusal}
use Rattle.root_quantum.specs.declared.fault.ParamFault.{ParamFault}
use Rattle.root_quantum.specs.QuantumNumbers.{inverse_root, loop_value, delta, twist}

abbrev pub RootTimesInverse : Type 0
RootTimesInverse = (p : Parameters) → Congruent p.modulus (pos p.root *ℤ pos (inverse_root p)) (pos 1)

abbrev pub LoopValueOfSquares : Type 0
LoopValueOfSquares =
    (p : Parameters) → Congruent p.modulus (pos (loop_value p)) (neg_ℤ (pos p.root *ℤ pos p.root) -ℤ pos (inverse_root p) *ℤ pos (inverse_root p))

abbrev pub DeltaFirst : Type 0
DeltaFirst = (p : Parameters) → (delta p 0 ≡ 1) × (delta p 1 ≡ loop_value p)

abbrev pub DeltaNext : Type 0
DeltaNext =
    (p : Parameters) (n : ℕ) → Congruent p.modulus (pos (delta p (suc (suc n)))) (pos (loop_value p) *ℤ pos (delta p (suc n)) -ℤ pos (delta p n))

abbrev pub DeltaSquare : Type 0
DeltaSquare =
    (p : Parameters) (n : ℕ) → Congruent p.modulus (pos (delta p (suc n)) *ℤ pos (delta p (suc n)) -ℤ pos (delta p (suc (suc n))) *ℤ pos (delta p n)) (pos 1)

abbrev pub TwistNone : Type 0
TwistNone = (p : Parameters) (n : ℕ) → twist p n (pos 0) ≡ 1

abbrev pub TwistOne : Type 0
TwistOne =
    (p : Parameters) → Congruent p.modulus (pos (twist p 1 (pos 1))) (neg_ℤ (pos p.root *ℤ pos p.root *ℤ pos p.root))

abbrev pub TwistSum : Type 0
TwistSum =
    (p : Parameters) (n : ℕ) (s t : ℤ) → Congruent p.modulus (pos (twist p n s) *ℤ pos (twist p n t)) (pos (twist p n (s +ℤ t)))

abbrev pub EqualParameters : Type 0
EqualParameters =
    (p q : Parameters) → (p ≡ q) ↔ ((p.modulus ≡ q.modulus) × (p.root ≡ q.root) × (p.level ≡ q.level) × (p.form ≡ q.form))

abbrev pub GreatestOfColours : Type 0
GreatestOfColours =
    (p : Parameters) → Contains (form_colours p) (greatest_colour p) × All (λ n. n ≤ greatest_colour p) (form_colours p) × (greatest_colour p ≤ top_colour p)

abbrev pub Accepted : Type 0
Accepted = (form : Form) (m a r : ℕ) → IsParameters form m a r ↔ (refusal form m a r ≡ None)

abbrev pub Refused : Type 0
Refused = (form : Form) (m a r : ℕ) (fault : ParamFault) → IsRefused form m a r fault ↔ (refusal form m a r ≡ Some fault)
