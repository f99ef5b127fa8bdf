-- The parameters of skein theory at a root of unity: a modulus m, a number A with a known order modulo m, and the level
-- r, in the full or in the even form. (Lickorish, ch. 13; the ranges and the even form are this project's own.)
--
--     IsModulus m, IsRoot m a, IsLevel r       the ranges
--     IsParameters form m a r  m is from 2 to 2^62 - 1, A from 1 to m - 1, r from 3 to 10, and the least t of at least 1
--                              with A^t = 1 modulo m is 4r; in the even form r is odd and t is 4r or 2r. So it is at
--                              41, 2, 5, where t is 20, and in the even form at 11, 2, 5, where it is 10
--     Parameters               three such numbers and the form
--     top_colour p             the greatest colour of a projector, the smaller of r - 1 and 8
--     parameters_code          what tells them apart: m, A, r and the form alone
use Rattle.std.specs.Prelude.{◌≡◌, ℕ, zero, suc, ◌-◌, ◌*◌, ◌%◌, min, ◌^◌, ◌<◌, ◌≤◌, pos, refl}
use Rattle.std.specs.Coded.{Coded, Coded-set, code_by, coded×, coded_ℕ, le_prop, ×_prop, Unit-prop}
use Rattle.std.proofs.Common.{ap, inl, inr, arith}
use base.Stored.{coded_sub}
use Rattle.ring_identities.specs.Residues.{residue}
use Rattle.ring_identities.specs.Powers.{power, IsOrder}
use Rattle.root_quantum.specs.Forms.{HasParity, HasOrder}
use Rattle.root_quantum.specs.declared.form.Form.{Form}
use Rattle.root_quantum.specs.declared.form.Form.TheVariants.{All, Even}

-- the ranges of m, A and r
abbrev pub IsModulus : ℕ → Type 0
IsModulus m = (2 ≤ m) × (m < 2 ^ 62)

abbrev pub IsRoot : ℕ → ℕ → Type 0
IsRoot m a = (1 ≤ a) × (a < m)

abbrev pub IsLevel : ℕ → Type 0
IsLevel r = (3 ≤ r) × (r ≤ 10)

-- m, A and r are in range, and r and the order of A modulo m are those of the form
pub record IsParameters (form : Form) (m a r : ℕ) : Type 0 where
  pub modulus : IsModulus m
  pub root : IsRoot m a
  pub level : IsLevel r
  pub parity : HasParity form r
  pub order : HasOrder form m a r

-- the modulus m, the root A, the level r, and the form
pub record Parameters : Type 0 where
  pub modulus : ℕ
  pub root : ℕ
  pub level : ℕ
  pub form : Form
  pub meets : IsParameters form modulus root level

-- ---- parameters with one m, A, r and form are one
same_refusal : {A : Type 0} (f g : ¬ A) (x : A) → f x ≡ g x
same_refusal f g x = absurd (f x)

pub IsOrder-prop : (m x t : ℕ) → IsProp (IsOrder m x t)
IsOrder-prop m x t a b = λ i. record {
  positive = le_prop a.positive b.positive i;
  unity = Coded-set coded_ℕ (residue m (power (pos x) t)) 1 a.unity b.unity i;
  least = λ s positive below unity. same_refusal (a.least s positive below) (b.least s positive below) unity i;
}

-- 4r and 2r aren't both the least
two_orders : (m a r : ℕ) → IsOrder m a (4 * r) → IsOrder m a (2 * r) → ⊥
two_orders m a r x y = let some = y.positive in x.least (2 * r) some (omega (arith, some)) y.unity

pub HasParity-prop : (form : Form) (r : ℕ) → IsProp (HasParity form r)
HasParity-prop All r = Unit-prop
HasParity-prop Even r = Coded-set coded_ℕ (r % 2) 1

pub HasOrder-prop : (form : Form) (m a r : ℕ) → IsProp (HasOrder form m a r)
HasOrder-prop All m a r x y = IsOrder-prop m a (4 * r) x y
HasOrder-prop Even m a r (inl x) (inl y) = ap inl (IsOrder-prop m a (4 * r) x y)
HasOrder-prop Even m a r (inl x) (inr y) = absurd (two_orders m a r x y)
HasOrder-prop Even m a r (inr x) (inl y) = absurd (two_orders m a r y x)
HasOrder-prop Even m a r (inr x) (inr y) = ap inr (IsOrder-prop m a (2 * r) x y)

pub IsParameters-prop : (form : Form) (m a r : ℕ) → IsProp (IsParameters form m a r)
IsParameters-prop form m a r x y = λ i. record {
  modulus = ×_prop le_prop le_prop x.modulus y.modulus i;
  root = ×_prop le_prop le_prop x.root y.root i;
  level = ×_prop le_prop le_prop x.level y.level i;
  parity = HasParity-prop form r x.parity y.parity i;
  order = HasOrder-prop form m a r x.order y.order i;
}

-- parameters are told apart by m, A, r and the form
abbrev form_number : Form → ℕ
form_number All = 0
form_number Even = 1

abbrev form_of : ℕ → Form
form_of zero = All
form_of (suc n) = Even

pub form_again : (form : Form) → form_of (form_number form) ≡ form
form_again All = refl
form_again Even = refl

abbrev pub form_code : Coded Form
form_code = code_by ℕ coded_ℕ form_number form_of form_again

abbrev pub Numbers : Type 0
Numbers = ℕ × (ℕ × (ℕ × Form))

abbrev pub AreParameters : Numbers → Type 0
AreParameters t = IsParameters t.1.1.1 t.0 t.1.0 t.1.1.0

abbrev pub parameters_code : Coded Parameters
parameters_code =
    code_by ((t : Numbers) × AreParameters t)
    (coded_sub (coded× coded_ℕ (coded× coded_ℕ (coded× coded_ℕ form_code))) AreParameters (λ t. IsParameters-prop t.1.1.1 t.0 t.1.0 t.1.1.0))
    (λ p. ((p.modulus, (p.root, (p.level, p.form))), p.meets))
    (λ t. record { modulus = t.0.0; root = t.0.1.0; level = t.0.1.1.0; form = t.0.1.1.1; meets = t.1 })
    (λ _. refl)

-- the greatest colour of a projector: the smaller of r - 1 and 8
abbrev pub top_colour : Parameters → ℕ
top_colour p = min (p.level - 1) 8
