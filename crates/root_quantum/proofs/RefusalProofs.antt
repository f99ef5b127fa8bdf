-- The refusal that computes is the one that the conditions give, and there is none exactly at parameters. The tests are
-- gone through one after another; two refusals of the same numbers are one, since each asks that the conditions before it hold.
use Rattle.std.proofs.Common.{◌≡◌, ◌≢◌, ◌*◌, ◌%◌, ℕ, Option, Some, None, Bool, true, false, ◌||◌, cond, not, refl, ap, subst, arith, Result, Ok, Err, ◌↔◌, inl, inr, ◌⊎◌}
use Rattle.std.specs.Prelude.{MatchOption, ◌==◌, IfOk, IfErr, IsOk}
use Rattle.std.specs.Bool.{Decides}
use Rattle.std.proofs.lemmas.Bool.{or_cases, eqb-true}
use Rattle.std.proofs.lemmas.Bool.Decides.{Decides-eqb, nat_tests}
use Rattle.ring_identities.specs.Powers.{IsOrder, IsOrderUpTo, order_up_to}
use Rattle.ring_identities.proofs.OrderSearch.{order_up_to-meets, order_up_to-unique}
use Rattle.root_quantum.specs.Forms.{HasParity, HasOrder, IsUnwanted, takes_level, takes_order}
use Rattle.root_quantum.specs.Parameters.{IsModulus, IsRoot, IsLevel, IsParameters, Parameters}
use Rattle.root_quantum.specs.Refusals.{IsRefused, is_modulus, is_root, is_level, order_refusal, refusal}
use Rattle.root_quantum.specs.Laws.{Accepted, Refused}
use Rattle.root_quantum.specs.declared.form.Form.{Form}
use Rattle.root_quantum.specs.declared.form.Form.TheVariants.{All, Even}
use Rattle.root_quantum.specs.declared.fault.ParamFault.{ParamFault}
use Rattle.root_quantum.specs.declared.fault.ParamFault.TheVariants.{Modulus, Root, Level, EvenLevel, Order}

-- ---- the orders of a form
-- an order that the form takes is one that it wants
pub taken_order : (form : Form) (m a r : ℕ) (found : Option ℕ) → IsOrderUpTo m a (4 * r) found → takes_order form r found ≡ true → HasOrder form m a r
taken_order form m a r None h e = absurd (cc)
taken_order All m a r (Some t) h e = let P : ℕ → Type 0 = IsOrder m a in subst P (eqb-true t (4 * r) e) h.1
taken_order Even m a r (Some t) h e =
    let P : ℕ → Type 0 = IsOrder m a in
    by_case (or_cases (t == 4 * r) (t == 2 * r) e)
  where
    by_case : ((t == 4 * r) ≡ true) ⊎ ((t == 2 * r) ≡ true) → HasOrder Even m a r
    by_case (inl four) = let P : ℕ → Type 0 = IsOrder m a in inl (subst P (eqb-true t (4 * r) four) h.1)
    by_case (inr two) = let P : ℕ → Type 0 = IsOrder m a in inr (subst P (eqb-true t (2 * r) two) h.1)

-- and another one isn't wanted
not_this : (t k : ℕ) → (t == k) ≡ false → ◌≢◌ {A = Option ℕ} (Some t) (Some k)
not_this t k f e = let same : t ≡ k = cc in absurd (grind (arith, nat_tests, f, same))

either_false : (a b : Bool) → (a || b) ≡ false → (a ≡ false) × (b ≡ false)
either_false a b h = (grind (arith, h), grind (arith, h))

pub unwanted_order : (form : Form) (r : ℕ) (found : Option ℕ) → takes_order form r found ≡ false → IsUnwanted form r found
unwanted_order All r None h = λ e. absurd (cc)
unwanted_order Even r None h = ((λ e. absurd (cc)), (λ e. absurd (cc)))
unwanted_order All r (Some t) h = not_this t (4 * r) h
unwanted_order Even r (Some t) h = let both = either_false (t == 4 * r) (t == 2 * r) h in (not_this t (4 * r) both.0, not_this t (2 * r) both.1)

-- the order found is none that isn't wanted
not_unwanted : (form : Form) (m a r : ℕ) (found : Option ℕ) → HasOrder form m a r → IsOrderUpTo m a (4 * r) found → IsUnwanted form r found → ⊥
not_unwanted All m a r found o h u = u (order_up_to-unique m a (4 * r) found (Some (4 * r)) h (omega arith, o))
not_unwanted Even m a r found (inl o) h u = u.0 (order_up_to-unique m a (4 * r) found (Some (4 * r)) h (omega arith, o))
not_unwanted Even m a r found (inr o) h u = u.1 (order_up_to-unique m a (4 * r) found (Some (2 * r)) h (omega arith, o))

-- ---- the fault is the one that the conditions give
abbrev Judged : Form → ℕ → ℕ → ℕ → Option ParamFault → Type 0
Judged form m a r fault = MatchOption fault (IsParameters form m a r) (IsRefused form m a r)

modulus-decides : (m : ℕ) → Decides (is_modulus m) (IsModulus m)
modulus-decides m = grind (arith, nat_tests)

root-decides : (m a : ℕ) → Decides (is_root m a) (IsRoot m a)
root-decides m a = grind (arith, nat_tests)

level-decides : (r : ℕ) → Decides (is_level r) (IsLevel r)
level-decides r = grind (arith, nat_tests)

pub parity-decides : (form : Form) (r : ℕ) → Decides (takes_level form r) (HasParity form r)
parity-decides All r = ((λ _. tt), (λ _. refl))
parity-decides Even r = Decides-eqb (r % 2) 1

judged_order : (form : Form) (m a r : ℕ) → IsModulus m → IsRoot m a → IsLevel r → HasParity form r → (found : Option ℕ) → IsOrderUpTo m a (4 * r) found → (taken : Bool) → takes_order form r found ≡ taken → Judged form m a r (cond taken None (Some (Order found)))
judged_order form m a r modulus root level parity found h true e = record { modulus = modulus; root = root; level = level; parity = parity; order = taken_order form m a r found h e }
judged_order form m a r modulus root level parity found h false e = (modulus, root, level, parity, h, unwanted_order form r found e)

judged : (form : Form) (m a r : ℕ) (in_modulus in_root in_level odd : Bool) → Decides in_modulus (IsModulus m) → Decides in_root (IsRoot m a) → Decides in_level (IsLevel r) → Decides odd (HasParity form r)
    → Judged form m a r (cond (not in_modulus) (Some Modulus) (cond (not in_root) (Some Root) (cond (not in_level) (Some Level) (cond (not odd) (Some EvenLevel) (order_refusal form r (order_up_to m a (4 * r)))))))
judged form m a r false in_root in_level odd d e f g = λ modulus. let no : false ≡ true = d.1 modulus in absurd (cc)
judged form m a r true false in_level odd d e f g = (d.0 refl, (λ root. let no : false ≡ true = e.1 root in absurd (cc)))
judged form m a r true true false odd d e f g = (d.0 refl, e.0 refl, (λ level. let no : false ≡ true = f.1 level in absurd (cc)))
judged form m a r true true true false d e f g = (d.0 refl, e.0 refl, f.0 refl, (λ parity. let no : false ≡ true = g.1 parity in absurd (cc)))
judged form m a r true true true true d e f g =
    judged_order form m a r (d.0 refl) (e.0 refl) (f.0 refl) (g.0 refl) (order_up_to m a (4 * r)) (order_up_to-meets m a (4 * r)) (takes_order form r (order_up_to m a (4 * r))) refl

refusal-judged : (form : Form) (m a r : ℕ) → Judged form m a r (refusal form m a r)
unfolding refusal
refusal-judged form m a r =
    judged form m a r (is_modulus m) (is_root m a) (is_level r) (takes_level form r) (modulus-decides m) (root-decides m a) (level-decides r) (parity-decides form r)

-- ---- two such answers are equal
not_refused : (form : Form) (m a r : ℕ) → IsParameters form m a r → (fault : ParamFault) → ¬ IsRefused form m a r fault
not_refused form m a r p Modulus refused = refused p.modulus
not_refused form m a r p Root refused = refused.1 p.root
not_refused form m a r p Level refused = refused.2 p.level
not_refused form m a r p EvenLevel refused = refused.3 p.parity
not_refused form m a r p (Order found) refused = not_unwanted form m a r found p.order refused.4 refused.5

one_refusal : (form : Form) (m a r : ℕ) (fault other : ParamFault) → IsRefused form m a r fault → IsRefused form m a r other → fault ≡ other
one_refusal form m a r Modulus Modulus here there = refl
one_refusal form m a r Modulus Root here there = absurd (here there.0)
one_refusal form m a r Modulus Level here there = absurd (here there.0)
one_refusal form m a r Modulus EvenLevel here there = absurd (here there.0)
one_refusal form m a r Modulus (Order other) here there = absurd (here there.0)
one_refusal form m a r Root Modulus here there = absurd (there here.0)
one_refusal form m a r Root Root here there = refl
one_refusal form m a r Root Level here there = absurd (here.1 there.1)
one_refusal form m a r Root EvenLevel here there = absurd (here.1 there.1)
one_refusal form m a r Root (Order other) here there = absurd (here.1 there.1)
one_refusal form m a r Level Modulus here there = absurd (there here.0)
one_refusal form m a r Level Root here there = absurd (there.1 here.1)
one_refusal form m a r Level Level here there = refl
one_refusal form m a r Level EvenLevel here there = absurd (here.2 there.2)
one_refusal form m a r Level (Order other) here there = absurd (here.2 there.2)
one_refusal form m a r EvenLevel Modulus here there = absurd (there here.0)
one_refusal form m a r EvenLevel Root here there = absurd (there.1 here.1)
one_refusal form m a r EvenLevel Level here there = absurd (there.2 here.2)
one_refusal form m a r EvenLevel EvenLevel here there = refl
one_refusal form m a r EvenLevel (Order other) here there = absurd (here.3 there.3)
one_refusal form m a r (Order found) Modulus here there = absurd (there here.0)
one_refusal form m a r (Order found) Root here there = absurd (there.1 here.1)
one_refusal form m a r (Order found) Level here there = absurd (there.2 here.2)
one_refusal form m a r (Order found) EvenLevel here there = absurd (there.3 here.3)
one_refusal form m a r (Order found) (Order other) here there = ap Order (order_up_to-unique m a (4 * r) found other here.4 there.4)

one_judgement : (form : Form) (m a r : ℕ) (fault other : Option ParamFault) → Judged form m a r fault → Judged form m a r other → fault ≡ other
one_judgement form m a r None None here there = refl
one_judgement form m a r None (Some other) here there = absurd (not_refused form m a r here other there)
one_judgement form m a r (Some fault) None here there = absurd (not_refused form m a r there fault here)
one_judgement form m a r (Some fault) (Some other) here there = ap Some (one_refusal form m a r fault other here there)

-- ---- the answers of a call that makes parameters
abbrev pub IsMade : Form → ℕ → ℕ → ℕ → Parameters → Type 0
IsMade form m a r p = (p.modulus ≡ m) × (p.root ≡ a) × (p.level ≡ r) × (p.form ≡ form)

made_meets : (form : Form) (m a r : ℕ) (p : Parameters) → IsMade form m a r p → IsParameters form m a r
made_meets form m a r p h =
    subst (λ (k : Form). IsParameters k m a r) h.3
    (subst (λ (k : ℕ). IsParameters p.form m a k) h.2 (subst (λ (k : ℕ). IsParameters p.form m k p.level) h.1 (subst (λ (k : ℕ). IsParameters p.form k p.root p.level) h.0 p.meets)))

pub succeeds_exactly : (form : Form) (m a r : ℕ) (answer : Result Parameters ParamFault) → IfOk answer (IsMade form m a r) → IfErr answer (IsRefused form m a r) → IsOk answer ↔ IsParameters form m a r
succeeds_exactly form m a r (Ok p) made refused = ((λ _. made_meets form m a r p made), (λ _. refl))
succeeds_exactly form m a r (Err fault) made refused = ((λ ok. absurd (cc)), (λ parameters. absurd (not_refused form m a r parameters fault refused)))

pub refuses_exactly : (form : Form) (m a r : ℕ) (answer : Result Parameters ParamFault) → IfOk answer (IsMade form m a r) → IfErr answer (IsRefused form m a r) → (fault : ParamFault) → (answer ≡ Err fault) ↔ IsRefused form m a r fault
refuses_exactly form m a r (Ok p) made refused fault = ((λ err. absurd (cc)), (λ h. absurd (not_refused form m a r (made_meets form m a r p made) fault h)))
refuses_exactly form m a r (Err other) made refused fault =
    ((λ same. let e : other ≡ fault = cc in let P : ParamFault → Type 0 = IsRefused form m a r in subst P e refused), (λ h. ap Err (one_refusal form m a r other fault refused h)))

-- THE LAWS
pub accepted_law : Accepted
accepted_law form m a r =
    let P : Option ParamFault → Type 0 = Judged form m a r in
    ((λ parameters. one_judgement form m a r (refusal form m a r) None (refusal-judged form m a r) parameters), (λ none. subst P none (refusal-judged form m a r)))

pub refused_law : Refused
refused_law form m a r fault =
    let P : Option ParamFault → Type 0 = Judged form m a r in
    ((λ refused. one_judgement form m a r (refusal form m a r) (Some fault) (refusal-judged form m a r) refused), (λ is. subst P is (refusal-judged form m a r)))
