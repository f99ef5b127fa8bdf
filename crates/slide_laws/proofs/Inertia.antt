-- The matrix of a slide has an inverse of whole numbers, so by Sylvester's law the inertia of the linking matrix stays.
use Rattle.std.proofs.Common.{◌≡◌, ◌≢◌, ℕ, ◌-◌, ◌≤◌, ◌==◌, Bool, true, false, cond, length, get_or, pos, negsuc, ◌*ℤ◌, inl, inr, refl, sym, ap, subst, ◌∙◌, arith, eq-eqb, ne_eqb}
use Rattle.std.proofs.lemmas.Bool.{cases_Bool, eqb-true, eqb-false}
use Rattle.inertia_laws.specs.Matrices.{single}
use Rattle.planar_check.specs.Components.{least_labels, number_of}
use Rattle.planar_check.specs.Tables.{sign_value}
use Rattle.slide_laws.specs.Laws.{SlideInvertible, SlideInertia}
use Rattle.slide_laws.specs.Matrices.{components, linking_matrix, direction_sign, slide_matrix, slide_inverse}
use Rattle.inertia_laws.proofs.Congruences.{congruence}
use Rattle.slide_laws.proofs.Congruence.{slide_congruence}
use Rattle.list_lemmas.proofs.Items.{member_at}
use Rattle.slide_laws.proofs.Matrices.{inverse_entry}
use Rattle.slide_laws.proofs.Refused.{accepted}
use Rattle.slide_laws.proofs.Roots.{number_some}
use Rattle.planar_check.proofs.FewComponents.{number_last}

pub slide_invertible : SlideInvertible
slide_invertible framed e f result diagram ok a b la lb =
    let xs = framed.items in
    let n = length (least_labels xs) in
    let k = (accepted framed e f result ok).passed in
    let i = number_of xs e in
    let j = number_of xs f in
    let p = member_at _ e k.e_placed in
    let q = member_at _ f k.f_placed in
    let i1 : 1 ≤ i = subst (λ (x : ℕ). 1 ≤ number_of xs x) p.2 (number_some xs diagram p.0 p.1) in
    let j1 : 1 ≤ j = subst (λ (x : ℕ). 1 ≤ number_of xs x) q.2 (number_some xs diagram q.0 q.1) in
    let in_ : i ≤ n = number_last xs e in
    let jn : j ≤ n = number_last xs f in
    let apart : i - 1 ≢ j - 1 = λ h. k.apart (omega (arith, h, i1, j1)) in
    inverse_entry n (i - 1) (j - 1) (sign_value result.sign) (direction_sign result.against) (omega (arith, j1, jn)) (λ c. square (get_or result.against c false)) (omega (arith, i1, in_)) apart a b la lb
    ∙ turned a b
  where
    square : (b : Bool) → cond b (negsuc 0) (pos 1) *ℤ cond b (negsuc 0) (pos 1) ≡ pos 1
    square true = refl
    square false = refl

    turned : (a b : ℕ) → cond (a == b) (pos 1) (pos 0) ≡ single a (pos 1) b
    turned a b = ap (λ (t : Bool). cond t (pos 1) (pos 0)) (elim (cases_Bool (a == b)) [
      | inl t ↦ t ∙ sym (eq-eqb b a (sym (eqb-true a b t)))
      | inr t ↦ t ∙ sym (ne_eqb b a (λ h. eqb-false a b t (sym h)))
    ])

pub slide_inertia : SlideInertia
slide_inertia framed e f result diagram is_framed result_diagram ok =
    congruence (components framed) (linking_matrix framed) (slide_matrix framed e f result) (slide_inverse framed e f result) (linking_matrix result.framed)
    (slide_invertible framed e f result diagram ok) (slide_congruence framed e f result diagram is_framed result_diagram ok)
