-- Parameters are equal exactly where m, A, r and the form are: that they meet their conditions has one proof at most.
use Rattle.std.proofs.Common.{◌≡◌, ℕ, ap, subst}
use Rattle.root_quantum.specs.Parameters.{Parameters, IsParameters, IsParameters-prop}
use Rattle.root_quantum.specs.Laws.{EqualParameters}
use Rattle.root_quantum.specs.declared.form.Form.{Form}

abbrev parameters : (form : Form) (m a r : ℕ) → IsParameters form m a r → Parameters
parameters form m a r h = record { modulus = m; root = a; level = r; form = form; meets = h }

same_numbers : (form form' : Form) (m m' a a' r r' : ℕ) → form ≡ form' → m ≡ m' → a ≡ a' → r ≡ r' → (h : IsParameters form m a r) (h' : IsParameters form' m' a' r') →
    parameters form m a r h ≡ parameters form' m' a' r' h'
same_numbers form form' m m' a a' r r' ef em ea er h =
    subst (λ (k : Form). (h' : IsParameters k m' a' r') → parameters form m a r h ≡ parameters k m' a' r' h') ef
    (subst (λ (k : ℕ). (h' : IsParameters form k a' r') → parameters form m a r h ≡ parameters form k a' r' h') em
    (subst (λ (k : ℕ). (h' : IsParameters form m k r') → parameters form m a r h ≡ parameters form m k r' h') ea
    (subst (λ (k : ℕ). (h' : IsParameters form m a k) → parameters form m a r h ≡ parameters form m a k h') er
    (λ h'. λ i. parameters form m a r (IsParameters-prop form m a r h h' i)))))

-- THE LAW
pub equal_parameters_law : EqualParameters
equal_parameters_law p q = (
  (λ e. (ap (λ x. x.modulus) e, ap (λ x. x.root) e, ap (λ x. x.level) e, ap (λ x. x.form) e)),
  (λ h. same_numbers p.form q.form p.modulus q.modulus p.root q.root p.level q.level h.3 h.0 h.1 h.2 p.meets q.meets),
)
