-- Two names have one label exactly where a walk joins them. By induction on the edges, for any labels to begin with: where
-- two names get one label, each is linked to the other by walks and by labels that they had before.
use Rattle.std.proofs.Common.{◌≡◌, ℕ, zero, suc, ◌==◌, if◌then◌else◌, List, [], ◌∷◌, Contains, refl, sym, ap, ◌∙◌, arith, inl, inr, ⊎_elim, ◌⊎◌, ◌↔◌, subst}
use Rattle.std.proofs.lemmas.Bool.{cases_Bool}
use Rattle.std.proofs.lemmas.Bool.Decides.{nat_tests}
use Rattle.graph_parts.specs.Labels.{relabel, label_after, label_of}
use Rattle.graph_parts.specs.Walks.{Joined, along, stay, back, on}

pub Contains-head : (e : ℕ × ℕ) (es : List (ℕ × ℕ)) → Contains (e ∷ es) e
Contains-head e es = (0, omega arith, refl)

pub Contains-later : (e f : ℕ × ℕ) (es : List (ℕ × ℕ)) → Contains es f → Contains (e ∷ es) f
Contains-later e f es h = (suc h.0, omega arith, h.2)

pub Contains-cases : (e f : ℕ × ℕ) (es : List (ℕ × ℕ)) → Contains (e ∷ es) f → (e ≡ f) ⊎ Contains es f
Contains-cases e f es (zero, p, q) = inl q
Contains-cases e f es (suc k, p, q) = inr (k, omega arith, q)

data Linked (label : ℕ → ℕ) (edges : List (ℕ × ℕ)) : ℕ → ℕ → Type 0 where
  alike : {x y : ℕ} → label x ≡ label y → Linked label edges x y
  edge : {x y : ℕ} → Contains edges (x, y) → Linked label edges x y
  turn : {x y : ℕ} → Linked label edges x y → Linked label edges y x
  chain : {x y z : ℕ} → Linked label edges x y → Linked label edges y z → Linked label edges x z

relabel_alike : (label : ℕ → ℕ) (e : ℕ × ℕ) (es : List (ℕ × ℕ)) (x y : ℕ) → relabel label e x ≡ relabel label e y → Linked label (e ∷ es) x y
relabel_alike label e es x y h =
    let crossed : Linked label (e ∷ es) e.0 e.1 = edge (Contains-head e es) in
    ⊎_elim
    (λ p. ⊎_elim
    (λ q. alike (grind (arith, nat_tests)))
    (λ q. chain (alike (grind (arith, nat_tests))) (chain crossed (alike (grind (arith, nat_tests)))))
    (cases_Bool (label y == label e.0)))
    (λ p. ⊎_elim
    (λ q. chain (alike (grind (arith, nat_tests))) (chain (turn crossed) (alike (grind (arith, nat_tests)))))
    (λ q. alike (grind (arith, nat_tests)))
    (cases_Bool (label y == label e.0)))
    (cases_Bool (label x == label e.0))

Linked-one_more : (label : ℕ → ℕ) (e : ℕ × ℕ) (es : List (ℕ × ℕ)) {x y : ℕ} → Linked (relabel label e) es x y → Linked label (e ∷ es) x y
Linked-one_more label e es (alike {x = x} {y = y} h) = relabel_alike label e es x y h
Linked-one_more label e es (edge {x = x} {y = y} h) = edge (Contains-later e (x, y) es h)
Linked-one_more label e es (turn h) = turn (Linked-one_more label e es h)
Linked-one_more label e es (chain h k) = chain (Linked-one_more label e es h) (Linked-one_more label e es k)

Linked-from_labels : (label : ℕ → ℕ) (es : List (ℕ × ℕ)) (x y : ℕ) → label_after label es x ≡ label_after label es y → Linked label es x y
Linked-from_labels label [] x y h = alike h
Linked-from_labels label (e ∷ es) x y h = Linked-one_more label e es (Linked-from_labels (relabel label e) es x y h)

label_after-alike : (label : ℕ → ℕ) (es : List (ℕ × ℕ)) (x y : ℕ) → label x ≡ label y → label_after label es x ≡ label_after label es y
label_after-alike label [] x y h = h
label_after-alike label (e ∷ es) x y h = label_after-alike (relabel label e) es x y (ap (λ n. if n == label e.0 then label e.1 else n) h)

label_after-edge : (label : ℕ → ℕ) (es : List (ℕ × ℕ)) (x y : ℕ) → Contains es (x, y) → label_after label es x ≡ label_after label es y
label_after-edge label [] x y h = omega (arith, h.1)
label_after-edge label (e ∷ es) x y h =
    ⊎_elim
    (λ p. label_after-alike (relabel label e) es x y (let a : e.0 ≡ x = ap (λ f. f.0) p in let b : e.1 ≡ y = ap (λ f. f.1) p in grind (arith, nat_tests, a, b, ap label a, ap label b)))
    (λ q. label_after-edge (relabel label e) es x y q)
    (Contains-cases e (x, y) es h)

-- WHAT A WALK JOINS HAS ONE LABEL
pub labels-from_Joined : (es : List (ℕ × ℕ)) {x y : ℕ} → Joined es x y → label_of es x ≡ label_of es y
labels-from_Joined es (along {x = x} {y = y} h) = label_after-edge (λ z. z) es x y h
labels-from_Joined es stay = refl
labels-from_Joined es (back h) = sym (labels-from_Joined es h)
labels-from_Joined es (on h k) = labels-from_Joined es h ∙ labels-from_Joined es k

Joined-from_Linked : (es : List (ℕ × ℕ)) {x y : ℕ} → Linked (λ z. z) es x y → Joined es x y
Joined-from_Linked es (alike {x = x} {y = y} h) = let P : ℕ → Type 0 = λ z. Joined es x z in subst P h stay
Joined-from_Linked es (edge h) = along h
Joined-from_Linked es (turn h) = back (Joined-from_Linked es h)
Joined-from_Linked es (chain h k) = on (Joined-from_Linked es h) (Joined-from_Linked es k)

-- WHAT HAS ONE LABEL A WALK JOINS
pub Joined-from_labels : (es : List (ℕ × ℕ)) (x y : ℕ) → label_of es x ≡ label_of es y → Joined es x y
Joined-from_labels es x y h = Joined-from_Linked es (Linked-from_labels (λ z. z) es x y h)
