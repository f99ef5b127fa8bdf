-- What holds of the edges of each choice of one term in each node.
use Rattle.std.proofs.Common.{◌≡◌, ℕ, ◌*◌, List, [], ◌∷◌, ◌++◌, ap, subst, append_assoc}
use Rattle.std.specs.List.{All}
use Rattle.std.proofs.lemmas.List.Elements.{All-weaker}
use Rattle.state_sums.proofs.StateEdges.{sum_by_all}
use Rattle.state_sums.proofs.Sums.{total}
use Rattle.state_sums.specs.Networks.{Node}
use Rattle.state_sums.specs.StateSums.{term_edges}

abbrev pub AllChoices : List Node → (List (ℕ × ℕ) → Type 0) → Type 0
AllChoices [] Q = Q []
AllChoices (node ∷ nodes) Q = All (λ term. AllChoices nodes (λ es. Q (term_edges node term ++ es))) node.terms

pub AllChoices-weaker : (nodes : List Node) (P Q : List (ℕ × ℕ) → Type 0) → ((es : List (ℕ × ℕ)) → P es → Q es) → AllChoices nodes P → AllChoices nodes Q
AllChoices-weaker [] P Q h a = h [] a
AllChoices-weaker (node ∷ nodes) P Q h a =
    All-weaker (λ term. AllChoices nodes (λ es. P (term_edges node term ++ es))) (λ term. AllChoices nodes (λ es. Q (term_edges node term ++ es)))
    (λ term b. AllChoices-weaker nodes (λ es. P (term_edges node term ++ es)) (λ es. Q (term_edges node term ++ es)) (λ es p. h (term_edges node term ++ es) p) b) node.terms a

pub AllChoices-append : (front back : List Node) (Q : List (ℕ × ℕ) → Type 0) → AllChoices front (λ es. AllChoices back (λ fs. Q (es ++ fs))) → AllChoices (front ++ back) Q
AllChoices-append [] back Q a = a
AllChoices-append (node ∷ front) back Q a =
    All-weaker (λ term. AllChoices front (λ es. AllChoices back (λ fs. Q ((term_edges node term ++ es) ++ fs)))) (λ term. AllChoices (front ++ back) (λ es. Q (term_edges node term ++ es)))
    (λ term b. AllChoices-append front back (λ es. Q (term_edges node term ++ es))
    (AllChoices-weaker front (λ es. AllChoices back (λ fs. Q ((term_edges node term ++ es) ++ fs))) (λ es. AllChoices back (λ fs. Q (term_edges node term ++ (es ++ fs))))
    (λ es c. AllChoices-weaker back (λ fs. Q ((term_edges node term ++ es) ++ fs)) (λ fs. Q (term_edges node term ++ (es ++ fs))) (λ fs q. subst Q (append_assoc (term_edges node term) es fs) q) c) b)) node.terms a

-- TOTALS THAT AGREE AT EACH CHOICE ARE ONE
pub total_choices : (nodes : List Node) (Q : List (ℕ × ℕ) → Type 0) (f g : List (ℕ × ℕ) → ℕ) → AllChoices nodes Q → ((es : List (ℕ × ℕ)) → Q es → f es ≡ g es) → total nodes f ≡ total nodes g
total_choices [] Q f g a h = h [] a
total_choices (node ∷ nodes) Q f g a h =
    sum_by_all (λ term. AllChoices nodes (λ es. Q (term_edges node term ++ es))) _ _ node.terms a
    (λ term b. ap (λ n. term.weight * n) (total_choices nodes (λ es. Q (term_edges node term ++ es)) (λ es. f (term_edges node term ++ es)) (λ es. g (term_edges node term ++ es)) b (λ es q. h (term_edges node term ++ es) q)))
