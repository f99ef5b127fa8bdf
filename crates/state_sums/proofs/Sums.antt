-- A sum over states is sums inside sums, one for each node: the definition lists the states, the proofs go node by node.
--
--     total nodes f       over all states of the nodes, the weights times f of the state's edges, one node inside the other
use Rattle.std.proofs.Common.{◌≡◌, ℕ, ◌+◌, ◌*◌, ◌^◌, List, [], ◌∷◌, ◌++◌, map, sum_by, refl, ap, ◌∙◌, arith, append_assoc, mul_assoc, mul_left_comm}
use Rattle.std.proofs.Math.Pow.{pow-add}
use Rattle.state_sums.specs.Networks.{Node}
use Rattle.state_sums.specs.StateSums.{states, state_edges, state_weight, term_edges}
use Rattle.list_lemmas.proofs.Sums.{sum_by_same, sum_by-map, sum_by-flat_map, sum_by-times}

-- loops of both factors
pub power_through : (d n c k f g : ℕ) → n ≡ c + k → d ^ (n + (f + g)) ≡ d ^ (c + f) * d ^ (k + g)
power_through d n c k f g e = let t : n + (f + g) ≡ (c + f) + (k + g) = omega arith in ap (λ i. d ^ i) t ∙ pow-add d (c + f) (k + g)

-- the sum over the states, one node inside the other
abbrev pub total : List Node → (List (ℕ × ℕ) → ℕ) → ℕ
total [] f = f []
total (node ∷ nodes) f = sum_by (λ term. term.weight * total nodes (λ edges. f (term_edges node term ++ edges))) node.terms

pub total_is : (nodes : List Node) (f : List (ℕ × ℕ) → ℕ) → sum_by (λ state. state_weight state * f (state_edges nodes state)) (states nodes) ≡ total nodes f
total_is [] f = omega arith
total_is (node ∷ nodes) f =
    sum_by-flat_map (λ state. state_weight state * f (state_edges (node ∷ nodes) state)) (λ term. map (λ rest. term ∷ rest) (states nodes)) node.terms
    ∙ sum_by_same _ _ node.terms (λ term.
    sum_by-map (λ state. state_weight state * f (state_edges (node ∷ nodes) state)) (λ rest. term ∷ rest) (states nodes)
    ∙ sum_by_same _ _ (states nodes) (λ rest. mul_assoc term.weight (state_weight rest) (f (term_edges node term ++ state_edges nodes rest)))
    ∙ sum_by-times term.weight (λ rest. state_weight rest * f (term_edges node term ++ state_edges nodes rest)) (states nodes)
    ∙ ap (λ n. term.weight * n) (total_is nodes (λ edges. f (term_edges node term ++ edges))))

pub total-append : (front back : List Node) (f : List (ℕ × ℕ) → ℕ) → total (front ++ back) f ≡ total front (λ es. total back (λ fs. f (es ++ fs)))
total-append [] back f = refl
total-append (node ∷ front) back f =
    sum_by_same _ _ node.terms (λ term. ap (λ n. term.weight * n) (total-append front back (λ edges. f (term_edges node term ++ edges)) ∙ simp append_assoc))

pub total-times : (k : ℕ) (nodes : List Node) (f : List (ℕ × ℕ) → ℕ) → total nodes (λ es. k * f es) ≡ k * total nodes f
total-times k [] f = refl
total-times k (node ∷ nodes) f =
    sum_by_same _ _ node.terms (λ term.
    let ih = total-times k nodes (λ es. f (term_edges node term ++ es)) in
    ap (λ n. term.weight * n) ih ∙ mul_left_comm term.weight k (total nodes (λ es. f (term_edges node term ++ es))))
    ∙ sum_by-times k (λ term. term.weight * total nodes (λ es. f (term_edges node term ++ es))) node.terms

pub total_cong : (nodes : List Node) (f g : List (ℕ × ℕ) → ℕ) → ((es : List (ℕ × ℕ)) → f es ≡ g es) → total nodes f ≡ total nodes g
total_cong [] f g h = h []
total_cong (node ∷ nodes) f g h =
    sum_by_same _ _ node.terms (λ term. ap (λ n. term.weight * n) (total_cong nodes _ _ (λ es. h (term_edges node term ++ es))))
