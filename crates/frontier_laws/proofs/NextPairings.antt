-- The states of some nodes and one more, and what a term of it makes of a pairing.
use Rattle.std.proofs.Common.{◌≡◌, ℕ, List, [], ◌∷◌, ◌++◌, map, sym, ap, ◌∙◌, append-nil}
use Rattle.std.specs.List.{flat_map}
use Rattle.std.proofs.lemmas.List.Concat.{flat_map_single}
use Rattle.std.proofs.lemmas.List.Folds.{flat_map-map}
use Rattle.state_sums.specs.Networks.{Node, Term}
use Rattle.state_sums.specs.StateSums.{states}
use Rattle.arc_gluing.specs.Pairings.{partners_of}
use Rattle.arc_pairing.specs.Gluing.{Seam, glued_edges}
use Rattle.graph_parts.proofs.Renaming.{map_map}
use Rattle.frontier_laws.proofs.ListTests.{flat_map_each, map-flat_map, flat_map-flat_map}

-- A STATE OF ONE MORE NODE is a state before it with one term more.
pub states_after : (nodes : List Node) (node : Node) → states (nodes ++ node ∷ []) ≡ flat_map (λ state. map (λ term. state ++ term ∷ []) node.terms) (states nodes)
states_after [] node =
    flat_map_single (λ term. term ∷ []) node.terms ∙ sym (append-nil (map (λ term. term ∷ []) node.terms))
states_after (first ∷ nodes) node =
    let more : List Term → List (List Term) = λ state. map (λ term. state ++ term ∷ []) node.terms in
    flat_map_each (λ term. map (λ rest. term ∷ rest) (states (nodes ++ node ∷ []))) (λ term. flat_map more (map (λ rest. term ∷ rest) (states nodes))) first.terms
    (λ term.
    ap (map (λ rest. term ∷ rest)) (states_after nodes node)
    ∙ map-flat_map (λ rest. term ∷ rest) more (states nodes)
    ∙ flat_map_each (λ state. map (λ rest. term ∷ rest) (more state)) (λ state. more (term ∷ state)) (states nodes) (λ state. map_map (λ rest. term ∷ rest) (λ last. state ++ last ∷ []) node.terms)
    ∙ sym (flat_map-map more (λ rest. term ∷ rest) (states nodes)))
    ∙ sym (flat_map-flat_map more (λ term. map (λ rest. term ∷ rest) (states nodes)) first.terms)

-- What a term of the node makes of a pairing before it.
abbrev pub glued_partner : Seam → List ℕ → Term → List ℕ
glued_partner seam partner term = partners_of (seam.inner ++ seam.ends) (glued_edges seam partner term.partner) seam.outer
