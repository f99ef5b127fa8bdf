-- Instances: on two linked components of any colours R3 keeps the coloured value; and boxes that lie inside a step, or do not.
use Rattle.std.proofs.Common.{◌≡◌, ℕ, ◌≤◌, ◌&&◌, nat_le, true, false, pos, cond, List, [], ◌∷◌, length, Some, None, Ok, refl, sym, ap, ◌∙◌, arith}
use Rattle.std.proofs.lemmas.Bool.Decides.{nat_tests}
use Rattle.graph_parts.specs.LeastNames.{least_name}
use Rattle.graph_parts.specs.Parts.{part}
use Rattle.list_lemmas.proofs.Bools.{and_false}
use Rattle.root_quantum.specs.Parameters.{Parameters}
use Rattle.pd_reader.specs.declared.item.Item.{Item}
use Rattle.pd_reader.specs.declared.item.Item.TheVariants.{X}
use Rattle.pd_reader.specs.Diagrams.{IsDiagram, IsLabel}
use Rattle.planar_check.specs.Components.{component_least, least_labels}
use Rattle.cables.specs.Nets.{HasProjector}
use Rattle.coloured_values.specs.Coloured.{coloured}
use Rattle.diagram_moves.specs.Moves.{move}
use Rattle.diagram_moves.specs.Steps.{Answer}
use Rattle.script_reader.specs.declared.step.Step.TheVariants.{R2Undo, R3, CurlUndo}
use Rattle.diagram_moves.specs.Anchors.{anchor_inside, first_anchor, inner_edges}
use Rattle.coloured_moves.proofs.ColouredSlides.{coloured_slide}

abbrev x : ℕ → ℕ → ℕ → ℕ → Item
x a b c d = X (a ∷ b ∷ c ∷ d ∷ [])

-- ---- two components round a triangle
abbrev linked : List Item
linked = x 2 5 4 1 ∷ x 3 3 6 5 ∷ x 6 2 1 4 ∷ []

abbrev slid : List Item
slid = x 4 3 2 5 ∷ x 6 5 1 1 ∷ x 3 4 6 2 ∷ []

slide_1_2_3 : ◌≡◌ {A = Answer} (move linked (R3 1 2 3)) (Ok record { items = slid; factor = record { curl = pos 0; circle = 0 } })
slide_1_2_3 = refl

triangle : inner_edges linked (R3 1 2 3) ≡ 4 ∷ 5 ∷ 6 ∷ []
triangle = refl

two_components : least_labels linked ≡ 1 ∷ 2 ∷ []
unfolding least_labels component_least least_name part
two_components = refl

-- the boxes stand on 1 and 2
no_box_inside : (a b : ℕ) → anchor_inside linked (a ∷ b ∷ []) (R3 1 2 3) ≡ None
no_box_inside a b =
    ap (λ leasts. first_anchor (4 ∷ 5 ∷ 6 ∷ []) leasts (a ∷ b ∷ []) 1) two_components
    ∙ ap (λ t. cond t (Some 1) (cond (nat_le 2 b && false) (Some 2) None)) (and_false (nat_le 2 a)) ∙ ap (λ t. cond t (Some 2) None) (and_false (nat_le 2 b))

is_diagram : IsDiagram linked
is_diagram = record {
  few = omega arith;
  sizes = (refl, (refl, (refl, tt)));
  in_range = (
    at 2 refl,
    (at 5 refl, (at 4 refl, (at 1 refl, (at 3 refl, (at 3 refl, (at 6 refl, (at 5 refl, (at 6 refl, (at 2 refl, (at 1 refl, (at 4 refl, tt))))))))))),
  );
  twice = (refl, (refl, (refl, (refl, (refl, (refl, (refl, (refl, (refl, (refl, (refl, (refl, tt))))))))))));
}
  where
    at : (n : ℕ) → (nat_le 1 n && nat_le n 2000000) ≡ true → IsLabel n
    at n h = record { low = grind (arith, nat_tests, h); high = grind (arith, nat_tests, h) }

on_linked : (p : Parameters) (a b : ℕ) → a ≤ 8 → b ≤ 8 → HasProjector p a → HasProjector p b → coloured p slid (a ∷ b ∷ []) ≡ coloured p linked (a ∷ b ∷ [])
on_linked p a b few_a few_b is_a is_b =
    coloured_slide p linked 1 2 3 record { items = slid; factor = record { curl = pos 0; circle = 0 } } (a ∷ b ∷ []) is_diagram record { count = sym (ap length two_components); few = (few_a, (few_b, tt)) } (is_a, (is_b, tt))
    (no_box_inside a b) slide_1_2_3

-- ---- boxes inside
inside_curl : anchor_inside (x 1 1 2 2 ∷ []) (2 ∷ []) (CurlUndo 1) ≡ Some 1
unfolding least_labels component_least least_name part
inside_curl = refl

no_box_at_all : anchor_inside (x 1 1 2 2 ∷ []) (1 ∷ []) (CurlUndo 1) ≡ None
unfolding least_labels component_least least_name part
no_box_at_all = refl

-- the bigon between the crossings 1 and 2 has the inner edges 2 and 3
bigon : inner_edges (x 3 1 4 2 ∷ x 4 1 3 2 ∷ []) (R2Undo 1 2) ≡ 3 ∷ 2 ∷ []
bigon = refl
