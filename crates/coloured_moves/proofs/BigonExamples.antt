-- Instances of R2Undo: the premises can be met. Two circles that lie over one another come apart to two loops, of any colours up to 8 that
-- have projectors; and R2 on a trefoil is undone.
use Rattle.std.proofs.Common.{◌≡◌, ℕ, ◌≤◌, ◌&&◌, nat_le, Bool, true, false, cond, pos, List, [], ◌∷◌, Some, None, Ok, length, refl, sym, ap, ◌∙◌, arith}
use Rattle.std.proofs.lemmas.Bool.Decides.{nat_tests}
use Rattle.graph_parts.specs.LeastNames.{least_name}
use Rattle.graph_parts.specs.Parts.{part}
use Rattle.root_quantum.specs.Parameters.{Parameters}
use Rattle.pd_reader.specs.declared.item.Item.{Item}
use Rattle.pd_reader.specs.declared.item.Item.TheVariants.{X, Loop}
use Rattle.pd_reader.specs.Diagrams.{IsDiagram, IsLabel}
use Rattle.planar_check.specs.Components.{least_labels, component_least}
use Rattle.cables.specs.Nets.{HasProjector}
use Rattle.coloured_values.specs.Coloured.{coloured}
use Rattle.diagram_moves.specs.Moves.{move}
use Rattle.diagram_moves.specs.Steps.{Answer}
use Rattle.script_reader.specs.declared.step.Step.TheVariants.{R2Undo}
use Rattle.diagram_moves.specs.Anchors.{anchor_inside, first_anchor, inner_edges}
use Rattle.coloured_moves.proofs.ColouredBigons.{coloured_bigon}

abbrev x : ℕ → ℕ → ℕ → ℕ → Item
x a b c d = X (a ∷ b ∷ c ∷ d ∷ [])

-- ---- two circles, the one below with the labels 1 and 2, the one above with 3 and 4
abbrev circles : List Item
circles = x 2 3 1 4 ∷ x 1 3 2 4 ∷ []

abbrev loops : List Item
loops = Loop 1 ∷ Loop 3 ∷ []

undo_1_2 : ◌≡◌ {A = Answer} (move circles (R2Undo 1 2)) (Ok record { items = loops; factor = record { curl = pos 0; circle = 0 } })
undo_1_2 = refl

inside : inner_edges circles (R2Undo 1 2) ≡ 2 ∷ 4 ∷ []
inside = refl

two_components : least_labels circles ≡ 1 ∷ 3 ∷ []
unfolding least_labels component_least least_name part
two_components = refl

and_false : (b : Bool) → (b && false) ≡ false
and_false true = refl
and_false false = refl

-- the boxes stand on 1 and 3
no_box_inside : (a b : ℕ) → anchor_inside circles (a ∷ b ∷ []) (R2Undo 1 2) ≡ None
no_box_inside a b =
    ap (λ leasts. first_anchor (2 ∷ 4 ∷ []) leasts (a ∷ b ∷ []) 1) two_components
    ∙ ap (λ t. cond t (Some 1) (cond (nat_le 2 b && false) (Some 2) None)) (and_false (nat_le 2 a)) ∙ ap (λ t. cond t (Some 2) None) (and_false (nat_le 2 b))

label : (n : ℕ) → (nat_le 1 n && nat_le n 2000000) ≡ true → IsLabel n
label n h = record { low = grind (arith, nat_tests, h); high = grind (arith, nat_tests, h) }

circles_diagram : IsDiagram circles
circles_diagram = record {
  few = omega arith;
  sizes = (refl, (refl, tt));
  in_range = (label 2 refl, (label 3 refl, (label 1 refl, (label 4 refl, (label 1 refl, (label 3 refl, (label 2 refl, (label 4 refl, tt))))))));
  twice = (refl, (refl, (refl, (refl, (refl, (refl, (refl, (refl, tt))))))));
}

on_circles : (p : Parameters) (a b : ℕ) → a ≤ 8 → b ≤ 8 → HasProjector p a → HasProjector p b → coloured p loops (a ∷ b ∷ []) ≡ coloured p circles (a ∷ b ∷ [])
on_circles p a b few_a few_b is_a is_b =
    coloured_bigon p circles 1 2 record { items = loops; factor = record { curl = pos 0; circle = 0 } } (a ∷ b ∷ []) circles_diagram record { count = sym (ap length two_components); few = (few_a, (few_b, tt)) } (is_a, (is_b, tt))
    (no_box_inside a b) undo_1_2

-- ---- a trefoil after R2[1,3]
abbrev trefoil : List Item
trefoil = x 1 4 2 5 ∷ x 3 6 4 1 ∷ x 5 2 6 3 ∷ []

abbrev pushed_trefoil : List Item
pushed_trefoil = x 1 4 2 5 ∷ x 3 6 4 8 ∷ x 5 2 6 10 ∷ x 9 1 10 7 ∷ x 3 8 9 7 ∷ []

undo_4_5 : ◌≡◌ {A = Answer} (move pushed_trefoil (R2Undo 4 5)) (Ok record { items = trefoil; factor = record { curl = pos 0; circle = 0 } })
undo_4_5 = refl

one_component : least_labels pushed_trefoil ≡ 1 ∷ []
unfolding least_labels component_least least_name part
one_component = refl

pushed_diagram : IsDiagram pushed_trefoil
pushed_diagram = record {
  few = omega arith;
  sizes = (refl, (refl, (refl, (refl, (refl, tt)))));
  in_range = (
    label 1 refl,
    (label 4 refl, (label 2 refl, (label 5 refl, (label 3 refl, (label 6 refl, (label 4 refl, (label 8 refl, (label 5 refl, (label 2 refl, (label 6 refl, (label 10 refl, (label 9 refl, (label 1 refl, (label 10 refl, (label 7 refl, (label 3 refl, (label 8 refl, (label 9 refl, (label 7 refl, tt))))))))))))))))))),
  );
  twice = (refl, (refl, (refl, (refl, (refl, (refl, (refl, (refl, (refl, (refl, (refl, (refl, (refl, (refl, (refl, (refl, (refl, (refl, (refl, (refl, tt))))))))))))))))))));
}

on_trefoil : (p : Parameters) (colour : ℕ) → colour ≤ 8 → HasProjector p colour → coloured p trefoil (colour ∷ []) ≡ coloured p pushed_trefoil (colour ∷ [])
on_trefoil p colour few is =
    coloured_bigon p pushed_trefoil 4 5 record { items = trefoil; factor = record { curl = pos 0; circle = 0 } } (colour ∷ []) pushed_diagram record { count = sym (ap length one_component); few = (few, tt) } (is, tt)
    (ap (λ leasts. first_anchor (9 ∷ 7 ∷ []) leasts (colour ∷ []) 1) one_component ∙ ap (λ t. cond t (Some 1) None) (and_false (nat_le 2 colour))) undo_4_5
