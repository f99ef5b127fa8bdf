-- An instance: the premises can be met. On a trefoil of any colour from 2 to 8 a curl on edge 1, which has the box, multiplies the coloured value.
use Rattle.std.proofs.Common.{◌≡◌, ℕ, ◌*◌, ◌%◌, ◌≤◌, ◌&&◌, nat_le, true, pos, List, [], ◌∷◌, Ok, length, refl, sym, ap, ◌∙◌, arith}
use Rattle.std.proofs.lemmas.Bool.Decides.{nat_tests}
use Rattle.graph_parts.specs.LeastNames.{least_name}
use Rattle.graph_parts.specs.Parts.{part}
use Rattle.root_quantum.specs.Parameters.{Parameters}
use Rattle.root_quantum.specs.QuantumNumbers.{twist}
use Rattle.pd_reader.specs.declared.item.Item.{Item}
use Rattle.pd_reader.specs.declared.item.Item.TheVariants.{X}
use Rattle.pd_reader.specs.Diagrams.{IsDiagram, IsLabel}
use Rattle.planar_check.specs.Components.{least_labels, component_least}
use Rattle.planar_check.specs.Places.{other_place}
use Rattle.planar_check.specs.declared.sign.Sign.TheVariants as signs
use Rattle.cables.specs.Nets.{HasProjector}
use Rattle.coloured_values.specs.Coloured.{colour_of, is_boxed, coloured}
use Rattle.diagram_moves.specs.Steps.{Answer}
use Rattle.diagram_moves.specs.Moves.{move}
use Rattle.script_reader.specs.declared.step.Step.TheVariants.{Curl}
use Rattle.coloured_curls.proofs.CurledBoxes.{curled_box}

abbrev x : ℕ → ℕ → ℕ → ℕ → Item
x a b c d = X (a ∷ b ∷ c ∷ d ∷ [])

abbrev trefoil : List Item
trefoil = x 1 4 2 5 ∷ x 3 6 4 1 ∷ x 5 2 6 3 ∷ []

abbrev curled_trefoil : List Item
curled_trefoil = x 1 4 2 5 ∷ x 3 6 4 8 ∷ x 5 2 6 3 ∷ x 1 8 7 7 ∷ []

curl_1 : ◌≡◌ {A = Answer} (move trefoil (Curl 1 signs.Plus)) (Ok record { items = curled_trefoil; factor = record { curl = pos 1; circle = 0 } })
unfolding other_place
curl_1 = refl

one_component : least_labels trefoil ≡ 1 ∷ []
unfolding least_labels component_least least_name part
one_component = refl

its_colour : (colour : ℕ) → colour_of trefoil (colour ∷ []) 1 ≡ colour
unfolding least_labels component_least least_name part
its_colour colour = refl

its_box : (colour : ℕ) → is_boxed trefoil (colour ∷ []) 1 ≡ (nat_le 2 colour && true)
unfolding least_labels component_least least_name part
its_box colour = refl

is_diagram : IsDiagram trefoil
is_diagram = record {
  few = omega arith;
  sizes = (refl, (refl, (refl, tt)));
  in_range = (
    at 1 refl,
    (at 4 refl, (at 2 refl, (at 5 refl, (at 3 refl, (at 6 refl, (at 4 refl, (at 1 refl, (at 5 refl, (at 2 refl, (at 6 refl, (at 3 refl, tt))))))))))),
  );
  twice = (refl, (refl, (refl, (refl, (refl, (refl, (refl, (refl, (refl, (refl, (refl, (refl, tt))))))))))));
}
  where
    at : (n : ℕ) → (nat_le 1 n && nat_le n 2000000) ≡ true → IsLabel n
    at n h = record { low = grind (arith, nat_tests, h); high = grind (arith, nat_tests, h) }

on_trefoil : (p : Parameters) (colour : ℕ) → 2 ≤ colour → colour ≤ 8 → HasProjector p colour → coloured p curled_trefoil (colour ∷ []) ≡ twist p colour (pos 1) * coloured p trefoil (colour ∷ []) % p.modulus
on_trefoil p colour tall few projector =
    curled_box p trefoil 1 signs.Plus record { items = curled_trefoil; factor = record { curl = pos 1; circle = 0 } } (colour ∷ []) is_diagram (omega arith)
    record { count = sym (ap length one_component); few = (few, tt) } (projector, tt) (its_box colour ∙ (let t : (nat_le 2 colour && true) ≡ true = grind (arith, nat_tests, tall) in t)) refl curl_1
    ∙ ap (λ k. twist p k (pos 1) * coloured p trefoil (colour ∷ []) % p.modulus) (its_colour colour)
