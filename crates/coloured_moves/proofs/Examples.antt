-- Instances: the premises can be met. On a trefoil of any colour R2 keeps the coloured value; on one of colour 0 or 1, and on a Loop of
-- such a colour, Curl multiplies it.
use Rattle.std.proofs.Common.{◌≡◌, ℕ, ◌*◌, ◌%◌, ◌≤◌, ◌&&◌, nat_le, true, pos, negsuc, List, [], ◌∷◌, Ok, length, refl, sym, ap, ◌∙◌, arith}
use Rattle.std.proofs.lemmas.Bool.Decides.{nat_tests}
use Rattle.graph_parts.specs.LeastNames.{least_name}
use Rattle.graph_parts.specs.Parts.{part}
use Rattle.root_quantum.specs.Parameters.{Parameters}
use Rattle.root_quantum.specs.QuantumNumbers.{twist}
use Rattle.pd_reader.specs.declared.item.Item.{Item}
use Rattle.pd_reader.specs.declared.item.Item.TheVariants.{X, Loop}
use Rattle.pd_reader.specs.Diagrams.{IsDiagram, IsLabel}
use Rattle.planar_check.specs.Components.{least_labels, component_least}
use Rattle.planar_check.specs.Places.{other_place}
use Rattle.coloured_values.specs.Coloured.{colour_of, coloured}
use Rattle.planar_check.specs.declared.sign.Sign.TheVariants as signs
use Rattle.diagram_moves.specs.Steps.{Answer}
use Rattle.diagram_moves.specs.Moves.{move}
use Rattle.planar_check.specs.Planar.{face_of}
use Rattle.script_reader.specs.declared.step.Step.TheVariants.{R2, Curl}
use Rattle.coloured_moves.proofs.ColouredMoves.{coloured_push}
use Rattle.coloured_moves.proofs.ColouredCurls.{coloured_curl}

abbrev x : ℕ → ℕ → ℕ → ℕ → Item
x a b c d = X (a ∷ b ∷ c ∷ d ∷ [])

abbrev trefoil : List Item
trefoil = x 1 4 2 5 ∷ x 3 6 4 1 ∷ x 5 2 6 3 ∷ []

abbrev pushed_trefoil : List Item
pushed_trefoil = x 1 4 2 5 ∷ x 3 6 4 8 ∷ x 5 2 6 10 ∷ x 9 1 10 7 ∷ x 3 8 9 7 ∷ []

push_1_over_3 : ◌≡◌ {A = Answer} (move trefoil (R2 1 3)) (Ok record { items = pushed_trefoil; factor = record { curl = pos 0; circle = 0 } })
unfolding face_of least_name part other_place
push_1_over_3 = refl

one_component : least_labels trefoil ≡ 1 ∷ []
unfolding least_labels component_least least_name part
one_component = refl

label : (n : ℕ) → 1 ≤ n → n ≤ 2000000 → IsLabel n
label n a b = record { low = a; high = b }

is_diagram : IsDiagram trefoil
is_diagram = record {
  few = omega arith;
  sizes = (refl, (refl, (refl, tt)));
  in_range = (
    at 1 refl,
    (at 4 refl, (at 2 refl, (at 5 refl, (at 3 refl, (at 6 refl, (at 4 refl, (at 1 refl, (at 5 refl, (at 2 refl, (at 6 refl, (at 3 refl, tt))))))))))),
  );
  twice = (refl, (refl, (refl, (refl, (refl, (refl, (refl, (refl, (refl, (refl, (refl, (refl, tt))))))))))));
}
  where
    at : (n : ℕ) → (nat_le 1 n && nat_le n 2000000) ≡ true → IsLabel n
    at n h = label n (grind (arith, nat_tests, h)) (grind (arith, nat_tests, h))

-- for every colour up to 8
on_trefoil : (p : Parameters) (colour : ℕ) → colour ≤ 8 → coloured p pushed_trefoil (colour ∷ []) ≡ coloured p trefoil (colour ∷ [])
on_trefoil p colour few =
    coloured_push p trefoil 1 3 record { items = pushed_trefoil; factor = record { curl = pos 0; circle = 0 } } (colour ∷ []) is_diagram (omega arith) record { count = sym (ap length one_component); few = (few, tt) } push_1_over_3

-- ---- a curl on edge 4
abbrev curled_trefoil : List Item
curled_trefoil = x 1 4 2 5 ∷ x 3 6 8 1 ∷ x 5 2 6 3 ∷ x 4 8 7 7 ∷ []

curl_4 : ◌≡◌ {A = Answer} (move trefoil (Curl 4 signs.Plus)) (Ok record { items = curled_trefoil; factor = record { curl = pos 1; circle = 0 } })
unfolding other_place
curl_4 = refl

its_colour : (colour : ℕ) → colour_of trefoil (colour ∷ []) 4 ≡ colour
unfolding least_labels component_least least_name part
its_colour colour = refl

curled : (p : Parameters) (colour : ℕ) → colour ≤ 1 → coloured p curled_trefoil (colour ∷ []) ≡ twist p colour (pos 1) * coloured p trefoil (colour ∷ []) % p.modulus
curled p colour few =
    let c = its_colour colour in
    coloured_curl p trefoil 4 signs.Plus record { items = curled_trefoil; factor = record { curl = pos 1; circle = 0 } } (colour ∷ []) is_diagram (omega arith)
    record { count = sym (ap length one_component); few = (omega (arith, few), tt) } (omega (arith, c, few)) curl_4
    ∙ ap (λ k. twist p k (pos 1) * coloured p trefoil (colour ∷ []) % p.modulus) c

-- ---- a curl on a Loop
curl_1 : ◌≡◌ {A = Answer} (move (Loop 1 ∷ []) (Curl 1 signs.Minus)) (Ok record { items = x 1 2 2 1 ∷ []; factor = record { curl = negsuc 0; circle = 0 } })
curl_1 = refl

one_loop : least_labels (Loop 1 ∷ []) ≡ 1 ∷ []
unfolding least_labels component_least least_name part
one_loop = refl

loop_colour : (colour : ℕ) → colour_of (Loop 1 ∷ []) (colour ∷ []) 1 ≡ colour
unfolding least_labels component_least least_name part
loop_colour colour = refl

curled_circle : (p : Parameters) (colour : ℕ) → colour ≤ 1 → coloured p (x 1 2 2 1 ∷ []) (colour ∷ []) ≡ twist p colour (negsuc 0) * coloured p (Loop 1 ∷ []) (colour ∷ []) % p.modulus
curled_circle p colour few =
    let c = loop_colour colour in
    coloured_curl p (Loop 1 ∷ []) 1 signs.Minus record { items = x 1 2 2 1 ∷ []; factor = record { curl = negsuc 0; circle = 0 } } (colour ∷ [])
    record { few = omega arith; sizes = (tt, tt); in_range = (label 1 (omega arith) (omega arith), (label 1 (omega arith) (omega arith), tt)); twice = (refl, (refl, tt)) } (omega arith)
    record { count = sym (ap length one_loop); few = (omega (arith, few), tt) } (omega (arith, c, few)) curl_1
    ∙ ap (λ k. twist p k (negsuc 0) * coloured p (Loop 1 ∷ []) (colour ∷ []) % p.modulus) c
