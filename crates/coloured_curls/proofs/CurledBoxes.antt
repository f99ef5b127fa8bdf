-- Curl on the edge with its component's box, and on a Loop with a box, multiplies the coloured value by its factor: what an accepted step gives.
use Rattle.std.proofs.Common.{◌≡◌, ◌+◌, ◌*◌, ◌%◌, ◌==◌, not, Bool, true, false, cond, List, [], ◌∷◌, ◌++◌, length, sym, ap, ◌∙◌, arith, ⊎_elim, subst}
use Rattle.std.specs.Set.{is_member}
use Rattle.std.proofs.lemmas.Bool.{cases_Bool}
use Rattle.root_quantum.specs.QuantumNumbers.{twist}
use Rattle.pd_reader.specs.declared.item.Item.{Item}
use Rattle.pd_reader.specs.declared.item.Item.TheVariants as item
use Rattle.pd_reader.specs.Items.{item_labels}
use Rattle.pd_reader.specs.Diagrams.{labels, IsDiagram}
use Rattle.script_reader.specs.declared.step.Step.TheVariants.{Curl}
use Rattle.coloured_values.specs.Coloured.{colour_of, coloured}
use Rattle.diagram_moves.specs.Moves.{is_edge, is_loop, finished, curl_of, curl_slots, curled_loop, second_place}
use Rattle.diagram_moves.specs.Rewriting.{crossing_labels, at_places, fresh}
use Rattle.diagram_moves.specs.Steps.{Moved}
use Rattle.diagram_moves.specs.declared.fault.MoveFault.TheVariants.{NoEdge}
use Rattle.diagram_moves.proofs.Accepted.{finished_Ok, unless_Ok}
use Rattle.diagram_moves.proofs.PlaceLemmas.{one_place}
use Rattle.move_results.proofs.ComponentLaws.{curled_loop_components}
use Rattle.move_results.proofs.CurledComponents.{curled_components}
use Rattle.move_results.proofs.DiagramResults.{as_paired, diagram_again}
use Rattle.coloured_curls.specs.Laws.{BoxedEdgeLaw, BoxedLoopLaw}
use Rattle.coloured_curls.proofs.BoxedEdges.{boxed_edge}
use Rattle.coloured_curls.proofs.BoxedLoops.{boxed_loop}

-- CURL ON THE EDGE WITH THE BOX
pub curled_box : BoxedEdgeLaw
curled_box p items e sign moved colours is room has projectors boxed on_crossing h =
    let pd = as_paired items is in
    let at_edge : List Item = at_places (one_place (second_place items e) (fresh items + 1)) 0 items ++ item.X (curl_slots e (fresh items + 1) (fresh items) sign) ∷ [] in
    let at_loop : List Item = curled_loop e (curl_slots e e (fresh items) sign) items in
    let accepted = unless_Ok (not (is_edge items e)) (NoEdge e) (finished (curl_of sign) (cond (is_loop items e) at_loop at_edge)) moved h in
    let done : (new : List Item) → cond (is_loop items e) at_loop at_edge ≡ new → moved ≡ record { items = new; factor = curl_of sign } =
    λ new q. finished_Ok (curl_of sign) new moved (sym (ap (finished (curl_of sign)) q) ∙ accepted.1) in
    let again : (new : List Item) → moved ≡ record { items = new; factor = curl_of sign } → IsDiagram new =
    λ new q. (let D : Moved → Type 0 = λ w. IsDiagram w.items in subst D q (diagram_again items (Curl e sign) moved is room h)) in
    let told : (new : List Item) → moved ≡ record { items = new; factor = curl_of sign } → coloured p new colours ≡ twist p (colour_of items colours e) (curl_of sign).curl * coloured p items colours % p.modulus →
    coloured p moved.items colours ≡ twist p (colour_of items colours e) moved.factor.curl * coloured p items colours % p.modulus =
    λ new q k. (let G : Moved → Type 0 = λ w. coloured p w.items colours ≡ twist p (colour_of items colours e) w.factor.curl * coloured p items colours % p.modulus in subst G (sym q) k) in
    ⊎_elim
    (λ t.
    let out : is_member ◌==◌ (crossing_labels items) e ≡ false = grind (arith, t) in
    absurd (clash (is_member ◌==◌ (crossing_labels items) e) on_crossing out))
    (λ t.
    let q = done at_edge (ap (λ b. cond b at_loop at_edge) t) in
    let comps = curled_components items pd e on_crossing sign in
    told at_edge q (boxed_edge p items pd e on_crossing sign colours room (again at_edge q) record { count = has.count ∙ sym (ap length comps); few = has.few } projectors boxed))
    (cases_Bool (is_loop items e))
  where
    clash : (t : Bool) → t ≡ true → t ≡ false → ⊥
    clash t a b = grind (arith, a, b)

-- CURL ON A LOOP WITH A BOX
pub curled_loop_box : BoxedLoopLaw
curled_loop_box p items e sign moved colours is room has projectors tall out h =
    let pd = as_paired items is in
    let at_edge : List Item = at_places (one_place (second_place items e) (fresh items + 1)) 0 items ++ item.X (curl_slots e (fresh items + 1) (fresh items) sign) ∷ [] in
    let at_loop : List Item = curled_loop e (curl_slots e e (fresh items) sign) items in
    let accepted = unless_Ok (not (is_edge items e)) (NoEdge e) (finished (curl_of sign) (cond (is_loop items e) at_loop at_edge)) moved h in
    let inside : is_member ◌==◌ (labels item_labels items) e ≡ true = (let k = accepted.0 in grind (arith, k)) in
    let loops : is_loop items e ≡ true = (let k = accepted.0 in grind (arith, k, out)) in
    let q : moved ≡ record { items = at_loop; factor = curl_of sign } = finished_Ok (curl_of sign) at_loop moved (sym (ap (λ b. finished (curl_of sign) (cond b at_loop at_edge)) loops) ∙ accepted.1) in
    let again : IsDiagram at_loop = (let D : Moved → Type 0 = λ w. IsDiagram w.items in subst D q (diagram_again items (Curl e sign) moved is room h)) in
    let comps = curled_loop_components items pd e inside out sign in
    let G : Moved → Type 0 = λ w. coloured p w.items colours ≡ twist p (colour_of items colours e) w.factor.curl * coloured p items colours % p.modulus in
    subst G (sym q) (boxed_loop p items pd e inside out sign colours again record { count = has.count ∙ sym (ap length comps); few = has.few } projectors tall)
