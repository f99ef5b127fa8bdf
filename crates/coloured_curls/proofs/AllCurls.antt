-- Curl on any edge or Loop, of any colour, multiplies the coloured value by its factor: what an accepted step gives.
use Rattle.std.proofs.Common.{◌≡◌, ◌+◌, ◌*◌, ◌%◌, ◌≤◌, ◌==◌, ◌⊎◌, inl, inr, ℕ, zero, suc, not, false, cond, List, [], ◌∷◌, ◌++◌, length, sym, ap, ◌∙◌, arith, ⊎_elim, subst}
use Rattle.std.specs.Set.{is_member}
use Rattle.std.proofs.lemmas.Bool.{cases_Bool}
use Rattle.root_quantum.specs.QuantumNumbers.{twist}
use Rattle.pd_reader.specs.declared.item.Item.{Item}
use Rattle.pd_reader.specs.declared.item.Item.TheVariants as item
use Rattle.pd_reader.specs.Diagrams.{IsDiagram}
use Rattle.script_reader.specs.declared.step.Step.TheVariants.{Curl}
use Rattle.coloured_values.specs.Coloured.{colour_of, is_boxed, coloured}
use Rattle.diagram_moves.specs.Moves.{is_edge, is_loop, finished, curl_of, curl_slots, curled_loop, second_place}
use Rattle.diagram_moves.specs.Rewriting.{crossing_labels, at_places, fresh}
use Rattle.diagram_moves.specs.Steps.{Moved}
use Rattle.diagram_moves.specs.declared.fault.MoveFault.TheVariants.{NoEdge}
use Rattle.diagram_moves.proofs.Accepted.{finished_Ok, unless_Ok}
use Rattle.diagram_moves.proofs.PlaceLemmas.{one_place}
use Rattle.move_results.proofs.CurledComponents.{curled_components}
use Rattle.move_results.proofs.DiagramResults.{as_paired, diagram_again}
use Rattle.coloured_moves.proofs.ColouredCurls.{coloured_curl}
use Rattle.coloured_curls.specs.Laws.{CurlLaw, BoxlessEdgeLaw}
use Rattle.coloured_curls.proofs.CurledBoxes.{curled_box, curled_loop_box}
use Rattle.coloured_curls.proofs.EdgeCurls.{boxless_edge}

-- CURL ON AN EDGE WITHOUT A BOX
pub curled_boxless : BoxlessEdgeLaw
curled_boxless p items e sign moved colours is room has projectors tall unboxed on_crossing h =
    let pd = as_paired items is in
    let at_edge : List Item = at_places (one_place (second_place items e) (fresh items + 1)) 0 items ++ item.X (curl_slots e (fresh items + 1) (fresh items) sign) ∷ [] in
    let at_loop : List Item = curled_loop e (curl_slots e e (fresh items) sign) items in
    let accepted = unless_Ok (not (is_edge items e)) (NoEdge e) (finished (curl_of sign) (cond (is_loop items e) at_loop at_edge)) moved h in
    let crossed : is_loop items e ≡ false = grind (arith, on_crossing) in
    let q : moved ≡ record { items = at_edge; factor = curl_of sign } = finished_Ok (curl_of sign) at_edge moved (sym (ap (λ b. finished (curl_of sign) (cond b at_loop at_edge)) crossed) ∙ accepted.1) in
    let again : IsDiagram at_edge = (let D : Moved → Type 0 = λ w. IsDiagram w.items in subst D q (diagram_again items (Curl e sign) moved is room h)) in
    let comps = curled_components items pd e on_crossing sign in
    let G : Moved → Type 0 = λ w. coloured p w.items colours ≡ twist p (colour_of items colours e) w.factor.curl * coloured p items colours % p.modulus in
    subst G (sym q) (boxless_edge p items pd e on_crossing sign colours room again record { count = has.count ∙ sym (ap length comps); few = has.few } projectors tall unboxed)

-- CURL
pub curl : CurlLaw
curl p items e sign moved colours is room has projectors h =
    ⊎_elim
    (λ few. coloured_curl p items e sign moved colours is room has few h)
    (λ tall. ⊎_elim
    (λ m. ⊎_elim
    (λ b. curled_box p items e sign moved colours is room has projectors b m h)
    (λ b. curled_boxless p items e sign moved colours is room has projectors tall b m h)
    (cases_Bool (is_boxed items colours e)))
    (λ m. curled_loop_box p items e sign moved colours is room has projectors tall m h)
    (cases_Bool (is_member ◌==◌ (crossing_labels items) e)))
    (few_or (colour_of items colours e))
  where
    few_or : (c : ℕ) → (c ≤ 1) ⊎ (2 ≤ c)
    few_or zero = inl (omega arith)
    few_or (suc zero) = inl (omega arith)
    few_or (suc (suc c)) = inr (omega arith)
