use Rattle.std.proofs.Common.{◌≡◌, ◌∙◌, ℕ, List, [], ◌∷◌, inr, sym, ap}
use Rattle.graph_parts.specs.LeastNames.{least_label}
use Rattle.diagram_moves.specs.declared.factor.Factor.{Factor}
use Rattle.diagram_moves.specs.Moves.{curl_classes, curl_of, finished, removed}
use Rattle.diagram_moves.specs.Rewriting.{slot}
use Rattle.move_script.specs.Tables.{joined}
use Rattle.move_script.proofs.MadeMoves.{closed_is, undone_is}
use Rattle.move_script.proofs.curl.undo_curl.Goals as goal

pub returns : goal.returns
returns c =
    let items = c.args.items.now in
    let here = c.in_ok-here.here in let s = c.in-Some.s in
    let pairs = curl_classes here s in
    let joins = c.in_ok-classes.classes.items in
    let same : (label : ℕ) → joined joins label ≡ least_label pairs label = λ label. c.in_ok-classes.ensures label ∙ ap (λ (ps : List (ℕ × ℕ)). least_label ps label) c.curl_classes.ensures in
    let left = c.in_ok-left.ensures ∙ ap (λ (js : List (ℕ × ℕ)). removed (c.args.number ∷ []) (joined js) items) c.deref.ensures.value in
    let x : c.joined-least.result ≡ joined joins (slot here s) = rw (c.deref-2.ensures.value, c.slot.ensures) at c.joined-least.ensures in
    let all = c.in_ok-all.ensures ∙ closed_is items c.in_ok-left.left.items (c.args.number ∷ []) joins pairs (slot here s) (slot here s) c.joined-least.result c.joined-least.result same left x x in
    let factor = c.curl_factor.ensures ∙ ap curl_of c.opposite_sign.ensures in
    inr (c.finished.ensures ∙ ap (λ (f : Factor). finished f c.in_ok-all.all.items) factor ∙ undone_is items c.in_ok-all.all.items c.args.number s here c.in_ok-here.ensures.ok (sym c.curl_at.ensures.found ∙ c.in-Some.is) all)
