use Rattle.std.proofs.Common.{◌≡◌, ◌∙◌, ℕ, ◌+◌, List, [], ◌∷◌, inr, sym, ap}
use Rattle.std.proofs.lemmas.Bool.{ne_eqb}
use Rattle.graph_parts.specs.LeastNames.{least_label}
use Rattle.diagram_moves.specs.Moves.{bigon_classes, removed}
use Rattle.diagram_moves.specs.Rewriting.{slot}
use Rattle.move_script.specs.Tables.{joined}
use Rattle.move_script.proofs.MadeMoves.{closed_is, pull_is}
use Rattle.move_script.proofs.pull.pull.Goals as goal

pub returns : goal.returns
returns c =
    let items = c.args.items.now in
    let here = c.in_ok-here.here in let there = c.in_ok-there.there in let at = c.in-Some.at in
    let pairs = bigon_classes here there at in
    let joins = c.in_ok-classes.classes.items in
    let same : (label : ℕ) → joined joins label ≡ least_label pairs label = λ label. c.in_ok-classes.ensures label ∙ ap (λ (ps : List (ℕ × ℕ)). least_label ps label) c.bigon_classes.ensures in
    let left = c.in_ok-left.ensures ∙ ap (λ (js : List (ℕ × ℕ)). removed (c.args.second ∷ c.args.first ∷ []) (joined js) items) c.deref.ensures.value in
    let x : c.joined-x.result ≡ joined joins (slot here at.0) = rw (c.deref-2.ensures.value, c.slot.ensures) at c.joined-x.ensures in
    let y : c.joined-y.result ≡ joined joins (slot there (at.1 + 1)) = rw (c.deref-3.ensures.value, c.slot-2.ensures) at c.joined-y.ensures in
    let all = c.in_ok-all.ensures ∙ closed_is items c.in_ok-left.left.items (c.args.second ∷ c.args.first ∷ []) joins pairs (slot here at.0) (slot there (at.1 + 1)) c.joined-x.result c.joined-y.result same left x y in
    inr (c.finished.ensures ∙ pull_is items c.in_ok-all.all.items c.args.first c.args.second here there at c.in_ok-here.ensures.ok c.in_ok-there.ensures.ok (ne_eqb _ _ c.if-first-second.false) (sym c.bigon.ensures.found ∙ c.in-Some.is) all)
