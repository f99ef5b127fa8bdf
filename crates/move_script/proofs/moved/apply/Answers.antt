use Rattle.std.proofs.Common.{◌≡◌, inl, inr, ◌∙◌, ◌+◌, ◌≤◌, List, Ok, Err, sym, ap, subst, arith}
use Rattle.pd_reader.specs.declared.item.Item.{Item}
use Rattle.pd_reader.specs.Diagrams.{IsDiagram, labels}
use Rattle.pd_reader.specs.Items.{item_labels}
use Rattle.planar_check.specs.Components.{greatest, least_labels}
use Rattle.diagram_brackets.specs.Brackets.{bracket}
use Rattle.diagram_moves.specs.declared.fault.MoveFault.TheVariants as faults
use Rattle.diagram_moves.specs.Laws.{IsPairedDiagram}
use Rattle.diagram_moves.specs.Moves.{move}
use Rattle.diagram_moves.specs.Rewriting.{fresh}
use Rattle.diagram_moves.specs.Steps.{Answer, Moved}
use Rattle.diagram_moves.proofs.PlainMoves.{plain_moves}
use Rattle.move_results.proofs.ComponentLaws.{components_kept}
use Rattle.move_results.proofs.DiagramResults.{diagram_again, greatest_grows}
use Rattle.move_script.specs.Tables.{IsMade}
use Rattle.move_script.proofs.moved.apply.Goals as goal

-- what is made is what the move gives
made_moved : (wanted : Answer) (moved : Moved) → IsMade wanted (Ok moved) → wanted ≡ Ok moved
made_moved wanted moved (inl memory) = absurd (let e : ◌≡◌ {A = Answer} (Ok moved) (Err faults.Memory) = memory in cc)
made_moved wanted moved (inr same) = sym same

paired : (items : List Item) → IsDiagram items → IsPairedDiagram items
paired items is = record { sizes = is.sizes; twice = is.twice }

pub of_paired-requires : goal.of_paired-requires
of_paired-requires c =
    let items = c.args.diagram.now in
    let made = made_moved (move items c.args.step.now) c.in_ok-changed.changed c.in_ok-changed.ensures.made in
    let room : fresh items + 3 ≤ 2000000 = omega (arith, c.requires.room) in
    let is = diagram_again items c.args.step.now c.in_ok-changed.changed c.change.ensures.diagram room made in
    let same : c.deref.result.now ≡ c.in_ok-changed.changed.items = c.deref.ensures.value ∙ ap (λ (m : Moved). m.items) c.changed.view_is in
    subst IsDiagram (sym same) is

pub returns-clause-bracket : goal.returns-clause-bracket
returns-clause-bracket c p =
    let items = c.args.diagram.now in
    let moved : Moved = record { items = c.changed.inside.items.items; factor = c.changed.inside.factor } in
    let made = made_moved (move items c.args.step.now) moved (subst (λ (m : Moved). IsMade (move items c.args.step.now) (Ok m)) (sym c.changed.view_is) c.in_ok-changed.ensures.made) in
    ap (bracket p) (c.in_ok-planar.ensures.made ∙ c.in_ok-new.ensures ∙ c.deref.ensures.value) ∙ plain_moves p items c.args.step.now moved (paired items c.change.ensures.diagram) made

pub returns-clause-components : goal.returns-clause-components
returns-clause-components c =
    let items = c.args.diagram.now in
    let moved : Moved = record { items = c.changed.inside.items.items; factor = c.changed.inside.factor } in
    let made = made_moved (move items c.args.step.now) moved (subst (λ (m : Moved). IsMade (move items c.args.step.now) (Ok m)) (sym c.changed.view_is) c.in_ok-changed.ensures.made) in
    ap least_labels (c.in_ok-planar.ensures.made ∙ c.in_ok-new.ensures ∙ c.deref.ensures.value) ∙ components_kept items c.args.step.now moved (paired items c.change.ensures.diagram) made

pub returns-clause-greatest : goal.returns-clause-greatest
returns-clause-greatest c =
    let items = c.args.diagram.now in
    let moved : Moved = record { items = c.changed.inside.items.items; factor = c.changed.inside.factor } in
    let made = made_moved (move items c.args.step.now) moved (subst (λ (m : Moved). IsMade (move items c.args.step.now) (Ok m)) (sym c.changed.view_is) c.in_ok-changed.ensures.made) in
    let same = ap (λ (its : List Item). greatest (labels item_labels its)) (c.in_ok-planar.ensures.made ∙ c.in_ok-new.ensures ∙ c.deref.ensures.value) in
    let most = greatest_grows items c.args.step.now moved (paired items c.change.ensures.diagram) made in
    omega (arith, same, most)
