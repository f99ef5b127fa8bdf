-- R2Undo keeps the coloured value: what an accepted step gives.
use Rattle.std.proofs.Common.{◌≡◌, ℕ, ◌+◌, ◌==◌, ◌≤◌, true, false, List, [], ◌∷◌, length, ap, ◌∙◌, arith, subst}
use Rattle.std.specs.List.{AllByRecursion, find}
use Rattle.std.specs.Set.{is_member}
use Rattle.std.proofs.lemmas.Bool.Decides.{nat_tests}
use Rattle.graph_parts.specs.LeastNames.{least_label}
use Rattle.list_lemmas.specs.Times.{times_in}
use Rattle.pd_reader.specs.declared.item.Item.{Item}
use Rattle.pd_reader.specs.Items.{item_labels, HasItsSlots}
use Rattle.pd_reader.specs.Diagrams.{labels, IsDiagram, IsLabel}
use Rattle.script_reader.specs.declared.step.Step.TheVariants.{R2Undo}
use Rattle.coloured_values.specs.Coloured.{is_boxed, coloured}
use Rattle.coloured_values.proofs.ColouredLaws.{each_label}
use Rattle.diagram_moves.specs.Moves.{plain, slot_pairs, is_bigon, bigon_classes, closing, removed}
use Rattle.diagram_moves.specs.Rewriting.{slot, crossing_at}
use Rattle.diagram_moves.specs.Steps.{Moved}
use Rattle.diagram_moves.proofs.Accepted.{finished_Ok, finished_few}
use Rattle.diagram_moves.proofs.Results.{pull_accepted}
use Rattle.move_results.proofs.ClosedComponents.{pulled_contracts}
use Rattle.move_results.proofs.DiagramResults.{as_paired}
use Rattle.move_results.proofs.PairedResults.{paired_again}
use Rattle.diagram_moves.specs.Anchors.{inner_edges, labels_of}
use Rattle.coloured_moves.specs.Laws.{ColouredUndoLaw}
use Rattle.coloured_moves.proofs.ColouredSlides.{no_anchor, boxed_projector}
use Rattle.coloured_moves.proofs.LabelColours.{label_in, slot_label}
use Rattle.coloured_moves.proofs.PulledCables.{pulled_coloured}

-- R2UNDO KEEPS THE COLOURED VALUE
pub coloured_bigon : ColouredUndoLaw
coloured_bigon p items c g moved colours is has projectors none h =
    let r = pull_accepted items c g moved h in
    let here = r.here in let there = r.there in
    let s = r.at.0 in let t = r.at.1 in
    let label : ℕ → ℕ = least_label (bigon_classes here there r.at) in
    let after : List Item = closing label (slot here s) (slot there (t + 1)) (removed (g ∷ c ∷ []) label items) in
    -- the inner edges, as they are found
    let are : inner_edges items (R2Undo c g) ≡ slot here s ∷ slot there (t + 1) ∷ [] =
    ap (λ o. labels_of o (λ x. labels_of (crossing_at items g) (λ y. labels_of (find (is_bigon x y) slot_pairs) (λ at. slot x at.0 ∷ slot y (at.1 + 1) ∷ [])))) r.at_c
    ∙ ap (λ o. labels_of o (λ y. labels_of (find (is_bigon here y) slot_pairs) (λ at. slot here at.0 ∷ slot y (at.1 + 1) ∷ []))) r.at_g
    ∙ ap (λ o. labels_of o (λ at. slot here at.0 ∷ slot there (at.1 + 1) ∷ [])) r.found in
    let free : (l : ℕ) → is_member ◌==◌ (slot here s ∷ slot there (t + 1) ∷ []) l ≡ true → is_member ◌==◌ (labels item_labels items) l ≡ true → is_boxed items colours l ≡ false =
    λ l m inside. no_anchor items colours (R2Undo c g) is.sizes has.count none l (ap (λ ls. is_member ◌==◌ ls l) are ∙ m) inside in
    let free_x = free (slot here s) (at_first (slot here s) (slot there (t + 1))) (slot_label items is.sizes c here r.at_c s) in
    let free_y = free (slot there (t + 1)) (at_second (slot here s) (slot there (t + 1))) (slot_label items is.sizes g there r.at_g (t + 1)) in
    -- the result is a diagram, with labels from before
    let result : moved.items ≡ after = ap (λ (w : Moved). w.items) (finished_Ok plain after moved r.finishes) in
    let paired = paired_again items (R2Undo c g) moved (as_paired items is) h in
    let contracts = pulled_contracts items (as_paired items is) c g here there s t r.at_c r.at_g r.apart r.low.0 r.low.1 r.test in
    let P : List Item → Type 0 = λ xs. AllByRecursion HasItsSlots xs in
    let Q : List Item → Type 0 = λ xs. AllByRecursion (λ label. times_in (labels item_labels xs) label ≡ 2) (labels item_labels xs) in
    let again : IsDiagram after = record {
      few = subst (λ xs. length xs ≤ 256) result (finished_few plain after moved r.finishes);
      sizes = subst P result paired.sizes;
      in_range = each_label IsLabel (labels item_labels after) (λ l m. label_in IsLabel (labels item_labels items) is.in_range l (contracts.within l m));
      twice = subst Q result paired.twice;
    } in
    ap (λ xs. coloured p xs colours) result
    ∙ pulled_coloured p items is c here r.at_c g there r.at_g r.apart s t r.low.0 r.low.1 r.test colours has (boxed_projector p items colours projectors) free_x free_y again
  where
    at_first : (a b : ℕ) → is_member ◌==◌ (a ∷ b ∷ []) a ≡ true
    at_first a b = grind (arith, nat_tests)

    at_second : (a b : ℕ) → is_member ◌==◌ (a ∷ b ∷ []) b ≡ true
    at_second a b = grind (arith, nat_tests)
