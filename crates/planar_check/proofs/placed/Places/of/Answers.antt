use Rattle.std.proofs.Common.{ℕ, List, ap, ◌∙◌}
use Rattle.planar_check.specs.Places.{slot_lists, first_place, other_places}
use Rattle.planar_check.proofs.PlaceLists.{AreRead, after_long, after_in_range, others_in_range}
use Rattle.planar_check.proofs.FaceLists.{faces_are}
use Rattle.planar_check.proofs.placed.Places.of.Goals as goal

pub least_in_cycles-requires-clause-same_length : goal.least_in_cycles-requires-clause-same_length
least_in_cycles-requires-clause-same_length g c =
    let cs = slot_lists g.I.Placed.slots_of c.args.items.now in
    let slots = c.in_ok-labels.ensures.slots in
    let are : AreRead cs c.deref-2.result.now c.in_ok-labels.field-0.owners.items c.deref-3.result.now = record {
      after_are = c.deref-2.ensures.value ∙ slots.after_are;
      owners_are = slots.owners_are;
      others_are = c.deref-3.ensures.value ∙ (c.in_ok-firsts.ensures.others ∙ ap other_places (c.deref.ensures.value ∙ slots.labels_are));
    } in
    after_long cs _ _ _ are

pub least_in_cycles-requires-clause-after_in_range : goal.least_in_cycles-requires-clause-after_in_range
least_in_cycles-requires-clause-after_in_range g c =
    let cs = slot_lists g.I.Placed.slots_of c.args.items.now in
    let slots = c.in_ok-labels.ensures.slots in
    let are : AreRead cs c.deref-2.result.now c.in_ok-labels.field-0.owners.items c.deref-3.result.now = record {
      after_are = c.deref-2.ensures.value ∙ slots.after_are;
      owners_are = slots.owners_are;
      others_are = c.deref-3.ensures.value ∙ (c.in_ok-firsts.ensures.others ∙ ap other_places (c.deref.ensures.value ∙ slots.labels_are));
    } in
    after_in_range cs _ _ _ are

pub least_in_cycles-requires-clause-others_in_range : goal.least_in_cycles-requires-clause-others_in_range
least_in_cycles-requires-clause-others_in_range g c =
    let cs = slot_lists g.I.Placed.slots_of c.args.items.now in
    let slots = c.in_ok-labels.ensures.slots in
    let are : AreRead cs c.deref-2.result.now c.in_ok-labels.field-0.owners.items c.deref-3.result.now = record {
      after_are = c.deref-2.ensures.value ∙ slots.after_are;
      owners_are = slots.owners_are;
      others_are = c.deref-3.ensures.value ∙ (c.in_ok-firsts.ensures.others ∙ ap other_places (c.deref.ensures.value ∙ slots.labels_are));
    } in
    others_in_range cs _ _ _ are

pub returns-clause-places : goal.returns-clause-places
returns-clause-places g c =
    let cs = slot_lists g.I.Placed.slots_of c.args.items.now in
    let slots = c.in_ok-labels.ensures.slots in
    let read = c.deref.ensures.value ∙ slots.labels_are in
    let others = c.in_ok-firsts.ensures.others ∙ ap other_places read in
    record {
      labels_are = slots.labels_are;
      after_are = slots.after_are;
      owners_are = slots.owners_are;
      others_are = others;
      firsts_are = λ label. c.in_ok-firsts.ensures.firsts label ∙ ap (λ (ls : List ℕ). first_place ls label) read;
      faces_are = faces_are cs c.deref-2.result.now c.deref-3.result.now c.in_ok-faces.faces.items (c.deref-2.ensures.value ∙ slots.after_are) (c.deref-3.ensures.value ∙ others) c.in_ok-faces.ensures;
      count_is = c.in_ok-labels.ensures.count;
    }
