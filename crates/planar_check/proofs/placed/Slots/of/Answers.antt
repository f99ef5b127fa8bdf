use Rattle.std.proofs.Common.{◌≡◌, ℕ, ◌+◌, ◌<◌, List, [], ◌∷◌, ◌++◌, length, map, take, sym, ap, ◌∙◌, arith, length-append, vec_len}
use Rattle.std.proofs.lemmas.List.{take_more}
use Rattle.planar_check.specs.Places.{slot_lists, labels_by_place, slots_after, owners}
use Rattle.planar_check.proofs.Pushes.{slot_lists-push, slot_lists-skip, labels-push, after-push, after_at, owners-push, some_slot, no_slot}
use Rattle.planar_check.proofs.placed.Slots.of.Goals as goal
use Rattle.planar_check.proofs.placed.Slots.of.Goals.{then-not-is_empty+in_ok-push_after+in_ok-push_owner+in_ok-extend_from_slice, else-not-is_empty}

pub push_after-requires : goal.push_after-requires
push_after-requires g c = record { few = omega (arith, c.loop-item.invariant.same, c.loop-item.invariant.few, c.slots-slots.ensures.few, c.requires) }

pub loop-item-preserved : goal.loop-item-preserved
loop-item-preserved g c =
    let slots_of = g.I.Placed.slots_of in
    let front = take c.loop-item.item-index c.args.items.now in
    let cs = slot_lists slots_of front in
    let item = c.item-item.result in
    let slots = c.slots-slots.result.now in
    let is_slots = c.slots-slots.ensures.slots in
    let before = c.loop-item.invariant in
    let more : take (c.loop-item.item-index + 1) c.args.items.now ≡ front ++ item ∷ [] = take_more _ _ item c.loop-item-test.true ∙ ap (λ x. front ++ x ∷ []) (sym c.item-item.is) in
    elim c.if-not-is_empty.branch [
      | then-not-is_empty+in_ok-push_after+in_ok-push_owner+in_ok-extend_from_slice w ↦ (
          let here = some_slot slots _ c.is_empty.ensures w.if-not-is_empty.true in
          let some : 0 < length (slots_of item) = omega (arith, here, ap length is_slots) in
          let next : slot_lists slots_of (take (c.loop-item.item-index + 1) c.args.items.now) ≡ cs ++ slots ∷ [] =
          ap (slot_lists slots_of) more ∙ (slot_lists-push slots_of front item some ∙ ap (λ (s : List ℕ). cs ++ s ∷ []) (sym is_slots)) in
          let start : vec_len c.loop-item.after ≡ 0 + length (labels_by_place cs) = omega (arith, before.same, ap length before.labels) in
          let number : c.loop-item.item_count ≡ 0 + length cs = omega (arith, before.item_count) in
          record {
            labels = ap (λ v. v.items) w.labels-is ∙ (w.in_ok-extend_from_slice.ensures.items
                ∙ (ap (λ (ls : List ℕ). ls ++ slots) before.labels ∙ sym (ap labels_by_place next ∙ labels-push cs slots)));
            after = ap (λ v. v.items) w.after-is ∙ (w.in_ok-push_after.ensures.items
                ∙ (ap (λ (ts : List ℕ). ts ++ after_at (vec_len c.loop-item.after) (length slots)) before.after
                ∙ (ap (λ s. slots_after 0 cs ++ after_at s (length slots)) start ∙ sym (ap (slots_after 0) next ∙ after-push 0 cs slots))));
            owners = ap (λ v. v.items) w.owners-is ∙ (w.in_ok-push_owner.ensures.items
                ∙ (ap (λ (ns : List ℕ). ns ++ map (λ _. c.loop-item.item_count) slots) before.owners
                ∙ (ap (λ (n : ℕ). owners 0 cs ++ map (λ _. n) slots) number ∙ sym (ap (owners 0) next ∙ owners-push 0 cs slots))));
            item_count = omega (arith, w.item_count-is, before.item_count, ap length next, length-append cs (slots ∷ []));
            same = omega (arith, ap vec_len w.labels-is, ap vec_len w.after-is, w.in_ok-push_after.ensures.more, w.in_ok-extend_from_slice.ensures.len, before.same);
            few = omega (arith, ap vec_len w.labels-is, w.in_ok-extend_from_slice.ensures.len, c.slots-slots.ensures.few, before.few);
            few_items = omega (arith, w.item_count-is, before.few_items);
          })
      | else-not-is_empty w ↦ (
          let here = no_slot slots _ c.is_empty.ensures w.if-not-is_empty.false in
          let none : length (slots_of item) ≡ 0 = omega (arith, here, ap length is_slots) in
          let next : slot_lists slots_of (take (c.loop-item.item-index + 1) c.args.items.now) ≡ cs =
          ap (slot_lists slots_of) more ∙ slot_lists-skip slots_of front item none in
          record {
            labels = ap (λ v. v.items) w.labels-is ∙ (before.labels ∙ ap labels_by_place (sym next));
            after = ap (λ v. v.items) w.after-is ∙ (before.after ∙ ap (slots_after 0) (sym next));
            owners = ap (λ v. v.items) w.owners-is ∙ (before.owners ∙ ap (owners 0) (sym next));
            item_count = w.item_count-is ∙ (before.item_count ∙ ap length (sym next));
            same = omega (arith, ap vec_len w.labels-is, ap vec_len w.after-is, before.same);
            few = omega (arith, ap vec_len w.labels-is, before.few);
            few_items = omega (arith, w.item_count-is, before.few_items);
          })
    ]
