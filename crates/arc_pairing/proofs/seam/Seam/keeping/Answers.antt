use Rattle.std.proofs.Common.{◌≡◌, ℕ, ◌<◌, ◌++◌, ◌∙◌, List, length, map, slice_index, subst, ap, arith, length-append}
use Rattle.arc_gluing.specs.Seams.{place_in}
use Rattle.arc_pairing.proofs.SeamLists.{small_slots, distinct_slots, made_seam}
use Rattle.kept_seams.specs.Kept.{IsKept}
use Rattle.arc_pairing.proofs.KeptSeams.{kept_at, single_from_apart}
use Rattle.arc_pairing.proofs.seam.Seam.keeping.Goals as goal

pub places_of-places-requires-clause-small : goal.places_of-places-requires-clause-small
places_of-places-requires-clause-small c = λ i l.
    let slots : c.as_slice-3.result.now ≡ map (place_in (c.args.names.now ++ c.args.ends.now)) c.args.outer.now =
    c.as_slice-3.ensures.value ∙ c.slots_of-outer_slots.ensures ∙ ap (λ xs. map (place_in xs) c.args.outer.now) (c.as_slice-2.ensures.value ∙ c.joined-all.ensures) in
    let small = small_slots (c.args.names.now ++ c.args.ends.now) c.args.outer.now c.requires.left c.as_slice-3.result.now slots i l in
    let long = length-append c.args.names.now c.args.ends.now in
    omega (arith, small, long, c.requires.few_names, c.requires.few_ends)

pub places_of-places-requires-clause-apart : goal.places_of-places-requires-clause-apart
places_of-places-requires-clause-apart c =
    let slots : c.as_slice-3.result.now ≡ map (place_in (c.args.names.now ++ c.args.ends.now)) c.args.outer.now =
    c.as_slice-3.ensures.value ∙ c.slots_of-outer_slots.ensures ∙ ap (λ xs. map (place_in xs) c.args.outer.now) (c.as_slice-2.ensures.value ∙ c.joined-all.ensures) in
    distinct_slots (c.args.names.now ++ c.args.ends.now) c.args.outer.now c.requires.left c.as_slice-3.result.now slots

pub invariant_of-result : goal.invariant_of-result
invariant_of-result c =
    let placed : (i : ℕ) → i < length c.slots_of-outer_slots.result.items → slice_index c.places_of-places.result (slice_index c.slots_of-outer_slots.result.items i) ≡ i =
    (let P : List ℕ → Type 0 = λ xs. (i : ℕ) → i < length xs → slice_index c.places_of-places.result (slice_index xs i) ≡ i in subst P c.as_slice-3.ensures.value c.places_of-places.ensures) in
    let made = made_seam c.args.names.now c.args.ends.now c.args.outer.now c.copied.result.items c.copied-2.result.items c.copied-3.result.items c.slots_of-end_slots.result.items c.slots_of-outer_slots.result.items c.places_of-places.result
    c.requires.few_names c.requires.few_ends c.requires.few_outer c.requires.apart c.requires.few c.requires.left
    c.copied.ensures c.copied-2.ensures c.copied-3.ensures
    (c.slots_of-end_slots.ensures ∙ ap (λ xs. map (place_in xs) c.args.ends.now) (c.as_slice.ensures.value ∙ c.joined-all.ensures))
    (c.slots_of-outer_slots.ensures ∙ ap (λ xs. map (place_in xs) c.args.outer.now) (c.as_slice-2.ensures.value ∙ c.joined-all.ensures))
    placed in
    (made, kept_at c.find-kept.result (λ names ends outer kept. IsKept names ends outer kept.s kept.t kept.a kept.b kept.c kept.d) c.args.names.now c.args.ends.now c.args.outer.now c.copied.result.items c.copied-2.result.items c.copied-3.result.items c.copied.ensures c.copied-2.ensures c.copied-3.ensures c.find-kept.ensures)

pub find-kept-requires-clause-single : goal.find-kept-requires-clause-single
find-kept-requires-clause-single c = single_from_apart c.args.names.now c.requires.apart
