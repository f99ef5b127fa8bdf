-- Each answer is one lemma on the whole gluing, at the lists that the calls gave.
use Rattle.std.proofs.Common.{List, ℕ, sym, subst}
use Rattle.arc_pairing.specs.Gluing.{IsGluing}
use Rattle.arc_pairing.proofs.GluedPairings.{end_facts, end_short, end_slots_small, outer_slots_small}
use Rattle.arc_pairing.proofs.gluing.glue_by_mates.Goals as goal

pub join_pairs-loops-requires-clause-slots : goal.join_pairs-loops-requires-clause-slots
join_pairs-loops-requires-clause-slots c =
    let s = c.seam.inside in
    end_slots_small s.inner.items s.ends.items s.outer.items s.end_slots.items s.outer_slots.items s.places c.seam.invariant.0 c.as_slice.result.now c.as_slice.ensures.value

pub places_of_mates-partners-requires-clause-slots : goal.places_of_mates-partners-requires-clause-slots
places_of_mates-partners-requires-clause-slots c =
    let s = c.seam.inside in
    outer_slots_small s.inner.items s.ends.items s.outer.items s.end_slots.items s.outer_slots.items s.places c.seam.invariant.0 c.args.seam.now c.seam.view_is
    c.args.old.now c.partners-points.result.now c.args.term.now c.partners-pairs.result.now c.as_slice.result.now c.as_slice-2.result.now
    c.partners-points.ensures.value c.partners-pairs.ensures.value c.as_slice.ensures.value c.as_slice-2.ensures.value
    c.partners-points.ensures.pairing c.partners-pairs.ensures.pairing c.requires.old_fits c.requires.term_fits
    c.first_mates-mates.result c.join_pairs-loops.new.mates c.first_mates-mates.ensures.points c.first_mates-mates.ensures.others c.join_pairs-loops.ensures.mates

pub of-requires : goal.of-requires
of-requires c =
    let s = c.seam.inside in
    end_short s.inner.items s.ends.items s.outer.items s.end_slots.items s.outer_slots.items s.places c.seam.invariant.0 c.args.seam.now c.seam.view_is
    c.args.old.now c.partners-points.result.now c.args.term.now c.partners-pairs.result.now c.as_slice.result.now c.as_slice-2.result.now
    c.partners-points.ensures.value c.partners-pairs.ensures.value c.as_slice.ensures.value c.as_slice-2.ensures.value
    c.partners-points.ensures.pairing c.partners-pairs.ensures.pairing c.requires.old_fits c.requires.term_fits
    c.first_mates-mates.result c.join_pairs-loops.new.mates c.first_mates-mates.ensures.points c.first_mates-mates.ensures.others c.join_pairs-loops.ensures.mates
    c.places_of_mates-partners.result.items c.places_of_mates-partners.ensures

pub returns-clause-gluing : goal.returns-clause-gluing
returns-clause-gluing c =
    let s = c.seam.inside in
    subst (λ (found : List ℕ). IsGluing c.args.seam.now c.args.old.now c.args.term.now found c.join_pairs-loops.result) (sym c.of.ensures)
    (end_facts s.inner.items s.ends.items s.outer.items s.end_slots.items s.outer_slots.items s.places c.seam.invariant.0 c.args.seam.now c.seam.view_is
    c.args.old.now c.partners-points.result.now c.args.term.now c.partners-pairs.result.now c.as_slice.result.now c.as_slice-2.result.now
    c.partners-points.ensures.value c.partners-pairs.ensures.value c.as_slice.ensures.value c.as_slice-2.ensures.value
    c.partners-points.ensures.pairing c.partners-pairs.ensures.pairing c.requires.old_fits c.requires.term_fits
    c.first_mates-mates.result c.join_pairs-loops.new.mates c.first_mates-mates.ensures.points c.first_mates-mates.ensures.others c.join_pairs-loops.ensures.mates
    c.places_of_mates-partners.result.items c.places_of_mates-partners.ensures c.join_pairs-loops.result c.join_pairs-loops.ensures.loops)
