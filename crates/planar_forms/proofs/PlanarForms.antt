-- Planarity by the pairing of the places: F = N + 2k.
use Rattle.std.proofs.Common.{arith, length}
use Rattle.planar_check.specs.Places.{place_labels, other_place}
use Rattle.rotation_parts.proofs.PairForms.{pair_form}
use Rattle.planar_forms.specs.PlaceSystems.{next_slot, slot_before}
use Rattle.planar_forms.specs.Laws.{PlanarFormLaw}
use Rattle.planar_forms.proofs.PlacePairs.{long_is}
use Rattle.planar_forms.proofs.PlaceCounts.{is, turns, are_counted, flat_diagram}

pub planar_form : PlanarFormLaw
planar_form items pd =
    let counted = are_counted items pd in
    let flat = flat_diagram items pd in
    let vertices = counted.vertices in
    let four = long_is items pd in
    let form = pair_form (length (place_labels items)) next_slot slot_before (other_place (place_labels items)) (turns items pd) (is items pd) in (
      (λ h. let f = form.0 (flat.0 h) in omega (arith, f, vertices, four)),
      (λ h. flat.1 (form.1 (omega (arith, h, vertices, four)))),
    )
