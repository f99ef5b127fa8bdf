-- The tests of R2Undo and R3 find the faces of two and of three places.
use Rattle.std.proofs.Common.{◌≡◌, ◌≢◌, ℕ, ◌+◌, ◌%◌, false, ◌&&◌, ◌==◌, List, Some, sym, ◌∙◌, arith}
use Rattle.std.proofs.lemmas.Bool.{eq-eqb, eqb-true, and_parts}
use Rattle.pd_reader.specs.declared.item.Item.{Item}
use Rattle.move_results.specs.Laws.{place, BigonFacesLaw, TriangleFacesLaw}
use Rattle.diagram_moves.specs.Rewriting.{slot, crossing_at}
use Rattle.move_results.proofs.FaceSteps.{face_step, number_from}

-- places of different crossings are different
places_apart : (items : List Item) (c d s t : ℕ) (here there : List ℕ) → crossing_at items c ≡ Some here → crossing_at items d ≡ Some there → c ≢ d → place c s ≢ place d t
places_apart items c d s t here there found also apart e =
    let a = number_from 1 items c here found in
    let b = number_from 1 items d there also in
    apart (omega (arith, a, b, e))

-- and three slots on is one slot back
come_round : (c s : ℕ) → place c (s + 3 + 1) ≡ place c s
come_round c s = omega arith

pub bigon_faces : BigonFacesLaw
bigon_faces items c d s t here there pd found also apart =
    let back_again : d ≢ c = λ e. apart (sym e) in
    let one = face_step items c d s t here there pd found also (places_apart items c d s t here there found also apart) in
    let two = face_step items d c (t + 1) (s + 3) there here pd also found (places_apart items d c (t + 1) (s + 3) there here also found back_again) in (
      (λ h.
          let p = and_parts (slot here s == slot there t) _ h in
          let q = and_parts (slot here (s + 3) == slot there (t + 1)) _ p.1 in
          (one.0 (eqb-true (slot here s) (slot there t) p.0), two.0 (sym (eqb-true (slot here (s + 3)) (slot there (t + 1)) q.0)) ∙ come_round c s, eqb-true (s % 2) (t % 2) q.1)),
      (λ h.
          let a = eq-eqb (slot here s) (slot there t) (one.1 h.0) in
          let b = eq-eqb (slot here (s + 3)) (slot there (t + 1)) (sym (two.1 (h.1 ∙ sym (come_round c s)))) in
          let e = eq-eqb (s % 2) (t % 2) h.2 in
          grind (arith, a, b, e)),
    )

pub triangle_faces : TriangleFacesLaw
triangle_faces items c d f s t u here there beyond pd found also too cd df cf =
    let fc : f ≢ c = λ e. cf (sym e) in
    let one = face_step items c d s t here there pd found also (places_apart items c d s t here there found also cd) in
    let two = face_step items d f (t + 1) u there beyond pd also too (places_apart items d f (t + 1) u there beyond also too df) in
    let three = face_step items f c (u + 1) (s + 3) beyond here pd too found (places_apart items f c (u + 1) (s + 3) beyond here too found fc) in (
      (λ h.
          let p = and_parts (slot here s == slot there t) _ h in
          let q = and_parts (slot there (t + 1) == slot beyond u) _ p.1 in
          let r = and_parts (slot beyond (u + 1) == slot here (s + 3)) _ q.1 in
          let differ : ((s + 1) % 2 == t % 2 && t % 2 == u % 2) ≡ false = (let z = r.1 in grind (arith, z)) in
          (one.0 (eqb-true (slot here s) (slot there t) p.0), two.0 (eqb-true (slot there (t + 1)) (slot beyond u) q.0), three.0 (eqb-true (slot beyond (u + 1)) (slot here (s + 3)) r.0) ∙ come_round c s, differ)),
      (λ h.
          let a = eq-eqb (slot here s) (slot there t) (one.1 h.0) in
          let b = eq-eqb (slot there (t + 1)) (slot beyond u) (two.1 h.1) in
          let e = eq-eqb (slot beyond (u + 1)) (slot here (s + 3)) (three.1 (h.2 ∙ sym (come_round c s))) in
          let z = h.3 in
          grind (arith, a, b, e, z)),
    )
