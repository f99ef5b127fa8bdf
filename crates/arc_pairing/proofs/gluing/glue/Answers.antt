-- Where the points keep their places the laws of kept_seams say what was glued, and else the mates do.
use Rattle.std.proofs.Common.{◌≡◌, ◌∙◌, IfSome, Option, length, sym, ap, subst, rules}
use Rattle.kept_seams.specs.Kept.{IsKept}
use Rattle.arc_pairing.specs.Gluing.{IsGluing}
use Rattle.arc_pairing.specs.declared.kept.Kept.{Kept}
use Rattle.arc_pairing.proofs.GluedPairings.{kept_gluing}
use Rattle.arc_pairing.proofs.gluing.glue.Goals as goal
use Rattle.arc_pairing.proofs.gluing.glue.Goals.{in-Some, in-None}

pub returns : goal.returns
returns c =
    let s = c.seam.inside in
    let found : IsGluing c.args.seam.now c.args.old.now c.args.term.now c.match-seam.result.pairing c.match-seam.result.loops =
    elim c.match-seam.branch [
      | in-Some w ↦
          let kept = subst (λ (o : Option Kept). IfSome o (λ k. IsKept s.inner.items s.ends.items s.outer.items k.s k.t k.a k.b k.c k.d)) w.in-Some.is c.seam.invariant.1 in
          let long : length c.args.old.now ≡ length s.inner.items = c.requires.old_fits ∙ sym (ap (λ v. length v.inner) c.seam.view_is) in
          rw w.result-is (kept_gluing s.inner.items s.ends.items s.outer.items s.end_slots.items s.outer_slots.items s.places c.seam.invariant.0 c.args.seam.now c.seam.view_is
          c.args.old.now c.args.term.now w.glue_kept.result.pairing w.glue_kept.result.loops w.glue_kept.ensures.pairings.0 w.glue_kept.ensures.pairings.1
          c.requires.old_fits c.requires.term_fits (w.glue_kept.ensures.gives s.inner.items s.ends.items s.outer.items kept long))
      | in-None w ↦ rw w.result-is w.glue_by_mates.ensures.gluing
    ] in
    record {
      paired = found.paired;
      partners = found.partners;
      closed = found.closed;
      few = search rules;
      turns = search rules;
    }
