-- A term that joins each glued end with the one that takes its place changes nothing, by a law of kept_seams.
use Rattle.std.proofs.Common.{◌∙◌, IfSome, Option, length, sym, ap, subst}
use Rattle.std.proofs.lemmas.Bool.{eqb-true}
use Rattle.kept_seams.specs.Kept.{IsKept}
use Rattle.kept_seams.proofs.KeptLaws.{keeps}
use Rattle.kept_seams.proofs.Ways.{keeping_way}
use Rattle.arc_pairing.specs.declared.kept.Kept.{Kept}
use Rattle.arc_pairing.proofs.GluedPairings.{kept_gluing}
use Rattle.arc_pairing.proofs.seam.Seam.keeps.Goals as goal

pub returns-in-Some : goal.returns-in-Some
returns-in-Some c = λ same old short long.
    let s = c.self.inside in let k = c.in-Some.kept in let term = c.args.term.now in let paired = c.len-ends.ensures.pairing in
    let inner = s.inner.items in let ends = s.ends.items in let outer = s.outer.items in
    let kept = subst (λ (o : Option Kept). IfSome o (λ k. IsKept inner ends outer k.s k.t k.a k.b k.c k.d)) c.in-Some.is c.self.invariant.1 in
    let four = c.requires ∙ sym (ap (λ v. length v.ends) c.self.view_is) ∙ kept.four in
    let whole = long ∙ sym (ap (λ v. length v.inner) c.self.view_is) in
    let ac = sym c.partner.ensures ∙ eqb-true c.partner.result k.c same in
    let bd = keeping_way term paired.paired four k.a k.b k.c k.d kept.places ac in
    kept_gluing inner ends outer s.end_slots.items s.outer_slots.items s.places c.self.invariant.0 c.args.self.now c.self.view_is
    old term old 0 short paired long c.requires (keeps inner ends outer old term k.s k.t k.a k.b k.c k.d kept short.paired paired.paired whole four ac bd)
