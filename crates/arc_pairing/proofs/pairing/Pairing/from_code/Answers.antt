use Rattle.std.proofs.Common.{◌≡◌, ℕ, ◌/◌, ◌%◌, take, subst, ◌∙◌, refl, arith}
use Rattle.std.proofs.Math.ListN.{length-set}
use Rattle.arc_pairing.proofs.CodeDigits.{code_parts, decoded, digits_then, digits_then_more, whole_code}
use Rattle.arc_pairing.proofs.pairing.Pairing.from_code.Goals as goal

pub loop-at-init : goal.loop-at-init
loop-at-init c = record { long = refl; so_far = λ p a e. ((code_parts p c.args.code a e).1, refl); taken = refl }

pub loop-at-preserved : goal.loop-at-preserved
loop-at-preserved c = record {
  long = length-set c.loop-at.partner c.loop-at.at (c.loop-at.rest % 32) ∙ c.loop-at.invariant.long;
  so_far = λ p a e. let h = c.loop-at.invariant.so_far p a e in
      decoded p c.loop-at.partner c.args.code c.loop-at.rest c.loop-at.at a e c.loop-at.invariant.long c.loop-at-test.true h.0 h.1;
  taken = digits_then_more c.loop-at.partner c.loop-at.at c.loop-at.rest (omega (arith, c.loop-at.invariant.long)) ∙ c.loop-at.invariant.taken;
}

pub returns-then-points-clause-found : goal.returns-then-points-clause-found
returns-then-points-clause-found c = λ p a e. absurd (let k = (code_parts p c.args.code a e).0 in let f = a.short in let t = c.if-points.true in omega (arith, k, f, t))

pub returns-in-Ok-clause-only : goal.returns-in-Ok-clause-only
returns-in-Ok-clause-only c =
    let at_end : c.loop-at.at ≡ c.args.code / 1329227995784915872903807060280344576 = omega (arith, c.loop-at-test.false, c.loop-at.auto.at-end) in
    let P : ℕ → Type 0 = λ n. digits_then (take n c.loop-at.partner) c.loop-at.rest ≡ c.args.code % 1329227995784915872903807060280344576 in
    whole_code c.in-Ok.pairing c.loop-at.partner c.args.code (c.args.code / 1329227995784915872903807060280344576) c.loop-at.rest c.in-Ok.ensures.made
    (let n = c.loop-at.invariant.long in let t = c.if-points.false in omega (arith, n, t)) refl (let t = c.if-rest-gt0.false in omega (arith, t)) (subst P at_end c.loop-at.invariant.taken)
