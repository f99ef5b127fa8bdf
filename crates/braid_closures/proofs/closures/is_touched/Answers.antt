use Rattle.std.proofs.Common.{pos, get_or, sym, ap, ◌∙◌, arith, refl, rules}
use Rattle.std.proofs.lemmas.Int.{to_z-of_z}
use mir.Syntax.{w32}
use mir.Val.{SFits}
use Rattle.braid_closures.specs.Closures.{touches}
use Rattle.braid_closures.proofs.Words.{touched_here, touched_later, touched_never}
use Rattle.braid_closures.proofs.closures.is_touched.Goals as goal

pub loop-entry-init : goal.loop-entry-init
loop-entry-init c = refl

pub returns-then-touches : goal.returns-then-touches
returns-then-touches c =
    let e = get_or c.args.word.now c.loop-entry.entry-index (pos 0) in
    let fits : SFits w32 e = search rules in
    let same = ap (λ z. touches z c.args.position) (to_z-of_z w32 e fits) in
    sym (touched_here c.args.word.now c.loop-entry.entry-index c.args.position c.loop-entry-test.true c.loop-entry.invariant (sym same ∙ sym c.touches.ensures ∙ c.if-touches.true))

pub loop-entry-preserved : goal.loop-entry-preserved
loop-entry-preserved c =
    let e = get_or c.args.word.now c.loop-entry.entry-index (pos 0) in
    let fits : SFits w32 e = search rules in
    let same = ap (λ z. touches z c.args.position) (to_z-of_z w32 e fits) in
    touched_later c.args.word.now c.loop-entry.entry-index c.args.position c.loop-entry-test.true c.loop-entry.invariant (sym same ∙ sym c.touches.ensures ∙ c.if-touches.false)

pub returns : goal.returns
returns c = sym (touched_never c.args.word.now c.loop-entry.entry-index c.args.position (omega arith) c.loop-entry.invariant)
