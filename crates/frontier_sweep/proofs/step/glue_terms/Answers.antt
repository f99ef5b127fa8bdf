use Rattle.std.proofs.Common.{◌+◌, Err, ap, sym, subst, ◌∙◌}
use Rattle.std.proofs.lemmas.Result.{err_from_is_err_and}
use Rattle.arc_pairing.specs.Codes.{code_of}
use Rattle.frontier_laws.specs.Tables.{add_in}
use Rattle.frontier_sweep.proofs.StepLemmas.{IsGluedTo, glued_more, glued_over}
use Rattle.frontier_sweep.proofs.step.glue_terms.Goals as goal

pub returns-in_err-add-clause-full : goal.returns-in_err-add-clause-full
returns-in_err-add-clause-full c full =
    let p = err_from_is_err_and c.from_residual.result c.from_residual.ensures.1 in
    let seam = c.args.step.seam.now in
    let h = (c.in_err-add.ensures {u = tt}).full (ap Err (sym p.2) ∙ sym p.1 ∙ full) in
    glued_over c.args.step.powers.now seam c.args.pairing.now c.args.coefficient c.args.step.terms.now c.args.next.now c.loop-term.next c.args.turns.now c.loop-term.term-index c.loop-term.turns c.loop-term.invariant c.loop-term-test.true
    c.term-item.result c.term-item.is _ c.glue-glued.ensures.code h.0 h.1

pub loop-term-preserved : goal.loop-term-preserved
loop-term-preserved c =
    let powers = c.args.step.powers.now in
    subst
    (λ turns. IsGluedTo powers c.args.step.seam.now c.args.pairing.now c.args.coefficient c.args.step.terms.now c.args.next.now c.args.turns.now (c.loop-term.term-index + 1) c.add.new.self turns)
    (sym c.glue-glued.ensures.turns)
    (glued_more powers c.args.step.seam.now c.args.pairing.now c.args.coefficient c.args.step.terms.now c.args.next.now c.loop-term.next c.args.turns.now c.loop-term.term-index c.loop-term.turns c.loop-term.invariant c.loop-term-test.true
    c.term-item.result c.term-item.is (code_of c.glue-glued.result.0) c.glue-glued.result.1 c.add.new.self c.glue-glued.ensures.code c.glue-glued.ensures.more c.glue-glued.ensures.below
    (c.in_ok-add.ensures.added ∙ ap (λ m. add_in m (code_of c.glue-glued.result.0) c.glue-glued.result.1 c.loop-term.next) c.ring.ensures)
    c.in_ok-add.ensures.few)
