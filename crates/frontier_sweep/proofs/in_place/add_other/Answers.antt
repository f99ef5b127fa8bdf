use Rattle.std.proofs.Common.{◌≡◌, ℕ, ◌<◌, ◌%◌, Err, length, sym, ap, ◌∙◌, arith}
use Rattle.std.proofs.lemmas.Result.{err_from_is_err_and}
use Rattle.arc_pairing.specs.Codes.{code_of}
use Rattle.frontier_laws.specs.Tables.{add_in}
use Rattle.frontier_sweep.proofs.InPlaceLemmas.{in_table, was_fits, was_item, added_more, added_over, added_all_entries}
use Rattle.frontier_sweep.proofs.in_place.add_other.Goals as goal

pub pairing-requires : goal.pairing-requires
pairing-requires c = in_table c.args.step.powers.now c.args.step.seam.now c.args.other.now c.args.table.now c.args.saved.now c.args.turns.now c.loop-at.at c.loop-at.table c.loop-at.turns c.loop-at.invariant c.requires.whole c.loop-at-test.true

pub glue-glued-requires-clause-fits : goal.glue-glued-requires-clause-fits
glue-glued-requires-clause-fits c =
    let within : c.loop-at.at < length c.args.table.now = (let w = c.requires.whole in let t = c.loop-at-test.true in omega (arith, w, t)) in
    was_fits c.args.step.powers.now c.args.step.seam.now c.args.other.now c.args.table.now c.args.saved.now c.args.turns.now c.loop-at.at c.loop-at.table c.loop-at.turns c.loop-at.invariant c.requires.whole c.loop-at-test.true _ c.pairing.result.now c.pairing.ensures.short c.pairing.ensures.code (c.requires.codes c.loop-at.at within)

pub returns-in_err-add-clause-full : goal.returns-in_err-add-clause-full
returns-in_err-add-clause-full c full =
    let p = err_from_is_err_and c.from_residual.result c.from_residual.ensures.1 in
    let h = (c.in_err-add.ensures {u = tt}).full (ap Err (sym p.2) ∙ sym p.1 ∙ full) in
    let item = was_item c.args.step.powers.now c.args.step.seam.now c.args.other.now c.args.table.now c.args.saved.now c.args.turns.now c.loop-at.at c.loop-at.table c.loop-at.turns c.loop-at.invariant c.requires.whole c.loop-at-test.true c.pairing.result.now c.pairing.ensures.short c.pairing.ensures.code in
    added_over c.args.step.powers.now c.args.step.seam.now c.args.other.now c.args.table.now c.args.saved.now c.args.turns.now c.loop-at.at c.loop-at.table c.loop-at.turns c.loop-at.invariant c.requires.whole c.loop-at-test.true
    _ (c.glue-glued.ensures.code ∙ ap (λ (item : ℕ × ℕ). item.0) item) h.0 h.1

pub loop-at-preserved : goal.loop-at-preserved
loop-at-preserved c =
    let m = c.args.step.powers.now.modulus in
    let some : 0 < m = (let s = c.requires.coefficients c.loop-at.at c.loop-at-test.true in omega (arith, s)) in
    let item = was_item c.args.step.powers.now c.args.step.seam.now c.args.other.now c.args.table.now c.args.saved.now c.args.turns.now c.loop-at.at c.loop-at.table c.loop-at.turns c.loop-at.invariant c.requires.whole c.loop-at-test.true c.pairing.result.now c.pairing.ensures.short c.pairing.ensures.code in
    added_more c.args.step.powers.now c.args.step.seam.now c.args.other.now c.args.table.now c.args.saved.now c.args.turns.now c.loop-at.at c.loop-at.table c.loop-at.turns c.loop-at.invariant c.requires.whole c.loop-at-test.true
    some (code_of c.glue-glued.result.0) c.glue-glued.result.1 c.add.new.self (c.glue-glued.ensures.code ∙ ap (λ (item : ℕ × ℕ). item.0) item) (c.glue-glued.ensures.more ∙ ap (λ (item : ℕ × ℕ). item.1 % m) item)
    (c.in_ok-add.ensures.added ∙ ap (λ m. add_in m (code_of c.glue-glued.result.0) c.glue-glued.result.1 c.loop-at.table) c.ring.ensures) c.in_ok-add.ensures.few _ c.glue-glued.ensures.turns

pub returns-clause-added : goal.returns-clause-added
returns-clause-added c =
    let end : c.loop-at.at ≡ length c.args.saved.now = (let t = c.loop-at-test.false in let w = c.loop-at.auto.at-end in omega (arith, t, w)) in
    added_all_entries c.args.step.powers.now c.args.step.seam.now c.args.other.now c.args.table.now c.args.saved.now c.args.turns.now c.loop-at.at c.loop-at.table c.loop-at.turns c.loop-at.invariant c.requires.whole end
