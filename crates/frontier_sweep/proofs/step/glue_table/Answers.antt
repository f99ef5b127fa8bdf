use Rattle.std.proofs.Common.{◌≡◌, ℕ, ◌+◌, ◌<◌, List, Err, map, length, get_or, refl, ap, sym, subst, ◌∙◌}
use Rattle.std.proofs.lemmas.Result.{err_from_is_err_and}
use Rattle.frontier_laws.specs.Tables.{decoded, add_all, glued_item}
use Rattle.frontier_laws.proofs.Decoded.{decoded-code_of}
use Rattle.frontier_sweep.proofs.StepLemmas.{IsGluedToAll, entry_more, entry_over}
use Rattle.frontier_sweep.proofs.step.glue_table.Goals as goal

pub glue_terms-requires-clause-fits : goal.glue_terms-requires-clause-fits
glue_terms-requires-clause-fits c =
    let table : List (ℕ × ℕ) = c.args.table.now in
    let within : c.loop-at.at < length table = subst (λ n. c.loop-at.at < n) c.len-at-end.ensures c.loop-at-test.true in
    let is : c.pairing.result.now ≡ decoded (get_or table c.loop-at.at (0, 0)).0 = sym (decoded-code_of c.pairing.result.now c.pairing.ensures.short) ∙ ap decoded c.pairing.ensures.code in
    ap (λ (partner : List ℕ). length partner) is ∙ (c.requires.codes c.loop-at.at within).whole

pub returns-in_err-glue_terms-clause-full : goal.returns-in_err-glue_terms-clause-full
returns-in_err-glue_terms-clause-full c full =
    let step = c.args.step in
    let powers = step.powers.now in
    let table : List (ℕ × ℕ) = c.args.table.now in
    let entry = get_or table c.loop-at.at (0, 0) in
    let within : c.loop-at.at < length table = subst (λ n. c.loop-at.at < n) c.len-at-end.ensures c.loop-at-test.true in
    let p = err_from_is_err_and c.from_residual.result c.from_residual.ensures.1 in
    let is : c.pairing.result.now ≡ decoded entry.0 = sym (decoded-code_of c.pairing.result.now c.pairing.ensures.short) ∙ ap decoded c.pairing.ensures.code in
    entry_over powers step.seam.now step.terms.now table c.loop-at.next c.args.turns.now c.loop-at.at c.loop-at.turns c.loop-at.invariant within entry refl
    (subst (λ coefficient. 262144 < length (add_all powers.modulus c.loop-at.next (map (glued_item powers.delta step.seam.now (decoded entry.0) coefficient) step.terms.now))) c.coefficient_at.ensures
    (subst (λ (partner : List ℕ). 262144 < length (add_all powers.modulus c.loop-at.next (map (glued_item powers.delta step.seam.now partner c.coefficient_at.result) step.terms.now))) is
    ((c.in_err-glue_terms.ensures {u = tt}).full (ap Err (sym p.2) ∙ sym p.1 ∙ full))))

pub loop-at-preserved : goal.loop-at-preserved
loop-at-preserved c =
    let step = c.args.step in
    let powers = step.powers.now in
    let terms = step.terms.now in
    let table : List (ℕ × ℕ) = c.args.table.now in
    let entry = get_or table c.loop-at.at (0, 0) in
    let within : c.loop-at.at < length table = subst (λ n. c.loop-at.at < n) c.len-at-end.ensures c.loop-at-test.true in
    let is : c.pairing.result.now ≡ decoded entry.0 = sym (decoded-code_of c.pairing.result.now c.pairing.ensures.short) ∙ ap decoded c.pairing.ensures.code in
    let glued = c.in_ok-glue_terms.ensures {u = tt} in
    let more = entry_more powers step.seam.now terms table c.loop-at.next c.args.turns.now c.loop-at.at c.loop-at.turns c.loop-at.invariant within entry refl c.requires.some c.glue_terms.new.next
    (glued.added
    ∙ ap (λ (partner : List ℕ). add_all powers.modulus c.loop-at.next (map (glued_item powers.delta step.seam.now partner c.coefficient_at.result) terms)) is
    ∙ ap (λ coefficient. add_all powers.modulus c.loop-at.next (map (glued_item powers.delta step.seam.now (decoded entry.0) coefficient) terms)) c.coefficient_at.ensures)
    glued.few in
    subst (λ turns. IsGluedToAll powers step.seam.now terms table c.args.turns.now (c.loop-at.at + 1) c.glue_terms.new.next turns) (sym glued.turns) more
