use Rattle.std.proofs.Common.{◌≡◌, ℕ, ◌<◌, ◌%◌, length, sym, ap, subst, ◌∙◌, arith}
use Rattle.frontier_sweep.proofs.InPlaceLemmas.{still_in, still_as, still_fits, same_item, scaled_more, scaled_all}
use Rattle.frontier_sweep.proofs.in_place.scale.Goals as goal

pub coefficient_at-coefficient-requires : goal.coefficient_at-coefficient-requires
coefficient_at-coefficient-requires c = still_in c.args.step.powers.now.modulus c.args.kept.now.weight c.args.table.now c.args.turns.now c.loop-at.at c.loop-at.table c.loop-at.saved.items c.loop-at.turns c.loop-at.invariant (subst (λ n. c.loop-at.at < n) c.len-at-end.ensures c.loop-at-test.true)

pub pairing-requires : goal.pairing-requires
pairing-requires c = still_in c.args.step.powers.now.modulus c.args.kept.now.weight c.args.table.now c.args.turns.now c.loop-at.at c.loop-at.table c.loop-at.saved.items c.loop-at.turns c.loop-at.invariant (subst (λ n. c.loop-at.at < n) c.len-at-end.ensures c.loop-at-test.true)

pub set_coefficient-requires : goal.set_coefficient-requires
set_coefficient-requires c = still_in c.args.step.powers.now.modulus c.args.kept.now.weight c.args.table.now c.args.turns.now c.loop-at.at c.loop-at.table c.loop-at.saved.items c.loop-at.turns c.loop-at.invariant (subst (λ n. c.loop-at.at < n) c.len-at-end.ensures c.loop-at-test.true)

pub glue-same-requires-clause-fits : goal.glue-same-requires-clause-fits
glue-same-requires-clause-fits c =
    let within = (subst (λ n. c.loop-at.at < n) c.len-at-end.ensures c.loop-at-test.true) in
    still_fits c.args.step.powers.now.modulus c.args.kept.now.weight c.args.table.now c.args.turns.now c.loop-at.at c.loop-at.table c.loop-at.saved.items c.loop-at.turns c.loop-at.invariant within _ c.pairing.result.now c.pairing.ensures.short c.pairing.ensures.code (c.requires.codes c.loop-at.at within)

pub glue-same-requires-clause-coefficient : goal.glue-same-requires-clause-coefficient
glue-same-requires-clause-coefficient c =
    let within = (subst (λ n. c.loop-at.at < n) c.len-at-end.ensures c.loop-at-test.true) in
    let is = c.coefficient_at-coefficient.ensures ∙ ap (λ (entry : ℕ × ℕ). entry.1) (still_as c.args.step.powers.now.modulus c.args.kept.now.weight c.args.table.now c.args.turns.now c.loop-at.at c.loop-at.table c.loop-at.saved.items c.loop-at.turns c.loop-at.invariant within) in
    subst (λ n. n < c.args.step.powers.now.modulus) (sym is) (c.requires.coefficients c.loop-at.at within)

pub loop-at-preserved : goal.loop-at-preserved
loop-at-preserved c =
    let m = c.args.step.powers.now.modulus in
    let term = c.args.kept.now in
    let coefficient = c.coefficient_at-coefficient.result in
    let within = (subst (λ n. c.loop-at.at < n) c.len-at-end.ensures c.loop-at-test.true) in
    let fits = still_fits c.args.step.powers.now.modulus c.args.kept.now.weight c.args.table.now c.args.turns.now c.loop-at.at c.loop-at.table c.loop-at.saved.items c.loop-at.turns c.loop-at.invariant within _ c.pairing.result.now c.pairing.ensures.short c.pairing.ensures.code (c.requires.codes c.loop-at.at within) in
    let item = same_item c.args.step.powers.now.delta c.args.step.seam.now c.pairing.result.now coefficient term c.requires.keeps c.pairing.ensures.short fits in
    let more = c.glue-same.ensures.more ∙ ap (λ (item : ℕ × ℕ). item.1 % m) item in
    scaled_more m term.weight c.args.table.now c.args.turns.now c.loop-at.at c.loop-at.table c.loop-at.saved.items c.loop-at.turns c.loop-at.invariant within
    coefficient _ c.coefficient_at-coefficient.ensures more c.set_coefficient.new.self c.set_coefficient.ensures c.push.new.self.items c.in_ok-push.ensures.items c.glue-same.new.turns c.glue-same.ensures.turns

pub returns-clause-scaled : goal.returns-clause-scaled
returns-clause-scaled c =
    let end : c.loop-at.at ≡ length c.args.table.now = (let t = c.loop-at-test.false in let w = c.loop-at.auto.at-end in let e = c.len-at-end.ensures in omega (arith, t, w, e)) in
    (scaled_all c.args.step.powers.now.modulus c.args.kept.now.weight c.args.table.now c.args.turns.now c.loop-at.at c.loop-at.table c.loop-at.saved.items c.loop-at.turns c.loop-at.invariant end).0
