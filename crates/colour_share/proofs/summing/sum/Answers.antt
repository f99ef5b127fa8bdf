use Rattle.std.proofs.Common.{◌∙◌, sym, ap, subst, arith}
use Rattle.root_quantum.specs.Parameters.{Parameters}
use Rattle.kirby_terms.specs.Terms.{colouring_total, HasInverses}
use Rattle.colour_share.specs.Sums.{IsRefused, IsStoppedSum, IsFirstLimit}
use Rattle.colour_share.proofs.Wholes.{whole_value, whole_turns, whole_stop, turns_by, first_limit, own_notes}
use Rattle.colour_share.proofs.Refusals.{refused_exactly, value_exactly, stop_exactly}
use Rattle.colour_share.proofs.summing.sum.Goals as goal

pub returns-in-Err-clause-no_inverse : goal.returns-in-Err-clause-no_inverse
returns-in-Err-clause-no_inverse g c =
    λ index common. refused_exactly c.args.table.now.params c.args.framed.now index common c.in-Err.fault
    (subst (λ (p : Parameters). IsRefused p c.args.framed.now c.in-Err.fault) c.params.ensures ((c.in-Err.ensures {u = tt}).refused))

pub share-requires-clause-inverses : goal.share-requires-clause-inverses
share-requires-clause-inverses g c = λ _ _. subst (λ (p : Parameters). HasInverses p c.args.framed.now) c.params.ensures ((c.in-Ok.ensures {u = tt}).inverses)

pub returns-in-Ok-share-clause-value : goal.returns-in-Ok-share-clause-value
returns-in-Ok-share-clause-value g c =
    let p = c.args.table.now.params in
    let low = p.meets.modulus.0 in
    let total_is = (c.in-Ok.ensures {u = tt}).total ∙ ap (λ (q : Parameters). colouring_total q c.args.framed.now) c.params.ensures in
    whole_value (g.C.Choose.answers c.args.chooser.now) p c.args.framed.now c.args.workers c.requires.some c.in-Ok.total c.in-Ok-share.summed.value c.in-Ok-share.summed.turns total_is (omega (arith, low))
    (c.in-Ok-share.ensures {u = tt}).sum

pub returns-in-Ok-share-clause-turns : goal.returns-in-Ok-share-clause-turns
returns-in-Ok-share-clause-turns g c =
    let total_is = (c.in-Ok.ensures {u = tt}).total ∙ ap (λ (q : Parameters). colouring_total q c.args.framed.now) c.params.ensures in
    whole_turns (g.C.Choose.answers c.args.chooser.now) c.args.table.now.params c.args.framed.now c.args.workers c.requires.some c.in-Ok.total c.in-Ok-share.summed.value c.in-Ok-share.summed.turns total_is
    (c.in-Ok-share.ensures {u = tt}).sum

pub returns-in-Ok-share-clause-exact : goal.returns-in-Ok-share-clause-exact
returns-in-Ok-share-clause-exact g c =
    let answers = g.C.Choose.answers c.args.chooser.now in
    let p = c.args.table.now.params in
    let total_is = (c.in-Ok.ensures {u = tt}).total ∙ ap (λ (q : Parameters). colouring_total q c.args.framed.now) c.params.ensures in
    let counted = whole_turns answers p c.args.framed.now c.args.workers c.requires.some c.in-Ok.total c.in-Ok-share.summed.value c.in-Ok-share.summed.turns total_is (c.in-Ok-share.ensures {u = tt}).sum in
    λ next is_next. turns_by next answers p c.args.framed.now is_next c.in-Ok-share.summed.turns counted

pub returns-in-Ok-share-clause-notes : goal.returns-in-Ok-share-clause-notes
returns-in-Ok-share-clause-notes g c =
    let total_is = (c.in-Ok.ensures {u = tt}).total ∙ ap (λ (q : Parameters). colouring_total q c.args.framed.now) c.params.ensures in
    own_notes c.args.table.now c.args.framed.now c.args.workers c.in-Ok.total c.in-Ok-share.summed.notes.items total_is (c.in-Ok-share.ensures {u = tt}).notes

pub returns-in-Ok-share-clause-no_inverse : goal.returns-in-Ok-share-clause-no_inverse
returns-in-Ok-share-clause-no_inverse g c =
    λ index common. value_exactly c.args.table.now.params c.args.framed.now index common c.in-Ok-share.summed
    (subst (λ (p : Parameters). HasInverses p c.args.framed.now) c.params.ensures ((c.in-Ok.ensures {u = tt}).inverses))

pub returns-in-Err-share-clause-no_inverse : goal.returns-in-Err-share-clause-no_inverse
returns-in-Err-share-clause-no_inverse g c =
    λ index common. stop_exactly c.args.table.now.params c.args.framed.now index common c.in-Err-share.fault c.fault_of.result c.fault_of.ensures
    (subst (λ (p : Parameters). HasInverses p c.args.framed.now) c.params.ensures ((c.in-Ok.ensures {u = tt}).inverses))

pub returns-in-Err-share-clause-stopped : goal.returns-in-Err-share-clause-stopped
returns-in-Err-share-clause-stopped g c =
    let answers = g.C.Choose.answers c.args.chooser.now in
    let p = c.args.table.now.params in
    let total_is = (c.in-Ok.ensures {u = tt}).total ∙ ap (λ (q : Parameters). colouring_total q c.args.framed.now) c.params.ensures in
    subst (IsStoppedSum answers p c.args.framed.now) (sym c.fault_of.ensures)
    (whole_stop answers p c.args.framed.now c.args.workers c.requires.some c.in-Ok.total c.in-Err-share.fault total_is (c.in-Err-share.ensures {u = tt}))

pub returns-in-Err-share-clause-first : goal.returns-in-Err-share-clause-first
returns-in-Err-share-clause-first g c =
    let answers = g.C.Choose.answers c.args.chooser.now in
    let p = c.args.table.now.params in
    let total_is = (c.in-Ok.ensures {u = tt}).total ∙ ap (λ (q : Parameters). colouring_total q c.args.framed.now) c.params.ensures in
    let stopped = whole_stop answers p c.args.framed.now c.args.workers c.requires.some c.in-Ok.total c.in-Err-share.fault total_is (c.in-Err-share.ensures {u = tt}) in
    λ next is_next. subst (IsFirstLimit next p c.args.framed.now) (sym c.fault_of.ensures) (first_limit next answers p c.args.framed.now is_next _ stopped)
