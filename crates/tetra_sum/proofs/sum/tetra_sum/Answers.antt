use Rattle.std.proofs.Common.{◌≡◌, inl, inr, ◌-◌, ◌<◌, ℕ, length, sym, ap, ap₂, subst₂, ◌∙◌, arith, ⊎_elim}
use Rattle.std.specs.Option.{option_or}
use Rattle.std.proofs.lemmas.Result.{on_ok_weaker, IfErr-weaker}
use Rattle.root_quantum.specs.Parameters.{Parameters}
use Rattle.wenzl_table.specs.Inverses.{AreCoprime}
use Rattle.tetra_sum.specs.Refusals.{count_refusal, inverse_refusal}
use Rattle.tetra_sum.specs.Sums.{text_labels}
use Rattle.tetra_sum.proofs.RefusalSteps.{refused_before, refused_by_walk}
use Rattle.tetra_sum.proofs.sum.tetra_sum.Goals as goal

pub returns-in-Err-clause-refused : goal.returns-in-Err-clause-refused
returns-in-Err-clause-refused c =
    let p = c.args.table.now.params in
    let vs = c.args.tetra.now in
    let count : c.len.result ≡ length (text_labels vs) = (let long = ap length c.in_ok-labels.ensures.labels in omega (arith, c.len.ensures, long)) in
    inr
    (refused_before p vs c.in-Err.fault
    (sym (ap₂ (λ (q : Parameters) n. option_or (count_refusal q.level n) (inverse_refusal q n)) c.params-params.ensures count) ∙ c.in-Err.ensures.refused))

pub walk-requires-clause-projectors : goal.walk-requires-clause-projectors
walk-requires-clause-projectors c =
    let vs = c.args.tetra.now in
    let count : c.len.result ≡ length (text_labels vs) = (let long = ap length c.in_ok-labels.ensures.labels in omega (arith, c.len.ensures, long)) in
    subst₂ (λ (q : Parameters) (n : ℕ). 0 < n → AreCoprime q (q.level - 2)) c.params-params.ensures count c.in_default.ensures.coprime

pub returns-clause-unrefused : goal.returns-clause-unrefused
returns-clause-unrefused c =
    let p = c.args.table.now.params in
    let vs = c.args.tetra.now in
    let count : c.len.result ≡ length (text_labels vs) = (let long = ap length c.in_ok-labels.ensures.labels in omega (arith, c.len.ensures, long)) in
    let few = sym (ap₂ (λ (q : Parameters) n. count_refusal q.level n) c.params-params.ensures count) ∙ c.in_default.ensures.count in
    let inverses = sym (ap₂ (λ (q : Parameters) n. inverse_refusal q n) c.params-params.ensures count) ∙ c.in_default.ensures.inverses in
    on_ok_weaker c.walk.result (λ none. refused_by_walk p vs few inverses ∙ none) c.walk.ensures.none

pub returns-clause-refused : goal.returns-clause-refused
returns-clause-refused c =
    let p = c.args.table.now.params in
    let vs = c.args.tetra.now in
    let count : c.len.result ≡ length (text_labels vs) = (let long = ap length c.in_ok-labels.ensures.labels in omega (arith, c.len.ensures, long)) in
    let few = sym (ap₂ (λ (q : Parameters) n. count_refusal q.level n) c.params-params.ensures count) ∙ c.in_default.ensures.count in
    let inverses = sym (ap₂ (λ (q : Parameters) n. inverse_refusal q n) c.params-params.ensures count) ∙ c.in_default.ensures.inverses in
    IfErr-weaker c.walk.result _ _ (λ fault h. ⊎_elim inl (λ e. inr (refused_by_walk p vs few inverses ∙ e)) h) c.walk.ensures.refused
