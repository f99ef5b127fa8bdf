use Rattle.std.proofs.Common.{sym, ◌∙◌}
use Rattle.std.proofs.lemmas.Bool.{eqb-true, eq-eqb}
use Rattle.root_quantum.proofs.ParametersTests.{equal_by_test}
use Rattle.wenzl_table.proofs.table.is_for.Goals as goal

pub returns-then-eq : goal.returns-then-eq
returns-then-eq c = (
  (λ same. (sym c.params.ensures ∙ equal_by_test c.params.result.now c.args.params.now (sym c.eq.ensures ∙ c.if-eq.true), sym c.colour.ensures.value ∙ eqb-true c.colour.result c.args.n same)),
  (λ h. eq-eqb c.colour.result c.args.n (c.colour.ensures.value ∙ h.1)),
)
