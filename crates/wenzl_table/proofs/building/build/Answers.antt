use Rattle.wenzl_table.proofs.FirstCommons.{refused, made, no_memory}
use Rattle.wenzl_table.proofs.building.build.Goals as goal

pub returns-in-Err-clause-no_inverse : goal.returns-in-Err-clause-no_inverse
returns-in-Err-clause-no_inverse c = λ index common. refused c.args.params.now c.args.n c.in-Err.field-0.index c.in-Err.field-0.common index common (c.in-Err.ensures {u = tt}).common

pub returns-in-Ok-projector-clause-no_inverse : goal.returns-in-Ok-projector-clause-no_inverse
returns-in-Ok-projector-clause-no_inverse c = λ index common. made c.args.params.now c.args.n index common _ (c.in-Ok.ensures {u = tt}).coprime

pub returns-in-Err-projector-clause-no_inverse : goal.returns-in-Err-projector-clause-no_inverse
returns-in-Err-projector-clause-no_inverse c = λ index common. no_memory c.args.params.now c.args.n index common (c.in-Ok.ensures {u = tt}).coprime
