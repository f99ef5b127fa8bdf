use Rattle.std.proofs.Common.{ℕ, ap, subst}
use Rattle.root_quantum.specs.Parameters.{Parameters}
use Rattle.wenzl_table.specs.Inverses.{AreCoprime, IsFirstCommon}
use Rattle.wenzl_table.specs.Tables.{Table, Knows}
use Rattle.wenzl_table.proofs.FirstCommons.{refused, made, no_memory}
use Rattle.wenzl_table.proofs.shape.Table.projector.Goals as goal

pub returns-in-Err-clause-no_inverse : goal.returns-in-Err-clause-no_inverse
returns-in-Err-clause-no_inverse c = λ index common.
    let first = subst (λ (p : Parameters). IsFirstCommon p c.args.n c.in-Err.field-0.index c.in-Err.field-0.common) (ap (λ (t : Table). t.params) c.self.view_is) (c.in-Err.ensures {u = tt}).common in
    refused c.args.self.now.params c.args.n c.in-Err.field-0.index c.in-Err.field-0.common index common first

pub returns-in-Ok-found-clause-no_inverse : goal.returns-in-Ok-found-clause-no_inverse
returns-in-Ok-found-clause-no_inverse c = λ index common.
    let all = subst (λ (p : Parameters). AreCoprime p c.args.n) (ap (λ (t : Table). t.params) c.self.view_is) (c.in-Ok.ensures {u = tt}).coprime in
    made c.args.self.now.params c.args.n index common _ all

pub returns-in-Err-found-clause-no_inverse : goal.returns-in-Err-found-clause-no_inverse
returns-in-Err-found-clause-no_inverse c = λ index common.
    let all = subst (λ (p : Parameters). AreCoprime p c.args.n) (ap (λ (t : Table). t.params) c.self.view_is) (c.in-Ok.ensures {u = tt}).coprime in
    no_memory c.args.self.now.params c.args.n index common all

pub returns-in-Ok-found-clause-known : goal.returns-in-Ok-found-clause-known
returns-in-Ok-found-clause-known c =
    subst (λ (k : ℕ). Knows c.found.new.notes k) (c.in-Ok.ensures {u = tt}).made.1 (c.in-Ok-found.ensures {u = tt}).known
