use Rattle.std.proofs.Common.{sym, ◌∙◌}
use Rattle.std.proofs.lemmas.Bool.{false≢true}
use Rattle.wenzl_table.proofs.shape.Table.found.Goals as goal

pub returns-then-is_for-clause-found : goal.returns-then-is_for-clause-found
returns-then-is_for-clause-found c =
    let own = c.is_for.ensures.0 c.if-is_for.true in
    ((c.in_ok-held.ensures {u = tt}).known, (own.0 ∙ c.requires.params, own.1))

pub returns-then-is_for-clause-known : goal.returns-then-is_for-clause-known
returns-then-is_for-clause-known c = (c.in_ok-held.held.now, (c.in_ok-held.ensures {u = tt}).known)

pub returns-in_ok-projector-clause-found : goal.returns-in_ok-projector-clause-found
returns-in_ok-projector-clause-found c =
    let own = c.in_ok-projector.ensures {u = tt} in (
      (own.params ∙ c.requires.params, own.colour),
      c.in_ok-held.held.now,
      (c.in_ok-held.ensures {u = tt}).known,
      (λ h. false≢true (sym c.if-is_for.false ∙ c.is_for.ensures.1 (h.0 ∙ sym c.requires.params, h.1))),
    )

pub returns-in_ok-projector-clause-known : goal.returns-in_ok-projector-clause-known
returns-in_ok-projector-clause-known c = (c.in_ok-held.held.now, (c.in_ok-held.ensures {u = tt}).known)
