use Rattle.move_script.proofs.moved.change.Goals as goal

pub returns-in-BlowUp-clause-made : goal.returns-in-BlowUp-clause-made
returns-in-BlowUp-clause-made c = rw c.in-BlowUp.is (rw (c.items-items.ensures.items, c.diagram.ensures.diagram) at c.with_loop.ensures c.in-BlowUp.sign)
