-- The answer is made or refused as that of `of_form` is, and so exactly where the conditions say.
use Rattle.root_quantum.specs.declared.form.Form.TheVariants.{All}
use Rattle.root_quantum.proofs.RefusalProofs.{succeeds_exactly, refuses_exactly}
use Rattle.root_quantum.proofs.params.Params.new.Goals as goal

pub returns-clause-succeeds : goal.returns-clause-succeeds
returns-clause-succeeds c = succeeds_exactly All c.args.m c.args.a c.args.r c.of_form.result c.of_form.ensures.made c.of_form.ensures.refused

pub returns-clause-refused : goal.returns-clause-refused
returns-clause-refused c = refuses_exactly All c.args.m c.args.a c.args.r c.of_form.result c.of_form.ensures.made c.of_form.ensures.refused
