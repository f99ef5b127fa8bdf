use Rattle.std.proofs.Common.{List, subst}
use Rattle.text_shapes.specs.Readers.{Found}
use Rattle.text_shapes.specs.Shapes.{AreOf, call}
use Rattle.script_reader.specs.declared.argument.StepArgument.{StepArgument}
use Rattle.script_reader.specs.StepTexts.{IsArgumentOf, argument_tokens, pair_slots}
use Rattle.script_reader.proofs.StepCalls.{pair_is}
use Rattle.script_reader.proofs.step.read_pair.Goals as goal

pub returns-clause-ok : goal.returns-clause-ok
returns-clause-ok c =
    subst (λ (all : List StepArgument). Found (AreOf IsArgumentOf pair_slots) (call argument_tokens c.args.head.now) c.args.bytes.now c.args.at all c.in_ok-next.next)
    (pair_is c.read_call.new.slots c.number-first.result c.number-second.result c.in_ok-next.ensures.ok.fits_shape c.number-first.ensures c.number-second.ensures)
    c.in_ok-next.ensures.ok
