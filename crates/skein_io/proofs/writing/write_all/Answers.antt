use Rattle.std.proofs.Common.{◌∙◌, arith}
use Rattle.std.proofs.lemmas.Grind.{common_steps}
use Rattle.skein_io.proofs.SinkLemmas.{Appends-next}
use Rattle.skein_io.proofs.writing.write_all.Goals as goal

pub loop-sent-preserved : goal.loop-sent-preserved
loop-sent-preserved g c = record {
  within = grind (arith, common_steps);
  appended = Appends-next _ _ _ c.loop-sent.sent c.in-Ok.count c.args.piece.now c.loop-sent.invariant.appended c.in-Ok.ensures.appended;
  no_fault = c.in-Ok.ensures.no_fault ∙ c.loop-sent.invariant.no_fault;
}
