use Rattle.box_laws.proofs.WordTraces.{word_traces}
use Rattle.box_laws.proofs.laws.word_traces.Goals as goal

pub returns : goal.returns
returns c = word_traces
