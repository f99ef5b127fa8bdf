use Rattle.pd_reader.proofs.ItemCalls.{loop_word}
use Rattle.pd_reader.proofs.text.read_loop.Goals as goal

pub read_call-requires-clause-word : goal.read_call-requires-clause-word
read_call-requires-clause-word c = loop_word
