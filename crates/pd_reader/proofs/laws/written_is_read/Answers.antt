use Rattle.pd_reader.proofs.ReadsBack.{written_is_read_lem}
use Rattle.pd_reader.proofs.laws.written_is_read.Goals as goal

pub returns : goal.returns
returns c = written_is_read_lem
