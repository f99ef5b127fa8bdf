use Rattle.text_shapes.proofs.Numbers.{number_found, number_missed}
use Rattle.pd_reader.proofs.scan.read_number.Goals as goal

pub returns-in-Some-clause-ok : goal.returns-in-Some-clause-ok
returns-in-Some-clause-ok c = number_found c.args.bytes.now c.args.at c.skip-start.result c.in-Some.found.0 c.in-Some.found.1 c.skip-start.ensures c.in-Some.ensures.some

pub returns-in-None-clause-err : goal.returns-in-None-clause-err
returns-in-None-clause-err c = number_missed c.args.bytes.now c.args.at c.skip-start.result c.skip-start.ensures c.in-None.ensures.none
