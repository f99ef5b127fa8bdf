use Rattle.std.proofs.Common.{Ok, Err}
use Rattle.planar_check.proofs.Ranks.{count_found}
use Rattle.planar_check.proofs.component.count_at_most.Goals as goal

pub returns-in-Ok : goal.returns-in-Ok
returns-in-Ok c = count_found c.args.numbers.now c.args.most (Ok c.in-Ok.last) c.requires.sorted c.in-Ok.ensures.position

pub returns-in-Err : goal.returns-in-Err
returns-in-Err c = count_found c.args.numbers.now c.args.most (Err c.in-Err.next) c.requires.sorted c.in-Err.ensures.position
