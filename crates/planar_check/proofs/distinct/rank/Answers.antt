use Rattle.std.proofs.Common.{Ok, Err}
use Rattle.planar_check.proofs.Ranks.{rank_found}
use Rattle.planar_check.proofs.distinct.rank.Goals as goal

pub returns-in-Ok : goal.returns-in-Ok
returns-in-Ok c = let h = rank_found c.args.names.now c.requires c.args.label (Ok c.in-Ok.rank) c.in-Ok.ensures.position in h

pub returns-in-Err : goal.returns-in-Err
returns-in-Err c = let h = rank_found c.args.names.now c.requires c.args.label (Err c.in-Err.field-0) c.in-Err.ensures.position in h
