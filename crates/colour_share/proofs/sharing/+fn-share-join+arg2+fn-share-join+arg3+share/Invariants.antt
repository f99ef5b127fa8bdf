use Rattle.std.proofs.Common.{◌+◌, ◌-◌, ◌*◌}
use Rattle.colour_share.proofs.sharing.+fn-share-join+arg2+fn-share-join+arg3+share.Given as goal

abbrev pub decreases-join+arg2 : goal.decreases-join+arg2
decreases-join+arg2 g l = 2 * (l.middle - l.from) + 1

abbrev pub decreases-join+arg3 : goal.decreases-join+arg3
decreases-join+arg3 g l = 2 * (l.to - l.middle) + 1

abbrev pub decreases-share : goal.decreases-share
decreases-share g l = 2 * (l.to - l.from)
