use Rattle.std.proofs.Common.{◌<◌, sym, subst}
use Rattle.arc_pairing.proofs.Spelling.{shifted, times_small}
use Rattle.arc_pairing.proofs.code.placed.Goals as goal

pub returns-clause-value : goal.returns-clause-value
returns-clause-value c = shifted c.args.digit c.args.at c.from.result c.from-2.result c.from.ensures c.from-2.ensures c.requires.digit c.requires.at

pub returns-clause-small : goal.returns-clause-small
returns-clause-small c =
    subst (λ n. n < 1329227995784915872903807060280344576) (sym (shifted c.args.digit c.args.at c.from.result c.from-2.result c.from.ensures c.from-2.ensures c.requires.digit c.requires.at))
    (times_small c.args.digit c.args.at c.requires.digit c.requires.at)
