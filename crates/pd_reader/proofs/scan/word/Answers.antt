use Rattle.std.proofs.Common.{sym, ◌∙◌}
use Rattle.text_shapes.proofs.Scans.{word_stands, word_falls}
use Rattle.pd_reader.proofs.scan.word.Goals as goal

pub returns-then-count-word-clause-ok : goal.returns-then-count-word-clause-ok
returns-then-count-word-clause-ok c =
    rw c.if-count-word.true (word_stands c.args.bytes.now c.args.at c.skip-start.result c.args.word.now c.skip-start.ensures (sym c.agree-count.ensures.count ∙ c.if-count-word.true))

pub returns-else-count-word-clause-err : goal.returns-else-count-word-clause-err
returns-else-count-word-clause-err c =
    rw c.agree-count.ensures.count (word_falls c.args.bytes.now c.args.at c.skip-start.result c.args.word.now c.requires.token c.skip-start.ensures (λ e. c.if-count-word.false (c.agree-count.ensures.count ∙ e)))
