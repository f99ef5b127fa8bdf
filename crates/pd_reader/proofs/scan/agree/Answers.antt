use Rattle.std.proofs.Common.{sym, ◌∙◌, arith}
use Rattle.text_shapes.proofs.Scans.{agreed-more, agreed-word, agreed-bytes, agreed-other}
use Rattle.pd_reader.proofs.scan.agree.Goals as goal

pub loop-count-preserved : goal.loop-count-preserved
loop-count-preserved c = record {
  in_word = omega arith;
  in_bytes = omega arith;
  same = agreed-more c.args.bytes.now c.args.word.now c.args.at c.loop-count.count c.loop-count-test.true c.if-at-count.true c.if-bytes-at.true ∙ c.loop-count.invariant.same;
}

pub returns-else-bytes-at-clause-count : goal.returns-else-bytes-at-clause-count
returns-else-bytes-at-clause-count c = sym (agreed-other c.args.bytes.now c.args.word.now c.args.at c.loop-count.count c.loop-count-test.true c.if-at-count.true c.if-bytes-at.false) ∙ c.loop-count.invariant.same

pub returns-else-at-count-clause-count : goal.returns-else-at-count-clause-count
returns-else-at-count-clause-count c = sym (agreed-bytes c.args.bytes.now c.args.word.now c.args.at c.loop-count.count c.if-at-count.false) ∙ c.loop-count.invariant.same

pub returns-after-loop-count-clause-count : goal.returns-after-loop-count-clause-count
returns-after-loop-count-clause-count c = sym (agreed-word c.args.bytes.now c.args.word.now c.args.at c.loop-count.count c.loop-count-test.false) ∙ c.loop-count.invariant.same
