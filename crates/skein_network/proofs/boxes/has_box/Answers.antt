use Rattle.std.proofs.Common.{◌==◌, reverse, sym, ◌∙◌}
use Rattle.std.specs.Set.{is_member}
use Rattle.skein_network.specs.Edges.{boxed_at}
use Rattle.skein_network.proofs.SeenLabels.{member_reverse, both_tests}
use Rattle.skein_network.proofs.boxes.has_box.Goals as goal

pub returns-then-is_boxed : goal.returns-then-is_boxed
returns-then-is_boxed c =
    both_tests (boxed_at c.args.edges.now c.args.label) c.stands.result (is_member ◌==◌ (reverse c.args.seen.now) c.args.label)
    (sym c.is_boxed.ensures ∙ c.if-is_boxed.true) (c.stands.ensures ∙ sym (member_reverse c.args.seen.now c.args.label))
