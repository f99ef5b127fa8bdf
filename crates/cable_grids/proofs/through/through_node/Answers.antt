use Rattle.std.proofs.Common.{◌++◌, length, List, ℕ, ap, sym, ◌∙◌}
use Rattle.cable_grids.proofs.OneTerm.{straight_length}
use Rattle.cable_grids.proofs.through.through_node.Goals as goal

pub one_term_node-requires-clause-whole : goal.one_term_node-requires-clause-whole
one_term_node-requires-clause-whole c =
    ap length c.straight.ensures
    ∙ straight_length c.args.xs.now c.args.ys.now c.requires.same
    ∙ ap length (sym (c.deref.ensures.value ∙ c.in_ok-extend_from_slice.ensures.items ∙ ap (λ (zs : List ℕ). zs ++ c.args.ys.now) c.in_ok-ends.ensures.items))
