use Rattle.std.proofs.Common.{◌≡◌, ◌++◌, List, sym, ap, ◌∙◌, subst}
use Rattle.pd_reader.specs.declared.item.Item.{Item}
use Rattle.pd_reader.specs.Diagrams.{IsDiagram}
use Rattle.braid_closures.specs.Closures.{closed, loops}
use Rattle.braid_closures.proofs.ClosedDiagrams.{closed_is_diagram, closed_from}
use Rattle.braid_closures.proofs.closures.closure.Goals as goal

pub of_paired-requires : goal.of_paired-requires
of_paired-requires c =
    let is : c.deref.result.now ≡ closed c.args.braid.now =
    c.deref.ensures.value ∙ c.in_ok-push_loops.ensures ∙ ap (λ (xs : List Item). xs ++ loops c.word-word.result.now 1 c.strands-2.result) c.in_ok-items.ensures
    ∙ closed_from c.args.braid.now c.strands.result c.strands-2.result c.word-word.result.now c.strands.ensures c.strands-2.ensures c.word-word.ensures.word in
    subst IsDiagram (sym is) (closed_is_diagram c.args.braid.now c.word-word.ensures.braid)
