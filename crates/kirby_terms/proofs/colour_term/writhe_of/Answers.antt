-- A diagram has at most 256 items.
use Rattle.std.proofs.Common.{◌≤◌, ℤ, rules, subst, sym, ◌∙◌, unsigned_abs, FitsSigned}
use Rattle.std.specs.Int.{w64}
use Rattle.std.proofs.lemmas.Int.{to_z-of_z}
use Rattle.pd_reader.specs.Diagrams.{IsDiagram}
use Rattle.kirby_terms.proofs.Writhes.{small_writhe}
use Rattle.kirby_terms.proofs.colour_term.writhe_of.Goals as goal

pub returns-clause-small : goal.returns-clause-small
returns-clause-small c =
    let fits : FitsSigned w64 c.writhe.result = search rules in
    let diagram : IsDiagram c.args.planar.now = subst IsDiagram c.diagram.ensures.diagram c.items-items.ensures.diagram in
    subst (λ (z : ℤ). unsigned_abs z ≤ 256) (sym (to_z-of_z w64 c.writhe.result fits ∙ c.writhe.ensures)) (small_writhe c.args.planar.now c.args.component diagram)
