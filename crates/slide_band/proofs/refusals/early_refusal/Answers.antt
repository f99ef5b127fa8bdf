use Rattle.std.proofs.Common.{subst, sym, arith}
use Rattle.pd_reader.specs.Diagrams.{IsDiagram}
use Rattle.slide_band.proofs.Early.{early_third, early_last, number_low}
use Rattle.slide_band.proofs.refusals.early_refusal.Goals as goal

pub returns-in-Some-same_component : goal.returns-in-Some-same_component
returns-in-Some-same_component c =
    early_third c.args.framed.now c.args.e c.args.f c.planar-planar.result.now c.planar-planar.ensures.planar c.in-Some-same_component.fault
    c.in_default.ensures c.in_default-loop_edge.ensures c.in-Some-same_component.ensures

pub too_many-requires-clause-first : goal.too_many-requires-clause-first
too_many-requires-clause-first c =
    let low = number_low c.planar-planar.result.now c.args.e c.args.f (subst IsDiagram (sym c.planar-planar.ensures.planar) c.requires.diagram) c.in_default.ensures in
    omega (arith, low, c.component_of.ensures)

pub returns : goal.returns
returns c =
    early_last c.args.framed.now c.args.e c.args.f c.planar-planar.result.now c.planar-planar.ensures.planar c.planar-planar.ensures.framed c.component_of.result c.too_many.result
    c.in_default.ensures c.in_default-loop_edge.ensures c.in_default-same_component.ensures c.in_default-odd_pair.ensures c.component_of.ensures c.too_many.ensures
