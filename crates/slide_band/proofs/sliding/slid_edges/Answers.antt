use Rattle.std.proofs.Common.{◌≡◌, ◌⊎◌, Result, Ok, Err, inr, subst, sym, ◌∙◌, arith}
use Rattle.std.specs.Result.{IfOk, IfErr}
use Rattle.slide_laws.specs.declared.fault.SlideFault.{SlideFault}
use Rattle.slide_laws.specs.declared.fault.SlideFault.TheVariants.{Memory}
use Rattle.slide_laws.specs.Slides.{SlidDiagram}
use Rattle.slide_band.proofs.Steps.{slid_found, slid_apart}
use Rattle.slide_band.proofs.Late.{over_first, curls_few, few_pieces}
use Rattle.slide_band.proofs.sliding.slid_edges.Goals as goal

pub framed_pieces-requires-clause-first : goal.framed_pieces-requires-clause-first
framed_pieces-requires-clause-first c =
    let r = c.requires in
    let low = over_first c.args.framed.now r.diagram r.framed c.args.edges.edge c.args.edges.along r.passed in
    let is = r.over in
    omega (arith, low, is)

pub framed_pieces-requires-clause-few : goal.framed_pieces-requires-clause-few
framed_pieces-requires-clause-few c = let r = c.requires in curls_few c.args.framed.now r.diagram r.framed c.args.edges.edge c.args.edges.along r.passed c.args.edges.over r.over

pub framed_top-top-requires-clause-first : goal.framed_top-top-requires-clause-first
framed_top-top-requires-clause-first c =
    let r = c.requires in
    let low = over_first c.args.framed.now r.diagram r.framed c.args.edges.edge c.args.edges.along r.passed in
    let is = r.over in
    omega (arith, low, is)

pub framed_top-top-requires-clause-few : goal.framed_top-top-requires-clause-few
framed_top-top-requires-clause-few c = let r = c.requires in curls_few c.args.framed.now r.diagram r.framed c.args.edges.edge c.args.edges.along r.passed c.args.edges.over r.over

pub band_sides-requires : goal.band_sides-requires
band_sides-requires c =
    let r = c.requires in
    few_pieces c.args.framed.now r.diagram r.framed c.args.edges.edge c.args.edges.along r.passed r.small c.deref.result.now (c.deref.ensures.value ∙ c.in_ok-pieces.ensures)

pub returns-in-Some-clause-made : goal.returns-in-Some-clause-made
returns-in-Some-clause-made c =
    let a = c.args in
    let r = c.requires in
    let told = slid_found a.framed.now a.edges.edge a.edges.along a.edges.moved c.deref.result.now c.deref-in-Some.result.now c.in_ok-sides.sides c.in-Some.at_edge c.in-Some.at_along r.passed r.moved
    (c.deref.ensures.value ∙ c.in_ok-pieces.ensures) (c.deref-in-Some.ensures.value ∙ c.in_ok-pieces.ensures) c.in_ok-sides.ensures c.in-Some.is in
    let Q : Result SlidDiagram SlideFault → Type 0 = λ answer. IfOk c.slid_by.result (λ done. answer ≡ Ok done) in
    subst Q (sym told) c.slid_by.ensures.made

pub returns-in-Some-clause-refused : goal.returns-in-Some-clause-refused
returns-in-Some-clause-refused c =
    let a = c.args in
    let r = c.requires in
    let told = slid_found a.framed.now a.edges.edge a.edges.along a.edges.moved c.deref.result.now c.deref-in-Some.result.now c.in_ok-sides.sides c.in-Some.at_edge c.in-Some.at_along r.passed r.moved
    (c.deref.ensures.value ∙ c.in_ok-pieces.ensures) (c.deref-in-Some.ensures.value ∙ c.in_ok-pieces.ensures) c.in_ok-sides.ensures c.in-Some.is in
    let Q : Result SlidDiagram SlideFault → Type 0 = λ answer. IfErr c.slid_by.result (λ fault. (fault ≡ Memory) ⊎ (answer ≡ Err fault)) in
    subst Q (sym told) c.slid_by.ensures.refused

pub returns-clause-refused : goal.returns-clause-refused
returns-clause-refused c =
    let a = c.args in
    let r = c.requires in
    inr (slid_apart a.framed.now a.edges.edge a.edges.along c.deref.result.now c.in_ok-sides.sides r.passed (c.deref.ensures.value ∙ c.in_ok-pieces.ensures) c.in_ok-sides.ensures c.in-None.is)
