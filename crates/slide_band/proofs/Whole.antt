-- What holds of the result of a slide: the laws, at what the code gives.
use Rattle.std.proofs.Common.{◌≡◌, ℕ, ◌+◌, ◌≤◌, Ok}
use Rattle.inertia_laws.specs.Indices.{IsCongruent, HaveSameIndices}
use Rattle.pd_reader.specs.Diagrams.{IsDiagram}
use Rattle.planar_check.specs.Framings.{FramedDiagram, IsFramed}
use Rattle.planar_check.proofs.LinkingEntries.{linking_entry-swap}
use Rattle.slide_laws.specs.Laws.{IsSlidFramed}
use Rattle.slide_laws.specs.Matrices.{components, linking_matrix, slide_matrix}
use Rattle.slide_laws.specs.Slides.{SlidDiagram, top_of, slid}
use Rattle.slide_laws.proofs.Congruence.{slide_congruence}
use Rattle.slide_laws.proofs.Inertia.{slide_inertia}
use Rattle.slide_laws.proofs.SlidDiagram.{slid_framed}

module _ (framed : FramedDiagram) (e f : ℕ) (diagram : IsDiagram framed.items) (is_framed : IsFramed framed) (small : top_of framed.items ≤ 1999000) (done : SlidDiagram) (ok : slid framed e f ≡ Ok done) where
  pub known : IsSlidFramed framed done
  known = slid_framed framed e f done diagram is_framed small ok

  pub congruent : IsCongruent (components framed) (linking_matrix framed) (slide_matrix framed e f done) (linking_matrix done.framed)
  congruent = slide_congruence framed e f done diagram is_framed known.diagram ok

  pub same_indices : HaveSameIndices (components framed) (linking_matrix framed) (linking_matrix done.framed)
  same_indices =
      let alike = slide_inertia framed e f done diagram is_framed known.diagram ok in
      alike.indices (λ i j li lj. linking_entry-swap framed (i + 1) (j + 1))
