-- Laws of handle slides. Let L and L' be the linking matrices before and after a slide, and C the matrix of the slide.
--
--     SlidIsFramed        what a slide gives is a planar framed diagram with the same components, by their least labels
--     SlideCongruence     L' is C-transposed times L times C
--     SlideInvertible     C has an inverse of whole numbers
--     SlideInertia        certificates of L and of L' have the same counts, and both have the same indices
use Rattle.std.specs.Prelude.{◌≡◌, ℕ, ◌+◌, ◌≤◌, None, Ok}
use Rattle.inertia_laws.specs.Indices.{IsInverse, IsCongruent}
use Rattle.inertia_laws.specs.Laws.{AreCongruentAlike}
use Rattle.pd_reader.specs.Diagrams.{IsDiagram}
use Rattle.planar_check.specs.Places.{item_slots}
use Rattle.planar_check.specs.Planar.{planar_refusal}
use Rattle.planar_check.specs.Components.{least_labels}
use Rattle.planar_check.specs.Framings.{FramedDiagram, IsFramed}
use Rattle.slide_laws.specs.Slides.{SlidDiagram, slid, top_of}
use Rattle.slide_laws.specs.Matrices.{components, linking_matrix, slide_matrix, slide_inverse}

-- what is known of the result of a slide
pub record IsSlidFramed (framed : FramedDiagram) (result : SlidDiagram) : Type 0 where
  pub diagram : IsDiagram result.framed.items
  pub framings : IsFramed result.framed
  pub planar : planar_refusal item_slots result.framed.items ≡ None
  pub leasts : least_labels result.framed.items ≡ least_labels framed.items
  pub top : top_of result.framed.items ≤ top_of framed.items + 512

abbrev pub SlidIsFramed : Type 0
SlidIsFramed =
    (framed : FramedDiagram) (e f : ℕ) (result : SlidDiagram) → IsDiagram framed.items → IsFramed framed → top_of framed.items ≤ 1999000 →
    slid framed e f ≡ Ok result → IsSlidFramed framed result

abbrev pub SlideCongruence : Type 0
SlideCongruence =
    (framed : FramedDiagram) (e f : ℕ) (result : SlidDiagram) → IsDiagram framed.items → IsFramed framed → IsDiagram result.framed.items →
    slid framed e f ≡ Ok result → IsCongruent (components framed) (linking_matrix framed) (slide_matrix framed e f result) (linking_matrix result.framed)

abbrev pub SlideInvertible : Type 0
SlideInvertible =
    (framed : FramedDiagram) (e f : ℕ) (result : SlidDiagram) → IsDiagram framed.items →
    slid framed e f ≡ Ok result → IsInverse (components framed) (slide_matrix framed e f result) (slide_inverse framed e f result)

abbrev pub SlideInertia : Type 0
SlideInertia =
    (framed : FramedDiagram) (e f : ℕ) (result : SlidDiagram) → IsDiagram framed.items → IsFramed framed → IsDiagram result.framed.items →
    slid framed e f ≡ Ok result → AreCongruentAlike (components framed) (linking_matrix framed) (linking_matrix result.framed)
