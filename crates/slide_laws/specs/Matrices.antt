-- What a slide does to the linking matrix. Components count from 1, rows and columns from 0.
--
--     linking_matrix framed r c         the linking matrix
--     slide_matrix framed e f result    C: the identity with +1 or -1 added in the row of the component of f and the column of that of
--                                       e, and then each column of a component that is walked against its old direction negated
--     slide_inverse framed e f result   its inverse
--     components framed                 how many components there are: the size of these matrices
use Rattle.std.specs.Prelude.{ℕ, ◌+◌, ◌-◌, ◌==◌, ◌&&◌, false, if◌then◌else◌, Bool, List, length, slice_index_or, ℤ, pos, negsuc, ◌+ℤ◌, ◌*ℤ◌, neg_ℤ}
use Rattle.planar_check.specs.Components.{number_of, least_labels}
use Rattle.planar_check.specs.Framings.{FramedDiagram, linking_entry}
use Rattle.planar_check.specs.Tables.{sign_value}
use Rattle.slide_laws.specs.Slides.{SlidDiagram}

abbrev pub components : FramedDiagram → ℕ
components framed = length (least_labels framed.items)

abbrev pub linking_matrix : FramedDiagram → ℕ → ℕ → ℤ
linking_matrix framed r c = linking_entry framed (r + 1) (c + 1)

-- -1 for a component that is walked against its old direction, else +1
abbrev pub direction_sign : List Bool → ℕ → ℤ
direction_sign against c = if slice_index_or against c false then negsuc 0 else pos 1

-- the sign, in the row of the component of f and the column of that of e
abbrev pub added_sign : FramedDiagram → ℕ → ℕ → SlidDiagram → ℕ → ℕ → ℤ
added_sign framed e f result r c =
    if r == number_of framed.items f - 1 && c == number_of framed.items e - 1 then sign_value result.sign else pos 0

abbrev pub slide_matrix : FramedDiagram → ℕ → ℕ → SlidDiagram → ℕ → ℕ → ℤ
slide_matrix framed e f result r c = ((if r == c then pos 1 else pos 0) +ℤ added_sign framed e f result r c) *ℤ direction_sign result.against c

abbrev pub slide_inverse : FramedDiagram → ℕ → ℕ → SlidDiagram → ℕ → ℕ → ℤ
slide_inverse framed e f result r c = direction_sign result.against r *ℤ ((if r == c then pos 1 else pos 0) +ℤ neg_ℤ (added_sign framed e f result r c))
