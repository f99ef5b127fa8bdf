-- Colourings of labels, and which of them faces allow. (This project's own, after Turaev and Viro.)
--
--     colours_below r                 the colours 0 to r-2
--     colour_of labels colours label  the colour of a label, or nothing where it has none: a colouring of the first labels is a shorter list
--     admits r x y z                  x, y, z make an admissible vertex, and x + y + z is at most 2r-4
--     allows r labels colours face    the face's three colours do so; a face that is not wholly coloured forbids nothing
--     are_allowed r labels colours faces      each face does
--
-- At r = 3 the face 1, 1, 2 allows the colourings 0,0 and 1,0 of the labels 1, 2.
use Rattle.std.specs.Prelude.{ℕ, ◌+◌, ◌-◌, ◌*◌, ◌==◌, ◌&&◌, nat_le, Bool, true, cond, List, [], ◌∷◌, Option, Some, None}
use Rattle.std.specs.List.{range_with_len}
use Rattle.cables.specs.Nets.{is_admissible}

abbrev pub colours_below : ℕ → List ℕ
colours_below r = range_with_len 0 (r - 1)

abbrev pub colour_of : List ℕ → List ℕ → ℕ → Option ℕ
colour_of [] colours label = None
colour_of (l ∷ ls) [] label = None
colour_of (l ∷ ls) (colour ∷ colours) label = cond (l == label) (Some colour) (colour_of ls colours label)

abbrev pub admits : ℕ → ℕ → ℕ → ℕ → Bool
admits r x y z = is_admissible x y z && nat_le (x + y + z) (2 * r - 4)

-- Three colours, where each is there.
abbrev pub allows_three : ℕ → Option ℕ → Option ℕ → Option ℕ → Bool
allows_three r (Some x) (Some y) (Some z) = admits r x y z
allows_three r x y z = true

abbrev pub allows : ℕ → List ℕ → List ℕ → List ℕ → Bool
allows r labels colours (a ∷ b ∷ c ∷ []) = allows_three r (colour_of labels colours a) (colour_of labels colours b) (colour_of labels colours c)
allows r labels colours face = true

abbrev pub are_allowed : ℕ → List ℕ → List ℕ → List (List ℕ) → Bool
are_allowed r labels colours [] = true
are_allowed r labels colours (face ∷ faces) = allows r labels colours face && are_allowed r labels colours faces
