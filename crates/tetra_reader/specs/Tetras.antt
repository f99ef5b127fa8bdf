-- Faces and tetrahedra by the labels of their edges, and their texts TV[item,..,item] with items F[n,n,n] and
-- T[n,n,n,n,n,n]. (This project's own.)
--
--     IsTetraText bytes items      the bytes are a text of these items
--     faces_of, tetrahedra_of      the faces and the tetrahedra among the items, in their order
--     is_face a b c face           the face has these labels, in some order
--     has_faces faces t            the faces abc, aef, bfd, cde of the tetrahedron a, b, c, d, e, f are listed
--     first_unlisted faces ts      the first tetrahedron, from 1, that has a face which isn't
--     refusal items                the first reason against items: more than 256, or such a tetrahedron
--     IsTetra items                what tetrahedra keep
--
-- For F[1,2,3], T[1,2,3,4,5,6] the refusal is tetrahedron 1, whose face 1, 5, 6 is not listed.
use Rattle.std.specs.Prelude.{◌≡◌, ℕ, suc, ◌==◌, ◌&&◌, ◌||◌, Bool, false, cond, nat_lt, codes, List, [], ◌∷◌, length, Option, Some, None, option_map}
use Rattle.std.specs.List.{AllByRecursion, flat_map}
use Rattle.text_shapes.specs.Tokens.{number_tokens}
use Rattle.text_shapes.specs.Shapes.{IsText, call, listed}
use Rattle.pd_reader.specs.Texts.{AreNumbers}
use Rattle.tetra_reader.specs.declared.item.TetraItem.{TetraItem}
use Rattle.tetra_reader.specs.declared.item.TetraItem.TheVariants as items
use Rattle.tetra_reader.specs.declared.tetra.TheConstants.{MOST_ITEMS}
use Rattle.tetra_reader.specs.declared.fault.TetraText.{TetraText}
use Rattle.tetra_reader.specs.declared.fault.TetraText.TheVariants as faults

-- ---- texts

abbrev pub IsTextTetraItem : TetraItem → Type 0
IsTextTetraItem (items.F labels) = AreNumbers 3 labels
IsTextTetraItem (items.T labels) = AreNumbers 6 labels

abbrev pub tetra_item_tokens : TetraItem → List (List ℕ)
tetra_item_tokens (items.F labels) = call number_tokens (codes "F") labels
tetra_item_tokens (items.T labels) = call number_tokens (codes "T") labels

abbrev pub tetra_tokens : List TetraItem → List (List ℕ)
tetra_tokens = listed tetra_item_tokens (codes "TV")

abbrev pub IsTetraText : List ℕ → List TetraItem → Type 0
IsTetraText = IsText (AllByRecursion IsTextTetraItem) tetra_tokens

-- ---- the items of each kind

abbrev pub face_of : TetraItem → List (List ℕ)
face_of (items.F labels) = labels ∷ []
face_of (items.T labels) = []

abbrev pub tetrahedron_of : TetraItem → List (List ℕ)
tetrahedron_of (items.F labels) = []
tetrahedron_of (items.T labels) = labels ∷ []

abbrev pub faces_of : List TetraItem → List (List ℕ)
faces_of = flat_map face_of

abbrev pub tetrahedra_of : List TetraItem → List (List ℕ)
tetrahedra_of = flat_map tetrahedron_of

-- ---- listed faces

-- y and z are b and c, in one order or the other
abbrev pub are_pair : ℕ → ℕ → ℕ → ℕ → Bool
are_pair y z b c = (y == b && z == c) || (y == c && z == b)

-- the face has the labels a, b and c, in some order
abbrev pub is_face : ℕ → ℕ → ℕ → List ℕ → Bool
is_face a b c (x ∷ y ∷ z ∷ []) = (x == a && are_pair y z b c) || ((x == b && are_pair y z a c) || (x == c && are_pair y z a b))
is_face a b c face = false

abbrev pub is_listed : List (List ℕ) → ℕ → ℕ → ℕ → Bool
is_listed [] a b c = false
is_listed (face ∷ faces) a b c = is_face a b c face || is_listed faces a b c

-- the faces abc, aef, bfd and cde are listed
abbrev pub has_faces : List (List ℕ) → List ℕ → Bool
has_faces faces (a ∷ b ∷ c ∷ d ∷ e ∷ f ∷ []) =
    is_listed faces a b c && (is_listed faces a e f && (is_listed faces b f d && is_listed faces c d e))
has_faces faces labels = false

-- the first tetrahedron, from 1, with a face that is not listed
abbrev pub first_unlisted : List (List ℕ) → List (List ℕ) → Option ℕ
first_unlisted faces [] = None
first_unlisted faces (t ∷ ts) = cond (has_faces faces t) (option_map suc (first_unlisted faces ts)) (Some 1)

abbrev pub refusal : List TetraItem → Option TetraText
refusal items =
    cond (nat_lt MOST_ITEMS (length items)) (Some (faults.TooMany MOST_ITEMS))
    (option_map (λ tetrahedron. faults.Face tetrahedron) (first_unlisted (faces_of items) (tetrahedra_of items)))

-- the items are of a text, and there is no reason against them
pub record IsTetra (items : List TetraItem) : Type 0 where
  pub spelled : AllByRecursion IsTextTetraItem items
  pub unrefused : refusal items ≡ None
