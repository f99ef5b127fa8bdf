-- Laws of directions and of faces, for every diagram in which each label stands twice.
--
--     WalkDirections        the walks by which signs are told are a direction
--     OneDirection          a direction that agrees with the walks at the start of each component is that of the walks
--     ReversedDirection     a direction with a component reversed is one
--     SignsByDirection      under any direction writhes are the same, and other sums of signs are up to the orientations
--     FacesTold             faces are told by their least places
use Rattle.std.specs.Prelude.{◌≡◌, ◌↔◌, ◌⊎◌, ℕ, ◌<◌, ◌≤◌, Bool, true, List, length, slice_index, Some, ◌*ℤ◌}
use Rattle.graph_parts.specs.Walks.{Joined}
use Rattle.pd_reader.specs.declared.item.Item.{Item}
use Rattle.pd_reader.specs.Diagrams.{IsDiagram}
use Rattle.planar_check.specs.Places.{crossings_of, place_labels, slots_after, first_place, other_place, other_places}
use Rattle.planar_check.specs.Planar.{face_edges, face_of}
use Rattle.planar_check.specs.Components.{least_labels}
use Rattle.planar_check.specs.Signs.{enters, sign_sum, writhe}
use Rattle.planar_check.specs.Directions.{IsDirection, agrees, orientation, reversed_on, sign_sum_by}

abbrev pub WalkDirections : Type 0
WalkDirections = (items : List Item) → IsDiagram items → IsDirection (crossings_of items) (enters items)

abbrev pub OneDirection : Type 0
OneDirection =
    (items : List Item) (into : ℕ → Bool) → IsDiagram items → IsDirection (crossings_of items) into →
    ((c : ℕ) → 1 ≤ c → c ≤ length (least_labels items) → agrees items into c ≡ true) →
    (p : ℕ) → p < length (place_labels items) → into p ≡ enters items p

abbrev pub ReversedDirection : Type 0
ReversedDirection =
    (items : List Item) (into : ℕ → Bool) (c : ℕ) → IsDiagram items → IsDirection (crossings_of items) into →
    IsDirection (crossings_of items) (reversed_on items into c)

-- the sums of signs under the direction
pub record AreSignsBy (items : List Item) (into : ℕ → Bool) : Type 0 where
  pub between : (i j : ℕ) → sign_sum_by items into i j ≡ orientation items into i *ℤ (orientation items into j *ℤ sign_sum items i j)
  pub writhes : (i : ℕ) → sign_sum_by items into i i ≡ writhe items i

abbrev pub SignsByDirection : Type 0
SignsByDirection = (items : List Item) (into : ℕ → Bool) → IsDiagram items → IsDirection (crossings_of items) into → AreSignsBy items into

-- the face of p has a place of the label
pub record HasPlaceOf (items : List Item) (p label : ℕ) : Type 0 where
  pub place : ℕ
  pub within : place < length (place_labels items)
  pub stands : slice_index (place_labels items) place ≡ label
  pub faces : face_of (crossings_of items) place ≡ face_of (crossings_of items) p

-- what the least places of faces tell
pub record AreFacesTold (items : List Item) : Type 0 where
  pub least : (p : ℕ) → p < length (place_labels items) → face_of (crossings_of items) p ≤ p
  -- two places lie in one face exactly where the rule leads from one to the other
  pub joined : (p q : ℕ) → p < length (place_labels items) → q < length (place_labels items) →
      (face_of (crossings_of items) p ≡ face_of (crossings_of items) q) ↔ Joined (face_edges (slots_after 0 (crossings_of items)) (other_places (place_labels items))) p q
  -- the face of p has a place of a label exactly where one of the label's two places lies in it
  pub labels : (p label first : ℕ) → first_place (place_labels items) label ≡ Some first →
      HasPlaceOf items p label
      ↔ ((face_of (crossings_of items) first ≡ face_of (crossings_of items) p)
      ⊎ (face_of (crossings_of items) (other_place (place_labels items) first) ≡ face_of (crossings_of items) p))

abbrev pub FacesTold : Type 0
FacesTold = (items : List Item) → IsDiagram items → AreFacesTold items
