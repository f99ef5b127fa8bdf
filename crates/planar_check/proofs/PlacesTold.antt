-- What the tables of a planar diagram tell of a place, through the diagram's view: the entry of a place is what the definition
-- says of the diagram, and a place itself, since each table has an entry for each place, which is one of them.
use Rattle.std.proofs.Common.{◌≡◌, ℕ, ◌<◌, ◌^◌, List, length, get_or, subst, ap, ◌∙◌, arith}
use Rattle.pd_reader.specs.declared.item.Item.{Item}
use Rattle.pd_reader.specs.Diagrams.{IsDiagram}
use Rattle.planar_check.specs.declared.placed.Places.{Places}
use Rattle.planar_check.specs.Places.{crossings_of, place_labels, other_place}
use Rattle.planar_check.specs.Planar.{face_of}
use Rattle.planar_check.specs.Tables.{ArePlaces}
use Rattle.planar_check.proofs.Crossings.{few_places}
use Rattle.planar_check.proofs.PlaceTables.{other_within, face_within, others_all, faces_all, other_at, face_at}

-- x is what is said of the diagram's items, and a place
pub record IsPlaceTold (diagram items : List Item) (said : List Item → ℕ) (x : ℕ) : Type 0 where
  pub told : x ≡ said items
  pub in_range : x < length (place_labels items)
  pub small : IsDiagram diagram → x < 2 ^ 32

module _ {diagram items : List Item} (view : diagram ≡ items) (place : ℕ) (inside : place < length (place_labels items)) where
  same_length : length (place_labels diagram) ≡ length (place_labels items)
  same_length = ap (λ (xs : List Item). length (place_labels xs)) view

  -- A PLACE OF THE VIEW IS ONE OF THE DIAGRAM
  pub place_within : place < length (place_labels diagram)
  place_within = omega (arith, same_length, inside)

  told_from : (said : List Item → ℕ) (x : ℕ) → x ≡ said diagram → said diagram < length (place_labels diagram) → IsPlaceTold diagram items said x
  told_from said x is below = record {
    told = subst (λ (xs : List Item). x ≡ said xs) view is;
    in_range = omega (arith, same_length, is, below);
    small = λ d. let few = few_places diagram d in omega (arith, is, below, few);
  }

  module _ (places : Places) (are : ArePlaces (crossings_of diagram) places) where
    pub others_there : place < length places.others.items
    others_there = let whole = others_all (crossings_of diagram) places are in omega (arith, whole, place_within)

    pub faces_there : place < length places.faces.items
    faces_there = let whole = faces_all (crossings_of diagram) places are in omega (arith, whole, place_within)

    -- THE OTHER PLACE OF ITS LABEL
    pub other_told : (x : ℕ) → x ≡ get_or places.others.items place x → IsPlaceTold diagram items (λ xs. other_place (place_labels xs) place) x
    other_told x read =
        told_from (λ xs. other_place (place_labels xs) place) x (read ∙ other_at (crossings_of diagram) places are place x place_within) (other_within (crossings_of diagram) place place_within)

    -- ITS FACE
    pub face_told : (x : ℕ) → x ≡ get_or places.faces.items place x → IsPlaceTold diagram items (λ xs. face_of (crossings_of xs) place) x
    face_told x read =
        told_from (λ xs. face_of (crossings_of xs) place) x (read ∙ face_at (crossings_of diagram) places are place x place_within) (face_within (crossings_of diagram) place place_within)
