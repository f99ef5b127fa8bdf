-- A diagram's items as directed pieces, and back. Each strand of a crossing is walked as its component is: the least label of a
-- component from its second place to its first.
--
--     directed items             the pieces of the items
--     items_of pieces            the items of the pieces
use Rattle.std.specs.Prelude.{ℕ, ◌+◌, ◌*◌, List, [], ◌∷◌, map, slice_index}
use Rattle.pd_reader.specs.declared.item.Item.{Item}
use Rattle.planar_check.specs.Components.{number_of}
use Rattle.planar_check.specs.Signs.{enters}
use Rattle.slide_strands.specs.declared.strand.Strand.{Strand}
use Rattle.slide_strands.specs.declared.strand.Piece.{Piece}
use Rattle.slide_strands.specs.declared.strand.Piece.TheVariants.{Crossed, Free}
use Rattle.slide_strands.specs.Strands.{slots}
use Rattle.pd_reader.specs.declared.item.Item.TheVariants as items

-- the strands of the crossing with the number k, from 0, and these slots
abbrev pub under_strand : List Item → ℕ → List ℕ → Strand
under_strand all k at = record {
  from = slice_index at 0;
  to = slice_index at 2;
  ahead = enters all (4 * k);
  component = number_of all (slice_index at 0);
}

abbrev pub over_strand : List Item → ℕ → List ℕ → Strand
over_strand all k at = record {
  from = slice_index at 3;
  to = slice_index at 1;
  ahead = enters all (4 * k + 3);
  component = number_of all (slice_index at 1);
}

-- the pieces of the items, the first of whose crossings has the number k
abbrev pub directed_from : List Item → ℕ → List Item → List Piece
directed_from all k [] = []
directed_from all k (items.X at ∷ rest) = Crossed (under_strand all k at) (over_strand all k at) ∷ directed_from all (k + 1) rest
directed_from all k (items.Loop label ∷ rest) = Free label ∷ directed_from all k rest

unfoldable pub directed : List Item → List Piece
directed items = directed_from items 0 items

-- the item of a piece
abbrev pub item_of : Piece → Item
item_of (Crossed u o) = items.X (slots u o)
item_of (Free label) = items.Loop label

abbrev pub items_of : List Piece → List Item
items_of pieces = map item_of pieces
