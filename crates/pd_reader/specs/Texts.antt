-- The texts of diagrams and nets: PD[item,..,item] with items X[n,n,n,n] and Loop[n], which are
-- KnotTheory's, and Net[item,..,item] with Y[n,n,n] too, which is this project's own.
--
--     IsPdText bytes items          the bytes are a text of these items
--     IsNetText bytes items         the same for a net
--     written items                 the canonical spelling of a diagram
--
-- "PD[Loop[1]]" is written (Loop 1 ∷ []), and " PD [ Loop[1] ]" is another text of these items.
use Rattle.std.specs.Prelude.{◌≡◌, ℕ, List, [], ◌∷◌, length, codes}
use Rattle.std.specs.List.{AllByRecursion, concat}
use Rattle.pd_reader.specs.declared.item.Item.{Item}
use Rattle.pd_reader.specs.declared.item.Item.TheVariants as items
use Rattle.pd_reader.specs.declared.item.NetItem.{NetItem}
use Rattle.pd_reader.specs.declared.item.NetItem.TheVariants as net_items
use Rattle.text_shapes.specs.Tokens.{IsNumber, number_tokens}
use Rattle.text_shapes.specs.Shapes.{IsText, call, listed}

-- the number is one of a text, whatever the slot
abbrev pub IsOfKind : ℕ → ℕ → Type 0
IsOfKind slot n = IsNumber n

-- so many numbers
pub record AreNumbers (count : ℕ) (ns : List ℕ) : Type 0 where
  pub count_is : length ns ≡ count
  pub are_numbers : AllByRecursion IsNumber ns

-- the tokens of an item of a diagram
abbrev pub item_tokens : Item → List (List ℕ)
item_tokens (items.X slots) = call number_tokens (codes "X") slots
item_tokens (items.Loop label) = call number_tokens (codes "Loop") (label ∷ [])

abbrev pub IsTextItem : Item → Type 0
IsTextItem (items.X slots) = AreNumbers 4 slots
IsTextItem (items.Loop label) = AreNumbers 1 (label ∷ [])

-- the tokens of an item of a net
abbrev pub net_item_tokens : NetItem → List (List ℕ)
net_item_tokens (net_items.X slots) = call number_tokens (codes "X") slots
net_item_tokens (net_items.Y edges) = call number_tokens (codes "Y") edges
net_item_tokens (net_items.Loop label) = call number_tokens (codes "Loop") (label ∷ [])

abbrev pub IsTextNetItem : NetItem → Type 0
IsTextNetItem (net_items.X slots) = AreNumbers 4 slots
IsTextNetItem (net_items.Y edges) = AreNumbers 3 edges
IsTextNetItem (net_items.Loop label) = AreNumbers 1 (label ∷ [])

-- PD[item,..,item] and Net[item,..,item]
abbrev pub pd_tokens : List Item → List (List ℕ)
pd_tokens = listed item_tokens (codes "PD")

abbrev pub net_tokens : List NetItem → List (List ℕ)
net_tokens = listed net_item_tokens (codes "Net")

-- the bytes are a text of the items
abbrev pub IsPdText : List ℕ → List Item → Type 0
IsPdText = IsText (AllByRecursion IsTextItem) pd_tokens

abbrev pub IsNetText : List ℕ → List NetItem → Type 0
IsNetText = IsText (AllByRecursion IsTextNetItem) net_tokens

-- the canonical spelling of a diagram: its tokens with nothing between them
abbrev pub written : List Item → List ℕ
written items = concat (pd_tokens items)
