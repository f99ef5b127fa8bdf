-- Laws over the definitions alone.
use Rattle.std.specs.Prelude.{◌≡◌, ℕ, List, None, Result}
use Rattle.std.specs.List.{AllByRecursion}
use Rattle.pd_reader.specs.declared.item.Item.{Item}
use Rattle.pd_reader.specs.declared.item.NetItem.{NetItem}
use Rattle.text_shapes.specs.Tokens.{IsNumber}
use Rattle.pd_reader.specs.Items.{item_labels, net_item_labels}
use Rattle.pd_reader.specs.Diagrams.{labels, refusal, IsDiagram, IsNet}
use Rattle.pd_reader.specs.declared.fault.TextFault.{TextFault}
use Rattle.pd_reader.specs.Refusals.{IsPdReading, IsNetReading}
use Rattle.pd_reader.specs.Texts.{IsPdText, IsNetText, written}

-- there is no reason against the items of a diagram, and none against those of a net
abbrev pub DiagramsAreUnrefused : Type 0
DiagramsAreUnrefused = ((items : List Item) → IsDiagram items → refusal item_labels items ≡ None) × ((items : List NetItem) → IsNet items → refusal net_item_labels items ≡ None)

-- where each label is a number of texts, the canonical spelling of a diagram is a text of it
abbrev pub WrittenIsRead : Type 0
WrittenIsRead = (items : List Item) → IsDiagram items → AllByRecursion IsNumber (labels item_labels items) → IsPdText (written items) items

-- bytes are a text of at most one list of items
abbrev pub TextsAreUnique : Type 0
TextsAreUnique = ((bytes : List ℕ) (xs ys : List Item) → IsPdText bytes xs → IsPdText bytes ys → xs ≡ ys) × ((bytes : List ℕ) (xs ys : List NetItem) → IsNetText bytes xs → IsNetText bytes ys → xs ≡ ys)

-- all bytes have a reading
abbrev pub ReadingsExist : Type 0
ReadingsExist = ((bytes : List ℕ) → (reading : Result (List Item) TextFault) × IsPdReading bytes reading) × ((bytes : List ℕ) → (reading : Result (List NetItem) TextFault) × IsNetReading bytes reading)

-- and no two
abbrev pub ReadingsAreUnique : Type 0
ReadingsAreUnique = ((bytes : List ℕ) (x y : Result (List Item) TextFault) → IsPdReading bytes x → IsPdReading bytes y → x ≡ y) × ((bytes : List ℕ) (x y : Result (List NetItem) TextFault) → IsNetReading bytes x → IsNetReading bytes y → x ≡ y)
