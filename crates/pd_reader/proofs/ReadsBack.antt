-- Items whose labels are numbers of texts are items of texts.
use Rattle.std.proofs.Common.{ℕ, List, [], ◌∷◌, ◌++◌, refl}
use Rattle.std.specs.List.{AllByRecursion}
use Rattle.text_shapes.specs.Tokens.{IsNumber}
use Rattle.text_shapes.proofs.Spellings.{IsSpelled-concat}
use Rattle.pd_reader.specs.declared.item.Item.{Item}
use Rattle.pd_reader.specs.declared.item.Item.TheVariants as items
use Rattle.pd_reader.specs.Items.{item_labels, HasItsSlots}
use Rattle.pd_reader.specs.Diagrams.{labels}
use Rattle.pd_reader.specs.Texts.{IsTextItem, pd_tokens}
use Rattle.pd_reader.specs.Laws.{WrittenIsRead}

front_part : (xs ys : List ℕ) → AllByRecursion IsNumber (xs ++ ys) → AllByRecursion IsNumber xs
front_part [] ys h = tt
front_part (x ∷ xs) ys h = (h.0, front_part xs ys h.1)

back_part : (xs ys : List ℕ) → AllByRecursion IsNumber (xs ++ ys) → AllByRecursion IsNumber ys
back_part [] ys h = h
back_part (x ∷ xs) ys h = back_part xs ys h.1

text_item : (v : Item) → HasItsSlots v → AllByRecursion IsNumber (item_labels v) → IsTextItem v
text_item (items.X slots) size h = record { count_is = size; are_numbers = h }
text_item (items.Loop label) size h = record { count_is = refl; are_numbers = (h.0, tt) }

text_items : (vs : List Item) → AllByRecursion HasItsSlots vs → AllByRecursion IsNumber (labels item_labels vs) → AllByRecursion IsTextItem vs
text_items [] sizes h = tt
text_items (v ∷ vs) sizes h = (text_item v sizes.0 (front_part (item_labels v) (labels item_labels vs) h), text_items vs sizes.1 (back_part (item_labels v) (labels item_labels vs) h))

-- THE CANONICAL SPELLING IS A TEXT
pub written_is_read_lem : WrittenIsRead
written_is_read_lem vs d h = (text_items vs d.sizes h, IsSpelled-concat (pd_tokens vs))
