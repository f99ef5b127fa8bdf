-- Each text of a diagram or a net is of tokens, and its labels are labels of a diagram.
use Rattle.std.proofs.Common.{ℕ, codes, List, [], ◌∷◌, ◌++◌, decimal, refl, arith}
use Rattle.std.specs.List.{AllByRecursion}
use Rattle.text_shapes.specs.Tokens.{is_space, IsNumber, number_tokens}
use Rattle.text_shapes.specs.Reach.{AreTokens}
use Rattle.text_shapes.proofs.Words.{IsWord-token}
use Rattle.text_shapes.proofs.Numbers.{decimal-word}
use Rattle.text_shapes.proofs.TokenLists.{listed-tokens, arguments-tokens}
use Rattle.pd_reader.specs.declared.item.Item.{Item}
use Rattle.pd_reader.specs.declared.item.Item.TheVariants as items
use Rattle.pd_reader.specs.declared.item.NetItem.{NetItem}
use Rattle.pd_reader.specs.declared.item.NetItem.TheVariants as net_items
use Rattle.pd_reader.specs.Items.{item_labels, net_item_labels}
use Rattle.pd_reader.specs.Diagrams.{labels, IsLabel}
use Rattle.pd_reader.specs.Texts.{IsTextItem, item_tokens, pd_tokens, IsTextNetItem, net_item_tokens, net_tokens}

pub numbers_are_tokens : (n : ℕ) → IsNumber n → AreTokens (number_tokens n)
numbers_are_tokens n h = (IsWord-token (decimal n) (decimal-word n h), tt)

item_are_tokens : (v : Item) → IsTextItem v → AreTokens (item_tokens v)
unfolding is_space
item_are_tokens (items.X slots) h = (refl, arguments-tokens number_tokens IsNumber numbers_are_tokens (codes "[") slots refl h.are_numbers)
item_are_tokens (items.Loop label) h = (refl, arguments-tokens number_tokens IsNumber numbers_are_tokens (codes "[") (label ∷ []) refl h.are_numbers)

pub pd_are_tokens : (vs : List Item) → AllByRecursion IsTextItem vs → AreTokens (pd_tokens vs)
unfolding is_space
pd_are_tokens vs h = listed-tokens IsTextItem item_tokens item_are_tokens (codes "PD") refl vs h

net_item_are_tokens : (v : NetItem) → IsTextNetItem v → AreTokens (net_item_tokens v)
unfolding is_space
net_item_are_tokens (net_items.X slots) h = (refl, arguments-tokens number_tokens IsNumber numbers_are_tokens (codes "[") slots refl h.are_numbers)
net_item_are_tokens (net_items.Y edges) h = (refl, arguments-tokens number_tokens IsNumber numbers_are_tokens (codes "[") edges refl h.are_numbers)
net_item_are_tokens (net_items.Loop label) h = (refl, arguments-tokens number_tokens IsNumber numbers_are_tokens (codes "[") (label ∷ []) refl h.are_numbers)

pub net_are_tokens : (vs : List NetItem) → AllByRecursion IsTextNetItem vs → AreTokens (net_tokens vs)
unfolding is_space
net_are_tokens vs h = listed-tokens IsTextNetItem net_item_tokens net_item_are_tokens (codes "Net") refl vs h

-- ---- labels

label_of : (n : ℕ) → IsNumber n → IsLabel n
label_of n h = record { low = h.low; high = omega (arith, h.high) }

all_labels : (ns rest : List ℕ) → AllByRecursion IsNumber ns → AllByRecursion IsLabel rest → AllByRecursion IsLabel (ns ++ rest)
all_labels [] rest h k = k
all_labels (n ∷ ns) rest h k = (label_of n h.0, all_labels ns rest h.1 k)

pub pd_labels : (vs : List Item) → AllByRecursion IsTextItem vs → AllByRecursion IsLabel (labels item_labels vs)
pd_labels [] h = tt
pd_labels (items.X slots ∷ vs) h = all_labels slots (labels item_labels vs) h.0.are_numbers (pd_labels vs h.1)
pd_labels (items.Loop label ∷ vs) h = (label_of label h.0.are_numbers.0, (label_of label h.0.are_numbers.0, pd_labels vs h.1))

pub net_labels : (vs : List NetItem) → AllByRecursion IsTextNetItem vs → AllByRecursion IsLabel (labels net_item_labels vs)
net_labels [] h = tt
net_labels (net_items.X slots ∷ vs) h = all_labels slots (labels net_item_labels vs) h.0.are_numbers (net_labels vs h.1)
net_labels (net_items.Y edges ∷ vs) h = all_labels edges (labels net_item_labels vs) h.0.are_numbers (net_labels vs h.1)
net_labels (net_items.Loop label ∷ vs) h = (label_of label h.0.are_numbers.0, (label_of label h.0.are_numbers.0, net_labels vs h.1))
