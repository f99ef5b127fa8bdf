-- An item is one of a few calls: of X or Loop in a diagram, of X, Y or Loop in a net.
use Rattle.std.proofs.Common.{inl, inr, ◌≡◌, ℕ, cond, codes, List, [], ◌∷◌, length, get_or, refl, ap, arith}
use Rattle.text_shapes.specs.Tokens.{number_tokens}
use Rattle.text_shapes.specs.Shapes.{AreOf, call}
use Rattle.text_shapes.specs.Reach.{is_word_byte, IsWord}
use Rattle.text_shapes.proofs.Choice.{AreCalls, Makes, OneOf, same_bytes}
use Rattle.pd_reader.specs.declared.item.Item.{Item}
use Rattle.pd_reader.specs.declared.item.Item.TheVariants as items
use Rattle.pd_reader.specs.declared.item.NetItem.{NetItem}
use Rattle.pd_reader.specs.declared.item.NetItem.TheVariants as net_items
use Rattle.pd_reader.specs.Texts.{IsOfKind, AreNumbers, IsTextItem, item_tokens, IsTextNetItem, net_item_tokens}

-- numbers of the kinds of the slots are as many numbers
pub numbers_of_kinds : (slots ns : List ℕ) → AreOf IsOfKind slots ns → AreNumbers (length slots) ns
numbers_of_kinds [] [] h = record { count_is = refl; are_numbers = tt }
numbers_of_kinds [] (n ∷ ns) h = absurd h
numbers_of_kinds (k ∷ slots) [] h = absurd h
numbers_of_kinds (k ∷ slots) (n ∷ ns) h =
    let rest = numbers_of_kinds slots ns h.1 in
    record { count_is = omega (arith, rest.count_is); are_numbers = (h.0, rest.are_numbers) }

pub kinds_of_numbers : (slots ns : List ℕ) → AreNumbers (length slots) ns → AreOf IsOfKind slots ns
kinds_of_numbers [] [] h = tt
kinds_of_numbers [] (n ∷ ns) h = absurd (omega (arith, h.count_is))
kinds_of_numbers (k ∷ slots) [] h = absurd (omega (arith, h.count_is))
kinds_of_numbers (k ∷ slots) (n ∷ ns) h = (h.are_numbers.0, kinds_of_numbers slots ns (record { count_is = omega (arith, h.count_is); are_numbers = h.are_numbers.1 }))

pub x_word : IsWord (codes "X")
unfolding is_word_byte
x_word = (omega arith, (refl, tt))

pub y_word : IsWord (codes "Y")
unfolding is_word_byte
y_word = (omega arith, (refl, tt))

pub loop_word : IsWord (codes "Loop")
unfolding is_word_byte
loop_word = (omega arith, (refl, (refl, (refl, (refl, tt)))))

-- the one element of a list
listed_one : (ns : List ℕ) → AreNumbers 1 ns → get_or ns 0 0 ∷ [] ≡ ns
listed_one [] h = absurd (omega (arith, h.count_is))
listed_one (n ∷ []) h = refl
listed_one (n ∷ m ∷ ns) h = absurd (omega (arith, h.count_is))

-- ---- of a diagram

abbrev pub head : Item → List ℕ
head (items.X slots) = codes "X"
head (items.Loop label) = codes "Loop"

abbrev pub numbers : Item → List ℕ
numbers (items.X slots) = slots
numbers (items.Loop label) = label ∷ []

abbrev pub slots_of : List ℕ → List ℕ
slots_of h = cond (same_bytes h (codes "X")) (0 ∷ 0 ∷ 0 ∷ 0 ∷ []) (0 ∷ [])

abbrev pub item_of : List ℕ → List ℕ → Item
item_of h ns = cond (same_bytes h (codes "X")) (items.X ns) (items.Loop (get_or ns 0 0))

pub item_calls : AreCalls number_tokens IsOfKind IsTextItem item_tokens slots_of item_of head numbers
item_calls = record { word = word; tokens_are = tokens_are; of_kinds = of_kinds; back_is = back_is }
  where
    word : (v : Item) → IsWord (head v)
    word (items.X slots) = x_word
    word (items.Loop label) = loop_word

    tokens_are : (v : Item) → item_tokens v ≡ call number_tokens (head v) (numbers v)
    tokens_are (items.X slots) = refl
    tokens_are (items.Loop label) = refl

    of_kinds : (v : Item) → IsTextItem v → AreOf IsOfKind (slots_of (head v)) (numbers v)
    of_kinds (items.X slots) h = kinds_of_numbers (0 ∷ 0 ∷ 0 ∷ 0 ∷ []) slots h
    of_kinds (items.Loop label) h = kinds_of_numbers (0 ∷ []) (label ∷ []) h

    back_is : (v : Item) → item_of (head v) (numbers v) ≡ v
    back_is (items.X slots) = refl
    back_is (items.Loop label) = refl

pub makes_x : Makes number_tokens IsOfKind IsTextItem item_tokens slots_of item_of head (codes "X")
makes_x = record {
  head_is = λ ns h. refl;
  fits_back = λ ns h. numbers_of_kinds (0 ∷ 0 ∷ 0 ∷ 0 ∷ []) ns h;
  tokens_back = λ ns h. refl;
}

loop_fits : (ns : List ℕ) → AreOf IsOfKind (0 ∷ []) ns → AreNumbers 1 (get_or ns 0 0 ∷ [])
loop_fits ns h = let k = numbers_of_kinds (0 ∷ []) ns h in rw (listed_one ns k) k

loop_tokens : (ns : List ℕ) → AreOf IsOfKind (0 ∷ []) ns → call number_tokens (codes "Loop") (get_or ns 0 0 ∷ []) ≡ call number_tokens (codes "Loop") ns
loop_tokens ns h = ap (call number_tokens (codes "Loop")) (listed_one ns (numbers_of_kinds (0 ∷ []) ns h))

pub makes_loop : Makes number_tokens IsOfKind IsTextItem item_tokens slots_of item_of head (codes "Loop")
makes_loop = record { head_is = λ ns h. refl; fits_back = loop_fits; tokens_back = loop_tokens }

abbrev pub heads : List (List ℕ)
heads = codes "Loop" ∷ codes "X" ∷ []

pub all_heads : (v : Item) → OneOf heads (head v)
all_heads (items.Loop label) = inl refl
all_heads (items.X slots) = inr (inl refl)

-- ---- of a net

abbrev pub net_head : NetItem → List ℕ
net_head (net_items.X slots) = codes "X"
net_head (net_items.Y edges) = codes "Y"
net_head (net_items.Loop label) = codes "Loop"

abbrev pub net_numbers : NetItem → List ℕ
net_numbers (net_items.X slots) = slots
net_numbers (net_items.Y edges) = edges
net_numbers (net_items.Loop label) = label ∷ []

abbrev pub net_slots_of : List ℕ → List ℕ
net_slots_of h = cond (same_bytes h (codes "X")) (0 ∷ 0 ∷ 0 ∷ 0 ∷ []) (cond (same_bytes h (codes "Y")) (0 ∷ 0 ∷ 0 ∷ []) (0 ∷ []))

abbrev pub net_item_of : List ℕ → List ℕ → NetItem
net_item_of h ns = cond (same_bytes h (codes "X")) (net_items.X ns) (cond (same_bytes h (codes "Y")) (net_items.Y ns) (net_items.Loop (get_or ns 0 0)))

pub net_item_calls : AreCalls number_tokens IsOfKind IsTextNetItem net_item_tokens net_slots_of net_item_of net_head net_numbers
net_item_calls = record { word = word; tokens_are = tokens_are; of_kinds = of_kinds; back_is = back_is }
  where
    word : (v : NetItem) → IsWord (net_head v)
    word (net_items.X slots) = x_word
    word (net_items.Y edges) = y_word
    word (net_items.Loop label) = loop_word

    tokens_are : (v : NetItem) → net_item_tokens v ≡ call number_tokens (net_head v) (net_numbers v)
    tokens_are (net_items.X slots) = refl
    tokens_are (net_items.Y edges) = refl
    tokens_are (net_items.Loop label) = refl

    of_kinds : (v : NetItem) → IsTextNetItem v → AreOf IsOfKind (net_slots_of (net_head v)) (net_numbers v)
    of_kinds (net_items.X slots) h = kinds_of_numbers (0 ∷ 0 ∷ 0 ∷ 0 ∷ []) slots h
    of_kinds (net_items.Y edges) h = kinds_of_numbers (0 ∷ 0 ∷ 0 ∷ []) edges h
    of_kinds (net_items.Loop label) h = kinds_of_numbers (0 ∷ []) (label ∷ []) h

    back_is : (v : NetItem) → net_item_of (net_head v) (net_numbers v) ≡ v
    back_is (net_items.X slots) = refl
    back_is (net_items.Y edges) = refl
    back_is (net_items.Loop label) = refl

pub net_makes_x : Makes number_tokens IsOfKind IsTextNetItem net_item_tokens net_slots_of net_item_of net_head (codes "X")
net_makes_x = record {
  head_is = λ ns h. refl;
  fits_back = λ ns h. numbers_of_kinds (0 ∷ 0 ∷ 0 ∷ 0 ∷ []) ns h;
  tokens_back = λ ns h. refl;
}

pub net_makes_y : Makes number_tokens IsOfKind IsTextNetItem net_item_tokens net_slots_of net_item_of net_head (codes "Y")
net_makes_y = record {
  head_is = λ ns h. refl;
  fits_back = λ ns h. numbers_of_kinds (0 ∷ 0 ∷ 0 ∷ []) ns h;
  tokens_back = λ ns h. refl;
}

pub net_makes_loop : Makes number_tokens IsOfKind IsTextNetItem net_item_tokens net_slots_of net_item_of net_head (codes "Loop")
net_makes_loop = record { head_is = λ ns h. refl; fits_back = loop_fits; tokens_back = loop_tokens }

abbrev pub net_heads : List (List ℕ)
net_heads = codes "Loop" ∷ codes "Y" ∷ codes "X" ∷ []

pub all_net_heads : (v : NetItem) → OneOf net_heads (net_head v)
all_net_heads (net_items.Loop label) = inl refl
all_net_heads (net_items.Y edges) = inr (inl refl)
all_net_heads (net_items.X slots) = inr (inr (inl refl))
