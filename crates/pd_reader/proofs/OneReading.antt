-- Each input has exactly one reading as a diagram, and one as a net: the items are choices of calls, whose
-- numbers are readable, so their lists are.
use Rattle.std.proofs.Common.{inl, inr, ◌⊎◌, ap, ◌≡◌, ℕ, ltb, Bool, true, false, cond, codes, List, [], ◌∷◌, length, Option, Some, None, option_map, refl, arith}
use Rattle.std.specs.List.{AllByRecursion}
use Rattle.text_shapes.specs.Tokens.{is_space, number_tokens, one_is_a_number}
use Rattle.text_shapes.specs.Reach.{BeginsUnclosed}
use Rattle.text_shapes.specs.Readers.{IsReadable, TextRead}
use Rattle.text_shapes.proofs.Arguments.{HasSome}
use Rattle.text_shapes.proofs.Choosing.{choice_readable}
use Rattle.text_shapes.proofs.Listing.{list_readable}
use Rattle.text_shapes.proofs.Readings.{text_read, read_unique}
use Rattle.text_shapes.proofs.Scanning.{number_readable}
use Rattle.pd_reader.specs.declared.diagram.TheConstants.{MOST_ITEMS}
use Rattle.pd_reader.specs.declared.item.Item.{Item}
use Rattle.pd_reader.specs.declared.item.Item.TheVariants as items
use Rattle.pd_reader.specs.declared.item.NetItem.{NetItem}
use Rattle.pd_reader.specs.declared.item.NetItem.TheVariants as net_items
use Rattle.pd_reader.specs.declared.fault.DiagramFault.{DiagramFault}
use Rattle.pd_reader.specs.declared.fault.DiagramFault.TheVariants as reasons
use Rattle.pd_reader.specs.declared.fault.Place.{Place}
use Rattle.pd_reader.specs.declared.fault.Place.TheVariants as places
use Rattle.pd_reader.specs.declared.fault.TextFault.{TextFault}
use Rattle.pd_reader.specs.declared.fault.TextFault.TheVariants as faults
use Rattle.list_lemmas.specs.Times.{times_in}
use Rattle.pd_reader.specs.Diagrams.{labels, least_unpaired, refusal}
use Rattle.pd_reader.specs.Faults.{at_place, against, cause, of_items, of_place}
use Rattle.pd_reader.specs.Items.{item_labels, net_item_labels}
use Rattle.pd_reader.specs.Laws.{ReadingsAreUnique, ReadingsExist, TextsAreUnique}
use Rattle.pd_reader.specs.Texts.{IsOfKind, IsTextItem, item_tokens, pd_tokens, IsTextNetItem, net_item_tokens, net_tokens}
use Rattle.pd_reader.proofs.ItemCalls.{x_word, y_word, loop_word, head, numbers, slots_of, item_of, item_calls, makes_x, makes_loop, all_heads, net_head, net_numbers, net_slots_of, net_item_of, net_item_calls, net_makes_x, net_makes_y, net_makes_loop, all_net_heads}
use Rattle.pd_reader.proofs.Readings.{Gave, each_is_read, one_reading}
use Rattle.pd_reader.proofs.TextTokens.{pd_are_tokens, net_are_tokens}

some_number : HasSome IsOfKind
some_number = record { some = λ _. 1; some_fits = λ _. one_is_a_number }

item_readable : IsReadable IsTextItem item_tokens
item_readable =
    choice_readable number_tokens IsOfKind IsTextItem item_tokens slots_of item_of head numbers item_calls some_number (λ _. number_readable) (codes "Loop") (codes "X" ∷ [])
    (record { word = loop_word; makes = makes_loop; some = omega arith }) (record { word = x_word; makes = makes_x; some = omega arith }, tt) all_heads

item_begins : (v : Item) → IsTextItem v → BeginsUnclosed (item_tokens v)
item_begins (items.X slots) h = refl
item_begins (items.Loop label) h = refl

net_item_readable : IsReadable IsTextNetItem net_item_tokens
net_item_readable =
    choice_readable number_tokens IsOfKind IsTextNetItem net_item_tokens net_slots_of net_item_of net_head net_numbers net_item_calls some_number (λ _. number_readable) (codes "Loop") (codes "Y" ∷ codes "X" ∷ [])
    (record { word = loop_word; makes = net_makes_loop; some = omega arith })
    (record { word = y_word; makes = net_makes_y; some = omega arith }, (record { word = x_word; makes = net_makes_x; some = omega arith }, tt)) all_net_heads

net_item_begins : (v : NetItem) → IsTextNetItem v → BeginsUnclosed (net_item_tokens v)
net_item_begins (net_items.X slots) h = refl
net_item_begins (net_items.Y edges) h = refl
net_item_begins (net_items.Loop label) h = refl

pd_read : (bytes : List ℕ) → TextRead (AllByRecursion IsTextItem) pd_tokens bytes
unfolding is_space
pd_read bytes = text_read (AllByRecursion IsTextItem) pd_tokens (list_readable IsTextItem item_tokens item_begins item_readable (codes "PD") refl) bytes

net_read : (bytes : List ℕ) → TextRead (AllByRecursion IsTextNetItem) net_tokens bytes
unfolding is_space
net_read bytes = text_read (AllByRecursion IsTextNetItem) net_tokens (list_readable IsTextNetItem net_item_tokens net_item_begins net_item_readable (codes "Net") refl) bytes

-- ---- the faults

pub is_at : (place : Place) → cause (of_place place) ≡ at_place place
is_at (places.Head n) = refl
is_at (places.Number n) = refl
is_at (places.Text n) = refl

-- a reason is never want of memory
reason_kept : (many : Bool) (limit : ℕ) (label : Option ℕ) (count : ℕ → ℕ) (first : DiagramFault) → cond many (Some (reasons.TooMany limit)) (option_map (λ l. reasons.Label l (count l)) label) ≡ Some first → cause (of_items first) ≡ against first
reason_kept many limit label count (reasons.TooMany l) e = refl
reason_kept many limit label count (reasons.Label l n) e = refl
reason_kept true limit label count reasons.Memory e = absurd cc
reason_kept false limit None count reasons.Memory e = absurd cc
reason_kept false limit (Some l) count reasons.Memory e = absurd cc

module _ {I : Type 0} (labels_of : I → List ℕ) where
  pub is_against : (v : List I) (first : DiagramFault) → refusal labels_of v ≡ Some first → cause (of_items first) ≡ against first
  is_against v first e = reason_kept (ltb MOST_ITEMS (length v)) MOST_ITEMS (least_unpaired (labels labels_of v)) (λ l. times_in (labels labels_of v) l) first e

  -- what the check of the items gave
  pub gave_items : (v : List I) (fault : DiagramFault) → (fault ≡ reasons.Memory) ⊎ (refusal labels_of v ≡ Some fault) → Gave (cause (of_items fault)) (refusal labels_of v)
  gave_items v fault (inl e) = inl (ap (λ (f : DiagramFault). cause (of_items f)) e)
  gave_items v fault (inr e) = inr (fault, is_against v fault e, e)

-- THERE IS ONE
pub readings_exist_lem : ReadingsExist
readings_exist_lem = (
  λ bytes. each_is_read (AllByRecursion IsTextItem) pd_tokens (refusal item_labels) cause pd_are_tokens bytes of_place of_items is_at (is_against item_labels) (pd_read bytes),
  λ bytes. each_is_read (AllByRecursion IsTextNetItem) net_tokens (refusal net_item_labels) cause net_are_tokens bytes of_place of_items is_at (is_against net_item_labels) (net_read bytes),
)

-- AND ONE ONLY
pub texts_are_unique_lem : TextsAreUnique
texts_are_unique_lem = (
  λ bytes xs ys h k. read_unique (AllByRecursion IsTextItem) pd_tokens pd_are_tokens bytes (pd_read bytes) xs ys h k,
  λ bytes xs ys h k. read_unique (AllByRecursion IsTextNetItem) net_tokens net_are_tokens bytes (net_read bytes) xs ys h k,
)

told_apart : (f g : TextFault) → cause f ≡ cause g → f ≡ g
told_apart (faults.Head a) (faults.Head b) e = let same : a ≡ b = cc in ap faults.Head same
told_apart (faults.Number a) (faults.Number b) e = let same : a ≡ b = cc in ap faults.Number same
told_apart (faults.Text a) (faults.Text b) e = let same : a ≡ b = cc in ap faults.Text same
told_apart (faults.TooMany a) (faults.TooMany b) e = let same : a ≡ b = cc in ap faults.TooMany same
told_apart (faults.Label a m) (faults.Label b n) e = let same : a ≡ b = cc in let count : m ≡ n = cc in rw (same, count) refl
told_apart faults.Memory faults.Memory e = refl
told_apart f g e = absurd cc

-- AND ONE READING, OF TEXTS AND OTHERS
pub readings_are_unique_lem : ReadingsAreUnique
readings_are_unique_lem = (
  λ bytes x y h k. one_reading (AllByRecursion IsTextItem) pd_tokens (refusal item_labels) bytes (texts_are_unique_lem.0 bytes) cause told_apart x y h k,
  λ bytes x y h k. one_reading (AllByRecursion IsTextNetItem) net_tokens (refusal net_item_labels) bytes (texts_are_unique_lem.1 bytes) cause told_apart x y h k,
)
