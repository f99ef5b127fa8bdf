-- Diagrams and nets as lists of items: at most 256 of them, each label from 1 to 2,000,000, and each
-- label stands twice, since an edge has two ends. What is said of items of either kind takes the
-- function that gives an item's labels.
--
--     labels labels_of items        the labels of the items, one item after the other
--     least_unpaired ls             the least label of the list that doesn't stand twice in it
--     refusal labels_of items       why the items are no diagram: more than 256, else a label
--     IsDiagram items               the items are a diagram's, and IsNet items a net's
--
-- For X[1,1,1,2] the least label that doesn't stand twice is 1, which stands three times.
use Rattle.std.specs.Prelude.{◌≡◌, ℕ, ◌≤◌, ◌==◌, not, cond, nat_lt, min, List, [], ◌∷◌, ◌++◌, length, filter, Option, Some, None, option_map, unwrap_or}
use Rattle.std.specs.List.{AllByRecursion}
use Rattle.list_lemmas.specs.Times.{times_in}
use Rattle.pd_reader.specs.declared.diagram.TheConstants.{MOST_ITEMS}
use Rattle.pd_reader.specs.declared.item.Item.{Item}
use Rattle.pd_reader.specs.declared.item.NetItem.{NetItem}
use Rattle.pd_reader.specs.declared.fault.DiagramFault.{DiagramFault}
use Rattle.pd_reader.specs.declared.fault.DiagramFault.TheVariants as faults
use Rattle.pd_reader.specs.Items.{item_labels, net_item_labels, HasItsSlots, HasItsEdges}

-- the least number of a list
abbrev pub least : List ℕ → Option ℕ
least [] = None
least (n ∷ ns) = Some (unwrap_or (option_map (min n) (least ns)) n)

-- the least label of the list that doesn't stand twice in it
abbrev pub least_unpaired : List ℕ → Option ℕ
least_unpaired ls = least (filter (λ label. not (times_in ls label == 2)) ls)

-- a label of a diagram
pub record IsLabel (label : ℕ) : Type 0 where
  pub low : 1 ≤ label
  pub high : label ≤ 2000000

module _ {I : Type 0} (labels_of : I → List ℕ) where
  -- the labels of the items
  abbrev pub labels : List I → List ℕ
  labels [] = []
  labels (item ∷ items) = labels_of item ++ labels items

  -- why the items are no diagram
  abbrev pub refusal : List I → Option DiagramFault
  refusal items =
      cond (nat_lt MOST_ITEMS (length items)) (Some (faults.TooMany MOST_ITEMS))
      (option_map (λ label. faults.Label label (times_in (labels items) label)) (least_unpaired (labels items)))

  -- at most 256 items, each of its kind's size, with labels in range, each of which stands twice
  pub record IsPaired (HasItsSize : I → Type 0) (items : List I) : Type 0 where
    pub few : length items ≤ MOST_ITEMS
    pub sizes : AllByRecursion HasItsSize items
    pub in_range : AllByRecursion IsLabel (labels items)
    pub twice : AllByRecursion (λ label. times_in (labels items) label ≡ 2) (labels items)

-- the items of a diagram
abbrev pub IsDiagram : List Item → Type 0
IsDiagram = IsPaired item_labels HasItsSlots

-- the items of a net
abbrev pub IsNet : List NetItem → Type 0
IsNet = IsPaired net_item_labels HasItsEdges
