-- A slide as the code has it: the labels of the copy count from `first` on, in the order of the component's labels.
use Rattle.std.specs.Prelude.{ℕ, suc, ◌+◌, ◌==◌, List, [], ◌∷◌}
use Rattle.pd_reader.specs.declared.item.Item.{Item}
use Rattle.pd_reader.specs.declared.item.Item.TheVariants as items
use Rattle.std.specs.List.{position_or_len}
use Rattle.slide_strands.specs.Doubling.{Slide}
use Rattle.slide_band.specs.declared.doubler.Doubling.{Doubling}

abbrev pub copied_label : List ℕ → ℕ → ℕ → ℕ
copied_label names first x = first + position_or_len (λ name. name == x) names

abbrev pub slide_with : Doubling → List ℕ → ℕ → Slide
slide_with doubling names first = record {
  over = doubling.over;
  onto = doubling.onto;
  side = doubling.side;
  along = doubling.along;
  copied = copied_label names first;
}

-- how many of the items are crossings
abbrev pub count_crossings : List Item → ℕ
count_crossings [] = 0
count_crossings (items.X slots ∷ rest) = suc (count_crossings rest)
count_crossings (items.Loop label ∷ rest) = count_crossings rest
