-- Colourings of a text's labels whose nets have values, apart from limits and inverses of thetas.
--
--     HasProjectors p items             where there is a label, none of Delta_1 to Delta_(r-3) shares a factor with the modulus
--     IsReady table items colours       each label has a colour, at most r-2 and the table's top, all faces allow them, and their
--                                       projectors exist
use Rattle.std.specs.Prelude.{◌≡◌, ℕ, ◌-◌, ◌<◌, ◌≤◌, true, List, length}
use Rattle.std.specs.List.{All}
use Rattle.root_quantum.specs.Parameters.{Parameters}
use Rattle.wenzl_table.specs.Inverses.{AreCoprime}
use Rattle.wenzl_table.specs.Tables.{Table}
use Rattle.tetra_reader.specs.Tetras.{faces_of}
use Rattle.tetra_reader.specs.declared.item.TetraItem.{TetraItem}
use Rattle.tetra_sum.specs.Colourings.{are_allowed}
use Rattle.tetra_sum.specs.Sums.{text_labels}

abbrev pub HasProjectors : Parameters → List TetraItem → Type 0
HasProjectors p items = 0 < length (text_labels items) → AreCoprime p (p.level - 2)

pub record IsReady (table : Table) (items : List TetraItem) (colours : List ℕ) : Type 0 where
  pub top : table.params.level - 2 ≤ table.top
  pub projectors : HasProjectors table.params items
  pub count : length colours ≡ length (text_labels items)
  pub few : All (λ colour. colour ≤ table.params.level - 2) colours
  pub allowed : are_allowed table.params.level (text_labels items) colours (faces_of items) ≡ true
