-- How far a cable has come.
--
--     standing_of progress             where the next item stands
--     loops_of_item strands item       the free loops that an item adds
use Rattle.std.specs.Prelude.{ℕ, [], ◌∷◌, reverse}
use Rattle.pd_reader.specs.declared.item.NetItem.{NetItem}
use Rattle.cables.specs.Strands.{Strands}
use Rattle.cables.specs.Cables.{Standing, loop_count}
use Rattle.skein_network.specs.declared.progress.Progress.{Progress}

abbrev pub standing_of : Progress → Standing
standing_of progress = record { seen = reverse progress.seen.items; index = progress.index; group = progress.group; loop_group = progress.loop_group }

abbrev pub loops_of_item : Strands → NetItem → ℕ
loops_of_item strands item = loop_count strands (item ∷ [])
