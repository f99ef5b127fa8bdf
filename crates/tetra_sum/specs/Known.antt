-- What the known values of a net keep.
--
--     IsStore p store      each known value is the net's at its colours, and a residue
use Rattle.std.specs.Prelude.{◌≡◌, ◌<◌, Ok}
use Rattle.std.specs.List.{All}
use Rattle.root_quantum.specs.Parameters.{Parameters}
use Rattle.tetra_sum.specs.declared.known.Known.{Known}
use Rattle.tetra_sum.specs.declared.known.Store.{Store}
use Rattle.tetra_sum.specs.Nets.{net_value}

abbrev pub IsStore : Parameters → Store → Type 0
IsStore p store = All (λ (there : Known). (net_value p store.net there.colours.items ≡ Ok there.value) × (there.value < p.modulus)) store.known.items
