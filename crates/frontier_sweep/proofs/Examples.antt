-- What comes of sweeps, computed.
use Rattle.std.proofs.Common.{◌≡◌, ℕ, [], ◌∷◌, Ok, Err, refl}
use Rattle.std.specs.List.{range_with_len}
use Rattle.graph_parts.specs.Parts.{part}
use Rattle.state_sums.specs.Networks.{Node, Network}
use Rattle.frontier_laws.specs.Orders.{listed_of, greedy_of, given_of}
use Rattle.frontier_sweep.specs.SweepResults.{sweep, sweep_of}
use Rattle.frontier_sweep.specs.declared.fault.SweepFault.TheVariants.{Wide}

-- a crossing on four names
abbrev crossing : ℕ → ℕ → ℕ → ℕ → ℕ → Node
crossing group a b c d = record {
  group = group;
  ends = a ∷ b ∷ c ∷ d ∷ [];
  terms = record { weight = 2; partner = 1 ∷ 0 ∷ 3 ∷ 2 ∷ [] } ∷ record { weight = 21; partner = 3 ∷ 2 ∷ 1 ∷ 0 ∷ [] } ∷ [];
}

abbrev trefoil : Network
trefoil = record { nodes = crossing 1 1 4 2 5 ∷ crossing 2 3 6 4 1 ∷ crossing 3 5 2 6 3 ∷ []; free_loops = 0 }

-- the trefoil takes 2 + 4 + 4 turns in each order
listed : sweep listed_of trefoil ≡ Ok 10
unfolding part
listed = refl

greedy : sweep greedy_of trefoil ≡ Ok 10
unfolding part
greedy = refl

given : sweep (given_of (3 ∷ 1 ∷ 2 ∷ [])) trefoil ≡ Ok 10
unfolding part
given = refl

-- behind the first of two nodes on the same 26 names all of these are open
abbrev broad : Node
broad = record { group = 1; ends = range_with_len 1 26; terms = [] }

wide : sweep_of (broad ∷ broad ∷ []) ≡ Err (Wide 1 26)
unfolding part
wide = refl

-- nothing takes no turn
none : sweep_of [] ≡ Ok 0
unfolding part
none = refl
