-- The laws of state sums. They carry everything above that cuts, glues, renames or rewrites networks.
use Rattle.std.specs.Prelude.{◌≡◌, ℕ, ◌+◌, ◌*◌, ◌%◌, ◌^◌, ◌≤◌, ◌==◌, true, false, List, [], ◌++◌, map, IsPermutation}
use Rattle.std.specs.List.{All, AllPass}
use Rattle.std.specs.Set.{is_member}
use Rattle.graph_parts.specs.Renaming.{IsOneToOne}
use Rattle.state_sums.specs.LocalSums.{pattern_sum, rest_sum, SameEverywhere, IsCut, open_of, rename}
use Rattle.state_sums.specs.Networks.{Node, Network, IsNode, names_of}
use Rattle.state_sums.specs.StateSums.{value}
use Rattle.list_lemmas.specs.Times.{times_in}

-- A network with no node has one state, the empty one.
abbrev pub NoNodesLaw : Type 0
NoNodesLaw = (m delta free : ℕ) → value m delta record { nodes = []; free_loops = free } ≡ delta ^ free % m

-- The order of the nodes does not matter.
abbrev pub AnyOrderLaw : Type 0
AnyOrderLaw =
    (m delta free : ℕ) (nodes permuted : List Node) → All IsNode nodes → IsPermutation nodes permuted →
    value m delta record { nodes = permuted; free_loops = free } ≡ value m delta record { nodes = nodes; free_loops = free }

-- Names do not matter: other names, one to one, keep the value.
abbrev pub AnyNamesLaw : Type 0
AnyNamesLaw =
    (m delta free : ℕ) (new_name : ℕ → ℕ) (nodes : List Node) → All IsNode nodes → IsOneToOne new_name (names_of nodes) →
    value m delta record { nodes = rename new_name nodes; free_loops = free } ≡ value m delta record { nodes = nodes; free_loops = free }

-- Two networks with no name in common have together the product of their values.
abbrev pub DisjointNetworksLaw : Type 0
DisjointNetworksLaw =
    (m delta free more : ℕ) (nodes others : List Node) → All IsNode nodes → All IsNode others →
    ((x : ℕ) → is_member ◌==◌ (names_of nodes) x ≡ true → is_member ◌==◌ (names_of others) x ≡ false) →
    value m delta record { nodes = nodes ++ others; free_loops = free + more }
    ≡ value m delta record { nodes = nodes; free_loops = free } * value m delta record { nodes = others; free_loops = more } % m

-- Where no name stands three times, the names that stand once in the nodes cut them off from the rest.
abbrev pub CutAtOpenNamesLaw : Type 0
CutAtOpenNamesLaw = (nodes rest : List Node) → ((x : ℕ) → times_in (names_of nodes ++ names_of rest) x ≤ 2) → IsCut nodes rest (open_of nodes)

-- Gluing: a piece and the rest together count as the piece alone, where each pattern of its open names is worth what the
-- rest then comes to. With no outer open name it is the value of a closed network.
abbrev pub GluedPieceLaw : Type 0
GluedPieceLaw =
    (delta free more : ℕ) (nodes rest : List Node) (inner outer : List ℕ) (worth : List ℕ → ℕ) → All IsNode nodes → All IsNode rest →
    IsCut nodes rest inner → AllPass (is_member ◌==◌ (names_of rest ++ inner)) outer →
    pattern_sum delta record { nodes = nodes ++ rest; free_loops = free + more } outer worth
    ≡ pattern_sum delta record { nodes = nodes; free_loops = free } inner (rest_sum delta rest more inner outer worth)

-- Replacement: pieces with one coefficient at each pattern of their open names are interchangeable in every network.
abbrev pub ReplacementLaw : Type 0
ReplacementLaw =
    (m delta more : ℕ) (open_names : List ℕ) (old new : Network) (rest : List Node) → All IsNode old.nodes → All IsNode new.nodes → All IsNode rest →
    IsCut old.nodes rest open_names → IsCut new.nodes rest open_names → SameEverywhere m delta open_names old new →
    value m delta record { nodes = old.nodes ++ rest; free_loops = old.free_loops + more }
    ≡ value m delta record { nodes = new.nodes ++ rest; free_loops = new.free_loops + more }

-- To be the same everywhere is an equivalence of pieces.
pub record SameEverywhereIsEquivalence (m delta : ℕ) (open_names : List ℕ) : Type 0 where
  pub itself : (piece : Network) → SameEverywhere m delta open_names piece piece
  pub back : (old new : Network) → SameEverywhere m delta open_names old new → SameEverywhere m delta open_names new old
  pub on : (old between new : Network) → SameEverywhere m delta open_names old between → SameEverywhere m delta open_names between new → SameEverywhere m delta open_names old new

abbrev pub SameEverywhereLaw : Type 0
SameEverywhereLaw = (m delta : ℕ) (open_names : List ℕ) → SameEverywhereIsEquivalence m delta open_names

-- And it is kept under adding nodes, which may leave other names open.
abbrev pub AddedNodesLaw : Type 0
AddedNodesLaw =
    (m delta more : ℕ) (inner outer : List ℕ) (old new : Network) (rest : List Node) → All IsNode old.nodes → All IsNode new.nodes → All IsNode rest →
    IsCut old.nodes rest inner → IsCut new.nodes rest inner → AllPass (is_member ◌==◌ (names_of rest ++ inner)) outer → SameEverywhere m delta inner old new →
    SameEverywhere m delta outer record { nodes = old.nodes ++ rest; free_loops = old.free_loops + more }
    record { nodes = new.nodes ++ rest; free_loops = new.free_loops + more }

-- And under other names, one to one.
abbrev pub LocalRenamingLaw : Type 0
LocalRenamingLaw =
    (m delta : ℕ) (new_name : ℕ → ℕ) (open_names : List ℕ) (old new : Network) → All IsNode old.nodes → All IsNode new.nodes →
    IsOneToOne new_name (names_of old.nodes) → IsOneToOne new_name (names_of new.nodes) →
    AllPass (is_member ◌==◌ (names_of old.nodes)) open_names → AllPass (is_member ◌==◌ (names_of new.nodes)) open_names →
    SameEverywhere m delta open_names old new →
    SameEverywhere m delta (map new_name open_names) record { nodes = rename new_name old.nodes; free_loops = old.free_loops }
    record { nodes = rename new_name new.nodes; free_loops = new.free_loops }

-- So a local equality, proved at names that are written out, holds in every network at any names, one to one.
abbrev pub AnywhereLaw : Type 0
AnywhereLaw =
    (m delta more : ℕ) (new_name : ℕ → ℕ) (open_names : List ℕ) (old new : Network) (rest : List Node) →
    All IsNode old.nodes → All IsNode new.nodes → All IsNode rest → IsOneToOne new_name (names_of old.nodes) → IsOneToOne new_name (names_of new.nodes) →
    AllPass (is_member ◌==◌ (names_of old.nodes)) open_names → AllPass (is_member ◌==◌ (names_of new.nodes)) open_names →
    IsCut (rename new_name old.nodes) rest (map new_name open_names) → IsCut (rename new_name new.nodes) rest (map new_name open_names) →
    SameEverywhere m delta open_names old new →
    value m delta record { nodes = rename new_name old.nodes ++ rest; free_loops = old.free_loops + more }
    ≡ value m delta record { nodes = rename new_name new.nodes ++ rest; free_loops = new.free_loops + more }
