-- Names paired by a graph. Where each part of a graph has no open name or two, each open name has a partner: the other
-- open name of its part (Kauffman and Lins: a state of a tangle joins its ends two by two). A pairing is the list of
-- partners, by places: the open name at place i is paired with that at place `slice_index partner i`.
--
--     pair_edges names partner                the pairs of a pairing as edges between the names of its points, each pair twice
--     IsPairedBy edges names partner          the partner of each name is the other one of these names that walks join with it
--     partners_of names edges open_names      the partners of the open names, by parts: for each one the place of the first
--                                             other open name in its part; of the open names 1 2 3 4 with the edges (1,4)
--                                             and (2,3), it is 3,2,1,0
--     AreOpen names open_names                the open names are those that stand once among the names, each once
use Rattle.std.specs.Prelude.{◌≡◌, ◌≢◌, ℕ, ◌<◌, ◌==◌, ◌&&◌, not, if◌then◌else◌, List, map, length, slice_index}
use Rattle.std.specs.List.{position_or_len, zip}
use Rattle.std.specs.Set.{is_member}
use Rattle.graph_parts.specs.Parts.{part}
use Rattle.graph_parts.specs.Walks.{Joined}
use Rattle.state_sums.specs.Networks.{IsPairing}
use Rattle.list_lemmas.specs.Times.{times_in}

-- Edges between the names of points and of their partners.
abbrev pub pair_edges : List ℕ → List ℕ → List (ℕ × ℕ)
pair_edges names partner = zip names (map (λ place. slice_index names place) partner)

-- The partner of each name is the other one of the names that walks join with it.
pub record IsPairedBy (edges : List (ℕ × ℕ)) (names partner : List ℕ) : Type 0 where
  pub whole : length partner ≡ length names
  pub is_pairing : IsPairing partner
  pub joined : (i : ℕ) → i < length names → Joined edges (slice_index names i) (slice_index names (slice_index partner i))
  pub only : (i j : ℕ) → i < length names → j < length names → Joined edges (slice_index names i) (slice_index names j) → j ≢ i → j ≡ slice_index partner i

-- For each open name the place of the first other open name in its part.
abbrev pub partners_of : List ℕ → List (ℕ × ℕ) → List ℕ → List ℕ
partners_of names edges open_names =
    map (λ x. position_or_len (λ y. is_member ◌==◌ (part names edges x) y && not (y == x)) open_names) open_names

-- The names that stand once, each once.
pub record AreOpen (names open_names : List ℕ) : Type 0 where
  pub once : (x : ℕ) → times_in open_names x ≡ (if times_in names x == 1 then 1 else 0)
