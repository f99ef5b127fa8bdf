-- Nodes that are written in another way: the ends in another order, the terms in another order, a pairing in several terms, another
-- group. The quarter turn of a crossing and the half turn of a box are such ways.
--
--     AreInverse size order back       two numberings of the places below size: place i takes what stood at `order i`, and what stood
--                                      at place i goes to place `back i`; (i + 1) % 4 and (i + 3) % 4 for a quarter turn
--     turned_partner size order back partner    the pairing, in the new numbering
--     turned_node order back node      the node with its ends, and the pairings of its terms, in the new numbering
--     weight_of terms partner          the weights of all terms with this pairing, together
--     without_group node               the node with the group 0
use Rattle.std.specs.Prelude.{◌≡◌, ℕ, ◌<◌, if◌then◌else◌, List, map, length, slice_index}
use Rattle.std.specs.List.{range_with_len, sum_by}
use Rattle.std.specs.Str.{bytes_eq}
use Rattle.state_sums.specs.Networks.{Node, Term}

-- Two numberings of the places, each the way back of the other.
pub record AreInverse (size : ℕ) (order back : ℕ → ℕ) : Type 0 where
  pub order_within : (i : ℕ) → i < size → order i < size
  pub back_within : (i : ℕ) → i < size → back i < size
  pub there : (i : ℕ) → i < size → back (order i) ≡ i
  pub again : (i : ℕ) → i < size → order (back i) ≡ i

-- The partner of each place, in the new numbering.
abbrev pub turned_partner : ℕ → (ℕ → ℕ) → (ℕ → ℕ) → List ℕ → List ℕ
turned_partner size order back partner = map (λ i. back (slice_index partner (order i))) (range_with_len 0 size)

abbrev pub turned_term : ℕ → (ℕ → ℕ) → (ℕ → ℕ) → Term → Term
turned_term size order back term = record { weight = term.weight; partner = turned_partner size order back term.partner }

-- The node in the new numbering.
abbrev pub turned_node : (ℕ → ℕ) → (ℕ → ℕ) → Node → Node
turned_node order back node = record {
  group = node.group;
  ends = map (λ i. slice_index node.ends (order i)) (range_with_len 0 (length node.ends));
  terms = map (turned_term (length node.ends) order back) node.terms;
}

-- The weights of the terms with this pairing.
abbrev pub weight_of : List Term → List ℕ → ℕ
weight_of terms partner = sum_by (λ term. if bytes_eq partner term.partner then term.weight else 0) terms

-- The group is 0.
abbrev pub without_group : Node → Node
without_group node = record { group = 0; ends = node.ends; terms = node.terms }
