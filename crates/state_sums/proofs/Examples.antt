-- The definitions, computed: modulus 41, A = 2 with the inverse 21, delta = 6.
use Rattle.std.proofs.Common.{◌≡◌, ℕ, ◌%◌, List, [], ◌∷◌, refl}
use Rattle.graph_parts.specs.Parts.{part, part_count}
use Rattle.state_sums.specs.LocalSums.{coefficient, pattern_sum, crossing, open_of}
use Rattle.state_sums.specs.Networks.{Node, Network}
use Rattle.state_sums.specs.StateSums.{value}

-- weight 2 on the pairs ab and cd, weight 21 on ad and bc
abbrev positive : ℕ → ℕ → ℕ → ℕ → Node
positive a b c d = crossing 2 21 a b c d

abbrev of_nodes : List Node → Network
of_nodes nodes = record { nodes = nodes; free_loops = 0 }

nothing : value 41 6 (of_nodes []) ≡ 1
unfolding value part_count part
nothing = refl

free_loop : value 41 6 record { nodes = []; free_loops = 1 } ≡ 6
unfolding value part_count part
free_loop = refl

curl_12 : value 41 6 (of_nodes (positive 1 1 2 2 ∷ [])) ≡ 34
unfolding value part_count part
curl_12 = refl

curl_21 : value 41 6 (of_nodes (positive 1 2 2 1 ∷ [])) ≡ 30
unfolding value part_count part
curl_21 = refl

hopf_link : value 41 6 (of_nodes (positive 2 4 3 1 ∷ positive 4 2 1 3 ∷ [])) ≡ 1
unfolding value part_count part
hopf_link = refl

trefoil : value 41 6 (of_nodes (positive 1 4 2 5 ∷ positive 3 6 4 1 ∷ positive 5 2 6 3 ∷ [])) ≡ 10
unfolding value part_count part
trefoil = refl

-- one crossing joins 0 with 1 and 2 with 3 by weight 2, and 0 with 3 and 1 with 2 by weight 21
first_smoothing : coefficient 6 (of_nodes (positive 0 1 2 3 ∷ [])) (0 ∷ 1 ∷ 2 ∷ 3 ∷ []) (0 ∷ 0 ∷ 2 ∷ 2 ∷ []) ≡ 2
unfolding pattern_sum part_count part
first_smoothing = refl

second_smoothing : coefficient 6 (of_nodes (positive 0 1 2 3 ∷ [])) (0 ∷ 1 ∷ 2 ∷ 3 ∷ []) (0 ∷ 1 ∷ 1 ∷ 0 ∷ []) ≡ 21
unfolding pattern_sum part_count part
second_smoothing = refl

-- a curl multiplies by -8, which is 33 modulo 41; the other one by -21^3, which is 5
curl_factor : coefficient 6 (of_nodes (positive 1 0 2 2 ∷ [])) (0 ∷ 1 ∷ []) (0 ∷ 0 ∷ []) % 41 ≡ 33
unfolding pattern_sum part_count part
curl_factor = refl

other_curl_factor : coefficient 6 (of_nodes (positive 2 1 0 2 ∷ [])) (0 ∷ 1 ∷ []) (0 ∷ 0 ∷ []) % 41 ≡ 5
unfolding pattern_sum part_count part
other_curl_factor = refl

open_ends : open_of (positive 1 0 2 2 ∷ []) ≡ 1 ∷ 0 ∷ []
open_ends = refl
