-- The value of a network stays where a run of its nodes moves to the front.
use Rattle.std.proofs.Common.{◌≡◌, ℕ, ◌%◌, List, ◌++◌, sym, ap, ◌∙◌}
use Rattle.state_sums.specs.Networks.{Node}
use Rattle.state_sums.specs.StateSums.{value}
use Rattle.state_sums.proofs.NodeOrder.{label_sum-moved}
use Rattle.state_sums.proofs.Replacing.{HavePlaces-append}
use Rattle.state_sums.proofs.StateEdges.{HavePlaces}
use Rattle.state_sums.proofs.StateSums.{state_sum-labels}

-- A RUN OF NODES MOVES TO THE FRONT
pub value_moved : (m delta free : ℕ) (front nodes behind : List Node) → HavePlaces front → HavePlaces nodes → HavePlaces behind →
    value m delta record { nodes = front ++ (nodes ++ behind); free_loops = free } ≡ value m delta record { nodes = nodes ++ (front ++ behind); free_loops = free }
unfolding value
value_moved m delta free front nodes behind p q r =
    ap (λ n. n % m)
    (state_sum-labels delta (front ++ (nodes ++ behind)) free (HavePlaces-append front (nodes ++ behind) p (HavePlaces-append nodes behind q r))
    ∙ label_sum-moved delta free front nodes behind
    ∙ sym (state_sum-labels delta (nodes ++ (front ++ behind)) free (HavePlaces-append nodes (front ++ behind) q (HavePlaces-append front behind p r))))
