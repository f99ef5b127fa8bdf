-- The pairings of open names that arise: each has a point for each name.
use Rattle.std.proofs.Common.{◌≡◌, ℕ, ◌≤◌, List, length, arith}
use Rattle.std.specs.List.{All}
use Rattle.std.proofs.lemmas.List.Elements.{All-map, All-weaker}
use Rattle.state_sums.specs.Networks.{Node, Term, IsNode, names_of}
use Rattle.state_sums.specs.StateSums.{states, state_edges}
use Rattle.arc_gluing.specs.Laws.{AreFew}
use Rattle.arc_gluing.specs.Pairings.{AreOpen, IsPairedBy, partners_of}
use Rattle.arc_gluing.proofs.GluingLaws.{paired_states}
use Rattle.arc_pairing.specs.Pairings.{IsShortPairing}
use Rattle.kept_seams.specs.AnyOrder.{pairings_by}

-- A pairing of so many points.
pub record IsOfPoints (points : ℕ) (partner : List ℕ) : Type 0 where
  pub short : IsShortPairing partner
  pub whole : length partner ≡ points

module _ (nodes : List Node) (names : List ℕ) (ok : All IsNode nodes) (few : AreFew nodes) (open_are : AreOpen (names_of nodes) names) (narrow : length names ≤ 24) where
  -- EACH HAS A POINT FOR EACH NAME
  pub of_points : All (IsOfPoints (length names)) (pairings_by nodes names)
  of_points =
      let partner_of : List Term → List ℕ = λ state. partners_of (names_of nodes) (state_edges nodes state) names in
      All-map (IsOfPoints (length names)) partner_of (states nodes)
      (All-weaker (λ state. IsPairedBy (state_edges nodes state) names (partner_of state)) (λ state. IsOfPoints (length names) (partner_of state))
      (λ state paired. record { short = record { short = (let w = paired.whole in omega (arith, w, narrow)); paired = paired.is_pairing }; whole = paired.whole })
      (states nodes) (paired_states nodes names ok few open_are))

  -- So all are short.
  pub all_short : All IsShortPairing (pairings_by nodes names)
  all_short = All-weaker (IsOfPoints (length names)) IsShortPairing (λ partner h. h.short) (pairings_by nodes names) of_points
