-- What `cable_net` has found before it makes the nodes, and what that tells of the cable.
--
-- No colour is past the top, each fits its items, and the cable of the edges is that of the net, with residues as weights.
use Rattle.std.proofs.Common.{◌≡◌, ℕ, ◌≤◌, List, length, None, refl, sym, ap, subst, ◌∙◌, arith}
use Rattle.std.specs.List.{AllByRecursion}
use Rattle.state_sums.specs.Networks.{Network, WeightsBelow}
use Rattle.root_quantum.specs.Parameters.{Parameters}
use Rattle.pd_reader.specs.declared.item.NetItem.{NetItem}
use Rattle.pd_reader.specs.Diagrams.{IsNet}
use Rattle.planar_check.specs.Components.{greatest}
use Rattle.cables.specs.Cables.{cable, Fits}
use Rattle.cables.specs.Nets.{cabled_net}
use Rattle.skein_network.specs.declared.edge.Edge.{Edge}
use Rattle.skein_network.specs.Edges.{edges_of, strands_at}
use Rattle.skein_network.specs.Colourings.{AreColoured}
use Rattle.skein_network.specs.Refusals.{net_labels, net_colour, colour_refusal, fit_refusal, net_refusal}
use Rattle.skein_network.proofs.ListColours.{not_refused, or_left_none, or_right_none}
use Rattle.skein_network.proofs.NetEdges.{net_strands_are, edges_coloured, net_fit, net_weights}

module _ (p : Parameters) (items : List NetItem) (colours : List ℕ) (top : ℕ) (edges : List Edge) (none : net_refusal top items colours ≡ None) (are : edges ≡ edges_of (net_labels items) colours) where
  many : (length colours ≡ length (net_labels items)) × (greatest colours ≤ top)
  many = not_refused top (length (net_labels items)) colours (or_left_none (colour_refusal top (length (net_labels items)) colours) (fit_refusal (net_colour items colours) items) none)

  fit : fit_refusal (net_colour items colours) items ≡ None
  fit = or_right_none (colour_refusal top (length (net_labels items)) colours) (fit_refusal (net_colour items colours) items) none

  pub net_high : greatest colours ≤ top
  net_high = many.1

  pub net_edges_coloured : AreColoured colours edges
  net_edges_coloured = edges_coloured items colours (net_labels items) edges refl many.0 are

  pub net_edges_fit : IsNet items → AllByRecursion (Fits (strands_at p edges)) items
  net_edges_fit net = net_fit items colours (net_labels items) edges refl many.0 are p net fit

  -- THE CABLE OF THE EDGES
  pub net_cable : cable p (strands_at p edges) items ≡ cabled_net p items (net_colour items colours)
  net_cable = ap (λ strands. cable p strands items) (net_strands_are items colours (net_labels items) edges refl many.0 are p)

  pub net_cable_weights : IsNet items → top ≤ 8 → (network : Network) → network ≡ cable p (strands_at p edges) items → WeightsBelow p.modulus network.nodes
  net_cable_weights net few network e =
      let high = many.1 in
      subst (λ n. WeightsBelow p.modulus n.nodes) (sym (e ∙ net_cable)) (net_weights items colours (net_labels items) edges refl many.0 are p net fit (omega (arith, high, few)))
