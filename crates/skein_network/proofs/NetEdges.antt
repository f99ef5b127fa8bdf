-- The edges of a net, from its labels and as many colours.
--
-- A label's colour stands in the list of colours where the label stands among the labels.
-- So the strands of the edges are those of the net, and where nothing is refused the colours fit its items and the weights of the
-- cable are residues.
use Rattle.std.proofs.Common.{◌≡◌, ℕ, suc, ◌+◌, ◌≤◌, ◌==◌, not, nat_le, Bool, true, false, cond, List, [], ◌∷◌, None, length, slice_index, refl, sym, ap, ap₂, subst, ◌∙◌, arith}
use Rattle.std.specs.List.{AllByRecursion, filter, range_with_len}
use Rattle.std.specs.Set.{is_member}
use Rattle.std.proofs.lemmas.Bool.{eq-eqb, or_left, or_right}
use Rattle.std.proofs.lemmas.Bool.Decides.{nat_tests}
use Rattle.std.proofs.lemmas.List.FromFn.{length-range_with_len}
use Rattle.state_sums.specs.Networks.{WeightsBelow}
use Rattle.root_quantum.specs.Parameters.{Parameters}
use Rattle.pd_reader.specs.declared.item.NetItem.{NetItem}
use Rattle.pd_reader.specs.Items.{net_item_labels}
use Rattle.pd_reader.specs.Diagrams.{labels, IsLabel, IsNet}
use Rattle.planar_check.specs.Components.{greatest, distinct, rank}
use Rattle.cables.specs.Strands.{strands_of}
use Rattle.cables.specs.Cables.{Fits}
use Rattle.cables.specs.Nets.{projector_of, net_strands, cabled_net}
use Rattle.cables.proofs.NetCables.{net_fits, net_network}
use Rattle.skein_network.specs.declared.edge.Edge.{Edge}
use Rattle.skein_network.specs.Edges.{colour_at, boxed_at, edges_of, strands_at}
use Rattle.skein_network.specs.Colourings.{AreColoured}
use Rattle.skein_network.specs.Refusals.{net_labels, net_colour, fit_refusal}
use Rattle.skein_network.proofs.ListColours.{few_colours, unchanged, all_admissible}

module _ (label : ℕ) where
  colour_is : (names colours : List ℕ) → length names ≡ length colours → colour_at (edges_of names colours) label ≡ slice_index colours (rank names label)
  colour_is [] [] h = refl
  colour_is [] (c ∷ colours) h = absurd (omega (arith, h))
  colour_is (n ∷ names) [] h = absurd (omega (arith, h))
  colour_is (n ∷ names) (c ∷ colours) h =
      let ih = colour_is names colours (omega (arith, h)) in
      let next : 1 + rank names label ≡ suc (rank names label) = omega arith in
      elim (n == label) as (λ b. cond b c (colour_at (edges_of names colours) label) ≡ slice_index (c ∷ colours) (cond (not b) (1 + rank names label) 0)) [
        | true ↦ refl
        | false ↦ ih ∙ sym (ap (slice_index (c ∷ colours)) next)
      ]

  boxed_is : (names colours : List ℕ) → boxed_at (edges_of names colours) label ≡ nat_le 2 (colour_at (edges_of names colours) label)
  boxed_is [] colours = refl
  boxed_is (n ∷ names) [] = refl
  boxed_is (n ∷ names) (c ∷ colours) =
      elim (n == label) as (λ b. cond b (nat_le 2 c) (boxed_at (edges_of names colours) label) ≡ nat_le 2 (cond b c (colour_at (edges_of names colours) label))) [ true ↦ refl | false ↦ boxed_is names colours ]

  listed : (names colours : List ℕ) → 2 ≤ colour_at (edges_of names colours) label → is_member ◌==◌ colours (colour_at (edges_of names colours) label) ≡ true
  listed [] colours h = absurd (omega (arith, h))
  listed (n ∷ names) [] h = absurd (omega (arith, h))
  listed (n ∷ names) (c ∷ colours) h =
      let rest = colour_at (edges_of names colours) label in
      elim (n == label) as (λ b. 2 ≤ cond b c rest → is_member ◌==◌ (c ∷ colours) (cond b c rest) ≡ true) [
        | true ↦ λ k. or_left (c == c) (is_member ◌==◌ colours c) (eq-eqb c c refl)
        | false ↦ λ k. or_right (rest == c) (is_member ◌==◌ colours rest) (listed names colours k)
      ] h

module _ (names colours : List ℕ) where
  -- THE COLOURS AND THE BOXES OF THE EDGES
  pub colours_are : length names ≡ length colours → colour_at (edges_of names colours) ≡ (λ label. slice_index colours (rank names label))
  colours_are h = λ i label. colour_is label names colours h i

  pub boxes_are : boxed_at (edges_of names colours) ≡ (λ label. nat_le 2 (colour_at (edges_of names colours) label))
  boxes_are = λ i label. boxed_is label names colours i

  pub net_coloured : AreColoured colours (edges_of names colours)
  net_coloured = record {
    listed = λ label h. listed label names colours h;
    some = λ label t. (let e : nat_le 2 (colour_at (edges_of names colours) label) ≡ true = sym (boxed_is label names colours) ∙ t in grind (arith, nat_tests, e));
  }

-- ---- the labels of a net
greatest_low : (ls : List ℕ) → AllByRecursion IsLabel ls → greatest ls ≤ 2000000
greatest_low [] h = omega arith
greatest_low (l ∷ ls) h = let ih = greatest_low ls h.1 in let high = h.0.high in omega (arith, ih, high)

kept_few : (test : ℕ → Bool) (ns : List ℕ) → length (filter test ns) ≤ length ns
kept_few test [] = omega arith
kept_few test (n ∷ ns) =
    let ih = kept_few test ns in
    elim (test n) as (λ b. length (cond b (n ∷ filter test ns) (filter test ns)) ≤ length (n ∷ ns)) [ true ↦ omega (arith, ih) | false ↦ omega (arith, ih) ]

pub few_labels : (items : List NetItem) → IsNet items → length (net_labels items) ≤ 2000001
unfolding distinct
few_labels items net =
    let ls = labels net_item_labels items in
    let few = kept_few (is_member ◌==◌ ls) (range_with_len 0 (greatest ls + 1)) in
    let long = length-range_with_len 0 (greatest ls + 1) in
    let low = greatest_low ls net.in_range in
    omega (arith, few, long, low)

-- ---- the edges of a net, with as many colours as it has labels
module _ (items : List NetItem) (colours names : List ℕ) (edges : List Edge) (listed_names : names ≡ net_labels items) (as_many : length colours ≡ length (net_labels items)) (are : edges ≡ edges_of names colours) where
  edges_are : edges ≡ edges_of (net_labels items) colours
  edges_are = are ∙ ap (λ ns. edges_of ns colours) listed_names

  pub edge_colours : colour_at edges ≡ net_colour items colours
  edge_colours = ap colour_at edges_are ∙ colours_are (net_labels items) colours (sym as_many)

  edge_boxes : boxed_at edges ≡ (λ label. nat_le 2 (net_colour items colours label))
  edge_boxes =
      ap boxed_at edges_are ∙ boxes_are (net_labels items) colours
      ∙ ap {A = ℕ → ℕ} {B = ℕ → Bool} (λ f label. nat_le 2 (f label)) (colours_are (net_labels items) colours (sym as_many))

  pub edges_coloured : AreColoured colours edges
  edges_coloured = subst (AreColoured colours) (sym edges_are) (net_coloured (net_labels items) colours)

  module _ (p : Parameters) where
    pub net_strands_are : strands_at p edges ≡ net_strands p (net_colour items colours)
    net_strands_are = ap₂ (λ c b. strands_of c b (projector_of p)) edge_colours edge_boxes

    -- THE COLOURS FIT THE ITEMS
    pub net_fit : IsNet items → fit_refusal (net_colour items colours) items ≡ None → AllByRecursion (Fits (strands_at p edges)) items
    net_fit net none =
        subst (λ strands. AllByRecursion (Fits strands) items) (sym net_strands_are)
        (net_fits p (net_colour items colours) items 1 net.sizes (unchanged (net_colour items colours) items none) (all_admissible (net_colour items colours) items none))

    -- THE CABLE OF A NET HAS WEIGHTS BELOW THE MODULUS
    pub net_weights : IsNet items → fit_refusal (net_colour items colours) items ≡ None → greatest colours ≤ 8 → WeightsBelow p.modulus (cabled_net p items (net_colour items colours)).nodes
    net_weights net none few =
        let low : (label : ℕ) → net_colour items colours label ≤ 8 = λ label. subst (λ f. f label ≤ 8) edge_colours (few_edges label) in
        (net_network p items (net_colour items colours) net low (unchanged (net_colour items colours) items none) (all_admissible (net_colour items colours) items none)).weights
      where
        few_edges : (label : ℕ) → colour_at edges label ≤ 8
        few_edges = few_colours colours edges 8 edges_coloured few (omega arith)
