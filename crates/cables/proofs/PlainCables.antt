-- With all colours 1 the cable of a diagram is the network of its bracket.
use Rattle.std.proofs.Common.{◌≡◌, ℕ, ◌+◌, ◌*◌, ◌==◌, ◌&&◌, not, true, false, cond, List, [], ◌∷◌, ◌++◌, map, refl, ap, ap₂, ◌∙◌, arith}
use Rattle.std.specs.List.{AllByRecursion, filter, range_with_len}
use Rattle.std.specs.Set.{is_member}
use Rattle.state_sums.specs.Networks.{Term}
use Rattle.root_quantum.specs.Parameters.{Parameters}
use Rattle.pd_reader.specs.declared.item.Item.{Item}
use Rattle.pd_reader.specs.declared.item.Item.TheVariants.{X, Loop}
use Rattle.pd_reader.specs.Items.{HasItsSlots}
use Rattle.diagram_brackets.specs.Crossings.{crossing_node}
use Rattle.diagram_brackets.specs.Brackets as brackets
use Rattle.cables.specs.Strands.{Strands, strands_of, names_at}
use Rattle.cables.specs.CableNodes.{crossing_cable}
use Rattle.cables.specs.Cables.{Standing, passed, past_all, box_nodes, loop_nodes, cable_nodes, loop_count, loops_at, net_item, as_net, start}
use Rattle.cables.specs.Laws.{PlainCableLaw}

module _ (p : Parameters) (box : ℕ → List Term) where
  abbrev strands : Strands
  strands = strands_of (λ label. 1) (λ label. false) box

  one_first : (label : ℕ) → strands.first label ≡ brackets.strand_name label ∷ []
  one_first label = let e : 16 * label + 0 ≡ 16 * label = omega arith in ap (λ n. n ∷ []) e

  one_second : (label : ℕ) → strands.second label ≡ brackets.strand_name label ∷ []
  one_second label = let e : 16 * label + 0 + 0 ≡ 16 * label = omega arith in ap (λ n. n ∷ []) e

  one_at : (seen : List ℕ) (label : ℕ) → names_at strands seen label ≡ brackets.strand_name label ∷ []
  one_at seen label =
      elim (is_member ◌==◌ seen label) as (λ b. cond b (strands.second label) (strands.first label) ≡ brackets.strand_name label ∷ []) [ true ↦ one_second label | false ↦ one_first label ]

  none_kept : (slots seen ns : List ℕ) → filter (λ label. is_member ◌==◌ slots label && (false && not (is_member ◌==◌ seen label))) ns ≡ []
  none_kept slots seen [] = refl
  none_kept slots seen (n ∷ ns) =
      let ih = none_kept slots seen ns in
      elim (is_member ◌==◌ slots n) as (λ b. cond (b && (false && not (is_member ◌==◌ seen n))) (n ∷ filter (λ label. is_member ◌==◌ slots label && (false && not (is_member ◌==◌ seen label))) ns) (filter (λ label. is_member ◌==◌ slots label && (false && not (is_member ◌==◌ seen label))) ns) ≡ []) [
        | true ↦ ih
        | false ↦ ih
      ]

  no_boxes : (standing : Standing) (slots : List ℕ) → box_nodes strands standing slots ≡ []
  no_boxes standing slots = ap (map _) (none_kept slots standing.seen (range_with_len 0 (past_all slots)))

  one_crossing : (group k a b c d : ℕ) → crossing_cable p group k (a ∷ []) (b ∷ []) (c ∷ []) (d ∷ []) ≡ crossing_node p group (a ∷ b ∷ c ∷ d ∷ []) ∷ []
  one_crossing group k a b c d = refl

  plain_nodes : (items : List Item) (standing : Standing) → AllByRecursion HasItsSlots items → cable_nodes p strands standing (as_net items) ≡ brackets.crossing_nodes p standing.group items
  plain_nodes [] standing h = refl
  plain_nodes (X (a ∷ b ∷ c ∷ d ∷ []) ∷ items) standing h =
      let seen = standing.seen in
      ap₂ (λ x y. x ++ y)
      (ap₂ (λ x y. x ++ y) (no_boxes standing (a ∷ b ∷ c ∷ d ∷ []))
      (ap₂ (λ x y. crossing_cable p standing.group standing.index x y (names_at strands (b ∷ a ∷ seen) c) (names_at strands (c ∷ b ∷ a ∷ seen) d)) (one_at seen a) (one_at (a ∷ seen) b)
      ∙ ap₂ (λ x y. crossing_cable p standing.group standing.index (brackets.strand_name a ∷ []) (brackets.strand_name b ∷ []) x y) (one_at (b ∷ a ∷ seen) c) (one_at (c ∷ b ∷ a ∷ seen) d)
      ∙ one_crossing standing.group standing.index (brackets.strand_name a) (brackets.strand_name b) (brackets.strand_name c) (brackets.strand_name d)))
      (plain_nodes items (passed standing (net_item (X (a ∷ b ∷ c ∷ d ∷ [])))) h.1)
  plain_nodes (X [] ∷ items) standing h = absurd (let k = h.0 in omega (arith, k))
  plain_nodes (X (a ∷ []) ∷ items) standing h = absurd (let k = h.0 in omega (arith, k))
  plain_nodes (X (a ∷ b ∷ []) ∷ items) standing h = absurd (let k = h.0 in omega (arith, k))
  plain_nodes (X (a ∷ b ∷ c ∷ []) ∷ items) standing h = absurd (let k = h.0 in omega (arith, k))
  plain_nodes (X (a ∷ b ∷ c ∷ d ∷ e ∷ slots) ∷ items) standing h = absurd (let k = h.0 in omega (arith, k))
  plain_nodes (Loop label ∷ items) standing h =
      ap (λ ns. loop_nodes strands standing.loop_group ns ++ cable_nodes p strands (passed standing (net_item (Loop label))) (as_net items)) (one_first label)
      ∙ plain_nodes items (passed standing (net_item (Loop label))) h.1

  plain_loops : (items : List Item) → loop_count strands (as_net items) ≡ brackets.loop_count items
  plain_loops [] = refl
  plain_loops (X slots ∷ items) = plain_loops items
  plain_loops (Loop label ∷ items) =
      ap (λ ns. loops_at ns + loop_count strands (as_net items)) (one_first label) ∙ (let ih = plain_loops items in omega (arith, ih))

-- ALL COLOURS ONE
pub plain_cable : PlainCableLaw
plain_cable p box items h =
    ap₂ (λ ns k. record { nodes = ns; free_loops = k }) (plain_nodes p box items (start (as_net items)) h) (plain_loops p box items)
