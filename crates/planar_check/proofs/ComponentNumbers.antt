-- The number of a label's component is one more than the index of its least label among the least labels of all components.
use Rattle.std.proofs.Common.{◌≡◌, ℕ, ◌+◌, ◌-◌, ◌<◌, ◌==◌, ◌&&◌, Bool, true, List, slice_index, ap, ap₂, ◌∙◌, arith, eq-eqb}
use Rattle.std.specs.List.{AllByRecursion, range_with_len}
use Rattle.std.specs.Set.{is_member}
use Rattle.graph_parts.proofs.Numbered.{is_member-numbered}
use Rattle.pd_reader.specs.declared.item.Item.{Item}
use Rattle.pd_reader.specs.Items.{item_labels, HasItsSlots}
use Rattle.pd_reader.specs.Diagrams.{labels}
use Rattle.planar_check.specs.Components.{greatest, rank, component_least, is_least_of, least_labels, number_of}
use Rattle.planar_check.proofs.ComponentLists.{least_labels_sorted, member-filter}
use Rattle.planar_check.proofs.FewComponents.{least_is_label, least_again}
use Rattle.planar_check.proofs.Ranks.{at_rank, count_at}
use Rattle.planar_check.proofs.Strands.{member_at_most}

module _ (xs : List Item) (sizes : AllByRecursion HasItsSlots xs) (x : ℕ) (m : is_member ◌==◌ (labels item_labels xs) x ≡ true) where
  abbrev least : ℕ
  least = component_least xs x

  least_among : is_member ◌==◌ (least_labels xs) least ≡ true
  unfolding least_labels
  least_among =
      let ls = labels item_labels xs in
      let there = least_is_label xs sizes x m in
      let within : least < greatest ls + 1 = (let h = member_at_most ls least there in omega (arith, h)) in
      member-filter (is_least_of xs) (range_with_len 0 (greatest ls + 1)) least
      ∙ ap₂ (λ (a b : Bool). a && b) (ap₂ (λ (a b : Bool). a && b) there (eq-eqb (component_least xs least) least (least_again xs sizes x m))) (is_member-numbered (greatest ls + 1) least within)

  -- THE LEAST LABEL OF THE COMPONENT WITH THE LABEL'S NUMBER
  pub least_at_number : slice_index (least_labels xs) (number_of xs x - 1) ≡ component_least xs x
  least_at_number =
      let all = least_labels xs in
      let sorted = least_labels_sorted xs in
      let there = at_rank all sorted least least_among in
      let count = count_at all least (rank all least) sorted there.0 there.1 in
      let index : number_of xs x - 1 ≡ rank all least = omega (arith, count) in
      ap (slice_index all) index ∙ there.1
