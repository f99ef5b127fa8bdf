use Rattle.std.proofs.Common.{◌≡◌, ℕ, List, length, map, slice_index, sym, subst, ap, ap₂, ◌∙◌, All, ◌<◌}
use Rattle.std.specs.List.{range_with_len}
use Rattle.std.specs.List.Sorted.{IsStrictlySortedBy}
use Rattle.std.specs.Ordering.{nat_cmp}
use Rattle.graph_parts.specs.LeastNames.{least_name}
use Rattle.graph_parts.specs.Renaming.{renamed}
use Rattle.pd_reader.specs.declared.item.Item.{Item}
use Rattle.pd_reader.specs.Items.{item_labels}
use Rattle.pd_reader.specs.Diagrams.{labels}
use Rattle.planar_check.specs.Components.{distinct, rank, component_least, strand_edges}
use Rattle.planar_check.proofs.ComponentLists.{distinct_sorted, strands_among, ranks_inside, leasts_are}
use Rattle.planar_check.proofs.component.leasts_of.Goals as goal

-- the strands as they were passed, between the ranks of the different labels
ranked : (xs : List Item) (names : List ℕ) (edges passed : List (ℕ × ℕ)) → names ≡ distinct (labels item_labels xs) → passed ≡ edges → edges ≡ map (renamed (rank names)) (strand_edges xs) →
    passed ≡ map (renamed (rank (distinct (labels item_labels xs)))) (strand_edges xs)
ranked xs names edges passed n p e = p ∙ (e ∙ ap (λ (ns : List ℕ). map (renamed (rank ns)) (strand_edges xs)) n)

-- the ranks as they are read
ranks_are : (xs : List Item) (names : List ℕ) (edges : List (ℕ × ℕ)) (ranks read : List ℕ) → names ≡ distinct (labels item_labels xs) → edges ≡ map (renamed (rank (distinct (labels item_labels xs)))) (strand_edges xs) →
    read ≡ ranks → ranks ≡ map (least_name (range_with_len 0 (length names)) edges) (range_with_len 0 (length names)) →
    read ≡ map (least_name (range_with_len 0 (length (distinct (labels item_labels xs)))) (map (renamed (rank (distinct (labels item_labels xs)))) (strand_edges xs))) (range_with_len 0 (length (distinct (labels item_labels xs))))
ranks_are xs names edges ranks read n e r is = r ∙ (is ∙ ap₂ (λ (ns : List ℕ) (es : List (ℕ × ℕ)). map (least_name (range_with_len 0 (length ns)) es) (range_with_len 0 (length ns))) n e)

pub strand_edges-requires : goal.strand_edges-requires
strand_edges-requires c = subst (IsStrictlySortedBy nat_cmp) (sym c.requires.names) (distinct_sorted (labels item_labels c.args.items.now))

pub least_names-requires : goal.least_names-requires
least_names-requires c =
    let xs = c.args.items.now in
    let passed = ranked xs c.args.names.now _ _ c.requires.names c.deref.ensures.value c.in_ok-edges.ensures in
    let P : List ℕ → Type 0 = λ names. All (λ edge. (edge.0 < length names) × (edge.1 < length names)) c.deref.result.now in
    let Q : List (ℕ × ℕ) → Type 0 = λ edges. All (λ edge. (edge.0 < length (distinct (labels item_labels xs))) × (edge.1 < length (distinct (labels item_labels xs)))) edges in
    record { among = subst P (sym c.requires.names) (subst Q (sym passed) (strands_among xs c.requires.diagram.sizes)) }

pub named-requires : goal.named-requires
named-requires c =
    let xs = c.args.items.now in
    let passed = ranked xs c.args.names.now _ _ c.requires.names c.deref.ensures.value c.in_ok-edges.ensures in
    let are = ranks_are xs c.args.names.now _ _ _ c.requires.names passed c.deref-2.ensures.value c.in_ok-ranks.ensures.least in
    let P : List ℕ → Type 0 = λ names. All (λ rank. rank < length names) c.deref-2.result.now in
    subst P (sym c.requires.names) (ranks_inside xs c.requires.diagram.sizes c.deref-2.result.now are)

pub returns : goal.returns
returns c =
    let xs = c.args.items.now in
    let passed = ranked xs c.args.names.now _ _ c.requires.names c.deref.ensures.value c.in_ok-edges.ensures in
    let are = ranks_are xs c.args.names.now _ _ _ c.requires.names passed c.deref-2.ensures.value c.in_ok-ranks.ensures.least in
    let P : List ℕ → Type 0 = λ names. map (slice_index names) c.deref-2.result.now ≡ map (component_least xs) names in
    c.in_ok-leasts.ensures ∙ subst P (sym c.requires.names) (leasts_are xs c.requires.diagram.sizes c.deref-2.result.now are)
