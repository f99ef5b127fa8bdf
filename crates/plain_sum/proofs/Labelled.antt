-- Labels of names by their places: one more edge relabels, and the number of labels at the end is the number of parts.
use Rattle.std.proofs.Common.{◌≡◌, ℕ, suc, ◌+◌, ◌<◌, ◌≤◌, cond, ◌==◌, List, [], ◌∷◌, map, map-id, length, get_or, slice_index, take, drop, drop-cons, add-one, refl, sym, ap, ◌∙◌, arith}
use Rattle.std.specs.List.{list_any}
use Rattle.std.specs.Set.{is_member, distinct_count}
use Rattle.std.proofs.lemmas.Bool.Decides.{nat_tests}
use Rattle.std.proofs.lemmas.List.{get_or-map, take_more, take_all, map-append}
use Rattle.std.proofs.lemmas.List.Elements.{All-head, All-tail}
use Rattle.std.proofs.lemmas.List.Sums.{fold_push}
use Rattle.graph_parts.specs.Ends.{AreAmong}
use Rattle.graph_parts.specs.Labels.{relabel, label_of, label_count}
use Rattle.graph_parts.specs.Parts.{part_count}
use Rattle.graph_parts.proofs.Ends.{is_member-get_or}
use Rattle.graph_parts.specs.Renaming.{replaced}
use Rattle.graph_parts.proofs.Counting.{map_replaced, distinct_count-cons}
use Rattle.graph_parts.proofs.LeastNames.{part_count-labels}
use Rattle.plain_sum.specs.Places.{named, AreWithin}

pub any_turned : (xs : List ℕ) (x : ℕ) → list_any (λ y. y == x) xs ≡ is_member ◌==◌ xs x
any_turned [] x = refl
any_turned (y ∷ xs) x = let ih = any_turned xs x in grind (arith, nat_tests, ih)

pub distinct_step : (xs : List ℕ) (at : ℕ) → at < length xs →
    distinct_count ◌==◌ (drop at xs) ≡ cond (is_member ◌==◌ (drop (at + 1) xs) (get_or xs at 0)) 0 1 + distinct_count ◌==◌ (drop (at + 1) xs)
distinct_step xs at l = rw (add-one, drop-cons xs at 0) (distinct_count-cons (get_or xs at 0) (drop (suc at) xs))

pub started : (names : List ℕ) (edges : List (ℕ × ℕ)) → names ≡ map (label_of (named names (take 0 edges))) names
started names edges = sym (map-id names)

module _ (names : List ℕ) (edges : List (ℕ × ℕ)) (i : ℕ) (within : i < length edges) (ends : AreWithin names edges) (labels : List ℕ)
    (labelled : labels ≡ map (label_of (named names (take i edges))) names) where
  abbrev edge : ℕ × ℕ
  edge = get_or edges i (0, 0)

  abbrev label : ℕ → ℕ
  label = label_of (named names (take i edges))

  label_at : (place : ℕ) → place < length names → get_or labels place 0 ≡ label (slice_index names place)
  label_at place l = ap (λ ls. get_or ls place 0) labelled ∙ get_or-map label names place 0 0 l

  longer : label_of (named names (take (i + 1) edges)) ≡ relabel label (slice_index names edge.0, slice_index names edge.1)
  longer =
      ap (λ es. label_of (named names es)) (take_more edges i (0, 0) within)
      ∙ ap label_of (map-append (λ (e : ℕ × ℕ). (slice_index names e.0, slice_index names e.1)) (take i edges) (edge ∷ []))
      ∙ fold_push relabel (λ x. x) (named names (take i edges)) (slice_index names edge.0, slice_index names edge.1)

  -- ONE MORE EDGE
  pub one_more : map (replaced (get_or labels edge.0 0) (get_or labels edge.1 0)) labels ≡ map (label_of (named names (take (i + 1) edges))) names
  one_more =
      let bounds = ends i (0, 0) within in
      let from : ℕ = slice_index names edge.0 in
      let to : ℕ = slice_index names edge.1 in
      ap (λ k. map (replaced k (get_or labels edge.1 0)) labels) (label_at edge.0 bounds.0)
      ∙ ap (λ k. map (replaced (label from) k) labels) (label_at edge.1 bounds.1)
      ∙ ap (λ ls. map (replaced (label from) (label to)) ls) labelled
      ∙ sym (map_replaced label (label from) (label to) names)
      ∙ ap (λ k. map k names) (sym longer)

-- the names that stand at places are among the names
among : (names : List ℕ) (edges : List (ℕ × ℕ)) → AreWithin names edges → AreAmong names (named names edges)
among names [] ends = tt
among names (e ∷ edges) ends =
    let IsEdge : ℕ × ℕ → Type 0 = λ edge. (edge.0 < length names) × (edge.1 < length names) in
    let here = All-head IsEdge e edges ends in
    (is_member-get_or names e.0 here.0, is_member-get_or names e.1 here.1, among names edges (All-tail IsEdge e edges ends))

-- THE NUMBER OF LABELS IS THE NUMBER OF PARTS
pub counted : (names : List ℕ) (edges : List (ℕ × ℕ)) (i : ℕ) (labels : List ℕ) → AreWithin names edges → length edges ≤ i →
    labels ≡ map (label_of (named names (take i edges))) names → distinct_count ◌==◌ labels ≡ part_count names (named names edges)
counted names edges i labels ends all labelled =
    ap (distinct_count ◌==◌) labelled
    ∙ ap (λ es. label_count (label_of (named names es)) names) (take_all i edges all)
    ∙ sym (part_count-labels names (named names edges) (among names edges ends))
