-- What the entries of `least_names` tell: which names are joined, and how many parts there are. For callers.
use Rattle.std.proofs.Common.{◌≡◌, ℕ, ◌<◌, ◌==◌, List, map, slice_index, get_or, count_by, sym, ap, ◌∙◌, ◌↔◌, arith, All}
use Rattle.std.specs.List.{range_with_len}
use Rattle.std.proofs.lemmas.List.FromFn.{get_or-map-range_with_len}
use Rattle.graph_parts.specs.LeastNames.{least_name}
use Rattle.graph_parts.specs.Parts.{part_count}
use Rattle.graph_parts.specs.Walks.{Joined}
use Rattle.graph_parts.proofs.LeastLabels.{least_name-Joined}
use Rattle.graph_parts.proofs.Numbered.{is_member-numbered, numbered-member, AreAmong-numbered, unique-numbered}
use Rattle.graph_parts.proofs.PartLaws.{count_by_least, count_by_all}

module _ (n : ℕ) (edges : List (ℕ × ℕ)) (entries : List ℕ) (among : All (λ edge. (edge.0 < n) × (edge.1 < n)) edges)
    (is : entries ≡ map (least_name (range_with_len 0 n) edges) (range_with_len 0 n)) where
  pub entries-at : (x : ℕ) → x < n → slice_index entries x ≡ least_name (range_with_len 0 n) edges x
  entries-at x l = ap (λ xs. get_or xs x 0) is ∙ get_or-map-range_with_len (least_name (range_with_len 0 n) edges) 0 n x x 0 l (omega arith)

  -- TWO ENTRIES ARE THE SAME WHERE THE NAMES ARE JOINED
  pub entries-Joined : (x y : ℕ) → x < n → y < n → (slice_index entries x ≡ slice_index entries y) ↔ Joined edges x y
  entries-Joined x y p q =
      let tell = least_name-Joined (range_with_len 0 n) edges (AreAmong-numbered n edges among) x y (is_member-numbered n x p) (is_member-numbered n y q) in
      (λ e. tell.0 (sym (entries-at x p) ∙ e ∙ entries-at y q), λ j. entries-at x p ∙ tell.1 j ∙ sym (entries-at y q))

  -- THERE ARE AS MANY PARTS AS NAMES THAT ARE THEIR OWN ENTRY
  pub part_count-entries : part_count (range_with_len 0 n) edges ≡ count_by (λ x. slice_index entries x == x) (range_with_len 0 n)
  part_count-entries =
      let names = range_with_len 0 n in
      count_by_least names edges (AreAmong-numbered n edges among)
      ∙ ap (count_by (λ x. least_name names edges x == x)) (unique-numbered n)
      ∙ count_by_all (λ x. least_name names edges x == x) (λ x. slice_index entries x == x) names (λ x m. ap (λ k. k == x) (sym (entries-at x (numbered-member n x m))))
