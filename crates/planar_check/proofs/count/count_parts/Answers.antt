use Rattle.std.proofs.Common.{◌≡◌, ℕ, ◌==◌, List, length, slice_index, count_by, sym, ap, ◌∙◌, arith}
use Rattle.std.specs.List.{range_with_len}
use Rattle.std.proofs.lemmas.List.FromFn.{length-map-range_with_len}
use Rattle.graph_parts.specs.LeastNames.{least_name}
use Rattle.part_labels.proofs.Entries.{part_count-entries}
use Rattle.planar_check.proofs.count.count_parts.Goals as goal

pub returns : goal.returns
returns c =
    let n = c.args.names in
    let edges = c.args.edges.now in
    let entries = c.in_ok-entries.entries.items in
    let is = c.in_ok-entries.ensures.least in
    let passed : c.deref.result.now ≡ entries = c.deref.ensures.value in
    let long : length entries ≡ n = ap length is ∙ length-map-range_with_len (least_name (range_with_len 0 n) edges) 0 n in
    record {
      count = c.count_least.ensures.count
          ∙ (ap (λ (xs : List ℕ). count_by (λ x. slice_index xs x == x) (range_with_len 0 (length xs))) passed
          ∙ (ap (λ k. count_by (λ x. slice_index entries x == x) (range_with_len 0 k)) long
          ∙ sym (part_count-entries n edges entries c.requires.among is)));
      few = omega (arith, c.count_least.ensures.few, ap length passed, long);
    }
