use Rattle.std.proofs.Common.{ℕ, ◌<◌, List, length, map, sym, subst, ap, ◌∙◌, All}
use Rattle.std.specs.List.{range_with_len}
use Rattle.graph_parts.specs.LeastNames.{least_name}
use Rattle.planar_check.proofs.cycles.least_in_cycles.Goals as goal

pub least_names-requires : goal.least_names-requires
least_names-requires c =
    let n = length c.args.others.now in
    let P : List (ℕ × ℕ) → Type 0 = λ edges. All (λ edge. (edge.0 < n) × (edge.1 < n)) edges in
    record { among = subst P (sym c.deref.ensures.value) c.in_ok-edges.ensures.among }

pub returns : goal.returns
returns c =
    let n = length c.args.others.now in
    c.in_ok-least.ensures.least ∙ ap (λ (es : List (ℕ × ℕ)). map (least_name (range_with_len 0 n) es) (range_with_len 0 n)) (c.deref.ensures.value ∙ c.in_ok-edges.ensures.edges)
