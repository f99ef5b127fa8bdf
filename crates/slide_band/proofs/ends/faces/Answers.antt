use Rattle.std.proofs.Common.{◌<◌, ℕ, List, length, All, subst, sym, ◌∙◌, ap}
use Rattle.slide_band.specs.Faces.{next_edges}
use Rattle.slide_band.proofs.Found.{edges_within}
use Rattle.slide_band.proofs.ends.faces.Goals as goal

pub least_names-requires : goal.least_names-requires
least_names-requires c =
    let edges = c.deref-2.ensures.value ∙ (c.in_ok-edges.ensures ∙ ap next_edges (c.deref.ensures.value ∙ c.in_ok-others.ensures)) in
    let within : All (λ (edge : ℕ × ℕ). (edge.0 < length c.args.labels.now) × (edge.1 < length c.args.labels.now)) c.deref-2.result.now =
    subst (λ (es : List (ℕ × ℕ)). All (λ (edge : ℕ × ℕ). (edge.0 < length c.args.labels.now) × (edge.1 < length c.args.labels.now)) es) (sym edges) (edges_within c.args.labels.now c.requires) in
    record { among = within }
