-- Labels along walks: a labelling that each edge keeps is kept by walks, and lists with the same edges join alike.
use Rattle.std.proofs.Common.{ℕ, Bool, List, Contains, inl}
use Rattle.graph_parts.specs.Labels.{label_of, Agree}
use Rattle.graph_parts.specs.Walks.{Joined}
use Rattle.graph_parts.proofs.Agreement as agreement

-- more edges join more
pub Joined-wider : (es fs : List (ℕ × ℕ)) → ((e : ℕ × ℕ) → Contains es e → Contains fs e) → {x y : ℕ} → Joined es x y → Joined fs x y
Joined-wider es fs h walk = agreement.Joined-wider es fs (λ x y c. inl (h (x, y) c)) walk

-- the same edges join alike
pub Agree-same_edges : (inside : ℕ → Bool) (es fs : List (ℕ × ℕ)) → ((e : ℕ × ℕ) → Contains es e → Contains fs e) → ((e : ℕ × ℕ) → Contains fs e → Contains es e) →
    Agree inside (label_of es) (label_of fs)
Agree-same_edges inside es fs h k = agreement.Agree-same_edges inside es fs (λ x y c. inl (h (x, y) c)) (λ x y c. inl (k (x, y) c))
