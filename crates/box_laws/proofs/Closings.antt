-- Strands that are closed: arcs have one state, whose edges join the two names of each strand; and a sum with no open name.
use Rattle.std.proofs.Common.{◌≡◌, ◌≢◌, ℕ, zero, suc, ◌+◌, ◌-◌, ◌*◌, ◌^◌, ◌<◌, ◌≤◌, true, ◌==◌, List, [], ◌∷◌, refl, sym, ap, ap₂, ◌∙◌, arith, Contains, ⊎_elim, ◌⊎◌, inl, inr}
use Rattle.std.specs.Set.{is_member}
use Rattle.std.proofs.lemmas.Bool.{or_cases, eqb-true, cases_eq}
use Rattle.graph_parts.specs.Parts.{part_count}
use Rattle.state_sums.specs.LocalSums.{pattern_sum}
use Rattle.state_sums.specs.Networks.{Network, names_of}
use Rattle.state_sums.specs.StateSums.{states, state_edges, state_weight, state_sum}
use Rattle.state_sums.proofs.Sums.{total}
use Rattle.strand_words.specs.Boxes.{bottom}
use Rattle.strand_words.specs.Words.{top}
use Rattle.word_networks.specs.PlacedGrids.{close_steps}
use Rattle.word_networks.specs.Steps.{step_nodes}
use Rattle.list_lemmas.proofs.Sums.{sum_by_same}

-- a sum with no open name
pub sum_of_closed : (delta : ℕ) (network : Network) → state_sum delta network ≡ pattern_sum delta network [] (λ found. 1)
unfolding pattern_sum
sum_of_closed delta network =
    sum_by_same _ _ (states network.nodes)
    (λ state. closed_plain (state_weight state) delta (part_count (names_of network.nodes) (state_edges network.nodes state)) network.free_loops)
  where
    closed_plain : (w d k free : ℕ) → w * d ^ (k + free) ≡ w * (d ^ (k - 0 + free) * 1)
    closed_plain w d k free = (let e : k ≡ k - 0 = omega arith in ap (λ n. w * d ^ (n + free)) e) ∙ (let p = d ^ (k - 0 + free) in let t : w * p ≡ w * (p * 1) = omega arith in t)

module _ (name : ℕ → ℕ) where
  abbrev pub arc_edges : ℕ → ℕ → List (ℕ × ℕ)
  arc_edges i zero = []
  arc_edges i (suc count) = (name (top i), name (bottom i)) ∷ (name (bottom i), name (top i)) ∷ arc_edges (i + 1) count

  -- ARCS HAVE ONE STATE
  pub arcs_total : (i count : ℕ) (f : List (ℕ × ℕ) → ℕ) → total (step_nodes name (close_steps i count)) f ≡ f (arc_edges i count)
  arcs_total i zero f = refl
  arcs_total i (suc count) f =
      (let k = total (step_nodes name (close_steps (i + 1) count)) (λ es. f ((name (top i), name (bottom i)) ∷ (name (bottom i), name (top i)) ∷ es)) in let t : 0 + 1 * k ≡ k = omega arith in t)
      ∙ arcs_total (i + 1) count (λ es. f ((name (top i), name (bottom i)) ∷ (name (bottom i), name (top i)) ∷ es))

  pub arc_edge : (i count : ℕ) (p q : ℕ) → Contains (arc_edges i count) (p, q) → (k : ℕ) × (i ≤ k) × (k < i + count) × (((p ≡ name (top k)) × (q ≡ name (bottom k))) ⊎ ((p ≡ name (bottom k)) × (q ≡ name (top k))))
  arc_edge i zero p q (j, l, e) = absurd (omega (arith, l))
  arc_edge i (suc count) p q (zero, l, e) = (i, omega arith, omega arith, inl (sym (ap (λ u. u.0) e), sym (ap (λ u. u.1) e)))
  arc_edge i (suc count) p q (suc zero, l, e) = (i, omega arith, omega arith, inr (sym (ap (λ u. u.0) e), sym (ap (λ u. u.1) e)))
  arc_edge i (suc count) p q (suc (suc j), l, e) =
      (let r = arc_edge (i + 1) count p q (j, omega (arith, l), e) in let lo = r.1 in let hi = r.2 in (r.0, omega (arith, lo), omega (arith, hi), r.3))

  pub has_arc : (i count k : ℕ) → i ≤ k → k < i + count → Contains (arc_edges i count) (name (bottom k), name (top k))
  has_arc i zero k lo hi = absurd (omega (arith, lo, hi))
  has_arc i (suc count) k lo hi =
      ⊎_elim (λ (e : i ≡ k). (1, omega arith, ap₂ (λ u v. (u, v)) (ap (λ n. name (bottom n)) e) (ap (λ n. name (top n)) e)))
      (λ (d : i ≢ k). (let r = has_arc (i + 1) count k (omega (arith, lo, d)) (omega (arith, hi)) in (suc (suc r.0), (let l = r.1 in omega (arith, l)), r.2)))
      (cases_eq i k)

  -- THE NAMES OF ARCS ARE THOSE OF THE STRANDS
  pub arc_names : (i count z : ℕ) → is_member ◌==◌ (names_of (step_nodes name (close_steps i count))) z ≡ true → (k : ℕ) × (i ≤ k) × (k < i + count) × ((z ≡ name (top k)) ⊎ (z ≡ name (bottom k)))
  arc_names i zero z m = absurd (grind (arith, m))
  arc_names i (suc count) z m =
      ⊎_elim (λ t. (i, omega arith, omega arith, inl (eqb-true z (name (top i)) t)))
      (λ r. ⊎_elim (λ t. (i, omega arith, omega arith, inr (eqb-true z (name (bottom i)) t)))
      (λ s. (let k = arc_names (i + 1) count z s in let lo = k.1 in let hi = k.2 in (k.0, omega (arith, lo), omega (arith, hi), k.3)))
      (or_cases (z == name (bottom i)) (is_member ◌==◌ (names_of (step_nodes name (close_steps (i + 1) count))) z) r))
      (or_cases (z == name (top i)) (is_member ◌==◌ (name (bottom i) ∷ names_of (step_nodes name (close_steps (i + 1) count))) z) m)
