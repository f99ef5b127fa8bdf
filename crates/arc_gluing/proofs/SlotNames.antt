-- Slots in the place of names: a pairing of slots is one of their names, and as many parts are closed, since slots are renamed
-- one to one.
use Rattle.std.proofs.Common.{◌≡◌, ℕ, ◌<◌, true, ◌==◌, List, map, length, slice_index, zip, sym, ap, ◌∙◌, arith}
use Rattle.std.specs.Set.{is_member}
use Rattle.std.specs.List.{AllPass, All}
use Rattle.std.proofs.lemmas.Bool.{eq-eqb, eqb-true}
use Rattle.std.proofs.lemmas.List.{get_or-map, length-map}
use Rattle.graph_parts.proofs.Agreement.{label_count-agree}
use Rattle.graph_parts.proofs.Ends.{is_member-itself}
use Rattle.graph_parts.proofs.Renaming.{label_after-map, label_count-map, Agree-renamed, zip_map}
use Rattle.graph_parts.specs.Ends.{EndsAre}
use Rattle.graph_parts.specs.Labels.{label_of, label_after}
use Rattle.graph_parts.specs.Patterns.{label_closed}
use Rattle.graph_parts.specs.Renaming.{renamed, IsOneToOne}
use Rattle.state_sums.proofs.NodeNames.{map_within}
use Rattle.arc_gluing.specs.Mates.{IsPairedLabels}
use Rattle.arc_gluing.specs.Pairings.{pair_edges}

module _ (r : ℕ → ℕ) (all : List ℕ) (es : List (ℕ × ℕ)) (one : IsOneToOne r all) (inside : EndsAre (is_member ◌==◌ all) es) where
  label_is : (z : ℕ) → label_after r es z ≡ label_of (map (renamed r) es) (r z)
  label_is z = ap (λ k. k z) (label_after-map r (λ x. x) es)

  to_names : (u v : ℕ) → is_member ◌==◌ all u ≡ true → is_member ◌==◌ all v ≡ true → label_of es u ≡ label_of es v → label_of (map (renamed r) es) (r u) ≡ label_of (map (renamed r) es) (r v)
  to_names u v p q e =
      sym (label_is u) ∙ eqb-true _ _ (Agree-renamed r all es one inside u v p q ∙ eq-eqb _ _ e) ∙ label_is v

  to_slots : (u v : ℕ) → is_member ◌==◌ all u ≡ true → is_member ◌==◌ all v ≡ true → label_of (map (renamed r) es) (r u) ≡ label_of (map (renamed r) es) (r v) → label_of es u ≡ label_of es v
  to_slots u v p q e =
      eqb-true _ _ (sym (Agree-renamed r all es one inside u v p q) ∙ eq-eqb _ _ (label_is u ∙ e ∙ sym (label_is v)))

  module _ (left partner : List ℕ) (among : (i : ℕ) → i < length left → is_member ◌==◌ all (slice_index left i) ≡ true) (h : IsPairedLabels es left partner) where
    at : (i : ℕ) → i < length (map r left) → slice_index (map r left) i ≡ r (slice_index left i)
    at i l = get_or-map r left i 0 0 (let k = length-map left r in omega (arith, k, l))

    -- THE PAIRING OF THE NAMES
    pub IsPairedLabels-named : IsPairedLabels (map (renamed r) es) (map r left) partner
    IsPairedLabels-named = record {
      whole = let k = length-map left r in let w = h.whole in omega (arith, k, w);
      is_pairing = h.is_pairing;
      joined = λ i l. let k = length-map left r in let w = h.whole in
          let il : i < length left = omega (arith, k, l) in
          let jl : slice_index partner i < length left = (let x = h.is_pairing.within i (omega (arith, w, il)) in omega (arith, x, w)) in
          ap (label_of (map (renamed r) es)) (at (slice_index partner i) (omega (arith, jl, k)))
          ∙ to_names _ _ (among (slice_index partner i) jl) (among i il) (h.joined i il)
          ∙ sym (ap (label_of (map (renamed r) es)) (at i l));
      only = λ i j p q e d. let k = length-map left r in
          let il : i < length left = omega (arith, k, p) in let jl : j < length left = omega (arith, k, q) in
          h.only i j il jl (to_slots _ _ (among i il) (among j jl) (sym (ap (label_of (map (renamed r) es)) (at i p)) ∙ e ∙ ap (label_of (map (renamed r) es)) (at j q))) d;
    }

  -- AS MANY CLOSED PARTS
  pub label_closed-named : (left : List ℕ) → AllPass (is_member ◌==◌ all) left → label_closed (map (renamed r) es) (map r all) (map r left) ≡ label_closed es all left
  label_closed-named left a =
      let m = label_count-map r es all in
      let n = label_count-map r es left in
      let p = label_count-agree (is_member ◌==◌ all) (label_after r es) (label_of es) all (Agree-renamed r all es one inside) (is_member-itself all) in
      let q = label_count-agree (is_member ◌==◌ all) (label_after r es) (label_of es) left (Agree-renamed r all es one inside) a in
      omega (arith, m, n, p, q)

pub pair_edges-map : (r : ℕ → ℕ) (names partner : List ℕ) → All (λ place. place < length names) partner → pair_edges (map r names) partner ≡ map (renamed r) (pair_edges names partner)
pair_edges-map r names partner a =
    ap (zip (map r names)) (map_within r names partner a) ∙ zip_map r names (map (λ place. slice_index names place) partner)
