-- The pairs of a pairing stand in for the edges that gave it, under any edges that meet these at paired names alone.
use Rattle.std.proofs.Common.{◌≡◌, ℕ, ◌+◌, ◌<◌, Bool, true, ◌==◌, ⊎_elim, List, ◌++◌, length, slice_index, zip, sym, ap, ◌∙◌, arith}
use Rattle.std.specs.Set.{is_member}
use Rattle.std.specs.List.{AllPass}
use Rattle.std.proofs.lemmas.Bool.{eq-eqb, eqb-true, cases_Bool}
use Rattle.std.proofs.lemmas.List.Elements.{All-weaker}
use Rattle.arc_gluing.proofs.Kept.{Keeps, Keeps-own, Keeps-zip, zip-Keeps, kept}
use Rattle.arc_gluing.proofs.OneEdge.{same_or_not}
use Rattle.graph_parts.proofs.Agreement.{from_All}
use Rattle.list_lemmas.proofs.Items.{same_items, member_at}
use Rattle.graph_parts.proofs.Agreement.{eqb_from_iff, label_count-agree, label_count-swap}
use Rattle.graph_parts.proofs.Counting.{label_after-append, Agree-after}
use Rattle.graph_parts.proofs.Distinct.{is_member-append}
use Rattle.graph_parts.proofs.Ends.{EndsAre-weaker, is_member-itself, is_member-get_or}
use Rattle.graph_parts.proofs.Gluing.{label_closed-glue}
use Rattle.graph_parts.proofs.Through.{is_outer, alone, Agree-pattern}
use Rattle.graph_parts.specs.Ends.{EndsAre}
use Rattle.graph_parts.specs.Labels.{label_of, Agree}
use Rattle.graph_parts.specs.Patterns.{label_closed, label_pattern}
use Rattle.arc_gluing.specs.Mates.{IsPairedLabels}
use Rattle.arc_gluing.specs.Pairings.{pair_edges}

-- ---- what a pairing tells of the labels of its names
module _ (names inner partner : List ℕ) (es : List (ℕ × ℕ)) (ends : EndsAre (is_member ◌==◌ names) es) (h : IsPairedLabels es inner partner) where
  by_places : (i j : ℕ) → i < length inner → j < length inner → label_of es (slice_index inner i) ≡ label_of es (slice_index inner j) →
      label_of (pair_edges inner partner) (slice_index inner i) ≡ label_of (pair_edges inner partner) (slice_index inner j)
  by_places i j p q e =
      same_or_not j i (λ t. ap (λ k. label_of (pair_edges inner partner) (slice_index inner k)) (sym t))
      (λ d. let m = h.only i j p q e d in let w = h.whole in
      zip-Keeps (label_of (pair_edges inner partner)) (slice_index inner) inner partner (Keeps-own (pair_edges inner partner)) i p (omega (arith, w, p))
      ∙ ap (λ k. label_of (pair_edges inner partner) (slice_index inner k)) (sym m))

  to_pairs : (u v : ℕ) → is_outer names inner u ≡ true → is_outer names inner v ≡ true → label_of es u ≡ label_of es v → label_of (pair_edges inner partner) u ≡ label_of (pair_edges inner partner) v
  to_pairs u v p q e =
      ⊎_elim
      (λ s. ⊎_elim
      (λ t.
      let mu = member_at inner u (grind (arith, p, s)) in
      let mv = member_at inner v (grind (arith, q, t)) in
      ap (label_of (pair_edges inner partner)) (sym mu.2)
      ∙ by_places mu.0 mv.0 mu.1 mv.1 (ap (label_of es) mu.2 ∙ e ∙ sym (ap (label_of es) mv.2))
      ∙ ap (label_of (pair_edges inner partner)) mv.2)
      (λ t. ap (label_of (pair_edges inner partner)) (sym (alone (is_member ◌==◌ names) es ends v u t (sym e))))
      (cases_Bool (is_member ◌==◌ names v)))
      (λ s. ap (label_of (pair_edges inner partner)) (alone (is_member ◌==◌ names) es ends u v s e))
      (cases_Bool (is_member ◌==◌ names u))

  pairs_kept : Keeps (label_of es) (pair_edges inner partner)
  pairs_kept = Keeps-zip (label_of es) (slice_index inner) inner partner (λ i p q. sym (h.joined i p))

  pub Agree-pairing : Agree (is_outer names inner) (label_of es) (label_of (pair_edges inner partner))
  Agree-pairing u v p q =
      eqb_from_iff (label_of es u) (label_of es v) _ _ (to_pairs u v p q) (λ e. kept (label_of es) (pair_edges inner partner) pairs_kept u v e)

module _ (names others inner outer partner : List ℕ) (es fs : List (ℕ × ℕ)) (p : EndsAre (is_member ◌==◌ names) es) (q : EndsAre (is_member ◌==◌ others) fs)
    (has : AllPass (is_member ◌==◌ names) inner)
    (meets : (x : ℕ) → is_member ◌==◌ others x ≡ true → is_member ◌==◌ names x ≡ true → is_member ◌==◌ inner x ≡ true)
    (left : AllPass (is_member ◌==◌ (others ++ inner)) outer) (h : IsPairedLabels es inner partner) where
  inside : ℕ → Bool
  inside = is_outer names inner

  outer_others : (x : ℕ) → is_member ◌==◌ others x ≡ true → is_outer names inner x ≡ true
  outer_others x m = let k = meets x m in grind (arith, k)

  outer_either : (x : ℕ) → is_member ◌==◌ (others ++ inner) x ≡ true → is_outer names inner x ≡ true
  outer_either x m = let a = is_member-append others inner x in let k = outer_others x in grind (arith, m, a, k)

  either_outer : AllPass (is_outer names inner) (others ++ inner)
  either_outer = All-weaker (λ x. is_member ◌==◌ (others ++ inner) x ≡ true) (λ x. is_outer names inner x ≡ true) outer_either (others ++ inner) (is_member-itself (others ++ inner))

  left_outer : AllPass (is_outer names inner) outer
  left_outer = All-weaker (λ x. is_member ◌==◌ (others ++ inner) x ≡ true) (λ x. is_outer names inner x ≡ true) outer_either outer left

  -- the labels after the rest's edges tell alike what passes, from the nodes' edges and from any edges that agree with them
  after : (ps rs : List (ℕ × ℕ)) → Agree (is_outer names inner) (label_of ps) (label_of rs) → Agree (is_outer names inner) (label_of (ps ++ fs)) (label_of (rs ++ fs))
  after ps rs a u v hu hv =
      ap (λ k. k u == k v) (label_after-append (λ x. x) ps fs)
      ∙ Agree-after (is_outer names inner) (label_of ps) (label_of rs) fs (EndsAre-weaker (is_member ◌==◌ others) (is_outer names inner) outer_others fs q) a u v hu hv
      ∙ sym (ap (λ k. k u == k v) (label_after-append (λ x. x) rs fs))

  agree : Agree (is_outer names inner) (label_of (es ++ fs)) (label_of (pair_edges inner partner ++ fs))
  agree = after es (pair_edges inner partner) (Agree-pairing names inner partner es p h)

  agree_pattern : Agree (is_outer names inner) (label_of (zip inner (label_pattern es inner) ++ fs)) (label_of (pair_edges inner partner ++ fs))
  agree_pattern u v hu hv = sym (after es (zip inner (label_pattern es inner)) (Agree-pattern names inner es p) u v hu hv) ∙ agree u v hu hv

  -- CLOSED PARTS OF ALL
  pub label_closed-pairing : label_closed (es ++ fs) (names ++ others) outer ≡ label_closed es names inner + label_closed (pair_edges inner partner ++ fs) (inner ++ others) outer
  label_closed-pairing =
      let c = label_closed-glue names others inner outer es fs p q has meets left in
      let a = label_count-agree (is_outer names inner) (label_of (zip inner (label_pattern es inner) ++ fs)) (label_of (pair_edges inner partner ++ fs)) (others ++ inner) agree_pattern either_outer in
      let b = label_count-agree (is_outer names inner) (label_of (zip inner (label_pattern es inner) ++ fs)) (label_of (pair_edges inner partner ++ fs)) outer agree_pattern left_outer in
      let s = label_count-swap (label_of (pair_edges inner partner ++ fs)) others inner in
      omega (arith, c, a, b, s)

  -- THE PAIRING OF ALL
  pub IsPairedLabels-through : (last : List ℕ) → IsPairedLabels (pair_edges inner partner ++ fs) outer last → IsPairedLabels (es ++ fs) outer last
  IsPairedLabels-through last k =
      let passes : (i : ℕ) → i < length outer → is_outer names inner (slice_index outer i) ≡ true = λ i l.
      outer_either (slice_index outer i) (from_All (is_member ◌==◌ (others ++ inner)) outer left (slice_index outer i) (is_member-get_or outer i l)) in
      record {
        whole = k.whole;
        is_pairing = k.is_pairing;
        joined = λ i l. let m = k.is_pairing.within i (let w = k.whole in omega (arith, w, l)) in
            let jl : slice_index last i < length outer = (let w = k.whole in omega (arith, w, m)) in
            eqb-true _ _ (agree _ _ (passes (slice_index last i) jl) (passes i l) ∙ eq-eqb _ _ (k.joined i l));
        only = λ i j pi pj e d. k.only i j pi pj (eqb-true _ _ (sym (agree _ _ (passes i pi) (passes j pj)) ∙ eq-eqb _ _ e)) d;
      }

-- ONE PAIRING AT MOST BELONGS TO THE PARTS
pub one_pairing : (names p q : List ℕ) (es : List (ℕ × ℕ)) → IsPairedLabels es names p → IsPairedLabels es names q → p ≡ q
one_pairing names p q es h k =
    same_items p q (let a = h.whole in let b = k.whole in omega (arith, a, b))
    (λ i l. let a = h.whole in let il : i < length names = omega (arith, a, l) in let w = h.is_pairing.within i l in
    k.only i (slice_index p i) il (omega (arith, a, w)) (sym (h.joined i il)) (h.is_pairing.apart i l))
