-- A node with one term of weight 1 is its arcs: both have one state, with the same edges.
use Rattle.std.proofs.Common.{append-nil, ◌≡◌, ℕ, ◌%◌, true, false, ◌||◌, ◌==◌, List, [], ◌∷◌, ◌++◌, map, length, slice_index, zip, subst, sym, ap, ◌∙◌, arith, inl, inr, ◌⊎◌, ⊎_elim, zero, suc, All, Contains}
use Rattle.std.specs.Set.{is_member}
use Rattle.std.proofs.lemmas.Bool.{or_left, or_right, or_cases, eq-eqb, eqb-true}
use Rattle.std.proofs.lemmas.List.Elements.{All-cons, All-nil, All-head}
use Rattle.graph_parts.proofs.Distinct.{is_member-append}
use Rattle.graph_parts.proofs.Ends.{is_member-get_or}
use Rattle.graph_parts.proofs.Walks.{Contains-later}
use Rattle.graph_parts.specs.Ends.{ends_of}
use Rattle.graph_parts.specs.Laws.{IsAmongEdges}
use Rattle.list_lemmas.proofs.Bools.{same_bool}
use Rattle.list_lemmas.proofs.Items.{member_at}
use Rattle.state_sums.specs.Networks.{Node, Term, IsNode, IsPairing, names_of}
use Rattle.state_sums.proofs.LabelSums.{label_weighed}
use Rattle.state_sums.proofs.Sums.{total, total_cong}
use Rattle.piece_laws.specs.Arcs.{arcs_of}
use Rattle.piece_laws.specs.Laws.{NodeOfArcsLaw}
use Rattle.piece_laws.proofs.Alike.{among_between, weighed_alike}
use Rattle.piece_laws.proofs.ArcEdges.{arc_edges, arc_edges-within, arc_edges-has, arc_edges-back, names_of-arcs, IsNode-arcs, total-arcs}
use Rattle.piece_laws.proofs.OneNode.{run_alike, same_between}
use Rattle.piece_laws.proofs.PairedPlaces.{edge_at, edge_from}

-- the ends of a pair, and the pair of an end
ends_of-has : (pairs : List (ℕ × ℕ)) (x y : ℕ) → Contains pairs (x, y) → (is_member ◌==◌ (ends_of pairs) x ≡ true) × (is_member ◌==◌ (ends_of pairs) y ≡ true)
ends_of-has [] x y c = absurd (omega (arith, c.1))
ends_of-has (pair ∷ pairs) x y (zero, l, e) =
    let first : pair.0 ≡ x = ap (λ (f : ℕ × ℕ). f.0) e in
    let second : pair.1 ≡ y = ap (λ (f : ℕ × ℕ). f.1) e in
    (or_left (x == pair.0) _ (eq-eqb x pair.0 (sym first)), or_right (y == pair.0) _ (or_left (y == pair.1) _ (eq-eqb y pair.1 (sym second))))
ends_of-has (pair ∷ pairs) x y (suc k, l, e) =
    let r = ends_of-has pairs x y (k, omega (arith, l), e) in
    (or_right (x == pair.0) _ (or_right (x == pair.1) _ r.0), or_right (y == pair.0) _ (or_right (y == pair.1) _ r.1))

pair_of : (pairs : List (ℕ × ℕ)) (x : ℕ) → is_member ◌==◌ (ends_of pairs) x ≡ true → (y : ℕ) × (Contains pairs (x, y) ⊎ Contains pairs (y, x))
pair_of [] x m = absurd (grind (arith, m))
pair_of (pair ∷ pairs) x m =
    ⊎_elim
    (λ e. let same : pair.0 ≡ x = sym (eqb-true x pair.0 e) in (pair.1, inl (0, omega arith, ap (λ z. let g : ℕ × ℕ = (z, pair.1) in g) same)))
    (λ n. ⊎_elim
    (λ e. let same : pair.1 ≡ x = sym (eqb-true x pair.1 e) in (pair.0, inr (0, omega arith, ap (λ z. let g : ℕ × ℕ = (pair.0, z) in g) same)))
    (λ k. let r = pair_of pairs x k in (r.0, ⊎_elim (λ c. inl (Contains-later pair (x, r.0) pairs c)) (λ c. inr (Contains-later pair (r.0, x) pairs c)) r.1))
    (or_cases (x == pair.1) (is_member ◌==◌ (ends_of pairs) x) n))
    (or_cases (x == pair.0) (x == pair.1 || is_member ◌==◌ (ends_of pairs) x) m)

module _ (ends partner : List ℕ) (pairs : List (ℕ × ℕ)) (pairing : IsPairing partner) (whole : length partner ≡ length ends)
    (to : IsAmongEdges (zip ends (map (λ place. slice_index ends place) partner)) pairs)
    (from : IsAmongEdges pairs (zip ends (map (λ place. slice_index ends place) partner))) where
  abbrev edges : List (ℕ × ℕ)
  edges = zip ends (map (λ place. slice_index ends place) partner)

  end_places : (x y : ℕ) → Contains edges (x, y) → (is_member ◌==◌ ends x ≡ true) × (is_member ◌==◌ ends y ≡ true)
  end_places x y c =
      let r = edge_from (λ place. slice_index ends place) ends partner (x, y) c in
      let first : slice_index ends r.0 ≡ x = ap (λ (f : ℕ × ℕ). f.0) r.3 in
      let second : slice_index ends (slice_index partner r.0) ≡ y = ap (λ (f : ℕ × ℕ). f.1) r.3 in
      let w = pairing.within r.0 r.2 in (
        ap (is_member ◌==◌ ends) (sym first) ∙ is_member-get_or ends r.0 r.1,
        ap (is_member ◌==◌ ends) (sym second) ∙ is_member-get_or ends (slice_index partner r.0) (omega (arith, w, whole)),
      )

  either_way : (x y : ℕ) → Contains edges (x, y) ⊎ Contains edges (y, x) → (is_member ◌==◌ ends x ≡ true) × (is_member ◌==◌ ends y ≡ true)
  either_way x y c = ⊎_elim (λ d. end_places x y d) (λ d. let r = end_places y x d in (r.1, r.0)) c

  same_ends : (u : ℕ) → is_member ◌==◌ ends u ≡ is_member ◌==◌ (ends_of pairs) u
  same_ends u =
      same_bool (is_member ◌==◌ ends u) (is_member ◌==◌ (ends_of pairs) u)
      (λ t.
      let at = member_at ends u t in
      let here = edge_at (λ place. slice_index ends place) ends partner at.0 at.1 (let l = at.1 in omega (arith, l, whole)) in
      let first : slice_index ends at.0 ≡ u = at.2 in
      ap (is_member ◌==◌ (ends_of pairs)) (sym first)
      ∙ ⊎_elim (λ c. (ends_of-has pairs _ _ c).0) (λ c. (ends_of-has pairs _ _ c).1) (to (slice_index ends at.0) (slice_index ends (slice_index partner at.0)) here))
      (λ t.
      let p = pair_of pairs u t in
      ⊎_elim (λ c. (either_way u p.0 (from u p.0 c)).0) (λ c. (either_way p.0 u (from p.0 u c)).1) p.1)

  pub to_arcs : IsAmongEdges edges (arc_edges pairs)
  to_arcs x y c = inl (⊎_elim (λ d. arc_edges-has pairs x y d) (λ d. arc_edges-back pairs y x d) (to x y c))

  pub from_arcs : IsAmongEdges (arc_edges pairs) edges
  from_arcs x y c = ⊎_elim (λ d. from x y d) (λ d. ⊎_elim (λ e. inr e) (λ e. inl e) (from y x d)) (arc_edges-within pairs x y c)

-- A NODE IS ITS ARCS
pub node_of_arcs : NodeOfArcsLaw
node_of_arcs m delta free group ends partner pairs front back open_names p q r to from has =
    let term : Term = record { weight = 1; partner = partner } in
    let node : Node = record { group = group; ends = ends; terms = term ∷ [] } in
    let ok = All-head (λ (t : Term). IsPairing t.partner × (length t.partner ≡ length ends)) term [] p in
    let E : List (ℕ × ℕ) = zip ends (map (λ place. slice_index ends place) partner) in
    let same : (u : ℕ) → is_member ◌==◌ (ends ++ []) u ≡ is_member ◌==◌ (names_of (arcs_of pairs)) u =
    λ u. is_member-append ends [] u ∙ ap (λ t. t || false) (same_ends ends partner pairs ok.0 ok.1 to from u) ∙ sym (is_member-append (ends_of pairs) [] u)
    ∙ sym (ap (λ ns. is_member ◌==◌ ns u) (ap names_of (sym (append-nil (arcs_of pairs))) ∙ names_of-arcs pairs [])) in
    run_alike m delta free front (node ∷ []) (arcs_of pairs) back open_names q (All-cons IsNode node [] p (All-nil IsNode)) (subst (All IsNode) (append-nil (arcs_of pairs)) (IsNode-arcs pairs [] (All-nil IsNode))) r same has
    (λ worth es.
    let old_counts : List (ℕ × ℕ) → ℕ = label_weighed delta (front ++ (node ∷ back)) free open_names worth in
    let new_counts : List (ℕ × ℕ) → ℕ = label_weighed delta (front ++ (arcs_of pairs ++ back)) free open_names worth in
    let old_of : List (ℕ × ℕ) → ℕ = λ fs. total back (λ gs. old_counts (es ++ (fs ++ gs))) in
    let new_of : List (ℕ × ℕ) → ℕ = λ fs. total back (λ gs. new_counts (es ++ (fs ++ gs))) in
    let one : total (node ∷ []) old_of ≡ old_of (E ++ []) = omega arith in
    ap (λ n. n % m)
    (one
    ∙ total_cong back _ _ (λ gs.
    weighed_alike delta (front ++ (node ∷ back)) (front ++ (arcs_of pairs ++ back)) free open_names worth (es ++ ((E ++ []) ++ gs)) (es ++ ((arc_edges pairs ++ []) ++ gs))
    (same_between front (node ∷ []) (arcs_of pairs) back same)
    (among_between es _ _ gs (among_between [] _ _ [] (to_arcs ends partner pairs ok.0 ok.1 to from)))
    (among_between es _ _ gs (among_between [] _ _ [] (from_arcs ends partner pairs ok.0 ok.1 to from))))
    ∙ sym (ap (λ ns. total ns new_of) (sym (append-nil (arcs_of pairs))) ∙ total-arcs pairs [] new_of)))
