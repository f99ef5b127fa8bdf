-- A node whose ends stand in another order, with the pairings of its terms, is the same node: place by place its terms have the same edges.
use Rattle.std.proofs.Common.{◌≡◌, ℕ, ◌*◌, ◌%◌, ◌<◌, false, ◌||◌, ◌==◌, List, [], ◌∷◌, ◌++◌, map, length, slice_index, zip, subst, sym, ap, ap₂, ◌∙◌, arith, inl, Contains}
use Rattle.std.specs.List.{range_with_len}
use Rattle.std.specs.Set.{is_member}
use Rattle.std.proofs.lemmas.List.Elements.{All-cons, All-map, All-nil, All-weaker}
use Rattle.std.proofs.lemmas.List.FromFn.{get_or-map-range_with_len, length-map-range_with_len}
use Rattle.graph_parts.proofs.Distinct.{is_member-append}
use Rattle.graph_parts.proofs.Ends.{is_member-get_or}
use Rattle.graph_parts.specs.Laws.{IsAmongEdges}
use Rattle.list_lemmas.proofs.Bools.{same_bool}
use Rattle.list_lemmas.proofs.Items.{member_at}
use Rattle.list_lemmas.proofs.Sums.{sum_by-map}
use Rattle.state_sums.specs.Networks.{Node, Term, IsNode, IsPairing}
use Rattle.state_sums.proofs.LabelSums.{label_weighed}
use Rattle.state_sums.proofs.StateEdges.{sum_by_all}
use Rattle.state_sums.proofs.Sums.{total, total_cong}
use Rattle.piece_laws.specs.Laws.{TurnedNodeLaw}
use Rattle.piece_laws.specs.TurnedNodes.{AreInverse, turned_partner, turned_term, turned_node}
use Rattle.piece_laws.proofs.Alike.{among_between, weighed_alike}
use Rattle.piece_laws.proofs.OneNode.{run_alike, same_between}
use Rattle.piece_laws.proofs.PairedPlaces.{edge_at, edge_from}

module _ (ends : List ℕ) (order back_order : ℕ → ℕ) (inverse : AreInverse (length ends) order back_order) where
  abbrev size : ℕ
  size = length ends

  abbrev new_ends : List ℕ
  new_ends = map (λ i. slice_index ends (order i)) (range_with_len 0 size)

  new_size : length new_ends ≡ size
  new_size = length-map-range_with_len (λ i. slice_index ends (order i)) 0 size

  end_at : (i : ℕ) → i < size → slice_index new_ends i ≡ slice_index ends (order i)
  end_at i l = get_or-map-range_with_len (λ i. slice_index ends (order i)) 0 size i i 0 l (omega arith)

  -- where an old place is now
  end_back : (i : ℕ) → i < size → slice_index new_ends (back_order i) ≡ slice_index ends i
  end_back i l = end_at (back_order i) (inverse.back_within i l) ∙ ap (slice_index ends) (inverse.again i l)

  pub same_ends : (u : ℕ) → is_member ◌==◌ ends u ≡ is_member ◌==◌ new_ends u
  same_ends u =
      same_bool (is_member ◌==◌ ends u) (is_member ◌==◌ new_ends u)
      (λ t. let at = member_at ends u t in
      let l = inverse.back_within at.0 at.1 in
      ap (is_member ◌==◌ new_ends) (sym at.2 ∙ sym (end_back at.0 at.1)) ∙ is_member-get_or new_ends (back_order at.0) (let s = new_size in omega (arith, l, s)))
      (λ t. let at = member_at new_ends u t in
      let l : at.0 < size = (let s = new_size in let k = at.1 in omega (arith, s, k)) in
      ap (is_member ◌==◌ ends) (sym at.2 ∙ end_at at.0 l) ∙ is_member-get_or ends (order at.0) (inverse.order_within at.0 l))

  module _ (partner : List ℕ) (pairing : IsPairing partner) (whole : length partner ≡ size) where
    abbrev new_partner : List ℕ
    new_partner = turned_partner size order back_order partner

    partner_size : length new_partner ≡ size
    partner_size = length-map-range_with_len (λ i. back_order (slice_index partner (order i))) 0 size

    partner_at : (i : ℕ) → i < size → slice_index new_partner i ≡ back_order (slice_index partner (order i))
    partner_at i l = get_or-map-range_with_len (λ i. back_order (slice_index partner (order i))) 0 size i i 0 l (omega arith)

    -- the old places and partners, in range
    old_within : (i : ℕ) → i < size → slice_index partner i < size
    old_within i l = let w = pairing.within i (omega (arith, l, whole)) in omega (arith, w, whole)

    within : (i : ℕ) → i < size → slice_index partner (order i) < size
    within i l = old_within (order i) (inverse.order_within i l)

    pub is_pairing : IsPairing new_partner
    is_pairing = record {
      within = λ i l.
          let k : i < size = (let s = partner_size in omega (arith, s, l)) in
          let e = partner_at i k in let w = inverse.back_within (slice_index partner (order i)) (within i k) in let s = partner_size in omega (arith, e, w, s);
      apart = λ i l same.
          let k : i < size = (let s = partner_size in omega (arith, s, l)) in
          let o = inverse.order_within i k in
          pairing.apart (order i) (omega (arith, o, whole)) (sym (inverse.again (slice_index partner (order i)) (within i k)) ∙ ap order (sym (partner_at i k) ∙ same));
      back = λ i l.
          let k : i < size = (let s = partner_size in omega (arith, s, l)) in
          let o = inverse.order_within i k in
          let j = slice_index partner (order i) in
          ap (slice_index new_partner) (partner_at i k)
          ∙ partner_at (back_order j) (inverse.back_within j (within i k))
          ∙ ap (λ p. back_order (slice_index partner p)) (inverse.again j (within i k))
          ∙ ap back_order (pairing.back (order i) (omega (arith, o, whole)))
          ∙ inverse.there i k;
    }

    abbrev old_edges : List (ℕ × ℕ)
    old_edges = zip ends (map (λ place. slice_index ends place) partner)

    abbrev new_edges : List (ℕ × ℕ)
    new_edges = zip new_ends (map (λ place. slice_index new_ends place) new_partner)

    pub to_turned : IsAmongEdges old_edges new_edges
    to_turned x y c =
        let r = edge_from (λ place. slice_index ends place) ends partner (x, y) c in
        let i = r.0 in
        let j = back_order i in
        let l : i < size = r.1 in
        let lj = inverse.back_within i l in
        let first : slice_index new_ends j ≡ slice_index ends i = end_back i l in
        let second : slice_index new_ends (slice_index new_partner j) ≡ slice_index ends (slice_index partner i) =
        ap (slice_index new_ends) (partner_at j lj ∙ ap (λ p. back_order (slice_index partner p)) (inverse.again i l)) ∙ end_back (slice_index partner i) (old_within i l) in
        inl (subst (Contains new_edges) (ap₂ (λ u v. (u, v)) first second ∙ r.3)
        (edge_at (λ place. slice_index new_ends place) new_ends new_partner j (let s = new_size in omega (arith, lj, s)) (let s = partner_size in omega (arith, lj, s))))

    pub from_turned : IsAmongEdges new_edges old_edges
    from_turned x y c =
        let r = edge_from (λ place. slice_index new_ends place) new_ends new_partner (x, y) c in
        let j = r.0 in
        let lj : j < size = (let k = r.1 in let s = new_size in omega (arith, k, s)) in
        let lo = inverse.order_within j lj in
        let first : slice_index ends (order j) ≡ slice_index new_ends j = sym (end_at j lj) in
        let second : slice_index ends (slice_index partner (order j)) ≡ slice_index new_ends (slice_index new_partner j) =
        sym (end_back (slice_index partner (order j)) (within j lj)) ∙ ap (slice_index new_ends) (sym (partner_at j lj)) in
        inl (subst (Contains old_edges) (ap₂ (λ u v. (u, v)) first second ∙ r.3)
        (edge_at (λ place. slice_index ends place) ends partner (order j) lo (omega (arith, lo, whole))))

-- a turned node is a node
pub IsNode-turned : (order back_order : ℕ → ℕ) (node : Node) → AreInverse (length node.ends) order back_order → IsNode node → IsNode (turned_node order back_order node)
IsNode-turned order back_order node inverse ok =
    let new = turned_node order back_order node in
    All-map (λ term. IsPairing term.partner × (length term.partner ≡ length new.ends)) (turned_term (length node.ends) order back_order) node.terms
    (All-weaker (λ term. IsPairing term.partner × (length term.partner ≡ length node.ends))
    (λ term. IsPairing (turned_partner (length node.ends) order back_order term.partner) × (length (turned_partner (length node.ends) order back_order term.partner) ≡ length new.ends))
    (λ term h. (
      is_pairing node.ends order back_order inverse term.partner h.0 h.1,
      partner_size node.ends order back_order inverse term.partner h.0 h.1 ∙ sym (new_size node.ends order back_order inverse),
    )) node.terms ok)

-- THE ENDS IN ANOTHER ORDER
pub turned_node_same : TurnedNodeLaw
turned_node_same m delta free order back_order node front back open_names p q r inverse has =
    let new = turned_node order back_order node in
    let same : (u : ℕ) → is_member ◌==◌ (node.ends ++ []) u ≡ is_member ◌==◌ (new.ends ++ []) u =
    λ u. is_member-append node.ends [] u ∙ ap (λ t. t || false) (same_ends node.ends order back_order inverse u) ∙ sym (is_member-append new.ends [] u) in
    run_alike m delta free front (node ∷ []) (new ∷ []) back open_names q (All-cons IsNode node [] p (All-nil IsNode))
    (All-cons IsNode new [] (IsNode-turned order back_order node inverse p) (All-nil IsNode)) r same has
    (λ worth es.
    let old_counts : List (ℕ × ℕ) → ℕ = label_weighed delta (front ++ (node ∷ back)) free open_names worth in
    let new_counts : List (ℕ × ℕ) → ℕ = label_weighed delta (front ++ (new ∷ back)) free open_names worth in
    let old_of : Term → ℕ = λ term. total back (λ gs. old_counts (es ++ ((zip node.ends (map (λ place. slice_index node.ends place) term.partner) ++ []) ++ gs))) in
    let new_of : Term → ℕ = λ term. total back (λ gs. new_counts (es ++ ((zip new.ends (map (λ place. slice_index new.ends place) term.partner) ++ []) ++ gs))) in
    ap (λ n. n % m)
    (sum_by_all (λ term. IsPairing term.partner × (length term.partner ≡ length node.ends)) (λ term. term.weight * old_of term)
    (λ term. term.weight * new_of (turned_term (length node.ends) order back_order term)) node.terms p
    (λ term h. ap (λ n. term.weight * n)
    (total_cong back _ _ (λ gs.
    weighed_alike delta (front ++ (node ∷ back)) (front ++ (new ∷ back)) free open_names worth
    (es ++ ((old_edges node.ends order back_order inverse term.partner h.0 h.1 ++ []) ++ gs)) (es ++ ((new_edges node.ends order back_order inverse term.partner h.0 h.1 ++ []) ++ gs))
    (same_between front (node ∷ []) (new ∷ []) back same)
    (among_between es _ _ gs (among_between [] _ _ [] (to_turned node.ends order back_order inverse term.partner h.0 h.1)))
    (among_between es _ _ gs (among_between [] _ _ [] (from_turned node.ends order back_order inverse term.partner h.0 h.1))))))
    ∙ sym (sum_by-map (λ term. term.weight * new_of term) (turned_term (length node.ends) order back_order) node.terms)))
