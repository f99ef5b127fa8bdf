-- The loops of a closed pairing are what closing its strands one by one comes to.
use Rattle.std.proofs.Common.{◌≡◌, ◌≢◌, ℕ, zero, suc, ◌+◌, ◌-◌, ◌*◌, ◌^◌, ◌<◌, ◌≤◌, Bool, true, false, cond, not, ◌==◌, ◌||◌, ◌&&◌, nat_lt, List, [], ◌∷◌, ◌++◌, map, refl, sym, ap, ap₂, ◌∙◌, arith, Contains, subst, ⊎_elim, ◌⊎◌, inl, inr}
use Rattle.std.specs.List.{range_with_len}
use Rattle.std.specs.Set.{is_member}
use Rattle.std.proofs.lemmas.Bool.Decides.{nat_tests}
use Rattle.std.proofs.lemmas.List.Elements.{All-cons, All-nil, All-map, All-weaker, Contains-append_left, Contains-append_right, Contains-append_cases}
use Rattle.std.proofs.lemmas.List.FromFn.{length-range_with_len}
use Rattle.arc_gluing.specs.Pairings.{pair_edges}
use Rattle.arc_gluing.proofs.Glued.{EndsAre-pair_edges}
use Rattle.graph_parts.specs.Ends.{AreAmong, EndsAre}
use Rattle.graph_parts.specs.Parts.{part_count}
use Rattle.graph_parts.proofs.Counting.{is_member-map}
use Rattle.graph_parts.proofs.Distinct.{is_member-append}
use Rattle.graph_parts.proofs.Ends.{is_member-itself, EndsAre-append, EndsAre-weaker}
use Rattle.graph_parts.proofs.PartLaws.{same_edges, same_names}
use Rattle.state_sums.specs.LocalSums.{pattern_sum}
use Rattle.state_sums.specs.Networks.{Node, Term, names_of}
use Rattle.state_sums.specs.StateSums.{term_edges}
use Rattle.state_sums.proofs.Congruent.{pow_0}
use Rattle.state_sums.proofs.Sums.{total}
use Rattle.state_sums.proofs.StateSums.{state_sum-nested}
use Rattle.strand_algebra.specs.StrandPairings.{closure, closure_loops}
use Rattle.strand_algebra.proofs.ByLabels.{IsPairingOn-from_points}
use Rattle.strand_algebra.proofs.Contractions.{below_range}
use Rattle.strand_algebra.proofs.LabelProducts.{IsPairingOf}
use Rattle.strand_algebra.proofs.OneSide.{map_range}
use Rattle.strand_algebra.proofs.Stacks.{Contains-range}
use Rattle.strand_words.specs.Boxes.{bottom, close_worth, Weighted}
use Rattle.strand_words.specs.Words.{top}
use Rattle.word_networks.specs.BoxNetworks.{AreBoxed, AreStepsBehind}
use Rattle.word_networks.specs.PlacedGrids.{close_steps}
use Rattle.word_networks.specs.Steps.{without, names_after, points_after, step_nodes, step_sum, mate_worth, AreSteps}
use Rattle.word_networks.specs.Strands.{strand_of, strand_points}
use Rattle.word_networks.proofs.BoxNetworks.{box_pattern_sum}
use Rattle.word_networks.proofs.PlacedGrids.{close_sum}
use Rattle.word_networks.proofs.Points.{is_member-without}
use Rattle.word_networks.proofs.Strands.{member_strands, strands_member, strand_top, strand_bottom}
use Rattle.box_laws.specs.StrandBoxes.{place_of, point_at, mate_of}
use Rattle.box_laws.proofs.BoxNodes.{terms_on, box_node, in_inner, mate_inner, boxed_from}
use Rattle.box_laws.proofs.Closings.{sum_of_closed, arc_edges, arcs_total, arc_edge, has_arc, arc_names}
use Rattle.piece_laws.proofs.NameCounts.{member_mapped}
use Rattle.box_laws.proofs.ProjectorCurls.{closed_member, strand_test}
use Rattle.box_laws.proofs.StrandBoxes.{mate_of-IsMating, place_below, place_point, point_place}
use Rattle.list_lemmas.proofs.Ranges.{is_member-range}

-- ---- lists
no_member : (xs : List ℕ) → ((u : ℕ) → is_member ◌==◌ xs u ≡ true → ⊥) → xs ≡ []
no_member [] h = refl
no_member (x ∷ xs) h = absurd (h x (grind (arith, nat_tests)))

map_id : (a k : ℕ) → map (λ j. j) (range_with_len a k) ≡ range_with_len a k
map_id a zero = refl
map_id a (suc k) = ap (λ xs. a ∷ xs) (map_id (a + 1) k)

pub range_edge : (f : ℕ → ℕ × ℕ) (a k : ℕ) (x y : ℕ) → Contains (map f (range_with_len a k)) (x, y) → (i : ℕ) × (a ≤ i) × (i < a + k) × (f i ≡ (x, y))
range_edge f a zero x y (j, l, e) = absurd (omega (arith, l))
range_edge f a (suc k) x y (zero, l, e) = (a, omega arith, omega arith, e)
range_edge f a (suc k) x y (suc j, l, e) = (let r = range_edge f (a + 1) k x y (j, omega (arith, l), e) in let lo = r.1 in let hi = r.2 in (r.0, omega (arith, lo), omega (arith, hi), r.3))

ends_range : (inside : ℕ → Bool) (f : ℕ → ℕ × ℕ) (a k : ℕ) → ((i : ℕ) → a ≤ i → i < a + k → (inside (f i).0 ≡ true) × (inside (f i).1 ≡ true)) → EndsAre inside (map f (range_with_len a k))
ends_range inside f a zero h = tt
ends_range inside f a (suc k) h =
    let p = h a (omega arith) (omega arith) in
    (p.0, p.1, ends_range inside f (a + 1) k (λ i lo hi. h i (omega (arith, lo)) (omega (arith, hi))))

-- ---- closing steps may be taken
pub close_are_steps : (points seen : List ℕ) (i count : ℕ) → ((u : ℕ) → i ≤ strand_of u → strand_of u < i + count → is_member ◌==◌ points u ≡ true) → AreSteps points seen (close_steps i count)
close_are_steps points seen i zero h = tt
close_are_steps points seen i (suc count) h =
    let st = strand_top i in
    let sb = strand_bottom i in (
      ((λ t. omega (arith, t)), h (top i) (omega (arith, st)) (omega (arith, st)), h (bottom i) (omega (arith, sb)) (omega (arith, sb))),
      close_are_steps (without (top i) (bottom i) points) seen (i + 1) count
          (λ u lo hi. (let m = h u (omega (arith, lo)) (omega (arith, hi)) in let d : strand_of u ≢ i = λ e. omega (arith, lo, e) in
          is_member-without (top i) (bottom i) points u ∙ both (is_member ◌==◌ points u) _ m (strand_test u i ∙ not_same (strand_of u) i d))),
    )
  where
    both : (s t : Bool) → s ≡ true → t ≡ true → (s && t) ≡ true
    both s t p q = grind (arith, p, q)

    not_same : (s i : ℕ) → s ≢ i → not (s == i) ≡ true
    not_same s i d = grind (arith, nat_tests, d)

pub none_left : (n : ℕ) → points_after (strand_points 0 n) (close_steps 0 n) ≡ []
none_left n =
    no_member (points_after (strand_points 0 n) (close_steps 0 n))
    (λ u m.
    (let r = closed_member (strand_points 0 n) 0 n u m in
    let t = (member_strands 0 n u r.0).1 in
    ⊎_elim (λ l. omega (arith, l)) (λ l. omega (arith, l, t)) r.1))

module _ (n : ℕ) (q : List ℕ) (hq : IsPairingOf (n + n) q) where
  abbrev name : ℕ → ℕ
  name = place_of 0 n

  abbrev at : ℕ → ℕ
  at = point_at 0 n

  abbrev inner : List ℕ
  inner = strand_points 0 n

  abbrev R : List ℕ
  R = range_with_len 0 (n + n)

  abbrev term : Term
  term = record { weight = 1; partner = q }

  abbrev node : Node
  node = record { group = 0; ends = map (λ j. name (at j)) R; terms = term ∷ [] }

  ends_are : node.ends ≡ R
  ends_are = map_range (λ j. name (at j)) (λ j. j) 0 (n + n) (λ j lo hi. place_point 0 n j (omega (arith, hi))) ∙ map_id 0 (n + n)

  name_top : (k : ℕ) → k < n → name (top k) ≡ n + n - 1 - k
  name_top k l =
      let j = n + n - 1 - k in
      let p : at j ≡ top k =
      ap (λ b. cond b (bottom (0 + j)) (top (0 + (n + n - 1 - j)))) (let t : nat_lt j n ≡ false = grind (arith, nat_tests, l) in t) ∙ ap top (let t : 0 + (n + n - 1 - j) ≡ k = omega (arith, l) in t) in
      ap name (sym p) ∙ place_point 0 n j (omega (arith, l))

  name_bottom : (k : ℕ) → k < n → name (bottom k) ≡ k
  name_bottom k l =
      let p : at k ≡ bottom k = ap (λ b. cond b (bottom (0 + k)) (top (0 + (n + n - 1 - k)))) (let t : nat_lt k n ≡ true = grind (arith, nat_tests, l) in t) ∙ ap bottom (let t : 0 + k ≡ k = omega arith in t) in
      ap name (sym p) ∙ place_point 0 n k (omega (arith, l))

  boxed : AreBoxed inner inner name (mate_of 0 n q)
  boxed = record {
    mating = mate_of-IsMating 0 n q hq;
    within = λ u m. m;
    inside = mate_inner 0 n name q hq;
    closed = mate_inner 0 n name q hq;
    alone = λ u v mu mv e.
        (let s = member_strands 0 n u mu in let t = member_strands 0 n v mv in
        sym (point_place 0 n u (boxed_from 0 n u s.0 s.1)) ∙ ap at e ∙ point_place 0 n v (boxed_from 0 n v t.0 t.1));
    stand = λ u v mu mv nu nv. absurd (clash (is_member ◌==◌ inner u) mu nu);
  }
    where
      clash : (t : Bool) → t ≡ true → t ≡ false → ⊥
      clash t p q = grind (arith, p, q)

  in_R : (j : ℕ) → j < n + n → is_member ◌==◌ R j ≡ true
  in_R j l = is_member-range 0 (n + n) j (omega arith) (omega (arith, l))

  name_in : (u : ℕ) → strand_of u < n → is_member ◌==◌ R (name u) ≡ true
  name_in u l = in_R (name u) (place_below 0 n u (boxed_from 0 n u (omega arith) (omega (arith, l))))

  behind : AreStepsBehind node inner inner name (close_steps 0 n)
  behind = record {
    are_steps = close_are_steps inner (map name inner) 0 n (λ u lo hi. strands_member 0 n u lo hi);
    ends = λ z k.
        (let r = member_mapped (λ j. name (at j)) R z k in let l = below_range 0 (n + n) r.0 r.1 in
        ap (is_member ◌==◌ (map name inner)) r.2 ∙ is_member-map name inner (at r.0) (in_inner 0 n name r.0 (omega (arith, l))));
    meets_all =
        All-map (λ z. is_member ◌==◌ (node.ends ++ names_of (step_nodes name (close_steps 0 n))) z ≡ true) name inner
        (All-weaker (λ u. is_member ◌==◌ inner u ≡ true) (λ u. is_member ◌==◌ (node.ends ++ names_of (step_nodes name (close_steps 0 n))) (name u) ≡ true)
        (λ u k.
        (let s = (member_strands 0 n u k).1 in
        is_member-append node.ends (names_of (step_nodes name (close_steps 0 n))) (name u)
        ∙ either (is_member ◌==◌ node.ends (name u)) (is_member ◌==◌ (names_of (step_nodes name (close_steps 0 n))) (name u)) (ap (λ ns. is_member ◌==◌ ns (name u)) ends_are ∙ name_in u (omega (arith, s))))) inner (is_member-itself inner));
  }
    where
      either : (s t : Bool) → s ≡ true → (s || t) ≡ true
      either s t p = grind (arith, p)

  -- ---- the parts
  abbrev E : List (ℕ × ℕ)
  E = term_edges node term

  abbrev A : List (ℕ × ℕ)
  A = arc_edges name 0 n

  abbrev names : List ℕ
  names = names_of (node ∷ step_nodes name (close_steps 0 n))

  E_is : E ≡ pair_edges R q
  E_is = ap (λ ends. pair_edges ends q) ends_are

  pairs_among : AreAmong R (pair_edges R q)
  pairs_among =
      EndsAre-pair_edges R q (IsPairingOn-from_points n q hq).is_pairing (let a = hq.length_is in let b = length-range_with_len 0 (n + n) in omega (arith, a, b))

  arcs_among : (i count : ℕ) → i + count ≤ n → AreAmong R (arc_edges name i count)
  arcs_among i zero l = tt
  arcs_among i (suc count) l =
      let t = name_in (top i) (let s = strand_top i in omega (arith, s, l)) in
      let b = name_in (bottom i) (let s = strand_bottom i in omega (arith, s, l)) in
      (t, b, (b, t, arcs_among (i + 1) count (omega (arith, l))))

  closure_among : AreAmong R (closure n q)
  closure_among =
      EndsAre-append (is_member ◌==◌ R) (pair_edges R q) (map (λ i. (i, n + n - 1 - i)) (range_with_len 0 n)) pairs_among
      (ends_range (is_member ◌==◌ R) (λ i. (i, n + n - 1 - i)) 0 n (λ i lo hi. (in_R i (omega (arith, hi)), in_R (n + n - 1 - i) (omega (arith, hi)))))

  names_are : (z : ℕ) → is_member ◌==◌ names z ≡ is_member ◌==◌ R z
  names_are z =
      is_member-append node.ends (names_of (step_nodes name (close_steps 0 n))) z
      ∙ plain (is_member ◌==◌ node.ends z) (is_member ◌==◌ (names_of (step_nodes name (close_steps 0 n))) z) (is_member ◌==◌ R z) (ap (λ ns. is_member ◌==◌ ns z) ends_are)
      (λ m.
      (let r = arc_names name 0 n z m in
      let hi = r.2 in
      ⊎_elim (λ e. ap (is_member ◌==◌ R) e ∙ name_in (top r.0) (let s = strand_top r.0 in omega (arith, s, hi)))
      (λ e. ap (is_member ◌==◌ R) e ∙ name_in (bottom r.0) (let s = strand_bottom r.0 in omega (arith, s, hi))) r.3))
    where
      plain : (e a r : Bool) → e ≡ r → (a ≡ true → r ≡ true) → (e || a) ≡ r
      plain e a r p h = grind (arith, p, h)

  to_closure : (x y : ℕ) → Contains (pair_edges R q ++ A) (x, y) → Contains (closure n q) (x, y) ⊎ Contains (closure n q) (y, x)
  to_closure x y c =
      let strands : List (ℕ × ℕ) = map (λ i. (i, n + n - 1 - i)) (range_with_len 0 n) in
      ⊎_elim (λ l. inl (Contains-append_left (pair_edges R q) strands (x, y) l))
      (λ r.
      (let e = arc_edge name 0 n x y r in
      let k = e.0 in
      let hi = e.2 in
      let below : k < n = omega (arith, hi) in
      let there = Contains-append_right (pair_edges R q) strands (k, n + n - 1 - k) (Contains-range (λ i. (i, n + n - 1 - i)) 0 n k (omega arith) (omega (arith, below))) in
      ⊎_elim
      (λ w. inr (subst (Contains (closure n q)) (ap₂ (λ u v. (u, v)) (sym (w.1 ∙ name_bottom k below)) (sym (w.0 ∙ name_top k below))) there))
      (λ w. inl (subst (Contains (closure n q)) (ap₂ (λ u v. (u, v)) (sym (w.0 ∙ name_bottom k below)) (sym (w.1 ∙ name_top k below))) there))
      e.3))
      (Contains-append_cases (pair_edges R q) A (x, y) c)

  from_closure : (x y : ℕ) → Contains (closure n q) (x, y) → Contains (pair_edges R q ++ A) (x, y) ⊎ Contains (pair_edges R q ++ A) (y, x)
  from_closure x y c =
      let strands : List (ℕ × ℕ) = map (λ i. (i, n + n - 1 - i)) (range_with_len 0 n) in
      ⊎_elim (λ l. inl (Contains-append_left (pair_edges R q) A (x, y) l))
      (λ r.
      (let e = range_edge (λ i. (i, n + n - 1 - i)) 0 n x y r in
      let k = e.0 in
      let hi = e.2 in
      let below : k < n = omega (arith, hi) in
      inl (Contains-append_right (pair_edges R q) A (x, y)
      (subst (Contains A) (ap₂ (λ u v. (u, v)) (name_bottom k below) (name_top k below) ∙ e.3) (has_arc name 0 n k (omega arith) (omega (arith, below)))))))
      (Contains-append_cases (pair_edges R q) strands (x, y) c)

  parts_are : part_count names (E ++ A) ≡ closure_loops n q
  parts_are =
      let glued = pair_edges R q ++ A in
      let among : AreAmong R glued = EndsAre-append (is_member ◌==◌ R) (pair_edges R q) A pairs_among (arcs_among 0 n (omega arith)) in
      ap (λ e. part_count names (e ++ A)) E_is
      ∙ same_names names R glued (EndsAre-weaker (is_member ◌==◌ R) (is_member ◌==◌ names) (λ x m. names_are x ∙ m) glued among) names_are
      ∙ same_edges R glued (closure n q) among closure_among to_closure from_closure

  -- THE LOOPS OF THE CLOSURE
  pub closed_loops : (delta : ℕ) → delta ^ closure_loops n q ≡ close_worth delta 0 n (λ mate. 1) (mate_of 0 n q)
  closed_loops delta =
      let close = close_steps 0 n in
      let nodes = node ∷ step_nodes name close in
      let last = names_after name close in
      let left = points_after inner close in
      let worth : (ℕ → ℕ) → ℕ = mate_worth delta 0 (λ found. 1) last left in
      let box : List Weighted = record { weight = 1; mate = mate_of 0 n q } ∷ [] in
      let g : List (ℕ × ℕ) → ℕ = λ es. delta ^ (part_count names es + 0) in
      let one : (mate : ℕ → ℕ) → worth mate ≡ 1 = λ mate. (let e = pow_0 delta in one_plain (delta ^ 0) e) in
      let ones : worth ≡ (λ mate. 1) = λ i mate. one mate i in
      let plus_zero : closure_loops n q ≡ closure_loops n q + 0 = omega arith in
      ap (λ k. delta ^ k) plus_zero
      ∙ sym (ap (λ k. delta ^ (k + 0)) parts_are)
      ∙ sym (arcs_total name 0 n (λ es. g (E ++ es)))
      ∙ single (total (step_nodes name close) (λ es. g (E ++ es)))
      ∙ sym (state_sum-nested delta nodes 0)
      ∙ sum_of_closed delta record { nodes = nodes; free_loops = 0 }
      ∙ ap (λ ns. pattern_sum delta record { nodes = nodes; free_loops = 0 } ns (λ found. 1)) (sym (ap (map last) (none_left n)))
      ∙ box_pattern_sum delta 0 (λ found. 1) node inner inner name close (box_node 0 n name node (term ∷ []) record { ends = refl; terms = refl } (hq, tt)) behind box
      (terms_on 0 n name node (term ∷ []) refl (hq, tt)) (All-cons (λ w. AreBoxed inner inner name w.mate) (record { weight = 1; mate = mate_of 0 n q }) [] boxed (All-nil (λ w. AreBoxed inner inner name w.mate))) (λ u m. m)
      ∙ last_one (step_sum delta close worth (mate_of 0 n q))
      ∙ close_sum delta 0 n worth (mate_of 0 n q)
      ∙ ap (λ k. close_worth delta 0 n k (mate_of 0 n q)) ones
    where
      one_plain : (x : ℕ) → x ≡ 1 → x * 1 ≡ 1
      one_plain x e = omega (arith, e)

      single : (x : ℕ) → x ≡ 0 + 1 * x
      single x = omega arith

      last_one : (x : ℕ) → 1 * x + 0 ≡ x
      last_one x = omega arith
