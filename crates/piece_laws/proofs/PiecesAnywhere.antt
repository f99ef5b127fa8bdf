-- A local equality holds wherever its piece stands: its open names are cut off by arcs to fresh names, so that the piece stands
-- in the network at names that are all different; there it is replaced, and the arcs close again.
use Rattle.std.proofs.Common.{◌≡◌, ◌≢◌, ltb, ℕ, zero, suc, ◌+◌, ◌-◌, ◌<◌, ◌≤◌, true, false, cond, not, ◌&&◌, ◌||◌, ◌==◌, List, [], ◌∷◌, ◌++◌, map, Contains, refl, sym, ap, ◌∙◌, arith, ◌⊎◌, inl, inr, ⊎_elim, All, subst}
use Rattle.std.specs.List.{AllPass}
use Rattle.std.specs.Set.{is_member}
use Rattle.std.proofs.lemmas.Bool.{or_left, or_right, eq-eqb, eqb-true, cases_Bool, or_cases, cases_eq}
use Rattle.std.proofs.lemmas.Bool.Decides.{nat_tests}
use Rattle.graph_parts.specs.Renaming.{IsOneToOne}
use Rattle.graph_parts.specs.Walks.{Joined, along, stay, back, on}
use Rattle.graph_parts.proofs.Agreement.{to_All, from_All}
use Rattle.graph_parts.proofs.Counting.{is_member-map}
use Rattle.graph_parts.proofs.Distinct.{is_member-append}
use Rattle.graph_parts.proofs.Walks.{Contains-later}
use Rattle.state_sums.specs.LocalSums.{rename, IsCut}
use Rattle.state_sums.specs.Networks.{Node, IsNode, names_of}
use Rattle.state_sums.specs.StateSums.{value}
use Rattle.state_sums.proofs.NetworkLaws.{anywhere}
use Rattle.state_sums.proofs.NodeNames.{names_of-rename, HavePlaces-rename}
use Rattle.state_sums.proofs.StateEdges.{HavePlaces-from_nodes}
use Rattle.state_sums.proofs.WrittenNodes.{IsNode-rename}
use Rattle.std.proofs.lemmas.List.Elements.{All-append}
use Rattle.graph_parts.specs.Ends.{ends_of}
use Rattle.list_lemmas.specs.Times.{times_in}
use Rattle.list_lemmas.proofs.Times.{times_of_member, times_in-append}
use Rattle.piece_laws.specs.Arcs.{arcs_of, AreClassLabels, closed_classes}
use Rattle.piece_laws.specs.Laws.{PieceAnywhereLaw}
use Rattle.piece_laws.specs.Pieces.{IsPiece, ArePaired}
use Rattle.piece_laws.proofs.ArcEdges.{names_of-arcs, IsNode-arcs, HavePlaces-all_arcs}
use Rattle.piece_laws.proofs.Closing.{arcs_close, none_counted}
use Rattle.piece_laws.proofs.MovedRuns.{value_moved}
use Rattle.piece_laws.proofs.NameCounts.{times_one, times_both, member_mapped, bound, below_bound}
use Rattle.piece_laws.proofs.RenamedNodes.{rename_via, rename_fixed, rename-append}
use Rattle.std.proofs.lemmas.List.Concat.{flat_map-append}

-- ---- fresh names for open ones
module _ (big : ℕ) (r : ℕ → ℕ) (open_names : List ℕ) (low : (u : ℕ) → is_member ◌==◌ open_names u ≡ true → r u < big) where
  abbrev fresh_pairs : List ℕ → List (ℕ × ℕ)
  fresh_pairs us = map (λ u. (big + u, r u)) us

  -- the open names fresh, the others as they are named
  abbrev apart : ℕ → ℕ
  apart u = cond (is_member ◌==◌ open_names u) (big + u) (r u)

  -- a fresh name back to what its open name is called
  abbrev home : ℕ → ℕ
  home x = cond (not (ltb x big) && is_member ◌==◌ open_names (x - big)) (r (x - big)) x

  home-fresh : (u : ℕ) → is_member ◌==◌ open_names u ≡ true → home (big + u) ≡ r u
  home-fresh u m = let e : (big + u) - big ≡ u = omega arith in rw e (grind (arith, nat_tests, m))

  home-low : (x : ℕ) → x < big → home x ≡ x
  home-low x l = grind (arith, nat_tests, l)

  has_pair : (us : List ℕ) (u : ℕ) → is_member ◌==◌ us u ≡ true → Contains (fresh_pairs us) (big + u, r u)
  has_pair [] u m = absurd (grind (arith, m))
  has_pair (y ∷ us) u m =
      ⊎_elim
      (λ e. let t : u ≡ y = eqb-true u y e in let same : (big + y, r y) ≡ (big + u, r u) = ap (λ z. let g : ℕ × ℕ = (big + z, r z) in g) (sym t) in (0, omega arith, same))
      (λ n. Contains-later (big + y, r y) (big + u, r u) (fresh_pairs us) (has_pair us u n))
      (or_cases (u == y) (is_member ◌==◌ us u) m)

  of_pair : (us : List ℕ) (x y : ℕ) → Contains (fresh_pairs us) (x, y) → (u : ℕ) × (is_member ◌==◌ us u ≡ true) × (x ≡ big + u) × (y ≡ r u)
  of_pair [] x y h = absurd (omega (arith, h.1))
  of_pair (z ∷ us) x y (zero, l, e) = (z, or_left (z == z) (is_member ◌==◌ us z) (eq-eqb z z refl), sym (ap (λ f. f.0) e), sym (ap (λ f. f.1) e))
  of_pair (z ∷ us) x y (suc k, l, e) = let q = of_pair us x y (k, omega (arith, l), e) in (q.0, or_right (q.0 == z) (is_member ◌==◌ us q.0) q.1, q.2, q.3)

  home-pair : (x y : ℕ) → Contains (fresh_pairs open_names) (x, y) → home x ≡ home y
  home-pair x y c =
      let q = of_pair open_names x y c in
      let m = q.1 in
      ap home q.2 ∙ home-fresh q.0 m ∙ sym (home-low (r q.0) (low q.0 m)) ∙ ap home (sym q.3)

  home-Joined : {x y : ℕ} → Joined (fresh_pairs open_names) x y → home x ≡ home y
  home-Joined (along {x = x} {y = y} c) = home-pair x y c
  home-Joined stay = refl
  home-Joined (back j) = sym (home-Joined j)
  home-Joined (on j k) = home-Joined j ∙ home-Joined k

  joined-home : (x : ℕ) → Joined (fresh_pairs open_names) x (home x)
  joined-home x =
      ⊎_elim
      (λ t.
      let m : is_member ◌==◌ open_names (x - big) ≡ true = grind (arith, t) in
      let e : big + (x - big) ≡ x = grind (arith, nat_tests, t) in
      let h : home x ≡ r (x - big) = grind (arith, t) in
      let P : ℕ → Type 0 = λ z. Joined (fresh_pairs open_names) z (r (x - big)) in
      let Q : ℕ → Type 0 = λ z. Joined (fresh_pairs open_names) x z in
      subst Q (sym h) (subst P e (along (has_pair open_names (x - big) m))))
      (λ t. let h : home x ≡ x = grind (arith, t) in let Q : ℕ → Type 0 = λ z. Joined (fresh_pairs open_names) x z in subst Q (sym h) stay)
      (cases_Bool (not (ltb x big) && is_member ◌==◌ open_names (x - big)))

  contraction : AreClassLabels (fresh_pairs open_names) home
  contraction = record { joined = joined-home; one = λ x y j. home-Joined j }

  home-ends : (us : List ℕ) (x : ℕ) → ((u : ℕ) → is_member ◌==◌ us u ≡ true → is_member ◌==◌ open_names u ≡ true) →
      is_member ◌==◌ (map home (ends_of (fresh_pairs us))) x ≡ true → (u : ℕ) × (is_member ◌==◌ open_names u ≡ true) × (x ≡ r u)
  home-ends [] x w m = absurd (grind (arith, m))
  home-ends (y ∷ us) x w m =
      let here = w y (or_left (y == y) (is_member ◌==◌ us y) (eq-eqb y y refl)) in
      ⊎_elim
      (λ e. (y, here, eqb-true x (home (big + y)) e ∙ home-fresh y here))
      (λ n. ⊎_elim
      (λ e. (y, here, eqb-true x (home (r y)) e ∙ home-low (r y) (low y here)))
      (λ k. home-ends us x (λ u q. w u (or_right (u == y) (is_member ◌==◌ us u) q)) k)
      (or_cases (x == home (r y)) (is_member ◌==◌ (map home (ends_of (fresh_pairs us))) x) n))
      (or_cases (x == home (big + y)) (x == home (r y) || is_member ◌==◌ (map home (ends_of (fresh_pairs us))) x) m)

  module _ (nodes rest : List Node) (are : All IsNode nodes) (others : All IsNode rest) (piece : IsPiece nodes open_names)
      (pairs : ArePaired (map r (names_of nodes)) (map r (names_of nodes) ++ names_of rest))
      (inside : (u : ℕ) → is_member ◌==◌ (names_of nodes) u ≡ true → r u < big) (outside : (x : ℕ) → is_member ◌==◌ (names_of rest) x ≡ true → x < big) where
    abbrev names : List ℕ
    names = names_of nodes

    home-apart : (u : ℕ) → is_member ◌==◌ names u ≡ true → home (apart u) ≡ r u
    home-apart u m =
        ⊎_elim
        (λ t. let e : apart u ≡ big + u = grind (arith, t) in ap home e ∙ home-fresh u t)
        (λ t. let e : apart u ≡ r u = grind (arith, t) in ap home e ∙ home-low (r u) (inside u m))
        (cases_Bool (is_member ◌==◌ open_names u))

    inner_twice : (u : ℕ) → is_member ◌==◌ names u ≡ true → is_member ◌==◌ open_names u ≡ false → times_in names u ≡ 2
    inner_twice u m out =
        let t = from_All (λ x. times_in names x == cond (is_member ◌==◌ open_names x) 1 2) names piece.inner u m in
        grind (arith, nat_tests, t, out)

    in_all : (u : ℕ) → is_member ◌==◌ names u ≡ true → times_in (map r names) (r u) + times_in (names_of rest) (r u) ≡ 2
    in_all u m = sym (times_in-append (map r names) (names_of rest) (r u)) ∙ pairs (r u) (is_member-map r names u m)

    one_to_one : IsOneToOne apart names
    one_to_one u v p q e =
        let lu = inside u p in
        let lv = inside v q in
        ⊎_elim
        (λ s. ⊎_elim (λ t. grind (arith, s, t, e)) (λ t. absurd (grind (arith, s, t, e, lv))) (cases_Bool (is_member ◌==◌ open_names v)))
        (λ s. ⊎_elim
        (λ t. absurd (grind (arith, s, t, e, lu)))
        (λ t.
        let a = inner_twice u p s in
        let b = inner_twice v q t in
        let c = in_all u p in
        let same : r u ≡ r v = grind (arith, s, t, e) in
        ⊎_elim (λ y. y) (λ d. absurd (let f = times_both r names u v d same in omega (arith, a, b, c, f))) (cases_eq u v))
        (cases_Bool (is_member ◌==◌ open_names v)))
        (cases_Bool (is_member ◌==◌ open_names u))

    open_apart : AllPass (is_member ◌==◌ (names_of (rename apart nodes))) (map apart open_names)
    open_apart =
        to_All (is_member ◌==◌ (names_of (rename apart nodes))) (map apart open_names)
        (λ x m. let q = member_mapped apart open_names x m in
        let there = from_All (is_member ◌==◌ names) open_names piece.has_open q.0 q.1 in
        ap (is_member ◌==◌ (names_of (rename apart nodes))) q.2
        ∙ ap (λ ns. is_member ◌==◌ ns (apart q.0)) (names_of-rename apart nodes) ∙ is_member-map apart names q.0 there)

    of_ends : (us : List ℕ) (x : ℕ) → is_member ◌==◌ (ends_of (fresh_pairs us)) x ≡ true → (big ≤ x) ⊎ ((u : ℕ) × (is_member ◌==◌ us u ≡ true) × (x ≡ r u))
    of_ends [] x m = absurd (grind (arith, m))
    of_ends (y ∷ us) x m =
        ⊎_elim
        (λ e. inl (let t : x ≡ big + y = eqb-true x (big + y) e in omega (arith, t)))
        (λ n. ⊎_elim
        (λ e. inr (y, or_left (y == y) (is_member ◌==◌ us y) (eq-eqb y y refl), eqb-true x (r y) e))
        (λ k. ⊎_elim (λ l. inl l) (λ q. inr (q.0, or_right (q.0 == y) (is_member ◌==◌ us q.0) q.1, q.2)) (of_ends us x k))
        (or_cases (x == r y) (is_member ◌==◌ (ends_of (fresh_pairs us)) x) n))
        (or_cases (x == big + y) (x == r y || is_member ◌==◌ (ends_of (fresh_pairs us)) x) m)

    -- no inner name stands elsewhere
    alone_inside : (u : ℕ) → is_member ◌==◌ names u ≡ true → is_member ◌==◌ open_names u ≡ false → is_member ◌==◌ (ends_of (fresh_pairs open_names) ++ names_of rest) (r u) ≡ true → ⊥
    alone_inside u m out h =
        let a = inner_twice u m out in
        let c = in_all u m in
        let one = times_one r names u in
        let l = inside u m in
        ⊎_elim
        (λ e. ⊎_elim
        (λ b. omega (arith, b, l))
        (λ q.
        let v = q.0 in
        let t = from_All (is_member ◌==◌ names) open_names piece.has_open v q.1 in
        let d : u ≢ v = λ s. (let k = ap (is_member ◌==◌ open_names) s in let w = q.1 in grind (arith, k, w, out)) in
        let f = times_both r names u v d q.2 in
        let g = times_of_member v names t in
        omega (arith, a, c, f, g))
        (of_ends open_names (r u) e))
        (λ e. let f = times_of_member (r u) (names_of rest) e in omega (arith, a, c, one, f))
        (or_cases (is_member ◌==◌ (ends_of (fresh_pairs open_names)) (r u)) (is_member ◌==◌ (names_of rest) (r u)) (sym (is_member-append (ends_of (fresh_pairs open_names)) (names_of rest) (r u)) ∙ h))

    cut : IsCut (rename apart nodes) (arcs_of (fresh_pairs open_names) ++ rest) (map apart open_names)
    cut = record {
      has_open = open_apart;
      meets = λ x m n.
          let q = member_mapped apart names x (sym (ap (λ ns. is_member ◌==◌ ns x) (names_of-rename apart nodes)) ∙ n) in
          let u = q.0 in
          ⊎_elim
          (λ t. ap (is_member ◌==◌ (map apart open_names)) q.2 ∙ is_member-map apart open_names u t)
          (λ t. absurd
          (let e : apart u ≡ r u = grind (arith, t) in
          let same : x ≡ r u = q.2 ∙ e in
          alone_inside u q.1 t (sym (ap (is_member ◌==◌ (ends_of (fresh_pairs open_names) ++ names_of rest)) same) ∙ sym (ap (λ ns. is_member ◌==◌ ns x) (names_of-arcs (fresh_pairs open_names) rest)) ∙ m)))
          (cases_Bool (is_member ◌==◌ open_names u));
    }

    none_closed : closed_classes home (fresh_pairs open_names) (names_of (rename apart nodes ++ rest)) ≡ 0
    none_closed =
        let all = names_of (rename apart nodes ++ rest) in
        none_counted (λ e. not (is_member ◌==◌ (map home all) e)) (map home (ends_of (fresh_pairs open_names)))
        (λ x m.
        let q = home-ends open_names x (λ u k. k) m in
        let u = q.0 in
        let t = from_All (is_member ◌==◌ names) open_names piece.has_open u q.1 in
        let there : is_member ◌==◌ all (apart u) ≡ true =
        ap (λ ns. is_member ◌==◌ ns (apart u)) (flat_map-append (λ node. node.ends) (rename apart nodes) rest)
        ∙ is_member-append (names_of (rename apart nodes)) (names_of rest) (apart u)
        ∙ or_left (is_member ◌==◌ (names_of (rename apart nodes)) (apart u)) (is_member ◌==◌ (names_of rest) (apart u)) (ap (λ ns. is_member ◌==◌ ns (apart u)) (names_of-rename apart nodes) ∙ is_member-map apart names u t) in
        let mapped = is_member-map home all (apart u) there in
        let e = home-apart u t in
        let same = ap (is_member ◌==◌ (map home all)) (q.2 ∙ sym e) in
        grind (arith, mapped, same))

    back_home : rename home (rename apart nodes ++ rest) ≡ rename r nodes ++ rest
    back_home =
        rename-append home (rename apart nodes) rest
        ∙ ap (λ ns. ns ++ rename home rest) (rename_via home apart r nodes home-apart)
        ∙ ap (λ ns. rename r nodes ++ ns) (rename_fixed home rest (λ x m. home-low x (outside x m)))

    -- the piece stands at names of its own
    cut_off : (m delta free : ℕ) →
        value m delta record { nodes = rename r nodes ++ rest; free_loops = free }
        ≡ value m delta record { nodes = rename apart nodes ++ (arcs_of (fresh_pairs open_names) ++ rest); free_loops = free }
    cut_off m delta free =
        let here = HavePlaces-rename apart nodes (HavePlaces-from_nodes nodes are) in
        let there = HavePlaces-from_nodes rest others in
        let pairs_here = fresh_pairs open_names in
        let zero_more : free + closed_classes home pairs_here (names_of (rename apart nodes ++ rest)) ≡ free = let z = none_closed in omega (arith, z) in
        sym
        (value_moved m delta free (rename apart nodes) (arcs_of pairs_here) rest here (HavePlaces-all_arcs pairs_here) there
        ∙ arcs_close m delta free pairs_here home (rename apart nodes ++ rest) (All-append IsNode (rename apart nodes) rest (IsNode-rename apart nodes are) others) contraction
        ∙ ap (λ k. value m delta record { nodes = rename home (rename apart nodes ++ rest); free_loops = k }) zero_more
        ∙ ap (λ ns. value m delta record { nodes = ns; free_loops = free }) back_home)

-- A LOCAL EQUALITY WHEREVER ITS PIECE STANDS
pub piece_anywhere : PieceAnywhereLaw
piece_anywhere m delta more r open_names old new rest p q k old_piece new_piece old_pairs new_pairs same =
    let olds = map r (names_of old.nodes) in
    let news = map r (names_of new.nodes) in
    let others = names_of rest in
    let all = olds ++ (news ++ others) in
    let big = bound all in
    let here : (x : ℕ) → is_member ◌==◌ olds x ≡ true → x < big =
    λ x m. below_bound x all (is_member-append olds (news ++ others) x ∙ or_left (is_member ◌==◌ olds x) (is_member ◌==◌ (news ++ others) x) m) in
    let there : (x : ℕ) → is_member ◌==◌ news x ≡ true → x < big =
    λ x m. below_bound x all (is_member-append olds (news ++ others) x ∙ or_right (is_member ◌==◌ olds x) (is_member ◌==◌ (news ++ others) x)
    (is_member-append news others x ∙ or_left (is_member ◌==◌ news x) (is_member ◌==◌ others x) m)) in
    let outside : (x : ℕ) → is_member ◌==◌ others x ≡ true → x < big =
    λ x m. below_bound x all (is_member-append olds (news ++ others) x ∙ or_right (is_member ◌==◌ olds x) (is_member ◌==◌ (news ++ others) x)
    (is_member-append news others x ∙ or_right (is_member ◌==◌ news x) (is_member ◌==◌ others x) m)) in
    let in_old : (u : ℕ) → is_member ◌==◌ (names_of old.nodes) u ≡ true → r u < big = λ u m. here (r u) (is_member-map r (names_of old.nodes) u m) in
    let in_new : (u : ℕ) → is_member ◌==◌ (names_of new.nodes) u ≡ true → r u < big = λ u m. there (r u) (is_member-map r (names_of new.nodes) u m) in
    let low : (u : ℕ) → is_member ◌==◌ open_names u ≡ true → r u < big = λ u m. in_old u (from_All (is_member ◌==◌ (names_of old.nodes)) open_names old_piece.has_open u m) in
    let arcs = arcs_of (fresh_pairs big r open_names low open_names) in
    cut_off big r open_names low old.nodes rest p k old_piece old_pairs in_old outside m delta (old.free_loops + more)
    ∙ anywhere m delta more (apart big r open_names low) open_names old new (arcs ++ rest) p q (IsNode-arcs (fresh_pairs big r open_names low open_names) rest k)
    (one_to_one big r open_names low old.nodes rest p k old_piece old_pairs in_old outside)
    (one_to_one big r open_names low new.nodes rest q k new_piece new_pairs in_new outside)
    old_piece.has_open new_piece.has_open
    (cut big r open_names low old.nodes rest p k old_piece old_pairs in_old outside)
    (cut big r open_names low new.nodes rest q k new_piece new_pairs in_new outside)
    same
    ∙ sym (cut_off big r open_names low new.nodes rest q k new_piece new_pairs in_new outside m delta (new.free_loops + more))
