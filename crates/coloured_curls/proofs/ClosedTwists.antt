-- A crossing of two bundles whose left strands close is the twist of the right bundle times a factor, at any names: the strands that close are cut
-- by arcs to fresh names, the crossing stands at numbers that are written out, and there it is replaced.
use Rattle.std.proofs.Common.{◌≡◌, ◌≢◌, ℕ, zero, suc, ◌+◌, ◌-◌, ◌*◌, ◌%◌, ◌^◌, ◌<◌, ◌≤◌, ◌==◌, ◌⊎◌, inl, inr, nat_lt, Bool, true, false, cond, List, [], ◌∷◌, ◌++◌, map, refl, sym, ap, ap₂, ◌∙◌, arith, ⊎_elim, All, subst}
use Rattle.std.specs.Set.{is_member}
use Rattle.std.proofs.lemmas.Bool.{cases_Bool, cases_eq, eqb-true, or_cases}
use Rattle.std.proofs.lemmas.Bool.Decides.{nat_tests}
use Rattle.std.proofs.lemmas.List.{append_assoc}
use Rattle.std.proofs.lemmas.List.Elements.{All-append}
use Rattle.list_lemmas.specs.Times.{times_in}
use Rattle.list_lemmas.proofs.Times.{times_of_member, times_in-append}
use Rattle.state_sums.specs.LocalSums.{rename, arc, AreSkeinNumbers}
use Rattle.state_sums.specs.Networks.{Node, IsNode, names_of}
use Rattle.state_sums.specs.StateSums.{value}
use Rattle.state_sums.proofs.NodeNames.{names_of-rename}
use Rattle.piece_laws.specs.Arcs.{arcs_of}
use Rattle.piece_laws.specs.Pieces.{ArePaired}
use Rattle.piece_laws.proofs.RenamedNodes.{rename_fixed, rename-append}
use Rattle.strand_words.specs.Boxes.{bottom, twist}
use Rattle.strand_words.specs.Grids.{crossed}
use Rattle.strand_words.specs.Words.{Letter, top}
use Rattle.word_networks.specs.GridNetworks.{grid_nodes, grid_steps}
use Rattle.word_networks.specs.Steps.{step_nodes, names_after}
use Rattle.word_networks.proofs.Grids.{grid_is}
use Rattle.word_networks.proofs.StepNetworks.{are_nodes}
use Rattle.word_networks.proofs.TurnedGrids.{grid_ok}
use Rattle.cables.proofs.NameCounts.{times_of-append}
use Rattle.cable_crossings.proofs.BundleBigon.{rename_grid}
use Rattle.cable_crossings.proofs.BundleTurns.{runs_exchanged}
use Rattle.cable_crossings.proofs.ManyArcs.{many_arcs, joined_all, AreJoinable, firsts_of, seconds_of, arcs_ok}
use Rattle.cable_crossings.proofs.NameCodes.{code, named_by, named_by-code}
use Rattle.cable_crossings.proofs.StepPieces.{member_of_one}
use Rattle.coloured_curls.specs.Boxes.{letter_nodes, names_behind, arcs_between}
use Rattle.coloured_curls.specs.Laws.{ClosedCrossingLaw}
use Rattle.coloured_curls.proofs.ClosedGrids as closed
use Rattle.coloured_curls.proofs.GridCounts.{among, among_same, among_more, within, within_same, grid_counts}
use Rattle.coloured_curls.proofs.LetterCounts.{among_reversed, given, given_low, given_most, letter_counts, between_counts}
use Rattle.coloured_curls.proofs.LetterNets.{twist_among, net_nodes}
use Rattle.coloured_curls.proofs.PieceCounts.{at_same, none_in_range, one_in_range, found_in_range}
use Rattle.coloured_curls.proofs.ScaledPieces.{scaled_anywhere}

-- ---- arcs from fresh names
module _ (big : ℕ) (g : ℕ → ℕ) where
  abbrev F : ℕ → ℕ
  F j = big + j

  first_found : (i count z : ℕ) → is_member ◌==◌ (firsts_of (arcs_between F g i count)) z ≡ true → big + i ≤ z
  first_found i zero z m = absurd (grind (arith, m))
  first_found i (suc count) z m =
      ⊎_elim (λ t. (let e = eqb-true z (big + i) t in omega (arith, e))) (λ t. (let r = first_found (i + 1) count z t in omega (arith, r)))
      (or_cases (z == big + i) (is_member ◌==◌ (firsts_of (arcs_between F g (i + 1) count)) z) m)

  second_found : (i count z : ℕ) → ((k : ℕ) → i ≤ k → k < i + count → g k < big) → is_member ◌==◌ (seconds_of (arcs_between F g i count)) z ≡ true → z < big
  second_found i zero z h m = absurd (grind (arith, m))
  second_found i (suc count) z h m =
      ⊎_elim (λ t. (let e = eqb-true z (g i) t in let l = h i (omega arith) (omega arith) in omega (arith, e, l)))
      (λ t. second_found (i + 1) count z (λ k lo hi. h k (omega (arith, lo)) (omega (arith, hi))) t)
      (or_cases (z == g i) (is_member ◌==◌ (seconds_of (arcs_between F g (i + 1) count)) z) m)

  unless : (xs : List ℕ) (z : ℕ) → (is_member ◌==◌ xs z ≡ true → ⊥) → is_member ◌==◌ xs z ≡ false
  unless xs z h = ⊎_elim (λ t. absurd (h t)) (λ t. t) (cases_Bool (is_member ◌==◌ xs z))

  joinable : (names : List ℕ) (i count : ℕ) → ((k : ℕ) → i ≤ k → k < i + count → (g k < big) × (is_member ◌==◌ names (F k) ≡ true) × (is_member ◌==◌ names (g k) ≡ true)) → AreJoinable (arcs_between F g i count) names
  joinable names i zero h = tt
  joinable names i (suc count) h =
      let here = h i (omega arith) (omega arith) in
      let low = here.0 in
      let later : (k : ℕ) → i + 1 ≤ k → k < i + 1 + count → g k < big = λ k lo hi. (h k (omega (arith, lo)) (omega (arith, hi))).0 in (
        here.1,
        here.2,
        (λ e. omega (arith, e, low)),
        unless (firsts_of (arcs_between F g (i + 1) count)) (F i) (λ m. (let r = first_found (i + 1) count (F i) m in omega (arith, r))),
        unless (seconds_of (arcs_between F g (i + 1) count)) (F i) (λ m. (let r = second_found (i + 1) count (F i) later m in omega (arith, r))),
        unless (firsts_of (arcs_between F g (i + 1) count)) (g i) (λ m. (let r = first_found (i + 1) count (g i) m in omega (arith, r, low))),
        joinable names (i + 1) count (λ k lo hi. h k (omega (arith, lo)) (omega (arith, hi))),
      )

  joins_low : (i count z : ℕ) → z < big → joined_all (arcs_between F g i count) z ≡ z
  joins_low i zero z l = refl
  joins_low i (suc count) z l = plain z (big + i) (g i) (joined_all (arcs_between F g (i + 1) count) z) (λ e. omega (arith, e, l)) (joins_low (i + 1) count z l)
    where
      plain : (z x y t : ℕ) → z ≢ x → t ≡ z → cond (z == x) y t ≡ z
      plain z x y t d e = grind (arith, nat_tests, d, e)

  joins_fresh : (i count k : ℕ) → i ≤ k → k < i + count → joined_all (arcs_between F g i count) (F k) ≡ g k
  joins_fresh i zero k l h = absurd (omega (arith, l, h))
  joins_fresh i (suc count) k l h =
      ⊎_elim
      (λ (e : k ≡ i). ap (λ j. cond (F j == F i) (g i) (joined_all (arcs_between F g (i + 1) count) (F j))) e ∙ here (F i) (g i) (joined_all (arcs_between F g (i + 1) count) (F i)) ∙ ap g (sym e))
      (λ d. there (F k) (F i) (g i) (joined_all (arcs_between F g (i + 1) count) (F k)) (λ e. d (omega (arith, e))) ∙ joins_fresh (i + 1) count k (omega (arith, l, d)) (omega (arith, h)))
      (cases_eq k i)
    where
      here : (x y t : ℕ) → cond (x == x) y t ≡ y
      here x y t = grind (arith, nat_tests)

      there : (z x y t : ℕ) → z ≢ x → cond (z == x) y t ≡ t
      there z x y t d = grind (arith, nat_tests, d)

closed_renamed : (r name f g : ℕ → ℕ) (i count : ℕ) → ((k : ℕ) → i ≤ k → k < i + count → (r (name (top k)) ≡ f k) × (r (name (bottom k)) ≡ g k)) → rename r (arcs_of (closed.closed_pairs name i count)) ≡ arcs_of (arcs_between f g i count)
closed_renamed r name f g i zero h = refl
closed_renamed r name f g i (suc count) h =
    let here = h i (omega arith) (omega arith) in
    ap₂ (λ p q. arc p q ∷ rename r (arcs_of (closed.closed_pairs name (i + 1) count))) here.0 here.1
    ∙ ap (λ ns. arc (f i) (g i) ∷ ns) (closed_renamed r name f g (i + 1) count (λ k lo hi. h k (omega (arith, lo)) (omega (arith, hi))))

-- ---- the crossing at any names: its left strands close, so that v n k is h (c-k) 0
module _ (a b : ℕ) (s : Bool) (c : ℕ) (few : suc c ≤ 8) (v h : ℕ → ℕ → ℕ) (big : ℕ) (rest : List Node) (ok : All IsNode rest)
    (meet : (k : ℕ) → k < suc c → v (suc c) k ≡ h (c - k) 0)
    (low_v : (i j : ℕ) → i ≤ suc c → j < suc c → v i j < big) (low_h : (i j : ℕ) → i < suc c → j ≤ suc c → h i j < big)
    (low_rest : (z : ℕ) → is_member ◌==◌ (names_of rest) z ≡ true → z < big) where
  abbrev n : ℕ
  n = suc c

  abbrev x : ℕ
  x = (crossed a b s 0).straight

  abbrev y : ℕ
  y = (crossed a b s 0).hook

  abbrev pub crossing_at : List Node
  crossing_at = grid_nodes x y v h 0 n n

  module _ (twice : (z : ℕ) → 1 ≤ times_in (names_of (crossing_at ++ rest)) z → times_in (names_of (crossing_at ++ rest)) z ≡ 2) where
    abbrev pub u : List Letter
    u = twist a b s 0 c n

    abbrev pub fresh : ℕ → ℕ
    fresh j = big + j

    abbrev pub closes : ℕ → ℕ
    closes k = h (c - k) 0

    abbrev pub leaves : ℕ → ℕ
    leaves k = h (c - k) n

    abbrev w : ℕ → ℕ → ℕ
    w i j = cond (i == n) (fresh j) (v i j)

    abbrev r : ℕ → ℕ
    r z = cond (nat_lt z 4096) (named_by (λ tag i m. cond (tag == 0) (w m i) (h i m)) z) (big + (z - 4096))

    below : (z p q : ℕ) → z < 4096 → cond (nat_lt z 4096) p q ≡ p
    below z p q l = grind (arith, nat_tests, l)

    r_v : (i j : ℕ) → i ≤ n → j < n → r (closed.tv a b s c few i j) ≡ w i j
    r_v i j l k =
        below (code 0 j i) (named_by (λ tag i m. cond (tag == 0) (w m i) (h i m)) (code 0 j i)) (big + (code 0 j i - 4096)) (omega (arith, l, k, few))
        ∙ named_by-code (λ tag i m. cond (tag == 0) (w m i) (h i m)) 0 j i (omega arith) (omega (arith, l, few))

    r_h : (i j : ℕ) → i < n → j ≤ n → r (closed.th a b s c few i j) ≡ h i j
    r_h i j l k =
        below (code 1 i j) (named_by (λ tag i m. cond (tag == 0) (w m i) (h i m)) (code 1 i j)) (big + (code 1 i j - 4096)) (omega (arith, l, k, few))
        ∙ named_by-code (λ tag i m. cond (tag == 0) (w m i) (h i m)) 1 i j (omega arith) (omega (arith, k, few))

    r_letter : (j : ℕ) → r (4096 + j) ≡ big + j
    r_letter j = plain j (named_by (λ tag i m. cond (tag == 0) (w m i) (h i m)) (4096 + j)) big
      where
        plain : (j p big : ℕ) → cond (nat_lt (4096 + j) 4096) p (big + (4096 + j - 4096)) ≡ big + j
        plain j p big = grind (arith, nat_tests)

    w_last : (j : ℕ) → w n j ≡ fresh j
    w_last j = plain n (fresh j) (v n j)
      where
        plain : (n p q : ℕ) → cond (n == n) p q ≡ p
        plain n p q = grind (arith, nat_tests)

    w_other : (i j : ℕ) → i ≢ n → w i j ≡ v i j
    w_other i j d = plain i n (fresh j) (v i j) d
      where
        plain : (i n p q : ℕ) → i ≢ n → cond (i == n) p q ≡ q
        plain i n p q d = grind (arith, nat_tests, d)

    abbrev cut : List Node
    cut = grid_nodes x y w h 0 n n

    abbrev pairs : List (ℕ × ℕ)
    pairs = arcs_between fresh closes 0 n

    abbrev pub turned : List Node
    turned = letter_nodes u (v 0) big ++ arcs_of (arcs_between (names_behind u (v 0) big) leaves 0 n)

    abbrev name : ℕ → ℕ
    name = closed.name a b s c few

    abbrev last : ℕ → ℕ
    last = names_after name (grid_steps x y (closed.tv a b s c few) (closed.th a b s c few) 0 0 n n)

    old_is : rename r (step_nodes name (closed.old_steps a b s c few)) ≡ cut ++ arcs_of pairs
    old_is =
        ap (rename r) (closed.old_are a b s c few ∙ ap (λ ns. ns ++ arcs_of (closed.closed_pairs last 0 n)) (grid_is x y (closed.tv a b s c few) (closed.th a b s c few) name 0 0 n n (closed.fits a b s c few)))
        ∙ rename-append r (grid_nodes x y (closed.tv a b s c few) (closed.th a b s c few) 0 n n) (arcs_of (closed.closed_pairs last 0 n))
        ∙ ap₂ (λ xs ys. xs ++ ys) (rename_grid r x y (closed.tv a b s c few) (closed.th a b s c few) w h 0 n n n (omega arith) r_v r_h)
        (closed_renamed r last fresh closes 0 n (λ k lo hi. (
        let l : k < n = omega (arith, hi) in (
          ap r (closed.last_low a b s c few k l) ∙ r_v n k (omega arith) l ∙ w_last k,
          ap r (closed.bottom_low a b s c few k l) ∙ r_h (c - k) 0 (omega arith) (omega arith),
        ))))

    new_is : rename r (closed.net a b s c few) ≡ turned
    new_is =
        ap (rename r) (sym (closed.turns_are a b s c few))
        ∙ net_nodes r n n u name (v 0) 4096 big (λ k. closed.final a b s c few (k - n)) leaves (twist_among a b s n 0 c n (omega arith)) r_letter
        (λ j l. ap r (closed.name_top a b s c few (j + n) ∙ closed.base_high a b s c few (j + n) j (omega arith)) ∙ r_v 0 j (omega arith) l ∙ w_other 0 j (λ e. omega (arith, e)))
        (λ j l. ap (λ k. r (closed.final a b s c few k)) (let e : j + n - n ≡ j = omega arith in e) ∙ r_h (c - j) n (omega arith) (omega arith))

    -- ---- counts
    abbrev pub ins : ℕ → ℕ
    ins z = among (v 0) 0 n z

    abbrev pub outs : ℕ → ℕ
    outs z = among (λ k. h k n) 0 n z

    abbrev pub loops : ℕ → ℕ
    loops z = among (λ k. h k 0) 0 n z

    abbrev news : ℕ → ℕ
    news z = among fresh 0 n z

    abbrev pub inner : ℕ → ℕ
    inner z = within x y v h z c 0 c

    loops_reversed : (z : ℕ) → among closes 0 n z ≡ loops z
    loops_reversed z = among_reversed (λ k. h k 0) c z

    outs_reversed : (z : ℕ) → among leaves 0 n z ≡ outs z
    outs_reversed z = among_reversed (λ k. h k n) c z

    pub whole_times : (z : ℕ) → times_in (names_of crossing_at) z ≡ ins z + outs z + 2 * (loops z + inner z)
    whole_times z =
        let t = grid_counts x y v h z c 0 c in
        let e : among (v (0 + n)) 0 n z ≡ loops z = ap (λ k. among (v k) 0 n z) (let e : 0 + n ≡ n = omega arith in e) ∙ among_same (v n) closes 0 n z (λ k lo hi. meet k (omega (arith, hi))) ∙ loops_reversed z in
        omega (arith, t, e)

    cut_times : (z : ℕ) → times_in (names_of cut) z ≡ ins z + outs z + news z + loops z + 2 * inner z
    cut_times z =
        let t = grid_counts x y w h z c 0 c in
        let e : among (w (0 + n)) 0 n z ≡ news z = ap (λ k. among (w k) 0 n z) (let e : 0 + n ≡ n = omega arith in e) ∙ among_same (w n) fresh 0 n z (λ k lo hi. w_last k) in
        let f : among (w 0) 0 n z ≡ ins z = among_same (w 0) (v 0) 0 n z (λ k lo hi. w_other 0 k (λ e. omega (arith, e))) in
        let g : within x y w h z c 0 c ≡ inner z = within_same x y w v h z c 0 c (λ k j l. w_other k j (λ e. omega (arith, e, l))) in
        omega (arith, t, e, f, g)

    old_times : (z : ℕ) → times_in (names_of (cut ++ arcs_of pairs)) z ≡ times_in (names_of crossing_at) z + 2 * news z
    old_times z =
        let p = times_of-append z cut (arcs_of pairs) in
        let q = between_counts fresh closes 0 n z in
        let e = loops_reversed z in
        let t = cut_times z in
        let k = whole_times z in
        omega (arith, p, q, e, t, k)

    new_times : (z : ℕ) → times_in (names_of turned) z ≡ ins z + outs z + 2 * given u big z
    new_times z =
        let p = times_of-append z (letter_nodes u (v 0) big) (arcs_of (arcs_between (names_behind u (v 0) big) leaves 0 n)) in
        let q = between_counts (names_behind u (v 0) big) leaves 0 n z in
        let e = outs_reversed z in
        let t = letter_counts n u (v 0) big z (twist_among a b s n 0 c n (omega arith)) in
        omega (arith, p, q, e, t)

    -- names of the crossing and the rest are below the fresh ones
    high_ins : (z : ℕ) → big ≤ z → ins z ≡ 0
    high_ins z l = none_in_range (v 0) z 0 n (λ k lo hi e. (let t = low_v 0 k (omega arith) (omega (arith, hi)) in omega (arith, t, e, l)))

    high_outs : (z : ℕ) → big ≤ z → outs z ≡ 0
    high_outs z l = none_in_range (λ k. h k n) z 0 n (λ k lo hi e. (let t = low_h k n (omega (arith, hi)) (omega arith) in omega (arith, t, e, l)))

    high_loops : (z : ℕ) → big ≤ z → loops z ≡ 0
    high_loops z l = none_in_range (λ k. h k 0) z 0 n (λ k lo hi e. (let t = low_h k 0 (omega (arith, hi)) (omega arith) in omega (arith, t, e, l)))

    high_within : (z i rows : ℕ) → big ≤ z → i + rows ≤ c → within x y v h z c i rows ≡ 0
    high_within z i zero l m = none_in_range (h i) z 1 c (λ k lo hi e. (let t = low_h i k (omega (arith, m)) (omega (arith, hi)) in omega (arith, t, e, l)))
    high_within z i (suc rows) l m =
        let p = none_in_range (h i) z 1 c (λ k lo hi e. (let t = low_h i k (omega (arith, m)) (omega (arith, hi)) in omega (arith, t, e, l))) in
        let q = none_in_range (v (i + 1)) z 0 n (λ k lo hi e. (let t = low_v (i + 1) k (omega (arith, m)) (omega (arith, hi)) in omega (arith, t, e, l))) in
        let ih = high_within z (i + 1) rows l (omega (arith, m)) in
        omega (arith, p, q, ih)

    some_or_none : (k : ℕ) → (k ≡ 0) ⊎ (1 ≤ k)
    some_or_none zero = inl refl
    some_or_none (suc k) = inr (omega arith)

    high_rest : (z : ℕ) → big ≤ z → times_in (names_of rest) z ≡ 0
    high_rest z l = ⊎_elim (λ e. e) (λ e. absurd (let t = low_rest z (member_of_one z (names_of rest) e) in omega (arith, t, l))) (some_or_none (times_in (names_of rest) z))

    high_none : (z : ℕ) → big ≤ z → times_in (names_of crossing_at) z + times_in (names_of rest) z ≡ 0
    high_none z l =
        let t = whole_times z in let p = high_ins z l in let q = high_outs z l in let o = high_loops z l in let i = high_within z 0 c l (omega arith) in let d = high_rest z l in
        omega (arith, t, p, q, o, i, d)

    low_news : (z : ℕ) → z < big → news z ≡ 0
    low_news z l = none_in_range fresh z 0 n (λ k lo hi e. omega (arith, e, l))

    news_most : (z : ℕ) → news z ≤ 1
    news_most z =
        ⊎_elim (λ e. omega (arith, e))
        (λ m. (let f = found_in_range fresh z 0 n m in let t = one_in_range fresh z f.0 0 n f.1 f.2 f.3 (λ j lo hi e. (let g = f.3 in omega (arith, e, g))) in omega (arith, t)))
        (some_or_none (news z))

    sides : (z : ℕ) → (z < big) ⊎ (big ≤ z)
    sides z = plain z big
      where
        plain : (k u : ℕ) → (k < u) ⊎ (u ≤ k)
        plain k u = elim (nat_lt k u) as (λ b. nat_lt k u ≡ b → (k < u) ⊎ (u ≤ k)) [ true ↦ (λ t. inl (grind (arith, nat_tests, t))) | false ↦ (λ t. inr (grind (arith, nat_tests, t))) ] refl

    both_times : (z : ℕ) → 1 ≤ times_in (names_of crossing_at) z + times_in (names_of rest) z → times_in (names_of crossing_at) z + times_in (names_of rest) z ≡ 2
    both_times z l = let t = times_of-append z crossing_at rest in let k = twice z (omega (arith, t, l)) in omega (arith, t, k)

    old_pairs : ArePaired (map r (names_of (step_nodes name (closed.old_steps a b s c few)))) (map r (names_of (step_nodes name (closed.old_steps a b s c few))) ++ names_of rest)
    old_pairs z m =
        let os = map r (names_of (step_nodes name (closed.old_steps a b s c few))) in
        let e : times_in os z ≡ times_in (names_of (cut ++ arcs_of pairs)) z = ap (λ ns. times_in ns z) (sym (names_of-rename r (step_nodes name (closed.old_steps a b s c few))) ∙ ap names_of old_is) in
        let t = times_in-append os (names_of rest) z in
        let k = old_times z in
        let one = times_of_member z os m in
        ⊎_elim
        (λ l. (let o = low_news z l in let two = both_times z (omega (arith, e, k, one, o)) in omega (arith, e, t, k, o, two)))
        (λ l. (let o = high_none z l in let most = news_most z in omega (arith, e, t, k, one, o, most)))
        (sides z)

    new_pairs : ArePaired (map r (names_of (closed.net a b s c few))) (map r (names_of (closed.net a b s c few)) ++ names_of rest)
    new_pairs z m =
        let os = map r (names_of (closed.net a b s c few)) in
        let e : times_in os z ≡ times_in (names_of turned) z = ap (λ ns. times_in ns z) (sym (names_of-rename r (closed.net a b s c few)) ∙ ap names_of new_is) in
        let t = times_in-append os (names_of rest) z in
        let k = new_times z in
        let q = whole_times z in
        let one = times_of_member z os m in
        ⊎_elim
        (λ l. (let o = given_low u big z l in let two = both_times z (omega (arith, e, k, q, one, o)) in omega (arith, e, t, k, q, one, o, two)))
        (λ l. (let p = high_ins z l in let d = high_outs z l in let f = high_rest z l in let most = given_most u big z in omega (arith, e, t, k, one, p, d, f, most)))
        (sides z)

    -- each name stands twice in the twist's network too
    pub turned_twice : (z : ℕ) → 1 ≤ times_in (names_of turned) z + times_in (names_of rest) z → times_in (names_of turned) z + times_in (names_of rest) z ≡ 2
    turned_twice z one =
        let k = new_times z in
        let q = whole_times z in
        ⊎_elim
        (λ l. (let o = given_low u big z l in let two = both_times z (omega (arith, k, q, one, o)) in omega (arith, k, q, one, o, two)))
        (λ l. (let p = high_ins z l in let d = high_outs z l in let f = high_rest z l in let most = given_most u big z in omega (arith, k, one, p, d, f, most)))
        (sides z)

    -- ---- the strands that close
    closing_low : (k : ℕ) → k < n → closes k < big
    closing_low k l = low_h (c - k) 0 (omega arith) (omega arith)

    may_join : AreJoinable pairs (names_of (cut ++ rest))
    may_join =
        joinable big closes (names_of (cut ++ rest)) 0 n (λ k lo hi. (
        let l : k < n = omega (arith, hi) in (
          closing_low k l,
          in_cut (fresh k) (let t = one_in_range fresh (fresh k) k 0 n (omega arith) (omega (arith, l)) refl (λ j p q e. omega (arith, e)) in let f = cut_times (fresh k) in omega (arith, t, f)),
          in_cut (closes k) (let t = member_count closes k l in let e = loops_reversed (closes k) in let f = cut_times (closes k) in omega (arith, t, e, f)),
        )))
      where
        in_cut : (z : ℕ) → 1 ≤ times_in (names_of cut) z → is_member ◌==◌ (names_of (cut ++ rest)) z ≡ true
        in_cut z l = member_of_one z (names_of (cut ++ rest)) (let t = times_of-append z cut rest in omega (arith, t, l))

        counted : (f : ℕ → ℕ) (k i count : ℕ) → i ≤ k → k < i + count → 1 ≤ among f i count (f k)
        counted f k i zero l d = absurd (omega (arith, l, d))
        counted f k i (suc count) l d =
            let m = among_more f i count (f k) in
            ⊎_elim (λ (e : k ≡ i). (let o = at_same (f k) (f i) (ap f e) in omega (arith, m, o)))
            (λ o. (let ih = counted f k (i + 1) count (omega (arith, l, o)) (omega (arith, d)) in omega (arith, m, ih))) (cases_eq k i)

        member_count : (f : ℕ → ℕ) (k : ℕ) → k < n → 1 ≤ among f 0 n (f k)
        member_count f k l = counted f k 0 n (omega arith) (omega (arith, l))

    abbrev join : ℕ → ℕ
    join = joined_all pairs

    joined_is : rename join (cut ++ rest) ≡ crossing_at ++ rest
    joined_is =
        rename-append join cut rest
        ∙ ap₂ (λ xs ys. xs ++ ys)
        (rename_grid join x y w h v h 0 n n n (omega arith)
        (λ k j l d.
        ⊎_elim
        (λ (e : k ≡ n). ap (λ i. join (w i j)) e ∙ ap join (w_last j) ∙ joins_fresh big closes 0 n j (omega arith) (omega (arith, d)) ∙ sym (meet j d) ∙ ap (λ i. v i j) (sym e))
        (λ o. ap join (w_other k j o) ∙ joins_low big closes 0 n (v k j) (low_v k j l d))
        (cases_eq k n))
        (λ k j l d. joins_low big closes 0 n (h k j) (low_h k j l d)))
        (rename_fixed join rest (λ z m. joins_low big closes 0 n z (low_rest z m)))

    -- THE CLOSED CROSSING IS A TWIST
    pub closed_twist : (m delta free f : ℕ) → AreSkeinNumbers m a b delta → (f + x * x * x) % m ≡ 0 % m →
        value m delta record { nodes = crossing_at ++ rest; free_loops = free } ≡ f ^ n * value m delta record { nodes = turned ++ rest; free_loops = free } % m
    closed_twist m delta free f numbers factor =
        let V : List Node → ℕ = λ ns. value m delta record { nodes = ns; free_loops = free } in
        let cut_ok : All IsNode cut = grid_ok 0 0 0 [] x y w h 0 n n in
        let old = step_nodes name (closed.old_steps a b s c few) in
        let net_ok : All IsNode (closed.net a b s c few) = net_is_node in
        sym (ap V joined_is)
        ∙ sym (many_arcs m delta free pairs (cut ++ rest) (All-append IsNode cut rest cut_ok ok) may_join)
        ∙ runs_exchanged m delta free (arcs_of pairs) cut rest (arcs_ok pairs) cut_ok ok
        ∙ ap V (sym (append_assoc cut (arcs_of pairs) rest))
        ∙ sym (ap (λ ns. V (ns ++ rest)) old_is)
        ∙ scaled_anywhere m delta free (f ^ n) r (closed.open_names a b s c few) old (closed.net a b s c few) rest (are_nodes name (closed.old_steps a b s c few)) net_ok ok
        (closed.old_piece a b s c few) (closed.new_piece a b s c few) old_pairs new_pairs (λ worth. closed.sums_scaled a b s c few m delta worth f numbers factor)
        ∙ ap (λ ns. f ^ n * V (ns ++ rest) % m) new_is
      where
        net_is_node : All IsNode (closed.net a b s c few)
        net_is_node = subst (All IsNode) (closed.turns_are a b s c few) (are_nodes name (closed.turns a b s c few))

-- AS A LAW
pub closed_crossing : ClosedCrossingLaw
closed_crossing m a b delta free f c big s v h rest numbers few ok factor meet low_v low_h low_rest twice = closed_twist a b s c few v h big rest ok meet low_v low_h low_rest twice m delta free f numbers factor
