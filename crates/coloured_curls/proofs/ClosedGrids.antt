-- A crossing of two bundles of c+1 strands, closed on the left, and the twist of the right bundle, at numbers that are written out: as pieces with
-- the same open names they count alike but for a factor.
use Rattle.std.proofs.Common.{◌≡◌, ◌≢◌, ℕ, zero, suc, ◌+◌, ◌-◌, ◌*◌, ◌%◌, ◌^◌, ◌<◌, ◌≤◌, ◌==◌, ◌||◌, ◌&&◌, ◌⊎◌, inl, inr, not, nat_lt, Bool, true, false, cond, List, [], ◌∷◌, ◌++◌, map, refl, sym, ap, ap₂, ◌∙◌, arith, ⊎_elim, subst, get_or, append-nil}
use Rattle.std.specs.Set.{is_member}
use Rattle.std.proofs.lemmas.Bool.{cases_Bool, eqb-true, or_cases}
use Rattle.std.proofs.lemmas.Bool.Decides.{nat_tests}
use Rattle.graph_parts.proofs.Agreement.{from_All}
use Rattle.graph_parts.proofs.Counting.{is_member-map}
use Rattle.graph_parts.proofs.Distinct.{is_member-append}
use Rattle.graph_parts.proofs.Ends.{is_member-itself}
use Rattle.list_lemmas.specs.Times.{times_in}
use Rattle.list_lemmas.proofs.Times.{times_of_member, times_in-cons}
use Rattle.state_sums.specs.LocalSums.{pattern_sum, rename, arc, AreSkeinNumbers}
use Rattle.state_sums.specs.Networks.{Node, names_of}
use Rattle.piece_laws.specs.Arcs.{arcs_of}
use Rattle.piece_laws.specs.Pieces.{IsPiece}
use Rattle.piece_laws.proofs.NameCounts.{member_mapped}
use Rattle.piece_laws.proofs.RenamedNodes.{rename_fixed}
use Rattle.strand_words.specs.Boxes.{bottom, twist, close_worth}
use Rattle.strand_words.specs.Grids.{crossed, grid, raised}
use Rattle.strand_words.specs.Words.{Letter, top, word_sum}
use Rattle.strand_words.proofs.WordLaws.{closed_grid}
use Rattle.word_networks.specs.GridNetworks.{grid_steps, FitsGrid, FollowsGrid, AreGridNames}
use Rattle.word_networks.specs.PlacedGrids.{passes, close_steps}
use Rattle.word_networks.specs.Spelling.{Spells}
use Rattle.word_networks.specs.Steps.{Step, without, names_after, points_after, step_nodes, step_sum, new_names, mate_worth, AreNamed, AreStepsFrom, AreDistinct, HavePoints}
use Rattle.word_networks.specs.Strands.{strand_of, standing, strand_points}
use Rattle.word_networks.proofs.Fresh.{AreSteps-from, in_grid, grid_distinct, grid_have, new_names-append, AreDistinct-append, HavePoints-append}
use Rattle.word_networks.proofs.Grids.{grid_follows, grid_spells, names_after-append, step_nodes-append, Spells-append}
use Rattle.word_networks.proofs.NetworkLaws.{step_sums, spelled_points, spelled_sum, word_sum-same}
use Rattle.word_networks.proofs.PlacedGrids.{passes_spell, step_sum-append, close_sum}
use Rattle.word_networks.proofs.Points.{is_member-without}
use Rattle.word_networks.proofs.StepNetworks.{pattern_agree}
use Rattle.word_networks.proofs.Strands.{standing-IsMating, standing_top, strand_top, strand_bottom, strand_standing, strands_told, member_strands, strands_member, standing_named, halves}
use Rattle.box_laws.proofs.ProjectorCurls.{points_after-append}
use Rattle.cables.proofs.NameCounts.{times_of-append}
use Rattle.cable_crossings.proofs.BundleBigon.{grid_tops, passes_tops, passes_at, in_passes, passes_distinct, unless_member}
use Rattle.cable_crossings.proofs.NameCodes.{code, in_lt, out_lt}
use Rattle.cable_crossings.proofs.StepPieces.{AllTop, AllTop-append, IsRun, based, run_piece, run_from, bottoms_kept, member_of_one}
use Rattle.coloured_curls.specs.Boxes.{letter_nodes, names_behind, arcs_between}
use Rattle.coloured_curls.proofs.GridCounts.{among, among_more}
use Rattle.coloured_curls.proofs.LetterNets.{lettered, AreAmong, twist_among, lettered_tops, lettered_from, lettered_distinct, lettered_spells, among_raised, raised_twist, raised_zero, raised_names, shifted_passes, lettered_have, passes_have, net_nodes}
use Rattle.coloured_curls.proofs.PieceCounts.{piece_from, none_in_range, one_in_range, found_in_range}

-- ---- the points that closing leaves, and those that it needs
without_all : (p q : ℕ) (points : List ℕ) → ((u : ℕ) → is_member ◌==◌ points u ≡ true → (u ≢ p) × (u ≢ q)) → without p q points ≡ points
without_all p q [] h = refl
without_all p q (u ∷ points) h =
    let d = h u (first u (is_member ◌==◌ points u)) in
    kept u (not (u == p) && not (u == q)) points (without p q points) (apart u p q d.0 d.1) (without_all p q points (λ z m. h z (later (z == u) (is_member ◌==◌ points z) m)))
  where
    first : (u : ℕ) (t : Bool) → ((u == u) || t) ≡ true
    first u t = grind (arith, nat_tests)

    later : (s t : Bool) → t ≡ true → (s || t) ≡ true
    later s t m = grind (arith, m)

    apart : (u p q : ℕ) → u ≢ p → u ≢ q → (not (u == p) && not (u == q)) ≡ true
    apart u p q d e = grind (arith, nat_tests, d, e)

    kept : (u : ℕ) (b : Bool) (points rest : List ℕ) → b ≡ true → rest ≡ points → cond b (u ∷ rest) rest ≡ u ∷ points
    kept u b points rest h e = ap (λ t. cond t (u ∷ rest) rest) h ∙ ap (λ r. u ∷ r) e

closing_points : (i count more : ℕ) → points_after (strand_points i (count + more)) (close_steps i count) ≡ strand_points (i + count) more
closing_points i zero more = ap₂ strand_points (let e : i ≡ i + 0 = omega arith in e) (let e : 0 + more ≡ more = omega arith in e)
closing_points i (suc count) more =
    let rest = strand_points (i + 1) (count + more) in
    let size : suc count + more ≡ suc (count + more) = omega arith in
    ap (λ n. points_after (without (top i) (bottom i) (strand_points i n)) (close_steps (i + 1) count)) size
    ∙ ap (λ ps. points_after ps (close_steps (i + 1) count))
    (gone (top i) (bottom i) rest ∙ without_all (top i) (bottom i) rest (λ u m. (let l = (member_strands (i + 1) (count + more) u m).0 in
    ((λ e. (let t = ap strand_of e ∙ strand_top i in omega (arith, t, l))), (λ e. (let t = ap strand_of e ∙ strand_bottom i in omega (arith, t, l)))))))
    ∙ closing_points (i + 1) count more
    ∙ ap (λ k. strand_points k more) (let e : i + 1 + count ≡ i + suc count = omega arith in e)
  where
    gone : (p q : ℕ) (rest : List ℕ) → without p q (p ∷ q ∷ rest) ≡ without p q rest
    gone p q rest = step p (not (p == p) && not (p == q)) (without p q (q ∷ rest)) (first p q) ∙ step q (not (q == p) && not (q == q)) (without p q rest) (second p q)
      where
        step : (u : ℕ) (b : Bool) (rest : List ℕ) → b ≡ false → cond b (u ∷ rest) rest ≡ rest
        step u b rest h = ap (λ t. cond t (u ∷ rest) rest) h

        first : (p q : ℕ) → (not (p == p) && not (p == q)) ≡ false
        first p q = grind (arith, nat_tests)

        second : (p q : ℕ) → (not (q == p) && not (q == q)) ≡ false
        second p q = grind (arith, nat_tests)

closing_have : (points : List ℕ) (i count : ℕ) → ((k : ℕ) → i ≤ k → k < i + count → (is_member ◌==◌ points (top k) ≡ true) × (is_member ◌==◌ points (bottom k) ≡ true)) → HavePoints points (close_steps i count)
closing_have points i zero h = tt
closing_have points i (suc count) h =
    let here = h i (omega arith) (omega arith) in (
      (λ e. omega (arith, e)),
      here.0,
      here.1,
      closing_have (without (top i) (bottom i) points) (i + 1) count (λ k lo hi. (
          let there = h k (omega (arith, lo)) (omega (arith, hi)) in (
            is_member-without (top i) (bottom i) points (top k) ∙ kept (top k) (top i) (bottom i) (is_member ◌==◌ points (top k)) there.0 (λ e. omega (arith, e, lo)) (λ e. omega (arith, e)),
            is_member-without (top i) (bottom i) points (bottom k) ∙ kept (bottom k) (top i) (bottom i) (is_member ◌==◌ points (bottom k)) there.1 (λ e. omega (arith, e)) (λ e. omega (arith, e, lo)),
          ))),
    )
  where
    kept : (u p q : ℕ) (t : Bool) → t ≡ true → u ≢ p → u ≢ q → (t && (not (u == p) && not (u == q))) ≡ true
    kept u p q t m d e = grind (arith, nat_tests, m, d, e)

-- the arcs of closing
abbrev pub closed_pairs : (ℕ → ℕ) → ℕ → ℕ → List (ℕ × ℕ)
closed_pairs name i zero = []
closed_pairs name i (suc count) = (name (top i), name (bottom i)) ∷ closed_pairs name (i + 1) count

pub closing_nodes : (name : ℕ → ℕ) (i count : ℕ) → step_nodes name (close_steps i count) ≡ arcs_of (closed_pairs name i count)
closing_nodes name i zero = refl
closing_nodes name i (suc count) = ap (λ ns. arc (name (top i)) (name (bottom i)) ∷ ns) (closing_nodes name (i + 1) count)

closing_names : (name : ℕ → ℕ) (i count : ℕ) → names_after name (close_steps i count) ≡ name
closing_names name i zero = refl
closing_names name i (suc count) = closing_names name (i + 1) count

closing_none : (i count : ℕ) → new_names (close_steps i count) ≡ []
closing_none i zero = refl
closing_none i (suc count) = closing_none (i + 1) count

closing_times : (name : ℕ → ℕ) (i count z : ℕ) → times_in (names_of (arcs_of (closed_pairs name i count))) z ≡ among (λ k. name (top k)) i count z + among (λ k. name (bottom k)) i count z
closing_times name i zero z = refl
closing_times name i (suc count) z =
    let ns = names_of (arcs_of (closed_pairs name (i + 1) count)) in
    let a = times_in-cons (name (top i)) (name (bottom i) ∷ ns) z in
    let b = times_in-cons (name (bottom i)) ns z in
    let c = among_more (λ k. name (top k)) i count z in
    let d = among_more (λ k. name (bottom k)) i count z in
    let ih = closing_times name (i + 1) count z in
    omega (arith, a, b, c, d, ih)

map_points : (f g : ℕ → ℕ) (i k count : ℕ) → ((j : ℕ) → j < count → (f (top (i + j)) ≡ g (top (k + j))) × (f (bottom (i + j)) ≡ g (bottom (k + j)))) → map f (strand_points i count) ≡ map g (strand_points k count)
map_points f g i k zero h = refl
map_points f g i k (suc count) h =
    let here = h 0 (omega arith) in
    let a : i + 0 ≡ i = omega arith in
    let b : k + 0 ≡ k = omega arith in
    let tops : f (top i) ≡ g (top k) = ap (λ n. f (top n)) (sym a) ∙ here.0 ∙ ap (λ n. g (top n)) b in
    let bottoms : f (bottom i) ≡ g (bottom k) = ap (λ n. f (bottom n)) (sym a) ∙ here.1 ∙ ap (λ n. g (bottom n)) b in
    ap₂ (λ p q. p ∷ q ∷ map f (strand_points (i + 1) count)) tops bottoms
    ∙ ap (λ xs. g (top k) ∷ g (bottom k) ∷ xs)
    (map_points f g (i + 1) (k + 1) count (λ j l. (
    let there = h (suc j) (omega (arith, l)) in
    let c : i + 1 + j ≡ i + suc j = omega arith in
    let d : k + suc j ≡ k + 1 + j = omega arith in
    (ap (λ n. f (top n)) c ∙ there.0 ∙ ap (λ n. g (top n)) d, ap (λ n. f (bottom n)) c ∙ there.1 ∙ ap (λ n. g (bottom n)) d))))

-- strands from a place on stand
named_from : (i count : ℕ) (base : ℕ → ℕ) → ((j k : ℕ) → i ≤ j → j < i + count → i ≤ k → k < i + count → base j ≡ base k → j ≡ k) → AreNamed (strand_points i count) (λ u. base (strand_of u)) standing
named_from i count base one = record {
  mating = standing-IsMating;
  closed = λ u m.
      (let a = member_strands i count u m in let e = strand_standing u in let b = a.0 in let c = a.1 in
      strands_member i count (standing u) (omega (arith, b, e)) (omega (arith, c, e)));
  tells = λ u v mu mv.
      (let a = member_strands i count u mu in let b = member_strands i count v mv in
      same_test (base (strand_of u)) (base (strand_of v)) (strand_of u) (strand_of v) (λ e. one (strand_of u) (strand_of v) a.0 a.1 b.0 b.1 e) (λ e. ap base e) ∙ strands_told u v);
}
  where
    same_test : (x y s t : ℕ) → (x ≡ y → s ≡ t) → (s ≡ t → x ≡ y) → (x == y) ≡ (s == t)
    same_test x y s t f g = grind (arith, nat_tests, f, g)

-- ---- at numbers that are written out
module _ (a b : ℕ) (s : Bool) (c : ℕ) (few : suc c ≤ 8) where
  abbrev pub n : ℕ
  n = suc c

  abbrev pub x : ℕ
  x = (crossed a b s 0).straight

  abbrev pub y : ℕ
  y = (crossed a b s 0).hook

  abbrev pub tv : ℕ → ℕ → ℕ
  tv i j = code 0 j i

  abbrev pub th : ℕ → ℕ → ℕ
  th i j = code 1 i j

  abbrev pub base : ℕ → ℕ
  base k = cond (nat_lt k n) (th (c - k) 0) (tv 0 (k - n))

  abbrev pub final : ℕ → ℕ
  final j = th (c - j) n

  abbrev pub name : ℕ → ℕ
  name = based base

  abbrev pub word : List Letter
  word = twist a b s 0 c n

  abbrev pub letters_from : ℕ
  letters_from = 4096

  abbrev g : List Step
  g = grid_steps x y tv th 0 0 n n

  abbrev closing : List Step
  closing = close_steps 0 n

  abbrev pub old_steps : List Step
  old_steps = g ++ closing

  abbrev last : ℕ → ℕ
  last = names_after name g

  abbrev pub open_names : List ℕ
  open_names = map last (strand_points n n)

  base_low : (k : ℕ) → k < n → base k ≡ th (c - k) 0
  base_low k l = in_lt k n (th (c - k) 0) (tv 0 (k - n)) l

  pub base_high : (k j : ℕ) → k ≡ n + j → base k ≡ tv 0 j
  base_high k j e = out_lt k n (th (c - k) 0) (tv 0 (k - n)) (omega (arith, e)) ∙ ap (tv 0) (let t : k - n ≡ j = omega (arith, e) in t)

  pub name_top : (k : ℕ) → name (top k) ≡ base k
  name_top k = ap base (strand_top k)

  -- what the names before and behind are
  base_is : (k : ℕ) → k < n + n → ((k < n) × (base k ≡ th (c - k) 0)) ⊎ ((j : ℕ) × (j < n) × (k ≡ n + j) × (base k ≡ tv 0 j))
  base_is k l =
      ⊎_elim (λ t. (let h : k < n = grind (arith, nat_tests, t) in inl (h, base_low k h)))
      (λ t. (let h : n ≤ k = grind (arith, nat_tests, t) in let e : k ≡ n + (k - n) = omega (arith, h) in inr (k - n, omega (arith, h, l), e, base_high k (k - n) e)))
      (cases_Bool (nat_lt k n))

  pub one : (i j : ℕ) → i < n + n → j < n + n → base i ≡ base j → i ≡ j
  one i j k l e =
      ⊎_elim
      (λ p. ⊎_elim (λ q. (let p0 = p.0 in let q0 = q.0 in let p1 = p.1 in let q1 = q.1 in omega (arith, e, p0, q0, p1, q1))) (λ q. absurd (let p1 = p.1 in let q3 = q.3 in omega (arith, e, p1, q3))) (base_is j l))
      (λ p. ⊎_elim (λ q. absurd (let p3 = p.3 in let q1 = q.1 in omega (arith, e, p3, q1))) (λ q. (let p2 = p.2 in let q2 = q.2 in let p3 = p.3 in let q3 = q.3 in omega (arith, e, p2, q2, p3, q3))) (base_is j l))
      (base_is i k)

  pub fits : FitsGrid name tv th 0 0 n n
  fits = record {
    west = λ k r l h e. name_top k ∙ base_low k (omega (arith, h)) ∙ ap (λ i. th i 0) (let t : c - k ≡ r = omega (arith, e) in t);
    south = λ k r l h e. name_top k ∙ base_high k r (omega (arith, e));
  }

  follows : FollowsGrid name last tv th 0 0 n n
  follows = grid_follows x y tv th name 0 0 n n fits

  pub last_low : (k : ℕ) → k < n → last (top k) ≡ tv n k
  last_low k l = follows.north k k (omega arith) (omega (arith, l)) (omega arith) (omega arith) ∙ ap (λ i. tv i k) (let t : 0 + n ≡ n = omega arith in t)

  last_high : (j : ℕ) → j < n → last (top (n + j)) ≡ final j
  last_high j l = follows.east (n + j) (c - j) (omega arith) (omega (arith, l)) (omega (arith, l)) (omega arith)

  last_is : (k : ℕ) → k < n + n → ((k < n) × (last (top k) ≡ tv n k)) ⊎ ((j : ℕ) × (j < n) × (k ≡ n + j) × (last (top k) ≡ final j))
  last_is k l =
      ⊎_elim (λ t. (let h : k < n = grind (arith, nat_tests, t) in inl (h, last_low k h)))
      (λ t. (let h : n ≤ k = grind (arith, nat_tests, t) in let e : k ≡ n + (k - n) = omega (arith, h) in inr (k - n, omega (arith, h, l), e, ap (λ i. last (top i)) e ∙ last_high (k - n) (omega (arith, h, l)))))
      (cases_Bool (nat_lt k n))

  names_apart : AreGridNames tv th n n
  names_apart = record {
    vertical = λ i j k l i0 iu jo k0 ku lo e. (omega (arith, e, iu, ku, few), omega (arith, e, iu, ku, few));
    horizontal = λ i j k l iu j0 jo ku l0 lo e. (omega (arith, e, jo, lo, few), omega (arith, e, jo, lo, few));
    apart = λ i j k l i0 iu jo ku l0 lo e. omega (arith, e);
  }

  grid_tops_are : AllTop (n + n) g
  grid_tops_are = grid_tops (n + n) x y tv th 0 0 n n (omega arith)

  pub run : IsRun (n + n) base g
  run = record {
    tops = grid_tops_are;
    distinct = grid_distinct x y tv th n n names_apart 0 0 n n (omega arith) (omega arith);
    apart = λ z k m l e.
        ⊎_elim
        (λ (w : (i : ℕ) × (j : ℕ) × (0 < i) × (i ≤ n) × (j < n) × (z ≡ tv i j)).
        (let f = w.5 in let w2 = w.2 in let w3 = w.3 in ⊎_elim (λ p. (let h = p.1 in omega (arith, e, f, h))) (λ p. (let h = p.3 in omega (arith, e, f, h, w2, w3, few))) (base_is k l)))
        (λ (w : (i : ℕ) × (j : ℕ) × (0 ≤ i) × (i < n) × (0 < j) × (j ≤ n) × (z ≡ th i j)).
        (let f = w.6 in let w4 = w.4 in let w5 = w.5 in ⊎_elim (λ p. (let h = p.1 in omega (arith, e, f, h, w4, w5, few))) (λ p. (let h = p.3 in omega (arith, e, f, h))) (base_is k l)))
        (in_grid x y tv th 0 0 n n n z (omega arith) m);
    behind = λ j k lj lk e.
        ⊎_elim
        (λ p. (let h = p.1 in ⊎_elim (λ q. (let f = q.1 in omega (arith, e, h, f))) (λ q. (let f = q.3 in omega (arith, e, h, f, few))) (base_is k lk)))
        (λ p. (let h = p.3 in ⊎_elim (λ q. (let f = q.1 in omega (arith, e, h, f, few))) (λ q. (let f = q.3 in omega (arith, e, h, f))) (base_is k lk)))
        (last_is j lj);
  }

  abbrev points : List ℕ
  points = strand_points 0 (n + n)

  at_bottom : (k : ℕ) → last (bottom k) ≡ base k
  at_bottom k = bottoms_kept (n + n) name g run.tops k ∙ ap base (strand_bottom k)

  abbrev G : List Node
  G = step_nodes name g

  pub old_are : step_nodes name old_steps ≡ G ++ arcs_of (closed_pairs last 0 n)
  old_are = step_nodes-append name g closing ∙ ap (λ ns. G ++ ns) (closing_nodes last 0 n)

  pub last_old : names_after name old_steps ≡ last
  last_old = names_after-append name g closing ∙ closing_names last 0 n

  points_old : points_after points old_steps ≡ strand_points n n
  points_old =
      points_after-append points g closing
      ∙ ap (λ ps. points_after ps closing) (spelled_points points (grid a b s 0 n n) g (grid_spells a b s tv th 0 0 n n))
      ∙ closing_points 0 n n
      ∙ ap (λ k. strand_points k n) (let e : 0 + n ≡ n = omega arith in e)

  -- ---- the piece
  piece_G : IsPiece G (map last points)
  piece_G = run_piece (n + n) base one g run

  once_G : (z : ℕ) → is_member ◌==◌ (map last points) z ≡ true → times_in (names_of G) z ≡ 1
  once_G z m =
      let t = from_All (is_member ◌==◌ (names_of G)) (map last points) piece_G.has_open z m in
      let k = from_All (λ u. times_in (names_of G) u == cond (is_member ◌==◌ (map last points) u) 1 2) (names_of G) piece_G.inner z t in
      eqb-true (times_in (names_of G) z) 1 (sym (ap (λ d. times_in (names_of G) z == cond d 1 2) m) ∙ k)

  twice_G : (z : ℕ) → 1 ≤ times_in (names_of G) z → is_member ◌==◌ (map last points) z ≡ false → times_in (names_of G) z ≡ 2
  twice_G z h m =
      let k = from_All (λ u. times_in (names_of G) u == cond (is_member ◌==◌ (map last points) u) 1 2) (names_of G) piece_G.inner z (member_of_one z (names_of G) h) in
      eqb-true (times_in (names_of G) z) 2 (sym (ap (λ d. times_in (names_of G) z == cond d 1 2) m) ∙ k)

  in_last : (u : ℕ) → strand_of u < n + n → is_member ◌==◌ (map last points) (last u) ≡ true
  in_last u l = is_member-map last points u (strands_member 0 (n + n) u (omega arith) (omega (arith, l)))

  in_open : (u : ℕ) → n ≤ strand_of u → strand_of u < n + n → is_member ◌==◌ open_names (last u) ≡ true
  in_open u l h = is_member-map last (strand_points n n) u (strands_member n n u l h)

  abbrev closed_tops : ℕ → ℕ
  closed_tops z = among (λ k. last (top k)) 0 n z

  abbrev closed_bottoms : ℕ → ℕ
  closed_bottoms z = among (λ k. last (bottom k)) 0 n z

  old_times : (z : ℕ) → times_in (names_of (step_nodes name old_steps)) z ≡ times_in (names_of G) z + (closed_tops z + closed_bottoms z)
  old_times z =
      let a = ap (λ ns. times_in (names_of ns) z) old_are in
      let d = times_of-append z G (arcs_of (closed_pairs last 0 n)) in
      let e = closing_times last 0 n z in
      omega (arith, a, d, e)

  pub bottom_low : (k : ℕ) → k < n → last (bottom k) ≡ th (c - k) 0
  bottom_low k l = at_bottom k ∙ base_low k l

  top_once : (k : ℕ) → k < n → (closed_tops (last (top k)) ≡ 1) × (closed_bottoms (last (top k)) ≡ 0)
  top_once k l =
      let e = last_low k l in (
        one_in_range (λ k. last (top k)) (last (top k)) k 0 n (omega arith) (omega (arith, l)) refl (λ j p q w. (let f = last_low j (omega (arith, q)) in omega (arith, e, f, w))),
        none_in_range (λ k. last (bottom k)) (last (top k)) 0 n (λ j p q w. (let f = bottom_low j (omega (arith, q)) in omega (arith, e, f, w))),
      )

  bottom_once : (k : ℕ) → k < n → (closed_tops (last (bottom k)) ≡ 0) × (closed_bottoms (last (bottom k)) ≡ 1)
  bottom_once k l =
      let e = bottom_low k l in (
        none_in_range (λ k. last (top k)) (last (bottom k)) 0 n (λ j p q w. (let f = last_low j (omega (arith, q)) in omega (arith, e, f, w))),
        one_in_range (λ k. last (bottom k)) (last (bottom k)) k 0 n (omega arith) (omega (arith, l)) refl (λ j p q w. (let f = bottom_low j (omega (arith, q)) in let q2 : j < n = omega (arith, q) in omega (arith, e, f, w, l, q2))),
      )

  -- the name of a strand on the right is no closed one
  right_away : (u : ℕ) → n ≤ strand_of u → strand_of u < n + n → (closed_tops (last u) ≡ 0) × (closed_bottoms (last u) ≡ 0)
  right_away u l h =
      let j = strand_of u - n in
      let same : strand_of u ≡ n + j = omega (arith, l) in
      let low : j < n = omega (arith, l, h) in
      let z = last u in
      ⊎_elim
      (λ e. (let w : z ≡ final j = ap last e ∙ ap (λ i. last (top i)) same ∙ last_high j low in away z (inl w)))
      (λ e. (let w : z ≡ tv 0 j = ap last e ∙ at_bottom (strand_of u) ∙ base_high (strand_of u) j same in away z (inr w)))
      (halves u)
    where
      away : (z : ℕ) → (z ≡ final (strand_of u - n)) ⊎ (z ≡ tv 0 (strand_of u - n)) → (closed_tops z ≡ 0) × (closed_bottoms z ≡ 0)
      away z (inl w) = (
        none_in_range (λ k. last (top k)) z 0 n (λ j p q e. (let f = last_low j (omega (arith, q)) in omega (arith, e, f, w))),
        none_in_range (λ k. last (bottom k)) z 0 n (λ j p q e. (let f = bottom_low j (omega (arith, q)) in omega (arith, e, f, w, few))),
      )
      away z (inr w) = (
        none_in_range (λ k. last (top k)) z 0 n (λ j p q e. (let f = last_low j (omega (arith, q)) in omega (arith, e, f, w, few))),
        none_in_range (λ k. last (bottom k)) z 0 n (λ j p q e. (let f = bottom_low j (omega (arith, q)) in omega (arith, e, f, w))),
      )

  pub old_piece : IsPiece (step_nodes name old_steps) open_names
  old_piece =
      piece_from (step_nodes name old_steps) open_names
      (λ z m.
      let r = member_mapped last (strand_points n n) z m in
      let l = member_strands n n r.0 r.1 in
      let t = old_times z in
      let g1 = ap (times_in (names_of G)) r.2 ∙ once_G (last r.0) (in_last r.0 l.1) in
      let w = right_away r.0 l.0 l.1 in
      let p = ap closed_tops r.2 ∙ w.0 in
      let q = ap closed_bottoms r.2 ∙ w.1 in
      omega (arith, t, g1, p, q))
      (λ z h out.
      let t = old_times z in
      ⊎_elim
      (λ (none : closed_tops z ≡ 0).
      ⊎_elim
      (λ (nothing : closed_bottoms z ≡ 0).
      let w = ⊎_elim
      (λ (m : is_member ◌==◌ (map last points) z ≡ true). absurd
      (let r = member_mapped last points z m in
      let l = (member_strands 0 (n + n) r.0 r.1).1 in
      ⊎_elim
      (λ d. (let low : strand_of r.0 < n = grind (arith, nat_tests, d) in
      ⊎_elim
      (λ e. (let f : z ≡ last (top (strand_of r.0)) = r.2 ∙ ap last e in let k = ap closed_tops f ∙ (top_once (strand_of r.0) low).0 in omega (arith, k, none)))
      (λ e. (let f : z ≡ last (bottom (strand_of r.0)) = r.2 ∙ ap last e in let k = ap closed_bottoms f ∙ (bottom_once (strand_of r.0) low).1 in omega (arith, k, nothing)))
      (halves r.0)))
      (λ d. (let high : n ≤ strand_of r.0 = grind (arith, nat_tests, d) in clash (is_member ◌==◌ open_names z) out (ap (is_member ◌==◌ open_names) r.2 ∙ in_open r.0 high (omega (arith, l)))))
      (cases_Bool (nat_lt (strand_of r.0) n))))
      (λ m. twice_G z (omega (arith, t, h, none, nothing)) m)
      (cases_Bool (is_member ◌==◌ (map last points) z)) in
      omega (arith, t, w, none, nothing))
      (λ some.
      let r = found_in_range (λ k. last (bottom k)) z 0 n some in
      let low : r.0 < n = (let l = r.2 in omega (arith, l)) in
      let p = ap closed_tops r.3 ∙ (bottom_once r.0 low).0 in
      let q = ap closed_bottoms r.3 ∙ (bottom_once r.0 low).1 in
      let e = ap (times_in (names_of G)) r.3 ∙ once_G (last (bottom r.0)) (in_last (bottom r.0) (let f = strand_bottom r.0 in omega (arith, f, low))) in
      omega (arith, t, p, q, e))
      (some_or_none (closed_bottoms z)))
      (λ some.
      let r = found_in_range (λ k. last (top k)) z 0 n some in
      let low : r.0 < n = (let l = r.2 in omega (arith, l)) in
      let p = ap closed_tops r.3 ∙ (top_once r.0 low).0 in
      let q = ap closed_bottoms r.3 ∙ (top_once r.0 low).1 in
      let e = ap (times_in (names_of G)) r.3 ∙ once_G (last (top r.0)) (in_last (top r.0) (let f = strand_top r.0 in omega (arith, f, low))) in
      omega (arith, t, p, q, e))
      (some_or_none (closed_tops z)))
    where
      clash : (d : Bool) → d ≡ false → d ≡ true → ⊥
      clash d p q = grind (arith, p, q)

      some_or_none : (k : ℕ) → (k ≡ 0) ⊎ (1 ≤ k)
      some_or_none zero = inl refl
      some_or_none (suc k) = inr (omega arith)

  -- ---- the steps may be taken
  old_new : new_names old_steps ≡ new_names g
  old_new = new_names-append g closing ∙ ap (λ ns. new_names g ++ ns) (closing_none 0 n) ∙ append-nil (new_names g)

  old_from : AreStepsFrom points name old_steps
  old_from = record {
    are_steps = AreSteps-from points (map name points) old_steps
        (HavePoints-append points g closing (grid_have points x y tv th 0 0 n n (λ k lo hi. strands_member 0 (n + n) (top k) (omega arith) (let e = strand_top k in omega (arith, e, hi))))
        (subst (λ ps. HavePoints ps closing) (sym (spelled_points points (grid a b s 0 n n) g (grid_spells a b s tv th 0 0 n n)))
        (closing_have points 0 n (λ k lo hi. (strands_member 0 (n + n) (top k) (omega arith) (let e = strand_top k in omega (arith, e, hi)), strands_member 0 (n + n) (bottom k) (omega arith) (let e = strand_bottom k in omega (arith, e, hi)))))))
        (subst AreDistinct (sym old_new) run.distinct)
        (λ z m. unless_member (map name points) z (λ t. (
        let r = member_mapped name points z t in
        let l = (member_strands 0 (n + n) r.0 r.1).1 in
        run.apart z (strand_of r.0) (ap (λ ns. is_member ◌==◌ ns z) (sym old_new) ∙ m) (omega (arith, l)) r.2)));
    meets_all = λ i d l. (
        let z = get_or (map name points) i d in
        let m = from_All (is_member ◌==◌ (names_of G)) (map name points) (run_from (n + n) base one g run).meets_all z (is_member-itself (map name points) i d l) in
        let k = times_of_member z (names_of G) m in
        let t = old_times z in
        member_of_one z (names_of (step_nodes name old_steps)) (omega (arith, k, t)));
  }

  -- ---- the twist
  abbrev pub turns : List Step
  turns = lettered (raised n word) letters_from ++ passes (λ k. final (k - n)) n n

  abbrev pub base_right : ℕ → ℕ
  base_right k = tv 0 k

  abbrev name_right : ℕ → ℕ
  name_right = based base_right

  abbrev turns_right : List Step
  turns_right = lettered word letters_from ++ passes final 0 n

  abbrev pub net : List Node
  net = letter_nodes word base_right letters_from ++ arcs_of (arcs_between (names_behind word base_right letters_from) final 0 n)

  among_word : AreAmong n word
  among_word = twist_among a b s n 0 c n (omega arith)

  own : (ns : List Node) → rename (λ z. z) ns ≡ ns
  own ns = rename_fixed (λ z. z) ns (λ z m. refl)

  pub turns_are : step_nodes name turns ≡ net
  turns_are =
      sym (own (step_nodes name turns))
      ∙ net_nodes (λ z. z) n n word name base_right letters_from letters_from (λ k. final (k - n)) final among_word (λ j. refl) (λ j l. name_top (j + n) ∙ base_high (j + n) j (omega arith)) (λ j l. ap final (let e : j + n - n ≡ j = omega arith in e))

  right_are : step_nodes name_right turns_right ≡ net
  right_are =
      sym (own (step_nodes name_right turns_right))
      ∙ ap (λ u. rename (λ z. z) (step_nodes name_right (lettered u letters_from ++ passes final 0 n))) (sym (raised_zero word))
      ∙ net_nodes (λ z. z) n 0 word name_right base_right letters_from letters_from final final among_word (λ j. refl) (λ j l. ap base_right (strand_top (j + 0) ∙ omega arith)) (λ j l. ap final (let e : j + 0 ≡ j = omega arith in e))

  one_right : (i j : ℕ) → i < n → j < n → base_right i ≡ base_right j → i ≡ j
  one_right i j k l e = omega (arith, e)

  one_final : (i j : ℕ) → i < n → j < n → final i ≡ final j → i ≡ j
  one_final i j k l e = omega (arith, e, k, l)

  run_right : IsRun n base_right turns_right
  run_right = record {
    tops = AllTop-append n (lettered word letters_from) (passes final 0 n) (lettered_tops n word letters_from among_word) (passes_tops n final 0 n (omega arith));
    distinct = subst AreDistinct (sym (new_names-append (lettered word letters_from) (passes final 0 n)))
        (AreDistinct-append (new_names (lettered word letters_from)) (new_names (passes final 0 n)) (lettered_distinct word letters_from) (passes_distinct n final one_final 0 n (omega arith))
        (λ z m. unless_member (new_names (passes final 0 n)) z (λ t. (
        let r = in_passes final 0 n z t in let l = lettered_from word letters_from z m in let e = r.3 in let h = r.2 in omega (arith, l, e, h, few)))));
    apart = λ z k m l e.
        ⊎_elim
        (λ t. (let h = lettered_from word letters_from z t in omega (arith, e, h, l, few)))
        (λ t. (let r = in_passes final 0 n z t in let h = r.3 in omega (arith, e, h)))
        (or_cases (is_member ◌==◌ (new_names (lettered word letters_from)) z) (is_member ◌==◌ (new_names (passes final 0 n)) z)
        (sym (is_member-append (new_names (lettered word letters_from)) (new_names (passes final 0 n)) z) ∙ ap (λ ns. is_member ◌==◌ ns z) (sym (new_names-append (lettered word letters_from) (passes final 0 n))) ∙ m));
    behind = λ j k lj lk e. (let t = right_top j lj in omega (arith, e, t));
  }
    where
      right_top : (j : ℕ) → j < n → names_after name_right turns_right (top j) ≡ final j
      right_top j l =
          ap (λ (f : ℕ → ℕ). f (top j)) (names_after-append name_right (lettered word letters_from) (passes final 0 n))
          ∙ passes_at (names_after name_right (lettered word letters_from)) final 0 n j (omega arith) (omega (arith, l))

  -- the same names before and behind
  right_tops : (j : ℕ) → j < n → names_after name_right turns_right (top j) ≡ final j
  right_tops j l =
      ap (λ (f : ℕ → ℕ). f (top j)) (names_after-append name_right (lettered word letters_from) (passes final 0 n))
      ∙ passes_at (names_after name_right (lettered word letters_from)) final 0 n j (omega arith) (omega (arith, l))

  right_bottoms : (j : ℕ) → names_after name_right turns_right (bottom j) ≡ tv 0 j
  right_bottoms j = bottoms_kept n name_right turns_right run_right.tops j ∙ ap base_right (strand_bottom j)

  right_open : map (names_after name_right turns_right) (strand_points 0 n) ≡ open_names
  right_open =
      map_points (names_after name_right turns_right) last 0 n n
      (λ j l. (
      let z : 0 + j ≡ j = omega arith in (
        ap (λ k. names_after name_right turns_right (top k)) z ∙ right_tops j l ∙ sym (last_high j l),
        right_bottoms (0 + j) ∙ ap (tv 0) z ∙ sym (at_bottom (n + j) ∙ base_high (n + j) j refl),
      )))

  pub new_piece : IsPiece net open_names
  new_piece =
      let P : List Node → Type 0 = λ ns. IsPiece ns open_names in
      let Q : List ℕ → Type 0 = λ os. IsPiece (step_nodes name_right turns_right) os in
      subst P right_are (subst Q right_open (run_piece n base_right one_right turns_right run_right))

  -- ---- the twist's steps may be taken
  abbrev points_new : List ℕ
  points_new = strand_points n n

  abbrev last_new : ℕ → ℕ
  last_new = names_after name turns

  abbrev run_of_letters : List Step
  run_of_letters = lettered (raised n word) letters_from

  abbrev ending : List Step
  ending = passes (λ k. final (k - n)) n n

  new_top : (j : ℕ) → j < n → last_new (top (n + j)) ≡ final j
  new_top j l =
      ap (λ (f : ℕ → ℕ). f (top (n + j))) (names_after-append name run_of_letters ending)
      ∙ passes_at (names_after name run_of_letters) (λ k. final (k - n)) n n (n + j) (omega arith) (omega (arith, l))
      ∙ ap final (let e : n + j - n ≡ j = omega arith in e)

  new_bottom : (k : ℕ) → last_new (bottom k) ≡ base k
  new_bottom k =
      bottoms_kept (n + n) name turns
      (AllTop-append (n + n) run_of_letters ending (lettered_tops (n + n) (raised n word) letters_from (among_raised n n word among_word)) (passes_tops (n + n) (λ k. final (k - n)) n n (omega arith))) k
      ∙ ap base (strand_bottom k)

  new_agrees : (u : ℕ) → is_member ◌==◌ points_new u ≡ true → last_new u ≡ last u
  new_agrees u m =
      let l = member_strands n n u m in
      let j = strand_of u - n in
      let same : strand_of u ≡ n + j = (let lo = l.0 in omega (arith, lo)) in
      let low : j < n = (let lo = l.0 in let hi = l.1 in omega (arith, lo, hi)) in
      ⊎_elim
      (λ e. ap last_new e ∙ ap (λ k. last_new (top k)) same ∙ new_top j low ∙ sym (ap last e ∙ ap (λ k. last (top k)) same ∙ last_high j low))
      (λ e. ap last_new e ∙ new_bottom (strand_of u) ∙ sym (ap last e ∙ at_bottom (strand_of u)))
      (halves u)

  fresh_same : new_names turns ≡ new_names turns_right
  fresh_same =
      new_names-append run_of_letters ending
      ∙ ap₂ (λ xs ys. xs ++ ys) (raised_names n word letters_from)
      (ap (λ i. new_names (passes (λ k. final (k - n)) i n)) (let e : n ≡ 0 + n = omega arith in e) ∙ shifted_passes (λ k. final (k - n)) final n 0 n (λ j. ap final (let e : j + n - n ≡ j = omega arith in e)))
      ∙ sym (new_names-append (lettered word letters_from) (passes final 0 n))

  new_from : AreStepsFrom points_new name turns
  new_from = record {
    are_steps = AreSteps-from points_new (map name points_new) turns
        (HavePoints-append points_new run_of_letters ending (lettered_have n n word letters_from among_word)
        (subst (λ ps. HavePoints ps ending) (sym (spelled_points points_new (raised n word) run_of_letters (lettered_spells (raised n word) letters_from)))
        (subst (λ i. HavePoints points_new (passes (λ k. final (k - n)) i n)) (let e : 0 + n ≡ n = omega arith in e) (passes_have n n (λ k. final (k - n)) 0 n (omega arith)))))
        (subst AreDistinct (sym fresh_same) run_right.distinct)
        (λ z m. unless_member (map name points_new) z (λ t. (
        let r = member_mapped name points_new z t in
        let l = member_strands n n r.0 r.1 in
        let j = strand_of r.0 - n in
        let same : strand_of r.0 ≡ n + j = (let lo = l.0 in omega (arith, lo)) in
        let low : j < n = (let lo = l.0 in let hi = l.1 in omega (arith, lo, hi)) in
        run_right.apart z j (ap (λ ns. is_member ◌==◌ ns z) (sym fresh_same) ∙ m) low (r.2 ∙ base_high (strand_of r.0) j same))));
    meets_all = λ i d l. (
        let z = get_or (map name points_new) i d in
        let r = member_mapped name points_new z (is_member-itself (map name points_new) i d l) in
        let t = member_strands n n r.0 r.1 in
        let e : z ≡ last (bottom (strand_of r.0)) = r.2 ∙ sym (at_bottom (strand_of r.0)) in
        let f = strand_bottom (strand_of r.0) in
        let m = from_All (is_member ◌==◌ (names_of net)) open_names new_piece.has_open (last (bottom (strand_of r.0))) (in_open (bottom (strand_of r.0)) (let lo = t.0 in omega (arith, lo, f)) (let hi = t.1 in omega (arith, hi, f))) in
        ap (is_member ◌==◌ (names_of (step_nodes name turns))) e ∙ ap (λ ns. is_member ◌==◌ (names_of ns) (last (bottom (strand_of r.0)))) turns_are ∙ m);
  }

  turns_spell : Spells (raised n word) turns
  turns_spell = subst (λ u. Spells u turns) (append-nil (raised n word)) (Spells-append (raised n word) [] run_of_letters ending (lettered_spells (raised n word) letters_from) (passes_spell (λ k. final (k - n)) n n))

  -- ---- the sums
  module _ (m delta : ℕ) (worth : List ℕ → ℕ) where
    abbrev W : (ℕ → ℕ) → ℕ
    W = mate_worth delta 0 worth last points_new

    old_sum : pattern_sum delta record { nodes = step_nodes name old_steps; free_loops = 0 } open_names worth ≡ word_sum delta (grid a b s 0 n n) (close_worth delta 0 n W) standing
    old_sum =
        let P : (ℕ → ℕ) → List ℕ → Type 0 =
        λ f ps. pattern_sum delta record { nodes = step_nodes name old_steps; free_loops = 0 } (map f ps) worth ≡ step_sum delta old_steps (mate_worth delta 0 worth f ps) standing in
        subst (λ ps. P last ps) points_old (subst (λ f. P f (points_after points old_steps)) last_old (step_sums delta 0 points name standing old_steps worth (standing_named (n + n) base one) old_from))
        ∙ step_sum-append delta g closing W standing
        ∙ spelled_sum delta (grid a b s 0 n n) g (grid_spells a b s tv th 0 0 n n) (step_sum delta closing W) standing
        ∙ word_sum-same delta (grid a b s 0 n n) (step_sum delta closing W) (close_worth delta 0 n W) (close_sum delta 0 n W) standing

    new_sum : pattern_sum delta record { nodes = net; free_loops = 0 } open_names worth ≡ word_sum delta (raised n word) W standing
    new_sum =
        let f : (ℕ → ℕ) → ℕ = mate_worth delta 0 worth last_new points_new in
        let P : List ℕ → Type 0 =
        λ ps. pattern_sum delta record { nodes = step_nodes name turns; free_loops = 0 } (map last_new ps) worth ≡ step_sum delta turns (mate_worth delta 0 worth last_new ps) standing in
        let opens : map last_new points_new ≡ open_names =
        map_points last_new last n n n (λ j l. (new_top j l ∙ sym (last_high j l), new_bottom (n + j) ∙ sym (at_bottom (n + j)))) in
        let named : AreNamed points_new name standing = named_from n n base (λ j k lj hj lk hk e. one j k hj hk e) in
        ap₂ (λ ns os. pattern_sum delta record { nodes = ns; free_loops = 0 } os worth) (sym turns_are) (sym opens)
        ∙ subst P (spelled_points points_new (raised n word) turns turns_spell) (step_sums delta 0 points_new name standing turns worth named new_from)
        ∙ spelled_sum delta (raised n word) turns turns_spell f standing
        ∙ word_sum-same delta (raised n word) f W (λ mate. ap (λ p. delta ^ 0 * worth p) (pattern_agree last_new last mate points_new new_agrees)) standing

    -- THE CLOSED CROSSING IS THE TWIST TIMES A FACTOR
    pub sums_scaled : (w : ℕ) → AreSkeinNumbers m a b delta → (w + x * x * x) % m ≡ 0 % m →
        pattern_sum delta record { nodes = step_nodes name old_steps; free_loops = 0 } open_names worth % m ≡ (w ^ n * pattern_sum delta record { nodes = net; free_loops = 0 } open_names worth) % m
    sums_scaled w numbers factor =
        ap (λ k. k % m)
        (old_sum ∙ ap (λ k. word_sum delta (grid a b s 0 n k) (close_worth delta 0 n W) standing) (let e : n ≡ c + 1 = omega arith in e))
        ∙ closed_grid m a b delta w 0 n c s W standing numbers factor standing-IsMating (λ p lo hi. standing_top p)
        ∙ ap (λ u. (w ^ n * word_sum delta u W standing) % m) (sym (raised_twist a b s n 0 c n))
        ∙ ap (λ k. (w ^ n * k) % m) (sym new_sum)
