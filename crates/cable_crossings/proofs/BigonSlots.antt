-- Two cabled crossings that are a bigon, told from any of their slots, are the strands of both edges.
use Rattle.std.proofs.Common.{◌≡◌, ℕ, zero, suc, ◌+◌, ◌-◌, ◌%◌, ◌<◌, ◌≤◌, ◌==◌, ◌⊎◌, inl, inr, not, Bool, cond, List, ◌++◌, length, reverse, slice_index, refl, sym, ap, ap₂, ◌∙◌, arith, ⊎_elim, All, subst, append_assoc, length-append}
use Rattle.std.specs.List.{zip}
use Rattle.std.proofs.lemmas.List.{get_or-reverse, length-reverse}
use Rattle.std.proofs.lemmas.List.Elements.{All-append}
use Rattle.list_lemmas.specs.Times.{times_in}
use Rattle.list_lemmas.proofs.Times.{times_of_member, times_in-append}
use Rattle.state_sums.specs.LocalSums.{AreSkeinNumbers}
use Rattle.state_sums.specs.Networks.{Node, IsNode, names_of}
use Rattle.state_sums.specs.StateSums.{value}
use Rattle.root_quantum.specs.QuantumNumbers.{inverse_root}
use Rattle.piece_laws.specs.Arcs.{arcs_of}
use Rattle.piece_laws.specs.Pieces.{ArePaired}
use Rattle.cables.specs.CableNodes.{crossing_cable}
use Rattle.cables.proofs.GridNames.{crossing-times}
use Rattle.cables.proofs.NameCounts.{times_of-append, times-reverse}
use Rattle.cable_crossings.specs.Laws.{BigonAtSlotsLaw}
use Rattle.cable_crossings.proofs.NameCodes.{in_lt, out_lt, below_or}
use Rattle.cable_crossings.proofs.BundleBigon.{arcs_between}
use Rattle.cable_crossings.proofs.BundlePair.{bundle_pair, from, to}
use Rattle.cable_crossings.proofs.BundleTurns.{runs_exchanged}
use Rattle.cable_crossings.proofs.CabledBigon.{zipped, zip-times, names_of_arcs}
use Rattle.cable_crossings.proofs.CabledGrids.{at_append_low, at_append_high}
use Rattle.cable_crossings.proofs.CabledTriangle.{turned_at}
use Rattle.cable_crossings.proofs.CrossingSteps.{long, crossing_nodes, crossing_ok}
use Rattle.cable_crossings.proofs.ToldCrossings.{IsTold, retold, told_from, four_summed}

-- opposite slots
opposite_slots : (at : ℕ → List ℕ) → length (at 0) ≡ length (at 2) → length (at 1) ≡ length (at 3) → (s : ℕ) → s < 4 → (length (at ((s + 2) % 4)) ≡ length (at s)) × (length (at ((s + 3) % 4)) ≡ length (at ((s + 1) % 4)))
opposite_slots at a b zero l = (sym a, sym b)
opposite_slots at a b (suc zero) l = (sym b, a)
opposite_slots at a b (suc (suc zero)) l = (a, b)
opposite_slots at a b (suc (suc (suc zero))) l = (b, sym a)
opposite_slots at a b (suc (suc (suc (suc s)))) l = absurd (omega (arith, l))

-- ---- told crossings
module _ (m a b delta : ℕ) (numbers : AreSkeinNumbers m a b delta) (s : Bool) (x y : ℕ) (few_x : x ≤ 8) (few_y : y ≤ 8) (first second : List Node) (S E N W S' E' N' W' : List ℕ)
    (told_first : IsTold m delta first (cond s a b) (cond s b a) S E N W) (told_second : IsTold m delta second (cond (not s) a b) (cond (not s) b a) S' E' N' W')
    (length_s : length S ≡ y) (length_e : length E ≡ x) (length_n : length N ≡ y) (length_w : length W ≡ x) (length_s' : length S' ≡ x) (length_e' : length E' ≡ y) (length_n' : length N' ≡ x) (length_w' : length W' ≡ y)
    (meet_east : E ≡ reverse S') (meet_north : N ≡ reverse W') where
  meet_x : (i : ℕ) → i < x → told_first.h i (long y) ≡ told_second.v 0 (x - 1 - i)
  meet_x i l =
      ap (λ n. told_first.h i (long n)) (sym length_s) ∙ told_first.east i (omega (arith, l, length_e)) ∙ turned_at S' E x i meet_east length_s' l ∙ sym (told_second.south (x - 1 - i) (omega (arith, l, length_s')))

  meet_y : (c : ℕ) → c < y → told_first.v (long x) c ≡ told_second.h (y - 1 - c) 0
  meet_y c l =
      ap (λ n. told_first.v (long n) c) (sym length_e) ∙ told_first.north c (omega (arith, l, length_s)) ∙ ap (λ n. slice_index N (n - 1 - c)) length_s ∙ turned_at W' N y (y - 1 - c) meet_north length_w' (omega (arith, l))
      ∙ ap (λ n. slice_index W' (n - 1 - (y - 1 - c))) (sym length_e') ∙ sym (told_second.west (y - 1 - c) (omega (arith, l, length_e')))

  abbrev f : ℕ → ℕ
  f = from x y few_x few_y told_first.v told_first.h told_second.v told_second.h meet_x meet_y

  abbrev g : ℕ → ℕ
  g = to x y few_x few_y told_first.v told_first.h told_second.v told_second.h meet_x meet_y

  abbrev before : List ℕ
  before = W ++ S

  abbrev behind : List ℕ
  behind = reverse N' ++ reverse E'

  long_before : length before ≡ x + y
  long_before = let e = length-append W S in omega (arith, e, length_w, length_s)

  long_behind : length behind ≡ x + y
  long_behind = let e = length-append (reverse N') (reverse E') in let p = length-reverse N' in let q = length-reverse E' in omega (arith, e, p, q, length_n', length_e')

  arcs_are : arcs_between f g 0 (x + y) ≡ zip before behind
  arcs_are =
      let z : (k : ℕ) → k ≡ 0 + k = λ k. omega arith in
      let p = length-reverse N' in
      ap (arcs_between f g 0) (sym long_before)
      ∙ zipped f g 0 before behind (long_behind ∙ sym long_before)
      (λ k l. ⊎_elim
      (λ low. at_append_low W S k (omega (arith, low, length_w)) ∙ ap (slice_index W) (let e : k ≡ length E - 1 - (x - 1 - k) = omega (arith, low, length_e) in e) ∙ sym (told_first.west (x - 1 - k) (omega (arith, low, length_e)))
      ∙ sym (in_lt k x (told_first.h (x - 1 - k) 0) (told_first.v 0 (k - x)) low) ∙ ap f (z k))
      (λ high. at_append_high W S k (k - x) (omega (arith, high, length_w)) ∙ sym (told_first.south (k - x) (omega (arith, high, l, long_before, length_s))) ∙ sym (out_lt k x (told_first.h (x - 1 - k) 0) (told_first.v 0 (k - x)) high) ∙ ap f (z k))
      (below_or k x))
      (λ k l. ⊎_elim
      (λ low. at_append_low (reverse N') (reverse E') k (omega (arith, low, p, length_n')) ∙ get_or-reverse N' k 0 (omega (arith, low, length_n')) ∙ ap (λ n. slice_index N' (n - 1 - k)) (length_n' ∙ sym length_s')
      ∙ sym (told_second.north k (omega (arith, low, length_s'))) ∙ ap (λ n. told_second.v (long n) k) length_e' ∙ sym (in_lt k x (told_second.v (long y) k) (told_second.h (x + y - 1 - k) (long x)) low) ∙ ap g (z k))
      (λ high. at_append_high (reverse N') (reverse E') k (k - x) (omega (arith, high, p, length_n')) ∙ get_or-reverse E' (k - x) 0 (omega (arith, high, l, long_before, length_e'))
      ∙ ap (slice_index E') (let e : length E' - 1 - (k - x) ≡ x + y - 1 - k = omega (arith, high, l, long_before, length_e') in e) ∙ sym (told_second.east (x + y - 1 - k) (omega (arith, high, l, long_before, length_e')))
      ∙ ap (λ n. told_second.h (x + y - 1 - k) (long n)) length_s' ∙ sym (out_lt k x (told_second.v (long y) k) (told_second.h (x + y - 1 - k) (long x)) high) ∙ ap g (z k))
      (below_or k x))

  module _ (free : ℕ) (rest : List Node) (ok_first : All IsNode first) (ok_second : All IsNode second) (ok : All IsNode rest) where
    abbrev V : List Node → ℕ
    V nodes = value m delta record { nodes = nodes; free_loops = free }

    abbrev g1 : List Node
    g1 = crossing_nodes (cond s a b) (cond s b a) told_first.v told_first.h x y

    abbrev g2 : List Node
    g2 = crossing_nodes (cond (not s) a b) (cond (not s) b a) told_second.v told_second.h y x

    size_1 : crossing_nodes (cond s a b) (cond s b a) told_first.v told_first.h (length E) (length S) ≡ g1
    size_1 = ap₂ (crossing_nodes (cond s a b) (cond s b a) told_first.v told_first.h) length_e length_s

    size_2 : crossing_nodes (cond (not s) a b) (cond (not s) b a) told_second.v told_second.h (length E') (length S') ≡ g2
    size_2 = ap₂ (crossing_nodes (cond (not s) a b) (cond (not s) b a) told_second.v told_second.h) length_e' length_s'

    -- A BIGON OF TOLD CROSSINGS
    pub told_bigon : ((z : ℕ) → 1 ≤ times_in (names_of (first ++ (second ++ rest))) z → times_in (names_of (first ++ (second ++ rest))) z ≡ 2) →
        ((z : ℕ) → 1 ≤ times_in before z + times_in behind z → times_in before z + times_in behind z + times_in (names_of rest) z ≡ 2) → V (first ++ (second ++ rest)) ≡ V (arcs_of (zip before behind) ++ rest)
    told_bigon twice ends =
        let ok1 = crossing_ok (cond s a b) (cond s b a) told_first.v told_first.h x y in
        let ok2 = crossing_ok (cond (not s) a b) (cond (not s) b a) told_second.v told_second.h y x in
        let arcs = arcs_between f g 0 (x + y) in
        let old_pairs : ArePaired (names_of (g1 ++ g2)) (names_of (g1 ++ g2) ++ names_of rest) =
        λ z w. (
        let one = times_of_member z (names_of (g1 ++ g2)) w in
        let p = times_of-append z g1 g2 in
        let q = times_in-append (names_of (g1 ++ g2)) (names_of rest) z in
        let u = times_of-append z first (second ++ rest) in
        let v = times_of-append z second rest in
        let t1 = told_first.times z ∙ ap (λ ns. times_in (names_of ns) z) size_1 in
        let t2 = told_second.times z ∙ ap (λ ns. times_in (names_of ns) z) size_2 in
        let two = twice z (omega (arith, one, p, u, v, t1, t2)) in
        omega (arith, p, q, u, v, t1, t2, two)) in
        let new_pairs : ArePaired (names_of (arcs_of arcs)) (names_of (arcs_of arcs) ++ names_of rest) =
        λ z w. (
        let one = times_of_member z (names_of (arcs_of arcs)) w in
        let e = ap (λ es. times_in (names_of (arcs_of es)) z) arcs_are ∙ ap (λ ns. times_in ns z) (names_of_arcs (zip before behind)) ∙ zip-times z before behind (long_behind ∙ sym long_before) in
        let q = times_in-append (names_of (arcs_of arcs)) (names_of rest) z in
        let two = ends z (omega (arith, one, e)) in
        omega (arith, e, q, two)) in
        told_first.same free (second ++ rest) (All-append IsNode second rest ok_second ok) ∙ ap (λ ns. V (ns ++ (second ++ rest))) size_1
        ∙ runs_exchanged m delta free g1 second rest ok1 ok_second ok
        ∙ told_second.same free (g1 ++ rest) (All-append IsNode g1 rest ok1 ok) ∙ ap (λ ns. V (ns ++ (g1 ++ rest))) size_2
        ∙ sym (runs_exchanged m delta free g1 g2 rest ok1 ok2 ok)
        ∙ ap V (sym (append_assoc g1 g2 rest))
        ∙ bundle_pair x y few_x few_y told_first.v told_first.h told_second.v told_second.h meet_x meet_y m a b delta free numbers s rest ok old_pairs new_pairs
        ∙ ap (λ es. V (arcs_of es ++ rest)) arcs_are

-- the other slot's parity
other_parity : (s t : ℕ) → s % 2 ≡ t % 2 → ((t + 1) % 2 == 0) ≡ not ((s + 2) % 2 == 0)
other_parity s t e =
    ⊎_elim
    (λ h. ap (λ r. r == 0) (let q : (t + 1) % 2 ≡ 1 = omega (arith, e, h) in q) ∙ sym (ap (λ r. not (r == 0)) (let q : (s + 2) % 2 ≡ 0 = omega (arith, h) in q)))
    (λ h. ap (λ r. r == 0) (let q : (t + 1) % 2 ≡ 0 = omega (arith, e, h) in q) ∙ sym (ap (λ r. not (r == 0)) (let q : (s + 2) % 2 ≡ 1 = omega (arith, h) in q)))
    (parity (s % 2) (omega arith))
  where
    parity : (r : ℕ) → r < 2 → (r ≡ 0) ⊎ (r ≡ 1)
    parity zero l = inl refl
    parity (suc zero) l = inr refl
    parity (suc (suc r)) l = absurd (omega (arith, l))

-- A BIGON AT ANY SLOTS
pub bigon_at_slots : BigonAtSlotsLaw
bigon_at_slots p delta free numbers g g' k k' s t here there rest low_s low_t parity h0 h1 t0 t1 few_y few_x meet_north meet_east ok_first ok_second ok twice =
    let first = crossing_cable p g k (here 0) (here 1) (here 2) (here 3) in
    let second = crossing_cable p g' k' (there 0) (there 1) (there 2) (there 3) in
    let x = length (here ((s + 3) % 4)) in
    let y = length (here s) in
    let oh = opposite_slots here h0 h1 s low_s in
    let ot = opposite_slots there t0 t1 t low_t in
    let S = here ((s + 2) % 4) in let E = here ((s + 3) % 4) in let N = here s in let W = here ((s + 1) % 4) in
    let S' = there ((t + 1) % 4) in let E' = there ((t + 2) % 4) in let N' = there ((t + 3) % 4) in let W' = there t in
    let length_s' : length S' ≡ x = sym (ap length meet_east ∙ length-reverse S') in
    let length_w' : length W' ≡ y = sym (ap length meet_north ∙ length-reverse W') in
    let over = (s + 2) % 2 == 0 in
    let e1 : (s + 2 + 1) % 4 ≡ (s + 3) % 4 = omega arith in
    let e2 : (s + 2 + 2) % 4 ≡ s = omega (arith, low_s) in
    let e3 : (s + 2 + 3) % 4 ≡ (s + 1) % 4 = omega arith in
    let d1 : (t + 1 + 1) % 4 ≡ (t + 2) % 4 = omega arith in
    let d2 : (t + 1 + 2) % 4 ≡ (t + 3) % 4 = omega arith in
    let d3 : (t + 1 + 3) % 4 ≡ t = omega (arith, low_t) in
    let told_first : IsTold p.modulus delta first (cond over p.root (inverse_root p)) (cond over (inverse_root p) p.root) S E N W =
    retold p.modulus delta first (cond over p.root (inverse_root p)) (cond over (inverse_root p) p.root) S (here ((s + 2 + 1) % 4)) (here ((s + 2 + 2) % 4)) (here ((s + 2 + 3) % 4)) S E N W refl (ap here e1) (ap here e2) (ap here e3)
    (told_from p delta g k here h0 h1 ok_first (s + 2) (omega (arith, low_s))) in
    let Q : Bool → Type 0 = λ b. IsTold p.modulus delta second (cond b p.root (inverse_root p)) (cond b (inverse_root p) p.root) S' E' N' W' in
    let told_second : Q (not over) =
    subst Q (other_parity s t parity)
    (retold p.modulus delta second (cond ((t + 1) % 2 == 0) p.root (inverse_root p)) (cond ((t + 1) % 2 == 0) (inverse_root p) p.root) S' (there ((t + 1 + 1) % 4)) (there ((t + 1 + 2) % 4)) (there ((t + 1 + 3) % 4)) S' E' N' W' refl (ap there d1) (ap there d2) (ap there d3)
    (told_from p delta g' k' there t0 t1 ok_second (t + 1) (omega (arith, low_t)))) in
    let ends : (z : ℕ) → 1 ≤ times_in (W ++ S) z + times_in (reverse N' ++ reverse E') z → times_in (W ++ S) z + times_in (reverse N' ++ reverse E') z + times_in (names_of rest) z ≡ 2 =
    λ z one. (
    let u = times_in-append W S z in
    let v = times_in-append (reverse N') (reverse E') z in
    let rn = times-reverse z N' in let re = times-reverse z E' in
    let c1 = crossing-times p g k z (here 0) (here 1) (here 2) (here 3) h0 h1 in
    let c2 = crossing-times p g' k' z (there 0) (there 1) (there 2) (there 3) t0 t1 in
    let s1 = four_summed (λ r. times_in (here r) z) s (omega (arith, low_s)) in
    let s2 = four_summed (λ r. times_in (there r) z) t (omega (arith, low_t)) in
    let f1 : times_in (here (s % 4)) z ≡ times_in N z = ap (λ r. times_in (here r) z) (let e : s % 4 ≡ s = omega (arith, low_s) in e) in
    let f2 : times_in (there (t % 4)) z ≡ times_in W' z = ap (λ r. times_in (there r) z) (let e : t % 4 ≡ t = omega (arith, low_t) in e) in
    let mn : times_in N z ≡ times_in W' z = ap (λ xs. times_in xs z) meet_north ∙ times-reverse z W' in
    let me : times_in E z ≡ times_in S' z = ap (λ xs. times_in xs z) meet_east ∙ times-reverse z S' in
    let a = times_of-append z first (second ++ rest) in
    let b = times_of-append z second rest in
    let two = twice z (omega (arith, one, u, v, rn, re, c1, c2, s1, s2, f1, f2, a, b)) in
    omega (arith, one, u, v, rn, re, c1, c2, s1, s2, f1, f2, mn, me, a, b, two)) in
    told_bigon p.modulus p.root (inverse_root p) delta numbers over x y few_x few_y first second S E N W S' E' N' W' told_first told_second oh.0 refl refl (sym oh.1) length_s' (ot.0 ∙ length_w') (ot.1 ∙ length_s') length_w' meet_east meet_north
    free rest ok_first ok_second ok twice ends
