-- The cabled crossing of a curl beside any other nodes: a factor for each strand times a twist of the strands, whose letters have new names. So where the
-- twist's letters count as their weights of going straight on, the crossing counts as mu_n to the power of the curl times the strands.
use Rattle.std.proofs.Common.{◌≡◌, ℕ, zero, suc, ◌⊎◌, inl, inr, ⊎_elim, ◌+◌, ◌-◌, ◌*◌, ◌/◌, ◌%◌, ◌^◌, ◌<◌, ◌≤◌, ◌==◌, Bool, true, cond, List, ◌++◌, map, refl, length, reverse, slice_index, sym, subst, ap, ap₂, ◌∙◌, arith, All, ◌||◌}
use Rattle.std.specs.List.{range_with_len, zip}
use Rattle.std.specs.Set.{is_member}
use Rattle.std.proofs.lemmas.List.{length-reverse}
use Rattle.std.proofs.lemmas.List.FromFn.{length-map-range_with_len}
use Rattle.std.proofs.lemmas.Nat.{mul-mod_second}
use Rattle.graph_parts.proofs.Counting.{is_member-map}
use Rattle.graph_parts.proofs.Distinct.{is_member-append}
use Rattle.list_lemmas.specs.Times.{times_in}
use Rattle.list_lemmas.proofs.Ranges.{is_member-range}
use Rattle.root_quantum.specs.Parameters.{Parameters}
use Rattle.root_quantum.specs.QuantumNumbers.{inverse_root, loop_value}
use Rattle.state_sums.specs.Networks.{Node, IsNode, names_of}
use Rattle.state_sums.specs.StateSums.{value}
use Rattle.piece_laws.specs.Arcs.{arcs_of}
use Rattle.piece_laws.proofs.NameCounts.{bound, below_bound}
use Rattle.piece_laws.proofs.ParameterNumbers.{skein_numbers}
use Rattle.box_laws.proofs.CurlFactors.{curl_factor}
use Rattle.planar_check.specs.declared.sign.Sign.{Sign}
use Rattle.planar_check.specs.declared.sign.Sign.TheVariants as signs
use Rattle.strand_words.specs.Grids.{crossed}
use Rattle.strand_words.specs.Words.{Letter}
use Rattle.strand_words.specs.Boxes as words
use Rattle.state_sums.proofs.Congruent.{mul_same_mod}
use Rattle.word_networks.specs.GridNetworks.{grid_nodes}
use Rattle.diagram_moves.proofs.Curling.{is_plus}
use Rattle.cables.proofs.NameCounts.{times_of-append, times-reverse}
use Rattle.cable_crossings.proofs.CrossingSteps.{crossing_nodes, long}
use Rattle.cable_crossings.proofs.ToldCrossings.{IsTold, listed, told, told_from}
use Rattle.coloured_moves.proofs.CurledStrands.{curl_cable, curl_twist, condition}
use Rattle.coloured_curls.specs.Boxes.{letter_nodes, names_behind, arcs_between}
use Rattle.cable_crossings.proofs.StepPieces.{member_of_one}
use Rattle.coloured_curls.proofs.PieceCounts.{found_in_range}
use Rattle.coloured_curls.proofs.AbsorbedTwists.{count, twist_count}
use Rattle.coloured_curls.proofs.StrandLists.{reversed_list, between_lists}
use Rattle.coloured_curls.proofs.ClosedTwists as twists
use Rattle.coloured_curls.proofs.GridCounts.{among}

some_or : (k : ℕ) → (1 ≤ k) ⊎ (k ≡ 0)
some_or zero = inr refl
some_or (suc k) = inl (omega arith)

within : (i n : ℕ) → i < 0 + n → i < n
within i n h = omega (arith, h)

under : (c j : ℕ) → c - j < suc c
under c j = omega arith

third_stands : (a b k : ℕ) → 1 ≤ a + b + k → a ≡ 0 → b ≡ 0 → 1 ≤ k
third_stands a b k one no_a no_b = omega (arith, one, no_a, no_b)

-- which strands of a curl go in where the twist stands, and which come out
abbrev pub strands_in : Sign → List ℕ → List ℕ → List ℕ
strands_in signs.Plus E W = E
strands_in signs.Minus E W = W

abbrev pub strands_out : Sign → List ℕ → List ℕ → List ℕ
strands_out signs.Plus E W = W
strands_out signs.Minus E W = E

pub told_curl : (p : Parameters) (g k c : ℕ) (sign : Sign) (E W M : List ℕ) → length E ≡ suc c → length W ≡ suc c → length M ≡ suc c → All IsNode (curl_cable p g k sign E W M) →
    IsTold p.modulus (loop_value p) (curl_cable p g k sign E W M) (crossed p.root (inverse_root p) (is_plus sign) 0).straight (crossed p.root (inverse_root p) (is_plus sign) 0).hook (strands_in sign E W) (strands_out sign E W) M (reverse M)
told_curl p g k c signs.Plus E W M long_E long_W long_M h = told p (loop_value p) g k E W M (reverse M) (long_E ∙ sym long_M) (long_W ∙ sym (length-reverse M ∙ long_M)) h
told_curl p g k c signs.Minus E W M long_E long_W long_M h =
    let sides : ℕ → List ℕ = λ i. cond (i == 0) E (cond (i == 1) M (cond (i == 2) (reverse M) W)) in
    told_from p (loop_value p) g k sides (long_E ∙ sym (length-reverse M ∙ long_M)) (long_M ∙ sym long_W) h 3 (omega arith)

pub long_strands_in : (n : ℕ) (sign : Sign) (E W : List ℕ) → length E ≡ n → length W ≡ n → length (strands_in sign E W) ≡ n
long_strands_in n signs.Plus E W e w = e
long_strands_in n signs.Minus E W e w = w

pub long_strands_out : (n : ℕ) (sign : Sign) (E W : List ℕ) → length E ≡ n → length W ≡ n → length (strands_out sign E W) ≡ n
long_strands_out n signs.Plus E W e w = w
long_strands_out n signs.Minus E W e w = e

module _ (p : Parameters) (free c : ℕ) (sign : Sign) (into out M : List ℕ) (few : suc c ≤ 8) (long_into : length into ≡ suc c) (long_out : length out ≡ suc c) (long_M : length M ≡ suc c) (X1 R0 : List Node)
    (t : IsTold p.modulus (loop_value p) X1 (crossed p.root (inverse_root p) (is_plus sign) 0).straight (crossed p.root (inverse_root p) (is_plus sign) 0).hook into out M (reverse M)) (ok_0 : All IsNode R0)
    (twice : (z : ℕ) → 1 ≤ times_in (names_of (X1 ++ R0)) z → times_in (names_of (X1 ++ R0)) z ≡ 2) where
  abbrev pub m : ℕ
  m = p.modulus

  abbrev pub delta : ℕ
  delta = loop_value p

  abbrev pub a : ℕ
  a = p.root

  abbrev pub b : ℕ
  b = inverse_root p

  abbrev pub s : Bool
  s = is_plus sign

  abbrev pub N : ℕ
  N = suc c

  abbrev pub x : ℕ
  x = (crossed a b s 0).straight

  abbrev pub y : ℕ
  y = (crossed a b s 0).hook

  abbrev pub V : List Node → ℕ
  V ns = value m delta record { nodes = ns; free_loops = free }

  abbrev pub v : ℕ → ℕ → ℕ
  v = t.v

  abbrev pub h : ℕ → ℕ → ℕ
  h = t.h

  pub in_at : (j : ℕ) → j < N → v 0 j ≡ slice_index into j
  in_at j l = t.south j (let e = long_into in omega (arith, e, l))

  pub out_at : (i : ℕ) → i < N → h i N ≡ slice_index out i
  out_at i l = ap (λ w. h i (long w)) (sym long_into) ∙ t.east i (let e = long_out in omega (arith, e, l))

  meet : (j : ℕ) → j < N → v N j ≡ h (c - j) 0
  meet j l =
      let lo = long_out in
      let li = long_into in
      ap (λ w. v (long w) j) (sym lo) ∙ t.north j (omega (arith, li, l)) ∙ ap (slice_index M) (let e : length into - 1 - j ≡ c - j = omega (arith, li) in e)
      ∙ sym (t.west (c - j) (omega (arith, lo, l)) ∙ ap (slice_index (reverse M)) (let e : length out - 1 - (c - j) ≡ j = omega (arith, lo, l) in e) ∙ reversed_list M c j long_M l)

  abbrev pub L1 : (ℕ → ℕ) → List ℕ
  L1 q = map q (range_with_len 0 N)

  -- ---- a number past all names
  abbrev pub some_v : List ℕ
  some_v = map (λ w. v (w / 16) (w % 16)) (range_with_len 0 256)

  abbrev pub some_h : List ℕ
  some_h = map (λ w. h (w / 16) (w % 16)) (range_with_len 0 256)

  abbrev pub big : ℕ
  big = bound (some_v ++ (some_h ++ names_of R0))

  first_in : (xs ys : List ℕ) (z : ℕ) → is_member ◌==◌ xs z ≡ true → is_member ◌==◌ (xs ++ ys) z ≡ true
  first_in xs ys z m = is_member-append xs ys z ∙ plain (is_member ◌==◌ xs z) (is_member ◌==◌ ys z) m
    where
      plain : (s t : Bool) → s ≡ true → (s || t) ≡ true
      plain s t e = grind (arith, e)

  second_in : (xs ys : List ℕ) (z : ℕ) → is_member ◌==◌ ys z ≡ true → is_member ◌==◌ (xs ++ ys) z ≡ true
  second_in xs ys z m = is_member-append xs ys z ∙ plain (is_member ◌==◌ xs z) (is_member ◌==◌ ys z) m
    where
      plain : (s t : Bool) → t ≡ true → (s || t) ≡ true
      plain s t e = grind (arith, e)

  tabled : (q : ℕ → ℕ → ℕ) (i j : ℕ) → i ≤ 8 → j ≤ 8 → is_member ◌==◌ (map (λ w. q (w / 16) (w % 16)) (range_with_len 0 256)) (q i j) ≡ true
  tabled q i j li lj =
      let w = 16 * i + j in
      let e : w / 16 ≡ i = omega (arith, lj) in
      let d : w % 16 ≡ j = omega (arith, lj) in
      ap (is_member ◌==◌ (map (λ w. q (w / 16) (w % 16)) (range_with_len 0 256))) (sym (ap₂ q e d))
      ∙ is_member-map (λ w. q (w / 16) (w % 16)) (range_with_len 0 256) w (is_member-range 0 256 w (omega arith) (omega (arith, li, lj)))

  pub low_v : (i j : ℕ) → i ≤ N → j < N → v i j < big
  low_v i j li lj = below_bound (v i j) (some_v ++ (some_h ++ names_of R0)) (first_in some_v (some_h ++ names_of R0) (v i j) (tabled v i j (omega (arith, li, few)) (omega (arith, lj, few))))

  pub low_h : (i j : ℕ) → i < N → j ≤ N → h i j < big
  low_h i j li lj = below_bound (h i j) (some_v ++ (some_h ++ names_of R0)) (second_in some_v (some_h ++ names_of R0) (h i j) (first_in some_h (names_of R0) (h i j) (tabled h i j (omega (arith, li, few)) (omega (arith, lj, few)))))

  pub low_rest : (z : ℕ) → is_member ◌==◌ (names_of R0) z ≡ true → z < big
  low_rest z e = below_bound z (some_v ++ (some_h ++ names_of R0)) (second_in some_v (some_h ++ names_of R0) z (second_in some_h (names_of R0) z e))

  -- ---- the crossing is a twist
  abbrev pub crossing_at : List Node
  crossing_at = grid_nodes x y v h 0 N N

  as_grid : V (X1 ++ R0) ≡ V (crossing_at ++ R0)
  as_grid = t.same free R0 ok_0 ∙ ap₂ (λ i j. V (crossing_nodes x y v h i j ++ R0)) long_out long_into

  grid_twice : (z : ℕ) → 1 ≤ times_in (names_of (crossing_at ++ R0)) z → times_in (names_of (crossing_at ++ R0)) z ≡ 2
  grid_twice z one =
      let p1 = times_of-append z crossing_at R0 in
      let p2 = times_of-append z X1 R0 in
      let e : times_in (names_of X1) z ≡ times_in (names_of crossing_at) z = t.times z ∙ ap₂ (λ i j. times_in (names_of (crossing_nodes x y v h i j)) z) long_out long_into in
      let two = twice z (omega (arith, p1, p2, e, one)) in
      omega (arith, p1, p2, e, two)

  abbrev pub u : List Letter
  u = words.twist a b s 0 c N

  abbrev pub T : ℕ → ℕ
  T = names_behind u (v 0) big

  abbrev pub leaves : ℕ → ℕ
  leaves j = h (c - j) N

  abbrev pub L : List Node
  L = letter_nodes u (v 0) big

  abbrev pub A : List Node
  A = arcs_of (arcs_between T leaves 0 N)

  pub turned_value : V (crossing_at ++ R0) ≡ curl_twist p 1 sign ^ N * V ((L ++ A) ++ R0) % m
  turned_value = twists.closed_twist a b s c few v h big R0 ok_0 meet low_v low_h low_rest grid_twice m delta free (curl_twist p 1 sign) (skein_numbers p).skein (condition p sign)

  -- there, too, each name stands twice
  pub turned_twice : (z : ℕ) → 1 ≤ times_in (names_of (L ++ A)) z + times_in (names_of R0) z → times_in (names_of (L ++ A)) z + times_in (names_of R0) z ≡ 2
  turned_twice z one = twists.turned_twice a b s c few v h big R0 ok_0 meet low_v low_h low_rest grid_twice z one

  pub A_is : A ≡ arcs_of (zip (L1 T) (L1 leaves))
  A_is = ap arcs_of (between_lists T leaves 0 N)

  long_list : (q : ℕ → ℕ) → length (L1 q) ≡ N
  long_list q = length-map-range_with_len q 0 N

  pub into_list : L1 (v 0) ≡ into
  into_list = sym (listed (v 0) into N long_into (λ i l. sym (in_at i l)))

  pub leaves_list : L1 leaves ≡ reverse out
  leaves_list =
      sym (listed leaves (reverse out) N (length-reverse out ∙ long_out) (λ i l. reversed_list out c i long_out l ∙ sym (out_at (c - i) (omega arith))))

  -- ---- the factor
  factor : (sg : Sign) → (curl_twist p 1 sg ^ N * (crossed a b (is_plus sg) 0).straight ^ (N * c)) % m ≡ curl_twist p N sg % m
  factor signs.Plus = ap (λ i. (curl_twist p 1 signs.Plus ^ i * a ^ (i * c)) % m) (let e : N ≡ c + 1 = omega arith in e) ∙ (curl_factor p c).positive ∙ ap (λ i. curl_twist p i signs.Plus % m) (let e : c + 1 ≡ N = omega arith in e)
  factor signs.Minus = ap (λ i. (curl_twist p 1 signs.Minus ^ i * b ^ (i * c)) % m) (let e : N ≡ c + 1 = omega arith in e) ∙ (curl_factor p c).negative ∙ ap (λ i. curl_twist p i signs.Minus % m) (let e : c + 1 ≡ N = omega arith in e)

  -- how often a name stands
  pub strands_twice : (z : ℕ) → 1 ≤ times_in into z + times_in out z + times_in (names_of R0) z → times_in into z + times_in out z + times_in (names_of R0) z ≡ 2
  strands_twice z one =
      let q = twists.whole_times a b s c few v h big R0 ok_0 meet low_v low_h low_rest grid_twice z in
      let e : among (v 0) 0 N z ≡ times_in into z = ap (λ ns. times_in ns z) into_list in
      let o : among (λ k. h k N) 0 N z ≡ times_in out z = ap (λ ns. times_in ns z) (sym (listed (λ k. h k N) out N long_out (λ i l. sym (out_at i l)))) in
      let p1 = times_of-append z crossing_at R0 in
      let two = grid_twice z (omega (arith, q, e, o, p1, one)) in
      omega (arith, q, e, o, p1, two, one)

  -- the twist's new names are past all of these
  pub low_name : (z : ℕ) → 1 ≤ times_in into z + times_in out z + times_in (names_of R0) z → z < big
  low_name z one =
      ⊎_elim
      (λ a.
      let e : among (v 0) 0 N z ≡ times_in into z = ap (λ ns. times_in ns z) into_list in
      let r = found_in_range (v 0) z 0 N (subst (λ n. 1 ≤ n) (sym e) a) in
      subst (λ n. n < big) (sym r.3) (low_v 0 r.0 (omega arith) (within r.0 N r.2)))
      (λ a. ⊎_elim
      (λ b.
      let e : among leaves 0 N z ≡ times_in out z = ap (λ ns. times_in ns z) leaves_list ∙ times-reverse z out in
      let r = found_in_range leaves z 0 N (subst (λ n. 1 ≤ n) (sym e) b) in
      subst (λ n. n < big) (sym r.3) (low_h (c - r.0) N (under c r.0) (omega arith)))
      (λ b. low_rest z (member_of_one z (names_of R0) (third_stands (times_in into z) (times_in out z) (times_in (names_of R0) z) one a b)))
      (some_or (times_in out z)))
      (some_or (times_in into z))

  -- THE CURL, WHERE ITS TWIST'S LETTERS ARE FACTORS
  pub curl_counts : (Z : ℕ) → V ((L ++ A) ++ R0) ≡ x ^ count u * Z % m → V (X1 ++ R0) ≡ curl_twist p N sign * Z % m
  curl_counts Z absorbed =
      let w = curl_twist p 1 sign ^ N in
      let r = x ^ (N * c) in
      as_grid
      ∙ turned_value
      ∙ ap (λ j. w * j % m) absorbed
      ∙ mul-mod_second w (x ^ count u * Z) m
      ∙ ap (λ i. (w * (x ^ i * Z)) % m) (twist_count a b s 0 c N)
      ∙ ap (λ j. j % m) (let e : w * (r * Z) ≡ Z * (w * r) = omega arith in e)
      ∙ mul_same_mod m Z (w * r) (curl_twist p N sign) (factor sign)
      ∙ ap (λ j. j % m) (let e : Z * curl_twist p N sign ≡ curl_twist p N sign * Z = omega arith in e)
