-- Two bundles that cross and cross back, told from any of the slots of both crossings, and each of which may be empty: they are arcs.
-- Strand i of a bundle has at its m-th edge, counted from below, the number 8 (32 i + m), and 1 more in the second bundle.
use Rattle.std.proofs.Common.{◌≡◌, ◌≢◌, ℕ, ◌+◌, ◌-◌, ◌<◌, ◌≤◌, ◌==◌, inl, inr, nat_lt, nat_le, not, Bool, if◌then◌else◌, cond, List, [], ◌++◌, map, sym, ap, ap₂, ◌∙◌, arith, ⊎_elim, All, subst, append-nil}
use Rattle.state_sums.specs.LocalSums.{rename, AreSkeinNumbers}
use Rattle.state_sums.specs.Networks.{Node, IsNode, names_of}
use Rattle.state_sums.specs.StateSums.{value}
use Rattle.state_sums.proofs.NodeNames.{names_of-rename}
use Rattle.piece_laws.specs.Arcs.{arcs_of}
use Rattle.piece_laws.specs.Pieces.{ArePaired}
use Rattle.piece_laws.proofs.RenamedNodes.{rename-append}
use Rattle.strand_words.specs.Words.{top}
use Rattle.strand_words.proofs.WordLaws.{bundle_second_move}
use Rattle.word_networks.specs.GridNetworks.{FitsGrid}
use Rattle.word_networks.specs.PlacedGrids.{passes}
use Rattle.word_networks.specs.Spelling.{AgreeOn, Spells}
use Rattle.word_networks.specs.Steps.{Step, names_after, step_nodes}
use Rattle.word_networks.specs.Strands.{strand_points}
use Rattle.word_networks.proofs.Grids.{names_after-append, step_nodes-append, Spells-append}
use Rattle.word_networks.proofs.PlacedGrids.{passes_spell}
use Rattle.word_networks.proofs.Strands.{strand_top}
use Rattle.strand_words.specs.Grids as words
use Rattle.cable_crossings.proofs.BundleBigon.{passes_run, passes_agree, passes_arcs, arcs_between}
use Rattle.cable_crossings.proofs.CrossingSteps.{long, long-few, long-some, crossing_nodes, crossing_steps, crossing_renamed, crossing_spells, Follows, crossing_follows, crossing_tops, crossing_names, crossing_distinct, IsLongName, AreLongNames}
use Rattle.cable_crossings.proofs.NameCodes.{code, named_by, named_by-code, in_lt, out_lt, below_or, in_le, joined}
use Rattle.cable_crossings.proofs.StepPieces.{IsRun, based, runs_anywhere}
use Rattle.cable_crossings.proofs.ThreeRuns.{three_runs}

module _ (x y : ℕ) (few_x : x ≤ 8) (few_y : y ≤ 8) where
  abbrev n : ℕ
  n = x + y

  abbrev lx : ℕ
  lx = long x

  abbrev ly : ℕ
  ly = long y

  -- ---- the names before and behind
  abbrev base : ℕ → ℕ
  base k = cond (nat_lt k x) (code 0 (x - 1 - k) 0) (code 1 (k - x) 0)

  abbrev final : ℕ → ℕ
  final k = cond (nat_lt k x) (code 0 (x - 1 - k) (ly + ly)) (code 1 (k - x) (lx + lx))

  base_x : (k : ℕ) → k < x → base k ≡ code 0 (x - 1 - k) 0
  base_x k l = in_lt k x (code 0 (x - 1 - k) 0) (code 1 (k - x) 0) l

  base_y : (k : ℕ) → x ≤ k → base k ≡ code 1 (k - x) 0
  base_y k l = out_lt k x (code 0 (x - 1 - k) 0) (code 1 (k - x) 0) l

  final_x : (k : ℕ) → k < x → final k ≡ code 0 (x - 1 - k) (ly + ly)
  final_x k l = in_lt k x (code 0 (x - 1 - k) (ly + ly)) (code 1 (k - x) (lx + lx)) l

  final_y : (k : ℕ) → x ≤ k → final k ≡ code 1 (k - x) (lx + lx)
  final_y k l = out_lt k x (code 0 (x - 1 - k) (ly + ly)) (code 1 (k - x) (lx + lx)) l

  one : (i j : ℕ) → i < n → j < n → base i ≡ base j → i ≡ j
  one i j a b e =
      ⊎_elim
      (λ p. (let u = base_x i p in ⊎_elim (λ q. (let v = base_x j q in omega (arith, e, u, v, p, q))) (λ q. absurd (let v = base_y j q in omega (arith, e, u, v))) (below_or j x)))
      (λ p. (let u = base_y i p in ⊎_elim (λ q. absurd (let v = base_x j q in omega (arith, e, u, v))) (λ q. (let v = base_y j q in omega (arith, e, u, v, p, q))) (below_or j x)))
      (below_or i x)

  one_final : (i j : ℕ) → i < n → j < n → final i ≡ final j → i ≡ j
  one_final i j a b e =
      ⊎_elim
      (λ p. (let u = final_x i p in ⊎_elim (λ q. (let v = final_x j q in omega (arith, e, u, v, p, q))) (λ q. absurd (let v = final_y j q in omega (arith, e, u, v))) (below_or j x)))
      (λ p. (let u = final_y i p in ⊎_elim (λ q. absurd (let v = final_x j q in omega (arith, e, u, v))) (λ q. (let v = final_y j q in omega (arith, e, u, v, p, q))) (below_or j x)))
      (below_or i x)

  final_new : (i j : ℕ) → i < n → j < n → final i ≢ base j
  final_new i j a b e =
      let ax = long-few x few_x in let ay = long-few y few_y in let bx = long-some x in let by = long-some y in
      ⊎_elim
      (λ p. (let u = final_x i p in ⊎_elim (λ q. (let v = base_x j q in omega (arith, e, u, v, ay, by))) (λ q. (let v = base_y j q in omega (arith, e, u, v))) (below_or j x)))
      (λ p. (let u = final_y i p in ⊎_elim (λ q. (let v = base_x j q in omega (arith, e, u, v))) (λ q. (let v = base_y j q in omega (arith, e, u, v, ax, bx))) (below_or j x)))
      (below_or i x)

  abbrev name : ℕ → ℕ
  name = based base

  name_top : (k : ℕ) → name (top k) ≡ base k
  name_top k = ap base (strand_top k)

  abbrev v1 : ℕ → ℕ → ℕ
  v1 i j = code 1 j i

  abbrev h1 : ℕ → ℕ → ℕ
  h1 i j = code 0 i j

  abbrev v2 : ℕ → ℕ → ℕ
  v2 i j = code 0 (x - 1 - j) (ly + i)

  abbrev h2 : ℕ → ℕ → ℕ
  h2 i j = code 1 (y - 1 - i) (lx + j)

  module _ (a1 b1 a2 b2 : ℕ) where
    abbrev s1 : List Step
    s1 = crossing_steps a1 b1 v1 h1 0 x y

    abbrev s2 : List Step
    s2 = crossing_steps a2 b2 v2 h2 0 y x

    abbrev steps : List Step
    steps = s1 ++ (s2 ++ [])

    abbrev others : List Step
    others = passes final 0 n

    abbrev between_two : ℕ → ℕ
    between_two = names_after name s1

    fits_1 : FitsGrid name v1 h1 0 0 x y
    fits_1 = record {
      west = λ k r l h e. name_top k ∙ base_x k (omega (arith, h)) ∙ omega (arith, e);
      south = λ k c l h e. name_top k ∙ base_y k (omega (arith, l)) ∙ omega (arith, e);
    }

    follows_1 : Follows name between_two v1 h1 0 x y
    follows_1 = crossing_follows a1 b1 v1 h1 name 0 x y fits_1

    fits_2 : FitsGrid between_two v2 h2 0 0 y x
    fits_2 = record {
      west = λ k r l h e. follows_1.north k k l h (omega arith) ∙ omega (arith, e);
      south = λ k c l h e. follows_1.east k (x - 1 - c) l h (omega (arith, e, h)) ∙ omega arith;
    }

    follows_2 : Follows between_two (names_after between_two s2) v2 h2 0 y x
    follows_2 = crossing_follows a2 b2 v2 h2 between_two 0 y x fits_2

    behind : (k : ℕ) → k < n → names_after name steps (top k) ≡ final k
    behind k l =
        ap (λ (f : ℕ → ℕ). f (top k)) (names_after-append name s1 (s2 ++ []) ∙ names_after-append between_two s2 [])
        ∙ ⊎_elim
        (λ p. follows_2.north k k (omega arith) (omega (arith, p)) (omega arith) ∙ (let e = final_x k p in omega (arith, e)))
        (λ p. follows_2.east k (x + y - 1 - k) (omega (arith, p)) (omega (arith, l)) (omega (arith, p, l)) ∙ (let e = final_y k p in let t : y - 1 - (x + y - 1 - k) ≡ k - x = omega (arith, p, l) in omega (arith, e, t)))
        (below_or k x)

    abbrev First : ℕ → Type 0
    First w = IsLongName v1 h1 x y w

    abbrev Second : ℕ → Type 0
    Second w = IsLongName v2 h2 y x w

    names_1 : AreLongNames v1 h1 x y
    names_1 = record {
      vertical = λ i j k l i0 ix jy k0 kx lt e. let ax = long-few x few_x in (omega (arith, e, ix, kx, ax), omega (arith, e, ix, kx, ax));
      horizontal = λ i j k l ix j0 jy kx l0 lt e. let ay = long-few y few_y in (omega (arith, e, jy, lt, ay), omega (arith, e, jy, lt, ay));
      apart = λ i j k l i0 ix jy kx l0 lt e. omega (arith, e);
    }

    names_2 : AreLongNames v2 h2 y x
    names_2 = record {
      vertical = λ i j k l i0 iy jx k0 ky lt e. let ay = long-few y few_y in (omega (arith, e, iy, ky, jx, lt, ay), omega (arith, e, iy, ky, jx, lt, ay));
      horizontal = λ i j k l iy j0 jx ky l0 lt e. let ax = long-few x few_x in (omega (arith, e, iy, ky, jx, lt, ax), omega (arith, e, iy, ky, jx, lt, ax));
      apart = λ i j k l i0 iy jx ky l0 lt e. omega (arith, e);
    }

    clash : (w : ℕ) → First w → Second w → ⊥
    clash w (inl p) (inl q) = let e = p.5 in let f = q.5 in omega (arith, e, f)
    clash w (inl p) (inr q) = let e = p.5 in let f = q.5 in let a = p.3 in let b = q.3 in let d = q.4 in let ax = long-few x few_x in omega (arith, e, f, a, b, d, ax)
    clash w (inr p) (inl q) = let e = p.5 in let f = q.5 in let a = p.4 in let b = q.2 in let d = q.3 in let ay = long-few y few_y in omega (arith, e, f, a, b, d, ay)
    clash w (inr p) (inr q) = let e = p.5 in let f = q.5 in omega (arith, e, f)

    first_new : (w k : ℕ) → First w → k < n → w ≢ base k
    first_new w k (inl p) l e =
        let f = p.5 in let a = p.2 in let b = p.3 in let ax = long-few x few_x in
        ⊎_elim (λ q. (let g = base_x k q in omega (arith, e, f, g))) (λ q. (let g = base_y k q in omega (arith, e, f, g, a, b, ax))) (below_or k x)
    first_new w k (inr p) l e =
        let f = p.5 in let a = p.3 in let b = p.4 in let ay = long-few y few_y in
        ⊎_elim (λ q. (let g = base_x k q in omega (arith, e, f, g, a, b, ay))) (λ q. (let g = base_y k q in omega (arith, e, f, g))) (below_or k x)

    second_new : (w k : ℕ) → Second w → k < n → w ≢ base k
    second_new w k (inl p) l e =
        let f = p.5 in let a = p.2 in let b = p.3 in let ay = long-few y few_y in
        ⊎_elim (λ q. (let g = base_x k q in omega (arith, e, f, g, a, b, ay))) (λ q. (let g = base_y k q in omega (arith, e, f, g))) (below_or k x)
    second_new w k (inr p) l e =
        let f = p.5 in let a = p.3 in let b = p.4 in let ax = long-few x few_x in
        ⊎_elim (λ q. (let g = base_x k q in omega (arith, e, f, g))) (λ q. (let g = base_y k q in omega (arith, e, f, g, a, b, ax))) (below_or k x)

    run : IsRun n base steps
    run =
        three_runs n base s1 s2 [] (crossing_tops n a1 b1 v1 h1 0 x y (omega arith)) (crossing_tops n a2 b2 v2 h2 0 y x (omega arith)) tt (crossing_distinct a1 b1 v1 h1 0 x y names_1) (crossing_distinct a2 b2 v2 h2 0 y x names_2) tt
        First Second (λ w. ⊥) (crossing_names a1 b1 v1 h1 0 x y) (crossing_names a2 b2 v2 h2 0 y x) (λ w m. grind (arith, m)) clash (λ w p q. q) (λ w p q. q) first_new second_new (λ w k p. absurd p)
        (λ j k lj lk e. final_new j k lj lk (sym (behind j lj) ∙ e))

    other_run : IsRun n base others
    other_run = passes_run n base final one_final final_new

    agree : AgreeOn (strand_points 0 n) (names_after name steps) (names_after name others)
    agree = passes_agree n base final one_final final_new steps run (λ k l. behind k l)

  -- ---- at any names
  module _ (V₁ H₁ V₂ H₂ : ℕ → ℕ → ℕ) (meet_x : (i : ℕ) → i < x → H₁ i ly ≡ V₂ 0 (x - 1 - i)) (meet_y : (c : ℕ) → c < y → V₁ lx c ≡ H₂ (y - 1 - c) 0) where
    abbrev pick : ℕ → ℕ → ℕ → ℕ
    pick tag i m = cond (tag == 0) (cond (nat_le m ly) (H₁ i m) (V₂ (m - ly) (x - 1 - i))) (cond (nat_le m lx) (V₁ m i) (H₂ (y - 1 - i) (m - lx)))

    abbrev r : ℕ → ℕ
    r = named_by pick

    r_code : (tag i m : ℕ) → tag < 8 → m < 32 → r (code tag i m) ≡ pick tag i m
    r_code = named_by-code pick

    v1_is : (i j : ℕ) → i ≤ lx → j < y → r (v1 i j) ≡ V₁ i j
    v1_is i j l h = let a = long-few x few_x in r_code 1 j i (omega arith) (omega (arith, l, a)) ∙ in_le i lx (V₁ i j) (H₂ (y - 1 - j) (i - lx)) l

    h1_is : (i j : ℕ) → i < x → j ≤ ly → r (h1 i j) ≡ H₁ i j
    h1_is i j l h = let a = long-few y few_y in r_code 0 i j (omega arith) (omega (arith, h, a)) ∙ in_le j ly (H₁ i j) (V₂ (j - ly) (x - 1 - i)) h

    v2_is : (i j : ℕ) → i ≤ ly → j < x → r (v2 i j) ≡ V₂ i j
    v2_is i j l h =
        let a = long-few y few_y in
        let back : x - 1 - (x - 1 - j) ≡ j = omega (arith, h) in
        r_code 0 (x - 1 - j) (ly + i) (omega arith) (omega (arith, l, a)) ∙ joined (H₁ (x - 1 - j)) (λ m. V₂ m (x - 1 - (x - 1 - j))) ly i (meet_x (x - 1 - j) (omega (arith, h))) ∙ ap (V₂ i) back

    h2_is : (i j : ℕ) → i < y → j ≤ lx → r (h2 i j) ≡ H₂ i j
    h2_is i j l h =
        let a = long-few x few_x in
        let back : y - 1 - (y - 1 - i) ≡ i = omega (arith, l) in
        r_code 1 (y - 1 - i) (lx + j) (omega arith) (omega (arith, h, a)) ∙ joined (λ m. V₁ m (y - 1 - i)) (H₂ (y - 1 - (y - 1 - i))) lx j (meet_y (y - 1 - i) (omega (arith, l))) ∙ ap (λ k. H₂ k j) back

    abbrev pub from : ℕ → ℕ
    from k = cond (nat_lt k x) (H₁ (x - 1 - k) 0) (V₁ 0 (k - x))

    abbrev pub to : ℕ → ℕ
    to k = cond (nat_lt k x) (V₂ ly k) (H₂ (x + y - 1 - k) lx)

    from_is : (k : ℕ) → k < n → r (base k) ≡ from k
    from_is k l =
        ⊎_elim
        (λ p. ap r (base_x k p) ∙ h1_is (x - 1 - k) 0 (omega (arith, p)) (omega arith) ∙ sym (in_lt k x (H₁ (x - 1 - k) 0) (V₁ 0 (k - x)) p))
        (λ p. ap r (base_y k p) ∙ v1_is 0 (k - x) (omega arith) (omega (arith, p, l)) ∙ sym (out_lt k x (H₁ (x - 1 - k) 0) (V₁ 0 (k - x)) p))
        (below_or k x)

    to_is : (k : ℕ) → k < n → r (final k) ≡ to k
    to_is k l =
        ⊎_elim
        (λ p. ap r (final_x k p) ∙ v2_is ly k (omega arith) p ∙ sym (in_lt k x (V₂ ly k) (H₂ (x + y - 1 - k) lx) p))
        (λ p. ap r (final_y k p) ∙ ap (λ i. r (code 1 i (lx + lx))) (let t : k - x ≡ y - 1 - (x + y - 1 - k) = omega (arith, p, l) in t) ∙ h2_is (x + y - 1 - k) lx (omega (arith, p, l)) (omega arith)
        ∙ sym (out_lt k x (V₂ ly k) (H₂ (x + y - 1 - k) lx) p))
        (below_or k x)

    module _ (m a b delta free : ℕ) (numbers : AreSkeinNumbers m a b delta) (s : Bool) (rest : List Node) (ok : All IsNode rest) where
      abbrev straight : Bool → ℕ
      straight over = if over then a else b

      abbrev hook : Bool → ℕ
      hook over = if over then b else a

      abbrev pub pair : List Node
      pair = crossing_nodes (straight s) (hook s) V₁ H₁ x y ++ crossing_nodes (straight (not s)) (hook (not s)) V₂ H₂ y x

      abbrev both_steps : List Step
      both_steps = steps (straight s) (hook s) (straight (not s)) (hook (not s))

      abbrev one_steps : List Step
      one_steps = s1 (straight s) (hook s) (straight (not s)) (hook (not s))

      abbrev two_steps : List Step
      two_steps = s2 (straight s) (hook s) (straight (not s)) (hook (not s))

      pair_are : rename r (step_nodes name both_steps) ≡ pair
      pair_are =
          let next = names_after name one_steps in
          ap (rename r) (step_nodes-append name one_steps (two_steps ++ []))
          ∙ rename-append r (step_nodes name one_steps) (step_nodes next (two_steps ++ []))
          ∙ ap₂ (λ us vs. us ++ vs) (crossing_renamed r (straight s) (hook s) v1 h1 V₁ H₁ name 0 x y (fits_1 (straight s) (hook s) (straight (not s)) (hook (not s))) v1_is h1_is)
          (ap (λ us. rename r (step_nodes next us)) (append-nil two_steps) ∙ crossing_renamed r (straight (not s)) (hook (not s)) v2 h2 V₂ H₂ next 0 y x (fits_2 (straight s) (hook s) (straight (not s)) (hook (not s))) v2_is h2_is)

      arcs_are : rename r (step_nodes name (passes final 0 n)) ≡ arcs_of (arcs_between from to 0 n)
      arcs_are = passes_arcs r base final from to name n from_is to_is 0 n (omega arith) (λ k l. name_top k)

      -- TWO BUNDLES THAT CROSS AND CROSS BACK ARE ARCS
      pub bundle_pair : ArePaired (names_of pair) (names_of pair ++ names_of rest) → ArePaired (names_of (arcs_of (arcs_between from to 0 n))) (names_of (arcs_of (arcs_between from to 0 n)) ++ names_of rest) →
          value m delta record { nodes = pair ++ rest; free_loops = free } ≡ value m delta record { nodes = arcs_of (arcs_between from to 0 n) ++ rest; free_loops = free }
      bundle_pair old_pairs new_pairs =
          let P : List ℕ → Type 0 = λ ns. ArePaired ns (ns ++ names_of rest) in
          let old_names : map r (names_of (step_nodes name both_steps)) ≡ names_of pair = sym (names_of-rename r (step_nodes name both_steps)) ∙ ap names_of pair_are in
          let new_names : map r (names_of (step_nodes name (passes final 0 n))) ≡ names_of (arcs_of (arcs_between from to 0 n)) = sym (names_of-rename r (step_nodes name (passes final 0 n))) ∙ ap names_of arcs_are in
          let g1 = words.grid a b s 0 x y in let g2 = words.grid a b (not s) 0 y x in
          let run_pair = run (straight s) (hook s) (straight (not s)) (hook (not s)) in
          let R : List Step → Type 0 = λ ws. Spells (g1 ++ g2) ws in
          ap (λ ns. value m delta record { nodes = ns ++ rest; free_loops = free }) (sym pair_are)
          ∙ runs_anywhere n base one m delta free (g1 ++ g2) [] both_steps (passes final 0 n) r rest (bundle_second_move m a b delta 0 x y s numbers)
          (subst R (ap (λ us. one_steps ++ us) (sym (append-nil two_steps))) (Spells-append g1 g2 one_steps two_steps (crossing_spells a b s v1 h1 0 x y) (crossing_spells a b (not s) v2 h2 0 y x)))
          (passes_spell final 0 n) run_pair (other_run (straight s) (hook s) (straight (not s)) (hook (not s))) (agree (straight s) (hook s) (straight (not s)) (hook (not s))) ok
          (subst P (sym old_names) old_pairs) (subst P (sym new_names) new_pairs)
          ∙ ap (λ ns. value m delta record { nodes = ns ++ rest; free_loops = free }) arcs_are
