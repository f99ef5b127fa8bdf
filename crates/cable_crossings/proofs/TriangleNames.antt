-- The third move of three bundles at any names: the numbers that are written out are read as names of the crossings.
use Rattle.std.proofs.Common.{◌≡◌, ℕ, zero, suc, ◌+◌, ◌-◌, ◌<◌, ◌≤◌, ◌==◌, ◌⊎◌, inl, inr, nat_lt, nat_le, Bool, true, false, if◌then◌else◌, cond, List, ◌++◌, map, refl, sym, ap, ap₂, ◌∙◌, arith, ⊎_elim, All, subst}
use Rattle.std.proofs.lemmas.Bool.Decides.{nat_tests}
use Rattle.state_sums.specs.LocalSums.{rename, AreSkeinNumbers}
use Rattle.state_sums.specs.Networks.{Node, IsNode, names_of}
use Rattle.state_sums.specs.StateSums.{value}
use Rattle.state_sums.proofs.NodeNames.{names_of-rename}
use Rattle.piece_laws.specs.Pieces.{ArePaired}
use Rattle.strand_words.specs.Grids.{crossed}
use Rattle.strand_words.proofs.WordLaws.{bundle_third_move}
use Rattle.word_networks.specs.Steps.{Step, step_nodes}
use Rattle.word_networks.proofs.Grids.{Spells-append}
use Rattle.strand_words.specs.Grids as words
use Rattle.cable_crossings.proofs.BundleTriangle.{bit, star, bit_end, bit_inner, base, one, name, olds, news, s1, s2, s3, t1, t2, t3, n1, n2, m1, m2, v1, h1, v2, h2, v3, h3, w1, k1, w2, k2, w3, k3, fits_1, fits_2, fits_3, fits_4, fits_5, fits_6, old_run, new_run, sides_agree}
use Rattle.cable_crossings.proofs.CrossingSteps.{long, long-few, long-some, crossing_nodes, crossing_renamed, crossing_spells}
use Rattle.cable_crossings.proofs.NameCodes.{code, named_by, named_by-code, in_le, joined}
use Rattle.cable_crossings.proofs.StepPieces.{runs_anywhere}
use Rattle.cable_crossings.proofs.ThreeRuns.{three_nodes}

-- The names of the six crossings meet: the strands' inner edges, and their ends on both sides of the move.
pub record Meets (x y z : ℕ) (V₁ H₁ V₂ H₂ V₃ H₃ W₁ K₁ W₂ K₂ W₃ K₃ : ℕ → ℕ → ℕ) : Type 0 where
  pub old_x : (i : ℕ) → i < x → H₁ i (long y) ≡ H₂ i 0
  pub old_y : (c : ℕ) → c < y → V₁ (long x) c ≡ H₃ (y - 1 - c) 0
  pub old_z : (c : ℕ) → c < z → V₂ (long x) c ≡ V₃ 0 c
  pub new_x : (i : ℕ) → i < x → K₂ i (long z) ≡ K₃ i 0
  pub new_y : (c : ℕ) → c < y → K₁ (y - 1 - c) (long z) ≡ W₃ 0 c
  pub new_z : (c : ℕ) → c < z → W₁ (long y) c ≡ W₂ 0 c
  pub start_x : (i : ℕ) → i < x → H₁ i 0 ≡ K₂ i 0
  pub start_y : (c : ℕ) → c < y → V₁ 0 c ≡ K₁ (y - 1 - c) 0
  pub start_z : (c : ℕ) → c < z → V₂ 0 c ≡ W₁ 0 c
  pub end_x : (i : ℕ) → i < x → H₂ i (long z) ≡ K₃ i (long y)
  pub end_y : (c : ℕ) → c < y → H₃ (y - 1 - c) (long z) ≡ W₃ (long x) c
  pub end_z : (c : ℕ) → c < z → V₃ (long y) c ≡ W₂ (long x) c

module _ (x y z : ℕ) (few_x : x ≤ 8) (few_y : y ≤ 8) (few_z : z ≤ 8) (V₁ H₁ V₂ H₂ V₃ H₃ W₁ K₁ W₂ K₂ W₃ K₃ : ℕ → ℕ → ℕ) (meets : Meets x y z V₁ H₁ V₂ H₂ V₃ H₃ W₁ K₁ W₂ K₂ W₃ K₃) where
  abbrev lx : ℕ
  lx = long x

  abbrev ly : ℕ
  ly = long y

  abbrev lz : ℕ
  lz = long z

  -- ---- the name of edge m of strand i, by tags
  abbrev pick : ℕ → ℕ → ℕ → ℕ
  pick tag i m =
      cond (tag == 0) (cond (nat_le m ly) (H₁ i m) (H₂ i (m - ly)))
      (cond (tag == 1) (cond (nat_le m lx) (V₁ m i) (H₃ (y - 1 - i) (m - lx)))
      (cond (tag == 2) (cond (nat_le m lx) (V₂ m i) (V₃ (m - lx) i))
      (cond (tag == 4) (cond (nat_le m lz) (K₂ i m) (K₃ i (m - lz)))
      (cond (tag == 5) (cond (nat_le m lz) (K₁ (y - 1 - i) m) (W₃ (m - lz) i))
      (cond (nat_le m ly) (W₁ m i) (W₂ (m - ly) i))))))

  abbrev r : ℕ → ℕ
  r = named_by pick

  r_code : (tag i m : ℕ) → tag < 8 → m < 32 → r (code tag i m) ≡ pick tag i m
  r_code = named_by-code pick

  -- ---- the crossings before the move
  v1_is : (i j : ℕ) → i ≤ lx → j < y → r (v1 x y z few_x few_y few_z i j) ≡ V₁ i j
  v1_is i j l h = let a = long-few x few_x in r_code 1 j i (omega arith) (omega (arith, l, a)) ∙ in_le i lx (V₁ i j) (H₃ (y - 1 - j) (i - lx)) l

  h1_is : (i j : ℕ) → i < x → j ≤ ly → r (h1 x y z few_x few_y few_z i j) ≡ H₁ i j
  h1_is i j l h = let a = long-few y few_y in r_code 0 i j (omega arith) (omega (arith, h, a)) ∙ in_le j ly (H₁ i j) (H₂ i (j - ly)) h

  v2_is : (i j : ℕ) → i ≤ lx → j < z → r (v2 x y z few_x few_y few_z i j) ≡ V₂ i j
  v2_is i j l h = let a = long-few x few_x in r_code 2 j i (omega arith) (omega (arith, l, a)) ∙ in_le i lx (V₂ i j) (V₃ (i - lx) j) l

  h2_is : (i j : ℕ) → i < x → j ≤ lz → r (h2 x y z few_x few_y few_z i j) ≡ H₂ i j
  h2_is i j l h = let a = long-few y few_y in let b = long-few z few_z in r_code 0 i (ly + j) (omega arith) (omega (arith, h, a, b)) ∙ joined (H₁ i) (H₂ i) ly j (meets.old_x i l)

  v3_is : (i j : ℕ) → i ≤ ly → j < z → r (v3 x y z few_x few_y few_z i j) ≡ V₃ i j
  v3_is i j l h = let a = long-few x few_x in let b = long-few y few_y in r_code 2 j (lx + i) (omega arith) (omega (arith, l, a, b)) ∙ joined (λ m. V₂ m j) (λ m. V₃ m j) lx i (meets.old_z j h)

  h3_is : (i j : ℕ) → i < y → j ≤ lz → r (h3 x y z few_x few_y few_z i j) ≡ H₃ i j
  h3_is i j l h =
      let a = long-few x few_x in let b = long-few z few_z in
      let back : y - 1 - (y - 1 - i) ≡ i = omega (arith, l) in
      r_code 1 (y - 1 - i) (lx + j) (omega arith) (omega (arith, h, a, b)) ∙ joined (λ m. V₁ m (y - 1 - i)) (H₃ (y - 1 - (y - 1 - i))) lx j (meets.old_y (y - 1 - i) (omega (arith, l))) ∙ ap (λ k. H₃ k j) back

  -- ---- and behind it: the first edge and the last are those from before
  starred : (tag i m last goal : ℕ) → tag < 4 → m ≤ last → last < 32 → (m ≡ 0 → pick tag i m ≡ goal) → (m ≡ last → pick tag i m ≡ goal) → (0 < m → m < last → pick (tag + 4) i m ≡ goal) → r (star tag i m last) ≡ goal
  starred tag i m last goal t l u at_start at_end inside =
      ⊎_elim
      (λ e. (let b : bit m last ≡ 0 = ap (λ k. bit k last) e in ap r (flat b) ∙ r_code tag i m (omega (arith, t)) (omega (arith, l, u)) ∙ at_start e))
      (λ s. ⊎_elim
      (λ e. (let b = bit_end m last (omega (arith, e)) in ap r (flat b) ∙ r_code tag i m (omega (arith, t)) (omega (arith, l, u)) ∙ at_end e))
      (λ e. (let b = bit_inner m last s e in ap r (high b) ∙ r_code (tag + 4) i m (omega (arith, t)) (omega (arith, l, u)) ∙ inside s e))
      (ends m last l))
      (starts m)
    where
      flat : bit m last ≡ 0 → star tag i m last ≡ code tag i m
      flat b = omega (arith, b)

      high : bit m last ≡ 1 → star tag i m last ≡ code (tag + 4) i m
      high b = omega (arith, b)

      starts : (m : ℕ) → (m ≡ 0) ⊎ (0 < m)
      starts zero = inl refl
      starts (suc m) = inr (omega arith)

      ends : (m last : ℕ) → m ≤ last → (m ≡ last) ⊎ (m < last)
      ends m last l = elim (nat_lt m last) as (λ b. nat_lt m last ≡ b → (m ≡ last) ⊎ (m < last)) [ true ↦ (λ t. inr (grind (arith, nat_tests, t))) | false ↦ (λ t. inl (grind (arith, nat_tests, t, l))) ] refl

  -- what the tags 0, 1 and 2 pick at the first edge and the last
  pick_start_x : (i m : ℕ) → i < x → m ≡ 0 → pick 0 i m ≡ K₂ i 0
  pick_start_x i m l e = ap (pick 0 i) e ∙ in_le 0 ly (H₁ i 0) (H₂ i (0 - ly)) (omega arith) ∙ meets.start_x i l

  pick_end_x : (i m : ℕ) → i < x → m ≡ ly + lz → pick 0 i m ≡ K₃ i ly
  pick_end_x i m l e = ap (pick 0 i) e ∙ joined (H₁ i) (H₂ i) ly lz (meets.old_x i l) ∙ meets.end_x i l

  pick_start_y : (c m : ℕ) → c < y → m ≡ 0 → pick 1 c m ≡ K₁ (y - 1 - c) 0
  pick_start_y c m l e = ap (pick 1 c) e ∙ in_le 0 lx (V₁ 0 c) (H₃ (y - 1 - c) (0 - lx)) (omega arith) ∙ meets.start_y c l

  pick_end_y : (c m : ℕ) → c < y → m ≡ lx + lz → pick 1 c m ≡ W₃ lx c
  pick_end_y c m l e = ap (pick 1 c) e ∙ joined (λ k. V₁ k c) (H₃ (y - 1 - c)) lx lz (meets.old_y c l) ∙ meets.end_y c l

  pick_start_z : (c m : ℕ) → c < z → m ≡ 0 → pick 2 c m ≡ W₁ 0 c
  pick_start_z c m l e = ap (pick 2 c) e ∙ in_le 0 lx (V₂ 0 c) (V₃ (0 - lx) c) (omega arith) ∙ meets.start_z c l

  pick_end_z : (c m : ℕ) → c < z → m ≡ lx + ly → pick 2 c m ≡ W₂ lx c
  pick_end_z c m l e = ap (pick 2 c) e ∙ joined (λ k. V₂ k c) (λ k. V₃ k c) lx ly (meets.old_z c l) ∙ meets.end_z c l

  w1_is : (i j : ℕ) → i ≤ ly → j < z → r (w1 x y z few_x few_y few_z i j) ≡ W₁ i j
  w1_is i j l h =
      let a = long-few x few_x in let b = long-few y few_y in let s = long-some x in
      starred 2 j i (lx + ly) (W₁ i j) (omega arith) (omega (arith, l)) (omega (arith, a, b))
      (λ e. pick_start_z j i h e ∙ ap (λ k. W₁ k j) (sym e)) (λ e. absurd (omega (arith, e, l, s))) (λ p q. in_le i ly (W₁ i j) (W₂ (i - ly) j) l)

  k1_is : (i j : ℕ) → i < y → j ≤ lz → r (k1 x y z few_x few_y few_z i j) ≡ K₁ i j
  k1_is i j l h =
      let a = long-few x few_x in let b = long-few z few_z in let s = long-some x in
      let c = y - 1 - i in
      let back : y - 1 - c ≡ i = omega (arith, l) in
      starred 1 c j (lx + lz) (K₁ i j) (omega arith) (omega (arith, h)) (omega (arith, a, b))
      (λ e. pick_start_y c j (omega (arith, l)) e ∙ ap₂ K₁ back (sym e)) (λ e. absurd (omega (arith, e, h, s))) (λ p q. in_le j lz (K₁ (y - 1 - c) j) (W₃ (j - lz) c) h ∙ ap (λ k. K₁ k j) back)

  w2_is : (i j : ℕ) → i ≤ lx → j < z → r (w2 x y z few_x few_y few_z i j) ≡ W₂ i j
  w2_is i j l h =
      let a = long-few x few_x in let b = long-few y few_y in let s = long-some y in
      starred 2 j (ly + i) (lx + ly) (W₂ i j) (omega arith) (omega (arith, l)) (omega (arith, a, b))
      (λ e. absurd (omega (arith, e, s))) (λ e. pick_end_z j (ly + i) h e ∙ ap (λ k. W₂ k j) (let t : lx ≡ i = omega (arith, e) in t)) (λ p q. joined (λ m. W₁ m j) (λ m. W₂ m j) ly i (meets.new_z j h))

  k2_is : (i j : ℕ) → i < x → j ≤ lz → r (k2 x y z few_x few_y few_z i j) ≡ K₂ i j
  k2_is i j l h =
      let a = long-few y few_y in let b = long-few z few_z in let s = long-some y in
      starred 0 i j (ly + lz) (K₂ i j) (omega arith) (omega (arith, h)) (omega (arith, a, b))
      (λ e. pick_start_x i j l e ∙ ap (K₂ i) (sym e)) (λ e. absurd (omega (arith, e, h, s))) (λ p q. in_le j lz (K₂ i j) (K₃ i (j - lz)) h)

  w3_is : (i j : ℕ) → i ≤ lx → j < y → r (w3 x y z few_x few_y few_z i j) ≡ W₃ i j
  w3_is i j l h =
      let a = long-few x few_x in let b = long-few z few_z in let s = long-some z in
      starred 1 j (lz + i) (lx + lz) (W₃ i j) (omega arith) (omega (arith, l)) (omega (arith, a, b))
      (λ e. absurd (omega (arith, e, s))) (λ e. pick_end_y j (lz + i) h e ∙ ap (λ k. W₃ k j) (let t : lx ≡ i = omega (arith, e) in t)) (λ p q. joined (K₁ (y - 1 - j)) (λ m. W₃ m j) lz i (meets.new_y j h))

  k3_is : (i j : ℕ) → i < x → j ≤ ly → r (k3 x y z few_x few_y few_z i j) ≡ K₃ i j
  k3_is i j l h =
      let a = long-few y few_y in let b = long-few z few_z in let s = long-some z in
      starred 0 i (lz + j) (ly + lz) (K₃ i j) (omega arith) (omega (arith, h)) (omega (arith, a, b))
      (λ e. absurd (omega (arith, e, s))) (λ e. pick_end_x i (lz + j) l e ∙ ap (K₃ i) (let t : ly ≡ j = omega (arith, e) in t)) (λ p q. joined (K₂ i) (K₃ i) lz j (meets.new_x i l))

  module _ (m a b delta free : ℕ) (numbers : AreSkeinNumbers m a b delta) (s t u : Bool) (one_above : (s ≡ t) ⊎ (t ≡ u)) (rest : List Node) (ok : All IsNode rest) where
    -- the weights of a crossing
    abbrev straight : Bool → ℕ
    straight over = if over then a else b

    abbrev hook : Bool → ℕ
    hook over = if over then b else a

    abbrev pub old_three : List Node
    old_three = crossing_nodes (straight s) (hook s) V₁ H₁ x y ++ (crossing_nodes (straight t) (hook t) V₂ H₂ x z ++ crossing_nodes (straight u) (hook u) V₃ H₃ y z)

    abbrev pub new_three : List Node
    new_three = crossing_nodes (straight u) (hook u) W₁ K₁ y z ++ (crossing_nodes (straight t) (hook t) W₂ K₂ x z ++ crossing_nodes (straight s) (hook s) W₃ K₃ x y)

    abbrev the_name : ℕ → ℕ
    the_name = name x y z few_x few_y few_z

    -- the runs of both sides, with these weights
    abbrev before_1 : List Step
    before_1 = s1 x y z few_x few_y few_z (straight s) (hook s) (straight t) (hook t) (straight u) (hook u)

    abbrev before_2 : List Step
    before_2 = s2 x y z few_x few_y few_z (straight s) (hook s) (straight t) (hook t) (straight u) (hook u)

    abbrev before_3 : List Step
    before_3 = s3 x y z few_x few_y few_z (straight s) (hook s) (straight t) (hook t) (straight u) (hook u)

    abbrev behind_1 : List Step
    behind_1 = t1 x y z few_x few_y few_z (straight s) (hook s) (straight t) (hook t) (straight u) (hook u)

    abbrev behind_2 : List Step
    behind_2 = t2 x y z few_x few_y few_z (straight s) (hook s) (straight t) (hook t) (straight u) (hook u)

    abbrev behind_3 : List Step
    behind_3 = t3 x y z few_x few_y few_z (straight s) (hook s) (straight t) (hook t) (straight u) (hook u)

    abbrev steps : List Step
    steps = olds x y z few_x few_y few_z (straight s) (hook s) (straight t) (hook t) (straight u) (hook u)

    abbrev others : List Step
    others = news x y z few_x few_y few_z (straight s) (hook s) (straight t) (hook t) (straight u) (hook u)

    abbrev named_1 : ℕ → ℕ
    named_1 = n1 x y z few_x few_y few_z (straight s) (hook s) (straight t) (hook t) (straight u) (hook u)

    abbrev named_2 : ℕ → ℕ
    named_2 = n2 x y z few_x few_y few_z (straight s) (hook s) (straight t) (hook t) (straight u) (hook u)

    abbrev renamed_1 : ℕ → ℕ
    renamed_1 = m1 x y z few_x few_y few_z (straight s) (hook s) (straight t) (hook t) (straight u) (hook u)

    abbrev renamed_2 : ℕ → ℕ
    renamed_2 = m2 x y z few_x few_y few_z (straight s) (hook s) (straight t) (hook t) (straight u) (hook u)

    old_are : rename r (step_nodes the_name steps) ≡ old_three
    old_are =
        three_nodes r the_name before_1 before_2
        before_3
        (crossing_nodes (straight s) (hook s) V₁ H₁ x y) (crossing_nodes (straight t) (hook t) V₂ H₂ x z) (crossing_nodes (straight u) (hook u) V₃ H₃ y z)
        (crossing_renamed r (straight s) (hook s) (v1 x y z few_x few_y few_z) (h1 x y z few_x few_y few_z) V₁ H₁ the_name 0 x y (fits_1 x y z few_x few_y few_z (straight s) (hook s) (straight t) (hook t) (straight u) (hook u)) v1_is h1_is)
        (crossing_renamed r (straight t) (hook t) (v2 x y z few_x few_y few_z) (h2 x y z few_x few_y few_z) V₂ H₂ named_1 (0 + y) x z
        (fits_2 x y z few_x few_y few_z (straight s) (hook s) (straight t) (hook t) (straight u) (hook u)) v2_is h2_is)
        (crossing_renamed r (straight u) (hook u) (v3 x y z few_x few_y few_z) (h3 x y z few_x few_y few_z) V₃ H₃ named_2 0 y z
        (fits_3 x y z few_x few_y few_z (straight s) (hook s) (straight t) (hook t) (straight u) (hook u)) v3_is h3_is)

    new_are : rename r (step_nodes the_name others) ≡ new_three
    new_are =
        three_nodes r the_name behind_1 behind_2
        behind_3
        (crossing_nodes (straight u) (hook u) W₁ K₁ y z) (crossing_nodes (straight t) (hook t) W₂ K₂ x z) (crossing_nodes (straight s) (hook s) W₃ K₃ x y)
        (crossing_renamed r (straight u) (hook u) (w1 x y z few_x few_y few_z) (k1 x y z few_x few_y few_z) W₁ K₁ the_name (0 + x) y z (fits_4 x y z few_x few_y few_z (straight s) (hook s) (straight t) (hook t) (straight u) (hook u)) w1_is k1_is)
        (crossing_renamed r (straight t) (hook t) (w2 x y z few_x few_y few_z) (k2 x y z few_x few_y few_z) W₂ K₂ renamed_1 0 x z
        (fits_5 x y z few_x few_y few_z (straight s) (hook s) (straight t) (hook t) (straight u) (hook u)) w2_is k2_is)
        (crossing_renamed r (straight s) (hook s) (w3 x y z few_x few_y few_z) (k3 x y z few_x few_y few_z) W₃ K₃ renamed_2 (0 + z) x y
        (fits_6 x y z few_x few_y few_z (straight s) (hook s) (straight t) (hook t) (straight u) (hook u)) w3_is k3_is)

    -- THE THIRD MOVE OF BUNDLES, AT ANY NAMES
    pub bundle_triangle : ArePaired (names_of old_three) (names_of old_three ++ names_of rest) → ArePaired (names_of new_three) (names_of new_three ++ names_of rest) →
        value m delta record { nodes = old_three ++ rest; free_loops = free } ≡ value m delta record { nodes = new_three ++ rest; free_loops = free }
    bundle_triangle old_pairs new_pairs =
        let P : List ℕ → Type 0 = λ ns. ArePaired ns (ns ++ names_of rest) in
        let old_names : map r (names_of (step_nodes the_name steps)) ≡ names_of old_three = sym (names_of-rename r (step_nodes the_name steps)) ∙ ap names_of old_are in
        let new_names : map r (names_of (step_nodes the_name others)) ≡ names_of new_three = sym (names_of-rename r (step_nodes the_name others)) ∙ ap names_of new_are in
        let g1 = words.grid a b s 0 x y in let g2 = words.grid a b t (0 + y) x z in let g3 = words.grid a b u 0 y z in
        let f1 = words.grid a b u (0 + x) y z in let f2 = words.grid a b t 0 x z in let f3 = words.grid a b s (0 + z) x y in
        ap (λ ns. value m delta record { nodes = ns ++ rest; free_loops = free }) (sym old_are)
        ∙ runs_anywhere (x + y + z) (base x y z few_x few_y few_z) (one x y z few_x few_y few_z) m delta free (g1 ++ (g2 ++ g3)) (f1 ++ (f2 ++ f3)) steps others r rest
        (bundle_third_move m a b delta 0 x y z s t u numbers one_above)
        (Spells-append g1 (g2 ++ g3) before_1 (before_2 ++ before_3) (crossing_spells a b s (v1 x y z few_x few_y few_z) (h1 x y z few_x few_y few_z) 0 x y)
        (Spells-append g2 g3 before_2 before_3 (crossing_spells a b t (v2 x y z few_x few_y few_z) (h2 x y z few_x few_y few_z) (0 + y) x z) (crossing_spells a b u (v3 x y z few_x few_y few_z) (h3 x y z few_x few_y few_z) 0 y z)))
        (Spells-append f1 (f2 ++ f3) behind_1 (behind_2 ++ behind_3) (crossing_spells a b u (w1 x y z few_x few_y few_z) (k1 x y z few_x few_y few_z) (0 + x) y z)
        (Spells-append f2 f3 behind_2 behind_3 (crossing_spells a b t (w2 x y z few_x few_y few_z) (k2 x y z few_x few_y few_z) 0 x z) (crossing_spells a b s (w3 x y z few_x few_y few_z) (k3 x y z few_x few_y few_z) (0 + z) x y)))
        (old_run x y z few_x few_y few_z (straight s) (hook s) (straight t) (hook t) (straight u) (hook u)) (new_run x y z few_x few_y few_z (straight s) (hook s) (straight t) (hook t) (straight u) (hook u))
        (sides_agree x y z few_x few_y few_z (straight s) (hook s) (straight t) (hook t) (straight u) (hook u)) ok (subst P (sym old_names) old_pairs) (subst P (sym new_names) new_pairs)
        ∙ ap (λ ns. value m delta record { nodes = ns ++ rest; free_loops = free }) new_are
