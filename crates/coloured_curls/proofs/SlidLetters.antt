-- A crossing of two neighbouring strands slides through a crossing of bundles, at any names: the numbers that are written out are read as names.
use Rattle.std.proofs.Common.{◌≡◌, ◌≢◌, ℕ, zero, suc, ◌+◌, ◌-◌, ◌<◌, ◌≤◌, ◌==◌, ◌⊎◌, inl, inr, Bool, true, false, if◌then◌else◌, cond, List, [], ◌∷◌, ◌++◌, map, refl, sym, ap, ap₂, ◌∙◌, arith, ⊎_elim, All, subst, append-nil}
use Rattle.std.proofs.lemmas.Bool.{cases_eq}
use Rattle.std.proofs.lemmas.Bool.Decides.{nat_tests}
use Rattle.state_sums.specs.LocalSums.{rename, crossing, AreSkeinNumbers}
use Rattle.state_sums.specs.Networks.{Node, IsNode, names_of}
use Rattle.state_sums.specs.StateSums.{value}
use Rattle.state_sums.proofs.NodeNames.{names_of-rename}
use Rattle.piece_laws.specs.Pieces.{ArePaired}
use Rattle.strand_words.specs.Grids.{crossed, raised}
use Rattle.strand_words.specs.Grids as words
use Rattle.strand_words.specs.Words.{Letter, SameWord, over}
use Rattle.strand_words.proofs.Slides.{IsCrossing, slide_grid}
use Rattle.word_networks.specs.Steps.{Step, step_nodes}
use Rattle.word_networks.proofs.Grids.{Spells-append}
use Rattle.cable_crossings.proofs.BundleTriangle.{bit, bit_end, bit_inner}
use Rattle.cable_crossings.proofs.CrossingSteps.{long, long-few, crossing_nodes, crossing_renamed, crossing_spells}
use Rattle.cable_crossings.proofs.NameCodes.{code, named_by, named_by-code}
use Rattle.cable_crossings.proofs.StepPieces.{runs_anywhere}
use Rattle.cable_crossings.proofs.ThreeRuns.{three_nodes}
use Rattle.coloured_curls.proofs.LetterRuns as runs

-- The names of the crossing of bundles before and behind: strands that do not cross below, or above, have the same ends.
pub record SameEnds (o n k : ℕ) (V H W K : ℕ → ℕ → ℕ) : Type 0 where
  pub south : (j : ℕ) → j < n → j ≢ k → j ≢ k + 1 → V 0 j ≡ W 0 j
  pub north : (j : ℕ) → j < n → j ≢ k → j ≢ k + 1 → V (long o) j ≡ W (long o) j
  pub west : (i : ℕ) → i < o → H i 0 ≡ K i 0
  pub east : (i : ℕ) → i < o → H i (long n) ≡ K i (long n)

-- the word of one crossing, and what slides
letter_grid : (a b : ℕ) (t : Bool) (i : ℕ) → words.grid a b t i 1 1 ≡ crossed a b t i ∷ []
letter_grid a b t i = ap (λ j. crossed a b t j ∷ []) (let e : i + 0 ≡ i = omega arith in e)

is_crossing : (a b : ℕ) (t : Bool) (i : ℕ) → IsCrossing a b (crossed a b t i)
is_crossing a b true i = inl refl
is_crossing a b false i = inr refl

slid_word : (m a b delta : ℕ) → AreSkeinNumbers m a b delta → (s t : Bool) (o n k : ℕ) → k + 1 < n →
    SameWord m delta (words.grid a b t (o + k) 1 1 ++ (words.grid a b s 0 o n ++ [])) (words.grid a b s 0 o n ++ (words.grid a b t k 1 1 ++ []))
slid_word m a b delta numbers s t o n k inside =
    let G = words.grid a b s 0 o n in
    let P : List Letter → List Letter → Type 0 = λ u w. SameWord m delta u w in
    let before : raised o (crossed a b t k ∷ []) ++ G ≡ words.grid a b t (o + k) 1 1 ++ (G ++ []) =
    ap₂ (λ j g. crossed a b t j ∷ g) (let e : k + o ≡ o + k = omega arith in e) (sym (append-nil G)) ∙ ap (λ w. w ++ (G ++ [])) (sym (letter_grid a b t (o + k))) in
    let behind : G ++ crossed a b t k ∷ [] ≡ G ++ (words.grid a b t k 1 1 ++ []) = ap (λ w. G ++ (w ++ [])) (sym (letter_grid a b t k)) in
    subst (λ u. P u (G ++ (words.grid a b t k 1 1 ++ []))) before (subst (P (raised o (crossed a b t k ∷ []) ++ G)) behind (slide_grid m a b delta numbers s (crossed a b t k ∷ []) 0 o n (omega arith, omega (arith, inside), is_crossing a b t k, tt)))

module _ (o n k : ℕ) (few_o : o ≤ 8) (few_n : n ≤ 8) (inside : k + 1 < n) (V H W K : ℕ → ℕ → ℕ) (ends : SameEnds o n k V H W K) where
  abbrev lo : ℕ
  lo = long o

  abbrev ln : ℕ
  ln = long n

  -- ---- the name of edge m of strand i, by tags
  abbrev pick : ℕ → ℕ → ℕ → ℕ
  pick tag i m = cond (tag == 0) (H i m) (cond (tag == 1) (cond (m == 0) (W 0 i) (V (m - 1) i)) (cond (tag == 4) (K i m) (W (m - 1) i)))

  abbrev r : ℕ → ℕ
  r = named_by pick

  r_code : (tag i m : ℕ) → tag < 8 → m < 32 → r (code tag i m) ≡ pick tag i m
  r_code = named_by-code pick

  abbrev cV : ℕ → ℕ → ℕ
  cV = runs.V o n k few_o few_n inside

  abbrev cH : ℕ → ℕ → ℕ
  cH = runs.H o n k few_o few_n inside

  abbrev cW : ℕ → ℕ → ℕ
  cW = runs.W o n k few_o few_n inside

  abbrev cK : ℕ → ℕ → ℕ
  cK = runs.K o n k few_o few_n inside

  abbrev lift : ℕ → ℕ
  lift = runs.lift o n k few_o few_n inside

  abbrev keep : ℕ → ℕ → ℕ
  keep = runs.keep o n k few_o few_n inside

  -- a strand crosses below and above, or not
  strands : (j : ℕ) → ((j ≢ k) × (j ≢ k + 1) × (lift j ≡ 0)) ⊎ (lift j ≡ 1)
  strands j =
      ⊎_elim
      (λ (e : j ≡ k). inr (grind (arith, nat_tests, e)))
      (λ d. ⊎_elim (λ (e : j ≡ k + 1). inr (grind (arith, nat_tests, e))) (λ u. inl (d, u, grind (arith, nat_tests, d, u))) (cases_eq j (k + 1)))
      (cases_eq j k)

  past : (j m : ℕ) → pick 1 j (m + 1) ≡ V m j
  past j m = let e : m + 1 - 1 ≡ m = omega arith in plain m (W 0 j) (V (m + 1 - 1) j) ∙ ap (λ i. V i j) e
    where
      plain : (m x y : ℕ) → cond (m + 1 == 0) x y ≡ y
      plain m x y = grind (arith, nat_tests)

  above : (i : ℕ) → cond (suc i == 0) 0 (suc i + 1) ≡ suc i + 1
  above i = grind (arith, nat_tests)

  V_is : (i j : ℕ) → i ≤ lo → j < n → r (cV i j) ≡ V i j
  V_is zero j l h =
      ⊎_elim
      (λ q. ap (λ m. r (code 1 j m)) q.2 ∙ r_code 1 j 0 (omega arith) (omega arith) ∙ sym (ends.south j h q.0 q.1))
      (λ q. ap (λ m. r (code 1 j m)) q ∙ r_code 1 j 1 (omega arith) (omega arith))
      (strands j)
  V_is (suc i) j l h = let a = long-few o few_o in (let u : cond (suc i == 0) (lift j) (suc i + 1) ≡ suc i + 1 = grind (arith, nat_tests) in ap (λ m. r (code 1 j m)) u) ∙ r_code 1 j (suc i + 1) (omega arith) (omega (arith, l, a)) ∙ past j (suc i)

  H_is : (i j : ℕ) → i < o → j ≤ ln → r (cH i j) ≡ H i j
  H_is i j l h = let a = long-few n few_n in r_code 0 i j (omega arith) (omega (arith, h, a))

  W_is : (i j : ℕ) → i ≤ lo → j < n → r (cW i j) ≡ W i j
  W_is zero j l h = ap r (let e : cW 0 j ≡ code 1 j 0 = omega arith in e) ∙ r_code 1 j 0 (omega arith) (omega arith)
  W_is (suc i) j l h =
      let a = long-few o few_o in
      let up : suc i + 1 - 1 ≡ suc i = omega arith in
      let kept : keep (suc i) j ≡ 1 → r (cW (suc i) j) ≡ W (suc i) j =
      λ q. ap r (let u = above i in let e : cW (suc i) j ≡ code 5 j (suc i + 1) = omega (arith, q, u) in e) ∙ r_code 5 j (suc i + 1) (omega arith) (omega (arith, l, a)) ∙ ap (λ m. W m j) up in
      ⊎_elim
      (λ (e : suc i ≡ lo).
      let last : keep (suc i) j ≡ lift j = ap (λ m. keep m j) e ∙ runs.keep_last o n k few_o few_n inside j in
      ⊎_elim
      (λ q.
      let z = q.2 in
      ap r (let u = above i in let e : cW (suc i) j ≡ code 1 j (suc i + 1) = omega (arith, last, z, u) in e) ∙ r_code 1 j (suc i + 1) (omega arith) (omega (arith, l, a)) ∙ past j (suc i) ∙ ap (λ m. V m j) e ∙ ends.north j h q.0 q.1 ∙ ap (λ m. W m j) (sym e))
      (λ q. kept (last ∙ q))
      (strands j))
      (λ d. kept (runs.keep_inner o n k few_o few_n inside (suc i) j (omega arith) (omega (arith, l, d))))
      (cases_eq (suc i) lo)

  K_is : (i j : ℕ) → i < o → j ≤ ln → r (cK i j) ≡ K i j
  K_is i j l h =
      let a = long-few n few_n in
      let flat : bit j ln ≡ 0 → r (cK i j) ≡ H i j = λ b. ap r (let e : cK i j ≡ code 0 i j = omega (arith, b) in e) ∙ r_code 0 i j (omega arith) (omega (arith, h, a)) in
      ⊎_elim
      (λ (e : j ≡ 0). flat (ap (λ m. bit m ln) e) ∙ ap (H i) e ∙ ends.west i l ∙ ap (K i) (sym e))
      (λ d. ⊎_elim
      (λ (e : j ≡ ln). flat (bit_end j ln (omega (arith, e))) ∙ ap (H i) e ∙ ends.east i l ∙ ap (K i) (sym e))
      (λ u. (let b = bit_inner j ln (omega (arith, d)) (omega (arith, h, u)) in ap r (let e : cK i j ≡ code 4 i j = omega (arith, b) in e) ∙ r_code 4 i j (omega arith) (omega (arith, h, a))))
      (cases_eq j ln))
      (cases_eq j 0)

  -- ---- the small crossing
  abbrev lv : ℕ → ℕ → ℕ
  lv i j = cond (i == 0) (W 0 (k + 1)) (V 0 k)

  abbrev lh : ℕ → ℕ → ℕ
  lh i j = cond (j == 0) (W 0 k) (V 0 (k + 1))

  abbrev mv : ℕ → ℕ → ℕ
  mv i j = cond (i == 0) (W lo (k + 1)) (V lo k)

  abbrev mh : ℕ → ℕ → ℕ
  mh i j = cond (j == 0) (W lo k) (V lo (k + 1))

  up_or : (i : ℕ) → i ≤ 1 → (i ≡ 0) ⊎ (i ≡ 1)
  up_or zero l = inl refl
  up_or (suc zero) l = inr refl
  up_or (suc (suc i)) l = absurd (omega (arith, l))

  lv_is : (i j : ℕ) → i ≤ long 1 → j < 1 → r (runs.lv o n k few_o few_n inside i j) ≡ lv i j
  lv_is i j l h =
      ⊎_elim
      (λ e. ap (λ m. r (code 1 (k + 1 - m) m)) e ∙ r_code 1 (k + 1 - 0) 0 (omega arith) (omega arith) ∙ ap (W 0) (let q : k + 1 - 0 ≡ k + 1 = omega arith in q) ∙ ap (λ m. lv m j) (sym e))
      (λ e. ap (λ m. r (code 1 (k + 1 - m) m)) e ∙ r_code 1 (k + 1 - 1) 1 (omega arith) (omega arith) ∙ ap (V 0) (let q : k + 1 - 1 ≡ k = omega arith in q) ∙ ap (λ m. lv m j) (sym e))
      (up_or i l)

  lh_is : (i j : ℕ) → i < 1 → j ≤ long 1 → r (runs.lh o n k few_o few_n inside i j) ≡ lh i j
  lh_is i j h l =
      ⊎_elim
      (λ e. ap (λ m. r (code 1 (k + m) m)) e ∙ r_code 1 (k + 0) 0 (omega arith) (omega arith) ∙ ap (W 0) (let q : k + 0 ≡ k = omega arith in q) ∙ ap (λ m. lh i m) (sym e))
      (λ e. ap (λ m. r (code 1 (k + m) m)) e ∙ r_code 1 (k + 1) 1 (omega arith) (omega arith) ∙ ap (λ m. lh i m) (sym e))
      (up_or j l)

  mv_is : (i j : ℕ) → i ≤ long 1 → j < 1 → r (runs.mv o n k few_o few_n inside i j) ≡ mv i j
  mv_is i j l h =
      let a = long-few o few_o in
      let top : lo + 1 - 1 ≡ lo = omega arith in
      ⊎_elim
      (λ e. ap r (let q : runs.mv o n k few_o few_n inside i j ≡ code 5 (k + 1) (lo + 1) = omega (arith, e) in q) ∙ r_code 5 (k + 1) (lo + 1) (omega arith) (omega (arith, a)) ∙ ap (λ m. W m (k + 1)) top ∙ ap (λ m. mv m j) (sym e))
      (λ e. ap r (let q : runs.mv o n k few_o few_n inside i j ≡ code 1 k (lo + 1) = omega (arith, e) in q) ∙ r_code 1 k (lo + 1) (omega arith) (omega (arith, a)) ∙ past k lo ∙ ap (λ m. mv m j) (sym e))
      (up_or i l)

  mh_is : (i j : ℕ) → i < 1 → j ≤ long 1 → r (runs.mh o n k few_o few_n inside i j) ≡ mh i j
  mh_is i j h l =
      let a = long-few o few_o in
      let top : lo + 1 - 1 ≡ lo = omega arith in
      ⊎_elim
      (λ e. ap r (let q : runs.mh o n k few_o few_n inside i j ≡ code 5 k (lo + 1) = omega (arith, e) in q) ∙ r_code 5 k (lo + 1) (omega arith) (omega (arith, a)) ∙ ap (λ m. W m k) top ∙ ap (λ m. mh i m) (sym e))
      (λ e. ap r (let q : runs.mh o n k few_o few_n inside i j ≡ code 1 (k + 1) (lo + 1) = omega (arith, e) in q) ∙ r_code 1 (k + 1) (lo + 1) (omega arith) (omega (arith, a)) ∙ past (k + 1) lo ∙ ap (λ m. mh i m) (sym e))
      (up_or j l)

  module _ (m a b delta free : ℕ) (numbers : AreSkeinNumbers m a b delta) (s t : Bool) (rest : List Node) (ok : All IsNode rest) where
    -- the weights of a crossing
    abbrev straight : Bool → ℕ
    straight over = if over then a else b

    abbrev hook : Bool → ℕ
    hook over = if over then b else a

    abbrev pub low : Node
    low = crossing (straight t) (hook t) (W 0 (k + 1)) (V 0 (k + 1)) (V 0 k) (W 0 k)

    abbrev pub high : Node
    high = crossing (straight t) (hook t) (W lo (k + 1)) (V lo (k + 1)) (V lo k) (W lo k)

    abbrev pub bundles_before : List Node
    bundles_before = crossing_nodes (straight s) (hook s) V H o n

    abbrev pub bundles_behind : List Node
    bundles_behind = crossing_nodes (straight s) (hook s) W K o n

    abbrev the_name : ℕ → ℕ
    the_name = runs.name o n k few_o few_n inside

    abbrev s1 : List Step
    s1 = runs.s1 o n k few_o few_n inside (straight t) (hook t) (straight s) (hook s)

    abbrev s2 : List Step
    s2 = runs.s2 o n k few_o few_n inside (straight t) (hook t) (straight s) (hook s)

    abbrev t1 : List Step
    t1 = runs.t1 o n k few_o few_n inside (straight t) (hook t) (straight s) (hook s)

    abbrev t2 : List Step
    t2 = runs.t2 o n k few_o few_n inside (straight t) (hook t) (straight s) (hook s)

    abbrev steps : List Step
    steps = runs.olds o n k few_o few_n inside (straight t) (hook t) (straight s) (hook s)

    abbrev others : List Step
    others = runs.news o n k few_o few_n inside (straight t) (hook t) (straight s) (hook s)

    abbrev old_nodes : List Node
    old_nodes = (low ∷ []) ++ (bundles_before ++ [])

    abbrev new_nodes : List Node
    new_nodes = bundles_behind ++ ((high ∷ []) ++ [])

    old_are : rename r (step_nodes the_name steps) ≡ old_nodes
    old_are =
        three_nodes r the_name s1 s2 [] (low ∷ []) bundles_before []
        (crossing_renamed r (straight t) (hook t) (runs.lv o n k few_o few_n inside) (runs.lh o n k few_o few_n inside) lv lh the_name (o + k) 1 1
        (runs.fits_1 o n k few_o few_n inside (straight t) (hook t) (straight s) (hook s)) lv_is lh_is)
        (crossing_renamed r (straight s) (hook s) cV cH V H (runs.n1 o n k few_o few_n inside (straight t) (hook t) (straight s) (hook s)) 0 o n
        (runs.fits_2 o n k few_o few_n inside (straight t) (hook t) (straight s) (hook s)) V_is H_is)
        refl

    new_are : rename r (step_nodes the_name others) ≡ new_nodes
    new_are =
        three_nodes r the_name t1 t2 [] bundles_behind (high ∷ []) []
        (crossing_renamed r (straight s) (hook s) cW cK W K the_name 0 o n (runs.fits_3 o n k few_o few_n inside (straight t) (hook t) (straight s) (hook s)) W_is K_is)
        (crossing_renamed r (straight t) (hook t) (runs.mv o n k few_o few_n inside) (runs.mh o n k few_o few_n inside) mv mh
        (runs.m1 o n k few_o few_n inside (straight t) (hook t) (straight s) (hook s)) k 1 1 (runs.fits_4 o n k few_o few_n inside (straight t) (hook t) (straight s) (hook s)) mv_is mh_is)
        refl

    -- A CROSSING SLIDES THROUGH A CROSSING OF BUNDLES
    pub letter_slides : ArePaired (names_of old_nodes) (names_of old_nodes ++ names_of rest) → ArePaired (names_of new_nodes) (names_of new_nodes ++ names_of rest) →
        value m delta record { nodes = low ∷ (bundles_before ++ rest); free_loops = free } ≡ value m delta record { nodes = (bundles_behind ++ high ∷ []) ++ rest; free_loops = free }
    letter_slides old_pairs new_pairs =
        let P : List ℕ → Type 0 = λ ns. ArePaired ns (ns ++ names_of rest) in
        let old_names : map r (names_of (step_nodes the_name steps)) ≡ names_of old_nodes = sym (names_of-rename r (step_nodes the_name steps)) ∙ ap names_of old_are in
        let new_names : map r (names_of (step_nodes the_name others)) ≡ names_of new_nodes = sym (names_of-rename r (step_nodes the_name others)) ∙ ap names_of new_are in
        let G = words.grid a b s 0 o n in let L = words.grid a b t (o + k) 1 1 in let M = words.grid a b t k 1 1 in
        ap (λ ns. value m delta record { nodes = (low ∷ ns) ++ rest; free_loops = free }) (sym (append-nil bundles_before))
        ∙ ap (λ ns. value m delta record { nodes = ns ++ rest; free_loops = free }) (sym old_are)
        ∙ runs_anywhere (o + n) (runs.base o n k few_o few_n inside) (runs.one o n k few_o few_n inside) m delta free (L ++ (G ++ [])) (G ++ (M ++ [])) steps others r rest
        (slid_word m a b delta numbers s t o n k inside)
        (Spells-append L (G ++ []) s1 (s2 ++ []) (crossing_spells a b t (runs.lv o n k few_o few_n inside) (runs.lh o n k few_o few_n inside) (o + k) 1 1) (Spells-append G [] s2 [] (crossing_spells a b s cV cH 0 o n) tt))
        (Spells-append G (M ++ []) t1 (t2 ++ []) (crossing_spells a b s cW cK 0 o n) (Spells-append M [] t2 [] (crossing_spells a b t (runs.mv o n k few_o few_n inside) (runs.mh o n k few_o few_n inside) k 1 1) tt))
        (runs.old_run o n k few_o few_n inside (straight t) (hook t) (straight s) (hook s)) (runs.new_run o n k few_o few_n inside (straight t) (hook t) (straight s) (hook s))
        (runs.sides_agree o n k few_o few_n inside (straight t) (hook t) (straight s) (hook s)) ok (subst P (sym old_names) old_pairs) (subst P (sym new_names) new_pairs)
        ∙ ap (λ ns. value m delta record { nodes = ns ++ rest; free_loops = free }) new_are
