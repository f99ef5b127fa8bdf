-- A cabled bigon counts as the strands of both edges, also where an edge has none.
use Rattle.std.proofs.Common.{◌≡◌, ℕ, zero, suc, ◌+◌, ◌≤◌, ◌⊎◌, inl, inr, ⊎_elim, List, [], ◌∷◌, ◌++◌, length, reverse, refl, sym, ap, ap₂, ◌∙◌, arith, All, subst, append-nil}
use Rattle.std.specs.List.{zip}
use Rattle.std.proofs.lemmas.List.{length-reverse}
use Rattle.std.proofs.lemmas.List.Elements.{All-head, All-tail}
use Rattle.state_sums.specs.LocalSums.{AreSkeinNumbers}
use Rattle.state_sums.specs.Networks.{Node, IsNode, names_of}
use Rattle.list_lemmas.specs.Times.{times_in}
use Rattle.state_sums.specs.StateSums.{value}
use Rattle.root_quantum.specs.Parameters.{Parameters}
use Rattle.root_quantum.specs.QuantumNumbers.{inverse_root}
use Rattle.piece_laws.specs.Arcs.{arcs_of}
use Rattle.cables.specs.CableNodes.{crossing_cable, through_node}
use Rattle.cables.proofs.GridNames.{crossing-times}
use Rattle.list_lemmas.proofs.Times.{times_in-append}
use Rattle.cables.proofs.NameCounts.{times-reverse, times_of-append}
use Rattle.cable_crossings.proofs.CabledBigon.{cabled_bigon}
use Rattle.cable_crossings.proofs.OneBundle.{through_twice, from_arcs}
use Rattle.cable_crossings.proofs.ThroughArcs.{through_arcs, turned_arcs}

nil : (xs : List ℕ) → length xs ≡ 0 → xs ≡ []
nil [] h = refl
nil (x ∷ xs) h = absurd (omega (arith, h))

upright_alone : (p : Parameters) (g k : ℕ) (a c d : List ℕ) → 1 ≤ length a → crossing_cable p g k a [] c d ≡ through_node g a c ∷ []
upright_alone p g k [] c d h = absurd (omega (arith, h))
upright_alone p g k (x ∷ a) c d h = refl

level_alone : (p : Parameters) (g k : ℕ) (b c d : List ℕ) → 1 ≤ length b → crossing_cable p g k [] b c d ≡ through_node g b d ∷ []
level_alone p g k [] c d h = absurd (omega (arith, h))
level_alone p g k (x ∷ b) c d h = refl

some : (n : ℕ) → (n ≡ 0) ⊎ (1 ≤ n)
some zero = inl refl
some (suc n) = inr (omega arith)

through_names : (z g g' : ℕ) (xs ys us vs : List ℕ) (rest : List Node) →
    times_in (names_of (through_node g xs ys ∷ through_node g' us vs ∷ rest)) z ≡ times_in xs z + times_in ys z + times_in us z + times_in vs z + times_in (names_of rest) z
through_names z g g' xs ys us vs rest =
    let a = times_in-append (xs ++ ys) ((us ++ vs) ++ names_of rest) z in
    let b = times_in-append xs ys z in
    let c = times_in-append (us ++ vs) (names_of rest) z in
    let d = times_in-append us vs z in
    omega (arith, a, b, c, d)

module _ (p : Parameters) (delta free : ℕ) (numbers : AreSkeinNumbers p.modulus p.root (inverse_root p) delta) (g g' k k' u o : ℕ) (few_u : u ≤ 8) (few_o : o ≤ 8)
    (M N A B C D : List ℕ) (lM : length M ≡ u) (lA : length A ≡ u) (lC : length C ≡ u) (lN : length N ≡ o) (lB : length B ≡ o) (lD : length D ≡ o) (rest : List Node)
    (ok : All IsNode (crossing_cable p g k M D C N ++ (crossing_cable p g' k' A B (reverse M) (reverse N) ++ rest))) (ok_rest : All IsNode rest)
    (once_C : (z : ℕ) → times_in C z ≤ 1) (once_D : (z : ℕ) → times_in D z ≤ 1) where
  abbrev first : List Node
  first = crossing_cable p g k M D C N

  abbrev second : List Node
  second = crossing_cable p g' k' A B (reverse M) (reverse N)

  abbrev before : List ℕ
  before = A ++ B

  abbrev behind : List ℕ
  behind = reverse C ++ reverse D

  abbrev Twice : Type 0
  Twice = (z : ℕ) → 1 ≤ times_in (names_of (first ++ (second ++ rest))) z → times_in (names_of (first ++ (second ++ rest))) z ≡ 2

  all_times : (z : ℕ) → times_in (names_of (first ++ (second ++ rest))) z ≡ times_in (names_of first) z + times_in (names_of second) z + times_in (names_of rest) z
  all_times z = let a = times_of-append z first (second ++ rest) in let b = times_of-append z second rest in omega (arith, a, b)

  -- the ends of the strands stand twice
  pub ends_twice : Twice → (z : ℕ) → 1 ≤ times_in before z + times_in behind z → times_in before z + times_in behind z + times_in (names_of rest) z ≡ 2
  ends_twice twice z one =
      let x1 = times_in-append A B z in
      let x2 = times_in-append (reverse C) (reverse D) z in
      let rC = times-reverse z C in let rD = times-reverse z D in let rM = times-reverse z M in let rN = times-reverse z N in
      let c1 = crossing-times p g k z M D C N (lM ∙ sym lC) (lD ∙ sym lN) in
      let c2 = crossing-times p g' k' z A B (reverse M) (reverse N) (lA ∙ sym (length-reverse M ∙ lM)) (lB ∙ sym (length-reverse N ∙ lN)) in
      let c = all_times z in
      let two = twice z (omega (arith, one, x1, x2, rC, rD, c1, c2, c)) in
      omega (arith, one, x1, x2, rC, rD, rM, rN, c1, c2, c, two)

  abbrev V : List Node → ℕ
  V ns = value p.modulus delta record { nodes = ns; free_loops = free }

  abbrev Goal : Type 0
  Goal = V (first ++ (second ++ rest)) ≡ V (arcs_of (zip before behind) ++ rest)

  only_upright : Twice → 1 ≤ u → o ≡ 0 → Goal
  only_upright twice some_u none =
      let eD = nil D (lD ∙ none) in
      let eB = nil B (lB ∙ none) in
      let T1 = through_node g M C in
      let T2 = through_node g' A (reverse M) in
      let e1 : first ≡ T1 ∷ [] = ap (λ d. crossing_cable p g k M d C N) eD ∙ upright_alone p g k M C N (omega (arith, lM, some_u)) in
      let e2 : second ≡ T2 ∷ [] = ap (λ b. crossing_cable p g' k' A b (reverse M) (reverse N)) eB ∙ upright_alone p g' k' A (reverse M) (reverse N) (omega (arith, lA, some_u)) in
      let whole : first ++ (second ++ rest) ≡ T1 ∷ T2 ∷ rest = ap₂ (λ x y. x ++ (y ++ rest)) e1 e2 in
      let good = subst (All IsNode) whole ok in
      let ok_one = All-head IsNode T1 (T2 ∷ rest) good in
      let ok_two = All-head IsNode T2 rest (All-tail IsNode T1 (T2 ∷ rest) good) in
      ap V whole
      ∙ through_twice p.modulus delta free u g g' M A C rest lM lA lC ok_rest ok_two
      (λ z h. (
      let t = through_names z g g' M C A (reverse M) rest in
      let r = times-reverse z M in
      let s = ap (λ ns. times_in (names_of ns) z) whole in
      let two = twice z (omega (arith, t, r, s, h)) in
      omega (arith, t, r, s, two))) once_C ok_one
      ∙ ap₂ (λ xs ys. V (arcs_of (zip xs ys) ++ rest)) (sym (ap (λ b. A ++ b) eB ∙ append-nil A)) (sym (ap (λ d. reverse C ++ reverse d) eD ∙ append-nil (reverse C)))

  only_level : Twice → u ≡ 0 → 1 ≤ o → Goal
  only_level twice none some_o =
      let eM = nil M (lM ∙ none) in
      let eA = nil A (lA ∙ none) in
      let eC = nil C (lC ∙ none) in
      let T1 = through_node g D N in
      let T2 = through_node g' B (reverse N) in
      let e1 : first ≡ T1 ∷ [] = ap (λ a. crossing_cable p g k a D C N) eM ∙ level_alone p g k D C N (omega (arith, lD, some_o)) in
      let e2 : second ≡ T2 ∷ [] = ap (λ a. crossing_cable p g' k' a B (reverse M) (reverse N)) eA ∙ level_alone p g' k' B (reverse M) (reverse N) (omega (arith, lB, some_o)) in
      let whole : first ++ (second ++ rest) ≡ T1 ∷ T2 ∷ rest = ap₂ (λ x y. x ++ (y ++ rest)) e1 e2 in
      let good = subst (All IsNode) whole ok in
      let ok_later = All-tail IsNode T1 (T2 ∷ rest) good in
      let ok_two = All-head IsNode T2 rest ok_later in
      ap V whole
      ∙ through_arcs g o D N lD lN p.modulus delta free (T2 ∷ rest) good
      ∙ turned_arcs p.modulus delta free o D N (T2 ∷ rest) lD lN ok_later
      ∙ from_arcs p.modulus delta free o g g' N B D rest lN lB lD ok_rest ok_two
      (λ z h. (
      let t = through_names z g g' D N B (reverse N) rest in
      let r = times-reverse z N in
      let s = ap (λ ns. times_in (names_of ns) z) whole in
      let two = twice z (omega (arith, t, r, s, h)) in
      omega (arith, t, r, s, two))) once_D
      ∙ ap₂ (λ xs ys. V (arcs_of (zip xs ys) ++ rest)) (sym (ap (λ a. a ++ B) eA)) (sym (ap (λ c. reverse c ++ reverse D) eC))

  no_strand : u ≡ 0 → o ≡ 0 → Goal
  no_strand none_u none_o =
      let eM = nil M (lM ∙ none_u) in let eA = nil A (lA ∙ none_u) in let eC = nil C (lC ∙ none_u) in
      let eD = nil D (lD ∙ none_o) in let eB = nil B (lB ∙ none_o) in
      let e1 : first ≡ [] = ap₂ (λ a d. crossing_cable p g k a d C N) eM eD in
      let e2 : second ≡ [] = ap₂ (λ a b. crossing_cable p g' k' a b (reverse M) (reverse N)) eA eB in
      ap₂ (λ x y. V (x ++ (y ++ rest))) e1 e2
      ∙ sym (ap₂ (λ a b. V (arcs_of (zip (a ++ b) behind) ++ rest)) eA eB)

  -- A CABLED BIGON IS STRANDS
  pub cabled_strands : Twice → Goal
  cabled_strands twice =
      ⊎_elim
      (λ none_u. ⊎_elim (λ none_o. no_strand none_u none_o) (λ some_o. only_level twice none_u some_o) (some o))
      (λ some_u. ⊎_elim (λ none_o. only_upright twice some_u none_o)
      (λ some_o. cabled_bigon p delta free numbers g g' k k' u o some_u some_o few_u few_o M N A B C D lM lA lC lN lB lD rest ok_rest twice) (some o))
      (some u)
