-- A word's network with new names from one number on has the same value with new names from another number on, where no other name stands there.
use Rattle.std.proofs.Common.{◌≡◌, ℕ, zero, suc, ◌+◌, ◌-◌, ◌*◌, ◌<◌, ◌≤◌, ◌==◌, ◌⊎◌, inl, inr, nat_lt, true, cond, List, ◌++◌, map, length, refl, sym, ap, ap₂, ◌∙◌, arith, ⊎_elim, All}
use Rattle.std.specs.List.{range_with_len, zip}
use Rattle.std.specs.Set.{is_member}
use Rattle.std.proofs.lemmas.Bool.{cases_eq}
use Rattle.std.proofs.lemmas.Bool.Decides.{nat_tests}
use Rattle.std.proofs.lemmas.List.Elements.{All-append}
use Rattle.std.proofs.lemmas.List.FromFn.{length-map-range_with_len}
use Rattle.graph_parts.specs.Renaming.{IsOneToOne}
use Rattle.list_lemmas.specs.Times.{times_in}
use Rattle.list_lemmas.proofs.Times.{times_of_member}
use Rattle.state_sums.specs.LocalSums.{rename}
use Rattle.state_sums.specs.Networks.{Node, IsNode, names_of}
use Rattle.state_sums.specs.StateSums.{value}
use Rattle.state_sums.proofs.NetworkLaws.{any_names}
use Rattle.piece_laws.specs.Arcs.{arcs_of}
use Rattle.piece_laws.proofs.RenamedNodes.{rename-append, rename_fixed}
use Rattle.strand_words.specs.Words.{Letter}
use Rattle.cables.proofs.NameCounts.{at, times_of-append}
use Rattle.cable_crossings.proofs.ManyArcs.{arcs_ok}
use Rattle.coloured_moves.proofs.ArcMerges.{map_fixed}
use Rattle.coloured_curls.specs.Boxes.{letter_nodes, names_behind}
use Rattle.coloured_curls.proofs.GridCounts.{among, among_more}
use Rattle.coloured_curls.proofs.LetterCounts.{given, letter_counts}
use Rattle.coloured_curls.proofs.LetterNets.{AreAmong}
use Rattle.coloured_curls.proofs.RenumberedLetters.{letters_ok, letters_renamed, behind_renamed, map_ranged, arcs_renamed, arcs_times, given_range}

module _ (m delta free n : ℕ) (u : List Letter) (among_u : AreAmong n u) (t s : ℕ → ℕ) (same : (j : ℕ) → j < n → t j ≡ s j) (Ys : List ℕ) (long : length Ys ≡ n) (rest : List Node) (ok : All IsNode rest) (big high : ℕ)
    (low : (z : ℕ) → 1 ≤ among t 0 n z + times_in Ys z + times_in (names_of rest) z → z < big)
    (clear : (z : ℕ) → high ≤ z → z < high + 2 * length u → among t 0 n z + times_in Ys z + times_in (names_of rest) z ≡ 0) where
  abbrev V : List Node → ℕ
  V ns = value m delta record { nodes = ns; free_loops = free }

  abbrev L1 : (ℕ → ℕ) → List ℕ
  L1 g = map g (range_with_len 0 n)

  abbrev pub word : (ℕ → ℕ) → ℕ → List Node
  word g c = letter_nodes u g c ++ arcs_of (zip (L1 (names_behind u g c)) Ys)

  abbrev f : ℕ → ℕ
  f z = cond (nat_lt z big) z (z - big + high)

  f_low : (z : ℕ) → z < big → f z ≡ z
  f_low z l = grind (arith, nat_tests, l)

  f_high : (i : ℕ) → f (big + i) ≡ high + i
  f_high i = let t : cond (nat_lt (big + i) big) (big + i) (big + i - big + high) ≡ big + i - big + high = plain big i (big + i) (big + i - big + high) in omega (arith, t)
    where
      plain : (big i x y : ℕ) → cond (nat_lt (big + i) big) x y ≡ y
      plain big i x y = grind (arith, nat_tests)

  long_list : (g : ℕ → ℕ) → length (L1 g) ≡ n
  long_list g = length-map-range_with_len g 0 n

  total : (z : ℕ) → times_in (names_of (word t big ++ rest)) z ≡ among t 0 n z + times_in Ys z + times_in (names_of rest) z + 2 * given u big z
  total z =
      let T = names_behind u t big in
      let a = times_of-append z (word t big) rest in
      let b = times_of-append z (letter_nodes u t big) (arcs_of (zip (L1 T) Ys)) in
      let c = arcs_times (L1 T) Ys z (long ∙ sym (long_list T)) in
      let d = letter_counts n u t big z among_u in
      omega (arith, a, b, c, d)

  -- a name is one from before, or a new one
  cases : (z : ℕ) → is_member ◌==◌ (names_of (word t big ++ rest)) z ≡ true → (z < big) × ((high ≤ z → z < high + 2 * length u → ⊥)) ⊎ (big ≤ z) × (z < big + 2 * length u)
  cases z mem =
      let one = times_of_member z (names_of (word t big ++ rest)) mem in
      let c = total z in
      ⊎_elim
      (λ (none : given u big z ≡ 0).
      let some : 1 ≤ among t 0 n z + times_in Ys z + times_in (names_of rest) z = omega (arith, one, c, none) in
      inl (low z some, (λ a b. (let k = clear z a b in omega (arith, k, some)))))
      (λ h. inr (given_range u big z h))
      (none_or (given u big z))
    where
      none_or : (k : ℕ) → (k ≡ 0) ⊎ (1 ≤ k)
      none_or zero = inl refl
      none_or (suc k) = inr (omega arith)

  at_high : (z : ℕ) → big ≤ z → f z ≡ high + (z - big)
  at_high z l = ap f (let e : z ≡ big + (z - big) = omega (arith, l) in e) ∙ f_high (z - big)

  one_to_one : IsOneToOne f (names_of (word t big ++ rest))
  one_to_one a b ma mb e =
      ⊎_elim
      (λ p. ⊎_elim
      (λ q. sym (f_low a p.0) ∙ e ∙ f_low b q.0)
      (λ q. (let x = f_low a p.0 in let y = at_high b q.0 in let q0 = q.0 in let q1 = q.1 in absurd (p.1 (omega (arith, e, x, y)) (omega (arith, e, x, y, q0, q1)))))
      (cases b mb))
      (λ p. ⊎_elim
      (λ q. (let x = at_high a p.0 in let y = f_low b q.0 in let p0 = p.0 in let p1 = p.1 in absurd (q.1 (omega (arith, e, x, y)) (omega (arith, e, x, y, p0, p1)))))
      (λ q. (let x = at_high a p.0 in let y = at_high b q.0 in let p0 = p.0 in let q0 = q.0 in omega (arith, e, x, y, p0, q0)))
      (cases b mb))
      (cases a ma)

  strand_in : (j : ℕ) → j < n → 1 ≤ among t 0 n (t j)
  strand_in j l = one_of 0 n j (omega arith) (omega (arith, l))
    where
      one_of : (a k j : ℕ) → a ≤ j → j < a + k → 1 ≤ among t a k (t j)
      one_of a zero j lo hi = absurd (omega (arith, lo, hi))
      one_of a (suc k) j lo hi =
          let c = among_more t a k (t j) in
          ⊎_elim
          (λ (e : j ≡ a). (let o : at (t j) (t a) ≡ 1 = ap (λ i. at (t j) (t i)) (sym e) ∙ own (t j) in omega (arith, c, o)))
          (λ d. (let ih = one_of (a + 1) k j (omega (arith, lo, d)) (omega (arith, hi)) in omega (arith, c, ih)))
          (cases_eq j a)
        where
          own : (x : ℕ) → at x x ≡ 1
          own x = grind (arith, nat_tests)

  strands_stay : (j : ℕ) → j < n → f (t j) ≡ s j
  strands_stay j l = f_low (t j) (low (t j) (let o = strand_in j l in omega (arith, o))) ∙ same j l

  -- OTHER NUMBERS FOR THE NEW NAMES
  pub renumbered : V (word t big ++ rest) ≡ V (word s high ++ rest)
  renumbered =
      let T = names_behind u t big in
      let L = letter_nodes u t big in
      let Ar = arcs_of (zip (L1 T) Ys) in
      let Ys_stay : map f Ys ≡ Ys = map_fixed f Ys (λ z one. f_low z (low z (omega (arith, one)))) in
      let rest_stays : rename f rest ≡ rest = rename_fixed f rest (λ z mem. f_low z (low z (let one = times_of_member z (names_of rest) mem in omega (arith, one)))) in
      sym (any_names m delta free f (word t big ++ rest) (All-append IsNode (word t big) rest (All-append IsNode L Ar (letters_ok u t big) (arcs_ok (zip (L1 T) Ys))) ok) one_to_one)
      ∙ ap V
      (rename-append f (word t big) rest
      ∙ ap₂ (λ xs ys. xs ++ ys)
      (rename-append f L Ar
      ∙ ap₂ (λ xs ys. xs ++ ys) (letters_renamed f n u among_u t s big high strands_stay f_high)
      (arcs_renamed f (L1 T) Ys ∙ ap₂ (λ xs ys. arcs_of (zip xs ys)) (map_ranged f T (names_behind u s high) 0 n (λ j lo hi. behind_renamed f n u among_u t s big high strands_stay f_high j (omega (arith, hi)))) Ys_stay))
      rest_stays)
