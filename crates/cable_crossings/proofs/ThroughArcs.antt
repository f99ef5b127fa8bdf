-- Strands that go straight through are arcs.
use Rattle.std.proofs.Common.{◌≡◌, ℕ, zero, suc, ◌+◌, ◌-◌, ◌^◌, ◌%◌, ◌<◌, ◌≤◌, ◌==◌, ◌⊎◌, inl, inr, nat_lt, true, false, List, [], ◌∷◌, ◌++◌, map, length, reverse, slice_index, Contains, refl, sym, ap, ◌∙◌, arith, ⊎_elim, All, subst, length-append}
use Rattle.std.specs.List.{zip, AllPass}
use Rattle.std.specs.Set.{is_member}
use Rattle.std.proofs.lemmas.Bool.Decides.{nat_tests}
use Rattle.std.proofs.lemmas.List.{get_or-reverse, get_or-map, length-reverse, length-map}
use Rattle.std.proofs.lemmas.List.Elements.{All-tail}
use Rattle.std.proofs.lemmas.List.FromFn.{length-map-range_with_len, get_or-map-range_with_len}
use Rattle.graph_parts.specs.Ends.{EndsAre, ends_of}
use Rattle.graph_parts.specs.Labels.{label_of, label_after, label_count}
use Rattle.graph_parts.proofs.Agreement.{label_count-agree, Agree-same_edges}
use Rattle.graph_parts.proofs.Counting.{label_after-append, Agree-after}
use Rattle.graph_parts.proofs.PartLaws.{label_count-same_names}
use Rattle.state_sums.specs.Networks.{Node, IsNode, names_of}
use Rattle.list_lemmas.specs.Times.{times_in}
use Rattle.state_sums.specs.StateSums.{value}
use Rattle.state_sums.proofs.StateEdges.{HavePlaces-from_nodes, total_same}
use Rattle.state_sums.proofs.StateSums.{state_sum-labels}
use Rattle.state_sums.proofs.Sums.{total}
use Rattle.piece_laws.specs.Arcs.{arcs_of}
use Rattle.piece_laws.proofs.ArcEdges.{arc_edges, names_of-arcs, HavePlaces-arcs}
use Rattle.list_lemmas.proofs.Times.{times_of_member, times_in-append}
use Rattle.strand_algebra.specs.StrandPairings.{straight}
use Rattle.cables.specs.CableNodes.{through_node}
use Rattle.cables.proofs.NameCounts.{times-reverse}
use Rattle.list_lemmas.proofs.Bools.{same_bool}
use Rattle.cable_crossings.proofs.CabledBigon.{zip-times}
use Rattle.cable_crossings.proofs.CabledGrids.{at_append_low, at_append_high}
use Rattle.cable_crossings.proofs.StepPieces.{member_of_one}

-- ---- lists of pairs
pub zip_contains : (i : ℕ) (xs ys : List ℕ) → i < length xs → length ys ≡ length xs → Contains (zip xs ys) (slice_index xs i, slice_index ys i)
zip_contains i [] ys l e = absurd (omega (arith, l))
zip_contains i (x ∷ xs) [] l e = absurd (omega (arith, e))
zip_contains zero (x ∷ xs) (y ∷ ys) l e = (0, omega arith, refl)
zip_contains (suc i) (x ∷ xs) (y ∷ ys) l e = let c = zip_contains i xs ys (omega (arith, l)) (omega (arith, e)) in (suc c.0, omega (arith, c.1), c.2)

arc_within : (pairs : List (ℕ × ℕ)) (x y : ℕ) → Contains (arc_edges pairs) (x, y) → Contains pairs (x, y) ⊎ Contains pairs (y, x)
arc_within [] x y h = absurd (omega (arith, h.1))
arc_within (pair ∷ pairs) x y (zero, l, e) = inl (0, omega arith, e)
arc_within (pair ∷ pairs) x y (suc zero, l, e) =
    let p : (pair.0, pair.1) ≡ (y, x) = ap (λ (f : ℕ × ℕ). let g : ℕ × ℕ = (f.1, f.0) in g) e in inr (0, omega arith, p)
arc_within (pair ∷ pairs) x y (suc (suc k), l, e) =
    ⊎_elim (λ c. inl (suc c.0, omega (arith, c.1), c.2)) (λ c. inr (suc c.0, omega (arith, c.1), c.2)) (arc_within pairs x y (k, omega (arith, l), e))

arc_has : (pairs : List (ℕ × ℕ)) (x y : ℕ) → Contains pairs (x, y) → Contains (arc_edges pairs) (x, y)
arc_has [] x y h = absurd (omega (arith, h.1))
arc_has (pair ∷ pairs) x y (zero, l, e) = (0, omega arith, e)
arc_has (pair ∷ pairs) x y (suc k, l, e) = let c = arc_has pairs x y (k, omega (arith, l), e) in (suc (suc c.0), omega (arith, c.1), c.2)

total_arcs : (pairs : List (ℕ × ℕ)) (rest : List Node) (f : List (ℕ × ℕ) → ℕ) → total (arcs_of pairs ++ rest) f ≡ total rest (λ es. f (arc_edges pairs ++ es))
total_arcs [] rest f = refl
total_arcs (pair ∷ pairs) rest f = let ih = total_arcs pairs rest (λ es. f ((pair.0, pair.1) ∷ (pair.1, pair.0) ∷ es)) in omega (arith, ih)

-- what a zip has, by its place
zip_at : (xs ys : List ℕ) (x y : ℕ) → Contains (zip xs ys) (x, y) → (i : ℕ) × (i < length xs) × (i < length ys) × (slice_index xs i ≡ x) × (slice_index ys i ≡ y)
zip_at [] ys x y h = absurd (omega (arith, h.1))
zip_at (a ∷ xs) [] x y h = absurd (omega (arith, h.1))
zip_at (a ∷ xs) (b ∷ ys) x y (zero, l, e) = (0, omega arith, omega arith, ap (λ (f : ℕ × ℕ). f.0) e, ap (λ (f : ℕ × ℕ). f.1) e)
zip_at (a ∷ xs) (b ∷ ys) x y (suc k, l, e) =
    let r = zip_at xs ys x y (k, omega (arith, l), e) in
    (suc r.0, (let t = r.1 in omega (arith, t)), (let t = r.2 in omega (arith, t)), r.3, r.4)

everywhere : (es : List (ℕ × ℕ)) → EndsAre (λ u. true) es
everywhere [] = tt
everywhere (e ∷ es) = (refl, refl, everywhere es)

-- the arcs of two lists that have the same pairs, either way, count alike
pub same_arcs : (m delta free : ℕ) (ps qs : List (ℕ × ℕ)) (rest : List Node) → All IsNode rest →
    ((x y : ℕ) → Contains ps (x, y) → Contains qs (x, y) ⊎ Contains qs (y, x)) → ((x y : ℕ) → Contains qs (x, y) → Contains ps (x, y) ⊎ Contains ps (y, x)) →
    ((z : ℕ) → times_in (ends_of ps) z ≡ times_in (ends_of qs) z) →
    value m delta record { nodes = arcs_of ps ++ rest; free_loops = free } ≡ value m delta record { nodes = arcs_of qs ++ rest; free_loops = free }
unfolding value
same_arcs m delta free ps qs rest ok within has times =
    let rest_places = HavePlaces-from_nodes rest ok in
    let F : List (ℕ × ℕ) → List (ℕ × ℕ) → ℕ = λ ps es. delta ^ (label_count (label_of es) (names_of (arcs_of ps ++ rest)) + free) in
    let all : (zs : List ℕ) → AllPass (λ u. true) zs = λ zs i d l. refl in
    ap (λ k. k % m)
    (state_sum-labels delta (arcs_of ps ++ rest) free (HavePlaces-arcs ps rest rest_places)
    ∙ total_arcs ps rest (F ps)
    ∙ total_same rest rest_places (λ es. F ps (arc_edges ps ++ es)) (λ es. F qs (arc_edges qs ++ es))
    (λ es among.
    let names = ends_of ps ++ names_of rest in
    let a =
    ap (label_count (label_of (arc_edges ps ++ es))) (names_of-arcs ps rest)
    ∙ ap (λ l. label_count l names) (label_after-append (λ x. x) (arc_edges ps) es)
    ∙ label_count-agree (λ u. true) (label_after (label_of (arc_edges ps)) es) (label_after (label_of (arc_edges qs)) es) names
    (Agree-after (λ u. true) (label_of (arc_edges ps)) (label_of (arc_edges qs)) es (everywhere es)
    (Agree-same_edges (λ x. true) (arc_edges ps) (arc_edges qs) (both ps qs within) (both qs ps has))) (all names)
    ∙ sym (ap (λ l. label_count l names) (label_after-append (λ x. x) (arc_edges qs) es))
    ∙ label_count-same_names (label_of (arc_edges qs ++ es)) names (ends_of qs ++ names_of rest) (same_members (names_of rest))
    ∙ sym (ap (label_count (label_of (arc_edges qs ++ es))) (names_of-arcs qs rest)) in
    ap (λ k. delta ^ (k + free)) a)
    ∙ sym (total_arcs qs rest (F qs))
    ∙ sym (state_sum-labels delta (arcs_of qs ++ rest) free (HavePlaces-arcs qs rest rest_places)))
  where
    both : (us vs : List (ℕ × ℕ)) → ((x y : ℕ) → Contains us (x, y) → Contains vs (x, y) ⊎ Contains vs (y, x)) → (x y : ℕ) → Contains (arc_edges us) (x, y) → Contains (arc_edges vs) (x, y) ⊎ Contains (arc_edges vs) (y, x)
    both us vs h x y c =
        ⊎_elim
        (λ d. ⊎_elim (λ q. inl (arc_has vs x y q)) (λ q. inr (arc_has vs y x q)) (h x y d))
        (λ d. ⊎_elim (λ q. inr (arc_has vs y x q)) (λ q. inl (arc_has vs x y q)) (h y x d))
        (arc_within us x y c)

    same_members : (others : List ℕ) (z : ℕ) → is_member ◌==◌ (ends_of ps ++ others) z ≡ is_member ◌==◌ (ends_of qs ++ others) z
    same_members others z =
        let t = times z in
        let d = times_in-append (ends_of ps) others z in
        let e = times_in-append (ends_of qs) others z in
        let same : times_in (ends_of ps ++ others) z ≡ times_in (ends_of qs ++ others) z = omega (arith, t, d, e) in
        same_bool (is_member ◌==◌ (ends_of ps ++ others) z) (is_member ◌==◌ (ends_of qs ++ others) z)
        (λ m. (let one = times_of_member z (ends_of ps ++ others) m in member_of_one z (ends_of qs ++ others) (omega (arith, one, same))))
        (λ m. (let one = times_of_member z (ends_of qs ++ others) m in member_of_one z (ends_of ps ++ others) (omega (arith, one, same))))

-- the same arcs from the other side
pub turned_arcs : (m delta free n : ℕ) (xs ys : List ℕ) (rest : List Node) → length xs ≡ n → length ys ≡ n → All IsNode rest →
    value m delta record { nodes = arcs_of (zip xs (reverse ys)) ++ rest; free_loops = free } ≡ value m delta record { nodes = arcs_of (zip ys (reverse xs)) ++ rest; free_loops = free }
turned_arcs m delta free n xs ys rest lx ly ok =
    let rx = length-reverse xs in
    let ry = length-reverse ys in
    same_arcs m delta free (zip xs (reverse ys)) (zip ys (reverse xs)) rest ok (λ x y c. inr (turned n xs ys lx ly x y c)) (λ x y c. inr (turned n ys xs ly lx x y c))
    (λ z. (
    let a = zip-times z xs (reverse ys) (ry ∙ ly ∙ sym lx) in
    let b = zip-times z ys (reverse xs) (rx ∙ lx ∙ sym ly) in
    let s = times-reverse z xs in let t = times-reverse z ys in omega (arith, a, b, s, t)))
  where
    turned : (n : ℕ) (xs ys : List ℕ) → length xs ≡ n → length ys ≡ n → (x y : ℕ) → Contains (zip xs (reverse ys)) (x, y) → Contains (zip ys (reverse xs)) (y, x)
    turned n xs ys lx ly x y c =
        let rx = length-reverse xs in
        let r = zip_at xs (reverse ys) x y c in
        let i = r.0 in
        let a = r.1 in
        let l : i < n = omega (arith, a, lx) in
        let j = n - 1 - i in
        let w = zip_contains j ys (reverse xs) (omega (arith, l, ly)) (rx ∙ lx ∙ sym ly) in
        let back : n - 1 - j ≡ i = omega (arith, l) in
        let at_x : slice_index (reverse xs) j ≡ x = get_or-reverse xs j 0 (omega (arith, l, lx)) ∙ ap (λ k. slice_index xs (k - 1 - j)) lx ∙ ap (slice_index xs) back ∙ r.3 in
        let at_y : slice_index ys j ≡ y = sym (get_or-reverse ys i 0 (omega (arith, l, ly)) ∙ ap (λ k. slice_index ys (k - 1 - i)) ly) ∙ r.4 in
        let P : ℕ → Type 0 = λ z. Contains (zip ys (reverse xs)) (z, x) in
        let Q : ℕ → Type 0 = λ z. Contains (zip ys (reverse xs)) (slice_index ys j, z) in
        subst P at_y (subst Q at_x w)

module _ (group n : ℕ) (xs ys : List ℕ) (lx : length xs ≡ n) (ly : length ys ≡ n) where
  abbrev ends : List ℕ
  ends = xs ++ ys

  abbrev node : Node
  node = through_node group xs ys

  abbrev edges : List (ℕ × ℕ)
  edges = zip ends (map (λ place. slice_index ends place) (straight (length xs)))

  abbrev pairs : List (ℕ × ℕ)
  pairs = zip xs (reverse ys)

  long : length ends ≡ n + n
  long = let e = length-append xs ys in omega (arith, e, lx, ly)

  partner_long : length (straight (length xs)) ≡ n + n
  partner_long = length-map-range_with_len (λ i. length xs + length xs - 1 - i) 0 (length xs + length xs) ∙ omega (arith, lx)

  partner_at : (i : ℕ) → i < n + n → slice_index (straight (length xs)) i ≡ n + n - 1 - i
  partner_at i l =
      let z : 0 + i ≡ i = omega arith in
      get_or-map-range_with_len (λ i. length xs + length xs - 1 - i) 0 (length xs + length xs) i i 0 (omega (arith, l, lx)) z ∙ omega (arith, lx)

  abbrev across : List ℕ
  across = map (λ place. slice_index ends place) (straight (length xs))

  across_long : length across ≡ n + n
  across_long = length-map (straight (length xs)) (λ place. slice_index ends place) ∙ partner_long

  across_at : (i : ℕ) → i < n + n → slice_index across i ≡ slice_index ends (n + n - 1 - i)
  across_at i l = get_or-map (λ place. slice_index ends place) (straight (length xs)) i 0 0 (omega (arith, l, partner_long)) ∙ ap (slice_index ends) (partner_at i l)

  left_at : (i : ℕ) → i < n → slice_index ends i ≡ slice_index xs i
  left_at i l = at_append_low xs ys i (omega (arith, l, lx))

  right_at : (i : ℕ) → i < n → slice_index ends (n + n - 1 - i) ≡ slice_index (reverse ys) i
  right_at i l =
      at_append_high xs ys (n + n - 1 - i) (n - 1 - i) (omega (arith, l, lx)) ∙ sym (get_or-reverse ys i 0 (omega (arith, l, ly)) ∙ ap (λ k. slice_index ys (k - 1 - i)) ly)

  -- the pairs of the node are the arcs
  pair_in : (i : ℕ) → i < n → Contains pairs (slice_index xs i, slice_index (reverse ys) i)
  pair_in i l = let r = length-reverse ys in zip_contains i xs (reverse ys) (omega (arith, l, lx)) (r ∙ ly ∙ sym lx)

  edge_in : (i : ℕ) → i < n + n → Contains edges (slice_index ends i, slice_index across i)
  edge_in i l = zip_contains i ends across (omega (arith, l, long)) (across_long ∙ sym long)

  within : (x y : ℕ) → Contains edges (x, y) → Contains (arc_edges pairs) (x, y) ⊎ Contains (arc_edges pairs) (y, x)
  within x y h =
      let r = zip_at ends across x y h in
      let i = r.0 in
      let a = r.1 in
      let l : i < n + n = omega (arith, a, long) in
      let to : slice_index ends (n + n - 1 - i) ≡ y = sym (across_at i l) ∙ r.4 in
      ⊎_elim
      (λ (s : i < n). (
      let P : ℕ → Type 0 = λ z. Contains pairs (z, y) in
      let Q : ℕ → Type 0 = λ z. Contains pairs (slice_index xs i, z) in
      inl (arc_has pairs x y (subst P (sym (left_at i s) ∙ r.3) (subst Q (sym (right_at i s) ∙ to) (pair_in i s))))))
      (λ (s : n ≤ i). (
      let j = n + n - 1 - i in
      let jl : j < n = omega (arith, s, l) in
      let back : n + n - 1 - j ≡ i = omega (arith, l) in
      let P : ℕ → Type 0 = λ z. Contains pairs (z, x) in
      let Q : ℕ → Type 0 = λ z. Contains pairs (slice_index xs j, z) in
      inr (arc_has pairs y x (subst P (sym (left_at j jl) ∙ to) (subst Q (sym (right_at j jl) ∙ ap (slice_index ends) back ∙ r.3) (pair_in j jl))))))
      (split i n)
    where
      split : (i n : ℕ) → (i < n) ⊎ (n ≤ i)
      split i n = elim (nat_lt i n) as (λ b. nat_lt i n ≡ b → (i < n) ⊎ (n ≤ i)) [ true ↦ (λ e. inl (grind (arith, nat_tests, e))) | false ↦ (λ e. inr (grind (arith, nat_tests, e))) ] refl

  from_pair : (x y : ℕ) → Contains pairs (x, y) → Contains edges (x, y)
  from_pair x y h =
      let r = zip_at xs (reverse ys) x y h in
      let i = r.0 in
      let a = r.1 in
      let l : i < n = omega (arith, a, lx) in
      let P : ℕ → Type 0 = λ z. Contains edges (z, y) in
      let Q : ℕ → Type 0 = λ z. Contains edges (slice_index ends i, z) in
      subst P (left_at i l ∙ r.3) (subst Q (across_at i (omega (arith, l)) ∙ right_at i l ∙ r.4) (edge_in i (omega (arith, l))))

  has : (x y : ℕ) → Contains (arc_edges pairs) (x, y) → Contains edges (x, y) ⊎ Contains edges (y, x)
  has x y h = ⊎_elim (λ c. inl (from_pair x y c)) (λ c. inr (from_pair y x c)) (arc_within pairs x y h)

  same_names : (others : List ℕ) (z : ℕ) → is_member ◌==◌ (ends ++ others) z ≡ is_member ◌==◌ (ends_of pairs ++ others) z
  same_names others z =
      let r = length-reverse ys in
      let a = zip-times z xs (reverse ys) (r ∙ ly ∙ sym lx) in
      let b = times-reverse z ys in
      let c = times_in-append xs ys z in
      let d = times_in-append ends others z in
      let e = times_in-append (ends_of pairs) others z in
      let total_same : times_in (ends ++ others) z ≡ times_in (ends_of pairs ++ others) z = omega (arith, a, b, c, d, e) in
      same_bool (is_member ◌==◌ (ends ++ others) z) (is_member ◌==◌ (ends_of pairs ++ others) z)
      (λ m. (let one = times_of_member z (ends ++ others) m in member_of_one z (ends_of pairs ++ others) (omega (arith, one, total_same))))
      (λ m. (let one = times_of_member z (ends_of pairs ++ others) m in member_of_one z (ends ++ others) (omega (arith, one, total_same))))

  -- STRANDS THAT GO THROUGH ARE ARCS
  pub through_arcs : (m delta free : ℕ) (rest : List Node) → All IsNode (node ∷ rest) →
      value m delta record { nodes = node ∷ rest; free_loops = free } ≡ value m delta record { nodes = arcs_of pairs ++ rest; free_loops = free }
  unfolding value
  through_arcs m delta free rest ok =
      let places = HavePlaces-from_nodes (node ∷ rest) ok in
      let rest_places = HavePlaces-from_nodes rest (All-tail IsNode node rest ok) in
      let here : List (ℕ × ℕ) → ℕ = λ es. delta ^ (label_count (label_of es) (names_of (node ∷ rest)) + free) in
      let there : List (ℕ × ℕ) → ℕ = λ es. delta ^ (label_count (label_of es) (names_of (arcs_of pairs ++ rest)) + free) in
      let single : total (node ∷ rest) here ≡ total rest (λ es. here (edges ++ es)) = omega arith in
      let all : (zs : List ℕ) → AllPass (λ u. true) zs = λ zs i d l. refl in
      ap (λ k. k % m)
      (state_sum-labels delta (node ∷ rest) free places
      ∙ single
      ∙ total_same rest rest_places (λ es. here (edges ++ es)) (λ es. there (arc_edges pairs ++ es))
      (λ es among.
      let names = ends ++ names_of rest in
      let a =
      ap (λ l. label_count l names) (label_after-append (λ x. x) edges es)
      ∙ label_count-agree (λ u. true) (label_after (label_of edges) es) (label_after (label_of (arc_edges pairs)) es) names
      (Agree-after (λ u. true) (label_of edges) (label_of (arc_edges pairs)) es (everywhere es) (Agree-same_edges (λ x. true) edges (arc_edges pairs) within has)) (all names)
      ∙ sym (ap (λ l. label_count l names) (label_after-append (λ x. x) (arc_edges pairs) es))
      ∙ label_count-same_names (label_of (arc_edges pairs ++ es)) names (ends_of pairs ++ names_of rest) (same_names (names_of rest))
      ∙ sym (ap (label_count (label_of (arc_edges pairs ++ es))) (names_of-arcs pairs rest)) in
      ap (λ k. delta ^ (k + free)) a)
      ∙ sym (total_arcs pairs rest there)
      ∙ sym (state_sum-labels delta (arcs_of pairs ++ rest) free (HavePlaces-arcs pairs rest rest_places)))
