-- How many nodes a cable has: at most 64 and 4 boxes at an item.
use Rattle.std.proofs.Common.{◌≡◌, ℕ, ◌+◌, ◌*◌, ◌^◌, ◌≤◌, ◌==◌, ◌&&◌, not, Bool, cond, List, [], ◌∷◌, ◌++◌, length, map, reverse, count_by, refl, ap, arith, length-append}
use Rattle.std.specs.List.{AllByRecursion, range_with_len, filter}
use Rattle.std.specs.Set.{is_member}
use Rattle.std.proofs.lemmas.Bool.Decides.{nat_tests}
use Rattle.std.proofs.lemmas.List.{length-map}
use Rattle.std.proofs.lemmas.List.FromFn.{length-map-range_with_len}
use Rattle.std.proofs.lemmas.List.Sums.{sum_by-cons, length-filter}
use Rattle.list_lemmas.specs.Times.{times_in}
use Rattle.root_quantum.specs.Parameters.{Parameters}
use Rattle.pd_reader.specs.declared.item.NetItem.{NetItem}
use Rattle.pd_reader.specs.declared.item.NetItem.TheVariants.{X, Y, Loop}
use Rattle.cables.specs.Strands.{Strands, names_at}
use Rattle.cables.specs.CableNodes.{upright_names, line_names, row, grid, crossing_cable, vertex_cable, box_node}
use Rattle.cables.specs.Cables.{Standing, passed, past_all, box_nodes, loop_nodes, cable_nodes, Fits, loop_count, loops_at}
use Rattle.cables.proofs.NameCounts.{times-map}
use Rattle.cables.proofs.PlaceNames.{AreAsMany}
use Rattle.cables.proofs.CableNames.{names_length}

row_length : (p : Parameters) (group : ℕ) (bottoms line tops : List ℕ) (west : ℕ) → length (row p group bottoms west line tops) ≤ length bottoms
row_length p group [] line tops west = omega arith
row_length p group (b ∷ bottoms) [] tops west = omega arith
row_length p group (b ∷ bottoms) (e ∷ line) [] west = omega arith
row_length p group (b ∷ bottoms) (e ∷ line) (t ∷ tops) west = let ih = row_length p group bottoms line tops e in omega (arith, ih)

grid_length : (p : Parameters) (group k u i : ℕ) (bottoms wests easts north : List ℕ) → u ≤ 8 → length bottoms ≤ 8 → length (grid p group k u i bottoms wests easts north) ≤ 8 * length easts
grid_length p group k u i bottoms [] easts north h b = omega arith
grid_length p group k u i bottoms (w ∷ []) [] north h b = omega arith
grid_length p group k u i bottoms (w ∷ []) (e ∷ easts) north h b = let r = row_length p group bottoms (line_names k u i ++ e ∷ []) north w in omega (arith, r, b)
grid_length p group k u i bottoms (w ∷ v ∷ wests) [] north h b = omega arith
grid_length p group k u i bottoms (w ∷ v ∷ wests) (e ∷ easts) north h b =
    let tops = upright_names k u i in
    let long = length-map-range_with_len (λ j. 2 ^ 25 + 128 * k + 8 * i + j) 0 u in
    let r = row_length p group bottoms (line_names k u i ++ e ∷ []) tops w in
    let ih = grid_length p group k u (i + 1) tops (v ∷ wests) easts north h (omega (arith, long, h)) in
    let both = length-append (row p group bottoms w (line_names k u i ++ e ∷ []) tops) (grid p group k u (i + 1) tops (v ∷ wests) easts north) in
    omega (arith, r, ih, both, b)

crossing_length : (p : Parameters) (group k : ℕ) (a b c d : List ℕ) → length a ≤ 8 → length b ≤ 8 → length (crossing_cable p group k a b c d) ≤ 64
crossing_length p group k [] [] c d u o = omega arith
crossing_length p group k [] (b ∷ others) c d u o = omega arith
crossing_length p group k (a ∷ more) [] c d u o = omega arith
crossing_length p group k (a ∷ more) (b ∷ others) c d u o =
    let g = grid_length p group k (length (a ∷ more)) 0 (a ∷ more) (reverse d) (b ∷ others) (reverse c) u u in omega (arith, g, o)

vertex_length : (group : ℕ) (x y z : List ℕ) → length (vertex_cable group x y z) ≤ 1
vertex_length group [] [] [] = omega arith
vertex_length group [] [] (c ∷ z) = omega arith
vertex_length group [] (b ∷ y) [] = omega arith
vertex_length group [] (b ∷ y) (c ∷ z) = omega arith
vertex_length group (a ∷ x) [] [] = omega arith
vertex_length group (a ∷ x) [] (c ∷ z) = omega arith
vertex_length group (a ∷ x) (b ∷ y) [] = omega arith
vertex_length group (a ∷ x) (b ∷ y) (c ∷ z) = omega arith

-- at most as many different labels as slots
map_same : (xs : List ℕ) → map (λ x. x) xs ≡ xs
map_same [] = refl
map_same (x ∷ xs) = ap (λ ys. x ∷ ys) (map_same xs)

run_once : (y a n : ℕ) → times_in (range_with_len a n) y ≤ 1
run_once y a n = let h = times-map (λ i. i) (λ i j e. e) y a n in let e = ap (λ xs. times_in xs y) (map_same (range_with_len a n)) in omega (arith, h, e)

one_more : (y : ℕ) (ys : List ℕ) (q : ℕ → Bool) (ns : List ℕ) →
    count_by (λ l. is_member ◌==◌ (y ∷ ys) l && q l) ns ≤ times_in ns y + count_by (λ l. is_member ◌==◌ ys l && q l) ns
one_more y ys q [] = omega arith
one_more y ys q (n ∷ ns) =
    let ih = one_more y ys q ns in
    let a = sum_by-cons (λ l. cond (is_member ◌==◌ (y ∷ ys) l && q l) 1 0) n ns in
    let b = sum_by-cons (λ l. cond (is_member ◌==◌ ys l && q l) 1 0) n ns in
    let c = sum_by-cons (λ l. cond (y == l) 1 0) n ns in
    grind (arith, nat_tests, ih, a, b, c)

few_members : (ys : List ℕ) (q : ℕ → Bool) (a n : ℕ) → count_by (λ l. is_member ◌==◌ ys l && q l) (range_with_len a n) ≤ length ys
few_members [] q a n = none (range_with_len a n)
  where
    none : (ns : List ℕ) → count_by (λ (l : ℕ). is_member ◌==◌ [] l && q l) ns ≤ 0
    none [] = omega arith
    none (m ∷ ns) = let a = sum_by-cons (λ (l : ℕ). cond (is_member ◌==◌ [] l && q l) 1 0) m ns in let ih = none ns in omega (arith, a, ih)
few_members (y ∷ ys) q a n = let ih = few_members ys q a n in let e = one_more y ys q (range_with_len a n) in let f = run_once y a n in omega (arith, ih, e, f)

boxes_length : (strands : Strands) (standing : Standing) (slots : List ℕ) → length (box_nodes strands standing slots) ≤ length slots
boxes_length strands standing slots =
    let q : ℕ → Bool = λ label. strands.boxed label && not (is_member ◌==◌ standing.seen label) in
    let kept = filter (λ label. is_member ◌==◌ slots label && q label) (range_with_len 0 (past_all slots)) in
    let a = length-map kept (λ label. box_node standing.group (strands.box (length (strands.first label))) (strands.first label) (strands.second label)) in
    let b = length-filter (λ label. is_member ◌==◌ slots label && q label) (range_with_len 0 (past_all slots)) in
    let c = few_members slots q 0 (past_all slots) in
    omega (arith, a, b, c)

loop_length : (strands : Strands) (group : ℕ) (names : List ℕ) → length (loop_nodes strands group names) ≤ 1
loop_length strands group [] = omega arith
loop_length strands group (x ∷ []) = omega arith
loop_length strands group (x ∷ y ∷ names) = omega arith

module _ (p : Parameters) (strands : Strands) (even : AreAsMany strands) (few : (label : ℕ) → length (strands.first label) ≤ 8) where
  -- FEW NODES
  pub cable_length : (items : List NetItem) (standing : Standing) → AllByRecursion (Fits strands) items → length (cable_nodes p strands standing items) ≤ 68 * length items
  cable_length [] standing fit = omega arith
  cable_length (X (a ∷ b ∷ c ∷ d ∷ []) ∷ items) standing fit =
      let slots = a ∷ b ∷ c ∷ d ∷ [] in
      let seen = standing.seen in
      let la = names_length strands even seen a in let fa = few a in
      let lb = names_length strands even (a ∷ seen) b in let fb = few b in
      let crossing = crossing_cable p standing.group standing.index (names_at strands seen a) (names_at strands (a ∷ seen) b) (names_at strands (b ∷ a ∷ seen) c) (names_at strands (c ∷ b ∷ a ∷ seen) d) in
      let g = crossing_length p standing.group standing.index (names_at strands seen a) (names_at strands (a ∷ seen) b) (names_at strands (b ∷ a ∷ seen) c) (names_at strands (c ∷ b ∷ a ∷ seen) d) (omega (arith, la, fa)) (omega (arith, lb, fb)) in
      let bx = boxes_length strands standing slots in
      let ih = cable_length items (passed standing (X slots)) fit.1 in
      let one = length-append (box_nodes strands standing slots ++ crossing) (cable_nodes p strands (passed standing (X slots)) items) in
      let two = length-append (box_nodes strands standing slots) crossing in
      omega (arith, g, bx, ih, one, two)
  cable_length (X slots ∷ items) standing fit = absurd fit.0
  cable_length (Y (a ∷ b ∷ c ∷ []) ∷ items) standing fit =
      let slots = a ∷ b ∷ c ∷ [] in
      let seen = standing.seen in
      let vertex = vertex_cable standing.group (names_at strands seen a) (names_at strands (a ∷ seen) b) (names_at strands (b ∷ a ∷ seen) c) in
      let g = vertex_length standing.group (names_at strands seen a) (names_at strands (a ∷ seen) b) (names_at strands (b ∷ a ∷ seen) c) in
      let bx = boxes_length strands standing slots in
      let ih = cable_length items (passed standing (Y slots)) fit.1 in
      let one = length-append (box_nodes strands standing slots ++ vertex) (cable_nodes p strands (passed standing (Y slots)) items) in
      let two = length-append (box_nodes strands standing slots) vertex in
      omega (arith, g, bx, ih, one, two)
  cable_length (Y edges ∷ items) standing fit = absurd fit.0
  cable_length (Loop label ∷ items) standing fit =
      let g = loop_length strands standing.loop_group (strands.first label) in
      let ih = cable_length items (passed standing (Loop label)) fit.1 in
      let one = length-append (loop_nodes strands standing.loop_group (strands.first label)) (cable_nodes p strands (passed standing (Loop label)) items) in
      omega (arith, g, ih, one)

one_loop : (names : List ℕ) → loops_at names ≤ 1
one_loop [] = omega arith
one_loop (x ∷ []) = omega arith
one_loop (x ∷ y ∷ names) = omega arith

pub loops_length : (strands : Strands) (items : List NetItem) → loop_count strands items ≤ length items
loops_length strands [] = omega arith
loops_length strands (X slots ∷ items) = let ih = loops_length strands items in omega (arith, ih)
loops_length strands (Y slots ∷ items) = let ih = loops_length strands items in omega (arith, ih)
loops_length strands (Loop label ∷ items) = let ih = loops_length strands items in let e = one_loop (strands.first label) in omega (arith, ih, e)
