-- Crossings that go: their strands become classes of labels, by arcs that close.
use Rattle.std.proofs.Common.{◌≡◌, ℕ, zero, suc, ◌+◌, ◌≤◌, Bool, true, false, cond, not, ◌==◌, min, max, List, [], ◌∷◌, ◌++◌, map, length, Contains, refl, sym, ap, ◌∙◌, arith, ⊎_elim, subst, append-nil}
use Rattle.std.specs.List.{AllByRecursion, count_by, filter}
use Rattle.std.specs.Set.{is_member, unique_keys}
use Rattle.std.proofs.lemmas.Bool.{or_left, eq-eqb, eqb-true, cases_Bool, cases_order}
use Rattle.std.proofs.lemmas.List.{length-map}
use Rattle.std.proofs.lemmas.List.Sums.{sum_by-cons}
use Rattle.graph_parts.specs.LeastNames.{least_label}
use Rattle.graph_parts.specs.Walks.{Joined, along, stay, back, on}
use Rattle.graph_parts.proofs.LeastLabels.{AreLeast-labels, least_label-Joined}
use Rattle.pd_reader.specs.declared.item.Item.{Item}
use Rattle.pd_reader.specs.declared.item.Item.TheVariants as item
use Rattle.pd_reader.specs.Items.{HasItsSlots}
use Rattle.diagram_brackets.specs.Brackets.{loop_count}
use Rattle.state_sums.specs.LocalSums.{rename}
use Rattle.state_sums.specs.Networks.{names_of}
use Rattle.state_sums.specs.StateSums.{value}
use Rattle.state_sums.proofs.NodeNames.{names_of-rename}
use Rattle.diagram_moves.specs.Rewriting.{crossing_labels, rewritten}
use Rattle.diagram_moves.specs.Moves.{two_labels, closing, removed}
use Rattle.diagram_moves.specs.Laws.{IsPairedDiagram}
use Rattle.diagram_moves.proofs.Nodes.{node, nodes_of, kept, names_of-nodes, nodes_of-append, IsNode-kept}
use Rattle.diagram_moves.proofs.Paired.{paired, sizes-append, sizes-loops}
use Rattle.list_lemmas.specs.Times.{times_in}
use Rattle.piece_laws.specs.Arcs.{arcs_of, AreClassLabels, closed_classes}
use Rattle.graph_parts.specs.Ends.{ends_of}
use Rattle.piece_laws.specs.Pieces.{ArePaired}
use Rattle.piece_laws.proofs.Closing.{arcs_close}
use Rattle.list_lemmas.proofs.Times.{times_in-append, times_of_member}

pub least_contraction : (pairs : List (ℕ × ℕ)) → AreClassLabels pairs (least_label pairs)
least_contraction pairs =
    let rules = AreLeast-labels pairs in
    record {
      joined = λ x. (least_label-Joined pairs x (least_label pairs x)).0 (sym (rules.itself x));
      one = λ x y j. (least_label-Joined pairs x y).1 j;
    }

pub edge_of : (pairs : List (ℕ × ℕ)) (label : ℕ → ℕ) → AllByRecursion (λ pair. label pair.0 ≡ label pair.1) pairs → (x y : ℕ) → Contains pairs (x, y) → label x ≡ label y
edge_of [] label h x y c = absurd (omega (arith, c.1))
edge_of (pair ∷ pairs) label h x y (zero, l, e) = sym (ap (λ p. label p.0) e) ∙ h.0 ∙ ap (λ p. label p.1) e
edge_of (pair ∷ pairs) label h x y (suc i, l, e) = edge_of pairs label h.1 x y (i, omega (arith, l), e)

along_walk : (pairs : List (ℕ × ℕ)) (label : ℕ → ℕ) → AllByRecursion (λ pair. label pair.0 ≡ label pair.1) pairs → {x y : ℕ} → Joined pairs x y → label x ≡ label y
along_walk pairs label h (along {x = x} {y = y} c) = edge_of pairs label h x y c
along_walk pairs label h stay = refl
along_walk pairs label h (back j) = sym (along_walk pairs label h j)
along_walk pairs label h (on i j) = along_walk pairs label h i ∙ along_walk pairs label h j

-- names whose count is that of labels of the diagram stand twice
pub paired_piece : (items : List Item) → IsPairedDiagram items → (xs names : List ℕ) → ((z : ℕ) → times_in (crossing_labels items) z ≡ times_in xs z + times_in names z) → ArePaired xs (xs ++ names)
paired_piece items pd xs names h z m =
    let a = h z in
    let one = times_of_member z xs m in
    let two = paired items pd z (omega (arith, a, one)) in
    let b = times_in-append xs names z in
    omega (arith, a, b, two)

pub paired_by : (xs names : List ℕ) → ((z : ℕ) → 1 ≤ times_in xs z + times_in names z → times_in xs z + times_in names z ≡ 2) → ArePaired xs (xs ++ names)
paired_by xs names h z m =
    let one = times_of_member z xs m in
    let two = h z (omega (arith, one)) in
    let b = times_in-append xs names z in
    omega (arith, b, two)

-- a label for each class, by the pairs alone
pub contraction_from : (pairs : List (ℕ × ℕ)) (label : ℕ → ℕ) → ((x : ℕ) → Joined pairs x (label x)) → AllByRecursion (λ pair. label pair.0 ≡ label pair.1) pairs → AreClassLabels pairs label
contraction_from pairs label joined edges = record { joined = joined; one = λ x y j. along_walk pairs label edges j }

-- ---- counts of two classes
pub unique_twice : (x : ℕ) (xs : List ℕ) → unique_keys ◌==◌ (x ∷ x ∷ xs) ≡ unique_keys ◌==◌ (x ∷ xs)
unique_twice x xs =
    ap (λ t. cond t (unique_keys ◌==◌ (x ∷ xs)) (x ∷ unique_keys ◌==◌ (x ∷ xs))) (or_left (x == x) (is_member ◌==◌ xs x) (eq-eqb x x refl))

single : (p : ℕ → Bool) (x : ℕ) → count_by p (x ∷ []) ≡ length (filter p (x ∷ []))
single p x = sum_by-cons (λ z. cond (p z) 1 0) x [] ∙ elim (p x) as (λ c. cond c 1 0 + 0 ≡ length (cond c (x ∷ []) [])) [ true ↦ omega arith | false ↦ omega arith ]

couple : (p : ℕ → Bool) (x y : ℕ) → count_by p (x ∷ y ∷ []) ≡ length (filter p (x ∷ y ∷ []))
couple p x y =
    let e = sum_by-cons (λ z. cond (p z) 1 0) x (y ∷ []) in
    let s = single p y in
    e ∙ ap (λ n. cond (p x) 1 0 + n) s
    ∙ elim (p x) as (λ c. cond c 1 0 + length (filter p (y ∷ [])) ≡ length (cond c (x ∷ filter p (y ∷ [])) (filter p (y ∷ [])))) [ true ↦ omega arith | false ↦ omega arith ]

turned : (p : ℕ → Bool) (x y : ℕ) → count_by p (x ∷ y ∷ []) ≡ count_by p (y ∷ x ∷ [])
turned p x y = omega arith

two_counted : (p : ℕ → Bool) (x y : ℕ) → count_by p (cond (x == y) (y ∷ []) (x ∷ y ∷ [])) ≡ length (filter p (two_labels x y))
two_counted p x y =
    ⊎_elim
    (λ t. let same : x ≡ y = eqb-true x y t in
    ap (λ c. count_by p (cond c (y ∷ []) (x ∷ y ∷ []))) t
    ∙ (let e : count_by p (y ∷ []) ≡ length (filter p (x ∷ [])) = ap (λ z. count_by p (z ∷ [])) (sym same) ∙ single p x in e)
    ∙ sym (ap (λ c. length (filter p (cond c (x ∷ []) (min x y ∷ max x y ∷ [])))) t))
    (λ t.
    ap (λ c. count_by p (cond c (y ∷ []) (x ∷ y ∷ []))) t
    ∙ ⊎_elim
    (λ e. absurd (let k = eq-eqb x y e in grind (arith, k, t)))
    (λ o. ⊎_elim
    (λ l. let i : min x y ≡ x = omega (arith, l) in let j : max x y ≡ y = omega (arith, l) in couple p x y ∙ ap (λ z. length (filter p (z ∷ y ∷ []))) (sym i) ∙ ap (λ z. length (filter p (min x y ∷ z ∷ []))) (sym j))
    (λ l. let i : min x y ≡ y = omega (arith, l) in let j : max x y ≡ x = omega (arith, l) in turned p x y ∙ couple p y x ∙ ap (λ z. length (filter p (z ∷ x ∷ []))) (sym i) ∙ ap (λ z. length (filter p (min x y ∷ z ∷ []))) (sym j))
    o)
    (cases_order x y)
    ∙ sym (ap (λ c. length (filter p (cond c (x ∷ []) (min x y ∷ max x y ∷ [])))) t))
    (cases_Bool (x == y))

pub four_four : (p : ℕ → Bool) (x y : ℕ) → count_by p (unique_keys ◌==◌ (x ∷ x ∷ x ∷ x ∷ y ∷ y ∷ y ∷ y ∷ [])) ≡ length (filter p (two_labels x y))
four_four p x y =
    let ys : unique_keys ◌==◌ (y ∷ y ∷ y ∷ y ∷ []) ≡ y ∷ [] = unique_twice y (y ∷ y ∷ []) ∙ unique_twice y (y ∷ []) ∙ unique_twice y [] in
    let test : is_member ◌==◌ (y ∷ y ∷ y ∷ y ∷ []) x ≡ (x == y) = grind arith in
    ap (count_by p)
    (unique_twice x (x ∷ x ∷ y ∷ y ∷ y ∷ y ∷ []) ∙ unique_twice x (x ∷ y ∷ y ∷ y ∷ y ∷ []) ∙ unique_twice x (y ∷ y ∷ y ∷ y ∷ [])
    ∙ ap (λ t. cond t (unique_keys ◌==◌ (y ∷ y ∷ y ∷ y ∷ [])) (x ∷ unique_keys ◌==◌ (y ∷ y ∷ y ∷ y ∷ []))) test
    ∙ ap (λ zs. cond (x == y) zs (x ∷ zs)) ys)
    ∙ two_counted p x y

pub all_one : (p : ℕ → Bool) (x : ℕ) → count_by p (unique_keys ◌==◌ (x ∷ x ∷ x ∷ x ∷ [])) ≡ length (filter p (two_labels x x))
all_one p x =
    ap (count_by p) (unique_twice x (x ∷ x ∷ []) ∙ unique_twice x (x ∷ []) ∙ unique_twice x [])
    ∙ ap (λ t. count_by p (cond t (x ∷ []) (x ∷ x ∷ []))) (sym (eq-eqb x x refl))
    ∙ two_counted p x x

-- ---- items that go
module _ (a b : ℕ) (gone : List ℕ) (label : ℕ → ℕ) where
  pub nodes_of-removed : (k : ℕ) (list : List Item) →
      nodes_of a b (rewritten (λ k slots. cond (is_member ◌==◌ gone k) [] (item.X (map label slots) ∷ [])) k list) ≡ rename label (kept a b gone k list)
  nodes_of-removed k [] = refl
  nodes_of-removed k (item.X slots ∷ rest) =
      let ih = nodes_of-removed (k + 1) rest in
      let R = rewritten (λ k slots. cond (is_member ◌==◌ gone k) [] (item.X (map label slots) ∷ [])) (k + 1) rest in
      let K = kept a b gone (k + 1) rest in
      ⊎_elim
      (λ t. ap (λ c. nodes_of a b (cond c [] (item.X (map label slots) ∷ []) ++ R)) t ∙ ih ∙ sym (ap (λ c. rename label (cond c K (node a b slots ∷ K))) t))
      (λ t. ap (λ c. nodes_of a b (cond c [] (item.X (map label slots) ∷ []) ++ R)) t ∙ ap (λ ns. node a b (map label slots) ∷ ns) ih ∙ sym (ap (λ c. rename label (cond c K (node a b slots ∷ K))) t))
      (cases_Bool (is_member ◌==◌ gone k))
  nodes_of-removed k (item.Loop l ∷ rest) = nodes_of-removed k rest

  loop_count-removed : (k : ℕ) (list : List Item) →
      loop_count (rewritten (λ k slots. cond (is_member ◌==◌ gone k) [] (item.X (map label slots) ∷ [])) k list) ≡ loop_count list
  loop_count-removed k [] = refl
  loop_count-removed k (item.X slots ∷ rest) =
      let ih = loop_count-removed (k + 1) rest in
      let R = rewritten (λ k slots. cond (is_member ◌==◌ gone k) [] (item.X (map label slots) ∷ [])) (k + 1) rest in
      ⊎_elim
      (λ t. ap (λ c. loop_count (cond c [] (item.X (map label slots) ∷ []) ++ R)) t ∙ ih)
      (λ t. ap (λ c. loop_count (cond c [] (item.X (map label slots) ∷ []) ++ R)) t ∙ ih)
      (cases_Bool (is_member ◌==◌ gone k))
  loop_count-removed k (item.Loop l ∷ rest) = ap (λ n. n + 1) (loop_count-removed k rest)

  pub sizes-removed : (k : ℕ) (list : List Item) → AllByRecursion HasItsSlots list →
      AllByRecursion HasItsSlots (rewritten (λ k slots. cond (is_member ◌==◌ gone k) [] (item.X (map label slots) ∷ [])) k list)
  sizes-removed k [] h = tt
  sizes-removed k (item.X slots ∷ rest) h =
      let ih = sizes-removed (k + 1) rest h.1 in
      let R = rewritten (λ k slots. cond (is_member ◌==◌ gone k) [] (item.X (map label slots) ∷ [])) (k + 1) rest in
      let P : Bool → Type 0 = λ c. AllByRecursion HasItsSlots (cond c [] (item.X (map label slots) ∷ []) ++ R) in
      ⊎_elim
      (λ t. subst P (sym t) ih)
      (λ t. subst P (sym t) (length-map slots label ∙ h.0, ih))
      (cases_Bool (is_member ◌==◌ gone k))
  sizes-removed k (item.Loop l ∷ rest) h = (tt, sizes-removed k rest h.1)

pub loop_count-append : (xs ys : List Item) → loop_count (xs ++ ys) ≡ loop_count xs + loop_count ys
loop_count-append [] ys = omega arith
loop_count-append (item.X slots ∷ xs) ys = loop_count-append xs ys
loop_count-append (item.Loop l ∷ xs) ys = let ih = loop_count-append xs ys in omega (arith, ih)

nodes_of-loops : (a b : ℕ) (ls : List ℕ) → nodes_of a b (map item.Loop ls) ≡ []
nodes_of-loops a b [] = refl
nodes_of-loops a b (l ∷ ls) = nodes_of-loops a b ls

loop_count-loops : (ls : List ℕ) → loop_count (map item.Loop ls) ≡ length ls
loop_count-loops [] = refl
loop_count-loops (l ∷ ls) = let ih = loop_count-loops ls in omega (arith, ih)

pub sizes-closing : (gone : List ℕ) (label : ℕ → ℕ) (x y : ℕ) (items : List Item) → AllByRecursion HasItsSlots items → AllByRecursion HasItsSlots (closing label x y (removed gone label items))
sizes-closing gone label x y items h =
    let rest = removed gone label items in
    let ls = filter (λ least. not (is_member ◌==◌ (crossing_labels rest) least)) (two_labels (label x) (label y)) in
    sizes-append rest (map item.Loop ls) (sizes-removed 0 0 gone label 1 items h) (sizes-loops ls)

-- ARCS BETWEEN THE CROSSINGS THAT STAY CLOSE TO LABELS THAT ARE ONE
pub closed_value : (m delta a b : ℕ) (items : List Item) (gone : List ℕ) (pairs : List (ℕ × ℕ)) (x y : ℕ) → AllByRecursion HasItsSlots items →
    ((p : ℕ → Bool) → count_by p (unique_keys ◌==◌ (map (least_label pairs) (ends_of pairs))) ≡ length (filter p (two_labels (least_label pairs x) (least_label pairs y)))) →
    value m delta record { nodes = arcs_of pairs ++ kept a b gone 1 items; free_loops = loop_count items }
    ≡ value m delta record { nodes = nodes_of a b (closing (least_label pairs) x y (removed gone (least_label pairs) items)); free_loops = loop_count (closing (least_label pairs) x y (removed gone (least_label pairs) items)) }
closed_value m delta a b items gone pairs x y sizes counted =
    let label : ℕ → ℕ = least_label pairs in
    let rest = removed gone label items in
    let K = kept a b gone 1 items in
    let p : ℕ → Bool = λ least. not (is_member ◌==◌ (crossing_labels rest) least) in
    let ls = filter p (two_labels (label x) (label y)) in
    let same_nodes : nodes_of a b rest ≡ rename label K = nodes_of-removed a b gone label 1 items in
    let same_labels : map label (names_of K) ≡ crossing_labels rest =
    sym (names_of-rename label K) ∙ ap names_of (sym same_nodes) ∙ names_of-nodes a b rest in
    let all_nodes : nodes_of a b (rest ++ map item.Loop ls) ≡ rename label K ++ [] =
    nodes_of-append a b rest (map item.Loop ls) ∙ ap (λ ns. nodes_of a b rest ++ ns) (nodes_of-loops a b ls) ∙ ap (λ ns. ns ++ []) same_nodes in
    let closed : closed_classes label pairs (names_of K) ≡ length ls =
    ap (λ ns. count_by (λ end. not (is_member ◌==◌ ns end)) (unique_keys ◌==◌ (map label (ends_of pairs)))) same_labels ∙ counted p in
    let all_loops : loop_count (rest ++ map item.Loop ls) ≡ loop_count items + closed_classes label pairs (names_of K) =
    loop_count-append rest (map item.Loop ls)
    ∙ (let q = loop_count-removed a b gone label 1 items in let r = loop_count-loops ls in omega (arith, q, r, closed)) in
    arcs_close m delta (loop_count items) pairs label K (IsNode-kept a b gone 1 items sizes) (least_contraction pairs)
    ∙ ap (λ ns. value m delta record { nodes = ns; free_loops = loop_count items + closed_classes label pairs (names_of K) }) (sym (all_nodes ∙ append-nil (rename label K)))
    ∙ ap (λ n. value m delta record { nodes = nodes_of a b (rest ++ map item.Loop ls); free_loops = n }) (sym all_loops)
