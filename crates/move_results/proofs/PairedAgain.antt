-- Each label of a move's result stands twice again.
use Rattle.std.proofs.Common.{◌≡◌, ◌≢◌, ℕ, ◌+◌, ◌*◌, ◌<◌, ◌≤◌, Bool, true, false, cond, not, ◌||◌, ◌==◌, min, max, List, [], ◌∷◌, ◌++◌, map, refl, sym, ap, ◌∙◌, arith, ◌⊎◌, inl, inr, ⊎_elim, subst, fold, append-nil}
use Rattle.std.specs.List.{AllByRecursion, filter}
use Rattle.std.specs.Set.{is_member}
use Rattle.std.proofs.lemmas.Bool.{or_left, or_right, eq-eqb, cases_Bool, cases_eq, cases_order}
use Rattle.std.proofs.lemmas.Bool.Decides.{nat_tests}
use Rattle.std.proofs.lemmas.List.Sums.{sum_by-cons}
use Rattle.graph_parts.specs.Ends.{EndsAre, ends_of}
use Rattle.graph_parts.specs.LeastNames.{least_label, join_least}
use Rattle.graph_parts.proofs.Ends.{EndsAre-weaker}
use Rattle.graph_parts.proofs.LeastLabels.{AreLeast-labels, least_label-Joined}
use Rattle.graph_parts.proofs.Through.{inside-from_Joined}
use Rattle.pd_reader.specs.declared.item.Item.{Item}
use Rattle.pd_reader.specs.declared.item.Item.TheVariants as item
use Rattle.pd_reader.specs.Items.{item_labels, HasItsSlots}
use Rattle.pd_reader.specs.Diagrams.{labels}
use Rattle.state_sums.specs.Networks.{names_of}
use Rattle.state_sums.proofs.NodeNames.{names_of-rename}
use Rattle.diagram_moves.specs.Laws.{IsPairedDiagram}
use Rattle.diagram_moves.specs.Rewriting.{crossing_labels, rewritten, fresh}
use Rattle.diagram_moves.specs.Moves.{two_labels, closing, removed}
use Rattle.diagram_moves.proofs.Nodes.{kept, names_of-nodes}
use Rattle.diagram_moves.proofs.Pushing.{crossing_labels-append}
use Rattle.diagram_moves.proofs.Undone.{nodes_of-removed, sizes-closing}
use Rattle.diagram_moves.proofs.Paired.{paired, times_labels, twice_in_all, loop_labels}
use Rattle.list_lemmas.proofs.Times.{member_of_times, times_none, times_in-append, times_of_member}
use Rattle.diagram_moves.proofs.PlaceLemmas.{fresh_above}
use Rattle.list_lemmas.specs.Times.{times_in}
use Rattle.piece_laws.proofs.NameCounts.{member_mapped}

-- ---- a fact of each element
by_recursion : (P : ℕ → Type 0) (xs : List ℕ) → ((x : ℕ) → is_member ◌==◌ xs x ≡ true → P x) → AllByRecursion P xs
by_recursion P [] h = tt
by_recursion P (y ∷ xs) h = (h y (or_left (y == y) (is_member ◌==◌ xs y) (eq-eqb y y refl)), by_recursion P xs (λ x m. h x (or_right (x == y) (is_member ◌==◌ xs x) m)))

-- items whose labels stand twice or not at all
pub paired_diagram : (items : List Item) → AllByRecursion HasItsSlots items →
    ((z : ℕ) → 1 ≤ times_in (labels item_labels items) z → times_in (labels item_labels items) z ≡ 2) → IsPairedDiagram items
paired_diagram items sizes h = record {
  sizes = sizes;
  twice = by_recursion (λ label. times_in (labels item_labels items) label ≡ 2) (labels item_labels items)
      (λ x m. h x (times_of_member x (labels item_labels items) m));
}

-- as many standings as before, and two more of new labels
pub fresh_all : (items : List Item) → IsPairedDiagram items → (z more : ℕ) → (z < fresh items → more ≡ 0) → more ≤ 1 →
    1 ≤ times_in (labels item_labels items) z + 2 * more → times_in (labels item_labels items) z + 2 * more ≡ 2
fresh_all items pd z more old most h =
    ⊎_elim
    (λ m.
    let low = fresh_above items z m in
    let two = twice_in_all items pd z (times_of_member z (labels item_labels items) m) in
    let c = old low in
    omega (arith, two, c))
    (λ m. let none = times_none (labels item_labels items) z m in omega (arith, none, h, most))
    (cases_Bool (is_member ◌==◌ (labels item_labels items) z))

-- ---- names that pairs make one
abbrev Twice : List ℕ → Type 0
Twice xs = (z : ℕ) → 1 ≤ times_in xs z → times_in xs z ≡ 2

abbrev joint : ℕ → ℕ → ℕ → ℕ
joint a b v = cond (v == a || v == b) (min a b) v

either : (a b : ℕ) → (min a b ≡ a) ⊎ (min a b ≡ b)
either a b = ⊎_elim (λ e. inl (omega (arith, e))) (λ o. ⊎_elim (λ l. inl (omega (arith, l))) (λ g. inr (omega (arith, g))) o) (cases_order a b)

map_joint : (l : ℕ → ℕ) (x y : ℕ) (xs : List ℕ) → map (join_least l (x, y)) xs ≡ map (joint (l x) (l y)) (map l xs)
map_joint l x y [] = refl
map_joint l x y (u ∷ xs) = ap (λ ns. joint (l x) (l y) (l u) ∷ ns) (map_joint l x y xs)

times_joint : (a b : ℕ) (ws : List ℕ) (z : ℕ) →
    times_in (map (joint a b) ws) z ≡ cond (z == min a b) (times_in ws a + cond (a == b) 0 (times_in ws b)) (cond (z == a || z == b) 0 (times_in ws z))
times_joint a b [] z = elim (z == min a b) as (λ c. 0 ≡ cond c (0 + cond (a == b) 0 0) (cond (z == a || z == b) 0 0)) [ true ↦ grind arith | false ↦ grind arith ]
times_joint a b (v ∷ ws) z =
    let ih = times_joint a b ws z in
    let e = sum_by-cons (λ y. cond (z == y) 1 0) (joint a b v) (map (joint a b) ws) in
    let f = sum_by-cons (λ y. cond (a == y) 1 0) v ws in
    let g = sum_by-cons (λ y. cond (b == y) 1 0) v ws in
    let h = sum_by-cons (λ y. cond (z == y) 1 0) v ws in
    ⊎_elim (λ i. grind (arith, nat_tests, ih, e, f, g, h, i)) (λ i. grind (arith, nat_tests, ih, e, f, g, h, i)) (either a b)

joint_twice : (a b : ℕ) (ws : List ℕ) → Twice (a ∷ b ∷ ws) → Twice (map (joint a b) ws)
joint_twice a b ws h z one =
    let t = times_joint a b ws z in
    let standing : (y : ℕ) → times_in (a ∷ b ∷ ws) y ≡ cond (y == a) 1 0 + (cond (y == b) 1 0 + times_in ws y) =
    λ y. sum_by-cons (λ x. cond (y == x) 1 0) a (b ∷ ws) ∙ ap (λ n. cond (y == a) 1 0 + n) (sum_by-cons (λ x. cond (y == x) 1 0) b ws) in
    let at_z = standing z in let at_a = standing a in let at_b = standing b in
    let hz = h z in let ha = h a in let hb = h b in
    ⊎_elim
    (λ same.
    let ra : (a == a) ≡ true = eq-eqb a a refl in
    ⊎_elim (λ i. grind (arith, nat_tests, t, at_z, at_a, hz, ha, one, i, same)) (λ i. grind (arith, nat_tests, t, at_z, at_a, hz, ha, one, i, same)) (either a b))
    (λ differ. ⊎_elim (λ i. grind (arith, nat_tests, t, at_z, at_a, at_b, hz, ha, hb, one, i, differ)) (λ i. grind (arith, nat_tests, t, at_z, at_a, at_b, hz, ha, hb, one, i, differ)) (either a b))
    (cases_eq a b)

closed_twice : (pairs : List (ℕ × ℕ)) (l : ℕ → ℕ) (names : List ℕ) → Twice (map l (ends_of pairs ++ names)) → Twice (map (fold join_least l pairs) names)
closed_twice [] l names h = h
closed_twice (pair ∷ pairs) l names h =
    closed_twice pairs (join_least l pair) names
    (subst Twice (sym (map_joint l pair.0 pair.1 (ends_of pairs ++ names))) (joint_twice (l pair.0) (l pair.1) (map l (ends_of pairs ++ names)) h))

map_same : (xs : List ℕ) → map (λ x. x) xs ≡ xs
map_same [] = refl
map_same (x ∷ xs) = ap (λ ns. x ∷ ns) (map_same xs)

-- THE REST'S NAMES STAND TWICE, AS CLASSES
pub classes_twice : (pairs : List (ℕ × ℕ)) (names : List ℕ) → Twice (ends_of pairs ++ names) → Twice (map (least_label pairs) names)
classes_twice pairs names h = closed_twice pairs (λ x. x) names (subst Twice (sym (map_same (ends_of pairs ++ names))) h)

-- a class is named by one of its own
pub ends_are : (pairs : List (ℕ × ℕ)) → EndsAre (is_member ◌==◌ (ends_of pairs)) pairs
ends_are [] = tt
ends_are (pair ∷ pairs) = (
  or_left (pair.0 == pair.0) (is_member ◌==◌ (pair.1 ∷ ends_of pairs) pair.0) (eq-eqb pair.0 pair.0 refl),
  or_right (pair.1 == pair.0) (is_member ◌==◌ (pair.1 ∷ ends_of pairs) pair.1) (or_left (pair.1 == pair.1) (is_member ◌==◌ (ends_of pairs) pair.1) (eq-eqb pair.1 pair.1 refl)),
  EndsAre-weaker (is_member ◌==◌ (ends_of pairs)) (is_member ◌==◌ (pair.0 ∷ pair.1 ∷ ends_of pairs))
      (λ x m. or_right (x == pair.0) (is_member ◌==◌ (pair.1 ∷ ends_of pairs) x) (or_right (x == pair.1) (is_member ◌==◌ (ends_of pairs) x) m)) pairs (ends_are pairs),
)

pub class_name : (pairs : List (ℕ × ℕ)) (x : ℕ) → (least_label pairs x ≡ x) ⊎ (is_member ◌==◌ (ends_of pairs) (least_label pairs x) ≡ true)
class_name pairs x =
    let rules = AreLeast-labels pairs in
    let walk = (least_label-Joined pairs x (least_label pairs x)).0 (sym (rules.itself x)) in
    ⊎_elim (λ e. inl (sym e)) (λ q. inr q.1) (inside-from_Joined (is_member ◌==◌ (ends_of pairs)) pairs (ends_are pairs) walk)

-- ---- labels that close
times_filter : (p : ℕ → Bool) (xs : List ℕ) (z : ℕ) → times_in (filter p xs) z ≡ cond (p z) (times_in xs z) 0
times_filter p [] z = grind arith
times_filter p (x ∷ xs) z =
    let ih = times_filter p xs z in
    let f = sum_by-cons (λ y. cond (z == y) 1 0) x xs in
    let g = sum_by-cons (λ y. cond (z == y) 1 0) x (filter p xs) in
    ⊎_elim
    (λ s. let same = ap p s in grind (arith, nat_tests, ih, f, g, same, s))
    (λ s. grind (arith, nat_tests, ih, f, g, s))
    (cases_eq z x)

two_times_one : (a b z : ℕ) → times_in (two_labels a b) z ≡ cond (z == a || z == b) 1 0
two_times_one a b z =
    ⊎_elim
    (λ e. let t = eq-eqb a b e in ap (λ c. times_in (cond c (a ∷ []) (min a b ∷ max a b ∷ [])) z) t ∙ (let u : cond (z == a) 1 0 ≡ cond (z == a || z == b) 1 0 = grind (arith, nat_tests, e) in let v : times_in (a ∷ []) z ≡ cond (z == a) 1 0 = omega arith in v ∙ u))
    (λ o.
    let differ : a ≢ b = λ e. ⊎_elim (λ l. omega (arith, l, e)) (λ l. omega (arith, l, e)) o in
    let t : (a == b) ≡ false = grind (arith, nat_tests, differ) in
    let v : times_in (min a b ∷ max a b ∷ []) z ≡ cond (z == a) 1 0 + cond (z == b) 1 0 =
    ⊎_elim
    (λ l. let i : min a b ≡ a = omega (arith, l) in let j : max a b ≡ b = omega (arith, l) in ap (λ n. times_in (n ∷ max a b ∷ []) z) i ∙ ap (λ n. times_in (a ∷ n ∷ []) z) j ∙ omega arith)
    (λ l. let i : min a b ≡ b = omega (arith, l) in let j : max a b ≡ a = omega (arith, l) in ap (λ n. times_in (n ∷ max a b ∷ []) z) i ∙ ap (λ n. times_in (b ∷ n ∷ []) z) j ∙ omega arith)
    o in
    ap (λ c. times_in (cond c (a ∷ []) (min a b ∷ max a b ∷ [])) z) t ∙ v ∙ (let u : cond (z == a) 1 0 + cond (z == b) 1 0 ≡ cond (z == a || z == b) 1 0 = grind (arith, nat_tests, differ) in u))
    (cases_order a b)

pub loop_labels-append : (xs ys : List Item) → loop_labels (xs ++ ys) ≡ loop_labels xs ++ loop_labels ys
loop_labels-append [] ys = refl
loop_labels-append (item.X slots ∷ xs) ys = loop_labels-append xs ys
loop_labels-append (item.Loop l ∷ xs) ys = ap (λ ns. l ∷ ns) (loop_labels-append xs ys)

pub loop_labels-loops : (ls : List ℕ) → loop_labels (map item.Loop ls) ≡ ls
loop_labels-loops [] = refl
loop_labels-loops (l ∷ ls) = ap (λ ns. l ∷ ns) (loop_labels-loops ls)

pub crossing_labels-loops : (ls : List ℕ) → crossing_labels (map item.Loop ls) ≡ []
crossing_labels-loops [] = refl
crossing_labels-loops (l ∷ ls) = crossing_labels-loops ls

pub loop_labels-removed : (gone : List ℕ) (label : ℕ → ℕ) (k : ℕ) (items : List Item) →
    loop_labels (rewritten (λ k slots. cond (is_member ◌==◌ gone k) [] (item.X (map label slots) ∷ [])) k items) ≡ loop_labels items
loop_labels-removed gone label k [] = refl
loop_labels-removed gone label k (item.X slots ∷ rest) =
    let ih = loop_labels-removed gone label (k + 1) rest in
    let R = rewritten (λ k slots. cond (is_member ◌==◌ gone k) [] (item.X (map label slots) ∷ [])) (k + 1) rest in
    ⊎_elim
    (λ t. ap (λ c. loop_labels (cond c [] (item.X (map label slots) ∷ []) ++ R)) t ∙ ih)
    (λ t. ap (λ c. loop_labels (cond c [] (item.X (map label slots) ∷ []) ++ R)) t ∙ ih)
    (cases_Bool (is_member ◌==◌ gone k))
loop_labels-removed gone label k (item.Loop l ∷ rest) = ap (λ ns. l ∷ ns) (loop_labels-removed gone label k rest)

pub crossing_labels-removed : (gone : List ℕ) (label : ℕ → ℕ) (items : List Item) → crossing_labels (removed gone label items) ≡ map label (names_of (kept 0 0 gone 1 items))
crossing_labels-removed gone label items =
    sym (names_of-nodes 0 0 (removed gone label items)) ∙ ap names_of (nodes_of-removed 0 0 gone label 1 items) ∙ names_of-rename label (kept 0 0 gone 1 items)

module _ (items : List Item) (pd : IsPairedDiagram items) (gone : List ℕ) (pairs : List (ℕ × ℕ)) (x y : ℕ)
    (counted : (z : ℕ) → times_in (crossing_labels items) z ≡ times_in (ends_of pairs) z + times_in (names_of (kept 0 0 gone 1 items)) z)
    (has_x : is_member ◌==◌ (ends_of pairs) x ≡ true) (has_y : is_member ◌==◌ (ends_of pairs) y ≡ true) where
  abbrev pub label : ℕ → ℕ
  label = least_label pairs

  abbrev pub names : List ℕ
  names = names_of (kept 0 0 gone 1 items)

  abbrev pub rest : List Item
  rest = removed gone label items

  abbrev pub closed : List ℕ
  closed = filter (λ least. not (is_member ◌==◌ (crossing_labels rest) least)) (two_labels (label x) (label y))

  abbrev pub after : List Item
  after = closing label x y rest

  pub after_labels : (z : ℕ) → times_in (labels item_labels after) z ≡ times_in (map label names) z + 2 * (times_in (loop_labels items) z + times_in closed z)
  after_labels z =
      let a = times_labels after z in
      let b = ap (λ ns. times_in ns z) (crossing_labels-append rest (map item.Loop closed) ∙ ap (λ ns. crossing_labels rest ++ ns) (crossing_labels-loops closed) ∙ append-nil (crossing_labels rest) ∙ crossing_labels-removed gone label items) in
      let c = ap (λ ns. times_in ns z) (loop_labels-append rest (map item.Loop closed) ∙ ap (λ ns. ns ++ loop_labels (map item.Loop closed)) (loop_labels-removed gone label 1 items) ∙ ap (λ ns. loop_labels items ++ ns) (loop_labels-loops closed)) in
      let d = times_in-append (loop_labels items) closed z in
      omega (arith, a, b, c, d)

  pub names_twice : Twice (ends_of pairs ++ names)
  names_twice z h =
      let e = counted z in
      let s = times_in-append (ends_of pairs) names z in
      let two = paired items pd z (omega (arith, e, s, h)) in omega (arith, e, s, two)

  pub in_ends : (z : ℕ) → is_member ◌==◌ (ends_of pairs) z ≡ true → is_member ◌==◌ (crossing_labels items) z ≡ true
  in_ends z m = let one = times_of_member z (ends_of pairs) m in let e = counted z in member_of_times z (crossing_labels items) (omega (arith, one, e))

  pub in_names : (z : ℕ) → is_member ◌==◌ names z ≡ true → is_member ◌==◌ (crossing_labels items) z ≡ true
  in_names z m = let one = times_of_member z names m in let e = counted z in member_of_times z (crossing_labels items) (omega (arith, one, e))

  -- the name of a class of crossings' labels is one of these
  pub label_inside : (z : ℕ) → is_member ◌==◌ (crossing_labels items) z ≡ true → is_member ◌==◌ (crossing_labels items) (label z) ≡ true
  label_inside z m = ⊎_elim (λ e. ap (is_member ◌==◌ (crossing_labels items)) e ∙ m) (λ q. in_ends (label z) q) (class_name pairs z)

  pub closed_times : (z : ℕ) → times_in closed z ≡ cond (not (is_member ◌==◌ (map label names) z)) (cond (z == label x || z == label y) 1 0) 0
  closed_times z =
      times_filter (λ least. not (is_member ◌==◌ (crossing_labels rest) least)) (two_labels (label x) (label y)) z
      ∙ ap (λ ns. cond (not (is_member ◌==◌ ns z)) (times_in (two_labels (label x) (label y)) z) 0) (crossing_labels-removed gone label items)
      ∙ ap (λ n. cond (not (is_member ◌==◌ (map label names) z)) n 0) (two_times_one (label x) (label y) z)

  pub closing_paired : IsPairedDiagram after
  closing_paired =
      paired_diagram after (sizes-closing gone label x y items pd.sizes)
      (λ z h.
      let total = after_labels z in
      let ct = closed_times z in
      let old = times_labels items z in
      ⊎_elim
      (λ m.
      let one = times_of_member z (crossing_labels items) m in
      let two = paired items pd z one in
      let all = twice_in_all items pd z (omega (arith, old, one)) in
      let no_loop : times_in (loop_labels items) z ≡ 0 = omega (arith, old, two, all) in
      ⊎_elim
      (λ t.
      let once = times_of_member z (map label names) t in
      let twice = classes_twice pairs names names_twice z once in
      let none : times_in closed z ≡ 0 = grind (arith, ct, t) in
      omega (arith, total, twice, none, no_loop))
      (λ t.
      let gone_now = times_none (map label names) z t in
      let most : times_in closed z ≤ 1 = grind (arith, ct) in
      omega (arith, total, gone_now, most, no_loop, h))
      (cases_Bool (is_member ◌==◌ (map label names) z)))
      (λ out.
      let no_name : is_member ◌==◌ (map label names) z ≡ false =
      ⊎_elim
      (λ t. absurd (let q = member_mapped label names z t in let i = label_inside q.0 (in_names q.0 q.1) in let j = ap (is_member ◌==◌ (crossing_labels items)) q.2 in grind (arith, i, j, out)))
      (λ t. t)
      (cases_Bool (is_member ◌==◌ (map label names) z)) in
      let at_x = label_inside x (in_ends x has_x) in
      let at_y = label_inside y (in_ends y has_y) in
      let not_x = λ (s : z ≡ label x). ap (is_member ◌==◌ (crossing_labels items)) s ∙ at_x in
      let not_y = λ (s : z ≡ label y). ap (is_member ◌==◌ (crossing_labels items)) s ∙ at_y in
      let none : times_in closed z ≡ 0 = grind (arith, nat_tests, ct, not_x, not_y, out) in
      let gone_now = times_none (map label names) z no_name in
      let no_cross = times_none (crossing_labels items) z out in
      let all = twice_in_all items pd z (omega (arith, old, total, h, none, gone_now)) in
      omega (arith, total, none, gone_now, no_cross, old, all))
      (cases_Bool (is_member ◌==◌ (crossing_labels items) z)))
