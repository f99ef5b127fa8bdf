-- R2 keeps the value: the two crossings are taken to the front, undone by arcs, and the arcs close to the old labels.
use Rattle.std.proofs.Common.{◌≡◌, ◌≢◌, ℕ, ◌+◌, ◌*◌, ◌<◌, ◌≤◌, Bool, true, false, cond, not, ◌||◌, ◌==◌, List, [], ◌∷◌, ◌++◌, map, slice_index, refl, sym, ap, ◌∙◌, arith, ⊎_elim, All, subst, append-nil}
use Rattle.std.specs.List.{AllByRecursion, count_by}
use Rattle.std.specs.Set.{is_member, unique_keys}
use Rattle.std.proofs.lemmas.Bool.{eqb-true, cases_Bool, cases_eq}
use Rattle.std.proofs.lemmas.Bool.Decides.{nat_tests}
use Rattle.std.proofs.lemmas.List.{append_assoc}
use Rattle.std.proofs.lemmas.List.Elements.{All-cons, All-nil}
use Rattle.graph_parts.proofs.Ends.{is_member-get_or}
use Rattle.graph_parts.specs.Walks.{Joined, along, stay, back, on}
use Rattle.pd_reader.specs.declared.item.Item.{Item}
use Rattle.pd_reader.specs.declared.item.Item.TheVariants as item
use Rattle.pd_reader.specs.Items.{HasItsSlots, item_labels}
use Rattle.pd_reader.specs.Diagrams.{labels}
use Rattle.diagram_brackets.specs.Brackets.{loop_count}
use Rattle.state_sums.specs.LocalSums.{crossing, AreSkeinNumbers}
use Rattle.state_sums.specs.Networks.{Node, IsNode, names_of}
use Rattle.state_sums.specs.StateSums.{value}
use Rattle.state_sums.proofs.NodeNames.{names_of-rename}
use Rattle.state_sums.proofs.StateEdges.{HavePlaces-from_nodes}
use Rattle.state_sums.proofs.WrittenNodes.{IsNode-crossing}
use Rattle.diagram_moves.specs.Rewriting.{crossing_labels, at_places, fresh}
use Rattle.diagram_moves.specs.Moves.{second_place, cut_labels, pushed}
use Rattle.diagram_moves.specs.Laws.{IsPairedDiagram}
use Rattle.diagram_moves.proofs.Corners.{turned_numbers}
use Rattle.diagram_moves.proofs.Nodes.{node, nodes_of, names_of-nodes, nodes_of-append, IsNode-nodes, IsNode-node, V, corner_value}
use Rattle.diagram_moves.proofs.Paired.{paired, times_labels, sizes-append}
use Rattle.list_lemmas.proofs.Times.{member_of_times, times_none, times_in-append, times_of_member}
use Rattle.diagram_moves.proofs.PlaceLemmas.{second_place_of, crossing_labels-at_places, sizes-at_places, loop_count-at_places, EachFrom, each_from, mapped_back, times_two_places, fresh_above}
use Rattle.diagram_moves.proofs.Undone.{paired_by, contraction_from, loop_count-append}
use Rattle.list_lemmas.specs.Times.{times_in}
use Rattle.graph_parts.specs.Ends.{ends_of}
use Rattle.piece_laws.specs.Arcs.{AreClassLabels, closed_classes}
use Rattle.piece_laws.specs.Pieces.{ArePaired}
use Rattle.piece_laws.proofs.Closing.{arcs_close, none_counted}
use Rattle.piece_laws.proofs.MovedRuns.{value_moved}
use Rattle.piece_laws.proofs.PlainMoves.{bigon_anywhere}

pub crossing_labels-append : (xs ys : List Item) → crossing_labels (xs ++ ys) ≡ crossing_labels xs ++ crossing_labels ys
crossing_labels-append [] ys = refl
crossing_labels-append (item.X slots ∷ xs) ys = ap (λ ns. slots ++ ns) (crossing_labels-append xs ys) ∙ sym (append_assoc slots (crossing_labels xs) (crossing_labels ys))
crossing_labels-append (item.Loop l ∷ xs) ys = crossing_labels-append xs ys

-- a label of a crossing is one of the diagram
pub crossing_label : (items : List Item) (x : ℕ) → is_member ◌==◌ (crossing_labels items) x ≡ true → is_member ◌==◌ (labels item_labels items) x ≡ true
crossing_label items x m =
    let a = times_of_member x (crossing_labels items) m in let b = times_labels items x in member_of_times x (labels item_labels items) (omega (arith, a, b))

-- OLD LABELS STAND TWICE, AND SO DO NEW ONES
pub fresh_total : (items : List Item) → IsPairedDiagram items → (z more : ℕ) → (z < fresh items → more ≡ 0) → more ≤ 1 →
    1 ≤ times_in (crossing_labels items) z + 2 * more → times_in (crossing_labels items) z + 2 * more ≡ 2
fresh_total items pd z more old most h =
    ⊎_elim
    (λ m.
    let low = fresh_above items z (crossing_label items z m) in
    let one = times_of_member z (crossing_labels items) m in
    let two = paired items pd z one in
    let c = old low in
    omega (arith, two, c))
    (λ m. let none = times_none (crossing_labels items) z m in omega (arith, none, h, most))
    (cases_Bool (is_member ◌==◌ (crossing_labels items) z))

-- how often z is one of four new labels
abbrev pub new_four : ℕ → ℕ → ℕ
new_four n z = cond (z == n) 1 0 + cond (z == n + 1) 1 0 + cond (z == n + 2) 1 0 + cond (z == n + 3) 1 0

pub new_four_old : (n z : ℕ) → z < n → new_four n z ≡ 0
new_four_old n z l = grind (arith, nat_tests, l)

pub new_four_most : (n z : ℕ) → new_four n z ≤ 1
new_four_most n z = grind (arith, nat_tests)

module _ (items : List Item) (pd : IsPairedDiagram items) (e f : ℕ) (has_e : is_member ◌==◌ (crossing_labels items) e ≡ true) (has_f : is_member ◌==◌ (crossing_labels items) f ≡ true)
    (apart : e ≢ f) (first_of_e first_of_f : Bool) where
  abbrev pub n : ℕ
  n = fresh items

  abbrev pub e1 : ℕ
  e1 = cond first_of_e e (n + 1)

  abbrev pub e3 : ℕ
  e3 = cond first_of_e (n + 1) e

  abbrev pub f1 : ℕ
  f1 = cond first_of_f f (n + 3)

  abbrev pub f3 : ℕ
  f3 = cond first_of_f (n + 3) f

  abbrev pub cut : ℕ → ℕ → ℕ
  cut = cut_labels (second_place items e) (n + 1) (second_place items f) (n + 3)

  abbrev pub R : List Item
  R = at_places cut 0 items

  abbrev pub q1 : List ℕ
  q1 = (n + 2) ∷ e1 ∷ f3 ∷ n ∷ []

  abbrev pub q2 : List ℕ
  q2 = f1 ∷ e3 ∷ (n + 2) ∷ n ∷ []

  abbrev after : List Item
  after = pushed items e f first_of_e first_of_f

  pub low_e : e < n
  low_e = fresh_above items e (crossing_label items e has_e)

  pub low_f : f < n
  low_f = fresh_above items f (crossing_label items f has_f)

  pub sizes-pushed : AllByRecursion HasItsSlots after
  sizes-pushed = sizes-append R (item.X q1 ∷ item.X q2 ∷ []) (sizes-at_places cut 0 items pd.sizes) (refl, (refl, tt))

  pub loops-pushed : loop_count after ≡ loop_count items
  loops-pushed = loop_count-append R (item.X q1 ∷ item.X q2 ∷ []) ∙ (let k = loop_count-at_places cut 0 items in omega (arith, k))

  -- ---- how often labels stand
  split_e : (z : ℕ) → cond (z == e1) 1 0 + cond (z == e3) 1 0 ≡ cond (z == e) 1 0 + cond (z == n + 1) 1 0
  split_e z = elim first_of_e as (λ t. cond (z == cond t e (n + 1)) 1 0 + cond (z == cond t (n + 1) e) 1 0 ≡ cond (z == e) 1 0 + cond (z == n + 1) 1 0) [ true ↦ refl | false ↦ omega arith ]

  split_f : (z : ℕ) → cond (z == f1) 1 0 + cond (z == f3) 1 0 ≡ cond (z == f) 1 0 + cond (z == n + 3) 1 0
  split_f z = elim first_of_f as (λ t. cond (z == cond t f (n + 3)) 1 0 + cond (z == cond t (n + 3) f) 1 0 ≡ cond (z == f) 1 0 + cond (z == n + 3) 1 0) [ true ↦ refl | false ↦ omega arith ]

  pub cut_times : (z : ℕ) → times_in (crossing_labels R) z + cond (z == e) 1 0 + cond (z == f) 1 0 ≡ times_in (crossing_labels items) z + cond (z == n + 1) 1 0 + cond (z == n + 3) 1 0
  cut_times z =
      let se = second_place_of items e has_e in
      let sf = second_place_of items f has_f in
      let t = times_two_places (crossing_labels items) (second_place items e) (second_place items f) e f (n + 1) (n + 3) z se.0 sf.0 se.1 sf.1 apart in
      let same = ap (λ ns. times_in ns z) (crossing_labels-at_places cut 0 items) in
      omega (arith, t, same)

  abbrev olds : List ℕ
  olds = (n + 2) ∷ n ∷ f1 ∷ e3 ∷ n ∷ (n + 2) ∷ e1 ∷ f3 ∷ []

  olds_total : (z : ℕ) → times_in olds z + times_in (crossing_labels R) z ≡ times_in (crossing_labels items) z + 2 * new_four n z
  olds_total z =
      let a = cut_times z in let b = split_e z in let c = split_f z in
      let u : times_in olds z ≡ 2 * cond (z == n + 2) 1 0 + 2 * cond (z == n) 1 0 + (cond (z == e1) 1 0 + cond (z == e3) 1 0) + (cond (z == f1) 1 0 + cond (z == f3) 1 0) = omega arith in
      omega (arith, a, b, c, u)

  olds_twice : (z : ℕ) → 1 ≤ times_in olds z + times_in (crossing_labels R) z → times_in olds z + times_in (crossing_labels R) z ≡ 2
  olds_twice z h =
      let t = olds_total z in
      let two = fresh_total items pd z (new_four n z) (new_four_old n z) (new_four_most n z) (omega (arith, t, h)) in
      omega (arith, t, two)

  -- EACH LABEL STANDS TWICE AGAIN
  pub pushed_times : (z : ℕ) → times_in (crossing_labels after) z ≡ times_in (crossing_labels items) z + 2 * new_four n z
  pushed_times z =
      let a = ap (λ ns. times_in ns z) (crossing_labels-append R (item.X q1 ∷ item.X q2 ∷ [])) in
      let b = times_in-append (crossing_labels R) ((n + 2) ∷ e1 ∷ f3 ∷ n ∷ f1 ∷ e3 ∷ (n + 2) ∷ n ∷ []) z in
      let same : times_in ((n + 2) ∷ e1 ∷ f3 ∷ n ∷ f1 ∷ e3 ∷ (n + 2) ∷ n ∷ []) z ≡ times_in olds z = omega arith in
      let t = olds_total z in
      omega (arith, a, b, same, t)

  -- ---- the arcs close to the old labels
  abbrev pub pairs : List (ℕ × ℕ)
  pairs = (n + 2, f3) ∷ (n + 2, f1) ∷ (n, e1) ∷ (n, e3) ∷ []

  abbrev pub label : ℕ → ℕ
  label z = cond (z == n || z == n + 1) e (cond (z == n + 2 || z == n + 3) f z)

  pub label_old : (z : ℕ) → z < n → label z ≡ z
  label_old z l = grind (arith, nat_tests, l)

  pub label_n : label n ≡ e
  label_n = grind (arith, nat_tests)

  pub label_n1 : label (n + 1) ≡ e
  label_n1 = grind (arith, nat_tests)

  pub label_n2 : label (n + 2) ≡ f
  label_n2 = grind (arith, nat_tests)

  pub label_n3 : label (n + 3) ≡ f
  label_n3 = grind (arith, nat_tests)

  pub label_e1 : label e1 ≡ e
  label_e1 = elim first_of_e as (λ t. label (cond t e (n + 1)) ≡ e) [ true ↦ label_old e low_e | false ↦ label_n1 ]

  pub label_e3 : label e3 ≡ e
  label_e3 = elim first_of_e as (λ t. label (cond t (n + 1) e) ≡ e) [ true ↦ label_n1 | false ↦ label_old e low_e ]

  pub label_f1 : label f1 ≡ f
  label_f1 = elim first_of_f as (λ t. label (cond t f (n + 3)) ≡ f) [ true ↦ label_old f low_f | false ↦ label_n3 ]

  pub label_f3 : label f3 ≡ f
  label_f3 = elim first_of_f as (λ t. label (cond t (n + 3) f) ≡ f) [ true ↦ label_n3 | false ↦ label_old f low_f ]

  walks_e : (t : Bool) → Joined pairs n (cond t e (n + 1)) → Joined pairs n (cond t (n + 1) e) → Joined pairs n e × Joined pairs (n + 1) e
  walks_e true i j = (i, on (back j) i)
  walks_e false i j = (j, on (back i) j)

  walks_f : (t : Bool) → Joined pairs (n + 2) (cond t f (n + 3)) → Joined pairs (n + 2) (cond t (n + 3) f) → Joined pairs (n + 2) f × Joined pairs (n + 3) f
  walks_f true i j = (i, on (back j) i)
  walks_f false i j = (j, on (back i) j)

  pub joined_label : (z : ℕ) → Joined pairs z (label z)
  joined_label z =
      let we = walks_e first_of_e (along (2, omega arith, refl)) (along (3, omega arith, refl)) in
      let wf = walks_f first_of_f (along (1, omega arith, refl)) (along (0, omega arith, refl)) in
      let P : ℕ → Type 0 = λ y. Joined pairs y (label y) in
      let Q : ℕ → ℕ → Type 0 = λ y x. Joined pairs y x in
      ⊎_elim (λ s. subst P (sym s) (subst (Q n) (sym label_n) we.0))
      (λ s0. ⊎_elim (λ s. subst P (sym s) (subst (Q (n + 1)) (sym label_n1) we.1))
      (λ s1. ⊎_elim (λ s. subst P (sym s) (subst (Q (n + 2)) (sym label_n2) wf.0))
      (λ s2. ⊎_elim (λ s. subst P (sym s) (subst (Q (n + 3)) (sym label_n3) wf.1))
      (λ s3. let own : label z ≡ z = grind (arith, nat_tests, s0, s1, s2, s3) in subst (Q z) (sym own) stay)
      (cases_eq z (n + 3))) (cases_eq z (n + 2))) (cases_eq z (n + 1))) (cases_eq z n)

  contraction : AreClassLabels pairs label
  contraction = contraction_from pairs label joined_label (label_n2 ∙ sym label_f3, (label_n2 ∙ sym label_f1, (label_n ∙ sym label_e1, (label_n ∙ sym label_e3, tt))))

  pub each_back : EachFrom (λ q l. label (cut q l) ≡ l) 0 (crossing_labels items)
  each_back =
      each_from (λ q l. label (cut q l) ≡ l) 0 (crossing_labels items)
      (λ q low.
      let ls = crossing_labels items in
      let se = second_place_of items e has_e in
      let sf = second_place_of items f has_f in
      let there = is_member-get_or ls q low in
      let small = fresh_above items (slice_index ls q) (crossing_label items (slice_index ls q) there) in
      let own = label_old (slice_index ls q) small in
      let zero_more : 0 + q ≡ q = omega arith in
      let back_e = λ (s : q ≡ second_place items e). label_n1 ∙ sym se.1 ∙ ap (slice_index ls) (sym s) in
      let back_f = λ (s : q ≡ second_place items f). label_n3 ∙ sym sf.1 ∙ ap (slice_index ls) (sym s) in
      let goal : label (cut q (slice_index ls q)) ≡ slice_index ls q =
      ⊎_elim
      (λ t. ap label (ap (λ c. cond c (n + 1) (cond (q == second_place items f) (n + 3) (slice_index ls q))) t) ∙ back_e (eqb-true q (second_place items e) t))
      (λ t. ap label (ap (λ c. cond c (n + 1) (cond (q == second_place items f) (n + 3) (slice_index ls q))) t)
      ∙ ⊎_elim
      (λ u. ap label (ap (λ c. cond c (n + 3) (slice_index ls q)) u) ∙ back_f (eqb-true q (second_place items f) u))
      (λ u. ap label (ap (λ c. cond c (n + 3) (slice_index ls q)) u) ∙ own)
      (cases_Bool (q == second_place items f)))
      (cases_Bool (q == second_place items e)) in
      ap (λ i. label (cut i (slice_index ls q))) zero_more ∙ goal)

  module _ (m delta a b : ℕ) (numbers : AreSkeinNumbers m a b delta) where
    abbrev rest : List Node
    rest = nodes_of a b R

    rest_nodes : All IsNode rest
    rest_nodes = IsNode-nodes a b R (sizes-at_places cut 0 items pd.sizes)

    none_closed : closed_classes label pairs (names_of rest) ≡ 0
    none_closed =
        let labels_back : map label (names_of rest) ≡ crossing_labels items =
        sym (names_of-rename label rest) ∙ ap names_of (mapped_back a b label cut 0 items each_back) ∙ names_of-nodes a b items in
        let ends : map label (ends_of pairs) ≡ f ∷ f ∷ f ∷ f ∷ e ∷ e ∷ e ∷ e ∷ [] =
        (let p1 = label_n2 in let p2 = label_f3 in let p3 = label_f1 in let p4 = label_n in let p5 = label_e1 in let p6 = label_e3 in cc) in
        ap (λ ns. count_by (λ end. not (is_member ◌==◌ ns end)) (unique_keys ◌==◌ (map label (ends_of pairs)))) labels_back
        ∙ ap (λ ns. count_by (λ end. not (is_member ◌==◌ (crossing_labels items) end)) (unique_keys ◌==◌ ns)) ends
        ∙ none_counted (λ end. not (is_member ◌==◌ (crossing_labels items) end)) (f ∷ f ∷ f ∷ f ∷ e ∷ e ∷ e ∷ e ∷ [])
        (λ z h.
        let at_e = λ (s : z ≡ e). ap (is_member ◌==◌ (crossing_labels items)) s ∙ has_e in
        let at_f = λ (s : z ≡ f). ap (is_member ◌==◌ (crossing_labels items)) s ∙ has_f in
        grind (arith, nat_tests, h, at_e, at_f))

    old_pairs : ArePaired olds (olds ++ names_of rest)
    old_pairs =
        let P : List ℕ → Type 0 = λ ns. ArePaired olds (olds ++ ns) in
        subst P (sym (names_of-nodes a b R)) (paired_by olds (crossing_labels R) olds_twice)

    -- R2 KEEPS THE VALUE
    pub pushed_value : value m delta record { nodes = nodes_of a b after; free_loops = loop_count after } ≡ value m delta record { nodes = nodes_of a b items; free_loops = loop_count items }
    pushed_value =
        let free = loop_count items in
        let one = IsNode-node a b q1 refl in
        let two = IsNode-node a b q2 refl in
        let single : (x : Node) → IsNode x → All IsNode (x ∷ []) = λ x h. All-cons IsNode x [] h (All-nil IsNode) in
        let turned = IsNode-crossing b a n (n + 2) e1 f3 in
        ap (λ k. V a b m delta k (nodes_of a b after)) loops-pushed
        ∙ ap (V a b m delta free) (nodes_of-append a b R (item.X q1 ∷ item.X q2 ∷ []))
        ∙ value_moved m delta free rest (node a b q1 ∷ node a b q2 ∷ []) [] (HavePlaces-from_nodes rest rest_nodes)
        (HavePlaces-from_nodes (node a b q1 ∷ node a b q2 ∷ []) (All-cons IsNode (node a b q1) (node a b q2 ∷ []) one (single (node a b q2) two))) (HavePlaces-from_nodes [] (All-nil IsNode))
        ∙ ap (λ ns. V a b m delta free (node a b q1 ∷ node a b q2 ∷ ns)) (append-nil rest)
        ∙ corner_value a b m delta free (node a b q2 ∷ rest) (All-cons IsNode (node a b q2) rest two rest_nodes) 3 (omega arith) q1 refl
        ∙ value_moved m delta free (crossing b a n (n + 2) e1 f3 ∷ []) (node a b q2 ∷ []) rest
        (HavePlaces-from_nodes (crossing b a n (n + 2) e1 f3 ∷ []) (single (crossing b a n (n + 2) e1 f3) turned)) (HavePlaces-from_nodes (node a b q2 ∷ []) (single (node a b q2) two)) (HavePlaces-from_nodes rest rest_nodes)
        ∙ corner_value a b m delta free (crossing b a n (n + 2) e1 f3 ∷ rest) (All-cons IsNode (crossing b a n (n + 2) e1 f3) rest turned rest_nodes) 2 (omega arith) q2 refl
        ∙ bigon_anywhere m b a delta (turned_numbers m a b delta numbers false) free rest rest_nodes (n + 2) n e1 f3 f1 e3 old_pairs
        ∙ arcs_close m delta free pairs label rest rest_nodes contraction
        ∙ ap (λ ns. value m delta record { nodes = ns; free_loops = free + closed_classes label pairs (names_of rest) }) (mapped_back a b label cut 0 items each_back)
        ∙ ap (λ k. V a b m delta k (nodes_of a b items)) (let z = none_closed in let s : free + closed_classes label pairs (names_of rest) ≡ free = omega (arith, z) in s)
