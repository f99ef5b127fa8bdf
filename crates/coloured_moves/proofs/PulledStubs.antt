-- The stubs of a diagram without some crossings and with loops behind: what becomes of lists of stubs, of labels and of loops.
use Rattle.std.proofs.Common.{◌≡◌, ◌≢◌, ℕ, ◌+◌, ◌<◌, ◌≤◌, ◌==◌, nat_le, Bool, true, false, cond, List, [], ◌∷◌, ◌++◌, map, length, reverse, slice_index, refl, sym, ap, ap₂, ◌∙◌, arith, ⊎_elim, ◌⊎◌, inl, inr, sum_by, append_assoc}
use Rattle.std.specs.List.{AllByRecursion, filter}
use Rattle.std.specs.List.Sorted.{IsPermutation}
use Rattle.std.specs.Set.{is_member}
use Rattle.std.proofs.lemmas.Bool.{cases_eq, or_left, or_right}
use Rattle.std.proofs.lemmas.Bool.Decides.{nat_tests}
use Rattle.std.proofs.lemmas.List.{length-map, map-append}
use Rattle.std.proofs.lemmas.List.Sorted.{sum_by-IsPermutation}
use Rattle.std.proofs.lemmas.List.Sums.{sum_by-cons}
use Rattle.graph_parts.proofs.Distinct.{is_member-append}
use Rattle.graph_parts.proofs.Ends.{EndsAre-weaker, is_member-get_or}
use Rattle.graph_parts.proofs.LeastLabels.{AreLeast-labels, least_label-Joined}
use Rattle.graph_parts.proofs.Through.{inside-from_Joined}
use Rattle.graph_parts.specs.Ends.{EndsAre, ends_of}
use Rattle.graph_parts.specs.LeastNames.{least_label}
use Rattle.graph_parts.specs.Walks.{Joined}
use Rattle.list_lemmas.specs.Times.{times_in}
use Rattle.list_lemmas.proofs.Times.{times_in-cons}
use Rattle.state_sums.specs.Networks.{Node}
use Rattle.root_quantum.specs.Parameters.{Parameters}
use Rattle.piece_laws.specs.TurnedNodes.{without_group}
use Rattle.pd_reader.specs.declared.item.Item.{Item}
use Rattle.pd_reader.specs.declared.item.Item.TheVariants as item
use Rattle.pd_reader.specs.Items.{item_labels, HasItsSlots}
use Rattle.pd_reader.specs.Diagrams.{labels}
use Rattle.planar_check.specs.Components.{strand_edges, component_least}
use Rattle.cables.specs.CableNodes.{box_node}
use Rattle.cables.specs.Cables.{loop_nodes, loops_at}
use Rattle.cables.specs.Strands.{Strands}
use Rattle.diagram_moves.specs.Moves.{removed}
use Rattle.diagram_moves.specs.Rewriting.{crossing_labels, rewritten}
use Rattle.diagram_moves.proofs.Paired.{loop_labels}
use Rattle.move_results.proofs.LeastLabelLists.{least_is}
use Rattle.coloured_moves.proofs.BundleRuns.{Matches}
use Rattle.coloured_moves.proofs.ClosedBundles.{shut_labels}
use Rattle.coloured_moves.proofs.DroppedCrossings.{dropped}
use Rattle.coloured_moves.proofs.LabelColours.{counts}
use Rattle.coloured_moves.proofs.StubItems.{half, halved, stub_crossing, stub_nodes}
use Rattle.coloured_moves.proofs.StubNames.{kept_stubs, relabelled, Straight, kept_stubs-relabelled}
use Rattle.coloured_moves.proofs.Tests.{clash, one_apart, one_if, one_same}

-- ---- labels of stubs
pub relabelled_same : (items : List Item) → relabelled (λ l. l) items ≡ items
relabelled_same [] = refl
relabelled_same (item.X ws ∷ rest) = ap₂ (λ s is. item.X s ∷ is) (same ws) (relabelled_same rest)
  where
    same : (ws : List ℕ) → map (λ l. l) ws ≡ ws
    same [] = refl
    same (w ∷ ws) = ap (λ vs. w ∷ vs) (same ws)
relabelled_same (item.Loop l ∷ rest) = ap (λ is. item.Loop l ∷ is) (relabelled_same rest)

halved_relabelled : (items : List Item) → halved items ≡ relabelled half items
halved_relabelled [] = refl
halved_relabelled (item.X ws ∷ rest) = ap (λ is. item.X (map half ws) ∷ is) (halved_relabelled rest)
halved_relabelled (item.Loop l ∷ rest) = ap (λ is. item.Loop l ∷ is) (halved_relabelled rest)

pub kept_stubs-halved : (gone : List ℕ) (n : ℕ) (items : List Item) → kept_stubs gone n (halved items) ≡ map half (kept_stubs gone n items)
kept_stubs-halved gone n items = ap (kept_stubs gone n) (halved_relabelled items) ∙ kept_stubs-relabelled half gone n items

-- ---- crossings left out
halved-one : (b : Bool) (ws : List ℕ) (rest : List Item) → halved (cond b [] (item.X ws ∷ []) ++ rest) ≡ cond b [] (item.X (map half ws) ∷ []) ++ halved rest
halved-one true ws rest = refl
halved-one false ws rest = refl

pub halved-dropped : (gone : List ℕ) (n : ℕ) (items : List Item) → halved (dropped gone n items) ≡ dropped gone n (halved items)
halved-dropped gone n [] = refl
halved-dropped gone n (item.X ws ∷ rest) =
    halved-one (is_member ◌==◌ gone n) ws (dropped gone (n + 1) rest) ∙ ap (λ is. cond (is_member ◌==◌ gone n) [] (item.X (map half ws) ∷ []) ++ is) (halved-dropped gone (n + 1) rest)
halved-dropped gone n (item.Loop l ∷ rest) = ap (λ is. item.Loop l ∷ is) (halved-dropped gone n rest)

-- items with loops behind them
abbrev pub with_loops : List Item → List ℕ → List Item
with_loops items ls = items ++ map item.Loop ls

halved-loops : (ls : List ℕ) → halved (map item.Loop ls) ≡ map item.Loop ls
halved-loops [] = refl
halved-loops (l ∷ ls) = ap (λ is. item.Loop l ∷ is) (halved-loops ls)

halved-with_loops : (items : List Item) (ls : List ℕ) → halved (with_loops items ls) ≡ with_loops (halved items) ls
halved-with_loops [] ls = halved-loops ls
halved-with_loops (item.X ws ∷ rest) ls = ap (λ is. item.X (map half ws) ∷ is) (halved-with_loops rest ls)
halved-with_loops (item.Loop l ∷ rest) ls = ap (λ is. item.Loop l ∷ is) (halved-with_loops rest ls)

dropped-loops : (gone : List ℕ) (n : ℕ) (ls : List ℕ) → dropped gone n (map item.Loop ls) ≡ map item.Loop ls
dropped-loops gone n [] = refl
dropped-loops gone n (l ∷ ls) = ap (λ is. item.Loop l ∷ is) (dropped-loops gone n ls)

dropped-with_loops : (gone : List ℕ) (n : ℕ) (items : List Item) (ls : List ℕ) → dropped gone n (with_loops items ls) ≡ with_loops (dropped gone n items) ls
dropped-with_loops gone n [] ls = dropped-loops gone n ls
dropped-with_loops gone n (item.X ws ∷ rest) ls =
    ap (λ is. cond (is_member ◌==◌ gone n) [] (item.X ws ∷ []) ++ is) (dropped-with_loops gone (n + 1) rest ls) ∙ one (is_member ◌==◌ gone n)
  where
    one : (b : Bool) → cond b [] (item.X ws ∷ []) ++ with_loops (dropped gone (n + 1) rest) ls ≡ with_loops (cond b [] (item.X ws ∷ []) ++ dropped gone (n + 1) rest) ls
    one true = refl
    one false = refl
dropped-with_loops gone n (item.Loop l ∷ rest) ls = ap (λ is. item.Loop l ∷ is) (dropped-with_loops gone n rest ls)

-- what a move removes
dropped-relabelled : (gone : List ℕ) (label : ℕ → ℕ) (n : ℕ) (items : List Item) → dropped gone n (relabelled label items) ≡ rewritten (λ k slots. cond (is_member ◌==◌ gone k) [] (item.X (map label slots) ∷ [])) n items
dropped-relabelled gone label n [] = refl
dropped-relabelled gone label n (item.X ws ∷ rest) = ap (λ is. cond (is_member ◌==◌ gone n) [] (item.X (map label ws) ∷ []) ++ is) (dropped-relabelled gone label (n + 1) rest)
dropped-relabelled gone label n (item.Loop l ∷ rest) = ap (λ is. item.Loop l ∷ is) (dropped-relabelled gone label n rest)

-- THE RESULT OF A MOVE BY ITS STUBS
pub halved_result : (gone : List ℕ) (label : ℕ → ℕ) (items stubs : List Item) (ls : List ℕ) → halved stubs ≡ relabelled label items → halved (dropped gone 1 (with_loops stubs ls)) ≡ with_loops (removed gone label items) ls
halved_result gone label items stubs ls e =
    halved-dropped gone 1 (with_loops stubs ls)
    ∙ ap (dropped gone 1) (halved-with_loops stubs ls)
    ∙ dropped-with_loops gone 1 (halved stubs) ls
    ∙ ap (λ is. with_loops (dropped gone 1 is) ls) e
    ∙ ap (λ is. with_loops is ls) (dropped-relabelled gone label 1 items)

pub crossing_labels-dropped : (gone : List ℕ) (n : ℕ) (items : List Item) → crossing_labels (dropped gone n items) ≡ kept_stubs gone n items
crossing_labels-dropped gone n [] = refl
crossing_labels-dropped gone n (item.X ws ∷ rest) = one (is_member ◌==◌ gone n) ∙ ap (λ vs. cond (is_member ◌==◌ gone n) [] ws ++ vs) (crossing_labels-dropped gone (n + 1) rest)
  where
    one : (b : Bool) → crossing_labels (cond b [] (item.X ws ∷ []) ++ dropped gone (n + 1) rest) ≡ cond b [] ws ++ crossing_labels (dropped gone (n + 1) rest)
    one true = refl
    one false = refl
crossing_labels-dropped gone n (item.Loop l ∷ rest) = crossing_labels-dropped gone n rest

pub loop_labels-dropped : (gone : List ℕ) (n : ℕ) (items : List Item) → loop_labels (dropped gone n items) ≡ loop_labels items
loop_labels-dropped gone n [] = refl
loop_labels-dropped gone n (item.X ws ∷ rest) = one (is_member ◌==◌ gone n) ∙ loop_labels-dropped gone (n + 1) rest
  where
    one : (b : Bool) → loop_labels (cond b [] (item.X ws ∷ []) ++ dropped gone (n + 1) rest) ≡ loop_labels (dropped gone (n + 1) rest)
    one true = refl
    one false = refl
loop_labels-dropped gone n (item.Loop l ∷ rest) = ap (λ ls. l ∷ ls) (loop_labels-dropped gone n rest)

pub kept_stubs-with_loops : (gone : List ℕ) (n : ℕ) (items : List Item) (ls : List ℕ) → kept_stubs gone n (with_loops items ls) ≡ kept_stubs gone n items
kept_stubs-with_loops gone n [] [] = refl
kept_stubs-with_loops gone n [] (l ∷ ls) = kept_stubs-with_loops gone n [] ls
kept_stubs-with_loops gone n (item.X ws ∷ rest) ls = ap (λ vs. cond (is_member ◌==◌ gone n) [] ws ++ vs) (kept_stubs-with_loops gone (n + 1) rest ls)
kept_stubs-with_loops gone n (item.Loop l ∷ rest) ls = kept_stubs-with_loops gone n rest ls

pub sizes-halved : (items : List Item) → AllByRecursion HasItsSlots (halved items) → AllByRecursion HasItsSlots items
sizes-halved [] h = tt
sizes-halved (item.X ws ∷ rest) h = (sym (length-map ws half) ∙ h.0, sizes-halved rest h.1)
sizes-halved (item.Loop l ∷ rest) h = (tt, sizes-halved rest h.1)

pub straight-with_loops : (strands : Strands) (items : List Item) (ls : List ℕ) → AllByRecursion (Straight strands) items → AllByRecursion (Straight strands) (with_loops items ls)
straight-with_loops strands [] [] h = tt
straight-with_loops strands [] (l ∷ ls) h = (tt, straight-with_loops strands [] ls h)
straight-with_loops strands (item.X ws ∷ rest) ls h = (h.0, straight-with_loops strands rest ls h.1)
straight-with_loops strands (item.Loop l ∷ rest) ls h = (tt, straight-with_loops strands rest ls h.1)

-- ---- loops behind the crossings, as nodes
one_loop : (strands : Strands) (g : ℕ) (xs : List ℕ) → map without_group (loop_nodes strands g xs) ≡ cond (nat_le 2 (length xs)) (box_node 0 (strands.box (length xs)) xs (reverse xs) ∷ []) []
one_loop strands g [] = refl
one_loop strands g (x ∷ []) = refl
one_loop strands g (x ∷ y ∷ xs) = let t : nat_le 2 (length (x ∷ y ∷ xs)) ≡ true = grind (arith, nat_tests) in sym (ap (λ b. cond b (box_node 0 (strands.box (length (x ∷ y ∷ xs))) (x ∷ y ∷ xs) (reverse (x ∷ y ∷ xs)) ∷ []) []) t)

pub stub_nodes-with_loops : (p : Parameters) (strands : Strands) (gone : List ℕ) (n g i lg : ℕ) (items : List Item) (ls : List ℕ) →
    map without_group (stub_nodes p strands gone n g i lg (with_loops items ls))
    ≡ map without_group (stub_nodes p strands gone n g i lg items) ++ map (λ l. box_node 0 (strands.box (length (strands.first l))) (strands.first l) (reverse (strands.first l))) (filter (λ l. nat_le 2 (length (strands.first l))) ls)
stub_nodes-with_loops p strands gone n g i lg [] [] = refl
stub_nodes-with_loops p strands gone n g i lg [] (l ∷ ls) =
    let box : ℕ → Node = λ l. box_node 0 (strands.box (length (strands.first l))) (strands.first l) (reverse (strands.first l)) in
    let F = filter (λ l. nat_le 2 (length (strands.first l))) ls in
    map-append without_group (loop_nodes strands lg (strands.first l)) (stub_nodes p strands gone n g (i + 1) (lg + 1) (with_loops [] ls))
    ∙ ap₂ (λ x y. x ++ y) (one_loop strands lg (strands.first l)) (stub_nodes-with_loops p strands gone n g (i + 1) (lg + 1) [] ls)
    ∙ elim (nat_le 2 (length (strands.first l))) as (λ b. cond b (box l ∷ []) [] ++ map box F ≡ map box (cond b (l ∷ F) F)) [ true ↦ refl | false ↦ refl ]
stub_nodes-with_loops p strands gone n g i lg (item.X ws ∷ rest) ls =
    let C = cond (is_member ◌==◌ gone n) [] (stub_crossing p strands g i ws) in
    let later : List Item → List Node = stub_nodes p strands gone (n + 1) (g + 1) (i + 1) lg in
    let boxes = map (λ l. box_node 0 (strands.box (length (strands.first l))) (strands.first l) (reverse (strands.first l))) (filter (λ l. nat_le 2 (length (strands.first l))) ls) in
    map-append without_group C (later (with_loops rest ls))
    ∙ ap (λ ns. map without_group C ++ ns) (stub_nodes-with_loops p strands gone (n + 1) (g + 1) (i + 1) lg rest ls)
    ∙ sym (append_assoc (map without_group C) (map without_group (later rest)) boxes)
    ∙ ap (λ ns. ns ++ boxes) (sym (map-append without_group C (later rest)))
stub_nodes-with_loops p strands gone n g i lg (item.Loop l ∷ rest) ls =
    let C = loop_nodes strands lg (strands.first l) in
    let later : List Item → List Node = stub_nodes p strands gone n g (i + 1) (lg + 1) in
    let boxes = map (λ l. box_node 0 (strands.box (length (strands.first l))) (strands.first l) (reverse (strands.first l))) (filter (λ l. nat_le 2 (length (strands.first l))) ls) in
    map-append without_group C (later (with_loops rest ls))
    ∙ ap (λ ns. map without_group C ++ ns) (stub_nodes-with_loops p strands gone n g (i + 1) (lg + 1) rest ls)
    ∙ sym (append_assoc (map without_group C) (map without_group (later rest)) boxes)
    ∙ ap (λ ns. ns ++ boxes) (sym (map-append without_group C (later rest)))

-- ---- a label without places is a component of its own
crossings_among : (items : List Item) → AllByRecursion HasItsSlots items → EndsAre (is_member ◌==◌ (crossing_labels items)) (strand_edges items)
crossings_among [] h = tt
crossings_among (item.X slots ∷ rest) h =
    let four = h.0 in
    let ls = crossing_labels rest in
    let has : (i : ℕ) → i < 4 → is_member ◌==◌ (slots ++ ls) (slice_index slots i) ≡ true =
    λ i l. is_member-append slots ls (slice_index slots i) ∙ or_left (is_member ◌==◌ slots (slice_index slots i)) _ (is_member-get_or slots i (omega (arith, l, four))) in
    let later = EndsAre-weaker (is_member ◌==◌ ls) (is_member ◌==◌ (slots ++ ls)) (λ x m. is_member-append slots ls x ∙ or_right (is_member ◌==◌ slots x) (is_member ◌==◌ ls x) m) (strand_edges rest) (crossings_among rest h.1) in
    (has 0 (omega arith), has 2 (omega arith), (has 1 (omega arith), has 3 (omega arith), later))
crossings_among (item.Loop l ∷ rest) h = crossings_among rest h.1

pub least_alone : (items : List Item) → AllByRecursion HasItsSlots items → (l : ℕ) → is_member ◌==◌ (labels item_labels items) l ≡ true → is_member ◌==◌ (crossing_labels items) l ≡ false → component_least items l ≡ l
least_alone items sizes l m out =
    let es = strand_edges items in
    let rules = AreLeast-labels es in
    let walk : Joined es l (least_label es l) = (least_label-Joined es l (least_label es l)).0 (sym (rules.itself l)) in
    least_is items sizes l m
    ∙ ⊎_elim (λ e. sym e) (λ q. absurd (clash (is_member ◌==◌ (crossing_labels items) l) q.0 out)) (inside-from_Joined (is_member ◌==◌ (crossing_labels items)) es (crossings_among items sizes) walk)

-- ---- loops counted
pub counts-append : (strands : Strands) (ls ks : List ℕ) → counts strands (ls ++ ks) ≡ counts strands ls + counts strands ks
counts-append strands [] ks = omega arith
counts-append strands (l ∷ ls) ks = let ih = counts-append strands ls ks in omega (arith, ih)

counts_sum : (strands : Strands) (ls : List ℕ) → counts strands ls ≡ sum_by (λ l. loops_at (strands.first l)) ls
counts_sum strands [] = refl
counts_sum strands (l ∷ ls) = let ih = counts_sum strands ls in let s = sum_by-cons (λ l. loops_at (strands.first l)) l ls in omega (arith, ih, s)

pub counts_permuted : (strands : Strands) (ls ks : List ℕ) → IsPermutation ls ks → counts strands ls ≡ counts strands ks
counts_permuted strands ls ks h = counts_sum strands ls ∙ sym (sum_by-IsPermutation (λ l. loops_at (strands.first l)) ls ks h) ∙ sym (counts_sum strands ks)

-- ---- bundles that close
pub differ_by_once : (pairs : List (ℕ × ℕ)) → ((z : ℕ) → times_in (ends_of pairs) z ≤ 1) → AllByRecursion (λ (pair : ℕ × ℕ). pair.0 ≢ pair.1) pairs
differ_by_once [] h = tt
differ_by_once (pair ∷ pairs) h = (
  (λ e. (let o = h pair.0 in let a = times_in-cons pair.0 (pair.1 ∷ ends_of pairs) pair.0 in let b = times_in-cons pair.1 (ends_of pairs) pair.0 in
      let i : one_if (pair.0 == pair.0) ≡ 1 = grind (arith, nat_tests) in let j : one_if (pair.0 == pair.1) ≡ 1 = grind (arith, nat_tests, e) in omega (arith, o, a, b, i, j))),
  differ_by_once pairs (λ z. (let o = h z in let a = times_in-cons pair.0 (pair.1 ∷ ends_of pairs) z in let b = times_in-cons pair.1 (ends_of pairs) z in omega (arith, o, a, b))),
)

pub ends_shut : (pairs : List (ℕ × ℕ)) → AllByRecursion (λ (pair : ℕ × ℕ). half pair.0 ≡ half pair.1) pairs → AllByRecursion (λ (pair : ℕ × ℕ). pair.0 ≢ pair.1) pairs → (w : ℕ) → times_in (ends_of pairs) w ≡ times_in (shut_labels pairs) (half w)
ends_shut [] h d w = refl
ends_shut (pair ∷ pairs) h d w =
    let ih = ends_shut pairs h.1 d.1 w in
    let a = times_in-cons pair.0 (pair.1 ∷ ends_of pairs) w in
    let b = times_in-cons pair.1 (ends_of pairs) w in
    let c = times_in-cons (half pair.0) (shut_labels pairs) (half w) in
    let s = sides pair.0 pair.1 h.0 d.0 in
    omega (arith, ih, a, b, c, s)
  where
    sides : (u v : ℕ) → half u ≡ half v → u ≢ v → one_if (w == u) + one_if (w == v) ≡ one_if (half w == half u)
    sides u v e n =
        ⊎_elim
        (λ (f : half w ≡ half u). (let k = one_same (half w) (half u) f in
        ⊎_elim
        (λ (q : w ≡ u). (let i = one_same w u q in let j = one_apart w v (λ r. n (sym q ∙ r)) in omega (arith, k, i, j)))
        (λ q. (let i = one_apart w u q in let r : w ≡ v = omega (arith, e, f, n, q) in let j = one_same w v r in omega (arith, k, i, j)))
        (cases_eq w u)))
        (λ f. (let k = one_apart (half w) (half u) f in let i = one_apart w u (λ q. f (ap half q)) in let j = one_apart w v (λ q. f (ap half q ∙ sym e)) in omega (arith, k, i, j)))
        (cases_eq (half w) (half u))

pub each_shut : (Q : ℕ → Type 0) (pairs : List (ℕ × ℕ)) → ((l : ℕ) → 1 ≤ times_in (shut_labels pairs) l → Q l) → AllByRecursion (λ (pair : ℕ × ℕ). Q (half pair.0)) pairs
each_shut Q [] h = tt
each_shut Q (pair ∷ pairs) h =
    let l = half pair.0 in (
      h l (let c = times_in-cons l (shut_labels pairs) l in let i : one_if (l == l) ≡ 1 = grind (arith, nat_tests) in omega (arith, c, i)),
      each_shut Q pairs (λ k m. h k (let c = times_in-cons l (shut_labels pairs) k in omega (arith, c, m))),
    )

pub shut_class : (label : ℕ → ℕ) (x y : ℕ) (pairs edges : List (ℕ × ℕ)) → Matches label pairs edges → AllByRecursion (λ (edge : ℕ × ℕ). (label edge.0 ≡ x) ⊎ (label edge.0 ≡ y)) edges → (l : ℕ) → 1 ≤ times_in (shut_labels pairs) l → (l ≡ x) ⊎ (l ≡ y)
shut_class label x y [] edges m h l one = absurd (omega (arith, one))
shut_class label x y (pair ∷ pairs) [] m h l one = absurd m
shut_class label x y (pair ∷ pairs) (edge ∷ edges) m h l one =
    let c = times_in-cons (half pair.0) (shut_labels pairs) l in
    ⊎_elim
    (λ (e : l ≡ half pair.0). ⊎_elim (λ q. inl (e ∙ m.0.0 ∙ q)) (λ q. inr (e ∙ m.0.0 ∙ q)) h.0)
    (λ d. (let i : one_if (l == half pair.0) ≡ 0 = grind (arith, nat_tests, d) in shut_class label x y pairs edges m.1 h.1 l (omega (arith, c, i, one))))
    (cases_eq l (half pair.0))
