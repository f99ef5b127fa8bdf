-- What a move gives that takes crossings away and joins labels, where the diagram without these crossings has bundles of arcs in their place: the
-- bundles close one after the other, and what is left are the stubs of the result. So for R2Undo and CurlUndo.
use Rattle.std.proofs.Common.{◌≡◌, ◌≢◌, ℕ, ◌+◌, ◌*◌, ◌/◌, ◌≤◌, ◌==◌, ◌&&◌, ◌||◌, ◌⊎◌, not, nat_le, Bool, true, false, cond, List, [], ◌∷◌, ◌++◌, map, length, reverse, refl, sym, ap, ap₂, ◌∙◌, arith, ⊎_elim, All, subst, append-nil, append_assoc}
use Rattle.std.specs.List.{AllByRecursion, filter}
use Rattle.std.specs.List.Sorted.{IsPermutation}
use Rattle.std.specs.Set.{is_member}
use Rattle.std.proofs.lemmas.Bool.{cases_Bool, and_parts, eq-eqb, eqb-true, or_cases, or_left, or_right}
use Rattle.std.proofs.lemmas.List.{map-append}
use Rattle.std.proofs.lemmas.List.Elements.{All-append, All-nil}
use Rattle.std.proofs.lemmas.List.Sorted.{IsPermutation-append_left, IsPermutation-append_right, IsPermutation-map}
use Rattle.graph_parts.specs.Ends.{ends_of}
use Rattle.graph_parts.proofs.Counting.{is_member-map}
use Rattle.graph_parts.specs.LeastNames.{least_label}
use Rattle.graph_parts.specs.Walks.{Joined}
use Rattle.graph_parts.proofs.LeastLabels.{AreLeast-labels, least_label-Joined}
use Rattle.list_lemmas.specs.Times.{times_in}
use Rattle.list_lemmas.proofs.Permuted.{permuted_times}
use Rattle.list_lemmas.proofs.Times.{member_of_times, times_in-append, times_in-filter, times_none, times_of_member}
use Rattle.state_sums.specs.Networks.{Node, IsNode, names_of}
use Rattle.state_sums.specs.StateSums.{value}
use Rattle.state_sums.proofs.NetworkLaws.{any_order}
use Rattle.root_quantum.specs.Parameters.{Parameters}
use Rattle.root_quantum.specs.QuantumNumbers.{loop_value}
use Rattle.piece_laws.specs.Arcs.{arcs_of}
use Rattle.piece_laws.specs.TurnedNodes.{without_group}
use Rattle.piece_laws.proofs.NameCounts.{member_mapped}
use Rattle.piece_laws.proofs.Ungrouped.{groups}
use Rattle.pd_reader.specs.declared.item.Item.{Item}
use Rattle.pd_reader.specs.Items.{item_labels, HasItsSlots}
use Rattle.pd_reader.specs.Diagrams.{labels, IsDiagram, IsLabel}
use Rattle.planar_check.specs.Components.{strand_edges, component_least, least_labels}
use Rattle.cables.specs.CableNodes.{box_node}
use Rattle.cables.specs.Cables.{count_placed, cable, loop_count, loop_nodes, Fits, as_net}
use Rattle.cables.specs.Nets.{projector_of, HasProjector}
use Rattle.cables.specs.Strands.{Strands}
use Rattle.cables.proofs.LabelNames.{zero_or_some}
use Rattle.cables.proofs.NameCounts.{times-reverse, times_of-append}
use Rattle.cables.proofs.NumberedStrands.{as_many_strands, first_label, first_length}
use Rattle.cables.proofs.ProjectorBoxes.{projector_boxes}
use Rattle.coloured_values.specs.Coloured.{colour_of, is_boxed, diagram_strands, coloured}
use Rattle.coloured_values.proofs.ColouredLaws.{each_label}
use Rattle.diagram_moves.specs.Laws.{IsPairedDiagram}
use Rattle.diagram_moves.specs.Moves.{closing, removed}
use Rattle.diagram_moves.specs.Rewriting.{crossing_labels}
use Rattle.diagram_moves.proofs.Nodes.{kept}
use Rattle.diagram_moves.proofs.Paired.{times_labels, loop_labels}
use Rattle.diagram_moves.proofs.Pushing.{crossing_labels-append}
use Rattle.move_results.proofs.DiagramResults.{as_paired}
use Rattle.move_results.proofs.LeastLabelLists.{Contracts, least_is}
use Rattle.move_results.proofs.PairedAgain.{closed, closed_times, crossing_labels-loops, crossing_labels-removed, in_names, label_inside, loop_labels-append, loop_labels-loops}
use Rattle.cable_crossings.proofs.BundleTurns.{runs_exchanged}
use Rattle.cable_crossings.proofs.ManyArcs.{arcs_ok}
use Rattle.cable_crossings.proofs.StepPieces.{All-second}
use Rattle.coloured_moves.proofs.BundleMerges.{bundles, IsState}
use Rattle.coloured_moves.proofs.BundleRuns.{IsRun, Matches, run}
use Rattle.coloured_moves.proofs.ClosedBundles.{shut_labels, loop_boxes, loop_boxes_ok, boxes_free, close_all}
use Rattle.coloured_moves.proofs.DroppedCrossings.{dropped, dropped_value}
use Rattle.coloured_moves.proofs.LabelColours.{label_in, counts, long_stub, loop_count_labels}
use Rattle.coloured_moves.proofs.PulledStubs.{with_loops, relabelled_same, kept_stubs-halved, halved_result, crossing_labels-dropped, loop_labels-dropped, kept_stubs-with_loops, sizes-halved, straight-with_loops, stub_nodes-with_loops, least_alone, counts-append, counts_permuted, differ_by_once, ends_shut, each_shut, shut_class}
use Rattle.coloured_moves.proofs.SameComponents.{contracted_least, contracted_cable, contracted_fits}
use Rattle.coloured_moves.proofs.StubCables.{loop_labels-halved, stub_cable, stub_cable_ok}
use Rattle.coloured_moves.proofs.StubItems.{half, halved, at_stub, stub_nodes, boxes_of, first_labels, first_labels_times}
use Rattle.coloured_moves.proofs.StubNames.{kept_stubs, kept_stubs-kept, kept_stubs-relabelled, loop_labels-relabelled, loop_sum, stub_sum_none, stub_apart, stub_nodes_times}
use Rattle.coloured_moves.proofs.TurnedBoxes.{boxes_ok}
use Rattle.coloured_moves.proofs.Tests.{clash, one_if, one_most, one_shown}

module _ (p : Parameters) (items : List Item) (is : IsDiagram items) (gone : List ℕ) (classes : List (ℕ × ℕ)) (x y : ℕ)
    (counted : (z : ℕ) → times_in (crossing_labels items) z ≡ times_in (ends_of classes) z + times_in (names_of (kept 0 0 gone 1 items)) z)
    (has_x : is_member ◌==◌ (ends_of classes) x ≡ true) (has_y : is_member ◌==◌ (ends_of classes) y ≡ true)
    (ends_class : (l : ℕ) → is_member ◌==◌ (ends_of classes) l ≡ true → (least_label classes l ≡ least_label classes x) ⊎ (least_label classes l ≡ least_label classes y))
    (classed : AllByRecursion (λ edge. (least_label classes edge.0 ≡ least_label classes x) ⊎ (least_label classes edge.0 ≡ least_label classes y)) classes)
    (one_component : AllByRecursion (λ edge. least_label (strand_edges items) edge.0 ≡ least_label (strand_edges items) edge.1) classes)
    (contracts : Contracts items (closing (least_label classes) x y (removed gone (least_label classes) items)) (least_label classes)) (comps : least_labels (closing (least_label classes) x y (removed gone (least_label classes) items)) ≡ least_labels items)
    (after_is : IsDiagram (closing (least_label classes) x y (removed gone (least_label classes) items)))
    (colours : List ℕ) (few : (l : ℕ) → colour_of items colours l ≤ 8) (projectors : (l : ℕ) → is_boxed items colours l ≡ true → HasProjector p (colour_of items colours l))
    (boxes : AllByRecursion (λ l. is_boxed items colours l ≡ true) (first_labels (λ l. is_boxed items colours l) [] items))
    (todo : List (ℕ × ℕ)) (B : List Item) (halves : halved B ≡ items) (matches : Matches (λ l. l) todo classes)
    (state : IsState p (λ l. colour_of items colours l) (λ l. is_boxed items colours l) few gone (count_placed (as_net items) + 1) (loop_count (diagram_strands p items colours) (as_net items)) (first_labels (λ l. is_boxed items colours l) [] items) (λ l. is_member ◌==◌ (crossing_labels items) l) todo B) where
  abbrev pd : IsPairedDiagram items
  pd = as_paired items is

  abbrev label : ℕ → ℕ
  label = least_label classes

  abbrev names : List ℕ
  names = names_of (kept 0 0 gone 1 items)

  abbrev after : List Item
  after = closing label x y (removed gone label items)

  abbrev colour : ℕ → ℕ
  colour l = colour_of items colours l

  abbrev boxed : ℕ → Bool
  boxed l = is_boxed items colours l

  abbrev S : Strands
  S = diagram_strands p items colours

  abbrev present : ℕ → Bool
  present l = is_member ◌==◌ (crossing_labels items) l

  abbrev lg : ℕ
  lg = count_placed (as_net items) + 1

  abbrev free : ℕ
  free = loop_count S (as_net items)

  abbrev L : List ℕ
  L = first_labels boxed [] items

  abbrev L' : List ℕ
  L' = first_labels boxed [] after

  -- ---- labels of the result
  abbrev shut : List ℕ
  shut = closed items pd gone classes x y counted has_x has_y

  shut_times : (z : ℕ) → times_in shut z ≡ cond (not (is_member ◌==◌ (map label names) z)) (one_if (z == label x || z == label y)) 0
  shut_times = closed_times items pd gone classes x y counted has_x has_y

  crossings_after : crossing_labels after ≡ map label names
  crossings_after =
      crossing_labels-append (removed gone label items) (with_loops [] shut) ∙ ap (λ ns. crossing_labels (removed gone label items) ++ ns) (crossing_labels-loops shut)
      ∙ append-nil (crossing_labels (removed gone label items)) ∙ crossing_labels-removed gone label items

  -- ---- the bundles close
  abbrev component : ℕ → ℕ
  component = least_label (strand_edges items)

  joined : (u v : ℕ) → Joined (strand_edges items) u v → component u ≡ component v
  joined u v j = (least_label-Joined (strand_edges items) u v).1 j

  member : (l : ℕ) → present l ≡ true → is_member ◌==◌ (labels item_labels items) l ≡ true
  member l m = let one = times_of_member l (crossing_labels items) m in let a = times_labels items l in member_of_times l (labels item_labels items) (omega (arith, one, a))

  boxed_least : (l : ℕ) → present l ≡ true → boxed l ≡ true → component l ≡ l
  boxed_least l m b = sym (least_is items is.sizes l (member l m)) ∙ eqb-true (component_least items l) l (and_parts (nat_le 2 (colour l)) (component_least items l == l) b).1

  abbrev Class : ℕ × ℕ → Type 0
  Class edge = (label edge.0 ≡ label x) ⊎ (label edge.0 ≡ label y)

  abbrev V : List (ℕ × ℕ) → List Item → ℕ
  V pairs stubs = value p.modulus (loop_value p) record { nodes = arcs_of (bundles S pairs) ++ (boxes_of S L ++ stub_nodes p S gone 1 1 0 lg stubs); free_loops = free }

  component_le : (l : ℕ) → component l ≤ l
  component_le l = let rules = AreLeast-labels (strand_edges items) in rules.below l

  R : IsRun p colour boxed few gone lg free L boxes present component boxed_least component_le items Class label (V (todo ++ []) B)
  R =
      let P : List (ℕ × ℕ) → Type 0 = λ pairs. IsState p colour boxed few gone lg free L present pairs B in
      run p colour boxed few gone lg free L boxes present component boxed_least component_le items Class classes (λ l. l) present todo [] [] B
      (subst P (sym (append-nil todo)) state)
      record { halves = halves ∙ sym (relabelled_same items); fixes = λ l m. refl; covers = λ l m. m; within = λ l. refl; inside = λ l m. m }
      matches tt tt one_component classed tt

  abbrev T : List Item
  T = R.items

  abbrev kept_T : List ℕ
  kept_T = kept_stubs gone 1 T

  abbrev Λ : List ℕ
  Λ = shut_labels R.shut

  -- ---- the labels of the crossings that stay, and of the loops
  halves_kept : map half kept_T ≡ map label names
  halves_kept =
      sym (kept_stubs-halved gone 1 T) ∙ ap (kept_stubs gone 1) R.labels.halves ∙ kept_stubs-relabelled label gone 1 items ∙ ap (map label) (kept_stubs-kept gone 1 items)

  loops_T : loop_labels T ≡ loop_labels items
  loops_T = sym (loop_labels-halved T) ∙ ap loop_labels R.labels.halves ∙ loop_labels-relabelled label items

  differ : AllByRecursion (λ (pair : ℕ × ℕ). pair.0 ≢ pair.1) R.shut
  differ = differ_by_once R.shut (λ z. (let o = R.state.once z in let m = one_most (R.present (half z)) in omega (arith, o, m)))

  -- the stubs of a label stand at crossings or at a bundle that closes
  stands : (w : ℕ) → times_in kept_T w + times_in Λ (half w) ≡ one_if (R.present (half w))
  stands w = let o = R.state.once w in let e = ends_shut R.shut R.closed differ w in omega (arith, o, e)

  first_half : (l : ℕ) → half (2 * l) ≡ l
  first_half l = omega arith

  at_first : (l : ℕ) → times_in kept_T (2 * l) + times_in Λ l ≡ one_if (R.present l)
  at_first l = let a = stands (2 * l) in let e = ap (times_in Λ) (first_half l) in let f = ap (λ k. one_if (R.present k)) (first_half l) in omega (arith, a, e, f)

  Λ_once : (l : ℕ) → times_in Λ l ≤ 1
  Λ_once l = let a = at_first l in let m = one_most (R.present l) in omega (arith, a, m)

  -- a label that stays at a crossing closes nowhere
  stays_open : (l : ℕ) → is_member ◌==◌ (map label names) l ≡ true → times_in Λ l ≡ 0
  stays_open l m =
      let r = member_mapped half kept_T l (ap (λ ns. is_member ◌==◌ ns l) halves_kept ∙ m) in
      let one = times_of_member r.0 kept_T r.1 in
      let a = stands r.0 in
      let b = one_most (R.present (half r.0)) in
      let e = ap (times_in Λ) r.2 in
      omega (arith, one, a, b, e)

  not_kept : (l : ℕ) → is_member ◌==◌ (map label names) l ≡ false → (w : ℕ) → half w ≡ l → times_in kept_T w ≡ 0
  not_kept l m w e =
      times_none kept_T w
      (⊎_elim (λ h. absurd (clash (is_member ◌==◌ (map label names) l) (ap (λ ns. is_member ◌==◌ ns l) (sym halves_kept) ∙ ap (is_member ◌==◌ (map half kept_T)) (sym e) ∙ is_member-map half kept_T w h) m)) (λ h. h) (cases_Bool (is_member ◌==◌ kept_T w)))

  present_x : present x ≡ true
  present_x = let a = times_of_member x (ends_of classes) has_x in let b = counted x in member_of_times x (crossing_labels items) (omega (arith, a, b))

  present_y : present y ≡ true
  present_y = let a = times_of_member y (ends_of classes) has_y in let b = counted y in member_of_times y (crossing_labels items) (omega (arith, a, b))

  -- THE LOOPS OF THE RESULT ARE THE LABELS THAT CLOSE
  shut_same : (l : ℕ) → times_in Λ l ≡ times_in shut l
  shut_same l =
      let g = shut_times l in
      ⊎_elim
      (λ (m : is_member ◌==◌ (map label names) l ≡ true).
      (let a = stays_open l m in let b = g ∙ ap (λ h. cond (not h) (one_if (l == label x || l == label y)) 0) m in omega (arith, a, b)))
      (λ (m : is_member ◌==◌ (map label names) l ≡ false).
      (let b = g ∙ ap (λ h. cond (not h) (one_if (l == label x || l == label y)) 0) m in
      let n = not_kept l m (2 * l) (first_half l) in
      let a = at_first l in
      ⊎_elim
      (λ (q : (l == label x || l == label y) ≡ true).
      (let there : R.present l ≡ true =
      ⊎_elim
      (λ e. ap R.present (eqb-true l (label x) e) ∙ R.labels.covers x present_x)
      (λ e. ap R.present (eqb-true l (label y) e) ∙ R.labels.covers y present_y)
      (or_cases (l == label x) (l == label y) q) in
      let i = ap one_if there in let j = ap one_if q in omega (arith, a, b, n, i, j)))
      (λ q.
      (let j = ap one_if q in
      let none : times_in Λ l ≡ 0 =
      ⊎_elim (λ (e : times_in Λ l ≡ 0). e)
      (λ k. absurd
      (let k1 = k.1 in
      ⊎_elim
      (λ e. clash (l == label x || l == label y) (or_left (l == label x) (l == label y) (eq-eqb l (label x) e)) q)
      (λ e. clash (l == label x || l == label y) (or_right (l == label x) (l == label y) (eq-eqb l (label y) e)) q)
      (shut_class label (label x) (label y) R.shut R.edges R.matches R.classes l (omega (arith, k1)))))
      (zero_or_some (times_in Λ l)) in
      omega (arith, b, j, none)))
      (cases_Bool (l == label x || l == label y))))
      (cases_Bool (is_member ◌==◌ (map label names) l))

  perm_Λ : IsPermutation shut Λ
  perm_Λ = permuted_times Λ shut (λ l. sym (shut_same l))

  -- ---- the result by its stubs
  abbrev stubs : List Item
  stubs = with_loops T shut

  abbrev D : List Item
  D = dropped gone 1 stubs

  halved_D : halved D ≡ after
  halved_D = halved_result gone label items T shut R.labels.halves

  once_D : (w : ℕ) → times_in (crossing_labels D) w ≤ 1
  once_D w =
      let e = ap (λ ns. times_in ns w) (crossing_labels-dropped gone 1 stubs ∙ kept_stubs-with_loops gone 1 T shut) in
      let o = stands w in let m = one_most (R.present (half w)) in omega (arith, e, o, m)

  loops_after : loop_labels after ≡ loop_labels items ++ shut
  loops_after =
      ap loop_labels (sym halved_D) ∙ loop_labels-halved D ∙ loop_labels-dropped gone 1 stubs
      ∙ loop_labels-append T (with_loops [] shut) ∙ ap₂ (λ a b. a ++ b) loops_T (loop_labels-loops shut)

  loop_member : (l : ℕ) → is_member ◌==◌ (loop_labels after) l ≡ true → is_member ◌==◌ (labels item_labels after) l ≡ true
  loop_member l m = let one = times_of_member l (loop_labels after) m in let a = times_labels after l in member_of_times l (labels item_labels after) (omega (arith, one, a))

  crossing_member : (l : ℕ) → is_member ◌==◌ (crossing_labels after) l ≡ true → is_member ◌==◌ (labels item_labels after) l ≡ true
  crossing_member l m = let one = times_of_member l (crossing_labels after) m in let a = times_labels after l in member_of_times l (labels item_labels after) (omega (arith, one, a))

  small_after : (l : ℕ) → is_member ◌==◌ (labels item_labels after) l ≡ true → l ≤ 2000000
  small_after l m = (label_in IsLabel (labels item_labels after) after_is.in_range l m).high

  -- ---- the cable behind the move, with the strands from before
  to_S : value p.modulus (loop_value p) (cable p (diagram_strands p after colours) (as_net after)) ≡ value p.modulus (loop_value p) (cable p S (as_net after))
  to_S = ap (value p.modulus (loop_value p)) (contracted_cable items after label contracts is.sizes after_is.sizes (sym comps) colours p)

  long : (l : ℕ) → length (S.first l) ≡ colour l
  long l = first_length colour boxed (projector_of p) l

  fits_after : AllByRecursion (Fits S) (as_net after)
  fits_after = contracted_fits items after label contracts is.sizes after_is.sizes (sym comps) colours p

  -- a label that closes is a component of its own, and has its box
  whole : (l : ℕ) → 1 ≤ times_in Λ l → boxed l ≡ nat_le 2 (colour l)
  whole l one =
      let g = shut_same l in
      let out : is_member ◌==◌ (crossing_labels after) l ≡ false =
      ⊎_elim (λ m. absurd (let n = stays_open l (ap (λ ns. is_member ◌==◌ ns l) (sym crossings_after) ∙ m) in omega (arith, one, n))) (λ m. m) (cases_Bool (is_member ◌==◌ (crossing_labels after) l)) in
      let a = ap (λ ns. times_in ns l) loops_after in
      let b = times_in-append (loop_labels items) shut l in
      let inside = loop_member l (member_of_times l (loop_labels after) (omega (arith, a, b, g, one))) in
      let own : component_least after l ≡ l = least_alone after after_is.sizes l inside out in
      let fixed = contracts.fixes l inside in
      let same : component_least after (label l) ≡ l = ap (component_least after) fixed ∙ own in
      let least : component_least items l ≡ l =
      contracted_least items after label contracts is.sizes after_is.sizes l (contracts.within l inside) (ap (is_member ◌==◌ (labels item_labels after)) same ∙ inside) ∙ same in
      let test_l = eq-eqb (component_least items l) l least in
      ap (λ h. nat_le 2 (colour l) && h) test_l ∙ plain (nat_le 2 (colour l))
    where
      plain : (h : Bool) → (h && true) ≡ h
      plain true = refl
      plain false = refl

  -- ---- the boxes: those of the result, and those of labels that close
  boxed_fixed : (l : ℕ) → present l ≡ true → boxed l ≡ true → label l ≡ l
  boxed_fixed l m b =
      let e = boxed_least l m b in
      let walk = joined l (label l) (contracts.walks l (member l m)) in
      let low = component_le (label l) in
      let high = contracts.lowers l in
      omega (arith, e, walk, low, high)

  box_times : (l : ℕ) → times_in L l ≡ times_in (filter boxed Λ ++ L') l
  box_times l =
      let a = first_labels_times boxed [] items l in
      let b = first_labels_times boxed [] after l ∙ ap (λ ns. one_if (is_member ◌==◌ ns l && (boxed l && true))) crossings_after in
      let f = times_in-filter boxed Λ l in
      let g = times_in-append (filter boxed Λ) L' l in
      ⊎_elim
      (λ (q : boxed l ≡ true).
      (let a1 = a ∙ ap (λ h. one_if (present l && (h && true))) q ∙ one (present l) in
      let b1 = b ∙ ap (λ h. one_if (is_member ◌==◌ (map label names) l && (h && true))) q ∙ one (is_member ◌==◌ (map label names) l) in
      let f1 = f ∙ ap (λ h. cond h (times_in Λ l) 0) q in
      let k = shut_same l in let j = shut_times l in
      ⊎_elim
      (λ (m : is_member ◌==◌ (map label names) l ≡ true).
      (let open_l = stays_open l m in
      let r = member_mapped label names l m in
      let i : present l ≡ true = ap present r.2 ∙ label_inside items pd gone classes x y counted has_x has_y r.0 (in_names items pd gone classes x y counted has_x has_y r.0 r.1) in
      let i1 = ap one_if i in let m1 = ap one_if m in
      omega (arith, a1, b1, f1, g, open_l, i1, m1)))
      (λ (m : is_member ◌==◌ (map label names) l ≡ false).
      (let j1 = j ∙ ap (λ h. cond (not h) (one_if (l == label x || l == label y)) 0) m in
      let m1 = ap one_if m in
      let e : one_if (present l) ≡ one_if (l == label x || l == label y) = same_tests l q m in
      omega (arith, a1, b1, f1, g, k, j1, m1, e)))
      (cases_Bool (is_member ◌==◌ (map label names) l))))
      (λ (q : boxed l ≡ false).
      (let a1 = a ∙ ap (λ h. one_if (present l && (h && true))) q ∙ none (present l) in
      let b1 = b ∙ ap (λ h. one_if (is_member ◌==◌ (map label names) l && (h && true))) q ∙ none (is_member ◌==◌ (map label names) l) in
      let f1 = f ∙ ap (λ h. cond h (times_in Λ l) 0) q in
      omega (arith, a1, b1, f1, g)))
      (cases_Bool (boxed l))
    where
      one : (h : Bool) → one_if (h && (true && true)) ≡ one_if h
      one true = refl
      one false = refl

      none : (h : Bool) → one_if (h && (false && true)) ≡ 0
      none true = refl
      none false = refl

      same_tests : (l : ℕ) → boxed l ≡ true → is_member ◌==◌ (map label names) l ≡ false → one_if (present l) ≡ one_if (l == label x || l == label y)
      same_tests l q m =
          ⊎_elim
          (λ (h : present l ≡ true).
          (let fixed = boxed_fixed l h q in
          let away : is_member ◌==◌ names l ≡ false =
          ⊎_elim (λ i. absurd (clash (is_member ◌==◌ (map label names) l) (ap (is_member ◌==◌ (map label names)) (sym fixed) ∙ is_member-map label names l i) m)) (λ i. i) (cases_Bool (is_member ◌==◌ names l)) in
          let n = times_none names l away in
          let k = counted l in
          let i = times_of_member l (crossing_labels items) h in
          let end = member_of_times l (ends_of classes) (omega (arith, n, k, i)) in
          let either : (l == label x || l == label y) ≡ true =
          ⊎_elim
          (λ e. or_left (l == label x) (l == label y) (eq-eqb l (label x) (sym fixed ∙ e)))
          (λ e. or_right (l == label x) (l == label y) (eq-eqb l (label y) (sym fixed ∙ e)))
          (ends_class l end) in
          ap one_if h ∙ sym (ap one_if either)))
          (λ (h : present l ≡ false).
          (let neither : (l == label x || l == label y) ≡ false =
          ⊎_elim
          (λ i. absurd (clash (present l)
          (⊎_elim
          (λ e. ap present (eqb-true l (label x) e) ∙ label_inside items pd gone classes x y counted has_x has_y x present_x)
          (λ e. ap present (eqb-true l (label y) e) ∙ label_inside items pd gone classes x y counted has_x has_y y present_y)
          (or_cases (l == label x) (l == label y) i))
          h))
          (λ i. i)
          (cases_Bool (l == label x || l == label y)) in
          ap one_if h ∙ sym (ap one_if neither)))
          (cases_Bool (present l))

  perm_L : IsPermutation L (filter boxed Λ ++ L')
  perm_L = permuted_times (filter boxed Λ ++ L') L box_times

  -- ---- values
  abbrev delta : ℕ
  delta = loop_value p

  abbrev W : ℕ → List Node → ℕ
  W k ns = value p.modulus delta record { nodes = ns; free_loops = k }

  abbrev K : List Node
  K = stub_nodes p S gone 1 1 0 lg T

  abbrev A : List Node
  A = arcs_of (bundles S R.shut)

  abbrev rest : List Node
  rest = boxes_of S L' ++ K

  even : (l : ℕ) → length (S.second l) ≡ length (S.first l)
  even l = as_many_strands colour boxed (projector_of p) l

  boxes_fine : (ls : List ℕ) → All IsNode (boxes_of S ls)
  boxes_fine ls = boxes_ok p.modulus delta S (projector_boxes p) even ls

  ok_K : All IsNode K
  ok_K = All-second IsNode (boxes_of S L) K R.state.nodes

  ok_rest : All IsNode rest
  ok_rest = All-append IsNode (boxes_of S L') K (boxes_fine L') ok_K

  abbrev told : ℕ
  told = free + counts S Λ

  abbrev closed_boxes : List Node
  closed_boxes = loop_boxes p colour boxed few (filter boxed Λ)

  -- names of labels that close stand at their boxes alone
  shut_free : (z : ℕ) → 1 ≤ times_in Λ (z / 16) → times_in (names_of rest) z ≡ 0
  shut_free z one =
      let l = z / 16 in
      let a = at_first l in
      let m = one_most (R.present l) in
      let in_state = one_shown (R.present l) (times_in kept_T (2 * l) + times_in Λ l) (omega (arith, one)) a in
      let low = R.state.small l in_state in
      let g = shut_same l in
      let out : is_member ◌==◌ (map label names) l ≡ false = ⊎_elim (λ h. absurd (let n = stays_open l h in omega (arith, one, n))) (λ h. h) (cases_Bool (is_member ◌==◌ (map label names) l)) in
      let box_out : times_in L' l ≡ 0 =
      first_labels_times boxed [] after l ∙ ap (λ ns. one_if (is_member ◌==◌ ns l && (boxed l && true))) crossings_after ∙ ap (λ h. one_if (h && (boxed l && true))) out in
      let b = boxes_free p colour boxed few l L' box_out z refl in
      let short : (w : ℕ) → length (at_stub S w) ≤ 8 = λ w. (let i = long_stub S even w in let j = long (half w) in let k = few (half w) in omega (arith, i, j, k)) in
      let k = stub_nodes_times p S gone z (omega (arith, low)) short 1 1 0 lg T R.state.straight in
      let s = stub_sum_none S kept_T z
      (λ w h. stub_apart colour boxed (projector_of p) few w z (λ e. (let n = not_kept l out w (sym e) in omega (arith, n, h)))) in
      let q = loops_free (loop_labels T) (λ j h. (λ e. clash (R.present l) in_state (ap R.present e ∙ R.state.loops j h))) in
      let t = times_of-append z (boxes_of S L') K in
      omega (arith, b, k, s, q, t)
    where
      one_free : (j : ℕ) → z / 16 ≢ j → (xs : List ℕ) → ((w : ℕ) → 1 ≤ times_in xs w → w / 16 ≡ j) → times_in (names_of (loop_nodes S 0 xs)) z ≡ 0
      one_free j d [] h = refl
      one_free j d (u ∷ []) h = refl
      one_free j d (u ∷ v ∷ xs) h =
          let ys = u ∷ v ∷ xs in
          let a = times_in-append (ys ++ reverse ys) [] z in
          let b = times_in-append ys (reverse ys) z in
          let r = times-reverse z ys in
          let none : times_in ys z ≡ 0 = ⊎_elim (λ (n : times_in ys z ≡ 0). n) (λ n. absurd (let n1 = n.1 in d (h z (omega (arith, n1))))) (zero_or_some (times_in ys z)) in
          omega (arith, a, b, r, none)

      loops_free : (ls : List ℕ) → ((j : ℕ) → is_member ◌==◌ ls j ≡ true → z / 16 ≢ j) → loop_sum S ls z ≡ 0
      loops_free [] h = refl
      loops_free (l ∷ ls) h =
          let a = one_free l (h l (or_left (l == l) _ (eq-eqb l l refl))) (S.first l) (λ w m. first_label colour boxed (projector_of p) w few l m) in
          let b = loops_free ls (λ j m. h j (or_right (j == l) _ m)) in
          omega (arith, a, b)

  -- THE BUNDLES
  before_value : V todo B ≡ W told (closed_boxes ++ rest)
  before_value =
      let F = filter boxed Λ in
      let split : boxes_of S (F ++ L') ≡ boxes_of S F ++ boxes_of S L' = map-append (λ l. box_node 0 (projector_of p (length (S.first l))) (S.first l) (S.second l)) F L' in
      let old = A ++ (boxes_of S L ++ K) in
      let ok_A = arcs_ok (bundles S R.shut) in
      let ok_old = All-append IsNode A (boxes_of S L ++ K) ok_A R.state.nodes in
      let perm = IsPermutation-append_right A (boxes_of S L ++ K) (boxes_of S (F ++ L') ++ K) (IsPermutation-append_left K (boxes_of S L) (boxes_of S (F ++ L')) (IsPermutation-map _ L (F ++ L') perm_L)) in
      ap (λ pairs. V pairs B) (sym (append-nil todo))
      ∙ R.same
      ∙ sym (any_order p.modulus delta free old (A ++ (boxes_of S (F ++ L') ++ K)) ok_old perm)
      ∙ ap (λ ns. W free (A ++ (ns ++ K))) split
      ∙ ap (λ ns. W free (A ++ ns)) (append_assoc (boxes_of S F) (boxes_of S L') K)
      ∙ close_all p colour boxed few R.shut R.closed differ (each_shut (λ l. boxed l ≡ nat_le 2 (colour l)) R.shut whole) Λ_once rest ok_rest shut_free free

  -- ---- the result
  abbrev behind : ℕ
  behind = loop_count S (as_net after)

  behind_is : behind ≡ told
  behind_is =
      let a = loop_count_labels S after ∙ ap (counts S) loops_after ∙ counts-append S (loop_labels items) shut in
      let b = loop_count_labels S items in
      let e = counts_permuted S shut Λ perm_Λ in
      omega (arith, a, b, e)

  abbrev lg' : ℕ
  lg' = count_placed (as_net after) + 1

  abbrev tall : ℕ → Bool
  tall l = nat_le 2 (length (S.first l))

  abbrev shut_boxes : List Node
  shut_boxes = loop_boxes p colour boxed few (filter tall shut)

  sizes_D : AllByRecursion HasItsSlots D
  sizes_D = sizes-halved D (subst (AllByRecursion HasItsSlots) (sym halved_D) after_is.sizes)

  small_boxes : AllByRecursion (λ l. l ≤ 2000000) L'
  small_boxes =
      each_label (λ l. l ≤ 2000000) L' (λ l m.
      let one = times_of_member l L' m in
      let a = first_labels_times boxed [] after l in
      small_after l (crossing_member l (inside (is_member ◌==◌ (crossing_labels after) l) (boxed l && true) (omega (arith, one, a)))))
    where
      inside : (a b : Bool) → 1 ≤ one_if (a && b) → a ≡ true
      inside true b h = refl
      inside false b h = absurd (omega (arith, h))

  same_boxes : IsPermutation (filter tall shut) (filter boxed Λ)
  same_boxes =
      permuted_times (filter boxed Λ) (filter tall shut) (λ l.
      let a = times_in-filter tall shut l in
      let b = times_in-filter boxed Λ l in
      let g = shut_same l in
      ⊎_elim
      (λ (n : times_in Λ l ≡ 0).
      (let i = nothing_left (tall l) (times_in shut l) (omega (arith, g, n)) in let j = nothing_left (boxed l) (times_in Λ l) n in omega (arith, a, b, i, j)))
      (λ n.
      (let n1 = n.1 in
      let w = whole l (omega (arith, n1)) in
      let e : tall l ≡ boxed l = ap (nat_le 2) (long l) ∙ sym w in
      a ∙ ap₂ (λ h k. cond h k 0) e (sym g) ∙ sym b))
      (zero_or_some (times_in Λ l)))
    where
      nothing_left : (h : Bool) (n : ℕ) → n ≡ 0 → cond h n 0 ≡ 0
      nothing_left true n e = e
      nothing_left false n e = refl

  after_value : value p.modulus delta (cable p S (as_net after)) ≡ W told (closed_boxes ++ rest)
  after_value =
      let new = stub_nodes p S [] 1 1 0 lg' D in
      let old = stub_nodes p S gone 1 1 0 lg stubs in
      let P : List Item → Type 0 = λ xs. All IsNode (boxes_of S (first_labels boxed [] xs) ++ stub_nodes p S [] 1 1 0 (count_placed (as_net xs) + 1) D) in
      let same : map without_group (boxes_of S L' ++ old) ≡ map without_group (rest ++ shut_boxes) =
      map-append without_group (boxes_of S L') old
      ∙ ap (λ ns. map without_group (boxes_of S L') ++ ns) (stub_nodes-with_loops p S gone 1 1 0 lg T shut)
      ∙ sym (append_assoc (map without_group (boxes_of S L')) (map without_group K) shut_boxes)
      ∙ ap (λ ns. ns ++ shut_boxes) (sym (map-append without_group (boxes_of S L') K))
      ∙ ap (λ ns. map without_group rest ++ ns) (sym (plain_boxes (filter tall shut)))
      ∙ sym (map-append without_group rest shut_boxes) in
      let ok_shut = loop_boxes_ok p colour boxed few (filter tall shut) in
      let perm = IsPermutation-append_left rest shut_boxes closed_boxes (IsPermutation-map _ (filter tall shut) (filter boxed Λ) same_boxes) in
      stub_cable p colour boxed few after after_is fits_after projectors D halved_D sizes_D once_D
      ∙ dropped_value p colour boxed (projector_of p) few gone p.modulus delta behind lg' lg L' stubs small_boxes (straight-with_loops S T shut R.state.straight)
      (λ w m. kept_small w (ap (λ ns. is_member ◌==◌ ns w) (sym (kept_stubs-with_loops gone 1 T shut)) ∙ m))
      (λ l m. small_after l (loop_member l (ap (λ ns. is_member ◌==◌ ns l) loops_stubs ∙ m)))
      (stub_cable_ok p colour boxed few after after_is fits_after projectors D halved_D sizes_D once_D)
      ∙ (groups delta behind (boxes_of S L' ++ old) (rest ++ shut_boxes) same).values p.modulus
      ∙ ap (λ k. W k (rest ++ shut_boxes)) behind_is
      ∙ ap (λ ns. W told (rest ++ ns)) (sym (append-nil shut_boxes))
      ∙ runs_exchanged p.modulus delta told rest shut_boxes [] ok_rest ok_shut (All-nil IsNode)
      ∙ ap (λ ns. W told (shut_boxes ++ ns)) (append-nil rest)
      ∙ sym (any_order p.modulus delta told (shut_boxes ++ rest) (closed_boxes ++ rest) (All-append IsNode shut_boxes rest ok_shut ok_rest) perm)
    where
      plain_boxes : (ls : List ℕ) → map without_group (loop_boxes p colour boxed few ls) ≡ loop_boxes p colour boxed few ls
      plain_boxes [] = refl
      plain_boxes (l ∷ ls) = ap (λ ns. box_node 0 (projector_of p (length (S.first l))) (S.first l) (reverse (S.first l)) ∷ ns) (plain_boxes ls)

      kept_small : (w : ℕ) → is_member ◌==◌ kept_T w ≡ true → half w ≤ 2000000
      kept_small w m =
          let one = times_of_member w kept_T m in
          let a = stands w in
          R.state.small (half w) (one_shown (R.present (half w)) (times_in kept_T w + times_in Λ (half w)) (omega (arith, one)) a)

      loops_stubs : loop_labels after ≡ loop_labels stubs
      loops_stubs = ap loop_labels (sym halved_D) ∙ loop_labels-halved D ∙ loop_labels-dropped gone 1 stubs

  -- THE VALUE OF THE RESULT
  pub closed_coloured : coloured p (closing (least_label classes) x y (removed gone (least_label classes) items)) colours ≡ V todo B
  unfolding coloured
  closed_coloured = to_S ∙ after_value ∙ sym before_value
