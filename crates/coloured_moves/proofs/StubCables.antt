-- A diagram whose stubs stand in any order, as after a move: where each stub stands at most once, the cable of its labels has the value of
-- its boxes and of its crossings by stubs. For places that are exchanged change no value, and a projector does not tell its sides.
use Rattle.std.proofs.Common.{◌≡◌, ℕ, ◌+◌, ◌<◌, ◌≤◌, ◌==◌, ◌&&◌, Bool, true, false, cond, List, [], ◌∷◌, ◌++◌, map, length, refl, sym, ap, ◌∙◌, arith, All, subst, append-nil}
use Rattle.std.specs.List.{AllByRecursion}
use Rattle.std.specs.List.Sorted.{IsPermutation}
use Rattle.std.specs.Set.{is_member}
use Rattle.std.proofs.lemmas.List.{map-append}
use Rattle.std.proofs.lemmas.List.Elements.{All-append, All-weaker}
use Rattle.std.proofs.lemmas.List.Sorted.{All-permutation}
use Rattle.list_lemmas.specs.Times.{times_in}
use Rattle.list_lemmas.proofs.Times.{times_of_member}
use Rattle.state_sums.specs.Networks.{Node, IsNode, names_of}
use Rattle.state_sums.specs.StateSums.{value}
use Rattle.state_sums.proofs.NetworkLaws.{any_order}
use Rattle.root_quantum.specs.Parameters.{Parameters}
use Rattle.root_quantum.specs.QuantumNumbers.{loop_value}
use Rattle.strand_algebra.specs.Projectors.{IsProjector}
use Rattle.pd_reader.specs.declared.item.Item.{Item}
use Rattle.pd_reader.specs.declared.item.Item.TheVariants as item
use Rattle.pd_reader.specs.Items.{HasItsSlots}
use Rattle.pd_reader.specs.Diagrams.{IsDiagram}
use Rattle.cables.specs.Cables.{start, count_placed, cable, cable_nodes, loop_count, Fits, as_net}
use Rattle.cables.specs.Nets.{projector_of, HasProjector}
use Rattle.cables.specs.Strands.{Strands, strands_of}
use Rattle.cables.proofs.CableIsNodes.{IsGood, cable_good}
use Rattle.cables.proofs.CableLaws.{cable_network}
use Rattle.cables.proofs.ExchangedPlaces.{exchanged_places}
use Rattle.cables.proofs.NameCounts.{times_of-append}
use Rattle.cables.proofs.NumberedStrands.{as_many_strands, first_length}
use Rattle.cables.proofs.PlaceNames.{AreAsMany}
use Rattle.cables.proofs.ProjectorBoxes.{projector_boxes}
use Rattle.coloured_values.proofs.CabledDiagrams.{IsNet-as_net}
use Rattle.coloured_values.proofs.ColouredLaws.{each_label}
use Rattle.diagram_moves.specs.Rewriting.{crossing_labels}
use Rattle.diagram_moves.proofs.Paired.{loop_labels}
use Rattle.move_results.proofs.DiagramResults.{as_paired}
use Rattle.cable_crossings.proofs.CabledBigon.{names_of-ungrouped}
use Rattle.cable_crossings.proofs.StepPieces.{member_of_one, All-second}
use Rattle.coloured_moves.proofs.ExchangedStubs.{second_first, turned_strands, exchanged_stubs, first_after}
use Rattle.coloured_moves.proofs.LabelColours.{loop_out, loop_count_labels, counts_same}
use Rattle.coloured_moves.proofs.StubItems.{half, stubbed, halved, stub_nodes, first_boxes, boxes_of, first_labels, split, ungrouped_boxes, first_labels_times}
use Rattle.coloured_moves.proofs.TurnedBoxes.{names_permuted, boxes_ok, turned_boxes, ungrouped_value}

-- ---- shapes
pub crossing_labels-halved : (items : List Item) → crossing_labels (halved items) ≡ map half (crossing_labels items)
crossing_labels-halved [] = refl
crossing_labels-halved (item.X ws ∷ rest) = ap (λ ns. map half ws ++ ns) (crossing_labels-halved rest) ∙ sym (map-append half ws (crossing_labels rest))
crossing_labels-halved (item.Loop l ∷ rest) = crossing_labels-halved rest

pub loop_labels-halved : (items : List Item) → loop_labels (halved items) ≡ loop_labels items
loop_labels-halved [] = refl
loop_labels-halved (item.X ws ∷ rest) = loop_labels-halved rest
loop_labels-halved (item.Loop l ∷ rest) = ap (λ ls. l ∷ ls) (loop_labels-halved rest)

-- strands in other places fit, too
fits_same : (strands others : Strands) → ((l : ℕ) → length (others.first l) ≡ length (strands.first l)) → (items : List Item) → AllByRecursion HasItsSlots items → AllByRecursion (Fits strands) (as_net items) → AllByRecursion (Fits others) (as_net items)
fits_same strands others same [] sizes h = tt
fits_same strands others same (item.Loop l ∷ rest) sizes h = (tt, fits_same strands others same rest sizes.1 h.1)
fits_same strands others same (item.X (a ∷ b ∷ c ∷ d ∷ []) ∷ rest) sizes h = ((same a ∙ h.0.0 ∙ sym (same c), same b ∙ h.0.1 ∙ sym (same d)), fits_same strands others same rest sizes.1 h.1)
fits_same strands others same (item.X [] ∷ rest) sizes h = absurd (omega (arith, sizes.0))
fits_same strands others same (item.X (a ∷ []) ∷ rest) sizes h = absurd (omega (arith, sizes.0))
fits_same strands others same (item.X (a ∷ b ∷ []) ∷ rest) sizes h = absurd (omega (arith, sizes.0))
fits_same strands others same (item.X (a ∷ b ∷ c ∷ []) ∷ rest) sizes h = absurd (omega (arith, sizes.0))
fits_same strands others same (item.X (a ∷ b ∷ c ∷ d ∷ e ∷ slots) ∷ rest) sizes h = absurd (omega (arith, sizes.0))

module _ (p : Parameters) (colour : ℕ → ℕ) (boxed : ℕ → Bool) (few : (l : ℕ) → colour l ≤ 8) (items : List Item) (is : IsDiagram items)
    (fits : AllByRecursion (Fits (strands_of colour boxed (projector_of p))) (as_net items)) (projectors : (l : ℕ) → boxed l ≡ true → HasProjector p (colour l))
    (D : List Item) (halved_D : halved D ≡ items) (sizes_D : AllByRecursion HasItsSlots D) (once_D : (w : ℕ) → times_in (crossing_labels D) w ≤ 1) where
  abbrev delta : ℕ
  delta = loop_value p

  abbrev S : Strands
  S = strands_of colour boxed (projector_of p)

  long : (l : ℕ) → length (S.first l) ≡ colour l
  long l = first_length colour boxed (projector_of p) l

  even : AreAsMany S
  even = as_many_strands colour boxed (projector_of p)

  -- ---- exchanged places
  abbrev chosen : ℕ → Bool
  chosen = second_first (crossing_labels D)

  abbrev E : Strands
  E = turned_strands S (crossing_labels D) once_D

  long_E : (l : ℕ) → length (E.first l) ≡ length (S.first l)
  long_E l = elim (chosen l) as (λ b. length (cond b (S.second l) (S.first l)) ≡ length (S.first l)) [ true ↦ even l | false ↦ refl ]

  even_E : AreAsMany E
  even_E l = elim (chosen l) as (λ b. length (cond b (S.first l) (S.second l)) ≡ length (cond b (S.second l) (S.first l))) [ true ↦ sym (even l) | false ↦ even l ]

  abbrev nodes_E : List Node
  nodes_E = cable_nodes p E (start (as_net items)) (as_net items)

  ok_E : All IsNode nodes_E
  ok_E =
      All-weaker (IsGood p.modulus) IsNode (λ node g. g.is_node) nodes_E
      (cable_good p E even_E (λ l. (let a = long_E l in let b = long l in let c = few l in omega (arith, a, b, c))) (projector_boxes p) (as_net items) (start (as_net items)) (fits_same S E long_E items is.sizes fits))

  exchanged_value : value p.modulus delta (cable p E (as_net items)) ≡ value p.modulus delta (cable p S (as_net items))
  exchanged_value = exchanged_places p colour boxed (projector_of p) (as_net items) chosen p.modulus delta (IsNet-as_net items is) few (projector_boxes p) fits

  -- ---- the loops stay
  loop_still : (l : ℕ) → is_member ◌==◌ (loop_labels items) l ≡ true → E.first l ≡ S.first l
  loop_still l m =
      let all = crossing_labels D in
      let out : is_member ◌==◌ (map half all) l ≡ false = ap (λ ns. is_member ◌==◌ ns l) (sym (crossing_labels-halved D) ∙ ap crossing_labels halved_D) ∙ loop_out items (as_paired items is) l m in
      let none : chosen l ≡ false = ap (λ ws. second_first ws l) (sym (append-nil all)) ∙ first_after all [] l out in
      ap (λ b. cond b (S.second l) (S.first l)) none

  still : AllByRecursion (λ l. E.first l ≡ S.first l) (loop_labels items)
  still = each_label (λ l. E.first l ≡ S.first l) (loop_labels items) loop_still

  still_D : AllByRecursion (λ l. E.first l ≡ S.first l) (loop_labels D)
  still_D = subst (AllByRecursion (λ l. E.first l ≡ S.first l)) (sym (ap loop_labels halved_D) ∙ loop_labels-halved D) still

  abbrev pub free : ℕ
  free = loop_count S (as_net items)

  free_E : loop_count E (as_net items) ≡ free
  free_E = loop_count_labels E items ∙ counts_same S E (loop_labels items) still ∙ sym (loop_count_labels S items)

  abbrev V : List Node → ℕ
  V ns = value p.modulus delta record { nodes = ns; free_loops = free }

  -- ---- boxes, and crossings by stubs
  abbrev pub labels_boxed : List ℕ
  labels_boxed = first_labels boxed [] items

  abbrev pub crossings : List Node
  crossings = stub_nodes p S [] 1 1 0 (count_placed (as_net items) + 1) D

  abbrev boxes_E : List Node
  boxes_E = first_boxes E (start (as_net items)) items

  abbrev stubs_E : List Node
  stubs_E = stub_nodes p E [] 1 1 0 (count_placed (as_net items) + 1) (stubbed [] items)

  stubs_are : stubs_E ≡ crossings
  stubs_are =
      ap (λ xs. stub_nodes p E [] 1 1 0 (count_placed (as_net items) + 1) (stubbed [] xs)) (sym halved_D)
      ∙ exchanged_stubs S (crossing_labels D) once_D p [] [] [] 1 1 0 (count_placed (as_net items) + 1) D sizes_D refl (λ y. refl) still_D

  perm_E : IsPermutation nodes_E (boxes_E ++ stubs_E)
  perm_E = split p E items (start (as_net items)) 1 is.sizes

  ok_crossings : All IsNode crossings
  ok_crossings = subst (All IsNode) stubs_are (All-second IsNode boxes_E stubs_E (All-permutation IsNode nodes_E (boxes_E ++ stubs_E) perm_E ok_E))

  pub stub_cable_ok : All IsNode (boxes_of S labels_boxed ++ crossings)
  stub_cable_ok = All-append IsNode (boxes_of S labels_boxed) crossings (boxes_ok p.modulus delta S (projector_boxes p) even labels_boxed) ok_crossings

  some_modulus : 0 < p.modulus
  some_modulus = let m = p.meets.modulus.0 in omega (arith, m)

  few_S : (l : ℕ) → length (S.first l) ≤ 8
  few_S l = let a = long l in let b = few l in omega (arith, a, b)

  box_projector : (l : ℕ) → is_member ◌==◌ labels_boxed l ≡ true → IsProjector p.modulus delta (length (S.first l)) (projector_of p (length (S.first l)))
  box_projector l m =
      let one = times_of_member l labels_boxed m in
      let t = first_labels_times boxed [] items l in
      let b : boxed l ≡ true = test (is_member ◌==◌ (crossing_labels items) l) (boxed l) (omega (arith, one, t)) in
      subst (λ n. IsProjector p.modulus delta n (projector_of p n)) (sym (long l)) (projectors l b)
    where
      test : (a b : Bool) → 1 ≤ cond (a && (b && true)) 1 0 → b ≡ true
      test true true h = refl
      test true false h = absurd (omega (arith, h))
      test false b h = absurd (omega (arith, h))

  -- A CABLE BY ITS STUBS
  pub stub_cable : value p.modulus delta (cable p S (as_net items)) ≡ V (boxes_of S labels_boxed ++ crossings)
  stub_cable =
      sym exchanged_value
      ∙ ap (λ n. value p.modulus delta record { nodes = nodes_E; free_loops = n }) free_E
      ∙ sym (any_order p.modulus delta free nodes_E (boxes_E ++ stubs_E) ok_E perm_E)
      ∙ ap (λ ns. V (boxes_E ++ ns)) stubs_are
      ∙ ungrouped_value p.modulus delta free E (start (as_net items)) items crossings is.sizes
      ∙ turned_boxes p.modulus delta S (projector_boxes p) even some_modulus few_S chosen free labels_boxed crossings ok_crossings
      (each_label (λ l. IsProjector p.modulus delta (length (S.first l)) (projector_of p (length (S.first l)))) labels_boxed box_projector)

-- ---- names, where the stubs stand as in the diagram
module _ (p : Parameters) (colour : ℕ → ℕ) (boxed : ℕ → Bool) (few : (l : ℕ) → colour l ≤ 8) (items : List Item) (is : IsDiagram items) (fits : AllByRecursion (Fits (strands_of colour boxed (projector_of p))) (as_net items)) where
  abbrev strands : Strands
  strands = strands_of colour boxed (projector_of p)

  abbrev nodes : List Node
  nodes = cable_nodes p strands (start (as_net items)) (as_net items)

  -- A NAME STANDS TWICE
  pub stubs_twice : (z : ℕ) → 1 ≤ times_in (names_of (boxes_of strands (first_labels boxed [] items) ++ stub_nodes p strands [] 1 1 0 (count_placed (as_net items) + 1) (stubbed [] items))) z →
      times_in (names_of (boxes_of strands (first_labels boxed [] items) ++ stub_nodes p strands [] 1 1 0 (count_placed (as_net items) + 1) (stubbed [] items))) z ≡ 2
  stubs_twice z one =
      let small = cable_network p colour boxed (projector_of p) (as_net items) (IsNet-as_net items is) few (projector_boxes p) fits in
      let boxes = first_boxes strands (start (as_net items)) items in
      let told = boxes_of strands (first_labels boxed [] items) in
      let crossings = stub_nodes p strands [] 1 1 0 (count_placed (as_net items) + 1) (stubbed [] items) in
      let b = names_permuted z nodes (boxes ++ crossings) (split p strands items (start (as_net items)) 1 is.sizes) in
      let u = times_of-append z told crossings in
      let v = times_of-append z boxes crossings in
      let same : names_of told ≡ names_of boxes = ap names_of (sym (ungrouped_boxes strands (start (as_net items)) items is.sizes)) ∙ names_of-ungrouped boxes in
      let w = ap (λ ns. times_in ns z) same in
      let t = small.is_network.twice z (member_of_one z (names_of nodes) (omega (arith, one, b, u, v, w))) in
      omega (arith, b, u, v, w, t)
