-- A curl on a Loop whose strands have a box: the nodes behind the curl are the crossing in the place of the loop, the box of its label, and the nodes
-- from before without the loop's own box.
use Rattle.std.proofs.Common.{◌≡◌, ◌≢◌, ℕ, ◌+◌, ◌==◌, Bool, true, false, cond, List, [], ◌∷◌, ◌++◌, map, length, refl, sym, ap, ap₂, ◌∙◌, arith, ⊎_elim, subst}
use Rattle.std.specs.List.{AllByRecursion}
use Rattle.std.specs.List.Sorted.{IsPermutation}
use Rattle.std.specs.Set.{is_member}
use Rattle.std.proofs.lemmas.Bool.{cases_Bool, eqb-true}
use Rattle.std.proofs.lemmas.Bool.Decides.{nat_tests}
use Rattle.std.proofs.lemmas.List.{map-append}
use Rattle.std.proofs.lemmas.List.Sorted.{IsPermutation-append_left, IsPermutation-append_right, IsPermutation-map, IsPermutation-trans}
use Rattle.list_lemmas.specs.Times.{times_in}
use Rattle.list_lemmas.proofs.Permuted.{permuted_times}
use Rattle.state_sums.specs.Networks.{Node}
use Rattle.root_quantum.specs.Parameters.{Parameters}
use Rattle.piece_laws.specs.TurnedNodes.{without_group}
use Rattle.pd_reader.specs.declared.item.Item.{Item}
use Rattle.pd_reader.specs.declared.item.Item.TheVariants as item
use Rattle.pd_reader.specs.Items.{HasItsSlots}
use Rattle.planar_check.specs.declared.sign.Sign.{Sign}
use Rattle.cables.specs.CableNodes.{box_node}
use Rattle.cables.specs.Strands.{Strands}
use Rattle.cables.specs.Cables.{start, count_placed, cable_nodes, loop_nodes, as_net}
use Rattle.cables.proofs.Groups.{loop_same}
use Rattle.diagram_moves.specs.Moves.{curl_slots, curled_loop}
use Rattle.diagram_moves.specs.Rewriting.{crossing_labels}
use Rattle.diagram_moves.proofs.Paired.{loop_labels}
use Rattle.coloured_moves.proofs.CurledLoops.{curl_stubs, numbers, same_crossing, stubbed_curled, told}
use Rattle.coloured_moves.proofs.StubItems.{stubbed, seen_after, stub_crossing, stub_nodes, first_labels, boxes_of, moved_out, same_lists, split, ungrouped_boxes}

abbrev U : List Node → List Node
U = map without_group

-- ---- the nodes without those of the loop e
module _ (p : Parameters) (S : Strands) (e : ℕ) where
  abbrev pub bare : ℕ → ℕ → ℕ → ℕ → List Item → List Node
  bare n g i lg [] = []
  bare n g i lg (item.X slots ∷ rest) = stub_crossing p S g i slots ++ bare (n + 1) (g + 1) (i + 1) lg rest
  bare n g i lg (item.Loop l ∷ rest) = cond (l == e) (stub_nodes p S [] n g (i + 1) (lg + 1) rest) (loop_nodes S lg (S.first l) ++ bare n g (i + 1) (lg + 1) rest)

  -- the loop's own nodes come to the front
  loop_out : (D : List Item) (n g i lg : ℕ) → is_member ◌==◌ (loop_labels D) e ≡ true → IsPermutation (U (stub_nodes p S [] n g i lg D)) (U (loop_nodes S 0 (S.first e)) ++ U (bare n g i lg D))
  loop_out [] n g i lg there = absurd (grind (arith, there))
  loop_out (item.X slots ∷ rest) n g i lg there =
      let C = stub_crossing p S g i slots in
      let old = stub_nodes p S [] (n + 1) (g + 1) (i + 1) lg rest in
      let new = bare (n + 1) (g + 1) (i + 1) lg rest in
      let K = U (loop_nodes S 0 (S.first e)) in
      let P : List Node → Type 0 = λ ns. IsPermutation ns (K ++ U (C ++ new)) in
      let Q : List Node → Type 0 = λ ns. IsPermutation (U C ++ U old) (K ++ ns) in
      subst P (sym (map-append without_group C old)) (subst Q (sym (map-append without_group C new)) (moved_out (U C) K (U old) (U new) (loop_out rest (n + 1) (g + 1) (i + 1) lg there)))
  loop_out (item.Loop l ∷ rest) n g i lg there =
      let L = loop_nodes S lg (S.first l) in
      let old = stub_nodes p S [] n g (i + 1) (lg + 1) rest in
      let new = bare n g (i + 1) (lg + 1) rest in
      let K = U (loop_nodes S 0 (S.first e)) in
      let W : Bool → Type 0 = λ b. IsPermutation (U (L ++ old)) (K ++ U (cond b old (L ++ new))) in
      let P : List Node → Type 0 = λ ns. IsPermutation ns (K ++ U (L ++ new)) in
      let Q : List Node → Type 0 = λ ns. IsPermutation (U L ++ U old) (K ++ ns) in
      ⊎_elim
      (λ t.
      let own : U L ≡ K = loop_same p S lg 0 (S.first l) ∙ ap (λ k. U (loop_nodes S 0 (S.first k))) (eqb-true l e t) in
      subst W (sym t) (same_lists _ _ (map-append without_group L old ∙ ap (λ ns. ns ++ U old) own)))
      (λ t.
      subst W (sym t)
      (subst P (sym (map-append without_group L old)) (subst Q (sym (map-append without_group L new))
      (moved_out (U L) K (U old) (U new) (loop_out rest n g (i + 1) (lg + 1) (let s : is_member ◌==◌ (loop_labels rest) e ≡ true = grind (arith, nat_tests, t, there) in s))))))
      (cases_Bool (l == e))

  -- so does the crossing in its place; the index is that of the loop
  crossing_out : (ws : List ℕ) (D : List Item) (n g i lg n' g' lg' : ℕ) → is_member ◌==◌ (loop_labels D) e ≡ true →
      (k : ℕ) × IsPermutation (U (stub_nodes p S [] n g i lg (curled_loop e ws D))) (U (stub_crossing p S 0 k ws) ++ U (bare n' g' i lg' D))
  crossing_out ws [] n g i lg n' g' lg' there = absurd (grind (arith, there))
  crossing_out ws (item.X slots ∷ rest) n g i lg n' g' lg' there =
      let C : ℕ → List Node = λ h. stub_crossing p S h i slots in
      let later = stub_nodes p S [] (n + 1) (g + 1) (i + 1) lg (curled_loop e ws rest) in
      let new = bare (n' + 1) (g' + 1) (i + 1) lg' rest in
      let r = crossing_out ws rest (n + 1) (g + 1) (i + 1) lg (n' + 1) (g' + 1) lg' there in
      let K = U (stub_crossing p S 0 r.0 ws) in
      let P : List Node → Type 0 = λ ns. IsPermutation ns (K ++ U (C g' ++ new)) in
      let Q : List Node → Type 0 = λ ns. IsPermutation (U (C g) ++ U later) (K ++ ns) in (
        r.0,
        subst P (sym (map-append without_group (C g) later))
            (subst Q (ap (λ ns. ns ++ U new) (same_crossing p S g g' i slots) ∙ sym (map-append without_group (C g') new))
            (moved_out (U (C g)) K (U later) (U new) r.1)),
      )
  crossing_out ws (item.Loop l ∷ rest) n g i lg n' g' lg' there =
      let L : ℕ → List Node = λ h. loop_nodes S h (S.first l) in
      let old = stub_nodes p S [] n' g' (i + 1) (lg' + 1) rest in
      let new = bare n' g' (i + 1) (lg' + 1) rest in
      let W : Bool → Type 0 = λ b.
      (k : ℕ) × IsPermutation (U (stub_nodes p S [] n g i lg (cond b (item.X ws ∷ rest) (item.Loop l ∷ curled_loop e ws rest)))) (U (stub_crossing p S 0 k ws) ++ U (cond b old (L lg' ++ new))) in
      ⊎_elim
      (λ t.
      let later = stub_nodes p S [] (n + 1) (g + 1) (i + 1) lg rest in
      subst W (sym t) (
        i,
        same_lists _ _ (map-append without_group (stub_crossing p S g i ws) later ∙ ap₂ (λ xs ys. xs ++ ys) (same_crossing p S g 0 i ws) (numbers p S rest (n + 1) (g + 1) (i + 1) lg n' g' (lg' + 1))),
      ))
      (λ t.
      let later = stub_nodes p S [] n g (i + 1) (lg + 1) (curled_loop e ws rest) in
      let r = crossing_out ws rest n g (i + 1) (lg + 1) n' g' (lg' + 1) (let s : is_member ◌==◌ (loop_labels rest) e ≡ true = grind (arith, nat_tests, t, there) in s) in
      let K = U (stub_crossing p S 0 r.0 ws) in
      let P : List Node → Type 0 = λ ns. IsPermutation ns (K ++ U (L lg' ++ new)) in
      let Q : List Node → Type 0 = λ ns. IsPermutation (U (L lg) ++ U later) (K ++ ns) in
      subst W (sym t) (
        r.0,
        subst P (sym (map-append without_group (L lg) later))
            (subst Q (ap (λ ns. ns ++ U new) (loop_same p S lg lg' (S.first l)) ∙ sym (map-append without_group (L lg') new))
            (moved_out (U (L lg)) K (U later) (U new) r.1)),
      ))
      (cases_Bool (l == e))

-- ---- the nodes of the cables before and behind the curl
module _ (p : Parameters) (S : Strands) (items : List Item) (sizes : AllByRecursion HasItsSlots items) (e n : ℕ) (apart : e ≢ n) (sign : Sign) (there : is_member ◌==◌ (loop_labels items) e ≡ true)
    (out_e : is_member ◌==◌ (crossing_labels items) e ≡ false) (out_n : is_member ◌==◌ (crossing_labels items) n ≡ false) where
  abbrev after : List Item
  after = curled_loop e (curl_slots e e n sign) items

  loop_labels-stubbed : (xs : List Item) (seen : List ℕ) → loop_labels (stubbed seen xs) ≡ loop_labels xs
  loop_labels-stubbed [] seen = refl
  loop_labels-stubbed (item.X slots ∷ rest) seen = loop_labels-stubbed rest (seen_after seen slots)
  loop_labels-stubbed (item.Loop l ∷ rest) seen = ap (λ ls. l ∷ ls) (loop_labels-stubbed rest seen)

  by_stubs : (xs : List Item) → AllByRecursion HasItsSlots xs → IsPermutation (U (cable_nodes p S (start (as_net xs)) (as_net xs))) (boxes_of S (first_labels S.boxed [] xs) ++ U (stub_nodes p S [] 1 1 0 (count_placed (as_net xs) + 1) (stubbed [] xs)))
  by_stubs xs h =
      let st = start (as_net xs) in
      let sn = stub_nodes p S [] 1 1 0 (count_placed (as_net xs) + 1) (stubbed [] xs) in
      let P : List Node → Type 0 = λ ns. IsPermutation (U (cable_nodes p S st (as_net xs))) ns in
      subst P (map-append without_group _ sn ∙ ap (λ ns. ns ++ U sn) (ungrouped_boxes S st xs h)) (IsPermutation-map without_group _ _ (split p S xs st 1 h))

  abbrev stubs_before : List Item
  stubs_before = stubbed [] items

  abbrev lg : ℕ
  lg = count_placed (as_net items) + 1

  in_stubs : is_member ◌==◌ (loop_labels stubs_before) e ≡ true
  in_stubs = ap (λ ls. is_member ◌==◌ ls e) (loop_labels-stubbed items []) ∙ there

  -- what both cables have
  abbrev pub common : List Node
  common = boxes_of S (first_labels S.boxed [] items) ++ U (bare p S e 1 1 0 lg stubs_before)

  -- BEFORE THE CURL
  pub nodes_before : IsPermutation (U (cable_nodes p S (start (as_net items)) (as_net items))) (U (loop_nodes S 0 (S.first e)) ++ common)
  nodes_before =
      let B = boxes_of S (first_labels S.boxed [] items) in
      let old = U (stub_nodes p S [] 1 1 0 lg stubs_before) in
      IsPermutation-trans _ (B ++ old) _ (by_stubs items sizes)
      (moved_out B (U (loop_nodes S 0 (S.first e))) old (U (bare p S e 1 1 0 lg stubs_before)) (loop_out p S e stubs_before 1 1 0 lg in_stubs))

  module _ (sizes_after : AllByRecursion HasItsSlots after) (one_box : (x : ℕ) → times_in (first_labels S.boxed [] after) x ≡ times_in (e ∷ first_labels S.boxed [] items) x) where
    abbrev box_e : Node
    box_e = box_node 0 (S.box (length (S.first e))) (S.first e) (S.second e)

    -- BEHIND THE CURL
    pub nodes_behind : (k : ℕ) × IsPermutation (U (cable_nodes p S (start (as_net after)) (as_net after))) (U (stub_crossing p S 0 k (curl_stubs e n sign)) ++ (box_e ∷ common))
    nodes_behind =
        let B : List Item → List Node = λ xs. boxes_of S (first_labels S.boxed [] xs) in
        let lga = count_placed (as_net after) + 1 in
        let ws = curl_stubs e n sign in
        let new = U (stub_nodes p S [] 1 1 0 lga (stubbed [] after)) in
        let are : stubbed [] after ≡ curled_loop e ws stubs_before = stubbed_curled e n (curl_slots e e n sign) ws (told e n apart sign) items [] refl refl out_e out_n in
        let r = crossing_out p S e ws stubs_before 1 1 0 lga 1 1 lg in_stubs in
        let K = U (stub_crossing p S 0 r.0 ws) in
        let left = U (bare p S e 1 1 0 lg stubs_before) in
        let Q : List Item → Type 0 = λ D. IsPermutation (U (stub_nodes p S [] 1 1 0 lga D)) (K ++ left) in
        let inner : IsPermutation new (K ++ left) = subst Q (sym are) r.1 in
        let boxes : IsPermutation (B after) (box_e ∷ B items) = IsPermutation-map _ _ _ (permuted_times (e ∷ first_labels S.boxed [] items) (first_labels S.boxed [] after) one_box) in (
          r.0,
          IsPermutation-trans _ (B after ++ new) _ (by_stubs after sizes_after)
              (IsPermutation-trans (B after ++ new) (K ++ (B after ++ left)) _ (moved_out (B after) K new left inner)
              (IsPermutation-append_right K (B after ++ left) _ (IsPermutation-append_left left (B after) (box_e ∷ B items) boxes))),
        )
