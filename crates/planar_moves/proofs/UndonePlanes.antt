-- The results of CurlUndo and R2Undo are planar: each crossing that goes is smoothed.
use Rattle.std.proofs.Common.{◌≡◌, ◌≢◌, ◌⊎◌, ◌≤◌, ◌<◌, ltb, ℕ, ◌+◌, ◌/◌, ◌%◌, ◌==◌, ◌&&◌, cond, not, List, [], ◌∷◌, length, slice_index, Some, sym, ap, ◌∙◌, subst, arith, ⊎_elim, Contains}
use Rattle.std.specs.List.{find, filter}
use Rattle.std.specs.Set.{is_member}
use Rattle.std.proofs.lemmas.Bool.{eq-eqb, eqb-true, and_parts}
use Rattle.std.proofs.lemmas.Bool.Decides.{nat_tests}
use Rattle.graph_parts.specs.LeastNames.{least_label}
use Rattle.graph_parts.specs.Walks.{along}
use Rattle.graph_parts.proofs.LeastLabels.{least_label-Joined}
use Rattle.graph_parts.proofs.Walks.{Contains-head, Contains-later}
use Rattle.pd_reader.specs.declared.item.Item.{Item}
use Rattle.planar_check.specs.declared.sign.Sign.TheVariants as signs
use Rattle.planar_check.specs.Places.{item_slots, place_labels, other_place}
use Rattle.planar_check.specs.Planar.{IsPlanar}
use Rattle.planar_check.proofs.OppositePlaces.{only_other}
use Rattle.script_reader.specs.declared.step.Step.TheVariants.{R2Undo, CurlUndo}
use Rattle.diagram_moves.specs.declared.fault.MoveFault.TheVariants.{NoCrossing, NotBigon, NotCurl}
use Rattle.diagram_moves.specs.Laws.{IsPairedDiagram}
use Rattle.diagram_moves.specs.Moves.{plain, is_bigon, bigon_classes, slot_pairs, four, is_curl, curl_classes, curl_of, closing, removed, two_labels}
use Rattle.diagram_moves.specs.Rewriting.{slot, crossing_at, crossing_labels}
use Rattle.diagram_moves.specs.Steps.{Moved}
use Rattle.diagram_moves.proofs.Accepted.{given_Ok, unless_Ok, finished_Ok, passing_test, small_pair, small_pairs, small_slots}
use Rattle.diagram_moves.proofs.PlaceLemmas.{place_labels_are, other_place_of}
use Rattle.move_results.proofs.FaceSteps.{number_from}
use Rattle.move_results.proofs.PairedResults.{paired_again}
use Rattle.rotation_parts.specs.Rotations.{exchanged}
use Rattle.planar_forms.proofs.PlacePairs.{other_is, label_twice}
use Rattle.planar_moves.specs.Laws.{CurlUndoPlanarLaw, PullPlanarLaw}
use Rattle.planar_moves.proofs.KeptPlaces.{removed_from, count_labels, last_number, label_at, closed_labels}
use Rattle.planar_moves.proofs.RemovedCrossings.{kept_is}
use Rattle.planar_moves.proofs.SmoothedCrossings.{corner_place, one_smoothed, two_smoothed}

-- the label at a corner
pub corner_label : (items : List Item) (c i : ℕ) (slots : List ℕ) → IsPairedDiagram items → crossing_at items c ≡ Some slots → slice_index (place_labels items) (corner_place c i) ≡ slot slots i
corner_label items c i slots pd found =
    ap (λ ns. slice_index ns (corner_place c i)) (place_labels_are items) ∙ label_at 1 items c slots (i % 4) pd.sizes found (omega arith)

pub corner_low : (items : List Item) (c i : ℕ) (slots : List ℕ) → IsPairedDiagram items → crossing_at items c ≡ Some slots → corner_place c i < length (place_labels items)
corner_low items c i slots pd found =
    let low = number_from 1 items c slots found in
    let high = last_number 1 items c slots found in
    let long = ap length (place_labels_are items) ∙ count_labels items pd.sizes in
    omega (arith, low, high, long)

-- one slot, four further
come_round : (slots : List ℕ) (i j : ℕ) → i % 4 ≡ j % 4 → slot slots i ≡ slot slots j
come_round slots i j e = ap (slice_index slots) e

-- labels of the result
closing_labels : (label : ℕ → ℕ) (x y : ℕ) (gone : List ℕ) (items : List Item) → place_labels (closing label x y (removed gone label items)) ≡ crossing_labels (removed_from gone label 1 items)
closing_labels label x y gone items =
    let left = removed_from gone label 1 items in
    place_labels_are (closing label x y left) ∙ closed_labels left (filter (λ least. not (is_member ◌==◌ (crossing_labels left) least)) (two_labels (label x) (label y)))

pub same_labels : (items : List Item) (x : ℕ) → x < length (place_labels items) → slice_index (place_labels items) (other_place (place_labels items) x) ≡ slice_index (place_labels items) x
same_labels items x l = (other_place_of (place_labels items) x l).1

pub curl_undo_planar : CurlUndoPlanarLaw
curl_undo_planar items c moved pd planar h =
    let h1 = given_Ok (crossing_at items c) (NoCrossing c) _ moved h in
    let here = h1.0 in
    let found = h1.1 in
    let h2 = given_Ok (find (is_curl here) four) NotCurl _ moved h1.2 in
    let s = h2.0 in
    let test = passing_test (is_curl here) (λ i. ltb i 4) four s h2.1 small_slots in
    let pairs = curl_classes here s in
    let label : ℕ → ℕ = least_label pairs in
    let after = closing label (slot here s) (slot here s) (removed (c ∷ []) label items) in
    let is : moved.items ≡ after = ap (λ (w : Moved). w.items) (finished_Ok (curl_of (cond (s % 2 == 0) signs.Minus signs.Plus)) after moved h2.2) in
    let P : List Item → Type 0 = λ (w : List Item). IsPairedDiagram w in
    let Q : List Item → Type 0 = λ (w : List Item). IsPlanar item_slots w in
    let pd2 : IsPairedDiagram after = subst P is (paired_again items (CurlUndo c) moved pd h) in
    let at = λ (i : ℕ). corner_label items c i here pd found in
    let x = slot here s in
    let next : x ≡ slot here (s + 1) = eqb-true x (slot here (s + 1)) test.0 in
    let one : label x ≡ label (slot here (s + 2)) = (least_label-Joined pairs x (slot here (s + 2))).1 (along (Contains-head (x, slot here (s + 2)) ((x, slot here (s + 3)) ∷ []))) in
    let two : label x ≡ label (slot here (s + 3)) = (least_label-Joined pairs x (slot here (s + 3))).1 (along (Contains-later (x, slot here (s + 2)) (x, slot here (s + 3)) ((x, slot here (s + 3)) ∷ []) (Contains-head (x, slot here (s + 3)) []))) in
    subst Q (sym is)
    (one_smoothed items pd planar c s here found after pd2 label (closing_labels label x x (c ∷ []) items)
    (ap label (at (s + 1)) ∙ (ap label (sym next) ∙ (one ∙ ap label (sym (at (s + 2))))))
    (ap label (at (s + 3)) ∙ (sym two ∙ ap label (sym (at s))))
    (same_labels items))

-- ---- R2Undo: the labels of the two inner edges are exchanged
module _ (items : List Item) (pd : IsPairedDiagram items) (c d s t : ℕ) (here there : List ℕ) (found : crossing_at items c ≡ Some here) (also : crossing_at items d ≡ Some there) (apart : d ≢ c)
    (first : slot here s ≡ slot there t) (second : slot here (s + 3) ≡ slot there (t + 1)) where
  abbrev ls : List ℕ
  ls = place_labels items

  abbrev x : ℕ
  x = slot here s

  abbrev y : ℕ
  y = slot there (t + 1)

  at_c : (i : ℕ) → slice_index ls (corner_place c i) ≡ slot here i
  at_c i = corner_label items c i here pd found

  at_d : (i : ℕ) → slice_index ls (corner_place d i) ≡ slot there i
  at_d i = corner_label items d i there pd also

  low_c : 1 ≤ c
  low_c = number_from 1 items c here found

  low_d : 1 ≤ d
  low_d = number_from 1 items d there also

  -- a place with the label of a place p, whose edge leads to q, is p or q
  only_two : (p q r z : ℕ) → p < length ls → q < length ls → r < length ls → p ≢ q → slice_index ls p ≡ z → slice_index ls q ≡ z → slice_index ls r ≡ z → (r ≡ p) ⊎ (r ≡ q)
  only_two p q r z lp lq lr ne ep eq er =
      let o = other_is ls p q lp lq ne (ep ∙ sym eq) (label_twice items pd p lp) in
      let P : ℕ → Type 0 = λ w. (r ≡ p) ⊎ (r ≡ w) in
      subst P o (only_other ls p lp (label_twice items pd p lp) r lr (er ∙ sym ep))

  -- only at its two corners
  only_x : (r : ℕ) → r < length ls → slice_index ls r ≡ x → (r ≡ corner_place c s) ⊎ (r ≡ corner_place d t)
  only_x r l e = only_two (corner_place c s) (corner_place d t) r x (corner_low items c s here pd found) (corner_low items d t there pd also) l
      (λ w. apart (omega (arith, w, low_c, low_d))) (at_c s) (at_d t ∙ sym first) e

  only_y : (r : ℕ) → r < length ls → slice_index ls r ≡ y → (r ≡ corner_place c (s + 3)) ⊎ (r ≡ corner_place d (t + 1))
  only_y r l e = only_two (corner_place c (s + 3)) (corner_place d (t + 1)) r y (corner_low items c (s + 3) here pd found) (corner_low items d (t + 1) there pd also) l
      (λ w. apart (omega (arith, w, low_c, low_d))) (at_c (s + 3) ∙ second) (at_d (t + 1)) e

  differ : x ≢ y
  differ e =
      ⊎_elim (λ w. absurd (omega (arith, w))) (λ w. apart (omega (arith, w, low_c, low_d)))
      (only_y (corner_place c s) (corner_low items c s here pd found) (at_c s ∙ e))

  abbrev swapped : ℕ → ℕ
  swapped p = exchanged x y (slice_index ls p)

  at_x : (p : ℕ) → slice_index ls p ≡ x → swapped p ≡ y
  at_x p e = let w = eq-eqb (slice_index ls p) x e in grind (arith, w)

  at_y : (p : ℕ) → slice_index ls p ≡ y → swapped p ≡ x
  at_y p e = let w = eq-eqb (slice_index ls p) y e in let n = differ in grind (arith, nat_tests, w, n, e)

  elsewhere : (p : ℕ) → p < length ls → p ≢ corner_place c s → p ≢ corner_place d t → p ≢ corner_place c (s + 3) → p ≢ corner_place d (t + 1) → swapped p ≡ slice_index ls p
  elsewhere p l a b e f =
      let nx : slice_index ls p ≢ x = λ w. ⊎_elim a b (only_x p l w) in
      let ny : slice_index ls p ≢ y = λ w. ⊎_elim e f (only_y p l w) in
      grind (arith, nat_tests, nx, ny)

  swapped_c : (i : ℕ) → i % 4 ≢ s % 4 → i % 4 ≢ (s + 3) % 4 → swapped (corner_place c i) ≡ slot here i
  swapped_c i a b =
      elsewhere (corner_place c i) (corner_low items c i here pd found) (omega (arith, a)) (λ w. apart (omega (arith, w, low_c, low_d))) (omega (arith, b)) (λ w. apart (omega (arith, w, low_c, low_d))) ∙ at_c i

  swapped_d : (i : ℕ) → i % 4 ≢ t % 4 → i % 4 ≢ (t + 1) % 4 → swapped (corner_place d i) ≡ slot there i
  swapped_d i a b =
      elsewhere (corner_place d i) (corner_low items d i there pd also) (λ w. apart (omega (arith, w, low_c, low_d))) (omega (arith, a)) (λ w. apart (omega (arith, w, low_c, low_d))) (omega (arith, b)) ∙ at_d i

  module _ (planar : IsPlanar item_slots items) (label : ℕ → ℕ) (after : List Item) (pd2 : IsPairedDiagram after) (labels : place_labels after ≡ crossing_labels (removed_from (d ∷ c ∷ []) label 1 items))
      (xc : label x ≡ label (slot here (s + 2))) (xd : label x ≡ label (slot there (t + 2))) (yc : label y ≡ label (slot here (s + 1))) (yd : label y ≡ label (slot there (t + 3))) where
    bigon_planar : IsPlanar item_slots after
    bigon_planar =
        let mark : ℕ → ℕ = λ p. label (swapped p) in
        two_smoothed items pd planar c (s + 3) here found d t there also apart after pd2 label mark labels (
          ap label (at_y (corner_place d (t + 1)) (at_d (t + 1))) ∙ (xd ∙ ap label (sym (swapped_d (t + 2) (omega arith) (omega arith)))),
          (
            ap label (swapped_d (t + 3) (omega arith) (omega arith)) ∙ (sym yd ∙ ap label (sym (at_x (corner_place d t) (at_d t ∙ sym first)))),
            (
              ap label (at_x (corner_place c (s + 3 + 1)) (at_c (s + 3 + 1) ∙ come_round here (s + 3 + 1) s (omega arith)))
                  ∙ (yc ∙ ap label (sym (swapped_c (s + 3 + 2) (omega arith) (omega arith) ∙ come_round here (s + 3 + 2) (s + 1) (omega arith)))),
              (
                ap label (swapped_c (s + 3 + 3) (omega arith) (omega arith) ∙ come_round here (s + 3 + 3) (s + 2) (omega arith))
                    ∙ (sym xc ∙ ap label (sym (at_y (corner_place c (s + 3)) (at_c (s + 3) ∙ second)))),
                tt,
              ),
            ),
          ),
        )
        (λ p l. ap (λ z. label (exchanged x y z)) (same_labels items p l))
        (λ p m.
        let r = kept_is items (d ∷ c ∷ []) p m in
        let out = r.1 in
        let nd : p / 4 + 1 ≢ d = λ e. (let w = eq-eqb (p / 4 + 1) d e in grind (arith, w, out)) in
        let nc : p / 4 + 1 ≢ c = λ e. (let w = eq-eqb (p / 4 + 1) c e in grind (arith, w, out)) in
        ap label (elsewhere p r.0 (λ e. nc (omega (arith, e, low_c))) (λ e. nd (omega (arith, e, low_d))) (λ e. nc (omega (arith, e, low_c))) (λ e. nd (omega (arith, e, low_d)))))

pub pull_planar : PullPlanarLaw
pull_planar items c d moved pd planar h =
    let h1 = given_Ok (crossing_at items c) (NoCrossing c) _ moved h in
    let here = h1.0 in
    let h2 = given_Ok (crossing_at items d) (NoCrossing d) _ moved h1.2 in
    let there = h2.0 in
    let h3 = unless_Ok (c == d) NotBigon _ moved h2.2 in
    let h4 = given_Ok (find (is_bigon here there) slot_pairs) NotBigon _ moved h3.1 in
    let at = h4.0 in
    let s = at.0 in
    let t = at.1 in
    let test = passing_test (is_bigon here there) small_pair slot_pairs at h4.1 small_pairs in
    let pairs = bigon_classes here there at in
    let label : ℕ → ℕ = least_label pairs in
    let x = slot here s in
    let y = slot there (t + 1) in
    let after = closing label x y (removed (d ∷ c ∷ []) label items) in
    let is : moved.items ≡ after = ap (λ (w : Moved). w.items) (finished_Ok plain after moved h4.2) in
    let P : List Item → Type 0 = λ (w : List Item). IsPairedDiagram w in
    let Q : List Item → Type 0 = λ (w : List Item). IsPlanar item_slots w in
    let pd2 : IsPairedDiagram after = subst P is (paired_again items (R2Undo c d) moved pd h) in
    let apart : d ≢ c = λ e. (let w = eq-eqb c d (sym e) in let n = h3.0 in grind (arith, w, n)) in
    let p = and_parts (slot here s == slot there t) (slot here (s + 3) == slot there (t + 1) && s % 2 == t % 2) test.0 in
    let q = and_parts (slot here (s + 3) == slot there (t + 1)) (s % 2 == t % 2) p.1 in
    let e1 : ℕ × ℕ = (x, slot here (s + 2)) in
    let e2 : ℕ × ℕ = (x, slot there (t + 2)) in
    let e3 : ℕ × ℕ = (y, slot here (s + 1)) in
    let e4 : ℕ × ℕ = (y, slot there (t + 3)) in
    let last : List (ℕ × ℕ) = e4 ∷ [] in
    let joined : (a b : ℕ) → Contains {X = ℕ × ℕ} pairs (a, b) → label a ≡ label b = λ a b j. (least_label-Joined pairs a b).1 (along j) in
    subst Q (sym is)
    (bigon_planar items pd c d s t here there h1.1 h2.1 apart (eqb-true (slot here s) (slot there t) p.0) (eqb-true (slot here (s + 3)) (slot there (t + 1)) q.0) planar label after pd2 (closing_labels label x y (d ∷ c ∷ []) items)
    (joined x (slot here (s + 2)) (Contains-head e1 (e2 ∷ e3 ∷ last)))
    (joined x (slot there (t + 2)) (Contains-later e1 e2 (e2 ∷ e3 ∷ last) (Contains-head e2 (e3 ∷ last))))
    (joined y (slot here (s + 1)) (Contains-later e1 e3 (e2 ∷ e3 ∷ last) (Contains-later e2 e3 (e3 ∷ last) (Contains-head e3 last))))
    (joined y (slot there (t + 3)) (Contains-later e1 e4 (e2 ∷ e3 ∷ last) (Contains-later e2 e4 (e3 ∷ last) (Contains-later e3 e4 last (Contains-head e4 []))))))
