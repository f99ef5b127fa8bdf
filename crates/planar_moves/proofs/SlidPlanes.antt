-- The result of R3 is planar exactly where the diagram is: its places are those before under other names, with one side of the triangle slid.
use Rattle.std.proofs.Common.{◌≡◌, ◌≢◌, ◌↔◌, ◌≤◌, ◌<◌, ℕ, ◌+◌, ◌-◌, ◌*◌, ◌/◌, ◌%◌, ◌==◌, ◌||◌, Bool, true, false, cond, List, [], ◌∷◌, length, slice_index, Some, refl, sym, ap, ◌∙◌, subst, arith, ⊎_elim}
use Rattle.std.specs.List.{range_with_len, find}
use Rattle.std.proofs.lemmas.Bool.{eq-eqb, eqb-true, cases_Bool}
use Rattle.std.proofs.lemmas.Bool.Decides.{nat_tests}
use Rattle.graph_parts.proofs.Numbered.{numbered-member as in_range, is_member-numbered as range_has}
use Rattle.graph_parts.specs.Parts.{part_count}
use Rattle.pd_reader.specs.declared.item.Item.{Item}
use Rattle.planar_check.specs.Places.{item_slots, place_labels, other_place}
use Rattle.planar_check.specs.Planar.{IsPlanar}
use Rattle.script_reader.specs.declared.step.Step.TheVariants.{R3}
use Rattle.diagram_moves.specs.declared.fault.MoveFault.TheVariants.{NoCrossing, NotTriangle}
use Rattle.diagram_moves.specs.Laws.{IsPairedDiagram}
use Rattle.diagram_moves.specs.Moves.{plain, slot_triples, is_triangle, triangle_slots, triangle_rewritten, moved_slots, finished}
use Rattle.diagram_moves.specs.Rewriting.{slot, crossing_at}
use Rattle.diagram_moves.specs.Steps.{Moved}
use Rattle.diagram_moves.proofs.Accepted.{given_Ok, unless_Ok, finished_Ok, passing_test, small_triple, low_triple, small_triples}
use Rattle.diagram_moves.proofs.NoNumbers.{nothing}
use Rattle.diagram_moves.proofs.PlaceLemmas.{place_labels_are}
use Rattle.diagram_moves.proofs.Triangles.{found_after, also_after, too_after, around_new_here, around_new_there, around_new_beyond}
use Rattle.move_results.proofs.FaceSteps.{number_from}
use Rattle.move_results.proofs.PairedResults.{paired_again, triangle_edges}
use Rattle.rotation_parts.specs.Drawings.{IsSlide}
use Rattle.rotation_parts.specs.Rotations.{cycle_count, pair_graph, IsPairing}
use Rattle.rotation_parts.proofs.OtherNames.{renamed_counts}
use Rattle.rotation_parts.proofs.Slides.{slide_counts}
use Rattle.planar_forms.specs.PlaceSystems.{next_slot}
use Rattle.planar_forms.proofs.PlacePairs.{other_is, label_twice, paired_places, long_is}
use Rattle.planar_forms.proofs.PlanarForms.{planar_form}
use Rattle.planar_moves.specs.Laws.{SlidePlanarLaw}
use Rattle.planar_moves.proofs.AnewPlaces.{anew_long, anew_label, four_cases, moved_four}
use Rattle.planar_moves.proofs.KeptPlaces.{crossing_count, count_labels}
use Rattle.planar_moves.proofs.SmoothedCrossings.{corner_place}
use Rattle.planar_moves.proofs.UndonePlanes.{corner_label, corner_low, same_labels}

module _ (items : List Item) (pd : IsPairedDiagram items)
    (c : ℕ) (here : List ℕ) (found : crossing_at items c ≡ Some here)
    (d : ℕ) (there : List ℕ) (also : crossing_at items d ≡ Some there)
    (f : ℕ) (beyond : List ℕ) (too : crossing_at items f ≡ Some beyond)
    (apart_dc : (d == c) ≡ false) (apart_fc : (f == c) ≡ false) (apart_fd : (f == d) ≡ false)
    (k l j : ℕ) (low_k : k < 8) (low_l : l < 8) (low_j : j < 8)
    (edge_0 : slot there l ≡ slot here (k + 1)) (edge_1 : slot beyond j ≡ slot there (l + 1)) (edge_2 : slot here k ≡ slot beyond (j + 1)) where
  abbrev after : List Item
  after = triangle_rewritten items c d f here there beyond k l j

  abbrev ls : List ℕ
  ls = place_labels items

  abbrev new : List ℕ
  new = place_labels after

  abbrev n : ℕ
  n = length ls

  abbrev names : List ℕ
  names = range_with_len 0 n

  low_c : 1 ≤ c
  low_c = number_from 1 items c here found

  low_d : 1 ≤ d
  low_d = number_from 1 items d there also

  low_f : 1 ≤ f
  low_f = number_from 1 items f beyond too

  d_c : d ≢ c
  d_c e = let t = eq-eqb d c e in grind (arith, t, apart_dc)

  f_c : f ≢ c
  f_c e = let t = eq-eqb f c e in grind (arith, t, apart_fc)

  f_d : f ≢ d
  f_d e = let t = eq-eqb f d e in grind (arith, t, apart_fd)

  abbrev a0 : ℕ
  a0 = corner_place c k

  abbrev a1 : ℕ
  a1 = corner_place c (k + 1)

  abbrev a2 : ℕ
  a2 = corner_place c (k + 2)

  abbrev a3 : ℕ
  a3 = corner_place c (k + 3)

  abbrev b0 : ℕ
  b0 = corner_place d l

  abbrev b1 : ℕ
  b1 = corner_place d (l + 1)

  abbrev b2 : ℕ
  b2 = corner_place d (l + 2)

  abbrev b3 : ℕ
  b3 = corner_place d (l + 3)

  abbrev c0 : ℕ
  c0 = corner_place f j

  abbrev c1 : ℕ
  c1 = corner_place f (j + 1)

  abbrev c2 : ℕ
  c2 = corner_place f (j + 2)

  abbrev c3 : ℕ
  c3 = corner_place f (j + 3)

  -- the kinds of places: four corners of each crossing, and all others
  abbrev kind : ℕ → ℕ
  kind x = cond (x / 4 + 1 == c) ((x % 4 + (4 - k % 4)) % 4) (cond (x / 4 + 1 == d) (4 + (x % 4 + (4 - l % 4)) % 4) (cond (x / 4 + 1 == f) (8 + (x % 4 + (4 - j % 4)) % 4) 12))

  kind_c : (x : ℕ) → x / 4 + 1 ≡ c → kind x ≡ (x % 4 + (4 - k % 4)) % 4
  kind_c x e = let t = eq-eqb (x / 4 + 1) c e in grind (arith, t)

  kind_d : (x : ℕ) → x / 4 + 1 ≡ d → kind x ≡ 4 + (x % 4 + (4 - l % 4)) % 4
  kind_d x e = let t = eq-eqb (x / 4 + 1) d e in let n = d_c in let s : (x / 4 + 1 == c) ≡ false = grind (arith, nat_tests, n, e) in grind (arith, t, s)

  kind_f : (x : ℕ) → x / 4 + 1 ≡ f → kind x ≡ 8 + (x % 4 + (4 - j % 4)) % 4
  kind_f x e =
      let t = eq-eqb (x / 4 + 1) f e in let n = f_c in let m = f_d in
      let s : (x / 4 + 1 == c) ≡ false = grind (arith, nat_tests, n, e) in
      let r : (x / 4 + 1 == d) ≡ false = grind (arith, nat_tests, m, e) in
      grind (arith, t, s, r)

  kind_out : (x : ℕ) → x / 4 + 1 ≢ c → x / 4 + 1 ≢ d → x / 4 + 1 ≢ f → kind x ≡ 12
  kind_out x a b e =
      let s : (x / 4 + 1 == c) ≡ false = grind (arith, nat_tests, a) in
      let t : (x / 4 + 1 == d) ≡ false = grind (arith, nat_tests, b) in
      let u : (x / 4 + 1 == f) ≡ false = grind (arith, nat_tests, e) in
      grind (arith, s, t, u)

  kind_a0 : kind a0 ≡ 0
  kind_a0 = let low = low_c in kind_c a0 (omega (arith, low)) ∙ (let e : (a0 % 4 + (4 - k % 4)) % 4 ≡ 0 = omega arith in e)

  kind_a1 : kind a1 ≡ 1
  kind_a1 = let low = low_c in kind_c a1 (omega (arith, low)) ∙ (let e : (a1 % 4 + (4 - k % 4)) % 4 ≡ 1 = omega arith in e)

  kind_a2 : kind a2 ≡ 2
  kind_a2 = let low = low_c in kind_c a2 (omega (arith, low)) ∙ (let e : (a2 % 4 + (4 - k % 4)) % 4 ≡ 2 = omega arith in e)

  kind_a3 : kind a3 ≡ 3
  kind_a3 = let low = low_c in kind_c a3 (omega (arith, low)) ∙ (let e : (a3 % 4 + (4 - k % 4)) % 4 ≡ 3 = omega arith in e)

  kind_b0 : kind b0 ≡ 4
  kind_b0 = let low = low_d in kind_d b0 (omega (arith, low)) ∙ (let e : 4 + (b0 % 4 + (4 - l % 4)) % 4 ≡ 4 = omega arith in e)

  kind_b1 : kind b1 ≡ 5
  kind_b1 = let low = low_d in kind_d b1 (omega (arith, low)) ∙ (let e : 4 + (b1 % 4 + (4 - l % 4)) % 4 ≡ 5 = omega arith in e)

  kind_b2 : kind b2 ≡ 6
  kind_b2 = let low = low_d in kind_d b2 (omega (arith, low)) ∙ (let e : 4 + (b2 % 4 + (4 - l % 4)) % 4 ≡ 6 = omega arith in e)

  kind_b3 : kind b3 ≡ 7
  kind_b3 = let low = low_d in kind_d b3 (omega (arith, low)) ∙ (let e : 4 + (b3 % 4 + (4 - l % 4)) % 4 ≡ 7 = omega arith in e)

  kind_c0 : kind c0 ≡ 8
  kind_c0 = let low = low_f in kind_f c0 (omega (arith, low)) ∙ (let e : 8 + (c0 % 4 + (4 - j % 4)) % 4 ≡ 8 = omega arith in e)

  kind_c1 : kind c1 ≡ 9
  kind_c1 = let low = low_f in kind_f c1 (omega (arith, low)) ∙ (let e : 8 + (c1 % 4 + (4 - j % 4)) % 4 ≡ 9 = omega arith in e)

  kind_c2 : kind c2 ≡ 10
  kind_c2 = let low = low_f in kind_f c2 (omega (arith, low)) ∙ (let e : 8 + (c2 % 4 + (4 - j % 4)) % 4 ≡ 10 = omega arith in e)

  kind_c3 : kind c3 ≡ 11
  kind_c3 = let low = low_f in kind_f c3 (omega (arith, low)) ∙ (let e : 8 + (c3 % 4 + (4 - j % 4)) % 4 ≡ 11 = omega arith in e)

  -- where the label of a place stood before, and where it stands after
  abbrev sigma : ℕ → ℕ
  sigma x = slice_index (c3 ∷ b2 ∷ a0 ∷ a1 ∷ a3 ∷ c2 ∷ b0 ∷ b1 ∷ b3 ∷ a2 ∷ c0 ∷ c1 ∷ x ∷ []) (kind x)

  abbrev back_to : ℕ → ℕ
  back_to x = slice_index (a2 ∷ a3 ∷ c1 ∷ b0 ∷ b2 ∷ b3 ∷ a1 ∷ c0 ∷ c2 ∷ c3 ∷ b1 ∷ a0 ∷ x ∷ []) (kind x)

  sigma_at : (x i : ℕ) → kind x ≡ i → sigma x ≡ slice_index (c3 ∷ b2 ∷ a0 ∷ a1 ∷ a3 ∷ c2 ∷ b0 ∷ b1 ∷ b3 ∷ a2 ∷ c0 ∷ c1 ∷ x ∷ []) i
  sigma_at x i e = ap (slice_index (c3 ∷ b2 ∷ a0 ∷ a1 ∷ a3 ∷ c2 ∷ b0 ∷ b1 ∷ b3 ∷ a2 ∷ c0 ∷ c1 ∷ x ∷ [])) e

  back_at : (x i : ℕ) → kind x ≡ i → back_to x ≡ slice_index (a2 ∷ a3 ∷ c1 ∷ b0 ∷ b2 ∷ b3 ∷ a1 ∷ c0 ∷ c2 ∷ c3 ∷ b1 ∷ a0 ∷ x ∷ []) i
  back_at x i e = ap (slice_index (a2 ∷ a3 ∷ c1 ∷ b0 ∷ b2 ∷ b3 ∷ a1 ∷ c0 ∷ c2 ∷ c3 ∷ b1 ∷ a0 ∷ x ∷ [])) e

  by_corner : (T : ℕ → Type 0) → T a0 → T a1 → T a2 → T a3 → T b0 → T b1 → T b2 → T b3 → T c0 → T c1 → T c2 → T c3 → ((x : ℕ) → x / 4 + 1 ≢ c → x / 4 + 1 ≢ d → x / 4 + 1 ≢ f → T x) → (x : ℕ) → T x
  by_corner T k_a0 k_a1 k_a2 k_a3 k_b0 k_b1 k_b2 k_b3 k_c0 k_c1 k_c2 k_c3 rest x =
      ⊎_elim (λ t. four_cases T c k low_c k_a0 k_a1 k_a2 k_a3 x (eqb-true (x / 4 + 1) c t)) (λ g.
      ⊎_elim (λ t. four_cases T d l low_d k_b0 k_b1 k_b2 k_b3 x (eqb-true (x / 4 + 1) d t)) (λ h.
      ⊎_elim (λ t. four_cases T f j low_f k_c0 k_c1 k_c2 k_c3 x (eqb-true (x / 4 + 1) f t)) (λ i.
      rest x (λ e. (let t = eq-eqb (x / 4 + 1) c e in grind (arith, t, g))) (λ e. (let t = eq-eqb (x / 4 + 1) d e in grind (arith, t, h))) (λ e. (let t = eq-eqb (x / 4 + 1) f e in grind (arith, t, i))))
      (cases_Bool (x / 4 + 1 == f)))
      (cases_Bool (x / 4 + 1 == d)))
      (cases_Bool (x / 4 + 1 == c))

  sigma_a0 : sigma a0 ≡ c3
  sigma_a0 = sigma_at a0 0 kind_a0

  back_a0 : back_to a0 ≡ a2
  back_a0 = back_at a0 0 kind_a0

  sigma_a1 : sigma a1 ≡ b2
  sigma_a1 = sigma_at a1 1 kind_a1

  back_a1 : back_to a1 ≡ a3
  back_a1 = back_at a1 1 kind_a1

  sigma_a2 : sigma a2 ≡ a0
  sigma_a2 = sigma_at a2 2 kind_a2

  back_a2 : back_to a2 ≡ c1
  back_a2 = back_at a2 2 kind_a2

  sigma_a3 : sigma a3 ≡ a1
  sigma_a3 = sigma_at a3 3 kind_a3

  back_a3 : back_to a3 ≡ b0
  back_a3 = back_at a3 3 kind_a3

  sigma_b0 : sigma b0 ≡ a3
  sigma_b0 = sigma_at b0 4 kind_b0

  back_b0 : back_to b0 ≡ b2
  back_b0 = back_at b0 4 kind_b0

  sigma_b1 : sigma b1 ≡ c2
  sigma_b1 = sigma_at b1 5 kind_b1

  back_b1 : back_to b1 ≡ b3
  back_b1 = back_at b1 5 kind_b1

  sigma_b2 : sigma b2 ≡ b0
  sigma_b2 = sigma_at b2 6 kind_b2

  back_b2 : back_to b2 ≡ a1
  back_b2 = back_at b2 6 kind_b2

  sigma_b3 : sigma b3 ≡ b1
  sigma_b3 = sigma_at b3 7 kind_b3

  back_b3 : back_to b3 ≡ c0
  back_b3 = back_at b3 7 kind_b3

  sigma_c0 : sigma c0 ≡ b3
  sigma_c0 = sigma_at c0 8 kind_c0

  back_c0 : back_to c0 ≡ c2
  back_c0 = back_at c0 8 kind_c0

  sigma_c1 : sigma c1 ≡ a2
  sigma_c1 = sigma_at c1 9 kind_c1

  back_c1 : back_to c1 ≡ c3
  back_c1 = back_at c1 9 kind_c1

  sigma_c2 : sigma c2 ≡ c0
  sigma_c2 = sigma_at c2 10 kind_c2

  back_c2 : back_to c2 ≡ b1
  back_c2 = back_at c2 10 kind_c2

  sigma_c3 : sigma c3 ≡ c1
  sigma_c3 = sigma_at c3 11 kind_c3

  back_c3 : back_to c3 ≡ a0
  back_c3 = back_at c3 11 kind_c3

  sigma_out : (x : ℕ) → x / 4 + 1 ≢ c → x / 4 + 1 ≢ d → x / 4 + 1 ≢ f → sigma x ≡ x
  sigma_out x a b e = sigma_at x 12 (kind_out x a b e)

  back_out : (x : ℕ) → x / 4 + 1 ≢ c → x / 4 + 1 ≢ d → x / 4 + 1 ≢ f → back_to x ≡ x
  back_out x a b e = back_at x 12 (kind_out x a b e)

  new_again : (x : ℕ) → sigma (back_to x) ≡ x
  new_again = by_corner (λ z. sigma (back_to z) ≡ z)
      (ap sigma back_a0 ∙ sigma_a2) (ap sigma back_a1 ∙ sigma_a3) (ap sigma back_a2 ∙ sigma_c1) (ap sigma back_a3 ∙ sigma_b0)
      (ap sigma back_b0 ∙ sigma_b2) (ap sigma back_b1 ∙ sigma_b3) (ap sigma back_b2 ∙ sigma_a1) (ap sigma back_b3 ∙ sigma_c0)
      (ap sigma back_c0 ∙ sigma_c2) (ap sigma back_c1 ∙ sigma_c3) (ap sigma back_c2 ∙ sigma_b1) (ap sigma back_c3 ∙ sigma_a0)
      (λ z a b e. ap sigma (back_out z a b e) ∙ sigma_out z a b e)

  old_again : (x : ℕ) → back_to (sigma x) ≡ x
  old_again = by_corner (λ z. back_to (sigma z) ≡ z)
      (ap back_to sigma_a0 ∙ back_c3) (ap back_to sigma_a1 ∙ back_b2) (ap back_to sigma_a2 ∙ back_a0) (ap back_to sigma_a3 ∙ back_a1)
      (ap back_to sigma_b0 ∙ back_a3) (ap back_to sigma_b1 ∙ back_c2) (ap back_to sigma_b2 ∙ back_b0) (ap back_to sigma_b3 ∙ back_b1)
      (ap back_to sigma_c0 ∙ back_b3) (ap back_to sigma_c1 ∙ back_a2) (ap back_to sigma_c2 ∙ back_c0) (ap back_to sigma_c3 ∙ back_c1)
      (λ z a b e. ap back_to (sigma_out z a b e) ∙ back_out z a b e)

  low_a0 : a0 < n
  low_a0 = corner_low items c k here pd found

  low_a1 : a1 < n
  low_a1 = corner_low items c (k + 1) here pd found

  low_a2 : a2 < n
  low_a2 = corner_low items c (k + 2) here pd found

  low_a3 : a3 < n
  low_a3 = corner_low items c (k + 3) here pd found

  low_b0 : b0 < n
  low_b0 = corner_low items d l there pd also

  low_b1 : b1 < n
  low_b1 = corner_low items d (l + 1) there pd also

  low_b2 : b2 < n
  low_b2 = corner_low items d (l + 2) there pd also

  low_b3 : b3 < n
  low_b3 = corner_low items d (l + 3) there pd also

  low_c0 : c0 < n
  low_c0 = corner_low items f j beyond pd too

  low_c1 : c1 < n
  low_c1 = corner_low items f (j + 1) beyond pd too

  low_c2 : c2 < n
  low_c2 = corner_low items f (j + 2) beyond pd too

  low_c3 : c3 < n
  low_c3 = corner_low items f (j + 3) beyond pd too

  led : {x y z : ℕ} → y ≡ z → z < n → x < n → y < n
  led e l h = omega (arith, e, l)

  sigma_low : (x : ℕ) → x < n → sigma x < n
  sigma_low = by_corner (λ z. z < n → sigma z < n)
      (led sigma_a0 low_c3) (led sigma_a1 low_b2) (led sigma_a2 low_a0) (led sigma_a3 low_a1)
      (led sigma_b0 low_a3) (led sigma_b1 low_c2) (led sigma_b2 low_b0) (led sigma_b3 low_b1)
      (led sigma_c0 low_b3) (led sigma_c1 low_a2) (led sigma_c2 low_c0) (led sigma_c3 low_c1)
      (λ z a b e h. (let s = sigma_out z a b e in omega (arith, s, h)))

  back_low : (x : ℕ) → x < n → back_to x < n
  back_low = by_corner (λ z. z < n → back_to z < n)
      (led back_a0 low_a2) (led back_a1 low_a3) (led back_a2 low_c1) (led back_a3 low_b0)
      (led back_b0 low_b2) (led back_b1 low_b3) (led back_b2 low_a1) (led back_b3 low_c0)
      (led back_c0 low_c2) (led back_c1 low_c3) (led back_c2 low_b1) (led back_c3 low_a0)
      (λ z a b e h. (let s = back_out z a b e in omega (arith, s, h)))

  -- ---- labels
  module _ (pd2 : IsPairedDiagram after) where
    stands_c : crossing_at after c ≡ Some (moved_slots k here (slot beyond (j + 3)) (slot there (l + 2)))
    stands_c = found_after 1 0 0 0 nothing items pd c here found d there also f beyond too apart_dc apart_fc apart_fd k l j low_k low_l low_j edge_0 edge_1 edge_2

    stands_d : crossing_at after d ≡ Some (moved_slots l there (slot here (k + 3)) (slot beyond (j + 2)))
    stands_d = also_after 1 0 0 0 nothing items pd c here found d there also f beyond too apart_dc apart_fc apart_fd k l j low_k low_l low_j edge_0 edge_1 edge_2

    stands_f : crossing_at after f ≡ Some (moved_slots j beyond (slot there (l + 3)) (slot here (k + 2)))
    stands_f = too_after 1 0 0 0 nothing items pd c here found d there also f beyond too apart_dc apart_fc apart_fd k l j low_k low_l low_j edge_0 edge_1 edge_2

    label_a0 : slice_index new a0 ≡ slice_index ls (sigma a0)
    label_a0 = corner_label after c k (moved_slots k here (slot beyond (j + 3)) (slot there (l + 2))) pd2 stands_c ∙ ap (λ ns. slice_index ns 0) (around_new_here 1 0 0 0 nothing items pd c here found d there also f beyond too apart_dc apart_fc apart_fd k l j low_k low_l low_j edge_0 edge_1 edge_2) ∙ sym (corner_label items f (j + 3) beyond pd too) ∙ ap (slice_index ls) (sym sigma_a0)

    label_a1 : slice_index new a1 ≡ slice_index ls (sigma a1)
    label_a1 = corner_label after c (k + 1) (moved_slots k here (slot beyond (j + 3)) (slot there (l + 2))) pd2 stands_c ∙ ap (λ ns. slice_index ns 1) (around_new_here 1 0 0 0 nothing items pd c here found d there also f beyond too apart_dc apart_fc apart_fd k l j low_k low_l low_j edge_0 edge_1 edge_2) ∙ sym (corner_label items d (l + 2) there pd also) ∙ ap (slice_index ls) (sym sigma_a1)

    label_a2 : slice_index new a2 ≡ slice_index ls (sigma a2)
    label_a2 = corner_label after c (k + 2) (moved_slots k here (slot beyond (j + 3)) (slot there (l + 2))) pd2 stands_c ∙ ap (λ ns. slice_index ns 2) (around_new_here 1 0 0 0 nothing items pd c here found d there also f beyond too apart_dc apart_fc apart_fd k l j low_k low_l low_j edge_0 edge_1 edge_2) ∙ sym edge_2 ∙ sym (corner_label items c k here pd found) ∙ ap (slice_index ls) (sym sigma_a2)

    label_a3 : slice_index new a3 ≡ slice_index ls (sigma a3)
    label_a3 = corner_label after c (k + 3) (moved_slots k here (slot beyond (j + 3)) (slot there (l + 2))) pd2 stands_c ∙ ap (λ ns. slice_index ns 3) (around_new_here 1 0 0 0 nothing items pd c here found d there also f beyond too apart_dc apart_fc apart_fd k l j low_k low_l low_j edge_0 edge_1 edge_2) ∙ sym (corner_label items c (k + 1) here pd found) ∙ ap (slice_index ls) (sym sigma_a3)

    label_b0 : slice_index new b0 ≡ slice_index ls (sigma b0)
    label_b0 = corner_label after d l (moved_slots l there (slot here (k + 3)) (slot beyond (j + 2))) pd2 stands_d ∙ ap (λ ns. slice_index ns 0) (around_new_there 1 0 0 0 nothing items pd c here found d there also f beyond too apart_dc apart_fc apart_fd k l j low_k low_l low_j edge_0 edge_1 edge_2) ∙ sym (corner_label items c (k + 3) here pd found) ∙ ap (slice_index ls) (sym sigma_b0)

    label_b1 : slice_index new b1 ≡ slice_index ls (sigma b1)
    label_b1 = corner_label after d (l + 1) (moved_slots l there (slot here (k + 3)) (slot beyond (j + 2))) pd2 stands_d ∙ ap (λ ns. slice_index ns 1) (around_new_there 1 0 0 0 nothing items pd c here found d there also f beyond too apart_dc apart_fc apart_fd k l j low_k low_l low_j edge_0 edge_1 edge_2) ∙ sym (corner_label items f (j + 2) beyond pd too) ∙ ap (slice_index ls) (sym sigma_b1)

    label_b2 : slice_index new b2 ≡ slice_index ls (sigma b2)
    label_b2 = corner_label after d (l + 2) (moved_slots l there (slot here (k + 3)) (slot beyond (j + 2))) pd2 stands_d ∙ ap (λ ns. slice_index ns 2) (around_new_there 1 0 0 0 nothing items pd c here found d there also f beyond too apart_dc apart_fc apart_fd k l j low_k low_l low_j edge_0 edge_1 edge_2) ∙ sym edge_0 ∙ sym (corner_label items d l there pd also) ∙ ap (slice_index ls) (sym sigma_b2)

    label_b3 : slice_index new b3 ≡ slice_index ls (sigma b3)
    label_b3 = corner_label after d (l + 3) (moved_slots l there (slot here (k + 3)) (slot beyond (j + 2))) pd2 stands_d ∙ ap (λ ns. slice_index ns 3) (around_new_there 1 0 0 0 nothing items pd c here found d there also f beyond too apart_dc apart_fc apart_fd k l j low_k low_l low_j edge_0 edge_1 edge_2) ∙ sym (corner_label items d (l + 1) there pd also) ∙ ap (slice_index ls) (sym sigma_b3)

    label_c0 : slice_index new c0 ≡ slice_index ls (sigma c0)
    label_c0 = corner_label after f j (moved_slots j beyond (slot there (l + 3)) (slot here (k + 2))) pd2 stands_f ∙ ap (λ ns. slice_index ns 0) (around_new_beyond 1 0 0 0 nothing items pd c here found d there also f beyond too apart_dc apart_fc apart_fd k l j low_k low_l low_j edge_0 edge_1 edge_2) ∙ sym (corner_label items d (l + 3) there pd also) ∙ ap (slice_index ls) (sym sigma_c0)

    label_c1 : slice_index new c1 ≡ slice_index ls (sigma c1)
    label_c1 = corner_label after f (j + 1) (moved_slots j beyond (slot there (l + 3)) (slot here (k + 2))) pd2 stands_f ∙ ap (λ ns. slice_index ns 1) (around_new_beyond 1 0 0 0 nothing items pd c here found d there also f beyond too apart_dc apart_fc apart_fd k l j low_k low_l low_j edge_0 edge_1 edge_2) ∙ sym (corner_label items c (k + 2) here pd found) ∙ ap (slice_index ls) (sym sigma_c1)

    label_c2 : slice_index new c2 ≡ slice_index ls (sigma c2)
    label_c2 = corner_label after f (j + 2) (moved_slots j beyond (slot there (l + 3)) (slot here (k + 2))) pd2 stands_f ∙ ap (λ ns. slice_index ns 2) (around_new_beyond 1 0 0 0 nothing items pd c here found d there also f beyond too apart_dc apart_fc apart_fd k l j low_k low_l low_j edge_0 edge_1 edge_2) ∙ sym edge_1 ∙ sym (corner_label items f j beyond pd too) ∙ ap (slice_index ls) (sym sigma_c2)

    label_c3 : slice_index new c3 ≡ slice_index ls (sigma c3)
    label_c3 = corner_label after f (j + 3) (moved_slots j beyond (slot there (l + 3)) (slot here (k + 2))) pd2 stands_f ∙ ap (λ ns. slice_index ns 3) (around_new_beyond 1 0 0 0 nothing items pd c here found d there also f beyond too apart_dc apart_fc apart_fd k l j low_k low_l low_j edge_0 edge_1 edge_2) ∙ sym (corner_label items f (j + 1) beyond pd too) ∙ ap (slice_index ls) (sym sigma_c3)

    long_new : length new ≡ n
    long_new =
        ap length (place_labels_are after) ∙ (anew_long (triangle_slots c d f here there beyond k l j) (λ q slots four. moved_four c d f here there beyond k l j q slots four) 1 items pd.sizes ∙ sym (ap length (place_labels_are items)))

    label_out : (x : ℕ) → x / 4 + 1 ≢ c → x / 4 + 1 ≢ d → x / 4 + 1 ≢ f → x < n → slice_index new x ≡ slice_index ls (sigma x)
    label_out x a b e h =
        let stays : (slots : List ℕ) → triangle_slots c d f here there beyond k l j (1 + x / 4) slots ≡ slots = λ slots.
        (let s : (1 + x / 4 == c) ≡ false = grind (arith, nat_tests, a) in
        let t : (1 + x / 4 == d) ≡ false = grind (arith, nat_tests, b) in
        let u : (1 + x / 4 == f) ≡ false = grind (arith, nat_tests, e) in
        let n1 = moved_slots k here (slot beyond (j + 3)) (slot there (l + 2)) in
        let n2 = moved_slots l there (slot here (k + 3)) (slot beyond (j + 2)) in
        let n3 = moved_slots j beyond (slot there (l + 3)) (slot here (k + 2)) in
        ap (λ z. cond z n1 (cond (1 + x / 4 == d) n2 (cond (1 + x / 4 == f) n3 slots))) s ∙ (ap (λ z. cond z n2 (cond (1 + x / 4 == f) n3 slots)) t ∙ ap (λ z. cond z n3 slots) u)) in
        let long = ap length (place_labels_are items) in
        ap (λ ns. slice_index ns x) (place_labels_are after)
        ∙ (anew_label (triangle_slots c d f here there beyond k l j) (λ q slots four. moved_four c d f here there beyond k l j q slots four) 1 items x pd.sizes stays (omega (arith, h, long))
        ∙ (ap (λ ns. slice_index ns x) (sym (place_labels_are items)) ∙ ap (slice_index ls) (sym (sigma_out x a b e))))

    labels : (x : ℕ) → x < n → slice_index new x ≡ slice_index ls (sigma x)
    labels = by_corner (λ z. z < n → slice_index new z ≡ slice_index ls (sigma z))
        (λ h. label_a0)
        (λ h. label_a1)
        (λ h. label_a2)
        (λ h. label_a3)
        (λ h. label_b0)
        (λ h. label_b1)
        (λ h. label_b2)
        (λ h. label_b3)
        (λ h. label_c0)
        (λ h. label_c1)
        (λ h. label_c2)
        (λ h. label_c3)
        label_out

    -- ---- the system
    pairing : IsPairing n (other_place ls)
    pairing = paired_places items pd

    pairing_new : IsPairing (length new) (other_place new)
    pairing_new = paired_places after pd2

    old_long : n ≡ 4 * crossing_count items
    old_long = ap length (place_labels_are items) ∙ count_labels items pd.sizes

    abbrev turned : ℕ → ℕ
    turned x = sigma (next_slot (back_to x))

    next_low : (x : ℕ) → x < n → next_slot x < n
    next_low x h = omega (arith, h, old_long)

    -- the corners of a crossing follow one another
    around : (h i : ℕ) → 1 ≤ h → (next_slot (corner_place h i) ≡ corner_place h (i + 1)) × (next_slot (corner_place h (i + 1)) ≡ corner_place h (i + 2)) × (next_slot (corner_place h (i + 2)) ≡ corner_place h (i + 3)) × (next_slot (corner_place h (i + 3)) ≡ corner_place h i)
    around h i low = (omega (arith, low), omega (arith, low), omega (arith, low), omega (arith, low))

    meets : (x y : ℕ) → x < n → y < n → x ≢ y → slice_index ls x ≡ slice_index ls y → other_place ls x ≡ y
    meets x y lx ly ne e = other_is ls x y lx ly ne e (label_twice items pd x lx)

    kinds_differ : (x y i m : ℕ) → kind x ≡ i → kind y ≡ m → i ≢ m → x ≢ y
    kinds_differ x y i m e g ne s = ne (sym e ∙ (ap kind s ∙ g))

    other_a1 : other_place ls a1 ≡ b0
    other_a1 = meets a1 b0 low_a1 low_b0 (kinds_differ a1 b0 1 4 kind_a1 kind_b0 (omega arith)) ((corner_label items c (k + 1) here pd found) ∙ sym (corner_label items d l there pd also ∙ edge_0))

    other_b0 : other_place ls b0 ≡ a1
    other_b0 = meets b0 a1 low_b0 low_a1 (kinds_differ b0 a1 4 1 kind_b0 kind_a1 (omega arith)) ((corner_label items d l there pd also ∙ edge_0) ∙ sym (corner_label items c (k + 1) here pd found))

    other_b1 : other_place ls b1 ≡ c0
    other_b1 = meets b1 c0 low_b1 low_c0 (kinds_differ b1 c0 5 8 kind_b1 kind_c0 (omega arith)) ((corner_label items d (l + 1) there pd also) ∙ sym (corner_label items f j beyond pd too ∙ edge_1))

    other_c0 : other_place ls c0 ≡ b1
    other_c0 = meets c0 b1 low_c0 low_b1 (kinds_differ c0 b1 8 5 kind_c0 kind_b1 (omega arith)) ((corner_label items f j beyond pd too ∙ edge_1) ∙ sym (corner_label items d (l + 1) there pd also))

    other_c1 : other_place ls c1 ≡ a0
    other_c1 = meets c1 a0 low_c1 low_a0 (kinds_differ c1 a0 9 0 kind_c1 kind_a0 (omega arith)) ((corner_label items f (j + 1) beyond pd too) ∙ sym (corner_label items c k here pd found ∙ edge_2))

    other_a0 : other_place ls a0 ≡ c1
    other_a0 = meets a0 c1 low_a0 low_c1 (kinds_differ a0 c1 0 9 kind_a0 kind_c1 (omega arith)) ((corner_label items c k here pd found ∙ edge_2) ∙ sym (corner_label items f (j + 1) beyond pd too))

    -- a place of another crossing
    outside : (x : ℕ) → x ≢ a0 → x ≢ a1 → x ≢ a2 → x ≢ a3 → x ≢ b0 → x ≢ b1 → x ≢ b2 → x ≢ b3 → x ≢ c0 → x ≢ c1 → x ≢ c2 → x ≢ c3 → (x / 4 + 1 ≢ c) × (x / 4 + 1 ≢ d) × (x / 4 + 1 ≢ f)
    outside x n_a0 n_a1 n_a2 n_a3 n_b0 n_b1 n_b2 n_b3 n_c0 n_c1 n_c2 n_c3 = (
      (λ e. four_cases (λ z. x ≢ z) c k low_c n_a0 n_a1 n_a2 n_a3 x e refl),
      (λ e. four_cases (λ z. x ≢ z) d l low_d n_b0 n_b1 n_b2 n_b3 x e refl),
      (λ e. four_cases (λ z. x ≢ z) f j low_f n_c0 n_c1 n_c2 n_c3 x e refl),
    )

    is_slide : IsSlide names next_slot turned (other_place ls) a0 a1 a2 a3 b0 b1 b2 b3 c0 c1 c2 c3
    is_slide = record {
      kind = kind;
      kind_a0 = kind_a0;
      kind_a1 = kind_a1;
      kind_a2 = kind_a2;
      kind_a3 = kind_a3;
      kind_b0 = kind_b0;
      kind_b1 = kind_b1;
      kind_b2 = kind_b2;
      kind_b3 = kind_b3;
      kind_c0 = kind_c0;
      kind_c1 = kind_c1;
      kind_c2 = kind_c2;
      kind_c3 = kind_c3;
      has_a0 = range_has n a0 low_a0;
      has_a1 = range_has n a1 low_a1;
      has_a2 = range_has n a2 low_a2;
      has_a3 = range_has n a3 low_a3;
      has_b0 = range_has n b0 low_b0;
      has_b1 = range_has n b1 low_b1;
      has_b2 = range_has n b2 low_b2;
      has_b3 = range_has n b3 low_b3;
      has_c0 = range_has n c0 low_c0;
      has_c1 = range_has n c1 low_c1;
      has_c2 = range_has n c2 low_c2;
      has_c3 = range_has n c3 low_c3;
      turn_in = λ x m. range_has n (next_slot x) (next_low x (in_range n x m));
      turned_in = λ x m. range_has n (turned x) (sigma_low (next_slot (back_to x)) (next_low (back_to x) (back_low x (in_range n x m))));
      pairing = record {
        inside = λ x m. range_has n (other_place ls x) (pairing.low x (in_range n x m));
        apart = λ x m. pairing.apart x (in_range n x m);
        twice = λ x m. pairing.twice x (in_range n x m);
      };
      t_a0 = (around c k low_c).0;
      t_a1 = (around c k low_c).1;
      t_a2 = (around c k low_c).2;
      t_a3 = (around c k low_c).3;
      t_b0 = (around d l low_d).0;
      t_b1 = (around d l low_d).1;
      t_b2 = (around d l low_d).2;
      t_b3 = (around d l low_d).3;
      t_c0 = (around f j low_f).0;
      t_c1 = (around f j low_f).1;
      t_c2 = (around f j low_f).2;
      t_c3 = (around f j low_f).3;
      s_a0 = ap (λ z. sigma (next_slot z)) back_a0 ∙ (ap sigma (around c k low_c).2 ∙ sigma_a3);
      s_a1 = ap (λ z. sigma (next_slot z)) back_a1 ∙ (ap sigma (around c k low_c).3 ∙ sigma_a0);
      s_a2 = ap (λ z. sigma (next_slot z)) back_a2 ∙ (ap sigma (around f j low_f).1 ∙ sigma_c2);
      s_a3 = ap (λ z. sigma (next_slot z)) back_a3 ∙ (ap sigma (around d l low_d).0 ∙ sigma_b1);
      s_b0 = ap (λ z. sigma (next_slot z)) back_b0 ∙ (ap sigma (around d l low_d).2 ∙ sigma_b3);
      s_b1 = ap (λ z. sigma (next_slot z)) back_b1 ∙ (ap sigma (around d l low_d).3 ∙ sigma_b0);
      s_b2 = ap (λ z. sigma (next_slot z)) back_b2 ∙ (ap sigma (around c k low_c).1 ∙ sigma_a2);
      s_b3 = ap (λ z. sigma (next_slot z)) back_b3 ∙ (ap sigma (around f j low_f).0 ∙ sigma_c1);
      s_c0 = ap (λ z. sigma (next_slot z)) back_c0 ∙ (ap sigma (around f j low_f).2 ∙ sigma_c3);
      s_c1 = ap (λ z. sigma (next_slot z)) back_c1 ∙ (ap sigma (around f j low_f).3 ∙ sigma_c0);
      s_c2 = ap (λ z. sigma (next_slot z)) back_c2 ∙ (ap sigma (around d l low_d).1 ∙ sigma_b2);
      s_c3 = ap (λ z. sigma (next_slot z)) back_c3 ∙ (ap sigma (around c k low_c).0 ∙ sigma_a1);
      o_a1 = other_a1;
      o_b0 = other_b0;
      o_b1 = other_b1;
      o_c0 = other_c0;
      o_c1 = other_c1;
      o_a0 = other_a0;
      kept = λ x m n_a0 n_a1 n_a2 n_a3 n_b0 n_b1 n_b2 n_b3 n_c0 n_c1 n_c2 n_c3.
          let o = outside x n_a0 n_a1 n_a2 n_a3 n_b0 n_b1 n_b2 n_b3 n_c0 n_c1 n_c2 n_c3 in
          let y = next_slot x in
          let same : y / 4 + 1 ≡ x / 4 + 1 = omega arith in
          let oc : y / 4 + 1 ≢ c = λ e. o.0 (sym same ∙ e) in
          let od : y / 4 + 1 ≢ d = λ e. o.1 (sym same ∙ e) in
          let of : y / 4 + 1 ≢ f = λ e. o.2 (sym same ∙ e) in
          let ky = kind_out y oc od of in (
            ap (λ z. sigma (next_slot z)) (back_out x o.0 o.1 o.2) ∙ sigma_out y oc od of,
            kinds_differ y a0 12 0 ky kind_a0 (omega arith),
            kinds_differ y b0 12 4 ky kind_b0 (omega arith),
            kinds_differ y c0 12 8 ky kind_c0 (omega arith),
          );
    }

    new_low : (x : ℕ) → x < n → other_place new x < n
    new_low x h = let a = pairing_new.low x (omega (arith, h, long_new)) in omega (arith, a, long_new)

    pairs_are : (x : ℕ) → x < n → other_place ls (sigma x) ≡ sigma (other_place new x)
    pairs_are x h =
        let hx : x < length new = omega (arith, h, long_new) in
        let y = other_place new x in
        let hy = new_low x h in
        meets (sigma x) (sigma y) (sigma_low x h) (sigma_low y hy)
        (λ e. pairing_new.apart x hx (sym (sym (old_again x) ∙ (ap back_to e ∙ old_again y))))
        (sym (labels x h) ∙ (sym (same_labels after x hx) ∙ labels y hy))

    slid_planar : IsPlanar item_slots items ↔ IsPlanar item_slots after
    slid_planar =
        let slid = slide_counts names next_slot turned (other_place ls) a0 a1 a2 a3 b0 b1 b2 b3 c0 c1 c2 c3 is_slide in
        let named = renamed_counts names names next_slot (other_place new) turned (other_place ls) sigma back_to record {
          onto_others = λ x m. range_has n (sigma x) (sigma_low x (in_range n x m));
          into_names = λ x m. range_has n (back_to x) (back_low x (in_range n x m));
          new_again = λ x m. new_again x;
          old_again = λ x m. old_again x;
          turn_in = λ x m. range_has n (next_slot x) (next_low x (in_range n x m));
          other_in = λ x m. range_has n (other_place new x) (new_low x (in_range n x m));
          turns = λ x m. ap (λ z. sigma (next_slot z)) (old_again x);
          pairs = λ x m. pairs_are x (in_range n x m);
        } in
        let f1 = slid.0 in
        let k1 = slid.1 in
        let f2 = named.0 in
        let k2 = named.1 in
        let f3 = ap (λ m. cycle_count (range_with_len 0 m) (λ x. next_slot (other_place new x))) long_new in
        let k3 = ap (λ m. part_count (range_with_len 0 m) (pair_graph (range_with_len 0 m) next_slot (other_place new))) long_new in
        let four = long_is items pd in
        let four_new = long_is after pd2 in
        let one = planar_form items pd in
        let two = planar_form after pd2 in
        let many = long_new in (
          (λ h. let w = one.0 h in two.1 (omega (arith, w, f1, k1, f2, k2, f3, k3, four, four_new, many))),
          (λ h. let w = two.0 h in one.1 (omega (arith, w, f1, k1, f2, k2, f3, k3, four, four_new, many))),
        )

-- a triangle in either order of its crossings
triangle_planar : (items : List Item) (pd : IsPairedDiagram items) (c d f : ℕ) (here there beyond : List ℕ) (s t u : ℕ) → crossing_at items c ≡ Some here → crossing_at items d ≡ Some there → crossing_at items f ≡ Some beyond →
    (c == d || (d == f || c == f)) ≡ false → s < 4 → t < 4 → u < 4 → is_triangle here there beyond (s, (t, u)) ≡ true → IsPairedDiagram (triangle_rewritten items c d f here there beyond (s + 3) t u) →
    IsPlanar item_slots items ↔ IsPlanar item_slots (triangle_rewritten items c d f here there beyond (s + 3) t u)
triangle_planar items pd c d f here there beyond s t u found also too distinct ls lt lu test pd2 =
    let edges = triangle_edges here there beyond s t u test in
    slid_planar items pd c here found d there also f beyond too (grind (arith, nat_tests, distinct)) (grind (arith, nat_tests, distinct)) (grind (arith, nat_tests, distinct)) (s + 3) t u (omega (arith, ls)) (omega (arith, lt)) (omega (arith, lu)) edges.0 edges.1 edges.2 pd2

pub slide_planar : SlidePlanarLaw
slide_planar items c d f moved pd h =
    let h1 = given_Ok (crossing_at items c) (NoCrossing c) _ moved h in
    let h2 = given_Ok (crossing_at items d) (NoCrossing d) _ moved h1.2 in
    let h3 = given_Ok (crossing_at items f) (NoCrossing f) _ moved h2.2 in
    let here = h1.0 in
    let there = h2.0 in
    let beyond = h3.0 in
    let h4 = unless_Ok (c == d || (d == f || c == f)) NotTriangle _ moved h3.2 in
    let either : ℕ × (ℕ × ℕ) → Bool = λ at. is_triangle here there beyond at || is_triangle here beyond there at in
    let h5 = given_Ok (find either slot_triples) NotTriangle _ moved h4.1 in
    let at = h5.0 in
    let test = passing_test either small_triple slot_triples at h5.1 small_triples in
    let low = low_triple at test.1 in
    let s = at.0 in
    let t = at.1.0 in
    let u = at.1.1 in
    let one = triangle_rewritten items c d f here there beyond (s + 3) t u in
    let other = triangle_rewritten items c f d here beyond there (s + 3) t u in
    let distinct = h4.0 in
    let P : List Item → Type 0 = λ (w : List Item). IsPairedDiagram w in
    let Q : List Item → Type 0 = λ (w : List Item). IsPlanar item_slots items ↔ IsPlanar item_slots w in
    let again = paired_again items (R3 c d f) moved pd h in
    ⊎_elim
    (λ yes.
    let is : moved.items ≡ one = ap (λ (w : Moved). w.items) (finished_Ok plain one moved (sym (ap (λ z. finished plain (cond z one other)) yes) ∙ h5.2)) in
    subst Q (sym is) (triangle_planar items pd c d f here there beyond s t u h1.1 h2.1 h3.1 distinct low.0 low.1 low.2 yes (subst P is again)))
    (λ no.
    let turned : (c == f || (f == d || c == d)) ≡ false = grind (arith, nat_tests, distinct) in
    let yes : is_triangle here beyond there at ≡ true = (let e = test.0 in grind (arith, e, no)) in
    let is : moved.items ≡ other = ap (λ (w : Moved). w.items) (finished_Ok plain other moved (sym (ap (λ z. finished plain (cond z one other)) no) ∙ h5.2)) in
    subst Q (sym is) (triangle_planar items pd c f d here beyond there s t u h1.1 h3.1 h2.1 turned low.0 low.1 low.2 yes (subst P is again)))
    (cases_Bool (is_triangle here there beyond at))
