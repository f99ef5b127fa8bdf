-- The linking matrix after a slide is C-transposed times the old one times C. Off the diagonal stand half sums of signs, which come
-- from the old ones by the law of doubled signs, with the curls' signs at j; on the diagonal stand the framings.
use Rattle.std.proofs.Common.{◌≡◌, ◌≢◌, ℕ, zero, suc, ◌+◌, ◌-◌, ◌<◌, ◌≤◌, ◌%◌, ◌==◌, Bool, true, false, not, cond, List, [], ◌∷◌, length, map, get_or, set, slice_index, ℤ, pos, negsuc, ◌+ℤ◌, ◌*ℤ◌, ◌-ℤ◌, unsigned_abs, refl, sym, ap, ap₂, subst, ◌∙◌, arith, inl, inr, ⊎_elim, eq-eqb, ne_eqb}
use Rattle.std.specs.List.{AllByRecursion}
use Rattle.std.specs.Set.{is_member}
use Rattle.std.proofs.lemmas.Bool.{cases_Bool, cases_order, eqb-true, eqb-false}
use Rattle.std.proofs.lemmas.Int.{ints, quot-rem, rem_below}
use Rattle.std.proofs.lemmas.List.{get_or-map, get_or-set_same, get_or-set_other}
use Rattle.inertia_laws.specs.Matrices.{is_positive, transpose, product}
use Rattle.ring_identities.proofs.Identities.{reads, by_ring}
use Rattle.ring_identities.proofs.Integers.{times_plus}
use Rattle.pd_reader.specs.declared.item.Item.{Item}
use Rattle.pd_reader.specs.Diagrams.{IsDiagram}
use Rattle.planar_check.specs.declared.sign.Sign.{Sign}
use Rattle.planar_check.specs.Places.{labels_by_place, crossings_of, first_place}
use Rattle.planar_check.specs.Components.{component_least, least_labels, number_of}
use Rattle.planar_check.specs.Framings.{FramedDiagram, IsFramed, framing_of, linking_entry}
use Rattle.planar_check.specs.Tables.{sign_value}
use Rattle.planar_check.specs.Signs.{sign_for, signed_crossings, signs_between, writhe, halved, linking}
use Rattle.slide_strands.specs.declared.strand.Piece.{Piece}
use Rattle.slide_strands.specs.Strands.{alike, delta, ordered_sum, strands, entered_at}
use Rattle.slide_strands.specs.Components.{KeepsRoots}
use Rattle.slide_strands.proofs.Curls.{curl_signs}
use Rattle.slide_strands.proofs.Joins.{every_weaker, every_both}
use Rattle.slide_strands.proofs.SignSums.{doubled_signs}
use Rattle.slide_strands.proofs.Slides.{classed_every}
use Rattle.slide_laws.specs.Directed.{directed, items_of}
use Rattle.slide_laws.specs.Laws.{SlideCongruence}
use Rattle.slide_laws.specs.Slides.{SlidDiagram, excess, top_of, framed_top, framed_pieces, slide_of, slid_pieces, slid_framing, is_against}
use Rattle.slide_laws.specs.Matrices.{components, linking_matrix, direction_sign, slide_matrix}
use Rattle.planar_check.specs.Directions.{comes_in}
use Rattle.slide_laws.proofs.DirectedItems.{items_back, ends_at}
use Rattle.planar_check.proofs.Directions.{first_of, first_found, first_place_is}
use Rattle.list_lemmas.proofs.Items.{member_at}
use Rattle.slide_laws.proofs.Inherited.{one, first_entered, signed_sum, list_sum, between_apart, between_self}
use Rattle.slide_laws.proofs.Matrices.{congruence_entry}
use Rattle.slide_laws.proofs.Numbers.{number_same, least_same, ends_placed, facts}
use Rattle.slide_laws.proofs.Refused.{accepted}
use Rattle.slide_laws.proofs.Roots.{root, number_some}
use Rattle.planar_check.proofs.FewComponents.{number_last}
use Rattle.slide_laws.proofs.SlidComponents.{slid_keeps, slid_known, slid_entered, slid_free}
use Rattle.slide_laws.proofs.StartPieces.{start_class, start_label, none, known, directed_pieces, IsComponent}

-- ---- halves
halved_double : (w : ℤ) → halved (pos 2 *ℤ w) ≡ w
halved_double w =
    let e = quot-rem (pos 2 *ℤ w) (pos 2) in
    let b = rem_below (pos 2 *ℤ w) (pos 2) (omega arith) in
    omega (arith, ints, e, b)

even_halves : (z : ℤ) → (unsigned_abs z % 2 == 1) ≡ false → z ≡ pos 2 *ℤ halved z
even_halves z h =
    let e = quot-rem z (pos 2) in
    let b = rem_below z (pos 2) (omega arith) in
    let odd = eqb-false (unsigned_abs z % 2) 1 h in
    omega (arith, ints, e, b, odd)

-- ---- the sign and the size of a number
sign_and_size : (z : ℤ) → cond (is_positive z) (pos 1) (negsuc 0) *ℤ pos (unsigned_abs z) ≡ z
sign_and_size (pos zero) = refl
sign_and_size (pos (suc n)) = let e : pos 1 *ℤ pos (suc n) ≡ pos (suc n) = omega (arith, ints) in e
sign_and_size (negsuc n) = let e : negsuc 0 *ℤ pos (suc n) ≡ negsuc n = omega (arith, ints) in e

sense_is : (b : Bool) → sign_value (sign_for b) ≡ cond b (pos 1) (negsuc 0)
sense_is true = refl
sense_is false = refl

delta_self : (c : ℕ) → delta c c ≡ pos 1
delta_self c = ap (λ (b : Bool). cond b (pos 1) (pos 0)) (eq-eqb c c refl)

delta_apart : (c d : ℕ) → c ≢ d → delta c d ≡ pos 0
delta_apart c d h = ap (λ (b : Bool). cond b (pos 1) (pos 0)) (ne_eqb c d h)

-- components count from 1, rows and columns from 0
delta_less : (i a : ℕ) → 1 ≤ i → cond (a == i - 1) (pos 1) (pos 0) ≡ delta i (a + 1)
delta_less i a l = ap (λ (b : Bool). cond b (pos 1) (pos 0)) (elim (cases_Bool (a == i - 1)) [
  | inl t ↦ t ∙ sym (eq-eqb i (a + 1) (let e = eqb-true a (i - 1) t in omega (arith, e, l)))
  | inr t ↦ t ∙ sym (ne_eqb i (a + 1) (λ h. eqb-false a (i - 1) t (omega (arith, h))))
])

module _ (framed : FramedDiagram) (diagram : IsDiagram framed.items) (is_framed : IsFramed framed) (e f : ℕ)
    (at_e : is_member ◌==◌ (labels_by_place (crossings_of framed.items)) e ≡ true) (at_f : is_member ◌==◌ (labels_by_place (crossings_of framed.items)) f ≡ true)
    (apart : number_of framed.items f ≢ number_of framed.items e)
    (even : (a b : ℕ) → 1 ≤ a → a ≤ length framed.framings → 1 ≤ b → b ≤ length framed.framings → a < b → (unsigned_abs (signs_between a b (signed_crossings framed.items)) % 2 == 1) ≡ false) where
  abbrev xs : List Item
  xs = framed.items

  abbrev i : ℕ
  i = number_of xs e

  abbrev j : ℕ
  j = number_of xs f

  abbrev n : ℕ
  n = length (least_labels xs)

  abbrev old_ls : List ℕ
  old_ls = labels_by_place (crossings_of xs)

  abbrev start : List Piece
  start = directed xs

  abbrev pieces : List Piece
  pieces = framed_pieces framed f

  pub i_some : 1 ≤ i
  i_some = let p = member_at old_ls e at_e in subst (λ (x : ℕ). 1 ≤ number_of xs x) p.2 (number_some xs diagram p.0 p.1)

  pub j_some : 1 ≤ j
  j_some = let p = member_at old_ls f at_f in subst (λ (x : ℕ). 1 ≤ number_of xs x) p.2 (number_some xs diagram p.0 p.1)

  pub i_within : i ≤ n
  i_within = number_last xs e

  j_within : j ≤ n
  j_within = number_last xs f

  -- ---- the old sums
  pub start_numbers : AllByRecursion (λ s. (number_of xs s.from ≡ s.component) × (number_of xs s.to ≡ s.component)) (strands start)
  start_numbers =
      let Placed : List Item → Type 0 = λ its. AllByRecursion (λ s. (is_member ◌==◌ (labels_by_place (crossings_of its)) s.from ≡ true) × (is_member ◌==◌ (labels_by_place (crossings_of its)) s.to ≡ true)) (strands start) in
      let number : (x : ℕ) → is_member ◌==◌ old_ls x ≡ true → number_of xs x ≡ start_class xs diagram 0 x =
      λ x m. let p = member_at old_ls x m in sym (ap (start_class xs diagram 0) (sym p.2) ∙ (start_label xs diagram 0 p.0 p.1 ∙ ap (number_of xs) p.2)) in
      every_weaker _ (λ s. (number_of xs s.from ≡ s.component) × (number_of xs s.to ≡ s.component))
      (λ s k. (number s.from k.0.0 ∙ k.1.0.0, number s.to k.0.1 ∙ k.1.0.1))
      (strands start) (every_both _ _ (strands start) (subst Placed (items_back xs diagram.sizes) (ends_placed start)) (known xs diagram 0))

  pub start_flags : (p : ℕ) → p < length old_ls → one (entered_at start (first_of xs diagram p)) ≡ pos 1
  start_flags p l =
      let q = (first_found xs diagram p l).1 in
      ap (λ (x : ℕ × Bool). one x.1) (ends_at xs diagram (first_of xs diagram p) q)
      ∙ ap one (first_entered xs diagram p l)

  one_one : (z : ℤ) → (pos 1 *ℤ pos 1) *ℤ z ≡ z
  one_one z = omega (arith, ints)

  start_sum : (a b : ℕ) → list_sum a b (signed_crossings xs) ≡ ordered_sum a b start
  start_sum a b =
      signed_sum xs diagram start (items_back xs diagram.sizes) (directed_pieces xs diagram) start_numbers (λ c. pos 1) start_flags a b ∙ one_one (ordered_sum a b start)

  -- ---- after the curls
  framed_sum : (a b : ℕ) → ordered_sum a b pieces ≡ ordered_sum a b start +ℤ (excess framed j *ℤ (delta j a *ℤ delta j b))
  unfolding framed_pieces
  framed_sum a b =
      curl_signs (is_positive (excess framed j)) f j (comes_in (entered_at start) (first_place old_ls f)) (unsigned_abs (excess framed j)) (top_of xs + 1) a b start
      ∙ ap (λ z. ordered_sum a b start +ℤ (z *ℤ (delta j a *ℤ delta j b))) (sign_and_size (excess framed j))

  -- both orders
  abbrev both : ℕ → ℕ → ℤ
  both a b = ordered_sum a b pieces +ℤ ordered_sum b a pieces

  abbrev entry : ℕ → ℕ → ℤ
  entry = linking_entry framed

  no_curl : (a b : ℕ) → a ≢ b → (x : ℤ) → x *ℤ (delta j a *ℤ delta j b) ≡ pos 0
  no_curl a b d x = elim (cases_Bool (j == a)) [
    | inl t ↦ (let other : delta j b ≡ pos 0 = delta_apart j b (λ s. d (sym (eqb-true j a t) ∙ s)) in ap (λ z. x *ℤ (delta j a *ℤ z)) other ∙ (let q : x *ℤ (delta j a *ℤ pos 0) ≡ pos 0 = by_ring (x ∷ delta j a ∷ []) (search reads depth 30) (search reads depth 30) refl in q))
    | inr t ↦ (let other : delta j a ≡ pos 0 = delta_apart j a (eqb-false j a t) in ap (λ z. x *ℤ (z *ℤ delta j b)) other ∙ (let q : x *ℤ (pos 0 *ℤ delta j b) ≡ pos 0 = by_ring (x ∷ delta j b ∷ []) (search reads depth 30) (search reads depth 30) refl in q))
  ]

  plus_none : (x y : ℤ) → y ≡ pos 0 → x +ℤ y ≡ x
  plus_none x y h = omega (arith, ints, h)

  old_between : (a b : ℕ) → a ≢ b → signs_between a b (signed_crossings xs) ≡ both a b
  old_between a b d =
      between_apart a b d (signed_crossings xs)
      ∙ ap₂ (λ x y. x +ℤ y)
      (start_sum a b ∙ sym (framed_sum a b ∙ plus_none (ordered_sum a b start) (excess framed j *ℤ (delta j a *ℤ delta j b)) (no_curl a b d (excess framed j))))
      (start_sum b a ∙ sym (framed_sum b a ∙ plus_none (ordered_sum b a start) (excess framed j *ℤ (delta j b *ℤ delta j a)) (no_curl b a (λ s. d (sym s)) (excess framed j))))

  swap_sum : (x y : ℤ) → x +ℤ y ≡ y +ℤ x
  swap_sum x y = omega (arith, ints)

  -- twice the linking number
  twice_apart : (a b : ℕ) → (1 ≤ a) × (a ≤ n) → (1 ≤ b) × (b ≤ n) → a ≢ b → both a b ≡ pos 2 *ℤ entry a b
  twice_apart a b ra rb d =
      let count = is_framed.count in
      let sum = signs_between a b (signed_crossings xs) in
      let turned : sum ≡ signs_between b a (signed_crossings xs) =
      old_between a b d ∙ (swap_sum (ordered_sum a b pieces) (ordered_sum b a pieces) ∙ sym (old_between b a (λ s. d (sym s)))) in
      let la = ra.0 in let ka = ra.1 in let lb = rb.0 in let kb = rb.1 in
      let is_even : (unsigned_abs sum % 2 == 1) ≡ false =
      ⊎_elim (λ (s : a ≡ b). absurd (d s))
      (λ o. ⊎_elim (λ l. even a b la (omega (arith, ka, count)) lb (omega (arith, kb, count)) l)
      (λ l. ap (λ (z : ℤ). unsigned_abs z % 2 == 1) turned ∙ even b a lb (omega (arith, kb, count)) la (omega (arith, ka, count)) l) o)
      (cases_order a b) in
      sym (old_between a b d) ∙ (even_halves sum is_even ∙ ap (λ z. pos 2 *ℤ z) (sym (ap (λ (t : Bool). cond t (framing_of framed a) (linking xs a b)) (ne_eqb a b d))))

  double : (z : ℤ) → z +ℤ z ≡ pos 2 *ℤ z
  double z = omega (arith, ints)

  curled_writhe : (w t : ℤ) → w +ℤ ((t -ℤ w) *ℤ (pos 1 *ℤ pos 1)) ≡ t
  curled_writhe w t = omega (arith, ints)

  self_j : ordered_sum j j pieces ≡ framing_of framed j
  self_j =
      framed_sum j j
      ∙ (ap₂ (λ x y. x +ℤ (excess framed j *ℤ (y *ℤ y))) (sym (start_sum j j) ∙ sym (between_self j (signed_crossings xs))) (delta_self j)
      ∙ curled_writhe (writhe xs j) (framing_of framed j))

  entry_self : (a : ℕ) → entry a a ≡ framing_of framed a
  entry_self a = ap (λ (t : Bool). cond t (framing_of framed a) (linking xs a a)) (eq-eqb a a refl)

  twice_j : (b : ℕ) → (1 ≤ b) × (b ≤ n) → both j b ≡ pos 2 *ℤ entry j b
  twice_j b rb = elim (cases_Bool (j == b)) [
    | inl t ↦ (let is = eqb-true j b t in
        subst (λ (c : ℕ). both j c ≡ pos 2 *ℤ entry j c) is
        (ap₂ (λ x y. x +ℤ y) self_j self_j ∙ (double (framing_of framed j) ∙ ap (λ z. pos 2 *ℤ z) (sym (entry_self j)))))
    | inr t ↦ twice_apart j b (j_some, j_within) rb (eqb-false j b t)
  ]

  j_twice : (a : ℕ) → (1 ≤ a) × (a ≤ n) → both a j ≡ pos 2 *ℤ entry a j
  j_twice a ra = elim (cases_Bool (a == j)) [
    | inl t ↦ (let is = eqb-true a j t in
        subst (λ (c : ℕ). both c j ≡ pos 2 *ℤ entry c j) (sym is)
        (ap₂ (λ x y. x +ℤ y) self_j self_j ∙ (double (framing_of framed j) ∙ ap (λ z. pos 2 *ℤ z) (sym (entry_self j)))))
    | inr t ↦ twice_apart a j ra (j_some, j_within) (eqb-false a j t)
  ]

  -- ---- the slide
  module _ (in_e in_f : Bool) where
    abbrev result : List Piece
    result = slid_pieces i j e f (framed_top framed f) pieces in_e in_f

    abbrev new : List Item
    new = items_of result

    abbrev sigma : ℤ
    sigma = cond (alike in_e in_f) (pos 1) (negsuc 0)

    new_sum : (a b : ℕ) → ordered_sum a b result
        ≡ ((ordered_sum a b pieces +ℤ ((sigma *ℤ delta i a) *ℤ ordered_sum j b pieces)) +ℤ ((sigma *ℤ delta i b) *ℤ ordered_sum a j pieces)) +ℤ ((delta i a *ℤ delta i b) *ℤ ordered_sum j j pieces)
    unfolding slid_pieces
    new_sum a b =
        let slide = slide_of i j (framed_top framed f) pieces in_e in_f in
        doubled_signs slide _ in_e e (slide.copied f) a b pieces

    module _ (result_diagram : IsDiagram new) where
      abbrev ls : List ℕ
      ls = labels_by_place (crossings_of new)

      abbrev keeps_roots : KeepsRoots (start_class xs diagram j) (root xs diagram) (none xs diagram) (framed_top framed f + 1) result
      keeps_roots = slid_keeps framed diagram e f at_e at_f apart in_e in_f

      above : top_of xs < framed_top framed f + 1
      above = omega arith

      number_at : (p : ℕ) → p < length ls → number_of new (slice_index ls p) ≡ keeps_roots.new_class (slice_index ls p)
      number_at = number_same xs diagram j (framed_top framed f + 1) result result_diagram above keeps_roots
          (slid_known framed diagram e f at_e at_f apart in_e in_f) (slid_entered framed diagram e f at_e at_f apart in_e in_f) (slid_free framed diagram e f at_e at_f apart in_e in_f)

      least_at : (p : ℕ) → p < length ls → component_least new (slice_index ls p) ≡ root xs diagram (keeps_roots.new_class (slice_index ls p))
      least_at = least_same xs diagram j (framed_top framed f + 1) result result_diagram above keeps_roots
          (slid_known framed diagram e f at_e at_f apart in_e in_f) (slid_entered framed diagram e f at_e at_f apart in_e in_f) (slid_free framed diagram e f at_e at_f apart in_e in_f)

      component_of_place : (p : ℕ) → p < length ls → IsComponent xs diagram (keeps_roots.new_class (slice_index ls p))
      component_of_place p l =
          let k = facts xs diagram j (framed_top framed f + 1) result result_diagram above keeps_roots
          (slid_known framed diagram e f at_e at_f apart in_e in_f) (slid_entered framed diagram e f at_e at_f apart in_e in_f) (slid_free framed diagram e f at_e at_f apart in_e in_f) p l in
          k.0

      new_numbers : AllByRecursion (λ s. (number_of new s.from ≡ s.component) × (number_of new s.to ≡ s.component)) (strands result)
      new_numbers =
          let number : (x : ℕ) → is_member ◌==◌ ls x ≡ true → number_of new x ≡ keeps_roots.new_class x =
          λ x m. let p = member_at ls x m in ap (number_of new) (sym p.2) ∙ (number_at p.0 p.1 ∙ ap keeps_roots.new_class p.2) in
          every_weaker _ (λ s. (number_of new s.from ≡ s.component) × (number_of new s.to ≡ s.component))
          (λ s k. (number s.from k.0.0 ∙ k.1.0, number s.to k.0.1 ∙ k.1.1))
          (strands result) (every_both _ _ (strands result) (ends_placed result) (classed_every keeps_roots.new_class (strands result) keeps_roots.has.classed))

      -- the sign of a component's direction
      abbrev against : List Bool
      against = map (is_against result) (least_labels xs)

      abbrev turn : ℕ → ℤ
      turn c = direction_sign against (c - 1)

      one_not : (b : Bool) → one b ≡ cond (not b) (negsuc 0) (pos 1)
      one_not true = refl
      one_not false = refl

      new_flags : (p : ℕ) → p < length ls → one (entered_at result (first_of new result_diagram p)) ≡ turn (number_of new (slice_index ls p))
      new_flags p l =
          let x = slice_index ls p in
          let c = keeps_roots.new_class x in
          let known_c = component_of_place p l in
          let q = known_c.0 in
          let w = known_c.1.0 in
          let same = known_c.1.1 in
          let low : 1 ≤ c = let s = number_some xs diagram q w in omega (arith, s, same) in
          let high : c ≤ n = let s = number_last xs (slice_index old_ls q) in omega (arith, s, same) in
          let y = root xs diagram c in
          let is_root : component_least new x ≡ y = least_at p l in
          let at_start : comes_in (entered_at result) (first_place ls y) ≡ entered_at result (first_of new result_diagram p) =
          ap (λ (z : ℕ). comes_in (entered_at result) (first_place ls z)) (sym is_root) ∙ ap (comes_in (entered_at result)) (first_place_is new result_diagram p l) in
          let flag : get_or against (c - 1) false ≡ is_against result y = get_or-map (is_against result) (least_labels xs) (c - 1) 0 false (omega (arith, low, high)) in
          one_not (entered_at result (first_of new result_diagram p))
          ∙ (sym (ap (λ (b : Bool). cond b (negsuc 0) (pos 1)) (flag ∙ ap not at_start)) ∙ ap turn (sym (number_at p l)))

      new_list : (a b : ℕ) → list_sum a b (signed_crossings new) ≡ (turn a *ℤ turn b) *ℤ ordered_sum a b result
      new_list = signed_sum new result_diagram result refl keeps_roots.has.directed new_numbers turn new_flags

      -- ---- off the diagonal
      abbrev moved : ℕ → ℕ → ℤ
      moved a b = (entry a b +ℤ ((sigma *ℤ delta i b) *ℤ entry a j)) +ℤ ((sigma *ℤ delta i a) *ℤ (entry j b +ℤ ((sigma *ℤ delta i b) *ℤ entry j j)))

      zero_times : (z : ℤ) → pos 0 *ℤ z ≡ pos 0
      zero_times z = omega (arith, ints)

      out_of : (s t x y : ℤ) → (s *ℤ t) *ℤ x +ℤ (t *ℤ s) *ℤ y ≡ (s *ℤ t) *ℤ (x +ℤ y)
      out_of s t x y = by_ring (s ∷ t ∷ x ∷ y ∷ []) (search reads depth 30) (search reads depth 30) refl

      pair_up : (p q r r' x y z u v t w : ℤ) → r ≡ pos 0 → r' ≡ pos 0 →
          (((x +ℤ p *ℤ y) +ℤ q *ℤ z) +ℤ r *ℤ w) +ℤ (((u +ℤ q *ℤ v) +ℤ p *ℤ t) +ℤ r' *ℤ w) ≡ ((x +ℤ u) +ℤ p *ℤ (y +ℤ t)) +ℤ q *ℤ (z +ℤ v)
      pair_up p q r r' x y z u v t w h k =
          let first : r *ℤ w ≡ pos 0 = ap (λ s. s *ℤ w) h ∙ zero_times w in
          let second : r' *ℤ w ≡ pos 0 = ap (λ s. s *ℤ w) k ∙ zero_times w in
          omega (arith, ints, times_plus p y t, times_plus q z v, first, second)

      twice_moved : (p q x y z w : ℤ) → ((pos 2 *ℤ x +ℤ p *ℤ (pos 2 *ℤ y)) +ℤ q *ℤ (pos 2 *ℤ z)) +ℤ pos 2 *ℤ ((p *ℤ q) *ℤ w) ≡ pos 2 *ℤ ((x +ℤ q *ℤ z) +ℤ p *ℤ (y +ℤ q *ℤ w))
      twice_moved p q x y z w = by_ring (p ∷ q ∷ x ∷ y ∷ z ∷ w ∷ []) (search reads depth 30) (search reads depth 30) refl

      no_product : (p q w : ℤ) → p *ℤ q ≡ pos 0 → pos 0 ≡ pos 2 *ℤ ((p *ℤ q) *ℤ w)
      no_product p q w h = sym (ap (λ z. pos 2 *ℤ (z *ℤ w)) h ∙ (let e : pos 2 *ℤ (pos 0 *ℤ w) ≡ pos 0 = by_ring (w ∷ []) (search reads depth 30) (search reads depth 30) refl in e))

      same_square : (s d c : ℤ) → (s *ℤ d) *ℤ (s *ℤ c) ≡ (s *ℤ s) *ℤ (d *ℤ c)
      same_square s d c = by_ring (s ∷ d ∷ c ∷ []) (search reads depth 30) (search reads depth 30) refl

      times_none : (s : ℤ) → s *ℤ pos 0 ≡ pos 0
      times_none s = omega (arith, ints)

      into_two : (s x : ℤ) → s *ℤ (pos 2 *ℤ x) ≡ pos 2 *ℤ (s *ℤ x)
      into_two s x = by_ring (s ∷ x ∷ []) (search reads depth 30) (search reads depth 30) refl

      both_deltas : (c a b : ℕ) → a ≢ b → delta c a *ℤ delta c b ≡ pos 0
      both_deltas c a b d = elim (cases_Bool (c == a)) [
        | inl t ↦ ap (λ z. delta c a *ℤ z) (delta_apart c b (λ s. d (sym (eqb-true c a t) ∙ s))) ∙ times_none (delta c a)
        | inr t ↦ ap (λ z. z *ℤ delta c b) (delta_apart c a (eqb-false c a t)) ∙ zero_times (delta c b)
      ]

      new_between : (a b : ℕ) → (1 ≤ a) × (a ≤ n) → (1 ≤ b) × (b ≤ n) → a ≢ b → signs_between a b (signed_crossings new) ≡ pos 2 *ℤ ((turn a *ℤ turn b) *ℤ moved a b)
      new_between a b ra rb d =
          let p = sigma *ℤ delta i a in
          let q = sigma *ℤ delta i b in
          let none_pq : p *ℤ q ≡ pos 0 = same_square sigma (delta i a) (delta i b) ∙ (ap (λ z. (sigma *ℤ sigma) *ℤ z) (both_deltas i a b d) ∙ times_none (sigma *ℤ sigma)) in
          let sums : ordered_sum a b result +ℤ ordered_sum b a result ≡ (both a b +ℤ p *ℤ both j b) +ℤ q *ℤ both a j =
          ap₂ (λ x y. x +ℤ y) (new_sum a b) (new_sum b a)
          ∙ pair_up p q (delta i a *ℤ delta i b) (delta i b *ℤ delta i a) (ordered_sum a b pieces) (ordered_sum j b pieces) (ordered_sum a j pieces) (ordered_sum b a pieces) (ordered_sum j a pieces) (ordered_sum b j pieces) (ordered_sum j j pieces)
          (both_deltas i a b d) (both_deltas i b a (λ s. d (sym s))) in
          let twice : (both a b +ℤ p *ℤ both j b) +ℤ q *ℤ both a j ≡ pos 2 *ℤ moved a b =
          ap₂ (λ x y. (x +ℤ p *ℤ y) +ℤ q *ℤ both a j) (twice_apart a b ra rb d) (twice_j b rb)
          ∙ (ap (λ z. (pos 2 *ℤ entry a b +ℤ p *ℤ (pos 2 *ℤ entry j b)) +ℤ q *ℤ z) (j_twice a ra)
          ∙ (plus_zero _
          ∙ (ap (λ z. ((pos 2 *ℤ entry a b +ℤ p *ℤ (pos 2 *ℤ entry j b)) +ℤ q *ℤ (pos 2 *ℤ entry a j)) +ℤ z) (no_product p q (entry j j) none_pq)
          ∙ twice_moved p q (entry a b) (entry j b) (entry a j) (entry j j)))) in
          between_apart a b d (signed_crossings new)
          ∙ (ap₂ (λ x y. x +ℤ y) (new_list a b) (new_list b a)
          ∙ (out_of (turn a) (turn b) (ordered_sum a b result) (ordered_sum b a result)
          ∙ (ap (λ z. (turn a *ℤ turn b) *ℤ z) (sums ∙ twice) ∙ into_two (turn a *ℤ turn b) (moved a b))))
        where
          plus_zero : (z : ℤ) → z ≡ z +ℤ pos 0
          plus_zero z = omega (arith, ints)

      -- ---- the framed diagram
      abbrev sign : Sign
      sign = sign_for (alike in_e in_f)

      abbrev slid_framed : FramedDiagram
      slid_framed = record { items = new; framings = set framed.framings (i - 1) (slid_framing framed i j sign) }

      apart_entry : (a b : ℕ) → (1 ≤ a) × (a ≤ n) → (1 ≤ b) × (b ≤ n) → a ≢ b → linking_entry slid_framed a b ≡ (turn a *ℤ turn b) *ℤ moved a b
      apart_entry a b ra rb d =
          ap (λ (t : Bool). cond t (framing_of slid_framed a) (linking new a b)) (ne_eqb a b d)
          ∙ (ap halved (new_between a b ra rb d) ∙ halved_double ((turn a *ℤ turn b) *ℤ moved a b))

      -- ---- on the diagonal
      turn_square : (c : ℕ) → turn c *ℤ turn c ≡ pos 1
      turn_square c = by_flag (get_or against (c - 1) false)
        where
          by_flag : (b : Bool) → cond b (negsuc 0) (pos 1) *ℤ cond b (negsuc 0) (pos 1) ≡ pos 1
          by_flag true = refl
          by_flag false = refl

      one_times : (z : ℤ) → z ≡ pos 1 *ℤ z
      one_times z = omega (arith, ints)

      kept_entry : (s x y z w : ℤ) → (x +ℤ ((s *ℤ pos 0) *ℤ y)) +ℤ ((s *ℤ pos 0) *ℤ (z +ℤ ((s *ℤ pos 0) *ℤ w))) ≡ x
      kept_entry s x y z w = by_ring (s ∷ x ∷ y ∷ z ∷ w ∷ []) (search reads depth 30) (search reads depth 30) refl

      sum_entry : (s x y z w : ℤ) → s *ℤ s ≡ pos 1 → (x +ℤ ((s *ℤ pos 1) *ℤ y)) +ℤ ((s *ℤ pos 1) *ℤ (z +ℤ ((s *ℤ pos 1) *ℤ w))) ≡ (x +ℤ w) +ℤ s *ℤ (y +ℤ z)
      sum_entry s x y z w h =
          (let e : (x +ℤ ((s *ℤ pos 1) *ℤ y)) +ℤ ((s *ℤ pos 1) *ℤ (z +ℤ ((s *ℤ pos 1) *ℤ w))) ≡ (x +ℤ (s *ℤ s) *ℤ w) +ℤ s *ℤ (y +ℤ z) = by_ring (s ∷ x ∷ y ∷ z ∷ w ∷ []) (search reads depth 30) (search reads depth 30) refl in e)
          ∙ ap (λ q. (x +ℤ q) +ℤ s *ℤ (y +ℤ z)) (ap (λ q. q *ℤ w) h ∙ sym (one_times w))

      sigma_square : sigma *ℤ sigma ≡ pos 1
      sigma_square = by_flag (alike in_e in_f)
        where
          by_flag : (b : Bool) → cond b (pos 1) (negsuc 0) *ℤ cond b (pos 1) (negsuc 0) ≡ pos 1
          by_flag true = refl
          by_flag false = refl

      halves_add : (x y s t : ℤ) → s ≡ pos 2 *ℤ x → t ≡ pos 2 *ℤ y → s ≡ t → x +ℤ y ≡ s
      halves_add x y s t h k l = omega (arith, ints, h, k, l)

      self_entry : (a : ℕ) → (1 ≤ a) × (a ≤ n) → linking_entry slid_framed a a ≡ (turn a *ℤ turn a) *ℤ moved a a
      self_entry a ra =
          let count = is_framed.count in
          let low = ra.0 in
          let high = ra.1 in
          let i1 = i_some in
          let i2 = i_within in
          ap (λ (t : Bool). cond t (framing_of slid_framed a) (linking new a a)) (eq-eqb a a refl)
          ∙ (elim (cases_Bool (i == a)) [
            | inl t ↦ (
                let is = eqb-true i a t in
                let turned : both i j ≡ both j i = swap_sum (ordered_sum i j pieces) (ordered_sum j i pieces) in
                let halves : entry i j +ℤ entry j i ≡ both i j = halves_add (entry i j) (entry j i) (both i j) (both j i) (j_twice i (i1, i2)) (twice_j i (i1, i2)) turned in
                let sum_ij : signs_between i j (signed_crossings xs) ≡ entry i j +ℤ entry j i = old_between i j (λ h. apart (sym h)) ∙ sym halves in
                let at_i : moved i i ≡ (framing_of framed i +ℤ framing_of framed j) +ℤ sigma *ℤ (entry i j +ℤ entry j i) =
                ap (λ z. (entry i i +ℤ ((sigma *ℤ z) *ℤ entry i j)) +ℤ ((sigma *ℤ z) *ℤ (entry j i +ℤ ((sigma *ℤ z) *ℤ entry j j)))) (delta_self i)
                ∙ (sum_entry sigma (entry i i) (entry i j) (entry j i) (entry j j) sigma_square
                ∙ ap₂ (λ x y. (x +ℤ y) +ℤ sigma *ℤ (entry i j +ℤ entry j i)) (entry_self i) (entry_self j)) in
                let framing : framing_of slid_framed i ≡ slid_framing framed i j sign = get_or-set_same framed.framings (i - 1) (slid_framing framed i j sign) (pos 0) (omega (arith, i1, i2, count)) in
                let value : slid_framing framed i j sign ≡ moved i i =
                ap₂ (λ x y. (framing_of framed i +ℤ framing_of framed j) +ℤ x *ℤ y) (sense_is (alike in_e in_f)) sum_ij ∙ sym at_i in
                subst (λ (c : ℕ). framing_of slid_framed c ≡ (turn c *ℤ turn c) *ℤ moved c c) is
                (framing ∙ (value ∙ (one_times (moved i i) ∙ ap (λ z. z *ℤ moved i i) (sym (turn_square i))))))
            | inr t ↦ (
                let other = eqb-false i a t in
                let framing : framing_of slid_framed a ≡ framing_of framed a = get_or-set_other framed.framings (i - 1) (a - 1) (slid_framing framed i j sign) (pos 0) (λ h. other (omega (arith, h, i1, low))) in
                let none_at : delta i a ≡ pos 0 = delta_apart i a other in
                let at_a : moved a a ≡ framing_of framed a =
                ap (λ z. (entry a a +ℤ ((sigma *ℤ z) *ℤ entry a j)) +ℤ ((sigma *ℤ z) *ℤ (entry j a +ℤ ((sigma *ℤ z) *ℤ entry j j)))) none_at
                ∙ (kept_entry sigma (entry a a) (entry a j) (entry j a) (entry j j) ∙ entry_self a) in
                framing ∙ (sym at_a ∙ (one_times (moved a a) ∙ ap (λ z. z *ℤ moved a a) (sym (turn_square a)))))
          ])

      any_entry : (a b : ℕ) → (1 ≤ a) × (a ≤ n) → (1 ≤ b) × (b ≤ n) → linking_entry slid_framed a b ≡ (turn a *ℤ turn b) *ℤ moved a b
      any_entry a b ra rb = elim (cases_Bool (a == b)) [
        | inl t ↦ subst (λ (c : ℕ). linking_entry slid_framed a c ≡ (turn a *ℤ turn c) *ℤ moved a c) (eqb-true a b t) (self_entry a ra)
        | inr t ↦ apart_entry a b ra rb (eqb-false a b t)
      ]

      -- ---- the product
      abbrev done : SlidDiagram
      done = record { framed = slid_framed; sign = sign; against = against }

      pub matrix_entry : (a b : ℕ) → a < n → b < n →
          linking_matrix slid_framed a b ≡ product n (transpose (slide_matrix framed e f done)) (product n (linking_matrix framed) (slide_matrix framed e f done)) a b
      matrix_entry a b la lb =
          let i1 = i_some in
          let j1 = j_some in
          let j2 = j_within in
          let l = linking_matrix framed in
          let F = direction_sign against in
          let s = sign_value sign in
          let back : (c : ℕ) → c + 1 - 1 ≡ c = λ c. omega arith in
          let row_j : j - 1 + 1 ≡ j = omega (arith, j1) in
          let at_b : s *ℤ cond (b == i - 1) (pos 1) (pos 0) ≡ sigma *ℤ delta i (b + 1) = ap₂ (λ x y. x *ℤ y) (sense_is (alike in_e in_f)) (delta_less i b i1) in
          let at_a : s *ℤ cond (a == i - 1) (pos 1) (pos 0) ≡ sigma *ℤ delta i (a + 1) = ap₂ (λ x y. x *ℤ y) (sense_is (alike in_e in_f)) (delta_less i a i1) in
          let expanded = congruence_entry n (i - 1) (j - 1) s F (omega (arith, j1, j2)) l a b la lb in
          let form : (fa fb p q : ℤ) (k : ℕ) → ℤ = λ fa fb p q k. (fa *ℤ fb) *ℤ ((entry (a + 1) (b + 1) +ℤ (q *ℤ entry (a + 1) k)) +ℤ (p *ℤ (entry k (b + 1) +ℤ (q *ℤ entry k k)))) in
          any_entry (a + 1) (b + 1) ((omega arith), (omega (arith, la))) ((omega arith), (omega (arith, lb)))
          ∙ (ap₂ (λ x y. form (F x) (F y) (sigma *ℤ delta i (a + 1)) (sigma *ℤ delta i (b + 1)) j) (back a) (back b)
          ∙ (ap₂ (λ x y. form (F a) (F b) x y j) (sym at_a) (sym at_b)
          ∙ (ap (λ k. form (F a) (F b) (s *ℤ cond (a == i - 1) (pos 1) (pos 0)) (s *ℤ cond (b == i - 1) (pos 1) (pos 0)) k) (sym row_j)
          ∙ sym expanded)))

-- THE CONGRUENCE
pub slide_congruence : SlideCongruence
slide_congruence framed e f result diagram is_framed result_diagram ok a b la lb =
    let k = accepted framed e f result ok in
    let h = k.passed in
    let in_e = entered_at (framed_pieces framed f) k.p in
    let in_f = entered_at (framed_pieces framed f) k.q in
    let n = components framed in
    let Goal : SlidDiagram → Type 0 = λ s. linking_matrix s.framed a b ≡ product n (transpose (slide_matrix framed e f s)) (product n (linking_matrix framed) (slide_matrix framed e f s)) a b in
    subst Goal (sym k.is)
    (matrix_entry framed diagram is_framed e f h.e_placed h.f_placed h.apart h.even in_e in_f (subst (λ (s : SlidDiagram). IsDiagram s.framed.items) k.is result_diagram) a b la lb)
