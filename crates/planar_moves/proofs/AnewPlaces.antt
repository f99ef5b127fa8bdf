-- The places of crossings that are written anew, where they stay; and the corners of a crossing.
use Rattle.std.proofs.Common.{◌≡◌, ◌≢◌, ◌≤◌, ◌<◌, ltb, ℕ, ◌+◌, ◌-◌, ◌/◌, ◌==◌, true, false, cond, List, [], ◌∷◌, ◌++◌, length, slice_index, refl, sym, ap, ◌∙◌, subst, arith, ⊎_elim}
use Rattle.std.specs.List.{AllByRecursion}
use Rattle.std.proofs.lemmas.Bool.{eq-eqb, eqb-true, cases_Bool, ltb-true}
use Rattle.std.proofs.lemmas.Bool.Decides.{nat_tests}
use Rattle.std.proofs.lemmas.List.{length-append}
use Rattle.list_lemmas.proofs.Items.{get_front}
use Rattle.pd_reader.specs.declared.item.Item.{Item}
use Rattle.pd_reader.specs.declared.item.Item.TheVariants as item
use Rattle.pd_reader.specs.Items.{HasItsSlots}
use Rattle.diagram_moves.specs.Moves.{triangle_slots, moved_slots}
use Rattle.diagram_moves.specs.Rewriting.{slot, crossing_labels}
use Rattle.diagram_moves.proofs.Rewritten.{anew}
use Rattle.planar_forms.proofs.PlacePairs.{slice_index-skip}
use Rattle.planar_moves.proofs.SmoothedCrossings.{corner_place}

-- ---- the labels of crossings that are written anew, where they stay
pub anew_long : (h : ℕ → List ℕ → List ℕ) → ((c : ℕ) (slots : List ℕ) → length slots ≡ 4 → length (h c slots) ≡ 4) → (k : ℕ) (items : List Item) → AllByRecursion HasItsSlots items →
    length (crossing_labels (anew h k items)) ≡ length (crossing_labels items)
anew_long h four k [] s = refl
anew_long h four k (item.X here ∷ rest) s =
    let a = length-append (h k here) (crossing_labels (anew h (k + 1) rest)) in
    let b = length-append here (crossing_labels rest) in
    let c = four k here s.0 in
    let d = s.0 in
    let ih = anew_long h four (k + 1) rest s.1 in
    omega (arith, a, b, c, d, ih)
anew_long h four k (item.Loop l ∷ rest) s = anew_long h four k rest s.1

pub anew_label : (h : ℕ → List ℕ → List ℕ) → ((c : ℕ) (slots : List ℕ) → length slots ≡ 4 → length (h c slots) ≡ 4) → (k : ℕ) (items : List Item) (p : ℕ) → AllByRecursion HasItsSlots items →
    ((slots : List ℕ) → h (k + p / 4) slots ≡ slots) → p < length (crossing_labels items) → slice_index (crossing_labels (anew h k items)) p ≡ slice_index (crossing_labels items) p
anew_label h four k [] p s stays l = absurd (omega (arith, l))
anew_label h four k (item.X here ∷ rest) p s stays l =
    let size = s.0 in
    let new = h k here in
    let new_size = four k here size in
    let b = length-append here (crossing_labels rest) in
    let R = crossing_labels (anew h (k + 1) rest) in
    ⊎_elim
    (λ t.
    let low = ltb-true p 4 t in
    let z : k + p / 4 ≡ k = omega (arith, low) in
    let same : new ≡ here = sym (ap (λ c. h c here) z) ∙ stays here in
    get_front new R p (omega (arith, low, new_size)) ∙ (ap (λ ns. slice_index ns p) same ∙ sym (get_front here (crossing_labels rest) p (omega (arith, low, size)))))
    (λ g.
    let high : 4 ≤ p = grind (arith, nat_tests, g) in
    let q = p - 4 in
    let at : p ≡ length new + q = omega (arith, high, new_size) in
    let at_old : p ≡ length here + q = omega (arith, high, size) in
    let z : k + p / 4 ≡ k + 1 + q / 4 = omega (arith, high) in
    ap (slice_index (new ++ R)) at ∙ (slice_index-skip new R q
    ∙ (anew_label h four (k + 1) rest q s.1 (λ slots. sym (ap (λ c. h c slots) z) ∙ stays slots) (omega (arith, l, b, size, high))
    ∙ sym (ap (slice_index (here ++ crossing_labels rest)) at_old ∙ slice_index-skip here (crossing_labels rest) q))))
    (cases_Bool (ltb p 4))
anew_label h four k (item.Loop label ∷ rest) p s stays l = anew_label h four k rest p s.1 stays l

-- one of the four corners of a crossing
pub four_cases : (T : ℕ → Type 0) (c k : ℕ) → 1 ≤ c → T (corner_place c k) → T (corner_place c (k + 1)) → T (corner_place c (k + 2)) → T (corner_place c (k + 3)) → (x : ℕ) → x / 4 + 1 ≡ c → T x
four_cases T c k low t0 t1 t2 t3 x e =
    let p0 = corner_place c k in let p1 = corner_place c (k + 1) in let p2 = corner_place c (k + 2) in let p3 = corner_place c (k + 3) in
    ⊎_elim (λ t. subst T (sym (eqb-true x p0 t)) t0) (λ n0.
    ⊎_elim (λ t. subst T (sym (eqb-true x p1 t)) t1) (λ n1.
    ⊎_elim (λ t. subst T (sym (eqb-true x p2 t)) t2) (λ n2.
    let a : x ≢ p0 = (λ w. (let t = eq-eqb x p0 w in grind (arith, t, n0))) in
    let b : x ≢ p1 = (λ w. (let t = eq-eqb x p1 w in grind (arith, t, n1))) in
    let d : x ≢ p2 = (λ w. (let t = eq-eqb x p2 w in grind (arith, t, n2))) in
    let last : x ≡ p3 = omega (arith, low, e, a, b, d) in
    subst T (sym last) t3)
    (cases_Bool (x == p2)))
    (cases_Bool (x == p1)))
    (cases_Bool (x == p0))

pub moved_four : (c d f : ℕ) (first second third : List ℕ) (s t u k : ℕ) (slots : List ℕ) → length slots ≡ 4 → length (triangle_slots c d f first second third s t u k slots) ≡ 4
moved_four c d f first second third s t u k slots four =
    elim (k == c) as (λ z. length (cond z (moved_slots s first (slot third (u + 3)) (slot second (t + 2)))
    (cond (k == d) (moved_slots t second (slot first (s + 3)) (slot third (u + 2))) (cond (k == f) (moved_slots u third (slot second (t + 3)) (slot first (s + 2))) slots))) ≡ 4) [
      | true ↦ refl
      | false ↦ elim (k == d) as (λ z. length (cond z (moved_slots t second (slot first (s + 3)) (slot third (u + 2))) (cond (k == f) (moved_slots u third (slot second (t + 3)) (slot first (s + 2))) slots)) ≡ 4) [
        | true ↦ refl
        | false ↦ elim (k == f) as (λ z. length (cond z (moved_slots u third (slot second (t + 3)) (slot first (s + 2))) slots) ≡ 4) [ true ↦ refl | false ↦ four ]
      ]
    ]
