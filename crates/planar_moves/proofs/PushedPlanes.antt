-- An accepted R2 keeps a diagram planar: its two places lie in one face.
use Rattle.std.proofs.Common.{◌≡◌, ◌≢◌, ◌<◌, ◌↔◌, ℕ, ◌+◌, ◌*◌, ◌==◌, ◌||◌, Bool, true, false, cond, not, List, [], ◌∷◌, ◌++◌, map, length, slice_index, refl, sym, ap, ◌∙◌, subst, arith, ⊎_elim}
use Rattle.std.specs.List.{range_with_len}
use Rattle.std.specs.Set.{is_member}
use Rattle.std.proofs.lemmas.Bool.{eq-eqb, eqb-true, cases_Bool}
use Rattle.std.proofs.lemmas.Bool.Decides.{nat_tests}
use Rattle.std.proofs.lemmas.List.{length-append}
use Rattle.std.proofs.lemmas.List.FromFn.{get_or-map-range_with_len, length-map-range_with_len}
use Rattle.graph_parts.specs.LeastNames.{least_name}
use Rattle.graph_parts.specs.Parts.{part_count}
use Rattle.graph_parts.specs.Walks.{Joined}
use Rattle.graph_parts.proofs.PartLaws.{least_names_tell}
use Rattle.pd_reader.specs.declared.item.Item.{Item}
use Rattle.pd_reader.specs.declared.item.Item.TheVariants as item
use Rattle.planar_check.specs.Places.{crossings_of, item_slots, place_labels, slots_after, other_place, other_places}
use Rattle.planar_check.specs.Planar.{IsPlanar, next_in_face, face_of}
use Rattle.diagram_moves.specs.Laws.{IsPairedDiagram}
use Rattle.diagram_moves.specs.Moves.{plain, first_place_of, second_place, cut_labels, pushed, same_face, is_edge, is_loop}
use Rattle.diagram_moves.specs.Rewriting.{crossing_labels, map_from, at_places, fresh}
use Rattle.script_reader.specs.declared.step.Step.TheVariants.{R2}
use Rattle.diagram_moves.specs.declared.fault.MoveFault.TheVariants.{NoEdge, SameEdge, LoopEdge, NotSameFace}
use Rattle.diagram_moves.specs.Steps.{Moved}
use Rattle.diagram_moves.proofs.Accepted.{unless_Ok, finished_Ok}
use Rattle.list_lemmas.proofs.Items.{get_front}
use Rattle.move_results.proofs.PairedResults.{paired_again}
use Rattle.diagram_moves.proofs.PlaceLemmas.{place_labels_are, in_range, range_has, other_place_of, length-map_from, slice_index-map_from, crossing_labels-at_places}
use Rattle.diagram_moves.proofs.Pushing.{crossing_labels-append}
use Rattle.rotation_parts.specs.Rotations.{pair_graph}
use Rattle.rotation_parts.specs.Rotations.{steps, cycle_count, IsPermutation, IsPairing}
use Rattle.rotation_parts.proofs.Steps.{same_steps, steps_among}
use Rattle.planar_forms.specs.PlaceSystems.{next_slot, slot_before, all_places, along_face}
use Rattle.rotation_parts.specs.Drawings.{IsPush}
use Rattle.planar_moves.proofs.FirstPlaces.{first_place_has}
use Rattle.planar_moves.specs.Laws.{PushPlanarLaw}
use Rattle.planar_forms.proofs.PlacePairs.{other_is, slice_index-skip, long_is, label_twice, paired_places, turn_at}
use Rattle.planar_forms.proofs.PlaceCounts.{turns}
use Rattle.planar_forms.proofs.PlanarForms.{planar_form}
use Rattle.rotation_parts.proofs.Pushes.{push_counts}

-- the places that are chosen pass the test
chosen : (S : ℕ → ℕ → Bool) (a b c d : ℕ) → not ((S a c || S a d) || (S b c || S b d)) ≡ false →
    S (cond (S a c || S a d) a b) (cond (S (cond (S a c || S a d) a b) c) c d) ≡ true
chosen S a b c d h =
    let P : Bool → Type 0 = λ z. S (cond z a b) (cond (S (cond z a b) c) c d) ≡ true in
    let inner : (x : ℕ) → (S x c || S x d) ≡ true → S x (cond (S x c) c d) ≡ true = λ x k.
    (let Q : Bool → Type 0 = λ z. S x (cond z c d) ≡ true in
    ⊎_elim (λ t. subst Q (sym t) t) (λ t. subst Q (sym t) (grind (arith, k, t))) (cases_Bool (S x c))) in
    ⊎_elim (λ t. subst P (sym t) (inner a t)) (λ t. subst P (sym t) (inner b (grind (arith, h, t)))) (cases_Bool (S a c || S a d))

module _ (items : List Item) (pd : IsPairedDiagram items) where
  abbrev ls : List ℕ
  ls = place_labels items

  abbrev n : ℕ
  n = length ls

  abbrev names : List ℕ
  names = all_places items

  pairing : IsPairing n (other_place ls)
  pairing = paired_places items pd

  phi_permutes : IsPermutation names (along_face items) (λ x. other_place ls (slot_before x))
  phi_permutes = record {
    inside = λ x m. (turns items pd).inside (other_place ls x) (range_has n (other_place ls x) (pairing.low x (in_range n x m)));
    inside_back = λ x m. (let l = in_range n (slot_before x) ((turns items pd).inside_back x m) in range_has n (other_place ls (slot_before x)) (pairing.low (slot_before x) l));
    undone = λ x m. (let l = in_range n x m in ap (other_place ls) ((turns items pd).undone (other_place ls x) (range_has n (other_place ls x) (pairing.low x l))) ∙ pairing.twice x l);
    done_again = λ x m. (let l = in_range n (slot_before x) ((turns items pd).inside_back x m) in ap next_slot (pairing.twice (slot_before x) l) ∙ (turns items pd).done_again x m);
  }

  -- the least place of a face
  face_is : (x : ℕ) → face_of (crossings_of items) x ≡ least_name names (steps (along_face items) names) x
  unfolding face_of
  face_is x =
      let T = slots_after 0 (crossings_of items) in
      let others = other_places ls in
      ap (λ k. least_name (range_with_len 0 k) (map (λ z. (z, next_in_face T others z)) (range_with_len 0 k)) x) (length-map-range_with_len (other_place ls) 0 n)
      ∙ ap (λ es. least_name names es x) (same_steps (next_in_face T others) (along_face items) names
      (λ z m. let l = in_range n z m in ap (slice_index T) (get_or-map-range_with_len (other_place ls) 0 n z z 0 l (omega arith)) ∙ turn_at items pd (other_place ls z) (pairing.low z l)))

  met_faces : (x y : ℕ) → x < n → y < n → same_face items x y ≡ true → Joined (steps (along_face items) names) x y
  met_faces x y lx ly h =
      (least_names_tell names (steps (along_face items) names) x y (steps_among (along_face items) names phi_permutes.inside) (range_has n x lx) (range_has n y ly)).0
      (sym (face_is x) ∙ (eqb-true (face_of (crossings_of items) x) (face_of (crossings_of items) y) h ∙ face_is y))

  module _ (e f : ℕ) (has_e : is_member ◌==◌ (crossing_labels items) e ≡ true) (has_f : is_member ◌==◌ (crossing_labels items) f ≡ true) (differ : e ≢ f) (be bf : Bool) where
    abbrev ep : ℕ
    ep = first_place_of ls e

    abbrev eq : ℕ
    eq = second_place items e

    abbrev fp : ℕ
    fp = first_place_of ls f

    abbrev fq : ℕ
    fq = second_place items f

    abbrev m : ℕ
    m = fresh items

    abbrev g : ℕ → ℕ → ℕ
    g = cut_labels (second_place items e) (m + 1) (second_place items f) (m + 3)

    abbrev le1 : ℕ
    le1 = cond be e (m + 1)

    abbrev le3 : ℕ
    le3 = cond be (m + 1) e

    abbrev lf1 : ℕ
    lf1 = cond bf f (m + 3)

    abbrev lf3 : ℕ
    lf3 = cond bf (m + 3) f

    abbrev first_slots : List ℕ
    first_slots = (m + 2) ∷ le1 ∷ lf3 ∷ m ∷ []

    abbrev second_slots : List ℕ
    second_slots = lf1 ∷ le3 ∷ (m + 2) ∷ m ∷ []

    abbrev moved : List Item
    moved = at_places g 0 items ++ item.X first_slots ∷ item.X second_slots ∷ []

    abbrev new : List ℕ
    new = place_labels moved

    new_is : new ≡ map_from g 0 ls ++ (first_slots ++ second_slots)
    new_is =
        place_labels_are moved ∙ crossing_labels-append (at_places g 0 items) (item.X first_slots ∷ item.X second_slots ∷ [])
        ∙ ap (λ ns. ns ++ (first_slots ++ second_slots)) (crossing_labels-at_places g 0 items)
        ∙ ap (λ ns. map_from g 0 ns ++ (first_slots ++ second_slots)) (sym (place_labels_are items))

    front_long : length (map_from g 0 ls) ≡ n
    front_long = length-map_from g 0 ls

    long : length new ≡ n + 8
    long = let a = ap length new_is in let b = length-append (map_from g 0 ls) (first_slots ++ second_slots) in let c = front_long in omega (arith, a, b, c)

    e_place : (ep < n) × (slice_index ls ep ≡ e)
    e_place = first_place_has ls e (ap (λ ns. is_member ◌==◌ ns e) (place_labels_are items) ∙ has_e)

    f_place : (fp < n) × (slice_index ls fp ≡ f)
    f_place = first_place_has ls f (ap (λ ns. is_member ◌==◌ ns f) (place_labels_are items) ∙ has_f)

    eq_low : eq < n
    eq_low = pairing.low ep e_place.0

    fq_low : fq < n
    fq_low = pairing.low fp f_place.0

    eq_is : slice_index ls eq ≡ e
    eq_is = (other_place_of ls ep e_place.0).1 ∙ e_place.1

    fq_is : slice_index ls fq ≡ f
    fq_is = (other_place_of ls fp f_place.0).1 ∙ f_place.1

    -- places of different labels are different
    differs : (x y : ℕ) → slice_index ls x ≡ e → slice_index ls y ≡ f → x ≢ y
    differs x y a b s = differ (sym a ∙ (ap (slice_index ls) s ∙ b))

    old_label : (x : ℕ) → x < n → slice_index new x ≡ g x (slice_index ls x)
    old_label x l =
        ap (λ ns. slice_index ns x) new_is ∙ get_front (map_from g 0 ls) (first_slots ++ second_slots) x (omega (arith, l, front_long)) ∙ slice_index-map_from g 0 ls x l
        ∙ ap (λ z. g z (slice_index ls x)) (let u : 0 + x ≡ x = omega arith in u)

    new_label : (i : ℕ) → slice_index new (n + i) ≡ slice_index (first_slots ++ second_slots) i
    new_label i =
        ap (λ ns. slice_index ns (n + i)) new_is ∙ ap (λ k. slice_index (map_from g 0 ls ++ (first_slots ++ second_slots)) (k + i)) (sym front_long) ∙ slice_index-skip (map_from g 0 ls) (first_slots ++ second_slots) i

    kept_label : (x : ℕ) → x < n → x ≢ eq → x ≢ fq → slice_index new x ≡ slice_index ls x
    kept_label x l ne nf = old_label x l ∙ (let u : cond (x == eq) (m + 1) (cond (x == fq) (m + 3) (slice_index ls x)) ≡ slice_index ls x = grind (arith, nat_tests, ne, nf) in u)

    at_ep : slice_index new ep ≡ e
    at_ep = kept_label ep e_place.0 (λ u. pairing.apart ep e_place.0 (sym u)) (differs ep fq e_place.1 fq_is) ∙ e_place.1

    at_fp : slice_index new fp ≡ f
    at_fp = kept_label fp f_place.0 (λ u. differs eq fp eq_is f_place.1 (sym u)) (λ u. pairing.apart fp f_place.0 (sym u)) ∙ f_place.1

    at_eq : slice_index new eq ≡ m + 1
    at_eq = old_label eq eq_low ∙ (let t = eq-eqb eq eq refl in ap (λ b. cond b (m + 1) (cond (eq == fq) (m + 3) (slice_index ls eq))) t)

    at_fq : slice_index new fq ≡ m + 3
    at_fq = old_label fq fq_low ∙ (let t = eq-eqb fq fq refl in let d = differs eq fq eq_is fq_is in let u : cond (fq == eq) (m + 1) (cond (fq == fq) (m + 3) (slice_index ls fq)) ≡ m + 3 = grind (arith, nat_tests, t, d) in u)

  -- a pair of places, in either order
  either : (T : ℕ → ℕ → Type 0) (a b : ℕ) → T a b → T b a → (z : Bool) → T (cond z a b) (cond z b a)
  either T a b x y true = x
  either T a b x y false = y

  either_with : (T : ℕ → ℕ → Type 0) (a b u v : ℕ) → T a u → T b v → (z : Bool) → T (cond z a b) (cond z u v)
  either_with T a b u v x y true = x
  either_with T a b u v x y false = y

  both_apart : (x a b : ℕ) (z : Bool) → x ≢ cond z a b → x ≢ cond z b a → (x ≢ a) × (x ≢ b)
  both_apart x a b true h k = (h, k)
  both_apart x a b false h k = (k, h)

  module _ (e f : ℕ) (has_e : is_member ◌==◌ (crossing_labels items) e ≡ true) (has_f : is_member ◌==◌ (crossing_labels items) f ≡ true) (differ : e ≢ f) (be bf : Bool) (pd2 : IsPairedDiagram (moved e f has_e has_f differ be bf)) where
    abbrev e1 : ℕ
    e1 = cond be (ep e f has_e has_f differ be bf) (eq e f has_e has_f differ be bf)

    abbrev e3 : ℕ
    e3 = cond be (eq e f has_e has_f differ be bf) (ep e f has_e has_f differ be bf)

    abbrev f1 : ℕ
    f1 = cond bf (fp e f has_e has_f differ be bf) (fq e f has_e has_f differ be bf)

    abbrev f3 : ℕ
    f3 = cond bf (fq e f has_e has_f differ be bf) (fp e f has_e has_f differ be bf)

    abbrev after : List ℕ
    after = new e f has_e has_f differ be bf

    drawn_is : (x y : ℕ) → x < n + 8 → y < n + 8 → x ≢ y → slice_index after x ≡ slice_index after y → other_place after x ≡ y
    drawn_is x y lx ly ne same =
        let size = long e f has_e has_f differ be bf in
        let hx : x < length after = omega (arith, lx, size) in
        other_is after x y hx (omega (arith, ly, size)) ne same (label_twice (moved e f has_e has_f differ be bf) pd2 x hx)

    e_low : (e1 < n) × (e3 < n)
    e_low = either (λ x y. (x < n) × (y < n)) (ep e f has_e has_f differ be bf) (eq e f has_e has_f differ be bf) ((e_place e f has_e has_f differ be bf).0, eq_low e f has_e has_f differ be bf) (eq_low e f has_e has_f differ be bf, (e_place e f has_e has_f differ be bf).0) be

    f_low : (f1 < n) × (f3 < n)
    f_low = either (λ x y. (x < n) × (y < n)) (fp e f has_e has_f differ be bf) (fq e f has_e has_f differ be bf) ((f_place e f has_e has_f differ be bf).0, fq_low e f has_e has_f differ be bf) (fq_low e f has_e has_f differ be bf, (f_place e f has_e has_f differ be bf).0) bf

    e_other : (other_place ls e1 ≡ e3) × (other_place ls e3 ≡ e1)
    e_other = either (λ x y. (other_place ls x ≡ y) × (other_place ls y ≡ x)) (ep e f has_e has_f differ be bf) (eq e f has_e has_f differ be bf) (refl, pairing.twice (ep e f has_e has_f differ be bf) (e_place e f has_e has_f differ be bf).0) (pairing.twice (ep e f has_e has_f differ be bf) (e_place e f has_e has_f differ be bf).0, refl) be

    f_other : (other_place ls f1 ≡ f3) × (other_place ls f3 ≡ f1)
    f_other = either (λ x y. (other_place ls x ≡ y) × (other_place ls y ≡ x)) (fp e f has_e has_f differ be bf) (fq e f has_e has_f differ be bf) (refl, pairing.twice (fp e f has_e has_f differ be bf) (f_place e f has_e has_f differ be bf).0) (pairing.twice (fp e f has_e has_f differ be bf) (f_place e f has_e has_f differ be bf).0, refl) bf

    e_were : (slice_index ls e1 ≡ e) × (slice_index ls e3 ≡ e)
    e_were = either (λ x y. (slice_index ls x ≡ e) × (slice_index ls y ≡ e)) (ep e f has_e has_f differ be bf) (eq e f has_e has_f differ be bf) ((e_place e f has_e has_f differ be bf).1, eq_is e f has_e has_f differ be bf) (eq_is e f has_e has_f differ be bf, (e_place e f has_e has_f differ be bf).1) be

    f_were : (slice_index ls f1 ≡ f) × (slice_index ls f3 ≡ f)
    f_were = either (λ x y. (slice_index ls x ≡ f) × (slice_index ls y ≡ f)) (fp e f has_e has_f differ be bf) (fq e f has_e has_f differ be bf) ((f_place e f has_e has_f differ be bf).1, fq_is e f has_e has_f differ be bf) (fq_is e f has_e has_f differ be bf, (f_place e f has_e has_f differ be bf).1) bf

    at_e1 : slice_index after e1 ≡ le1 e f has_e has_f differ be bf
    at_e1 = either_with (λ x l. slice_index after x ≡ l) (ep e f has_e has_f differ be bf) (eq e f has_e has_f differ be bf) e (fresh items + 1) (at_ep e f has_e has_f differ be bf) (at_eq e f has_e has_f differ be bf) be

    at_e3 : slice_index after e3 ≡ le3 e f has_e has_f differ be bf
    at_e3 = either_with (λ x l. slice_index after x ≡ l) (eq e f has_e has_f differ be bf) (ep e f has_e has_f differ be bf) (fresh items + 1) e (at_eq e f has_e has_f differ be bf) (at_ep e f has_e has_f differ be bf) be

    at_f1 : slice_index after f1 ≡ lf1 e f has_e has_f differ be bf
    at_f1 = either_with (λ x l. slice_index after x ≡ l) (fp e f has_e has_f differ be bf) (fq e f has_e has_f differ be bf) f (fresh items + 3) (at_fp e f has_e has_f differ be bf) (at_fq e f has_e has_f differ be bf) bf

    at_f3 : slice_index after f3 ≡ lf3 e f has_e has_f differ be bf
    at_f3 = either_with (λ x l. slice_index after x ≡ l) (fq e f has_e has_f differ be bf) (fp e f has_e has_f differ be bf) (fresh items + 3) f (at_fq e f has_e has_f differ be bf) (at_fp e f has_e has_f differ be bf) bf

    at : (i : ℕ) → slice_index after (n + i) ≡ slice_index (first_slots e f has_e has_f differ be bf ++ second_slots e f has_e has_f differ be bf) i
    at i = new_label e f has_e has_f differ be bf i

    kept_other : (x : ℕ) → x < n → x ≢ e1 → x ≢ e3 → x ≢ f1 → x ≢ f3 → other_place after x ≡ other_place ls x
    kept_other x l ne1 ne3 nf1 nf3 =
        let o = other_place ls x in
        let lo = pairing.low x l in
        let tw = pairing.twice x l in
        let en = both_apart x (ep e f has_e has_f differ be bf) (eq e f has_e has_f differ be bf) be ne1 ne3 in
        let fn' = both_apart x (fp e f has_e has_f differ be bf) (fq e f has_e has_f differ be bf) bf nf1 nf3 in
        let oe : o ≢ eq e f has_e has_f differ be bf = λ u. en.0 (sym tw ∙ (ap (other_place ls) u ∙ pairing.twice (ep e f has_e has_f differ be bf) (e_place e f has_e has_f differ be bf).0)) in
        let of : o ≢ fq e f has_e has_f differ be bf = λ u. fn'.0 (sym tw ∙ (ap (other_place ls) u ∙ pairing.twice (fp e f has_e has_f differ be bf) (f_place e f has_e has_f differ be bf).0)) in
        drawn_is x o (omega (arith, l)) (omega (arith, lo)) (λ u. pairing.apart x l (sym u))
        (kept_label e f has_e has_f differ be bf x l en.1 fn'.1 ∙ sym (other_place_of ls x l).1 ∙ sym (kept_label e f has_e has_f differ be bf o lo oe of))

    four : n ≡ 4 * length (crossings_of items)
    four = long_is items pd

    is_push : IsPush n next_slot (other_place ls) (other_place after) e1 e3 f1 f3
    is_push =
        let a = e_low.0 in let b = e_low.1 in let c = f_low.0 in let d = f_low.1 in
        record {
          le1 = a;
          le3 = b;
          lf1 = c;
          lf3 = d;
          ee = e_other.0;
          ee_back = e_other.1;
          ff = f_other.0;
          ff_back = f_other.1;
          apart = ((λ u. pairing.apart e1 a (e_other.0 ∙ u)), differs e f has_e has_f differ be bf e3 f1 e_were.1 f_were.0, (λ u. differs e f has_e has_f differ be bf e1 f3 e_were.0 f_were.1 (sym u)), (λ u. pairing.apart f1 c (f_other.0 ∙ u)), (λ u. differs e f has_e has_f differ be bf e1 f1 e_were.0 f_were.0 (sym u)));
          turn_in = λ x l. omega (arith, l, four);
          other_in = λ x l. pairing.low x l;
          t0 = omega (arith, four);
          t1 = omega (arith, four);
          t2 = omega (arith, four);
          t3 = omega (arith, four);
          t4 = omega (arith, four);
          t5 = omega (arith, four);
          t6 = omega (arith, four);
          t7 = omega (arith, four);
          d0 = drawn_is (n + 0) (n + 6) (omega arith) (omega arith) (omega arith) (at 0 ∙ sym (at 6));
          d1 = drawn_is (n + 1) e1 (omega arith) (omega (arith, a)) (omega (arith, a)) (at 1 ∙ sym at_e1);
          d2 = drawn_is (n + 2) f3 (omega arith) (omega (arith, d)) (omega (arith, d)) (at 2 ∙ sym at_f3);
          d3 = drawn_is (n + 3) (n + 7) (omega arith) (omega arith) (omega arith) (at 3 ∙ sym (at 7));
          d4 = drawn_is (n + 4) f1 (omega arith) (omega (arith, c)) (omega (arith, c)) (at 4 ∙ sym at_f1);
          d5 = drawn_is (n + 5) e3 (omega arith) (omega (arith, b)) (omega (arith, b)) (at 5 ∙ sym at_e3);
          d6 = drawn_is (n + 6) (n + 0) (omega arith) (omega arith) (omega arith) (at 6 ∙ sym (at 0));
          d7 = drawn_is (n + 7) (n + 3) (omega arith) (omega arith) (omega arith) (at 7 ∙ sym (at 3));
          de1 = drawn_is e1 (n + 1) (omega (arith, a)) (omega arith) (omega (arith, a)) (at_e1 ∙ sym (at 1));
          df3 = drawn_is f3 (n + 2) (omega (arith, d)) (omega arith) (omega (arith, d)) (at_f3 ∙ sym (at 2));
          df1 = drawn_is f1 (n + 4) (omega (arith, c)) (omega arith) (omega (arith, c)) (at_f1 ∙ sym (at 4));
          de3 = drawn_is e3 (n + 5) (omega (arith, b)) (omega arith) (omega (arith, b)) (at_e3 ∙ sym (at 5));
          kept = kept_other;
        }

    pushed_planar : same_face items e1 f1 ≡ true → IsPlanar item_slots items ↔ IsPlanar item_slots (moved e f has_e has_f differ be bf)
    pushed_planar h =
        let r = push_counts n next_slot (λ x. other_place ls (slot_before x)) (other_place ls) (other_place after) e1 e3 f1 f3 is_push phi_permutes (met_faces e1 f1 e_low.0 f_low.0 h) in
        let faces = r.0 in
        let pieces = r.1 in
        let size = long e f has_e has_f differ be bf in
        let f2 = ap (λ k. cycle_count (range_with_len 0 k) (along_face (moved e f has_e has_f differ be bf))) size in
        let k2 = ap (λ k. part_count (range_with_len 0 k) (pair_graph (range_with_len 0 k) next_slot (other_place after))) size in
        let long2 = long_is (moved e f has_e has_f differ be bf) pd2 in
        let one = planar_form items pd in
        let two = planar_form (moved e f has_e has_f differ be bf) pd2 in (
          (λ h. let w = one.0 h in two.1 (omega (arith, w, faces, pieces, f2, k2, size, long2, four))),
          (λ h. let w = two.0 h in one.1 (omega (arith, w, faces, pieces, f2, k2, size, long2, four))),
        )

pub push_planar : PushPlanarLaw
push_planar items e f after pd h =
    let ls = place_labels items in
    let h1 = unless_Ok (not (is_edge items e)) (NoEdge e) _ after h in
    let h2 = unless_Ok (not (is_edge items f)) (NoEdge f) _ after h1.1 in
    let h3 = unless_Ok (e == f) SameEdge _ after h2.1 in
    let h4 = unless_Ok (is_loop items e) (LoopEdge e) _ after h3.1 in
    let h5 = unless_Ok (is_loop items f) (LoopEdge f) _ after h4.1 in
    let ep = first_place_of ls e in
    let eq = second_place items e in
    let fp = first_place_of ls f in
    let fq = second_place items f in
    let meets : ℕ → Bool = λ x. same_face items x fp || same_face items x fq in
    let h6 = unless_Ok (not (meets ep || meets eq)) NotSameFace _ after h5.1 in
    let be = meets ep in
    let bf = same_face items (cond be ep eq) fp in
    let differ : e ≢ f = λ same. (let k = eq-eqb e f same in let u = h3.0 in grind (arith, k, u)) in
    let has_e : is_member ◌==◌ (crossing_labels items) e ≡ true = (let u = h4.0 in grind (arith, u)) in
    let has_f : is_member ◌==◌ (crossing_labels items) f ≡ true = (let u = h5.0 in grind (arith, u)) in
    let is : after.items ≡ pushed items e f be bf = ap (λ (w : Moved). w.items) (finished_Ok plain (pushed items e f be bf) after h6.1) in
    let P : List Item → Type 0 = λ (w : List Item). IsPairedDiagram w in
    let Q : List Item → Type 0 = λ (w : List Item). IsPlanar item_slots items ↔ IsPlanar item_slots w in
    let pd2 : IsPairedDiagram (pushed items e f be bf) = subst P is (paired_again items (R2 e f) after pd h) in
    subst Q (sym is) (pushed_planar items pd e f has_e has_f differ be bf pd2 (chosen (same_face items) ep eq fp fq h6.0))
