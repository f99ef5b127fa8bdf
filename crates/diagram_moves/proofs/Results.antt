-- What the result of an accepted move is, by the kind of its step, with all that is known then.
use Rattle.std.proofs.Common.{◌≡◌, ◌≢◌, ltb, ℕ, ◌+◌, ◌%◌, ◌<◌, ◌≤◌, length, Bool, true, false, cond, not, ◌||◌, ◌==◌, pos, List, [], ◌∷◌, ◌++◌, Some, Ok, sym, ap, ◌∙◌, arith, ⊎_elim, subst}
use Rattle.std.specs.List.{find}
use Rattle.std.specs.Set.{is_member}
use Rattle.std.proofs.lemmas.Bool.{eq-eqb, cases_Bool, ltb-true}
use Rattle.std.proofs.lemmas.Bool.Decides.{nat_tests}
use Rattle.graph_parts.specs.LeastNames.{least_label}
use Rattle.pd_reader.specs.declared.item.Item.{Item}
use Rattle.pd_reader.specs.declared.item.Item.TheVariants as item
use Rattle.pd_reader.specs.Items.{item_labels}
use Rattle.pd_reader.specs.Diagrams.{labels}
use Rattle.planar_check.specs.declared.sign.Sign.{Sign}
use Rattle.planar_check.specs.declared.sign.Sign.TheVariants as signs
use Rattle.diagram_moves.specs.Moves.{move, plain, is_loop, is_edge, same_face, second_place, pushed, is_bigon, bigon_classes, slot_pairs, slot_triples, four, is_triangle, triangle_rewritten, is_curl, curl_classes, curl_of, curl_slots, curled_loop, closing, removed, finished, first_place_of}
use Rattle.diagram_moves.specs.Rewriting.{slot, crossing_at, crossing_labels, fresh, at_places}
use Rattle.script_reader.specs.declared.step.Step.{Step}
use Rattle.script_reader.specs.declared.step.Step.TheVariants.{R2, R2Undo, R3, Curl, CurlUndo, BlowUp, Slide}
use Rattle.diagram_moves.specs.declared.factor.Factor.{Factor}
use Rattle.diagram_moves.specs.declared.fault.MoveFault.TheVariants.{NoEdge, NoCrossing, SameEdge, LoopEdge, NotSameFace, NotBigon, NotTriangle, NotCurl}
use Rattle.diagram_moves.specs.Steps.{Moved}
use Rattle.diagram_moves.proofs.Accepted.{given_Ok, unless_Ok, finished_Ok, finished_few, passing_test, small_pair, small_triple, low_pair, low_triple, small_pairs, small_triples, small_slots}
use Rattle.planar_check.specs.Places.{place_labels}

pub data Reached (items : List Item) : Factor → List Item → Type 0 where
  by_push : (e f : ℕ) (first_of_e first_of_f : Bool) → is_member ◌==◌ (crossing_labels items) e ≡ true → is_member ◌==◌ (crossing_labels items) f ≡ true → (e ≡ f → ⊥) → Reached items plain (pushed items e f first_of_e first_of_f)
  by_pull : (c g : ℕ) (here there : List ℕ) (s t : ℕ) → crossing_at items c ≡ Some here → crossing_at items g ≡ Some there → (g == c) ≡ false → s < 4 → t < 4 → is_bigon here there (s, t) ≡ true →
      Reached items plain (closing (least_label (bigon_classes here there (s, t))) (slot here s) (slot there (t + 1)) (removed (g ∷ c ∷ []) (least_label (bigon_classes here there (s, t))) items))
  by_slide : (c g f : ℕ) (here there beyond : List ℕ) (s t u : ℕ) → crossing_at items c ≡ Some here → crossing_at items g ≡ Some there → crossing_at items f ≡ Some beyond →
      (c == g || (g == f || c == f)) ≡ false → s < 4 → t < 4 → u < 4 → is_triangle here there beyond (s, (t, u)) ≡ true → Reached items plain (triangle_rewritten items c g f here there beyond (s + 3) t u)
  by_curl : (e : ℕ) (sign : Sign) → is_member ◌==◌ (crossing_labels items) e ≡ true →
      Reached items (curl_of sign) (at_places (λ q label. cond (q == second_place items e) (fresh items + 1) label) 0 items ++ item.X (curl_slots e (fresh items + 1) (fresh items) sign) ∷ [])
  by_curl_on_loop : (e : ℕ) (sign : Sign) → is_member ◌==◌ (labels item_labels items) e ≡ true → is_member ◌==◌ (crossing_labels items) e ≡ false →
      Reached items (curl_of sign) (curled_loop e (curl_slots e e (fresh items) sign) items)
  by_uncurl : (c : ℕ) (here : List ℕ) (s : ℕ) → crossing_at items c ≡ Some here → s < 4 → is_curl here s ≡ true →
      Reached items (curl_of (cond (s % 2 == 0) signs.Minus signs.Plus)) (closing (least_label (curl_classes here s)) (slot here s) (slot here s) (removed (c ∷ []) (least_label (curl_classes here s)) items))

module _ (items : List Item) where
  done : (factor : Factor) (after : List Item) (moved : Moved) → finished factor after ≡ Ok moved → Reached items factor after → Reached items moved.factor moved.items × (length moved.items ≤ 256)
  done factor after moved h r = (subst (λ (w : Moved). Reached items w.factor w.items) (sym (finished_Ok factor after moved h)) r, finished_few factor after moved h)

  inside : (e : ℕ) → is_loop items e ≡ false → is_member ◌==◌ (crossing_labels items) e ≡ true
  inside e h = grind (arith, h)

-- ---- what is found where a move is accepted
-- R2
pub push_accepted : (items : List Item) (e f : ℕ) (moved : Moved) → move items (R2 e f) ≡ Ok moved →
    (b : Bool) × (c : Bool) × (is_member ◌==◌ (crossing_labels items) e ≡ true) × (is_member ◌==◌ (crossing_labels items) f ≡ true) × (e ≢ f) × (finished plain (pushed items e f b c) ≡ Ok moved)
push_accepted items e f moved h =
    let h1 = unless_Ok (not (is_edge items e)) (NoEdge e) _ moved h in
    let h2 = unless_Ok (not (is_edge items f)) (NoEdge f) _ moved h1.1 in
    let h3 = unless_Ok (e == f) SameEdge _ moved h2.1 in
    let h4 = unless_Ok (is_loop items e) (LoopEdge e) _ moved h3.1 in
    let h5 = unless_Ok (is_loop items f) (LoopEdge f) _ moved h4.1 in
    let e_first = first_place_of (place_labels items) e in
    let f_first = first_place_of (place_labels items) f in
    let meets : ℕ → Bool = λ q. same_face items q f_first || same_face items q (second_place items f) in
    let h6 = unless_Ok (not (meets e_first || meets (second_place items e))) NotSameFace _ moved h5.1 in
    let first_of_e = meets e_first in
    let first_of_f = same_face items (cond first_of_e e_first (second_place items e)) f_first in
    let differ : e ≢ f = λ same. (let k = eq-eqb e f same in let n = h3.0 in grind (arith, k, n)) in
    (first_of_e, first_of_f, inside items e h4.0, inside items f h5.0, differ, h6.1)

-- R2Undo
pub record IsPull (items : List Item) (c g : ℕ) (moved : Moved) : Type 0 where
  pub here : List ℕ
  pub there : List ℕ
  pub at : ℕ × ℕ
  pub at_c : crossing_at items c ≡ Some here
  pub at_g : crossing_at items g ≡ Some there
  pub apart : (g == c) ≡ false
  pub found : find (is_bigon here there) slot_pairs ≡ Some at
  pub test : is_bigon here there at ≡ true
  pub low : (at.0 < 4) × (at.1 < 4)
  pub finishes : finished plain (closing (least_label (bigon_classes here there at)) (slot here at.0) (slot there (at.1 + 1)) (removed (g ∷ c ∷ []) (least_label (bigon_classes here there at)) items)) ≡ Ok moved

pub pull_accepted : (items : List Item) (c g : ℕ) (moved : Moved) → move items (R2Undo c g) ≡ Ok moved → IsPull items c g moved
pull_accepted items c g moved h =
    let h1 = given_Ok (crossing_at items c) (NoCrossing c) _ moved h in
    let h2 = given_Ok (crossing_at items g) (NoCrossing g) _ moved h1.2 in
    let h3 = unless_Ok (c == g) NotBigon _ moved h2.2 in
    let h4 = given_Ok (find (is_bigon h1.0 h2.0) slot_pairs) NotBigon _ moved h3.1 in
    let test = passing_test (is_bigon h1.0 h2.0) small_pair slot_pairs h4.0 h4.1 small_pairs in
    record {
      here = h1.0;
      there = h2.0;
      at = h4.0;
      at_c = h1.1;
      at_g = h2.1;
      apart = (let n = h3.0 in grind (arith, nat_tests, n));
      found = h4.1;
      test = test.0;
      low = low_pair h4.0 test.1;
      finishes = h4.2;
    }

-- R3
pub record IsSlide (items : List Item) (c g f : ℕ) (moved : Moved) : Type 0 where
  pub here : List ℕ
  pub there : List ℕ
  pub beyond : List ℕ
  pub at : ℕ × (ℕ × ℕ)
  pub at_c : crossing_at items c ≡ Some here
  pub at_g : crossing_at items g ≡ Some there
  pub at_f : crossing_at items f ≡ Some beyond
  pub distinct : (c == g || (g == f || c == f)) ≡ false
  pub found : find (λ corner. is_triangle here there beyond corner || is_triangle here beyond there corner) slot_triples ≡ Some at
  pub test : (is_triangle here there beyond at || is_triangle here beyond there at) ≡ true
  pub low : (at.0 < 4) × (at.1.0 < 4) × (at.1.1 < 4)
  pub finishes : finished plain (cond (is_triangle here there beyond at) (triangle_rewritten items c g f here there beyond (at.0 + 3) at.1.0 at.1.1) (triangle_rewritten items c f g here beyond there (at.0 + 3) at.1.0 at.1.1)) ≡ Ok moved

pub slide_accepted : (items : List Item) (c g f : ℕ) (moved : Moved) → move items (R3 c g f) ≡ Ok moved → IsSlide items c g f moved
slide_accepted items c g f moved h =
    let h1 = given_Ok (crossing_at items c) (NoCrossing c) _ moved h in
    let h2 = given_Ok (crossing_at items g) (NoCrossing g) _ moved h1.2 in
    let h3 = given_Ok (crossing_at items f) (NoCrossing f) _ moved h2.2 in
    let h4 = unless_Ok (c == g || (g == f || c == f)) NotTriangle _ moved h3.2 in
    let either : ℕ × (ℕ × ℕ) → Bool = λ corner. is_triangle h1.0 h2.0 h3.0 corner || is_triangle h1.0 h3.0 h2.0 corner in
    let h5 = given_Ok (find either slot_triples) NotTriangle _ moved h4.1 in
    let test = passing_test either small_triple slot_triples h5.0 h5.1 small_triples in
    record {
      here = h1.0;
      there = h2.0;
      beyond = h3.0;
      at = h5.0;
      at_c = h1.1;
      at_g = h2.1;
      at_f = h3.1;
      distinct = h4.0;
      found = h5.1;
      test = test.0;
      low = low_triple h5.0 test.1;
      finishes = h5.2;
    }

-- AN ACCEPTED MOVE
abbrev pub is_blow_up : Step → Bool
is_blow_up (R2 e f) = false
is_blow_up (R2Undo c g) = false
is_blow_up (R3 c g f) = false
is_blow_up (Curl e sign) = false
is_blow_up (CurlUndo c) = false
is_blow_up (BlowUp sign) = true
is_blow_up (Slide e f) = false

pub blown_up : (items : List Item) (sign : Sign) (moved : Moved) → move items (BlowUp sign) ≡ Ok moved → moved.items ≡ items ++ item.Loop (fresh items) ∷ []
blown_up items sign moved h = ap (λ (w : Moved). w.items) (finished_Ok record { curl = pos 0; circle = 1 } (items ++ item.Loop (fresh items) ∷ []) moved h)

pub blown_few : (items : List Item) (sign : Sign) (moved : Moved) → move items (BlowUp sign) ≡ Ok moved → length moved.items ≤ 256
blown_few items sign moved h = finished_few record { curl = pos 0; circle = 1 } (items ++ item.Loop (fresh items) ∷ []) moved h

pub reached : (items : List Item) (step : Step) (moved : Moved) → is_blow_up step ≡ false → move items step ≡ Ok moved → Reached items moved.factor moved.items × (length moved.items ≤ 256)
reached items (R2 e f) moved other h =
    let r = push_accepted items e f moved h in
    done items plain (pushed items e f r.0 r.1) moved r.5 (by_push e f r.0 r.1 r.2 r.3 r.4)
reached items (R2Undo c g) moved other h =
    let r = pull_accepted items c g moved h in
    let label : ℕ → ℕ = least_label (bigon_classes r.here r.there r.at) in
    done items plain (closing label (slot r.here r.at.0) (slot r.there (r.at.1 + 1)) (removed (g ∷ c ∷ []) label items)) moved r.finishes
    (by_pull c g r.here r.there r.at.0 r.at.1 r.at_c r.at_g r.apart r.low.0 r.low.1 r.test)
reached items (R3 c g f) moved other h =
    let r = slide_accepted items c g f moved h in
    let here = r.here in let there = r.there in let beyond = r.beyond in
    let s = r.at.0 in let t = r.at.1.0 in let u = r.at.1.1 in
    let one = triangle_rewritten items c g f here there beyond (s + 3) t u in
    let other = triangle_rewritten items c f g here beyond there (s + 3) t u in
    let distinct = r.distinct in
    ⊎_elim
    (λ yes. done items plain one moved (sym (ap (λ z. finished plain (cond z one other)) yes) ∙ r.finishes) (by_slide c g f here there beyond s t u r.at_c r.at_g r.at_f distinct r.low.0 r.low.1 r.low.2 yes))
    (λ no.
    let turned : (c == f || (f == g || c == g)) ≡ false = grind (arith, nat_tests, distinct) in
    let yes : is_triangle here beyond there r.at ≡ true = (let e = r.test in grind (arith, e, no)) in
    done items plain other moved (sym (ap (λ z. finished plain (cond z one other)) no) ∙ r.finishes) (by_slide c f g here beyond there s t u r.at_c r.at_f r.at_g turned r.low.0 r.low.1 r.low.2 yes))
    (cases_Bool (is_triangle here there beyond r.at))
reached items (Curl e sign) moved other h =
    let n = fresh items in
    let h1 = unless_Ok (not (is_edge items e)) (NoEdge e) _ moved h in
    let has : is_member ◌==◌ (labels item_labels items) e ≡ true = (let k = h1.0 in grind (arith, k)) in
    let on_loop = curled_loop e (curl_slots e e n sign) items in
    let on_edge = at_places (λ q label. cond (q == second_place items e) (n + 1) label) 0 items ++ item.X (curl_slots e (n + 1) n sign) ∷ [] in
    ⊎_elim
    (λ yes.
    let out : is_member ◌==◌ (crossing_labels items) e ≡ false = grind (arith, yes) in
    done items (curl_of sign) on_loop moved (sym (ap (λ z. finished (curl_of sign) (cond z on_loop on_edge)) yes) ∙ h1.1) (by_curl_on_loop e sign has out))
    (λ no. done items (curl_of sign) on_edge moved (sym (ap (λ z. finished (curl_of sign) (cond z on_loop on_edge)) no) ∙ h1.1) (by_curl e sign (inside items e no)))
    (cases_Bool (is_loop items e))
reached items (CurlUndo c) moved other h =
    let h1 = given_Ok (crossing_at items c) (NoCrossing c) _ moved h in
    let here = h1.0 in
    let h2 = given_Ok (find (is_curl here) four) NotCurl _ moved h1.2 in
    let s = h2.0 in
    let test = passing_test (is_curl here) (λ i. ltb i 4) four s h2.1 small_slots in
    let label : ℕ → ℕ = least_label (curl_classes here s) in
    done items (curl_of (cond (s % 2 == 0) signs.Minus signs.Plus)) (closing label (slot here s) (slot here s) (removed (c ∷ []) label items)) moved h2.2
    (by_uncurl c here s h1.1 (ltb-true s 4 test.1) test.0)
reached items (BlowUp sign) moved other h = absurd (grind (arith, other))
reached items (Slide e f) moved other h = absurd cc
