-- Each label of a move's result stands twice again, move by move.
use Rattle.std.proofs.Common.{◌≡◌, ℕ, ◌+◌, ◌*◌, ◌%◌, ◌≤◌, true, false, cond, ◌==◌, List, [], ◌∷◌, ◌++◌, length, refl, sym, ap, ◌∙◌, arith, ⊎_elim, append-nil, subst}
use Rattle.std.specs.Set.{is_member}
use Rattle.std.proofs.lemmas.Bool.{or_left, eq-eqb, eqb-true, cases_Bool, and_parts}
use Rattle.std.proofs.lemmas.Bool.Decides.{nat_tests}
use Rattle.std.proofs.lemmas.List.Sums.{sum_by-cons}
use Rattle.pd_reader.specs.declared.item.Item.{Item}
use Rattle.pd_reader.specs.declared.item.Item.TheVariants as item
use Rattle.planar_check.specs.declared.sign.Sign.TheVariants as signs
use Rattle.diagram_moves.specs.Laws.{IsPairedDiagram}
use Rattle.move_results.specs.Laws.{PairedAgainLaw}
use Rattle.diagram_moves.specs.Moves.{curl_slots, curled_loop, is_triangle, triangle_slots, pushed, second_place, bigon_classes, curl_classes}
use Rattle.diagram_moves.specs.Rewriting.{slot, crossing_labels, fresh, at_places}
use Rattle.diagram_moves.proofs.Curling.{sizes-curled, curled_times, new_two, two_old, two_most, sizes-curled_loop, loop_slots_four, is_loop_label}
use Rattle.diagram_moves.proofs.Paired.{times_labels, loop_labels, sizes-append}
use Rattle.move_results.proofs.PairedAgain.{paired_diagram, fresh_all, closing_paired, loop_labels-append}
use Rattle.diagram_moves.proofs.NoNumbers.{nothing, modulo_one}
use Rattle.diagram_moves.proofs.Pulling.{recounted, curl_recounted, wrapped}
use Rattle.diagram_moves.proofs.Pushing.{sizes-pushed, pushed_times, new_four, new_four_old, new_four_most, crossing_labels-append}
use Rattle.diagram_moves.proofs.Results.{Reached, by_push, by_pull, by_slide, by_curl, by_curl_on_loop, by_uncurl, reached, blown_up}
use Rattle.diagram_moves.specs.declared.factor.Factor.{Factor}
use Rattle.script_reader.specs.declared.step.Step.TheVariants.{R2, R2Undo, R3, Curl, CurlUndo, BlowUp, Slide}
use Rattle.diagram_moves.proofs.Rewritten.{anew, loop_labels-rewritten}
use Rattle.diagram_moves.proofs.Triangles.{sizes-triangle, after_times}
use Rattle.list_lemmas.specs.Times.{times_in}
use Rattle.list_lemmas.proofs.Times.{times_in-append}

-- ---- Loops that stay
pub loop_labels-at_places : (g : ℕ → ℕ → ℕ) (p : ℕ) (items : List Item) → loop_labels (at_places g p items) ≡ loop_labels items
loop_labels-at_places g p [] = refl
loop_labels-at_places g p (item.X slots ∷ rest) = loop_labels-at_places g (p + length slots) rest
loop_labels-at_places g p (item.Loop l ∷ rest) = ap (λ ns. l ∷ ns) (loop_labels-at_places g p rest)

-- ---- a Loop that gets a curl
pub curled_crossings : (e : ℕ) (slots : List ℕ) (items : List Item) (z : ℕ) → is_member ◌==◌ (loop_labels items) e ≡ true →
    times_in (crossing_labels (curled_loop e slots items)) z ≡ times_in slots z + times_in (crossing_labels items) z
curled_crossings e slots [] z there = absurd (grind (arith, there))
curled_crossings e slots (item.X here ∷ rest) z there =
    let ih = curled_crossings e slots rest z there in
    let a = times_in-append here (crossing_labels (curled_loop e slots rest)) z in
    let b = times_in-append here (crossing_labels rest) z in
    omega (arith, ih, a, b)
curled_crossings e slots (item.Loop l ∷ rest) z there =
    ⊎_elim
    (λ t. ap (λ c. times_in (crossing_labels (cond c (item.X slots ∷ rest) (item.Loop l ∷ curled_loop e slots rest))) z) t ∙ times_in-append slots (crossing_labels rest) z)
    (λ t. ap (λ c. times_in (crossing_labels (cond c (item.X slots ∷ rest) (item.Loop l ∷ curled_loop e slots rest))) z) t
    ∙ curled_crossings e slots rest z (let s : is_member ◌==◌ (loop_labels rest) e ≡ true = grind (arith, nat_tests, t, there) in s))
    (cases_Bool (l == e))

pub curled_loops : (e : ℕ) (slots : List ℕ) (items : List Item) (z : ℕ) → is_member ◌==◌ (loop_labels items) e ≡ true →
    times_in (loop_labels (curled_loop e slots items)) z + cond (z == e) 1 0 ≡ times_in (loop_labels items) z
curled_loops e slots [] z there = absurd (grind (arith, there))
curled_loops e slots (item.X here ∷ rest) z there = curled_loops e slots rest z there
curled_loops e slots (item.Loop l ∷ rest) z there =
    let f = sum_by-cons (λ y. cond (z == y) 1 0) l (loop_labels rest) in
    let g = sum_by-cons (λ y. cond (z == y) 1 0) l (loop_labels (curled_loop e slots rest)) in
    ⊎_elim
    (λ t. let same : l ≡ e = eqb-true l e t in
    ap (λ c. times_in (loop_labels (cond c (item.X slots ∷ rest) (item.Loop l ∷ curled_loop e slots rest))) z + cond (z == e) 1 0) t
    ∙ (let u = ap {B = ℕ} (λ n. cond (z == n) 1 0) same in omega (arith, f, u)))
    (λ t.
    let ih = curled_loops e slots rest z (let s : is_member ◌==◌ (loop_labels rest) e ≡ true = grind (arith, nat_tests, t, there) in s) in
    ap (λ c. times_in (loop_labels (cond c (item.X slots ∷ rest) (item.Loop l ∷ curled_loop e slots rest))) z + cond (z == e) 1 0) t ∙ omega (arith, f, g, ih))
    (cases_Bool (l == e))

-- the edges of a triangle, from one corner to the next
pub triangle_edges : (here there beyond : List ℕ) (s t u : ℕ) → is_triangle here there beyond (s, (t, u)) ≡ true →
    (slot there t ≡ slot here (s + 3 + 1)) × (slot beyond u ≡ slot there (t + 1)) × (slot here (s + 3) ≡ slot beyond (u + 1))
triangle_edges here there beyond s t u test =
    let t1 = and_parts (slot here s == slot there t) _ test in
    let t2 = and_parts (slot there (t + 1) == slot beyond u) _ t1.1 in
    let t3 = and_parts (slot beyond (u + 1) == slot here (s + 3)) _ t2.1 in
    let next : slot here (s + 3 + 1) ≡ slot here s = wrapped here s 0 ∙ ap (slot here) (let e : s + 0 ≡ s = omega arith in e) in (
      sym (eqb-true (slot here s) (slot there t) t1.0) ∙ sym next,
      sym (eqb-true (slot there (t + 1)) (slot beyond u) t2.0),
      sym (eqb-true (slot beyond (u + 1)) (slot here (s + 3)) t3.0),
    )

again : (items after : List Item) → IsPairedDiagram items → {factor : Factor} → Reached items factor after → IsPairedDiagram after
again items after pd (by_push e f first_of_e first_of_f has_e has_f apart) =
    let n = fresh items in
    paired_diagram (pushed items e f first_of_e first_of_f) (sizes-pushed items pd e f has_e has_f apart first_of_e first_of_f)
    (λ z h.
    let R = at_places (λ p label. cond (p == second_place items e) (n + 1) (cond (p == second_place items f) (n + 3) label)) 0 items in
    let a = times_labels (pushed items e f first_of_e first_of_f) z in
    let b = times_labels items z in
    let c = pushed_times items pd e f has_e has_f apart first_of_e first_of_f z in
    let d : times_in (loop_labels (pushed items e f first_of_e first_of_f)) z ≡ times_in (loop_labels items) z =
    ap (λ ns. times_in ns z) (loop_labels-append R _ ∙ append-nil (loop_labels R) ∙ loop_labels-at_places _ 0 items) in
    let two = fresh_all items pd z (new_four n z) (new_four_old n z) (new_four_most n z) (omega (arith, a, b, c, d, h)) in
    omega (arith, a, b, c, d, two))
again items after pd (by_pull c g here there s t at_c at_g apart low_s low_t test) =
    closing_paired items pd (g ∷ c ∷ []) (bigon_classes here there (s, t)) (slot here s) (slot there (t + 1))
    (recounted 1 0 0 0 nothing items pd c here at_c g there at_g apart s t low_s low_t test)
    (or_left (slot here s == slot here s) _ (eq-eqb (slot here s) (slot here s) refl))
    (let y = slot there (t + 1) in let x = slot here s in
    let e = eq-eqb y y refl in grind (arith, e))
again items after pd (by_slide c g f here there beyond s t u at_c at_g at_f distinct low_s low_t low_u test) =
    let edges = triangle_edges here there beyond s t u test in
    let gc : (g == c) ≡ false = grind (arith, nat_tests, distinct) in
    let fc : (f == c) ≡ false = grind (arith, nat_tests, distinct) in
    let fg : (f == g) ≡ false = grind (arith, nat_tests, distinct) in
    let result = anew (triangle_slots c g f here there beyond (s + 3) t u) 1 items in
    paired_diagram result (sizes-triangle items c g f here there beyond (s + 3) t u pd.sizes)
    (λ z h.
    let a = times_labels result z in
    let b = times_labels items z in
    let d = after_times 1 0 0 0 nothing items pd c here at_c g there at_g f beyond at_f gc fc fg (s + 3) t u (omega (arith, low_s)) (omega (arith, low_t)) (omega (arith, low_u)) edges.0 edges.1 edges.2 z in
    let k = ap (λ ns. times_in ns z) (loop_labels-rewritten (triangle_slots c g f here there beyond (s + 3) t u) 1 items) in
    let two = fresh_all items pd z 0 (λ l. refl) (omega arith) (omega (arith, a, b, d, k, h)) in
    omega (arith, a, b, d, k, two))
again items after pd (by_curl e sign has) =
    let n = fresh items in
    let R = at_places (λ q label. cond (q == second_place items e) (n + 1) label) 0 items in
    let result = R ++ item.X (curl_slots e (n + 1) n sign) ∷ [] in
    paired_diagram result (sizes-curled items pd e has sign)
    (λ z h.
    let a = times_labels result z in
    let b = times_labels items z in
    let c = curled_times items pd e has sign z in
    let d : times_in (loop_labels result) z ≡ times_in (loop_labels items) z =
    ap (λ ns. times_in ns z) (loop_labels-append R (item.X (curl_slots e (n + 1) n sign) ∷ []) ∙ append-nil (loop_labels R) ∙ loop_labels-at_places _ 0 items) in
    let two = fresh_all items pd z (new_two items pd e has sign z) (two_old items pd e has sign z) (two_most items pd e has sign z) (omega (arith, a, b, c, d, h)) in
    omega (arith, a, b, c, d, two))
again items after pd (by_curl_on_loop e sign has out) =
    let n = fresh items in
    let slots = curl_slots e e n sign in
    let result = curled_loop e slots items in
    let there = is_loop_label items pd e has out sign in
    paired_diagram result (sizes-curled_loop e slots (loop_slots_four items pd e has out sign) items pd.sizes)
    (λ z h.
    let a = times_labels result z in
    let b = times_labels items z in
    let c = curled_crossings e slots items z there in
    let d = curled_loops e slots items z there in
    let k : times_in slots z ≡ 2 * cond (z == n) 1 0 + 2 * cond (z == e) 1 0 =
    elim sign as (λ x. times_in (curl_slots e e n x) z ≡ 2 * cond (z == n) 1 0 + 2 * cond (z == e) 1 0) [ signs.Plus ↦ omega arith | signs.Minus ↦ omega arith ] in
    let most : cond (z == n) 1 0 ≤ 1 = grind arith in
    let two = fresh_all items pd z (cond (z == n) 1 0) (λ l. grind (arith, nat_tests, l)) most (omega (arith, a, b, c, d, k, h)) in
    omega (arith, a, b, c, d, k, two))
again items after pd (by_uncurl c here s at_c low test) =
    let x = slot here s in
    let factor = modulo_one (0 + cond (s % 2 == 0) 0 0 * cond (s % 2 == 0) 0 0 * cond (s % 2 == 0) 0 0) in
    let own : is_member ◌==◌ (x ∷ slot here (s + 2) ∷ x ∷ slot here (s + 3) ∷ []) x ≡ true = or_left (x == x) _ (eq-eqb x x refl) in
    closing_paired items pd (c ∷ []) (curl_classes here s) x x (curl_recounted 1 0 0 0 nothing items pd c here at_c s low test 0 factor) own own

blown_again : (items : List Item) → IsPairedDiagram items → IsPairedDiagram (items ++ item.Loop (fresh items) ∷ [])
blown_again items pd =
    let n = fresh items in
    let result = items ++ item.Loop n ∷ [] in
    paired_diagram result (sizes-append items (item.Loop n ∷ []) pd.sizes (tt, tt))
    (λ z h.
    let a = times_labels result z in
    let b = times_labels items z in
    let c = ap (λ ns. times_in ns z) (crossing_labels-append items (item.Loop n ∷ []) ∙ append-nil (crossing_labels items)) in
    let d = ap (λ ns. times_in ns z) (loop_labels-append items (item.Loop n ∷ [])) ∙ times_in-append (loop_labels items) (n ∷ []) z in
    let k : times_in (n ∷ []) z ≡ cond (z == n) 1 0 = omega arith in
    let most : cond (z == n) 1 0 ≤ 1 = grind arith in
    let two = fresh_all items pd z (cond (z == n) 1 0) (λ l. grind (arith, nat_tests, l)) most (omega (arith, a, b, c, d, k, h)) in
    omega (arith, a, b, c, d, k, two))

-- EACH LABEL STANDS TWICE AGAIN
pub paired_again : PairedAgainLaw
paired_again items (R2 e f) moved pd h = again items moved.items pd (reached items (R2 e f) moved refl h).0
paired_again items (R2Undo c g) moved pd h = again items moved.items pd (reached items (R2Undo c g) moved refl h).0
paired_again items (R3 c g f) moved pd h = again items moved.items pd (reached items (R3 c g f) moved refl h).0
paired_again items (Curl e sign) moved pd h = again items moved.items pd (reached items (Curl e sign) moved refl h).0
paired_again items (CurlUndo c) moved pd h = again items moved.items pd (reached items (CurlUndo c) moved refl h).0
paired_again items (BlowUp sign) moved pd h = subst IsPairedDiagram (sym (blown_up items sign moved h)) (blown_again items pd)
paired_again items (Slide e f) moved pd h = absurd cc
