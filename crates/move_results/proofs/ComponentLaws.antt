-- The components of a move's result, move by move.
use Rattle.std.proofs.Common.{◌≡◌, ℕ, zero, suc, ◌+◌, ◌*◌, ◌<◌, ◌≤◌, Bool, true, false, cond, ◌==◌, List, [], ◌∷◌, ◌++◌, Contains, refl, sym, ap, ◌∙◌, arith, ⊎_elim, ◌⊎◌, inl, inr, append-nil, subst}
use Rattle.std.specs.List.{filter, range_with_len}
use Rattle.std.specs.Set.{is_member}
use Rattle.std.proofs.lemmas.Bool.{cases_eq, cases_Bool, eq-eqb}
use Rattle.std.proofs.lemmas.Bool.Decides.{nat_tests}
use Rattle.std.proofs.lemmas.List.Elements.{Contains-append_left, Contains-append_right, Contains-append_cases}
use Rattle.graph_parts.specs.Ends.{EndsAre}
use Rattle.graph_parts.specs.Walks.{Joined, along, back, stay}
use Rattle.pd_reader.specs.declared.item.Item.{Item}
use Rattle.pd_reader.specs.declared.item.Item.TheVariants as item
use Rattle.pd_reader.specs.Items.{item_labels}
use Rattle.pd_reader.specs.Diagrams.{labels}
use Rattle.planar_check.specs.Components.{strand_edges, item_strands, least_labels, is_least_of, greatest}
use Rattle.planar_check.specs.declared.sign.Sign.{Sign}
use Rattle.planar_check.specs.declared.sign.Sign.TheVariants as signs
use Rattle.diagram_moves.specs.Laws.{IsPairedDiagram}
use Rattle.move_results.specs.Laws.{ComponentsKeptLaw}
use Rattle.diagram_moves.specs.Moves.{curl_slots, curled_loop}
use Rattle.diagram_moves.specs.Rewriting.{crossing_labels, fresh}
use Rattle.diagram_moves.specs.declared.factor.Factor.{Factor}
use Rattle.script_reader.specs.declared.step.Step.TheVariants.{R2, R2Undo, R3, Curl, CurlUndo, BlowUp, Slide}
use Rattle.move_results.proofs.ClosedComponents.{pulled_components, uncurled_components}
use Rattle.move_results.proofs.CurledComponents.{curled_components}
use Rattle.diagram_moves.proofs.Curling.{loop_label, loop_label_e, loop_label_k, low_e, is_loop_label, loop_slots_four, sizes-curled_loop}
use Rattle.move_results.proofs.LeastLabelLists.{Contracts, strands_among, to_least, from_least, bool_same, in_range_of, least_labels_by, least_in_big, least_in_small}
use Rattle.diagram_moves.proofs.NoNumbers.{nothing}
use Rattle.diagram_moves.proofs.Paired.{times_labels, loop_labels, sizes-append}
use Rattle.list_lemmas.proofs.Times.{member_of_times, times_none, times_in-append, times_of_member}
use Rattle.move_results.proofs.PairedResults.{curled_crossings, curled_loops, triangle_edges}
use Rattle.diagram_moves.proofs.PlaceLemmas.{fresh_above}
use Rattle.planar_check.proofs.Strands.{member_at_most}
use Rattle.move_results.proofs.CutComponents.{strand_edges-append}
use Rattle.move_results.proofs.PairedAgain.{loop_labels-append}
use Rattle.diagram_moves.proofs.Pushing.{crossing_labels-append}
use Rattle.graph_parts.proofs.Through.{inside-from_Joined}
use Rattle.move_results.proofs.PushedComponents.{pushed_components}
use Rattle.diagram_moves.proofs.Results.{Reached, by_push, by_pull, by_slide, by_curl, by_curl_on_loop, by_uncurl, reached, blown_up}
use Rattle.move_results.proofs.TriangleComponents.{triangle_components}
use Rattle.list_lemmas.specs.Times.{times_in}

-- ---- a Loop that gets a curl
curled_strand : (e : ℕ) (slots : List ℕ) (items : List Item) (w : ℕ × ℕ) → Contains (strand_edges (curled_loop e slots items)) w → Contains (item_strands (item.X slots)) w ⊎ Contains (strand_edges items) w
curled_strand e slots [] w h = inr h
curled_strand e slots (item.X here ∷ rest) w h =
    let S = item_strands (item.X here) in
    ⊎_elim
    (λ m. inr (Contains-append_left S (strand_edges rest) w m))
    (λ m. ⊎_elim (λ n. inl n) (λ n. inr (Contains-append_right S (strand_edges rest) w n)) (curled_strand e slots rest w m))
    (Contains-append_cases S (strand_edges (curled_loop e slots rest)) w h)
curled_strand e slots (item.Loop l ∷ rest) w h =
    let P : Bool → Type 0 = λ c. Contains (strand_edges (cond c (item.X slots ∷ rest) (item.Loop l ∷ curled_loop e slots rest))) w in
    ⊎_elim
    (λ t. Contains-append_cases (item_strands (item.X slots)) (strand_edges rest) w (subst P t h))
    (λ t. curled_strand e slots rest w (subst P t h))
    (cases_Bool (l == e))

old_strand : (e : ℕ) (slots : List ℕ) (items : List Item) (w : ℕ × ℕ) → Contains (strand_edges items) w → Contains (strand_edges (curled_loop e slots items)) w
old_strand e slots [] w h = h
old_strand e slots (item.X here ∷ rest) w h =
    let S = item_strands (item.X here) in
    ⊎_elim
    (λ m. Contains-append_left S (strand_edges (curled_loop e slots rest)) w m)
    (λ m. Contains-append_right S (strand_edges (curled_loop e slots rest)) w (old_strand e slots rest w m))
    (Contains-append_cases S (strand_edges rest) w h)
old_strand e slots (item.Loop l ∷ rest) w h =
    let P : Bool → Type 0 = λ c. Contains (strand_edges (cond c (item.X slots ∷ rest) (item.Loop l ∷ curled_loop e slots rest))) w in
    ⊎_elim
    (λ t. subst P (sym t) (Contains-append_right (item_strands (item.X slots)) (strand_edges rest) w h))
    (λ t. subst P (sym t) (old_strand e slots rest w h))
    (cases_Bool (l == e))

new_strand : (e : ℕ) (slots : List ℕ) (items : List Item) (w : ℕ × ℕ) → is_member ◌==◌ (loop_labels items) e ≡ true → Contains (item_strands (item.X slots)) w → Contains (strand_edges (curled_loop e slots items)) w
new_strand e slots [] w there h = absurd (grind (arith, there))
new_strand e slots (item.X here ∷ rest) w there h = Contains-append_right (item_strands (item.X here)) (strand_edges (curled_loop e slots rest)) w (new_strand e slots rest w there h)
new_strand e slots (item.Loop l ∷ rest) w there h =
    let P : Bool → Type 0 = λ c. Contains (strand_edges (cond c (item.X slots ∷ rest) (item.Loop l ∷ curled_loop e slots rest))) w in
    ⊎_elim
    (λ t. subst P (sym t) (Contains-append_left (item_strands (item.X slots)) (strand_edges rest) w h))
    (λ t. subst P (sym t) (new_strand e slots rest w (let s : is_member ◌==◌ (loop_labels rest) e ≡ true = grind (arith, nat_tests, t, there) in s) h))
    (cases_Bool (l == e))

ends_inside : (p : ℕ → Bool) (es : List (ℕ × ℕ)) → EndsAre p es → (x y : ℕ) → Contains es (x, y) → (p x ≡ true) × (p y ≡ true)
ends_inside p [] h x y c = absurd (omega (arith, c.1))
ends_inside p (e ∷ es) h x y (zero, l, q) = (sym (ap (λ f. p f.0) q) ∙ h.0, sym (ap (λ f. p f.1) q) ∙ h.1)
ends_inside p (e ∷ es) h x y (suc i, l, q) = ends_inside p es h.2 x y (i, omega (arith, l), q)

module _ (items : List Item) (pd : IsPairedDiagram items) (e : ℕ) (has : is_member ◌==◌ (labels item_labels items) e ≡ true) (out : is_member ◌==◌ (crossing_labels items) e ≡ false) (sign : Sign) where
  abbrev n : ℕ
  n = fresh items

  abbrev slots : List ℕ
  slots = curl_slots e e n sign

  abbrev after : List Item
  after = curled_loop e slots items

  abbrev to : ℕ → ℕ
  to = loop_label items pd e has out sign

  there : is_member ◌==◌ (loop_labels items) e ≡ true
  there = is_loop_label items pd e has out sign

  old_label : (z : ℕ) → z < n → to z ≡ z
  old_label z l = grind (arith, nat_tests, l)

  pub total : (z : ℕ) → times_in (labels item_labels after) z ≡ times_in (labels item_labels items) z + 2 * cond (z == n) 1 0
  total z =
      let a = times_labels after z in
      let b = times_labels items z in
      let c = curled_crossings e slots items z there in
      let d = curled_loops e slots items z there in
      let k : times_in slots z ≡ 2 * cond (z == n) 1 0 + 2 * cond (z == e) 1 0 =
      elim sign as (λ x. times_in (curl_slots e e n x) z ≡ 2 * cond (z == n) 1 0 + 2 * cond (z == e) 1 0) [ signs.Plus ↦ omega arith | signs.Minus ↦ omega arith ] in
      omega (arith, a, b, c, d, k)

  new_walks : (s : Sign) (fs : List (ℕ × ℕ)) → ((w : ℕ × ℕ) → Contains (item_strands (item.X (curl_slots e e n s))) w → Contains fs w) → Joined fs n e
  new_walks signs.Plus fs h = back (along (h (e, n) (0, omega arith, refl)))
  new_walks signs.Minus fs h = back (along (h (e, n) (0, omega arith, refl)))

  collapse : (s : Sign) (fs : List (ℕ × ℕ)) (x y : ℕ) → Contains (item_strands (item.X (curl_slots e e n s))) (x, y) → to x ≡ to y
  collapse signs.Plus fs x y (zero, l, q) =
      sym (ap (λ f. to f.0) q) ∙ loop_label_e items pd e has out sign ∙ sym (loop_label_k items pd e has out sign) ∙ ap (λ f. to f.1) q
  collapse signs.Plus fs x y (suc zero, l, q) =
      sym (ap (λ f. to f.0) q) ∙ loop_label_e items pd e has out sign ∙ sym (loop_label_k items pd e has out sign) ∙ ap (λ f. to f.1) q
  collapse signs.Plus fs x y (suc (suc i), l, q) = absurd (omega (arith, l))
  collapse signs.Minus fs x y (zero, l, q) =
      sym (ap (λ f. to f.0) q) ∙ loop_label_e items pd e has out sign ∙ sym (loop_label_k items pd e has out sign) ∙ ap (λ f. to f.1) q
  collapse signs.Minus fs x y (suc zero, l, q) =
      sym (ap (λ f. to f.0) q) ∙ loop_label_k items pd e has out sign ∙ sym (loop_label_e items pd e has out sign) ∙ ap (λ f. to f.1) q
  collapse signs.Minus fs x y (suc (suc i), l, q) = absurd (omega (arith, l))

  pub loop_contracts : Contracts after items to
  loop_contracts = record {
    fixes = λ l m. old_label l (fresh_above items l m);
    lowers = λ l.
        let low = low_e items pd e has out sign in grind (arith, nat_tests, low);
    walks = λ l m.
        let P : ℕ → Type 0 = λ y. Joined (strand_edges after) y (to y) in
        let Q : ℕ → ℕ → Type 0 = λ y z. Joined (strand_edges after) y z in
        ⊎_elim
        (λ s. subst P (sym s) (subst (Q n) (sym (loop_label_k items pd e has out sign)) (new_walks sign (strand_edges after) (λ w c. new_strand e slots items w there c))))
        (λ s. let own : to l ≡ l = grind (arith, nat_tests, s) in subst (Q l) (sym own) stay)
        (cases_eq l n);
    onto = λ l m.
        let in_old = is_member ◌==◌ (labels item_labels items) in
        ⊎_elim
        (λ h. ap in_old (old_label l (fresh_above items l h)) ∙ h)
        (λ h.
        let one = times_of_member l (labels item_labels after) m in let t = total l in let none = times_none (labels item_labels items) l h in
        ⊎_elim
        (λ s. ap in_old (ap to s ∙ loop_label_k items pd e has out sign) ∙ has)
        (λ s. absurd (let zero_now : times_in (labels item_labels after) l ≡ 0 = grind (arith, nat_tests, t, none, s) in omega (arith, one, zero_now)))
        (cases_eq l n))
        (cases_Bool (is_member ◌==◌ (labels item_labels items) l));
    within = λ l m.
        let one = times_of_member l (labels item_labels items) m in let t = total l in member_of_times l (labels item_labels after) (omega (arith, one, t));
    edge = λ x y c.
        ⊎_elim
        (λ d. let S : ℕ → Type 0 = λ z. Joined (strand_edges items) (to x) z in subst S (collapse sign [] x y d) stay)
        (λ d.
        let both = ends_inside (is_member ◌==◌ (labels item_labels items)) (strand_edges items) (strands_among items pd.sizes) x y d in
        let P : ℕ → Type 0 = λ z. Joined (strand_edges items) z (to y) in
        let Q : ℕ → Type 0 = λ z. Joined (strand_edges items) x z in
        subst P (sym (old_label x (fresh_above items x both.0))) (subst Q (sym (old_label y (fresh_above items y both.1))) (along d)))
        (curled_strand e slots items (x, y) c);
    edge_back = λ x y c.
        along (old_strand e slots items (x, y) c);
  }

  pub curled_loop_components : least_labels after ≡ least_labels items
  curled_loop_components =
      least_labels_by items after pd.sizes (sizes-curled_loop e slots (loop_slots_four items pd e has out sign) items pd.sizes) (least_in_big after items to loop_contracts) (least_in_small after items to loop_contracts)

-- ---- the moves but BlowUp
kept_components : (items after : List Item) → IsPairedDiagram items → {factor : Factor} → Reached items factor after → least_labels after ≡ least_labels items
kept_components items after pd (by_push e f first_of_e first_of_f has_e has_f apart) = pushed_components items pd e f has_e has_f apart first_of_e first_of_f
kept_components items after pd (by_pull c g here there s t at_c at_g apart low_s low_t test) = pulled_components items pd c g here there s t at_c at_g apart low_s low_t test
kept_components items after pd (by_slide c g f here there beyond s t u at_c at_g at_f distinct low_s low_t low_u test) =
    let edges = triangle_edges here there beyond s t u test in
    let gc : (g == c) ≡ false = grind (arith, nat_tests, distinct) in
    let fc : (f == c) ≡ false = grind (arith, nat_tests, distinct) in
    let fg : (f == g) ≡ false = grind (arith, nat_tests, distinct) in
    triangle_components 1 0 0 0 nothing items pd c here at_c g there at_g f beyond at_f gc fc fg (s + 3) t u (omega (arith, low_s)) (omega (arith, low_t)) (omega (arith, low_u)) edges.0 edges.1 edges.2
kept_components items after pd (by_curl e sign has) = curled_components items pd e has sign
kept_components items after pd (by_curl_on_loop e sign has out) = curled_loop_components items pd e has out sign
kept_components items after pd (by_uncurl c here s at_c low test) = uncurled_components items pd c here s at_c low test

-- ---- BlowUp
filter_last : (p : ℕ → Bool) (a n : ℕ) → p (a + n) ≡ true → filter p (range_with_len a (n + 1)) ≡ filter p (range_with_len a n) ++ (a + n) ∷ []
filter_last p a zero h =
    let e : a ≡ a + 0 = omega arith in
    ap (λ c. cond c (a ∷ []) []) (ap p e ∙ h) ∙ ap (λ z. z ∷ []) e
filter_last p a (suc n) h =
    let e : a + 1 + n ≡ a + suc n = omega arith in
    let ih = filter_last p (a + 1) n (ap p e ∙ h) in
    let longer : suc n + 1 ≡ suc (n + 1) = omega arith in
    ap (λ j. filter p (range_with_len a j)) longer
    ∙ ap (λ ns. cond (p a) (a ∷ ns) ns) (ih ∙ ap (λ z. filter p (range_with_len (a + 1) n) ++ z ∷ []) e)
    ∙ elim (p a) as (λ c. cond c (a ∷ (filter p (range_with_len (a + 1) n) ++ (a + suc n) ∷ [])) (filter p (range_with_len (a + 1) n) ++ (a + suc n) ∷ []) ≡ cond c (a ∷ filter p (range_with_len (a + 1) n)) (filter p (range_with_len (a + 1) n)) ++ (a + suc n) ∷ []) [ true ↦ refl | false ↦ refl ]

filter_below : (p q : ℕ → Bool) (a n : ℕ) → ((x : ℕ) → x < a + n → p x ≡ q x) → filter p (range_with_len a n) ≡ filter q (range_with_len a n)
filter_below p q a zero h = refl
filter_below p q a (suc n) h =
    ap (λ c. cond c (a ∷ filter p (range_with_len (a + 1) n)) (filter p (range_with_len (a + 1) n))) (h a (omega arith))
    ∙ ap (λ ns. cond (q a) (a ∷ ns) ns) (filter_below p q (a + 1) n (λ x l. h x (omega (arith, l))))

pub blown_labels : (items : List Item) (n z : ℕ) → times_in (labels item_labels (items ++ item.Loop n ∷ [])) z ≡ times_in (labels item_labels items) z + 2 * cond (z == n) 1 0
blown_labels items n z =
    let a = times_labels (items ++ item.Loop n ∷ []) z in
    let b = times_labels items z in
    let c = ap (λ ns. times_in ns z) (crossing_labels-append items (item.Loop n ∷ []) ∙ append-nil (crossing_labels items)) in
    let d = ap (λ ns. times_in ns z) (loop_labels-append items (item.Loop n ∷ [])) ∙ times_in-append (loop_labels items) (n ∷ []) z in
    let k : times_in (n ∷ []) z ≡ cond (z == n) 1 0 = omega arith in
    omega (arith, a, b, c, d, k)

blown_components : (items : List Item) → IsPairedDiagram items → least_labels (items ++ item.Loop (fresh items) ∷ []) ≡ least_labels items ++ fresh items ∷ []
unfolding least_labels
blown_components items pd =
    let n = fresh items in
    let after = items ++ item.Loop n ∷ [] in
    let sizes = sizes-append items (item.Loop n ∷ []) pd.sizes (tt, tt) in
    let p = is_least_of after in
    let q = is_least_of items in
    let same_strands : strand_edges after ≡ strand_edges items = strand_edges-append items (item.Loop n ∷ []) ∙ append-nil (strand_edges items) in
    let all : (z : ℕ) → times_in (labels item_labels after) z ≡ times_in (labels item_labels items) z + 2 * cond (z == n) 1 0 =
    λ z. blown_labels items n z in
    let J : (x y : ℕ) → List (ℕ × ℕ) → Type 0 = λ x y es. Joined es x y in
    let old_in : (z : ℕ) → is_member ◌==◌ (labels item_labels items) z ≡ true → is_member ◌==◌ (labels item_labels after) z ≡ true =
    λ z m. (let one = times_of_member z (labels item_labels items) m in let t = all z in member_of_times z (labels item_labels after) (omega (arith, one, t))) in
    let in_old : (z : ℕ) → z < n → is_member ◌==◌ (labels item_labels after) z ≡ true → is_member ◌==◌ (labels item_labels items) z ≡ true =
    λ z l m. (let one = times_of_member z (labels item_labels after) m in let t = all z in let c : cond {A = ℕ} (z == n) 1 0 ≡ 0 = grind (arith, nat_tests, l) in member_of_times z (labels item_labels items) (omega (arith, one, t, c))) in
    let below : (z : ℕ) → z < 0 + n → p z ≡ q z =
    λ z l. bool_same (p z) (q z)
    (λ t. let h = to_least after sizes z t in from_least items pd.sizes z (in_old z (omega (arith, l)) h.0, λ y j. h.1 y (subst (J z y) (sym same_strands) j)))
    (λ t. let h = to_least items pd.sizes z t in from_least after sizes z (old_in z h.0, λ y j. h.1 y (subst (J z y) same_strands j))) in
    let new_in : is_member ◌==◌ (labels item_labels after) n ≡ true = (let t = all n in let e = eq-eqb n n refl in let c : cond {A = ℕ} (n == n) 1 0 ≡ 1 = grind (arith, e) in member_of_times n (labels item_labels after) (omega (arith, t, c))) in
    let alone : (y : ℕ) → Joined (strand_edges after) n y → n ≤ y =
    λ y j.
    ⊎_elim
    (λ e. omega (arith, e))
    (λ b. absurd (let low = fresh_above items n b.0 in omega (arith, low)))
    (inside-from_Joined (is_member ◌==◌ (labels item_labels items)) (strand_edges items) (strands_among items pd.sizes) (subst (J n y) same_strands j)) in
    let new_least : p (0 + n) ≡ true = (let e : 0 + n ≡ n = omega arith in ap p e ∙ from_least after sizes n (new_in, alone)) in
    let top = greatest (labels item_labels after) + 1 in
    in_range_of p top (n + 1)
    (λ z t. let g = member_at_most (labels item_labels after) z (to_least after sizes z t).0 in omega (arith, g))
    (λ z t.
    let m = (to_least after sizes z t).0 in
    let one = times_of_member z (labels item_labels after) m in
    let c = all z in
    ⊎_elim
    (λ s. omega (arith, s))
    (λ s.
    let no : cond {A = ℕ} (z == n) 1 0 ≡ 0 = grind (arith, nat_tests, s) in
    let low = fresh_above items z (member_of_times z (labels item_labels items) (omega (arith, one, c, no))) in omega (arith, low))
    (cases_eq z n))
    ∙ filter_last p 0 n new_least
    ∙ ap (λ ns. ns ++ (0 + n) ∷ []) (filter_below p q 0 n below)
    ∙ ap (λ z. filter q (range_with_len 0 n) ++ z ∷ []) (let e : 0 + n ≡ n = omega arith in e)

-- THE COMPONENTS OF A RESULT
pub components_kept : ComponentsKeptLaw
components_kept items (R2 e f) moved pd h = kept_components items moved.items pd (reached items (R2 e f) moved refl h).0 ∙ sym (append-nil (least_labels items))
components_kept items (R2Undo c g) moved pd h = kept_components items moved.items pd (reached items (R2Undo c g) moved refl h).0 ∙ sym (append-nil (least_labels items))
components_kept items (R3 c g f) moved pd h = kept_components items moved.items pd (reached items (R3 c g f) moved refl h).0 ∙ sym (append-nil (least_labels items))
components_kept items (Curl e sign) moved pd h = kept_components items moved.items pd (reached items (Curl e sign) moved refl h).0 ∙ sym (append-nil (least_labels items))
components_kept items (CurlUndo c) moved pd h = kept_components items moved.items pd (reached items (CurlUndo c) moved refl h).0 ∙ sym (append-nil (least_labels items))
components_kept items (BlowUp sign) moved pd h = ap least_labels (blown_up items sign moved h) ∙ blown_components items pd
components_kept items (Slide e f) moved pd h = absurd cc
