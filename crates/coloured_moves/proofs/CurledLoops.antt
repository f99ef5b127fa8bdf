-- A curl on a Loop of colour 0 or 1 takes its factor: the nodes are those from before and, for colour 1, one crossing whose strand is its
-- own, in the place of the free loop.
use Rattle.std.proofs.Common.{◌≡◌, ◌≢◌, ℕ, ◌+◌, ◌*◌, ◌==◌, ◌||◌, Bool, true, false, cond, List, [], ◌∷◌, ◌++◌, map, slice_index, refl, sym, ap, ap₂, ◌∙◌, arith, ⊎_elim, subst}
use Rattle.std.specs.List.{AllByRecursion}
use Rattle.std.specs.List.Sorted.{IsPermutation}
use Rattle.std.specs.Set.{is_member}
use Rattle.std.proofs.lemmas.Bool.{cases_Bool, eqb-true, or_left, or_right}
use Rattle.std.proofs.lemmas.Bool.Decides.{nat_tests}
use Rattle.std.proofs.lemmas.List.{map-append}
use Rattle.std.proofs.lemmas.List.Sorted.{IsPermutation-append_left, IsPermutation-append_right, IsPermutation-map, IsPermutation-trans, IsPermutation-sym}
use Rattle.graph_parts.proofs.Distinct.{is_member-append}
use Rattle.list_lemmas.specs.Times.{times_in}
use Rattle.list_lemmas.proofs.Permuted.{permuted_times}
use Rattle.state_sums.specs.Networks.{Node}
use Rattle.root_quantum.specs.Parameters.{Parameters}
use Rattle.piece_laws.specs.TurnedNodes.{without_group}
use Rattle.pd_reader.specs.declared.item.Item.{Item}
use Rattle.pd_reader.specs.declared.item.Item.TheVariants as item
use Rattle.pd_reader.specs.Items.{HasItsSlots}
use Rattle.planar_check.specs.declared.sign.Sign.{Sign}
use Rattle.planar_check.specs.declared.sign.Sign.TheVariants as signs
use Rattle.cables.specs.Strands.{Strands}
use Rattle.cables.specs.Cables.{start, count_placed, cable_nodes, loop_count, loop_nodes, loops_at, as_net}
use Rattle.cables.proofs.Groups.{crossing_same, loop_same}
use Rattle.diagram_moves.specs.Moves.{curl_slots, curled_loop}
use Rattle.diagram_moves.specs.Rewriting.{crossing_labels}
use Rattle.diagram_moves.proofs.Paired.{loop_labels}
use Rattle.coloured_moves.proofs.StubItems.{stub, stubs, stubbed, seen_after, at_stub, stub_crossing, stub_nodes, first_boxes, first_labels, boxes_of, moved_out, same_lists, split, ungrouped_boxes}
use Rattle.coloured_moves.proofs.Tests.{clash}

abbrev pub U : List Node → List Node
U = map without_group

-- ---- the groups of crossings and loops, which no value depends on
module _ (p : Parameters) (S : Strands) where
  pub same_crossing : (g h i : ℕ) (slots : List ℕ) → U (stub_crossing p S g i slots) ≡ U (stub_crossing p S h i slots)
  same_crossing g h i slots =
      crossing_same p g h i (at_stub S (slice_index slots 0)) (at_stub S (slice_index slots 1)) (at_stub S (slice_index slots 2)) (at_stub S (slice_index slots 3))

  pub numbers : (D : List Item) (n g i lg n' g' lg' : ℕ) → U (stub_nodes p S [] n g i lg D) ≡ U (stub_nodes p S [] n' g' i lg' D)
  numbers [] n g i lg n' g' lg' = refl
  numbers (item.X slots ∷ rest) n g i lg n' g' lg' =
      map-append without_group (stub_crossing p S g i slots) (stub_nodes p S [] (n + 1) (g + 1) (i + 1) lg rest)
      ∙ ap₂ (λ xs ys. xs ++ ys) (same_crossing g g' i slots) (numbers rest (n + 1) (g + 1) (i + 1) lg (n' + 1) (g' + 1) lg')
      ∙ sym (map-append without_group (stub_crossing p S g' i slots) (stub_nodes p S [] (n' + 1) (g' + 1) (i + 1) lg' rest))
  numbers (item.Loop l ∷ rest) n g i lg n' g' lg' =
      map-append without_group (loop_nodes S lg (S.first l)) (stub_nodes p S [] n g (i + 1) (lg + 1) rest)
      ∙ ap₂ (λ xs ys. xs ++ ys) (loop_same p S lg lg' (S.first l)) (numbers rest n g (i + 1) (lg + 1) n' g' (lg' + 1))
      ∙ sym (map-append without_group (loop_nodes S lg' (S.first l)) (stub_nodes p S [] n' g' (i + 1) (lg' + 1) rest))

-- ---- the crossing in the place of the loop comes to the front
module _ (p : Parameters) (S : Strands) (e : ℕ) (short : loop_nodes S 0 (S.first e) ≡ []) (ws : List ℕ) (K : List Node) (crossing : (g i : ℕ) → U (stub_crossing p S g i ws) ≡ K) where
  pub stub_perm : (D : List Item) (n g i lg n' g' lg' : ℕ) → is_member ◌==◌ (loop_labels D) e ≡ true →
      IsPermutation (U (stub_nodes p S [] n g i lg (curled_loop e ws D))) (K ++ U (stub_nodes p S [] n' g' i lg' D))
  stub_perm [] n g i lg n' g' lg' there = absurd (grind (arith, there))
  stub_perm (item.X slots ∷ rest) n g i lg n' g' lg' there =
      let C : ℕ → List Node = λ h. stub_crossing p S h i slots in
      let later = stub_nodes p S [] (n + 1) (g + 1) (i + 1) lg (curled_loop e ws rest) in
      let old = stub_nodes p S [] (n' + 1) (g' + 1) (i + 1) lg' rest in
      let P : List Node → Type 0 = λ ns. IsPermutation ns (K ++ U (C g' ++ old)) in
      let Q : List Node → Type 0 = λ ns. IsPermutation (U (C g) ++ U later) (K ++ ns) in
      subst P (sym (map-append without_group (C g) later))
      (subst Q (ap (λ ns. ns ++ U old) (same_crossing p S g g' i slots) ∙ sym (map-append without_group (C g') old))
      (moved_out (U (C g)) K (U later) (U old) (stub_perm rest (n + 1) (g + 1) (i + 1) lg (n' + 1) (g' + 1) lg' there)))
  stub_perm (item.Loop l ∷ rest) n g i lg n' g' lg' there =
      let L : ℕ → List Node = λ h. loop_nodes S h (S.first l) in
      let old = stub_nodes p S [] n' g' (i + 1) (lg' + 1) rest in
      let W : Bool → Type 0 = λ b. IsPermutation (U (stub_nodes p S [] n g i lg (cond b (item.X ws ∷ rest) (item.Loop l ∷ curled_loop e ws rest)))) (K ++ U (L lg' ++ old)) in
      ⊎_elim
      (λ t.
      let same : l ≡ e = eqb-true l e t in
      let gone : U (L lg') ≡ [] = loop_same p S lg' 0 (S.first l) ∙ ap (λ k. U (loop_nodes S 0 (S.first k))) same ∙ ap U short in
      let later = stub_nodes p S [] (n + 1) (g + 1) (i + 1) lg rest in
      subst W (sym t)
      (same_lists _ _
      (map-append without_group (stub_crossing p S g i ws) later
      ∙ ap₂ (λ xs ys. xs ++ ys) (crossing g i) (numbers p S rest (n + 1) (g + 1) (i + 1) lg n' g' (lg' + 1))
      ∙ ap (λ ns. K ++ ns) (sym (map-append without_group (L lg') old ∙ ap (λ ns. ns ++ U old) gone)))))
      (λ t.
      let later = stub_nodes p S [] n g (i + 1) (lg + 1) (curled_loop e ws rest) in
      let P : List Node → Type 0 = λ ns. IsPermutation ns (K ++ U (L lg' ++ old)) in
      let Q : List Node → Type 0 = λ ns. IsPermutation (U (L lg) ++ U later) (K ++ ns) in
      subst W (sym t)
      (subst P (sym (map-append without_group (L lg) later))
      (subst Q (ap (λ ns. ns ++ U old) (loop_same p S lg lg' (S.first l)) ∙ sym (map-append without_group (L lg') old))
      (moved_out (U (L lg)) K (U later) (U old) (stub_perm rest n g (i + 1) (lg + 1) n' g' (lg' + 1) (let s : is_member ◌==◌ (loop_labels rest) e ≡ true = grind (arith, nat_tests, t, there) in s))))))
      (cases_Bool (l == e))

  pub loops_counted : (slots : List ℕ) (items : List Item) → is_member ◌==◌ (loop_labels items) e ≡ true → loop_count S (as_net (curled_loop e slots items)) + loops_at (S.first e) ≡ loop_count S (as_net items)
  loops_counted slots [] there = absurd (grind (arith, there))
  loops_counted slots (item.X here ∷ rest) there = loops_counted slots rest there
  loops_counted slots (item.Loop l ∷ rest) there =
      ⊎_elim
      (λ t. ap (λ c. loop_count S (as_net (cond c (item.X slots ∷ rest) (item.Loop l ∷ curled_loop e slots rest))) + loops_at (S.first e)) t
      ∙ (let s = ap (λ k. loops_at (S.first k)) (eqb-true l e t) in omega (arith, s)))
      (λ t. ap (λ c. loop_count S (as_net (cond c (item.X slots ∷ rest) (item.Loop l ∷ curled_loop e slots rest))) + loops_at (S.first e)) t
      ∙ (let ih = loops_counted slots rest (let s : is_member ◌==◌ (loop_labels rest) e ≡ true = grind (arith, nat_tests, t, there) in s) in omega (arith, ih)))
      (cases_Bool (l == e))

-- ---- the stubs of the others stay
module _ (e n : ℕ) where
  abbrev Alike : List ℕ → List ℕ → Type 0
  Alike seen others = (x : ℕ) → x ≢ e → x ≢ n → is_member ◌==◌ seen x ≡ is_member ◌==◌ others x

  abbrev Away : List ℕ → Type 0
  Away ls = (x : ℕ) → is_member ◌==◌ ls x ≡ true → (x ≢ e) × (x ≢ n)

  seen_alike : (ls seen others : List ℕ) → Alike seen others → Alike (seen_after seen ls) (seen_after others ls)
  seen_alike [] seen others a = a
  seen_alike (l ∷ ls) seen others a = seen_alike ls (l ∷ seen) (l ∷ others) (λ x d g. ap (λ b. (x == l) || b) (a x d g))

  stubs_alike : (ls seen others : List ℕ) → Alike seen others → Away ls → stubs seen ls ≡ stubs others ls
  stubs_alike [] seen others a w = refl
  stubs_alike (l ∷ ls) seen others a w =
      let d = w l (grind (arith, nat_tests)) in
      ap₂ (λ x xs. x ∷ xs) (ap (λ b. 2 * l + cond b 1 0) (a l d.0 d.1)) (stubs_alike ls (l ∷ seen) (l ∷ others) (λ x f g. ap (λ b. (x == l) || b) (a x f g)) (λ x m. w x (or_right (x == l) _ m)))

  stubbed_alike : (items : List Item) (seen others : List ℕ) → Alike seen others → Away (crossing_labels items) → stubbed seen items ≡ stubbed others items
  stubbed_alike [] seen others a w = refl
  stubbed_alike (item.Loop l ∷ rest) seen others a w = ap (λ is. item.Loop l ∷ is) (stubbed_alike rest seen others a w)
  stubbed_alike (item.X slots ∷ rest) seen others a w =
      ap₂ (λ xs is. item.X xs ∷ is) (stubs_alike slots seen others a (λ x m. w x (is_member-append slots (crossing_labels rest) x ∙ or_left _ _ m)))
      (stubbed_alike rest (seen_after seen slots) (seen_after others slots) (seen_alike slots seen others a) (λ x m. w x (is_member-append slots (crossing_labels rest) x ∙ or_right _ _ m)))

  out_after : (x : ℕ) (ls seen : List ℕ) → is_member ◌==◌ ls x ≡ false → is_member ◌==◌ seen x ≡ false → is_member ◌==◌ (seen_after seen ls) x ≡ false
  out_after x [] seen o s = s
  out_after x (l ∷ ls) seen o s = out_after x ls (l ∷ seen) (grind (arith, o)) (grind (arith, o, s))

  pub stubbed_curled : (slots ws : List ℕ) → ((seen : List ℕ) → is_member ◌==◌ seen e ≡ false → is_member ◌==◌ seen n ≡ false → (stubs seen slots ≡ ws) × Alike (seen_after seen slots) seen) →
      (items : List Item) (seen : List ℕ) → is_member ◌==◌ seen e ≡ false → is_member ◌==◌ seen n ≡ false → is_member ◌==◌ (crossing_labels items) e ≡ false → is_member ◌==◌ (crossing_labels items) n ≡ false →
      stubbed seen (curled_loop e slots items) ≡ curled_loop e ws (stubbed seen items)
  stubbed_curled slots ws told [] seen se sn oe on = refl
  stubbed_curled slots ws told (item.X here ∷ rest) seen se sn oe on =
      let ae = apart here (crossing_labels rest) e oe in
      let an = apart here (crossing_labels rest) n on in
      ap (λ is. item.X (stubs seen here) ∷ is) (stubbed_curled slots ws told rest (seen_after seen here) (out_after e here seen ae.0 se) (out_after n here seen an.0 sn) ae.1 an.1)
    where
      apart : (xs ys : List ℕ) (z : ℕ) → is_member ◌==◌ (xs ++ ys) z ≡ false → (is_member ◌==◌ xs z ≡ false) × (is_member ◌==◌ ys z ≡ false)
      apart xs ys z o = let t = sym (is_member-append xs ys z) ∙ o in (grind (arith, t), grind (arith, t))
  stubbed_curled slots ws told (item.Loop l ∷ rest) seen se sn oe on =
      let G : Bool → Type 0 = λ b. stubbed seen (cond b (item.X slots ∷ rest) (item.Loop l ∷ curled_loop e slots rest)) ≡ cond b (item.X ws ∷ stubbed seen rest) (item.Loop l ∷ curled_loop e ws (stubbed seen rest)) in
      ⊎_elim
      (λ t. subst G (sym t)
      (let k = told seen se sn in
      ap₂ (λ xs is. item.X xs ∷ is) k.0
      (stubbed_alike rest (seen_after seen slots) seen k.1
      (λ x m. ((λ s. clash (is_member ◌==◌ (crossing_labels rest) x) m (ap (is_member ◌==◌ (crossing_labels rest)) s ∙ oe)), (λ s. clash (is_member ◌==◌ (crossing_labels rest) x) m (ap (is_member ◌==◌ (crossing_labels rest)) s ∙ on)))))))
      (λ t. subst G (sym t) (ap (λ is. item.Loop l ∷ is) (stubbed_curled slots ws told rest seen se sn oe on)))
      (cases_Bool (l == e))

-- the stubs of the new crossing
abbrev pub curl_stubs : ℕ → ℕ → Sign → List ℕ
curl_stubs e n signs.Plus = (2 * e + 0) ∷ (2 * e + 1) ∷ (2 * n + 0) ∷ (2 * n + 1) ∷ []
curl_stubs e n signs.Minus = (2 * e + 0) ∷ (2 * n + 0) ∷ (2 * n + 1) ∷ (2 * e + 1) ∷ []

module _ (e n : ℕ) (apart : e ≢ n) where
  new_stub : (seen : List ℕ) (l : ℕ) → is_member ◌==◌ seen l ≡ false → stub seen l ≡ 2 * l + 0
  new_stub seen l m = ap (λ b. 2 * l + cond b 1 0) m

  old_stub : (seen : List ℕ) (l : ℕ) → is_member ◌==◌ seen l ≡ true → stub seen l ≡ 2 * l + 1
  old_stub seen l m = ap (λ b. 2 * l + cond b 1 0) m

  four : {a b c d a' b' c' d' : ℕ} → a ≡ a' → b ≡ b' → c ≡ c' → d ≡ d' → ◌≡◌ {A = List ℕ} (a ∷ b ∷ c ∷ d ∷ []) (a' ∷ b' ∷ c' ∷ d' ∷ [])
  four p q r s = rw (p, q, r, s)

  pub told : (s : Sign) (seen : List ℕ) → is_member ◌==◌ seen e ≡ false → is_member ◌==◌ seen n ≡ false → (stubs seen (curl_slots e e n s) ≡ curl_stubs e n s) × Alike e n (seen_after seen (curl_slots e e n s)) seen
  told signs.Plus seen se sn = (
    four (new_stub seen e se) (old_stub (e ∷ seen) e (grind (arith, nat_tests))) (new_stub (e ∷ e ∷ seen) n (grind (arith, nat_tests, sn, apart))) (old_stub (n ∷ e ∷ e ∷ seen) n (grind (arith, nat_tests))),
    (λ x d g. grind (arith, nat_tests, d, g)),
  )
  told signs.Minus seen se sn = (
    four (new_stub seen e se) (new_stub (e ∷ seen) n (grind (arith, nat_tests, sn, apart))) (old_stub (n ∷ e ∷ seen) n (grind (arith, nat_tests))) (old_stub (n ∷ n ∷ e ∷ seen) e (grind (arith, nat_tests))),
    (λ x d g. grind (arith, nat_tests, d, g)),
  )

-- ---- the nodes behind the curl are the crossing and the nodes from before
module _ (p : Parameters) (S : Strands) (items : List Item) (sizes : AllByRecursion HasItsSlots items) (e n : ℕ) (apart : e ≢ n) (sign : Sign) (short : loop_nodes S 0 (S.first e) ≡ []) (K : List Node)
    (crossing : (g i : ℕ) → U (stub_crossing p S g i (curl_stubs e n sign)) ≡ K) (there : is_member ◌==◌ (loop_labels items) e ≡ true)
    (out_e : is_member ◌==◌ (crossing_labels items) e ≡ false) (out_n : is_member ◌==◌ (crossing_labels items) n ≡ false)
    (sizes_after : AllByRecursion HasItsSlots (curled_loop e (curl_slots e e n sign) items)) (same_boxes : (x : ℕ) → times_in (first_labels S.boxed [] (curled_loop e (curl_slots e e n sign) items)) x ≡ times_in (first_labels S.boxed [] items) x) where
  abbrev after : List Item
  after = curled_loop e (curl_slots e e n sign) items

  loop_labels-stubbed : (xs : List Item) (seen : List ℕ) → loop_labels (stubbed seen xs) ≡ loop_labels xs
  loop_labels-stubbed [] seen = refl
  loop_labels-stubbed (item.X slots ∷ rest) seen = loop_labels-stubbed rest (seen_after seen slots)
  loop_labels-stubbed (item.Loop l ∷ rest) seen = ap (λ ls. l ∷ ls) (loop_labels-stubbed rest seen)

  by_stubs : (xs : List Item) → AllByRecursion HasItsSlots xs → IsPermutation (U (cable_nodes p S (start (as_net xs)) (as_net xs))) (boxes_of S (first_labels S.boxed [] xs) ++ U (stub_nodes p S [] 1 1 0 (count_placed (as_net xs) + 1) (stubbed [] xs)))
  by_stubs xs h =
      let st = start (as_net xs) in
      let boxes = first_boxes S st xs in
      let sn = stub_nodes p S [] 1 1 0 (count_placed (as_net xs) + 1) (stubbed [] xs) in
      let P : List Node → Type 0 = λ ns. IsPermutation (U (cable_nodes p S st (as_net xs))) ns in
      subst P (map-append without_group boxes sn ∙ ap (λ ns. ns ++ U sn) (ungrouped_boxes S st xs h)) (IsPermutation-map without_group _ _ (split p S xs st 1 h))

  pub curled_nodes : IsPermutation (U (cable_nodes p S (start (as_net after)) (as_net after))) (K ++ U (cable_nodes p S (start (as_net items)) (as_net items)))
  curled_nodes =
      let B : List Item → List Node = λ xs. boxes_of S (first_labels S.boxed [] xs) in
      let lg = count_placed (as_net after) + 1 in
      let lg0 = count_placed (as_net items) + 1 in
      let ws = curl_stubs e n sign in
      let old = U (stub_nodes p S [] 1 1 0 lg0 (stubbed [] items)) in
      let new = U (stub_nodes p S [] 1 1 0 lg (stubbed [] after)) in
      let are : stubbed [] after ≡ curled_loop e ws (stubbed [] items) = stubbed_curled e n (curl_slots e e n sign) ws (told e n apart sign) items [] refl refl out_e out_n in
      let Q : List Item → Type 0 = λ D. IsPermutation (U (stub_nodes p S [] 1 1 0 lg D)) (K ++ old) in
      let inner : IsPermutation new (K ++ old) =
      subst Q (sym are) (stub_perm p S e short ws K crossing (stubbed [] items) 1 1 0 lg 1 1 lg0 (ap (λ ls. is_member ◌==◌ ls e) (loop_labels-stubbed items []) ∙ there)) in
      let boxes : IsPermutation (B after) (B items) = IsPermutation-map _ _ _ (permuted_times (first_labels S.boxed [] items) (first_labels S.boxed [] after) same_boxes) in
      IsPermutation-trans _ (B after ++ new) _ (by_stubs after sizes_after)
      (IsPermutation-trans (B after ++ new) (K ++ (B after ++ old)) _ (moved_out (B after) K new old inner)
      (IsPermutation-append_right K (B after ++ old) _
      (IsPermutation-trans (B after ++ old) (B items ++ old) _ (IsPermutation-append_left old (B after) (B items) boxes)
      (IsPermutation-sym _ _ (by_stubs items sizes)))))
