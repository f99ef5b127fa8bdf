-- CurlUndo on a component of any colour, where no box lies inside the curl, multiplies the coloured value by its factor: what an accepted step gives.
use Rattle.std.proofs.Common.{◌≡◌, ◌+◌, ◌*◌, ◌%◌, ◌<◌, ◌==◌, ◌⊎◌, inl, ℕ, zero, suc, Bool, true, false, cond, ltb, List, [], ◌∷◌, ◌++◌, length, reverse, ◌≤◌, Option, Some, pos, negsuc, refl, sym, ap, ◌∙◌, arith, subst}
use Rattle.std.specs.List.{AllByRecursion, find, zip}
use Rattle.std.specs.Set.{is_member}
use Rattle.std.proofs.lemmas.Bool.{eq-eqb, ltb-true, or_left}
use Rattle.std.proofs.lemmas.Bool.Decides.{nat_tests}
use Rattle.std.proofs.lemmas.Nat.{mul-mod_second}
use Rattle.graph_parts.specs.Ends.{ends_of}
use Rattle.graph_parts.specs.LeastNames.{least_label}
use Rattle.graph_parts.specs.Walks.{Joined, along}
use Rattle.graph_parts.proofs.LeastLabels.{least_label-Joined}
use Rattle.list_lemmas.specs.Times.{times_in}
use Rattle.ring_identities.proofs.Congruences.{congruent_eq, congruent_trans}
use Rattle.state_sums.proofs.Congruent.{mul_same_mod}
use Rattle.root_quantum.specs.Parameters.{Parameters}
use Rattle.root_quantum.specs.QuantumNumbers.{loop_value, twist}
use Rattle.root_quantum.proofs.LawProofs.{twist_none_law, twist_sum_law}
use Rattle.piece_laws.specs.Arcs.{arcs_of}
use Rattle.piece_laws.proofs.ParameterNumbers.{to_naturals}
use Rattle.pd_reader.specs.declared.item.Item.{Item}
use Rattle.pd_reader.specs.Items.{item_labels, HasItsSlots}
use Rattle.pd_reader.specs.Diagrams.{labels, IsDiagram, IsLabel}
use Rattle.planar_check.specs.Components.{strand_edges}
use Rattle.planar_check.specs.declared.sign.Sign.{Sign}
use Rattle.planar_check.specs.declared.sign.Sign.TheVariants as signs
use Rattle.cables.specs.Nets.{HasProjector}
use Rattle.script_reader.specs.declared.step.Step.TheVariants.{CurlUndo}
use Rattle.coloured_values.specs.Coloured.{colour_of, is_boxed, coloured}
use Rattle.coloured_values.specs.Laws.{HasColours}
use Rattle.coloured_values.proofs.ColouredLaws.{each_label}
use Rattle.diagram_moves.specs.Anchors.{inner_edges, labels_of}
use Rattle.diagram_moves.specs.Moves.{four, is_curl, curl_of, curl_classes, closing, removed}
use Rattle.diagram_moves.specs.Rewriting.{slot, crossing_at, crossing_labels}
use Rattle.diagram_moves.specs.Steps.{Moved}
use Rattle.diagram_moves.specs.declared.fault.MoveFault.TheVariants.{NoCrossing, NotCurl}
use Rattle.diagram_moves.proofs.Accepted.{finished_Ok, finished_few, given_Ok, passing_test, small_slots}
use Rattle.diagram_moves.proofs.NoNumbers.{nothing, modulo_one}
use Rattle.diagram_moves.proofs.Nodes.{kept}
use Rattle.state_sums.specs.Networks.{names_of}
use Rattle.state_sums.specs.StateSums.{value}
use Rattle.diagram_moves.proofs.Pulling.{curl_recounted}
use Rattle.diagram_moves.proofs.Undone.{least_contraction}
use Rattle.move_results.proofs.ClosedComponents.{crossing_walks, ends_by, uncurled_components, uncurled_contracts}
use Rattle.move_results.proofs.DiagramResults.{as_paired}
use Rattle.move_results.proofs.PairedResults.{paired_again}
use Rattle.coloured_moves.proofs.ClosedCables.{closed_coloured}
use Rattle.coloured_moves.proofs.ColouredSlides.{boxed_projector, no_anchor}
use Rattle.coloured_moves.proofs.CurledStrands.{curl_twist}
use Rattle.coloured_moves.proofs.ExchangedStubs.{halved_stubbed}
use Rattle.coloured_moves.proofs.LabelColours.{label_in, opposite_colours, slot_label}
use Rattle.coloured_curls.specs.Laws.{CurlUndoLaw}
use Rattle.coloured_curls.proofs.AbsorbedTwists.{once}
use Rattle.coloured_curls.proofs.UndoneBundles as b
use Rattle.coloured_curls.proofs.UndoneBundles.{sign_at}
use Rattle.coloured_curls.proofs.UndoneCurls.{undone}

-- the sign of the curl that takes it away
abbrev other_at : ℕ → Sign
other_at s = cond (s % 2 == 0) signs.Minus signs.Plus

-- both twists are one
twist_and_back : (p : Parameters) (n : ℕ) → twist p n (pos 1) * twist p n (negsuc 0) % p.modulus ≡ 1 % p.modulus
twist_and_back p n =
    to_naturals (twist p n (pos 1) * twist p n (negsuc 0)) 1 (let h = p.meets.modulus.0 in omega (arith, h)) (congruent_trans (twist_sum_law p n (pos 1) (negsuc 0)) (congruent_eq (ap pos (twist_none_law p n))))

inverse_twists : (p : Parameters) (n : ℕ) (t : Bool) → (curl_twist p n (cond t signs.Minus signs.Plus) * curl_twist p n (cond t signs.Plus signs.Minus)) % p.modulus ≡ 1 % p.modulus
inverse_twists p n false = twist_and_back p n
inverse_twists p n true = ap (λ k. k % p.modulus) (let e : twist p n (negsuc 0) * twist p n (pos 1) ≡ twist p n (pos 1) * twist p n (negsuc 0) = omega arith in e) ∙ twist_and_back p n

-- the edges of a curl's crossing have one colour
first_colour : (colour : ℕ → ℕ) (ws : List ℕ) (s : ℕ) → s < 4 → colour (slot ws s) ≡ colour (slot ws (s + 2)) → colour (slot ws (s + 1)) ≡ colour (slot ws (s + 3)) → slot ws (s + 1) ≡ slot ws s → colour (slot ws 0) ≡ colour (slot ws s)
first_colour colour ws zero l p q e = refl
first_colour colour ws (suc zero) l p q e = sym q ∙ ap colour e
first_colour colour ws (suc (suc zero)) l p q e = sym p
first_colour colour ws (suc (suc (suc zero))) l p q e = ap colour e
first_colour colour ws (suc (suc (suc (suc s)))) l p q e = absurd (omega (arith, l))

module _ (p : Parameters) (items : List Item) (is : IsDiagram items) (c : ℕ) (here : List ℕ) (found : crossing_at items c ≡ Some here) (s : ℕ) (low_s : s < 4) (test : is_curl here s ≡ true) (colours : List ℕ) (has : HasColours items colours)
    (projectors : (l : ℕ) → is_boxed items colours l ≡ true → HasProjector p (colour_of items colours l)) (free_x : is_boxed items colours (slot here s) ≡ false)
    (after_is : IsDiagram (closing (least_label (curl_classes here s)) (slot here s) (slot here s) (removed (c ∷ []) (least_label (curl_classes here s)) items))) where
  abbrev x : ℕ
  x = slot here s

  abbrev classes : List (ℕ × ℕ)
  classes = curl_classes here s

  abbrev label : ℕ → ℕ
  label = least_label classes

  abbrev after : List Item
  after = closing label x x (removed (c ∷ []) label items)

  abbrev component : ℕ → ℕ
  component = least_label (strand_edges items)

  joined : (y z : ℕ) → Joined (strand_edges items) y z → component y ≡ component z
  joined y z j = (least_label-Joined (strand_edges items) y z).1 j

  s8 : s < 8
  s8 = omega (arith, low_s)

  has_x : is_member ◌==◌ (ends_of classes) x ≡ true
  has_x = or_left (x == x) _ (eq-eqb x x refl)

  ends_class : (l : ℕ) → is_member ◌==◌ (ends_of classes) l ≡ true → (label l ≡ label x) ⊎ (label l ≡ label x)
  ends_class =
      let rules = least_contraction classes in
      ends_by label (label x) (label x) classes ((inl refl, rules.one x (slot here (s + 2)) (along (0, omega arith, refl))), ((inl refl, rules.one x (slot here (s + 3)) (along (1, omega arith, refl))), tt))

  counted : (z : ℕ) → times_in (crossing_labels items) z ≡ times_in (ends_of classes) z + times_in (names_of (kept 0 0 (c ∷ []) 1 items)) z
  counted = curl_recounted 1 0 0 0 nothing items (b.pd p items is c here found s low_s test colours has projectors free_x) c here found s low_s test 0 (modulo_one (0 + cond (s % 2 == 0) 0 0 * cond (s % 2 == 0) 0 0 * cond (s % 2 == 0) 0 0))

  -- the result has one bundle in the place of the crossing
  result : coloured p after colours ≡ value p.modulus (loop_value p) record { nodes = arcs_of (zip (b.into p items is c here found s low_s test colours has projectors free_x) (reverse (b.out p items is c here found s low_s test colours has projectors free_x))) ++ (b.rest p items is c here found s low_s test colours has projectors free_x); free_loops = (b.free p items is c here found s low_s test colours has projectors free_x) }
  result =
      let walks = crossing_walks items c here found s s8 in
      closed_coloured p items is (c ∷ []) classes x x counted has_x has_x ends_class (inl refl, (inl refl, tt))
      (joined x (slot here (s + 2)) walks.0, (ap component (sym (b.shared p items is c here found s low_s test colours has projectors free_x)) ∙ joined (slot here (s + 1)) (slot here (s + 3)) walks.1, tt))
      (uncurled_contracts items (b.pd p items is c here found s low_s test colours has projectors free_x) c here s found low_s test) (uncurled_components items (b.pd p items is c here found s low_s test colours has projectors free_x) c here s found low_s test) after_is colours (b.few p items is c here found s low_s test colours has projectors free_x) projectors (b.boxes p items is c here found s low_s test colours has projectors free_x)
      (b.bundle_pairs p items is c here found s low_s test colours has projectors free_x) (b.B p items is c here found s low_s test colours has projectors free_x) (halved_stubbed [] items) (((b.half_x0 p items is c here found s low_s test colours has projectors free_x), (b.half_u p items is c here found s low_s test colours has projectors free_x)), (((b.half_x1 p items is c here found s low_s test colours has projectors free_x), (b.half_v p items is c here found s low_s test colours has projectors free_x)), tt)) (b.state p items is c here found s low_s test colours has projectors free_x)
      ∙ (b.chained p items is c here found s low_s test colours has projectors free_x)

  -- the diagram is mu_n to the power of its curl times the result
  before : coloured p items colours ≡ curl_twist p (colour_of items colours x) (sign_at s) * coloured p after colours % p.modulus
  unfolding coloured
  before = (b.by_curl p items is c here found s low_s test colours has projectors free_x) ∙ undone p items is c here found s low_s test colours has projectors free_x ∙ ap (λ j. curl_twist p (colour_of items colours x) (sign_at s) * j % p.modulus) (sym result)

  small : 1 * coloured p after colours % p.modulus ≡ coloured p after colours
  small = ap (λ j. 1 * j % p.modulus) result ∙ once p.modulus (loop_value p) (b.free p items is c here found s low_s test colours has projectors free_x) (arcs_of (zip (b.into p items is c here found s low_s test colours has projectors free_x) (reverse (b.out p items is c here found s low_s test colours has projectors free_x))) ++ (b.rest p items is c here found s low_s test colours has projectors free_x)) ∙ sym result

  -- A CURL TAKEN AWAY
  pub curl_undone : coloured p after colours ≡ curl_twist p (colour_of items colours (slot here 0)) (other_at s) * coloured p items colours % p.modulus
  curl_undone =
      let m = p.modulus in
      let n = colour_of items colours x in
      let v = coloured p after colours in
      let there = curl_twist p n (sign_at s) in
      let away = curl_twist p n (other_at s) in
      let opposite = opposite_colours items is.sizes colours c here found s s8 in
      let one : colour_of items colours (slot here 0) ≡ n = first_colour (λ l. colour_of items colours l) here s low_s opposite.0 opposite.1 (b.shared p items is c here found s low_s test colours has projectors free_x) in
      sym
      (ap (λ k. curl_twist p k (other_at s) * coloured p items colours % m) one
      ∙ ap (λ j. away * j % m) before
      ∙ mul-mod_second away (there * v) m
      ∙ ap (λ j. j % m) (let e : away * (there * v) ≡ v * (away * there) = omega arith in e)
      ∙ mul_same_mod m v (away * there) 1 (inverse_twists p n (s % 2 == 0))
      ∙ ap (λ j. j % m) (let e : v * 1 ≡ 1 * v = omega arith in e)
      ∙ small)

-- CURLUNDO
pub curl_undo : CurlUndoLaw
curl_undo p items c slots moved colours is has projectors at_c none h =
    let h1 = given_Ok (crossing_at items c) (NoCrossing c) _ moved h in
    let here = h1.0 in
    let found = h1.1 in
    let same : here ≡ slots = (let e : ◌≡◌ {A = Option (List ℕ)} (Some here) (Some slots) = sym found ∙ at_c in cc) in
    let h2 = given_Ok (find (is_curl here) four) NotCurl _ moved h1.2 in
    let s = h2.0 in
    let passed = passing_test (is_curl here) (λ i. ltb i 4) four s h2.1 small_slots in
    let test = passed.0 in
    let low = ltb-true s 4 passed.1 in
    let x = slot here s in
    let label : ℕ → ℕ = least_label (curl_classes here s) in
    let after : List Item = closing label x x (removed (c ∷ []) label items) in
    -- the loop's edge has no box
    let are : inner_edges items (CurlUndo c) ≡ x ∷ [] =
    ap (λ o. labels_of o (λ ws. labels_of (find (is_curl ws) four) (λ i. slot ws i ∷ []))) found ∙ ap (λ o. labels_of o (λ i. slot here i ∷ [])) h2.1 in
    let free_x : is_boxed items colours x ≡ false =
    no_anchor items colours (CurlUndo c) is.sizes has.count none x (ap (λ ls. is_member ◌==◌ ls x) are ∙ own x) (slot_label items is.sizes c here found s) in
    -- the result is a diagram, with labels from before
    let q : moved ≡ record { items = after; factor = curl_of (other_at s) } = finished_Ok (curl_of (other_at s)) after moved h2.2 in
    let result : moved.items ≡ after = ap (λ (w : Moved). w.items) q in
    let paired = paired_again items (CurlUndo c) moved (as_paired items is) h in
    let contracts = uncurled_contracts items (as_paired items is) c here s found low test in
    let P : List Item → Type 0 = λ xs. AllByRecursion HasItsSlots xs in
    let Q : List Item → Type 0 = λ xs. AllByRecursion (λ label. times_in (labels item_labels xs) label ≡ 2) (labels item_labels xs) in
    let again : IsDiagram after = record {
      few = subst (λ xs. length xs ≤ 256) result (finished_few (curl_of (other_at s)) after moved h2.2);
      sizes = subst P result paired.sizes;
      in_range = each_label IsLabel (labels item_labels after) (λ l m. label_in IsLabel (labels item_labels items) is.in_range l (contracts.within l m));
      twice = subst Q result paired.twice;
    } in
    let G : Moved → Type 0 = λ w. coloured p w.items colours ≡ twist p (colour_of items colours (slot here 0)) w.factor.curl * coloured p items colours % p.modulus in
    let H : List ℕ → Type 0 = λ ws. coloured p moved.items colours ≡ twist p (colour_of items colours (slot ws 0)) moved.factor.curl * coloured p items colours % p.modulus in
    subst H same (subst G (sym q) (curl_undone p items is c here found s low test colours has (boxed_projector p items colours projectors) free_x again))
  where
    own : (a : ℕ) → is_member ◌==◌ (a ∷ []) a ≡ true
    own a = grind (arith, nat_tests)
