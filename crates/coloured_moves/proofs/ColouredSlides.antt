-- R3 keeps the coloured value; and where no box lies inside a step, its inner edges have none.
use Rattle.std.proofs.Common.{◌≡◌, ℕ, zero, suc, ◌+◌, ◌-◌, ◌%◌, ◌<◌, ◌≤◌, ◌==◌, ◌&&◌, ◌||◌, not, nat_le, Bool, true, false, cond, List, [], ◌∷◌, length, slice_index, Some, None, Ok, sym, ap, ◌∙◌, arith, ⊎_elim, subst}
use Rattle.std.specs.List.{AllByRecursion, find}
use Rattle.std.specs.Set.{is_member}
use Rattle.std.proofs.lemmas.Bool.{cases_Bool, cases_eq, and_parts, eqb-true}
use Rattle.std.proofs.lemmas.Bool.Decides.{nat_tests}
use Rattle.list_lemmas.specs.Times.{times_in}
use Rattle.list_lemmas.proofs.Times.{member_of_times, times_of_member}
use Rattle.root_quantum.specs.Parameters.{Parameters}
use Rattle.pd_reader.specs.declared.item.Item.{Item}
use Rattle.pd_reader.specs.Items.{item_labels, HasItsSlots}
use Rattle.pd_reader.specs.Diagrams.{labels, IsDiagram, IsLabel}
use Rattle.planar_check.specs.Components.{component_least, least_labels, number_of}
use Rattle.planar_check.proofs.ComponentNumbers.{least_at_number}
use Rattle.planar_check.proofs.FewComponents.{number_first, number_last}
use Rattle.script_reader.specs.declared.step.Step.TheVariants.{R3}
use Rattle.cables.specs.Nets.{HasProjector}
use Rattle.coloured_values.specs.Coloured.{colour_of, is_boxed, coloured}
use Rattle.coloured_values.specs.Laws.{HasColours}
use Rattle.diagram_moves.specs.Moves.{move, plain, finished, slot_triples, is_triangle, triangle_rewritten}
use Rattle.diagram_moves.specs.Rewriting.{slot, crossing_at}
use Rattle.diagram_moves.specs.Steps.{Moved}
use Rattle.diagram_moves.proofs.Accepted.{finished_Ok, finished_few}
use Rattle.diagram_moves.proofs.Results.{slide_accepted}
use Rattle.move_results.proofs.PairedResults.{paired_again, triangle_edges}
use Rattle.piece_laws.proofs.ParameterNumbers.{skein_numbers}
use Rattle.root_quantum.specs.QuantumNumbers.{loop_value, inverse_root}
use Rattle.diagram_moves.specs.Anchors.{first_anchor, inner_edges, labels_of}
use Rattle.coloured_moves.specs.Laws.{ColouredSlideLaw, NoAnchorLaw, FirstAnchorLaw}
use Rattle.coloured_values.proofs.ColouredLaws.{each_label}
use Rattle.move_results.proofs.DiagramResults.{as_paired}
use Rattle.move_results.proofs.TriangleComponents.{after_members}
use Rattle.coloured_moves.proofs.LabelColours.{label_in, slot_label}
use Rattle.coloured_moves.proofs.SlidCables.{slid_coloured}

-- ---- boxes inside
passed_over : (edges leasts colours : List ℕ) (number i : ℕ) → first_anchor edges leasts colours number ≡ None → i < length leasts → i < length colours →
    (nat_le 2 (slice_index colours i) && is_member ◌==◌ edges (slice_index leasts i)) ≡ false
passed_over edges [] colours number i none a b = absurd (omega (arith, a))
passed_over edges (least ∷ leasts) [] number i none a b = absurd (omega (arith, b))
passed_over edges (least ∷ leasts) (colour ∷ colours) number zero none a b =
    ⊎_elim
    (λ t. absurd (let e = sym (ap (λ z. cond z (Some number) (first_anchor edges leasts colours (number + 1))) t) ∙ none in cc))
    (λ t. t)
    (cases_Bool (nat_le 2 colour && is_member ◌==◌ edges least))
passed_over edges (least ∷ leasts) (colour ∷ colours) number (suc i) none a b =
    ⊎_elim
    (λ t. absurd (let e = sym (ap (λ z. cond z (Some number) (first_anchor edges leasts colours (number + 1))) t) ∙ none in cc))
    (λ t. passed_over edges leasts colours (number + 1) i (sym (ap (λ z. cond z (Some number) (first_anchor edges leasts colours (number + 1))) t) ∙ none) (omega (arith, a)) (omega (arith, b)))
    (cases_Bool (nat_le 2 colour && is_member ◌==◌ edges least))

-- NO BOX INSIDE, NO BOX ON AN INNER EDGE
pub no_anchor : NoAnchorLaw
no_anchor items colours step sizes count none label inner there =
    let edges = inner_edges items step in
    let i = number_of items label - 1 in
    let first = number_first items sizes label there in
    let last = number_last items label in
    let out = passed_over edges (least_labels items) colours 1 i none (omega (arith, first, last)) (omega (arith, first, last, count)) in
    ⊎_elim
    (λ t.
    let parts = and_parts (nat_le 2 (colour_of items colours label)) (component_least items label == label) t in
    let own : slice_index (least_labels items) i ≡ label = least_at_number items sizes label there ∙ eqb-true (component_least items label) label parts.1 in
    let inside : is_member ◌==◌ edges (slice_index (least_labels items) i) ≡ true = ap (is_member ◌==◌ edges) own ∙ inner in
    absurd (clash (nat_le 2 (colour_of items colours label)) (is_member ◌==◌ edges (slice_index (least_labels items) i)) parts.0 inside out))
    (λ t. t)
    (cases_Bool (is_boxed items colours label))
  where
    clash : (a b : Bool) → a ≡ true → b ≡ true → (a && b) ≡ false → ⊥
    clash a b s t h = grind (arith, s, t, h)

-- what is found, from a number on
record IsFound (edges leasts colours : List ℕ) (start number : ℕ) : Type 0 where
  from : start ≤ number
  to : number < start + length leasts
  tall : 2 ≤ slice_index colours (number - start)
  inside : is_member ◌==◌ edges (slice_index leasts (number - start)) ≡ true
  first : (other : ℕ) → start ≤ other → other < number → 2 ≤ slice_index colours (other - start) → is_member ◌==◌ edges (slice_index leasts (other - start)) ≡ false

anchor_found : (edges leasts colours : List ℕ) (start number : ℕ) → first_anchor edges leasts colours start ≡ Some number → IsFound edges leasts colours start number
anchor_found edges [] colours start number e = absurd cc
anchor_found edges (least ∷ leasts) [] start number e = absurd cc
anchor_found edges (least ∷ leasts) (colour ∷ colours) start number e =
    let later = first_anchor edges leasts colours (start + 1) in
    ⊎_elim
    (λ t.
    let found : Some start ≡ Some number = sym (ap (λ z. cond z (Some start) later) t) ∙ e in
    let same : start ≡ number = cc in
    let here : number - start ≡ 0 = omega (arith, same) in
    let parts = and_parts (nat_le 2 colour) (is_member ◌==◌ edges least) t in
    let tall : 2 ≤ colour = grind (arith, nat_tests, parts) in
    record {
      from = omega (arith, same);
      to = omega (arith, same);
      tall = subst (λ i. 2 ≤ slice_index (colour ∷ colours) i) (sym here) tall;
      inside = ap (λ i. is_member ◌==◌ edges (slice_index (least ∷ leasts) i)) here ∙ parts.1;
      first = λ other a b. absurd (omega (arith, a, b, same));
    })
    (λ t.
    let r = anchor_found edges leasts colours (start + 1) number (sym (ap (λ z. cond z (Some start) later) t) ∙ e) in
    let from = r.from in let to = r.to in
    let next : (i : ℕ) → start + 1 ≤ i → i - start ≡ suc (i - (start + 1)) = λ i l. omega (arith, l) in
    record {
      from = omega (arith, from);
      to = omega (arith, to);
      tall = subst (λ i. 2 ≤ slice_index (colour ∷ colours) i) (sym (next number from)) r.tall;
      inside = ap (λ i. is_member ◌==◌ edges (slice_index (least ∷ leasts) i)) (next number from) ∙ r.inside;
      first = λ other a b l. passed other a b l r t next;
    })
    (cases_Bool (nat_le 2 colour && is_member ◌==◌ edges least))
  where
    passed : (other : ℕ) → start ≤ other → other < number → 2 ≤ slice_index (colour ∷ colours) (other - start) → IsFound edges leasts colours (start + 1) number → (nat_le 2 colour && is_member ◌==◌ edges least) ≡ false →
        ((i : ℕ) → start + 1 ≤ i → i - start ≡ suc (i - (start + 1))) → is_member ◌==◌ edges (slice_index (least ∷ leasts) (other - start)) ≡ false
    passed other a b l r t next =
        ⊎_elim
        (λ (e : other ≡ start).
        (let here : other - start ≡ 0 = omega (arith, e) in
        let tall : 2 ≤ colour = subst (λ i. 2 ≤ slice_index (colour ∷ colours) i) here l in
        ap (λ i. is_member ◌==◌ edges (slice_index (least ∷ leasts) i)) here ∙ out colour (is_member ◌==◌ edges least) tall t))
        (λ d.
        (let up : start + 1 ≤ other = omega (arith, a, d) in
        let same = next other up in
        ap (λ i. is_member ◌==◌ edges (slice_index (least ∷ leasts) i)) same ∙ r.first other up b (subst (λ i. 2 ≤ slice_index (colour ∷ colours) i) same l)))
        (cases_eq other start)
      where
        out : (n : ℕ) (b : Bool) → 2 ≤ n → (nat_le 2 n && b) ≡ false → b ≡ false
        out n b h t = grind (arith, nat_tests, h, t)

-- THE FIRST COMPONENT WHOSE BOX LIES INSIDE
pub first_anchor_named : FirstAnchorLaw
first_anchor_named items colours step number e =
    let r = anchor_found (inner_edges items step) (least_labels items) colours 1 number e in
    let to = r.to in
    record { within = (r.from, omega (arith, to)); tall = r.tall; inside = r.inside; first = r.first }

-- ---- colours and their projectors
entry : (P : ℕ → Type 0) (ns : List ℕ) (i : ℕ) → AllByRecursion P ns → 2 ≤ slice_index ns i → P (slice_index ns i)
entry P [] i h l = absurd (omega (arith, l))
entry P (n ∷ ns) zero h l = h.0
entry P (n ∷ ns) (suc i) h l = entry P ns i h.1 l

pub boxed_projector : (p : Parameters) (items : List Item) (colours : List ℕ) → AllByRecursion (HasProjector p) colours → (x : ℕ) → is_boxed items colours x ≡ true → HasProjector p (colour_of items colours x)
boxed_projector p items colours all x b =
    let t = (and_parts (nat_le 2 (colour_of items colours x)) (component_least items x == x) b).0 in
    entry (HasProjector p) colours (number_of items x - 1) all (grind (arith, nat_tests, t))

-- ---- the move as it is found
module _ (p : Parameters) (items : List Item) (is : IsDiagram items) (colours : List ℕ) (has : HasColours items colours) (projectors : AllByRecursion (HasProjector p) colours) (step_c step_d step_f : ℕ) (moved : Moved)
    (accepted : move items (R3 step_c step_d step_f) ≡ Ok moved) where
  module _ (c : ℕ) (here : List ℕ) (found : crossing_at items c ≡ Some here) (d : ℕ) (there : List ℕ) (also : crossing_at items d ≡ Some there) (f : ℕ) (beyond : List ℕ) (too : crossing_at items f ≡ Some beyond)
      (distinct : (c == d || (d == f || c == f)) ≡ false) (s t u : ℕ) (low_s : s < 4) (low_t : t < 4) (low_u : u < 4) (test : is_triangle here there beyond (s, (t, u)) ≡ true)
      (moved_is : moved ≡ record { items = triangle_rewritten items c d f here there beyond (s + 3) t u; factor = plain }) (few : length moved.items ≤ 256)
      (free_0 : is_boxed items colours (slot here s) ≡ false) (free_1 : is_boxed items colours (slot there (t + 1)) ≡ false) (free_2 : is_boxed items colours (slot here (s + 3)) ≡ false) where
    abbrev after : List Item
    after = triangle_rewritten items c d f here there beyond (s + 3) t u

    dc : (d == c) ≡ false
    dc = grind (arith, nat_tests, distinct)

    fc : (f == c) ≡ false
    fc = grind (arith, nat_tests, distinct)

    fd : (f == d) ≡ false
    fd = grind (arith, nat_tests, distinct)

    edges : (slot there t ≡ slot here (s + 3 + 1)) × (slot beyond u ≡ slot there (t + 1)) × (slot here (s + 3) ≡ slot beyond (u + 1))
    edges = triangle_edges here there beyond s t u test

    wrapped : slot here (s + 3 + 1) ≡ slot here s
    wrapped = ap (slice_index here) (let e : (s + 3 + 1) % 4 ≡ s % 4 = omega arith in e)

    mixed : not ((s + 3) % 2 == t % 2 && t % 2 == u % 2) ≡ true
    mixed =
        let t1 = and_parts (slot here s == slot there t) _ test in
        let t2 = and_parts (slot there (t + 1) == slot beyond u) _ t1.1 in
        let t3 = and_parts (slot beyond (u + 1) == slot here (s + 3)) _ t2.1 in
        let e : (s + 3) % 2 ≡ (s + 1) % 2 = omega arith in
        ap (λ r. not (r == t % 2 && t % 2 == u % 2)) e ∙ t3.1

    result : moved.items ≡ after
    result = ap (λ (w : Moved). w.items) moved_is

    -- the result is a diagram, with the labels from before
    again : IsDiagram after
    again =
        let paired = paired_again items (R3 step_c step_d step_f) moved (as_paired items is) accepted in
        let P : List Item → Type 0 = λ xs. AllByRecursion HasItsSlots xs in
        let Q : List Item → Type 0 = λ xs. AllByRecursion (λ label. times_in (labels item_labels xs) label ≡ 2) (labels item_labels xs) in
        record {
          few = subst (λ xs. length xs ≤ 256) result few;
          sizes = subst P result paired.sizes;
          in_range = each_label IsLabel (labels item_labels after) (λ x m. (
              let one = times_of_member x (labels item_labels after) m in
              let e = after_members p.modulus (loop_value p) p.root (inverse_root p) (skein_numbers p).skein items (as_paired items is) c here found d there also f beyond too dc fc fd (s + 3) t u (omega (arith, low_s)) (omega (arith, low_t)) (omega (arith, low_u)) edges.0 edges.1 edges.2 x in
              label_in IsLabel (labels item_labels items) is.in_range x (member_of_times x (labels item_labels items) (omega (arith, one, e)))));
          twice = subst Q result paired.twice;
        }

    pub found_coloured : coloured p moved.items colours ≡ coloured p items colours
    found_coloured =
        ap (λ xs. coloured p xs colours) result
        ∙ slid_coloured p items is c here found d there also f beyond too dc fc fd (s + 3) t u (omega (arith, low_s)) (omega (arith, low_t)) (omega (arith, low_u)) edges.0 edges.1 edges.2 mixed again colours has
        (boxed_projector p items colours projectors) (ap (is_boxed items colours) wrapped ∙ free_0) free_1 free_2

-- R3 KEEPS THE COLOURED VALUE
pub coloured_slide : ColouredSlideLaw
coloured_slide p items c g f moved colours is has projectors none h =
    let r = slide_accepted items c g f moved h in
    let here = r.here in let there = r.there in let beyond = r.beyond in
    let at = r.at in let s = at.0 in let t = at.1.0 in let u = at.1.1 in
    let one = triangle_rewritten items c g f here there beyond (s + 3) t u in
    let other = triangle_rewritten items c f g here beyond there (s + 3) t u in
    let distinct = r.distinct in
    let third : Bool → ℕ = λ b. cond b (slot there (t + 1)) (slot beyond (t + 1)) in
    -- the inner edges, as they are found
    let are : inner_edges items (R3 c g f) ≡ slot here s ∷ slot here (s + 3) ∷ third (is_triangle here there beyond at) ∷ [] =
    ap (λ o. labels_of o (λ x. labels_of (crossing_at items g) (λ y. labels_of (crossing_at items f) (λ z. labels_of (find (λ at. is_triangle x y z at || is_triangle x z y at) slot_triples) (λ at.
    slot x at.0 ∷ slot x (at.0 + 3) ∷ cond (is_triangle x y z at) (slot y (at.1.0 + 1)) (slot z (at.1.0 + 1)) ∷ []))))) r.at_c
    ∙ ap (λ o. labels_of o (λ y. labels_of (crossing_at items f) (λ z. labels_of (find (λ at. is_triangle here y z at || is_triangle here z y at) slot_triples) (λ at.
    slot here at.0 ∷ slot here (at.0 + 3) ∷ cond (is_triangle here y z at) (slot y (at.1.0 + 1)) (slot z (at.1.0 + 1)) ∷ [])))) r.at_g
    ∙ ap (λ o. labels_of o (λ z. labels_of (find (λ at. is_triangle here there z at || is_triangle here z there at) slot_triples) (λ at.
    slot here at.0 ∷ slot here (at.0 + 3) ∷ cond (is_triangle here there z at) (slot there (at.1.0 + 1)) (slot z (at.1.0 + 1)) ∷ []))) r.at_f
    ∙ ap (λ o. labels_of o (λ at. slot here at.0 ∷ slot here (at.0 + 3) ∷ cond (is_triangle here there beyond at) (slot there (at.1.0 + 1)) (slot beyond (at.1.0 + 1)) ∷ [])) r.found in
    let free : (b : Bool) → is_triangle here there beyond at ≡ b → (x : ℕ) → is_member ◌==◌ (slot here s ∷ slot here (s + 3) ∷ third b ∷ []) x ≡ true → is_member ◌==◌ (labels item_labels items) x ≡ true → is_boxed items colours x ≡ false =
    λ b e x m there. no_anchor items colours (R3 c g f) is.sizes has.count none x (ap (λ ls. is_member ◌==◌ ls x) (are ∙ ap (λ k. slot here s ∷ slot here (s + 3) ∷ third k ∷ []) e) ∙ m) there in
    let label_here = slot_label items is.sizes c here r.at_c in
    ⊎_elim
    (λ yes.
    let done = sym (ap (λ z. finished plain (cond z one other)) yes) ∙ r.finishes in
    found_coloured p items is colours has projectors c g f moved h c here r.at_c g there r.at_g f beyond r.at_f distinct s t u r.low.0 r.low.1 r.low.2 yes (finished_Ok plain one moved done) (finished_few plain one moved done)
    (free true yes (slot here s) (at_first (slot here s) (slot here (s + 3)) (slot there (t + 1))) (label_here s))
    (free true yes (slot there (t + 1)) (at_third (slot here s) (slot here (s + 3)) (slot there (t + 1))) (slot_label items is.sizes g there r.at_g (t + 1)))
    (free true yes (slot here (s + 3)) (at_second (slot here s) (slot here (s + 3)) (slot there (t + 1))) (label_here (s + 3))))
    (λ no.
    let done = sym (ap (λ z. finished plain (cond z one other)) no) ∙ r.finishes in
    let turned : (c == f || (f == g || c == g)) ≡ false = grind (arith, nat_tests, distinct) in
    let yes : is_triangle here beyond there at ≡ true = (let e = r.test in grind (arith, e, no)) in
    found_coloured p items is colours has projectors c g f moved h c here r.at_c f beyond r.at_f g there r.at_g turned s t u r.low.0 r.low.1 r.low.2 yes (finished_Ok plain other moved done) (finished_few plain other moved done)
    (free false no (slot here s) (at_first (slot here s) (slot here (s + 3)) (slot beyond (t + 1))) (label_here s))
    (free false no (slot beyond (t + 1)) (at_third (slot here s) (slot here (s + 3)) (slot beyond (t + 1))) (slot_label items is.sizes f beyond r.at_f (t + 1)))
    (free false no (slot here (s + 3)) (at_second (slot here s) (slot here (s + 3)) (slot beyond (t + 1))) (label_here (s + 3))))
    (cases_Bool (is_triangle here there beyond at))
  where
    at_first : (a b e : ℕ) → is_member ◌==◌ (a ∷ b ∷ e ∷ []) a ≡ true
    at_first a b e = grind (arith, nat_tests)

    at_second : (a b e : ℕ) → is_member ◌==◌ (a ∷ b ∷ e ∷ []) b ≡ true
    at_second a b e = grind (arith, nat_tests)

    at_third : (a b e : ℕ) → is_member ◌==◌ (a ∷ b ∷ e ∷ []) e ≡ true
    at_third a b e = grind (arith, nat_tests)
