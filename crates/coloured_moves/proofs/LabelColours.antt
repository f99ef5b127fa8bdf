-- Labels of one component have one colour; so have opposite slots of a crossing. And the strands at stubs.
use Rattle.std.proofs.Common.{◌≡◌, ◌≢◌, ℕ, ◌+◌, ◌-◌, ◌%◌, ◌<◌, ◌==◌, nat_le, Bool, true, false, cond, List, [], ◌∷◌, length, reverse, slice_index, count_by, Some, refl, sym, ap, ap₂, ◌∙◌, arith, ⊎_elim, subst}
use Rattle.std.specs.List.{AllByRecursion}
use Rattle.std.specs.Set.{is_member}
use Rattle.std.proofs.lemmas.Bool.{cases_Bool, eqb-true, or_cases, or_left, or_right}
use Rattle.std.proofs.lemmas.Bool.Decides.{nat_tests}
use Rattle.std.proofs.lemmas.List.{reverse-reverse}
use Rattle.graph_parts.specs.Walks.{Joined}
use Rattle.graph_parts.proofs.Distinct.{is_member-append}
use Rattle.graph_parts.proofs.Ends.{is_member-get_or}
use Rattle.graph_parts.proofs.LeastLabels.{least_label-Joined}
use Rattle.pd_reader.specs.declared.item.Item.{Item}
use Rattle.pd_reader.specs.declared.item.Item.TheVariants as item
use Rattle.pd_reader.specs.Items.{item_labels, HasItsSlots}
use Rattle.pd_reader.specs.Diagrams.{labels}
use Rattle.planar_check.specs.Components.{strand_edges, component_least, least_labels}
use Rattle.cables.specs.Cables.{loop_count, loops_at, Fits, as_net}
use Rattle.cables.specs.Nets.{projector_of}
use Rattle.cables.proofs.NumberedStrands.{first_length}
use Rattle.root_quantum.specs.Parameters.{Parameters}
use Rattle.cables.specs.Strands.{Strands}
use Rattle.coloured_values.specs.Coloured.{colour_of, is_boxed, diagram_strands}
use Rattle.coloured_values.proofs.CabledDiagrams.{same_least, fits_from}
use Rattle.diagram_moves.specs.Rewriting.{slot, crossing_at, crossing_from, crossing_labels}
use Rattle.diagram_moves.proofs.Nodes.{none_some, picked_size}
use Rattle.diagram_moves.specs.Laws.{IsPairedDiagram}
use Rattle.diagram_moves.proofs.Paired.{loop_labels, times_labels, twice_in_all}
use Rattle.list_lemmas.proofs.Times.{times_of_member}
use Rattle.diagram_moves.proofs.Pushing.{crossing_label}
use Rattle.move_results.proofs.ClosedComponents.{crossing_walks}
use Rattle.move_results.proofs.LeastLabelLists.{least_is}
use Rattle.coloured_moves.proofs.StubItems.{half, at_stub}

-- ONE COMPONENT, ONE COLOUR
pub same_component : (items : List Item) (colours : List ℕ) (u v : ℕ) → component_least items u ≡ component_least items v → colour_of items colours u ≡ colour_of items colours v
same_component items colours u v e = ap (λ x. slice_index colours (count_by (λ least. nat_le least x) (least_labels items) - 1)) e

pub joined_colour : (items : List Item) → AllByRecursion HasItsSlots items → (colours : List ℕ) (u v : ℕ) → Joined (strand_edges items) u v → is_member ◌==◌ (labels item_labels items) u ≡ true → is_member ◌==◌ (labels item_labels items) v ≡ true →
    colour_of items colours u ≡ colour_of items colours v
joined_colour items sizes colours u v j mu mv = same_component items colours u v (least_is items sizes u mu ∙ (least_label-Joined (strand_edges items) u v).1 j ∙ sym (least_is items sizes v mv))

-- ---- labels at the slots of a crossing
slots_within : (n : ℕ) (items : List Item) (c : ℕ) (slots : List ℕ) → crossing_from n items c ≡ Some slots → (x : ℕ) → is_member ◌==◌ slots x ≡ true → is_member ◌==◌ (crossing_labels items) x ≡ true
slots_within n [] c slots found x m = absurd (none_some slots found)
slots_within n (item.X here ∷ rest) c slots found x m =
    let Q : Bool → Type 0 = λ z. cond z (Some here) (crossing_from (n + 1) rest c) ≡ Some slots in
    ⊎_elim
    (λ t.
    let e : Some here ≡ Some slots = subst Q t found in
    let is : here ≡ slots = cc in
    is_member-append here (crossing_labels rest) x ∙ or_left (is_member ◌==◌ here x) (is_member ◌==◌ (crossing_labels rest) x) (ap (λ s. is_member ◌==◌ s x) is ∙ m))
    (λ t. is_member-append here (crossing_labels rest) x ∙ or_right (is_member ◌==◌ here x) (is_member ◌==◌ (crossing_labels rest) x) (slots_within (n + 1) rest c slots (subst Q t found) x m))
    (cases_Bool (n == c))
slots_within n (item.Loop l ∷ rest) c slots found x m = slots_within n rest c slots found x m

pub slot_label : (items : List Item) → AllByRecursion HasItsSlots items → (c : ℕ) (slots : List ℕ) → crossing_at items c ≡ Some slots → (i : ℕ) → is_member ◌==◌ (labels item_labels items) (slot slots i) ≡ true
slot_label items sizes c slots found i =
    let four = picked_size 1 items c slots sizes found in
    crossing_label items (slot slots i) (slots_within 1 items c slots found (slot slots i) (is_member-get_or slots (i % 4) (omega (arith, four))))

pub opposite_colours : (items : List Item) → AllByRecursion HasItsSlots items → (colours : List ℕ) (c : ℕ) (slots : List ℕ) → crossing_at items c ≡ Some slots → (i : ℕ) → i < 8 →
    (colour_of items colours (slot slots i) ≡ colour_of items colours (slot slots (i + 2))) × (colour_of items colours (slot slots (i + 1)) ≡ colour_of items colours (slot slots (i + 3)))
opposite_colours items sizes colours c slots found i low =
    let w = crossing_walks items c slots found i low in
    let m = slot_label items sizes c slots found in
    (joined_colour items sizes colours (slot slots i) (slot slots (i + 2)) w.0 (m i) (m (i + 2)), joined_colour items sizes colours (slot slots (i + 1)) (slot slots (i + 3)) w.1 (m (i + 1)) (m (i + 3)))

-- ---- the strands at a stub
pub long_stub : (strands : Strands) → ((l : ℕ) → length (strands.second l) ≡ length (strands.first l)) → (w : ℕ) → length (at_stub strands w) ≡ length (strands.first (half w))
long_stub strands even w = elim (w % 2 == 1) as (λ b. length (cond b (strands.second (half w)) (strands.first (half w))) ≡ length (strands.first (half w))) [ true ↦ even (half w) | false ↦ refl ]

-- both stubs of an edge without a box
pub opposite_stub : (strands : Strands) (w v : ℕ) → half w ≡ half v → w ≢ v → strands.second (half w) ≡ reverse (strands.first (half w)) → at_stub strands v ≡ reverse (at_stub strands w)
opposite_stub strands w v e d plain =
    let l = half w in
    let xs = strands.first l in
    let A : ℕ → Bool → List ℕ = λ n b. cond b (strands.second n) (strands.first n) in
    ap (λ n. A n (v % 2 == 1)) (sym e)
    ∙ ⊎_elim
    (λ t. ap (A l) (other w v e d t) ∙ sym (ap (λ b. reverse (A l b)) t ∙ ap reverse plain ∙ reverse-reverse xs))
    (λ t. ap (A l) (own w v e d t) ∙ plain ∙ sym (ap (λ b. reverse (A l b)) t))
    (cases_Bool (w % 2 == 1))
  where
    other : (w v : ℕ) → half w ≡ half v → w ≢ v → (w % 2 == 1) ≡ true → (v % 2 == 1) ≡ false
    other w v e d t = ⊎_elim (λ s. absurd (let p = eqb-true (w % 2) 1 t in let q = eqb-true (v % 2) 1 s in d (omega (arith, e, p, q)))) (λ s. s) (cases_Bool (v % 2 == 1))

    even : (v : ℕ) → (v % 2 == 1) ≡ false → v % 2 ≡ 0
    even v t = grind (arith, nat_tests, t)

    own : (w v : ℕ) → half w ≡ half v → w ≢ v → (w % 2 == 1) ≡ false → (v % 2 == 1) ≡ true
    own w v e d t = ⊎_elim (λ s. s) (λ s. absurd (let p = even w t in let q = even v s in d (omega (arith, e, p, q)))) (cases_Bool (v % 2 == 1))

-- ---- the loops of a diagram
abbrev pub counts : Strands → List ℕ → ℕ
counts strands [] = 0
counts strands (l ∷ ls) = loops_at (strands.first l) + counts strands ls

pub loop_count_labels : (strands : Strands) (items : List Item) → loop_count strands (as_net items) ≡ counts strands (loop_labels items)
loop_count_labels strands [] = refl
loop_count_labels strands (item.X slots ∷ rest) = loop_count_labels strands rest
loop_count_labels strands (item.Loop l ∷ rest) = ap (λ n. loops_at (strands.first l) + n) (loop_count_labels strands rest)

pub counts_same : (strands others : Strands) (ls : List ℕ) → AllByRecursion (λ l. others.first l ≡ strands.first l) ls → counts others ls ≡ counts strands ls
counts_same strands others [] h = refl
counts_same strands others (l ∷ ls) h = ap₂ (λ x y. x + y) (ap loops_at h.0) (counts_same strands others ls h.1)

-- ---- labels of a diagram
pub label_in : (P : ℕ → Type 0) (ls : List ℕ) → AllByRecursion P ls → (x : ℕ) → is_member ◌==◌ ls x ≡ true → P x
label_in P [] h x m = absurd (grind (arith, m))
label_in P (l ∷ ls) h x m = ⊎_elim (λ t. subst P (sym (eqb-true x l t)) h.0) (λ t. label_in P ls h.1 x t) (or_cases (x == l) (is_member ◌==◌ ls x) m)

-- a loop's label stands at no crossing
pub loop_out : (items : List Item) → IsPairedDiagram items → (l : ℕ) → is_member ◌==◌ (loop_labels items) l ≡ true → is_member ◌==◌ (crossing_labels items) l ≡ false
loop_out items pd l m =
    let t = times_labels items l in
    let one = times_of_member l (loop_labels items) m in
    let two = twice_in_all items pd l (omega (arith, t, one)) in
    ⊎_elim (λ s. absurd (let o = times_of_member l (crossing_labels items) s in omega (arith, t, one, two, o))) (λ s. s) (cases_Bool (is_member ◌==◌ (crossing_labels items) l))

-- opposite slots of each crossing have as many strands
pub diagram_fits : (p : Parameters) (items : List Item) → AllByRecursion HasItsSlots items → (colours : List ℕ) → AllByRecursion (Fits (diagram_strands p items colours)) (as_net items)
diagram_fits p items sizes colours =
    let long : (l : ℕ) → length ((diagram_strands p items colours).first l) ≡ colour_of items colours l = λ l. first_length (colour_of items colours) (is_boxed items colours) (projector_of p) l in
    fits_from (diagram_strands p items colours) items sizes (λ x y e mx my. long x ∙ same_component items colours x y (same_least items sizes x y e mx my) ∙ sym (long y))
