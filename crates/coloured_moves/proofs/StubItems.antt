-- A diagram by the two stubs of each edge: at the first place of the label l stands 2 l, at the second 2 l + 1. A cable is, but for the
-- order of its nodes, its boxes and a crossing for each item with the names of the stubs at its slots. So where slots are rewritten, each
-- stub takes its names along.
--
--     stubs seen ls              the stubs at a list of places, behind the labels seen
--     stubbed seen items         the items with stubs for labels; halved items has the labels again
--     at_stub strands w          the names at a stub
--     stub_nodes ..              the nodes of the crossings, but those with a number in `gone`, and of the loops
--     first_boxes, first_labels, boxes_of      the boxes in the order of a cable, and by their labels
use Rattle.std.proofs.Common.{◌≡◌, ℕ, zero, suc, ◌+◌, ◌*◌, ◌/◌, ◌%◌, ◌<◌, ◌≤◌, ◌==◌, ◌&&◌, ◌||◌, not, Bool, true, false, cond, List, [], ◌∷◌, ◌++◌, map, length, slice_index, Some, refl, sym, ap, ap₂, ◌∙◌, arith, ⊎_elim, subst, append_assoc}
use Rattle.std.specs.List.{AllByRecursion, filter, range_with_len}
use Rattle.std.specs.List.Sorted.{IsPermutation}
use Rattle.std.specs.Set.{is_member}
use Rattle.std.proofs.lemmas.Bool.{cases_Bool, cases_eq, eqb-true, or_cases}
use Rattle.std.proofs.lemmas.Bool.Decides.{nat_tests}
use Rattle.std.proofs.lemmas.List.{map-append}
use Rattle.std.proofs.lemmas.List.Sorted.{IsPermutation-refl, IsPermutation-trans, IsPermutation-append_comm, IsPermutation-append_left, IsPermutation-append_right}
use Rattle.graph_parts.proofs.Distinct.{is_member-append}
use Rattle.list_lemmas.specs.Times.{times_in}
use Rattle.list_lemmas.proofs.Ranges.{is_member-range}
use Rattle.list_lemmas.proofs.Times.{times_in-append, times_in-cons, times_in-filter, times_of_member}
use Rattle.state_sums.specs.Networks.{Node}
use Rattle.root_quantum.specs.Parameters.{Parameters}
use Rattle.pd_reader.specs.declared.item.Item.{Item}
use Rattle.pd_reader.specs.declared.item.Item.TheVariants as item
use Rattle.pd_reader.specs.declared.item.NetItem.TheVariants.{X, Loop}
use Rattle.pd_reader.specs.Items.{HasItsSlots}
use Rattle.piece_laws.specs.TurnedNodes.{without_group}
use Rattle.cables.specs.Strands.{Strands, names_at}
use Rattle.cables.proofs.NameCounts.{at}
use Rattle.cables.specs.CableNodes.{crossing_cable, box_node}
use Rattle.cables.specs.Cables.{Standing, passed, past_all, box_nodes, loop_nodes, cable_nodes, as_net}
use Rattle.diagram_moves.specs.Rewriting.{crossing_labels, crossing_from}
use Rattle.diagram_moves.proofs.Nodes.{none_some}
use Rattle.diagram_moves.proofs.Rewritten.{anew}

-- ---- stubs
abbrev pub half : ℕ → ℕ
half w = w / 2

abbrev pub stub : List ℕ → ℕ → ℕ
stub seen l = 2 * l + cond (is_member ◌==◌ seen l) 1 0

abbrev pub stubs : List ℕ → List ℕ → List ℕ
stubs seen [] = []
stubs seen (l ∷ ls) = stub seen l ∷ stubs (l ∷ seen) ls

-- the labels seen behind the places, too
abbrev pub seen_after : List ℕ → List ℕ → List ℕ
seen_after seen [] = seen
seen_after seen (l ∷ ls) = seen_after (l ∷ seen) ls

abbrev pub stubbed : List ℕ → List Item → List Item
stubbed seen [] = []
stubbed seen (item.X slots ∷ rest) = item.X (stubs seen slots) ∷ stubbed (seen_after seen slots) rest
stubbed seen (item.Loop l ∷ rest) = item.Loop l ∷ stubbed seen rest

abbrev pub halved : List Item → List Item
halved [] = []
halved (item.X slots ∷ rest) = item.X (map half slots) ∷ halved rest
halved (item.Loop l ∷ rest) = item.Loop l ∷ halved rest

-- the names at a stub
abbrev pub at_stub : Strands → ℕ → List ℕ
at_stub strands w = cond (w % 2 == 1) (strands.second (half w)) (strands.first (half w))

-- the crossing with these stubs
abbrev pub stub_crossing : Parameters → Strands → ℕ → ℕ → List ℕ → List Node
stub_crossing p strands group index slots =
    crossing_cable p group index (at_stub strands (slice_index slots 0)) (at_stub strands (slice_index slots 1)) (at_stub strands (slice_index slots 2)) (at_stub strands (slice_index slots 3))

-- n is the number of the next crossing; those in `gone` are left out
abbrev pub stub_nodes : Parameters → Strands → List ℕ → ℕ → ℕ → ℕ → ℕ → List Item → List Node
stub_nodes p strands gone n group index loop_group [] = []
stub_nodes p strands gone n group index loop_group (item.X slots ∷ rest) =
    cond (is_member ◌==◌ gone n) [] (stub_crossing p strands group index slots) ++ stub_nodes p strands gone (n + 1) (group + 1) (index + 1) loop_group rest
stub_nodes p strands gone n group index loop_group (item.Loop l ∷ rest) = loop_nodes strands loop_group (strands.first l) ++ stub_nodes p strands gone n group (index + 1) (loop_group + 1) rest

-- the boxes in the order of a cable
abbrev pub first_boxes : Strands → Standing → List Item → List Node
first_boxes strands standing [] = []
first_boxes strands standing (item.X slots ∷ rest) = box_nodes strands standing slots ++ first_boxes strands (passed standing (X slots)) rest
first_boxes strands standing (item.Loop l ∷ rest) = first_boxes strands (passed standing (Loop l)) rest

-- ---- a stub tells its label and its side
pub stub_half : (seen : List ℕ) (l : ℕ) → half (stub seen l) ≡ l
stub_half seen l = elim (is_member ◌==◌ seen l) as (λ b. half (2 * l + cond b 1 0) ≡ l) [ true ↦ omega arith | false ↦ omega arith ]

pub at_stub_is : (strands : Strands) (seen : List ℕ) (l : ℕ) → at_stub strands (stub seen l) ≡ names_at strands seen l
at_stub_is strands seen l =
    elim (is_member ◌==◌ seen l) as (λ b. at_stub strands (2 * l + cond b 1 0) ≡ cond b (strands.second l) (strands.first l)) [
      | true ↦ (let e : (2 * l + 1) % 2 ≡ 1 = omega arith in let h : half (2 * l + 1) ≡ l = omega arith in ap (λ r. cond (r == 1) (strands.second (half (2 * l + 1))) (strands.first (half (2 * l + 1)))) e ∙ ap strands.second h)
      | false ↦ (let e : (2 * l + 0) % 2 ≡ 0 = omega arith in let h : half (2 * l + 0) ≡ l = omega arith in ap (λ r. cond (r == 1) (strands.second (half (2 * l + 0))) (strands.first (half (2 * l + 0)))) e ∙ ap strands.first h)
    ]

-- ---- permutations of runs of nodes
shuffled : (b c r f s : List Node) → IsPermutation r (f ++ s) → IsPermutation ((b ++ c) ++ r) ((b ++ f) ++ (c ++ s))
shuffled b c r f s h =
    let P : List Node → Type 0 = λ ns. IsPermutation ns ((b ++ f) ++ (c ++ s)) in
    let Q : List Node → Type 0 = λ ns. IsPermutation (b ++ (c ++ r)) ns in
    let R : List Node → Type 0 = λ ns. IsPermutation (c ++ (f ++ s)) ns in
    let S : List Node → Type 0 = λ ns. IsPermutation ns ((f ++ c) ++ s) in
    let swap : IsPermutation (c ++ (f ++ s)) (f ++ (c ++ s)) =
    subst R (append_assoc f c s) (subst S (append_assoc c f s) (IsPermutation-append_left s (c ++ f) (f ++ c) (IsPermutation-append_comm c f))) in
    subst P (sym (append_assoc b c r))
    (subst Q (sym (append_assoc b f (c ++ s)))
    (IsPermutation-append_right b (c ++ r) (f ++ (c ++ s)) (IsPermutation-trans (c ++ r) (c ++ (f ++ s)) (f ++ (c ++ s)) (IsPermutation-append_right c r (f ++ s) h) swap)))

pub moved_out : (a c r s : List Node) → IsPermutation r (c ++ s) → IsPermutation (a ++ r) (c ++ (a ++ s))
moved_out a c r s h = shuffled [] a r c s h

pub same_lists : (xs ys : List Node) → xs ≡ ys → IsPermutation xs ys
same_lists xs ys e = let P : List Node → Type 0 = λ ns. IsPermutation xs ns in subst P e (IsPermutation-refl xs)

-- A CABLE IS ITS BOXES AND ITS CROSSINGS, IN SOME ORDER
pub split : (p : Parameters) (strands : Strands) (items : List Item) (standing : Standing) (n : ℕ) → AllByRecursion HasItsSlots items →
    IsPermutation (cable_nodes p strands standing (as_net items)) (first_boxes strands standing items ++ stub_nodes p strands [] n standing.group standing.index standing.loop_group (stubbed standing.seen items))
split p strands [] standing n sizes = IsPermutation-refl []
split p strands (item.Loop l ∷ rest) standing n sizes =
    let next = passed standing (Loop l) in
    shuffled [] (loop_nodes strands standing.loop_group (strands.first l)) (cable_nodes p strands next (as_net rest)) (first_boxes strands next rest)
    (stub_nodes p strands [] n standing.group (standing.index + 1) (standing.loop_group + 1) (stubbed standing.seen rest)) (split p strands rest next n sizes.1)
split p strands (item.X (a ∷ b ∷ c ∷ d ∷ []) ∷ rest) standing n sizes =
    let slots = a ∷ b ∷ c ∷ d ∷ [] in
    let seen = standing.seen in
    let next = passed standing (X slots) in
    let boxes = box_nodes strands standing slots in
    let C : List ℕ → List ℕ → List ℕ → List ℕ → List Node = crossing_cable p standing.group standing.index in
    let later = stub_nodes p strands [] (n + 1) (standing.group + 1) (standing.index + 1) standing.loop_group (stubbed (seen_after seen slots) rest) in
    let old = C (names_at strands seen a) (names_at strands (a ∷ seen) b) (names_at strands (b ∷ a ∷ seen) c) (names_at strands (c ∷ b ∷ a ∷ seen) d) in
    let new = stub_crossing p strands standing.group standing.index (stubs seen slots) in
    let same : new ≡ old =
    ap₂ (λ x y. C x y (at_stub strands (stub (b ∷ a ∷ seen) c)) (at_stub strands (stub (c ∷ b ∷ a ∷ seen) d))) (at_stub_is strands seen a) (at_stub_is strands (a ∷ seen) b)
    ∙ ap₂ (λ x y. C (names_at strands seen a) (names_at strands (a ∷ seen) b) x y) (at_stub_is strands (b ∷ a ∷ seen) c) (at_stub_is strands (c ∷ b ∷ a ∷ seen) d) in
    let P : List Node → Type 0 = λ ns. IsPermutation ((boxes ++ old) ++ cable_nodes p strands next (as_net rest)) ((boxes ++ first_boxes strands next rest) ++ (ns ++ later)) in
    subst P (sym same) (shuffled boxes old (cable_nodes p strands next (as_net rest)) (first_boxes strands next rest) later (split p strands rest next (n + 1) sizes.1))
split p strands (item.X [] ∷ rest) standing n sizes = absurd (omega (arith, sizes.0))
split p strands (item.X (a ∷ []) ∷ rest) standing n sizes = absurd (omega (arith, sizes.0))
split p strands (item.X (a ∷ b ∷ []) ∷ rest) standing n sizes = absurd (omega (arith, sizes.0))
split p strands (item.X (a ∷ b ∷ c ∷ []) ∷ rest) standing n sizes = absurd (omega (arith, sizes.0))
split p strands (item.X (a ∷ b ∷ c ∷ d ∷ e ∷ slots) ∷ rest) standing n sizes = absurd (omega (arith, sizes.0))

-- ---- a crossing is taken out
module _ (p : Parameters) (strands : Strands) where
  later_same : (gone : List ℕ) (c n group index loop_group : ℕ) (items : List Item) → c < n → stub_nodes p strands (c ∷ gone) n group index loop_group items ≡ stub_nodes p strands gone n group index loop_group items
  later_same gone c n group index loop_group [] l = refl
  later_same gone c n group index loop_group (item.X slots ∷ rest) l =
      let out : (n == c) ≡ false = grind (arith, nat_tests, l) in
      ap₂ (λ xs ys. xs ++ ys) (ap (λ t. cond (t || is_member ◌==◌ gone n) [] (stub_crossing p strands group index slots)) out) (later_same gone c (n + 1) (group + 1) (index + 1) loop_group rest (omega (arith, l)))
  later_same gone c n group index loop_group (item.Loop k ∷ rest) l = ap (λ ns. loop_nodes strands loop_group (strands.first k) ++ ns) (later_same gone c n group (index + 1) (loop_group + 1) rest l)

  -- A CROSSING COMES TO THE FRONT, HOWEVER ITS SLOTS ARE REWRITTEN
  pub pulled : (gone : List ℕ) (n group index loop_group : ℕ) (items : List Item) (c : ℕ) (slots : List ℕ) → crossing_from n items c ≡ Some slots → is_member ◌==◌ gone c ≡ false →
      (g : ℕ) × (k : ℕ) × ((h : ℕ → List ℕ → List ℕ) → IsPermutation (stub_nodes p strands gone n group index loop_group (anew h n items))
      (stub_crossing p strands g k (h c slots) ++ stub_nodes p strands (c ∷ gone) n group index loop_group (anew h n items)))
  pulled gone n group index loop_group [] c slots found out = absurd (none_some slots found)
  pulled gone n group index loop_group (item.X here ∷ rest) c slots found out =
      ⊎_elim
      (λ t.
      let same : n ≡ c = eqb-true n c t in
      let e : Some here ≡ Some slots = sym (ap (λ z. cond z (Some here) (crossing_from (n + 1) rest c)) t) ∙ found in
      let is : here ≡ slots = cc in (
        group,
        index,
        λ h.
            let C = stub_crossing p strands group index in
            let later = stub_nodes p strands gone (n + 1) (group + 1) (index + 1) loop_group (anew h (n + 1) rest) in
            let left : is_member ◌==◌ gone n ≡ false = ap (is_member ◌==◌ gone) same ∙ out in
            let first : cond (is_member ◌==◌ gone n) [] (C (h n here)) ++ later ≡ C (h c slots) ++ later =
            ap (λ z. cond z [] (C (h n here)) ++ later) left ∙ ap₂ (λ m s. C (h m s) ++ later) same is in
            let second : C (h c slots) ++ later ≡ C (h c slots) ++ (cond (is_member ◌==◌ (c ∷ gone) n) [] (C (h n here)) ++ stub_nodes p strands (c ∷ gone) (n + 1) (group + 1) (index + 1) loop_group (anew h (n + 1) rest)) =
            ap (λ ns. C (h c slots) ++ ns)
            (sym (later_same gone c (n + 1) (group + 1) (index + 1) loop_group (anew h (n + 1) rest) (omega (arith, same)))
            ∙ sym (ap (λ z. cond (z || is_member ◌==◌ gone n) [] (C (h n here)) ++ stub_nodes p strands (c ∷ gone) (n + 1) (group + 1) (index + 1) loop_group (anew h (n + 1) rest)) t)) in
            same_lists _ _ (first ∙ second),
      ))
      (λ t.
      let r = pulled gone (n + 1) (group + 1) (index + 1) loop_group rest c slots (sym (ap (λ z. cond z (Some here) (crossing_from (n + 1) rest c)) t) ∙ found) out in (
        r.0,
        r.1,
        λ h.
            let C = stub_crossing p strands group index (h n here) in
            let A = cond (is_member ◌==◌ gone n) [] C in
            let others = stub_nodes p strands (c ∷ gone) (n + 1) (group + 1) (index + 1) loop_group (anew h (n + 1) rest) in
            let whole = stub_nodes p strands gone (n + 1) (group + 1) (index + 1) loop_group (anew h (n + 1) rest) in
            let taken = stub_crossing p strands r.0 r.1 (h c slots) in
            let P : Bool → Type 0 = λ z. IsPermutation (A ++ whole) (taken ++ (cond (z || is_member ◌==◌ gone n) [] C ++ others)) in
            subst P (sym t) (moved_out A taken whole others (r.2 h)),
      ))
      (cases_Bool (n == c))
  pulled gone n group index loop_group (item.Loop l ∷ rest) c slots found out =
      let r = pulled gone n group (index + 1) (loop_group + 1) rest c slots found out in (
        r.0,
        r.1,
        λ h. moved_out (loop_nodes strands loop_group (strands.first l)) (stub_crossing p strands r.0 r.1 (h c slots)) (stub_nodes p strands gone n group (index + 1) (loop_group + 1) (anew h n rest))
            (stub_nodes p strands (c ∷ gone) n group (index + 1) (loop_group + 1) (anew h n rest)) (r.2 h),
      )

  -- THE OTHERS STAY
  pub others_stay : (h : ℕ → List ℕ → List ℕ) (gone : List ℕ) → ((n : ℕ) (slots : List ℕ) → is_member ◌==◌ gone n ≡ false → h n slots ≡ slots) → (n group index loop_group : ℕ) (items : List Item) →
      stub_nodes p strands gone n group index loop_group (anew h n items) ≡ stub_nodes p strands gone n group index loop_group items
  others_stay h gone stays n group index loop_group [] = refl
  others_stay h gone stays n group index loop_group (item.X here ∷ rest) =
      let C = stub_crossing p strands group index in
      ap₂ (λ xs ys. xs ++ ys)
      (⊎_elim
      (λ t. ap (λ z. cond z [] (C (h n here))) t ∙ sym (ap (λ z. cond z [] (C here)) t))
      (λ t. ap (λ s. cond (is_member ◌==◌ gone n) [] (C s)) (stays n here t))
      (cases_Bool (is_member ◌==◌ gone n)))
      (others_stay h gone stays (n + 1) (group + 1) (index + 1) loop_group rest)
  others_stay h gone stays n group index loop_group (item.Loop l ∷ rest) = ap (λ ns. loop_nodes strands loop_group (strands.first l) ++ ns) (others_stay h gone stays n group (index + 1) (loop_group + 1) rest)

pub anew_same : (n : ℕ) (items : List Item) → anew (λ n slots. slots) n items ≡ items
anew_same n [] = refl
anew_same n (item.X slots ∷ rest) = ap (λ is. item.X slots ∷ is) (anew_same (n + 1) rest)
anew_same n (item.Loop l ∷ rest) = ap (λ is. item.Loop l ∷ is) (anew_same n rest)

-- ---- the boxes, by their labels
abbrev pub boxes_of : Strands → List ℕ → List Node
boxes_of strands ls = map (λ label. box_node 0 (strands.box (length (strands.first label))) (strands.first label) (strands.second label)) ls

abbrev pub here_first : (ℕ → Bool) → List ℕ → List ℕ → ℕ → Bool
here_first boxed seen slots label = is_member ◌==◌ slots label && (boxed label && not (is_member ◌==◌ seen label))

abbrev pub first_labels : (ℕ → Bool) → List ℕ → List Item → List ℕ
first_labels boxed seen [] = []
first_labels boxed seen (item.X slots ∷ rest) = filter (here_first boxed seen slots) (range_with_len 0 (past_all slots)) ++ first_labels boxed (seen_after seen slots) rest
first_labels boxed seen (item.Loop l ∷ rest) = first_labels boxed seen rest

pub some_ungrouped : (strands : Strands) (group : ℕ) (ls : List ℕ) → map without_group (map (λ label. box_node group (strands.box (length (strands.first label))) (strands.first label) (strands.second label)) ls) ≡ boxes_of strands ls
some_ungrouped strands group [] = refl
some_ungrouped strands group (l ∷ ls) = ap (λ ns. box_node 0 (strands.box (length (strands.first l))) (strands.first l) (strands.second l) ∷ ns) (some_ungrouped strands group ls)

pub ungrouped_boxes : (strands : Strands) (standing : Standing) (items : List Item) → AllByRecursion HasItsSlots items → map without_group (first_boxes strands standing items) ≡ boxes_of strands (first_labels strands.boxed standing.seen items)
ungrouped_boxes strands standing [] sizes = refl
ungrouped_boxes strands standing (item.Loop l ∷ rest) sizes = ungrouped_boxes strands (passed standing (Loop l)) rest sizes.1
ungrouped_boxes strands standing (item.X (a ∷ b ∷ c ∷ d ∷ []) ∷ rest) sizes =
    let slots = a ∷ b ∷ c ∷ d ∷ [] in
    let next = passed standing (X slots) in
    let here = filter (here_first strands.boxed standing.seen slots) (range_with_len 0 (past_all slots)) in
    map-append without_group (box_nodes strands standing slots) (first_boxes strands next rest)
    ∙ ap₂ (λ xs ys. xs ++ ys) (some_ungrouped strands standing.group here) (ungrouped_boxes strands next rest sizes.1)
    ∙ sym (map-append (λ label. box_node 0 (strands.box (length (strands.first label))) (strands.first label) (strands.second label)) here (first_labels strands.boxed next.seen rest))
ungrouped_boxes strands standing (item.X [] ∷ rest) sizes = absurd (omega (arith, sizes.0))
ungrouped_boxes strands standing (item.X (a ∷ []) ∷ rest) sizes = absurd (omega (arith, sizes.0))
ungrouped_boxes strands standing (item.X (a ∷ b ∷ []) ∷ rest) sizes = absurd (omega (arith, sizes.0))
ungrouped_boxes strands standing (item.X (a ∷ b ∷ c ∷ []) ∷ rest) sizes = absurd (omega (arith, sizes.0))
ungrouped_boxes strands standing (item.X (a ∷ b ∷ c ∷ d ∷ e ∷ slots) ∷ rest) sizes = absurd (omega (arith, sizes.0))

-- ---- how often a label has a box
range_none : (x a n : ℕ) → x < a → times_in (range_with_len a n) x ≡ 0
range_none x a zero l = refl
range_none x a (suc n) l =
    let c = times_in-cons a (range_with_len (a + 1) n) x in
    let ih = range_none x (a + 1) n (omega (arith, l)) in
    let none : at x a ≡ 0 = grind (arith, nat_tests, l) in
    omega (arith, c, ih, none)

range_most : (x a n : ℕ) → times_in (range_with_len a n) x ≤ 1
range_most x a zero = omega arith
range_most x a (suc n) =
    let c = times_in-cons a (range_with_len (a + 1) n) x in
    ⊎_elim
    (λ (e : x ≡ a). (let none = range_none x (a + 1) n (omega (arith, e)) in let one : cond (x == a) 1 0 ≤ 1 = grind (arith, nat_tests) in omega (arith, c, none, one)))
    (λ d. (let ih = range_most x (a + 1) n in let none : at x a ≡ 0 = grind (arith, nat_tests, d) in omega (arith, c, ih, none)))
    (cases_eq x a)

in_past : (ls : List ℕ) (x : ℕ) → is_member ◌==◌ ls x ≡ true → x < past_all ls
in_past [] x m = absurd (grind (arith, m))
in_past (l ∷ ls) x m =
    ⊎_elim (λ t. (let e = eqb-true x l t in omega (arith, e))) (λ t. (let ih = in_past ls x t in omega (arith, ih))) (or_cases (x == l) (is_member ◌==◌ ls x) m)

pub member_seen : (seen ls : List ℕ) (x : ℕ) → is_member ◌==◌ (seen_after seen ls) x ≡ (is_member ◌==◌ ls x || is_member ◌==◌ seen x)
member_seen seen [] x = refl
member_seen seen (l ∷ ls) x = member_seen (l ∷ seen) ls x ∙ swap (x == l) (is_member ◌==◌ ls x) (is_member ◌==◌ seen x)
  where
    swap : (a b c : Bool) → (b || (a || c)) ≡ ((a || b) || c)
    swap true true c = refl
    swap true false c = refl
    swap false b c = refl

pub first_labels_times : (boxed : ℕ → Bool) (seen : List ℕ) (items : List Item) (x : ℕ) →
    times_in (first_labels boxed seen items) x ≡ cond (is_member ◌==◌ (crossing_labels items) x && (boxed x && not (is_member ◌==◌ seen x))) 1 0
first_labels_times boxed seen [] x = refl
first_labels_times boxed seen (item.Loop l ∷ rest) x = first_labels_times boxed seen rest x
first_labels_times boxed seen (item.X slots ∷ rest) x =
    let range = range_with_len 0 (past_all slots) in
    let test = here_first boxed seen slots in
    let a = times_in-append (filter test range) (first_labels boxed (seen_after seen slots) rest) x in
    let f = times_in-filter test range x in
    let ih = first_labels_times boxed (seen_after seen slots) rest x in
    let m = is_member-append slots (crossing_labels rest) x in
    let s = member_seen seen slots x in
    let here : cond (test x) (times_in range x) 0 ≡ cond (test x) 1 0 =
    ⊎_elim
    (λ t. (let one : is_member ◌==◌ slots x ≡ true = front (is_member ◌==◌ slots x) (boxed x && not (is_member ◌==◌ seen x)) t in
    let low = in_past slots x one in
    let some = times_of_member x range (is_member-range 0 (past_all slots) x (omega arith) (omega (arith, low))) in
    let most = range_most x 0 (past_all slots) in
    let exact : times_in range x ≡ 1 = omega (arith, some, most) in ap (λ k. cond (test x) k 0) exact))
    (λ t. ap (λ b. cond b (times_in range x) 0) t ∙ sym (ap (λ b. cond b 1 0) t))
    (cases_Bool (test x)) in
    a ∙ ap₂ (λ u v. u + v) (f ∙ here) (ih ∙ ap (λ b. cond (is_member ◌==◌ (crossing_labels rest) x && (boxed x && not b)) 1 0) s)
    ∙ whole (is_member ◌==◌ slots x) (is_member ◌==◌ (crossing_labels rest) x) (boxed x) (is_member ◌==◌ seen x)
    ∙ sym (ap (λ b. cond (b && (boxed x && not (is_member ◌==◌ seen x))) 1 0) m)
  where
    front : (a b : Bool) → (a && b) ≡ true → a ≡ true
    front a b t = grind (arith, t)

    whole : (a r b s : Bool) → cond (a && (b && not s)) 1 0 + cond (r && (b && not (a || s))) 1 0 ≡ cond ((a || r) && (b && not s)) 1 0
    whole true true true true = refl
    whole true true true false = refl
    whole true true false s = refl
    whole true false true true = refl
    whole true false true false = refl
    whole true false false s = refl
    whole false true true true = refl
    whole false true true false = refl
    whole false true false s = refl
    whole false false b s = refl
