-- A diagram whose edge is cut, by its stubs: they have the names of a numbered diagram, each stands once, opposite ones have as many strands, and the
-- component's walk meets no box but its own.
use Rattle.std.proofs.Common.{◌≡◌, ◌≢◌, ℕ, zero, suc, ◌+◌, ◌*◌, ◌%◌, ◌≤◌, ◌==◌, ◌||◌, ◌⊎◌, inl, inr, Bool, true, false, cond, List, [], ◌∷◌, ◌++◌, length, reverse, refl, sym, ap, ◌∙◌, arith, ⊎_elim, Contains}
use Rattle.std.specs.List.{AllByRecursion}
use Rattle.std.specs.Set.{is_member}
use Rattle.std.proofs.lemmas.Bool.{cases_eq, or_left, or_right}
use Rattle.std.proofs.lemmas.Bool.Decides.{nat_tests}
use Rattle.graph_parts.proofs.Counting.{is_member-map}
use Rattle.graph_parts.proofs.Distinct.{is_member-append}
use Rattle.graph_parts.proofs.LeastLabels.{least_label-Joined}
use Rattle.graph_parts.specs.Walks.{Joined, along, stay, back, on}
use Rattle.list_lemmas.specs.Times.{times_in}
use Rattle.list_lemmas.proofs.Times.{member_of_times, times_of_member, times_in-append, times_in-cons}
use Rattle.root_quantum.specs.Parameters.{Parameters}
use Rattle.pd_reader.specs.declared.item.Item.{Item}
use Rattle.pd_reader.specs.declared.item.Item.TheVariants as item
use Rattle.pd_reader.specs.Items.{item_labels, HasItsSlots}
use Rattle.pd_reader.specs.Diagrams.{labels, IsDiagram, IsLabel}
use Rattle.planar_check.specs.Components.{component_least, strand_edges}
use Rattle.cables.specs.Nets.{projector_of}
use Rattle.cables.specs.Strands.{Strands}
use Rattle.cables.proofs.NameCounts.{at}
use Rattle.cables.proofs.NumberedStrands.{first_length, as_many_strands}
use Rattle.coloured_values.specs.Coloured.{colour_of, is_boxed, diagram_strands}
use Rattle.coloured_values.specs.Laws.{HasColours}
use Rattle.coloured_values.proofs.CabledDiagrams.{few_colours}
use Rattle.diagram_moves.specs.Laws.{IsPairedDiagram}
use Rattle.diagram_moves.specs.Rewriting.{crossing_labels}
use Rattle.diagram_moves.proofs.Paired.{loop_labels, times_labels, twice_in_all, paired}
use Rattle.diagram_moves.proofs.Pushing.{crossing_label, crossing_labels-append}
use Rattle.move_results.proofs.CutComponents.{each_walk}
use Rattle.move_results.proofs.DiagramResults.{as_paired}
use Rattle.move_results.proofs.LeastLabelLists.{joined_through, least_is}
use Rattle.move_results.proofs.PairedAgain.{loop_labels-append}
use Rattle.coloured_moves.proofs.ExchangedStubs.{both_stubs, crossing_labels-stubbed, stubs_halved, stubs_once}
use Rattle.coloured_moves.proofs.LabelColours.{joined_colour, label_in, long_stub}
use Rattle.coloured_moves.proofs.PushedCables.{unboxed_second}
use Rattle.coloured_moves.proofs.StubItems.{half, stub, stubs, stub_half, stubbed, seen_after, at_stub, at_stub_is}
use Rattle.coloured_moves.proofs.StubNames.{Straight, stub_label, stub_once}
use Rattle.coloured_curls.proofs.CutWalks.{all_along}
use Rattle.coloured_curls.proofs.EdgeLetters.{AreNumbered}
use Rattle.coloured_curls.proofs.LetterSteps.{labels_times}

-- ---- entries of a list
pub own_time : (l : ℕ) (ls : List ℕ) → 1 ≤ times_in (l ∷ ls) l
own_time l ls = let c = times_in-cons l ls l in let a : at l l ≡ 1 = grind (arith, nat_tests) in omega (arith, c, a)

pub later_time : (l : ℕ) (ls : List ℕ) (k : ℕ) → 1 ≤ times_in ls k → 1 ≤ times_in (l ∷ ls) k
later_time l ls k one = let c = times_in-cons l ls k in omega (arith, c, one)

-- ---- stubs
pub loop_labels-stubbed : (seen : List ℕ) (items : List Item) → loop_labels (stubbed seen items) ≡ loop_labels items
loop_labels-stubbed seen [] = refl
loop_labels-stubbed seen (item.X slots ∷ rest) = loop_labels-stubbed (seen_after seen slots) rest
loop_labels-stubbed seen (item.Loop l ∷ rest) = ap (λ ls. l ∷ ls) (loop_labels-stubbed seen rest)

stubbed-append : (seen : List ℕ) (xs ys : List Item) → (later : List ℕ) × (stubbed seen (xs ++ ys) ≡ stubbed seen xs ++ stubbed later ys)
stubbed-append seen [] ys = (seen, refl)
stubbed-append seen (item.X slots ∷ xs) ys = let r = stubbed-append (seen_after seen slots) xs ys in (r.0, ap (λ is. item.X (stubs seen slots) ∷ is) r.1)
stubbed-append seen (item.Loop l ∷ xs) ys = let r = stubbed-append seen xs ys in (r.0, ap (λ is. item.Loop l ∷ is) r.1)

-- the first place of a label has its first stub
first_stands : (ls seen : List ℕ) (l : ℕ) → is_member ◌==◌ ls l ≡ true → is_member ◌==◌ seen l ≡ false → 1 ≤ times_in (stubs seen ls) (2 * l)
first_stands [] seen l m o = absurd (grind (arith, m))
first_stands (x ∷ xs) seen l m o =
    let c = times_in-cons (stub seen x) (stubs (x ∷ seen) xs) (2 * l) in
    ⊎_elim
    (λ (e : l ≡ x).
    let s : stub seen x ≡ 2 * l = ap (λ i. 2 * i + cond (is_member ◌==◌ seen i) 1 0) (sym e) ∙ ap (λ b. 2 * l + cond b 1 0) o ∙ (let z : 2 * l + 0 ≡ 2 * l = omega arith in z) in
    let a : at (2 * l) (stub seen x) ≡ 1 = ap (at (2 * l)) s ∙ own (2 * l) in
    omega (arith, c, a))
    (λ d.
    let ih = first_stands xs (x ∷ seen) l (later (l == x) (is_member ◌==◌ xs l) (not_same l x d) m) (both (l == x) (is_member ◌==◌ seen l) (not_same l x d) o) in
    omega (arith, c, ih))
    (cases_eq l x)
  where
    own : (x : ℕ) → at x x ≡ 1
    own x = grind (arith, nat_tests)

    not_same : (l x : ℕ) → l ≢ x → (l == x) ≡ false
    not_same l x d = grind (arith, nat_tests, d)

    later : (s t : Bool) → s ≡ false → (s || t) ≡ true → t ≡ true
    later s t e h = grind (arith, e, h)

    both : (s t : Bool) → s ≡ false → t ≡ false → (s || t) ≡ false
    both s t e h = grind (arith, e, h)

straight_from : (S : Strands) (colour : ℕ → ℕ) → ((w : ℕ) → length (at_stub S w) ≡ colour (half w)) → (seen : List ℕ) (R : List Item) → AllByRecursion HasItsSlots R → AllByRecursion (λ (e : ℕ × ℕ). colour e.0 ≡ colour e.1) (strand_edges R) →
    AllByRecursion (Straight S) (stubbed seen R)
straight_from S colour long seen [] sizes h = tt
straight_from S colour long seen (item.Loop l ∷ rest) sizes h = (tt, straight_from S colour long seen rest sizes.1 h)
straight_from S colour long seen (item.X (a ∷ b ∷ c ∷ d ∷ []) ∷ rest) sizes h =
    let as_long : (seen : List ℕ) (l : ℕ) → length (at_stub S (stub seen l)) ≡ colour l = λ seen l. long (stub seen l) ∙ ap colour (stub_half seen l) in
    ((as_long seen a ∙ h.0 ∙ sym (as_long (b ∷ a ∷ seen) c), as_long (a ∷ seen) b ∙ h.1.0 ∙ sym (as_long (c ∷ b ∷ a ∷ seen) d)), straight_from S colour long (d ∷ c ∷ b ∷ a ∷ seen) rest sizes.1 h.1.1)
straight_from S colour long seen (item.X [] ∷ rest) sizes h = absurd (omega (arith, sizes.0))
straight_from S colour long seen (item.X (a ∷ []) ∷ rest) sizes h = absurd (omega (arith, sizes.0))
straight_from S colour long seen (item.X (a ∷ b ∷ []) ∷ rest) sizes h = absurd (omega (arith, sizes.0))
straight_from S colour long seen (item.X (a ∷ b ∷ c ∷ []) ∷ rest) sizes h = absurd (omega (arith, sizes.0))
straight_from S colour long seen (item.X (a ∷ b ∷ c ∷ d ∷ e ∷ slots) ∷ rest) sizes h = absurd (omega (arith, sizes.0))

-- ---- strands
all_mapped : (P Q : ℕ × ℕ → Type 0) (es : List (ℕ × ℕ)) → ((e : ℕ × ℕ) → P e → Q e) → AllByRecursion P es → AllByRecursion Q es
all_mapped P Q [] f h = tt
all_mapped P Q (e ∷ es) f h = (f e h.0, all_mapped P Q es f h.1)

walks_first : (R new : List Item) (fs : List (ℕ × ℕ)) → AllByRecursion (λ (e : ℕ × ℕ). Joined fs e.0 e.1) (strand_edges (R ++ new)) → AllByRecursion (λ (e : ℕ × ℕ). Joined fs e.0 e.1) (strand_edges R)
walks_first [] new fs h = tt
walks_first (item.X slots ∷ R) new fs h = (h.0, (h.1.0, walks_first R new fs h.1.1))
walks_first (item.Loop l ∷ R) new fs h = walks_first R new fs h

-- the ends of a strand stand at crossings
pub strand_ends : (R : List Item) → AllByRecursion HasItsSlots R → AllByRecursion (λ (e : ℕ × ℕ). (is_member ◌==◌ (crossing_labels R) e.0 ≡ true) × (is_member ◌==◌ (crossing_labels R) e.1 ≡ true)) (strand_edges R)
strand_ends [] sizes = tt
strand_ends (item.Loop l ∷ rest) sizes = strand_ends rest sizes.1
strand_ends (item.X (a ∷ b ∷ c ∷ d ∷ []) ∷ rest) sizes =
    let ks = crossing_labels rest in
    let ws = a ∷ b ∷ c ∷ d ∷ [] in
    let first : (x : ℕ) → is_member ◌==◌ ws x ≡ true → is_member ◌==◌ (ws ++ ks) x ≡ true = λ x m. is_member-append ws ks x ∙ or_left (is_member ◌==◌ ws x) (is_member ◌==◌ ks x) m in
    let second : (x : ℕ) → is_member ◌==◌ ks x ≡ true → is_member ◌==◌ (ws ++ ks) x ≡ true = λ x m. is_member-append ws ks x ∙ or_right (is_member ◌==◌ ws x) (is_member ◌==◌ ks x) m in (
      (first a (grind (arith, nat_tests)), first c (grind (arith, nat_tests))),
      (
        (first b (grind (arith, nat_tests)), first d (grind (arith, nat_tests))),
        all_mapped (λ (e : ℕ × ℕ). (is_member ◌==◌ ks e.0 ≡ true) × (is_member ◌==◌ ks e.1 ≡ true)) (λ (e : ℕ × ℕ). (is_member ◌==◌ (ws ++ ks) e.0 ≡ true) × (is_member ◌==◌ (ws ++ ks) e.1 ≡ true)) (strand_edges rest)
            (λ e h. (second e.0 h.0, second e.1 h.1)) (strand_ends rest sizes.1),
      ),
    )
strand_ends (item.X [] ∷ rest) sizes = absurd (omega (arith, sizes.0))
strand_ends (item.X (a ∷ []) ∷ rest) sizes = absurd (omega (arith, sizes.0))
strand_ends (item.X (a ∷ b ∷ []) ∷ rest) sizes = absurd (omega (arith, sizes.0))
strand_ends (item.X (a ∷ b ∷ c ∷ []) ∷ rest) sizes = absurd (omega (arith, sizes.0))
strand_ends (item.X (a ∷ b ∷ c ∷ d ∷ e ∷ slots) ∷ rest) sizes = absurd (omega (arith, sizes.0))

pub both_ends : (test : ℕ → Bool) (es : List (ℕ × ℕ)) → AllByRecursion (λ (e : ℕ × ℕ). (test e.0 ≡ true) × (test e.1 ≡ true)) es → (x y : ℕ) → Contains es (x, y) → (test x ≡ true) × (test y ≡ true)
both_ends test [] h x y w = absurd (omega (arith, w.1))
both_ends test (e ∷ es) h x y (zero, l, q) = (ap test (sym (ap (λ (z : ℕ × ℕ). z.0) q)) ∙ h.0.0, ap test (sym (ap (λ (z : ℕ × ℕ). z.1) q)) ∙ h.0.1)
both_ends test (e ∷ es) h x y (suc i, l, q) = both_ends test es h.1 x y (i, omega (arith, l), q)

pub joined_in : (R : List Item) → AllByRecursion HasItsSlots R → {x y : ℕ} → Joined (strand_edges R) x y → (is_member ◌==◌ (crossing_labels R) x ≡ true → is_member ◌==◌ (crossing_labels R) y ≡ true) × (is_member ◌==◌ (crossing_labels R) y ≡ true → is_member ◌==◌ (crossing_labels R) x ≡ true)
joined_in R sizes (along {x = x} {y = y} w) = let r = both_ends (is_member ◌==◌ (crossing_labels R)) (strand_edges R) (strand_ends R sizes) x y w in ((λ m. r.1), (λ m. r.0))
joined_in R sizes stay = ((λ m. m), (λ m. m))
joined_in R sizes (back j) = let r = joined_in R sizes j in (r.1, r.0)
joined_in R sizes (on i j) = let r = joined_in R sizes i in let s = joined_in R sizes j in ((λ m. s.0 (r.0 m)), (λ m. r.1 (s.1 m)))

-- ---- the first items of a diagram
module _ (p : Parameters) (R new : List Item) (is : IsDiagram (R ++ new)) (sizes : AllByRecursion HasItsSlots R) (colours : List ℕ) (has : HasColours (R ++ new) colours) where
  abbrev after : List Item
  after = R ++ new

  abbrev S : Strands
  S = diagram_strands p after colours

  abbrev colour : ℕ → ℕ
  colour l = colour_of after colours l

  abbrev boxed : ℕ → Bool
  boxed l = is_boxed after colours l

  abbrev D : List Item
  D = stubbed [] R

  pd : IsPairedDiagram after
  pd = as_paired after is

  pub few : (l : ℕ) → colour l ≤ 8
  few l = few_colours after colours has.few l

  pub even : (l : ℕ) → length (S.second l) ≡ length (S.first l)
  even l = as_many_strands colour boxed (projector_of p) l

  pub long : (w : ℕ) → length (at_stub S w) ≡ colour (half w)
  long w = long_stub S even w ∙ first_length colour boxed (projector_of p) (half w)

  pub few_stubs : (w : ℕ) → length (at_stub S w) ≤ 8
  few_stubs w = let a = long w in let b = few (half w) in omega (arith, a, b)

  to_after : {x y : ℕ} → Joined (strand_edges R) x y → Joined (strand_edges after) x y
  to_after j = joined_through (strand_edges R) (strand_edges after) (each_walk (strand_edges R) (strand_edges after) (walks_first R new (strand_edges after) (all_along (strand_edges after) (strand_edges after) (λ x y c. c)))) j

  pub label_of : (x : ℕ) → is_member ◌==◌ (crossing_labels R) x ≡ true → is_member ◌==◌ (labels item_labels after) x ≡ true
  label_of x m =
      crossing_label after x
      (ap (λ ns. is_member ◌==◌ ns x) (crossing_labels-append R new) ∙ is_member-append (crossing_labels R) (crossing_labels new) x ∙ or_left (is_member ◌==◌ (crossing_labels R) x) (is_member ◌==◌ (crossing_labels new) x) m)

  pub same_colour : (x y : ℕ) → Joined (strand_edges R) x y → is_member ◌==◌ (crossing_labels R) x ≡ true → colour x ≡ colour y
  same_colour x y j m = joined_colour after is.sizes colours x y (to_after j) (label_of x m) (label_of y ((joined_in R sizes j).0 m))

  pub same_least : (x y : ℕ) → Joined (strand_edges R) x y → is_member ◌==◌ (crossing_labels R) x ≡ true → component_least after x ≡ component_least after y
  same_least x y j m =
      least_is after is.sizes x (label_of x m) ∙ (least_label-Joined (strand_edges after) x y).1 (to_after j) ∙ sym (least_is after is.sizes y (label_of y ((joined_in R sizes j).0 m)))

  pub straight : AllByRecursion (Straight S) D
  straight =
      let es = strand_edges R in
      straight_from S colour long [] R sizes
      (both_mapped es (all_along es es (λ x y c. c)) (strand_ends R sizes))
    where
      both_mapped : (es : List (ℕ × ℕ)) → AllByRecursion (λ (e : ℕ × ℕ). Joined (strand_edges R) e.0 e.1) es →
          AllByRecursion (λ (e : ℕ × ℕ). (is_member ◌==◌ (crossing_labels R) e.0 ≡ true) × (is_member ◌==◌ (crossing_labels R) e.1 ≡ true)) es → AllByRecursion (λ (e : ℕ × ℕ). colour e.0 ≡ colour e.1) es
      both_mapped [] h k = tt
      both_mapped (e ∷ es) h k = (same_colour e.0 e.1 h.0 k.0.0, both_mapped es h.1 k.1)

  stub_labels : crossing_labels D ≡ stubs [] (crossing_labels R)
  stub_labels = crossing_labels-stubbed [] R

  -- a stub stands where its label does
  pub label_stands : (w : ℕ) → 1 ≤ times_in (crossing_labels D) w → is_member ◌==◌ (crossing_labels R) (half w) ≡ true
  label_stands w h =
      let ws = stubs [] (crossing_labels R) in
      let m : is_member ◌==◌ ws w ≡ true = member_of_times w ws (let e = ap (λ ns. times_in ns w) stub_labels in omega (arith, e, h)) in
      ap (λ ns. is_member ◌==◌ ns (half w)) (sym (stubs_halved [] (crossing_labels R))) ∙ is_member-map half ws w m

  pub once : (w : ℕ) → times_in (crossing_labels D) w ≤ 1
  once w =
      let r = stubbed-append [] R new in
      let a = ap (λ ds. times_in (crossing_labels ds) w) r.1 in
      let b = labels_times D (stubbed r.0 new) w in
      let c = ap (λ ns. times_in ns w) (crossing_labels-stubbed [] after) in
      let d = stubs_once (crossing_labels after) (λ l one. paired after pd l one) w in
      omega (arith, a, b, c, d)

  pub loops : (l w : ℕ) → is_member ◌==◌ (loop_labels D) l ≡ true → half w ≡ l → times_in (crossing_labels D) w ≡ 0
  loops l w m e =
      ⊎_elim (λ none. none)
      (λ some.
      let c : is_member ◌==◌ (crossing_labels R) l ≡ true = ap (is_member ◌==◌ (crossing_labels R)) (sym e) ∙ label_stands w some in
      let o = times_of_member l (crossing_labels R) c in
      let k = times_of_member l (loop_labels R) (ap (λ ns. is_member ◌==◌ ns l) (sym (loop_labels-stubbed [] R)) ∙ m) in
      let x = ap (λ ns. times_in ns l) (crossing_labels-append R new) ∙ times_in-append (crossing_labels R) (crossing_labels new) l in
      let y = ap (λ ns. times_in ns l) (loop_labels-append R new) ∙ times_in-append (loop_labels R) (loop_labels new) l in
      let t = times_labels after l in
      let p = paired after pd l (omega (arith, x, o)) in
      let q = twice_in_all after pd l (omega (arith, t, p)) in
      absurd (omega (arith, t, p, q, y, k)))
      (none_or (times_in (crossing_labels D) w))
    where
      none_or : (k : ℕ) → (k ≡ 0) ⊎ (1 ≤ k)
      none_or zero = inl refl
      none_or (suc k) = inr (omega arith)

  small_label : (l : ℕ) → is_member ◌==◌ (labels item_labels after) l ≡ true → l ≤ 2000000
  small_label l m = (label_in IsLabel (labels item_labels after) is.in_range l m).high

  pub numbered : AreNumbered S D
  numbered = record {
    label = stub_label colour boxed (projector_of p) few;
    single = stub_once colour boxed (projector_of p) few;
    small = λ w h. small_label (half w) (label_of (half w) (label_stands w h));
    small_loops = λ l m. small_label l (loop_in l m);
  }
    where
      loop_in : (l : ℕ) → is_member ◌==◌ (loop_labels D) l ≡ true → is_member ◌==◌ (labels item_labels after) l ≡ true
      loop_in l m =
          member_of_times l (labels item_labels after)
          (let k = times_of_member l (loop_labels R) (ap (λ ns. is_member ◌==◌ ns l) (sym (loop_labels-stubbed [] R)) ∙ m) in
          let y = ap (λ ns. times_in ns l) (loop_labels-append R new) ∙ times_in-append (loop_labels R) (loop_labels new) l in
          let t = times_labels after l in
          omega (arith, k, y, t))

  -- ---- stubs of a label
  pub at_low : (l : ℕ) → at_stub S (2 * l) ≡ S.first l
  at_low l = (let e : 2 * l ≡ 2 * l + 0 = omega arith in ap (at_stub S) e) ∙ at_stub_is S [] l

  pub at_high : (l : ℕ) → at_stub S (2 * l + 1) ≡ S.second l
  at_high l =
      let r : (2 * l + 1) % 2 ≡ 1 = omega arith in let h : half (2 * l + 1) ≡ l = omega arith in
      ap (λ k. cond (k == 1) (S.second (half (2 * l + 1))) (S.first (half (2 * l + 1)))) r ∙ ap S.second h

  pub plain_stubs : (l : ℕ) → boxed l ≡ false → at_stub S (2 * l + 1) ≡ reverse (at_stub S (2 * l))
  plain_stubs l h = at_high l ∙ unboxed_second (colour l) l (boxed l) h ∙ ap reverse (sym (at_low l))

  pub first_there : (l : ℕ) → is_member ◌==◌ (crossing_labels R) l ≡ true → 1 ≤ times_in (crossing_labels D) (2 * l)
  first_there l m = let e = ap (λ ns. times_in ns (2 * l)) stub_labels in let f = first_stands (crossing_labels R) [] l m refl in omega (arith, e, f)

  -- a label that stands once has one stub
  pub alone : (l : ℕ) → times_in (crossing_labels R) l ≡ 1 → (x : ℕ) → 1 ≤ times_in (crossing_labels D) x → half x ≡ half (2 * l) → x ≡ 2 * l
  alone l one x h e =
      let a = first_there l (member_of_times l (crossing_labels R) (omega (arith, one))) in
      let b = both_stubs [] (crossing_labels R) l in
      let c = ap (λ ns. times_in ns (2 * l)) stub_labels in
      let d = ap (λ ns. times_in ns (2 * l + 1)) stub_labels in
      ⊎_elim (λ (q : x ≡ 2 * l). q)
      (λ n. absurd (let q : x ≡ 2 * l + 1 = omega (arith, e, n) in let s = ap (times_in (crossing_labels D)) q in omega (arith, a, b, c, d, s, h, one)))
      (cases_eq x (2 * l))
