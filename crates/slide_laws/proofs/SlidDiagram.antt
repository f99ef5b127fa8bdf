-- The items of a slide are a diagram's: few enough, with labels in range, each of which stands twice; and its framings are as many as its
-- components and not too large.
use Rattle.std.proofs.Common.{◌≡◌, ℕ, zero, suc, ◌+◌, ◌-◌, ◌*◌, ◌<◌, ◌≤◌, ◌==◌, ◌&&◌, ◌||◌, Bool, true, false, not, cond, List, [], ◌∷◌, length, set, get_or, slice_index, All, ℤ, pos, unsigned_abs, refl, sym, ap, ap₂, subst, ◌∙◌, arith, inl, inr, ⊎_elim, eq-eqb, ne_eqb}
use Rattle.std.specs.List.{AllByRecursion, range_with_len, filter}
use Rattle.std.specs.Set.{is_member}
use Rattle.std.proofs.lemmas.Bool.{cases_Bool, cases_order, eqb-true, eqb-false, or_left, or_right}
use Rattle.std.proofs.lemmas.List.{get_or-set_same, get_or-set_other, length-set}
use Rattle.std.proofs.lemmas.List.Elements.{All-from_get_or, All-get_or}
use Rattle.inertia_laws.specs.Matrices.{is_positive}
use Rattle.pd_reader.specs.declared.item.Item.{Item}
use Rattle.pd_reader.specs.Items.{item_labels}
use Rattle.pd_reader.specs.Diagrams.{labels, IsLabel, IsDiagram}
use Rattle.list_lemmas.specs.Times.{times_in}
use Rattle.planar_check.specs.Places.{labels_by_place, crossings_of, first_place}
use Rattle.planar_check.specs.Components.{greatest, distinct, rank, least_labels, number_of}
use Rattle.planar_check.specs.Framings.{FramedDiagram, IsFramed, framing_of, is_large}
use Rattle.slide_strands.specs.declared.strand.Strand.{Strand}
use Rattle.slide_strands.specs.declared.strand.Piece.{Piece}
use Rattle.slide_strands.specs.declared.strand.Piece.TheVariants.{Crossed, Free}
use Rattle.slide_strands.specs.Strands.{strands, end_of, end_sum, is_label, IsDirected, entered_at, crossings_with, has_one, has_two}
use Rattle.slide_strands.specs.Doubling.{Slide, doubled, curls, exchanged}
use Rattle.slide_strands.specs.Components.{Ready}
use Rattle.slide_strands.proofs.Directions.{doubled_direction}
use Rattle.slide_strands.proofs.Frees.{free}
use Rattle.slide_strands.proofs.Joins.{every_weaker}
use Rattle.slide_strands.proofs.Simple.{IsSimple, standing, free_times, curls_simple, slid_simple, inner_count}
use Rattle.slide_strands.proofs.Sizes.{doubled_length, inner_is, side_length, curls_one, curls_two, curls_length}
use Rattle.slide_laws.specs.Directed.{directed, items_of}
use Rattle.slide_laws.specs.Laws.{SlidIsFramed}
use Rattle.slide_laws.specs.Slides.{SlidDiagram, excess, top_of, framed_top, framed_pieces, strand_labels, labels_of_component, slide_of, slid_pieces}
use Rattle.slide_laws.proofs.DirectedItems.{items_back, sizes_of, standing-cons}
use Rattle.slide_laws.proofs.Congruence.{i_some, i_within}
use Rattle.list_lemmas.proofs.Times.{times_of_member, times_none}
use Rattle.planar_check.specs.Directions.{comes_in}
use Rattle.slide_laws.proofs.FewLabels.{labels_few}
use Rattle.slide_laws.proofs.Numbers.{leasts_same}
use Rattle.planar_check.proofs.FewComponents.{at_member}
use Rattle.slide_laws.proofs.Refused.{Passed, accepted}
use Rattle.planar_check.proofs.Strands.{member_at_most}
use Rattle.slide_laws.proofs.Roots.{root}
use Rattle.slide_laws.proofs.SlidComponents.{framed_ready, slid_keeps, slid_known, slid_entered, slid_free, rank_in, distinct_has, all_listed, Listed}
use Rattle.slide_laws.proofs.StartPieces.{start_class, start_ready, directed_pieces, none}

abbrev once : Bool → ℕ
once b = cond b 1 0

-- ---- how often labels stand
-- of both ends of a strand one is entered, the other left
both_ends : (x : ℕ) (s : Strand) → is_label x (end_of true s) + is_label x (end_of false s) ≡ is_label x s.from + is_label x s.to
both_ends x s = by_test s.ahead
  where
    by_test : (b : Bool) → is_label x (cond b s.from s.to) + is_label x (cond (not b) s.from s.to) ≡ is_label x s.from + is_label x s.to
    by_test true = refl
    by_test false = omega arith

label_times : (x : ℕ) (ps : List Piece) → times_in (labels item_labels (items_of ps)) x ≡ end_sum true (is_label x) (strands ps) + end_sum false (is_label x) (strands ps) + 2 * free_times x (free ps)
label_times x [] = refl
label_times x (Crossed u o ∷ ps) =
    let rest = labels item_labels (items_of ps) in
    let a = standing-cons x u.from (o.to ∷ u.to ∷ o.from ∷ rest) in
    let b = standing-cons x o.to (u.to ∷ o.from ∷ rest) in
    let c = standing-cons x u.to (o.from ∷ rest) in
    let d = standing-cons x o.from rest in
    omega (arith, a, b, c, d, both_ends x u, both_ends x o, label_times x ps)
label_times x (Free label ∷ ps) =
    let rest = labels item_labels (items_of ps) in
    let a = standing-cons x label (label ∷ rest) in
    let b = standing-cons x label rest in
    omega (arith, a, b, label_times x ps)

twice_standing : (x : ℕ) (ps : List Piece) → IsDirected (strands ps) → times_in (labels item_labels (items_of ps)) x ≡ 2 * standing x ps
twice_standing x ps d = let e = d (is_label x) in omega (arith, label_times x ps, e)

-- a fact on each member
each_member : (P : ℕ → Type 0) (ls : List ℕ) → ((x : ℕ) → is_member ◌==◌ ls x ≡ true → P x) → AllByRecursion P ls
each_member P [] h = tt
each_member P (y ∷ ls) h = (h y (or_left (y == y) (is_member ◌==◌ ls y) (eq-eqb y y refl)), each_member P ls (λ x m. h x (or_right (x == y) (is_member ◌==◌ ls x) m)))

-- a bound of all members
greatest_below : (ls : List ℕ) (bound : ℕ) → ((x : ℕ) → is_member ◌==◌ ls x ≡ true → x ≤ bound) → greatest ls ≤ bound
greatest_below [] bound h = omega arith
greatest_below (y ∷ ls) bound h =
    let here = h y (or_left (y == y) (is_member ◌==◌ ls y) (eq-eqb y y refl)) in
    let rest = greatest_below ls bound (λ x m. h x (or_right (x == y) (is_member ◌==◌ ls x) m)) in
    omega (arith, here, rest)

items_long : (ps : List Piece) → length (items_of ps) ≡ length ps
items_long [] = refl
items_long (Crossed u o ∷ ps) = ap (λ (n : ℕ). suc n) (items_long ps)
items_long (Free label ∷ ps) = ap (λ (n : ℕ). suc n) (items_long ps)

-- ---- a diagram's pieces
module _ (xs : List Item) (diagram : IsDiagram xs) where
  start_times : (x : ℕ) → times_in (labels item_labels xs) x ≡ 2 * standing x (directed xs)
  start_times x = ap (λ (its : List Item). times_in (labels item_labels its) x) (sym (items_back xs diagram.sizes)) ∙ twice_standing x (directed xs) (directed_pieces xs diagram)

  start_simple : IsSimple (top_of xs + 1) (directed xs)
  start_simple = record {
    once = λ x. elim (cases_Bool (is_member ◌==◌ (labels item_labels xs) x)) [
      | inl m ↦ (let two : times_in (labels item_labels xs) x ≡ 2 = at_member (λ label. times_in (labels item_labels xs) label ≡ 2) (labels item_labels xs) diagram.twice x m in omega (arith, start_times x, two))
      | inr m ↦ omega (arith, start_times x, times_none (labels item_labels xs) x m)
    ];
    none_above = λ x l. elim (cases_Bool (is_member ◌==◌ (labels item_labels xs) x)) [
      | inl m ↦ absurd (omega (arith, member_at_most (labels item_labels xs) x m, l))
      | inr m ↦ omega (arith, start_times x, times_none (labels item_labels xs) x m)
    ];
    none_zero = elim (cases_Bool (is_member ◌==◌ (labels item_labels xs) 0)) [
      | inl m ↦ absurd (let label = at_member IsLabel (labels item_labels xs) diagram.in_range 0 m in let low = label.low in omega (arith, low))
      | inr m ↦ omega (arith, start_times 0, times_none (labels item_labels xs) 0 m)
    ];
  }

module _ (framed : FramedDiagram) (diagram : IsDiagram framed.items) (is_framed : IsFramed framed) (e f : ℕ) (k : Passed framed e f) (in_e in_f : Bool) (small : top_of framed.items ≤ 1999000) where
  abbrev xs : List Item
  xs = framed.items

  abbrev i : ℕ
  i = number_of xs e

  abbrev j : ℕ
  j = number_of xs f

  abbrev count : ℕ
  count = unsigned_abs (excess framed j)

  abbrev plus : Bool
  plus = is_positive (excess framed j)

  abbrev entered : Bool
  entered = comes_in (entered_at (directed xs)) (first_place (labels_by_place (crossings_of xs)) f)

  abbrev pieces : List Piece
  pieces = framed_pieces framed f

  abbrev top : ℕ
  top = framed_top framed f

  abbrev slide : Slide
  slide = slide_of i j top pieces in_e in_f

  abbrev names : List ℕ
  names = labels_of_component j pieces

  abbrev m : ℕ
  m = top + 1

  abbrev n : ℕ
  n = top + 1 + length names

  abbrev result : List Piece
  result = slid_pieces i j e f top pieces in_e in_f

  -- ---- sizes
  one_after : crossings_with (has_one j) pieces ≡ crossings_with (has_one j) (directed xs)
  unfolding framed_pieces
  one_after = curls_one plus f j entered count (top_of xs + 1) (directed xs)

  two_after : crossings_with (has_two j) pieces ≡ crossings_with (has_two j) (directed xs) + count
  unfolding framed_pieces
  two_after = curls_two plus f j entered count (top_of xs + 1) (directed xs)

  long_after : length pieces ≡ length (directed xs) + count
  unfolding framed_pieces
  long_after = curls_length plus f j entered count (top_of xs + 1) (directed xs)

  result_long : length result ≡ length pieces + crossings_with (has_one j) pieces + 3 * crossings_with (has_two j) pieces
  unfolding slid_pieces
  result_long = side_length in_e (exchanged e (slide.copied f)) (doubled slide n pieces) ∙ doubled_length slide n pieces

  start_long : length (directed xs) ≡ length xs
  start_long = sym (items_long (directed xs)) ∙ ap length (items_back xs diagram.sizes)

  few : length (items_of result) ≤ 256
  few =
      let limit = k.few in
      omega (arith, limit, items_long result, result_long, one_after, two_after, long_after, start_long)

  pub pieces_few : length pieces ≤ 256
  pieces_few = let limit = k.few in omega (arith, limit, long_after, start_long)

  ready : Ready (start_class xs diagram j) (root xs diagram) e f i j (none xs diagram) m pieces
  ready = framed_ready framed diagram e f k.e_placed k.f_placed k.apart

  names_few : length names ≤ crossings_with (has_one j) pieces + 2 * crossings_with (has_two j) pieces
  names_few = labels_few (start_class xs diagram j) j pieces ready.has.classed ready.has.directed

  end_high : n + inner_count slide pieces ≤ top_of xs + 513
  end_high =
      let limit = k.few in
      omega (arith, limit, one_after, two_after, names_few, inner_is slide pieces)

  end_small : n + inner_count slide pieces ≤ 2000001
  end_small = omega (arith, end_high, small)

  -- ---- labels
  framed_simple : IsSimple m pieces
  unfolding framed_pieces
  framed_simple =
      subst (λ (z : ℕ). IsSimple z (curls plus f j entered count (top_of xs + 1) (directed xs))) (let h : top_of xs + 1 + 2 * count ≡ top_of xs + 2 * count + 1 = omega arith in h)
      (curls_simple plus f j entered _ _ e i _ count (top_of xs + 1) (directed xs) (start_ready xs diagram e f k.e_placed k.f_placed k.apart) (omega arith) (start_simple xs diagram))

  back : ℕ → ℕ
  back x = slice_index names (x - m)

  copied_back : (x : ℕ) → is_member ◌==◌ names x ≡ true → (m ≤ slide.copied x) × (slide.copied x < n) × (back (slide.copied x) ≡ x)
  unfolding back
  copied_back x t =
      let r = rank_in (strand_labels j (strands pieces)) x t in
      let l = r.0 in
      ((omega arith), (omega (arith, l)), ap (slice_index names) (let h : slide.copied x - m ≡ rank names x = omega arith in h) ∙ r.1)

  new_directed : IsDirected (strands (doubled slide n pieces))
  new_directed = doubled_direction slide n (start_class xs diagram j) pieces ready.has.classed ready.has.directed

  result_directed : IsDirected (strands result)
  result_directed = let h = slid_keeps framed diagram e f k.e_placed k.f_placed k.apart in_e in_f in h.has.directed

  result_simple : IsSimple (n + inner_count slide pieces) result
  unfolding slid_pieces
  result_simple =
      slid_simple slide m n pieces framed_simple back (omega arith) (omega arith)
      (every_weaker (Listed j (strand_labels j (strands pieces)))
      (λ s. s.component ≡ j → ((m ≤ slide.copied s.from) × (slide.copied s.from < n) × (back (slide.copied s.from) ≡ s.from)) × ((m ≤ slide.copied s.to) × (slide.copied s.to < n) × (back (slide.copied s.to) ≡ s.to)))
      (λ s h o. let c = h o in (copied_back s.from (distinct_has (strand_labels j (strands pieces)) s.from c.0), copied_back s.to (distinct_has (strand_labels j (strands pieces)) s.to c.1)))
      (strands pieces) (all_listed j (strands pieces)))
      ready.has.directed in_e e (slide.copied f) new_directed result_directed

  abbrev all : List ℕ
  all = labels item_labels (items_of result)

  stands_twice : (x : ℕ) → is_member ◌==◌ all x ≡ true → times_in all x ≡ 2
  stands_twice x t = let o = result_simple.once x in omega (arith, twice_standing x result result_directed, times_of_member x all t, o)

  is_label_of : (x : ℕ) → is_member ◌==◌ all x ≡ true → IsLabel x
  is_label_of x t =
      let two = stands_twice x t in
      record {
        low = elim (cases_Bool (x == 0)) [
          | inl h ↦ absurd (let is = eqb-true x 0 h in let none = result_simple.none_zero in let here = twice_standing x result result_directed in
              let same : standing x result ≡ 0 = ap (λ (y : ℕ). standing y result) is ∙ none in omega (arith, two, here, same))
          | inr h ↦ (let apart = eqb-false x 0 h in omega (arith, apart))
        ];
        high = ⊎_elim (λ q. omega (arith, q)) (λ o. ⊎_elim (λ l. omega (arith, l))
            (λ l. absurd (let none = result_simple.none_above x (omega (arith, l, end_small)) in omega (arith, two, twice_standing x result result_directed, none))) o)
            (cases_order x 2000000);
      }

  -- THE ITEMS OF A SLIDE ARE A DIAGRAM'S
  pub is_diagram : IsDiagram (items_of result)
  is_diagram = record {
    few = few;
    sizes = sizes_of result;
    in_range = each_member IsLabel all is_label_of;
    twice = each_member (λ label. times_in all label ≡ 2) all stands_twice;
  }

  pub top_small : top_of (items_of result) ≤ top_of xs + 512
  top_small = greatest_below all (top_of xs + 512) (λ x t.
      ⊎_elim (λ q. omega (arith, q)) (λ o. ⊎_elim (λ l. omega (arith, l))
      (λ l. absurd (
      let none = result_simple.none_above x (omega (arith, l, end_high)) in
      let two = stands_twice x t in
      omega (arith, two, twice_standing x result result_directed, none))) o)
      (cases_order x (top_of xs + 512)))

  pub same_leasts : least_labels (items_of result) ≡ least_labels xs
  same_leasts =
      leasts_same xs diagram j (top + 1) result is_diagram (omega arith) (slid_keeps framed diagram e f k.e_placed k.f_placed k.apart in_e in_f)
      (slid_known framed diagram e f k.e_placed k.f_placed k.apart in_e in_f) (slid_entered framed diagram e f k.e_placed k.f_placed k.apart in_e in_f) (slid_free framed diagram e f k.e_placed k.f_placed k.apart in_e in_f)

-- ---- framings
pub set_small : (fs : List ℤ) (at : ℕ) (v : ℤ) → at < length fs → All (λ framing. is_large framing ≡ false) fs → is_large v ≡ false → All (λ framing. is_large framing ≡ false) (set fs at v)
set_small fs at v l h s = All-from_get_or (λ framing. is_large framing ≡ false) (set fs at v) (pos 0) (λ p k. elim (cases_Bool (p == at)) [
  | inl t ↦ ap (λ (q : ℕ). is_large (get_or (set fs at v) q (pos 0))) (eqb-true p at t) ∙ (ap is_large (get_or-set_same fs at v (pos 0) l) ∙ s)
  | inr t ↦ ap is_large (get_or-set_other fs at p v (pos 0) (eqb-false p at t)) ∙ All-get_or (λ framing. is_large framing ≡ false) fs p (pos 0) (let e = length-set fs at v in omega (arith, k, e)) h
])

-- WHAT A SLIDE GIVES IS A PLANAR FRAMED DIAGRAM WITH THE SAME COMPONENTS
pub slid_framed : SlidIsFramed
slid_framed framed e f result diagram is_framed small ok =
    let k = accepted framed e f result ok in
    let h = k.passed in
    let in_e = entered_at (framed_pieces framed f) k.p in
    let in_f = entered_at (framed_pieces framed f) k.q in
    let made = is_diagram framed diagram is_framed e f h in_e in_f small in
    let i = number_of framed.items e in
    let low = i_some framed diagram is_framed e f h.e_placed h.f_placed h.apart h.even in
    let high = i_within framed diagram is_framed e f h.e_placed h.f_placed h.apart h.even in
    let count = is_framed.count in
    let same = same_leasts framed diagram is_framed e f h in_e in_f small in
    let leasts = ap length same in
    record {
      diagram = subst (λ (s : SlidDiagram). IsDiagram s.framed.items) (sym k.is) made;
      framings = subst (λ (s : SlidDiagram). IsFramed s.framed) (sym k.is) record {
        count = length-set framed.framings (i - 1) _ ∙ (count ∙ sym leasts);
        small = set_small framed.framings (i - 1) _ (omega (arith, low, high, count)) is_framed.small
            (ap is_large (sym (get_or-set_same framed.framings (i - 1) _ (pos 0) (omega (arith, low, high, count)))) ∙ (ap (λ (s : SlidDiagram). is_large (framing_of s.framed i)) (sym k.is) ∙ k.framing_small));
      };
      planar = k.planar;
      leasts = ap (λ (s : SlidDiagram). least_labels s.framed.items) k.is ∙ same;
      top = subst (λ (s : SlidDiagram). top_of s.framed.items ≤ top_of framed.items + 512) (sym k.is) (top_small framed diagram is_framed e f h in_e in_f small);
    }
