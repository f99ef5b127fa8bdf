-- The bracket of a closed braid is the trace of its word: its crossings are the letters' nodes, a negative one turned by a quarter, and
-- these with the arcs that close the braid are the network of a closed word.
use Rattle.std.proofs.Common.{◌≡◌, ◌≢◌, ℕ, zero, suc, ◌+◌, ◌-◌, ◌*◌, ◌<◌, ◌≤◌, ◌==◌, not, Bool, true, false, cond, ℤ, pos, negsuc, List, [], ◌∷◌, ◌++◌, map, length, get_or, set, refl, sym, ap, ap₂, ◌∙◌, arith, ⊎_elim, All, append_assoc, append-nil}
use Rattle.std.specs.Int.RustNames.{unsigned_abs}
use Rattle.std.specs.List.{range_with_len}
use Rattle.std.specs.Set.{is_member}
use Rattle.std.proofs.lemmas.Bool.{cases_Bool, cases_eq}
use Rattle.std.proofs.lemmas.Bool.Decides.{nat_tests}
use Rattle.std.proofs.lemmas.List.{get_or-set_same, get_or-set_other}
use Rattle.std.proofs.lemmas.List.Elements.{All-append, All-cons, All-nil}
use Rattle.std.proofs.lemmas.List.FromFn.{length-range_with_len, get_or-range_with_len}
use Rattle.std.proofs.Math.ListN.{length-set}
use Rattle.list_lemmas.specs.Times.{times_in}
use Rattle.list_lemmas.proofs.Times.{times_of_member, member_of_times}
use Rattle.state_sums.specs.LocalSums.{crossing, rename}
use Rattle.state_sums.specs.Networks.{Node, IsNode, names_of}
use Rattle.state_sums.specs.StateSums.{value}
use Rattle.state_sums.proofs.NodeNames.{names_of-rename}
use Rattle.state_sums.proofs.StateEdges.{HavePlaces-from_nodes}
use Rattle.state_sums.proofs.WrittenNodes.{IsNode-crossing}
use Rattle.root_quantum.specs.Parameters.{Parameters}
use Rattle.root_quantum.specs.QuantumNumbers.{inverse_root, loop_value}
use Rattle.root_quantum.proofs.QuantumSteps.{modulus_positive}
use Rattle.piece_laws.specs.Arcs.{arcs_of, closed_classes}
use Rattle.piece_laws.specs.TurnedNodes.{without_group}
use Rattle.piece_laws.proofs.Closing.{arcs_close}
use Rattle.piece_laws.proofs.CrossingTurns.{quarter_turn}
use Rattle.piece_laws.proofs.MovedRuns.{value_moved}
use Rattle.piece_laws.proofs.PlainMoves.{value_same}
use Rattle.piece_laws.proofs.Ungrouped.{groups}
use Rattle.pd_reader.specs.declared.item.Item.{Item}
use Rattle.pd_reader.specs.declared.item.Item.TheVariants.{Loop}
use Rattle.pd_reader.specs.Diagrams.{labels}
use Rattle.pd_reader.specs.Items.{item_labels}
use Rattle.diagram_brackets.specs.Brackets.{crossing_nodes, loop_count, bracket}
use Rattle.strand_words.specs.Boxes.{bottom}
use Rattle.strand_words.specs.Words.{top}
use Rattle.word_networks.specs.PlacedGrids.{close_steps}
use Rattle.word_networks.specs.Steps.{letter, name_after, names_after, step_nodes}
use Rattle.word_networks.proofs.Grids.{step_nodes-append}
use Rattle.word_networks.proofs.StepNetworks.{are_nodes}
use Rattle.word_networks.proofs.Strands.{strand_top, strand_bottom}
use Rattle.box_laws.specs.Traces.{word_trace}
use Rattle.box_laws.proofs.WordTraces.{word_traces}
use Rattle.braid_trace.specs.Braids.{BraidWord, IsBraid}
use Rattle.braid_closures.specs.Closures.{is_touched, new_label, unused_after, relabelled, crossings, loops, closed}
use Rattle.braid_closures.specs.Letters.{letter_of}
use Rattle.braid_closures.proofs.BraidSteps.{Cross, place_is, letters_on, fresh, steps, steps_spell, base, begin, after_bottom, after_top, at_left, at_right, at_other, later_touched, not_member, are_steps}
use Rattle.braid_closures.proofs.ClosedDiagrams.{total, total_same, is_at, between, adds, used_up, crossing_times, touched_left, touched_right, entry_times, four}
use Rattle.braid_closures.proofs.ClosedStrands.{closes, closes_label, closes_fresh, last_name, pairs, arcs_are, class_labels, closed_are_loops}

-- the letters' nodes, with the names of the closure's labels
abbrev pub nodes : Parameters → List ℕ → ℕ → List ℤ → List Node
nodes p ls unused [] = []
nodes p ls unused (e ∷ word) =
    let i = unsigned_abs e in
    let left = new_label word i unused in
    let next = unused_after word i unused in
    let right = new_label word (i + 1) next in
    crossing (letter_of p e).straight (letter_of p e).hook (16 * get_or ls i 0) (16 * right) (16 * left) (16 * get_or ls (i - 1) 0)
    ∷ nodes p (relabelled ls i left right) (unused_after word (i + 1) next) word

-- the crossings as they are drawn
abbrev pub drawn_node : Parameters → ℤ → ℕ → ℕ → ℕ → ℕ → Node
drawn_node p (pos n) x y left right = crossing p.root (inverse_root p) (16 * y) (16 * right) (16 * left) (16 * x)
drawn_node p (negsuc n) x y left right = crossing p.root (inverse_root p) (16 * x) (16 * y) (16 * right) (16 * left)

abbrev pub drawn : Parameters → List ℕ → ℕ → List ℤ → List Node
drawn p ls unused [] = []
drawn p ls unused (e ∷ word) =
    let i = unsigned_abs e in
    let left = new_label word i unused in
    let next = unused_after word i unused in
    let right = new_label word (i + 1) next in
    drawn_node p e (get_or ls (i - 1) 0) (get_or ls i 0) left right ∷ drawn p (relabelled ls i left right) (unused_after word (i + 1) next) word

-- ---- the closure's network
no_nodes : (p : Parameters) (group : ℕ) (word : List ℤ) (q count : ℕ) → crossing_nodes p group (loops word q count) ≡ []
no_nodes p group word q zero = refl
no_nodes p group word q (suc count) = plain (is_touched word q) (loops word (q + 1) count) (no_nodes p group word (q + 1) count)
  where
    plain : (t : Bool) (items : List Item) → crossing_nodes p group items ≡ [] → crossing_nodes p group (cond t items (Loop q ∷ items)) ≡ []
    plain true items h = h
    plain false items h = h

are_drawn : (p : Parameters) (word : List ℤ) (group : ℕ) (ls : List ℕ) (unused : ℕ) (items : List Item) → ((k : ℕ) → crossing_nodes p k items ≡ []) →
    map without_group (crossing_nodes p group (crossings ls unused word ++ items)) ≡ map without_group (drawn p ls unused word)
are_drawn p [] group ls unused items none = ap (map without_group) (none group)
are_drawn p (pos n ∷ word) group ls unused items none = ap (λ ns. without_group (drawn_node p (pos n) (get_or ls (n - 1) 0) (get_or ls n 0) (new_label word n unused) (new_label word (n + 1) (unused_after word n unused))) ∷ ns) (are_drawn p word (group + 1) _ _ items none)
are_drawn p (negsuc n ∷ word) group ls unused items none = ap (λ ns. without_group (drawn_node p (negsuc n) (get_or ls (suc n - 1) 0) (get_or ls (suc n) 0) (new_label word (suc n) unused) (new_label word (suc n + 1) (unused_after word (suc n) unused))) ∷ ns) (are_drawn p word (group + 1) _ _ items none)

count_loops : (word : List ℤ) (ls : List ℕ) (unused : ℕ) (items : List Item) → loop_count (crossings ls unused word ++ items) ≡ loop_count items
count_loops [] ls unused items = refl
count_loops (pos n ∷ word) ls unused items = count_loops word _ _ items
count_loops (negsuc n ∷ word) ls unused items = count_loops word _ _ items

-- ---- quarter turns
nodes_ok : (p : Parameters) (word : List ℤ) (ls : List ℕ) (unused : ℕ) → All IsNode (nodes p ls unused word)
nodes_ok p [] ls unused = All-nil IsNode
nodes_ok p (e ∷ word) ls unused =
    let i = unsigned_abs e in
    let left = new_label word i unused in
    let next = unused_after word i unused in
    let right = new_label word (i + 1) next in
    All-cons IsNode (crossing (letter_of p e).straight (letter_of p e).hook (16 * get_or ls i 0) (16 * right) (16 * left) (16 * get_or ls (i - 1) 0))
    (nodes p (relabelled ls i left right) (unused_after word (i + 1) next) word)
    (IsNode-crossing (letter_of p e).straight (letter_of p e).hook (16 * get_or ls i 0) (16 * right) (16 * left) (16 * get_or ls (i - 1) 0)) (nodes_ok p word _ _)

drawn_ok : (p : Parameters) (e : ℤ) (x y left right : ℕ) → IsNode (drawn_node p e x y left right)
drawn_ok p (pos n) x y left right = IsNode-crossing p.root (inverse_root p) (16 * y) (16 * right) (16 * left) (16 * x)
drawn_ok p (negsuc n) x y left right = IsNode-crossing p.root (inverse_root p) (16 * x) (16 * y) (16 * right) (16 * left)

module _ (p : Parameters) (free : ℕ) where
  abbrev V : List Node → ℕ
  V ns = value p.modulus (loop_value p) record { nodes = ns; free_loops = free }

  one_turned : (e : ℤ) (x y left right : ℕ) (front back : List Node) → All IsNode front → All IsNode back →
      V (front ++ drawn_node p e x y left right ∷ back) ≡ V (front ++ crossing (letter_of p e).straight (letter_of p e).hook (16 * y) (16 * right) (16 * left) (16 * x) ∷ back)
  one_turned (pos n) x y left right front back f b = refl
  one_turned (negsuc n) x y left right front back f b =
      let a = p.root in
      let c = inverse_root p in
      let old = crossing a c (16 * x) (16 * y) (16 * right) (16 * left) in
      let new = crossing c a (16 * y) (16 * right) (16 * left) (16 * x) in
      value_same p.modulus (loop_value p) free (front ++ old ∷ back) (front ++ new ∷ back)
      (All-append IsNode front (old ∷ back) f (All-cons IsNode old back (IsNode-crossing a c (16 * x) (16 * y) (16 * right) (16 * left)) b))
      (All-append IsNode front (new ∷ back) f (All-cons IsNode new back (IsNode-crossing c a (16 * y) (16 * right) (16 * left) (16 * x)) b))
      (quarter_turn p.modulus (loop_value p) a c (16 * x) (16 * y) (16 * right) (16 * left) free front back [] f b (All-nil (λ n. is_member ◌==◌ (names_of (front ++ old ∷ back)) n ≡ true)))

  turned : (word : List ℤ) (ls : List ℕ) (unused : ℕ) (front : List Node) → All IsNode front → V (front ++ drawn p ls unused word) ≡ V (front ++ nodes p ls unused word)
  turned [] ls unused front f = refl
  turned (e ∷ word) ls unused front f =
      let i = unsigned_abs e in
      let x = get_or ls (i - 1) 0 in
      let y = get_or ls i 0 in
      let left = new_label word i unused in
      let next = unused_after word i unused in
      let right = new_label word (i + 1) next in
      let here = drawn_node p e x y left right in
      let other = relabelled ls i left right in
      let last = unused_after word (i + 1) next in
      ap V (sym (append_assoc front (here ∷ []) (drawn p other last word)))
      ∙ turned word other last (front ++ here ∷ []) (All-append IsNode front (here ∷ []) f (All-cons IsNode here [] (drawn_ok p e x y left right) (All-nil IsNode)))
      ∙ ap V (append_assoc front (here ∷ []) (nodes p other last word))
      ∙ one_turned e x y left right front (nodes p other last word) f (nodes_ok p word other last)

-- ---- the steps' nodes have these names where the arcs are closed
same_crossing : (s h a b c d u v w x : ℕ) (ns ms : List Node) → a ≡ u → b ≡ v → c ≡ w → d ≡ x → ns ≡ ms → crossing s h a b c d ∷ ns ≡ crossing s h u v w x ∷ ms
same_crossing s h a b c d u v w x ns ms e f g k l = rw (e, f, g, k, l) refl

renamed : (p : Parameters) (n : ℕ) (whole word : List ℤ) (ls : List ℕ) (unused : ℕ) (name : ℕ → ℕ) → length ls ≡ n → Cross n word →
    ((q : ℕ) → is_touched word q ≡ true → is_touched whole q ≡ true) → ((k : ℕ) → k < n → closes whole 1 n (name (top k)) ≡ 16 * get_or ls k 0) →
    rename (closes whole 1 n) (step_nodes name (steps p unused word)) ≡ nodes p ls unused word
renamed p n whole [] ls unused name l a t h = refl
renamed p n whole (e ∷ word) ls unused name l a t h =
    let i = unsigned_abs e in
    let low = a.0.0 in
    let high = a.0.1 in
    let at = (letter_of p e).at in
    let place = place_is p e low in
    let label : ℕ → ℕ = closes whole 1 n in
    let next = unused_after word i unused in
    let last = unused_after word (i + 1) next in
    let left = new_label word i unused in
    let right = new_label word (i + 1) next in
    let left_name = fresh word i unused in
    let right_name = fresh word (i + 1) next in
    let other = relabelled ls i left right in
    let named : ℕ → ℕ = name_after name (letter (top at) (top (at + 1)) (letter_of p e).straight (letter_of p e).hook left_name right_name) in
    let length_other : length other ≡ n = length-set (set ls (i - 1) left) i right ∙ length-set ls (i - 1) left ∙ l in
    let label_left : label left_name ≡ 16 * left = closes_fresh whole word n i unused (t i (touched_left e word)) low (omega (arith, high)) in
    let label_right : label right_name ≡ 16 * right = closes_fresh whole word n (i + 1) next (t (i + 1) (touched_right e word)) (omega arith) (omega (arith, high)) in
    let back : at ≡ i - 1 = omega (arith, place) in
    let below : label (name (top at)) ≡ 16 * get_or ls (i - 1) 0 = h at (omega (arith, place, high)) ∙ ap (λ k. 16 * get_or ls k 0) back in
    let beside : label (name (top (at + 1))) ≡ 16 * get_or ls i 0 = h (at + 1) (omega (arith, place, high)) ∙ ap (λ k. 16 * get_or ls k 0) place in
    let set_left : get_or other (i - 1) 0 ≡ left = get_or-set_other (set ls (i - 1) left) i (i - 1) right 0 (λ s. omega (arith, s, low)) ∙ get_or-set_same ls (i - 1) left 0 (omega (arith, low, high, l)) in
    let set_right : get_or other i 0 ≡ right = get_or-set_same (set ls (i - 1) left) i right 0 (let k = length-set ls (i - 1) left in omega (arith, k, high, l)) in
    let names_other : (k : ℕ) → k < n → label (named (top k)) ≡ 16 * get_or other k 0 =
    λ k lt.
    ⊎_elim
    (λ (s : k ≡ at). ap label (at_left at k left_name right_name (name (top k)) s) ∙ label_left ∙ ap (λ v. 16 * v) (sym set_left) ∙ ap (λ j. 16 * get_or other j 0) (sym (s ∙ back)))
    (λ (d : k ≢ at).
    ⊎_elim
    (λ (s : k ≡ at + 1). ap label (at_right at k left_name right_name (name (top k)) s) ∙ label_right ∙ ap (λ v. 16 * v) (sym set_right) ∙ ap (λ j. 16 * get_or other j 0) (sym (s ∙ place)))
    (λ (f : k ≢ at + 1).
    ap label (at_other at k left_name right_name (name (top k)) d f)
    ∙ h k lt
    ∙ ap (λ v. 16 * v) (sym (get_or-set_other (set ls (i - 1) left) i k right 0 (λ s. f (s ∙ sym place)) ∙ get_or-set_other ls (i - 1) k left 0 (λ s. d (s ∙ sym back)))))
    (cases_eq k (at + 1)))
    (cases_eq k at) in
    same_crossing (letter_of p e).straight (letter_of p e).hook (label (name (top (at + 1)))) (label right_name) (label left_name) (label (name (top at)))
    (16 * get_or ls i 0) (16 * right) (16 * left) (16 * get_or ls (i - 1) 0) (rename label (step_nodes named (steps p last word))) (nodes p other last word)
    beside label_right label_left below
    (renamed p n whole word other last named length_other a.1 (λ q s. t q (later_touched e word q s)) names_other)

-- ---- which beginning labels stand at crossings
at_scaled : (x y : ℕ) → is_at (16 * x) (16 * y) ≡ is_at x y
at_scaled x y = grind (arith, nat_tests)

name_times : (p : Parameters) (x : ℕ) (word : List ℤ) (ls : List ℕ) (unused : ℕ) → times_in (names_of (nodes p ls unused word)) (16 * x) ≡ times_in (labels item_labels (crossings ls unused word)) x
name_times p x [] ls unused = refl
name_times p x (e ∷ word) ls unused =
    let i = unsigned_abs e in
    let u = get_or ls (i - 1) 0 in
    let v = get_or ls i 0 in
    let left = new_label word i unused in
    let next = unused_after word i unused in
    let right = new_label word (i + 1) next in
    let other = relabelled ls i left right in
    let last = unused_after word (i + 1) next in
    let ih = name_times p x word other last in
    let here = four (16 * x) (16 * v) (16 * right) (16 * left) (16 * u) (names_of (nodes p other last word)) in
    let there = entry_times e u v left right x (crossings other last word) in
    let a = at_scaled x u in let b = at_scaled x v in let c = at_scaled x left in let d = at_scaled x right in
    omega (arith, ih, here, there, a, b, c, d)

total_zero : (t : ℕ → Bool) (r q count : ℕ) → r < q → total (λ j. cond (t j) (2 * is_at r j) 0) q count ≡ 0
total_zero t r q zero l = refl
total_zero t r q (suc count) l = let ih = total_zero t r (q + 1) count (omega (arith, l)) in let z = plain (t q) r q l in omega (arith, ih, z)
  where
    plain : (b : Bool) (r q : ℕ) → r < q → cond b (2 * is_at r q) 0 ≡ 0
    plain b r q l = grind (arith, nat_tests, l)

total_spot : (t : ℕ → Bool) (r q count : ℕ) → q ≤ r → r < q + count → total (λ j. cond (t j) (2 * is_at r j) 0) q count ≡ cond (t r) 2 0
total_spot t r q zero lo hi = absurd (omega (arith, lo, hi))
total_spot t r q (suc count) lo hi =
    ⊎_elim
    (λ (e : q ≡ r). (let z = total_zero t r (q + 1) count (omega (arith, e)) in let s = here (t q) r q e in let f : ℕ → ℕ = λ j. cond (t j) 2 0 in let k = ap f e in omega (arith, z, s, k)))
    (λ (d : q ≢ r). (let ih = total_spot t r (q + 1) count (omega (arith, lo, d)) (omega (arith, hi)) in let s = other (t q) r q d in omega (arith, ih, s)))
    (cases_eq q r)
  where
    here : (b : Bool) (r q : ℕ) → q ≡ r → cond b (2 * is_at r q) 0 ≡ cond b 2 0
    here b r q e = grind (arith, nat_tests, e)

    other : (b : Bool) (r q : ℕ) → q ≢ r → cond b (2 * is_at r q) 0 ≡ 0
    other b r q d = grind (arith, nat_tests, d)

pub stands : (p : Parameters) (n : ℕ) (word : List ℤ) (r : ℕ) → Cross n word → 1 ≤ r → r < 1 + n →
    is_member ◌==◌ (names_of (nodes p (range_with_len 1 n) (n + 1) word)) (16 * r) ≡ is_touched word r
stands p n word r a lo hi =
    let begun = range_with_len 1 n in
    let names = names_of (nodes p begun (n + 1) word) in
    let e = name_times p r word begun (n + 1) in
    let f = crossing_times n r begun (n + 1) word (length-range_with_len 1 n) a in
    let same = total_same (adds word begun r) (λ j. cond (is_touched word j) (2 * is_at r j) 0) 1 n
    (λ j l k. both (is_touched word j) r j (get_or begun (j - 1) 0) (get_or-range_with_len 1 n (j - 1) 0 (omega (arith, l, k)) ∙ (let t : 1 + (j - 1) ≡ j = omega (arith, l) in t))) in
    let spot = total_spot (is_touched word) r 1 n lo hi in
    let none = outside (n + 1) (used_up (n + 1) word) r (omega (arith, hi)) in
    let count : times_in names (16 * r) ≡ cond (is_touched word r) 2 0 = omega (arith, e, f, same, spot, none) in
    ⊎_elim
    (λ t. member_of_times (16 * r) names (let c = count ∙ ap (λ b. cond b 2 0) t in omega (arith, c)) ∙ sym t)
    (λ t. not_member names (16 * r) (λ m. (let c = count ∙ ap (λ b. cond b 2 0) t in let k = times_of_member (16 * r) names m in omega (arith, c, k))) ∙ sym t)
    (cases_Bool (is_touched word r))
  where
    both : (t : Bool) (r j v : ℕ) → v ≡ j → cond t (is_at r v + is_at r j) 0 ≡ cond t (2 * is_at r j) 0
    both t r j v e = ap (λ w. cond t w 0) (let k = ap (is_at r) e in omega (arith, k))

    outside : (c d r : ℕ) → r < c → between c d r ≡ 0
    outside c d r l = grind (arith, nat_tests, l)

-- THE BRACKET OF A CLOSED BRAID IS ITS WORD'S TRACE
pub braid_bracket : (p : Parameters) (braid : BraidWord) → IsBraid braid → bracket p (closed braid) ≡ word_trace p.modulus (loop_value p) braid.strands (map (letter_of p) braid.word)
unfolding bracket
braid_bracket p braid is =
    let n = braid.strands in
    let word = braid.word in
    let m = p.modulus in
    let d = loop_value p in
    let begun = range_with_len 1 n in
    let rounds = loops word 1 n in
    let free = loop_count rounds in
    let up = steps p (n + 1) word in
    let upward = step_nodes begin up in
    let closing = close_steps 0 n in
    let last : ℕ → ℕ = names_after begin up in
    let es = pairs word 1 n in
    let label : ℕ → ℕ = closes word 1 n in
    let tops : (k : ℕ) → last (top k) ≡ last_name word (k + 1) = λ k. after_top p n (n + 1) word begin k is.cross ∙ ap (λ v. cond (is_touched word (k + 1)) (16 * (k + 1) + 1) v) (ap base (strand_top k)) in
    let bottoms : (k : ℕ) → last (bottom k) ≡ 16 * (k + 1) = λ k. after_bottom p (n + 1) word begin k ∙ ap base (strand_bottom k) in
    let arcs : step_nodes last closing ≡ arcs_of es = arcs_are word last 0 n tops bottoms in
    let named : rename label upward ≡ nodes p begun (n + 1) word =
    renamed p n word word begun (n + 1) begin (length-range_with_len 1 n) is.cross (λ q t. t)
    (λ k lt. ap (λ j. label (base j)) (strand_top k) ∙ closes_label word 1 n (k + 1) ∙ ap (λ v. 16 * v) (sym (get_or-range_with_len 1 n k 0 lt ∙ (let t : 1 + k ≡ k + 1 = omega arith in t)))) in
    let counted : closed_classes label es (names_of upward) ≡ free =
    closed_are_loops word n (λ end. not (is_member ◌==◌ (map label (names_of upward)) end))
    (λ r lo hi. ap not (ap (λ ns. is_member ◌==◌ ns (16 * r)) (sym (names_of-rename label upward) ∙ ap names_of named) ∙ stands p n word r is.cross lo hi)) in
    let all_loops : free ≡ 0 + closed_classes label es (names_of upward) = omega (arith, counted) in
    let ok = are_nodes begin up in
    ap (λ k. value m d record { nodes = crossing_nodes p 1 (closed braid); free_loops = k }) (count_loops word begun (n + 1) rounds)
    ∙ (groups d free (crossing_nodes p 1 (closed braid)) (drawn p begun (n + 1) word) (are_drawn p word 1 begun (n + 1) rounds (λ k. no_nodes p k word 1 n))).values m
    ∙ turned p free word begun (n + 1) [] (All-nil IsNode)
    ∙ ap₂ (λ ns k. value m d record { nodes = ns; free_loops = k }) (sym named) all_loops
    ∙ sym (arcs_close m d 0 es label upward ok (class_labels word n))
    ∙ ap₂ (λ us vs. value m d record { nodes = us ++ vs; free_loops = 0 }) (sym arcs) (sym (append-nil upward))
    ∙ sym (value_moved m d 0 upward (step_nodes last closing) [] (HavePlaces-from_nodes upward ok) (HavePlaces-from_nodes (step_nodes last closing) (are_nodes last closing)) (HavePlaces-from_nodes [] (All-nil IsNode)))
    ∙ ap (λ vs. value m d record { nodes = upward ++ vs; free_loops = 0 }) (append-nil (step_nodes last closing))
    ∙ ap (λ ns. value m d record { nodes = ns; free_loops = 0 }) (sym (step_nodes-append begin up closing))
    ∙ word_traces m d n (map (letter_of p) word) up base (modulus_positive p) (letters_on p n word is.cross) (steps_spell p (n + 1) word) (λ i j a b e. omega (arith, e)) (are_steps p n word is.cross)
