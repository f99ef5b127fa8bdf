-- Labels by their places: the two places of a label, and labels that become new ones at single places.
use Rattle.std.proofs.Common.{◌≡◌, ◌≢◌, ltb, ℕ, zero, suc, ◌+◌, ◌<◌, Bool, true, cond, not, ◌==◌, List, [], ◌∷◌, ◌++◌, map, length, slice_index, refl, Some, None, unwrap_or, sym, ap, ◌∙◌, arith, ◌⊎◌, inl, inr, ⊎_elim, subst}
use Rattle.std.specs.List.{AllByRecursion, AllPass, range_with_len}
use Rattle.std.specs.Set.{is_member}
use Rattle.std.proofs.lemmas.Bool.{or_left, or_right, eq-eqb, eqb-true, cases_Bool, or_cases, and_parts, lt-ltb, ltb-true}
use Rattle.std.proofs.lemmas.Bool.Decides.{nat_tests}
use Rattle.std.proofs.lemmas.List.FromFn.{length-range_with_len, get_or-range_with_len}
use Rattle.std.proofs.lemmas.List.Sums.{sum_by-cons}
use Rattle.graph_parts.proofs.Agreement.{from_All}
use Rattle.graph_parts.proofs.Ends.{is_member-get_or}
use Rattle.pd_reader.specs.declared.item.Item.{Item}
use Rattle.pd_reader.specs.declared.item.Item.TheVariants as item
use Rattle.pd_reader.specs.Items.{HasItsSlots, item_labels}
use Rattle.pd_reader.specs.Diagrams.{labels}
use Rattle.planar_check.specs.Components.{rank}
use Rattle.planar_check.proofs.Strands.{member_at_most}
use Rattle.planar_check.specs.Places.{labels_by_place, other_place, is_across, first_passing, crossings_of, place_labels}
use Rattle.diagram_brackets.specs.Brackets.{loop_count}
use Rattle.state_sums.specs.LocalSums.{rename}
use Rattle.diagram_moves.specs.Rewriting.{crossing_labels, map_from, at_places, fresh}
use Rattle.diagram_moves.specs.Moves.{second_place, cut_labels, first_place_of}
use Rattle.diagram_moves.proofs.Nodes.{node, nodes_of}
use Rattle.list_lemmas.specs.Times.{times_in}

-- ---- places and their labels
pub place_labels_are : (items : List Item) → place_labels items ≡ crossing_labels items
place_labels_are [] = refl
place_labels_are (item.X [] ∷ rest) = place_labels_are rest
place_labels_are (item.X (s ∷ slots) ∷ rest) =
    let others = crossings_of rest in
    let h : ltb 0 (suc (length slots)) ≡ true = lt-ltb 0 (suc (length slots)) (omega arith) in
    ap (λ c. labels_by_place (cond c ((s ∷ slots) ∷ others) others)) h ∙ ap (λ ns. s ∷ (slots ++ ns)) (place_labels_are rest)
place_labels_are (item.Loop l ∷ rest) = place_labels_are rest

pub passing : (test : ℕ → Bool) (xs : List ℕ) (none x : ℕ) → is_member ◌==◌ xs x ≡ true → test x ≡ true →
    (test (first_passing test xs none) ≡ true) × (is_member ◌==◌ xs (first_passing test xs none) ≡ true)
passing test [] none x m t = absurd (grind (arith, m))
passing test (y ∷ xs) none x m t =
    let P : Bool → Type 0 = λ z. (test (cond z y (first_passing test xs none)) ≡ true) × (is_member ◌==◌ (y ∷ xs) (cond z y (first_passing test xs none)) ≡ true) in
    ⊎_elim
    (λ e. subst P (sym e) (e, or_left (y == y) (is_member ◌==◌ xs y) (eq-eqb y y refl)))
    (λ e.
    let later : is_member ◌==◌ xs x ≡ true =
    ⊎_elim (λ s. absurd (let same : x ≡ y = eqb-true x y s in let u = ap test same in grind (arith, u, t, e))) (λ n. n) (or_cases (x == y) (is_member ◌==◌ xs x) m) in
    let ih = passing test xs none x later t in
    subst P (sym e) (ih.0, or_right (first_passing test xs none == y) (is_member ◌==◌ xs (first_passing test xs none)) ih.1))
    (cases_Bool (test y))

pub passing_or_none : (test : ℕ → Bool) (xs : List ℕ) (none : ℕ) →
    (first_passing test xs none ≡ none) ⊎ ((test (first_passing test xs none) ≡ true) × (is_member ◌==◌ xs (first_passing test xs none) ≡ true))
passing_or_none test [] none = inl refl
passing_or_none test (y ∷ xs) none =
    let Q : Bool → Type 0 = λ z. (cond z y (first_passing test xs none) ≡ none) ⊎ ((test (cond z y (first_passing test xs none)) ≡ true) × (is_member ◌==◌ (y ∷ xs) (cond z y (first_passing test xs none)) ≡ true)) in
    ⊎_elim
    (λ e. subst Q (sym e) (inr (e, or_left (y == y) (is_member ◌==◌ xs y) (eq-eqb y y refl))))
    (λ e. subst Q (sym e) (⊎_elim (λ s. inl s) (λ s. inr (s.0, or_right (first_passing test xs none == y) (is_member ◌==◌ xs (first_passing test xs none)) s.1)) (passing_or_none test xs none)))
    (cases_Bool (test y))

pub in_range : (n q : ℕ) → is_member ◌==◌ (range_with_len 0 n) q ≡ true → q < n
in_range n q m =
    let all : AllPass (λ i. ltb i n) (range_with_len 0 n) =
    λ i d l.
    let long = length-range_with_len 0 n in
    let e = get_or-range_with_len 0 n i d (omega (arith, l, long)) in
    ap (λ z. ltb z n) e ∙ lt-ltb (0 + i) n (omega (arith, l, long)) in
    ltb-true q n (from_All (λ i. ltb i n) (range_with_len 0 n) all q m)

pub range_has : (n q : ℕ) → q < n → is_member ◌==◌ (range_with_len 0 n) q ≡ true
range_has n q l =
    let long = length-range_with_len 0 n in
    let e = get_or-range_with_len 0 n q 0 l in
    let same : 0 + q ≡ q = omega arith in
    sym (ap (is_member ◌==◌ (range_with_len 0 n)) (e ∙ same)) ∙ is_member-get_or (range_with_len 0 n) q (omega (arith, l, long))

pub index_has : (ls : List ℕ) (e : ℕ) → is_member ◌==◌ ls e ≡ true → (rank ls e < length ls) × (slice_index ls (rank ls e) ≡ e)
index_has [] e m = absurd (grind (arith, m))
index_has (y ∷ ls) e m =
    let ih = index_has ls e in
    ⊎_elim
    (λ t. let P : ℕ → Type 0 = λ q. (q < length (y ∷ ls)) × (slice_index (y ∷ ls) q ≡ e) in subst P (sym (ap (λ z. cond (not z) (1 + rank ls e) 0) t)) (omega arith, eqb-true y e t))
    (λ t.
    let there : is_member ◌==◌ ls e ≡ true = grind (arith, nat_tests, m, t) in
    let r = ih there in
    let P : ℕ → Type 0 = λ q. (q < length (y ∷ ls)) × (slice_index (y ∷ ls) q ≡ e) in subst P (sym (ap (λ z. cond (not z) (1 + rank ls e) 0) t)) (subst P (let n : suc (rank ls e) ≡ 1 + rank ls e = omega arith in n) (let l = r.0 in omega (arith, l), r.1)))
    (cases_Bool (y == e))

first_place_has : (ls : List ℕ) (e : ℕ) → is_member ◌==◌ ls e ≡ true → (first_place_of ls e < length ls) × (slice_index ls (first_place_of ls e) ≡ e)
first_place_has ls e m =
    let r = index_has ls e m in
    let P : ℕ → Type 0 = λ q. (q < length ls) × (slice_index ls q ≡ e) in
    subst P (sym (ap (λ z. unwrap_or (cond z (Some (rank ls e)) None) 0) (lt-ltb (rank ls e) (length ls) r.0))) r

pub other_place_of : (ls : List ℕ) (p : ℕ) → p < length ls → (other_place ls p < length ls) × (slice_index ls (other_place ls p) ≡ slice_index ls p)
unfolding other_place
other_place_of ls p l =
    ⊎_elim
    (λ e. (subst (λ z. z < length ls) (sym e) l, ap (slice_index ls) e))
    (λ s.
    let q = first_passing (is_across ls p) (range_with_len 0 (length ls)) p in
    let t = and_parts (not (q == p)) (slice_index ls q == slice_index ls p) s.0 in
    (in_range (length ls) q s.1, eqb-true (slice_index ls q) (slice_index ls p) t.1))
    (passing_or_none (is_across ls p) (range_with_len 0 (length ls)) p)

-- THE SECOND PLACE OF A LABEL HAS IT
pub second_place_of : (items : List Item) (e : ℕ) → is_member ◌==◌ (crossing_labels items) e ≡ true →
    (second_place items e < length (crossing_labels items)) × (slice_index (crossing_labels items) (second_place items e) ≡ e)
second_place_of items e m =
    let P : List ℕ → Type 0 = λ ls. (other_place ls (first_place_of ls e) < length ls) × (slice_index ls (other_place ls (first_place_of ls e)) ≡ e) in
    let Q : List ℕ → Type 0 = λ ls. (second_place items e < length ls) × (slice_index ls (second_place items e) ≡ e) in
    let ls = place_labels items in
    let there : is_member ◌==◌ ls e ≡ true = ap (λ ns. is_member ◌==◌ ns e) (place_labels_are items) ∙ m in
    let f = first_place_has ls e there in
    let o = other_place_of ls (first_place_of ls e) f.0 in
    subst Q (place_labels_are items) (o.0, o.1 ∙ f.1)

-- ---- new labels at places
map_from-append : (g : ℕ → ℕ → ℕ) (p : ℕ) (xs ys : List ℕ) → map_from g p (xs ++ ys) ≡ map_from g p xs ++ map_from g (p + length xs) ys
map_from-append g p [] ys = ap (λ q. map_from g q ys) (omega arith)
map_from-append g p (x ∷ xs) ys =
    ap (λ ns. g p x ∷ ns) (map_from-append g (p + 1) xs ys)
    ∙ ap (λ q. g p x ∷ (map_from g (p + 1) xs ++ map_from g q ys)) (let e : p + 1 + length xs ≡ p + suc (length xs) = omega arith in e)

pub length-map_from : (g : ℕ → ℕ → ℕ) (p : ℕ) (xs : List ℕ) → length (map_from g p xs) ≡ length xs
length-map_from g p [] = refl
length-map_from g p (x ∷ xs) = ap suc (length-map_from g (p + 1) xs)

pub crossing_labels-at_places : (g : ℕ → ℕ → ℕ) (p : ℕ) (items : List Item) → crossing_labels (at_places g p items) ≡ map_from g p (crossing_labels items)
crossing_labels-at_places g p [] = refl
crossing_labels-at_places g p (item.X slots ∷ rest) =
    ap (λ ns. map_from g p slots ++ ns) (crossing_labels-at_places g (p + length slots) rest) ∙ sym (map_from-append g p slots (crossing_labels rest))
crossing_labels-at_places g p (item.Loop l ∷ rest) = crossing_labels-at_places g p rest

pub sizes-at_places : (g : ℕ → ℕ → ℕ) (p : ℕ) (items : List Item) → AllByRecursion HasItsSlots items → AllByRecursion HasItsSlots (at_places g p items)
sizes-at_places g p [] h = tt
sizes-at_places g p (item.X slots ∷ rest) h = (length-map_from g p slots ∙ h.0, sizes-at_places g (p + length slots) rest h.1)
sizes-at_places g p (item.Loop l ∷ rest) h = (tt, sizes-at_places g p rest h.1)

pub loop_count-at_places : (g : ℕ → ℕ → ℕ) (p : ℕ) (items : List Item) → loop_count (at_places g p items) ≡ loop_count items
loop_count-at_places g p [] = refl
loop_count-at_places g p (item.X slots ∷ rest) = loop_count-at_places g (p + length slots) rest
loop_count-at_places g p (item.Loop l ∷ rest) = ap (λ n. n + 1) (loop_count-at_places g p rest)

-- a fact of each place and its label
abbrev pub EachFrom : (ℕ → ℕ → Type 0) → ℕ → List ℕ → Type 0
EachFrom P p [] = Unit {0}
EachFrom P p (x ∷ xs) = P p x × EachFrom P (p + 1) xs

pub each_from : (P : ℕ → ℕ → Type 0) (p : ℕ) (xs : List ℕ) → ((q : ℕ) → q < length xs → P (p + q) (slice_index xs q)) → EachFrom P p xs
each_from P p [] h = tt
each_from P p (x ∷ xs) h = (
  (let e : p + 0 ≡ p = omega arith in subst (λ n. P n x) e (h 0 (omega arith))),
  each_from P (p + 1) xs (λ q l. let e : p + suc q ≡ p + 1 + q = omega arith in subst (λ n. P n (slice_index xs q)) e (h (suc q) (omega (arith, l)))),
)

pub each_first : (P : ℕ → ℕ → Type 0) (p : ℕ) (xs ys : List ℕ) → EachFrom P p (xs ++ ys) → EachFrom P p xs
each_first P p [] ys h = tt
each_first P p (x ∷ xs) ys h = (h.0, each_first P (p + 1) xs ys h.1)

pub each_second : (P : ℕ → ℕ → Type 0) (p : ℕ) (xs ys : List ℕ) → EachFrom P p (xs ++ ys) → EachFrom P (p + length xs) ys
each_second P p [] ys h = let e : p ≡ p + 0 = omega arith in subst (λ n. EachFrom P n ys) e h
each_second P p (x ∷ xs) ys h = let e : p + 1 + length xs ≡ p + suc (length xs) = omega arith in subst (λ n. EachFrom P n ys) e (each_second P (p + 1) xs ys h.1)

pub mapped_labels : (label : ℕ → ℕ) (g : ℕ → ℕ → ℕ) (p : ℕ) (xs : List ℕ) → EachFrom (λ q l. label (g q l) ≡ l) p xs → map label (map_from g p xs) ≡ xs
mapped_labels label g p [] h = refl
mapped_labels label g p (x ∷ xs) h = ap (λ n. n ∷ map label (map_from g (p + 1) xs)) h.0 ∙ ap (λ ns. x ∷ ns) (mapped_labels label g (p + 1) xs h.1)

-- LABELS THAT BECOME THE OLD ONES AGAIN
pub mapped_back : (a b : ℕ) (label : ℕ → ℕ) (g : ℕ → ℕ → ℕ) (p : ℕ) (items : List Item) → EachFrom (λ q l. label (g q l) ≡ l) p (crossing_labels items) →
    rename label (nodes_of a b (at_places g p items)) ≡ nodes_of a b items
mapped_back a b label g p [] h = refl
mapped_back a b label g p (item.X slots ∷ rest) h =
    let here = mapped_labels label g p slots (each_first (λ q l. label (g q l) ≡ l) p slots (crossing_labels rest) h) in
    let there = mapped_back a b label g (p + length slots) rest (each_second (λ q l. label (g q l) ≡ l) p slots (crossing_labels rest) h) in
    ap (λ s. node a b s ∷ rename label (nodes_of a b (at_places g (p + length slots) rest))) here ∙ ap (λ ns. node a b slots ∷ ns) there
mapped_back a b label g p (item.Loop l ∷ rest) h = mapped_back a b label g p rest h

-- ---- how often labels then stand
map_from-compose : (f g : ℕ → ℕ → ℕ) (p : ℕ) (xs : List ℕ) → map_from f p (map_from g p xs) ≡ map_from (λ q l. f q (g q l)) p xs
map_from-compose f g p [] = refl
map_from-compose f g p (x ∷ xs) = ap (λ ns. f p (g p x) ∷ ns) (map_from-compose f g (p + 1) xs)

pub slice_index-map_from : (g : ℕ → ℕ → ℕ) (p : ℕ) (xs : List ℕ) (i : ℕ) → i < length xs → slice_index (map_from g p xs) i ≡ g (p + i) (slice_index xs i)
slice_index-map_from g p [] i l = absurd (omega (arith, l))
slice_index-map_from g p (x ∷ xs) zero l = let e : p ≡ p + 0 = omega arith in ap (λ q. g q x) e
slice_index-map_from g p (x ∷ xs) (suc i) l =
    slice_index-map_from g (p + 1) xs i (omega (arith, l)) ∙ (let e : p + 1 + i ≡ p + suc i = omega arith in ap (λ q. g q (slice_index xs i)) e)

abbrev pub one_place : ℕ → ℕ → ℕ → ℕ → ℕ
one_place there new p label = cond (p == there) new label

untouched : (there new p : ℕ) (xs : List ℕ) → there < p → map_from (one_place there new) p xs ≡ xs
untouched there new p [] l = refl
untouched there new p (x ∷ xs) l =
    let ih = untouched there new (p + 1) xs (omega (arith, l)) in
    let here : one_place there new p x ≡ x = grind (arith, nat_tests, l) in
    ap (λ n. n ∷ map_from (one_place there new) (p + 1) xs) here ∙ ap (λ ns. x ∷ ns) ih

times_placed : (there new p i z : ℕ) (xs : List ℕ) → there ≡ p + i → i < length xs →
    times_in (map_from (one_place there new) p xs) z + cond (z == slice_index xs i) 1 0 ≡ times_in xs z + cond (z == new) 1 0
times_placed there new p i z [] h l = absurd (omega (arith, l))
times_placed there new p zero z (x ∷ xs) h l =
    let rest = untouched there new (p + 1) xs (omega (arith, h)) in
    let here : one_place there new p x ≡ new = grind (arith, nat_tests, h) in
    let a : times_in (map_from (one_place there new) p (x ∷ xs)) z ≡ times_in (new ∷ xs) z = ap (λ n. times_in (n ∷ map_from (one_place there new) (p + 1) xs) z) here ∙ ap (λ ns. times_in (new ∷ ns) z) rest in
    let e = sum_by-cons (λ y. cond (z == y) 1 0) new xs in
    let f = sum_by-cons (λ y. cond (z == y) 1 0) x xs in
    omega (arith, a, e, f)
times_placed there new p (suc i) z (x ∷ xs) h l =
    let ih = times_placed there new (p + 1) i z xs (omega (arith, h)) (omega (arith, l)) in
    let here : one_place there new p x ≡ x = grind (arith, nat_tests, h) in
    let a : times_in (map_from (one_place there new) p (x ∷ xs)) z ≡ times_in (x ∷ map_from (one_place there new) (p + 1) xs) z = ap (λ n. times_in (n ∷ map_from (one_place there new) (p + 1) xs) z) here in
    let e = sum_by-cons (λ y. cond (z == y) 1 0) x (map_from (one_place there new) (p + 1) xs) in
    let f = sum_by-cons (λ y. cond (z == y) 1 0) x xs in
    omega (arith, a, e, f, ih)

pub times_one_place : (xs : List ℕ) (there new e z : ℕ) → there < length xs → slice_index xs there ≡ e →
    times_in (map_from (one_place there new) 0 xs) z + cond (z == e) 1 0 ≡ times_in xs z + cond (z == new) 1 0
times_one_place xs there new e z l h =
    let t = times_placed there new 0 there z xs (omega arith) l in
    ap (λ n. times_in (map_from (one_place there new) 0 xs) z + cond (z == n) 1 0) (sym h) ∙ t

pub times_two_places : (xs : List ℕ) (s t e f v w z : ℕ) → s < length xs → t < length xs → slice_index xs s ≡ e → slice_index xs t ≡ f → e ≢ f →
    times_in (map_from (cut_labels s v t w) 0 xs) z + cond (z == e) 1 0 + cond (z == f) 1 0 ≡ times_in xs z + cond (z == v) 1 0 + cond (z == w) 1 0
times_two_places xs s t e f v w z ls lt es et apart =
    let inner = map_from (one_place t w) 0 xs in
    let a = times_one_place xs t w f z lt et in
    let differ : s ≢ t = λ same. apart (sym es ∙ ap (slice_index xs) same ∙ et) in
    let kept : slice_index inner s ≡ e = slice_index-map_from (one_place t w) 0 xs s ls ∙ (let u : cond (0 + s == t) w (slice_index xs s) ≡ slice_index xs s = grind (arith, nat_tests, differ) in u) ∙ es in
    let b = times_one_place inner s v e z (let n = length-map_from (one_place t w) 0 xs in omega (arith, n, ls)) kept in
    let c = ap (λ ns. times_in ns z) (map_from-compose (one_place s v) (one_place t w) 0 xs) in
    omega (arith, a, b, c)

-- ---- fresh labels
pub fresh_above : (items : List Item) (x : ℕ) → is_member ◌==◌ (labels item_labels items) x ≡ true → x < fresh items
fresh_above items x m = let g = member_at_most (labels item_labels items) x m in omega (arith, g)
