-- The closure of a braid is a diagram: each label stands twice.
--
-- The crossings of a word have, for each position that it touches, the position's label below the word and its beginning label above it,
-- and the new labels between, each of these twice (`crossing_times`). At the beginning these two are one, and a loop has the label of an
-- untouched position twice.
use Rattle.std.proofs.Common.{◌≡◌, ◌≢◌, ℕ, zero, suc, ◌+◌, ◌-◌, ◌*◌, ◌<◌, ◌≤◌, ◌==◌, ◌||◌, ◌&&◌, Bool, true, false, cond, nat_lt, nat_le, ℤ, pos, negsuc, List, [], ◌∷◌, ◌++◌, get_or, length, set, refl, sym, ap, ap₂, ◌∙◌, arith, ⊎_elim, length-append, append_assoc}
use Rattle.std.specs.Int.RustNames.{unsigned_abs}
use Rattle.std.specs.List.{AllByRecursion, range_with_len}
use Rattle.std.specs.Set.{is_member}
use Rattle.std.proofs.lemmas.Bool.{cases_eq}
use Rattle.std.proofs.lemmas.Bool.Decides.{nat_tests}
use Rattle.std.proofs.lemmas.List.{get_or-set_same, get_or-set_other}
use Rattle.std.proofs.lemmas.List.FromFn.{length-range_with_len, get_or-range_with_len}
use Rattle.std.proofs.lemmas.List.Sums.{sum_by-append}
use Rattle.std.proofs.Math.ListN.{length-set}
use Rattle.list_lemmas.specs.Times.{times_in}
use Rattle.list_lemmas.proofs.Times.{times_of_member, times_in-pair}
use Rattle.pd_reader.specs.declared.item.Item.{Item}
use Rattle.pd_reader.specs.declared.item.Item.TheVariants.{Loop}
use Rattle.pd_reader.specs.Diagrams.{labels, IsLabel, IsDiagram}
use Rattle.pd_reader.specs.Items.{item_labels, HasItsSlots}
use Rattle.braid_trace.specs.Braids.{BraidWord, IsBraid}
use Rattle.braid_closures.specs.Closures.{is_touched, new_label, unused_after, entry_item, relabelled, crossings, loops, closed}

-- ---- sums over positions
abbrev pub total : (ℕ → ℕ) → ℕ → ℕ → ℕ
total f p zero = 0
total f p (suc count) = f p + total f (p + 1) count

pub total_same : (f g : ℕ → ℕ) (p count : ℕ) → ((q : ℕ) → p ≤ q → q < p + count → f q ≡ g q) → total f p count ≡ total g p count
total_same f g p zero h = refl
total_same f g p (suc count) h = ap₂ (λ x y. x + y) (h p (omega arith) (omega arith)) (total_same f g (p + 1) count (λ q lo hi. h q (omega (arith, lo)) (omega (arith, hi))))

-- two sums that differ at one position
one_differs : (f g : ℕ → ℕ) (a p count : ℕ) → ((q : ℕ) → q ≢ a → f q ≡ g q) → p ≤ a → a < p + count → total f p count + g a ≡ total g p count + f a
one_differs f g a p zero h lo hi = absurd (omega (arith, lo, hi))
one_differs f g a p (suc count) h lo hi =
    ⊎_elim
    (λ (e : p ≡ a).
    let rest = total_same f g (p + 1) count (λ q l k. h q (λ s. omega (arith, s, l, e))) in
    let x = ap f e in let y = ap g e in
    omega (arith, rest, x, y))
    (λ (d : p ≢ a).
    let rest = one_differs f g a (p + 1) count h (omega (arith, lo, d)) (omega (arith, hi)) in
    let here = h p d in
    omega (arith, rest, here))
    (cases_eq p a)

-- at two
two_differ : (f g : ℕ → ℕ) (a b p count : ℕ) → a ≢ b → ((q : ℕ) → q ≢ a → q ≢ b → f q ≡ g q) → p ≤ a → a < p + count → p ≤ b → b < p + count →
    total f p count + g a + g b ≡ total g p count + f a + f b
two_differ f g a b p count d h la ha lb hb =
    let between : ℕ → ℕ = λ q. cond (q == a) (g q) (f q) in
    let first = one_differs f between a p count (λ q n. plain q a (f q) (g q) n) la ha in
    let second = one_differs between g b p count (λ q n. other q (h q) n) lb hb in
    let at_a = here a a (f a) (g a) refl in
    let at_b = plain b a (f b) (g b) (λ e. d (sym e)) in
    omega (arith, first, second, at_a, at_b)
  where
    plain : (q a x y : ℕ) → q ≢ a → x ≡ cond (q == a) y x
    plain q a x y n = grind (arith, nat_tests, n)

    here : (q a x y : ℕ) → q ≡ a → cond (q == a) y x ≡ y
    here q a x y e = grind (arith, nat_tests, e)

    chosen : (q a x y : ℕ) → (q ≢ a → x ≡ y) → cond (q == a) y x ≡ y
    chosen q a x y e = ⊎_elim (λ s. here q a x y s) (λ n. sym (plain q a x y n) ∙ e n) (cases_eq q a)

    other : (q : ℕ) → (q ≢ a → q ≢ b → f q ≡ g q) → q ≢ b → cond (q == a) (g q) (f q) ≡ g q
    other q k n = chosen q a (f q) (g q) (λ m. k m n)

total_plus : (f g : ℕ → ℕ) (p count : ℕ) → total f p count + total g p count ≡ total (λ q. f q + g q) p count
total_plus f g p zero = refl
total_plus f g p (suc count) = let ih = total_plus f g (p + 1) count in omega (arith, ih)

-- ---- labels
abbrev pub is_at : ℕ → ℕ → ℕ
is_at x label = cond (x == label) 1 0

-- the label is one of those from a on, below b
abbrev pub between : ℕ → ℕ → ℕ → ℕ
between a b x = cond (nat_le a x && nat_lt x b) 1 0

between_joined : (a b c x : ℕ) → a ≤ b → b ≤ c → between a b x + between b c x ≡ between a c x
between_joined a b c x h k = grind (arith, nat_tests, h, k)

between_none : (a x : ℕ) → between a a x ≡ 0
between_none a x = grind (arith, nat_tests)

between_one : (a x : ℕ) → between a (a + 1) x ≡ is_at x a
between_one a x = grind (arith, nat_tests)

total_at : (p count x : ℕ) → total (λ q. 2 * is_at x q) p count ≡ 2 * between p (p + count) x
total_at p zero x = (let e : p ≡ p + 0 = omega arith in let z = ap (λ k. between p k x) e in let n = between_none p x in omega (arith, z, n))
total_at p (suc count) x =
    let ih = total_at (p + 1) count x in
    let e : p + 1 + count ≡ p + suc count = omega arith in
    let moved = ap (λ k. between (p + 1) k x) e in
    let one = between_one p x in
    let joined = between_joined p (p + 1) (p + suc count) x (omega arith) (omega arith) in
    omega (arith, ih, moved, one, joined)

-- the labels that a word uses up
abbrev pub used_up : ℕ → List ℤ → ℕ
used_up unused [] = unused
used_up unused (e ∷ word) = used_up (unused_after word (unsigned_abs e + 1) (unused_after word (unsigned_abs e) unused)) word

pub used_bounds : (word : List ℤ) (p unused : ℕ) → (unused ≤ unused_after word p unused) × (unused_after word p unused ≤ unused + 1)
used_bounds word p unused = plain (is_touched word p) unused
  where
    plain : (b : Bool) (u : ℕ) → (u ≤ cond b (u + 1) u) × (cond b (u + 1) u ≤ u + 1)
    plain true u = (omega arith, omega arith)
    plain false u = (omega arith, omega arith)

pub used_up_bounds : (unused : ℕ) (word : List ℤ) → (unused ≤ used_up unused word) × (used_up unused word ≤ unused + 2 * length word)
used_up_bounds unused [] = (omega arith, omega arith)
used_up_bounds unused (e ∷ word) =
    let i = unsigned_abs e in
    let one = used_bounds word i unused in
    let next = unused_after word i unused in
    let two = used_bounds word (i + 1) next in
    let ih = used_up_bounds (unused_after word (i + 1) next) word in
    let a = one.0 in let b = one.1 in let c = two.0 in let d = two.1 in let f = ih.0 in let g = ih.1 in
    (omega (arith, a, c, f), omega (arith, b, d, g))

-- what a position adds: its label below the word and its beginning label above it, if the word touches it
abbrev pub adds : List ℤ → List ℕ → ℕ → ℕ → ℕ
adds word ls x q = cond (is_touched word q) (is_at x (get_or ls (q - 1) 0) + is_at x q) 0

-- one of the two sides of a crossing: its new label stands at the crossing, and at the word above it
side : (b : Bool) (unused p x : ℕ) → is_at x (cond b unused p) + cond b (is_at x (cond b unused p) + is_at x p) 0 ≡ is_at x p + 2 * between unused (cond b (unused + 1) unused) x
side true unused p x = let e = between_one unused x in omega (arith, e)
side false unused p x = let e = between_none unused x in omega (arith, e)

pub touched_left : (e : ℤ) (word : List ℤ) → is_touched (e ∷ word) (unsigned_abs e) ≡ true
touched_left e word = plain (unsigned_abs e) (is_touched word (unsigned_abs e))
  where
    plain : (i : ℕ) (b : Bool) → ((i == i || i == i + 1) || b) ≡ true
    plain i b = grind (arith, nat_tests)

pub touched_right : (e : ℤ) (word : List ℤ) → is_touched (e ∷ word) (unsigned_abs e + 1) ≡ true
touched_right e word = plain (unsigned_abs e) (is_touched word (unsigned_abs e + 1))
  where
    plain : (i : ℕ) (b : Bool) → ((i + 1 == i || i + 1 == i + 1) || b) ≡ true
    plain i b = grind (arith, nat_tests)

pub touched_other : (e : ℤ) (word : List ℤ) (q : ℕ) → q ≢ unsigned_abs e → q ≢ unsigned_abs e + 1 → is_touched (e ∷ word) q ≡ is_touched word q
touched_other e word q n m = plain (unsigned_abs e) q (is_touched word q) n m
  where
    plain : (i q : ℕ) (b : Bool) → q ≢ i → q ≢ i + 1 → ((q == i || q == i + 1) || b) ≡ b
    plain i q b n m = grind (arith, nat_tests, n, m)

pub four : (x a b c d : ℕ) (xs : List ℕ) → times_in (a ∷ b ∷ c ∷ d ∷ xs) x ≡ is_at x a + is_at x b + is_at x c + is_at x d + times_in xs x
four x a b c d xs = let p = times_in-pair a b (c ∷ d ∷ xs) x in let q = times_in-pair c d xs x in omega (arith, p, q)

pub entry_times : (e : ℤ) (x y left right z : ℕ) (items : List Item) →
    times_in (labels item_labels (entry_item e x y left right ∷ items)) z ≡ is_at z x + is_at z y + is_at z left + is_at z right + times_in (labels item_labels items) z
entry_times (pos n) x y left right z items = let t = four z y right left x (labels item_labels items) in omega (arith, t)
entry_times (negsuc n) x y left right z items = let t = four z x y right left (labels item_labels items) in omega (arith, t)

-- HOW OFTEN A LABEL STANDS AT THE CROSSINGS
pub crossing_times : (n : ℕ) (x : ℕ) (ls : List ℕ) (unused : ℕ) (word : List ℤ) → length ls ≡ n → AllByRecursion (λ e. (1 ≤ unsigned_abs e) × (unsigned_abs e < n)) word →
    times_in (labels item_labels (crossings ls unused word)) x ≡ total (adds word ls x) 1 n + 2 * between unused (used_up unused word) x
crossing_times n x ls unused [] l a =
    let z = total_same (adds [] ls x) (λ q. 0) 1 n (λ q lo hi. refl) in
    let none = between_none unused x in
    let zero_sum = nothing 1 n in
    omega (arith, z, none, zero_sum)
  where
    nothing : (p count : ℕ) → total (λ q. 0) p count ≡ 0
    nothing p zero = refl
    nothing p (suc count) = let ih = nothing (p + 1) count in omega (arith, ih)
crossing_times n x ls unused (e ∷ word) l a =
    let i = unsigned_abs e in
    let low = a.0.0 in
    let high = a.0.1 in
    let next = unused_after word i unused in
    let last = unused_after word (i + 1) next in
    let left = new_label word i unused in
    let right = new_label word (i + 1) next in
    let other = relabelled ls i left right in
    let length_other : length other ≡ n = length-set (set ls (i - 1) left) i right ∙ length-set ls (i - 1) left ∙ l in
    let ih = crossing_times n x other last word length_other a.1 in
    let here = entry_times e (get_or ls (i - 1) 0) (get_or ls i 0) left right x (crossings other last word) in
    let f = adds (e ∷ word) ls x in
    let g = adds word other x in
    let back : i + 1 - 1 ≡ i = omega arith in
    let set_left : get_or other (i - 1) 0 ≡ left = get_or-set_other (set ls (i - 1) left) i (i - 1) right 0 (λ s. omega (arith, s, low)) ∙ get_or-set_same ls (i - 1) left 0 (omega (arith, low, high, l)) in
    let set_right : get_or other (i + 1 - 1) 0 ≡ right =
    ap (λ k. get_or other k 0) back ∙ get_or-set_same (set ls (i - 1) left) i right 0 (let k = length-set ls (i - 1) left in omega (arith, k, high, l)) in
    let away : (q : ℕ) → 1 ≤ q → q ≢ i → q ≢ i + 1 → f q ≡ g q =
    λ q some s t.
    ap₂ (λ b v. cond b (is_at x v + is_at x q) 0) (touched_other e word q s t)
    (sym (get_or-set_other (set ls (i - 1) left) i (q - 1) right 0 (λ k. t (omega (arith, k, some))) ∙ get_or-set_other ls (i - 1) (q - 1) left 0 (λ k. s (omega (arith, k, some, low))))) in
    let swap = two_from f g i (i + 1) n (λ s. omega (arith, s)) away low (omega (arith, high)) (omega arith) (omega (arith, high)) in
    let f_left : f i ≡ is_at x (get_or ls (i - 1) 0) + is_at x i = ap (λ b. cond b (is_at x (get_or ls (i - 1) 0) + is_at x i) 0) (touched_left e word) in
    let f_right : f (i + 1) ≡ is_at x (get_or ls i 0) + is_at x (i + 1) =
    ap₂ (λ b k. cond b (is_at x (get_or ls k 0) + is_at x (i + 1)) 0) (touched_right e word) back in
    let g_left : g i ≡ cond (is_touched word i) (is_at x left + is_at x i) 0 = ap (λ v. cond (is_touched word i) (is_at x v + is_at x i) 0) set_left in
    let g_right : g (i + 1) ≡ cond (is_touched word (i + 1)) (is_at x right + is_at x (i + 1)) 0 = ap (λ v. cond (is_touched word (i + 1)) (is_at x v + is_at x (i + 1)) 0) set_right in
    let at_left = side (is_touched word i) unused i x in
    let at_right = side (is_touched word (i + 1)) next (i + 1) x in
    let one = used_bounds word i unused in
    let two = used_bounds word (i + 1) next in
    let more = used_up_bounds last word in
    let first = between_joined unused next last x one.0 two.0 in
    let second = between_joined unused last (used_up last word) x (let p = one.0 in let q = two.0 in omega (arith, p, q)) more.0 in
    omega (arith, here, ih, swap, f_left, f_right, g_left, g_right, at_left, at_right, first, second)
  where
    -- positions count from 1
    two_from : (f g : ℕ → ℕ) (a b count : ℕ) → a ≢ b → ((q : ℕ) → 1 ≤ q → q ≢ a → q ≢ b → f q ≡ g q) → 1 ≤ a → a < 1 + count → 1 ≤ b → b < 1 + count →
        total f 1 count + g a + g b ≡ total g 1 count + f a + f b
    two_from f g a b count d h la ha lb hb =
        let F : ℕ → ℕ = λ q. cond (q == 0) 0 (f q) in
        let G : ℕ → ℕ = λ q. cond (q == 0) 0 (g q) in
        let same = two_differ F G a b 1 count d (λ q s t. ⊎_elim (λ (e : q ≡ 0). zeros q (f q) (g q) e) (λ (k : q ≢ 0). ap (λ v. cond (q == 0) 0 v) (h q (omega (arith, k)) s t)) (cases_eq q 0)) la ha lb hb in
        let of_f = total_same F f 1 count (λ q lo hi. above q (f q) lo) in
        let of_g = total_same G g 1 count (λ q lo hi. above q (g q) lo) in
        let fa = above a (f a) la in let fb = above b (f b) lb in let ga = above a (g a) la in let gb = above b (g b) lb in
        omega (arith, same, of_f, of_g, fa, fb, ga, gb)
      where
        above : (q v : ℕ) → 1 ≤ q → cond (q == 0) 0 v ≡ v
        above q v l = grind (arith, nat_tests, l)

        zeros : (q v w : ℕ) → q ≡ 0 → cond (q == 0) 0 v ≡ cond (q == 0) 0 w
        zeros q v w e = grind (arith, nat_tests, e)

-- at the loops
loop_times : (x : ℕ) (word : List ℤ) (p count : ℕ) → times_in (labels item_labels (loops word p count)) x ≡ total (λ q. cond (is_touched word q) 0 (2 * is_at x q)) p count
loop_times x word p zero = refl
loop_times x word p (suc count) = plain (is_touched word p) p (loops word (p + 1) count) _ (loop_times x word (p + 1) count)
  where
    plain : (b : Bool) (p : ℕ) (items : List Item) (k : ℕ) → times_in (labels item_labels items) x ≡ k →
        times_in (labels item_labels (cond b items (Loop p ∷ items))) x ≡ cond b 0 (2 * is_at x p) + k
    plain true p items k e = omega (arith, e)
    plain false p items k e = let t = times_in-pair p p (labels item_labels items) x in omega (arith, e, t)

labels-append : (xs ys : List Item) → labels item_labels (xs ++ ys) ≡ labels item_labels xs ++ labels item_labels ys
labels-append [] ys = refl
labels-append (x ∷ xs) ys = ap (λ ls. item_labels x ++ ls) (labels-append xs ys) ∙ sym (append_assoc (item_labels x) (labels item_labels xs) (labels item_labels ys))

-- EACH LABEL STANDS TWICE
pub closed_times : (braid : BraidWord) (x : ℕ) → IsBraid braid → times_in (labels item_labels (closed braid)) x ≡ 2 * between 1 (used_up (braid.strands + 1) braid.word) x
closed_times braid x is =
    let n = braid.strands in
    let word = braid.word in
    let begin = range_with_len 1 n in
    let cs = crossings begin (n + 1) word in
    let ls = loops word 1 n in
    let split = ap (λ k. times_in k x) (labels-append cs ls) ∙ sum_by-append (λ y. cond (x == y) 1 0) (labels item_labels cs) (labels item_labels ls) in
    let a = crossing_times n x begin (n + 1) word (length-range_with_len 1 n) is.cross in
    let b = loop_times x word 1 n in
    let c = total_plus (adds word begin x) (λ q. cond (is_touched word q) 0 (2 * is_at x q)) 1 n in
    let d = total_same (λ q. adds word begin x q + cond (is_touched word q) 0 (2 * is_at x q)) (λ q. 2 * is_at x q) 1 n
    (λ q lo hi. both (is_touched word q) x q (get_or begin (q - 1) 0) (get_or-range_with_len 1 n (q - 1) 0 (omega (arith, lo, hi)) ∙ (let t : 1 + (q - 1) ≡ q = omega (arith, lo) in t))) in
    let e = total_at 1 n x in
    let order : n + 1 ≡ 1 + n = omega arith in
    let moved = ap (λ k. between 1 k x) order in
    let joined = between_joined 1 (n + 1) (used_up (n + 1) word) x (omega arith) (used_up_bounds (n + 1) word).0 in
    omega (arith, split, a, b, c, d, e, moved, joined)
  where
    both : (t : Bool) (x q v : ℕ) → v ≡ q → cond t (is_at x v + is_at x q) 0 + cond t 0 (2 * is_at x q) ≡ 2 * is_at x q
    both true x q v e = let k = ap (is_at x) e in omega (arith, k)
    both false x q v e = omega arith

-- ---- the diagram
all_members : (P : ℕ → Type 0) (xs : List ℕ) → ((x : ℕ) → is_member ◌==◌ xs x ≡ true → P x) → AllByRecursion P xs
all_members P [] h = tt
all_members P (x ∷ xs) h = (h x (grind (arith, nat_tests)), all_members P xs (λ y m. h y (grind (arith, m))))

crossings_sized : (word : List ℤ) (ls : List ℕ) (unused : ℕ) (items : List Item) → AllByRecursion HasItsSlots items → AllByRecursion HasItsSlots (crossings ls unused word ++ items)
crossings_sized [] ls unused items a = a
crossings_sized (pos n ∷ word) ls unused items a = (refl, crossings_sized word _ _ items a)
crossings_sized (negsuc n ∷ word) ls unused items a = (refl, crossings_sized word _ _ items a)

loops_sized : (word : List ℤ) (p count : ℕ) → AllByRecursion HasItsSlots (loops word p count)
loops_sized word p zero = tt
loops_sized word p (suc count) = plain (is_touched word p) (loops word (p + 1) count) (loops_sized word (p + 1) count)
  where
    plain : (b : Bool) (items : List Item) → AllByRecursion HasItsSlots items → AllByRecursion HasItsSlots (cond b items (Loop p ∷ items))
    plain true items a = a
    plain false items a = (tt, a)

crossings_length : (word : List ℤ) (ls : List ℕ) (unused : ℕ) → length (crossings ls unused word) ≡ length word
crossings_length [] ls unused = refl
crossings_length (e ∷ word) ls unused = ap suc (crossings_length word _ _)

loops_length : (word : List ℤ) (p count : ℕ) → length (loops word p count) ≤ count
loops_length word p zero = omega arith
loops_length word p (suc count) = plain (is_touched word p) (loops word (p + 1) count) (loops_length word (p + 1) count)
  where
    plain : (b : Bool) (items : List Item) → length items ≤ count → length (cond b items (Loop p ∷ items)) ≤ suc count
    plain true items a = omega (arith, a)
    plain false items a = omega (arith, a)

-- THE CLOSURE IS A DIAGRAM
pub closed_is_diagram : (braid : BraidWord) → IsBraid braid → IsDiagram (closed braid)
closed_is_diagram braid is =
    let n = braid.strands in
    let word = braid.word in
    let last = used_up (n + 1) word in
    let ls = labels item_labels (closed braid) in
    let few_strands : n ≤ 6 = is.few_strands in
    let few_entries : length word ≤ 250 = is.few_entries in
    record {
      few =
          (let e = length-append (crossings (range_with_len 1 n) (n + 1) word) (loops word 1 n) in
          let a = crossings_length word (range_with_len 1 n) (n + 1) in
          let b = loops_length word 1 n in
          let t : length (closed braid) ≤ 256 = omega (arith, e, a, b, few_strands, few_entries) in t);
      sizes = crossings_sized word (range_with_len 1 n) (n + 1) (loops word 1 n) (loops_sized word 1 n);
      in_range =
          all_members IsLabel ls
          (λ x m.
          let some = times_of_member x ls m in
          let t = closed_times braid x is in
          let b = (used_up_bounds (n + 1) word).1 in
          record { low = low_of last x (times_in ls x) some t; high = high_of last x (times_in ls x) some t (omega (arith, b, few_strands, few_entries)) });
      twice = all_members (λ x. times_in ls x ≡ 2) ls (λ x m. two_of last x (times_in ls x) (times_of_member x ls m) (closed_times braid x is));
    }
  where
    low_of : (last x k : ℕ) → 1 ≤ k → k ≡ 2 * between 1 last x → 1 ≤ x
    low_of last x k some e = grind (arith, nat_tests, some, e)

    high_of : (last x k : ℕ) → 1 ≤ k → k ≡ 2 * between 1 last x → last ≤ 600 → x ≤ 2000000
    high_of last x k some e l = grind (arith, nat_tests, some, e, l)

    two_of : (last x k : ℕ) → 1 ≤ k → k ≡ 2 * between 1 last x → k ≡ 2
    two_of last x k some e = grind (arith, nat_tests, some, e)

pub closed_from : (braid : BraidWord) (n k : ℕ) (word : List ℤ) → n ≡ braid.strands → k ≡ braid.strands → word ≡ braid.word →
    crossings (range_with_len 1 n) (n + 1) word ++ loops word 1 k ≡ closed braid
closed_from braid n k word a b e =
    ap (λ w. crossings (range_with_len 1 n) (n + 1) w ++ loops w 1 k) e
    ∙ ap (λ j. crossings (range_with_len 1 j) (j + 1) braid.word ++ loops braid.word 1 k) a
    ∙ ap (λ j. crossings (range_with_len 1 braid.strands) (braid.strands + 1) braid.word ++ loops braid.word 1 j) b
