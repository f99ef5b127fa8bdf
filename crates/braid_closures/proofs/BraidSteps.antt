-- The crossings of a closure as steps of a word, with a new name where a strand comes to its beginning label again: that label q has
-- there the name 16 q + 1, and all other labels l have the names 16 l. Then no name stands before it is given.
use Rattle.std.proofs.Common.{◌≡◌, ◌≢◌, ◌⊎◌, inl, inr, ℕ, zero, suc, ◌+◌, ◌*◌, ◌<◌, ◌≤◌, ◌==◌, ◌||◌, Bool, true, false, cond, ℤ, pos, negsuc, List, [], ◌∷◌, ◌++◌, map, refl, sym, ap, ◌∙◌, arith, ⊎_elim, subst}
use Rattle.std.specs.Int.RustNames.{unsigned_abs}
use Rattle.std.specs.List.{AllByRecursion}
use Rattle.std.specs.Set.{is_member}
use Rattle.std.proofs.lemmas.Bool.{cases_Bool, cases_eq, eqb-true, or_cases}
use Rattle.std.proofs.lemmas.Bool.Decides.{nat_tests}
use Rattle.std.proofs.lemmas.List.Elements.{All-map, All-weaker}
use Rattle.graph_parts.proofs.Distinct.{is_member-append}
use Rattle.graph_parts.proofs.Ends.{is_member-itself}
use Rattle.state_sums.specs.Networks.{names_of}
use Rattle.arc_gluing.proofs.EachState.{names_of-append}
use Rattle.piece_laws.proofs.NameCounts.{member_mapped}
use Rattle.root_quantum.specs.Parameters.{Parameters}
use Rattle.strand_words.specs.Boxes.{bottom}
use Rattle.strand_words.specs.Words.{top}
use Rattle.word_networks.specs.PlacedGrids.{close_steps}
use Rattle.word_networks.specs.Spelling.{Spells}
use Rattle.word_networks.specs.Steps.{Step, letter, name_after, names_after, points_after, seen_of, seen_after, points_of, step_nodes, AreSteps, AreStepsFrom, new_names, AreDistinct, HavePoints}
use Rattle.word_networks.specs.Strands.{strand_of, strand_points}
use Rattle.word_networks.proofs.Fresh.{AreSteps-from, AreApart}
use Rattle.word_networks.proofs.Grids.{step_nodes-append}
use Rattle.word_networks.proofs.NetworkLaws.{spelled_points}
use Rattle.word_networks.proofs.Strands.{member_strands, strands_member, strand_top, strand_bottom}
use Rattle.box_laws.specs.Traces.{AreOn}
use Rattle.box_laws.proofs.ClosedPairings.{close_are_steps}
use Rattle.braid_closures.specs.Closures.{is_touched, unused_after}
use Rattle.braid_closures.specs.Letters.{letter_of}
use Rattle.braid_closures.proofs.ClosedDiagrams.{touched_left, touched_right, used_bounds}

-- each entry crosses two of n strands
abbrev pub Cross : ℕ → List ℤ → Type 0
Cross n word = AllByRecursion (λ e. (1 ≤ unsigned_abs e) × (unsigned_abs e < n)) word

-- ---- letters
pub place_is : (p : Parameters) (e : ℤ) → 1 ≤ unsigned_abs e → (letter_of p e).at + 1 ≡ unsigned_abs e
place_is p (pos n) l = omega (arith, l)
place_is p (negsuc n) l = omega arith

pub letters_on : (p : Parameters) (n : ℕ) (word : List ℤ) → Cross n word → AreOn n (map (letter_of p) word)
letters_on p n [] a = tt
letters_on p n (e ∷ word) a =
    let place = place_is p e a.0.0 in
    let high = a.0.1 in
    (omega (arith, place, high), letters_on p n word a.1)

-- ---- steps
-- the name of a new label
abbrev pub fresh : List ℤ → ℕ → ℕ → ℕ
fresh later q unused = cond (is_touched later q) (16 * unused) (16 * q + 1)

abbrev pub steps : Parameters → ℕ → List ℤ → List Step
steps p unused [] = []
steps p unused (e ∷ word) =
    letter (top (letter_of p e).at) (top ((letter_of p e).at + 1)) (letter_of p e).straight (letter_of p e).hook
    (fresh word (unsigned_abs e) unused) (fresh word (unsigned_abs e + 1) (unused_after word (unsigned_abs e) unused))
    ∷ steps p (unused_after word (unsigned_abs e + 1) (unused_after word (unsigned_abs e) unused)) word

pub steps_spell : (p : Parameters) (unused : ℕ) (word : List ℤ) → Spells (map (letter_of p) word) (steps p unused word)
steps_spell p unused [] = tt
steps_spell p unused (e ∷ word) = (refl, refl, refl, refl, steps_spell p (unused_after word (unsigned_abs e + 1) (unused_after word (unsigned_abs e) unused)) word)

-- the names of strands that stand
abbrev pub base : ℕ → ℕ
base i = 16 * (i + 1)

abbrev pub begin : ℕ → ℕ
begin u = base (strand_of u)

-- ---- the names behind the steps
pub after_bottom : (p : Parameters) (unused : ℕ) (word : List ℤ) (name : ℕ → ℕ) (k : ℕ) → names_after name (steps p unused word) (bottom k) ≡ name (bottom k)
after_bottom p unused [] name k = refl
after_bottom p unused (e ∷ word) name k =
    let i = unsigned_abs e in
    let left = fresh word i unused in
    let next = unused_after word i unused in
    let right = fresh word (i + 1) next in
    let at = (letter_of p e).at in
    after_bottom p (unused_after word (i + 1) next) word (name_after name (letter (top at) (top (at + 1)) (letter_of p e).straight (letter_of p e).hook left right)) k
    ∙ plain at k left right (name (bottom k))
  where
    plain : (at k left right v : ℕ) → cond (k + k + 1 == at + at) left (cond (k + k + 1 == at + 1 + (at + 1)) right v) ≡ v
    plain at k left right v = grind (arith, nat_tests)

-- the names behind a letter, at its two points and elsewhere
pub at_left : (at k left right v : ℕ) → k ≡ at → cond (k + k == at + at) left (cond (k + k == at + 1 + (at + 1)) right v) ≡ left
at_left at k left right v e = grind (arith, nat_tests, e)

pub at_right : (at k left right v : ℕ) → k ≡ at + 1 → cond (k + k == at + at) left (cond (k + k == at + 1 + (at + 1)) right v) ≡ right
at_right at k left right v e = grind (arith, nat_tests, e)

pub at_other : (at k left right v : ℕ) → k ≢ at → k ≢ at + 1 → cond (k + k == at + at) left (cond (k + k == at + 1 + (at + 1)) right v) ≡ v
at_other at k left right v d f = grind (arith, nat_tests, d, f)

pub after_top : (p : Parameters) (n unused : ℕ) (word : List ℤ) (name : ℕ → ℕ) (k : ℕ) → Cross n word →
    names_after name (steps p unused word) (top k) ≡ cond (is_touched word (k + 1)) (16 * (k + 1) + 1) (name (top k))
after_top p n unused [] name k a = refl
after_top p n unused (e ∷ word) name k a =
    let i = unsigned_abs e in
    let next = unused_after word i unused in
    let at = (letter_of p e).at in
    let place = place_is p e a.0.0 in
    let step = letter (top at) (top (at + 1)) (letter_of p e).straight (letter_of p e).hook (fresh word i unused) (fresh word (i + 1) next) in
    after_top p n (unused_after word (i + 1) next) word (name_after name step) k a.1
    ∙ plain at i k (16 * unused) (16 * next) (name (top k)) (is_touched word) place
  where
    finish : (t : Bool) (k u v w : ℕ) → u ≡ cond t v (16 * (k + 1) + 1) → cond t (16 * (k + 1) + 1) u ≡ cond true (16 * (k + 1) + 1) w
    finish true k u v w e = refl
    finish false k u v w e = e

    here : (i q : ℕ) (b : Bool) → (q ≡ i) ⊎ (q ≡ i + 1) → ((q == i || q == i + 1) || b) ≡ true
    here i q b (inl e) = first i q b e
      where
        first : (i q : ℕ) (b : Bool) → q ≡ i → ((q == i || q == i + 1) || b) ≡ true
        first i q b e = grind (arith, nat_tests, e)
    here i q b (inr e) = second i q b e
      where
        second : (i q : ℕ) (b : Bool) → q ≡ i + 1 → ((q == i || q == i + 1) || b) ≡ true
        second i q b e = grind (arith, nat_tests, e)

    away : (i q : ℕ) (b : Bool) → q ≢ i → q ≢ i + 1 → ((q == i || q == i + 1) || b) ≡ b
    away i q b d f = grind (arith, nat_tests, d, f)

    plain : (at i k u w v : ℕ) (touched : ℕ → Bool) → at + 1 ≡ i →
        cond (touched (k + 1)) (16 * (k + 1) + 1) (cond (k + k == at + at) (cond (touched i) u (16 * i + 1)) (cond (k + k == at + 1 + (at + 1)) (cond (touched (i + 1)) w (16 * (i + 1) + 1)) v))
        ≡ cond ((k + 1 == i || k + 1 == i + 1) || touched (k + 1)) (16 * (k + 1) + 1) v
    plain at i k u w v touched place =
        let left = cond (touched i) u (16 * i + 1) in
        let right = cond (touched (i + 1)) w (16 * (i + 1) + 1) in
        ⊎_elim
        (λ (e : k ≡ at).
        let same : i ≡ k + 1 = omega (arith, e, place) in
        ap (cond (touched (k + 1)) (16 * (k + 1) + 1)) (at_left at k left right v e)
        ∙ finish (touched (k + 1)) k left u v (ap (λ j. cond (touched j) u (16 * j + 1)) same)
        ∙ ap (λ b. cond b (16 * (k + 1) + 1) v) (sym (here i (k + 1) (touched (k + 1)) (inl (sym same)))))
        (λ (d : k ≢ at).
        ⊎_elim
        (λ (e : k ≡ at + 1).
        let same : i + 1 ≡ k + 1 = omega (arith, e, place) in
        ap (cond (touched (k + 1)) (16 * (k + 1) + 1)) (at_right at k left right v e)
        ∙ finish (touched (k + 1)) k right w v (ap (λ j. cond (touched j) w (16 * j + 1)) same)
        ∙ ap (λ b. cond b (16 * (k + 1) + 1) v) (sym (here i (k + 1) (touched (k + 1)) (inr (sym same)))))
        (λ (f : k ≢ at + 1).
        ap (cond (touched (k + 1)) (16 * (k + 1) + 1)) (at_other at k left right v d f)
        ∙ ap (λ b. cond b (16 * (k + 1) + 1) v) (sym (away i (k + 1) (touched (k + 1)) (λ e. d (omega (arith, e, place))) (λ e. f (omega (arith, e, place))))))
        (cases_eq k (at + 1)))
        (cases_eq k at)

-- ---- new names
-- a label from `unused` on, or the last of a position
abbrev pub IsNew : ℕ → List ℤ → ℕ → Type 0
IsNew unused word z = ((l : ℕ) × (unused ≤ l) × (z ≡ 16 * l)) ⊎ ((q : ℕ) × (is_touched word q ≡ true) × (z ≡ 16 * q + 1))

fresh_is : (later : List ℤ) (q unused : ℕ) → ((is_touched later q ≡ true) × (fresh later q unused ≡ 16 * unused) × (unused_after later q unused ≡ unused + 1)) ⊎ ((is_touched later q ≡ false) × (fresh later q unused ≡ 16 * q + 1))
fresh_is later q unused =
    ⊎_elim (λ t. inl (t, ap (λ b. cond b (16 * unused) (16 * q + 1)) t, ap (λ b. cond b (unused + 1) unused) t))
    (λ t. inr (t, ap (λ b. cond b (16 * unused) (16 * q + 1)) t)) (cases_Bool (is_touched later q))

pub later_touched : (e : ℤ) (word : List ℤ) (q : ℕ) → is_touched word q ≡ true → is_touched (e ∷ word) q ≡ true
later_touched e word q t = plain (q == unsigned_abs e || q == unsigned_abs e + 1) (is_touched word q) t
  where
    plain : (a b : Bool) → b ≡ true → (a || b) ≡ true
    plain a b t = grind (arith, t)

pub in_new : (p : Parameters) (unused : ℕ) (word : List ℤ) (z : ℕ) → is_member ◌==◌ (new_names (steps p unused word)) z ≡ true → IsNew unused word z
in_new p unused [] z m = absurd (grind (arith, m))
in_new p unused (e ∷ word) z m =
    let i = unsigned_abs e in
    let next = unused_after word i unused in
    let last = unused_after word (i + 1) next in
    let left = fresh word i unused in
    let right = fresh word (i + 1) next in
    let rest = new_names (steps p last word) in
    let one = (used_bounds word i unused).0 in
    let two = (used_bounds word (i + 1) next).0 in
    ⊎_elim
    (λ t. let same = eqb-true z right t in
    ⊎_elim (λ (f : (is_touched word (i + 1) ≡ true) × (right ≡ 16 * next) × (unused_after word (i + 1) next ≡ next + 1)). inl (next, one, same ∙ f.1))
    (λ (f : (is_touched word (i + 1) ≡ false) × (right ≡ 16 * (i + 1) + 1)). inr (i + 1, touched_right e word, same ∙ f.1)) (fresh_is word (i + 1) next))
    (λ r. ⊎_elim
    (λ t. let same = eqb-true z left t in
    ⊎_elim (λ (f : (is_touched word i ≡ true) × (left ≡ 16 * unused) × (next ≡ unused + 1)). inl (unused, omega arith, same ∙ f.1))
    (λ (f : (is_touched word i ≡ false) × (left ≡ 16 * i + 1)). inr (i, touched_left e word, same ∙ f.1)) (fresh_is word i unused))
    (λ s. ⊎_elim
    (λ (w : (l : ℕ) × (last ≤ l) × (z ≡ 16 * l)). inl (w.0, (let l = w.1 in omega (arith, l, one, two)), w.2))
    (λ (w : (q : ℕ) × (is_touched word q ≡ true) × (z ≡ 16 * q + 1)). inr (w.0, later_touched e word w.0 w.1, w.2)) (in_new p last word z s))
    (or_cases (z == left) (is_member ◌==◌ rest z) r))
    (or_cases (z == right) (is_member ◌==◌ (left ∷ rest) z) m)

pub not_member : (xs : List ℕ) (x : ℕ) → (is_member ◌==◌ xs x ≡ true → ⊥) → is_member ◌==◌ xs x ≡ false
not_member xs x h = ⊎_elim (λ t. absurd (h t)) (λ f. f) (cases_Bool (is_member ◌==◌ xs x))

-- a name given now is not given later
never_later : (word : List ℤ) (q unused last : ℕ) → unused_after word q unused ≤ last → IsNew last word (fresh word q unused) → ⊥
never_later word q unused last l new =
    ⊎_elim
    (λ (f : (is_touched word q ≡ true) × (fresh word q unused ≡ 16 * unused) × (unused_after word q unused ≡ unused + 1)).
    ⊎_elim (λ (w : (j : ℕ) × (last ≤ j) × (fresh word q unused ≡ 16 * j)). even unused w.0 last (sym f.1 ∙ w.2) w.1 (let k = f.2 in omega (arith, k, l)))
    (λ (w : (j : ℕ) × (is_touched word j ≡ true) × (fresh word q unused ≡ 16 * j + 1)). parity unused w.0 (sym f.1 ∙ w.2)) new)
    (λ (f : (is_touched word q ≡ false) × (fresh word q unused ≡ 16 * q + 1)).
    ⊎_elim (λ (w : (j : ℕ) × (last ≤ j) × (fresh word q unused ≡ 16 * j)). parity w.0 q (sym w.2 ∙ f.1))
    (λ (w : (j : ℕ) × (is_touched word j ≡ true) × (fresh word q unused ≡ 16 * j + 1)).
    let same : w.0 ≡ q = odd w.0 q (sym w.2 ∙ f.1) in
    clash (is_touched word q) (sym (ap (is_touched word) same) ∙ w.1) f.0) new)
    (fresh_is word q unused)
  where
    even : (u j last : ℕ) → 16 * u ≡ 16 * j → last ≤ j → u + 1 ≤ last → ⊥
    even u j last e a b = omega (arith, e, a, b)

    parity : (u j : ℕ) → 16 * u ≡ 16 * j + 1 → ⊥
    parity u j e = omega (arith, e)

    odd : (j q : ℕ) → 16 * j + 1 ≡ 16 * q + 1 → j ≡ q
    odd j q e = omega (arith, e)

    clash : (b : Bool) → b ≡ true → b ≡ false → ⊥
    clash b t f = grind (arith, t, f)

-- the two of one entry are apart
two_apart : (word : List ℤ) (i unused : ℕ) → fresh word (i + 1) (unused_after word i unused) ≢ fresh word i unused
two_apart word i unused e =
    let next = unused_after word i unused in
    ⊎_elim
    (λ (f : (is_touched word i ≡ true) × (fresh word i unused ≡ 16 * unused) × (next ≡ unused + 1)).
    ⊎_elim (λ (g : (is_touched word (i + 1) ≡ true) × (fresh word (i + 1) next ≡ 16 * next) × (unused_after word (i + 1) next ≡ next + 1)). (let x = f.1 in let y = g.1 in let z = f.2 in omega (arith, e, x, y, z)))
    (λ (g : (is_touched word (i + 1) ≡ false) × (fresh word (i + 1) next ≡ 16 * (i + 1) + 1)). (let x = f.1 in let y = g.1 in omega (arith, e, x, y))) (fresh_is word (i + 1) next))
    (λ (f : (is_touched word i ≡ false) × (fresh word i unused ≡ 16 * i + 1)).
    ⊎_elim (λ (g : (is_touched word (i + 1) ≡ true) × (fresh word (i + 1) next ≡ 16 * next) × (unused_after word (i + 1) next ≡ next + 1)). (let x = f.1 in let y = g.1 in omega (arith, e, x, y)))
    (λ (g : (is_touched word (i + 1) ≡ false) × (fresh word (i + 1) next ≡ 16 * (i + 1) + 1)). (let x = f.1 in let y = g.1 in omega (arith, e, x, y))) (fresh_is word (i + 1) next))
    (fresh_is word i unused)

new_distinct : (p : Parameters) (unused : ℕ) (word : List ℤ) → AreDistinct (new_names (steps p unused word))
new_distinct p unused [] = tt
new_distinct p unused (e ∷ word) =
    let i = unsigned_abs e in
    let next = unused_after word i unused in
    let last = unused_after word (i + 1) next in
    let left = fresh word i unused in
    let right = fresh word (i + 1) next in
    let rest = new_names (steps p last word) in
    let two = (used_bounds word (i + 1) next).0 in (
      not_member (left ∷ rest) right
          (λ m. ⊎_elim (λ t. two_apart word i unused (eqb-true right left t)) (λ s. never_later word (i + 1) next last (omega arith) (in_new p last word right s)) (or_cases (right == left) (is_member ◌==◌ rest right) m)),
      (not_member rest left (λ m. never_later word i unused last two (in_new p last word left m)), new_distinct p last word),
    )

have_points : (p : Parameters) (n unused : ℕ) (word : List ℤ) → Cross n word → HavePoints (strand_points 0 n) (steps p unused word)
have_points p n unused [] a = tt
have_points p n unused (e ∷ word) a =
    let place = place_is p e a.0.0 in
    let high = a.0.1 in
    let at = (letter_of p e).at in
    let first = strand_top at in
    let second = strand_top (at + 1) in (
      (λ t. omega (arith, t)),
      strands_member 0 n (top at) (omega arith) (omega (arith, first, place, high)),
      strands_member 0 n (top (at + 1)) (omega arith) (omega (arith, second, place, high)),
      have_points p n (unused_after word (unsigned_abs e + 1) (unused_after word (unsigned_abs e) unused)) word a.1,
    )

-- the names at the beginning are no new names
begin_apart : (p : Parameters) (n : ℕ) (word : List ℤ) → AreApart (map begin (strand_points 0 n)) (new_names (steps p (n + 1) word))
begin_apart p n word z m =
    not_member (map begin (strand_points 0 n)) z
    (λ k.
    let r = member_mapped begin (strand_points 0 n) z k in
    let below = (member_strands 0 n r.0 r.1).1 in
    let is = r.2 in
    ⊎_elim (λ (w : (l : ℕ) × (n + 1 ≤ l) × (z ≡ 16 * l)). (let l = w.1 in let e = w.2 in omega (arith, l, e, is, below)))
    (λ (w : (q : ℕ) × (is_touched word q ≡ true) × (z ≡ 16 * q + 1)). (let e = w.2 in omega (arith, e, is))) (in_new p (n + 1) word z m))

AreSteps-append : (points seen : List ℕ) (s t : List Step) → AreSteps points seen s → AreSteps (points_after points s) (seen_after seen s) t → AreSteps points seen (s ++ t)
AreSteps-append points seen [] t a b = b
AreSteps-append points seen (step ∷ s) t a b = (a.0, AreSteps-append (points_of points step) (seen_of seen step) s t a.1 b)

-- each bottom stands in the arcs
bottom_named : (name : ℕ → ℕ) (i count k : ℕ) → i ≤ k → k < i + count → is_member ◌==◌ (names_of (step_nodes name (close_steps i count))) (name (bottom k)) ≡ true
bottom_named name i zero k lo hi = absurd (omega (arith, lo, hi))
bottom_named name i (suc count) k lo hi =
    ⊎_elim (λ (e : i ≡ k). second (name (top i)) (name (bottom i)) (name (bottom k)) _ (ap (λ j. name (bottom j)) (sym e)))
    (λ (d : i ≢ k). further (name (top i)) (name (bottom i)) (name (bottom k)) _ (bottom_named name (i + 1) count k (omega (arith, lo, d)) (omega (arith, hi)))) (cases_eq i k)
  where
    second : (a b z : ℕ) (xs : List ℕ) → z ≡ b → is_member ◌==◌ (a ∷ b ∷ xs) z ≡ true
    second a b z xs e = grind (arith, nat_tests, e)

    further : (a b z : ℕ) (xs : List ℕ) → is_member ◌==◌ xs z ≡ true → is_member ◌==◌ (a ∷ b ∷ xs) z ≡ true
    further a b z xs m = grind (arith, m)

-- THE STEPS MAY BE TAKEN
pub are_steps : (p : Parameters) (n : ℕ) (word : List ℤ) → Cross n word → AreStepsFrom (strand_points 0 n) begin (steps p (n + 1) word ++ close_steps 0 n)
are_steps p n word a =
    let points = strand_points 0 n in
    let seen = map begin points in
    let up = steps p (n + 1) word in
    let closing = close_steps 0 n in
    let last = names_after begin up in
    let all_there : (u : ℕ) → 0 ≤ strand_of u → strand_of u < 0 + n → is_member ◌==◌ points u ≡ true = λ u lo hi. strands_member 0 n u lo hi in
    record {
      are_steps =
          AreSteps-append points seen up closing (AreSteps-from points seen up (have_points p n (n + 1) word a) (new_distinct p (n + 1) word) (begin_apart p n word))
          (subst (λ ps. AreSteps ps (seen_after seen up) closing) (sym (spelled_points points (map (letter_of p) word) up (steps_spell p (n + 1) word))) (close_are_steps points (seen_after seen up) 0 n all_there));
      meets_all =
          All-map (λ z. is_member ◌==◌ (names_of (step_nodes begin (up ++ closing))) z ≡ true) begin points
          (All-weaker (λ u. is_member ◌==◌ points u ≡ true) (λ u. is_member ◌==◌ (names_of (step_nodes begin (up ++ closing))) (begin u) ≡ true)
          (λ u m.
          let k = strand_of u in
          let below = (member_strands 0 n u m).1 in
          let named_so : last (bottom k) ≡ begin u = after_bottom p (n + 1) word begin k ∙ ap base (strand_bottom k) in
          let arcs = step_nodes last closing in
          let there : is_member ◌==◌ (names_of arcs) (begin u) ≡ true = sym (ap (is_member ◌==◌ (names_of arcs)) named_so) ∙ bottom_named last 0 n k (omega arith) (omega (arith, below)) in
          ap (λ ns. is_member ◌==◌ (names_of ns) (begin u)) (step_nodes-append begin up closing)
          ∙ ap (λ ns. is_member ◌==◌ ns (begin u)) (names_of-append (step_nodes begin up) arcs)
          ∙ is_member-append (names_of (step_nodes begin up)) (names_of arcs) (begin u)
          ∙ either (is_member ◌==◌ (names_of (step_nodes begin up)) (begin u)) (is_member ◌==◌ (names_of arcs) (begin u)) there) points (is_member-itself points));
    }
  where
    either : (s t : Bool) → t ≡ true → (s || t) ≡ true
    either s t p = grind (arith, p)
