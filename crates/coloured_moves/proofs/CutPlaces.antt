-- The second place of an edge comes behind its first, so cut items fit.
use Rattle.std.proofs.Common.{◌⊎◌, inl, inr, ltb, Some, None, unwrap_or, ◌≡◌, ◌≢◌, ℕ, zero, suc, ◌+◌, ◌<◌, ◌≤◌, ◌==◌, ◌||◌, Bool, true, false, cond, not, List, [], ◌∷◌, length, slice_index, refl, sym, ap, ap₂, ◌∙◌, arith, ⊎_elim, subst}
use Rattle.std.specs.List.{range_with_len}
use Rattle.std.specs.Set.{is_member}
use Rattle.std.proofs.lemmas.Bool.{lt-ltb, ltb-true, cases_Bool, eqb-true, eq-eqb, and_parts, cases_eq}
use Rattle.std.proofs.lemmas.Bool.Decides.{nat_tests}
use Rattle.list_lemmas.specs.Times.{times_in}
use Rattle.pd_reader.specs.declared.item.Item.{Item}
use Rattle.planar_check.specs.Places.{other_place, is_across, first_passing, first_place}
use Rattle.planar_check.proofs.Others.{across}
use Rattle.cables.specs.Strands.{Strands}
use Rattle.cables.proofs.NameCounts.{at}
use Rattle.list_lemmas.proofs.Times.{times_in-cons}
use Rattle.diagram_moves.specs.Rewriting.{crossing_labels, map_from, at_places}
use Rattle.diagram_moves.specs.Moves.{second_place, first_place_of, cut_labels}
use Rattle.planar_check.specs.Components.{rank}
use Rattle.list_lemmas.proofs.Times.{member_of_times}
use Rattle.std.proofs.lemmas.List.Quantifiers.{position-Some}
use Rattle.diagram_moves.proofs.PlaceLemmas.{place_labels_are, index_has, passing, range_has, in_range, one_place, length-map_from}
use Rattle.pd_reader.specs.declared.item.Item.TheVariants as item
use Rattle.coloured_moves.proofs.Recut.{Fit}

place_with : (xs : List ℕ) (e : ℕ) → 1 ≤ times_in xs e → (i : ℕ) × (i < length xs) × (slice_index xs i ≡ e)
place_with [] e h = absurd (omega (arith, h))
place_with (x ∷ xs) e h =
    let c = times_in-cons x xs e in
    ⊎_elim (λ (s : e ≡ x). (0, omega arith, sym s))
    (λ d. (let away = out e x d in let r = place_with xs e (omega (arith, h, c, away)) in (suc r.0, omega (arith, r.1), r.2)))
    (cases_eq e x)
  where
    out : (z y : ℕ) → z ≢ y → at z y ≡ 0
    out z y d = grind (arith, nat_tests, d)

another : (xs : List ℕ) (e p : ℕ) → 2 ≤ times_in xs e → (q : ℕ) × (q ≢ p) × (q < length xs) × (slice_index xs q ≡ e)
another [] e p h = absurd (omega (arith, h))
another (x ∷ xs) e zero h =
    let c = times_in-cons x xs e in
    let b : at e x ≤ 1 = elim (e == x) as (λ t. cond t 1 0 ≤ 1) [ true ↦ omega arith | false ↦ omega arith ] in
    let r = place_with xs e (omega (arith, h, c, b)) in
    (suc r.0, (λ s. omega (arith, s)), omega (arith, r.1), r.2)
another (x ∷ xs) e (suc p) h =
    let c = times_in-cons x xs e in
    ⊎_elim (λ (s : e ≡ x). (0, (λ t. omega (arith, t)), omega arith, sym s))
    (λ d. (let away = out e x d in let r = another xs e p (omega (arith, h, c, away)) in (suc r.0, (λ s. r.1 (omega (arith, s))), omega (arith, r.2), r.3)))
    (cases_eq e x)
  where
    out : (z y : ℕ) → z ≢ y → at z y ≡ 0
    out z y d = grind (arith, nat_tests, d)

-- the place at which a label stands first
pub record AreTwo (ls : List ℕ) (e first second : ℕ) : Type 0 where
  pub first_low : first < length ls
  pub first_is : slice_index ls first ≡ e
  pub second_low : second < length ls
  pub second_is : slice_index ls second ≡ e
  pub order : first < second

two_places : (ls : List ℕ) (e : ℕ) → times_in ls e ≡ 2 → AreTwo ls e (rank ls e) (other_place ls (first_place_of ls e))
unfolding other_place
two_places ls e two =
    let n = length ls in
    let range = range_with_len 0 n in
    let f = rank ls e in
    let has = index_has ls e (member_of_times e ls (omega (arith, two))) in
    let some : first_place ls e ≡ Some f = ap (λ z. cond z (Some f) None) (lt-ltb f n has.0) in
    let first_is : first_place_of ls e ≡ f = ap (λ found. unwrap_or found 0) some in
    let none_before = (position-Some (λ label. label == e) ls f 0 some).2 in
    let other = another ls e f (omega (arith, two)) in
    let b = passing (is_across ls f) range f other.0 (range_has n other.0 other.2) (across ls f other.0 other.1 (other.3 ∙ sym has.1)) in
    let s = first_passing (is_across ls f) range f in
    let t = and_parts (not (s == f)) (slice_index ls s == slice_index ls f) b.0 in
    let s_is : slice_index ls s ≡ e = eqb-true (slice_index ls s) (slice_index ls f) t.1 ∙ has.1 in
    let s_low = in_range n s b.1 in
    let differ = unequal s f t.0 in
    let P : ℕ → Type 0 = λ place. AreTwo ls e f (other_place ls place) in
    let order : f < s = ⊎_elim (λ (h : s < f). absurd (let out = none_before s h in let in_it = eq-eqb (slice_index ls s) e s_is in grind (arith, out, in_it))) (λ h. h) (sides s f differ) in
    subst P (sym first_is) record { first_low = has.0; first_is = has.1; second_low = s_low; second_is = s_is; order = order }
  where
    unequal : (s f : ℕ) → not (s == f) ≡ true → s ≢ f
    unequal s f t e = grind (arith, nat_tests, t, e)

    sides : (s f : ℕ) → s ≢ f → (s < f) ⊎ (f < s)
    sides s f d = ⊎_elim (λ t. inl (ltb-true s f t)) (λ t. inr (grind (arith, nat_tests, t, d))) (cases_Bool (ltb s f))

-- THE FIRST PLACE COMES BEFORE THE SECOND
pub first_before_second : (items : List Item) (e : ℕ) → times_in (crossing_labels items) e ≡ 2 → AreTwo (crossing_labels items) e (rank (crossing_labels items) e) (second_place items e)
first_before_second items e two =
    let P : List ℕ → Type 0 = λ ls. AreTwo (crossing_labels items) e (rank (crossing_labels items) e) (other_place ls (first_place_of ls e)) in
    subst P (sym (place_labels_are items)) (two_places (crossing_labels items) e two)

-- ---- cut items fit
module _ (strands : Strands) (e v there : ℕ) (is : strands.first v ≡ strands.second e) (no_box : strands.boxed v ≡ false) (first : ℕ) (order : first < there) where
  pub fits : (p : ℕ) (seen ls : List ℕ) → ((q : ℕ) → q < length ls → slice_index ls q ≢ v) → ((q : ℕ) → q < length ls → p + q ≡ there → slice_index ls q ≡ e) → ((q : ℕ) → q < length ls → p + q ≡ first → slice_index ls q ≡ e) →
      (first < p → is_member ◌==◌ seen e ≡ true) → Fit strands e v there is no_box p seen ls
  fits p seen [] other at_there at_first before = tt
  fits p seen (l ∷ ls) other at_there at_first before = (
    other 0 (omega arith),
    (λ s. (at_there 0 (omega arith) (omega (arith, s)), before (omega (arith, s, order)))),
    fits (p + 1) (l ∷ seen) ls (λ q h. other (suc q) (omega (arith, h))) (λ q h s. at_there (suc q) (omega (arith, h)) (omega (arith, s))) (λ q h s. at_first (suc q) (omega (arith, h)) (omega (arith, s)))
        (λ h. ⊎_elim (λ (s : p ≡ first). front l e (is_member ◌==◌ seen e) (at_first 0 (omega arith) (omega (arith, s)))) (λ d. later (e == l) (is_member ◌==◌ seen e) (before (omega (arith, h, d)))) (cases_eq p first)),
  )
    where
      front : (l e : ℕ) (t : Bool) → l ≡ e → ((e == l) || t) ≡ true
      front l e t s = grind (arith, nat_tests, s)

      later : (s t : Bool) → t ≡ true → (s || t) ≡ true
      later s t h = grind (arith, h)

-- ---- two cuts are one after the other
map_from-cut : (s v t w p : ℕ) (xs : List ℕ) → map_from (cut_labels s v t w) p xs ≡ map_from (one_place s v) p (map_from (one_place t w) p xs)
map_from-cut s v t w p [] = refl
map_from-cut s v t w p (x ∷ xs) = ap (λ ns. cut_labels s v t w p x ∷ ns) (map_from-cut s v t w (p + 1) xs)

pub at_places-cut : (s v t w p : ℕ) (items : List Item) → at_places (cut_labels s v t w) p items ≡ at_places (one_place s v) p (at_places (one_place t w) p items)
at_places-cut s v t w p [] = refl
at_places-cut s v t w p (item.X slots ∷ rest) =
    ap₂ (λ xs ys. item.X xs ∷ ys) (map_from-cut s v t w p slots)
    (at_places-cut s v t w (p + length slots) rest ∙ ap (λ n. at_places (one_place s v) n (at_places (one_place t w) (p + length slots) rest)) (ap (λ n. p + n) (sym (length-map_from (one_place t w) p slots))))
at_places-cut s v t w p (item.Loop l ∷ rest) = ap (λ ys. item.Loop l ∷ ys) (at_places-cut s v t w p rest)
