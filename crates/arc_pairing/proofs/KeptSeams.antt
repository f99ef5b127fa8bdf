-- The places that a seam keeps, from what the search for them looked at.
use Rattle.std.proofs.Common.{◌≡◌, ◌≢◌, ℕ, suc, ◌≤◌, ◌<◌, ◌==◌, ⊎_elim, Option, IfSome, List, [], ◌∷◌, ◌++◌, length, slice_index, slice_set, sym, ap, subst, ◌∙◌, arith}
use Rattle.std.specs.List.{refill}
use Rattle.std.proofs.Math.ListN.{length-set}
use Rattle.std.proofs.lemmas.Bool.{cases_lt, eqb-true}
use Rattle.std.proofs.lemmas.Bool.Decides.{nat_tests}
use Rattle.std.proofs.lemmas.List.Sums.{passes_at_first}
use Rattle.list_lemmas.specs.Times.{times_in}
use Rattle.list_lemmas.proofs.Items.{member_at}
use Rattle.list_lemmas.proofs.Times.{times_in-cons, member_of_times}
use Rattle.arc_gluing.specs.Pairings.{AreOpen}
use Rattle.arc_gluing.specs.Seams.{place_in}
use Rattle.arc_pairing.proofs.SeamLists.{refill_whole}
use Rattle.kept_seams.specs.Kept.{AreFour, IsKept}

-- names of which no two are one stand once
pub single_from_apart : (names : List ℕ) → ((i k : ℕ) → i < k → k < length names → slice_index names i ≢ slice_index names k) → (x : ℕ) → times_in names x ≤ 1
single_from_apart [] apart x = omega arith
single_from_apart (y ∷ names) apart x =
    let c = times_in-cons y names x in
    let ih = single_from_apart names (λ i k l m e. apart (suc i) (suc k) (omega (arith, l)) (omega (arith, m)) e) x in
    let none : x ≡ y → times_in names x ≡ 0 =
    (λ e. ⊎_elim (λ few. omega (arith, few))
    (λ some. let m = member_at names x (member_of_times x names some) in let l = m.1 in absurd (apart 0 (suc m.0) (omega arith) (omega (arith, l)) (sym e ∙ sym m.2)))
    (cases_lt (times_in names x) 1)) in
    grind (arith, nat_tests, c, ih, none)

-- what is said of lists is said of equal ones
pub kept_at : {K : Type 0} (found : Option K) (P : List ℕ → List ℕ → List ℕ → K → Type 0) (names ends left inner last outer : List ℕ) →
    inner ≡ names → last ≡ ends → outer ≡ left → IfSome found (P names ends left) → IfSome found (P inner last outer)
kept_at found P names ends left inner last outer a b c h =
    subst (λ xs. IfSome found (P xs last outer)) (sym a) (subst (λ ys. IfSome found (P names ys outer)) (sym b) (subst (λ zs. IfSome found (P names ends zs)) (sym c) h))

-- a name stands at its place
placed_at : (names : List ℕ) (x place : ℕ) → place ≡ place_in names x → place < length names → x ≡ slice_index names place
placed_at names x place is l =
    let first : place_in names x < length names = omega (arith, is, l) in
    eqb-true x (slice_index names (place_in names x)) (passes_at_first (λ y. x == y) names 0 first) ∙ ap (slice_index names) (sym is)

-- the same four, with the last two exchanged
pub swapped : (a b c d : ℕ) → AreFour a b c d → AreFour a b d c
swapped a b c d h = record { a_in = h.a_in; b_in = h.b_in; c_in = h.d_in; d_in = h.c_in; each = λ i l. let o = h.each i l in grind (arith, o) }

-- a written copy, read back
pub written : (names made lent read : List ℕ) (s x t y : ℕ) → made ≡ names → lent ≡ made → read ≡ refill (length made) made (slice_set (slice_set lent s x) t y) →
    read ≡ slice_set (slice_set names s x) t y
written names made lent read s x t y is lends back =
    back ∙ refill_whole made (slice_set (slice_set lent s x) t y) (length-set (slice_set lent s x) t y ∙ length-set lent s x ∙ ap length lends) ∙ ap (λ xs. slice_set (slice_set xs s x) t y) (lends ∙ is)

-- WHAT WAS FOUND IS KEPT
pub found_kept : (names ends outer : List ℕ) (s t a b c d : ℕ) → ((x : ℕ) → times_in (names ++ ends) x ≤ 2) → ((x : ℕ) → times_in names x ≤ 1) → AreOpen (names ++ ends) outer →
    length ends ≡ 4 → AreFour a b c d → s ≡ place_in names (slice_index ends a) → t ≡ place_in names (slice_index ends b) → s < length names → t < length names → s ≢ t →
    outer ≡ slice_set (slice_set names s (slice_index ends c)) t (slice_index ends d) → IsKept names ends outer s t a b c d
found_kept names ends outer s t a b c d few single left_open four places at_s at_t s_in t_in apart is = record {
  few = few;
  single = single;
  left_open = left_open;
  s_in = s_in;
  t_in = t_in;
  s_not_t = apart;
  four = four;
  places = places;
  a_at = placed_at names (slice_index ends a) s at_s s_in;
  b_at = placed_at names (slice_index ends b) t at_t t_in;
  left = is;
}
