-- The partners by labels as a function: each name's partner is the place of the first other name with its label.
use Rattle.std.proofs.Common.{◌≡◌, ◌≢◌, ℕ, zero, suc, ◌+◌, ◌≤◌, ◌<◌, Bool, true, false, cond, not, ◌&&◌, ◌==◌, List, [], ◌∷◌, length, slice_index, refl, sym, ap, ◌∙◌, arith}
use Rattle.std.specs.List.{position_or_len}
use Rattle.std.specs.Set.{is_member}
use Rattle.std.proofs.lemmas.Bool.{eq-eqb}
use Rattle.std.proofs.lemmas.Bool.Decides.{nat_tests}
use Rattle.std.proofs.lemmas.List.{get_or-map, length-map}
use Rattle.std.proofs.lemmas.List.Sums.{sum_by-cons}
use Rattle.list_lemmas.proofs.Times.{times_of_member, member_of_times}
use Rattle.arc_gluing.proofs.OneEdge.{same_or_not}
use Rattle.list_lemmas.proofs.Items.{same_items, member_at}
use Rattle.graph_parts.proofs.Ends.{is_member-get_or}
use Rattle.graph_parts.specs.Labels.{label_of}
use Rattle.list_lemmas.specs.Times.{times_in}
use Rattle.arc_gluing.specs.Seams.{place_in}
use Rattle.arc_gluing.specs.Mates.{IsPairedLabels, label_partners}

pub first_place : (p : ℕ → Bool) (xs : List ℕ) (j : ℕ) → j < length xs → p (slice_index xs j) ≡ true → ((k : ℕ) → k < j → p (slice_index xs k) ≡ false) → position_or_len p xs ≡ j
first_place p [] j l t f = absurd (omega arith)
first_place p (x ∷ xs) zero l t f = ap (λ b. cond (not b) (1 + position_or_len p xs) 0) t
first_place p (x ∷ xs) (suc j) l t f =
    let ih = first_place p xs j (omega arith) t (λ k m. f (suc k) (omega arith)) in
    ap (λ b. cond (not b) (1 + position_or_len p xs) 0) (f 0 (omega arith)) ∙ (let e = ih in omega (arith, e))

-- no name twice
abbrev pub AreOnce : List ℕ → Type 0
AreOnce xs = (i j : ℕ) → i < length xs → j < length xs → slice_index xs i ≡ slice_index xs j → i ≡ j

pub AreOnce-from_times : (xs : List ℕ) → ((x : ℕ) → times_in xs x ≤ 1) → AreOnce xs
AreOnce-from_times [] h i j p q e = absurd (omega arith)
AreOnce-from_times (x ∷ xs) h zero zero p q e = refl
AreOnce-from_times (x ∷ xs) h zero (suc j) p q e =
    let t = times_of_member x xs (ap (is_member ◌==◌ xs) e ∙ is_member-get_or xs j (omega arith)) in
    let s = sum_by-cons (λ z. cond (x == z) 1 0) x xs in let k = h x in absurd (grind (arith, nat_tests, t, s, k))
AreOnce-from_times (x ∷ xs) h (suc i) zero p q e =
    let t = times_of_member x xs (ap (is_member ◌==◌ xs) (sym e) ∙ is_member-get_or xs i (omega arith)) in
    let s = sum_by-cons (λ z. cond (x == z) 1 0) x xs in let k = h x in absurd (grind (arith, nat_tests, t, s, k))
AreOnce-from_times (x ∷ xs) h (suc i) (suc j) p q e =
    ap suc (AreOnce-from_times xs (λ z. let s = sum_by-cons (λ w. cond (z == w) 1 0) x xs in let k = h z in omega (arith, s, k)) i j (omega arith) (omega arith) e)

pub place_in-at : (xs : List ℕ) → AreOnce xs → (i : ℕ) → i < length xs → place_in xs (slice_index xs i) ≡ i
place_in-at xs once i l =
    first_place (λ y. slice_index xs i == y) xs i l (eq-eqb (slice_index xs i) (slice_index xs i) refl)
    (λ k m. let o = once i k l (omega (arith, m, l)) in grind (arith, nat_tests, o, m))

pub place_in-found : (xs : List ℕ) → AreOnce xs → (x : ℕ) → 1 ≤ times_in xs x → (place_in xs x < length xs) × (slice_index xs (place_in xs x) ≡ x)
place_in-found xs once x p =
    let m = member_at xs x (member_of_times x xs p) in
    let k : place_in xs x ≡ m.0 = ap (place_in xs) (sym m.2) ∙ place_in-at xs once m.0 m.1 in
    (omega (arith, k, m.1), ap (slice_index xs) k ∙ m.2)

module _ (edges : List (ℕ × ℕ)) (names partner : List ℕ) (once : AreOnce names) (h : IsPairedLabels edges names partner) where
  tests : ℕ → ℕ → Bool
  tests x y = (label_of edges y == label_of edges x) && not (y == x)

  found : (i : ℕ) → i < length names → position_or_len (λ y. (label_of edges y == label_of edges (slice_index names i)) && not (y == slice_index names i)) names ≡ slice_index partner i
  found i l =
      let w = h.whole in
      let j = slice_index partner i in
      let jl : slice_index partner i < length names = (let k = h.is_pairing.within i (omega (arith, w, l)) in omega (arith, k, w)) in
      let e = h.joined i l in
      let d : slice_index names (slice_index partner i) ≢ slice_index names i = λ t. h.is_pairing.apart i (omega (arith, w, l)) (once (slice_index partner i) i jl l t) in
      first_place (λ y. (label_of edges y == label_of edges (slice_index names i)) && not (y == slice_index names i)) names (slice_index partner i) jl
      (grind (arith, nat_tests, e, d))
      (λ k m. let kl : k < length names = omega (arith, m, jl) in
      let o : label_of edges (slice_index names i) ≡ label_of edges (slice_index names k) → k ≢ i → k ≡ slice_index partner i = h.only i k l kl in
      let s = λ (t : k ≡ i). ap (slice_index names) t in
      same_or_not k i
      (λ t. let q = ap (slice_index names) t in grind (arith, nat_tests, q))
      (λ ne. let r : label_of edges (slice_index names i) ≢ label_of edges (slice_index names k) = (λ t. let z = o t ne in absurd (omega (arith, z, m))) in grind (arith, nat_tests, r)))

  -- THE PAIRING BY PARTS
  pub label_partners-is : label_partners edges names ≡ partner
  label_partners-is =
      let f : ℕ → ℕ = λ x. position_or_len (λ y. (label_of edges y == label_of edges x) && not (y == x)) names in
      let lm = length-map names f in
      same_items (label_partners edges names) partner (let w = h.whole in omega (arith, lm, w))
      (λ i l. let il : i < length names = omega (arith, lm, l) in get_or-map f names i 0 0 il ∙ found i il)
