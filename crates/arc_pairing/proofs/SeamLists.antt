-- The lists of a seam: names that stand once, slots and their places.
use Rattle.std.proofs.Common.{◌≡◌, ◌≢◌, ℕ, ◌+◌, ◌<◌, ◌≤◌, ◌==◌, Bool, true, cond, List, ◌++◌, length, map, slice_index, take, drop, IsPermutation, sym, ap, subst, ◌∙◌, arith, get_or-set_other, get_or-set_same}
use Rattle.std.specs.List.{filter, refill}
use Rattle.std.specs.List.Sorted.{IsNonDecreasing, IsStrictlyIncreasing}
use Rattle.std.specs.Set.{is_member}
use Rattle.std.proofs.Math.ListN.{set}
use Rattle.std.proofs.lemmas.Bool.{eq-eqb}
use Rattle.std.proofs.lemmas.Bool.Decides.{nat_tests}
use Rattle.std.proofs.lemmas.List.{get_or-map, length-map, length-take-le, take-append-le, take_all}
use Rattle.std.proofs.lemmas.List.Sorted.{sum_by-IsPermutation}
use Rattle.std.proofs.lemmas.List.Sums.{length-filter, count_by-le-length, position_or_len_is}
use Rattle.graph_parts.proofs.Ends.{is_member-get_or}
use Rattle.list_lemmas.specs.Times.{times_in}
use Rattle.arc_gluing.specs.Pairings.{AreOpen}
use Rattle.arc_gluing.specs.Seams.{place_in, IsSeam}
use Rattle.list_lemmas.proofs.Times.{times_of_member, member_of_times}
use Rattle.arc_gluing.proofs.EachState.{AreOpen-open_names_in}
use Rattle.arc_gluing.proofs.OneEdge.{same_or_not}
use Rattle.arc_gluing.proofs.Places.{AreOnce-from_times}
use Rattle.arc_gluing.proofs.Slots.{found_in}

-- ---- the names that stand once
pub open_permuted : (all found : List ℕ) → IsPermutation (filter (λ x. times_in all x == 1) all) found → AreOpen all found
open_permuted all found p = record { once = λ x. let f = (AreOpen-open_names_in all).once x in let e = sum_by-IsPermutation (λ z. cond (x == z) 1 0) (filter (λ y. times_in all y == 1) all) found p in omega (arith, f, e) }

pub increasing_permuted : (all found : List ℕ) → AreOpen all found → IsNonDecreasing found → IsStrictlyIncreasing found
increasing_permuted all found h up k l =
    let a = up k (k + 1) 0 (omega arith) l in
    let once = AreOnce-from_times found (λ x. let c = h.once x in grind (arith, nat_tests, c)) k (k + 1) (omega (arith, l)) l in
    let d : slice_index found k ≢ slice_index found (k + 1) = (λ e. let f = once e in absurd (omega (arith, f))) in
    omega (arith, a, d)

pub few_filtered : (test : ℕ → Bool) (all : List ℕ) (i : ℕ) → i < length all → length (filter test (take i all)) < length all
few_filtered test all i l =
    let a = length-filter test (take i all) in let b = count_by-le-length test (take i all) in let c = length-take-le i all (omega (arith, l)) in omega (arith, a, b, c, l)

-- ---- slots
pub first_slot : (all : List ℕ) (name place : ℕ) → place ≤ length all → ((k : ℕ) → k < place → name ≢ slice_index all k) → (place < length all → name ≡ slice_index all place) → place ≡ place_in all name
first_slot all name place l before here =
    sym (position_or_len_is (λ y. name == y) all place 0 l
    (λ k m. let d = before k m in grind (arith, nat_tests, d))
    (λ m. eq-eqb name (slice_index all place) (here m)))

pub placed_more : (places slots : List ℕ) (i u : ℕ) → u ≡ slice_index slots i → u < length places → i < length slots →
    ((j k : ℕ) → j < length slots → k < length slots → slice_index slots j ≡ slice_index slots k → j ≡ k) →
    ((k : ℕ) → k < i → slice_index places (slice_index slots k) ≡ k) → (k : ℕ) → k < i + 1 → slice_index (set places u i) (slice_index slots k) ≡ k
placed_more places slots i u at small l apart before k m =
    same_or_not k i
    (λ e. let P : ℕ → Type 0 = λ z. slice_index (set places u i) z ≡ k in
    subst P (at ∙ ap (slice_index slots) (sym e)) (get_or-set_same places u i 0 small ∙ sym e))
    (λ d.
    let other : slice_index slots k ≢ u = (λ e. d (apart k i (omega (arith, m, l, d)) l (e ∙ at))) in
    get_or-set_other places u (slice_index slots k) i 0 other ∙ before k (omega (arith, m, d)))

module _ (all found : List ℕ) (h : AreOpen all found) where
  in_all : (k : ℕ) → k < length found → is_member ◌==◌ all (slice_index found k) ≡ true
  in_all k l = let t = times_of_member (slice_index found k) found (is_member-get_or found k l) in let c = h.once (slice_index found k) in
      member_of_times (slice_index found k) all (grind (arith, nat_tests, t, c))

  module _ (slots : List ℕ) (are : slots ≡ map (place_in all) found) where
    long : length slots ≡ length found
    long = ap length are ∙ length-map found (place_in all)

    at : (k : ℕ) → k < length found → slice_index slots k ≡ place_in all (slice_index found k)
    at k l = ap (λ xs. slice_index xs k) are ∙ get_or-map (place_in all) found k 0 0 l

    pub small_slots : (k : ℕ) → k < length slots → slice_index slots k < length all
    small_slots k l = let w = long in let m : k < length found = omega (arith, w, l) in let e = at k m in let f = (found_in all (slice_index found k) (in_all k m)).0 in omega (arith, e, f)

    pub distinct_slots : (j k : ℕ) → j < length slots → k < length slots → slice_index slots j ≡ slice_index slots k → j ≡ k
    distinct_slots j k l m e =
        let w = long in
        let jl : j < length found = omega (arith, w, l) in let kl : k < length found = omega (arith, w, m) in
        let name : ℕ → ℕ = slice_index all in
        let same : slice_index found j ≡ slice_index found k =
        sym ((found_in all (slice_index found j) (in_all j jl)).1) ∙ ap name (sym (at j jl) ∙ e ∙ at k kl) ∙ (found_in all (slice_index found k) (in_all k kl)).1 in
        AreOnce-from_times found (λ x. let c = h.once x in grind (arith, nat_tests, c)) j k jl kl same

-- THE FACTS OF A SEAM, from what its parts were made of
pub made_seam : (names ends found inner last outer end_slots left_slots places : List ℕ) → length names ≤ 24 → length ends ≤ 24 → length found ≤ 24 → ((i k : ℕ) → i < k → k < length names → slice_index names i ≢ slice_index names k) →
    ((x : ℕ) → times_in (names ++ ends) x ≤ 2) → AreOpen (names ++ ends) found → inner ≡ names → last ≡ ends → outer ≡ found →
    end_slots ≡ map (place_in (names ++ ends)) ends → left_slots ≡ map (place_in (names ++ ends)) found →
    ((i : ℕ) → i < length left_slots → slice_index places (slice_index left_slots i) ≡ i) → IsSeam inner last outer end_slots left_slots places
made_seam names ends found inner last outer end_slots left_slots places few_names few_ends few_left apart few open_ a b d es ls placed =
    let P : List ℕ → Type 0 = λ xs. IsSeam xs last outer end_slots left_slots places in
    let Q : List ℕ → Type 0 = λ xs. IsSeam names xs outer end_slots left_slots places in
    let R : List ℕ → Type 0 = λ xs. IsSeam names ends xs end_slots left_slots places in
    subst P (sym a) (subst Q (sym b) (subst R (sym d) record {
      few_names = few_names;
      few_ends = few_ends;
      few_left = few_left;
      apart = apart;
      few = few;
      left_open = open_;
      ends_at = es;
      left_at = ls;
      placed = λ k l. placed k (let n = long (names ++ ends) found open_ left_slots ls in omega (arith, n, l));
    }))

-- a list of the same length refills a list whole
pub refill_whole : (xs ys : List ℕ) → length ys ≡ length xs → refill (length xs) xs ys ≡ ys
refill_whole xs ys e =
    let fits : length xs ≤ length ys = omega (arith, e) in
    take-append-le (length xs) ys (drop (length ys) xs) fits ∙ take_all (length xs) ys (omega (arith, e))
