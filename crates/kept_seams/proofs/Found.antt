-- A seam whose points keep their places, from what a look at the names tells: each name is counted before and after.
use Rattle.std.proofs.Common.{◌≡◌, ◌≢◌, ℕ, ◌+◌, ◌≤◌, ◌<◌, ◌==◌, if◌then◌else◌, List, [], ◌∷◌, length, slice_index, slice_set, refl, ap, ◌∙◌, arith}
use Rattle.std.proofs.Math.ListN.{length-set}
use Rattle.std.proofs.lemmas.Bool.Decides.{nat_tests}
use Rattle.std.proofs.lemmas.List.Sums.{sum_by-set}
use Rattle.graph_parts.proofs.Ends.{is_member-get_or}
use Rattle.arc_gluing.proofs.Places.{AreOnce-from_times}
use Rattle.kept_seams.specs.Kept.{FoundLaw}
use Rattle.kept_seams.proofs.Changed.{set_at}
use Rattle.list_lemmas.specs.Times.{times_in}
use Rattle.list_lemmas.proofs.Times.{times_in-append, times_of_member}

-- 1 where it is the name
is : ℕ → ℕ → ℕ
is x y = if x == y then 1 else 0

times_four : (ends : List ℕ) (x : ℕ) → length ends ≡ 4 → times_in ends x ≡ is x (slice_index ends 0) + is x (slice_index ends 1) + is x (slice_index ends 2) + is x (slice_index ends 3)
unfolding is
times_four [] x l = absurd (omega (arith, l))
times_four (p ∷ []) x l = absurd (omega (arith, l))
times_four (p ∷ q ∷ []) x l = absurd (omega (arith, l))
times_four (p ∷ q ∷ r ∷ []) x l = absurd (omega (arith, l))
times_four (p ∷ q ∷ r ∷ u ∷ []) x l = grind (arith, nat_tests)
times_four (p ∷ q ∷ r ∷ u ∷ v ∷ ends) x l = absurd (omega (arith, l))

times_set : (names : List ℕ) (i y x : ℕ) → i < length names → times_in (slice_set names i y) x + is x (slice_index names i) ≡ times_in names x + is x y
unfolding is
times_set names i y x l = sum_by-set (λ z. if x == z then 1 else 0) names i y 0 l

-- NEW ENDS TAKE THE PLACES OF TWO POINTS
pub found : FoundLaw
unfolding is
found inner ends s t a b c d single s_in t_in s_not_t four places sums a_at b_at c_new d_new c_not_d =
    let A = slice_index inner s in
    let B = slice_index inner t in
    let C = slice_index ends c in
    let D = slice_index ends d in
    let once = AreOnce-from_times inner single in
    let a_not_b : slice_index inner s ≢ slice_index inner t = λ e. s_not_t (once s t s_in t_in e) in
    let has_a = times_of_member (slice_index inner s) inner (is_member-get_or inner s s_in) in
    let has_b = times_of_member (slice_index inner t) inner (is_member-get_or inner t t_in) in
    let at_ends : (x : ℕ) → times_in ends x ≡ is x (slice_index inner s) + is x (slice_index inner t) + is x (slice_index ends c) + is x (slice_index ends d) =
    (λ x. times_four ends x four ∙ sums (λ i. is x (slice_index ends i)) ∙ (let p = ap (is x) a_at in let q = ap (is x) b_at in omega (arith, p, q))) in
    let counts : (x : ℕ) → (times_in inner x ≤ 1) × ((x ≡ slice_index inner s) → times_in inner x ≡ 1) × ((x ≡ slice_index inner t) → times_in inner x ≡ 1) × ((x ≡ slice_index ends c) → times_in inner x ≡ 0) × ((x ≡ slice_index ends d) → times_in inner x ≡ 0) =
    (λ x. let k = single x in (
      k,
      (λ e. let z = ap (times_in inner) e in omega (arith, z, k, has_a)),
      (λ e. let z = ap (times_in inner) e in omega (arith, z, k, has_b)),
      (λ e. ap (times_in inner) e ∙ c_new),
      (λ e. ap (times_in inner) e ∙ d_new),
    )) in
    record {
      few = λ x. let p = times_in-append inner ends x in let q = at_ends x in let k = counts x in
          let k0 = k.0 in let k1 = k.1 in let k2 = k.2 in let k3 = k.3 in let k4 = k.4 in
          let n = a_not_b in let m = c_not_d in
          grind (arith, nat_tests, p, q, k0, k1, k2, k3, k4, n, m);
      single = single;
      left_open = record {
        once = λ x.
            let p = times_in-append inner ends x in let q = at_ends x in let k = counts x in
            let k0 = k.0 in let k1 = k.1 in let k2 = k.2 in let k3 = k.3 in let k4 = k.4 in
            let n = a_not_b in let m = c_not_d in
            let u = times_set inner s (slice_index ends c) x s_in in
            let long = length-set inner s (slice_index ends c) in
            let v = times_set (slice_set inner s (slice_index ends c)) t (slice_index ends d) x (omega (arith, long, t_in)) in
            let w : slice_index (slice_set inner s (slice_index ends c)) t ≡ slice_index inner t = (let e = set_at inner s (slice_index ends c) t s_in in grind (arith, nat_tests, e, s_not_t)) in
            let z = ap (is x) w in
            grind (arith, nat_tests, p, q, k0, k1, k2, k3, k4, n, m, u, v, z);
      };
      s_in = s_in;
      t_in = t_in;
      s_not_t = s_not_t;
      four = four;
      places = places;
      a_at = a_at;
      b_at = b_at;
      left = refl;
    }
