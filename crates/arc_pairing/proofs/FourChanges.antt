-- Four partners changed one after the other: the points that are changed are in range, and the last list is a pairing.
--
-- Others cite: third_in, fourth_in, end_joined, end_crossed.
use Rattle.std.proofs.Common.{◌≡◌, ◌≢◌, ℕ, ◌<◌, List, length, slice_index, slice_set, sym, ap, subst, ◌∙◌, arith}
use Rattle.std.proofs.Math.ListN.{length-set}
use Rattle.std.proofs.lemmas.Bool.Decides.{nat_tests}
use Rattle.state_sums.specs.Networks.{IsPairing}
use Rattle.kept_seams.specs.Changes.{joined_at, crossed_at}
use Rattle.kept_seams.proofs.Changed.{IsPairing-joined, IsPairing-crossed}
use Rattle.arc_pairing.specs.Pairings.{IsShortPairing}

module _ (p : List ℕ) (h : IsShortPairing p) (s t x y : ℕ) (ls : s < length p) (lt : t < length p) (st : s ≢ t)
    (at_s : x ≡ slice_index p s) (at_t : y ≡ slice_index p t) (apart : x ≢ t)
    (q0 q1 q2 : List ℕ) (u v : ℕ) (is0 : q0 ≡ p) (is1 : q1 ≡ slice_set q0 s u) (is2 : q2 ≡ slice_set q1 t v) where
  x_in : x < length p
  x_in = let w = h.paired.within s ls in omega (arith, w, at_s)

  y_in : y < length p
  y_in = let w = h.paired.within t lt in omega (arith, w, at_t)

  long : length q2 ≡ length p
  long = ap length is2 ∙ length-set q1 t v ∙ ap length is1 ∙ length-set q0 s u ∙ ap length is0

  pub third_in : x < length q2
  third_in = let l = long in let m = x_in in omega (arith, l, m)

  module _ (q3 : List ℕ) (w : ℕ) (is3 : q3 ≡ slice_set q2 x w) where
    pub fourth_in : y < length q3
    fourth_in = let l = long in let m = y_in in let k = ap length is3 ∙ length-set q2 x w in omega (arith, l, m, k)

    module _ (q4 : List ℕ) (z : ℕ) (is4 : q4 ≡ slice_set q3 y z) where
      not_paired : slice_index p s ≢ t
      not_paired e = apart (at_s ∙ e)

      whole : q4 ≡ slice_set (slice_set (slice_set (slice_set p s u) t v) x w) y z
      whole = cc (is0, is1, is2, is3, is4)

      -- EACH IS A PAIRING AGAIN
      pub end_joined : u ≡ t → v ≡ s → w ≡ y → z ≡ x → (q4 ≡ joined_at p s t) × IsPairing q4
      end_joined a b c d =
          let e : q4 ≡ joined_at p s t = (let k = whole in let n = not_paired in grind (arith, nat_tests, k, a, b, c, d, at_s, at_t, n)) in
          (e, subst IsPairing (sym e) (IsPairing-joined p h.paired s t ls lt st not_paired))

      pub end_crossed : u ≡ y → v ≡ x → w ≡ t → z ≡ s → (q4 ≡ crossed_at p s t) × IsPairing q4
      end_crossed a b c d =
          let e : q4 ≡ crossed_at p s t = (let k = whole in let n = not_paired in grind (arith, nat_tests, k, a, b, c, d, at_s, at_t, n)) in
          (e, subst IsPairing (sym e) (IsPairing-crossed p h.paired s t ls lt st not_paired))
