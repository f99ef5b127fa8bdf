-- The mirror image of a pairing is a pairing: points are counted from the other end, and to do so twice changes nothing.
use Rattle.std.proofs.Common.{◌≡◌, ◌≢◌, ℕ, ◌-◌, ◌<◌, ◌≤◌, List, length, reverse, slice_index, take, ap, ◌∙◌, arith}
use Rattle.std.proofs.lemmas.List.{get_or-map, length-map, get_or-reverse, length-reverse, take_all}
use Rattle.state_sums.specs.Networks.{IsPairing}
use Rattle.arc_pairing.specs.Pairings.{IsShortPairing, mirrored}

module _ (p : List ℕ) where
  long : length (mirrored p) ≡ length p
  long = length-map (reverse p) (λ other. length p - 1 - other) ∙ length-reverse p

  at : (i : ℕ) → i < length p → slice_index (mirrored p) i ≡ length p - 1 - slice_index p (length p - 1 - i)
  at i l =
      get_or-map (λ other. length p - 1 - other) (reverse p) i 0 0 (let k = length-reverse p in omega (arith, k, l))
      ∙ ap (λ other. length p - 1 - other) (get_or-reverse p i 0 l)

  module _ (h : IsPairing p) (i : ℕ) (l : i < length p) where
    -- the point that i was, and its partner
    abbrev was : ℕ
    was = length p - 1 - i

    in_range : length p - 1 - i < length p
    in_range = omega (arith, l)

    bound : slice_index p (length p - 1 - i) < length p
    bound = h.within (length p - 1 - i) in_range

    within : slice_index (mirrored p) i < length p
    within = let e = at i l in let b = bound in omega (arith, e, b)

    apart : slice_index (mirrored p) i ≢ i
    apart t = h.apart (length p - 1 - i) in_range (let e = at i l in let b = bound in omega (arith, e, b, t, l))

    back : slice_index (mirrored p) (slice_index (mirrored p) i) ≡ i
    back =
        let e = at i l in
        let b = bound in
        let there : length p - 1 - slice_index (mirrored p) i ≡ slice_index p (length p - 1 - i) = omega (arith, e, b) in
        let again = ap (slice_index p) there ∙ h.back (length p - 1 - i) in_range in
        let f = at (slice_index (mirrored p) i) within in
        omega (arith, f, again, l)

  -- THE MIRROR IMAGE IS A PAIRING
  pub IsShortPairing-mirrored : IsShortPairing p → IsShortPairing (mirrored p)
  IsShortPairing-mirrored h = record {
    short = let e = long in let s = h.short in omega (arith, e, s);
    paired = record {
      within = λ i l. let e = long in let k = within h.paired i (omega (arith, e, l)) in omega (arith, e, k);
      apart = λ i l. let e = long in apart h.paired i (omega (arith, e, l));
      back = λ i l. let e = long in back h.paired i (omega (arith, e, l));
    };
  }

  -- what the loop over the points has built at its end
  pub mirrored_whole : (built : List ℕ) (n : ℕ) → length p ≤ n → built ≡ take n (mirrored p) → built ≡ mirrored p
  mirrored_whole built n l e = e ∙ take_all n (mirrored p) (let k = long in omega (arith, k, l))
