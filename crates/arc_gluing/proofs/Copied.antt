-- The old pairing taken as the first mates, without a step for each of its pairs: its partners are what the steps would give.
use Rattle.std.proofs.Common.{◌≡◌, ℕ, ◌+◌, ◌≤◌, ◌<◌, false, ◌==◌, ⊎_elim, List, ◌++◌, length, slice_index, refl, sym, ap, ◌∙◌, arith}
use Rattle.std.specs.Set.{is_member}
use Rattle.std.proofs.lemmas.Bool.{cases_Bool}
use Rattle.std.proofs.lemmas.Bool.Decides.{nat_tests}
use Rattle.arc_gluing.proofs.AllEdges.{IsMated-after}
use Rattle.arc_gluing.proofs.Kept.{Keeps-own, Keeps-both, zip-Keeps, label_count-within}
use Rattle.arc_gluing.proofs.PointPairs.{times_in-pairs}
use Rattle.list_lemmas.proofs.Times.{times_of_member, member_of_times, times_in-append}
use Rattle.graph_parts.proofs.Ends.{is_member-get_or}
use Rattle.graph_parts.specs.Labels.{label_of, label_count}
use Rattle.state_sums.specs.Networks.{IsPairing}
use Rattle.arc_gluing.specs.Mates.{mates_after, pairs_below, IsMated}
use Rattle.arc_gluing.specs.Seams.{AreOpenBehind}
use Rattle.list_lemmas.proofs.Items.{member_at}
use Rattle.list_lemmas.specs.Times.{times_in}
use Rattle.graph_parts.specs.Ends.{ends_of}

-- mates that are equal where it counts serve as well
pub IsMated-same : (times mate other label : ℕ → ℕ) → IsMated times mate label → ((x : ℕ) → 1 ≤ times x → other x ≡ mate x) → IsMated times other label
IsMated-same times mate other label h e = record {
  few = h.few;
  stays = λ x p. let k = ap times (e x p) in let s = h.stays x p in omega (arith, k, s);
  back = λ x p. ap other (e x p) ∙ e (mate x) (h.stays x p) ∙ h.back x p;
  along = λ x p. ap label (e x p) ∙ h.along x p;
  alone = λ x p. e x (let q = p in omega (arith, q)) ∙ h.alone x p;
  met = λ x p t. h.met x p (sym (e x (let q = p in omega (arith, q))) ∙ t);
  only = λ x y p q t d. h.only x y p q t d ∙ sym (e x p);
}

module _ (names ends left old : List ℕ) (rest : List (ℕ × ℕ)) (po : IsPairing old) (lo : length old ≡ length names) (h : AreOpenBehind names ends left)
    (rest_ends : (x : ℕ) → times_in (ends_of rest) x ≡ times_in ends x) (single : (x : ℕ) → times_in names x ≤ 1) where
  abbrev ps : List (ℕ × ℕ)
  ps = pairs_below names old (length old)

  times_out : (x : ℕ) → times_in (ends_of rest ++ left) x ≡ times_in ends x + times_in left x
  times_out x = let a = times_in-append (ends_of rest) left x in let b = rest_ends x in omega (arith, a, b)

  times_all : (x : ℕ) → times_in (ends_of ps ++ (ends_of rest ++ left)) x ≡ times_in names x + times_in ends x + times_in left x
  times_all x = let a = times_in-append (ends_of ps) (ends_of rest ++ left) x in let b = times_in-pairs names old po x lo in let c = times_out x in omega (arith, a, b, c)

  start : IsMated (times_in (ends_of ps ++ (ends_of rest ++ left))) (λ x. x) (λ x. x)
  start = record {
    few = λ x. let a = times_all x in let b = h.few x in let c = h.once x in grind (arith, nat_tests, a, b, c);
    stays = λ x p. p;
    back = λ x p. refl;
    along = λ x p. refl;
    alone = λ x p. refl;
    met = λ x p. absurd (let a = times_all x in let b = h.few x in let c = h.once x in grind (arith, nat_tests, a, b, c, p));
    only = λ x y p q e d. absurd (d (sym e));
  }

  pub stepped : IsMated (times_in (ends_of rest ++ left)) (mates_after (λ x. x) ps) (label_of ps)
  stepped = IsMated-after ps (ends_of rest ++ left) (λ x. x) (λ x. x) start

  in_out : (i : ℕ) → i < length names → 1 ≤ times_in (ends_of rest ++ left) (slice_index names i)
  in_out i l =
      let x = slice_index names i in let a = times_of_member x names (is_member-get_or names i l) in
      let b = times_out x in let c = h.once x in let d = h.few x in let e = single x in grind (arith, nat_tests, a, b, c, d, e)

  module _ (once : (i j : ℕ) → i < length names → j < length names → slice_index names i ≡ slice_index names j → i ≡ j) where
    partner_is : (i : ℕ) → i < length names → mates_after (λ x. x) ps (slice_index names i) ≡ slice_index names (slice_index old i)
    partner_is i l =
        let jl : slice_index old i < length names = (let k = po.within i (omega (arith, lo, l)) in omega (arith, k, lo)) in
        let e = zip-Keeps (label_of ps) (slice_index names) names old (Keeps-both (label_of ps) names old po lo (Keeps-own ps)) i l (omega (arith, lo, l)) in
        sym (stepped.only (slice_index names i) (slice_index names (slice_index old i)) (in_out i l) (in_out (slice_index old i) jl) e
        (λ t. po.apart i (omega (arith, lo, l)) (once (slice_index old i) i jl l t)))

    -- MATES COPIED FROM THE OLD PAIRING
    pub copied : (mate : ℕ → ℕ) → ((i : ℕ) → i < length names → mate (slice_index names i) ≡ slice_index names (slice_index old i)) →
        ((x : ℕ) → is_member ◌==◌ names x ≡ false → 1 ≤ times_in ends x → mate x ≡ x) → IsMated (times_in (ends_of rest ++ left)) mate (label_of ps)
    copied mate at_old at_new =
        IsMated-same (times_in (ends_of rest ++ left)) (mates_after (λ x. x) ps) mate (label_of ps) stepped
        (λ x p. ⊎_elim
        (λ t. let m = member_at names x t in
        ap mate (sym m.2) ∙ at_old m.0 m.1 ∙ sym (partner_is m.0 m.1) ∙ ap (mates_after (λ y. y) ps) m.2)
        (λ f.
        let zero_ : times_in names x ≡ 0 = ⊎_elim (λ y. let z = y in grind (arith, nat_tests, z)) (λ n. let k = member_of_times x names in let z = n in absurd (grind (arith, nat_tests, k, z, f))) (cases_Bool (times_in names x == 0)) in
        let a = times_out x in let b = h.once x in let c = h.few x in
        let two : 2 ≤ times_in (ends_of rest ++ left) x = grind (arith, nat_tests, a, b, c, zero_, p) in
        let has : 1 ≤ times_in ends x = grind (arith, nat_tests, a, b, c, zero_, p) in
        at_new x f has ∙ sym (stepped.alone x two))
        (cases_Bool (is_member ◌==◌ names x)))

  -- the old names count as the names to come
  pub copied-count : label_count (label_of ps) (names ++ ends) ≡ label_count (label_of ps) (ends_of rest ++ left)
  copied-count =
      let a = label_count-within (label_of ps) (names ++ ends) (ends_of rest ++ left)
      (λ x m. let t = times_of_member x (names ++ ends) m in let u = times_in-append names ends x in let v = times_out x in let w = h.once x in let z = h.few x in let y = single x in
      member_of_times x (ends_of rest ++ left) (grind (arith, nat_tests, t, u, v, w, z, y))) in
      let b = label_count-within (label_of ps) (ends_of rest ++ left) (names ++ ends)
      (λ x m. let t = times_of_member x (ends_of rest ++ left) m in let u = times_in-append names ends x in let v = times_out x in let w = h.once x in
      member_of_times x (names ++ ends) (grind (arith, nat_tests, t, u, v, w))) in
      omega (arith, a, b)
