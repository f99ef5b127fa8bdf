-- What is accepted is a text of the value and of no other, and what is refused is no text, and is refused
-- where it stops being the beginning of one. The one premise is that each text is of tokens.
use Rattle.std.proofs.Common.{inl, inr, ◌≡◌, ℕ, ◌<◌, ◌≤◌, List, [], ◌++◌, length, take, drop, subst, arith, take-append-drop, length-take-le, length-append}
use Rattle.text_shapes.specs.Reach.{AreTokens, place, reach}
use Rattle.text_shapes.specs.Readers.{Accepts, Refuses}
use Rattle.text_shapes.specs.Shapes.{BeginsText, IsLongestBeginning, IsText}
use Rattle.text_shapes.proofs.ReachLemmas.{reach-spelled, reach_completes, reach_local, spelled-reach}

module _ {V : Type 0} (fits : V → Type 0) (tokens : V → List (List ℕ)) (good : (v : V) → fits v → AreTokens (tokens v)) (bytes : List ℕ) where
  pub accepted_text : (v : V) → Accepts fits tokens bytes v → IsText fits tokens bytes v
  accepted_text v a = (a.fits_shape, spelled-reach [] (tokens v) bytes (omega (arith, a.reaches)))

  -- a text reaches past its end
  text_reaches : (v : V) → IsText fits tokens bytes v → length bytes < place bytes 0 (tokens v)
  text_reaches v t = omega (arith, reach-spelled (tokens v) bytes (good v t.0) t.1)

  pub accepted_only : (v w : V) → Accepts fits tokens bytes v → IsText fits tokens bytes w → w ≡ v
  accepted_only v w a t = elim (a.others w t.0) [ inl e ↦ e | inr le ↦ absurd (omega (arith, le, text_reaches w t)) ]

  pub refused_none : (p : ℕ) (w : V) → Refuses fits tokens bytes p → IsText fits tokens bytes w → ⊥
  refused_none p w r t = omega (arith, r.most w t.0, r.within, text_reaches w t)

  longest : (p n : ℕ) → Refuses fits tokens bytes p → n ≤ length bytes → BeginsText fits tokens (take n bytes) → n ≤ p
  longest p n r le b =
      let front = take n bytes in
      let len : length front ≡ n = length-take-le n bytes le in
      let whole = reach-spelled (tokens b.1) (front ++ b.0) (good b.1 b.2.0) b.2.1 in
      let here : length front ≤ reach [] (tokens b.1) (front ++ drop n bytes) = reach_local [] (tokens b.1) front b.0 (drop n bytes) (omega (arith, whole, length-append front b.0)) in
      let same : n ≤ reach [] (tokens b.1) bytes = subst (λ (xs : List ℕ). n ≤ reach [] (tokens b.1) xs) (take-append-drop n bytes) (omega (arith, here, len)) in
      omega (arith, same, r.most b.1 b.2.0)

  -- A REFUSAL STANDS AT THE END OF THE LONGEST BEGINNING
  pub refused_longest : (p : ℕ) → Refuses fits tokens bytes p → IsLongestBeginning fits tokens bytes p
  refused_longest p r =
      let c = reach_completes [] (tokens r.furthest) bytes p (good r.furthest r.fits_shape) r.within (omega (arith, r.reached)) in
      record {
        within = r.within;
        begins = (c.0, r.furthest, (r.fits_shape, spelled-reach [] (tokens r.furthest) (take p bytes ++ c.0) c.1));
        longest = λ n le b. longest p n r le b;
      }
