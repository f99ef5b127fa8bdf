-- What a slide that is not refused tells: its edges stand at places and lie on different components, and the sum of signs between any
-- two components is even.
use Rattle.std.proofs.Common.{◌≡◌, ◌≢◌, ℕ, ◌<◌, ◌≤◌, ◌%◌, ◌==◌, ◌&&◌, Bool, true, false, not, cond, List, [], ◌∷◌, length, Option, Some, None, Result, Ok, Err, unsigned_abs, refl, sym, ap, ◌∙◌, arith, ⊎_elim}
use Rattle.std.specs.Prelude.{nat_lt}
use Rattle.std.specs.List.{find, range_with_len}
use Rattle.std.specs.Option.{option_or}
use Rattle.list_lemmas.proofs.Ranges.{is_member-range}
use Rattle.std.specs.Set.{is_member}
use Rattle.std.proofs.lemmas.Bool.{cases_order, eqb-true, eqb-false, lt-ltb, or_cases}
use Rattle.planar_check.specs.declared.sign.Signed.{Signed}
use Rattle.planar_check.specs.Places.{labels_by_place, item_slots, crossings_of}
use Rattle.planar_check.specs.Planar.{planar_refusal}
use Rattle.planar_check.specs.declared.fault.PlanarFault.{PlanarFault}
use Rattle.planar_check.specs.Components.{number_of}
use Rattle.planar_check.specs.Framings.{FramedDiagram, framing_of, is_large}
use Rattle.planar_check.specs.Signs.{signed_crossings, signs_between}
use Rattle.slide_laws.specs.Directed.{items_of}
use Rattle.slide_laws.specs.declared.fault.SlideFault.{SlideFault}
use Rattle.slide_laws.specs.declared.fault.SlideFault.TheVariants.{NoEdge, LoopEdge, SameComponent, OddSigns, TooMany, NotSameFace, FramingSize}
use Rattle.slide_laws.specs.Refusals.{of_plane}
use Rattle.slide_laws.specs.Slides.{SlidDiagram, is_edge, is_loop, edge_refusal, odd_with, odd_pair, items_after, early_refusal, band_places, framed_pieces, slid_at, late_refusal, slid}

or_none : (a b : Option SlideFault) → option_or a b ≡ None → (a ≡ None) × (b ≡ None)
or_none None b h = (refl, h)
or_none (Some r) b h = absurd cc

if_none : (t : Bool) (r : SlideFault) → cond t (Some r) None ≡ None → t ≡ false
if_none true r h = absurd cc
if_none false r h = refl

edge_none : (test : ℕ → Bool) (R : ℕ → SlideFault) (e f : ℕ) → edge_refusal test R e f ≡ None → (test e ≡ false) × (test f ≡ false)
edge_none test R e f h = by_tests (test e) (test f) h
  where
    by_tests : (a b : Bool) → cond a (Some (R e)) (cond b (Some (R f)) None) ≡ None → (a ≡ false) × (b ≡ false)
    by_tests true b h = absurd cc
    by_tests false true h = absurd cc
    by_tests false false h = (refl, refl)

not_false : (b : Bool) → not b ≡ false → b ≡ true
not_false true h = refl
not_false false h = absurd cc

-- ---- even sums
abbrev is_odd : List Signed → ℕ → ℕ → Bool
is_odd cs a b = unsigned_abs (signs_between a b cs) % 2 == 1

and_no : (p q : Bool) → p ≡ true → (p && q) ≡ false → q ≡ false
and_no true q e h = h
and_no false q e h = absurd cc

-- none passes where none is found
one_more : (p : ℕ → Bool) (c : ℕ) (bs : List ℕ) (b : ℕ) → (find p bs ≡ None → is_member ◌==◌ bs b ≡ true → p b ≡ false) → is_member ◌==◌ (c ∷ bs) b ≡ true →
    (t : Bool) → p c ≡ t → cond t (Some c) (find p bs) ≡ None → p b ≡ false
one_more p c bs b ih m true e k = absurd cc
one_more p c bs b ih m false e k = ⊎_elim (λ s. ap p (eqb-true b c s) ∙ e) (λ s. ih k s) (or_cases (b == c) (is_member ◌==◌ bs b) m)

none_found : (p : ℕ → Bool) (bs : List ℕ) → find p bs ≡ None → (b : ℕ) → is_member ◌==◌ bs b ≡ true → p b ≡ false
none_found p [] h b m = absurd (grind (arith, m))
none_found p (c ∷ bs) h b m = one_more p c bs b (λ k s. none_found p bs k b s) m (p c) refl h

one_pair : (cs : List Signed) (c : ℕ) (rest bs : List ℕ) (a b : ℕ) → (odd_pair cs rest bs ≡ None → is_member ◌==◌ rest a ≡ true → is_odd cs a b ≡ false) →
    is_member ◌==◌ (c ∷ rest) a ≡ true → is_member ◌==◌ bs b ≡ true → a < b →
    (o : Option ℕ) → odd_with cs c bs ≡ o → elim o as (λ _. Option SlideFault) [ None ↦ odd_pair cs rest bs | Some x ↦ Some (OddSigns c x) ] ≡ None → is_odd cs a b ≡ false
one_pair cs c rest bs a b ih m k l (Some x) e h = absurd cc
one_pair cs c rest bs a b ih m k l None e h =
    ⊎_elim
    (λ s. let is = eqb-true a c s in
    and_no (nat_lt a b) (is_odd cs a b) (lt-ltb a b l) (none_found (λ x. nat_lt a x && is_odd cs a x) bs (ap (λ (x : ℕ). odd_with cs x bs) is ∙ e) b k))
    (λ s. ih h s) (or_cases (a == c) (is_member ◌==◌ rest a) m)

pair_none : (cs : List Signed) (as_ bs : List ℕ) → odd_pair cs as_ bs ≡ None → (a b : ℕ) → is_member ◌==◌ as_ a ≡ true → is_member ◌==◌ bs b ≡ true → a < b → is_odd cs a b ≡ false
pair_none cs [] bs h a b m k l = absurd (grind (arith, m))
pair_none cs (c ∷ rest) bs h a b m k l = one_pair cs c rest bs a b (λ q s. pair_none cs rest bs q a b s k l) m k l (odd_with cs c bs) refl h

-- ---- what is known
-- what is known where no early refusal holds
pub record Passed (framed : FramedDiagram) (e f : ℕ) : Type 0 where
  pub e_placed : is_member ◌==◌ (labels_by_place (crossings_of framed.items)) e ≡ true
  pub f_placed : is_member ◌==◌ (labels_by_place (crossings_of framed.items)) f ≡ true
  pub apart : number_of framed.items f ≢ number_of framed.items e
  pub even : (a b : ℕ) → 1 ≤ a → a ≤ length framed.framings → 1 ≤ b → b ≤ length framed.framings → a < b → (unsigned_abs (signs_between a b (signed_crossings framed.items)) % 2 == 1) ≡ false
  pub few : items_after framed (number_of framed.items f) ≤ 256

-- and where there is a slide
pub record Accepted (framed : FramedDiagram) (e f : ℕ) (result : SlidDiagram) : Type 0 where
  pub passed : Passed framed e f
  pub p : ℕ
  pub q : ℕ
  pub is : result ≡ slid_at framed e f (framed_pieces framed f) p q
  pub framing_small : is_large (framing_of result.framed (number_of framed.items e)) ≡ false
  pub planar : planar_refusal item_slots result.framed.items ≡ None

not_more : (n : ℕ) → nat_lt 256 n ≡ false → n ≤ 256
not_more n h = ⊎_elim (λ e. omega (arith, e)) (λ o. ⊎_elim (λ l. omega (arith, l)) (λ l. absurd (let t : true ≡ false = sym (lt-ltb 256 n l) ∙ h in cc)) o) (cases_order n 256)

record Late (i : ℕ) (s result : SlidDiagram) : Type 0 where
  is : result ≡ s
  framing_small : is_large (framing_of s.framed i) ≡ false
  planar : planar_refusal item_slots s.framed.items ≡ None

late_is : (framed : FramedDiagram) (i : ℕ) (s result : SlidDiagram) → late_refusal framed i s ≡ Ok result → Late i s result
late_is framed i s result h = by_size (is_large (framing_of s.framed i)) refl h
  where
    by_fault : is_large (framing_of s.framed i) ≡ false → (o : Option PlanarFault) → planar_refusal item_slots s.framed.items ≡ o → elim o as (λ _. Result SlidDiagram SlideFault) [ None ↦ Ok s | Some fault ↦ Err (of_plane fault) ] ≡ Ok result → Late i s result
    by_fault z None p k = record { is = let same : s ≡ result = cc in sym same; framing_small = z; planar = p }
    by_fault z (Some fault) p k = absurd cc

    by_size : (b : Bool) → is_large (framing_of s.framed i) ≡ b → cond b (Err (FramingSize i)) (elim (planar_refusal item_slots s.framed.items) as (λ _. Result SlidDiagram SlideFault) [ None ↦ Ok s | Some fault ↦ Err (of_plane fault) ]) ≡ Ok result → Late i s result
    by_size true z k = absurd cc
    by_size false z k = by_fault z (planar_refusal item_slots s.framed.items) refl k

-- NO EARLY REFUSAL
pub passes : (framed : FramedDiagram) (e f : ℕ) → early_refusal framed e f ≡ None → Passed framed e f
passes framed e f h =
    let its = framed.items in
    let numbers = range_with_len 1 (length framed.framings) in
    let a = or_none (edge_refusal (λ x. not (is_edge its x)) NoEdge e f) _ h in
    let b = or_none (edge_refusal (is_loop its) LoopEdge e f) _ a.1 in
    let c = or_none (cond (number_of its e == number_of its f) (Some SameComponent) None) _ b.1 in
    let d = or_none (odd_pair (signed_crossings its) numbers numbers) _ c.1 in
    let loops = edge_none (is_loop its) LoopEdge e f b.0 in
    record {
      e_placed = not_false (is_member ◌==◌ (labels_by_place (crossings_of its)) e) loops.0;
      f_placed = not_false (is_member ◌==◌ (labels_by_place (crossings_of its)) f) loops.1;
      apart = λ s. eqb-false (number_of its e) (number_of its f) (if_none (number_of its e == number_of its f) SameComponent c.0) (sym s);
      even = λ x y x1 xn y1 yn l. pair_none (signed_crossings its) numbers numbers d.0 x y
          (is_member-range 1 (length framed.framings) x x1 (omega (arith, xn))) (is_member-range 1 (length framed.framings) y y1 (omega (arith, yn))) l;
      few = not_more (items_after framed (number_of framed.items f)) (if_none (nat_lt 256 (items_after framed (number_of framed.items f))) (TooMany 256) d.1);
    }

module _ (framed : FramedDiagram) (e f : ℕ) (result : SlidDiagram) where
  from_early : early_refusal framed e f ≡ None → (p q : ℕ) → Late (number_of framed.items e) (slid_at framed e f (framed_pieces framed f) p q) result → Accepted framed e f result
  from_early h p q late = record {
    passed = passes framed e f h;
    p = p;
    q = q;
    is = late.is;
    framing_small = ap (λ (s : SlidDiagram). is_large (framing_of s.framed (number_of framed.items e))) late.is ∙ late.framing_small;
    planar = ap (λ (s : SlidDiagram). planar_refusal item_slots s.framed.items) late.is ∙ late.planar;
  }

  -- A SLIDE THAT IS NOT REFUSED
  pub accepted : slid framed e f ≡ Ok result → Accepted framed e f result
  unfolding slid
  accepted h = by_early (early_refusal framed e f) refl h
    where
      at_places : early_refusal framed e f ≡ None → (o : Option (ℕ × ℕ)) →
          elim o as (λ _. Result SlidDiagram SlideFault) [
            | None ↦ Err NotSameFace
            | Some places ↦ late_refusal framed (number_of framed.items e) (slid_at framed e f (framed_pieces framed f) places.0 places.1)
          ] ≡ Ok result → Accepted framed e f result
      at_places n None k = absurd cc
      at_places n (Some places) k = from_early n places.0 places.1 (late_is framed (number_of framed.items e) (slid_at framed e f (framed_pieces framed f) places.0 places.1) result k)

      by_early : (o : Option SlideFault) → early_refusal framed e f ≡ o →
          elim o as (λ _. Result SlidDiagram SlideFault) [
            | Some refusal ↦ Err refusal
            | None ↦ elim (band_places (crossings_of (items_of (framed_pieces framed f))) e f) as (λ _. Result SlidDiagram SlideFault) [
              | None ↦ Err NotSameFace
              | Some places ↦ late_refusal framed (number_of framed.items e) (slid_at framed e f (framed_pieces framed f) places.0 places.1)
            ]
          ] ≡ Ok result → Accepted framed e f result
      by_early (Some refusal) n k = absurd cc
      by_early None n k = at_places n (band_places (crossings_of (items_of (framed_pieces framed f))) e f) k
