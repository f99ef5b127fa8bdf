-- What `glue` knows when it returns: the mates of the slots that are left tell the partners by parts. Each fact is one on slots of
-- the gluing, read at the lists that the calls gave.
use Rattle.std.proofs.Common.{◌≡◌, ℕ, ◌≤◌, ◌<◌, if◌then◌else◌, nat_lt, List, ◌++◌, map, length, slice_index, sym, ap, subst, ◌∙◌, ⊎_elim, arith}
use Rattle.std.proofs.lemmas.Bool.{cases_lt}
use Rattle.std.proofs.lemmas.Bool.Decides.{nat_tests}
use Rattle.graph_parts.specs.Patterns.{closed_parts}
use Rattle.arc_gluing.specs.Mates.{mates_after, loops_after, pairs_below}
use Rattle.arc_gluing.specs.Pairings.{pair_edges, IsPairedBy, partners_of}
use Rattle.arc_gluing.specs.Seams.{IsSeam}
use Rattle.list_lemmas.proofs.Items.{get_past}
use Rattle.arc_gluing.proofs.Seamed.{paired, partners_are, loops, left_small}
use Rattle.arc_gluing.proofs.Slots.{slots_are}
use Rattle.kept_seams.specs.Kept.{Gives}
use Rattle.arc_pairing.specs.Gluing.{Seam, glued_edges, IsGluing}
use Rattle.arc_pairing.specs.Pairings.{IsShortPairing}

module _ (inner ends outer end_slots outer_slots places : List ℕ) (h : IsSeam inner ends outer end_slots outer_slots places) where
  pub end_slots_small : (es : List ℕ) → es ≡ end_slots → (i : ℕ) → slice_index es i < 48
  end_slots_small es is i =
      let at = ap (λ xs. slice_index xs i) is in
      let slots = slots_are inner ends outer end_slots outer_slots places h in
      let w = slots.whole in let f = h.few_names in let g = h.few_ends in
      ⊎_elim
      (λ (l : i < length end_slots). let b = slots.within i (omega (arith, w, l)) in omega (arith, at, b, f, g))
      (λ (l : length end_slots ≤ i). let e = get_past end_slots i l in omega (arith, at, e))
      (cases_lt i (length end_slots))

  -- each point its partner, each other slot itself
  abbrev mate : List ℕ → ℕ → ℕ
  mate old x = if nat_lt x (length inner) then slice_index old x else x

  parts_pair : (old term found : List ℕ) → IsShortPairing old → IsShortPairing term → length old ≡ length inner → length term ≡ length ends →
      found ≡ partners_of (inner ++ ends) (pair_edges inner old ++ pair_edges ends term) outer → IsPairedBy (pair_edges inner old ++ pair_edges ends term) outer found
  parts_pair old term found po pt lo lt is =
      let Q : List ℕ → Type 0 = λ p. IsPairedBy (pair_edges inner old ++ pair_edges ends term) outer p in
      let at_old : (i : ℕ) → i < length inner → mate old i ≡ slice_index old i = (λ i l. grind (arith, nat_tests, l)) in
      let at_new : (x : ℕ) → length inner ≤ x → x < 48 → mate old x ≡ x = (λ x l m. grind (arith, nat_tests, l)) in
      subst Q (partners_are inner ends outer end_slots outer_slots places old term h po.paired pt.paired lo lt (mate old) at_old at_new ∙ sym is)
      (paired inner ends outer end_slots outer_slots places old term h po.paired pt.paired lo lt (mate old) at_old at_new)

  -- WHERE THE POINTS KEEP THEIR PLACES, what the laws give is the gluing
  pub kept_gluing : (seam : Seam) → (let s : Seam = record { inner = inner; ends = ends; outer = outer } in s) ≡ seam → (old term found : List ℕ) (loops : ℕ) →
      IsShortPairing old → IsShortPairing term → length old ≡ length seam.inner → length term ≡ length seam.ends →
      Gives inner ends outer old term found loops → IsGluing seam old term found loops
  kept_gluing seam view old term found loops po pt lo lt k =
      let P : Seam → Type 0 = λ s. length old ≡ length s.inner → length term ≡ length s.ends → IsGluing s old term found loops in
      subst P view (λ lo2 lt2. record { paired = parts_pair old term found po pt lo2 lt2 (sym k.pairing); partners = sym k.pairing; closed = sym k.closed }) lo lt

  module _ (seam : Seam) (view : (let s : Seam = record { inner = inner; ends = ends; outer = outer } in s) ≡ seam)
      (old points term pairs es ls : List ℕ) (points_are : points ≡ old) (pairs_are : pairs ≡ term) (es_are : es ≡ end_slots) (ls_are : ls ≡ outer_slots)
      (po : IsShortPairing old) (pt : IsShortPairing term) (lo : length old ≡ length seam.inner) (lt : length term ≡ length seam.ends)
      (m1 m2 : List ℕ) (at_old : (i : ℕ) → i < length points → slice_index m1 i ≡ slice_index points i) (at_new : (x : ℕ) → length points ≤ x → x < 48 → slice_index m1 x ≡ x)
      (joined : (x : ℕ) → slice_index m2 x ≡ mates_after (slice_index m1) (pairs_below es pairs (length pairs)) x) where
    lo2 : length old ≡ length inner
    lo2 = lo ∙ sym (ap (λ s. length s.inner) view)

    lt2 : length term ≡ length ends
    lt2 = lt ∙ sym (ap (λ s. length s.ends) view)

    points_long : length points ≡ length inner
    points_long = ap length points_are ∙ lo2

    old_at : (i : ℕ) → i < length inner → slice_index m1 i ≡ slice_index old i
    old_at i l = let w = points_long in at_old i (omega (arith, w, l)) ∙ ap (λ xs. slice_index xs i) points_are

    new_at : (x : ℕ) → length inner ≤ x → x < 48 → slice_index m1 x ≡ x
    new_at x l m = let w = points_long in at_new x (omega (arith, w, l)) m

    joins : pairs_below es pairs (length pairs) ≡ pairs_below end_slots term (length term)
    joins = ap (λ s. pairs_below s pairs (length pairs)) es_are ∙ ap (λ o. pairs_below end_slots o (length o)) pairs_are

    same_mates : slice_index m2 ≡ mates_after (slice_index m1) (pairs_below end_slots term (length term))
    same_mates = (let t : slice_index m2 ≡ mates_after (slice_index m1) (pairs_below es pairs (length pairs)) = λ i x. joined x i in t) ∙ ap (mates_after (slice_index m1)) joins

    found_are : (found : List ℕ) → found ≡ map (λ x. slice_index places (slice_index m2 x)) ls → found ≡ map (λ x. slice_index places (mates_after (slice_index m1) (pairs_below end_slots term (length term)) x)) outer_slots
    found_are found is = is ∙ ap (map (λ x. slice_index places (slice_index m2 x))) ls_are ∙ ap (λ m. map (λ x. slice_index places (m x)) outer_slots) same_mates

    -- THE PARTNERS FOUND ARE THE PAIRING
    end_paired : (found : List ℕ) → found ≡ map (λ x. slice_index places (slice_index m2 x)) ls → IsPairedBy (glued_edges seam old term) seam.outer found
    end_paired found is =
        let P : Seam → Type 0 = λ s. IsPairedBy (glued_edges s old term) s.outer found in
        let Q : List ℕ → Type 0 = λ p. IsPairedBy (pair_edges inner old ++ pair_edges ends term) outer p in
        subst P view (subst Q (sym (found_are found is)) (paired inner ends outer end_slots outer_slots places old term h po.paired pt.paired lo2 lt2 (slice_index m1) old_at new_at))

    end_partners : (found : List ℕ) → found ≡ map (λ x. slice_index places (slice_index m2 x)) ls → found ≡ partners_of (seam.inner ++ seam.ends) (glued_edges seam old term) seam.outer
    end_partners found is =
        found_are found is
        ∙ partners_are inner ends outer end_slots outer_slots places old term h po.paired pt.paired lo2 lt2 (slice_index m1) old_at new_at
        ∙ ap (λ s. partners_of (s.inner ++ s.ends) (glued_edges s old term) s.outer) view

    -- THE LOOPS FOUND ARE THE CLOSED PARTS
    end_loops : (count : ℕ) → count ≡ loops_after (slice_index m1) (pairs_below es pairs (length pairs)) → count ≡ closed_parts (seam.inner ++ seam.ends) (glued_edges seam old term) seam.outer
    end_loops count is =
        is ∙ ap (loops_after (slice_index m1)) joins
        ∙ loops inner ends outer end_slots outer_slots places old term h po.paired pt.paired lo2 lt2 (slice_index m1) old_at new_at
        ∙ ap (λ s. closed_parts (s.inner ++ s.ends) (glued_edges s old term) s.outer) view

    pub outer_slots_small : (i : ℕ) → slice_index ls i < 48
    outer_slots_small i =
        let at = ap (λ xs. slice_index xs i) ls_are in
        ⊎_elim
        (λ (l : i < length outer_slots). let b = left_small inner ends outer end_slots outer_slots places old term h po.paired pt.paired lo2 lt2 (slice_index m1) old_at new_at i l in omega (arith, at, b))
        (λ (l : length outer_slots ≤ i). let e = get_past outer_slots i l in omega (arith, at, e))
        (cases_lt i (length outer_slots))

    -- AND THE PAIRING IS A SHORT ONE
    pub end_short : (found : List ℕ) → found ≡ map (λ x. slice_index places (slice_index m2 x)) ls → IsShortPairing found
    end_short found is =
        let p = end_paired found is in
        record {
          short = let w = p.whole in let v = ap (λ s. length s.outer) view in let f = h.few_left in omega (arith, w, v, f);
          paired = p.is_pairing;
        }

    -- WHAT WAS FOUND IS THE GLUING
    pub end_facts : (found : List ℕ) → found ≡ map (λ x. slice_index places (slice_index m2 x)) ls → (count : ℕ) → count ≡ loops_after (slice_index m1) (pairs_below es pairs (length pairs)) → IsGluing seam old term found count
    end_facts found is count counted = record { paired = end_paired found is; partners = end_partners found is; closed = end_loops count counted }
