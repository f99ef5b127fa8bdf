-- The pairs of an old pairing and of a term, joined by mates: each name that is left has the other one with its label as its
-- mate, and the loops are the labels that no such name has.
use Rattle.std.proofs.Common.{◌≡◌, ℕ, zero, suc, ◌≤◌, ◌<◌, nat_lt, Bool, true, false, cond, ◌==◌, List, [], ◌∷◌, ◌++◌, map, length, slice_index, refl, sym, ap, subst, ◌∙◌, arith}
use Rattle.std.specs.Set.{is_member}
use Rattle.std.specs.List.{AllPass}
use Rattle.std.proofs.lemmas.Bool.{or_left, or_right}
use Rattle.std.proofs.lemmas.Bool.Decides.{nat_tests}
use Rattle.std.proofs.lemmas.List.{get_or-map, length-map}
use Rattle.std.proofs.lemmas.List.Elements.{All-cons, All-nil}
use Rattle.state_sums.proofs.StateEdges.{EndsAre-term}
use Rattle.list_lemmas.proofs.Items.{all_below}
use Rattle.arc_gluing.proofs.Copied.{copied-count}
use Rattle.graph_parts.proofs.Counting.{label_after-append}
use Rattle.arc_gluing.proofs.AllEdges.{IsMated-after, loops_after-count}
use Rattle.arc_gluing.proofs.Kept.{Keeps, Keeps-append, Keeps-front, Keeps-rest, Keeps-own, kept, Keeps-both, Keeps-once}
use Rattle.arc_gluing.proofs.PointPairs.{times_in-pairs}
use Rattle.graph_parts.proofs.Agreement.{label_count-agree, eqb_from_iff}
use Rattle.graph_parts.proofs.Distinct.{is_member-append}
use Rattle.graph_parts.proofs.Ends.{EndsAre-append, EndsAre-weaker, is_member-get_or}
use Rattle.graph_parts.specs.Ends.{EndsAre, ends_of}
use Rattle.graph_parts.specs.Labels.{label_of, label_after, label_count, Agree}
use Rattle.graph_parts.specs.Patterns.{label_closed}
use Rattle.state_sums.specs.Networks.{IsPairing}
use Rattle.arc_gluing.specs.Mates.{mates_after, loops_after, pairs_below, IsMated, IsPairedLabels}
use Rattle.arc_gluing.specs.Pairings.{pair_edges}
use Rattle.arc_gluing.specs.Seams.{AreOpenBehind}
use Rattle.list_lemmas.proofs.Times.{times_of_member}
use Rattle.list_lemmas.specs.Times.{times_in}

EndsAre-pairs : (names partner : List ℕ) → IsPairing partner → length partner ≡ length names → (n : ℕ) → n ≤ length partner → EndsAre (is_member ◌==◌ names) (pairs_below names partner n)
EndsAre-pairs names partner h e zero l = tt
EndsAre-pairs names partner h e (suc n) l =
    let more : Bool → List (ℕ × ℕ) = λ b. cond b ((slice_index names n, slice_index names (slice_index partner n)) ∷ []) [] in
    let k = h.within n (omega arith) in
    EndsAre-append (is_member ◌==◌ names) (pairs_below names partner n) (more (nat_lt n (slice_index partner n))) (EndsAre-pairs names partner h e n (omega arith))
    (elim (nat_lt n (slice_index partner n)) as (λ b. EndsAre (is_member ◌==◌ names) (more b)) [
      | true ↦ (is_member-get_or names n (omega arith), is_member-get_or names (slice_index partner n) (omega (arith, k)), tt)
      | false ↦ tt
    ])

pub EndsAre-pair_edges : (names partner : List ℕ) → IsPairing partner → length partner ≡ length names → EndsAre (is_member ◌==◌ names) (pair_edges names partner)
EndsAre-pair_edges names partner h e =
    EndsAre-term record { group = 0; ends = names; terms = [] } record { weight = 0; partner = partner } (all_below (length names) partner (λ i l. let k = h.within i l in omega (arith, k, e)))

pub EndsAre-both : (names ends old term : List ℕ) → IsPairing old → IsPairing term → length old ≡ length names → length term ≡ length ends →
    EndsAre (is_member ◌==◌ (names ++ ends)) (pair_edges names old ++ pair_edges ends term)
EndsAre-both names ends old term po pt lo lt =
    EndsAre-append (is_member ◌==◌ (names ++ ends)) (pair_edges names old) (pair_edges ends term)
    (EndsAre-weaker (is_member ◌==◌ names) (is_member ◌==◌ (names ++ ends)) (λ x m. is_member-append names ends x ∙ or_left (is_member ◌==◌ names x) (is_member ◌==◌ ends x) m)
    (pair_edges names old) (EndsAre-pair_edges names old po lo))
    (EndsAre-weaker (is_member ◌==◌ ends) (is_member ◌==◌ (names ++ ends)) (λ x m. is_member-append names ends x ∙ or_right (is_member ◌==◌ names x) (is_member ◌==◌ ends x) m)
    (pair_edges ends term) (EndsAre-pair_edges ends term pt lt))

all_pass : (xs : List ℕ) → AllPass (λ x. true) xs
all_pass [] = All-nil (λ x. true ≡ true)
all_pass (x ∷ xs) = All-cons (λ x. true ≡ true) x xs refl (all_pass xs)

module _ (names ends left old term : List ℕ) (po : IsPairing old) (pt : IsPairing term) (lo : length old ≡ length names) (lt : length term ≡ length ends) (h : AreOpenBehind names ends left)
    (single : (x : ℕ) → times_in names x ≤ 1) (mate : ℕ → ℕ)
    (start : IsMated (times_in (ends_of (pairs_below ends term (length term)) ++ left)) mate (label_of (pairs_below names old (length old)))) where
  abbrev pub half : List (ℕ × ℕ)
  half = pairs_below names old (length old) ++ pairs_below ends term (length term)

  abbrev pub full : List (ℕ × ℕ)
  full = pair_edges names old ++ pair_edges ends term

  abbrev pub rest : List (ℕ × ℕ)
  rest = pairs_below ends term (length term)

  rest_ends : (x : ℕ) → times_in (ends_of rest) x ≡ times_in ends x
  rest_ends x = times_in-pairs ends term pt x lt

  labels : label_after (label_of (pairs_below names old (length old))) rest ≡ label_of half
  labels = sym (label_after-append (λ x. x) (pairs_below names old (length old)) rest)

  pub done : IsMated (times_in left) (mates_after mate rest) (label_of half)
  done =
      let P : (ℕ → ℕ) → Type 0 = λ l. IsMated (times_in left) (mates_after mate rest) l in
      subst P labels (IsMated-after rest left mate (label_of (pairs_below names old (length old))) start)

  half_keeps : Keeps (label_of full) half
  half_keeps =
      let k = Keeps-own full in
      Keeps-append (label_of full) (pairs_below names old (length old)) (pairs_below ends term (length term))
      (Keeps-once (label_of full) names old po lo (Keeps-front (label_of full) (pair_edges names old) (pair_edges ends term) k))
      (Keeps-once (label_of full) ends term pt lt (Keeps-rest (label_of full) (pair_edges names old) (pair_edges ends term) k))

  full_keeps : Keeps (label_of half) full
  full_keeps =
      let k = Keeps-own half in
      Keeps-append (label_of half) (pair_edges names old) (pair_edges ends term)
      (Keeps-both (label_of half) names old po lo (Keeps-front (label_of half) (pairs_below names old (length old)) (pairs_below ends term (length term)) k))
      (Keeps-both (label_of half) ends term pt lt (Keeps-rest (label_of half) (pairs_below names old (length old)) (pairs_below ends term (length term)) k))

  pub to_full : (u v : ℕ) → label_of half u ≡ label_of half v → label_of full u ≡ label_of full v
  to_full u v e = kept (label_of full) half half_keeps u v e

  pub to_half : (u v : ℕ) → label_of full u ≡ label_of full v → label_of half u ≡ label_of half v
  to_half u v e = kept (label_of half) full full_keeps u v e

  agree : Agree (λ x. true) (label_of half) (label_of full)
  agree u v p q = eqb_from_iff (label_of half u) (label_of half v) (label_of full u) (label_of full v) (to_full u v) (to_half u v)

  rest_inside : EndsAre (is_member ◌==◌ (names ++ ends)) rest
  rest_inside =
      EndsAre-weaker (is_member ◌==◌ ends) (is_member ◌==◌ (names ++ ends)) (λ x m. is_member-append names ends x ∙ or_right (is_member ◌==◌ names x) (is_member ◌==◌ ends x) m)
      rest (EndsAre-pairs ends term pt lt (length term) (omega arith))

  -- THE LOOPS ARE THE PARTS WITHOUT A NAME THAT IS LEFT, less those that the old pairing had closed: none
  pub loops-closed : loops_after mate rest ≡ label_closed full (names ++ ends) left
  loops-closed =
      let c = loops_after-count rest left (names ++ ends) mate (label_of (pairs_below names old (length old))) start rest_inside in
      let k = copied-count names ends left old rest po lo h rest_ends single in
      let u = ap (λ l. label_count l left) labels in
      let v = ap (λ l. label_count l (names ++ ends)) labels in
      let a = label_count-agree (λ x. true) (label_of half) (label_of full) (names ++ ends) agree (all_pass (names ++ ends)) in
      let b = label_count-agree (λ x. true) (label_of half) (label_of full) left agree (all_pass left) in
      omega (arith, c, k, u, v, a, b)

  -- THE MATES ARE THE OTHER NAMES IN THEIR PARTS
  module _ (place : ℕ → ℕ) (placed : (i : ℕ) → i < length left → place (slice_index left i) ≡ i) (at : (x : ℕ) → 1 ≤ times_in left x → (place x < length left) × (slice_index left (place x) ≡ x)) where
    abbrev pub partners : List ℕ
    partners = map (λ x. place (mates_after mate rest x)) left

    whole : length partners ≡ length left
    whole = length-map left (λ x. place (mates_after mate rest x))

    is : (i : ℕ) → i < length left → slice_index partners i ≡ place (mates_after mate rest (slice_index left i))
    is i l = get_or-map (λ x. place (mates_after mate rest x)) left i 0 0 l

    one : (i : ℕ) → i < length left → times_in left (slice_index left i) ≡ 1
    one i l = let a = times_of_member (slice_index left i) left (is_member-get_or left i l) in let b = h.once (slice_index left i) in grind (arith, nat_tests, a, b)

    named : (i : ℕ) → i < length left → (slice_index partners i < length left) × (slice_index left (slice_index partners i) ≡ mates_after mate rest (slice_index left i))
    named i l =
        let x = slice_index left i in
        let k = at (mates_after mate rest x) (done.stays x (let o = one i l in omega (arith, o))) in
        rw (is i l) k

    pub glued : IsPairedLabels full left partners
    glued = record {
      whole = whole;
      is_pairing = record {
        within = λ i l. let w = whole in let k = (named i (omega (arith, w))).0 in omega (arith, k, w);
        apart = λ i l e. let w = whole in let k : i < length left = omega (arith, w) in
            done.met (slice_index left i) (one i k) (sym ((named i k).1) ∙ ap (slice_index left) e);
        back = λ i l. let w = whole in let k : i < length left = omega (arith, w) in
            let o = one i k in
            is (slice_index partners i) ((named i k).0) ∙ ap (λ y. place (mates_after mate rest y)) ((named i k).1) ∙ ap place (done.back (slice_index left i) (omega (arith, o))) ∙ placed i k;
      };
      joined = λ i l. let o = one i l in ap (label_of full) ((named i l).1) ∙ to_full _ _ (done.along (slice_index left i) (omega (arith, o)));
      only = λ i j p q e d. let oi = one i p in let oj = one j q in
          let m = done.only (slice_index left i) (slice_index left j) (omega (arith, oi)) (omega (arith, oj)) (to_half _ _ e) (λ t. d (sym (placed j q) ∙ ap place t ∙ placed i p)) in
          sym (placed j q) ∙ ap place m ∙ sym (is i p);
    }
