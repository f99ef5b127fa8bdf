-- A node with the terms of a formal sum on the ends of strands is a box.
use Rattle.std.proofs.Common.{◌≡◌, ℕ, ◌+◌, ◌<◌, ◌≤◌, Bool, true, false, not, ◌==◌, ◌||◌, ◌&&◌, nat_lt, List, [], ◌∷◌, map, length, slice_index, refl, sym, ap, ap₂, ◌∙◌, arith, All, Contains, subst, ⊎_elim}
use Rattle.std.specs.List.{range_with_len}
use Rattle.std.specs.Set.{is_member}
use Rattle.std.proofs.lemmas.Bool.{cases_Bool}
use Rattle.std.proofs.lemmas.Bool.Decides.{nat_tests}
use Rattle.std.proofs.lemmas.List.Elements.{All-map, All-cons, All-nil}
use Rattle.std.proofs.lemmas.List.FromFn.{length-map-range_with_len}
use Rattle.arc_gluing.specs.Pairings.{pair_edges}
use Rattle.state_sums.specs.Networks.{Node, Term, IsNode, IsPairing}
use Rattle.state_sums.specs.StateSums.{term_edges}
use Rattle.strand_algebra.proofs.ByLabels.{IsPairingOn-from_points}
use Rattle.strand_algebra.proofs.Collecting.{signed}
use Rattle.strand_algebra.proofs.LabelProducts.{IsPairingOf}
use Rattle.strand_algebra.proofs.Stacks.{Contains-range}
use Rattle.strand_algebra.proofs.Totals.{AreTerms}
use Rattle.word_networks.specs.BoxNetworks.{IsTermOn, AreTermsOn, AreBoxed}
use Rattle.word_networks.specs.Strands.{strand_of, standing, strand_points}
use Rattle.word_networks.proofs.Strands.{member_strands, strands_member, strands_told}
use Rattle.box_laws.specs.StrandBoxes.{is_boxed, place_of, point_at, mate_of, strand_box, IsBoxNode, AreNamedBeside}
use Rattle.box_laws.proofs.StrandBoxes.{strand_point, mate_point, mate_boxed, mate_stands, place_below, point_place, boxed_bounds, mate_of-IsMating}
use Rattle.list_lemmas.proofs.Ranges.{All-range}
use Rattle.strand_algebra.proofs.Contractions.{named}
use Rattle.strand_algebra.proofs.Gluings.{pair_edges-named}

pub boxed_from : (c n u : ℕ) → c ≤ strand_of u → strand_of u < c + n → is_boxed c n u ≡ true
boxed_from c n u a b = plain (strand_of u) c (c + n) a b
  where
    plain : (s a b : ℕ) → a ≤ s → s < b → (not (nat_lt s a) && nat_lt s b) ≡ true
    plain s a b p q = grind (arith, nat_tests, p, q)

not_boxed : (c n u : ℕ) → strand_of u < c → is_boxed c n u ≡ false
not_boxed c n u a = plain (strand_of u) c (c + n) a
  where
    plain : (s a b : ℕ) → s < a → (not (nat_lt s a) && nat_lt s b) ≡ false
    plain s a b p = grind (arith, nat_tests, p)

module _ (c n : ℕ) (name : ℕ → ℕ) where
  abbrev inner : List ℕ
  inner = strand_points c n

  abbrev at : ℕ → ℕ
  at = point_at c n

  pub in_inner : (j : ℕ) → j < n + n → is_member ◌==◌ inner (at j) ≡ true
  in_inner j l = let s = strand_point c n j l in strands_member c n (at j) s.0 s.1

  pub mate_inner : (q : List ℕ) → IsPairingOf (n + n) q → (u : ℕ) → is_member ◌==◌ inner u ≡ true → is_member ◌==◌ inner (mate_of c n q u) ≡ true
  mate_inner q hq u m =
      let s = member_strands c n u m in
      let t = boxed_from c n u s.0 s.1 in
      ap (is_member ◌==◌ inner) (mate_boxed c n q u t) ∙ in_inner (slice_index q (place_of c n u)) (hq.stays (place_of c n u) (place_below c n u t))

  -- ---- a term
  term_on : (node : Node) (term : Term) → node.ends ≡ map (λ j. name (at j)) (range_with_len 0 (n + n)) → IsPairingOf (n + n) term.partner → IsTermOn node inner name (mate_of c n term.partner) term
  term_on node term ends hq =
      let q = term.partner in
      let M = mate_of c n q in
      let edges : term_edges node term ≡ named (λ j. name (at j)) q = ap (λ e. pair_edges e q) ends ∙ pair_edges-named (λ j. name (at j)) (n + n) q hq in
      let long = hq.length_is in
      let P : ℕ × ℕ → Type 0 = λ e. (u : ℕ) × (is_member ◌==◌ inner u ≡ true) × (e.0 ≡ name u) × (e.1 ≡ name (M u)) in
      let all : All P (named (λ j. name (at j)) q) =
      All-map P (λ i. (name (at i), name (at (slice_index q i)))) (range_with_len 0 (length q))
      (All-range (λ i. P (name (at i), name (at (slice_index q i)))) 0 (length q)
      (λ i lo hi. (let l : i < n + n = omega (arith, hi, long) in (at i, in_inner i l, refl, ap name (sym (mate_point c n q i l)))))) in
      record {
        from = λ v w k. (let k2 = subst (λ es. Contains es (v, w)) edges k in let got = all k2.0 (v, w) k2.1 in rw k2.2 at got);
        has = λ u m.
            (let s = member_strands c n u m in
            let t = boxed_from c n u s.0 s.1 in
            let j = place_of c n u in
            let l = place_below c n u t in
            subst (λ es. Contains es (name u, name (M u))) (sym edges)
            (subst (λ e. Contains (named (λ i. name (at i)) q) e)
            (let e : (name (at j), name (at (slice_index q j))) ≡ (name u, name (M u)) = ap₂ (λ a b. (a, b)) (ap name (point_place c n u t)) (ap name (sym (mate_boxed c n q u t))) in e)
            (Contains-range (λ i. (name (at i), name (at (slice_index q i)))) 0 (length q) j (omega arith) (omega (arith, l, long)))));
      }

  -- THE TERMS
  pub terms_on : (node : Node) (f : List Term) → node.ends ≡ map (λ j. name (at j)) (range_with_len 0 (n + n)) → AreTerms (n + n) (signed f) → AreTermsOn node inner name f (strand_box c n f)
  terms_on node [] ends a = tt
  terms_on node (term ∷ f) ends a = (refl, term_on node term ends a.0, terms_on node f ends a.1)

  -- THE NODE
  pub box_node : (node : Node) (f : List Term) → IsBoxNode c n name f node → AreTerms (n + n) (signed f) → IsNode node
  box_node node f is a =
      let size : length node.ends ≡ n + n = ap length is.ends ∙ length-map-range_with_len (λ j. name (at j)) 0 (n + n) in
      subst (λ terms. All (λ term. IsPairing term.partner × (length term.partner ≡ length node.ends)) terms) (sym is.terms) (every node size f a)
    where
      every : (node : Node) → length node.ends ≡ n + n → (f : List Term) → AreTerms (n + n) (signed f) → All (λ term. IsPairing term.partner × (length term.partner ≡ length node.ends)) f
      every node size [] a = All-nil (λ term. IsPairing term.partner × (length term.partner ≡ length node.ends))
      every node size (term ∷ f) a =
          All-cons (λ term. IsPairing term.partner × (length term.partner ≡ length node.ends)) term f
          ((IsPairingOn-from_points n term.partner a.0).is_pairing, a.0.length_is ∙ sym size) (every node size f a.1)

  -- ---- the names
  -- THE NAMES THAT A TERM JOINS
  pub boxed_names : (points : List ℕ) (q : List ℕ) → IsPairingOf (n + n) q → AreNamedBeside c n name →
      ((u : ℕ) → is_member ◌==◌ points u ≡ true → strand_of u < c + n) → ((u : ℕ) → strand_of u < c + n → c ≤ strand_of u → is_member ◌==◌ points u ≡ true) →
      ((u : ℕ) → is_member ◌==◌ points u ≡ true → is_member ◌==◌ points (standing u) ≡ true) → AreBoxed inner points name (mate_of c n q)
  boxed_names points q hq names below has stands = record {
    mating = mate_of-IsMating c n q hq;
    within = λ u m. (let s = member_strands c n u m in has u s.1 s.0);
    inside = mate_inner q hq;
    closed = λ u m.
        ⊎_elim
        (λ t. (let s = boxed_bounds c n u t in
        let k = mate_inner q hq u (strands_member c n u s.0 s.1) in
        let r = member_strands c n (mate_of c n q u) k in has (mate_of c n q u) r.1 r.0))
        (λ f. ap (is_member ◌==◌ points) (mate_stands c n q u f) ∙ stands u m)
        (cases_Bool (is_boxed c n u));
    alone = λ u v mu mv e. (let s = member_strands c n v mv in names.alone u v (below u mu) s.0 s.1 e);
    stand = λ u v mu mv nu nv.
        (let bu = outside u (below u mu) nu in let bv = outside v (below v mv) nv in
        names.stand u v bu bv ∙ strands_told u v ∙ ap (λ w. (u == v) || (w == v)) (sym (mate_stands c n q u (not_boxed c n u bu))));
  }
    where
      outside : (u : ℕ) → strand_of u < c + n → is_member ◌==◌ inner u ≡ false → strand_of u < c
      outside u l f =
          ⊎_elim (λ t. (let k : strand_of u < c = grind (arith, nat_tests, t) in k))
          (λ g. (let lo : c ≤ strand_of u = grind (arith, nat_tests, g) in let m = strands_member c n u lo l in absurd (clash (is_member ◌==◌ inner u) f m)))
          (cases_Bool (nat_lt (strand_of u) c))
        where
          clash : (b : Bool) → b ≡ false → b ≡ true → ⊥
          clash b p q = grind (arith, p, q)
