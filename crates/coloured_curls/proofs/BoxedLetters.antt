-- A crossing beside a projector's box, at any names, is its weight of going straight on times the box, whose ends have the names behind the
-- crossing: at numbers that are written out the box's sum absorbs the letter.
use Rattle.std.proofs.Common.{◌≡◌, ◌≢◌, ℕ, ◌+◌, ◌-◌, ◌*◌, ◌/◌, ◌%◌, ◌<◌, ◌≤◌, ◌==◌, ◌⊎◌, inl, inr, nat_lt, Bool, true, false, cond, List, [], ◌∷◌, ◌++◌, map, refl, sym, ap, ap₂, ◌∙◌, arith, ⊎_elim, All, get_or, ◌||◌}
use Rattle.std.specs.List.{range_with_len}
use Rattle.std.specs.Set.{is_member}
use Rattle.std.proofs.lemmas.Bool.{cases_Bool, cases_eq}
use Rattle.std.proofs.lemmas.Bool.Decides.{nat_tests}
use Rattle.std.proofs.lemmas.List.Concat.{flat_map-append}
use Rattle.std.proofs.lemmas.List.Elements.{All-cons, All-nil}
use Rattle.graph_parts.proofs.Counting.{is_member-map}
use Rattle.graph_parts.proofs.Distinct.{is_member-append}
use Rattle.graph_parts.proofs.Ends.{is_member-itself}
use Rattle.graph_parts.proofs.Renaming.{map_map}
use Rattle.list_lemmas.specs.Times.{times_in}
use Rattle.list_lemmas.proofs.Times.{times_of_member, times_in-append, times_in-cons}
use Rattle.state_sums.specs.LocalSums.{pattern_sum, crossing, rename}
use Rattle.state_sums.specs.Networks.{Node, Term, IsNode, names_of}
use Rattle.state_sums.specs.StateSums.{value}
use Rattle.state_sums.proofs.Congruent.{add_same_mod, mul_same_mod}
use Rattle.state_sums.proofs.NodeNames.{names_of-rename}
use Rattle.strand_algebra.specs.Projectors.{IsProjector}
use Rattle.strand_algebra.proofs.Collecting.{signed, noncrossing_element}
use Rattle.strand_algebra.proofs.LabelProducts.{IsPairingOf}
use Rattle.strand_algebra.proofs.Operations.{pairings_of}
use Rattle.strand_algebra.proofs.ProjectorLaws.{projector_element}
use Rattle.strand_algebra.proofs.Totals.{AreTerms}
use Rattle.strand_words.specs.Boxes.{bottom, Weighted, box_sum, IsBox}
use Rattle.strand_words.specs.Matings.{hooked, loop_worth}
use Rattle.strand_words.specs.Words.{top}
use Rattle.strand_words.proofs.Boxes.{box_sum-two}
use Rattle.word_networks.specs.BoxNetworks.{AreTermsOn, AreBoxed, AreStepsBehind}
use Rattle.word_networks.specs.Steps.{Step, letter, names_after, step_nodes, mate_worth}
use Rattle.word_networks.specs.Strands.{strand_of, standing, strand_points}
use Rattle.word_networks.proofs.NetworkLaws.{box_steps}
use Rattle.word_networks.proofs.StepNetworks.{are_nodes}
use Rattle.word_networks.proofs.Strands.{member_strands, strands_member, strand_standing, halves}
use Rattle.box_laws.specs.StrandBoxes.{point_at, mate_of, strand_box, IsBoxNode, AreNamedBeside}
use Rattle.box_laws.proofs.BoxNodes.{terms_on, box_node, boxed_names}
use Rattle.box_laws.proofs.Projectors.{projector_box}
use Rattle.box_laws.proofs.StrandBoxes.{strand_point, point_one, point_place, place_below}
use Rattle.box_laws.specs.StrandBoxes as boxes
use Rattle.box_laws.proofs.BoxNodes as box_nodes
use Rattle.piece_laws.specs.Pieces.{IsPiece, ArePaired}
use Rattle.piece_laws.proofs.NameCounts.{member_mapped}
use Rattle.cables.proofs.NameCounts.{at}
use Rattle.cable_crossings.proofs.StepPieces.{member_of_one}
use Rattle.coloured_curls.specs.Boxes.{round, box_at, behind}
use Rattle.coloured_curls.specs.Laws.{BoxedCrossingLaw}
use Rattle.coloured_curls.proofs.PieceCounts.{at_other, at_same, piece_from, same_range, none_in_range, one_in_range, found_in_range, changed_in_range}
use Rattle.coloured_curls.proofs.ScaledPieces.{scaled_anywhere}

all_boxed : (c n : ℕ) (f : List Term) → AreTerms (n + n) (signed f) → (P : (ℕ → ℕ) → Type 0) → ((q : List ℕ) → IsPairingOf (n + n) q → P (mate_of c n q)) → All (λ one. P one.mate) (strand_box c n f)
all_boxed c n [] a P h = All-nil (λ one. P one.mate)
all_boxed c n (term ∷ f) a P h = All-cons (λ one. P one.mate) (record { weight = term.weight; mate = mate_of c n term.partner }) (strand_box c n f) (h term.partner a.0) (all_boxed c n f a.1 P h)

-- ---- at numbers that are written out: each point is its own name, and the names behind the crossing are 2n and 2n+1
module _ (m delta x y group n k : ℕ) (f : List Term) (some : 0 < m) (few : n ≤ 8) (low : k + 1 < n) (is : IsProjector m delta n f) where
  abbrev own : ℕ → ℕ
  own u = u

  abbrev p : ℕ
  p = top k

  abbrev q : ℕ
  q = top (k + 1)

  abbrev steps : List Step
  steps = letter p q x y (n + n) (n + n + 1) ∷ []

  abbrev last : ℕ → ℕ
  last = names_after own steps

  abbrev points : List ℕ
  points = strand_points 0 n

  abbrev box_of : (ℕ → ℕ) → Node
  box_of name = record { group = group; ends = map (λ j. name (point_at 0 n j)) (range_with_len 0 (n + n)); terms = f }

  abbrev old : List Node
  old = box_of own ∷ step_nodes own steps

  abbrev new : List Node
  new = box_of last ∷ []

  terms : AreTerms (n + n) (signed f)
  terms = pairings_of n f (noncrossing_element m n f (projector_element m delta n f some is))

  point_low : (u : ℕ) → strand_of u < n → u < n + n
  point_low u l = ⊎_elim (λ e. omega (arith, e, l)) (λ e. omega (arith, e, l)) (halves u)

  in_points : (u : ℕ) → is_member ◌==◌ points u ≡ true → u < n + n
  in_points u h = let t = (member_strands 0 n u h).1 in point_low u (omega (arith, t))

  points_in : (u : ℕ) → u < n + n → is_member ◌==◌ points u ≡ true
  points_in u h = strands_member 0 n u (omega arith) (⊎_elim (λ e. omega (arith, e, h)) (λ e. omega (arith, e, h)) (halves u))

  last_p : last p ≡ n + n
  last_p = plain p q (n + n) (n + n + 1)
    where
      plain : (p q l r : ℕ) → cond (p == p) l (cond (p == q) r p) ≡ l
      plain p q l r = grind (arith, nat_tests)

  last_q : last q ≡ n + n + 1
  last_q = plain p q (n + n) (n + n + 1) (λ e. omega (arith, e))
    where
      plain : (p q l r : ℕ) → p ≢ q → cond (q == p) l (cond (q == q) r q) ≡ r
      plain p q l r d = grind (arith, nat_tests, d)

  last_other : (u : ℕ) → u ≢ p → u ≢ q → last u ≡ u
  last_other u d e = plain u p q (n + n) (n + n + 1) d e
    where
      plain : (u p q l r : ℕ) → u ≢ p → u ≢ q → cond (u == p) l (cond (u == q) r u) ≡ u
      plain u p q l r d e = grind (arith, nat_tests, d, e)

  -- what the name of a point is behind the crossing
  abbrev Case : ℕ → Type 0
  Case u = ((u ≡ p) × (last u ≡ n + n)) ⊎ (((u ≡ q) × (last u ≡ n + n + 1)) ⊎ ((u ≢ p) × (u ≢ q) × (last u ≡ u)))

  case : (u : ℕ) → Case u
  case u =
      ⊎_elim (λ e. inl (e, ap last e ∙ last_p))
      (λ d. ⊎_elim (λ e. inr (inl (e, ap last e ∙ last_q))) (λ e. inr (inr (d, e, last_other u d e))) (cases_eq u q)) (cases_eq u p)

  last_one : (u v : ℕ) → u < n + n → v < n + n → last u ≡ last v → u ≡ v
  last_one u v a b e =
      ⊎_elim
      (λ c. ⊎_elim (λ d. c.0 ∙ sym d.0) (λ r. ⊎_elim (λ d. absurd (let s = c.1 in let t = d.1 in omega (arith, e, s, t))) (λ d. absurd (let s = c.1 in let t = d.2 in omega (arith, e, s, t, b))) r) (case v))
      (λ l. ⊎_elim
      (λ c. ⊎_elim (λ d. absurd (let s = c.1 in let t = d.1 in omega (arith, e, s, t))) (λ r. ⊎_elim (λ d. c.0 ∙ sym d.0) (λ d. absurd (let s = c.1 in let t = d.2 in omega (arith, e, s, t, b))) r) (case v))
      (λ c. ⊎_elim (λ d. absurd (let s = c.2 in let t = d.1 in omega (arith, e, s, t, a))) (λ r. ⊎_elim (λ d. absurd (let s = c.2 in let t = d.1 in omega (arith, e, s, t, a))) (λ d. sym c.2 ∙ e ∙ d.2) r) (case v))
      l)
      (case u)

  -- where a point stands among the ends
  end_low : (j : ℕ) → j < n + n → point_at 0 n j < n + n
  end_low j l = let s = (strand_point 0 n j l).1 in point_low (point_at 0 n j) (omega (arith, s))

  place : (u : ℕ) → u < n + n → (j : ℕ) × (j < n + n) × (u ≡ point_at 0 n j)
  place u l =
      let r = member_strands 0 n u (points_in u l) in
      let t = box_nodes.boxed_from 0 n u r.0 r.1 in
      (boxes.place_of 0 n u, place_below 0 n u t, sym (point_place 0 n u t))

  ends_one : (name : ℕ → ℕ) → ((u v : ℕ) → u < n + n → v < n + n → name u ≡ name v → u ≡ v) → (u : ℕ) → u < n + n → times_in ((box_of name).ends) (name u) ≡ 1
  ends_one name one u l =
      let r = place u l in
      one_in_range (λ j. name (point_at 0 n j)) (name u) r.0 0 (n + n) (omega arith) (let h = r.1 in omega (arith, h)) (ap name r.2)
      (λ j a b e. (let t = one u (point_at 0 n j) l (end_low j (omega (arith, b))) e in point_one 0 n j r.0 (omega (arith, b)) r.1 (sym t ∙ r.2)))

  ends_found : (name : ℕ → ℕ) (z : ℕ) → 1 ≤ times_in ((box_of name).ends) z → (u : ℕ) × (u < n + n) × (z ≡ name u)
  ends_found name z h = let r = found_in_range (λ j. name (point_at 0 n j)) z 0 (n + n) h in (point_at 0 n r.0, end_low r.0 (let l = r.2 in omega (arith, l)), r.3)

  ends_none : (z : ℕ) → n + n ≤ z → times_in ((box_of own).ends) z ≡ 0
  ends_none z h = none_in_range (λ j. point_at 0 n j) z 0 (n + n) (λ j a b e. (let t = end_low j (omega (arith, b)) in omega (arith, t, e, h)))

  old_times : (z : ℕ) → times_in (names_of old) z ≡ times_in ((box_of own).ends) z + (at z q + at z (n + n + 1) + at z (n + n) + at z p)
  old_times z =
      let a = times_in-append ((box_of own).ends) (q ∷ (n + n + 1) ∷ (n + n) ∷ p ∷ []) z in
      let c1 = times_in-cons q ((n + n + 1) ∷ (n + n) ∷ p ∷ []) z in
      let c2 = times_in-cons (n + n + 1) ((n + n) ∷ p ∷ []) z in
      let c3 = times_in-cons (n + n) (p ∷ []) z in
      let c4 = times_in-cons p [] z in
      omega (arith, a, c1, c2, c3, c4)

  new_times : (z : ℕ) → times_in (names_of new) z ≡ times_in ((box_of last).ends) z
  new_times z = let a = times_in-append ((box_of last).ends) [] z in omega (arith, a)

  opened : (u : ℕ) → u < n + n → is_member ◌==◌ (map last points) (last u) ≡ true
  opened u l = is_member-map last points u (points_in u l)

  old_piece : IsPiece old (map last points)
  old_piece =
      piece_from old (map last points)
      (λ z h.
      let r = member_mapped last points z h in
      let l = in_points r.0 r.1 in
      let s = old_times z in
      ⊎_elim
      (λ c. (let e : z ≡ n + n = r.2 ∙ c.1 in
      let t = ends_none z (omega (arith, e)) in
      let a = at_other z q (λ w. omega (arith, w, e, low)) in let b = at_other z (n + n + 1) (λ w. omega (arith, w, e)) in let c = at_same z (n + n) e in let d = at_other z p (λ w. omega (arith, w, e, low)) in
      omega (arith, s, t, a, b, c, d)))
      (λ o. ⊎_elim
      (λ c. (let e : z ≡ n + n + 1 = r.2 ∙ c.1 in
      let t = ends_none z (omega (arith, e)) in
      let a = at_other z q (λ w. omega (arith, w, e, low)) in let b = at_same z (n + n + 1) e in let c = at_other z (n + n) (λ w. omega (arith, w, e)) in let d = at_other z p (λ w. omega (arith, w, e, low)) in
      omega (arith, s, t, a, b, c, d)))
      (λ c. (let e : z ≡ r.0 = r.2 ∙ c.2 in
      let t = ap (times_in ((box_of own).ends)) e ∙ ends_one own (λ u v i j w. w) r.0 l in
      let a = at_other z q (λ w. c.1 (sym e ∙ w)) in let b = at_other z (n + n + 1) (λ w. omega (arith, w, e, l)) in let g = at_other z (n + n) (λ w. omega (arith, w, e, l)) in let d = at_other z p (λ w. c.0 (sym e ∙ w)) in
      omega (arith, s, t, a, b, g, d))) o)
      (case r.0))
      (λ z h out.
      let s = old_times z in
      ⊎_elim
      (λ (e : z ≡ p).
      let t = ap (times_in ((box_of own).ends)) e ∙ ends_one own (λ u v i j w. w) p (omega (arith, low)) in
      let a = at_other z q (λ w. omega (arith, w, e)) in let b = at_other z (n + n + 1) (λ w. omega (arith, w, e, low)) in let g = at_other z (n + n) (λ w. omega (arith, w, e, low)) in let d = at_same z p e in
      omega (arith, s, t, a, b, g, d))
      (λ np. ⊎_elim
      (λ (e : z ≡ q).
      let t = ap (times_in ((box_of own).ends)) e ∙ ends_one own (λ u v i j w. w) q (omega (arith, low)) in
      let a = at_same z q e in let b = at_other z (n + n + 1) (λ w. omega (arith, w, e, low)) in let g = at_other z (n + n) (λ w. omega (arith, w, e, low)) in let d = at_other z p np in
      omega (arith, s, t, a, b, g, d))
      (λ nq. absurd
      (⊎_elim
      (λ (e : z ≡ n + n). clash (is_member ◌==◌ (map last points) z) out (ap (is_member ◌==◌ (map last points)) (e ∙ sym last_p) ∙ opened p (omega (arith, low))))
      (λ nl. ⊎_elim
      (λ (e : z ≡ n + n + 1). clash (is_member ◌==◌ (map last points) z) out (ap (is_member ◌==◌ (map last points)) (e ∙ sym last_q) ∙ opened q (omega (arith, low))))
      (λ nr.
      let a = at_other z q nq in let b = at_other z (n + n + 1) nr in let g = at_other z (n + n) nl in let d = at_other z p np in
      let r = ends_found own z (omega (arith, s, h, a, b, g, d)) in
      clash (is_member ◌==◌ (map last points) z) out (ap (is_member ◌==◌ (map last points)) (sym (last_other z np nq)) ∙ opened z (let l = r.1 in let e = r.2 in omega (arith, l, e))))
      (cases_eq z (n + n + 1)))
      (cases_eq z (n + n))))
      (cases_eq z q))
      (cases_eq z p))
    where
      clash : (b : Bool) → b ≡ false → b ≡ true → ⊥
      clash b s t = grind (arith, s, t)

  new_piece : IsPiece new (map last points)
  new_piece =
      piece_from new (map last points)
      (λ z h. (let r = member_mapped last points z h in let s = new_times z in let t = ap (times_in ((box_of last).ends)) r.2 ∙ ends_one last last_one r.0 (in_points r.0 r.1) in omega (arith, s, t)))
      (λ z h out.
      (let s = new_times z in
      let r = ends_found last z (omega (arith, s, h)) in
      absurd (clash (is_member ◌==◌ (map last points) z) out (ap (is_member ◌==◌ (map last points)) r.2 ∙ opened r.0 r.1))))
    where
      clash : (b : Bool) → b ≡ false → b ≡ true → ⊥
      clash b s t = grind (arith, s, t)

  -- ---- the sums
  abbrev box : List Weighted
  box = strand_box 0 n f

  module _ (name : ℕ → ℕ) (one : (u v : ℕ) → u < n + n → v < n + n → name u ≡ name v → u ≡ v) where
    is_node : IsNode (box_of name)
    is_node = box_node 0 n name (box_of name) f record { ends = refl; terms = refl } terms

    on : AreTermsOn (box_of name) points name f box
    on = terms_on 0 n name (box_of name) f refl terms

    beside : AreNamedBeside 0 n name
    beside = record {
      alone = λ u v a b c e. one u v (point_low u (omega (arith, a))) (point_low v (omega (arith, c))) e;
      stand = λ u v a b. absurd (omega (arith, a));
    }

    boxed : All (λ one. AreBoxed points points name one.mate) box
    boxed =
        all_boxed 0 n f terms (AreBoxed points points name)
        (λ q hq. boxed_names 0 n name points q hq beside (λ u h. (let t = (member_strands 0 n u h).1 in omega (arith, t))) (λ u l h. strands_member 0 n u (omega arith) (omega (arith, l)))
        (λ u h. (let t = (member_strands 0 n u h).1 in let e = strand_standing u in strands_member 0 n (standing u) (omega arith) (omega (arith, t, e)))))

    ends_in : (z : ℕ) → is_member ◌==◌ ((box_of name).ends) z ≡ true → is_member ◌==◌ (map name points) z ≡ true
    ends_in z h = let r = ends_found name z (times_of_member z ((box_of name).ends) h) in ap (is_member ◌==◌ (map name points)) r.2 ∙ is_member-map name points r.0 (points_in r.0 r.1)

    in_ends : (z : ℕ) → is_member ◌==◌ (map name points) z ≡ true → is_member ◌==◌ ((box_of name).ends) z ≡ true
    in_ends z h = let r = member_mapped name points z h in member_of_one z ((box_of name).ends) (let t = ap (times_in ((box_of name).ends)) r.2 ∙ ends_one name one r.0 (in_points r.0 r.1) in omega (arith, t))

  either : (s t : Bool) → s ≡ true → (s || t) ≡ true
  either s t h = grind (arith, h)

  behind_old : AreStepsBehind (box_of own) points points own steps
  behind_old = record {
    are_steps = (((λ e. omega (arith, e)), points_in p (omega (arith, low)), points_in q (omega (arith, low)), absent (n + n + 1) (omega arith), last_absent), tt);
    ends = ends_in own (λ u v a b e. e);
    meets_all = λ i d l.
        (let ns = names_of (step_nodes own steps) in let z = get_or (map own points) i d in
        is_member-append ((box_of own).ends) ns z ∙ either (is_member ◌==◌ ((box_of own).ends) z) (is_member ◌==◌ ns z) (in_ends own (λ u v a b e. e) z (is_member-itself (map own points) i d l)));
  }
    where
      absent : (z : ℕ) → n + n ≤ z → is_member ◌==◌ (map own points) z ≡ false
      absent z h = ⊎_elim (λ t. absurd (let r = member_mapped own points z t in let l = in_points r.0 r.1 in let e = r.2 in omega (arith, l, e, h))) (λ t. t) (cases_Bool (is_member ◌==◌ (map own points) z))

      last_absent : is_member ◌==◌ ((n + n + 1) ∷ map own points) (n + n) ≡ false
      last_absent = let t = absent (n + n) (omega arith) in plain (n + n) (is_member ◌==◌ (map own points) (n + n)) t
        where
          plain : (s : ℕ) (t : Bool) → t ≡ false → ((s == s + 1) || t) ≡ false
          plain s t h = grind (arith, nat_tests, h)

  behind_new : AreStepsBehind (box_of last) points points last []
  behind_new = record {
    are_steps = tt;
    ends = ends_in last last_one;
    meets_all = λ i d l.
        (let z = get_or (map last points) i d in
        is_member-append ((box_of last).ends) [] z ∙ either (is_member ◌==◌ ((box_of last).ends) z) false (in_ends last last_one z (is_member-itself (map last points) i d l)));
  }

  abbrev W : (List ℕ → ℕ) → (ℕ → ℕ) → ℕ
  W worth = mate_worth delta 0 worth last points

  sums : (worth : List ℕ → ℕ) → pattern_sum delta record { nodes = old; free_loops = 0 } (map last points) worth % m ≡ (x * pattern_sum delta record { nodes = new; free_loops = 0 } (map last points) worth) % m
  sums worth =
      let w = W worth in
      let cut : (ℕ → ℕ) → ℕ = λ mate. loop_worth delta p q mate * w (hooked p q mate) in
      let first = box_steps delta 0 (box_of own) box points points own steps worth (is_node own (λ u v a b e. e)) (on own (λ u v a b e. e)) (boxed own (λ u v a b e. e)) (λ u h. h) behind_old in
      let second = box_steps delta 0 (box_of last) box points points last [] worth (is_node last last_one) (on last last_one) (boxed last last_one) (λ u h. h) behind_new in
      let is_box : IsBox m delta 0 0 n box = projector_box m delta n 0 f some few is in
      let none = is_box.kills k (omega arith) (omega (arith, low)) w in
      ap (λ j. j % m) (first ∙ box_sum-two x y box w cut)
      ∙ gone (x * box_sum box w) y (box_sum box cut) none
      ∙ sym (ap (λ j. (x * j) % m) second)
    where
      gone : (s y c : ℕ) → c % m ≡ 0 % m → (s + y * c) % m ≡ s % m
      gone s y c h = add_same_mod m s s (y * c) (y * 0) refl (mul_same_mod m y c 0 h) ∙ ap (λ j. j % m) (let e : s + y * 0 ≡ s = omega arith in e)

  -- ---- at any names
  module _ (bottoms tops : ℕ → ℕ) (left right free : ℕ) (rest : List Node) (ok : All IsNode rest)
      (twice : (z : ℕ) → 1 ≤ times_in (names_of (box_at group n f bottoms tops ∷ crossing x y (tops (k + 1)) right left (tops k) ∷ rest)) z →
      times_in (names_of (box_at group n f bottoms tops ∷ crossing x y (tops (k + 1)) right left (tops k) ∷ rest)) z ≡ 2) where
    abbrev r : ℕ → ℕ
    r u = cond (nat_lt u (n + n)) (cond (u % 2 == 0) (tops (u / 2)) (bottoms (u / 2))) (cond (u == n + n) left right)

    low_names : (u : ℕ) → u < n + n → r u ≡ cond (u % 2 == 0) (tops (u / 2)) (bottoms (u / 2))
    low_names u l = plain u (n + n) (cond (u % 2 == 0) (tops (u / 2)) (bottoms (u / 2))) (cond (u == n + n) left right) l
      where
        plain : (u b s t : ℕ) → u < b → cond (nat_lt u b) s t ≡ s
        plain u b s t l = grind (arith, nat_tests, l)

    r_top : (j : ℕ) → j < n → r (top j) ≡ tops j
    r_top j l =
        low_names (top j) (omega (arith, l))
        ∙ (let a : (j + j) % 2 ≡ 0 = omega arith in let b : (j + j) / 2 ≡ j = omega arith in ap (λ s. cond (s == 0) (tops ((j + j) / 2)) (bottoms ((j + j) / 2))) a ∙ ap tops b)

    r_bottom : (j : ℕ) → j < n → r (bottom j) ≡ bottoms j
    r_bottom j l =
        low_names (bottom j) (omega (arith, l))
        ∙ (let a : (j + j + 1) % 2 ≡ 1 = omega arith in let b : (j + j + 1) / 2 ≡ j = omega arith in ap (λ s. cond (s == 0) (tops ((j + j + 1) / 2)) (bottoms ((j + j + 1) / 2))) a ∙ ap bottoms b)

    r_left : r (n + n) ≡ left
    r_left = plain (n + n) (cond ((n + n) % 2 == 0) (tops ((n + n) / 2)) (bottoms ((n + n) / 2))) left right
      where
        plain : (u s l r : ℕ) → cond (nat_lt u u) s (cond (u == u) l r) ≡ l
        plain u s l r = grind (arith, nat_tests)

    r_right : r (n + n + 1) ≡ right
    r_right = plain (n + n) (cond ((n + n + 1) % 2 == 0) (tops ((n + n + 1) / 2)) (bottoms ((n + n + 1) / 2))) left right
      where
        plain : (u s l r : ℕ) → cond (nat_lt (u + 1) u) s (cond (u + 1 == u) l r) ≡ r
        plain u s l r = grind (arith, nat_tests)

    abbrev others : ℕ → ℕ
    others = behind tops k left right

    r_last : (j : ℕ) → j < n → r (last (top j)) ≡ others j
    r_last j l =
        ⊎_elim
        (λ (e : j ≡ k). ap (λ i. r (last (top i))) e ∙ ap r last_p ∙ r_left ∙ sym (ap others e ∙ first k left (cond (k == k + 1) right (tops k))))
        (λ d. ⊎_elim
        (λ (e : j ≡ k + 1). ap (λ i. r (last (top i))) e ∙ ap r last_q ∙ r_right ∙ sym (ap others e ∙ second k left right (tops (k + 1))))
        (λ g. ap r (last_other (top j) (λ w. d (omega (arith, w))) (λ w. g (omega (arith, w)))) ∙ r_top j l ∙ sym (third j k left right (tops j) d g))
        (cases_eq j (k + 1)))
        (cases_eq j k)
      where
        first : (k l s : ℕ) → cond (k == k) l s ≡ l
        first k l s = grind (arith, nat_tests)

        second : (k l r s : ℕ) → cond (k + 1 == k) l (cond (k + 1 == k + 1) r s) ≡ r
        second k l r s = grind (arith, nat_tests)

        third : (j k l r s : ℕ) → j ≢ k → j ≢ k + 1 → cond (j == k) l (cond (j == k + 1) r s) ≡ s
        third j k l r s d e = grind (arith, nat_tests, d, e)

    ends_are : (name names : ℕ → ℕ) → ((j : ℕ) → j < n → r (name (top j)) ≡ names j) → ((j : ℕ) → j < n → r (name (bottom j)) ≡ bottoms j) →
        map r (map (λ j. name (point_at 0 n j)) (range_with_len 0 (n + n))) ≡ map (round n bottoms names) (range_with_len 0 (n + n))
    ends_are name names at_top at_bottom =
        map_map r (λ j. name (point_at 0 n j)) (range_with_len 0 (n + n))
        ∙ same_range (λ j. r (name (point_at 0 n j))) (round n bottoms names) 0 (n + n)
        (λ j a b.
        ⊎_elim
        (λ t. (let l : j < n = grind (arith, nat_tests, t) in
        ap (λ c. r (name (cond c (bottom (0 + j)) (top (0 + (n + n - 1 - j)))))) t ∙ ap (λ i. r (name (bottom i))) (let e : 0 + j ≡ j = omega arith in e) ∙ at_bottom j l
        ∙ sym (ap (λ c. cond c (bottoms j) (names (n + n - 1 - j))) t)))
        (λ t. (let l : n ≤ j = grind (arith, nat_tests, t) in
        ap (λ c. r (name (cond c (bottom (0 + j)) (top (0 + (n + n - 1 - j)))))) t ∙ ap (λ i. r (name (top i))) (let e : 0 + (n + n - 1 - j) ≡ n + n - 1 - j = omega arith in e) ∙ at_top (n + n - 1 - j) (omega (arith, l, b))
        ∙ sym (ap (λ c. cond c (bottoms j) (names (n + n - 1 - j))) t)))
        (cases_Bool (nat_lt j n)))

    other_bottom : (j : ℕ) → last (bottom j) ≡ bottom j
    other_bottom j = last_other (bottom j) (λ e. omega (arith, e)) (λ e. omega (arith, e))

    old_is : rename r old ≡ box_at group n f bottoms tops ∷ crossing x y (tops (k + 1)) right left (tops k) ∷ []
    old_is =
        ap₂ (λ es c. record { group = group; ends = es; terms = f } ∷ c ∷ []) (ends_are own tops r_top r_bottom)
        (ap₂ (λ a b. crossing x y a (r (n + n + 1)) (r (n + n)) b) (r_top (k + 1) low) (r_top k (omega (arith, low))) ∙ ap₂ (λ a b. crossing x y (tops (k + 1)) a b (tops k)) r_right r_left)

    new_is : rename r new ≡ box_at group n f bottoms others ∷ []
    new_is = ap (λ es. record { group = group; ends = es; terms = f } ∷ []) (ends_are last others r_last (λ j l. ap r (other_bottom j) ∙ r_bottom j l))

    abbrev all_old : List ℕ
    all_old = names_of (box_at group n f bottoms tops ∷ crossing x y (tops (k + 1)) right left (tops k) ∷ rest)

    whole : (ns : List Node) → names_of (rename r ns ++ rest) ≡ map r (names_of ns) ++ names_of rest
    whole ns = flat_map-append (λ node. node.ends) (rename r ns) rest ∙ ap (λ xs. xs ++ names_of rest) (names_of-rename r ns)

    old_all : map r (names_of old) ++ names_of rest ≡ all_old
    old_all = sym (whole old) ∙ ap (λ ns. names_of (ns ++ rest)) old_is

    old_pairs : ArePaired (map r (names_of old)) (map r (names_of old) ++ names_of rest)
    old_pairs z h =
        let t = times_in-append (map r (names_of old)) (names_of rest) z in
        let one = times_of_member z (map r (names_of old)) h in
        let e = ap (λ ns. times_in ns z) old_all in
        let two = twice z (omega (arith, t, one, e)) in omega (arith, e, two)

    -- the box loses the tops k and k+1 and gets the names behind
    pub exchanged : (z : ℕ) → times_in (map (round n bottoms others) (range_with_len 0 (n + n))) z + at z (tops k) + at z (tops (k + 1)) ≡ times_in (map (round n bottoms tops) (range_with_len 0 (n + n))) z + at z left + at z right
    exchanged z =
        let g : ℕ → ℕ = round n bottoms tops in
        let h : ℕ → ℕ = round n bottoms (λ j. cond (j == k) left (tops j)) in
        let w : ℕ → ℕ = round n bottoms others in
        let i : ℕ = n + n - 1 - k in
        let j : ℕ = n + n - 1 - (k + 1) in
        let a = changed_in_range g h z i 0 (n + n) (omega arith) (omega (arith, low)) (λ s c e d. one_off s (omega (arith, e)) d) in
        let b = changed_in_range h w z j 0 (n + n) (omega arith) (omega (arith, low)) (λ s c e d. two_off s (omega (arith, e)) d) in
        let g_i : g i ≡ tops k = high tops k (omega (arith, low)) in
        let h_i : h i ≡ left = high (λ j. cond (j == k) left (tops j)) k (omega (arith, low)) ∙ here k left (tops k) in
        let h_j : h j ≡ tops (k + 1) = high (λ j. cond (j == k) left (tops j)) (k + 1) low ∙ there k left (tops (k + 1)) in
        let w_j : w j ≡ right = high others (k + 1) low ∙ second k left right (tops (k + 1)) in
        let p1 = ap (at z) g_i in let p2 = ap (at z) h_i in let p3 = ap (at z) h_j in let p4 = ap (at z) w_j in
        omega (arith, a, b, p1, p2, p3, p4)
      where
        here : (k l s : ℕ) → cond (k == k) l s ≡ l
        here k l s = grind (arith, nat_tests)

        there : (k l s : ℕ) → cond (k + 1 == k) l s ≡ s
        there k l s = grind (arith, nat_tests)

        second : (k l o s : ℕ) → cond (k + 1 == k) l (cond (k + 1 == k + 1) o s) ≡ o
        second k l o s = grind (arith, nat_tests)

        high : (names : ℕ → ℕ) (k : ℕ) → k < n → round n bottoms names (n + n - 1 - k) ≡ names k
        high names k l =
            let c : nat_lt (n + n - 1 - k) n ≡ false = plain n k l in
            ap (λ t. cond t (bottoms (n + n - 1 - k)) (names (n + n - 1 - (n + n - 1 - k)))) c ∙ ap names (let e : n + n - 1 - (n + n - 1 - k) ≡ k = omega (arith, l) in e)
          where
            plain : (n k : ℕ) → k < n → nat_lt (n + n - 1 - k) n ≡ false
            plain n k l = grind (arith, nat_tests, l)

        one_off : (s : ℕ) → s < n + n → s ≢ n + n - 1 - k → round n bottoms tops s ≡ round n bottoms (λ j. cond (j == k) left (tops j)) s
        one_off s b d = plain s n k (bottoms s) left (tops (n + n - 1 - s)) low b d
          where
            plain : (s n k b l t : ℕ) → k + 1 < n → s < n + n → s ≢ n + n - 1 - k → cond (nat_lt s n) b t ≡ cond (nat_lt s n) b (cond (n + n - 1 - s == k) l t)
            plain s n k b l t low c d = grind (arith, nat_tests, low, c, d)

        two_off : (s : ℕ) → s < n + n → s ≢ n + n - 1 - (k + 1) → round n bottoms (λ j. cond (j == k) left (tops j)) s ≡ round n bottoms others s
        two_off s b d = plain s n k (bottoms s) left right (tops (n + n - 1 - s)) low b d
          where
            plain : (s n k b l o t : ℕ) → k + 1 < n → s < n + n → s ≢ n + n - 1 - (k + 1) → cond (nat_lt s n) b (cond (n + n - 1 - s == k) l t) ≡ cond (nat_lt s n) b (cond (n + n - 1 - s == k) l (cond (n + n - 1 - s == k + 1) o t))
            plain s n k b l o t low c d = grind (arith, nat_tests, low, c, d)

    new_pairs : ArePaired (map r (names_of new)) (map r (names_of new) ++ names_of rest)
    new_pairs z h =
        let es : List ℕ = map (round n bottoms others) (range_with_len 0 (n + n)) in
        let os : List ℕ = map (round n bottoms tops) (range_with_len 0 (n + n)) in
        let news : map r (names_of new) ≡ es ++ [] = sym (names_of-rename r new) ∙ ap names_of new_is in
        let x = exchanged z in
        let a = ap (λ ns. times_in ns z) news ∙ times_in-append es [] z in
        let t = times_in-append (map r (names_of new)) (names_of rest) z in
        let one = times_of_member z (map r (names_of new)) h in
        let o = times_in-append os (tops (k + 1) ∷ right ∷ left ∷ tops k ∷ names_of rest) z in
        let c1 = times_in-cons (tops (k + 1)) (right ∷ left ∷ tops k ∷ names_of rest) z in
        let c2 = times_in-cons right (left ∷ tops k ∷ names_of rest) z in
        let c3 = times_in-cons left (tops k ∷ names_of rest) z in
        let c4 = times_in-cons (tops k) (names_of rest) z in
        let two = twice z (omega (arith, x, a, one, o, c1, c2, c3, c4)) in
        omega (arith, x, a, t, one, o, c1, c2, c3, c4, two)

    -- A CROSSING BESIDE A BOX
    pub boxed_letter :
        value m delta record { nodes = box_at group n f bottoms tops ∷ crossing x y (tops (k + 1)) right left (tops k) ∷ rest; free_loops = free }
        ≡ x * value m delta record { nodes = box_at group n f bottoms (behind tops k left right) ∷ rest; free_loops = free } % m
    boxed_letter =
        sym (ap (λ ns. value m delta record { nodes = ns ++ rest; free_loops = free }) old_is)
        ∙ scaled_anywhere m delta free x r (map last points) old new rest
        (All-cons IsNode (box_of own) (step_nodes own steps) (is_node own (λ u v a b e. e)) (are_nodes own steps)) (All-cons IsNode (box_of last) [] (is_node last last_one) (All-nil IsNode)) ok
        old_piece new_piece old_pairs new_pairs sums
        ∙ ap (λ ns. x * value m delta record { nodes = ns ++ rest; free_loops = free } % m) new_is

-- AS A LAW
pub boxed_crossing : BoxedCrossingLaw
boxed_crossing m delta x y group n k f some few low is bottoms tops left right free rest ok twice = boxed_letter m delta x y group n k f some few low is bottoms tops left right free rest ok twice
