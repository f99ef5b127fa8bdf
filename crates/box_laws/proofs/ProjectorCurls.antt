-- The coloured curl with a projector: its network is one of steps behind a box, and each mating of the box absorbs the curl.
use Rattle.std.proofs.Common.{◌≡◌, ◌≢◌, ℕ, zero, suc, ◌+◌, ◌<◌, ◌≤◌, Bool, true, false, not, ◌==◌, ◌||◌, ◌&&◌, nat_lt, List, [], ◌∷◌, ◌++◌, map, refl, sym, ap, ◌∙◌, arith, All, subst, ⊎_elim, ◌⊎◌, inl, inr}
use Rattle.std.specs.List.{range_with_len}
use Rattle.std.specs.Set.{is_member}
use Rattle.std.proofs.lemmas.Bool.{cases_Bool}
use Rattle.std.proofs.lemmas.Bool.Decides.{nat_tests}
use Rattle.std.proofs.lemmas.List.Elements.{All-cons, All-nil, All-map, All-weaker}
use Rattle.graph_parts.proofs.Counting.{is_member-map}
use Rattle.graph_parts.proofs.Distinct.{is_member-append}
use Rattle.graph_parts.proofs.Ends.{is_member-itself}
use Rattle.state_sums.specs.Networks.{Term}
use Rattle.strand_algebra.proofs.Collecting.{signed, noncrossing_element}
use Rattle.strand_algebra.proofs.Contractions.{below_range}
use Rattle.strand_algebra.proofs.LabelProducts.{IsPairingOf}
use Rattle.strand_algebra.proofs.Operations.{pairings_of}
use Rattle.strand_algebra.proofs.ProjectorLaws.{projector_element}
use Rattle.list_lemmas.proofs.Ranges.{is_member-range}
use Rattle.strand_algebra.proofs.Totals.{AreTerms}
use Rattle.strand_words.specs.Boxes.{bottom}
use Rattle.strand_words.specs.Grids.{crossed, grid}
use Rattle.strand_words.specs.Words.{top}
use Rattle.word_networks.specs.BoxNetworks.{AreTermsOn, AreBoxed, AreStepsBehind}
use Rattle.word_networks.specs.GridNetworks.{grid_steps}
use Rattle.word_networks.specs.PlacedGrids.{close_steps}
use Rattle.word_networks.specs.Steps.{Step, without, names_after, points_of, points_after}
use Rattle.word_networks.specs.Strands.{strand_of, standing, strand_points}
use Rattle.word_networks.proofs.Grids.{grid_spells}
use Rattle.word_networks.proofs.NetworkLaws.{cabled_curl, spelled_points}
use Rattle.word_networks.proofs.Points.{is_member-without}
use Rattle.word_networks.proofs.Strands.{member_strands, strands_member, strand_standing, halves}
use Rattle.box_laws.specs.Laws.{ProjectorCurlLaw}
use Rattle.box_laws.specs.StrandBoxes.{point_at, place_of, mate_of, strand_box}
use Rattle.box_laws.proofs.BoxNodes.{terms_on, box_node, boxed_names, in_inner, mate_inner, boxed_from}
use Rattle.piece_laws.proofs.NameCounts.{member_mapped}
use Rattle.box_laws.proofs.Projectors.{projector_box}
use Rattle.box_laws.proofs.StrandBoxes.{mate_of-IsMating, place_below, point_place}

-- ---- the points that closing leaves
pub points_after-append : (points : List ℕ) (s t : List Step) → points_after points (s ++ t) ≡ points_after (points_after points s) t
points_after-append points [] t = refl
points_after-append points (step ∷ s) t = points_after-append (points_of points step) s t

pub strand_test : (u i : ℕ) → (not (u == top i) && not (u == bottom i)) ≡ not (strand_of u == i)
strand_test u i = plain u (strand_of u) i (halves u)
  where
    plain : (u s i : ℕ) → (u ≡ top s) ⊎ (u ≡ bottom s) → (not (u == top i) && not (u == bottom i)) ≡ not (s == i)
    plain u s i (inl e) = grind (arith, nat_tests, e)
    plain u s i (inr e) = grind (arith, nat_tests, e)

pub closed_member : (points : List ℕ) (i count u : ℕ) → is_member ◌==◌ (points_after points (close_steps i count)) u ≡ true → (is_member ◌==◌ points u ≡ true) × ((strand_of u < i) ⊎ (i + count ≤ strand_of u))
closed_member points i zero u m = (m, ⊎_elim (λ t. inl (let k : strand_of u < i = grind (arith, nat_tests, t) in k)) (λ f. inr (let k : i + 0 ≤ strand_of u = grind (arith, nat_tests, f) in k)) (cases_Bool (nat_lt (strand_of u) i)))
closed_member points i (suc count) u m =
    let ih = closed_member (without (top i) (bottom i) points) (i + 1) count u m in
    let e = sym (is_member-without (top i) (bottom i) points u) ∙ ih.0 in
    let t = strand_test u i in
    let here : is_member ◌==◌ points u ≡ true = grind (arith, e) in
    let other : strand_of u ≢ i = λ k. (let f = e in grind (arith, nat_tests, f, t, k)) in
    (here, ⊎_elim (λ l. inl (omega (arith, l, other))) (λ l. inr (omega (arith, l))) ih.1)

member_closed : (points : List ℕ) (i count u : ℕ) → is_member ◌==◌ points u ≡ true → i + count ≤ strand_of u → is_member ◌==◌ (points_after points (close_steps i count)) u ≡ true
member_closed points i zero u m l = m
member_closed points i (suc count) u m l =
    let t = strand_test u i in
    let d : strand_of u ≢ i = λ e. omega (arith, l, e) in
    let e = is_member-without (top i) (bottom i) points u in
    member_closed (without (top i) (bottom i) points) (i + 1) count u (grind (arith, nat_tests, e, t, m, d)) (omega (arith, l))

-- ---- each mating of the box
all_boxed : (c n : ℕ) (f : List Term) → AreTerms (n + n) (signed f) → (P : (ℕ → ℕ) → Type 0) → ((q : List ℕ) → IsPairingOf (n + n) q → P (mate_of c n q)) → All (λ one. P one.mate) (strand_box c n f)
all_boxed c n [] a P h = All-nil (λ one. P one.mate)
all_boxed c n (term ∷ f) a P h = All-cons (λ one. P one.mate) (record { weight = term.weight; mate = mate_of c n term.partner }) (strand_box c n f) (h term.partner a.0) (all_boxed c n f a.1 P h)

-- THE CURL
pub projector_curl : ProjectorCurlLaw
projector_curl m a b delta w free n s v h f node other name worth some few numbers factor is node_is beside behind other_is one =
    let c = n + 1 in
    let x = (crossed a b s 0).straight in
    let y = (crossed a b s 0).hook in
    let steps = grid_steps x y v h 0 0 c c in
    let closing = close_steps 0 c in
    let curl : List Step = steps ++ closing in
    let points = strand_points 0 (c + c) in
    let last : ℕ → ℕ = names_after name curl in
    let box = strand_box c c f in
    let inner = strand_points c c in
    let terms = pairings_of c f (noncrossing_element m c f (projector_element m delta c f some is)) in
    let within : (u : ℕ) → is_member ◌==◌ inner u ≡ true → is_member ◌==◌ points u ≡ true = λ u k. (let t = (member_strands c c u k).1 in strands_member 0 (c + c) u (omega arith) (omega (arith, t))) in
    let names = all_boxed c c f terms (AreBoxed inner points name)
    (λ q hq. boxed_names c c name points q hq beside (λ u k. (let t = (member_strands 0 (c + c) u k).1 in omega (arith, t))) (λ u l k. strands_member 0 (c + c) u (omega arith) (omega (arith, l)))
    (λ u k. (let t = (member_strands 0 (c + c) u k).1 in let e = strand_standing u in strands_member 0 (c + c) (standing u) (omega arith) (omega (arith, t, e))))) in
    let after = points_after points curl in
    let after_is : after ≡ points_after points closing = points_after-append points steps closing ∙ ap (λ ps. points_after ps closing) (spelled_points points (grid a b s 0 c c) steps (grid_spells a b s v h 0 0 c c)) in
    let to_inner : (u : ℕ) → is_member ◌==◌ after u ≡ true → is_member ◌==◌ inner u ≡ true =
    λ u k.
    (let r = closed_member points 0 c u (ap (λ ps. is_member ◌==◌ ps u) (sym after_is) ∙ k) in
    let t = (member_strands 0 (c + c) u r.0).1 in
    strands_member c c u (⊎_elim (λ l. absurd (omega (arith, l))) (λ l. omega (arith, l)) r.1) (omega (arith, t))) in
    let from_inner : (u : ℕ) → is_member ◌==◌ inner u ≡ true → is_member ◌==◌ after u ≡ true =
    λ u k. ap (λ ps. is_member ◌==◌ ps u) after_is ∙ member_closed points 0 c u (within u k) (let t = (member_strands c c u k).0 in omega (arith, t)) in
    let other_names = all_boxed c c f terms (AreBoxed inner after last)
    (λ q hq. record {
      mating = mate_of-IsMating c c q hq;
      within = from_inner;
      inside = mate_inner c c last q hq;
      closed = λ u k. from_inner (mate_of c c q u) (mate_inner c c last q hq u (to_inner u k));
      alone = λ p r mp mr e. one p r (to_inner p mp) mr e;
      stand = λ p r mp mr np nr. absurd (clash (is_member ◌==◌ inner p) (to_inner p mp) np);
    }) in
    let in_ends : (u : ℕ) → is_member ◌==◌ inner u ≡ true → is_member ◌==◌ other.ends (last u) ≡ true =
    λ u k.
    (let r = member_strands c c u k in
    let t = boxed_from c c u r.0 r.1 in
    let j = place_of c c u in
    let l = place_below c c u t in
    ap (λ ns. is_member ◌==◌ ns (last u)) other_is.ends
    ∙ ap (λ z. is_member ◌==◌ (map (λ i. last (point_at c c i)) (range_with_len 0 (c + c))) (last z)) (sym (point_place c c u t))
    ∙ is_member-map (λ i. last (point_at c c i)) (range_with_len 0 (c + c)) j (is_member-range 0 (c + c) j (omega arith) (omega (arith, l)))) in
    let other_behind : AreStepsBehind other inner after last [] = record {
      are_steps = tt;
      ends = λ z k.
          (let r = member_mapped (λ i. last (point_at c c i)) (range_with_len 0 (c + c)) z (ap (λ ns. is_member ◌==◌ ns z) (sym other_is.ends) ∙ k) in
          let l = below_range 0 (c + c) r.0 r.1 in
          ap (is_member ◌==◌ (map last inner)) r.2 ∙ is_member-map last inner (point_at c c r.0) (in_inner c c last r.0 (omega (arith, l))));
      meets_all =
          All-map (λ z. is_member ◌==◌ (other.ends ++ []) z ≡ true) last after
          (All-weaker (λ u. is_member ◌==◌ after u ≡ true) (λ u. is_member ◌==◌ (other.ends ++ []) (last u) ≡ true)
          (λ u k. is_member-append other.ends [] (last u) ∙ either (is_member ◌==◌ other.ends (last u)) (in_ends u (to_inner u k))) after (is_member-itself after));
    } in
    cabled_curl m a b delta w free n s v h node other box inner inner points name worth numbers factor (projector_box m delta c c f some few is)
    (box_node c c name node f node_is terms)
    (subst (λ ts. AreTermsOn node inner name ts box) (sym node_is.terms) (terms_on c c name node f node_is.ends terms)) names within behind
    (box_node c c last other f other_is terms)
    (subst (λ ts. AreTermsOn other inner last ts box) (sym other_is.terms) (terms_on c c last other f other_is.ends terms)) other_names from_inner other_behind
  where
    clash : (t : Bool) → t ≡ true → t ≡ false → ⊥
    clash t p q = grind (arith, p, q)

    either : (t : Bool) → t ≡ true → (t || false) ≡ true
    either t p = grind (arith, p)
