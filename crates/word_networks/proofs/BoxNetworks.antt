-- A box before steps: the sum over patterns is the box's sum of the steps' sums.
use Rattle.std.proofs.Common.{◌≡◌, ◌≢◌, ℕ, suc, ◌+◌, ◌*◌, Bool, true, false, cond, ◌==◌, ◌||◌, List, [], ◌∷◌, ◌++◌, refl, sym, ap, ap₂, ◌∙◌, arith, map, All, Contains, ⊎_elim, ◌⊎◌, inl, inr, sum_by}
use Rattle.std.specs.List.{AllPass}
use Rattle.std.specs.Set.{is_member, distinct_count}
use Rattle.std.proofs.lemmas.Bool.{eq-eqb, eqb-true, or_cases, cases_Bool}
use Rattle.std.proofs.lemmas.Bool.Decides.{nat_tests}
use Rattle.std.proofs.lemmas.List.Elements.{All-cons, All-head, All-tail, All-map, All-weaker}
use Rattle.std.proofs.lemmas.List.Sums.{sum_by-cons}
use Rattle.graph_parts.specs.Ends.{EndsAre}
use Rattle.graph_parts.specs.Labels.{relabel, label_after, label_of, label_count}
use Rattle.graph_parts.specs.Walks.{Joined, along}
use Rattle.graph_parts.proofs.Agreement.{from_All, eqb_from_iff}
use Rattle.graph_parts.proofs.Counting.{is_member-map, label_after-append}
use Rattle.graph_parts.proofs.Distinct.{is_member-append}
use Rattle.graph_parts.proofs.Ends.{is_member-itself, EndsAre-weaker}
use Rattle.graph_parts.proofs.Renaming.{map_map}
use Rattle.graph_parts.proofs.Through.{alone}
use Rattle.graph_parts.proofs.Walks.{labels-from_Joined, Joined-from_labels}
use Rattle.state_sums.specs.LocalSums.{pattern_sum}
use Rattle.state_sums.specs.Networks.{Node, Term, IsNode, names_of}
use Rattle.state_sums.specs.StateSums.{term_edges}
use Rattle.state_sums.proofs.Congruent.{pow_0}
use Rattle.state_sums.proofs.LabelSums.{pattern_sum-labels}
use Rattle.state_sums.proofs.StateEdges.{HavePlaces-from_nodes}
use Rattle.state_sums.proofs.Sums.{total, total_cong}
use Rattle.strand_words.specs.Boxes.{Weighted, box_sum}
use Rattle.word_networks.specs.BoxNetworks.{IsTermOn, AreTermsOn, AreBoxed, AreStepsBehind}
use Rattle.word_networks.specs.Steps.{Step, names_after, points_after, step_nodes, step_sum, seen_after, mate_worth}
use Rattle.word_networks.proofs.StepSums.{sum_of_steps, Counts, label_worth}
use Rattle.word_networks.proofs.Labels.{World, World-edge}
use Rattle.word_networks.proofs.Points.{Tells}
use Rattle.word_networks.proofs.StepLabels.{State}
use Rattle.word_networks.proofs.StepNetworks.{are_nodes, seen_names, known_after, AreKnown}

-- ---- edges among seen names
World-after : (l : ℕ → ℕ) (seen : List ℕ) (es : List (ℕ × ℕ)) → World l seen → EndsAre (is_member ◌==◌ seen) es → World (label_after l es) seen
World-after l seen [] w a = w
World-after l seen (e ∷ es) w a = World-after (relabel l e) seen es (World-edge l seen e.0 e.1 w a.0 a.1) a.2

-- ---- what keeps along edges keeps along walks
keeps_walk : (K : ℕ → ℕ) (es : List (ℕ × ℕ)) → ((x y : ℕ) → Contains es (x, y) → K x ≡ K y) → {x y : ℕ} → Joined es x y → K x ≡ K y
keeps_walk K es h (Rattle.graph_parts.specs.Walks.along {x = x} {y = y} c) = h x y c
keeps_walk K es h Rattle.graph_parts.specs.Walks.stay = refl
keeps_walk K es h (Rattle.graph_parts.specs.Walks.back j) = sym (keeps_walk K es h j)
keeps_walk K es h (Rattle.graph_parts.specs.Walks.on j k) = keeps_walk K es h j ∙ keeps_walk K es h k

-- the first number that passes
first_of : (ℕ → Bool) → List ℕ → ℕ
first_of test [] = 0
first_of test (x ∷ xs) = cond (test x) x (first_of test xs)

first_passes : (test : ℕ → Bool) (xs : List ℕ) (u : ℕ) → is_member ◌==◌ xs u ≡ true → test u ≡ true → (test (first_of test xs) ≡ true) × (is_member ◌==◌ xs (first_of test xs) ≡ true)
unfolding first_of
first_passes test [] u m t = absurd (grind (arith, m))
first_passes test (x ∷ xs) u m t =
    ⊎_elim
    (λ e. (let k : cond (test x) x (first_of test xs) ≡ x = ap (λ b. cond b x (first_of test xs)) e in (ap test k ∙ e, ap (is_member ◌==◌ (x ∷ xs)) k ∙ grind (arith, nat_tests))))
    (λ e.
    (let k : cond (test x) x (first_of test xs) ≡ first_of test xs = ap (λ b. cond b x (first_of test xs)) e in
    let other = λ (w : u ≡ x). sym t ∙ ap test w ∙ e in
    let ih = first_passes test xs u (grind (arith, nat_tests, m, other)) t in
    (ap test k ∙ ih.0, ap (is_member ◌==◌ (x ∷ xs)) k ∙ (let j = ih.1 in grind (arith, j)))))
    (cases_Bool (test x))

first_alike : (f g : ℕ → Bool) (xs : List ℕ) → ((x : ℕ) → is_member ◌==◌ xs x ≡ true → f x ≡ g x) → first_of f xs ≡ first_of g xs
unfolding first_of
first_alike f g [] h = refl
first_alike f g (x ∷ xs) h = ap₂ (λ b y. cond b x y) (h x (grind (arith, nat_tests))) (first_alike f g xs (λ y m. h y (grind (arith, m))))

module _ (node : Node) (inner points : List ℕ) (name mate : ℕ → ℕ) (term : Term) (boxed : AreBoxed inner points name mate) (on_term : IsTermOn node inner name mate term) where
  abbrev es : List (ℕ × ℕ)
  es = term_edges node term

  -- the point of the box whose name, or whose mate's name, it is
  point_of : ℕ → ℕ
  point_of z = first_of (λ w. (z == name w) || (z == name (mate w))) inner

  name_told : (u w : ℕ) → is_member ◌==◌ inner u ≡ true → is_member ◌==◌ inner w ≡ true → (name u == name w) ≡ (u == w)
  name_told u w mu mw = eqb_from_iff (name u) (name w) u w (λ e. boxed.alone u w (boxed.within u mu) mw e) (λ e. ap name e)

  test_is : (u w : ℕ) → is_member ◌==◌ inner u ≡ true → is_member ◌==◌ inner w ≡ true → ((name u == name w) || (name u == name (mate w))) ≡ ((u == w) || (u == mate w))
  test_is u w mu mw = ap₂ (λ b c. b || c) (name_told u w mu mw) (name_told u (mate w) mu (boxed.inside w mw))

  turned_test : (u w : ℕ) → ((u == w) || (u == mate w)) ≡ ((mate u == w) || (mate u == mate w))
  turned_test u w =
      let bu = boxed.mating.back u in let bw = boxed.mating.back w in
      plain u w (mate u) (mate w) (λ e. ap mate e) (λ e. ap mate e ∙ bw) (λ e. sym bu ∙ ap mate e) (λ e. sym bu ∙ ap mate e ∙ bw)
    where
      plain : (u w mu mw : ℕ) → (u ≡ w → mu ≡ mw) → (u ≡ mw → mu ≡ w) → (mu ≡ w → u ≡ mw) → (mu ≡ mw → u ≡ w) → ((u == w) || (u == mw)) ≡ ((mu == w) || (mu == mw))
      plain u w mu mw a b c d = grind (arith, nat_tests, a, b, c, d)

  point_of_mate : (u : ℕ) → is_member ◌==◌ inner u ≡ true → point_of (name u) ≡ point_of (name (mate u))
  unfolding point_of
  point_of_mate u m = first_alike _ _ inner (λ w k. test_is u w m k ∙ turned_test u w ∙ sym (test_is (mate u) w (boxed.inside u m) k))

  keeps_point : (x y : ℕ) → Contains es (x, y) → point_of x ≡ point_of y
  keeps_point x y c = let w = on_term.from x y c in ap point_of w.2 ∙ point_of_mate w.0 w.1 ∙ sym (ap point_of w.3)

  found : (u : ℕ) → is_member ◌==◌ inner u ≡ true → (u ≡ point_of (name u)) ⊎ (u ≡ mate (point_of (name u)))
  unfolding point_of
  found u m =
      let test : ℕ → Bool = λ w. (name u == name w) || (name u == name (mate w)) in
      let p = first_passes test inner u m (grind (arith, nat_tests)) in
      let t = sym (test_is u (first_of test inner) m p.1) ∙ p.0 in
      ⊎_elim (λ e. inl (eqb-true u (first_of test inner) e)) (λ e. inr (eqb-true u (mate (first_of test inner)) e)) (or_cases (u == first_of test inner) (u == mate (first_of test inner)) t)

  mates_of : (w u v : ℕ) → (u ≡ w) ⊎ (u ≡ mate w) → (v ≡ w) ⊎ (v ≡ mate w) → ((u == v) || (mate u == v)) ≡ true
  mates_of w u v (inl e) (inl f) = let t = e ∙ sym f in grind (arith, nat_tests, t)
  mates_of w u v (inl e) (inr f) = let t = ap mate e ∙ sym f in grind (arith, nat_tests, t)
  mates_of w u v (inr e) (inl f) = let t = ap mate e ∙ boxed.mating.back w ∙ sym f in grind (arith, nat_tests, t)
  mates_of w u v (inr e) (inr f) = let t = e ∙ sym f in grind (arith, nat_tests, t)

  label_told : (u v : ℕ) → is_member ◌==◌ inner u ≡ true → is_member ◌==◌ inner v ≡ true → (label_of es (name u) == label_of es (name v)) ≡ ((u == v) || (mate u == v))
  label_told u v mu mv =
      same_bool _ _
      (λ t.
      let j = Joined-from_labels es (name u) (name v) (eqb-true (label_of es (name u)) (label_of es (name v)) t) in
      let k = keeps_walk point_of es keeps_point j in
      mates_of (point_of (name u)) u v (found u mu) (⊎_elim (λ e. inl (e ∙ sym k)) (λ e. inr (e ∙ ap mate (sym k))) (found v mv)))
      (λ t.
      ⊎_elim (λ e. eq-eqb (label_of es (name u)) (label_of es (name v)) (ap (λ w. label_of es (name w)) (eqb-true u v e)))
      (λ e. eq-eqb (label_of es (name u)) (label_of es (name v)) (labels-from_Joined es (along (on_term.has u mu)) ∙ ap (λ w. label_of es (name w)) (eqb-true (mate u) v e)))
      (or_cases (u == v) (mate u == v) t))
    where
      same_bool : (b c : Bool) → (b ≡ true → c ≡ true) → (c ≡ true → b ≡ true) → b ≡ c
      same_bool b c h k = grind (arith, h, k)

  in_ends : (x y : ℕ) → Contains es (x, y) → (is_member ◌==◌ (map name inner) x ≡ true) × (is_member ◌==◌ (map name inner) y ≡ true)
  in_ends x y c =
      let w = on_term.from x y c in
      (ap (is_member ◌==◌ (map name inner)) w.2 ∙ is_member-map name inner w.0 w.1, ap (is_member ◌==◌ (map name inner)) w.3 ∙ is_member-map name inner (mate w.0) (boxed.inside w.0 w.1))

  ends_among : (fs : List (ℕ × ℕ)) → ((x y : ℕ) → Contains fs (x, y) → Contains es (x, y)) → EndsAre (is_member ◌==◌ (map name inner)) fs
  ends_among [] h = tt
  ends_among (e ∷ fs) h =
      let p = in_ends e.0 e.1 (h e.0 e.1 (0, omega arith, refl)) in
      (p.0, p.1, ends_among fs (λ x y c. h x y (later e fs (x, y) c)))
    where
      later : (e : ℕ × ℕ) (fs : List (ℕ × ℕ)) (u : ℕ × ℕ) → Contains fs u → Contains (e ∷ fs) u
      later e fs u (i, l, q) = (suc i, omega (arith, l), q)

  all_ends : EndsAre (is_member ◌==◌ (map name inner)) es
  all_ends = ends_among es (λ x y c. c)

  -- the name of a point that is not the box's is no end
  not_inner : (u : ℕ) → is_member ◌==◌ points u ≡ true → is_member ◌==◌ inner u ≡ false → is_member ◌==◌ (map name inner) (name u) ≡ false
  not_inner u mu nu = none inner (λ w k. boxed.alone u w mu k) (λ w k e. (let t = ap (is_member ◌==◌ inner) e in clash (is_member ◌==◌ inner u) (is_member ◌==◌ inner w) nu k t))
    where
      clash : (b c : Bool) → b ≡ false → c ≡ true → b ≡ c → ⊥
      clash b c p q r = grind (arith, p, q, r)

      none : (xs : List ℕ) → ((w : ℕ) → is_member ◌==◌ inner w ≡ true → name u ≡ name w → u ≡ w) → ((w : ℕ) → is_member ◌==◌ inner w ≡ true → u ≡ w → ⊥) → is_member ◌==◌ (map name inner) (name u) ≡ false
      none xs h k = none_of inner (λ w m e. k w m (h w m e))
        where
          none_of : (ys : List ℕ) → ((w : ℕ) → is_member ◌==◌ ys w ≡ true → name u ≡ name w → ⊥) → is_member ◌==◌ (map name ys) (name u) ≡ false
          none_of [] h = refl
          none_of (y ∷ ys) h =
              let a = h y (grind (arith, nat_tests)) in
              let ih = none_of ys (λ w m e. h w (grind (arith, m)) e) in
              grind (arith, nat_tests, a, ih)

  pub box_tells : Tells points mate (λ u. label_of es (name u))
  box_tells u v mu mv =
      ⊎_elim
      (λ iu. ⊎_elim (label_told u v iu) (λ nv. mixed u v iu nv (λ e. sym (alone (is_member ◌==◌ (map name inner)) es all_ends (name v) (name u) (not_inner v mv nv) (sym e))) mv) (cases_Bool (is_member ◌==◌ inner v)))
      (λ nu. ⊎_elim (λ iv. swapped u v (mixed v u iv nu (λ e. sym (alone (is_member ◌==◌ (map name inner)) es all_ends (name u) (name v) (not_inner u mu nu) (sym e))) mu))
      (λ nv. both_out u v mu mv nu nv) (cases_Bool (is_member ◌==◌ inner v)))
      (cases_Bool (is_member ◌==◌ inner u))
    where
      mixed_plain : (b c d : Bool) → (b ≡ true → ⊥) → c ≡ false → d ≡ false → b ≡ (c || d)
      mixed_plain b c d h e f = grind (arith, h, e, f)

      -- u is the box's, v is not
      mixed : (u v : ℕ) → is_member ◌==◌ inner u ≡ true → is_member ◌==◌ inner v ≡ false → (label_of es (name u) ≡ label_of es (name v) → name u ≡ name v) → is_member ◌==◌ points v ≡ true →
          (label_of es (name u) == label_of es (name v)) ≡ ((u == v) || (mate u == v))
      mixed u v iu nv h mv =
          let no : u ≢ v = λ e. member_clash (is_member ◌==◌ inner u) (is_member ◌==◌ inner v) iu nv (ap (is_member ◌==◌ inner) e) in
          let never : mate u ≢ v = λ e. member_clash (is_member ◌==◌ inner (mate u)) (is_member ◌==◌ inner v) (boxed.inside u iu) nv (ap (is_member ◌==◌ inner) e) in
          mixed_plain (label_of es (name u) == label_of es (name v)) (u == v) (mate u == v) (λ t. no (sym (boxed.alone v u mv iu (sym (h (eqb-true (label_of es (name u)) (label_of es (name v)) t)))))) (grind (arith, nat_tests, no)) (grind (arith, nat_tests, never))
        where
          member_clash : (b c : Bool) → b ≡ true → c ≡ false → b ≡ c → ⊥
          member_clash b c p q r = grind (arith, p, q, r)

      swapped : (u v : ℕ) → (label_of es (name v) == label_of es (name u)) ≡ ((v == u) || (mate v == u)) → (label_of es (name u) == label_of es (name v)) ≡ ((u == v) || (mate u == v))
      swapped u v e =
          let bu = boxed.mating.back u in let bv = boxed.mating.back v in
          plain (label_of es (name u)) (label_of es (name v)) u v (mate u) (mate v) e (λ t. sym bu ∙ ap mate t) (λ t. sym bv ∙ ap mate t)
        where
          plain : (a b u v mu mv : ℕ) → (b == a) ≡ ((v == u) || (mv == u)) → (mu ≡ v → u ≡ mv) → (mv ≡ u → v ≡ mu) → (a == b) ≡ ((u == v) || (mu == v))
          plain a b u v mu mv e f g = grind (arith, nat_tests, e, f, g)

      both_out : (u v : ℕ) → is_member ◌==◌ points u ≡ true → is_member ◌==◌ points v ≡ true → is_member ◌==◌ inner u ≡ false → is_member ◌==◌ inner v ≡ false →
          (label_of es (name u) == label_of es (name v)) ≡ ((u == v) || (mate u == v))
      both_out u v mu mv nu nv =
          eqb_from_iff (label_of es (name u)) (label_of es (name v)) (name u) (name v) (λ e. alone (is_member ◌==◌ (map name inner)) es all_ends (name u) (name v) (not_inner u mu nu) e) (λ e. ap (label_of es) e)
          ∙ boxed.stand u v mu mv nu nv

  pub box_state : State (label_of es) (map name points) name points mate
  box_state = record {
    world = World-after (λ z. z) (map name points) es record { inside = λ z m. m; outside = λ z m. refl }
        (EndsAre-weaker (is_member ◌==◌ (map name inner)) (is_member ◌==◌ (map name points)) (λ x m. from_All (is_member ◌==◌ (map name points)) (map name inner)
        (All-map (λ z. is_member ◌==◌ (map name points) z ≡ true) name inner (All-weaker (λ w. is_member ◌==◌ inner w ≡ true) (λ w. is_member ◌==◌ (map name points) (name w) ≡ true) (λ w k. is_member-map name points w (boxed.within w k)) inner (is_member-itself inner))) x m) es all_ends);
    mating = boxed.mating;
    closed = boxed.closed;
    known = λ u m. is_member-map name points u m;
    tells = box_tells;
  }

-- ---- each term of the box
module _ (delta free : ℕ) (worth : List ℕ → ℕ) (node : Node) (inner points : List ℕ) (name : ℕ → ℕ) (steps : List Step) (node_ok : IsNode node) (behind : AreStepsBehind node inner points name steps) where
  abbrev nodes : List Node
  nodes = node ∷ step_nodes name steps

  abbrev seen : List ℕ
  seen = map name points

  abbrev here : (ℕ → ℕ) → ℕ
  here mate = step_sum delta steps (mate_worth delta free worth (names_after name steps) (points_after points steps)) mate

  abbrev open_names : List ℕ
  open_names = map (names_after name steps) (points_after points steps)

  known_seen : AreKnown points name seen
  known_seen u m = is_member-map name points u m

  all_names : ((x : ℕ) → is_member ◌==◌ (map name inner) x ≡ true → is_member ◌==◌ seen x ≡ true) → (z : ℕ) → is_member ◌==◌ (names_of nodes) z ≡ is_member ◌==◌ (seen_after seen steps) z
  all_names among z =
      let a = seen_names points seen name steps known_seen behind.are_steps z in
      let b = from_All (is_member ◌==◌ (node.ends ++ names_of (step_nodes name steps))) seen behind.meets_all z in
      let c = is_member-append node.ends (names_of (step_nodes name steps)) z in
      let d = λ (t : is_member ◌==◌ node.ends z ≡ true). among z (behind.ends z t) in
      plain (is_member ◌==◌ (names_of nodes) z) (is_member ◌==◌ seen z) (is_member ◌==◌ node.ends z) (is_member ◌==◌ (names_of (step_nodes name steps)) z) (is_member ◌==◌ (seen_after seen steps) z) c a b d
    where
      plain : (all s e n t : Bool) → all ≡ (e || n) → t ≡ (s || n) → (s ≡ true → all ≡ true) → (e ≡ true → s ≡ true) → all ≡ t
      plain all s e n t p q r u = grind (arith, p, q, r, u)

  one_term : (mate : ℕ → ℕ) (term : Term) → AreBoxed inner points name mate → IsTermOn node inner name mate term → ((z : ℕ) → is_member ◌==◌ (names_of nodes) z ≡ is_member ◌==◌ (seen_after seen steps) z) →
      total (step_nodes name steps) (λ es. label_worth delta free worth (names_of nodes) open_names (label_of (term_edges node term ++ es))) ≡ here mate
  one_term mate term boxed on_term same =
      let l = label_of (term_edges node term) in
      let pairs = label_count (λ u. l (name u)) points in
      let counts : Counts delta free worth (names_of nodes) l seen name points pairs 0 = record {
        names = ap (distinct_count ◌==◌) (map_map l name points) ∙ (let k = pairs in let e : k ≡ k + 0 = omega arith in e);
        points_are = refl;
      } in
      total_cong (step_nodes name steps) _ _ (λ es. ap (label_worth delta free worth (names_of nodes) open_names) (label_after-append (λ x. x) (term_edges node term) es))
      ∙ sum_of_steps delta free worth (names_of nodes) steps l seen name points mate pairs 0 (box_state node inner points name mate term boxed on_term) counts behind.are_steps same
      ∙ (let k = here mate in let e = pow_0 delta in rw e (omega arith))

  all_terms : (terms : List Term) (box : List Weighted) → AreTermsOn node inner name terms box → All (λ one. AreBoxed inner points name one.mate) box →
      ((z : ℕ) → is_member ◌==◌ (names_of nodes) z ≡ is_member ◌==◌ (seen_after seen steps) z) →
      sum_by (λ term. term.weight * total (step_nodes name steps) (λ es. label_worth delta free worth (names_of nodes) open_names (label_of (term_edges node term ++ es)))) terms ≡ box_sum box here
  all_terms [] [] a b same = refl
  all_terms [] (one ∷ box) a b same = absurd a
  all_terms (term ∷ terms) [] a b same = absurd a
  all_terms (term ∷ terms) (one ∷ box) a b same =
      sum_by-cons (λ term. term.weight * total (step_nodes name steps) (λ es. label_worth delta free worth (names_of nodes) open_names (label_of (term_edges node term ++ es)))) term terms
      ∙ ap₂ (λ n k. n + k) (ap₂ (λ n k. n * k) a.0 (one_term one.mate term (All-head (λ w. AreBoxed inner points name w.mate) one box b) a.1 same))
      (all_terms terms box a.2 (All-tail (λ w. AreBoxed inner points name w.mate) one box b) same)

  -- THE SUM OVER PATTERNS
  pub box_pattern_sum : (box : List Weighted) → AreTermsOn node inner name node.terms box → All (λ one. AreBoxed inner points name one.mate) box →
      ((u : ℕ) → is_member ◌==◌ inner u ≡ true → is_member ◌==◌ points u ≡ true) →
      pattern_sum delta record { nodes = nodes; free_loops = free } open_names worth ≡ box_sum box here
  box_pattern_sum box a b within =
      let among : (x : ℕ) → is_member ◌==◌ (map name inner) x ≡ true → is_member ◌==◌ seen x ≡ true =
      from_All (is_member ◌==◌ seen) (map name inner)
      (All-map (λ z. is_member ◌==◌ seen z ≡ true) name inner (All-weaker (λ w. is_member ◌==◌ inner w ≡ true) (λ w. is_member ◌==◌ seen (name w) ≡ true) (λ w k. is_member-map name points w (within w k)) inner (is_member-itself inner))) in
      let same = all_names among in
      let has : AllPass (is_member ◌==◌ (names_of nodes)) open_names =
      All-map (λ z. is_member ◌==◌ (names_of nodes) z ≡ true) (names_after name steps) (points_after points steps)
      (All-weaker (λ u. is_member ◌==◌ (points_after points steps) u ≡ true) (λ u. is_member ◌==◌ (names_of nodes) (names_after name steps u) ≡ true)
      (λ u m. same (names_after name steps u) ∙ known_after points seen name steps known_seen u m) (points_after points steps) (is_member-itself (points_after points steps))) in
      pattern_sum-labels delta nodes free open_names worth (HavePlaces-from_nodes nodes (All-cons IsNode node (step_nodes name steps) node_ok (are_nodes name steps))) has
      ∙ all_terms node.terms box a b same
