-- Networks of steps: their sums over patterns are the steps' sums over matings, so steps that are alike there are alike
-- everywhere.
use Rattle.std.proofs.Common.{◌≡◌, ℕ, ◌+◌, Bool, true, false, cond, ◌==◌, ◌||◌, List, [], ◌∷◌, refl, sym, ap, ap₂, ◌∙◌, arith, map, All}
use Rattle.std.specs.List.{AllPass}
use Rattle.std.specs.Set.{is_member, distinct_count}
use Rattle.std.proofs.lemmas.Bool.Decides.{nat_tests}
use Rattle.std.proofs.lemmas.List.Elements.{All-cons, All-nil, All-map, All-weaker}
use Rattle.graph_parts.specs.Labels.{label_count}
use Rattle.graph_parts.proofs.Agreement.{from_All}
use Rattle.graph_parts.proofs.Counting.{is_member-map}
use Rattle.graph_parts.proofs.Ends.{is_member-itself}
use Rattle.graph_parts.proofs.Renaming.{map_map, map_agree_on}
use Rattle.state_sums.specs.LocalSums.{pattern_sum, arc}
use Rattle.state_sums.specs.Networks.{Node, IsNode, names_of}
use Rattle.state_sums.proofs.Congruent.{pow_0}
use Rattle.state_sums.proofs.LabelSums.{pattern_sum-labels}
use Rattle.state_sums.proofs.StateEdges.{HavePlaces-from_nodes}
use Rattle.state_sums.proofs.WrittenNodes.{IsNode-crossing, IsNode-weighted_arc}
use Rattle.word_networks.specs.Steps.{Step, letter, pass, join, named, without, name_after, node_of, names_after, points_of, points_after, step_nodes, step_sum, AreSteps, seen_of, seen_after, first_name, mate_pattern, mate_worth, AreNamed, AreStepsFrom}
use Rattle.word_networks.proofs.StepSums.{sum_of_steps, Counts}
use Rattle.word_networks.proofs.Points.{is_member-without}
use Rattle.word_networks.proofs.StepLabels.{State}

-- ---- steps are nodes
pub are_nodes : (name : ℕ → ℕ) (steps : List Step) → All IsNode (step_nodes name steps)
are_nodes name [] = All-nil IsNode
are_nodes name (letter p q straight hook left right ∷ steps) =
    All-cons IsNode (node_of name (letter p q straight hook left right)) (step_nodes (named (named name q right) p left) steps) (IsNode-crossing straight hook (name q) right left (name p)) (are_nodes (named (named name q right) p left) steps)
are_nodes name (pass p new ∷ steps) = All-cons IsNode (arc (name p) new) (step_nodes (named name p new) steps) (IsNode-weighted_arc 1 (name p) new) (are_nodes (named name p new) steps)
are_nodes name (join p q ∷ steps) = All-cons IsNode (arc (name p) (name q)) (step_nodes name steps) (IsNode-weighted_arc 1 (name p) (name q)) (are_nodes name steps)

-- ---- names
abbrev pub AreKnown : List ℕ → (ℕ → ℕ) → List ℕ → Type 0
AreKnown points name seen = (u : ℕ) → is_member ◌==◌ points u ≡ true → is_member ◌==◌ seen (name u) ≡ true

known_new : (seen : List ℕ) (new x : ℕ) (b : Bool) → is_member ◌==◌ seen x ≡ true → is_member ◌==◌ (new ∷ seen) (cond b new x) ≡ true
known_new seen new x true m = grind (arith, nat_tests)
known_new seen new x false m = grind (arith, m)

known_step : (points seen : List ℕ) (name : ℕ → ℕ) (step : Step) → AreKnown points name seen → AreKnown (points_of points step) (name_after name step) (seen_of seen step)
known_step points seen name (letter p q straight hook left right) k u m =
    known_new (right ∷ seen) left (named name q right u) (u == p) (known_new seen right (name u) (u == q) (k u m))
known_step points seen name (pass p new) k u m = known_new seen new (name u) (u == p) (k u m)
known_step points seen name (join p q) k u m = k u (let i = sym (is_member-without p q points u) ∙ m in grind (arith, i))

pub known_after : (points seen : List ℕ) (name : ℕ → ℕ) (steps : List Step) → AreKnown points name seen → AreKnown (points_after points steps) (names_after name steps) (seen_after seen steps)
known_after points seen name [] k = k
known_after points seen name (step ∷ steps) k = known_after (points_of points step) (seen_of seen step) (name_after name step) steps (known_step points seen name step k)

pub seen_names : (points seen : List ℕ) (name : ℕ → ℕ) (steps : List Step) → AreKnown points name seen → AreSteps points seen steps → (z : ℕ) →
    is_member ◌==◌ (seen_after seen steps) z ≡ (is_member ◌==◌ seen z || is_member ◌==◌ (names_of (step_nodes name steps)) z)
seen_names points seen name [] k a z = grind arith
seen_names points seen name (letter p q straight hook left right ∷ steps) k a z =
    let next = named (named name q right) p left in
    let ih = seen_names points (left ∷ right ∷ seen) next steps (known_step points seen name (letter p q straight hook left right) k) a.1 z in
    letter_plain seen (names_of (step_nodes next steps)) left right (name p) (name q) z (k p a.0.1) (k q a.0.2) _ ih
  where
    letter_plain : (seen others : List ℕ) (left right x y z : ℕ) → is_member ◌==◌ seen x ≡ true → is_member ◌==◌ seen y ≡ true → (b : Bool) → b ≡ (is_member ◌==◌ (left ∷ right ∷ seen) z || is_member ◌==◌ others z) →
        b ≡ (is_member ◌==◌ seen z || is_member ◌==◌ (y ∷ right ∷ left ∷ x ∷ others) z)
    letter_plain seen others left right x y z mx my b ih =
        let c = λ (e : z ≡ x). ap (is_member ◌==◌ seen) e ∙ mx in
        let d = λ (e : z ≡ y). ap (is_member ◌==◌ seen) e ∙ my in
        grind (arith, nat_tests, c, d, ih)
seen_names points seen name (pass p new ∷ steps) k a z =
    let next = named name p new in
    let ih = seen_names points (new ∷ seen) next steps (known_step points seen name (pass p new) k) a.1 z in
    pass_plain seen (names_of (step_nodes next steps)) new (name p) z (k p a.0.0) _ ih
  where
    pass_plain : (seen others : List ℕ) (new x z : ℕ) → is_member ◌==◌ seen x ≡ true → (b : Bool) → b ≡ (is_member ◌==◌ (new ∷ seen) z || is_member ◌==◌ others z) →
        b ≡ (is_member ◌==◌ seen z || is_member ◌==◌ (x ∷ new ∷ others) z)
    pass_plain seen others new x z mx b ih =
        let c = λ (e : z ≡ x). ap (is_member ◌==◌ seen) e ∙ mx in
        grind (arith, nat_tests, c, ih)
seen_names points seen name (join p q ∷ steps) k a z =
    let ih = seen_names (without p q points) seen name steps (known_step points seen name (join p q) k) a.1 z in
    join_plain seen (names_of (step_nodes name steps)) (name p) (name q) z (k p a.0.1) (k q a.0.2) _ ih
  where
    join_plain : (seen others : List ℕ) (x y z : ℕ) → is_member ◌==◌ seen x ≡ true → is_member ◌==◌ seen y ≡ true → (b : Bool) → b ≡ (is_member ◌==◌ seen z || is_member ◌==◌ others z) →
        b ≡ (is_member ◌==◌ seen z || is_member ◌==◌ (x ∷ y ∷ others) z)
    join_plain seen others x y z mx my b ih =
        let c = λ (e : z ≡ x). ap (is_member ◌==◌ seen) e ∙ mx in
        let d = λ (e : z ≡ y). ap (is_member ◌==◌ seen) e ∙ my in
        grind (arith, nat_tests, c, d, ih)

module _ (points : List ℕ) (name mate : ℕ → ℕ) (steps : List Step) (are : AreNamed points name mate) (from : AreStepsFrom points name steps) where
  abbrev nodes : List Node
  nodes = step_nodes name steps

  abbrev seen : List ℕ
  seen = map name points

  known : AreKnown points name seen
  known u m = is_member-map name points u m

  pub names_are : (z : ℕ) → is_member ◌==◌ (names_of nodes) z ≡ is_member ◌==◌ (seen_after seen steps) z
  names_are z =
      let a = seen_names points seen name steps known from.are_steps z in
      let b = from_All (is_member ◌==◌ (names_of nodes)) seen from.meets_all z in
      grind (arith, a, b)

  pub has_open : AllPass (is_member ◌==◌ (names_of nodes)) (map (names_after name steps) (points_after points steps))
  has_open =
      All-map (λ z. is_member ◌==◌ (names_of nodes) z ≡ true) (names_after name steps) (points_after points steps)
      (All-weaker (λ u. is_member ◌==◌ (points_after points steps) u ≡ true) (λ u. is_member ◌==◌ (names_of nodes) (names_after name steps u) ≡ true)
      (λ u m. names_are (names_after name steps u) ∙ known_after points seen name steps known u m) (points_after points steps) (is_member-itself (points_after points steps)))

  -- THE SUM OVER PATTERNS
  pub step_pattern_sum : (delta free : ℕ) (worth : List ℕ → ℕ) →
      pattern_sum delta record { nodes = nodes; free_loops = free } (map (names_after name steps) (points_after points steps)) worth
      ≡ step_sum delta steps (mate_worth delta free worth (names_after name steps) (points_after points steps)) mate
  step_pattern_sum delta free worth =
      let pairs = label_count name points in
      let state : State (λ x. x) seen name points mate = record {
        world = record { inside = λ z m. m; outside = λ z m. refl };
        mating = are.mating;
        closed = are.closed;
        known = known;
        tells = are.tells;
      } in
      let counts : Counts delta free worth (names_of nodes) (λ x. x) seen name points pairs 0 = record {
        names = ap (distinct_count ◌==◌) (map_map (λ x. x) name points) ∙ (let k = pairs in let e : k ≡ k + 0 = omega arith in e);
        points_are = refl;
      } in
      pattern_sum-labels delta nodes free (map (names_after name steps) (points_after points steps)) worth (HavePlaces-from_nodes nodes (are_nodes name steps)) has_open
      ∙ sum_of_steps delta free worth (names_of nodes) steps (λ x. x) seen name points mate pairs 0 state counts from.are_steps names_are
      ∙ (let k = step_sum delta steps (mate_worth delta free worth (names_after name steps) (points_after points steps)) mate in let e = pow_0 delta in rw e (omega arith))

-- ---- names that agree
first_agree : (f g mate : ℕ → ℕ) (points : List ℕ) (u : ℕ) → ((v : ℕ) → is_member ◌==◌ points v ≡ true → f v ≡ g v) → f u ≡ g u → first_name f mate points u ≡ first_name g mate points u
first_agree f g mate [] u h e = e
first_agree f g mate (v ∷ points) u h e =
    ap₂ (λ x y. cond (u == v || mate u == v) x y) (h v (grind (arith, nat_tests))) (first_agree f g mate points u (λ w m. h w (grind (arith, m))) e)

pub pattern_agree : (f g mate : ℕ → ℕ) (points : List ℕ) → ((v : ℕ) → is_member ◌==◌ points v ≡ true → f v ≡ g v) → mate_pattern f points mate ≡ mate_pattern g points mate
pattern_agree f g mate points h =
    map_agree_on (is_member ◌==◌ points) (first_name f mate points) (first_name g mate points) points (is_member-itself points) (λ u m. first_agree f g mate points u h (h u m))
