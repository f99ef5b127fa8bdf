-- The sum over the states of a network of steps is the steps' sum over matings.
use Rattle.std.proofs.Common.{◌≡◌, ◌≢◌, ℕ, ◌+◌, ◌-◌, ◌*◌, ◌^◌, Bool, true, false, cond, ◌==◌, List, [], ◌∷◌, refl, sym, ap, ap₂, ◌∙◌, arith, map}
use Rattle.std.proofs.Math.Pow.{pow-add}
use Rattle.std.specs.Set.{is_member, distinct_count}
use Rattle.std.proofs.lemmas.Bool.Decides.{nat_tests}
use Rattle.graph_parts.specs.Labels.{relabel, label_after, label_count}
use Rattle.graph_parts.specs.Patterns.{first_like}
use Rattle.graph_parts.proofs.PartLaws.{label_count-same_names}
use Rattle.graph_parts.proofs.Renaming.{map_map, map_agree_on}
use Rattle.graph_parts.proofs.Ends.{is_member-itself}
use Rattle.strand_words.specs.Matings.{hooked, loop_worth}
use Rattle.state_sums.proofs.Congruent.{pow_0, pow_1}
use Rattle.state_sums.proofs.Sums.{total}
use Rattle.word_networks.specs.Steps.{Step, letter, pass, join, named, without, names_after, points_after, step_nodes, step_sum, AreSteps, seen_after, first_name, mate_pattern, mate_worth}
use Rattle.word_networks.proofs.Labels.{relabel_back, relabel_joined}
use Rattle.word_networks.proofs.Points.{Tells, count_tells}
use Rattle.word_networks.proofs.StepLabels.{State, State-pass, State-pass_back, State-join, State-hook, count_pass, count_pass_back, count_join, count_hook, points_join, points_hook}

-- ---- patterns
first_told : (l name : ℕ → ℕ) (points : List ℕ) (mate : ℕ → ℕ) (inside : List ℕ) (u : ℕ) → Tells inside mate (λ w. l (name w)) → is_member ◌==◌ inside u ≡ true →
    ((v : ℕ) → is_member ◌==◌ points v ≡ true → is_member ◌==◌ inside v ≡ true) → first_like l (map name points) (name u) ≡ first_name name mate points u
first_told l name [] mate inside u t m h = refl
first_told l name (v ∷ points) mate inside u t m h =
    let ih = first_told l name points mate inside u t m (λ w k. h w (grind (arith, k))) in
    let e = t u v m (h v (grind (arith, nat_tests))) in
    ap₂ (λ b r. cond b (name v) r) e ih

pattern_told : (l name : ℕ → ℕ) (points : List ℕ) (mate : ℕ → ℕ) → Tells points mate (λ w. l (name w)) → map (first_like l (map name points)) (map name points) ≡ mate_pattern name points mate
pattern_told l name points mate t =
    map_map (first_like l (map name points)) name points
    ∙ map_agree_on (is_member ◌==◌ points) (λ u. first_like l (map name points) (name u)) (first_name name mate points) points (is_member-itself points) (λ u m. first_told l name points mate points u t m (λ v k. k))

-- ---- what labels are worth at the end, and what a mating is
module _ (delta free : ℕ) (worth : List ℕ → ℕ) (all : List ℕ) where
  abbrev pub label_worth : List ℕ → (ℕ → ℕ) → ℕ
  label_worth open_names l = delta ^ (label_count l all - label_count l open_names + free) * worth (map (first_like l open_names) open_names)

  -- names and points counted so far
  pub record Counts (l : ℕ → ℕ) (seen : List ℕ) (name : ℕ → ℕ) (points : List ℕ) (pairs loops : ℕ) : Type 0 where
    pub names : label_count l seen ≡ pairs + loops
    pub points_are : label_count (λ u. l (name u)) points ≡ pairs

  power_split : (n k c : ℕ) → n ≡ k + c → delta ^ (n - k + free) ≡ delta ^ c * delta ^ free
  power_split n k c e = ap (λ i. delta ^ i) (let t : n - k + free ≡ c + free = omega (arith, e) in t) ∙ pow-add delta c free

  power_loop : (c : ℕ) (b : Bool) → delta ^ (c + cond b 1 0) ≡ delta ^ c * cond b delta 1
  power_loop c true = pow-add delta c 1 ∙ ap (λ n. delta ^ c * n) (pow_1 delta)
  power_loop c false = pow-add delta c 0 ∙ ap (λ n. delta ^ c * n) (pow_0 delta)

  at_end : (l : ℕ → ℕ) (seen : List ℕ) (name : ℕ → ℕ) (points : List ℕ) (mate : ℕ → ℕ) (pairs loops : ℕ) → State l seen name points mate → Counts l seen name points pairs loops →
      ((z : ℕ) → is_member ◌==◌ all z ≡ is_member ◌==◌ seen z) → label_worth (map name points) l ≡ delta ^ loops * mate_worth delta free worth name points mate
  at_end l seen name points mate pairs loops s c same =
      let a : label_count l all ≡ pairs + loops = label_count-same_names l all seen same ∙ c.names in
      let b : label_count l (map name points) ≡ pairs = ap (distinct_count ◌==◌) (map_map l name points) ∙ c.points_are in
      ap₂ (λ n p. delta ^ (label_count l all - n + free) * worth p) b (pattern_told l name points mate s.tells)
      ∙ ap (λ n. n * worth (mate_pattern name points mate)) (power_split (label_count l all) pairs loops a)
      ∙ (let x = delta ^ loops in let y = delta ^ free in let z = worth (mate_pattern name points mate) in let t : x * y * z ≡ x * (y * z) = omega arith in t)

  crossing_plain : (s h d w x y k e g : ℕ) → x ≡ d * k → y ≡ g * e → g ≡ d * w → 0 + s * x + h * y ≡ d * (s * k + h * (w * e))
  crossing_plain s h d w x y k e g p q r = rw (p, q, r) (omega arith)

  -- THE SUM OVER STATES
  pub sum_of_steps : (steps : List Step) (l : ℕ → ℕ) (seen : List ℕ) (name : ℕ → ℕ) (points : List ℕ) (mate : ℕ → ℕ) (pairs loops : ℕ) → State l seen name points mate → Counts l seen name points pairs loops →
      AreSteps points seen steps → ((z : ℕ) → is_member ◌==◌ all z ≡ is_member ◌==◌ (seen_after seen steps) z) →
      total (step_nodes name steps) (λ es. label_worth (map (names_after name steps) (points_after points steps)) (label_after l es))
      ≡ delta ^ loops * step_sum delta steps (mate_worth delta free worth (names_after name steps) (points_after points steps)) mate
  sum_of_steps [] l seen name points mate pairs loops s c a same = at_end l seen name points mate pairs loops s c same
  sum_of_steps (pass p new ∷ steps) l seen name points mate pairs loops s c a same =
      let here = map (names_after (named name p new) steps) (points_after points steps) in
      let after = relabel l (name p, new) in
      let next = State-pass l seen name points mate p new s a.0.0 a.0.1 in
      let counts : Counts after (new ∷ seen) (named name p new) points pairs loops = record {
        names = count_pass l seen name points mate p new s a.0.0 a.0.1 ∙ c.names;
        points_are = count_tells points mate (λ u. after (named name p new u)) (λ u. l (name u)) next.tells s.tells ∙ c.points_are;
      } in
      one_plain _
      ∙ ap (λ k. total (step_nodes (named name p new) steps) (λ es. label_worth here (label_after k es))) (relabel_back l (name p) new)
      ∙ sum_of_steps steps after (new ∷ seen) (named name p new) points mate pairs loops next counts a.1 same
    where
      one_plain : (x : ℕ) → 0 + 1 * x ≡ x
      one_plain x = omega arith
  sum_of_steps (join p q ∷ steps) l seen name points mate pairs loops s c a same =
      let here = map (names_after name steps) (points_after (without p q points) steps) in
      let after = relabel l (name p, name q) in
      let next = State-join l seen name points mate p q s a.0.0 a.0.1 a.0.2 in
      let sees = label_count (λ u. after (name u)) (without p q points) in
      let more = points_join l seen name points mate p q s a.0.0 a.0.1 a.0.2 in
      let met = count_join l seen name points mate p q s a.0.0 a.0.1 a.0.2 in
      let counts : Counts after seen name (without p q points) sees (loops + cond (mate p == q) 1 0) = record {
        names = join_plain _ _ _ _ _ (mate p == q) met c.names (more ∙ c.points_are);
        points_are = refl;
      } in
      one_plain _
      ∙ ap (λ k. total (step_nodes name steps) (λ es. label_worth here (label_after k es))) (relabel_back l (name p) (name q))
      ∙ sum_of_steps steps after seen name (without p q points) (hooked p q mate) sees (loops + cond (mate p == q) 1 0) next counts a.1 same
      ∙ ap (λ n. n * step_sum delta steps (mate_worth delta free worth (names_after name steps) (points_after (without p q points) steps)) (hooked p q mate)) (power_loop loops (mate p == q))
      ∙ (let x = delta ^ loops in let y = loop_worth delta p q mate in let z = step_sum delta steps (mate_worth delta free worth (names_after name steps) (points_after (without p q points) steps)) (hooked p q mate) in
      let t : x * y * z ≡ x * (y * z) = omega arith in t)
    where
      one_plain : (x : ℕ) → 0 + 1 * x ≡ x
      one_plain x = omega arith

      join_plain : (k n pairs loops k1 : ℕ) (b : Bool) → k + cond b 0 1 ≡ n → n ≡ pairs + loops → k1 + 1 ≡ pairs → k ≡ k1 + (loops + cond b 1 0)
      join_plain k n pairs loops k1 b e f g = grind (arith, e, f, g)
  sum_of_steps (letter p q straight hook left right ∷ steps) l seen name points mate pairs loops s c a same =
      let d = a.0.0 in let mp = a.0.1 in let mq = a.0.2 in let nr = a.0.3 in let nl = a.0.4 in
      let x = name p in
      let y = name q in
      let names = named (named name q right) p left in
      let both = left ∷ right ∷ seen in
      let last = names_after names steps in
      let left_points = points_after points steps in
      let here = map last left_points in
      let on : (ℕ → ℕ) → ℕ = λ k. total (step_nodes names steps) (λ es. label_worth here (label_after k es)) in
      let rest : (ℕ → ℕ) → ℕ = step_sum delta steps (mate_worth delta free worth last left_points) in
      -- going straight on
      let one = relabel l (y, right) in
      let first = State-pass l seen name points mate q right s mq nr in
      let name_p : named name q right p ≡ x = name_plain right x p q d in
      let second = State-pass_back one (right ∷ seen) (named name q right) points mate p left first mp nl in
      let far = relabel one (left, named name q right p) in
      let straight_labels : relabel (relabel (relabel (relabel l (y, right)) (right, y)) (left, x)) (x, left) ≡ far =
      relabel_back (relabel (relabel l (y, right)) (right, y)) left x ∙ ap (λ k. relabel k (left, x)) (relabel_back l y right) ∙ ap (λ v. relabel one (left, v)) (sym name_p) in
      let straight_counts : Counts far both names points pairs loops = record {
        names = count_pass_back one (right ∷ seen) (named name q right) points mate p left first mp nl ∙ count_pass l seen name points mate q right s mq nr ∙ c.names;
        points_are = count_tells points mate (λ u. far (names u)) (λ u. l (name u)) second.tells s.tells ∙ c.points_are;
      } in
      let straight_sum : on (relabel (relabel (relabel (relabel l (y, right)) (right, y)) (left, x)) (x, left)) ≡ delta ^ loops * rest mate =
      ap on straight_labels ∙ sum_of_steps steps far both names points mate pairs loops second straight_counts a.1 same in
      -- the hook
      let joined = relabel l (y, x) in
      let turned = relabel joined (right, left) in
      let hook_state = State-hook l seen name points mate p q left right s d mp mq nr nl in
      let met : joined x ≡ joined y = met_plain (l x) (l y) in
      let hook_labels : relabel (relabel (relabel (relabel l (y, x)) (right, left)) (left, right)) (x, y) ≡ turned =
      ap (λ k. relabel k (x, y)) (relabel_back joined right left) ∙ relabel_joined turned x y (ap (λ n. cond (n == joined right) (joined left) n) met) in
      let hook_counts : Counts turned both names points pairs (loops + cond (mate p == q) 1 0) = record {
        names = count_hook l seen name points mate p q left right s d mp mq nr nl ∙ (let e = c.names in let b = cond (mate p == q) 1 0 in add_plain _ _ _ b e);
        points_are = points_hook l seen name points mate p q left right s d mp mq nr nl ∙ c.points_are;
      } in
      let hook_sum : on (relabel (relabel (relabel (relabel l (y, x)) (right, left)) (left, right)) (x, y)) ≡ delta ^ (loops + cond (mate p == q) 1 0) * rest (hooked p q mate) =
      ap on hook_labels ∙ sum_of_steps steps turned both names points (hooked p q mate) pairs (loops + cond (mate p == q) 1 0) hook_state hook_counts a.1 same in
      crossing_plain straight hook (delta ^ loops) (loop_worth delta p q mate) _ _ (rest mate) (rest (hooked p q mate)) _ straight_sum hook_sum (power_loop loops (mate p == q))
    where
      name_plain : (right x p q : ℕ) → p ≢ q → cond (p == q) right x ≡ x
      name_plain right x p q d = grind (arith, nat_tests, d)

      met_plain : (a b : ℕ) → cond (a == b) a a ≡ cond (b == b) a b
      met_plain a b = grind (arith, nat_tests)

      add_plain : (n k c b : ℕ) → n ≡ k + c → n + b ≡ k + (c + b)
      add_plain n k c b e = omega (arith, e)
