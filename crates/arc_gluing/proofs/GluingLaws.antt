-- The laws of gluing, from the same facts by labels: of each state, of one more term, and of the sums over all states.
use Rattle.std.proofs.Common.{◌≡◌, ℕ, suc, ◌+◌, ◌*◌, ◌^◌, ◌≤◌, ◌==◌, List, [], ◌∷◌, ◌++◌, map, length, slice_index, refl, sym, ap, subst, ◌∙◌, arith, append-nil, append_assoc, mul_assoc, mul_left_comm, All}
use Rattle.std.specs.List.{AllPass, flat_map}
use Rattle.std.specs.Set.{is_member}
use Rattle.std.proofs.Math.Pow.{pow-add}
use Rattle.std.proofs.lemmas.Bool.Decides.{nat_tests}
use Rattle.std.proofs.lemmas.List.Concat.{flat_map-cons}
use Rattle.std.proofs.lemmas.List.Elements.{All-head, All-tail, All-cons, All-nil, All-weaker, All-append, All-map}
use Rattle.graph_parts.specs.Ends.{AreAmong}
use Rattle.graph_parts.specs.Parts.{part_count}
use Rattle.graph_parts.specs.Patterns.{closed_parts, label_closed}
use Rattle.graph_parts.proofs.Ends.{is_member-get_or, EndsAre-append, EndsAre-weaker}
use Rattle.graph_parts.proofs.Distinct.{is_member-append}
use Rattle.graph_parts.proofs.PatternLabels.{closed_parts-labels}
use Rattle.state_sums.specs.Networks.{Node, Term, IsPairing, names_of}
use Rattle.state_sums.specs.StateSums.{states, state_edges, state_weight, term_edges}
use Rattle.state_sums.proofs.StateEdges.{sum_by_all}
use Rattle.state_sums.proofs.Sums.{total, total_is, total-append}
use Rattle.arc_gluing.specs.Laws.{AreFew, PairedStatesLaw, OnePairingLaw, IsGluedTo, GluedNodeLaw, OneMoreNodeLaw, WholeNetworkLaw}
use Rattle.arc_gluing.specs.Mates.{label_partners}
use Rattle.arc_gluing.specs.Pairings.{pair_edges, IsPairedBy, partners_of, AreOpen}
use Rattle.arc_gluing.specs.Seams.{AreOpenBehind}
use Rattle.arc_gluing.specs.Sums.{pairing_sum, worth_before}
use Rattle.list_lemmas.specs.Times.{times_in}
use Rattle.arc_gluing.proofs.ByParts.{IsPairedBy-from_labels, IsPairedLabels-from_walks, partners_of-labels}
use Rattle.arc_gluing.proofs.Choices.{AllChoices, total_choices}
use Rattle.arc_gluing.proofs.EachState.{names_of-more, AreFew-front, few_between, left_between, each_choice}
use Rattle.arc_gluing.proofs.Glued.{EndsAre-pair_edges}
use Rattle.list_lemmas.proofs.Sums.{sum_by_same, sum_by-times}
use Rattle.arc_gluing.proofs.OneNode.{IsChoice, AreOnce-open, label_partners-glue, label_closed-more}
use Rattle.arc_gluing.proofs.Places.{label_partners-is}
use Rattle.list_lemmas.proofs.Times.{times_of_member, member_of_times, times_in-append}
use Rattle.list_lemmas.proofs.Items.{all_pass_at}

-- ---- what holds of every choice holds of every state
All-flat_map : {X Y : Type 0} (P : Y → Type 0) (f : X → List Y) (xs : List X) → All (λ x. All P (f x)) xs → All P (flat_map f xs)
All-flat_map P f [] a = All-nil P
All-flat_map P f (x ∷ xs) a =
    rw (flat_map-cons f x xs) (All-append P (f x) (flat_map f xs) (All-head (λ y. All P (f y)) x xs a) (All-flat_map P f xs (All-tail (λ y. All P (f y)) x xs a)))

abbrev IsState : List Node → (List (ℕ × ℕ) → Type 0) → List Term → Type 0
IsState nodes Q state = Q (state_edges nodes state) × (length state ≡ length nodes)

each_state : (nodes : List Node) (Q : List (ℕ × ℕ) → Type 0) → AllChoices nodes Q → All (IsState nodes Q) (states nodes)
each_state [] Q a = All-cons (IsState [] Q) [] [] (a, refl) (All-nil (IsState [] Q))
each_state (node ∷ nodes) Q a =
    All-flat_map (IsState (node ∷ nodes) Q) (λ term. map (λ rest. term ∷ rest) (states nodes)) node.terms
    (All-weaker (λ term. AllChoices nodes (λ es. Q (term_edges node term ++ es))) (λ term. All (IsState (node ∷ nodes) Q) (map (λ rest. term ∷ rest) (states nodes)))
    (λ term b. All-map (IsState (node ∷ nodes) Q) (λ rest. term ∷ rest) (states nodes)
    (All-weaker (IsState nodes (λ es. Q (term_edges node term ++ es))) (λ rest. IsState (node ∷ nodes) Q (term ∷ rest)) (λ rest s. (s.0, ap suc s.1)) (states nodes)
    (each_state nodes (λ es. Q (term_edges node term ++ es)) b))) node.terms a)

pub open_among : (names open_names : List ℕ) → AreOpen names open_names → AllPass (is_member ◌==◌ names) open_names
open_among names open_names h =
    all_pass_at (is_member ◌==◌ names) open_names (λ i l. let x = slice_index open_names i in
    let t = times_of_member x open_names (is_member-get_or open_names i l) in let c = h.once x in member_of_times x names (grind (arith, nat_tests, t, c)))

-- ONE PAIRING BY PARTS
pub one_pairing_by_parts : OnePairingLaw
one_pairing_by_parts names open_names partner edges among h paired =
    partners_of-labels names edges among open_names (open_among names open_names h)
    ∙ label_partners-is edges open_names partner (AreOnce-open names open_names h) (IsPairedLabels-from_walks edges open_names partner paired)

-- EACH STATE PAIRS THE OPEN NAMES
pub paired_states : PairedStatesLaw
paired_states nodes open_names ok few h =
    All-weaker (IsState nodes (IsChoice (names_of nodes) open_names)) (λ state. IsPairedBy (state_edges nodes state) open_names (partners_of (names_of nodes) (state_edges nodes state) open_names))
    (λ state s.
    let es = state_edges nodes state in
    let P : List ℕ → Type 0 = λ p. IsPairedBy es open_names p in
    let choice = s.0 in
    subst P (sym (partners_of-labels (names_of nodes) es choice.inside open_names (open_among (names_of nodes) open_names h)))
    (IsPairedBy-from_labels es open_names (label_partners es open_names) choice.paired))
    (states nodes) (each_state nodes (IsChoice (names_of nodes) open_names) (each_choice nodes open_names ok few h))

-- ---- one more term
state_edges-more : (nodes : List Node) (node : Node) (state : List Term) (term : Term) → length state ≡ length nodes →
    state_edges (nodes ++ node ∷ []) (state ++ term ∷ []) ≡ state_edges nodes state ++ pair_edges node.ends term.partner
state_edges-more [] node [] term e = append-nil (term_edges node term)
state_edges-more [] node (t ∷ state) term e = absurd (omega arith)
state_edges-more (n ∷ nodes) node [] term e = absurd (omega arith)
state_edges-more (n ∷ nodes) node (t ∷ state) term e =
    ap (λ es. term_edges n t ++ es) (state_edges-more nodes node state term (omega arith)) ∙ sym (append_assoc (term_edges n t) (state_edges nodes state) (pair_edges node.ends term.partner))

module _ (nodes : List Node) (node : Node) (inner outer : List ℕ) (few : AreFew (nodes ++ node ∷ [])) (open_in : AreOpen (names_of nodes) inner)
    (open_out : AreOpen (names_of (nodes ++ node ∷ [])) outer) (es : List (ℕ × ℕ)) (choice : IsChoice (names_of nodes) inner es)
    (term : List ℕ) (pt : IsPairing term) (lt : length term ≡ length node.ends) where
  abbrev names : List ℕ
  names = names_of nodes

  abbrev ends : List ℕ
  ends = node.ends

  abbrev short : List (ℕ × ℕ)
  short = pair_edges inner (label_partners es inner) ++ pair_edges ends term

  few2 : (x : ℕ) → times_in (names_of nodes) x + times_in node.ends x ≤ 2
  few2 = few_between nodes node few

  out : AreOpenBehind inner node.ends outer
  out = left_between nodes node inner outer few open_in open_out

  wide_inside : AreAmong (names_of nodes ++ node.ends) (es ++ pair_edges node.ends term)
  wide_inside =
      EndsAre-append (is_member ◌==◌ (names ++ ends)) es (pair_edges ends term)
      (EndsAre-weaker (is_member ◌==◌ names) (is_member ◌==◌ (names ++ ends)) (λ x m. let a = is_member-append names ends x in grind (arith, a, m)) es choice.inside)
      (EndsAre-weaker (is_member ◌==◌ ends) (is_member ◌==◌ (names ++ ends)) (λ x m. let a = is_member-append names ends x in grind (arith, a, m)) (pair_edges ends term) (EndsAre-pair_edges ends term pt lt))

  short_inside : AreAmong (inner ++ node.ends) (pair_edges inner (label_partners es inner) ++ pair_edges node.ends term)
  short_inside =
      EndsAre-append (is_member ◌==◌ (inner ++ ends)) (pair_edges inner (label_partners es inner)) (pair_edges ends term)
      (EndsAre-weaker (is_member ◌==◌ inner) (is_member ◌==◌ (inner ++ ends)) (λ x m. let a = is_member-append inner ends x in grind (arith, a, m)) (pair_edges inner (label_partners es inner))
      (EndsAre-pair_edges inner (label_partners es inner) choice.paired.is_pairing choice.paired.whole))
      (EndsAre-weaker (is_member ◌==◌ ends) (is_member ◌==◌ (inner ++ ends)) (λ x m. let a = is_member-append inner ends x in grind (arith, a, m)) (pair_edges ends term) (EndsAre-pair_edges ends term pt lt))

  wide_open : AllPass (is_member ◌==◌ (names_of nodes ++ node.ends)) outer
  wide_open = let P : List ℕ → Type 0 = λ ns. AllPass (is_member ◌==◌ ns) outer in subst P (names_of-more nodes node) (open_among (names_of (nodes ++ node ∷ [])) outer open_out)

  short_open : AllPass (is_member ◌==◌ (inner ++ node.ends)) outer
  short_open =
      all_pass_at (is_member ◌==◌ (inner ++ ends)) outer (λ i l. let x = slice_index outer i in
      let t = times_of_member x outer (is_member-get_or outer i l) in let c = out.once x in let a = times_in-append inner ends x in
      member_of_times x (inner ++ ends) (grind (arith, nat_tests, t, c, a)))

  inner_is : partners_of (names_of nodes) es inner ≡ label_partners es inner
  inner_is = partners_of-labels names es choice.inside inner (open_among names inner open_in)

  short_is : partners_of (inner ++ node.ends) (pair_edges inner (label_partners es inner) ++ pair_edges node.ends term) outer ≡ label_partners (pair_edges inner (label_partners es inner) ++ pair_edges node.ends term) outer
  short_is = partners_of-labels (inner ++ ends) short short_inside outer short_open

  short_closed : closed_parts (inner ++ node.ends) (pair_edges inner (label_partners es inner) ++ pair_edges node.ends term) outer ≡ label_closed (pair_edges inner (label_partners es inner) ++ pair_edges node.ends term) (inner ++ node.ends) outer
  short_closed = closed_parts-labels (inner ++ ends) short short_inside outer short_open

  -- the pairing and the closed parts after a term more, by parts
  pub glued_pairing : partners_of (names_of nodes ++ node.ends) (es ++ pair_edges node.ends term) outer
      ≡ partners_of (inner ++ node.ends) (pair_edges inner (partners_of (names_of nodes) es inner) ++ pair_edges node.ends term) outer
  glued_pairing =
      partners_of-labels (names ++ ends) (es ++ pair_edges ends term) wide_inside outer wide_open
      ∙ label_partners-glue names ends inner outer few2 open_in out es choice term pt lt
      ∙ sym short_is
      ∙ ap (λ p. partners_of (inner ++ ends) (pair_edges inner p ++ pair_edges ends term) outer) (sym inner_is)

  pub glued_closed : closed_parts (names_of nodes ++ node.ends) (es ++ pair_edges node.ends term) outer
      ≡ closed_parts (names_of nodes) es inner + closed_parts (inner ++ node.ends) (pair_edges inner (partners_of (names_of nodes) es inner) ++ pair_edges node.ends term) outer
  glued_closed =
      let a = closed_parts-labels (names ++ ends) (es ++ pair_edges ends term) wide_inside outer wide_open in
      let b = label_closed-more names ends inner outer few2 open_in out es choice term pt lt in
      let c = closed_parts-labels names es choice.inside inner (open_among names inner open_in) in
      let d = short_closed in
      let e = ap (λ p. closed_parts (inner ++ ends) (pair_edges inner p ++ pair_edges ends term) outer) (sym inner_is) in
      omega (arith, a, b, c, d, e)

-- GLUING
pub glued_node : GluedNodeLaw
glued_node nodes node inner outer ok node_ok few open_in open_out =
    All-weaker (IsState nodes (IsChoice (names_of nodes) inner)) (λ state. All (λ term. IsGluedTo nodes node inner outer state term) node.terms)
    (λ state s.
    All-weaker (λ term. IsPairing term.partner × (length term.partner ≡ length node.ends)) (λ term. IsGluedTo nodes node inner outer state term)
    (λ term t.
    let es = state_edges nodes state in
    let names_are = names_of-more nodes node in
    let edges_are = state_edges-more nodes node state term s.1 in
    record {
      pairing =
          ap (λ ns. partners_of ns (state_edges (nodes ++ node ∷ []) (state ++ term ∷ [])) outer) names_are
          ∙ ap (λ fs. partners_of (names_of nodes ++ node.ends) fs outer) edges_are
          ∙ glued_pairing nodes node inner outer few open_in open_out es s.0 term.partner t.0 t.1;
      closed =
          ap (λ ns. closed_parts ns (state_edges (nodes ++ node ∷ []) (state ++ term ∷ [])) outer) names_are
          ∙ ap (λ fs. closed_parts (names_of nodes ++ node.ends) fs outer) edges_are
          ∙ glued_closed nodes node inner outer few open_in open_out es s.0 term.partner t.0 t.1;
    }) node.terms node_ok)
    (states nodes)
    (each_state nodes (IsChoice (names_of nodes) inner) (each_choice nodes inner ok (AreFew-front nodes (node ∷ []) few) open_in))

-- ---- sums
abbrev weighed : ℕ → List ℕ → List ℕ → (List ℕ → ℕ) → List (ℕ × ℕ) → ℕ
weighed delta names open_names worth es = delta ^ closed_parts names es open_names * worth (partners_of names es open_names)

pairing_sum-total : (delta : ℕ) (nodes : List Node) (open_names : List ℕ) (worth : List ℕ → ℕ) → pairing_sum delta nodes open_names worth ≡ total nodes (weighed delta (names_of nodes) open_names worth)
pairing_sum-total delta nodes open_names worth = total_is nodes (weighed delta (names_of nodes) open_names worth)

-- ONE MORE NODE IN THE SUM
pub one_more_node : OneMoreNodeLaw
one_more_node delta nodes node inner outer worth ok node_ok few open_in open_out =
    let names = names_of nodes in
    let whole : List (ℕ × ℕ) → ℕ = weighed delta (names_of (nodes ++ node ∷ [])) outer worth in
    let part : List (ℕ × ℕ) → ℕ = weighed delta names inner (worth_before delta node inner outer worth) in
    pairing_sum-total delta (nodes ++ node ∷ []) outer worth
    ∙ total-append nodes (node ∷ []) whole
    ∙ total_choices nodes (IsChoice names inner) (λ es. total (node ∷ []) (λ fs. whole (es ++ fs))) part (each_choice nodes inner ok (AreFew-front nodes (node ∷ []) few) open_in)
    (λ es choice.
    let before = partners_of names es inner in
    let c = delta ^ closed_parts names es inner in
    let one : Term → ℕ = λ term. term.weight * (delta ^ closed_parts (inner ++ node.ends) (pair_edges inner (partners_of (names_of nodes) es inner) ++ pair_edges node.ends term.partner) outer * worth (partners_of (inner ++ node.ends) (pair_edges inner (partners_of (names_of nodes) es inner) ++ pair_edges node.ends term.partner) outer)) in
    sum_by_all (λ term. IsPairing term.partner × (length term.partner ≡ length node.ends)) _ (λ term. c * one term) node.terms node_ok
    (λ term t.
    let k = closed_parts (inner ++ node.ends) (pair_edges inner before ++ pair_edges node.ends term.partner) outer in
    let q = partners_of (inner ++ node.ends) (pair_edges inner before ++ pair_edges node.ends term.partner) outer in
    let e1 = ap (λ fs. whole (es ++ fs)) (append-nil (term_edges node term)) in
    let e2 = ap (λ ns. weighed delta ns outer worth (es ++ pair_edges node.ends term.partner)) (names_of-more nodes node) in
    let e3 = ap (λ n. delta ^ n * worth (partners_of (names ++ node.ends) (es ++ pair_edges node.ends term.partner) outer)) (glued_closed nodes node inner outer few open_in open_out es choice term.partner t.0 t.1) in
    let e4 = ap (λ p. delta ^ (closed_parts names es inner + k) * worth p) (glued_pairing nodes node inner outer few open_in open_out es choice term.partner t.0 t.1) in
    let e5 = ap (λ n. n * worth q) (pow-add delta (closed_parts names es inner) k) ∙ mul_assoc c (delta ^ k) (worth q) in
    ap (λ n. term.weight * n) (e1 ∙ e2 ∙ e3 ∙ e4 ∙ e5) ∙ mul_left_comm term.weight c (delta ^ k * worth q))
    ∙ sum_by-times c one node.terms)
    ∙ sym (pairing_sum-total delta nodes inner (worth_before delta node inner outer worth))

-- NO OPEN NAME: THE STATE SUM
pub whole_network : WholeNetworkLaw
whole_network delta free nodes =
    let closed : List Term → ℕ = λ state. closed_parts (names_of nodes) (state_edges nodes state) [] in
    sum_by_same
    (λ state. state_weight state * delta ^ (part_count (names_of nodes) (state_edges nodes state) + free))
    (λ state. delta ^ free * (state_weight state * (delta ^ closed state * 1))) (states nodes)
    (λ state.
    let count = part_count (names_of nodes) (state_edges nodes state) in
    let same : count + free ≡ free + closed state = omega arith in
    ap (λ n. state_weight state * delta ^ n) same
    ∙ ap (λ n. state_weight state * n) (pow-add delta free (closed state))
    ∙ mul_left_comm (state_weight state) (delta ^ free) (delta ^ closed state)
    ∙ ap (λ n. delta ^ free * (state_weight state * n)) (let e : delta ^ closed state ≡ delta ^ closed state * 1 = omega arith in e))
    ∙ sum_by-times (delta ^ free) (λ state. state_weight state * (delta ^ closed state * 1)) (states nodes)
