-- A vertex of two names in an edge: walks after it are walks before, with its names sent to the ends of the edge.
use Rattle.std.proofs.Common.{◌≡◌, ℕ, ◌==◌, true, false, cond, List, ◌∷◌, refl, sym, ap, ◌∙◌, subst, arith, ⊎_elim}
use Rattle.std.specs.Set.{is_member}
use Rattle.std.proofs.lemmas.Bool.{eq-eqb, eqb-true, cases_Bool, or_cases, or_left, or_right}
use Rattle.std.proofs.lemmas.Bool.Decides.{nat_tests}
use Rattle.std.proofs.lemmas.List.Elements.{Contains-append_cases}
use Rattle.graph_parts.specs.Ends.{AreAmong}
use Rattle.graph_parts.specs.Parts.{part_count}
use Rattle.graph_parts.specs.Walks.{Joined, back, on}
use Rattle.rotation_parts.specs.Laws.{SubdivisionCountsLaw}
use Rattle.rotation_parts.specs.Drawings.{IsSubdivision}
use Rattle.rotation_parts.specs.Rotations.{pair_graph, steps, cycle_count}
use Rattle.rotation_parts.proofs.PieceGraphs.{gather as into, gather_old, gather_new, pair_among, over, round, by_end, still_over}
use Rattle.rotation_parts.proofs.Retracts.{retract}
use Rattle.rotation_parts.proofs.Steps.{step_of, equal_joined, step_along, steps_among}

module _ (names : List ℕ) (turn other drawn : ℕ → ℕ) (p q u v : ℕ) (is : IsSubdivision names turn other drawn p q u v) where
  abbrev more : List ℕ
  more = u ∷ v ∷ names

  -- the names that the edge got, at its end p
  abbrev gather : ℕ → ℕ
  gather = into names p

  apart_from : (x z : ℕ) → is_member ◌==◌ names x ≡ true → is_member ◌==◌ names z ≡ false → (x == z) ≡ false
  apart_from x z m n = ⊎_elim (λ t. absurd (let e = ap (is_member ◌==◌ names) (eqb-true x z t) in grind (arith, e, m, n))) (λ f. f) (cases_Bool (x == z))

  by_kind : (T : ℕ → Type 0) → T u → T v → ((x : ℕ) → is_member ◌==◌ names x ≡ true → T x) → (x : ℕ) → is_member ◌==◌ more x ≡ true → T x
  by_kind T ku kv old x m =
      ⊎_elim (λ t. subst T (sym (eqb-true x u t)) ku) (λ m1.
      ⊎_elim (λ t. subst T (sym (eqb-true x v t)) kv) (λ m2. old x m2)
      (or_cases (x == v) (is_member ◌==◌ names x) m1))
      (or_cases (x == u) (is_member ◌==◌ (v ∷ names) x) m)

  old_more : (x : ℕ) → is_member ◌==◌ names x ≡ true → is_member ◌==◌ more x ≡ true
  old_more x m = or_right (x == u) (is_member ◌==◌ (v ∷ names) x) (or_right (x == v) (is_member ◌==◌ names x) m)

  has_u : is_member ◌==◌ more u ≡ true
  has_u = or_left (u == u) (is_member ◌==◌ (v ∷ names) u) (eq-eqb u u refl)

  has_v : is_member ◌==◌ more v ≡ true
  has_v = or_right (v == u) (is_member ◌==◌ (v ∷ names) v) (or_left (v == v) (is_member ◌==◌ names v) (eq-eqb v v refl))

  -- ---- faces
  abbrev phi : ℕ → ℕ
  phi x = turn (other x)

  abbrev psi : ℕ → ℕ
  psi x = turn (drawn x)

  abbrev send : ℕ → ℕ
  send x = cond (x == v) p (cond (x == u) q x)

  send_u : send u ≡ q
  send_u = let e = is.distinct in let w = eq-eqb u u refl in grind (arith, nat_tests, e, w)

  send_v : send v ≡ p
  send_v = let w = eq-eqb v v refl in grind (arith, w)

  send_old : (x : ℕ) → is_member ◌==◌ names x ≡ true → send x ≡ x
  send_old x m = let a = apart_from x v m is.new_v in let b = apart_from x u m is.new_u in grind (arith, a, b)

  in_phi : (x : ℕ) → is_member ◌==◌ names x ≡ true → is_member ◌==◌ names (phi x) ≡ true
  in_phi x m = is.turn_in (other x) (is.other_in x m)

  abbrev before : List (ℕ × ℕ)
  before = steps phi names

  abbrev after : List (ℕ × ℕ)
  after = steps psi more

  step_down : (x : ℕ) → is_member ◌==◌ more x ≡ true → Joined before (send x) (send (psi x))
  step_down = by_kind (λ x. Joined before (send x) (send (psi x)))
      (on (equal_joined before (send u) q send_u) (on (step_along phi names q is.has_q)
      (equal_joined before (phi q) (send (psi u)) (ap turn is.qp ∙ sym (send_old (turn p) (is.turn_in p is.has_p)) ∙ ap (λ z. send (turn z)) (sym is.du)))))
      (on (equal_joined before (send v) p send_v) (on (step_along phi names p is.has_p)
      (equal_joined before (phi p) (send (psi v)) (ap turn is.pq ∙ sym (send_old (turn q) (is.turn_in q is.has_q)) ∙ ap (λ z. send (turn z)) (sym is.dv)))))
      (by_end names other drawn p q is.kept (λ x. Joined before (send x) (send (psi x)))
      (equal_joined before (send p) (send (psi p)) (send_old p is.has_p ∙ sym send_v ∙ ap send (sym is.tu ∙ ap turn (sym is.dp))))
      (equal_joined before (send q) (send (psi q)) (send_old q is.has_q ∙ sym send_u ∙ ap send (sym is.tv ∙ ap turn (sym is.dq))))
      (λ x m e. on (equal_joined before (send x) x (send_old x m)) (on (step_along phi names x m) (equal_joined before (phi x) (send (psi x)) (sym (send_old (phi x) (in_phi x m)) ∙ ap (λ z. send (turn z)) (sym e))))))

  to_v : Joined after p v
  to_v = on (step_along psi more p (old_more p is.has_p)) (equal_joined after (psi p) v (ap turn is.dp ∙ is.tu))

  to_u : Joined after q u
  to_u = on (step_along psi more q (old_more q is.has_q)) (equal_joined after (psi q) u (ap turn is.dq ∙ is.tv))

  step_up : (x : ℕ) → is_member ◌==◌ names x ≡ true → Joined after x (phi x)
  step_up = by_end names other drawn p q is.kept (λ x. Joined after x (phi x))
      (on to_v (on (step_along psi more v has_v) (equal_joined after (psi v) (phi p) (ap turn (is.dv ∙ sym is.pq)))))
      (on to_u (on (step_along psi more u has_u) (equal_joined after (psi u) (phi q) (ap turn (is.du ∙ sym is.qp)))))
      (λ x m e. on (step_along psi more x (old_more x m)) (equal_joined after (psi x) (phi x) (ap turn e)))

  turn_more : (x : ℕ) → is_member ◌==◌ more x ≡ true → is_member ◌==◌ more (turn x) ≡ true
  turn_more = let M = is_member ◌==◌ more in by_kind (λ x. is_member ◌==◌ more (turn x) ≡ true)
      (ap M is.tu ∙ has_v) (ap M is.tv ∙ has_u) (λ x m. old_more (turn x) (is.turn_in x m))

  drawn_more : (x : ℕ) → is_member ◌==◌ more x ≡ true → is_member ◌==◌ more (drawn x) ≡ true
  drawn_more = let M = is_member ◌==◌ more in by_kind (λ x. is_member ◌==◌ more (drawn x) ≡ true)
      (ap M is.du ∙ old_more p is.has_p) (ap M is.dv ∙ old_more q is.has_q)
      (by_end names other drawn p q is.kept (λ x. is_member ◌==◌ more (drawn x) ≡ true) (ap M is.dp ∙ has_u) (ap M is.dq ∙ has_v) (λ x m e. ap M e ∙ old_more (other x) (is.other_in x m)))

  before_among : AreAmong names before
  before_among = steps_among phi names in_phi

  subdivided_faces : cycle_count more psi ≡ cycle_count names phi
  subdivided_faces =
      retract more names after before send (λ z. z) (steps_among psi more (λ x m. turn_more (drawn x) (drawn_more x m))) before_among
      record {
        onto_others = (let M = is_member ◌==◌ names in by_kind (λ x. is_member ◌==◌ names (send x) ≡ true) (ap M send_u ∙ is.has_q) (ap M send_v ∙ is.has_p) (λ x m. ap M (send_old x m) ∙ m));
        into_names = old_more;
        one_of = send_old;
        near = by_kind (λ x. Joined after x (send x))
            (on (back to_u) (equal_joined after q (send u) (sym send_u)))
            (on (back to_v) (equal_joined after p (send v) (sym send_v)))
            (λ x m. equal_joined after x (send x) (sym (send_old x m)));
        down = λ x y e. (let r = step_of psi more x y e in on (step_down x r.0) (equal_joined before (send (psi x)) (send y) (ap send r.1)));
        up = λ x y e. (let r = step_of phi names x y e in on (step_up x r.0) (equal_joined after (phi x) y r.1));
      }

  -- ---- pieces
  abbrev graph : List (ℕ × ℕ)
  graph = pair_graph names turn other

  abbrev drawn_graph : List (ℕ × ℕ)
  drawn_graph = pair_graph more turn drawn

  p_to_u : Joined drawn_graph p u
  p_to_u = on (over more turn drawn p (old_more p is.has_p)) (equal_joined drawn_graph (drawn p) u is.dp)

  u_to_v : Joined drawn_graph u v
  u_to_v = on (round more turn drawn u has_u) (equal_joined drawn_graph (turn u) v is.tu)

  v_to_q : Joined drawn_graph v q
  v_to_q = on (over more turn drawn v has_v) (equal_joined drawn_graph (drawn v) q is.dv)

  gathered : (x y : ℕ) → gather x ≡ p → gather y ≡ p → Joined graph (gather x) (gather y)
  gathered x y e f = equal_joined graph (gather x) (gather y) (e ∙ sym f)

  gu : gather u ≡ p
  gu = gather_new names p u is.new_u

  gv : gather v ≡ p
  gv = gather_new names p v is.new_v

  q_to_p : Joined graph q p
  q_to_p = on (over names turn other q is.has_q) (equal_joined graph (other q) p is.qp)

  over_down : (x : ℕ) → is_member ◌==◌ more x ≡ true → Joined graph (gather x) (gather (drawn x))
  over_down = by_kind (λ x. Joined graph (gather x) (gather (drawn x)))
      (gathered u (drawn u) gu (ap gather is.du ∙ gather_old names p p is.has_p))
      (on (equal_joined graph (gather v) p gv) (on (back q_to_p) (equal_joined graph q (gather (drawn v)) (sym (ap gather is.dv ∙ gather_old names p q is.has_q)))))
      (by_end names other drawn p q is.kept (λ x. Joined graph (gather x) (gather (drawn x)))
      (gathered p (drawn p) (gather_old names p p is.has_p) (ap gather is.dp ∙ gu))
      (on (equal_joined graph (gather q) q (gather_old names p q is.has_q)) (on q_to_p (equal_joined graph p (gather (drawn q)) (sym (ap gather is.dq ∙ gv)))))
      (λ x m e. on (equal_joined graph (gather x) x (gather_old names p x m)) (on (over names turn other x m) (equal_joined graph (other x) (gather (drawn x)) (sym (gather_old names p (other x) (is.other_in x m)) ∙ ap gather (sym e))))))

  round_down : (x : ℕ) → is_member ◌==◌ more x ≡ true → Joined graph (gather x) (gather (turn x))
  round_down = by_kind (λ x. Joined graph (gather x) (gather (turn x)))
      (gathered u (turn u) gu (ap gather is.tu ∙ gv))
      (gathered v (turn v) gv (ap gather is.tv ∙ gu))
      (λ x m. on (equal_joined graph (gather x) x (gather_old names p x m)) (on (round names turn other x m) (equal_joined graph (turn x) (gather (turn x)) (sym (gather_old names p (turn x) (is.turn_in x m))))))

  subdivided_pieces : part_count more drawn_graph ≡ part_count names graph
  subdivided_pieces =
      retract more names drawn_graph graph gather (λ z. z) (pair_among more turn drawn drawn_more turn_more) (pair_among names turn other is.other_in is.turn_in)
      record {
        onto_others = (let M = is_member ◌==◌ names in by_kind (λ x. is_member ◌==◌ names (gather x) ≡ true) (ap M gu ∙ is.has_p) (ap M gv ∙ is.has_p) (λ x m. ap M (gather_old names p x m) ∙ m));
        into_names = old_more;
        one_of = gather_old names p;
        near = by_kind (λ x. Joined drawn_graph x (gather x))
            (on (back p_to_u) (equal_joined drawn_graph p (gather u) (sym gu)))
            (on (back u_to_v) (on (back p_to_u) (equal_joined drawn_graph p (gather v) (sym gv))))
            (λ x m. equal_joined drawn_graph x (gather x) (sym (gather_old names p x m)));
        down = λ x y e. ⊎_elim
            (λ l. let r = step_of drawn more x y l in on (over_down x r.0) (equal_joined graph (gather (drawn x)) (gather y) (ap gather r.1)))
            (λ l. let r = step_of turn more x y l in on (round_down x r.0) (equal_joined graph (gather (turn x)) (gather y) (ap gather r.1)))
            (Contains-append_cases (steps drawn more) (steps turn more) (x, y) e);
        up = λ x y e. ⊎_elim
            (λ l. let r = step_of other names x y l in on (still_over names other drawn p q is.kept more turn old_more (on p_to_u (on u_to_v v_to_q)) is.pq is.qp x r.0) (equal_joined drawn_graph (other x) y r.1))
            (λ l. let r = step_of turn names x y l in on (round more turn drawn x (old_more x r.0)) (equal_joined drawn_graph (turn x) y r.1))
            (Contains-append_cases (steps other names) (steps turn names) (x, y) e);
      }

pub subdivision_counts : SubdivisionCountsLaw
subdivision_counts names turn other drawn p q u v is = (subdivided_faces names turn other drawn p q u v is, subdivided_pieces names turn other drawn p q u v is)
