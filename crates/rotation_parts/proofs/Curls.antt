-- A curl: walks of the faces and pieces after it, with its names sent to the ends of its edge, are walks of those before.
use Rattle.std.proofs.Common.{◌≡◌, ◌⊎◌, ℕ, ◌+◌, ◌==◌, true, false, cond, List, [], ◌∷◌, refl, sym, ap, ◌∙◌, subst, arith, ⊎_elim, inl, inr}
use Rattle.std.specs.Set.{is_member}
use Rattle.std.proofs.lemmas.Bool.{eq-eqb, eqb-true, cases_Bool, or_cases, or_left, or_right}
use Rattle.std.proofs.lemmas.Bool.Decides.{nat_tests}
use Rattle.std.proofs.lemmas.List.Elements.{Contains-append_cases}
use Rattle.graph_parts.specs.Ends.{AreAmong}
use Rattle.graph_parts.specs.Parts.{part_count}
use Rattle.graph_parts.specs.Walks.{Joined, back, on}
use Rattle.graph_parts.proofs.Ends.{EndsAre-weaker}
use Rattle.graph_parts.proofs.Counting.{distinct_count-cons}
use Rattle.graph_parts.proofs.LeastNames.{part_count-labels}
use Rattle.graph_parts.proofs.PartLaws.{disjoint_graphs}
use Rattle.rotation_parts.specs.Laws.{CurlCountsLaw}
use Rattle.rotation_parts.specs.Drawings.{IsCurl}
use Rattle.rotation_parts.specs.Rotations.{pair_graph, steps, cycle_count}
use Rattle.rotation_parts.proofs.PieceGraphs.{gather as into, gather_old, gather_new, pair_among, over, round, by_end, still_over}
use Rattle.rotation_parts.proofs.Retracts.{retract}
use Rattle.rotation_parts.proofs.Steps.{step_of, equal_joined, step_along, steps_among}

single : (z : ℕ) → part_count (z ∷ []) [] ≡ 1
single z = part_count-labels (z ∷ []) [] tt ∙ distinct_count-cons z []

-- a name more that no edge has is a part more
pub one_alone : (z : ℕ) (names : List ℕ) (es : List (ℕ × ℕ)) → is_member ◌==◌ names z ≡ false → AreAmong names es → part_count (z ∷ names) es ≡ part_count names es + 1
one_alone z names es new among =
    let d = disjoint_graphs (z ∷ []) names [] es tt among (λ x m. (let e : x ≡ z = eqb-true x z (grind (arith, m)) in ap (is_member ◌==◌ names) e ∙ new)) in
    let one : part_count (z ∷ []) [] ≡ 1 = single z in
    omega (arith, d, one)

module _ (names : List ℕ) (turn other drawn : ℕ → ℕ) (p q a b c d : ℕ) (is : IsCurl names turn other drawn p q a b c d) where
  abbrev more : List ℕ
  more = a ∷ b ∷ c ∷ d ∷ names

  -- the names that the edge got, at its end p
  abbrev gather : ℕ → ℕ
  gather = into names p

  apart_from : (x z : ℕ) → is_member ◌==◌ names x ≡ true → is_member ◌==◌ names z ≡ false → (x == z) ≡ false
  apart_from x z m n = ⊎_elim (λ t. absurd (let e = ap (is_member ◌==◌ names) (eqb-true x z t) in grind (arith, e, m, n))) (λ f. f) (cases_Bool (x == z))

  abbrev Kind : ℕ → Type 0
  Kind x = (x ≡ a) ⊎ ((x ≡ b) ⊎ ((x ≡ c) ⊎ ((x ≡ d) ⊎ (is_member ◌==◌ names x ≡ true))))

  kinds : (x : ℕ) → is_member ◌==◌ more x ≡ true → Kind x
  kinds x m =
      ⊎_elim (λ t. inl (eqb-true x a t)) (λ m1.
      ⊎_elim (λ t. inr (inl (eqb-true x b t))) (λ m2.
      ⊎_elim (λ t. inr (inr (inl (eqb-true x c t)))) (λ m3.
      ⊎_elim (λ t. inr (inr (inr (inl (eqb-true x d t))))) (λ m4. inr (inr (inr (inr m4))))
      (or_cases (x == d) (is_member ◌==◌ names x) m3))
      (or_cases (x == c) (is_member ◌==◌ (d ∷ names) x) m2))
      (or_cases (x == b) (is_member ◌==◌ (c ∷ d ∷ names) x) m1))
      (or_cases (x == a) (is_member ◌==◌ (b ∷ c ∷ d ∷ names) x) m)

  by_kind : (T : ℕ → Type 0) → T a → T b → T c → T d → ((x : ℕ) → is_member ◌==◌ names x ≡ true → T x) → (x : ℕ) → is_member ◌==◌ more x ≡ true → T x
  by_kind T ka kb kc kd old x m =
      ⊎_elim (λ e. subst T (sym e) ka) (λ r.
      ⊎_elim (λ e. subst T (sym e) kb) (λ r.
      ⊎_elim (λ e. subst T (sym e) kc) (λ r.
      ⊎_elim (λ e. subst T (sym e) kd) (λ m4. old x m4) r) r) r) (kinds x m)

  old_more : (x : ℕ) → is_member ◌==◌ names x ≡ true → is_member ◌==◌ more x ≡ true
  old_more x m = or_right (x == a) (is_member ◌==◌ (b ∷ c ∷ d ∷ names) x) (or_right (x == b) (is_member ◌==◌ (c ∷ d ∷ names) x) (or_right (x == c) (is_member ◌==◌ (d ∷ names) x) (or_right (x == d) (is_member ◌==◌ names x) m)))

  has_a : is_member ◌==◌ more a ≡ true
  has_a = or_left (a == a) (is_member ◌==◌ (b ∷ c ∷ d ∷ names) a) (eq-eqb a a refl)

  has_b : is_member ◌==◌ more b ≡ true
  has_b = or_right (b == a) (is_member ◌==◌ (b ∷ c ∷ d ∷ names) b) (or_left (b == b) (is_member ◌==◌ (c ∷ d ∷ names) b) (eq-eqb b b refl))

  has_c : is_member ◌==◌ more c ≡ true
  has_c = or_right (c == a) (is_member ◌==◌ (b ∷ c ∷ d ∷ names) c) (or_right (c == b) (is_member ◌==◌ (c ∷ d ∷ names) c) (or_left (c == c) (is_member ◌==◌ (d ∷ names) c) (eq-eqb c c refl)))

  has_d : is_member ◌==◌ more d ≡ true
  has_d = or_right (d == a) (is_member ◌==◌ (b ∷ c ∷ d ∷ names) d) (or_right (d == b) (is_member ◌==◌ (c ∷ d ∷ names) d) (or_right (d == c) (is_member ◌==◌ (d ∷ names) d) (or_left (d == d) (is_member ◌==◌ names d) (eq-eqb d d refl))))

  -- ---- faces
  abbrev phi : ℕ → ℕ
  phi x = turn (other x)

  abbrev psi : ℕ → ℕ
  psi x = turn (drawn x)

  abbrev send : ℕ → ℕ
  send x = cond (x == b) p (cond (x == c) q (cond (x == a) q x))

  send_a : send a ≡ q
  send_a = let e = is.distinct in let u = e.0 in let v = e.1 in let w = eq-eqb a a refl in grind (arith, nat_tests, u, v, w)

  send_b : send b ≡ p
  send_b = let w = eq-eqb b b refl in grind (arith, w)

  send_c : send c ≡ q
  send_c = let e = is.distinct in let u = e.3 in let w = eq-eqb c c refl in grind (arith, nat_tests, u, w)

  send_d : send d ≡ d
  send_d = let e = is.distinct in let u = e.2 in let v = e.4 in let w = e.5 in grind (arith, nat_tests, u, v, w)

  send_old : (x : ℕ) → is_member ◌==◌ names x ≡ true → send x ≡ x
  send_old x m = let u = apart_from x b m is.new_b in let v = apart_from x c m is.new_c in let w = apart_from x a m is.new_a in grind (arith, u, v, w)

  in_phi : (x : ℕ) → is_member ◌==◌ names x ≡ true → is_member ◌==◌ names (phi x) ≡ true
  in_phi x m = is.turn_in (other x) (is.other_in x m)

  abbrev before : List (ℕ × ℕ)
  before = steps phi names

  abbrev after : List (ℕ × ℕ)
  after = steps psi more

  -- one step after the curl
  step_down : (x : ℕ) → is_member ◌==◌ more x ≡ true → Joined before (send x) (send (psi x))
  step_down = by_kind (λ x. Joined before (send x) (send (psi x)))
      (on (equal_joined before (send a) q send_a) (on (step_along phi names q is.has_q)
      (equal_joined before (phi q) (send (psi a)) (ap turn is.qp ∙ sym (send_old (turn p) (is.turn_in p is.has_p)) ∙ ap (λ z. send (turn z)) (sym is.da)))))
      (on (equal_joined before (send b) p send_b) (on (step_along phi names p is.has_p)
      (equal_joined before (phi p) (send (psi b)) (ap turn is.pq ∙ sym (send_old (turn q) (is.turn_in q is.has_q)) ∙ ap (λ z. send (turn z)) (sym is.db)))))
      (equal_joined before (send c) (send (psi c)) (send_c ∙ sym send_a ∙ ap send (sym is.td ∙ ap turn (sym is.dc))))
      (equal_joined before (send d) (send (psi d)) (ap send (sym is.tc ∙ ap turn (sym is.dd))))
      (by_end names other drawn p q is.kept (λ x. Joined before (send x) (send (psi x)))
      (equal_joined before (send p) (send (psi p)) (send_old p is.has_p ∙ sym send_b ∙ ap send (sym is.ta ∙ ap turn (sym is.dp))))
      (equal_joined before (send q) (send (psi q)) (send_old q is.has_q ∙ sym send_c ∙ ap send (sym is.tb ∙ ap turn (sym is.dq))))
      (λ x m e. on (equal_joined before (send x) x (send_old x m)) (on (step_along phi names x m) (equal_joined before (phi x) (send (psi x)) (sym (send_old (phi x) (in_phi x m)) ∙ ap (λ z. send (turn z)) (sym e))))))

  -- p to b to the next place of p, q to c to a to that of q
  to_b : Joined after p b
  to_b = on (step_along psi more p (old_more p is.has_p)) (equal_joined after (psi p) b (ap turn is.dp ∙ is.ta))

  to_c : Joined after q c
  to_c = on (step_along psi more q (old_more q is.has_q)) (equal_joined after (psi q) c (ap turn is.dq ∙ is.tb))

  to_a : Joined after c a
  to_a = on (step_along psi more c has_c) (equal_joined after (psi c) a (ap turn is.dc ∙ is.td))

  step_up : (x : ℕ) → is_member ◌==◌ names x ≡ true → Joined after x (phi x)
  step_up = by_end names other drawn p q is.kept (λ x. Joined after x (phi x))
      (on to_b (on (step_along psi more b has_b) (equal_joined after (psi b) (phi p) (ap turn (is.db ∙ sym is.pq)))))
      (on to_c (on to_a (on (step_along psi more a has_a) (equal_joined after (psi a) (phi q) (ap turn (is.da ∙ sym is.qp))))))
      (λ x m e. on (step_along psi more x (old_more x m)) (equal_joined after (psi x) (phi x) (ap turn e)))

  turn_more : (x : ℕ) → is_member ◌==◌ more x ≡ true → is_member ◌==◌ more (turn x) ≡ true
  turn_more = let M = is_member ◌==◌ more in by_kind (λ x. is_member ◌==◌ more (turn x) ≡ true)
      (ap M is.ta ∙ has_b) (ap M is.tb ∙ has_c) (ap M is.tc ∙ has_d) (ap M is.td ∙ has_a) (λ x m. old_more (turn x) (is.turn_in x m))

  drawn_more : (x : ℕ) → is_member ◌==◌ more x ≡ true → is_member ◌==◌ more (drawn x) ≡ true
  drawn_more = let M = is_member ◌==◌ more in by_kind (λ x. is_member ◌==◌ more (drawn x) ≡ true)
      (ap M is.da ∙ old_more p is.has_p) (ap M is.db ∙ old_more q is.has_q) (ap M is.dc ∙ has_d) (ap M is.dd ∙ has_c)
      (by_end names other drawn p q is.kept (λ x. is_member ◌==◌ more (drawn x) ≡ true) (ap M is.dp ∙ has_a) (ap M is.dq ∙ has_b) (λ x m e. ap M e ∙ old_more (other x) (is.other_in x m)))

  before_among : AreAmong names before
  before_among = steps_among phi names in_phi

  d_or : (x : ℕ) → is_member ◌==◌ names x ≡ true → is_member ◌==◌ (d ∷ names) x ≡ true
  d_or x m = or_right (x == d) (is_member ◌==◌ names x) m

  curl_faces : cycle_count more psi ≡ cycle_count names phi + 1
  curl_faces =
      retract more (d ∷ names) after before send (λ u. u)
      (steps_among psi more (λ x m. turn_more (drawn x) (drawn_more x m)))
      (EndsAre-weaker (is_member ◌==◌ names) (is_member ◌==◌ (d ∷ names)) d_or before before_among)
      record {
        onto_others = (let M = is_member ◌==◌ (d ∷ names) in by_kind (λ x. is_member ◌==◌ (d ∷ names) (send x) ≡ true)
            (ap M send_a ∙ d_or q is.has_q) (ap M send_b ∙ d_or p is.has_p) (ap M send_c ∙ d_or q is.has_q) (ap M send_d ∙ or_left (d == d) (is_member ◌==◌ names d) (eq-eqb d d refl)) (λ x m. ap M (send_old x m) ∙ d_or x m));
        into_names = λ u m. ⊎_elim (λ t. ap (is_member ◌==◌ more) (eqb-true u d t) ∙ has_d) (λ r. old_more u r) (or_cases (u == d) (is_member ◌==◌ names u) m);
        one_of = λ u m. ⊎_elim (λ t. let e = eqb-true u d t in ap send e ∙ send_d ∙ sym e) (λ r. send_old u r) (or_cases (u == d) (is_member ◌==◌ names u) m);
        near = by_kind (λ x. Joined after x (send x))
            (on (back to_a) (on (back to_c) (equal_joined after q (send a) (sym send_a))))
            (on (back to_b) (equal_joined after p (send b) (sym send_b)))
            (on (back to_c) (equal_joined after q (send c) (sym send_c)))
            (equal_joined after d (send d) (sym send_d))
            (λ x m. equal_joined after x (send x) (sym (send_old x m)));
        down = λ x y e. (let r = step_of psi more x y e in on (step_down x r.0) (equal_joined before (send (psi x)) (send y) (ap send r.1)));
        up = λ u v e. (let r = step_of phi names u v e in on (step_up u r.0) (equal_joined after (phi u) v r.1));
      }
      ∙ one_alone d names before is.new_d before_among

  -- ---- pieces
  abbrev graph : List (ℕ × ℕ)
  graph = pair_graph names turn other

  abbrev drawn_graph : List (ℕ × ℕ)
  drawn_graph = pair_graph more turn drawn

  p_to_a : Joined drawn_graph p a
  p_to_a = on (over more turn drawn p (old_more p is.has_p)) (equal_joined drawn_graph (drawn p) a is.dp)

  a_to_b : Joined drawn_graph a b
  a_to_b = on (round more turn drawn a has_a) (equal_joined drawn_graph (turn a) b is.ta)

  b_to_c : Joined drawn_graph b c
  b_to_c = on (round more turn drawn b has_b) (equal_joined drawn_graph (turn b) c is.tb)

  c_to_d : Joined drawn_graph c d
  c_to_d = on (round more turn drawn c has_c) (equal_joined drawn_graph (turn c) d is.tc)

  b_to_q : Joined drawn_graph b q
  b_to_q = on (over more turn drawn b has_b) (equal_joined drawn_graph (drawn b) q is.db)

  gathered : (x y : ℕ) → gather x ≡ p → gather y ≡ p → Joined graph (gather x) (gather y)
  gathered x y e f = equal_joined graph (gather x) (gather y) (e ∙ sym f)

  ga : gather a ≡ p
  ga = gather_new names p a is.new_a

  gb : gather b ≡ p
  gb = gather_new names p b is.new_b

  gc : gather c ≡ p
  gc = gather_new names p c is.new_c

  gd : gather d ≡ p
  gd = gather_new names p d is.new_d

  q_to_p : Joined graph q p
  q_to_p = on (over names turn other q is.has_q) (equal_joined graph (other q) p is.qp)

  over_down : (x : ℕ) → is_member ◌==◌ more x ≡ true → Joined graph (gather x) (gather (drawn x))
  over_down = by_kind (λ x. Joined graph (gather x) (gather (drawn x)))
      (gathered a (drawn a) ga (ap gather is.da ∙ gather_old names p p is.has_p))
      (on (equal_joined graph (gather b) p gb) (on (back q_to_p) (equal_joined graph q (gather (drawn b)) (sym (ap gather is.db ∙ gather_old names p q is.has_q)))))
      (gathered c (drawn c) gc (ap gather is.dc ∙ gd))
      (gathered d (drawn d) gd (ap gather is.dd ∙ gc))
      (by_end names other drawn p q is.kept (λ x. Joined graph (gather x) (gather (drawn x)))
      (gathered p (drawn p) (gather_old names p p is.has_p) (ap gather is.dp ∙ ga))
      (on (equal_joined graph (gather q) q (gather_old names p q is.has_q)) (on q_to_p (equal_joined graph p (gather (drawn q)) (sym (ap gather is.dq ∙ gb)))))
      (λ x m e. on (equal_joined graph (gather x) x (gather_old names p x m)) (on (over names turn other x m) (equal_joined graph (other x) (gather (drawn x)) (sym (gather_old names p (other x) (is.other_in x m)) ∙ ap gather (sym e))))))

  round_down : (x : ℕ) → is_member ◌==◌ more x ≡ true → Joined graph (gather x) (gather (turn x))
  round_down = by_kind (λ x. Joined graph (gather x) (gather (turn x)))
      (gathered a (turn a) ga (ap gather is.ta ∙ gb))
      (gathered b (turn b) gb (ap gather is.tb ∙ gc))
      (gathered c (turn c) gc (ap gather is.tc ∙ gd))
      (gathered d (turn d) gd (ap gather is.td ∙ ga))
      (λ x m. on (equal_joined graph (gather x) x (gather_old names p x m)) (on (round names turn other x m) (equal_joined graph (turn x) (gather (turn x)) (sym (gather_old names p (turn x) (is.turn_in x m))))))

  curl_pieces : part_count more drawn_graph ≡ part_count names graph
  curl_pieces =
      retract more names drawn_graph graph gather (λ u. u) (pair_among more turn drawn drawn_more turn_more) (pair_among names turn other is.other_in is.turn_in)
      record {
        onto_others = (let M = is_member ◌==◌ names in by_kind (λ x. is_member ◌==◌ names (gather x) ≡ true)
            (ap M ga ∙ is.has_p) (ap M gb ∙ is.has_p) (ap M gc ∙ is.has_p) (ap M gd ∙ is.has_p) (λ x m. ap M (gather_old names p x m) ∙ m));
        into_names = old_more;
        one_of = gather_old names p;
        near = by_kind (λ x. Joined drawn_graph x (gather x))
            (on (back p_to_a) (equal_joined drawn_graph p (gather a) (sym ga)))
            (on (back a_to_b) (on (back p_to_a) (equal_joined drawn_graph p (gather b) (sym gb))))
            (on (back b_to_c) (on (back a_to_b) (on (back p_to_a) (equal_joined drawn_graph p (gather c) (sym gc)))))
            (on (back c_to_d) (on (back b_to_c) (on (back a_to_b) (on (back p_to_a) (equal_joined drawn_graph p (gather d) (sym gd))))))
            (λ x m. equal_joined drawn_graph x (gather x) (sym (gather_old names p x m)));
        down = λ x y e. ⊎_elim
            (λ l. let r = step_of drawn more x y l in on (over_down x r.0) (equal_joined graph (gather (drawn x)) (gather y) (ap gather r.1)))
            (λ l. let r = step_of turn more x y l in on (round_down x r.0) (equal_joined graph (gather (turn x)) (gather y) (ap gather r.1)))
            (Contains-append_cases (steps drawn more) (steps turn more) (x, y) e);
        up = λ x y e. ⊎_elim
            (λ l. let r = step_of other names x y l in on (still_over names other drawn p q is.kept more turn old_more (on p_to_a (on a_to_b b_to_q)) is.pq is.qp x r.0) (equal_joined drawn_graph (other x) y r.1))
            (λ l. let r = step_of turn names x y l in on (round more turn drawn x (old_more x r.0)) (equal_joined drawn_graph (turn x) y r.1))
            (Contains-append_cases (steps other names) (steps turn names) (x, y) e);
      }

pub curl_counts : CurlCountsLaw
curl_counts names turn other drawn p q a b c d is = (curl_faces names turn other drawn p q a b c d is, curl_pieces names turn other drawn p q a b c d is)
