-- One edge pushed over another: walks of the faces and pieces after it are walks of those before, where the steps from two places
-- of one face are exchanged.
use Rattle.std.proofs.Common.{◌≡◌, ◌<◌, ℕ, ◌+◌, ◌==◌, true, false, cond, ltb, List, ◌∷◌, refl, sym, ap, ◌∙◌, subst, arith, ⊎_elim}
use Rattle.std.specs.List.{range_with_len}
use Rattle.std.specs.Set.{is_member}
use Rattle.std.proofs.lemmas.Bool.{eq-eqb, eqb-true, cases_Bool, or_cases, or_left, or_right, ltb-true, lt-ltb}
use Rattle.std.proofs.lemmas.Bool.Decides.{nat_tests}
use Rattle.std.proofs.lemmas.List.Elements.{Contains-append_cases}
use Rattle.graph_parts.specs.Ends.{AreAmong}
use Rattle.graph_parts.specs.Parts.{part_count}
use Rattle.graph_parts.specs.Walks.{Joined, stay, back, on}
use Rattle.graph_parts.proofs.Ends.{EndsAre-append, EndsAre-weaker}
use Rattle.graph_parts.proofs.Numbered.{numbered-member as in_range, is_member-numbered as range_has}
use Rattle.rotation_parts.specs.Rotations.{pair_graph, exchanged, steps, cycle_count, IsPermutation}
use Rattle.rotation_parts.proofs.Curls.{one_alone}
use Rattle.rotation_parts.proofs.Exchange.{exchange_splits}
use Rattle.rotation_parts.proofs.FlatEdges.{exchanged_within}
use Rattle.rotation_parts.proofs.PieceGraphs.{over, round}
use Rattle.rotation_parts.proofs.Retracts.{retract}
use Rattle.rotation_parts.proofs.Steps.{step_of, equal_joined, step_along, steps_among, step_walks}
use Rattle.rotation_parts.specs.Laws.{PushCountsLaw}
use Rattle.rotation_parts.specs.Drawings.{IsPush}

module _ (n : ℕ) (turn before other drawn : ℕ → ℕ) (e1 e3 f1 f3 : ℕ) (is : IsPush n turn other drawn e1 e3 f1 f3) where
  abbrev names : List ℕ
  names = range_with_len 0 n

  abbrev more : List ℕ
  more = range_with_len 0 (n + 8)

  by_kind : (T : ℕ → Type 0) → T (n + 0) → T (n + 1) → T (n + 2) → T (n + 3) → T (n + 4) → T (n + 5) → T (n + 6) → T (n + 7) → ((x : ℕ) → x < n → T x) → (x : ℕ) → x < n + 8 → T x
  by_kind T k0 k1 k2 k3 k4 k5 k6 k7 old x l =
      ⊎_elim (λ t. subst T (sym (eqb-true x (n + 0) t)) k0) (λ o0.
      ⊎_elim (λ t. subst T (sym (eqb-true x (n + 1) t)) k1) (λ o1.
      ⊎_elim (λ t. subst T (sym (eqb-true x (n + 2) t)) k2) (λ o2.
      ⊎_elim (λ t. subst T (sym (eqb-true x (n + 3) t)) k3) (λ o3.
      ⊎_elim (λ t. subst T (sym (eqb-true x (n + 4) t)) k4) (λ o4.
      ⊎_elim (λ t. subst T (sym (eqb-true x (n + 5) t)) k5) (λ o5.
      ⊎_elim (λ t. subst T (sym (eqb-true x (n + 6) t)) k6) (λ o6.
      ⊎_elim (λ t. old x (ltb-true x n t)) (λ h. let e : x ≡ n + 7 = grind (arith, nat_tests, l, h, o0, o1, o2, o3, o4, o5, o6) in subst T (sym e) k7) (cases_Bool (ltb x n)))
      (cases_Bool (x == n + 6)))
      (cases_Bool (x == n + 5)))
      (cases_Bool (x == n + 4)))
      (cases_Bool (x == n + 3)))
      (cases_Bool (x == n + 2)))
      (cases_Bool (x == n + 1)))
      (cases_Bool (x == n + 0))

  by_end : (T : ℕ → Type 0) → T e1 → T e3 → T f1 → T f3 → ((x : ℕ) → x < n → (x == e1) ≡ false → (x == f1) ≡ false → drawn x ≡ other x → T x) → (x : ℕ) → x < n → T x
  by_end T k1 k2 k3 k4 rest x l =
      ⊎_elim (λ t. subst T (sym (eqb-true x e1 t)) k1) (λ o1.
      ⊎_elim (λ t. subst T (sym (eqb-true x e3 t)) k2) (λ o2.
      ⊎_elim (λ t. subst T (sym (eqb-true x f1 t)) k3) (λ o3.
      ⊎_elim (λ t. subst T (sym (eqb-true x f3 t)) k4) (λ o4.
      rest x l o1 o3 (is.kept x l (λ e. (let k = eq-eqb x e1 e in grind (arith, k, o1))) (λ e. (let k = eq-eqb x e3 e in grind (arith, k, o2))) (λ e. (let k = eq-eqb x f1 e in grind (arith, k, o3))) (λ e. (let k = eq-eqb x f3 e in grind (arith, k, o4)))))
      (cases_Bool (x == f3)))
      (cases_Bool (x == f1)))
      (cases_Bool (x == e3)))
      (cases_Bool (x == e1))

  -- ---- faces
  abbrev phi : ℕ → ℕ
  phi x = turn (other x)

  abbrev chi : ℕ → ℕ
  chi x = phi (exchanged e1 f1 x)

  abbrev psi : ℕ → ℕ
  psi x = turn (drawn x)

  abbrev send : ℕ → ℕ
  send x = cond (ltb x n) x (cond (x == n + 0) n (cond (x == n + 1) e3 (cond (x == n + 2) e1 (cond (x == n + 3) f3 (cond (x == n + 4) f3 (cond (x == n + 5) f1 (cond (x == n + 6) e3 n)))))))

  send_0 : send (n + 0) ≡ n
  send_0 = grind (arith, nat_tests)

  send_1 : send (n + 1) ≡ e3
  send_1 = grind (arith, nat_tests)

  send_2 : send (n + 2) ≡ e1
  send_2 = grind (arith, nat_tests)

  send_3 : send (n + 3) ≡ f3
  send_3 = grind (arith, nat_tests)

  send_4 : send (n + 4) ≡ f3
  send_4 = grind (arith, nat_tests)

  send_5 : send (n + 5) ≡ f1
  send_5 = grind (arith, nat_tests)

  send_6 : send (n + 6) ≡ e3
  send_6 = grind (arith, nat_tests)

  send_7 : send (n + 7) ≡ n
  send_7 = grind (arith, nat_tests)

  send_old : (x : ℕ) → x < n → send x ≡ x
  send_old x l = ap (λ b. cond b x (cond (x == n + 0) n (cond (x == n + 1) e3 (cond (x == n + 2) e1 (cond (x == n + 3) f3 (cond (x == n + 4) f3 (cond (x == n + 5) f1 (cond (x == n + 6) e3 n)))))))) (lt-ltb x n l)

  chi_e1 : chi e1 ≡ phi f1
  chi_e1 = ap phi (let t = eq-eqb e1 e1 refl in grind (arith, t))

  chi_f1 : chi f1 ≡ phi e1
  chi_f1 = ap phi (let t = eq-eqb f1 f1 refl in grind (arith, nat_tests, t))

  chi_e3 : chi e3 ≡ phi e3
  chi_e3 = ap phi (let a = is.apart.0 in let b = is.apart.1 in grind (arith, nat_tests, a, b))

  chi_f3 : chi f3 ≡ phi f3
  chi_f3 = ap phi (let a = is.apart.2 in let b = is.apart.3 in grind (arith, nat_tests, a, b))

  chi_old : (x : ℕ) → (x == e1) ≡ false → (x == f1) ≡ false → chi x ≡ phi x
  chi_old x a b = ap phi (grind (arith, a, b))

  abbrev old_steps : List (ℕ × ℕ)
  old_steps = steps chi names

  abbrev after : List (ℕ × ℕ)
  after = steps psi more

  step_old : (x : ℕ) → x < n → Joined old_steps x (chi x)
  step_old x l = step_along chi names x (range_has n x l)

  step_new : (x : ℕ) → x < n + 8 → Joined after x (psi x)
  step_new x l = step_along psi more x (range_has (n + 8) x l)

  phi_in : (x : ℕ) → x < n → phi x < n
  phi_in x l = is.turn_in (other x) (is.other_in x l)

  -- from a sent name one step on
  goes : (x u v : ℕ) → send x ≡ u → u < n → chi u ≡ turn v → v < n → drawn x ≡ v → Joined old_steps (send x) (send (psi x))
  goes x u v e l c lv d =
      on (equal_joined old_steps (send x) u e) (on (step_old u l)
      (equal_joined old_steps (chi u) (send (psi x)) (c ∙ sym (send_old (turn v) (is.turn_in v lv)) ∙ ap (λ z. send (turn z)) (sym d))))

  -- or none
  rests : (x y u : ℕ) → send x ≡ u → psi x ≡ y → send y ≡ u → Joined old_steps (send x) (send (psi x))
  rests x y u a b c = equal_joined old_steps (send x) (send (psi x)) (a ∙ sym c ∙ ap send (sym b))

  to : (x y z : ℕ) → drawn x ≡ y → turn y ≡ z → psi x ≡ z
  to x y z a b = ap turn a ∙ b

  step_down : (x : ℕ) → x < n + 8 → Joined old_steps (send x) (send (psi x))
  step_down = by_kind (λ x. Joined old_steps (send x) (send (psi x)))
      (rests (n + 0) (n + 7) n send_0 (to (n + 0) (n + 6) (n + 7) is.d0 is.t6) send_7)
      (goes (n + 1) e3 e1 send_1 is.le3 (chi_e3 ∙ ap turn is.ee_back) is.le1 is.d1)
      (goes (n + 2) e1 f3 send_2 is.le1 (chi_e1 ∙ ap turn is.ff) is.lf3 is.d2)
      (rests (n + 3) (n + 4) f3 send_3 (to (n + 3) (n + 7) (n + 4) is.d3 is.t7) send_4)
      (goes (n + 4) f3 f1 send_4 is.lf3 (chi_f3 ∙ ap turn is.ff_back) is.lf1 is.d4)
      (goes (n + 5) f1 e3 send_5 is.lf1 (chi_f1 ∙ ap turn is.ee) is.le3 is.d5)
      (rests (n + 6) (n + 1) e3 send_6 (to (n + 6) (n + 0) (n + 1) is.d6 is.t0) send_1)
      (rests (n + 7) (n + 0) n send_7 (to (n + 7) (n + 3) (n + 0) is.d7 is.t3) send_0)
      (by_end (λ x. Joined old_steps (send x) (send (psi x)))
      (rests e1 (n + 2) e1 (send_old e1 is.le1) (to e1 (n + 1) (n + 2) is.de1 is.t1) send_2)
      (rests e3 (n + 6) e3 (send_old e3 is.le3) (to e3 (n + 5) (n + 6) is.de3 is.t5) send_6)
      (rests f1 (n + 5) f1 (send_old f1 is.lf1) (to f1 (n + 4) (n + 5) is.df1 is.t4) send_5)
      (rests f3 (n + 3) f3 (send_old f3 is.lf3) (to f3 (n + 2) (n + 3) is.df3 is.t2) send_3)
      (λ x l a b d. goes x x (other x) (send_old x l) l (chi_old x a b) (is.other_in x l) d))

  hop : (x y z : ℕ) → x < n + 8 → drawn x ≡ y → turn y ≡ z → Joined after x z
  hop x y z l a b = on (step_new x l) (equal_joined after (psi x) z (to x y z a b))

  e1_2 : Joined after e1 (n + 2)
  e1_2 = hop e1 (n + 1) (n + 2) (let l = is.le1 in omega (arith, l)) is.de1 is.t1

  f3_3 : Joined after f3 (n + 3)
  f3_3 = hop f3 (n + 2) (n + 3) (let l = is.lf3 in omega (arith, l)) is.df3 is.t2

  h3_4 : Joined after (n + 3) (n + 4)
  h3_4 = hop (n + 3) (n + 7) (n + 4) (omega arith) is.d3 is.t7

  f1_5 : Joined after f1 (n + 5)
  f1_5 = hop f1 (n + 4) (n + 5) (let l = is.lf1 in omega (arith, l)) is.df1 is.t4

  e3_6 : Joined after e3 (n + 6)
  e3_6 = hop e3 (n + 5) (n + 6) (let l = is.le3 in omega (arith, l)) is.de3 is.t5

  h6_1 : Joined after (n + 6) (n + 1)
  h6_1 = hop (n + 6) (n + 0) (n + 1) (omega arith) is.d6 is.t0

  h7_0 : Joined after (n + 7) (n + 0)
  h7_0 = hop (n + 7) (n + 3) (n + 0) (omega arith) is.d7 is.t3

  step_up : (x : ℕ) → x < n → Joined after x (chi x)
  step_up = by_end (λ x. Joined after x (chi x))
      (on e1_2 (hop (n + 2) f3 (chi e1) (omega arith) is.d2 (sym (chi_e1 ∙ ap turn is.ff))))
      (on e3_6 (on h6_1 (hop (n + 1) e1 (chi e3) (omega arith) is.d1 (sym (chi_e3 ∙ ap turn is.ee_back)))))
      (on f1_5 (hop (n + 5) e3 (chi f1) (omega arith) is.d5 (sym (chi_f1 ∙ ap turn is.ee))))
      (on f3_3 (on h3_4 (hop (n + 4) f1 (chi f3) (omega arith) is.d4 (sym (chi_f3 ∙ ap turn is.ff_back)))))
      (λ x l a b d. hop x (other x) (chi x) (omega (arith, l)) d (sym (chi_old x a b)))

  drawn_in : (x : ℕ) → x < n + 8 → drawn x < n + 8
  drawn_in = by_kind (λ x. drawn x < n + 8)
      (let e = is.d0 in omega (arith, e)) (let e = is.d1 in let l = is.le1 in omega (arith, e, l)) (let e = is.d2 in let l = is.lf3 in omega (arith, e, l)) (let e = is.d3 in omega (arith, e))
      (let e = is.d4 in let l = is.lf1 in omega (arith, e, l)) (let e = is.d5 in let l = is.le3 in omega (arith, e, l)) (let e = is.d6 in omega (arith, e)) (let e = is.d7 in omega (arith, e))
      (by_end (λ x. drawn x < n + 8)
      (let e = is.de1 in omega (arith, e)) (let e = is.de3 in omega (arith, e)) (let e = is.df1 in omega (arith, e)) (let e = is.df3 in omega (arith, e))
      (λ x l a b d. let o = is.other_in x l in omega (arith, d, o)))

  turn_more : (x : ℕ) → x < n + 8 → turn x < n + 8
  turn_more = by_kind (λ x. turn x < n + 8)
      (let e = is.t0 in omega (arith, e)) (let e = is.t1 in omega (arith, e)) (let e = is.t2 in omega (arith, e)) (let e = is.t3 in omega (arith, e))
      (let e = is.t4 in omega (arith, e)) (let e = is.t5 in omega (arith, e)) (let e = is.t6 in omega (arith, e)) (let e = is.t7 in omega (arith, e))
      (λ x l. let o = is.turn_in x l in omega (arith, o))

  among_more : (f : ℕ → ℕ) → ((x : ℕ) → x < n + 8 → f x < n + 8) → AreAmong more (steps f more)
  among_more f h = steps_among f more (λ x m. range_has (n + 8) (f x) (h x (in_range (n + 8) x m)))

  among_old : (f : ℕ → ℕ) → ((x : ℕ) → x < n → f x < n) → AreAmong names (steps f names)
  among_old f h = steps_among f names (λ x m. range_has n (f x) (h x (in_range n x m)))

  chi_in : (x : ℕ) → x < n → chi x < n
  chi_in x l = phi_in (exchanged e1 f1 x) (in_range n (exchanged e1 f1 x) (exchanged_within names e1 f1 x (range_has n e1 is.le1) (range_has n f1 is.lf1) (range_has n x l)))

  n_out : is_member ◌==◌ names n ≡ false
  n_out = ⊎_elim (λ t. absurd (let l = in_range n n t in omega (arith, l))) (λ f. f) (cases_Bool (is_member ◌==◌ names n))

  old_or : (x : ℕ) → x < n → is_member ◌==◌ (n ∷ names) x ≡ true
  old_or x l = or_right (x == n) (is_member ◌==◌ names x) (range_has n x l)

  n_or : is_member ◌==◌ (n ∷ names) n ≡ true
  n_or = or_left (n == n) (is_member ◌==◌ names n) (eq-eqb n n refl)

  faces_returned : cycle_count more psi ≡ cycle_count names chi + 1
  faces_returned =
      let M = is_member ◌==◌ (n ∷ names) in
      retract more (n ∷ names) after old_steps send (λ u. u)
      (among_more psi (λ x l. turn_more (drawn x) (drawn_in x l)))
      (EndsAre-weaker (is_member ◌==◌ names) M (λ x m. old_or x (in_range n x m)) old_steps (among_old chi chi_in))
      record {
        onto_others = λ x m. by_kind (λ x. M (send x) ≡ true)
            (ap M send_0 ∙ n_or) (ap M send_1 ∙ old_or e3 is.le3) (ap M send_2 ∙ old_or e1 is.le1) (ap M send_3 ∙ old_or f3 is.lf3)
            (ap M send_4 ∙ old_or f3 is.lf3) (ap M send_5 ∙ old_or f1 is.lf1) (ap M send_6 ∙ old_or e3 is.le3) (ap M send_7 ∙ n_or)
            (λ x l. ap M (send_old x l) ∙ old_or x l) x (in_range (n + 8) x m);
        into_names = λ u m. range_has (n + 8) u (⊎_elim (λ t. let e = eqb-true u n t in omega (arith, e)) (λ r. let l = in_range n u r in omega (arith, l)) (or_cases (u == n) (is_member ◌==◌ names u) m));
        one_of = λ u m. ⊎_elim (λ t. let e = eqb-true u n t in ap send (e ∙ (let z : n ≡ n + 0 = omega arith in z)) ∙ send_0 ∙ sym e) (λ r. send_old u (in_range n u r)) (or_cases (u == n) (is_member ◌==◌ names u) m);
        near = λ x m. by_kind (λ x. Joined after x (send x))
            (equal_joined after (n + 0) (send (n + 0)) ((let z : n + 0 ≡ n = omega arith in z) ∙ sym send_0))
            (on (back h6_1) (on (back e3_6) (equal_joined after e3 (send (n + 1)) (sym send_1))))
            (on (back e1_2) (equal_joined after e1 (send (n + 2)) (sym send_2)))
            (on (back f3_3) (equal_joined after f3 (send (n + 3)) (sym send_3)))
            (on (back h3_4) (on (back f3_3) (equal_joined after f3 (send (n + 4)) (sym send_4))))
            (on (back f1_5) (equal_joined after f1 (send (n + 5)) (sym send_5)))
            (on (back e3_6) (equal_joined after e3 (send (n + 6)) (sym send_6)))
            (on h7_0 (equal_joined after (n + 0) (send (n + 7)) ((let z : n + 0 ≡ n = omega arith in z) ∙ sym send_7)))
            (λ x l. equal_joined after x (send x) (sym (send_old x l))) x (in_range (n + 8) x m);
        down = λ x y c. (let r = step_of psi more x y c in on (step_down x (in_range (n + 8) x r.0)) (equal_joined old_steps (send (psi x)) (send y) (ap send r.1)));
        up = λ u v c. (let r = step_of chi names u v c in on (step_up u (in_range n u r.0)) (equal_joined after (chi u) v r.1));
      }
      ∙ one_alone n names old_steps n_out (among_old chi chi_in)

  push_faces : (back_phi : ℕ → ℕ) → IsPermutation names phi back_phi → Joined (steps phi names) e1 f1 → cycle_count more psi ≡ cycle_count names phi + 2
  push_faces back_phi perm j =
      let split = exchange_splits names phi back_phi e1 f1 perm (range_has n e1 is.le1) (range_has n f1 is.lf1) (λ e. is.apart.4 (sym e)) j in
      omega (arith, split, faces_returned)

  -- ---- pieces
  abbrev graph : List (ℕ × ℕ)
  graph = pair_graph names turn other

  abbrev drawn_graph : List (ℕ × ℕ)
  drawn_graph = pair_graph more turn drawn

  abbrev gather : ℕ → ℕ
  gather x = cond (ltb x n) x e1

  gather_old : (x : ℕ) → x < n → gather x ≡ x
  gather_old x l = ap (λ b. cond b x e1) (lt-ltb x n l)

  gather_new : (i : ℕ) → gather (n + i) ≡ e1
  gather_new i = ⊎_elim (λ t. absurd (let l = ltb-true (n + i) n t in omega (arith, l))) (λ f. ap (λ b. cond b (n + i) e1) f) (cases_Bool (ltb (n + i) n))

  cross : (x y : ℕ) → x < n + 8 → drawn x ≡ y → Joined drawn_graph x y
  cross x y l e = on (over more turn drawn x (range_has (n + 8) x l)) (equal_joined drawn_graph (drawn x) y e)

  wind : (x y : ℕ) → x < n + 8 → turn x ≡ y → Joined drawn_graph x y
  wind x y l e = on (round more turn drawn x (range_has (n + 8) x l)) (equal_joined drawn_graph (turn x) y e)

  -- each new place is joined to the first of them
  n1 : Joined drawn_graph (n + 1) (n + 0)
  n1 = back (wind (n + 0) (n + 1) (omega arith) is.t0)

  n2 : Joined drawn_graph (n + 2) (n + 0)
  n2 = on (back (wind (n + 1) (n + 2) (omega arith) is.t1)) n1

  n3 : Joined drawn_graph (n + 3) (n + 0)
  n3 = wind (n + 3) (n + 0) (omega arith) is.t3

  n6 : Joined drawn_graph (n + 6) (n + 0)
  n6 = cross (n + 6) (n + 0) (omega arith) is.d6

  n5 : Joined drawn_graph (n + 5) (n + 0)
  n5 = on (wind (n + 5) (n + 6) (omega arith) is.t5) n6

  n4 : Joined drawn_graph (n + 4) (n + 0)
  n4 = on (wind (n + 4) (n + 5) (omega arith) is.t4) n5

  n7 : Joined drawn_graph (n + 7) (n + 0)
  n7 = on (wind (n + 7) (n + 4) (omega arith) is.t7) n4

  e1_home : Joined drawn_graph e1 (n + 0)
  e1_home = on (cross e1 (n + 1) (let l = is.le1 in omega (arith, l)) is.de1) n1

  e3_home : Joined drawn_graph e3 (n + 0)
  e3_home = on (cross e3 (n + 5) (let l = is.le3 in omega (arith, l)) is.de3) n5

  f1_home : Joined drawn_graph f1 (n + 0)
  f1_home = on (cross f1 (n + 4) (let l = is.lf1 in omega (arith, l)) is.df1) n4

  f3_home : Joined drawn_graph f3 (n + 0)
  f3_home = on (cross f3 (n + 2) (let l = is.lf3 in omega (arith, l)) is.df3) n2

  new_home : (i : ℕ) → Joined drawn_graph (n + i) (n + 0) → Joined drawn_graph (n + i) (gather (n + i))
  new_home i j = on j (on (back e1_home) (equal_joined drawn_graph e1 (gather (n + i)) (sym (gather_new i))))

  module _ (met : Joined graph e1 f1) where
    old_over : (x : ℕ) → x < n → Joined graph x (other x)
    old_over x l = over names turn other x (range_has n x l)

    e3_met : Joined graph e3 e1
    e3_met = on (old_over e3 is.le3) (equal_joined graph (other e3) e1 is.ee_back)

    f1_met : Joined graph f1 e1
    f1_met = back met

    f3_met : Joined graph f3 e1
    f3_met = on (on (old_over f3 is.lf3) (equal_joined graph (other f3) f1 is.ff_back)) f1_met

    -- two names that are sent to e1's piece
    near_both : (x y : ℕ) → Joined graph (gather x) e1 → Joined graph (gather y) e1 → Joined graph (gather x) (gather y)
    near_both x y a b = on a (back b)

    new_met : (i : ℕ) → Joined graph (gather (n + i)) e1
    new_met i = equal_joined graph (gather (n + i)) e1 (gather_new i)

    old_met : (x : ℕ) → x < n → Joined graph x e1 → Joined graph (gather x) e1
    old_met x l j = on (equal_joined graph (gather x) x (gather_old x l)) j

    both : (x y : ℕ) → drawn x ≡ y → Joined graph (gather x) e1 → Joined graph (gather y) e1 → Joined graph (gather x) (gather (drawn x))
    both x y e a b = on (near_both x y a b) (equal_joined graph (gather y) (gather (drawn x)) (ap gather (sym e)))

    turned : (i k : ℕ) → turn (n + i) ≡ n + k → Joined graph (gather (n + i)) (gather (turn (n + i)))
    turned i k e = on (near_both (n + i) (n + k) (new_met i) (new_met k)) (equal_joined graph (gather (n + k)) (gather (turn (n + i))) (ap gather (sym e)))

    over_down : (x : ℕ) → x < n + 8 → Joined graph (gather x) (gather (drawn x))
    over_down = by_kind (λ x. Joined graph (gather x) (gather (drawn x)))
        (both (n + 0) (n + 6) is.d0 (new_met 0) (new_met 6))
        (both (n + 1) e1 is.d1 (new_met 1) (old_met e1 is.le1 stay))
        (both (n + 2) f3 is.d2 (new_met 2) (old_met f3 is.lf3 f3_met))
        (both (n + 3) (n + 7) is.d3 (new_met 3) (new_met 7))
        (both (n + 4) f1 is.d4 (new_met 4) (old_met f1 is.lf1 f1_met))
        (both (n + 5) e3 is.d5 (new_met 5) (old_met e3 is.le3 e3_met))
        (both (n + 6) (n + 0) is.d6 (new_met 6) (new_met 0))
        (both (n + 7) (n + 3) is.d7 (new_met 7) (new_met 3))
        (by_end (λ x. Joined graph (gather x) (gather (drawn x)))
        (both e1 (n + 1) is.de1 (old_met e1 is.le1 stay) (new_met 1))
        (both e3 (n + 5) is.de3 (old_met e3 is.le3 e3_met) (new_met 5))
        (both f1 (n + 4) is.df1 (old_met f1 is.lf1 f1_met) (new_met 4))
        (both f3 (n + 2) is.df3 (old_met f3 is.lf3 f3_met) (new_met 2))
        (λ x l a b d. on (equal_joined graph (gather x) x (gather_old x l)) (on (old_over x l) (equal_joined graph (other x) (gather (drawn x)) (sym (gather_old (other x) (is.other_in x l)) ∙ ap gather (sym d))))))

    round_down : (x : ℕ) → x < n + 8 → Joined graph (gather x) (gather (turn x))
    round_down = by_kind (λ x. Joined graph (gather x) (gather (turn x)))
        (turned 0 1 is.t0) (turned 1 2 is.t1) (turned 2 3 is.t2) (turned 3 0 is.t3) (turned 4 5 is.t4) (turned 5 6 is.t5) (turned 6 7 is.t6) (turned 7 4 is.t7)
        (λ x l. on (equal_joined graph (gather x) x (gather_old x l)) (on (round names turn other x (range_has n x l)) (equal_joined graph (turn x) (gather (turn x)) (sym (gather_old (turn x) (is.turn_in x l))))))

    over_up : (x : ℕ) → x < n → Joined drawn_graph x (other x)
    over_up = by_end (λ x. Joined drawn_graph x (other x))
        (on e1_home (on (back e3_home) (equal_joined drawn_graph e3 (other e1) (sym is.ee))))
        (on e3_home (on (back e1_home) (equal_joined drawn_graph e1 (other e3) (sym is.ee_back))))
        (on f1_home (on (back f3_home) (equal_joined drawn_graph f3 (other f1) (sym is.ff))))
        (on f3_home (on (back f1_home) (equal_joined drawn_graph f1 (other f3) (sym is.ff_back))))
        (λ x l a b d. cross x (other x) (omega (arith, l)) d)

    push_pieces : part_count more drawn_graph ≡ part_count names graph
    push_pieces =
        retract more names drawn_graph graph gather (λ u. u)
        (EndsAre-append (is_member ◌==◌ more) (steps drawn more) (steps turn more) (among_more drawn drawn_in) (among_more turn turn_more))
        (EndsAre-append (is_member ◌==◌ names) (steps other names) (steps turn names) (among_old other is.other_in) (among_old turn is.turn_in))
        record {
          onto_others = λ x m. (let M = is_member ◌==◌ names in let home = λ (i : ℕ). ap M (gather_new i) ∙ range_has n e1 is.le1 in
              by_kind (λ x. M (gather x) ≡ true) (home 0) (home 1) (home 2) (home 3) (home 4) (home 5) (home 6) (home 7) (λ x l. ap M (gather_old x l) ∙ range_has n x l) x (in_range (n + 8) x m));
          into_names = λ u m. (let l = in_range n u m in range_has (n + 8) u (omega (arith, l)));
          one_of = λ u m. gather_old u (in_range n u m);
          near = λ x m. by_kind (λ x. Joined drawn_graph x (gather x))
              (new_home 0 stay) (new_home 1 n1) (new_home 2 n2) (new_home 3 n3) (new_home 4 n4) (new_home 5 n5) (new_home 6 n6) (new_home 7 n7)
              (λ x l. equal_joined drawn_graph x (gather x) (sym (gather_old x l))) x (in_range (n + 8) x m);
          down = λ x y e. ⊎_elim
              (λ l. let r = step_of drawn more x y l in on (over_down x (in_range (n + 8) x r.0)) (equal_joined graph (gather (drawn x)) (gather y) (ap gather r.1)))
              (λ l. let r = step_of turn more x y l in on (round_down x (in_range (n + 8) x r.0)) (equal_joined graph (gather (turn x)) (gather y) (ap gather r.1)))
              (Contains-append_cases (steps drawn more) (steps turn more) (x, y) e);
          up = λ x y e. ⊎_elim
              (λ l. let r = step_of other names x y l in on (over_up x (in_range n x r.0)) (equal_joined drawn_graph (other x) y r.1))
              (λ l. let r = step_of turn names x y l in let b = in_range n x r.0 in wind x y (omega (arith, b)) r.1)
              (Contains-append_cases (steps other names) (steps turn names) (x, y) e);
        }

pub push_counts : PushCountsLaw
push_counts n turn back_phi other drawn e1 e3 f1 f3 is perm j =
    let graph_of = pair_graph (range_with_len 0 n) turn other in
    let met : Joined graph_of e1 f1 = step_walks (λ x. turn (other x)) (range_with_len 0 n) graph_of
    (λ x m.
    let l = in_range n x m in
    on (over (range_with_len 0 n) turn other x m) (round (range_with_len 0 n) turn other (other x) (range_has n (other x) (is.other_in x l)))) j in
    (push_faces n turn back_phi other drawn e1 e3 f1 f3 is back_phi perm j, push_pieces n turn back_phi other drawn e1 e3 f1 f3 is met)
