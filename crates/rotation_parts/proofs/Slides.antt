-- A triangle's side slid over a vertex: a name of the triangle lies in another face afterwards; its old and its new face are told by the names
-- that follow it.
use Rattle.std.proofs.Common.{◌≡◌, ◌≢◌, ℕ, ◌==◌, true, cond, List, refl, sym, ap, ◌∙◌, subst, arith, ⊎_elim}
use Rattle.std.specs.Set.{is_member}
use Rattle.std.proofs.lemmas.Bool.{eq-eqb, eqb-true, cases_Bool}
use Rattle.std.proofs.lemmas.Bool.Decides.{nat_tests}
use Rattle.graph_parts.specs.Parts.{part_count}
use Rattle.graph_parts.specs.Walks.{Joined, stay, back, on}
use Rattle.rotation_parts.specs.Laws.{SlideCountsLaw}
use Rattle.rotation_parts.specs.Drawings.{IsSlide}
use Rattle.rotation_parts.specs.Rotations.{steps, cycle_count, pair_graph}
use Rattle.rotation_parts.proofs.Matches.{matched_graphs}
use Rattle.rotation_parts.proofs.PieceGraphs.{pair_among, over, round, piece_walks}
use Rattle.rotation_parts.proofs.Steps.{same_parts, step_of, equal_joined, step_along, steps_among, walks}

module _ (names : List ℕ) (turn turned other : ℕ → ℕ) (a0 a1 a2 a3 b0 b1 b2 b3 c0 c1 c2 c3 : ℕ) (is : IsSlide names turn turned other a0 a1 a2 a3 b0 b1 b2 b3 c0 c1 c2 c3) where
  far : (x y i j : ℕ) → is.kind x ≡ i → is.kind y ≡ j → i ≢ j → x ≢ y
  far x y i j p q d e = d (sym p ∙ (ap is.kind e ∙ q))

  by_twelve : (T : ℕ → Type 0) → T a0 → T a1 → T a2 → T a3 → T b0 → T b1 → T b2 → T b3 → T c0 → T c1 → T c2 → T c3 → ((x : ℕ) → is_member ◌==◌ names x ≡ true → x ≢ a0 → x ≢ a1 → x ≢ a2 → x ≢ a3 → x ≢ b0 → x ≢ b1 → x ≢ b2 → x ≢ b3 → x ≢ c0 → x ≢ c1 → x ≢ c2 → x ≢ c3 → T x) → (x : ℕ) → is_member ◌==◌ names x ≡ true → T x
  by_twelve T k_a0 k_a1 k_a2 k_a3 k_b0 k_b1 k_b2 k_b3 k_c0 k_c1 k_c2 k_c3 rest x m =
      ⊎_elim (λ t. subst T (sym (eqb-true x a0 t)) k_a0) (λ n_a0.
      ⊎_elim (λ t. subst T (sym (eqb-true x a1 t)) k_a1) (λ n_a1.
      ⊎_elim (λ t. subst T (sym (eqb-true x a2 t)) k_a2) (λ n_a2.
      ⊎_elim (λ t. subst T (sym (eqb-true x a3 t)) k_a3) (λ n_a3.
      ⊎_elim (λ t. subst T (sym (eqb-true x b0 t)) k_b0) (λ n_b0.
      ⊎_elim (λ t. subst T (sym (eqb-true x b1 t)) k_b1) (λ n_b1.
      ⊎_elim (λ t. subst T (sym (eqb-true x b2 t)) k_b2) (λ n_b2.
      ⊎_elim (λ t. subst T (sym (eqb-true x b3 t)) k_b3) (λ n_b3.
      ⊎_elim (λ t. subst T (sym (eqb-true x c0 t)) k_c0) (λ n_c0.
      ⊎_elim (λ t. subst T (sym (eqb-true x c1 t)) k_c1) (λ n_c1.
      ⊎_elim (λ t. subst T (sym (eqb-true x c2 t)) k_c2) (λ n_c2.
      ⊎_elim (λ t. subst T (sym (eqb-true x c3 t)) k_c3) (λ n_c3.
      rest x m (λ e. (let k = eq-eqb x a0 e in grind (arith, k, n_a0))) (λ e. (let k = eq-eqb x a1 e in grind (arith, k, n_a1))) (λ e. (let k = eq-eqb x a2 e in grind (arith, k, n_a2))) (λ e. (let k = eq-eqb x a3 e in grind (arith, k, n_a3))) (λ e. (let k = eq-eqb x b0 e in grind (arith, k, n_b0))) (λ e. (let k = eq-eqb x b1 e in grind (arith, k, n_b1))) (λ e. (let k = eq-eqb x b2 e in grind (arith, k, n_b2))) (λ e. (let k = eq-eqb x b3 e in grind (arith, k, n_b3))) (λ e. (let k = eq-eqb x c0 e in grind (arith, k, n_c0))) (λ e. (let k = eq-eqb x c1 e in grind (arith, k, n_c1))) (λ e. (let k = eq-eqb x c2 e in grind (arith, k, n_c2))) (λ e. (let k = eq-eqb x c3 e in grind (arith, k, n_c3))))
      (cases_Bool (x == c3)))
      (cases_Bool (x == c2)))
      (cases_Bool (x == c1)))
      (cases_Bool (x == c0)))
      (cases_Bool (x == b3)))
      (cases_Bool (x == b2)))
      (cases_Bool (x == b1)))
      (cases_Bool (x == b0)))
      (cases_Bool (x == a3)))
      (cases_Bool (x == a2)))
      (cases_Bool (x == a1)))
      (cases_Bool (x == a0))

  abbrev phi : ℕ → ℕ
  phi x = turn (other x)

  abbrev phi_after : ℕ → ℕ
  phi_after x = turned (other x)

  abbrev es : List (ℕ × ℕ)
  es = steps phi names

  abbrev fs : List (ℕ × ℕ)
  fs = steps phi_after names

  -- one step, from the name that is paired with z
  hop : (z y : ℕ) → is_member ◌==◌ names z ≡ true → turn z ≡ y → Joined es (other z) y
  hop z y m e = on (step_along phi names (other z) (is.pairing.inside z m)) (equal_joined es (turn (other (other z))) y (ap turn (is.pairing.twice z m) ∙ e))

  leap : (z y : ℕ) → is_member ◌==◌ names z ≡ true → turned z ≡ y → Joined fs (other z) y
  leap z y m e = on (step_along phi_after names (other z) (is.pairing.inside z m)) (equal_joined fs (turned (other (other z))) y (ap turned (is.pairing.twice z m) ∙ e))

  abbrev Away : ℕ → Type 0
  Away x = (x ≢ a0) × (x ≢ b0) × (x ≢ c0)

  -- where the three names go that change their faces
  abbrev send : ℕ → ℕ
  send x = cond (x == a0) c2 (cond (x == b0) a2 (cond (x == c0) b2 x))

  abbrev fetch : ℕ → ℕ
  fetch x = cond (x == a0) b3 (cond (x == b0) c3 (cond (x == c0) a3 x))

  send_is : (x : ℕ) → Away x → send x ≡ x
  send_is x w = let a = w.0 in let b = w.1 in let c = w.2 in grind (arith, nat_tests, a, b, c)

  fetch_is : (x : ℕ) → Away x → fetch x ≡ x
  fetch_is x w = let a = w.0 in let b = w.1 in let c = w.2 in grind (arith, nat_tests, a, b, c)

  a0_b0 : a0 ≢ b0
  a0_b0 = far a0 b0 0 4 is.kind_a0 is.kind_b0 (omega arith)

  a0_c0 : a0 ≢ c0
  a0_c0 = far a0 c0 0 8 is.kind_a0 is.kind_c0 (omega arith)

  b0_c0 : b0 ≢ c0
  b0_c0 = far b0 c0 4 8 is.kind_b0 is.kind_c0 (omega arith)

  send_a0 : send a0 ≡ c2
  send_a0 = let t = eq-eqb a0 a0 refl in grind (arith, t)

  send_b0 : send b0 ≡ a2
  send_b0 = let t = eq-eqb b0 b0 refl in let n = a0_b0 in grind (arith, nat_tests, t, n)

  send_c0 : send c0 ≡ b2
  send_c0 = let t = eq-eqb c0 c0 refl in let n = a0_c0 in let o = b0_c0 in grind (arith, nat_tests, t, n, o)

  fetch_a0 : fetch a0 ≡ b3
  fetch_a0 = let t = eq-eqb a0 a0 refl in grind (arith, t)

  fetch_b0 : fetch b0 ≡ c3
  fetch_b0 = let t = eq-eqb b0 b0 refl in let n = a0_b0 in grind (arith, nat_tests, t, n)

  fetch_c0 : fetch c0 ≡ a3
  fetch_c0 = let t = eq-eqb c0 c0 refl in let n = a0_c0 in let o = b0_c0 in grind (arith, nat_tests, t, n, o)

  away_a1 : Away a1
  away_a1 = (far a1 a0 1 0 is.kind_a1 is.kind_a0 (omega arith), far a1 b0 1 4 is.kind_a1 is.kind_b0 (omega arith), far a1 c0 1 8 is.kind_a1 is.kind_c0 (omega arith))

  away_a2 : Away a2
  away_a2 = (far a2 a0 2 0 is.kind_a2 is.kind_a0 (omega arith), far a2 b0 2 4 is.kind_a2 is.kind_b0 (omega arith), far a2 c0 2 8 is.kind_a2 is.kind_c0 (omega arith))

  away_a3 : Away a3
  away_a3 = (far a3 a0 3 0 is.kind_a3 is.kind_a0 (omega arith), far a3 b0 3 4 is.kind_a3 is.kind_b0 (omega arith), far a3 c0 3 8 is.kind_a3 is.kind_c0 (omega arith))

  away_b1 : Away b1
  away_b1 = (far b1 a0 5 0 is.kind_b1 is.kind_a0 (omega arith), far b1 b0 5 4 is.kind_b1 is.kind_b0 (omega arith), far b1 c0 5 8 is.kind_b1 is.kind_c0 (omega arith))

  away_b2 : Away b2
  away_b2 = (far b2 a0 6 0 is.kind_b2 is.kind_a0 (omega arith), far b2 b0 6 4 is.kind_b2 is.kind_b0 (omega arith), far b2 c0 6 8 is.kind_b2 is.kind_c0 (omega arith))

  away_b3 : Away b3
  away_b3 = (far b3 a0 7 0 is.kind_b3 is.kind_a0 (omega arith), far b3 b0 7 4 is.kind_b3 is.kind_b0 (omega arith), far b3 c0 7 8 is.kind_b3 is.kind_c0 (omega arith))

  away_c1 : Away c1
  away_c1 = (far c1 a0 9 0 is.kind_c1 is.kind_a0 (omega arith), far c1 b0 9 4 is.kind_c1 is.kind_b0 (omega arith), far c1 c0 9 8 is.kind_c1 is.kind_c0 (omega arith))

  away_c2 : Away c2
  away_c2 = (far c2 a0 10 0 is.kind_c2 is.kind_a0 (omega arith), far c2 b0 10 4 is.kind_c2 is.kind_b0 (omega arith), far c2 c0 10 8 is.kind_c2 is.kind_c0 (omega arith))

  away_c3 : Away c3
  away_c3 = (far c3 a0 11 0 is.kind_c3 is.kind_a0 (omega arith), far c3 b0 11 4 is.kind_c3 is.kind_b0 (omega arith), far c3 c0 11 8 is.kind_c3 is.kind_c0 (omega arith))

  -- a name whose edge is none of the triangle's is paired with no name of it
  away_other : (z : ℕ) → is_member ◌==◌ names z ≡ true → z ≢ c1 → z ≢ a1 → z ≢ b1 → Away (other z)
  away_other z m nc na nb = (
    (λ e. nc (sym (is.pairing.twice z m) ∙ (ap other e ∙ is.o_a0))),
    (λ e. na (sym (is.pairing.twice z m) ∙ (ap other e ∙ is.o_b0))),
    (λ e. nb (sym (is.pairing.twice z m) ∙ (ap other e ∙ is.o_c0))),
  )

  begins : (rs : List (ℕ × ℕ)) (x w y : ℕ) → x ≡ w → Joined rs w y → Joined rs x y
  begins rs x w y e j = on (equal_joined rs x w e) j

  out_a2 : Away (other a2)
  out_a2 = away_other a2 is.has_a2 (far a2 c1 2 9 is.kind_a2 is.kind_c1 (omega arith)) (far a2 a1 2 1 is.kind_a2 is.kind_a1 (omega arith)) (far a2 b1 2 5 is.kind_a2 is.kind_b1 (omega arith))

  out_a3 : Away (other a3)
  out_a3 = away_other a3 is.has_a3 (far a3 c1 3 9 is.kind_a3 is.kind_c1 (omega arith)) (far a3 a1 3 1 is.kind_a3 is.kind_a1 (omega arith)) (far a3 b1 3 5 is.kind_a3 is.kind_b1 (omega arith))

  out_b2 : Away (other b2)
  out_b2 = away_other b2 is.has_b2 (far b2 c1 6 9 is.kind_b2 is.kind_c1 (omega arith)) (far b2 a1 6 1 is.kind_b2 is.kind_a1 (omega arith)) (far b2 b1 6 5 is.kind_b2 is.kind_b1 (omega arith))

  out_b3 : Away (other b3)
  out_b3 = away_other b3 is.has_b3 (far b3 c1 7 9 is.kind_b3 is.kind_c1 (omega arith)) (far b3 a1 7 1 is.kind_b3 is.kind_a1 (omega arith)) (far b3 b1 7 5 is.kind_b3 is.kind_b1 (omega arith))

  out_c2 : Away (other c2)
  out_c2 = away_other c2 is.has_c2 (far c2 c1 10 9 is.kind_c2 is.kind_c1 (omega arith)) (far c2 a1 10 1 is.kind_c2 is.kind_a1 (omega arith)) (far c2 b1 10 5 is.kind_c2 is.kind_b1 (omega arith))

  out_c3 : Away (other c3)
  out_c3 = away_other c3 is.has_c3 (far c3 c1 11 9 is.kind_c3 is.kind_c1 (omega arith)) (far c3 a1 11 1 is.kind_c3 is.kind_a1 (omega arith)) (far c3 b1 11 5 is.kind_c3 is.kind_b1 (omega arith))

  -- one step before is a walk after
  step_down : (z : ℕ) → is_member ◌==◌ names z ≡ true → Joined fs (send (other z)) (send (turn z))
  step_down = by_twelve (λ z. Joined fs (send (other z)) (send (turn z)))
      (begins fs (send (other a0)) (other a0) (send (turn a0)) (send_is (other a0) (let P : ℕ → Type 0 = λ z. Away z in subst P (sym is.o_a0) away_c1)) (on (leap a0 a1 is.has_a0 is.s_a0) (equal_joined fs a1 (send (turn a0)) (sym (ap send is.t_a0 ∙ send_is a1 away_a1)))))
      (equal_joined fs (send (other a1)) (send (turn a1)) (ap send is.o_a1 ∙ send_b0 ∙ sym (ap send is.t_a1 ∙ send_is a2 away_a2)))
      (begins fs (send (other a2)) (other a2) (send (turn a2)) (send_is (other a2) out_a2) (on (on (leap a2 c0 is.has_a2 is.s_a2) (begins fs c0 (other b1) a3 (sym is.o_b1) (leap b1 a3 is.has_b1 is.s_b1))) (equal_joined fs a3 (send (turn a2)) (sym (ap send is.t_a2 ∙ send_is a3 away_a3)))))
      (begins fs (send (other a3)) (other a3) (send (turn a3)) (send_is (other a3) out_a3) (on (leap a3 c2 is.has_a3 is.s_a3) (equal_joined fs c2 (send (turn a3)) (sym (ap send is.t_a3 ∙ send_a0)))))
      (begins fs (send (other b0)) (other b0) (send (turn b0)) (send_is (other b0) (let P : ℕ → Type 0 = λ z. Away z in subst P (sym is.o_b0) away_a1)) (on (leap b0 b1 is.has_b0 is.s_b0) (equal_joined fs b1 (send (turn b0)) (sym (ap send is.t_b0 ∙ send_is b1 away_b1)))))
      (equal_joined fs (send (other b1)) (send (turn b1)) (ap send is.o_b1 ∙ send_c0 ∙ sym (ap send is.t_b1 ∙ send_is b2 away_b2)))
      (begins fs (send (other b2)) (other b2) (send (turn b2)) (send_is (other b2) out_b2) (on (on (leap b2 a0 is.has_b2 is.s_b2) (begins fs a0 (other c1) b3 (sym is.o_c1) (leap c1 b3 is.has_c1 is.s_c1))) (equal_joined fs b3 (send (turn b2)) (sym (ap send is.t_b2 ∙ send_is b3 away_b3)))))
      (begins fs (send (other b3)) (other b3) (send (turn b3)) (send_is (other b3) out_b3) (on (leap b3 a2 is.has_b3 is.s_b3) (equal_joined fs a2 (send (turn b3)) (sym (ap send is.t_b3 ∙ send_b0)))))
      (begins fs (send (other c0)) (other c0) (send (turn c0)) (send_is (other c0) (let P : ℕ → Type 0 = λ z. Away z in subst P (sym is.o_c0) away_b1)) (on (leap c0 c1 is.has_c0 is.s_c0) (equal_joined fs c1 (send (turn c0)) (sym (ap send is.t_c0 ∙ send_is c1 away_c1)))))
      (equal_joined fs (send (other c1)) (send (turn c1)) (ap send is.o_c1 ∙ send_a0 ∙ sym (ap send is.t_c1 ∙ send_is c2 away_c2)))
      (begins fs (send (other c2)) (other c2) (send (turn c2)) (send_is (other c2) out_c2) (on (on (leap c2 b0 is.has_c2 is.s_c2) (begins fs b0 (other a1) c3 (sym is.o_a1) (leap a1 c3 is.has_a1 is.s_a1))) (equal_joined fs c3 (send (turn c2)) (sym (ap send is.t_c2 ∙ send_is c3 away_c3)))))
      (begins fs (send (other c3)) (other c3) (send (turn c3)) (send_is (other c3) out_c3) (on (leap c3 b2 is.has_c3 is.s_c3) (equal_joined fs b2 (send (turn c3)) (sym (ap send is.t_c3 ∙ send_c0)))))
      (λ z m n_a0 n_a1 n_a2 n_a3 n_b0 n_b1 n_b2 n_b3 n_c0 n_c1 n_c2 n_c3.
      let k = is.kept z m n_a0 n_a1 n_a2 n_a3 n_b0 n_b1 n_b2 n_b3 n_c0 n_c1 n_c2 n_c3 in
      begins fs (send (other z)) (other z) (send (turn z)) (send_is (other z) (away_other z m n_c1 n_a1 n_b1)) (leap z (send (turn z)) m (k.0 ∙ sym (send_is (turn z) (k.1, k.2, k.3)))))

  -- and the other way round
  step_up : (z : ℕ) → is_member ◌==◌ names z ≡ true → Joined es (fetch (other z)) (fetch (turned z))
  step_up = by_twelve (λ z. Joined es (fetch (other z)) (fetch (turned z)))
      (begins es (fetch (other a0)) (other a0) (fetch (turned a0)) (fetch_is (other a0) (let P : ℕ → Type 0 = λ z. Away z in subst P (sym is.o_a0) away_c1)) (on (hop a0 a1 is.has_a0 is.t_a0) (equal_joined es a1 (fetch (turned a0)) (sym (ap fetch is.s_a0 ∙ fetch_is a1 away_a1)))))
      (equal_joined es (fetch (other a1)) (fetch (turned a1)) (ap fetch is.o_a1 ∙ fetch_b0 ∙ sym (ap fetch is.s_a1 ∙ fetch_is c3 away_c3)))
      (begins es (fetch (other a2)) (other a2) (fetch (turned a2)) (fetch_is (other a2) out_a2) (on (hop a2 a3 is.has_a2 is.t_a2) (equal_joined es a3 (fetch (turned a2)) (sym (ap fetch is.s_a2 ∙ fetch_c0)))))
      (begins es (fetch (other a3)) (other a3) (fetch (turned a3)) (fetch_is (other a3) out_a3) (on (on (hop a3 a0 is.has_a3 is.t_a3) (begins es a0 (other c1) c2 (sym is.o_c1) (hop c1 c2 is.has_c1 is.t_c1))) (equal_joined es c2 (fetch (turned a3)) (sym (ap fetch is.s_a3 ∙ fetch_is c2 away_c2)))))
      (begins es (fetch (other b0)) (other b0) (fetch (turned b0)) (fetch_is (other b0) (let P : ℕ → Type 0 = λ z. Away z in subst P (sym is.o_b0) away_a1)) (on (hop b0 b1 is.has_b0 is.t_b0) (equal_joined es b1 (fetch (turned b0)) (sym (ap fetch is.s_b0 ∙ fetch_is b1 away_b1)))))
      (equal_joined es (fetch (other b1)) (fetch (turned b1)) (ap fetch is.o_b1 ∙ fetch_c0 ∙ sym (ap fetch is.s_b1 ∙ fetch_is a3 away_a3)))
      (begins es (fetch (other b2)) (other b2) (fetch (turned b2)) (fetch_is (other b2) out_b2) (on (hop b2 b3 is.has_b2 is.t_b2) (equal_joined es b3 (fetch (turned b2)) (sym (ap fetch is.s_b2 ∙ fetch_a0)))))
      (begins es (fetch (other b3)) (other b3) (fetch (turned b3)) (fetch_is (other b3) out_b3) (on (on (hop b3 b0 is.has_b3 is.t_b3) (begins es b0 (other a1) a2 (sym is.o_a1) (hop a1 a2 is.has_a1 is.t_a1))) (equal_joined es a2 (fetch (turned b3)) (sym (ap fetch is.s_b3 ∙ fetch_is a2 away_a2)))))
      (begins es (fetch (other c0)) (other c0) (fetch (turned c0)) (fetch_is (other c0) (let P : ℕ → Type 0 = λ z. Away z in subst P (sym is.o_c0) away_b1)) (on (hop c0 c1 is.has_c0 is.t_c0) (equal_joined es c1 (fetch (turned c0)) (sym (ap fetch is.s_c0 ∙ fetch_is c1 away_c1)))))
      (equal_joined es (fetch (other c1)) (fetch (turned c1)) (ap fetch is.o_c1 ∙ fetch_a0 ∙ sym (ap fetch is.s_c1 ∙ fetch_is b3 away_b3)))
      (begins es (fetch (other c2)) (other c2) (fetch (turned c2)) (fetch_is (other c2) out_c2) (on (hop c2 c3 is.has_c2 is.t_c2) (equal_joined es c3 (fetch (turned c2)) (sym (ap fetch is.s_c2 ∙ fetch_b0)))))
      (begins es (fetch (other c3)) (other c3) (fetch (turned c3)) (fetch_is (other c3) out_c3) (on (on (hop c3 c0 is.has_c3 is.t_c3) (begins es c0 (other b1) b2 (sym is.o_b1) (hop b1 b2 is.has_b1 is.t_b1))) (equal_joined es b2 (fetch (turned c3)) (sym (ap fetch is.s_c3 ∙ fetch_is b2 away_b2)))))
      (λ z m n_a0 n_a1 n_a2 n_a3 n_b0 n_b1 n_b2 n_b3 n_c0 n_c1 n_c2 n_c3.
      let k = is.kept z m n_a0 n_a1 n_a2 n_a3 n_b0 n_b1 n_b2 n_b3 n_c0 n_c1 n_c2 n_c3 in
      begins es (fetch (other z)) (other z) (fetch (turned z)) (fetch_is (other z) (away_other z m n_c1 n_a1 n_b1)) (hop z (fetch (turned z)) m (sym (ap fetch k.0 ∙ fetch_is (turn z) (k.1, k.2, k.3)))))

  -- the three names, or another one
  by_three : (T : ℕ → Type 0) → T a0 → T b0 → T c0 → ((x : ℕ) → Away x → T x) → (x : ℕ) → T x
  by_three T ka kb kc rest x =
      ⊎_elim (λ t. subst T (sym (eqb-true x a0 t)) ka) (λ p.
      ⊎_elim (λ t. subst T (sym (eqb-true x b0 t)) kb) (λ q.
      ⊎_elim (λ t. subst T (sym (eqb-true x c0 t)) kc) (λ r.
      rest x ((λ e. (let k = eq-eqb x a0 e in grind (arith, k, p))), (λ e. (let k = eq-eqb x b0 e in grind (arith, k, q))), (λ e. (let k = eq-eqb x c0 e in grind (arith, k, r)))))
      (cases_Bool (x == c0)))
      (cases_Bool (x == b0)))
      (cases_Bool (x == a0))

  sent_in : (x : ℕ) → is_member ◌==◌ names x ≡ true → is_member ◌==◌ names (send x) ≡ true
  sent_in x m = let H = is_member ◌==◌ names in
      by_three (λ z. H z ≡ true → H (send z) ≡ true) (λ m. ap H send_a0 ∙ is.has_c2) (λ m. ap H send_b0 ∙ is.has_a2) (λ m. ap H send_c0 ∙ is.has_b2) (λ z w m. ap H (send_is z w) ∙ m) x m

  fetched_in : (x : ℕ) → is_member ◌==◌ names x ≡ true → is_member ◌==◌ names (fetch x) ≡ true
  fetched_in x m = let H = is_member ◌==◌ names in
      by_three (λ z. H z ≡ true → H (fetch z) ≡ true) (λ m. ap H fetch_a0 ∙ is.has_b3) (λ m. ap H fetch_b0 ∙ is.has_c3) (λ m. ap H fetch_c0 ∙ is.has_a3) (λ z w m. ap H (fetch_is z w) ∙ m) x m

  near : (x : ℕ) → Joined es x (fetch (send x))
  near = by_three (λ z. Joined es z (fetch (send z)))
      (begins es a0 (other c1) (fetch (send a0)) (sym is.o_c1) (hop c1 (fetch (send a0)) is.has_c1 (is.t_c1 ∙ sym (ap fetch send_a0 ∙ fetch_is c2 away_c2))))
      (begins es b0 (other a1) (fetch (send b0)) (sym is.o_a1) (hop a1 (fetch (send b0)) is.has_a1 (is.t_a1 ∙ sym (ap fetch send_b0 ∙ fetch_is a2 away_a2))))
      (begins es c0 (other b1) (fetch (send c0)) (sym is.o_b1) (hop b1 (fetch (send c0)) is.has_b1 (is.t_b1 ∙ sym (ap fetch send_c0 ∙ fetch_is b2 away_b2))))
      (λ z w. equal_joined es z (fetch (send z)) (sym (ap fetch (send_is z w) ∙ fetch_is z w)))

  near_again : (x : ℕ) → Joined fs x (send (fetch x))
  near_again = by_three (λ z. Joined fs z (send (fetch z)))
      (begins fs a0 (other c1) (send (fetch a0)) (sym is.o_c1) (leap c1 (send (fetch a0)) is.has_c1 (is.s_c1 ∙ sym (ap send fetch_a0 ∙ send_is b3 away_b3))))
      (begins fs b0 (other a1) (send (fetch b0)) (sym is.o_a1) (leap a1 (send (fetch b0)) is.has_a1 (is.s_a1 ∙ sym (ap send fetch_b0 ∙ send_is c3 away_c3))))
      (begins fs c0 (other b1) (send (fetch c0)) (sym is.o_b1) (leap b1 (send (fetch c0)) is.has_b1 (is.s_b1 ∙ sym (ap send fetch_c0 ∙ send_is a3 away_a3))))
      (λ z w. equal_joined fs z (send (fetch z)) (sym (ap send (fetch_is z w) ∙ send_is z w)))

  slid_faces : cycle_count names phi_after ≡ cycle_count names phi
  slid_faces =
      let to_names = is.pairing.inside in
      sym (matched_graphs names names es fs send fetch
      (steps_among phi names (λ x m. is.turn_in (other x) (to_names x m))) (steps_among phi_after names (λ x m. is.turned_in (other x) (to_names x m)))
      record {
        onto_others = sent_in;
        into_names = fetched_in;
        near = λ x m. near x;
        near_again = λ x m. near_again x;
        down = λ x y c.
            let r = step_of phi names x y c in
            begins fs (send x) (send (other (other x))) (send y) (ap send (sym (is.pairing.twice x r.0))) (on (step_down (other x) (to_names x r.0)) (equal_joined fs (send (turn (other x))) (send y) (ap send r.1)));
        up = λ x y c.
            let r = step_of phi_after names x y c in
            begins es (fetch x) (fetch (other (other x))) (fetch y) (ap fetch (sym (is.pairing.twice x r.0))) (on (step_up (other x) (to_names x r.0)) (equal_joined es (fetch (turned (other x))) (fetch y) (ap fetch r.1)));
      })

  -- ---- pieces: all twelve names lie in one
  abbrev graph : List (ℕ × ℕ)
  graph = pair_graph names turn other

  abbrev after_graph : List (ℕ × ℕ)
  after_graph = pair_graph names turned other

  -- a walk of three names of a row, back to where its first name is joined
  module _ (step : ℕ → ℕ) where
    paired_to : (x y : ℕ) → is_member ◌==◌ names x ≡ true → other x ≡ y → Joined (pair_graph names step other) y a0 → Joined (pair_graph names step other) x a0
    paired_to x y m e j = on (over names step other x m) (on (equal_joined (pair_graph names step other) (other x) y e) j)

    follows : (x y : ℕ) → is_member ◌==◌ names x ≡ true → step x ≡ y → Joined (pair_graph names step other) x a0 → Joined (pair_graph names step other) y a0
    follows x y m e j = on (back (on (round names step other x m) (equal_joined (pair_graph names step other) (step x) y e))) j

    row : (r0 r1 r2 r3 : ℕ) → is_member ◌==◌ names r0 ≡ true → is_member ◌==◌ names r1 ≡ true → is_member ◌==◌ names r2 ≡ true → step r0 ≡ r1 → step r1 ≡ r2 → step r2 ≡ r3 →
        Joined (pair_graph names step other) r0 a0 → Joined (pair_graph names step other) r1 a0 × Joined (pair_graph names step other) r2 a0 × Joined (pair_graph names step other) r3 a0
    row r0 r1 r2 r3 m0 m1 m2 e0 e1 e2 j =
        let j1 = follows r0 r1 m0 e0 j in
        let j2 = follows r1 r2 m1 e1 j1 in
        (j1, j2, follows r2 r3 m2 e2 j2)

  before_a : Joined graph a1 a0 × Joined graph a2 a0 × Joined graph a3 a0
  before_a = row turn a0 a1 a2 a3 is.has_a0 is.has_a1 is.has_a2 is.t_a0 is.t_a1 is.t_a2 stay

  before_b0 : Joined graph b0 a0
  before_b0 = paired_to turn b0 a1 is.has_b0 is.o_b0 before_a.0

  before_b : Joined graph b1 a0 × Joined graph b2 a0 × Joined graph b3 a0
  before_b = row turn b0 b1 b2 b3 is.has_b0 is.has_b1 is.has_b2 is.t_b0 is.t_b1 is.t_b2 before_b0

  before_c0 : Joined graph c0 a0
  before_c0 = paired_to turn c0 b1 is.has_c0 is.o_c0 before_b.0

  before_c : Joined graph c1 a0 × Joined graph c2 a0 × Joined graph c3 a0
  before_c = row turn c0 c1 c2 c3 is.has_c0 is.has_c1 is.has_c2 is.t_c0 is.t_c1 is.t_c2 before_c0

  after_a : Joined after_graph a1 a0 × Joined after_graph c3 a0 × Joined after_graph b2 a0
  after_a = row turned a0 a1 c3 b2 is.has_a0 is.has_a1 is.has_c3 is.s_a0 is.s_a1 is.s_c3 stay

  after_b0 : Joined after_graph b0 a0
  after_b0 = paired_to turned b0 a1 is.has_b0 is.o_b0 after_a.0

  after_b : Joined after_graph b1 a0 × Joined after_graph a3 a0 × Joined after_graph c2 a0
  after_b = row turned b0 b1 a3 c2 is.has_b0 is.has_b1 is.has_a3 is.s_b0 is.s_b1 is.s_a3 after_b0

  after_c0 : Joined after_graph c0 a0
  after_c0 = paired_to turned c0 b1 is.has_c0 is.o_c0 after_b.0

  after_c : Joined after_graph c1 a0 × Joined after_graph b3 a0 × Joined after_graph a2 a0
  after_c = row turned c0 c1 b3 a2 is.has_c0 is.has_c1 is.has_b3 is.s_c0 is.s_c1 is.s_b3 after_c0

  turn_after : (x : ℕ) → is_member ◌==◌ names x ≡ true → Joined after_graph x (turn x)
  turn_after = by_twelve (λ z. Joined after_graph z (turn z))
      (on stay (on (back after_a.0) (equal_joined after_graph a1 (turn a0) (sym is.t_a0))))
      (on after_a.0 (on (back after_c.2) (equal_joined after_graph a2 (turn a1) (sym is.t_a1))))
      (on after_c.2 (on (back after_b.1) (equal_joined after_graph a3 (turn a2) (sym is.t_a2))))
      (on after_b.1 (on (back stay) (equal_joined after_graph a0 (turn a3) (sym is.t_a3))))
      (on after_b0 (on (back after_b.0) (equal_joined after_graph b1 (turn b0) (sym is.t_b0))))
      (on after_b.0 (on (back after_a.2) (equal_joined after_graph b2 (turn b1) (sym is.t_b1))))
      (on after_a.2 (on (back after_c.1) (equal_joined after_graph b3 (turn b2) (sym is.t_b2))))
      (on after_c.1 (on (back after_b0) (equal_joined after_graph b0 (turn b3) (sym is.t_b3))))
      (on after_c0 (on (back after_c.0) (equal_joined after_graph c1 (turn c0) (sym is.t_c0))))
      (on after_c.0 (on (back after_b.2) (equal_joined after_graph c2 (turn c1) (sym is.t_c1))))
      (on after_b.2 (on (back after_a.1) (equal_joined after_graph c3 (turn c2) (sym is.t_c2))))
      (on after_a.1 (on (back after_c0) (equal_joined after_graph c0 (turn c3) (sym is.t_c3))))
      (λ z m n_a0 n_a1 n_a2 n_a3 n_b0 n_b1 n_b2 n_b3 n_c0 n_c1 n_c2 n_c3. (let k = is.kept z m n_a0 n_a1 n_a2 n_a3 n_b0 n_b1 n_b2 n_b3 n_c0 n_c1 n_c2 n_c3 in on (round names turned other z m) (equal_joined after_graph (turned z) (turn z) k.0)))

  turned_before : (x : ℕ) → is_member ◌==◌ names x ≡ true → Joined graph x (turned x)
  turned_before = by_twelve (λ z. Joined graph z (turned z))
      (on stay (on (back before_a.0) (equal_joined graph a1 (turned a0) (sym is.s_a0))))
      (on before_a.0 (on (back before_c.2) (equal_joined graph c3 (turned a1) (sym is.s_a1))))
      (on before_a.1 (on (back before_c0) (equal_joined graph c0 (turned a2) (sym is.s_a2))))
      (on before_a.2 (on (back before_c.1) (equal_joined graph c2 (turned a3) (sym is.s_a3))))
      (on before_b0 (on (back before_b.0) (equal_joined graph b1 (turned b0) (sym is.s_b0))))
      (on before_b.0 (on (back before_a.2) (equal_joined graph a3 (turned b1) (sym is.s_b1))))
      (on before_b.1 (on (back stay) (equal_joined graph a0 (turned b2) (sym is.s_b2))))
      (on before_b.2 (on (back before_a.1) (equal_joined graph a2 (turned b3) (sym is.s_b3))))
      (on before_c0 (on (back before_c.0) (equal_joined graph c1 (turned c0) (sym is.s_c0))))
      (on before_c.0 (on (back before_b.2) (equal_joined graph b3 (turned c1) (sym is.s_c1))))
      (on before_c.1 (on (back before_b0) (equal_joined graph b0 (turned c2) (sym is.s_c2))))
      (on before_c.2 (on (back before_b.1) (equal_joined graph b2 (turned c3) (sym is.s_c3))))
      (λ z m n_a0 n_a1 n_a2 n_a3 n_b0 n_b1 n_b2 n_b3 n_c0 n_c1 n_c2 n_c3. (let k = is.kept z m n_a0 n_a1 n_a2 n_a3 n_b0 n_b1 n_b2 n_b3 n_c0 n_c1 n_c2 n_c3 in on (round names turn other z m) (equal_joined graph (turn z) (turned z) (sym k.0))))

  slid_pieces : part_count names after_graph ≡ part_count names graph
  slid_pieces =
      same_parts names after_graph graph (pair_among names turned other is.pairing.inside is.turned_in) (pair_among names turn other is.pairing.inside is.turn_in)
      (λ x y j. walks after_graph graph (piece_walks names turned other graph (λ z. z) (over names turn other) turned_before) j)
      (λ x y j. walks graph after_graph (piece_walks names turn other after_graph (λ z. z) (over names turned other) turn_after) j)

pub slide_counts : SlideCountsLaw
slide_counts names turn turned other a0 a1 a2 a3 b0 b1 b2 b3 c0 c1 c2 c3 is = (slid_faces names turn turned other a0 a1 a2 a3 b0 b1 b2 b3 c0 c1 c2 c3 is, slid_pieces names turn turned other a0 a1 a2 a3 b0 b1 b2 b3 c0 c1 c2 c3 is)
