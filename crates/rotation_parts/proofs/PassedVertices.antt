-- A vertex of two names is taken away: a circle, or a point of an edge.
use Rattle.std.proofs.Common.{◌≡◌, ◌≢◌, ◌↔◌, ℕ, ◌+◌, ◌==◌, true, false, cond, List, ◌∷◌, ◌++◌, refl, sym, ap, ◌∙◌, subst, arith, ⊎_elim}
use Rattle.std.specs.Set.{is_member}
use Rattle.std.proofs.lemmas.Bool.{eq-eqb, eqb-true, cases_Bool, or_cases, or_left, or_right}
use Rattle.std.proofs.lemmas.Bool.Decides.{nat_tests}
use Rattle.graph_parts.specs.Ends.{AreAmong}
use Rattle.graph_parts.specs.Parts.{part_count}
use Rattle.graph_parts.specs.Walks.{Joined, on}
use Rattle.graph_parts.proofs.Ends.{EndsAre-weaker}
use Rattle.rotation_parts.specs.Laws.{PassedVertexLaw}
use Rattle.rotation_parts.specs.Drawings.{IsSubdivision, IsVertexOfTwo, passed}
use Rattle.rotation_parts.specs.Rotations.{steps, cycle_count, pair_graph, IsPairingOf, IsFlatWith}
use Rattle.rotation_parts.proofs.Curls.{one_alone}
use Rattle.rotation_parts.proofs.PieceGraphs.{pair_among, over, round, piece_walks}
use Rattle.rotation_parts.proofs.Retracts.{retract}
use Rattle.rotation_parts.proofs.Steps.{same_steps, same_parts, equal_joined, step_along, step_walks, steps_among}
use Rattle.rotation_parts.proofs.Subdivisions.{subdivision_counts}

module _ (names : List ℕ) (turn other : ℕ → ℕ) (u v : ℕ) (is : IsVertexOfTwo names turn other u v) where
  abbrev more : List ℕ
  more = u ∷ v ∷ names

  abbrev after : ℕ → ℕ
  after = passed u v other

  abbrev M : ℕ → Type 0
  M x = is_member ◌==◌ names x ≡ true

  old_more : (x : ℕ) → is_member ◌==◌ names x ≡ true → is_member ◌==◌ more x ≡ true
  old_more x m = or_right (x == u) (is_member ◌==◌ (v ∷ names) x) (or_right (x == v) (is_member ◌==◌ names x) m)

  has_u : is_member ◌==◌ more u ≡ true
  has_u = or_left (u == u) (is_member ◌==◌ (v ∷ names) u) (eq-eqb u u refl)

  has_v : is_member ◌==◌ more v ≡ true
  has_v = or_right (v == u) (is_member ◌==◌ (v ∷ names) v) (or_left (v == v) (is_member ◌==◌ names v) (eq-eqb v v refl))

  by_kind : (T : ℕ → Type 0) → T u → T v → ((x : ℕ) → is_member ◌==◌ names x ≡ true → T x) → (x : ℕ) → is_member ◌==◌ more x ≡ true → T x
  by_kind T ku kv old x m =
      ⊎_elim (λ t. subst T (sym (eqb-true x u t)) ku) (λ m1.
      ⊎_elim (λ t. subst T (sym (eqb-true x v t)) kv) (λ m2. old x m2)
      (or_cases (x == v) (is_member ◌==◌ names x) m1))
      (or_cases (x == u) (is_member ◌==◌ (v ∷ names) x) m)

  not_u : (x : ℕ) → is_member ◌==◌ names x ≡ true → x ≢ u
  not_u x m e = let a = ap (is_member ◌==◌ names) e in let b = is.new_u in grind (arith, a, b, m)

  not_v : (x : ℕ) → is_member ◌==◌ names x ≡ true → x ≢ v
  not_v x m e = let a = ap (is_member ◌==◌ names) e in let b = is.new_v in grind (arith, a, b, m)

  -- a name that is neither u nor v
  among_old : (x : ℕ) → is_member ◌==◌ more x ≡ true → x ≢ u → x ≢ v → is_member ◌==◌ names x ≡ true
  among_old x m a b =
      ⊎_elim (λ t. absurd (a (eqb-true x u t))) (λ m1. ⊎_elim (λ t. absurd (b (eqb-true x v t))) (λ m2. m2) (or_cases (x == v) (is_member ◌==◌ names x) m1)) (or_cases (x == u) (is_member ◌==◌ (v ∷ names) x) m)

  twice : (x : ℕ) → is_member ◌==◌ more x ≡ true → other (other x) ≡ x
  twice = is.pairing.twice

  is_after_u : (x : ℕ) → other x ≡ u → after x ≡ other v
  is_after_u x e = let t = eq-eqb (other x) u e in ap (λ b. cond b (other v) (cond (other x == v) (other u) (other x))) t

  is_after_v : (x : ℕ) → other x ≡ v → after x ≡ other u
  is_after_v x e = let d = is.distinct in let t = eq-eqb (other x) v e in let n : (other x == u) ≡ false = grind (arith, nat_tests, d, e) in grind (arith, t, n)

  is_after : (x : ℕ) → other x ≢ u → other x ≢ v → after x ≡ other x
  is_after x a b = grind (arith, nat_tests, a, b)

  -- names are u's other one, v's, or keep theirs
  by_after : (T : ℕ → Type 0) → (x : ℕ) → is_member ◌==◌ names x ≡ true → ((x ≡ other u) → (other x ≡ u) → T x) → ((x ≡ other v) → (other x ≡ v) → T x) → ((other x ≢ u) → (other x ≢ v) → (is_member ◌==◌ names (other x) ≡ true) → T x) → T x
  by_after T x m ku kv rest =
      let tw = twice x (old_more x m) in
      ⊎_elim (λ t. let e = eqb-true (other x) u t in ku (sym tw ∙ ap other e) e)
      (λ n. ⊎_elim (λ t. let e = eqb-true (other x) v t in kv (sym tw ∙ ap other e) e)
      (λ o.
      let a : other x ≢ u = λ e. (let k = eq-eqb (other x) u e in grind (arith, k, n)) in
      let b : other x ≢ v = λ e. (let k = eq-eqb (other x) v e in grind (arith, k, o)) in
      rest a b (among_old (other x) (is.pairing.inside x (old_more x m)) a b))
      (cases_Bool (other x == v)))
      (cases_Bool (other x == u))

  -- ---- a circle
  module _ (circle : other u ≡ v) where
    v_to_u : other v ≡ u
    v_to_u = ap other (sym circle) ∙ twice u has_u

    stays : (x : ℕ) → is_member ◌==◌ names x ≡ true → (after x ≡ other x) × (is_member ◌==◌ names (other x) ≡ true)
    stays x m = by_after (λ z. (after z ≡ other z) × (is_member ◌==◌ names (other z) ≡ true)) x m
        (λ e o. absurd (not_v x m (e ∙ circle)))
        (λ e o. absurd (not_u x m (e ∙ v_to_u)))
        (λ a b k. (is_after x a b, k))

    abbrev phi : ℕ → ℕ
    phi x = turn (other x)

    phi_in : (x : ℕ) → is_member ◌==◌ names x ≡ true → is_member ◌==◌ names (phi x) ≡ true
    phi_in x m = is.turn_in (other x) (stays x m).1

    phi_u : phi u ≡ u
    phi_u = ap turn circle ∙ is.tv

    phi_v : phi v ≡ v
    phi_v = ap turn v_to_u ∙ is.tu

    u_out : is_member ◌==◌ (v ∷ names) u ≡ false
    u_out = let a = is.new_u in let d = is.distinct in grind (arith, nat_tests, a, d)

    circle_faces : cycle_count more phi ≡ cycle_count names (λ x. turn (after x)) + 2
    circle_faces =
        let fs = steps phi names in
        let es = steps phi more in
        let low : AreAmong names fs = steps_among phi names phi_in in
        let wider : AreAmong (v ∷ names) fs = EndsAre-weaker (is_member ◌==◌ names) (is_member ◌==◌ (v ∷ names)) (λ x m. or_right (x == v) (is_member ◌==◌ names x) m) fs low in
        let widest : AreAmong more fs = EndsAre-weaker (is_member ◌==◌ names) (is_member ◌==◌ more) old_more fs low in
        let all : AreAmong more es = steps_among phi more (λ x m. by_kind (λ z. is_member ◌==◌ more (phi z) ≡ true) (ap (is_member ◌==◌ more) phi_u ∙ has_u) (ap (is_member ◌==◌ more) phi_v ∙ has_v) (λ z k. old_more (phi z) (phi_in z k)) x m) in
        let a = same_parts more es fs all widest
        (λ x y j. step_walks phi more fs (λ z m. by_kind (λ w. Joined fs w (phi w)) (equal_joined fs u (phi u) (sym phi_u)) (equal_joined fs v (phi v) (sym phi_v)) (λ w k. step_along phi names w k) z m) j)
        (λ x y j. step_walks phi names es (λ z m. step_along phi more z (old_more z m)) j) in
        let b = one_alone u (v ∷ names) fs u_out wider in
        let c = one_alone v names fs is.new_v low in
        let d = ap (part_count names) (same_steps (λ x. turn (after x)) phi names (λ x m. ap turn (stays x m).0)) in
        omega (arith, a, b, c, d)

    circle_pieces : part_count more (pair_graph more turn other) ≡ part_count names (pair_graph names turn after) + 1
    circle_pieces =
        let es = pair_graph more turn other in
        let fs = pair_graph names turn other in
        let one = u ∷ names in
        let f : ℕ → ℕ = λ x. cond (x == v) u x in
        let f_u : f u ≡ u = (let d = is.distinct in grind (arith, nat_tests, d)) in
        let f_v : f v ≡ u = (let t = eq-eqb v v refl in grind (arith, t)) in
        let f_old : (x : ℕ) → is_member ◌==◌ names x ≡ true → f x ≡ x = λ x m. (let n = not_v x m in grind (arith, nat_tests, n)) in
        let low : AreAmong names fs = pair_among names turn other (λ x m. (stays x m).1) is.turn_in in
        let a = retract more one es fs f (λ x. x)
        (pair_among more turn other is.pairing.inside (λ x m. by_kind (λ z. is_member ◌==◌ more (turn z) ≡ true) (ap (is_member ◌==◌ more) is.tu ∙ has_v) (ap (is_member ◌==◌ more) is.tv ∙ has_u) (λ z k. old_more (turn z) (is.turn_in z k)) x m))
        (EndsAre-weaker (is_member ◌==◌ names) (is_member ◌==◌ one) (λ x m. or_right (x == u) (is_member ◌==◌ names x) m) fs low)
        record {
          onto_others = λ x m. (let has : is_member ◌==◌ one u ≡ true = or_left (u == u) (is_member ◌==◌ names u) (eq-eqb u u refl) in
              by_kind (λ z. is_member ◌==◌ one (f z) ≡ true) (ap (is_member ◌==◌ one) f_u ∙ has) (ap (is_member ◌==◌ one) f_v ∙ has) (λ z k. ap (is_member ◌==◌ one) (f_old z k) ∙ or_right (z == u) (is_member ◌==◌ names z) k) x m);
          into_names = λ x m. ⊎_elim (λ t. or_left (x == u) (is_member ◌==◌ (v ∷ names) x) t) (λ k. old_more x k) (or_cases (x == u) (is_member ◌==◌ names x) m);
          one_of = λ x m. ⊎_elim (λ t. let e = eqb-true x u t in ap f e ∙ f_u ∙ sym e) (λ k. f_old x k) (or_cases (x == u) (is_member ◌==◌ names x) m);
          near = λ x m. by_kind (λ z. Joined es z (f z)) (equal_joined es u (f u) (sym f_u)) (on (round more turn other v has_v) (equal_joined es (turn v) (f v) (is.tv ∙ sym f_v))) (λ z k. equal_joined es z (f z) (sym (f_old z k))) x m;
          down = piece_walks more turn other fs f
              (λ x m. by_kind (λ z. Joined fs (f z) (f (other z))) (equal_joined fs (f u) (f (other u)) (f_u ∙ sym (ap f circle ∙ f_v))) (equal_joined fs (f v) (f (other v)) (f_v ∙ sym (ap f v_to_u ∙ f_u)))
              (λ z k. on (equal_joined fs (f z) z (f_old z k)) (on (over names turn other z k) (equal_joined fs (other z) (f (other z)) (sym (f_old (other z) (stays z k).1))))) x m)
              (λ x m. by_kind (λ z. Joined fs (f z) (f (turn z))) (equal_joined fs (f u) (f (turn u)) (f_u ∙ sym (ap f is.tu ∙ f_v))) (equal_joined fs (f v) (f (turn v)) (f_v ∙ sym (ap f is.tv ∙ f_u)))
              (λ z k. on (equal_joined fs (f z) z (f_old z k)) (on (round names turn other z k) (equal_joined fs (turn z) (f (turn z)) (sym (f_old (turn z) (is.turn_in z k)))))) x m);
          up = piece_walks names turn other es (λ x. x) (λ x m. over more turn other x (old_more x m)) (λ x m. round more turn other x (old_more x m));
        } in
        let b = one_alone u names fs is.new_u low in
        let c = ap (λ ss. part_count names (ss ++ steps turn names)) (same_steps after other names (λ x m. (stays x m).0)) in
        omega (arith, a, b, c)

  -- ---- a point of an edge
  module _ (bridge : other u ≢ v) where
    u_far : other u ≢ u
    u_far = is.pairing.apart u has_u

    v_far : other v ≢ v
    v_far = is.pairing.apart v has_v

    v_not_u : other v ≢ u
    v_not_u e = bridge (ap other (sym e) ∙ twice v has_v)

    has_p : is_member ◌==◌ names (other u) ≡ true
    has_p = among_old (other u) (is.pairing.inside u has_u) u_far bridge

    has_q : is_member ◌==◌ names (other v) ≡ true
    has_q = among_old (other v) (is.pairing.inside v has_v) v_not_u v_far

    is_subdivision : IsSubdivision names turn after other (other u) (other v) u v
    is_subdivision = record {
      has_p = has_p;
      has_q = has_q;
      pq = is_after_u (other u) (twice u has_u);
      qp = is_after_v (other v) (twice v has_v);
      turn_in = is.turn_in;
      other_in = λ x m. by_after (λ z. is_member ◌==◌ names (after z) ≡ true) x m
          (λ e o. ap (is_member ◌==◌ names) (is_after_u x o) ∙ has_q) (λ e o. ap (is_member ◌==◌ names) (is_after_v x o) ∙ has_p) (λ a b k. ap (is_member ◌==◌ names) (is_after x a b) ∙ k);
      new_u = is.new_u;
      new_v = is.new_v;
      distinct = is.distinct;
      tu = is.tu;
      tv = is.tv;
      dp = twice u has_u;
      du = refl;
      dq = twice v has_v;
      dv = refl;
      kept = λ x m np nq. by_after (λ z. other z ≡ after z) x m (λ e o. absurd (np e)) (λ e o. absurd (nq e)) (λ a b k. sym (is_after x a b));
    }

  -- the names that are left are paired
  pub passed_pairing : IsPairingOf names after
  passed_pairing =
      let circle_or : (other u ≡ v → IsPairingOf names after) → (other u ≢ v → IsPairingOf names after) → IsPairingOf names after =
      λ h k. ⊎_elim (λ t. h (eqb-true (other u) v t)) (λ f. k (λ e. (let t = eq-eqb (other u) v e in grind (arith, t, f)))) (cases_Bool (other u == v)) in
      circle_or
      (λ c. record {
        inside = λ x m. ap (is_member ◌==◌ names) (stays c x m).0 ∙ (stays c x m).1;
        apart = λ x m e. is.pairing.apart x (old_more x m) (sym (stays c x m).0 ∙ e);
        twice = λ x m. ap after (stays c x m).0 ∙ ((stays c (other x) (stays c x m).1).0 ∙ twice x (old_more x m));
      })
      (λ br.
      let sub = is_subdivision br in
      let T : ℕ → Type 0 = λ z. (after z ≢ z) × (after (after z) ≡ z) in
      let both : (x : ℕ) → is_member ◌==◌ names x ≡ true → T x = λ x m. by_after T x m
      (λ e o.
      let first : after x ≡ other v = is_after_u x o in
      ((λ s. (let w : other v ≡ other u = sym first ∙ (s ∙ e) in is.distinct (sym (sym (twice v has_v) ∙ (ap other w ∙ twice u has_u))))), ap after first ∙ (sub.qp ∙ sym e)))
      (λ e o.
      let first : after x ≡ other u = is_after_v x o in
      ((λ s. (let w : other u ≡ other v = sym first ∙ (s ∙ e) in is.distinct (sym (twice u has_u) ∙ (ap other w ∙ twice v has_v)))), ap after first ∙ (sub.pq ∙ sym e)))
      (λ a b k.
      let first : after x ≡ other x = is_after x a b in
      let tw = twice x (old_more x m) in
      let nu : other (other x) ≢ u = λ s. not_u x m (sym tw ∙ s) in
      let nv : other (other x) ≢ v = λ s. not_v x m (sym tw ∙ s) in
      ((λ s. is.pairing.apart x (old_more x m) (sym first ∙ s)), ap after first ∙ (is_after (other x) nu nv ∙ tw))) in
      record {
        inside = sub.other_in;
        apart = λ x m. (both x m).0;
        twice = λ x m. (both x m).1;
      })

  passed_flat : (m : ℕ) → IsFlatWith m more turn other ↔ IsFlatWith m names turn after
  passed_flat m =
      ⊎_elim
      (λ t.
      let c = eqb-true (other u) v t in
      let f = circle_faces c in
      let k = circle_pieces c in
      ((λ h. omega (arith, h, f, k)), (λ h. omega (arith, h, f, k))))
      (λ n.
      let r = subdivision_counts names turn after other (other u) (other v) u v (is_subdivision (λ e. (let t = eq-eqb (other u) v e in grind (arith, t, n)))) in
      let f = r.0 in
      let k = r.1 in
      ((λ h. omega (arith, h, f, k)), (λ h. omega (arith, h, f, k))))
      (cases_Bool (other u == v))

pub passed_vertex : PassedVertexLaw
passed_vertex m names turn other u v is = passed_flat names turn other u v is m
