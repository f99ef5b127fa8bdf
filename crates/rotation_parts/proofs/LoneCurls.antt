-- A curl that is a piece of its own.
use Rattle.std.proofs.Common.{◌≡◌, ◌≢◌, ℕ, ◌+◌, ◌==◌, true, false, cond, List, ◌∷◌, refl, sym, ap, ◌∙◌, subst, arith, ⊎_elim}
use Rattle.std.specs.Set.{is_member}
use Rattle.std.proofs.lemmas.Bool.{eq-eqb, eqb-true, or_cases, or_left, or_right}
use Rattle.std.proofs.lemmas.Bool.Decides.{nat_tests}
use Rattle.graph_parts.specs.Ends.{AreAmong}
use Rattle.graph_parts.specs.Parts.{part_count}
use Rattle.graph_parts.specs.Walks.{Joined, on}
use Rattle.graph_parts.proofs.Ends.{EndsAre-weaker}
use Rattle.rotation_parts.specs.Laws.{LoneCurlLaw}
use Rattle.rotation_parts.specs.Drawings.{IsLoneCurl}
use Rattle.rotation_parts.specs.Rotations.{steps, cycle_count, pair_graph}
use Rattle.rotation_parts.proofs.Curls.{one_alone}
use Rattle.rotation_parts.proofs.PieceGraphs.{pair_among, over, round, piece_walks}
use Rattle.rotation_parts.proofs.Retracts.{retract}
use Rattle.rotation_parts.proofs.Steps.{step_of, equal_joined, step_along, steps_among}

module _ (names : List ℕ) (turn other : ℕ → ℕ) (a b c d : ℕ) (is : IsLoneCurl names turn other a b c d) where
  abbrev M : ℕ → Type 0
  M x = is_member ◌==◌ names x ≡ true

  abbrev more : List ℕ
  more = a ∷ b ∷ c ∷ d ∷ names

  by_kind : (T : ℕ → Type 0) → T a → T b → T c → T d → ((x : ℕ) → is_member ◌==◌ names x ≡ true → T x) → (x : ℕ) → is_member ◌==◌ more x ≡ true → T x
  by_kind T ka kb kc kd old x m =
      ⊎_elim (λ t. subst T (sym (eqb-true x a t)) ka) (λ m1.
      ⊎_elim (λ t. subst T (sym (eqb-true x b t)) kb) (λ m2.
      ⊎_elim (λ t. subst T (sym (eqb-true x c t)) kc) (λ m3.
      ⊎_elim (λ t. subst T (sym (eqb-true x d t)) kd) (λ m4. old x m4)
      (or_cases (x == d) (is_member ◌==◌ names x) m3))
      (or_cases (x == c) (is_member ◌==◌ (d ∷ names) x) m2))
      (or_cases (x == b) (is_member ◌==◌ (c ∷ d ∷ names) x) m1))
      (or_cases (x == a) (is_member ◌==◌ (b ∷ c ∷ d ∷ names) x) m)

  later : (z x : ℕ) (rest : List ℕ) → is_member ◌==◌ rest x ≡ true → is_member ◌==◌ (z ∷ rest) x ≡ true
  later z x rest m = or_right (x == z) (is_member ◌==◌ rest x) m

  here : (z : ℕ) (rest : List ℕ) → is_member ◌==◌ (z ∷ rest) z ≡ true
  here z rest = or_left (z == z) (is_member ◌==◌ rest z) (eq-eqb z z refl)

  old_more : (x : ℕ) → is_member ◌==◌ names x ≡ true → is_member ◌==◌ more x ≡ true
  old_more x m = later a x (b ∷ c ∷ d ∷ names) (later b x (c ∷ d ∷ names) (later c x (d ∷ names) (later d x names m)))

  has_a : is_member ◌==◌ more a ≡ true
  has_a = here a (b ∷ c ∷ d ∷ names)

  has_b : is_member ◌==◌ more b ≡ true
  has_b = later a b (b ∷ c ∷ d ∷ names) (here b (c ∷ d ∷ names))

  has_c : is_member ◌==◌ more c ≡ true
  has_c = later a c (b ∷ c ∷ d ∷ names) (later b c (c ∷ d ∷ names) (here c (d ∷ names)))

  has_d : is_member ◌==◌ more d ≡ true
  has_d = later a d (b ∷ c ∷ d ∷ names) (later b d (c ∷ d ∷ names) (later c d (d ∷ names) (here d names)))

  -- what is in a list is not what is out of it
  differs : (z x : ℕ) (rest : List ℕ) → is_member ◌==◌ rest z ≡ false → is_member ◌==◌ rest x ≡ true → x ≢ z
  differs z x rest out m e = let s = ap (is_member ◌==◌ rest) e in grind (arith, s, out, m)

  a_b : b ≢ a
  a_b = differs a b (b ∷ c ∷ d ∷ names) is.new_a (here b (c ∷ d ∷ names))

  a_c : c ≢ a
  a_c = differs a c (b ∷ c ∷ d ∷ names) is.new_a (later b c (c ∷ d ∷ names) (here c (d ∷ names)))

  a_d : d ≢ a
  a_d = differs a d (b ∷ c ∷ d ∷ names) is.new_a (later b d (c ∷ d ∷ names) (later c d (d ∷ names) (here d names)))

  b_c : c ≢ b
  b_c = differs b c (c ∷ d ∷ names) is.new_b (here c (d ∷ names))

  c_d : d ≢ c
  c_d = differs c d (d ∷ names) is.new_c (here d names)

  not_a : (x : ℕ) → is_member ◌==◌ names x ≡ true → x ≢ a
  not_a x m = differs a x (b ∷ c ∷ d ∷ names) is.new_a (later b x (c ∷ d ∷ names) (later c x (d ∷ names) (later d x names m)))

  not_b : (x : ℕ) → is_member ◌==◌ names x ≡ true → x ≢ b
  not_b x m = differs b x (c ∷ d ∷ names) is.new_b (later c x (d ∷ names) (later d x names m))

  not_c : (x : ℕ) → is_member ◌==◌ names x ≡ true → x ≢ c
  not_c x m = differs c x (d ∷ names) is.new_c (later d x names m)

  not_d : (x : ℕ) → is_member ◌==◌ names x ≡ true → x ≢ d
  not_d x m = differs d x names is.new_d m

  -- ---- faces: a and c, b alone, d alone
  abbrev phi : ℕ → ℕ
  phi x = turn (other x)

  phi_a : phi a ≡ c
  phi_a = ap turn is.ab ∙ is.tb

  phi_b : phi b ≡ b
  phi_b = ap turn is.ba ∙ is.ta

  phi_c : phi c ≡ a
  phi_c = ap turn is.cd ∙ is.td

  phi_d : phi d ≡ d
  phi_d = ap turn is.dc ∙ is.tc

  phi_in : (x : ℕ) → is_member ◌==◌ names x ≡ true → is_member ◌==◌ names (phi x) ≡ true
  phi_in x m = is.turn_in (other x) (is.other_in x m)

  abbrev three : List ℕ
  three = a ∷ b ∷ d ∷ names

  abbrev send : ℕ → ℕ
  send x = cond (x == c) a x

  send_c : send c ≡ a
  send_c = let t = eq-eqb c c refl in grind (arith, t)

  send_is : (x : ℕ) → x ≢ c → send x ≡ x
  send_is x n = grind (arith, nat_tests, n)

  three_has : (x : ℕ) → is_member ◌==◌ names x ≡ true → is_member ◌==◌ three x ≡ true
  three_has x m = later a x (b ∷ d ∷ names) (later b x (d ∷ names) (later d x names m))

  lone_faces : cycle_count more phi ≡ cycle_count names phi + 3
  lone_faces =
      let es = steps phi more in
      let fs = steps phi names in
      let H = is_member ◌==◌ three in
      let low : AreAmong names fs = steps_among phi names phi_in in
      let wide_d : AreAmong (d ∷ names) fs = EndsAre-weaker (is_member ◌==◌ names) (is_member ◌==◌ (d ∷ names)) (λ x m. later d x names m) fs low in
      let wide_b : AreAmong (b ∷ d ∷ names) fs = EndsAre-weaker (is_member ◌==◌ names) (is_member ◌==◌ (b ∷ d ∷ names)) (λ x m. later b x (d ∷ names) (later d x names m)) fs low in
      let wide : AreAmong three fs = EndsAre-weaker (is_member ◌==◌ names) H three_has fs low in
      let all : AreAmong more es = steps_among phi more (λ x m. (let K = is_member ◌==◌ more in by_kind (λ z. K (phi z) ≡ true) (ap K phi_a ∙ has_c) (ap K phi_b ∙ has_b) (ap K phi_c ∙ has_a) (ap K phi_d ∙ has_d) (λ z k. old_more (phi z) (phi_in z k)) x m)) in
      let r = retract more three es fs send (λ x. x) all wide
      record {
        onto_others = λ x m. by_kind (λ z. H (send z) ≡ true) (ap H (send_is a (λ e. a_c (sym e))) ∙ here a (b ∷ d ∷ names)) (ap H (send_is b (λ e. b_c (sym e))) ∙ later a b (b ∷ d ∷ names) (here b (d ∷ names)))
            (ap H send_c ∙ here a (b ∷ d ∷ names)) (ap H (send_is d c_d) ∙ later a d (b ∷ d ∷ names) (later b d (d ∷ names) (here d names))) (λ z k. ap H (send_is z (not_c z k)) ∙ three_has z k) x m;
        into_names = λ x m. ⊎_elim (λ t. ap (is_member ◌==◌ more) (eqb-true x a t) ∙ has_a) (λ m1.
            ⊎_elim (λ t. ap (is_member ◌==◌ more) (eqb-true x b t) ∙ has_b) (λ m2.
            ⊎_elim (λ t. ap (is_member ◌==◌ more) (eqb-true x d t) ∙ has_d) (λ m3. old_more x m3) (or_cases (x == d) (is_member ◌==◌ names x) m2)) (or_cases (x == b) (is_member ◌==◌ (d ∷ names) x) m1)) (or_cases (x == a) (is_member ◌==◌ (b ∷ d ∷ names) x) m);
        one_of = λ x m. send_is x (⊎_elim (λ t. (λ e. a_c (sym e ∙ eqb-true x a t))) (λ m1.
            ⊎_elim (λ t. (λ e. b_c (sym e ∙ eqb-true x b t))) (λ m2.
            ⊎_elim (λ t. (λ e. c_d (sym (eqb-true x d t) ∙ e))) (λ m3. not_c x m3) (or_cases (x == d) (is_member ◌==◌ names x) m2)) (or_cases (x == b) (is_member ◌==◌ (d ∷ names) x) m1)) (or_cases (x == a) (is_member ◌==◌ (b ∷ d ∷ names) x) m));
        near = λ x m. by_kind (λ z. Joined es z (send z)) (equal_joined es a (send a) (sym (send_is a (λ e. a_c (sym e))))) (equal_joined es b (send b) (sym (send_is b (λ e. b_c (sym e)))))
            (on (step_along phi more c has_c) (equal_joined es (phi c) (send c) (phi_c ∙ sym send_c))) (equal_joined es d (send d) (sym (send_is d c_d))) (λ z k. equal_joined es z (send z) (sym (send_is z (not_c z k)))) x m;
        down = λ x y e. (let s = step_of phi more x y e in
            on (by_kind (λ z. Joined fs (send z) (send (phi z)))
            (equal_joined fs (send a) (send (phi a)) (send_is a (λ w. a_c (sym w)) ∙ sym (ap send phi_a ∙ send_c)))
            (equal_joined fs (send b) (send (phi b)) (ap send (sym phi_b)))
            (equal_joined fs (send c) (send (phi c)) (send_c ∙ sym (ap send phi_c ∙ send_is a (λ w. a_c (sym w)))))
            (equal_joined fs (send d) (send (phi d)) (ap send (sym phi_d)))
            (λ z k. on (equal_joined fs (send z) z (send_is z (not_c z k))) (on (step_along phi names z k) (equal_joined fs (phi z) (send (phi z)) (sym (send_is (phi z) (not_c (phi z) (phi_in z k))))))) x s.0)
            (equal_joined fs (send (phi x)) (send y) (ap send s.1)));
        up = λ x y e. (let s = step_of phi names x y e in on (step_along phi more x (old_more x s.0)) (equal_joined es (phi x) y s.1));
      } in
      let out_b : is_member ◌==◌ (d ∷ names) b ≡ false = (let o = is.new_b in grind (arith, o)) in
      let out_a : is_member ◌==◌ (b ∷ d ∷ names) a ≡ false = (let o = is.new_a in grind (arith, o)) in
      let one = one_alone a (b ∷ d ∷ names) fs out_a wide_b in
      let two = one_alone b (d ∷ names) fs out_b wide_d in
      let third = one_alone d names fs is.new_d low in
      omega (arith, r, one, two, third)

  -- ---- pieces: the four names are one
  abbrev gather : ℕ → ℕ
  gather x = cond (is_member ◌==◌ names x) x a

  gather_old : (x : ℕ) → is_member ◌==◌ names x ≡ true → gather x ≡ x
  gather_old x m = ap (λ z. cond z x a) m

  gather_new : (x : ℕ) → is_member ◌==◌ names x ≡ false → gather x ≡ a
  gather_new x m = ap (λ z. cond z x a) m

  out_of : (x z : ℕ) → is_member ◌==◌ (z ∷ names) x ≡ false → is_member ◌==◌ names x ≡ false
  out_of x z m = grind (arith, m)

  ga : gather a ≡ a
  ga = gather_new a (let o = is.new_a in grind (arith, o))

  gb : gather b ≡ a
  gb = gather_new b (let o = is.new_b in grind (arith, o))

  gc : gather c ≡ a
  gc = gather_new c (let o = is.new_c in grind (arith, o))

  gd : gather d ≡ a
  gd = gather_new d is.new_d

  lone_pieces : part_count more (pair_graph more turn other) ≡ part_count names (pair_graph names turn other) + 1
  lone_pieces =
      let es = pair_graph more turn other in
      let fs = pair_graph names turn other in
      let one = a ∷ names in
      let H = is_member ◌==◌ one in
      let K = is_member ◌==◌ more in
      let low : AreAmong names fs = pair_among names turn other is.other_in is.turn_in in
      let same : (x y : ℕ) → gather x ≡ a → gather y ≡ a → Joined fs (gather x) (gather y) = λ x y e f. equal_joined fs (gather x) (gather y) (e ∙ sym f) in
      let r = retract more one es fs gather (λ x. x)
      (pair_among more turn other
      (λ x m. by_kind (λ z. K (other z) ≡ true) (ap K is.ab ∙ has_b) (ap K is.ba ∙ has_a) (ap K is.cd ∙ has_d) (ap K is.dc ∙ has_c) (λ z k. old_more (other z) (is.other_in z k)) x m)
      (λ x m. by_kind (λ z. K (turn z) ≡ true) (ap K is.ta ∙ has_b) (ap K is.tb ∙ has_c) (ap K is.tc ∙ has_d) (ap K is.td ∙ has_a) (λ z k. old_more (turn z) (is.turn_in z k)) x m))
      (EndsAre-weaker (is_member ◌==◌ names) H (λ x m. later a x names m) fs low)
      record {
        onto_others = λ x m. by_kind (λ z. H (gather z) ≡ true) (ap H ga ∙ here a names) (ap H gb ∙ here a names) (ap H gc ∙ here a names) (ap H gd ∙ here a names) (λ z k. ap H (gather_old z k) ∙ later a z names k) x m;
        into_names = λ x m. ⊎_elim (λ t. ap K (eqb-true x a t) ∙ has_a) (λ k. old_more x k) (or_cases (x == a) (is_member ◌==◌ names x) m);
        one_of = λ x m. ⊎_elim (λ t. let e = eqb-true x a t in ap gather e ∙ (ga ∙ sym e)) (λ k. gather_old x k) (or_cases (x == a) (is_member ◌==◌ names x) m);
        near = λ x m. by_kind (λ z. Joined es z (gather z)) (equal_joined es a (gather a) (sym ga))
            (on (over more turn other b has_b) (equal_joined es (other b) (gather b) (is.ba ∙ sym gb)))
            (on (over more turn other c has_c) (on (equal_joined es (other c) d is.cd) (on (round more turn other d has_d) (equal_joined es (turn d) (gather c) (is.td ∙ sym gc)))))
            (on (round more turn other d has_d) (equal_joined es (turn d) (gather d) (is.td ∙ sym gd)))
            (λ z k. equal_joined es z (gather z) (sym (gather_old z k))) x m;
        down = piece_walks more turn other fs gather
            (λ x m. by_kind (λ z. Joined fs (gather z) (gather (other z))) (same a (other a) ga (ap gather is.ab ∙ gb)) (same b (other b) gb (ap gather is.ba ∙ ga)) (same c (other c) gc (ap gather is.cd ∙ gd)) (same d (other d) gd (ap gather is.dc ∙ gc))
            (λ z k. on (equal_joined fs (gather z) z (gather_old z k)) (on (over names turn other z k) (equal_joined fs (other z) (gather (other z)) (sym (gather_old (other z) (is.other_in z k)))))) x m)
            (λ x m. by_kind (λ z. Joined fs (gather z) (gather (turn z))) (same a (turn a) ga (ap gather is.ta ∙ gb)) (same b (turn b) gb (ap gather is.tb ∙ gc)) (same c (turn c) gc (ap gather is.tc ∙ gd)) (same d (turn d) gd (ap gather is.td ∙ ga))
            (λ z k. on (equal_joined fs (gather z) z (gather_old z k)) (on (round names turn other z k) (equal_joined fs (turn z) (gather (turn z)) (sym (gather_old (turn z) (is.turn_in z k)))))) x m);
        up = piece_walks names turn other es (λ x. x) (λ x m. over more turn other x (old_more x m)) (λ x m. round more turn other x (old_more x m));
      } in
      let out_a : is_member ◌==◌ names a ≡ false = (let o = is.new_a in grind (arith, o)) in
      let alone = one_alone a names fs out_a low in
      omega (arith, r, alone)

pub lone_curl : LoneCurlLaw
lone_curl m names turn other a b c d is =
    let faces = lone_faces names turn other a b c d is in
    let pieces = lone_pieces names turn other a b c d is in
    ((λ h. omega (arith, h, faces, pieces)), (λ h. omega (arith, h, faces, pieces)))
