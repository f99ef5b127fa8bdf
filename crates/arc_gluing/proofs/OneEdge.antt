-- One edge more: where the mates know the ends of all paths, they do so after an edge between a and b. Either the mate of a
-- is b, a loop closes and both are gone; or the paths of a and b become one, whose ends are the mates of a and b.
use Rattle.std.proofs.Common.{◌≡◌, ◌≢◌, ℕ, ◌+◌, ◌≤◌, cond, ◌==◌, ⊎_elim, sym, ap, subst, ◌∙◌, arith}
use Rattle.std.proofs.lemmas.Bool.{eq-eqb, eqb-true, cases_Bool}
use Rattle.std.proofs.lemmas.Bool.Decides.{nat_tests}
use Rattle.graph_parts.specs.Labels.{relabel}
use Rattle.arc_gluing.specs.Mates.{put, joined_mates, IsMated}

pub same_or_not : {C : Type 0} (x y : ℕ) → (x ≡ y → C) → (x ≢ y → C) → C
same_or_not x y f g = ⊎_elim (λ e. f (eqb-true x y e)) (λ e. g (λ t. let k = eq-eqb x y t in grind (arith, k, e))) (cases_Bool (x == y))

module _ (a b : ℕ) (times left mate label : ℕ → ℕ) (split : (x : ℕ) → times x ≡ cond (x == a) 1 0 + cond (x == b) 1 0 + left x) (h : IsMated times mate label) where
  pub has_a : 1 ≤ times a
  has_a = let e = split a in grind (arith, nat_tests, e)

  pub has_b : 1 ≤ times b
  has_b = let e = split b in grind (arith, nat_tests, e)

  fewer : (x : ℕ) → left x ≤ 2
  fewer x = let e = split x in let f = h.few x in grind (arith, nat_tests, e, f)

  has : (x : ℕ) → 1 ≤ left x → 1 ≤ times x
  has x p = let e = split x in omega (arith, e)

  other : (x : ℕ) → x ≢ a → x ≢ b → left x ≡ times x
  other x p q = let e = split x in grind (arith, nat_tests, e)

  -- ---- a loop closes
  module _ (loop : mate a ≡ b) where
    gone_a : left a ≡ 0
    gone_a =
        let e = split a in let f = h.few a in let o = h.alone a in let m = h.met a in
        grind (arith, nat_tests, e, f, o, m, loop)

    mate_b : mate b ≡ a
    mate_b = ap mate (sym loop) ∙ h.back a has_a

    gone_b : left b ≡ 0
    gone_b =
        let e = split b in let f = h.few b in let o = h.alone b in let m = h.met b in let g = mate_b in
        grind (arith, nat_tests, e, f, o, m, g)

    pub not_a : (x : ℕ) → 1 ≤ left x → x ≢ a
    not_a x p e = let g = gone_a in let k = ap left e in omega (arith, g, k)

    pub not_b : (x : ℕ) → 1 ≤ left x → x ≢ b
    not_b x p e = let g = gone_b in let k = ap left e in omega (arith, g, k)

    same_times : (x : ℕ) → 1 ≤ left x → left x ≡ times x
    same_times x p = other x (not_a x p) (not_b x p)

    mate_not_a : (x : ℕ) → 1 ≤ left x → mate x ≢ a
    mate_not_a x p e = not_b x p (sym (h.back x (has x p)) ∙ ap mate e ∙ loop)

    mate_not_b : (x : ℕ) → 1 ≤ left x → mate x ≢ b
    mate_not_b x p e = not_a x p (sym (h.back x (has x p)) ∙ ap mate e ∙ mate_b)

    pub label_same : label a ≡ label b
    label_same = sym (h.along a has_a) ∙ ap label loop

    relabel_same : (x : ℕ) → relabel label (a, b) x ≡ label x
    relabel_same x = let e = label_same in grind (arith, nat_tests, e)

    closed : IsMated left mate (relabel label (a, b))
    closed = record {
      few = fewer;
      stays = λ x p. let k = other (mate x) (mate_not_a x p) (mate_not_b x p) in let s = h.stays x (has x p) in omega (arith, k, s);
      back = λ x p. h.back x (has x p);
      along = λ x p. relabel_same (mate x) ∙ h.along x (has x p) ∙ sym (relabel_same x);
      alone = λ x p. h.alone x (let p1 : 1 ≤ left x = omega arith in let k = same_times x p1 in omega (arith, k));
      met = λ x p. h.met x (let p1 : 1 ≤ left x = omega arith in let k = same_times x p1 in omega (arith, k));
      only = λ x y p q e d. h.only x y (has x p) (has y q) (sym (relabel_same x) ∙ e ∙ relabel_same y) d;
    }

  -- ---- two paths become one
  module _ (open_ : mate a ≢ b) where
    back_a : mate (mate a) ≡ a
    back_a = h.back a has_a

    back_b : mate (mate b) ≡ b
    back_b = h.back b has_b

    apart : a ≢ b
    apart e =
        let s = split a in let f = h.few a in let o = h.alone a in
        open_ (o (grind (arith, nat_tests, s, e)) ∙ e)

    mates_apart : mate a ≢ mate b
    mates_apart e = apart (sym back_a ∙ ap mate e ∙ back_b)

    b_not : mate b ≢ a
    b_not e = open_ (sym (ap mate e) ∙ back_b)

    abbrev new_mate : ℕ → ℕ
    new_mate = put (put mate (mate a) (mate b)) (mate b) (mate a)

    at_u : put (put mate (mate a) (mate b)) (mate b) (mate a) (mate a) ≡ mate b
    at_u = let d = mates_apart in grind (arith, nat_tests, d)

    at_v : put (put mate (mate a) (mate b)) (mate b) (mate a) (mate b) ≡ mate a
    at_v = grind (arith, nat_tests)

    at_other : (x : ℕ) → x ≢ mate a → x ≢ mate b → put (put mate (mate a) (mate b)) (mate b) (mate a) x ≡ mate x
    at_other x p q = grind (arith, nat_tests, p, q)

    pub left_u : left (mate a) ≡ 1
    left_u =
        let s = split (mate a) in let sa = split a in let f = h.few a in let fu = h.few (mate a) in let st = h.stays a has_a in
        let o = h.alone (mate a) in let oa = h.alone a in let ma = h.met a in let g = back_a in let d = open_ in let d2 = apart in
        grind (arith, nat_tests, s, sa, f, fu, st, o, oa, ma, g, d, d2)

    left_v : left (mate b) ≡ 1
    left_v =
        let s = split (mate b) in let sb = split b in let f = h.few b in let fv = h.few (mate b) in let st = h.stays b has_b in
        let o = h.alone (mate b) in let ob = h.alone b in let mb = h.met b in let g = back_b in let d = b_not in let d2 = apart in
        grind (arith, nat_tests, s, sb, f, fv, st, o, ob, mb, g, d, d2)

    three : {C : Type 0} (x : ℕ) → (x ≡ mate a → C) → (x ≡ mate b → C) → (x ≢ mate a → x ≢ mate b → C) → C
    three x f g k = same_or_not x (mate a) f (λ p. same_or_not x (mate b) g (λ q. k p q))

    not_a2 : (x : ℕ) → 1 ≤ left x → x ≢ mate a → x ≢ a
    not_a2 x p q e =
        let s = split a in let o = h.alone a in let k = ap left e in
        q (e ∙ sym (o (grind (arith, nat_tests, s, k))))

    not_b2 : (x : ℕ) → 1 ≤ left x → x ≢ mate b → x ≢ b
    not_b2 x p q e =
        let s = split b in let o = h.alone b in let k = ap left e in
        q (e ∙ sym (o (grind (arith, nat_tests, s, k))))

    other2 : (x : ℕ) → 1 ≤ left x → x ≢ mate a → x ≢ mate b → left x ≡ times x
    other2 x p q r = other x (not_a2 x p q) (not_b2 x p r)

    -- the mate of another name is another one
    mate_not_u : (x : ℕ) → 1 ≤ left x → x ≢ mate a → x ≢ mate b → mate x ≢ mate a
    mate_not_u x p q r e = not_a2 x p q (sym (h.back x (has x p)) ∙ ap mate e ∙ back_a)

    mate_not_v : (x : ℕ) → 1 ≤ left x → x ≢ mate a → x ≢ mate b → mate x ≢ mate b
    mate_not_v x p q r e = not_b2 x p r (sym (h.back x (has x p)) ∙ ap mate e ∙ back_b)

    mate_not_a2 : (x : ℕ) → 1 ≤ left x → x ≢ mate a → x ≢ mate b → mate x ≢ a
    mate_not_a2 x p q r e = q (sym (h.back x (has x p)) ∙ ap mate e)

    mate_not_b2 : (x : ℕ) → 1 ≤ left x → x ≢ mate a → x ≢ mate b → mate x ≢ b
    mate_not_b2 x p q r e = r (sym (h.back x (has x p)) ∙ ap mate e)

    pub lab_u : relabel label (a, b) (mate a) ≡ label b
    lab_u = let e = h.along a has_a in grind (arith, nat_tests, e)

    lab_v : relabel label (a, b) (mate b) ≡ label b
    lab_v = let e = h.along b has_b in grind (arith, nat_tests, e)

    lab_not_a : (x : ℕ) → 1 ≤ left x → x ≢ mate a → x ≢ mate b → label x ≢ label a
    lab_not_a x p q r e = q (h.only a x has_a (has x p) (sym e) (not_a2 x p q))

    lab_not_b : (x : ℕ) → 1 ≤ left x → x ≢ mate a → x ≢ mate b → label x ≢ label b
    lab_not_b x p q r e = r (h.only b x has_b (has x p) (sym e) (not_b2 x p r))

    lab_other : (x : ℕ) → 1 ≤ left x → x ≢ mate a → x ≢ mate b → relabel label (a, b) x ≡ label x
    lab_other x p q r = let d = lab_not_a x p q r in grind (arith, nat_tests, d)

    pub lab_apart : label a ≢ label b
    lab_apart e = open_ (sym (h.only a b has_a has_b e (λ t. apart (sym t))))

    merged : IsMated left (put (put mate (mate a) (mate b)) (mate b) (mate a)) (relabel label (a, b))
    merged = record {
      few = fewer;
      stays = λ x p. three x
          (λ e. let k = ap left (ap new_mate e ∙ at_u) in let g = left_v in omega (arith, k, g))
          (λ e. let k = ap left (ap new_mate e ∙ at_v) in let g = left_u in omega (arith, k, g))
          (λ q r. let k = ap left (at_other x q r) in let s = h.stays x (has x p) in let o = other (mate x) (mate_not_a2 x p q r) (mate_not_b2 x p q r) in omega (arith, k, s, o));
      back = λ x p. three x
          (λ e. ap new_mate (ap new_mate e ∙ at_u) ∙ at_v ∙ sym e)
          (λ e. ap new_mate (ap new_mate e ∙ at_v) ∙ at_u ∙ sym e)
          (λ q r. ap new_mate (at_other x q r) ∙ at_other (mate x) (mate_not_u x p q r) (mate_not_v x p q r) ∙ h.back x (has x p));
      along = λ x p. three x
          (λ e. ap (relabel label (a, b)) (ap new_mate e ∙ at_u) ∙ lab_v ∙ sym (ap (relabel label (a, b)) e ∙ lab_u))
          (λ e. ap (relabel label (a, b)) (ap new_mate e ∙ at_v) ∙ lab_u ∙ sym (ap (relabel label (a, b)) e ∙ lab_v))
          (λ q r. ap (relabel label (a, b)) (at_other x q r) ∙ (let d = lab_not_a x p q r in let e = h.along x (has x p) in grind (arith, nat_tests, d, e)));
      alone = λ x p. three x
          (λ e. let k = ap left e in let g = left_u in absurd (omega (arith, k, g)))
          (λ e. let k = ap left e in let g = left_v in absurd (omega (arith, k, g)))
          (λ q r. at_other x q r ∙ h.alone x (let p1 : 1 ≤ left x = omega arith in let k = other2 x p1 q r in omega (arith, k)));
      met = λ x p. three x
          (λ e t. mates_apart (sym (sym (ap new_mate e ∙ at_u) ∙ t ∙ e)))
          (λ e t. mates_apart (sym (ap new_mate e ∙ at_v) ∙ t ∙ e))
          (λ q r t. let p1 : 1 ≤ left x = omega arith in h.met x (let k = other2 x p1 q r in omega (arith, k)) (sym (at_other x q r) ∙ t));
      only = λ x y p q e d. three x
          (λ ex. three y
          (λ ey. absurd (d (ey ∙ sym ex)))
          (λ ey. ey ∙ sym (ap new_mate ex ∙ at_u))
          (λ r s. absurd (lab_not_b y q r s (sym (lab_other y q r s) ∙ sym e ∙ ap (relabel label (a, b)) ex ∙ lab_u))))
          (λ ex. three y
          (λ ey. ey ∙ sym (ap new_mate ex ∙ at_v))
          (λ ey. absurd (d (ey ∙ sym ex)))
          (λ r s. absurd (lab_not_b y q r s (sym (lab_other y q r s) ∙ sym e ∙ ap (relabel label (a, b)) ex ∙ lab_v))))
          (λ r s. three y
          (λ ey. absurd (lab_not_b x p r s (sym (lab_other x p r s) ∙ e ∙ ap (relabel label (a, b)) ey ∙ lab_u)))
          (λ ey. absurd (lab_not_b x p r s (sym (lab_other x p r s) ∙ e ∙ ap (relabel label (a, b)) ey ∙ lab_v)))
          (λ t u. h.only x y (has x p) (has y q) (sym (lab_other x p r s) ∙ e ∙ lab_other y q t u) d ∙ sym (at_other x r s)));
    }

  -- ONE EDGE MORE
  pub IsMated-joined : IsMated left (joined_mates mate (a, b)) (relabel label (a, b))
  IsMated-joined =
      ⊎_elim
      (λ t. let P : (ℕ → ℕ) → Type 0 = λ m. IsMated left m (relabel label (a, b)) in
      let e : mate ≡ joined_mates mate (a, b) = ap (λ c. cond c mate (put (put mate (mate a) (mate b)) (mate b) (mate a))) (sym t) in
      subst P e (closed (eqb-true (mate a) b t)))
      (λ f. let P : (ℕ → ℕ) → Type 0 = λ m. IsMated left m (relabel label (a, b)) in
      let e : put (put mate (mate a) (mate b)) (mate b) (mate a) ≡ joined_mates mate (a, b) = ap (λ c. cond c mate (put (put mate (mate a) (mate b)) (mate b) (mate a))) (sym f) in
      subst P e (merged (λ t. let k = eq-eqb (mate a) b t in grind (arith, k, f))))
      (cases_Bool (mate a == b))
