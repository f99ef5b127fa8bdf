-- Parts of values that follow each other. Where one part is read, what may stand from there on is what
-- is left of the values that begin with it; so a reader of a part is one step of the reader of the whole.
--
--     LeadsTo-then                   two steps, one after the other
--     LeadsTo-found, LeadsTo-missed  what is found or missed behind the steps is, of the whole
--     part_found, part_missed        a value that is a pair of parts
--     token_stands, token_falls      a token before each value
--     then_found, then_falls, then_missed   a mark behind each value
--     found_accepts, found_refuses, missed_refuses   from a part to all the bytes
use Rattle.std.proofs.Common.{inl, inr, ◌≡◌, ℕ, suc, ◌<◌, ◌≤◌, false, List, [], ◌∷◌, ◌++◌, length, refl, sym, ap, subst, ◌∙◌, append_assoc, append-nil, arith}
use Rattle.text_shapes.specs.Tokens.{is_space}
use Rattle.text_shapes.specs.Reach.{IsMarked, IsToken, is_word_byte, place}
use Rattle.text_shapes.specs.Readers.{Accepts, Falls, Found, LeadsTo, Missed, Refuses, Stands}
use Rattle.text_shapes.proofs.Ends.{mark_ends}
use Rattle.text_shapes.proofs.Words.{place-stands}

pub LeadsTo-then : {A W U : Type 0} (fits_a : A → Type 0) (F : A → List (List ℕ)) (fits_w : W → Type 0) (G : W → List (List ℕ)) (fits_u : U → Type 0) (H : U → List (List ℕ)) (e : W → A) (f : U → W) (bytes : List ℕ) (a b c : ℕ)
    → LeadsTo fits_a F fits_w G e bytes a b → LeadsTo fits_w G fits_u H f bytes b c → LeadsTo fits_a F fits_u H (λ u. e (f u)) bytes a c
LeadsTo-then fits_a F fits_w G fits_u H e f bytes a b c p q = record {
  from = omega (arith, p.from, q.from);
  within = q.within;
  onto = λ u h. p.onto (f u) (q.onto u h);
  same = λ u more. p.same (f u) more ∙ q.same u more;
  others = λ v more h. elim (p.others v more h) [
    | inr passed ↦ inr (omega (arith, passed, q.from))
    | inl left ↦ elim (q.others left.0 more left.2) [
      | inr passed ↦ inr (rw left.1 (omega (arith, passed, p.same left.0 more)))
      | inl rest ↦ inl (rest.0, left.1 ∙ ap e rest.1, rest.2)
    ]
  ];
}

-- what is missed behind is missed
pub LeadsTo-missed : {A W : Type 0} (fits_a : A → Type 0) (F : A → List (List ℕ)) (fits_w : W → Type 0) (G : W → List (List ℕ)) (e : W → A) (bytes : List ℕ) (a b p : ℕ)
    → LeadsTo fits_a F fits_w G e bytes a b → Missed fits_w G bytes b p → Missed fits_a F bytes a p
LeadsTo-missed fits_a F fits_w G e bytes a b p l m = record {
  within = m.within;
  furthest = e m.furthest;
  fits_shape = l.onto m.furthest m.fits_shape;
  reached = λ more. l.same m.furthest more ∙ m.reached more;
  most = λ v more h. elim (l.others v more h) [
    | inr passed ↦ omega (arith, passed, m.reached [])
    | inl left ↦ rw left.1 (omega (arith, l.same left.0 more, m.most left.0 more left.2))
  ];
}

-- what is found behind is found
pub LeadsTo-found : {A W : Type 0} (fits_a : A → Type 0) (F : A → List (List ℕ)) (fits_w : W → Type 0) (G : W → List (List ℕ)) (e : W → A) (bytes : List ℕ) (a b next : ℕ) (w : W)
    → LeadsTo fits_a F fits_w G e bytes a b → Found fits_w G bytes b w next → Found fits_a F bytes a (e w) next
LeadsTo-found fits_a F fits_w G e bytes a b next w l f = record {
  fits_shape = l.onto w f.fits_shape;
  from = omega (arith, l.from, f.from);
  ends = f.ends;
  within = f.within;
  same = λ more. l.same w more ∙ f.same more;
  others = λ v more h marked. elim (l.others v more h) [
    | inr passed ↦ inr (omega (arith, passed, f.from))
    | inl left ↦ elim (f.others left.0 more left.2 marked) [
      | inl is ↦ inl (left.1 ∙ ap e is)
      | inr passed ↦ inr (rw left.1 (omega (arith, l.same left.0 more, passed)))
    ]
  ];
}

-- a part that is found, and what comes behind it: first F, then G, which begins with a mark
pub part_found : {V W : Type 0} (fits_v : V → Type 0) (F : V → List (List ℕ)) (fits_w : W → Type 0) (G : W → List (List ℕ)) (bytes : List ℕ) (a b : ℕ) (v : V)
    → ((w : W) (more : List (List ℕ)) → IsMarked (G w ++ more)) → Found fits_v F bytes a v b → LeadsTo (λ (p : V × W). fits_v p.0 × fits_w p.1) (λ p. F p.0 ++ G p.1) fits_w G (λ w. (v, w)) bytes a b
part_found {V = V'} fits_v F fits_w G bytes a b v marked f = record {
  from = omega (arith, f.from);
  within = f.within;
  onto = λ w h. (f.fits_shape, h);
  same = λ w more. ap (place bytes a) (append_assoc (F v) (G w) more) ∙ f.same (G w ++ more);
  others = λ p more h. elim (f.others p.0 (G p.1 ++ more) h.0 (marked p.1 more)) [
    | inl is ↦ inl (p.1, ap (λ (x : V'). (x, p.1)) is, h.1)
    | inr le ↦ inr (subst (λ (ts : List (List ℕ)). place bytes a ts ≤ b) (sym (append_assoc (F p.0) (G p.1) more)) le)
  ];
}

-- a part that is missed, where something may come behind it
pub part_missed : {V W : Type 0} (fits_v : V → Type 0) (F : V → List (List ℕ)) (fits_w : W → Type 0) (G : W → List (List ℕ)) (w : W) (some : fits_w w) (bytes : List ℕ) (a p : ℕ)
    → Missed fits_v F bytes a p → Missed (λ (x : V × W). fits_v x.0 × fits_w x.1) (λ x. F x.0 ++ G x.1) bytes a p
part_missed fits_v F fits_w G w some bytes a p m = record {
  within = m.within;
  furthest = (m.furthest, w);
  fits_shape = (m.fits_shape, some);
  reached = λ more. ap (place bytes a) (append_assoc (F m.furthest) (G w) more) ∙ m.reached (G w ++ more);
  most = λ x more h. subst (λ (ts : List (List ℕ)). place bytes a ts ≤ p) (sym (append_assoc (F x.0) (G x.1) more)) (m.most x.0 (G x.1 ++ more) h.0);
}

-- a token that stands before each value of a family
pub token_stands : {A : Type 0} (fits : A → Type 0) (t : List ℕ) (G : A → List (List ℕ)) (bytes : List ℕ) (a b : ℕ) → IsToken t → Stands bytes a t b → LeadsTo fits (λ v. t ∷ G v) fits G (λ v. v) bytes a b
token_stands fits t G bytes a b token s = record {
  from = omega (arith, s.sum);
  within = s.within;
  onto = λ v h. h;
  same = λ v more. place-stands bytes a t b (G v ++ more) token s;
  others = λ v more h. inl (v, refl, h);
}

pub token_falls : {A : Type 0} (fits : A → Type 0) (t : List ℕ) (G : A → List (List ℕ)) (bytes : List ℕ) (a p : ℕ) (v : A) → fits v → Falls bytes a t p → Missed fits (λ v. t ∷ G v) bytes a p
token_falls fits t G bytes a p v h f = record {
  within = f.within;
  furthest = v;
  fits_shape = h;
  reached = λ more. f.same (G v ++ more);
  most = λ w more k. omega (arith, f.same (G w ++ more));
}

-- a mark behind each value of a family
module _ {V : Type 0} (fits : V → Type 0) (F : V → List (List ℕ)) (c : ℕ) (no_space : is_space c ≡ false) (mark : is_word_byte c ≡ false) (bytes : List ℕ) (at : ℕ) where
  abbrev pub Then : V → List (List ℕ)
  Then v = F v ++ (c ∷ []) ∷ []

  regrouped : (v : V) (more : List (List ℕ)) → place bytes at (Then v ++ more) ≡ place bytes at (F v ++ (c ∷ []) ∷ more)
  regrouped v more = ap (place bytes at) (append_assoc (F v) ((c ∷ []) ∷ []) more)

  pub then_found : (v : V) (next end : ℕ) → Found fits F bytes at v next → Stands bytes next (c ∷ []) end → Found fits Then bytes at v end
  then_found v next end f s = record {
    fits_shape = f.fits_shape;
    from = omega (arith, f.from, s.sum);
    ends = mark_ends bytes next c end no_space s;
    within = s.within;
    same = λ more. regrouped v more ∙ f.same ((c ∷ []) ∷ more) ∙ place-stands bytes next (c ∷ []) end more no_space s;
    others = λ w more h marked. elim (f.others w ((c ∷ []) ∷ more) h mark) [
      | inl is ↦ inl is
      | inr le ↦ inr (omega (arith, le, regrouped w more, s.sum))
    ];
  }

  pub then_falls : (v : V) (next p : ℕ) → Found fits F bytes at v next → Falls bytes next (c ∷ []) p → Missed fits Then bytes at p
  then_falls v next p f falls = record {
    within = falls.within;
    furthest = v;
    fits_shape = f.fits_shape;
    reached = λ more. regrouped v more ∙ f.same ((c ∷ []) ∷ more) ∙ falls.same more;
    most = λ w more h. elim (f.others w ((c ∷ []) ∷ more) h mark) [
      | inl is ↦ rw is (omega (arith, regrouped v more, f.same ((c ∷ []) ∷ more), falls.same more))
      | inr le ↦ omega (arith, le, regrouped w more, falls.same [])
    ];
  }

  pub then_missed : (p : ℕ) → Missed fits F bytes at p → Missed fits Then bytes at p
  then_missed p m = record {
    within = m.within;
    furthest = m.furthest;
    fits_shape = m.fits_shape;
    reached = λ more. regrouped m.furthest more ∙ m.reached ((c ∷ []) ∷ more);
    most = λ w more h. omega (arith, regrouped w more, m.most w ((c ∷ []) ∷ more) h);
  }

-- A WHOLE INPUT
pub found_accepts : {A : Type 0} (fits : A → Type 0) (F : A → List (List ℕ)) (bytes : List ℕ) (v : A) (next : ℕ) → Found fits F bytes 0 v next → place bytes next [] ≡ suc (length bytes) → Accepts fits F bytes v
found_accepts fits F bytes v next f e = record {
  fits_shape = f.fits_shape;
  reaches = subst (λ (ts : List (List ℕ)). length bytes < place bytes 0 ts) (append-nil (F v)) (omega (arith, f.same [], e));
  others = λ w h. elim (f.others w [] h tt) [
    | inl is ↦ inl is
    | inr le ↦ inr (subst (λ (ts : List (List ℕ)). place bytes 0 ts ≤ length bytes) (append-nil (F w)) (omega (arith, le, f.within)))
  ];
}

pub found_refuses : {A : Type 0} (fits : A → Type 0) (F : A → List (List ℕ)) (bytes : List ℕ) (v : A) (next p : ℕ) → Found fits F bytes 0 v next → place bytes next [] ≡ p → p ≤ length bytes → Refuses fits F bytes p
found_refuses {A = A'} fits F bytes v next p f e within = record {
  within = within;
  furthest = v;
  fits_shape = f.fits_shape;
  reached = subst (λ (ts : List (List ℕ)). p ≤ place bytes 0 ts) (append-nil (F v)) (omega (arith, f.same [], e));
  most = most;
} where
  most : (w : A') → fits w → place bytes 0 (F w) ≤ p
  most w h = elim (f.others w [] h tt) [
    | inl is ↦ rw is (subst (λ (ts : List (List ℕ)). place bytes 0 ts ≤ p) (append-nil (F v)) (omega (arith, f.same [], e)))
    | inr le ↦ subst (λ (ts : List (List ℕ)). place bytes 0 ts ≤ p) (append-nil (F w)) (omega (arith, le, e))
  ]

pub missed_refuses : {A : Type 0} (fits : A → Type 0) (F : A → List (List ℕ)) (bytes : List ℕ) (p : ℕ) → Missed fits F bytes 0 p → Refuses fits F bytes p
missed_refuses fits F bytes p m = record {
  within = m.within;
  furthest = m.furthest;
  fits_shape = m.fits_shape;
  reached = subst (λ (ts : List (List ℕ)). p ≤ place bytes 0 ts) (append-nil (F m.furthest)) (omega (arith, m.reached []));
  most = λ w h. subst (λ (ts : List (List ℕ)). place bytes 0 ts ≤ p) (append-nil (F w)) (m.most w [] h);
}

-- the same by another name
pub LeadsTo-renamed : {A W : Type 0} (fits_a : A → Type 0) (F : A → List (List ℕ)) (fits_w : W → Type 0) (G : W → List (List ℕ)) (e f : W → A) (bytes : List ℕ) (a b : ℕ) → ((w : W) → e w ≡ f w)
    → LeadsTo fits_a F fits_w G e bytes a b → LeadsTo fits_a F fits_w G f bytes a b
LeadsTo-renamed fits_a F fits_w G e f bytes a b named l = record {
  from = l.from;
  within = l.within;
  onto = λ w h. subst fits_a (named w) (l.onto w h);
  same = λ w more. sym (ap (λ v. place bytes a (F v ++ more)) (named w)) ∙ l.same w more;
  others = λ v more h. elim (l.others v more h) [ inl left ↦ inl (left.0, left.1 ∙ named left.0, left.2) | inr le ↦ inr le ];
}
