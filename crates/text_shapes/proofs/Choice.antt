-- A value is one of several calls, which its head tells apart. Each head is tried in turn: where one
-- call stands no other does, and where none stands the one that goes on furthest says how far.
--
--     AreCalls, Makes       what is to be known of a type of calls, and of each of its heads
--     choice_found          the call with this head stands, so its value does
--     choice_missed         it doesn't, so none of the values with this head stands
--     both_missed           nor does any with the other heads
--     all_missed            and these are all the heads
use Rattle.std.proofs.Common.{inl, inr, ◌≡◌, ◌⊎◌, ℕ, max, Bool, true, false, eqb, ◌&&◌, List, [], ◌∷◌, refl, sym, ap, subst, ◌∙◌, arith}
use Rattle.std.proofs.lemmas.Bool.{cases_eq, cases_lt}
use Rattle.text_shapes.specs.Shapes.{AreOf, call}
use Rattle.text_shapes.specs.Reach.{IsWord}
use Rattle.text_shapes.specs.Readers.{Found, Missed, OtherHeadsStop}

pub cases_same : (xs ys : List ℕ) → (xs ≡ ys) ⊎ (xs ≡ ys → ⊥)
cases_same [] [] = inl refl
cases_same [] (y ∷ ys) = inr (λ e. absurd cc)
cases_same (x ∷ xs) [] = inr (λ e. absurd cc)
cases_same (x ∷ xs) (y ∷ ys) =
    elim (cases_eq x y) [
      | inr ne ↦ inr (λ e. ne cc)
      | inl same ↦ elim (cases_same xs ys) [ inr ne ↦ inr (λ e. ne cc) | inl rest ↦ inl cc ]
    ]

abbrev pub same_bytes : List ℕ → List ℕ → Bool
same_bytes [] [] = true
same_bytes [] (y ∷ ys) = false
same_bytes (x ∷ xs) [] = false
same_bytes (x ∷ xs) (y ∷ ys) = eqb x y && same_bytes xs ys

abbrev pub OneOf : List (List ℕ) → List ℕ → Type 0
OneOf [] h = ⊥
OneOf (x ∷ xs) h = (h ≡ x) ⊎ OneOf xs h

module _ {V K A : Type 0} (argument : A → List (List ℕ)) (fits : K → A → Type 0) (fits_value : V → Type 0) (tokens : V → List (List ℕ)) (slots : List ℕ → List K) (back : List ℕ → List A → V) where
  -- each value is a call of a head, whose arguments are of the kinds of the head's slots, and back makes it of them
  pub record AreCalls (head : V → List ℕ) (arguments_of : V → List A) : Type 0 where
    pub word : (v : V) → IsWord (head v)
    pub tokens_are : (v : V) → tokens v ≡ call argument (head v) (arguments_of v)
    pub of_kinds : (v : V) → fits_value v → AreOf fits (slots (head v)) (arguments_of v)
    pub back_is : (v : V) → back (head v) (arguments_of v) ≡ v

  -- with this head, back makes a value of any arguments of the kinds of its slots
  pub record Makes (head : V → List ℕ) (h : List ℕ) : Type 0 where
    pub head_is : (all : List A) → AreOf fits (slots h) all → head (back h all) ≡ h
    pub fits_back : (all : List A) → AreOf fits (slots h) all → fits_value (back h all)
    pub tokens_back : (all : List A) → AreOf fits (slots h) all → tokens (back h all) ≡ call argument h all

  -- the values with one of these heads
  abbrev pub Among : (V → List ℕ) → List (List ℕ) → V → Type 0
  Among head hs v = OneOf hs (head v) × fits_value v

  module _ (head : V → List ℕ) (arguments_of : V → List A) (calls : AreCalls head arguments_of) (bytes : List ℕ) (at : ℕ) where
    pub choice_found : (h : List ℕ) → Makes head h → (all : List A) (next : ℕ)
        → Found (AreOf fits (slots h)) (call argument h) bytes at all next → OtherHeadsStop argument bytes at h next → Found fits_value tokens bytes at (back h all) next
    choice_found h makes all next f stops = record {
      fits_shape = makes.fits_back all f.fits_shape;
      from = f.from;
      ends = f.ends;
      within = f.within;
      same = λ more. rw (makes.tokens_back all f.fits_shape) (f.same more);
      others = λ other more fits_other marked. elim (cases_same (head other) h) [
        | inr ne ↦ inr (rw (calls.tokens_are other) (stops (head other) (arguments_of other) more (calls.word other) ne))
        | inl e ↦ elim (f.others (arguments_of other) more (subst (λ (x : List ℕ). AreOf fits (slots x) (arguments_of other)) e (calls.of_kinds other fits_other)) marked) [
          | inl same ↦ inl (sym (calls.back_is other) ∙ (ap (λ (x : List ℕ). back x (arguments_of other)) e ∙ ap (back h) same))
          | inr le ↦ inr (rw (calls.tokens_are other, e) le)
        ]
      ];
    }

    pub choice_missed : (h : List ℕ) → Makes head h → (p : ℕ)
        → Missed (AreOf fits (slots h)) (call argument h) bytes at p → Missed (Among head (h ∷ [])) tokens bytes at p
    choice_missed h makes p m = record {
      within = m.within;
      furthest = back h m.furthest;
      fits_shape = (inl (makes.head_is m.furthest m.fits_shape), makes.fits_back m.furthest m.fits_shape);
      reached = λ more. rw (makes.tokens_back m.furthest m.fits_shape) (m.reached more);
      most = λ v more fits_v. elim fits_v.0 [
        | inl e ↦ rw (calls.tokens_are v, e) (m.most (arguments_of v) more (subst (λ (x : List ℕ). AreOf fits (slots x) (arguments_of v)) e (calls.of_kinds v fits_v.1)))
        | inr none ↦ absurd none
      ];
    }

    -- the one that goes on further says how far
    pub both_missed : (hs : List (List ℕ)) (h : List ℕ) (p q : ℕ) → Missed (Among head hs) tokens bytes at p → Missed (Among head (h ∷ [])) tokens bytes at q → Missed (Among head (h ∷ hs)) tokens bytes at (max p q)
    both_missed hs h p q b a =
        elim (cases_lt q p) [
          | inl lt ↦ (let e : max p q ≡ p = omega arith in rw e (record {
            within = b.within;
            furthest = b.furthest;
            fits_shape = (inr b.fits_shape.0, b.fits_shape.1);
            reached = b.reached;
            most = λ v more fits_v. elim fits_v.0 [ inl e ↦ omega (arith, lt, a.most v more (inl e, fits_v.1)) | inr k ↦ b.most v more (k, fits_v.1) ];
          }))
          | inr le ↦ (let e : max p q ≡ q = omega arith in rw e (record {
            within = a.within;
            furthest = a.furthest;
            fits_shape = (elim a.fits_shape.0 [ inl e ↦ inl e | inr none ↦ absurd none ], a.fits_shape.1);
            reached = a.reached;
            most = λ v more fits_v. elim fits_v.0 [ inl e ↦ a.most v more (inl e, fits_v.1) | inr k ↦ omega (arith, le, b.most v more (k, fits_v.1)) ];
          }))
        ]

    -- WHERE NO HEAD STANDS, NO VALUE DOES
    pub all_missed : (hs : List (List ℕ)) (p : ℕ) → ((v : V) → OneOf hs (head v)) → Missed (Among head hs) tokens bytes at p → Missed fits_value tokens bytes at p
    all_missed hs p all m = record {
      within = m.within;
      furthest = m.furthest;
      fits_shape = m.fits_shape.1;
      reached = m.reached;
      most = λ v more fits_v. m.most v more (all v, fits_v);
    }
