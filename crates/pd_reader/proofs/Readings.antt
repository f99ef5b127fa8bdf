-- From what a reader found of all the bytes to what its callers are told, for any shape of text: what is read
-- is the one value that the bytes spell, and a refusal is at the place where they stop, or for the reason
-- against that value.
--
--     text_read          the value was read
--     answers_made       and there is no reason against it
--     answers_refused    and there is one
--     answers_stopped    the bytes are no text
--     refused_text, refused_place   the same as what a refusal says
--     each_is_read       so all bytes are read as something, where the shape is readable
--     one_reading        and as one thing only, where they are a text of at most one value
use Rattle.std.proofs.Common.{inl, inr, ◌≡◌, ◌≢◌, ◌<◌, true, ◌⊎◌, ℕ, List, length, get_or, Option, Some, None, Result, Ok, Err, refl, sym, subst, ◌∙◌, ap, arith}
use Rattle.std.proofs.lemmas.Bool.{cases_lt, cases_Bool}
use Rattle.std.proofs.lemmas.Bool.Decides.{nat_tests}
use Rattle.text_shapes.specs.Shapes.{IsText}
use Rattle.text_shapes.specs.Reach.{AreTokens, is_digit, is_letter}
use Rattle.text_shapes.specs.Readers.{Accepts, Refuses, TextRead}
use Rattle.text_shapes.proofs.Whole.{accepted_text, accepted_only, refused_none, refused_longest}
use Rattle.pd_reader.specs.declared.fault.Place.{Place}
use Rattle.pd_reader.specs.declared.fault.Place.TheVariants as places
use Rattle.pd_reader.specs.Faults.{Cause, at_place, against, no_memory, byte_of, NamesByte, IsNamed}
use Rattle.pd_reader.specs.Answers.{Answers, IsReadAs, IsRefusal}

-- want of memory, or the first reason
abbrev pub Gave : {F : Type 0} → Cause F → Option F → Type 0
Gave {F} cause reason = (cause ≡ no_memory) ⊎ ((first : F) × (cause ≡ against first) × (reason ≡ Some first))

by_reason : {V F E : Type 0} (cause : E → Cause F) (reason : Option F) (value : V) (fault : E) → Gave (cause fault) reason → Answers cause reason value (Err fault)
by_reason cause None value fault (inl e) = e
by_reason cause None value fault (inr e) = let bad = e.2 in absurd cc
by_reason cause (Some reason) value fault (inl e) = inl e
by_reason {F = F'} cause (Some reason) value fault (inr e) = inr (let said = e.2 in let same : reason ≡ e.0 = cc in e.1 ∙ ap (λ (r : F'). against r) (sym same))

-- the place at a byte is named by it
place_there : (bytes : List ℕ) (n : ℕ) → (place : Place) × (byte_of place ≡ n) × NamesByte bytes place
place_there bytes n =
    elim (cases_lt n (length bytes)) [
      | inr past ↦ (places.Text n, refl, λ lt. absurd (omega arith))
      | inl lt ↦ elim (cases_Bool (is_letter (get_or bytes n 0))) [
        | inl letter ↦ (places.Head n, refl, (lt, letter))
        | inr no_letter ↦ elim (cases_Bool (is_digit (get_or bytes n 0))) [
          | inl digit ↦ (places.Number n, refl, (lt, digit))
          | inr no_digit ↦ (places.Text n, refl, λ _. (no_letter, no_digit))
        ]
      ]
    ]

-- no byte is a letter and a digit
no_both : (byte : ℕ) → is_letter byte ≡ true → is_digit byte ≡ true → ⊥
no_both byte letter digit = absurd (grind (arith, nat_tests, letter, digit))

module _ {V F E : Type 0} (fits : V → Type 0) (tokens : V → List (List ℕ)) (reason : V → Option F) (cause : E → Cause F) (good : (v : V) → fits v → AreTokens (tokens v)) (bytes : List ℕ) where
  module _ (v : V) (read : Accepts fits tokens bytes v) where
    pub text_read : IsText fits tokens bytes v
    text_read = accepted_text fits tokens good bytes v read

    pub answers_refused : (fault : E) → Gave (cause fault) (reason v) → (value : V) → IsText fits tokens bytes value → Answers cause (reason value) value (Err fault)
    answers_refused fault gave value text = rw (accepted_only fits tokens good bytes v value read text) (by_reason cause (reason v) v fault gave)

    pub answers_made : reason v ≡ None → (value : V) → IsText fits tokens bytes value → Answers cause (reason value) value (Ok v)
    answers_made none value text =
        let same : value ≡ v = accepted_only fits tokens good bytes v value read text in
        rw same (subst (λ (r : Option F). Answers cause r v (Ok v)) (sym none) refl)

    pub refused_text : (fault : E) → Gave (cause fault) (reason v) → IsRefusal fits tokens reason bytes (cause fault)
    refused_text fault (inl e) = subst (λ (c : Cause F). IsRefusal fits tokens reason bytes c) (sym e) tt
    refused_text fault (inr e) = subst (λ (c : Cause F). IsRefusal fits tokens reason bytes c) (sym e.1) (v, text_read, e.2)

  module _ (p : ℕ) (refused : Refuses fits tokens bytes p) where
    pub answers_stopped : (fault : E) (value : V) → IsText fits tokens bytes value → Answers cause (reason value) value (Err fault)
    answers_stopped fault value text = absurd (refused_none fits tokens good bytes p value refused text)

    pub refused_place : (fault : E) (place : Place) → cause fault ≡ at_place place → byte_of place ≡ p → IsRefusal fits tokens reason bytes (cause fault)
    refused_place fault place is there = rw (is, there) (refused_longest fits tokens good bytes p refused, λ value text. refused_none fits tokens good bytes p value refused text)

  -- ALL BYTES ARE READ AS SOMETHING
  module _ (of_place : Place → E) (of_reason : F → E) (is_at : (place : Place) → cause (of_place place) ≡ at_place place) (is_against : (v : V) (first : F) → reason v ≡ Some first → cause (of_reason first) ≡ against first) where
    by_its_reason : (v : V) → Accepts fits tokens bytes v → (first : Option F) → reason v ≡ first → (read : Result V E) × IsReadAs fits tokens reason cause bytes read
    by_its_reason v a None e = (Ok v, (accepted_text fits tokens good bytes v a, e))
    by_its_reason v a (Some first) e = (Err (of_reason first), rw (is_against v first e) (λ same. absurd cc, (v, accepted_text fits tokens good bytes v a, e), tt))

    pub each_is_read : TextRead fits tokens bytes → (read : Result V E) × IsReadAs fits tokens reason cause bytes read
    each_is_read read = elim read [
      | inl text ↦ by_its_reason text.0 text.1 (reason text.0) refl
      | inr stop ↦
          let p = place_there bytes stop.0 in
          (Err (of_place p.0), (rw (is_at p.0) (λ same. absurd cc), refused_place stop.0 stop.1 (of_place p.0) p.0 (is_at p.0) p.1, rw (is_at p.0) p.2))
    ]

-- ---- of two causes one at the most stands

one_byte : (bytes : List ℕ) (x y : Place) → byte_of x ≡ byte_of y → NamesByte bytes x → NamesByte bytes y → x ≡ y
one_byte bytes (places.Head a) (places.Head b) e h k = ap places.Head e
one_byte bytes (places.Number a) (places.Number b) e h k = ap places.Number e
one_byte bytes (places.Text a) (places.Text b) e h k = ap places.Text e
one_byte bytes (places.Head a) (places.Number b) e h k = absurd (no_both (get_or bytes b 0) (subst (λ (i : ℕ). is_letter (get_or bytes i 0) ≡ true) e h.1) k.1)
one_byte bytes (places.Number a) (places.Head b) e h k = absurd (no_both (get_or bytes b 0) k.1 (subst (λ (i : ℕ). is_digit (get_or bytes i 0) ≡ true) e h.1))
one_byte bytes (places.Head a) (places.Text b) e h k = let no = (k (subst (λ (i : ℕ). i < length bytes) e h.0)).0 in let yes = subst (λ (i : ℕ). is_letter (get_or bytes i 0) ≡ true) e h.1 in absurd cc
one_byte bytes (places.Text a) (places.Head b) e h k = let no = (h (subst (λ (i : ℕ). i < length bytes) (sym e) k.0)).0 in let yes = subst (λ (i : ℕ). is_letter (get_or bytes i 0) ≡ true) (sym e) k.1 in absurd cc
one_byte bytes (places.Number a) (places.Text b) e h k = let no = (k (subst (λ (i : ℕ). i < length bytes) e h.0)).1 in let yes = subst (λ (i : ℕ). is_digit (get_or bytes i 0) ≡ true) e h.1 in absurd cc
one_byte bytes (places.Text a) (places.Number b) e h k = let no = (h (subst (λ (i : ℕ). i < length bytes) (sym e) k.0)).1 in let yes = subst (λ (i : ℕ). is_digit (get_or bytes i 0) ≡ true) (sym e) k.1 in absurd cc

module _ {V F : Type 0} (fits : V → Type 0) (tokens : V → List (List ℕ)) (reason : V → Option F) (bytes : List ℕ) (unique : (x y : V) → IsText fits tokens bytes x → IsText fits tokens bytes y → x ≡ y) where
  one_cause : (x y : Cause F) → x ≢ no_memory → y ≢ no_memory → IsRefusal fits tokens reason bytes x → IsRefusal fits tokens reason bytes y → IsNamed bytes x → IsNamed bytes y → x ≡ y
  one_cause (at_place a) (at_place b) p q h k n m =
      let upper = k.0.longest (byte_of a) h.0.within h.0.begins in
      let lower = h.0.longest (byte_of b) k.0.within k.0.begins in
      ap (λ (x : Place). at_place x) (one_byte bytes a b (omega (arith, upper, lower)) n m)
  one_cause (at_place a) (against s) p q h k n m = absurd (h.1 k.0 k.1)
  one_cause (against r) (at_place b) p q h k n m = absurd (k.1 h.0 h.1)
  one_cause (against r) (against s) p q h k n m =
      let some : Some r ≡ Some s = sym h.2 ∙ ap reason (unique h.0 k.0 h.1 k.1) ∙ k.2 in
      ap (λ (x : F). against x) (let same : r ≡ s = cc in same)
  one_cause no_memory y p q h k n m = absurd (p refl)
  one_cause x no_memory p q h k n m = absurd (q refl)

  no_text : (v : V) (c : Cause F) → IsText fits tokens bytes v → reason v ≡ None → c ≢ no_memory → IsRefusal fits tokens reason bytes c → ⊥
  no_text v (at_place place) text none p h = h.1 v text
  no_text v (against r) text none p h = let bad : Some r ≡ None = sym h.2 ∙ ap reason (unique h.0 v h.1 text) ∙ none in absurd cc
  no_text v no_memory text none p h = p refl

  -- AND AS ONE THING ONLY
  pub one_reading : {E : Type 0} (cause : E → Cause F) → ((f g : E) → cause f ≡ cause g → f ≡ g) → (x y : Result V E) → IsReadAs fits tokens reason cause bytes x → IsReadAs fits tokens reason cause bytes y → x ≡ y
  one_reading cause told (Ok v) (Ok w) h k = ap (λ (z : V). Ok z) (unique v w h.0 k.0)
  one_reading cause told (Ok v) (Err g) h k = absurd (no_text v (cause g) h.0 h.1 k.0 k.1)
  one_reading cause told (Err f) (Ok w) h k = absurd (no_text w (cause f) k.0 k.1 h.0 h.1)
  one_reading {E = E'} cause told (Err f) (Err g) h k = ap (λ (z : E'). Err z) (told f g (one_cause (cause f) (cause g) h.0 k.0 h.1 k.1 h.2 k.2))
