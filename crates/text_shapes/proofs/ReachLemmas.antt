-- How far bytes go on as tokens say tells what they are: they are spelled by these tokens where they reach
-- past their end, and a front of n bytes begins such a text where they reach n. Each is an induction on
-- the bytes.
--
--     reach-spelled, spelled-reach    spelled, and past the end
--     reach_local, reach_completes    the beginning of a text, and n bytes
use Rattle.std.proofs.Common.{inl, inr, ◌≡◌, ℕ, zero, suc, ◌+◌, ◌<◌, ◌≤◌, Bool, true, false, cond, eqb, List, [], ◌∷◌, ◌++◌, length, take, Option, Some, None, refl, sym, ap, subst, ◌∙◌, arith, le_of_suc-le-suc, suc-le-suc, zero-le, length-append}
use Rattle.std.specs.List.{AllByRecursion}
use Rattle.std.proofs.lemmas.Bool.{eqb-true, eq-eqb, cases_Bool}
use Rattle.text_shapes.specs.Reach.{AreTokens, IsToken, Rest, at_end, onward, reach, start, step}
use Rattle.text_shapes.specs.Tokens.{IsSpace, IsSpelled, is_space}

pub reach-cons : (w : List ℕ) (ts : List (List ℕ)) (b : ℕ) (bs : List ℕ) → reach w ts (b ∷ bs) ≡ onward (step w ts b) (λ rest. reach rest.0 rest.1 bs)
unfolding reach
reach-cons w ts b bs = refl

pub over_space : (space : List ℕ) (ts : List (List ℕ)) (bs : List ℕ) → AllByRecursion IsSpace space → reach [] ts (space ++ bs) ≡ length space + reach [] ts bs
over_space [] ts bs h = omega arith
over_space (b ∷ space) ts bs h = reach-cons [] ts b (space ++ bs) ∙ rw h.0 (omega (arith, over_space space ts bs h.1))

pub over_word : (w : List ℕ) (ts : List (List ℕ)) (bs : List ℕ) → reach w ts (w ++ bs) ≡ length w + reach [] ts bs
over_word [] ts bs = omega arith
over_word (c ∷ w) ts bs = reach-cons (c ∷ w) ts c (w ++ bs) ∙ rw (eq-eqb c c refl) (omega (arith, over_word w ts bs))

pub over_token : (t : List ℕ) (ts : List (List ℕ)) (bs : List ℕ) → IsToken t → reach [] (t ∷ ts) (t ++ bs) ≡ length t + reach [] ts bs
over_token [] ts bs h = absurd h
over_token (c ∷ w) ts bs h = reach-cons [] ((c ∷ w) ∷ ts) c (w ++ bs) ∙ rw (h, eq-eqb c c refl) (omega (arith, over_word w ts bs))

all_space : (bs : List ℕ) → AllByRecursion IsSpace bs → reach [] [] bs ≡ suc (length bs)
unfolding reach
all_space [] h = refl
all_space (b ∷ bs) h = rw h.0 (ap suc (all_space bs h.1))

-- what is spelled so reaches past the end
pub reach-spelled : (ts : List (List ℕ)) (bs : List ℕ) → AreTokens ts → IsSpelled ts bs → reach [] ts bs ≡ suc (length bs)
reach-spelled [] bs tokens h = all_space bs h
reach-spelled (t ∷ ts) bs tokens h =
    let rest = h.1 in
    let e : bs ≡ h.0 ++ (t ++ rest) = h.3 in
    let one = reach-spelled ts rest tokens.1 h.4 in
    rw e (over_space h.0 (t ∷ ts) (t ++ rest) h.2 ∙ omega (arith, over_token t ts rest tokens.0, one, length-append h.0 (t ++ rest), length-append t rest))

-- what is left of a token, and the tokens after it, are spelled
abbrev IsRestSpelled : List ℕ → List (List ℕ) → List ℕ → Type 0
IsRestSpelled [] ts bs = IsSpelled ts bs
IsRestSpelled (c ∷ w) ts bs = (rest : List ℕ) × (bs ≡ (c ∷ w) ++ rest) × IsSpelled ts rest

rest_from : (w : List ℕ) (ts : List (List ℕ)) (c : ℕ) (bs : List ℕ) → IsRestSpelled w ts bs → IsRestSpelled (c ∷ w) ts (c ∷ bs)
rest_from [] ts c bs h = (bs, refl, h)
rest_from (d ∷ w) ts c bs h = (h.0, ap (λ (x : List ℕ). c ∷ x) h.1, h.2)

space_before : (ts : List (List ℕ)) (b : ℕ) (bs : List ℕ) → is_space b ≡ true → IsSpelled ts bs → IsSpelled ts (b ∷ bs)
space_before [] b bs s h = (s, h)
space_before (t ∷ ts) b bs s h = (b ∷ h.0, h.1, (s, h.2), ap (λ (x : List ℕ). b ∷ x) h.3, h.4)

token_from : (c : ℕ) (w : List ℕ) (ts : List (List ℕ)) (bs : List ℕ) → IsRestSpelled (c ∷ w) ts bs → IsSpelled ((c ∷ w) ∷ ts) bs
token_from c w ts bs h = ([], h.0, tt, h.1, h.2)

-- what reaches past the end is spelled so
pub spelled-reach : (w : List ℕ) (ts : List (List ℕ)) (bs : List ℕ) → length bs < reach w ts bs → IsRestSpelled w ts bs
unfolding reach
spelled-reach [] [] [] h = tt
spelled-reach [] (t ∷ ts) [] h = absurd (omega arith)
spelled-reach (c ∷ w) ts [] h = absurd (omega arith)
spelled-reach (c ∷ w) ts (b ∷ bs) h =
    elim (cases_Bool (eqb b c)) [
      | inl e ↦ let lt : length bs < reach w ts bs = le_of_suc-le-suc (rw e at h) in
          subst (λ x. IsRestSpelled (c ∷ w) ts (x ∷ bs)) (sym (eqb-true b c e)) (rest_from w ts c bs (spelled-reach w ts bs lt))
      | inr e ↦ let no : suc (suc (length bs)) ≤ 0 = rw e at h in absurd (omega arith)
    ]
spelled-reach [] [] (b ∷ bs) h =
    elim (cases_Bool (is_space b)) [
      | inl e ↦ space_before [] b bs e (spelled-reach [] [] bs (le_of_suc-le-suc (rw e at h)))
      | inr e ↦ let no : suc (suc (length bs)) ≤ 0 = rw e at h in absurd (omega arith)
    ]
spelled-reach [] ([] ∷ ts) (b ∷ bs) h =
    elim (cases_Bool (is_space b)) [
      | inl e ↦ space_before ([] ∷ ts) b bs e (spelled-reach [] ([] ∷ ts) bs (le_of_suc-le-suc (rw e at h)))
      | inr e ↦ let no : suc (suc (length bs)) ≤ 0 = rw e at h in absurd (omega arith)
    ]
spelled-reach [] ((c ∷ w) ∷ ts) (b ∷ bs) h =
    elim (cases_Bool (is_space b)) [
      | inl e ↦ space_before ((c ∷ w) ∷ ts) b bs e (spelled-reach [] ((c ∷ w) ∷ ts) bs (le_of_suc-le-suc (rw e at h)))
      | inr s ↦ elim (cases_Bool (eqb b c)) [
        | inl e ↦ let lt : length bs < reach w ts bs = le_of_suc-le-suc (rw (s, e) at h) in
            subst (λ x. IsSpelled ((c ∷ w) ∷ ts) (x ∷ bs)) (sym (eqb-true b c e)) (token_from c w ts (c ∷ bs) (rest_from w ts c bs (spelled-reach w ts bs lt)))
        | inr e ↦ let no : suc (suc (length bs)) ≤ 0 = rw (s, e) at h in absurd (omega arith)
      ]
    ]

onward_local : (o : Option Rest) (f g : Rest → ℕ) (n : ℕ) → ((r : Rest) → n < f r → n ≤ g r) → suc n < onward o f → suc n ≤ onward o g
onward_local None f g n h lt = absurd (omega arith)
onward_local (Some r) f g n h lt = suc-le-suc (h r (le_of_suc-le-suc lt))

-- how far an input goes on depends on no byte from that place on
pub reach_local : (w : List ℕ) (ts : List (List ℕ)) (xs more other : List ℕ) → length xs < reach w ts (xs ++ more) → length xs ≤ reach w ts (xs ++ other)
reach_local w ts [] more other h = zero-le
reach_local w ts (x ∷ xs) more other h =
    rw (reach-cons w ts x (xs ++ other)) (onward_local (step w ts x) (λ r. reach r.0 r.1 (xs ++ more)) (λ r. reach r.0 r.1 (xs ++ other)) (length xs) (λ r lt. reach_local r.0 r.1 xs more other lt) (subst (λ n. suc (length xs) < n) (reach-cons w ts x (xs ++ more)) h))

abbrev joined : List (List ℕ) → List ℕ
joined [] = []
joined (t ∷ ts) = t ++ joined ts

reach-joined : (ts : List (List ℕ)) → AreTokens ts → reach [] ts (joined ts) ≡ suc (length (joined ts))
unfolding reach
reach-joined [] h = refl
reach-joined (t ∷ ts) h = over_token t ts (joined ts) h.0 ∙ omega (arith, reach-joined ts h.1, length-append t (joined ts))

abbrev Completes : List ℕ → List (List ℕ) → List ℕ → Type 0
Completes w ts xs = (more : List ℕ) × (length (xs ++ more) < reach w ts (xs ++ more))

cond_some : (b : Bool) (x y : Rest) → cond b (Some x) None ≡ Some y → x ≡ y
cond_some true x y e = cc
cond_some false x y e = absurd cc

start_tokens : (ts : List (List ℕ)) (b : ℕ) (r : Rest) → AreTokens ts → start ts b ≡ Some r → AreTokens r.1
start_tokens [] b r h e = absurd cc
start_tokens ([] ∷ ts) b r h e = absurd h.0
start_tokens ((c ∷ w) ∷ ts) b r h e = subst (λ (x : Rest). AreTokens x.1) (cond_some (eqb b c) (w, ts) r e) h.1

step_tokens : (w : List ℕ) (ts : List (List ℕ)) (b : ℕ) (r : Rest) → AreTokens ts → step w ts b ≡ Some r → AreTokens r.1
step_tokens (c ∷ w) ts b r h e = subst (λ (x : Rest). AreTokens x.1) (cond_some (eqb b c) (w, ts) r e) h
step_tokens [] ts b r h e =
    elim (cases_Bool (is_space b)) [
      | inl s ↦ let same : Some ([], ts) ≡ Some r = rw s at e in let is : ([], ts) ≡ r = cc in subst (λ (x : Rest). AreTokens x.1) is h
      | inr s ↦ start_tokens ts b r h (rw s at e)
    ]

completes_on : (w : List ℕ) (ts : List (List ℕ)) (b : ℕ) (bs : List ℕ) (n : ℕ) (o : Option Rest) → step w ts b ≡ o → suc n ≤ reach w ts (b ∷ bs)
    → ((r : Rest) → step w ts b ≡ Some r → n ≤ reach r.0 r.1 bs → Completes r.0 r.1 (take n bs)) → Completes w ts (b ∷ take n bs)
completes_on w ts b bs n None e le go = let no : suc n ≤ 0 = rw (reach-cons w ts b bs, e) at le in absurd (omega arith)
completes_on w ts b bs n (Some r) e le go =
    let le' : suc n ≤ suc (reach r.0 r.1 bs) = rw (reach-cons w ts b bs, e) at le in
    let c = go r e (le_of_suc-le-suc le') in
    (c.0, rw (reach-cons w ts b (take n bs ++ c.0), e) (suc-le-suc c.1))

-- WHAT GOES ON SO IS THE BEGINNING OF A WHOLE TEXT
pub reach_completes : (w : List ℕ) (ts : List (List ℕ)) (bs : List ℕ) (n : ℕ) → AreTokens ts → n ≤ length bs → n ≤ reach w ts bs → Completes w ts (take n bs)
reach_completes w ts bs zero h within le = (w ++ joined ts, omega (arith, over_word w ts (joined ts), reach-joined ts h, length-append w (joined ts)))
reach_completes w ts [] (suc n) h within le = absurd (omega arith)
reach_completes w ts (b ∷ bs) (suc n) h within le =
    completes_on w ts b bs n (step w ts b) refl le (λ r e le'. reach_completes r.0 r.1 bs n (step_tokens w ts b r h e) (le_of_suc-le-suc within) le')

onward_bound : (o : Option Rest) (f : Rest → ℕ) (n : ℕ) → ((r : Rest) → f r ≤ n) → onward o f ≤ suc n
onward_bound None f n h = zero-le
onward_bound (Some r) f n h = suc-le-suc (h r)

at_end_bound : (w : List ℕ) (ts : List (List ℕ)) → at_end w ts ≤ 1
at_end_bound [] [] = omega arith
at_end_bound [] (t ∷ ts) = zero-le
at_end_bound (c ∷ w) ts = zero-le

pub reach_bound : (w : List ℕ) (ts : List (List ℕ)) (bs : List ℕ) → reach w ts bs ≤ suc (length bs)
unfolding reach
reach_bound w ts [] = at_end_bound w ts
reach_bound w ts (b ∷ bs) = onward_bound (step w ts b) (λ r. reach r.0 r.1 bs) (suc (length bs)) (λ r. reach_bound r.0 r.1 bs)
