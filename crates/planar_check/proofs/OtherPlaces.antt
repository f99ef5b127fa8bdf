-- The other place of each place, as far as the places before the k-th tell it: where the k-th is met, only it and
-- the first place of its label change.
use Rattle.std.proofs.Common.{◌≡◌, ◌≢◌, ℕ, zero, suc, ◌+◌, ◌<◌, ◌≤◌, ◌==◌, Bool, true, false, cond, List, [], ◌∷◌, ◌++◌, length, set, slice_index, Option, Some, None, MatchOption, unwrap_or, ◌⊎◌, length-append, inl, inr, refl, sym, subst, ap, ◌∙◌, arith, ⊎_elim, ne_eqb, eq-eqb}
use Rattle.std.specs.List.{position_or_len, range_with_len}
use Rattle.std.proofs.lemmas.List.Sums.{position_or_len_is}
use Rattle.std.proofs.lemmas.Bool.{cases_Bool, cases_order, eqb-true, eqb-false, le-ltb, lt-ltb}
use Rattle.std.proofs.lemmas.List.{get_or-set_same, get_or-set_other, length-set, ext_get_or}
use Rattle.std.proofs.lemmas.List.FromFn.{length-map-range_with_len, get_or-map-range_with_len}
use Rattle.std.proofs.Math.ListN.{get_or-append}
use Rattle.std.proofs.Math.Seq.{get_or-append_seam}
use Rattle.planar_check.specs.Places.{first_passing, is_across, other_place, other_places, first_place}
use Rattle.planar_check.proofs.Others.{across, across_same, across_not}
use Rattle.list_lemmas.proofs.Ranges.{range_push}

-- the first of the first k places at which the label stands, if there is one
abbrev pub IsFirstMet : List ℕ → ℕ → ℕ → Option ℕ → Type 0
IsFirstMet labels k label first =
    MatchOption first
    ((q : ℕ) → q < k → slice_index labels q ≢ label)
    (λ f. (f < k) × (slice_index labels f ≡ label) × ((q : ℕ) → q < f → slice_index labels q ≢ label))

-- ---- the search in a list
module _ (test : ℕ → Bool) where
  first_passing-append : (xs ys : List ℕ) (none : ℕ) → first_passing test (xs ++ ys) none ≡ first_passing test xs (first_passing test ys none)
  first_passing-append [] ys none = refl
  first_passing-append (x ∷ xs) ys none = ap (cond (test x) x) (first_passing-append xs ys none)

  -- where nothing passed, nothing passes
  still_none : (xs : List ℕ) (d e : ℕ) → first_passing test xs d ≡ d → test d ≡ false → first_passing test xs e ≡ e
  still_none [] d e h t = refl
  still_none (x ∷ xs) d e h t =
      elim (cases_Bool (test x)) [
        | inl y ↦ absurd (
            let here : x ≡ d = sym (ap (λ (b : Bool). cond b x (first_passing test xs d)) y) ∙ h in
            let both : true ≡ false = sym y ∙ (ap test here ∙ t) in
            grind (arith, both))
        | inr y ↦ ap (λ (b : Bool). cond b x (first_passing test xs e)) y ∙ still_none xs d e (sym (ap (λ (b : Bool). cond b x (first_passing test xs d)) y) ∙ h) t
      ]

  -- where something passed, it is found whatever stands behind it
  still_found : (xs : List ℕ) (d e : ℕ) → first_passing test xs d ≢ d → first_passing test xs e ≡ first_passing test xs d
  still_found [] d e h = absurd (h refl)
  still_found (x ∷ xs) d e h =
      elim (cases_Bool (test x)) [
        | inl y ↦ ap (λ (b : Bool). cond b x (first_passing test xs e)) y ∙ sym (ap (λ (b : Bool). cond b x (first_passing test xs d)) y)
        | inr y ↦ (let step : first_passing test (x ∷ xs) d ≡ first_passing test xs d = ap (λ (b : Bool). cond b x (first_passing test xs d)) y in
            ap (λ (b : Bool). cond b x (first_passing test xs e)) y ∙ (still_found xs d e (λ r. h (step ∙ r)) ∙ sym step))
      ]

  -- the numbers from a on, up to the first that passes
  first_from : (a n f d : ℕ) → a ≤ f → f < a + n → test f ≡ true → ((q : ℕ) → a ≤ q → q < f → test q ≡ false) → first_passing test (range_with_len a n) d ≡ f
  first_from a zero f d h l t before = absurd (omega (arith, h, l))
  first_from a (suc n) f d h l t before =
      elim (cases_Bool (a == f)) [
        | inl e ↦ (let same = eqb-true a f e in ap (λ (b : Bool). cond b a (first_passing test (range_with_len (a + 1) n) d)) (ap test same ∙ t) ∙ same)
        | inr e ↦ (let other = eqb-false a f e in
            ap (λ (b : Bool). cond b a (first_passing test (range_with_len (a + 1) n) d)) (before a (omega arith) (omega (arith, other, h)))
            ∙ first_from (a + 1) n f d (omega (arith, other, h)) (omega (arith, l)) t (λ q g k. before q (omega (arith, g)) k))
      ]

  none_from : (a n d : ℕ) → ((q : ℕ) → a ≤ q → q < a + n → test q ≡ false) → first_passing test (range_with_len a n) d ≡ d
  none_from a zero d none = refl
  none_from a (suc n) d none =
      ap (λ (b : Bool). cond b a (first_passing test (range_with_len (a + 1) n) d)) (none a (omega arith) (omega arith))
      ∙ none_from (a + 1) n d (λ q g k. none q (omega (arith, g)) (omega (arith, k)))

-- ---- the other place of p, as far as the first k places tell it
module _ (labels : List ℕ) where
  abbrev pub other_so_far : ℕ → ℕ → ℕ
  other_so_far p k = first_passing (is_across labels p) (range_with_len 0 k) p

  one_more : (p k : ℕ) → other_so_far p (k + 1) ≡ first_passing (is_across labels p) (range_with_len 0 k) (cond (is_across labels p k) k p)
  one_more p k = ap (λ (ns : List ℕ). first_passing (is_across labels p) ns p) (range_push k) ∙ first_passing-append (is_across labels p) (range_with_len 0 k) (k ∷ []) p

  apart_from : (p q : ℕ) → slice_index labels q ≢ slice_index labels p → is_across labels p q ≡ false
  apart_from p q d = elim (cases_Bool (q == p)) [
    | inl e ↦ absurd (d (ap (slice_index labels) (eqb-true q p e)))
    | inr e ↦ across_not labels p q (eqb-false q p e) d
  ]

  -- f is the first place of the k-th place's label
  module _ (k f : ℕ) (f_last : f ≤ k) (label_is : slice_index labels f ≡ slice_index labels k) (before : (q : ℕ) → q < f → slice_index labels q ≢ slice_index labels k) where
    -- what a later place of the label finds
    finds_first : (p n d : ℕ) → f < n → f ≢ p → slice_index labels p ≡ slice_index labels k → first_passing (is_across labels p) (range_with_len 0 n) d ≡ f
    finds_first p n d h apart same =
        first_from (is_across labels p) 0 n f d (omega arith) (omega (arith, h)) (across labels p f apart (label_is ∙ sym same))
        (λ q g l. apart_from p q (λ e. before q l (e ∙ same)))

    -- the k-th place itself
    at_last : other_so_far k (k + 1) ≡ f
    at_last =
        elim (cases_Bool (f == k)) [
          | inl e ↦ (let same = eqb-true f k e in
              none_from (is_across labels k) 0 (k + 1) k (λ q g l. elim (cases_Bool (q == k)) [
                | inl s ↦ across_same labels k q (eqb-true q k s)
                | inr s ↦ apart_from k q (before q (let other = eqb-false q k s in omega (arith, other, same, l)))
              ]) ∙ sym same)
          | inr e ↦ (let other = eqb-false f k e in finds_first k (k + 1) k (omega (arith, f_last)) other refl)
        ]

    -- an earlier place that is not the first of the label
    at_other : (p : ℕ) → p < k → p ≢ f → other_so_far p (k + 1) ≡ other_so_far p k
    at_other p l apart =
        elim (cases_Bool (slice_index labels k == slice_index labels p)) [
          | inl e ↦ (
              let same : slice_index labels p ≡ slice_index labels k = sym (eqb-true (slice_index labels k) (slice_index labels p) e) in
              let later : f < p = ⊎_elim (λ s. absurd (apart (sym s))) (λ o. ⊎_elim (λ s. s) (λ s. absurd (before p s same)) o) (cases_order f p) in
              finds_first p (k + 1) p (omega (arith, later, l)) (λ s. apart (sym s)) same ∙ sym (finds_first p k p (omega (arith, later, l)) (λ s. apart (sym s)) same))
          | inr e ↦ one_more p k ∙ ap (λ (b : Bool). first_passing (is_across labels p) (range_with_len 0 k) (cond b k p)) (apart_from p k (eqb-false (slice_index labels k) (slice_index labels p) e))
        ]

    -- the first place of the label, where it had no other place, and where it had one
    at_first : f < k → other_so_far f k ≡ f → other_so_far f (k + 1) ≡ k
    at_first l none =
        let test : is_across labels f k ≡ true = across labels f k (λ e. absurd (omega (arith, e, l))) (sym label_is) in
        one_more f k ∙ (ap (λ (b : Bool). first_passing (is_across labels f) (range_with_len 0 k) (cond b k f)) test
        ∙ still_none (is_across labels f) (range_with_len 0 k) f k none (across_same labels f f refl))

    at_first_found : other_so_far f k ≢ f → other_so_far f (k + 1) ≡ other_so_far f k
    at_first_found found = one_more f k ∙ still_found (is_across labels f) (range_with_len 0 k) f (cond (is_across labels f k) k f) found

-- what the first place of a label is, where it was looked up
module _ (labels : List ℕ) (k : ℕ) where
  abbrev here : ℕ
  here = slice_index labels k

  pub record IsFirst (f : ℕ) : Type 0 where
    pub last : f ≤ k
    pub label_is : slice_index labels f ≡ here
    pub before : (q : ℕ) → q < f → slice_index labels q ≢ here

  first_is : (found : Option ℕ) → IsFirstMet labels k here found → IsFirst (unwrap_or found k)
  first_is None h = record { last = omega arith; label_is = refl; before = h }
  first_is (Some f) h = record { last = omega (arith, h.0); label_is = h.1; before = h.2 }

  met_same : (found : Option ℕ) → IsFirstMet labels k here found → IsFirstMet labels (k + 1) here (Some (unwrap_or found k))
  met_same found h = let f = first_is found h in (omega (arith, f.last), f.label_is, f.before)

  met_other : (label : ℕ) → here ≢ label → (found : Option ℕ) → IsFirstMet labels k label found → IsFirstMet labels (k + 1) label found
  met_other label apart None h = λ q l e.
      ⊎_elim (λ s. apart (sym (ap (slice_index labels) s) ∙ e)) (λ o. ⊎_elim (λ s. h q s e) (λ s. absurd (omega (arith, s, l))) o) (cases_order q k)
  met_other label apart (Some f) h = (omega (arith, h.0), h.1, h.2)

  -- THE FIRST PLACES, ONE PLACE MORE
  pub first_met_more : (label first : ℕ) (found old new : Option ℕ) → first ≡ unwrap_or found k → new ≡ cond (here == label) (Some first) old →
      IsFirstMet labels k here found → IsFirstMet labels k label old → IsFirstMet labels (k + 1) label new
  first_met_more label first found old new f n met before =
      let P : Option ℕ → Type 0 = λ o. IsFirstMet labels (k + 1) label o in
      subst P (sym n) (elim (cases_Bool (here == label)) [
        | inl e ↦ subst P (sym (ap (λ (b : Bool). cond b (Some first) old) e) ∙ refl)
            (let Q : ℕ → Type 0 = λ l. IsFirstMet labels (k + 1) l (Some first) in
            subst Q (eqb-true here label e) (subst (λ (m : ℕ). IsFirstMet labels (k + 1) here (Some m)) (sym f) (met_same found met)))
        | inr e ↦ subst P (sym (ap (λ (b : Bool). cond b (Some first) old) e)) (met_other label (eqb-false here label e) old before)
      ])

  -- THE OTHER PLACES, ONE PLACE MORE
  module _ (first : ℕ) (found : Option ℕ) (is : first ≡ unwrap_or found k) (met : IsFirstMet labels k here found)
      (old pushed new : List ℕ) (long : length old ≡ k) (are : (p : ℕ) → p < k → slice_index old p ≡ other_so_far labels p k)
      (push : pushed ≡ old ++ first ∷ []) (gave : new ≡ cond (slice_index pushed first == first) (set pushed first k) pushed) where
    facts : IsFirst first
    facts = subst IsFirst (sym is) (first_is found met)

    pushed_long : length pushed ≡ k + 1
    pushed_long = omega (arith, ap length push, length-append old (first ∷ []), long)

    pushed_before : (p : ℕ) → p < k → slice_index pushed p ≡ slice_index old p
    pushed_before p l = ap (λ (xs : List ℕ). slice_index xs p) push ∙ get_or-append old (first ∷ []) 0 p (omega (arith, l, long))

    pushed_last : slice_index pushed k ≡ first
    pushed_last = ap (λ (xs : List ℕ). slice_index xs k) push ∙ (ap (slice_index (old ++ first ∷ [])) (sym long) ∙ get_or-append_seam old first [] 0)

    first_within : first < length pushed
    first_within = omega (arith, pushed_long, facts.last)

    -- each place that keeps its other place
    unchanged : (p : ℕ) → p < k + 1 → (p ≢ first) ⊎ (slice_index pushed first ≢ first) → slice_index pushed p ≡ other_so_far labels p (k + 1)
    unchanged p l why =
        elim (cases_Bool (p == k)) [
          | inl e ↦ (let last = eqb-true p k e in
              ap (slice_index pushed) last ∙ (pushed_last ∙ (sym (at_last labels k first facts.last facts.label_is facts.before) ∙ ap (λ (m : ℕ). other_so_far labels m (k + 1)) (sym last))))
          | inr e ↦ (
              let earlier : p < k = (let other = eqb-false p k e in omega (arith, other, l)) in
              let now : slice_index pushed p ≡ other_so_far labels p k = pushed_before p earlier ∙ are p earlier in
              now ∙ sym (elim (cases_Bool (p == first)) [
                | inl s ↦ (let same = eqb-true p first s in
                    let found : other_so_far labels first k ≢ first =
                    λ (own : other_so_far labels first k ≡ first). ⊎_elim (λ a. a same) (λ a. a (pushed_before first (omega (arith, same, earlier)) ∙ (are first (omega (arith, same, earlier)) ∙ own))) why in
                    let Q : ℕ → Type 0 = λ m. other_so_far labels m (k + 1) ≡ other_so_far labels m k in
                    subst Q (sym same) (at_first_found labels k first facts.last facts.label_is facts.before found))
                | inr s ↦ at_other labels k first facts.last facts.label_is facts.before p earlier (eqb-false p first s)
              ]))
        ]

    -- where the first place had no other place, it is given the k-th
    given : slice_index pushed first ≡ first → (p : ℕ) → p < k + 1 → slice_index (set pushed first k) p ≡ other_so_far labels p (k + 1)
    given own p l =
        elim (cases_Bool (p == first)) [
          | inl e ↦ (let same = eqb-true p first e in
              ap (slice_index (set pushed first k)) same
              ∙ (get_or-set_same pushed first k 0 first_within
              ∙ (elim (cases_Bool (first == k)) [
                | inl s ↦ (let last = eqb-true first k s in sym (at_last labels k first facts.last facts.label_is facts.before ∙ last) ∙ ap (λ (m : ℕ). other_so_far labels m (k + 1)) (sym last))
                | inr s ↦ (let earlier : first < k = (let other = eqb-false first k s in omega (arith, other, facts.last)) in
                    sym (at_first labels k first facts.last facts.label_is facts.before earlier (sym (are first earlier) ∙ (sym (pushed_before first earlier) ∙ own))))
              ] ∙ ap (λ (m : ℕ). other_so_far labels m (k + 1)) (sym same))))
          | inr e ↦ (let other = eqb-false p first e in get_or-set_other pushed first p k 0 other ∙ unchanged p l (inl other))
        ]

    pub others_more : (p : ℕ) → p < k + 1 → slice_index new p ≡ other_so_far labels p (k + 1)
    others_more p l =
        ap (λ (xs : List ℕ). slice_index xs p) gave
        ∙ elim (cases_Bool (slice_index pushed first == first)) [
          | inl e ↦ ap (λ (b : Bool). slice_index (cond b (set pushed first k) pushed) p) e ∙ given (eqb-true (slice_index pushed first) first e) p l
          | inr e ↦ ap (λ (b : Bool). slice_index (cond b (set pushed first k) pushed) p) e ∙ unchanged p l (inr (eqb-false (slice_index pushed first) first e))
        ]

    pub new_long : length new ≡ k + 1
    new_long =
        ap length gave
        ∙ elim (cases_Bool (slice_index pushed first == first)) [
          | inl e ↦ ap (λ (b : Bool). length (cond b (set pushed first k) pushed)) e ∙ (length-set pushed first k ∙ pushed_long)
          | inr e ↦ ap (λ (b : Bool). length (cond b (set pushed first k) pushed)) e ∙ pushed_long
        ]

-- THE OTHER PLACES, WHEN EACH PLACE WAS MET
pub others_are : (labels : List ℕ) (k : ℕ) (others : List ℕ) → k ≡ length labels → length others ≡ k → ((p : ℕ) → p < k → slice_index others p ≡ other_so_far labels p k) → others ≡ other_places labels
unfolding other_place
others_are labels k others whole long are =
    let made = length-map-range_with_len (other_place labels) 0 (length labels) in
    ext_get_or 0 others (other_places labels) (omega (arith, long, whole, made)) (λ p l.
    let within : p < length labels = omega (arith, l, long, whole) in
    let here : 0 + p ≡ p = omega arith in
    are p (omega (arith, l, long))
    ∙ (ap (λ (n : ℕ). first_passing (is_across labels p) (range_with_len 0 n) p) whole
    ∙ sym (get_or-map-range_with_len (other_place labels) 0 (length labels) p p 0 within here)))

-- the first place of a label, when each place was met
pub first_place_met : (labels : List ℕ) (k label : ℕ) (found : Option ℕ) → k ≡ length labels → IsFirstMet labels k label found → found ≡ first_place labels label
first_place_met labels k label None whole none =
    let test : ℕ → Bool = λ other. other == label in
    let at : position_or_len test labels ≡ length labels =
    position_or_len_is test labels (length labels) 0 (omega arith) (λ j h. ne_eqb (slice_index labels j) label (none j (omega (arith, h, whole)))) (λ h. absurd (omega (arith, h))) in
    sym (ap (λ (b : Bool). cond b (Some (position_or_len test labels)) None) (le-ltb (position_or_len test labels) (length labels) (omega (arith, at))))
first_place_met labels k label (Some f) whole h =
    let test : ℕ → Bool = λ other. other == label in
    let within : f < length labels = (let l = h.0 in omega (arith, l, whole)) in
    let at : position_or_len test labels ≡ f =
    position_or_len_is test labels f 0 (omega (arith, within)) (λ j l. ne_eqb (slice_index labels j) label (h.2 j l)) (λ l. eq-eqb (slice_index labels f) label h.1) in
    sym (ap (λ (b : Bool). cond b (Some (position_or_len test labels)) None) (lt-ltb (position_or_len test labels) (length labels) (omega (arith, at, within))) ∙ ap (λ (q : ℕ). Some q) at)
