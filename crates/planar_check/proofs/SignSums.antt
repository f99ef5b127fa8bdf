-- One crossing more in the table of the sums of signs between components.
use Rattle.std.proofs.Common.{◌≡◌, ◌≢◌, ◌⊎◌, ◌-◌, ℕ, ◌+◌, ◌*◌, ◌/◌, ◌<◌, ◌≤◌, ◌^◌, ◌==◌, ◌&&◌, Bool, true, false, not, cond, ℤ, pos, ◌+ℤ◌, ◌-ℤ◌, List, [], ◌∷◌, ◌++◌, length, count_by, get_or, set, refl, sym, ap, ap₂, ◌∙◌, arith, ⊎_elim, inl, inr, unsigned_abs}
use Rattle.std.proofs.lemmas.Bool.{cases_Bool, eq-eqb, eqb-true, eqb-false}
use Rattle.std.proofs.lemmas.Bool.Decides.{nat_tests}
use Rattle.std.proofs.lemmas.Nat.{div-mul-add, mul-add-lt}
use Rattle.std.proofs.lemmas.Int.{ints}
use Rattle.std.proofs.lemmas.List.{get_or-set_same, get_or-set_other, length-set}
use Rattle.std.proofs.lemmas.List.Sums.{sum_by-append, count_by-le-length}
use Rattle.planar_check.specs.declared.sign.Sign.{Sign}
use Rattle.planar_check.specs.declared.sign.Sign.TheVariants as signs
use Rattle.planar_check.specs.declared.sign.Signed.{Signed}
use Rattle.planar_check.specs.Signs.{is_between, is_plus, signs_between}
use Rattle.planar_check.specs.Tables.{sign_value, IsWithin, AreSignSums}

-- ---- sums of signs
abbrev once : Bool → ℕ
once b = cond b 1 0

count-push : (p : Signed → Bool) (xs : List Signed) (x : Signed) → count_by p (xs ++ x ∷ []) ≡ count_by p xs + once (p x)
count-push p xs x = let split = sum_by-append (λ (s : Signed). once (p s)) xs (x ∷ []) in omega (arith, split)

-- what a crossing adds
abbrev pub added_sign : ℕ → ℕ → Signed → ℤ
added_sign i j x = cond (is_between i j x) (sign_value x.sign) (pos 0)

one_more : (b : Bool) (g : Sign) (p m q n : ℕ) → q ≡ p + once (b && is_plus g) → n ≡ m + once (b && not (is_plus g)) → pos q -ℤ pos n ≡ (pos p -ℤ pos m) +ℤ cond b (sign_value g) (pos 0)
one_more true signs.Plus p m q n e f = omega (arith, ints, e, f)
one_more true signs.Minus p m q n e f = omega (arith, ints, e, f)
one_more false signs.Plus p m q n e f = omega (arith, ints, e, f)
one_more false signs.Minus p m q n e f = omega (arith, ints, e, f)

pub signs_between-push : (i j : ℕ) (xs : List Signed) (x : Signed) → signs_between i j (xs ++ x ∷ []) ≡ signs_between i j xs +ℤ added_sign i j x
signs_between-push i j xs x =
    let plus : Signed → Bool = λ s. is_between i j s && is_plus s.sign in
    let minus : Signed → Bool = λ s. is_between i j s && not (is_plus s.sign) in
    one_more (is_between i j x) x.sign (count_by plus xs) (count_by minus xs) (count_by plus (xs ++ x ∷ [])) (count_by minus (xs ++ x ∷ [])) (count-push plus xs x) (count-push minus xs x)

-- ---- places
pub place_below : (n i j : ℕ) → i < n → j < n → i * n + j < n * n
place_below n i j h k = mul-add-lt i n j n h k

same_place : (n i j a b : ℕ) → j < n → b < n → i * n + j ≡ a * n + b → (i ≡ a) × (j ≡ b)
same_place n i j a b h k e =
    let row : i ≡ a = sym (div-mul-add i n j h) ∙ (ap (λ m. m / n) e ∙ div-mul-add a n b k) in
    let times : i * n ≡ a * n = ap (λ m. m * n) row in
    (row, omega (arith, e, times))

-- ---- a sum of signs is at most as large as the crossings are many
difference_small : (p m k : ℕ) → p ≤ k → m ≤ k → unsigned_abs (pos p -ℤ pos m) ≤ k
difference_small p m k h g = omega (arith, ints, h, g)

pub sum_small : (i j : ℕ) (list : List Signed) → unsigned_abs (signs_between i j list) ≤ length list
sum_small i j list =
    difference_small _ _ (length list)
    (count_by-le-length (λ (s : Signed). is_between i j s && is_plus s.sign) list)
    (count_by-le-length (λ (s : Signed). is_between i j s && not (is_plus s.sign)) list)

-- ---- the table with one crossing more
between_yes : (i j : ℕ) (x : Signed) → ((x.under ≡ i) × (x.over ≡ j)) ⊎ ((x.under ≡ j) × (x.over ≡ i)) → is_between i j x ≡ true
between_yes i j x (inl h) = rw (eq-eqb x.under i h.0, eq-eqb x.over j h.1) refl
between_yes i j x (inr h) = grind (arith, nat_tests, h)

between_cases : (i j : ℕ) (x : Signed) → is_between i j x ≡ true → ((x.under ≡ i) × (x.over ≡ j)) ⊎ ((x.under ≡ j) × (x.over ≡ i))
between_cases i j x h = grind (arith, nat_tests, h)

module _ (n : ℕ) (x : Signed) (within : IsWithin n x) (apart : x.under ≢ x.over) (sums : List ℤ) where
  abbrev first : ℕ
  first = (x.under - 1) * n + (x.over - 1)

  abbrev second : ℕ
  second = (x.over - 1) * n + (x.under - 1)

  abbrev once_set : List ℤ
  once_set = set sums first (get_or sums first (pos 0) +ℤ sign_value x.sign)

  abbrev twice_set : List ℤ
  twice_set = set once_set second (get_or once_set second (pos 0) +ℤ sign_value x.sign)

  module _ (list : List Signed) (are : AreSignSums n list sums) where
    pub first_below : first < length sums
    first_below = omega (arith, are.full, place_below n (x.under - 1) (x.over - 1) (omega (arith, within.under_first, within.under_last)) (omega (arith, within.over_first, within.over_last)))

    pub second_below : second < length once_set
    second_below = omega (arith, are.full, length-set sums first (get_or sums first (pos 0) +ℤ sign_value x.sign), place_below n (x.over - 1) (x.under - 1) (omega (arith, within.over_first, within.over_last)) (omega (arith, within.under_first, within.under_last)))

    pub first_small : length list < 2 ^ 32 → unsigned_abs (get_or sums first (pos 0)) < 2 ^ 32
    first_small few =
        let is = are.between (x.under - 1) (x.over - 1) (omega (arith, within.under_first, within.under_last)) (omega (arith, within.over_first, within.over_last)) (λ e. apart (omega (arith, e, within.under_first, within.over_first))) in
        omega (arith, ap unsigned_abs is, sum_small (x.under - 1 + 1) (x.over - 1 + 1) list, few)

    places_apart : second ≢ first
    places_apart e =
        let same = same_place n (x.over - 1) (x.under - 1) (x.under - 1) (x.over - 1) (omega (arith, within.under_first, within.under_last)) (omega (arith, within.over_first, within.over_last)) e in
        apart (omega (arith, same.0, within.under_first, within.over_first))

    second_kept : get_or once_set second (pos 0) ≡ get_or sums second (pos 0)
    second_kept = get_or-set_other sums first second (get_or sums first (pos 0) +ℤ sign_value x.sign) (pos 0) places_apart

    pub second_small : length list < 2 ^ 32 → unsigned_abs (get_or once_set second (pos 0)) < 2 ^ 32
    second_small few =
        let is = are.between (x.over - 1) (x.under - 1) (omega (arith, within.over_first, within.over_last)) (omega (arith, within.under_first, within.under_last)) (λ e. apart (omega (arith, e, within.under_first, within.over_first))) in
        omega (arith, ap unsigned_abs (second_kept ∙ is), sum_small (x.over - 1 + 1) (x.under - 1 + 1) list, few)

    -- an entry at a place to which the sign was added, and one elsewhere
    entry_more : (i j : ℕ) (old new : ℤ) → old ≡ signs_between (i + 1) (j + 1) list → new ≡ old +ℤ sign_value x.sign → is_between (i + 1) (j + 1) x ≡ true → new ≡ signs_between (i + 1) (j + 1) (list ++ x ∷ [])
    entry_more i j old new o e t =
        e ∙ (ap₂ (λ a b. a +ℤ b) o (sym (ap (λ (b : Bool). cond b (sign_value x.sign) (pos 0)) t)) ∙ sym (signs_between-push (i + 1) (j + 1) list x))

    nothing_added : (z : ℤ) → z ≡ z +ℤ pos 0
    nothing_added z = omega (arith, ints)

    entry_same : (i j : ℕ) (old new : ℤ) → old ≡ signs_between (i + 1) (j + 1) list → new ≡ old → is_between (i + 1) (j + 1) x ≡ false → new ≡ signs_between (i + 1) (j + 1) (list ++ x ∷ [])
    entry_same i j old new o e t =
        e ∙ (nothing_added old ∙ (ap₂ (λ a b. a +ℤ b) o (sym (ap (λ (b : Bool). cond b (sign_value x.sign) (pos 0)) t)) ∙ sym (signs_between-push (i + 1) (j + 1) list x)))

    at_second : (i j : ℕ) → i < n → j < n → i ≢ j → i * n + j ≡ second → get_or twice_set (i * n + j) (pos 0) ≡ signs_between (i + 1) (j + 1) (list ++ x ∷ [])
    at_second i j h k d e =
        let same = same_place n i j (x.over - 1) (x.under - 1) k (omega (arith, within.under_first, within.under_last)) e in
        let is : get_or twice_set (i * n + j) (pos 0) ≡ get_or sums (i * n + j) (pos 0) +ℤ sign_value x.sign =
        ap (λ m. get_or twice_set m (pos 0)) e
        ∙ (get_or-set_same once_set second (get_or once_set second (pos 0) +ℤ sign_value x.sign) (pos 0) second_below
        ∙ ap (λ z. z +ℤ sign_value x.sign) (second_kept ∙ ap (λ m. get_or sums m (pos 0)) (sym e))) in
        entry_more i j (get_or sums (i * n + j) (pos 0)) (get_or twice_set (i * n + j) (pos 0)) (are.between i j h k d) is
        (between_yes (i + 1) (j + 1) x (inr ((omega (arith, same.1, within.under_first)), (omega (arith, same.0, within.over_first)))))

    at_first : (i j : ℕ) → i < n → j < n → i ≢ j → i * n + j ≢ second → i * n + j ≡ first → get_or twice_set (i * n + j) (pos 0) ≡ signs_between (i + 1) (j + 1) (list ++ x ∷ [])
    at_first i j h k d other e =
        let same = same_place n i j (x.under - 1) (x.over - 1) k (omega (arith, within.over_first, within.over_last)) e in
        let is : get_or twice_set (i * n + j) (pos 0) ≡ get_or sums (i * n + j) (pos 0) +ℤ sign_value x.sign =
        get_or-set_other once_set second (i * n + j) (get_or once_set second (pos 0) +ℤ sign_value x.sign) (pos 0) other
        ∙ (ap (λ m. get_or once_set m (pos 0)) e
        ∙ (get_or-set_same sums first (get_or sums first (pos 0) +ℤ sign_value x.sign) (pos 0) first_below
        ∙ ap (λ m. get_or sums m (pos 0) +ℤ sign_value x.sign) (sym e))) in
        entry_more i j (get_or sums (i * n + j) (pos 0)) (get_or twice_set (i * n + j) (pos 0)) (are.between i j h k d) is
        (between_yes (i + 1) (j + 1) x (inl ((omega (arith, same.0, within.under_first)), (omega (arith, same.1, within.over_first)))))

    elsewhere : (i j : ℕ) → i < n → j < n → i ≢ j → i * n + j ≢ second → i * n + j ≢ first → get_or twice_set (i * n + j) (pos 0) ≡ signs_between (i + 1) (j + 1) (list ++ x ∷ [])
    elsewhere i j h k d other another =
        let is : get_or twice_set (i * n + j) (pos 0) ≡ get_or sums (i * n + j) (pos 0) =
        get_or-set_other once_set second (i * n + j) (get_or once_set second (pos 0) +ℤ sign_value x.sign) (pos 0) other
        ∙ get_or-set_other sums first (i * n + j) (get_or sums first (pos 0) +ℤ sign_value x.sign) (pos 0) another in
        let place : (a b : ℕ) → a ≡ i → b ≡ j → a * n + b ≡ i * n + j = λ a b p q. ap₂ (λ u v. u * n + v) p q in
        entry_same i j (get_or sums (i * n + j) (pos 0)) (get_or twice_set (i * n + j) (pos 0)) (are.between i j h k d) is
        (elim (cases_Bool (is_between (i + 1) (j + 1) x)) [
          | inl t ↦ absurd (⊎_elim
              (λ c. another (sym (place (x.under - 1) (x.over - 1) (omega (arith, c.0)) (omega (arith, c.1)))))
              (λ c. other (sym (place (x.over - 1) (x.under - 1) (omega (arith, c.1)) (omega (arith, c.0)))))
              (between_cases (i + 1) (j + 1) x t))
          | inr t ↦ t
        ])

    -- ONE CROSSING MORE
    pub twice_set_are : AreSignSums n (list ++ x ∷ []) twice_set
    twice_set_are = record {
      full = length-set once_set second (get_or once_set second (pos 0) +ℤ sign_value x.sign) ∙ (length-set sums first (get_or sums first (pos 0) +ℤ sign_value x.sign) ∙ are.full);
      between = λ i j h k d. elim (cases_Bool (i * n + j == second)) [
        | inl s ↦ at_second i j h k d (eqb-true (i * n + j) second s)
        | inr s ↦ elim (cases_Bool (i * n + j == first)) [
          | inl f ↦ at_first i j h k d (eqb-false (i * n + j) second s) (eqb-true (i * n + j) first f)
          | inr f ↦ elsewhere i j h k d (eqb-false (i * n + j) second s) (eqb-false (i * n + j) first f)
        ]
      ];
    }

-- a crossing of a component with itself is between no two
pub itself_skipped : (n : ℕ) (x : Signed) (sums : List ℤ) (list : List Signed) → x.under ≡ x.over → AreSignSums n list sums → AreSignSums n (list ++ x ∷ []) sums
itself_skipped n x sums list same are = record {
  full = are.full;
  between = λ i j h k d.
      let none : is_between (i + 1) (j + 1) x ≡ false =
      (elim (cases_Bool (is_between (i + 1) (j + 1) x)) [
        | inl t ↦ absurd (⊎_elim (λ c. d (omega (arith, c.0, c.1, same))) (λ c. d (omega (arith, c.0, c.1, same))) (between_cases (i + 1) (j + 1) x t))
        | inr t ↦ t
      ]) in
      let nothing : (z : ℤ) → z ≡ z +ℤ pos 0 = λ z. omega (arith, ints) in
      are.between i j h k d
      ∙ (nothing (signs_between (i + 1) (j + 1) list)
      ∙ (ap (λ b. signs_between (i + 1) (j + 1) list +ℤ cond b (sign_value x.sign) (pos 0)) (sym none) ∙ sym (signs_between-push (i + 1) (j + 1) list x)));
}
