-- Sums and walks over all colourings, from those over the colourings that all faces allow; and numbers by digits.
--
--     sum_kept              what is 0 where a test fails sums alike over what passes it
--     walk_kept             so does a walk that finds nothing there
--     digits_from           a number by digits, the last of them fastest
--     numbered              each colouring of a list has its place as its number
use Rattle.std.proofs.Common.{◌≡◌, ℕ, zero, suc, ◌+◌, ◌*◌, ◌/◌, ◌%◌, ◌^◌, ◌<◌, ◌≤◌, Bool, true, false, cond, ℤ, pos, ◌+ℤ◌, List, [], ◌∷◌, ◌++◌, length, get_or, slice_index, drop, filter, Option, Some, None, refl, sym, ap, ap₂, subst, subst₂, ◌∙◌, arith, add-one, All}
use Rattle.std.specs.List.{range_with_len}
use Rattle.std.specs.Option.{option_or}
use Rattle.std.proofs.lemmas.List.FromFn.{length-range_with_len, get_or-range_with_len}
use Rattle.std.proofs.lemmas.Nat.{div-add-mod', mod_below}
use Rattle.std.proofs.Math.Nat.{pow-zero, pow-suc, suc-mul, mul-le-mul_right, pow-le-pow_right}
use Rattle.std.proofs.lemmas.List.{drop_more, drop_all}
use Rattle.ring_identities.proofs.Integers.{zero_plus}
use Rattle.coloured_values.specs.Surgery.{colour_lists, sum_over}
use Rattle.list_lemmas.proofs.Ranges.{All-below}
use Rattle.kirby_terms.proofs.ColourLists.{list_more, quotient_below, lists_count, list_length, all_colours}
use Rattle.tetra_sum.specs.declared.fault.TetraFault.{TetraFault}
use Rattle.tetra_sum.specs.Refusals.{first_of}

-- a number that is not looked at
pub unnumbered : {X : Type 0} (g : X → Option TetraFault) (m n : ℕ) (xs : List X) → first_of (λ _ x. g x) m xs ≡ first_of (λ _ x. g x) n xs
unnumbered g m n [] = refl
unnumbered g m n (x ∷ xs) = ap (option_or (g x)) (unnumbered g (m + 1) (n + 1) xs)

-- ---- what is left out
module _ {X : Type 0} (ok : X → Bool) where
  pub sum_kept : (f : X → ℤ) → ((x : X) → ok x ≡ false → f x ≡ pos 0) → (xs : List X) → sum_over f (filter ok xs) ≡ sum_over f xs
  sum_kept f none [] = refl
  sum_kept f none (x ∷ xs) = by_test (ok x) refl (sum_kept f none xs)
    where
      by_test : (b : Bool) → ok x ≡ b → sum_over f (filter ok xs) ≡ sum_over f xs → sum_over f (filter ok (x ∷ xs)) ≡ sum_over f (x ∷ xs)
      by_test true e rest = ap (λ t. sum_over f (cond t (x ∷ filter ok xs) (filter ok xs))) e ∙ ap (λ s. f x +ℤ s) rest
      by_test false e rest =
          ap (λ t. sum_over f (cond t (x ∷ filter ok xs) (filter ok xs))) e
          ∙ rest
          ∙ sym (ap (λ y. y +ℤ sum_over f xs) (none x e) ∙ zero_plus (sum_over f xs))

  -- the first refusal, where each member has its own number
  pub first_kept : (f : ℕ → X → Option TetraFault) (number : X → ℕ) → ((n : ℕ) (x : X) → ok x ≡ false → f n x ≡ None) → (n : ℕ) (d : X) (xs : List X) →
      ((k : ℕ) → k < length xs → ok (get_or xs k d) ≡ true → number (get_or xs k d) ≡ n + k) →
      first_of (λ _ x. f (number x) x) 0 (filter ok xs) ≡ first_of f n xs
  first_kept f number none n d [] at = refl
  first_kept f number none n d (x ∷ xs) at =
      by_test (ok x) refl (first_kept f number none (n + 1) d xs (λ k h e. let later = at (suc k) (omega (arith, h)) e in omega (arith, later)))
    where
      by_test : (b : Bool) → ok x ≡ b → first_of (λ _ y. f (number y) y) 0 (filter ok xs) ≡ first_of f (n + 1) xs → first_of (λ _ y. f (number y) y) 0 (filter ok (x ∷ xs)) ≡ first_of f n (x ∷ xs)
      by_test true e rest =
          let here : number x ≡ n = (let first = at zero (omega arith) e in omega (arith, first)) in
          ap (λ t. first_of (λ _ y. f (number y) y) 0 (cond t (x ∷ filter ok xs) (filter ok xs))) e
          ∙ ap₂ (λ m back. option_or (f m x) back) here (unnumbered (λ y. f (number y) y) 1 0 (filter ok xs) ∙ rest)
      by_test false e rest =
          ap (λ t. first_of (λ _ y. f (number y) y) 0 (cond t (x ∷ filter ok xs) (filter ok xs))) e
          ∙ rest
          ∙ sym (ap (λ o. option_or o (first_of f (n + 1) xs)) (none n x e))

-- ---- a walk, step by step
pub passed_one : {X : Type 0} (f : ℕ → X → Option TetraFault) (n : ℕ) (x : X) (xs : List X) → f n x ≡ None → first_of f n (x ∷ xs) ≡ first_of f (n + 1) xs
passed_one f n x xs e = ap (λ o. option_or o (first_of f (n + 1) xs)) e

pub stopped_at : {X : Type 0} (f : ℕ → X → Option TetraFault) (n : ℕ) (x : X) (xs : List X) (fault : TetraFault) → f n x ≡ Some fault → first_of f n (x ∷ xs) ≡ Some fault
stopped_at f n x xs fault e = ap (λ o. option_or o (first_of f (n + 1) xs)) e

-- ---- digits
pub digits_from : ℕ → ℕ → List ℕ → ℕ
digits_from s n [] = n
digits_from s n (c ∷ cs) = digits_from s (n * s + c) cs

pub digits-nil : (s n : ℕ) → digits_from s n [] ≡ n
unfolding digits_from
digits-nil s n = refl

pub digits-cons : (s n c : ℕ) (cs : List ℕ) → digits_from s n (c ∷ cs) ≡ digits_from s (n * s + c) cs
unfolding digits_from
digits-cons s n c cs = refl

digits-last : (s n c : ℕ) (cs : List ℕ) → digits_from s n (cs ++ c ∷ []) ≡ digits_from s n cs * s + c
unfolding digits_from
digits-last s n c [] = refl
digits-last s n c (d ∷ cs) = digits-last s (n * s + d) c cs

-- THE DIGITS OF A COLOURING ARE ITS PLACE
pub place_of : (s n k : ℕ) → 0 < s → k < s ^ n → digits_from s 0 (get_or (colour_lists (range_with_len 0 s) n) k []) ≡ k
unfolding digits_from
place_of s zero k some h = let z = pow-zero s in none k (omega (arith, h, z))
  where
    none : (k : ℕ) → k < 1 → digits_from s 0 (get_or (colour_lists (range_with_len 0 s) zero) k []) ≡ k
    none zero b = refl
    none (suc k) b = absurd (omega (arith, b))
place_of s (suc n) k some h =
    let colours = range_with_len 0 s in
    let long = length-range_with_len 0 s in
    let more : k < length colours ^ suc n = subst (λ (t : ℕ). k < t ^ suc n) (sym long) h in
    let before = place_of s n (k / s) some (quotient_below s n k some h) in
    let last : slice_index colours (k % s) ≡ k % s = get_or-range_with_len 0 s (k % s) 0 (mod_below k s some) ∙ omega arith in
    ap (digits_from s 0) (list_more colours n k (omega (arith, long, some)) more)
    ∙ ap (λ t. digits_from s 0 (get_or (colour_lists colours n) (k / t) [] ++ slice_index colours (k % t) ∷ [])) long
    ∙ digits-last s 0 (slice_index colours (k % s)) (get_or (colour_lists colours n) (k / s) [])
    ∙ ap₂ (λ q c. q * s + c) before last
    ∙ div-add-mod' k s

-- a digit more stays below the power
pub digit_more : (s n c k t y : ℕ) → 0 < s → n < s ^ k → c < s → t ≡ s → y ≡ c → n * t + y < s ^ (k + 1)
digit_more s n c k t y some low digit t_is y_is =
    let next : suc n ≤ s ^ k = omega (arith, low) in
    let whole : suc n * s ≤ s ^ k * s = mul-le-mul_right s next in
    let more = suc-mul n s in
    let power : s ^ (k + 1) ≡ s ^ k * s = ap (λ j. s ^ j) (add-one k) ∙ pow-suc s k in
    let here : n * s + c < s ^ (k + 1) = omega (arith, whole, more, power, digit) in
    subst₂ (λ (u v : ℕ). n * u + v < s ^ (k + 1)) (sym t_is) (sym y_is) here

pub power_within : (s k n : ℕ) → 0 < s → k < n → s ^ (k + 1) ≤ s ^ n
power_within s k n some h = pow-le-pow_right some (omega (arith, h))

pub digit_read : (s n t y k : ℕ) (cs : List ℕ) (whole : ℕ) → k < length cs → t ≡ s → y ≡ get_or cs k 0 → digits_from s n (drop k cs) ≡ whole → digits_from s (n * t + y) (drop (k + 1) cs) ≡ whole
digit_read s n t y k cs whole h t_is y_is e =
    ap₂ (λ u v. digits_from s (n * u + v) (drop (k + 1) cs)) t_is y_is
    ∙ sym (digits-cons s n (get_or cs k 0) (drop (k + 1) cs))
    ∙ ap (digits_from s n) (sym (drop_more cs k 0 h))
    ∙ e

pub digits_read : (s n k : ℕ) (cs : List ℕ) (whole : ℕ) → length cs ≤ k → digits_from s n (drop k cs) ≡ whole → n ≡ whole
digits_read s n k cs whole h e = sym (digits-nil s n) ∙ ap (digits_from s n) (sym (drop_all k cs h)) ∙ e

-- ---- a member of what is kept
pub record IsKept {X : Type 0} (ok : X → Bool) (xs : List X) (d x : X) : Type 0 where
  pub place : ℕ
  pub below : place < length xs
  pub there : get_or xs place d ≡ x
  pub passes : ok x ≡ true

module _ {X : Type 0} (ok : X → Bool) where
  deeper : (y : X) (xs : List X) (d x : X) → IsKept ok xs d x → IsKept ok (y ∷ xs) d x
  deeper y xs d x h = record { place = suc h.place; below = (let b = h.below in omega (arith, b)); there = h.there; passes = h.passes }

  pub kept_at : (xs : List X) (i : ℕ) (d : X) → i < length (filter ok xs) → IsKept ok xs d (get_or (filter ok xs) i d)
  kept_at [] i d h = absurd (omega (arith, h))
  kept_at (x ∷ xs) i d h = by_test (ok x) refl i h (λ k l. deeper x xs d (get_or (filter ok xs) k d) (kept_at xs k d l))
    where
      by_test : (b : Bool) → ok x ≡ b → (i : ℕ) → i < length (cond (ok x) (x ∷ filter ok xs) (filter ok xs)) → ((k : ℕ) → k < length (filter ok xs) → IsKept ok (x ∷ xs) d (get_or (filter ok xs) k d))
          → IsKept ok (x ∷ xs) d (get_or (cond (ok x) (x ∷ filter ok xs) (filter ok xs)) i d)
      by_test false e i h rest =
          let P : List X → Type 0 = λ list. IsKept ok (x ∷ xs) d (get_or list i d) in
          let l : i < length (filter ok xs) = subst (λ (t : Bool). i < length (cond t (x ∷ filter ok xs) (filter ok xs))) e h in
          subst P (sym (ap (λ t. cond t (x ∷ filter ok xs) (filter ok xs)) e)) (rest i l)
      by_test true e zero h rest =
          let P : List X → Type 0 = λ list. IsKept ok (x ∷ xs) d (get_or list zero d) in
          subst P (sym (ap (λ t. cond t (x ∷ filter ok xs) (filter ok xs)) e)) (record { place = zero; below = omega arith; there = refl; passes = e })
      by_test true e (suc i) h rest =
          let P : List X → Type 0 = λ list. IsKept ok (x ∷ xs) d (get_or list (suc i) d) in
          let l : suc i < length (x ∷ filter ok xs) = subst (λ (t : Bool). suc i < length (cond t (x ∷ filter ok xs) (filter ok xs))) e h in
          subst P (sym (ap (λ t. cond t (x ∷ filter ok xs) (filter ok xs)) e)) (rest i (omega (arith, l)))

-- A COLOURING THAT IS KEPT: its length, its colours and its number
pub record IsColouring (s n : ℕ) (colours : List ℕ) : Type 0 where
  pub place : ℕ
  pub below : place < s ^ n
  pub there : get_or (colour_lists (range_with_len 0 s) n) place [] ≡ colours
  pub count : length colours ≡ n
  pub few : All (λ colour. colour < s) colours
  pub digits : digits_from s 0 colours ≡ place

pub is_colouring : (s n k : ℕ) (colours : List ℕ) → 0 < s → k < length (colour_lists (range_with_len 0 s) n) → get_or (colour_lists (range_with_len 0 s) n) k [] ≡ colours → IsColouring s n colours
is_colouring s n k colours some h e =
    let range = range_with_len 0 s in
    let long = length-range_with_len 0 s in
    let count = lists_count range n in
    let more : k < length range ^ n = omega (arith, h, count) in
    let here : k < s ^ n = subst (λ (t : ℕ). k < t ^ n) long more in
    let P : ℕ → Type 0 = λ colour. colour < s in
    let some_colours : 0 < length range = omega (arith, some, long) in
    record {
      place = k;
      below = here;
      there = e;
      count = ap length (sym e) ∙ list_length range n k some_colours more;
      few = subst (All P) e (all_colours P range n k some_colours more (All-below P s (λ x l. l)));
      digits = ap (digits_from s 0) (sym e) ∙ place_of s n k some here;
    }

-- the digits of the member at a place
pub digits_at : (s n k : ℕ) → 0 < s → k < length (colour_lists (range_with_len 0 s) n) → digits_from s 0 (get_or (colour_lists (range_with_len 0 s) n) k []) ≡ k
digits_at s n k some h =
    let range = range_with_len 0 s in
    let count = lists_count range n in
    place_of s n k some (subst (λ (t : ℕ). k < t ^ n) (length-range_with_len 0 s) (omega (arith, h, count)))
