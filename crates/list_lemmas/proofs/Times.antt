-- How often a number stands in a list: in longer lists, in what a test keeps, in images, and that members are what stands there.
use Rattle.std.proofs.Common.{◌≡◌, ℕ, ◌+◌, ◌≤◌, ◌==◌, Bool, true, false, cond, ⊎_elim, List, [], ◌∷◌, ◌++◌, map, refl, sym, ap, ◌∙◌, arith}
use Rattle.std.specs.List.{filter}
use Rattle.std.specs.Set.{is_member}
use Rattle.std.proofs.lemmas.Bool.{cases_Bool, eq-eqb, or_left, or_right}
use Rattle.std.proofs.lemmas.Bool.Decides.{nat_tests}
use Rattle.std.proofs.lemmas.List.Sums.{sum_by-cons, sum_by-append}
use Rattle.list_lemmas.specs.Times.{times_in}

pub times_in-cons : (y : ℕ) (xs : List ℕ) (x : ℕ) → times_in (y ∷ xs) x ≡ cond (x == y) 1 0 + times_in xs x
times_in-cons y xs x = sum_by-cons (λ z. cond (x == z) 1 0) y xs

pub times_in-append : (xs ys : List ℕ) (x : ℕ) → times_in (xs ++ ys) x ≡ times_in xs x + times_in ys x
times_in-append xs ys x = sum_by-append (λ z. cond (x == z) 1 0) xs ys

pub times_in-pair : (a b : ℕ) (xs : List ℕ) (x : ℕ) → times_in (a ∷ b ∷ xs) x ≡ cond (x == a) 1 0 + cond (x == b) 1 0 + times_in xs x
times_in-pair a b xs x = let e = times_in-cons a (b ∷ xs) x in let f = times_in-cons b xs x in omega (arith, e, f)

-- What a test keeps stands as often as before.
pub times_in-filter : (test : ℕ → Bool) (xs : List ℕ) (x : ℕ) → times_in (filter test xs) x ≡ cond (test x) (times_in xs x) 0
times_in-filter test [] x = grind arith
times_in-filter test (y ∷ xs) x =
    let ih = times_in-filter test xs x in
    let a = times_in-cons y xs x in
    let b = times_in-cons y (filter test xs) x in
    ⊎_elim
    (λ t. ap {B = ℕ} (λ c. times_in (cond c (y ∷ filter test xs) (filter test xs)) x) t ∙ (let f : x ≡ y → test x ≡ true = λ e. ap test e ∙ t in grind (arith, nat_tests, ih, a, b, f)))
    (λ t. ap {B = ℕ} (λ c. times_in (cond c (y ∷ filter test xs) (filter test xs)) x) t ∙ (let f : x ≡ y → test x ≡ false = λ e. ap test e ∙ t in grind (arith, nat_tests, ih, a, b, f)))
    (cases_Bool (test y))

-- A member stands there at least once, and what stands there is a member.
pub times_of_member : (x : ℕ) (xs : List ℕ) → is_member ◌==◌ xs x ≡ true → 1 ≤ times_in xs x
times_of_member x [] m = absurd (grind (arith, m))
times_of_member x (y ∷ xs) m = let ih = times_of_member x xs in let e = times_in-cons y xs x in grind (arith, nat_tests, ih, e, m)

pub member_of_times : (x : ℕ) (xs : List ℕ) → 1 ≤ times_in xs x → is_member ◌==◌ xs x ≡ true
member_of_times x [] m = absurd (omega arith)
member_of_times x (y ∷ xs) m = let ih = member_of_times x xs in let e = times_in-cons y xs x in grind (arith, nat_tests, ih, e, m)

-- What is no member stands nowhere.
pub times_none : (xs : List ℕ) (x : ℕ) → is_member ◌==◌ xs x ≡ false → times_in xs x ≡ 0
times_none xs x none = let m = member_of_times x xs in grind (arith, none, m)

-- Mapped one to one, a number stands as often as its image.
pub times_in-map : (f g : ℕ → ℕ) (xs : List ℕ) (x : ℕ) → ((y : ℕ) → is_member ◌==◌ xs y ≡ true → g (f y) ≡ y) → g (f x) ≡ x → times_in (map f xs) (f x) ≡ times_in xs x
times_in-map f g [] x h k = refl
times_in-map f g (y ∷ xs) x h k =
    let ih = times_in-map f g xs x (λ z m. h z (or_right (z == y) (is_member ◌==◌ xs z) m)) k in
    let a = times_in-cons (f y) (map f xs) (f x) in
    let b = times_in-cons y xs x in
    let there = h y (or_left (y == y) (is_member ◌==◌ xs y) (eq-eqb y y refl)) in
    let same : f x ≡ f y → x ≡ y = λ e. sym k ∙ ap g e ∙ there in
    let back : x ≡ y → f x ≡ f y = λ e. ap f e in
    grind (arith, nat_tests, ih, a, b, same, back)
