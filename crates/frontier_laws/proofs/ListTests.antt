-- Tests over lists: of mapped and joined lists, and of lists with the same members.
use Rattle.std.proofs.Common.{◌≡◌, ℕ, ◌==◌, Bool, true, List, [], ◌∷◌, ◌++◌, map, refl, sym, ap, ◌∙◌, ⊎_elim, arith}
use Rattle.std.proofs.lemmas.Bool.{cases_Bool}
use Rattle.std.specs.List.{All, flat_map, list_any}
use Rattle.std.specs.Set.{is_member}
use Rattle.std.proofs.lemmas.Bool.Decides.{nat_tests}
use Rattle.std.proofs.lemmas.List.{map-append}
use Rattle.std.proofs.lemmas.List.Concat.{flat_map-append}
use Rattle.std.proofs.lemmas.List.Elements.{All-head, All-tail}
use Rattle.std.proofs.lemmas.List.Folds.{list_any-append}

-- Tests that agree where P holds find the same.
pub any_all : {X : Type 0} (P : X → Type 0) (f g : X → Bool) (xs : List X) → All P xs → ((x : X) → P x → f x ≡ g x) → list_any f xs ≡ list_any g xs
any_all P f g [] a h = refl
any_all P f g (x ∷ xs) a h = let e = h x (All-head P x xs a) in let ih = any_all P f g xs (All-tail P x xs a) h in grind (arith, e, ih)

pub any_each : {X : Type 0} (f g : X → Bool) (xs : List X) → ((x : X) → f x ≡ g x) → list_any f xs ≡ list_any g xs
any_each f g [] h = refl
any_each f g (x ∷ xs) h = let e = h x in let ih = any_each f g xs h in grind (arith, e, ih)

pub any-map : {X Y : Type 0} (f : Y → Bool) (h : X → Y) (xs : List X) → list_any f (map h xs) ≡ list_any (λ x. f (h x)) xs
any-map f h [] = refl
any-map f h (x ∷ xs) = let ih = any-map f h xs in grind (arith, ih)

pub any-flat_map : {X Y : Type 0} (f : Y → Bool) (h : X → List Y) (xs : List X) → list_any f (flat_map h xs) ≡ list_any (λ x. list_any f (h x)) xs
any-flat_map f h [] = refl
any-flat_map f h (x ∷ xs) = let ih = any-flat_map f h xs in let a = list_any-append f (h x) (flat_map h xs) in grind (arith, ih, a)

-- A test that passes is passed by some item.
pub found : {X : Type 0} (P : X → Type 0) (f : X → Bool) (xs : List X) → All P xs → list_any f xs ≡ true → (x : X) × P x × (f x ≡ true)
found P f [] all t = absurd (grind (arith, t))
found P f (x ∷ xs) all t =
    ⊎_elim
    (λ yes. (x, All-head P x xs all, yes))
    (λ no. found P f xs (All-tail P x xs all) (grind (arith, t, no)))
    (cases_Bool (f x))

-- A test that passes at a member is passed.
passes : (g : ℕ → Bool) (p : ℕ) (xs : List ℕ) → is_member ◌==◌ xs p ≡ true → g p ≡ true → list_any g xs ≡ true
passes g p [] m t = absurd (grind (arith, m))
passes g p (x ∷ xs) m t = let ih = passes g p xs in let s = λ (e : p ≡ x). ap g e in grind (arith, nat_tests, ih, s, m, t)

within : (g : ℕ → Bool) (xs ys : List ℕ) → ((p : ℕ) → is_member ◌==◌ xs p ≡ true → is_member ◌==◌ ys p ≡ true) → list_any g xs ≡ true → list_any g ys ≡ true
within g [] ys h m = absurd (grind (arith, m))
within g (x ∷ xs) ys h m =
    let rest = within g xs ys (λ p k. h p (grind (arith, k))) in
    let here = passes g x ys (h x (grind (arith, nat_tests))) in
    grind (arith, rest, here, m)

-- LISTS OF NUMBERS WITH THE SAME MEMBERS PASS THE SAME TESTS
pub same_tests : (g : ℕ → Bool) (xs ys : List ℕ) → ((p : ℕ) → is_member ◌==◌ xs p ≡ is_member ◌==◌ ys p) → list_any g xs ≡ list_any g ys
same_tests g xs ys h =
    let a = within g xs ys (λ p k. sym (h p) ∙ k) in let b = within g ys xs (λ p k. h p ∙ k) in grind (arith, a, b)

-- Functions that agree where P holds make one list.
pub map_all : {X Y : Type 0} (P : X → Type 0) (f g : X → Y) (xs : List X) → All P xs → ((x : X) → P x → f x ≡ g x) → map f xs ≡ map g xs
map_all P f g [] a h = refl
map_all P f g (x ∷ xs) a h = let e = h x (All-head P x xs a) in let ih = map_all P f g xs (All-tail P x xs a) h in cc

pub flat_map_all : {X Y : Type 0} (P : X → Type 0) (f g : X → List Y) (xs : List X) → All P xs → ((x : X) → P x → f x ≡ g x) → flat_map f xs ≡ flat_map g xs
flat_map_all P f g [] a h = refl
flat_map_all P f g (x ∷ xs) a h = let e = h x (All-head P x xs a) in let ih = flat_map_all P f g xs (All-tail P x xs a) h in cc

pub flat_map_each : {X Y : Type 0} (f g : X → List Y) (xs : List X) → ((x : X) → f x ≡ g x) → flat_map f xs ≡ flat_map g xs
flat_map_each f g [] h = refl
flat_map_each f g (x ∷ xs) h = let e = h x in let ih = flat_map_each f g xs h in cc

pub map-flat_map : {X Y Z : Type 0} (f : Y → Z) (g : X → List Y) (xs : List X) → map f (flat_map g xs) ≡ flat_map (λ x. map f (g x)) xs
map-flat_map f g [] = refl
map-flat_map f g (x ∷ xs) = map-append f (g x) (flat_map g xs) ∙ ap (λ ys. map f (g x) ++ ys) (map-flat_map f g xs)

pub flat_map-flat_map : {X Y Z : Type 0} (f : Y → List Z) (g : X → List Y) (xs : List X) → flat_map f (flat_map g xs) ≡ flat_map (λ x. flat_map f (g x)) xs
flat_map-flat_map f g [] = refl
flat_map-flat_map f g (x ∷ xs) = flat_map-append f (g x) (flat_map g xs) ∙ ap (λ ys. flat_map f (g x) ++ ys) (flat_map-flat_map f g xs)
