-- The list of noncrossing pairings has each of them once, in dictionary order.
use Rattle.std.proofs.Common.{◌≡◌, ℕ, zero, suc, ◌+◌, ◌-◌, ◌<◌, ◌≤◌, List, [], ◌∷◌, ◌++◌, map, length, slice_index, refl, sym, ap, ap₂, ◌∙◌, arith, subst, Contains, Ordering, Less, Equal, Greater}
use Rattle.std.specs.List.{flat_map, range_with_len, AllByRecursion}
use Rattle.std.specs.Bool.{⊤}
use Rattle.std.specs.List.Sorted.{IsStrictlySortedBy}
use Rattle.std.specs.Cmp.Lexicographic.{slice_cmp}
use Rattle.std.specs.Ordering.{ordering_then, nat_cmp}
use Rattle.std.proofs.lemmas.Bool.Decides.{nat_tests}
use Rattle.std.proofs.lemmas.List.FromFn.{get_or-range_with_len, length-range_with_len}
use Rattle.std.proofs.lemmas.List.Elements.{Contains-append_left, Contains-append_right}
use Rattle.arc_pairing.specs.Pairings.{IsNoncrossing}
use Rattle.strand_algebra.specs.Noncrossing.{nested, noncrossing_within, noncrossing}
use Rattle.strand_algebra.proofs.Each.{Each-weaker, Each-append, Each-map, Each-flat_map, Each-both, Each-range, every}
use Rattle.strand_algebra.proofs.LabelProducts.{IsPairingOf}
use Rattle.strand_algebra.proofs.Nested.{IsPairingOf-nested, IsNoncrossing-nested, split, inner_part, outer_part}

-- ---- each is a noncrossing pairing
abbrev pub IsNoncrossingOf : ℕ → List ℕ → Type 0
IsNoncrossingOf size p = IsPairingOf size p × IsNoncrossing p

IsNoncrossingOf-nil : IsNoncrossingOf 0 []
IsNoncrossingOf-nil = (
  record { length_is = refl; stays = λ i b. absurd (omega (arith, b)); turns = λ i b. absurd (omega (arith, b)); moves = λ i b. absurd (omega (arith, b)) },
  λ i j a b c. omega (arith, c),
)

IsNoncrossingOf-nested : (n k j : ℕ) (a b : List ℕ) → k + j ≡ n → IsNoncrossingOf (k + k) a → IsNoncrossingOf (j + j) b → IsNoncrossingOf (suc n + suc n) (nested k a b)
IsNoncrossingOf-nested n k j a b e p q =
    (IsPairingOf-nested k j a b p.0 q.0 (suc n + suc n) (omega (arith, e)), IsNoncrossing-nested k j a b p.0 q.0 p.1 q.1)

each_within : (depth n : ℕ) → AllByRecursion (IsNoncrossingOf (n + n)) (noncrossing_within depth n)
each_within depth zero = (IsNoncrossingOf-nil, tt)
each_within zero (suc n) = tt
each_within (suc depth) (suc n) =
    Each-flat_map (IsNoncrossingOf (suc n + suc n)) (λ k. flat_map (λ a. map (λ b. nested k a b) (noncrossing_within depth (n - k))) (noncrossing_within depth k)) (range_with_len 0 (n + 1))
    (Each-range (λ k. AllByRecursion (IsNoncrossingOf (suc n + suc n)) (flat_map (λ a. map (λ b. nested k a b) (noncrossing_within depth (n - k))) (noncrossing_within depth k))) 0 (n + 1)
    (λ k l h. Each-flat_map (IsNoncrossingOf (suc n + suc n)) (λ a. map (λ b. nested k a b) (noncrossing_within depth (n - k))) (noncrossing_within depth k)
    (Each-weaker (IsNoncrossingOf (k + k)) (λ a. AllByRecursion (IsNoncrossingOf (suc n + suc n)) (map (λ b. nested k a b) (noncrossing_within depth (n - k))))
    (λ a p. Each-map (IsNoncrossingOf (suc n + suc n)) (λ b. nested k a b) (noncrossing_within depth (n - k))
    (Each-weaker (IsNoncrossingOf (n - k + (n - k))) (λ b. IsNoncrossingOf (suc n + suc n) (nested k a b)) (λ b q. IsNoncrossingOf-nested n k (n - k) a b (omega arith) p q) (noncrossing_within depth (n - k)) (each_within depth (n - k))))
    (noncrossing_within depth k) (each_within depth k))))

-- EACH IS ONE
pub each_noncrossing : (n : ℕ) → AllByRecursion (IsNoncrossingOf (n + n)) (noncrossing n)
each_noncrossing n = each_within n n

-- ---- each noncrossing pairing is there
Contains-cons : {X : Type 0} (x y : X) (xs : List X) → Contains xs y → Contains (x ∷ xs) y
Contains-cons x y xs c = (suc c.0, (let l = c.1 in omega (arith, l)), c.2)

Contains-map : {X Y : Type 0} (f : X → Y) (xs : List X) (x : X) → Contains xs x → Contains (map f xs) (f x)
Contains-map f [] x c = absurd (let l = c.1 in omega (arith, l))
Contains-map f (y ∷ xs) x (zero, l, e) = (0, omega arith, ap f e)
Contains-map f (y ∷ xs) x (suc k, l, e) = Contains-cons (f y) (f x) (map f xs) (Contains-map f xs x (k, omega arith, e))

Contains-flat_map : {X Y : Type 0} (f : X → List Y) (xs : List X) (x : X) (y : Y) → Contains xs x → Contains (f x) y → Contains (flat_map f xs) y
Contains-flat_map f [] x y c d = absurd (let l = c.1 in omega (arith, l))
Contains-flat_map f (z ∷ xs) x y (zero, l, e) d = Contains-append_left (f z) (flat_map f xs) y (rw (sym e) at d)
Contains-flat_map f (z ∷ xs) x y (suc k, l, e) d = Contains-append_right (f z) (flat_map f xs) y (Contains-flat_map f xs x y (k, omega arith, e) d)

Contains-numbered : (a k i : ℕ) → a ≤ i → i < a + k → Contains (range_with_len a k) i
Contains-numbered a k i l h = (i - a, (let s = length-range_with_len a k in omega (arith, s, l, h)), get_or-range_with_len a k (i - a) i (omega arith) ∙ omega arith)

-- the number of strands, and the place
abbrev IsListed : ℕ → ℕ → List ℕ → Type 0
IsListed depth size p = (n : ℕ) × (size ≡ n + n) × Contains (noncrossing_within depth n) p

none_listed : (depth : ℕ) (p : List ℕ) → length p ≡ 0 → IsListed depth 0 p
none_listed depth [] e = (0, refl, (0, omega arith, refl))
none_listed depth (x ∷ p) e = absurd (omega (arith, e))

all_within : (depth size : ℕ) (p : List ℕ) → size ≤ depth + depth → IsNoncrossingOf size p → IsListed depth size p
all_within depth zero p l h = none_listed depth p h.0.length_is
all_within zero (suc size) p l h = absurd (omega (arith, l))
all_within (suc depth) (suc size) p l h =
    let some : 0 < suc size = omega arith in
    let parts = split (suc size) p h.0 h.1 some in
    let a = inner_part (suc size) p h.0 h.1 some in
    let b = outer_part (suc size) p h.0 h.1 some in
    let w = parts.whole in
    let one = all_within depth (slice_index p 0 - 1) a (omega (arith, l, w)) (parts.within, parts.within_noncrossing) in
    let two = all_within depth (suc size - (slice_index p 0 + 1)) b (omega (arith, l, w)) (parts.behind, parts.behind_noncrossing) in
    let k = one.0 in
    let j = two.0 in
    let e = one.1 in
    let f = two.1 in
    let n = k + j in
    let left : n - k ≡ j = omega arith in
    let there = two.2 in (
      suc n,
      omega (arith, w, e, f),
      subst (Contains (noncrossing_within (suc depth) (suc n))) (sym (parts.same k j e f))
          (Contains-flat_map (λ k. flat_map (λ a. map (λ b. nested k a b) (noncrossing_within depth (n - k))) (noncrossing_within depth k)) (range_with_len 0 (n + 1)) k (nested k a b)
          (Contains-numbered 0 (n + 1) k (omega arith) (omega arith))
          (Contains-flat_map (λ a. map (λ b. nested k a b) (noncrossing_within depth (n - k))) (noncrossing_within depth k) a (nested k a b) one.2
          (Contains-map (λ b. nested k a b) (noncrossing_within depth (n - k)) b (rw (← left) at there)))),
    )

-- EACH NONCROSSING PAIRING IS THERE
pub all_noncrossing : (n : ℕ) (p : List ℕ) → IsNoncrossingOf (n + n) p → Contains (noncrossing n) p
all_noncrossing n p h =
    let t = all_within n (n + n) p (omega arith) h in
    let e = t.1 in
    let s : t.0 ≡ n = omega (arith, e) in
    let c = t.2 in
    rw s at c

-- ---- in dictionary order
abbrev order : List ℕ → List ℕ → Ordering
order = slice_cmp nat_cmp

then_assoc : (x y z : Ordering) → ordering_then (ordering_then x y) z ≡ ordering_then x (ordering_then y z)
then_assoc Less y z = refl
then_assoc Equal y z = refl
then_assoc Greater y z = refl

nat_cmp-shift : (c a b : ℕ) → nat_cmp (a + c) (b + c) ≡ nat_cmp a b
nat_cmp-shift c a b = grind (arith, nat_tests)

nat_cmp-same : (a : ℕ) → nat_cmp a a ≡ Equal
nat_cmp-same a = grind (arith, nat_tests)

nat_cmp-less : (a b : ℕ) → a < b → nat_cmp a b ≡ Less
nat_cmp-less a b h = grind (arith, nat_tests)

less_from-nat_cmp : (a b : ℕ) → nat_cmp a b ≡ Less → a < b
less_from-nat_cmp a b h = grind (arith, nat_tests, h)

pub order_same : (xs : List ℕ) → order xs xs ≡ Equal
order_same [] = refl
order_same (x ∷ xs) = ap (λ o. ordering_then o (order xs xs)) (nat_cmp-same x) ∙ order_same xs

-- of lists with fronts of one length the fronts decide, and else the backs
order_fronts : (c : ℕ) (xs ys us vs : List ℕ) → length xs ≡ length ys → order (map (λ j. j + c) xs ++ us) (map (λ j. j + c) ys ++ vs) ≡ ordering_then (order xs ys) (order us vs)
order_fronts c [] [] us vs e = refl
order_fronts c [] (y ∷ ys) us vs e = absurd (omega (arith, e))
order_fronts c (x ∷ xs) [] us vs e = absurd (omega (arith, e))
order_fronts c (x ∷ xs) (y ∷ ys) us vs e =
    ap₂ ordering_then (nat_cmp-shift c x y) (order_fronts c xs ys us vs (omega (arith, e)))
    ∙ sym (then_assoc (nat_cmp x y) (order xs ys) (order us vs))

then_right : (x y : Ordering) → x ≡ Equal → ordering_then x y ≡ y
then_right x y e = ap (λ o. ordering_then o y) e

then_less : (x y : Ordering) → x ≡ Less → ordering_then x y ≡ Less
then_less x y e = ap (λ o. ordering_then o y) e

order_shift : (c : ℕ) (xs ys : List ℕ) → length xs ≡ length ys → order (map (λ j. j + c) xs) (map (λ j. j + c) ys) ≡ order xs ys
order_shift c [] [] e = refl
order_shift c [] (y ∷ ys) e = absurd (omega (arith, e))
order_shift c (x ∷ xs) [] e = absurd (omega (arith, e))
order_shift c (x ∷ xs) (y ∷ ys) e = ap₂ ordering_then (nat_cmp-shift c x y) (order_shift c xs ys (omega (arith, e)))

-- two nested pairings with one number of points within
order_nested : (k : ℕ) (a b u v : List ℕ) → length a ≡ length u → length b ≡ length v → order (nested k a b) (nested k u v) ≡ ordering_then (order a u) (order b v)
order_nested k a b u v e f =
    then_right (nat_cmp (k + k + 1) (k + k + 1)) _ (nat_cmp-same (k + k + 1))
    ∙ order_fronts 1 a u (0 ∷ map (λ j. j + (k + k + 2)) b) (0 ∷ map (λ j. j + (k + k + 2)) v) e
    ∙ ap (ordering_then (order a u)) (then_right (nat_cmp 0 0) _ (nat_cmp-same 0) ∙ order_shift (k + k + 2) b v f)

-- fewer points within come first
order_fewer : (k l : ℕ) (a b u v : List ℕ) → k < l → order (nested k a b) (nested l u v) ≡ Less
order_fewer k l a b u v h = then_less (nat_cmp (k + k + 1) (l + l + 1)) (order (map (λ j. j + 1) a ++ (0 ∷ map (λ j. j + (k + k + 2)) b)) (map (λ j. j + 1) u ++ (0 ∷ map (λ j. j + (l + l + 2)) v))) (nat_cmp-less (k + k + 1) (l + l + 1) (omega (arith, h)))

-- ---- a list made of pieces is sorted where each piece is, and what comes first makes the lesser piece
Sorted-append : {Y : Type 0} (d : Y → Y → Ordering) (xs ys : List Y) → IsStrictlySortedBy d xs → IsStrictlySortedBy d ys → AllByRecursion (λ u. AllByRecursion (λ v. d u v ≡ Less) ys) xs → IsStrictlySortedBy d (xs ++ ys)
unfolding IsStrictlySortedBy
Sorted-append d [] ys p q h = q
Sorted-append d (x ∷ xs) ys p q h = (Each-append (λ v. d x v ≡ Less) xs ys p.0 h.0, Sorted-append d xs ys p.1 q h.1)

Each-swap : {X Y : Type 0} (R : X → Y → Type 0) (xs : List X) (ys : List Y) → AllByRecursion (λ y. AllByRecursion (λ x. R x y) xs) ys → AllByRecursion (λ x. AllByRecursion (R x) ys) xs
Each-swap R xs [] h = each_nothing xs
  where
    each_nothing : {X : Type 0} (xs : List X) → AllByRecursion (λ x. ⊤) xs
    each_nothing [] = tt
    each_nothing (x ∷ xs) = (tt, each_nothing xs)
Each-swap R xs (y ∷ ys) h = Each-both (λ x. R x y) (λ x. AllByRecursion (R x) ys) xs h.0 (Each-swap R xs ys h.1)

Sorted-flat_map : {X Y : Type 0} (c : X → X → Ordering) (d : Y → Y → Ordering) (P : X → Type 0) (f : X → List Y) → ((x : X) → P x → IsStrictlySortedBy d (f x)) →
    ((x y : X) → P x → P y → c x y ≡ Less → AllByRecursion (λ u. AllByRecursion (λ v. d u v ≡ Less) (f y)) (f x)) →
    (xs : List X) → AllByRecursion P xs → IsStrictlySortedBy c xs → IsStrictlySortedBy d (flat_map f xs)
unfolding IsStrictlySortedBy
Sorted-flat_map c d P f own less [] p s = tt
Sorted-flat_map c d P f own less (x ∷ xs) p s =
    Sorted-append d (f x) (flat_map f xs) (own x p.0) (Sorted-flat_map c d P f own less xs p.1 s.1)
    (Each-swap (λ u v. d u v ≡ Less) (f x) (flat_map f xs)
    (Each-flat_map (λ v. AllByRecursion (λ u. d u v ≡ Less) (f x)) f xs
    (Each-weaker (λ y. P y × (c x y ≡ Less)) (λ y. AllByRecursion (λ v. AllByRecursion (λ u. d u v ≡ Less) (f x)) (f y))
    (λ y q. Each-swap (λ v u. d u v ≡ Less) (f y) (f x) (less x y p.0 q.0 q.1)) xs
    (Each-both P (λ y. c x y ≡ Less) xs p.1 s.0))))

Sorted-map : {X Y : Type 0} (c : X → X → Ordering) (d : Y → Y → Ordering) (P : X → Type 0) (f : X → Y) → ((x y : X) → P x → P y → c x y ≡ Less → d (f x) (f y) ≡ Less) →
    (xs : List X) → AllByRecursion P xs → IsStrictlySortedBy c xs → IsStrictlySortedBy d (map f xs)
unfolding IsStrictlySortedBy
Sorted-map c d P f less [] p s = tt
Sorted-map c d P f less (x ∷ xs) p s = (
  Each-map (λ v. d (f x) v ≡ Less) f xs (Each-weaker (λ y. P y × (c x y ≡ Less)) (λ y. d (f x) (f y) ≡ Less) (λ y q. less x y p.0 q.0 q.1) xs (Each-both P (λ y. c x y ≡ Less) xs p.1 s.0)),
  Sorted-map c d P f less xs p.1 s.1,
)

Sorted-range : (a k : ℕ) → IsStrictlySortedBy nat_cmp (range_with_len a k)
unfolding IsStrictlySortedBy
Sorted-range a zero = tt
Sorted-range a (suc k) = (Each-range (λ i. nat_cmp a i ≡ Less) (a + 1) k (λ i l h. nat_cmp-less a i (omega (arith, l))), Sorted-range (a + 1) k)

same_length : (size : ℕ) (p q : List ℕ) → IsNoncrossingOf size p → IsNoncrossingOf size q → length p ≡ length q
same_length size p q h g = h.0.length_is ∙ sym g.0.length_is

sorted_within : (depth n : ℕ) → IsStrictlySortedBy order (noncrossing_within depth n)
unfolding IsStrictlySortedBy
sorted_within depth zero = (tt, tt)
sorted_within zero (suc n) = tt
sorted_within (suc depth) (suc n) =
    Sorted-flat_map nat_cmp order (λ k. ⊤) (λ k. flat_map (λ a. map (λ b. nested k a b) (noncrossing_within depth (n - k))) (noncrossing_within depth k))
    (λ k t.
    Sorted-flat_map order order (IsNoncrossingOf (k + k)) (λ a. map (λ b. nested k a b) (noncrossing_within depth (n - k)))
    (λ a p. Sorted-map order order (IsNoncrossingOf (n - k + (n - k))) (λ b. nested k a b)
    (λ b v q r h. order_nested k a b a v refl (same_length (n - k + (n - k)) b v q r) ∙ ap (λ o. ordering_then o (order b v)) (order_same a) ∙ h)
    (noncrossing_within depth (n - k)) (each_within depth (n - k)) (sorted_within depth (n - k)))
    (λ a u p q h.
    Each-map (λ x. AllByRecursion (λ y. order x y ≡ Less) (map (λ b. nested k u b) (noncrossing_within depth (n - k)))) (λ b. nested k a b) (noncrossing_within depth (n - k))
    (Each-weaker (IsNoncrossingOf (n - k + (n - k))) (λ b. AllByRecursion (λ y. order (nested k a b) y ≡ Less) (map (λ b. nested k u b) (noncrossing_within depth (n - k))))
    (λ b r. Each-map (λ y. order (nested k a b) y ≡ Less) (λ b. nested k u b) (noncrossing_within depth (n - k))
    (Each-weaker (IsNoncrossingOf (n - k + (n - k))) (λ v. order (nested k a b) (nested k u v) ≡ Less)
    (λ v s. order_nested k a b u v (same_length (k + k) a u p q) (same_length (n - k + (n - k)) b v r s) ∙ ap (λ o. ordering_then o (order b v)) h)
    (noncrossing_within depth (n - k)) (each_within depth (n - k))))
    (noncrossing_within depth (n - k)) (each_within depth (n - k))))
    (noncrossing_within depth k) (each_within depth k) (sorted_within depth k))
    (λ k l t s h.
    every_nested (λ x. AllByRecursion (λ y. order x y ≡ Less) (flat_map (λ a. map (λ b. nested l a b) (noncrossing_within depth (n - l))) (noncrossing_within depth l))) k (noncrossing_within depth k) (noncrossing_within depth (n - k))
    (λ a b. every_nested (λ y. order (nested k a b) y ≡ Less) l (noncrossing_within depth l) (noncrossing_within depth (n - l)) (λ u v. order_fewer k l a b u v (less_from-nat_cmp k l h))))
    (range_with_len 0 (n + 1)) (Each-range (λ k. ⊤) 0 (n + 1) (λ i l h. tt)) (Sorted-range 0 (n + 1))
  where
    every_nested : (P : List ℕ → Type 0) (k : ℕ) (fronts backs : List (List ℕ)) → ((a b : List ℕ) → P (nested k a b)) → AllByRecursion P (flat_map (λ a. map (λ b. nested k a b) backs) fronts)
    every_nested P k fronts backs h = Each-flat_map P (λ a. map (λ b. nested k a b) backs) fronts (every (λ a. AllByRecursion P (map (λ b. nested k a b) backs)) (λ a. Each-map P (λ b. nested k a b) backs (every (λ b. P (nested k a b)) (λ b. h a b) backs)) fronts)

-- THE LIST IS SORTED
pub noncrossing_sorted : (n : ℕ) → IsStrictlySortedBy (slice_cmp nat_cmp) (noncrossing n)
noncrossing_sorted n = sorted_within n n
