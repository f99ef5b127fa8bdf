-- The counting lemma: one more edge between names of a list lowers the number of their labels by one where its ends had
-- different labels, and else keeps it. And the contraction lemma: two lists of edges that tell the same pairs apart, of the
-- names that pass a test, are interchangeable under further edges between such names.
use Rattle.std.proofs.Common.{◌≡◌, ℕ, ◌+◌, Bool, true, false, cond, ◌&&◌, ◌||◌, ◌==◌, ◌≢◌, List, [], ◌∷◌, ◌++◌, map, length, refl, ap, arith}
use Rattle.std.proofs.lemmas.Bool.Decides.{nat_tests}
use Rattle.std.proofs.lemmas.List.Sums.{fold-append}
use Rattle.std.specs.Set.{is_member, distinct_count, unique_keys}
use Rattle.graph_parts.specs.Renaming.{replaced}
use Rattle.graph_parts.specs.Ends.{EndsAre, AreAmong}
use Rattle.graph_parts.specs.Labels.{relabel, label_after, label_of, label_count, Agree}

pub distinct_count-cons : (x : ℕ) (xs : List ℕ) → distinct_count ◌==◌ (x ∷ xs) ≡ cond (is_member ◌==◌ xs x) 0 1 + distinct_count ◌==◌ xs
distinct_count-cons x xs = elim (is_member ◌==◌ xs x) as (λ b. length (cond b (unique_keys ◌==◌ xs) (x ∷ unique_keys ◌==◌ xs)) ≡ cond b 0 1 + distinct_count ◌==◌ xs) [ true ↦ omega arith | false ↦ omega arith ]

is_member-replaced_to : (a b : ℕ) (xs : List ℕ) → is_member ◌==◌ (map (replaced a b) xs) b ≡ (is_member ◌==◌ xs a || is_member ◌==◌ xs b)
is_member-replaced_to a b [] = refl
is_member-replaced_to a b (x ∷ xs) = let ih = is_member-replaced_to a b xs in grind (arith, nat_tests, ih)

is_member-replaced_other : (a b c : ℕ) (xs : List ℕ) → c ≢ a → c ≢ b → is_member ◌==◌ (map (replaced a b) xs) c ≡ is_member ◌==◌ xs c
is_member-replaced_other a b c [] p q = refl
is_member-replaced_other a b c (x ∷ xs) p q = let ih = is_member-replaced_other a b c xs p q in grind (arith, nat_tests, ih)

pub distinct_count-replaced : (a b : ℕ) (xs : List ℕ) → a ≢ b →
    distinct_count ◌==◌ (map (replaced a b) xs) + cond (is_member ◌==◌ xs a && is_member ◌==◌ xs b) 1 0 ≡ distinct_count ◌==◌ xs
distinct_count-replaced a b [] d = refl
distinct_count-replaced a b (x ∷ xs) d =
    let ih = distinct_count-replaced a b xs d in
    let e = distinct_count-cons x xs in
    let f = distinct_count-cons (replaced a b x) (map (replaced a b) xs) in
    let g = is_member-replaced_to a b xs in
    let h = is_member-replaced_other a b x xs in
    grind (arith, nat_tests, ih, e, f, g, h)

-- ---- labels
pub map_agree : (f g : ℕ → ℕ) (xs : List ℕ) → ((x : ℕ) → f x ≡ g x) → map f xs ≡ map g xs
map_agree f g [] h = refl
map_agree f g (x ∷ xs) h = let ih = map_agree f g xs h in let e = h x in cc

pub map_replaced : (label : ℕ → ℕ) (a b : ℕ) (xs : List ℕ) → map (λ x. replaced a b (label x)) xs ≡ map (replaced a b) (map label xs)
map_replaced label a b [] = refl
map_replaced label a b (x ∷ xs) = let ih = map_replaced label a b xs in cc

pub is_member-map : (f : ℕ → ℕ) (xs : List ℕ) (x : ℕ) → is_member ◌==◌ xs x ≡ true → is_member ◌==◌ (map f xs) (f x) ≡ true
is_member-map f [] x h = h
is_member-map f (y ∷ xs) x h = let ih = is_member-map f xs x in let e : x ≡ y → f x ≡ f y = λ p. ap f p in grind (arith, nat_tests, ih, e)

pub label_count-joined : (label : ℕ → ℕ) (x y : ℕ) (names : List ℕ) → label x ≡ label y → label_count (relabel label (x, y)) names ≡ label_count label names
label_count-joined label x y names h =
    ap (distinct_count ◌==◌) (map_agree (relabel label (x, y)) label names (λ z. grind (arith, nat_tests, h)))

pub label_count-apart : (label : ℕ → ℕ) (x y : ℕ) (names : List ℕ) → is_member ◌==◌ names x ≡ true → is_member ◌==◌ names y ≡ true → label x ≢ label y →
    label_count (relabel label (x, y)) names + 1 ≡ label_count label names
label_count-apart label x y names p q d =
    let e = map_replaced label (label x) (label y) names in
    let f = distinct_count-replaced (label x) (label y) (map label names) d in
    let g = is_member-map label names x p in
    let h = is_member-map label names y q in
    rw e (grind (arith, f, g, h))

-- THE COUNTING LEMMA
pub label_count-relabel : (label : ℕ → ℕ) (x y : ℕ) (names : List ℕ) → is_member ◌==◌ names x ≡ true → is_member ◌==◌ names y ≡ true →
    label_count (relabel label (x, y)) names + cond (label x == label y) 0 1 ≡ label_count label names
label_count-relabel label x y names p q =
    let same = label_count-joined label x y names in
    let apart = label_count-apart label x y names p q in
    grind (arith, nat_tests, same, apart)

-- ---- two labellings that tell the same of the names that pass a test
pub Agree-relabel : (inside : ℕ → Bool) (l m : ℕ → ℕ) (x y : ℕ) → inside x ≡ true → inside y ≡ true → Agree inside l m → Agree inside (relabel l (x, y)) (relabel m (x, y))
Agree-relabel inside l m x y p q h u v hu hv =
    let uv = h u v hu hv in let ux = h u x hu p in let uy = h u y hu q in let vx = h v x hv p in let vy = h v y hv q in let xy = h x y p q in
    grind (arith, nat_tests)

pub Agree-after : (inside : ℕ → Bool) (l m : ℕ → ℕ) (es : List (ℕ × ℕ)) → EndsAre inside es → Agree inside l m → Agree inside (label_after l es) (label_after m es)
Agree-after inside l m [] p h = h
Agree-after inside l m (e ∷ es) p h = Agree-after inside (relabel l e) (relabel m e) es p.2 (Agree-relabel inside l m e.0 e.1 p.0 p.1 h)

pub label_count_after : (inside : ℕ → Bool) (names : List ℕ) (more : List (ℕ × ℕ)) (l m : ℕ → ℕ) → EndsAre inside more → AreAmong names more → Agree inside l m →
    label_count (label_after l more) names + label_count m names ≡ label_count (label_after m more) names + label_count l names
label_count_after inside names [] l m p q h = omega arith
label_count_after inside names (e ∷ more) l m p q h =
    let ih = label_count_after inside names more (relabel l e) (relabel m e) p.2 q.2 (Agree-relabel inside l m e.0 e.1 p.0 p.1 h) in
    let cl = label_count-relabel l e.0 e.1 names q.0 q.1 in
    let cm = label_count-relabel m e.0 e.1 names q.0 q.1 in
    let same = h e.0 e.1 p.0 p.1 in
    grind (arith, ih, cl, cm, same)

pub label_after-append : (l : ℕ → ℕ) (es more : List (ℕ × ℕ)) → label_after l (es ++ more) ≡ label_after (label_after l es) more
label_after-append l es more = fold-append relabel l es more

-- THE CONTRACTION LEMMA
pub label_count-contract : (inside : ℕ → Bool) (names : List ℕ) (es ps more : List (ℕ × ℕ)) → EndsAre inside more → AreAmong names more →
    Agree inside (label_of es) (label_of ps) →
    label_count (label_of (es ++ more)) names + label_count (label_of ps) names ≡ label_count (label_of (ps ++ more)) names + label_count (label_of es) names
label_count-contract inside names es ps more p q h =
    rw (label_after-append (λ x. x) es more, label_after-append (λ x. x) ps more) (label_count_after inside names more (label_of es) (label_of ps) p q h)
