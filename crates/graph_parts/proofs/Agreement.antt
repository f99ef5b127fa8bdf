-- Two labellings that tell the same pairs of names apart count the same labels; and two lists of edges do so where they
-- join the same names.
use Rattle.std.proofs.Common.{◌≡◌, ℕ, Bool, true, ◌==◌, List, [], ◌∷◌, ◌++◌, map, refl, sym, ap, ◌∙◌, arith, ◌⊎◌, ⊎_elim, ◌↔◌, Contains}
use Rattle.std.specs.List.{AllPass}
use Rattle.std.specs.Set.{is_member, distinct_count}
use Rattle.std.proofs.lemmas.Bool.{or_left, or_right, eq-eqb, eqb-true, or_cases}
use Rattle.std.proofs.lemmas.Bool.Decides.{nat_tests}
use Rattle.std.proofs.lemmas.List.{map-append}
use Rattle.std.proofs.lemmas.List.Elements.{All-head, All-tail, All-cons, All-nil}
use Rattle.graph_parts.specs.Labels.{label_of, label_count, Agree}
use Rattle.graph_parts.specs.Walks.{Joined, along, stay, back, on}
use Rattle.graph_parts.proofs.Counting.{distinct_count-cons}
use Rattle.graph_parts.proofs.Distinct.{distinct_count-swap}
use Rattle.graph_parts.proofs.Walks.{Joined-from_labels, labels-from_Joined}

pub from_All : (p : ℕ → Bool) (xs : List ℕ) → AllPass p xs → (x : ℕ) → is_member ◌==◌ xs x ≡ true → p x ≡ true
from_All p [] a x m = absurd (grind (arith, m))
from_All p (y ∷ xs) a x m =
    let here = All-head (λ z. p z ≡ true) y xs a in
    ⊎_elim (λ e. ap p (eqb-true x y e) ∙ here) (λ n. from_All p xs (All-tail (λ z. p z ≡ true) y xs a) x n) (or_cases (x == y) (is_member ◌==◌ xs x) m)

pub to_All : (p : ℕ → Bool) (xs : List ℕ) → ((x : ℕ) → is_member ◌==◌ xs x ≡ true → p x ≡ true) → AllPass p xs
to_All p [] h = All-nil (λ z. p z ≡ true)
to_All p (y ∷ xs) h =
    All-cons (λ z. p z ≡ true) y xs (h y (or_left (y == y) (is_member ◌==◌ xs y) (eq-eqb y y refl)))
    (to_All p xs (λ x m. h x (or_right (x == y) (is_member ◌==◌ xs x) m)))

-- ---- labellings that agree on the names count the same
is_member-agree : (inside : ℕ → Bool) (l m : ℕ → ℕ) (x : ℕ) (xs : List ℕ) → Agree inside l m → inside x ≡ true → AllPass inside xs →
    is_member ◌==◌ (map l xs) (l x) ≡ is_member ◌==◌ (map m xs) (m x)
is_member-agree inside l m x [] h p a = refl
is_member-agree inside l m x (y ∷ xs) h p a =
    let ih = is_member-agree inside l m x xs h p (All-tail (λ z. inside z ≡ true) y xs a) in
    let e = h x y p (All-head (λ z. inside z ≡ true) y xs a) in
    grind (arith, nat_tests, ih, e)

pub label_count-agree : (inside : ℕ → Bool) (l m : ℕ → ℕ) (xs : List ℕ) → Agree inside l m → AllPass inside xs → label_count l xs ≡ label_count m xs
label_count-agree inside l m [] h a = refl
label_count-agree inside l m (x ∷ xs) h a =
    let rest = All-tail (λ z. inside z ≡ true) x xs a in
    let ih = label_count-agree inside l m xs h rest in
    let e = is_member-agree inside l m x xs h (All-head (λ z. inside z ≡ true) x xs a) rest in
    let f = distinct_count-cons (l x) (map l xs) in
    let g = distinct_count-cons (m x) (map m xs) in
    grind (arith, ih, e, f, g)

pub label_count-swap : (l : ℕ → ℕ) (xs ys : List ℕ) → label_count l (xs ++ ys) ≡ label_count l (ys ++ xs)
label_count-swap l xs ys = ap (distinct_count ◌==◌) (map-append l xs ys) ∙ distinct_count-swap (map l xs) (map l ys) ∙ sym (ap (distinct_count ◌==◌) (map-append l ys xs))

pub eqb_from_iff : (a b c d : ℕ) → (a ≡ b → c ≡ d) → (c ≡ d → a ≡ b) → (a == b) ≡ (c == d)
eqb_from_iff a b c d h k = grind (arith, nat_tests)

pub Agree-from_Joined : (inside : ℕ → Bool) (es fs : List (ℕ × ℕ)) → ((x y : ℕ) → inside x ≡ true → inside y ≡ true → Joined es x y ↔ Joined fs x y) → Agree inside (label_of es) (label_of fs)
Agree-from_Joined inside es fs h u v p q =
    eqb_from_iff (label_of es u) (label_of es v) (label_of fs u) (label_of fs v)
    (λ t. labels-from_Joined fs ((h u v p q).0 (Joined-from_labels es u v t)))
    (λ t. labels-from_Joined es ((h u v p q).1 (Joined-from_labels fs u v t)))

-- each edge of the one list is an edge of the other, this way round or the other
pub Joined-wider : (es fs : List (ℕ × ℕ)) → ((x y : ℕ) → Contains es (x, y) → Contains fs (x, y) ⊎ Contains fs (y, x)) → {x y : ℕ} → Joined es x y → Joined fs x y
Joined-wider es fs h (along {x = x} {y = y} c) = ⊎_elim (λ d. along d) (λ d. back (along d)) (h x y c)
Joined-wider es fs h stay = stay
Joined-wider es fs h (back j) = back (Joined-wider es fs h j)
Joined-wider es fs h (on j k) = on (Joined-wider es fs h j) (Joined-wider es fs h k)

-- THE SAME EDGES TELL THE SAME NAMES APART
pub Agree-same_edges : (inside : ℕ → Bool) (es fs : List (ℕ × ℕ)) → ((x y : ℕ) → Contains es (x, y) → Contains fs (x, y) ⊎ Contains fs (y, x)) →
    ((x y : ℕ) → Contains fs (x, y) → Contains es (x, y) ⊎ Contains es (y, x)) → Agree inside (label_of es) (label_of fs)
Agree-same_edges inside es fs h k = Agree-from_Joined inside es fs (λ x y p q. (Joined-wider es fs h, Joined-wider fs es k))
