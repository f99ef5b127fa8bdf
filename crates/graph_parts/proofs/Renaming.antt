-- Names do not matter: edges with other names give labels with other names, for any renaming, by induction on the edges;
-- so counts stay where the renaming is one to one.
use Rattle.std.proofs.Common.{◌≡◌, ℕ, Bool, true, false, cond, ◌==◌, List, [], ◌∷◌, map, zip, refl, sym, ap, ◌∙◌, arith}
use Rattle.std.specs.List.{AllPass}
use Rattle.std.specs.Set.{is_member, distinct_count}
use Rattle.std.proofs.lemmas.Bool.Decides.{nat_tests}
use Rattle.std.proofs.lemmas.List.Elements.{All-head, All-tail}
use Rattle.graph_parts.specs.Ends.{AreAmong}
use Rattle.graph_parts.specs.Labels.{relabel, label_after, label_of, label_count, Agree}
use Rattle.graph_parts.specs.Patterns.{first_like, label_pattern}
use Rattle.graph_parts.specs.Renaming.{renamed, IsOneToOne}
use Rattle.graph_parts.proofs.Agreement.{label_count-agree}
use Rattle.graph_parts.proofs.Counting.{Agree-after}
use Rattle.graph_parts.proofs.Ends.{is_member-itself}

pub map_map : {X Y Z : Type 0} (f : Y → Z) (g : X → Y) (xs : List X) → map f (map g xs) ≡ map (λ x. f (g x)) xs
map_map f g [] = refl
map_map f g (x ∷ xs) = ap (λ ys. f (g x) ∷ ys) (map_map f g xs)

-- labels of renamed edges, for any renaming
pub label_after-map : (r l : ℕ → ℕ) (es : List (ℕ × ℕ)) → label_after (λ z. l (r z)) es ≡ (λ z. label_after l (map (renamed r) es) (r z))
label_after-map r l [] = refl
label_after-map r l (e ∷ es) = label_after-map r (relabel l (r e.0, r e.1)) es

pub label_count-map : (r : ℕ → ℕ) (es : List (ℕ × ℕ)) (names : List ℕ) → label_count (label_of (map (renamed r) es)) (map r names) ≡ label_count (label_after r es) names
label_count-map r es names =
    ap (distinct_count ◌==◌) (map_map (label_of (map (renamed r) es)) r names ∙ ap (λ k. map k names) (sym (label_after-map r (λ x. x) es)))

pub zip_map : (r : ℕ → ℕ) (xs ys : List ℕ) → zip (map r xs) (map r ys) ≡ map (renamed r) (zip xs ys)
zip_map r [] ys = refl
zip_map r (x ∷ xs) [] = refl
zip_map r (x ∷ xs) (y ∷ ys) = ap (λ es. (r x, r y) ∷ es) (zip_map r xs ys)

Agree-one_to_one : (r : ℕ → ℕ) (names : List ℕ) → IsOneToOne r names → Agree (is_member ◌==◌ names) r (λ x. x)
Agree-one_to_one r names h u v p q = let i = h u v p q in let j = λ (t : u ≡ v). ap r t in grind (arith, nat_tests, i, j)

pub Agree-renamed : (r : ℕ → ℕ) (names : List ℕ) (es : List (ℕ × ℕ)) → IsOneToOne r names → AreAmong names es →
    Agree (is_member ◌==◌ names) (label_after r es) (label_of es)
Agree-renamed r names es h p = Agree-after (is_member ◌==◌ names) r (λ x. x) es p (Agree-one_to_one r names h)

-- A ONE-TO-ONE RENAMING KEEPS THE COUNT
pub label_count-renamed : (r : ℕ → ℕ) (names : List ℕ) (es : List (ℕ × ℕ)) → IsOneToOne r names → AreAmong names es →
    label_count (label_of (map (renamed r) es)) (map r names) ≡ label_count (label_of es) names
label_count-renamed r names es h p =
    label_count-map r es names ∙ label_count-agree (is_member ◌==◌ names) (label_after r es) (label_of es) names (Agree-renamed r names es h p) (is_member-itself names)

-- ---- patterns with other names
first_like-map : (r l : ℕ → ℕ) (names : List ℕ) (x : ℕ) → first_like l (map r names) (r x) ≡ r (first_like (λ z. l (r z)) names x)
first_like-map r l [] x = refl
first_like-map r l (y ∷ names) x =
    let ih = first_like-map r l names x in
    elim (l (r x) == l (r y)) as (λ b. cond b (r y) (first_like l (map r names) (r x)) ≡ r (cond b y (first_like (λ z. l (r z)) names x))) [ true ↦ refl | false ↦ ih ]

pub first_like-agree : (inside : ℕ → Bool) (l m : ℕ → ℕ) (names : List ℕ) (x : ℕ) → Agree inside l m → inside x ≡ true → AllPass inside names → first_like l names x ≡ first_like m names x
first_like-agree inside l m [] x h p a = refl
first_like-agree inside l m (y ∷ names) x h p a =
    let ih = first_like-agree inside l m names x h p (All-tail (λ z. inside z ≡ true) y names a) in
    let e = h x y p (All-head (λ z. inside z ≡ true) y names a) in
    grind (arith, ih, e)

pub map_agree_on : (inside : ℕ → Bool) (f g : ℕ → ℕ) (xs : List ℕ) → AllPass inside xs → ((x : ℕ) → inside x ≡ true → f x ≡ g x) → map f xs ≡ map g xs
map_agree_on inside f g [] a h = refl
map_agree_on inside f g (x ∷ xs) a h =
    let e = h x (All-head (λ z. inside z ≡ true) x xs a) in let ih = map_agree_on inside f g xs (All-tail (λ z. inside z ≡ true) x xs a) h in cc

-- AND IT KEEPS THE PATTERN
pub label_pattern-map : (r : ℕ → ℕ) (names open_names : List ℕ) (es : List (ℕ × ℕ)) → IsOneToOne r names → AreAmong names es → AllPass (is_member ◌==◌ names) open_names →
    label_pattern (map (renamed r) es) (map r open_names) ≡ map r (label_pattern es open_names)
label_pattern-map r names open_names es h p a =
    let l' : ℕ → ℕ = label_of (map (renamed r) es) in
    map_map (first_like l' (map r open_names)) r open_names
    ∙ map_agree_on (is_member ◌==◌ names) (λ x. first_like l' (map r open_names) (r x)) (λ x. r (first_like (label_of es) open_names x)) open_names a
    (λ x q. first_like-map r l' open_names x
    ∙ ap (λ k. r (first_like k open_names x)) (sym (label_after-map r (λ x. x) es))
    ∙ ap r (first_like-agree (is_member ◌==◌ names) (label_after r es) (label_of es) open_names x (Agree-renamed r names es h p) q a))
    ∙ sym (map_map r (first_like (label_of es) open_names) open_names)
