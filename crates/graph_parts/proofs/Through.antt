-- The parts of two graphs together: where they share only open names, the one graph counts by the pattern in which it
-- joins these. An edge between names of both counts alike over both lists; before it, what stands outside the first graph
-- adds as many labels to its names as to its open ones; and edges of the pattern join what the edges of the graph join.
--
--     is_outer names open_names x     x is open, or no name of the first graph
use Rattle.std.proofs.Common.{◌≡◌, ℕ, zero, suc, ◌+◌, Bool, true, false, cond, not, ◌||◌, ◌==◌, List, [], ◌∷◌, ◌++◌, map, zip, refl, sym, ap, ◌∙◌, arith, All, Contains, ◌⊎◌, inl, inr, ⊎_elim}
use Rattle.std.specs.List.{AllPass}
use Rattle.std.specs.Set.{is_member}
use Rattle.std.proofs.lemmas.Bool.{or_left, or_right, eq-eqb, eqb-true, cases_Bool, or_cases}
use Rattle.std.proofs.lemmas.Bool.Decides.{nat_tests}
use Rattle.std.proofs.lemmas.List.{map-append}
use Rattle.std.proofs.lemmas.List.Elements.{All-map, All-weaker, All-cons, All-nil, All-append}
use Rattle.graph_parts.specs.Ends.{EndsAre, AreAmong}
use Rattle.graph_parts.specs.Labels.{relabel, label_after, label_of, label_count, Agree}
use Rattle.graph_parts.specs.Patterns.{first_like, label_pattern, label_closed}
use Rattle.graph_parts.specs.Walks.{Joined, along, stay, back, on}
use Rattle.graph_parts.proofs.Agreement.{label_count-agree, label_count-swap, eqb_from_iff, from_All, to_All}
use Rattle.graph_parts.proofs.Counting.{Agree-after, label_count-relabel, label_after-append, distinct_count-cons, is_member-map}
use Rattle.graph_parts.proofs.Distinct.{is_member-append, distinct_count-le_from_within}
use Rattle.graph_parts.proofs.Ends.{EndsAre-weaker}
use Rattle.graph_parts.proofs.Walks.{Joined-from_labels, labels-from_Joined}

-- ---- each edge between names of both lists lowers both counts alike
label_count-lists : (names others : List ℕ) (es : List (ℕ × ℕ)) (l : ℕ → ℕ) → AreAmong names es → AreAmong others es →
    label_count (label_after l es) names + label_count l others ≡ label_count (label_after l es) others + label_count l names
label_count-lists names others [] l p q = omega arith
label_count-lists names others (e ∷ es) l p q =
    let ih = label_count-lists names others es (relabel l e) p.2 q.2 in
    let n = label_count-relabel l e.0 e.1 names p.0 p.1 in
    let o = label_count-relabel l e.0 e.1 others q.0 q.1 in
    omega (arith, ih, n, o)

-- ---- what stands outside the edges is joined with nothing
joined_inside : (inside : ℕ → Bool) (es : List (ℕ × ℕ)) → EndsAre inside es → (x y : ℕ) → Contains es (x, y) → (inside x ≡ true) × (inside y ≡ true)
joined_inside inside [] p x y h = absurd (omega (arith, h.1))
joined_inside inside (e ∷ es) p x y (zero, l, same) = (ap inside (sym (ap (λ f. f.0) same)) ∙ p.0, ap inside (sym (ap (λ f. f.1) same)) ∙ p.1)
joined_inside inside (e ∷ es) p x y (suc k, l, same) = joined_inside inside es p.2 x y (k, omega arith, same)

pub inside-from_Joined : (inside : ℕ → Bool) (es : List (ℕ × ℕ)) → EndsAre inside es → {x y : ℕ} → Joined es x y → (x ≡ y) ⊎ ((inside x ≡ true) × (inside y ≡ true))
inside-from_Joined inside es p (along {x = x} {y = y} h) = inr (joined_inside inside es p x y h)
inside-from_Joined inside es p stay = inl refl
inside-from_Joined inside es p (back h) = ⊎_elim (λ e. inl (sym e)) (λ q. inr (q.1, q.0)) (inside-from_Joined inside es p h)
inside-from_Joined inside es p (on {x = x} {y = y} {z = z} h k) =
    ⊎_elim
    (λ e. ⊎_elim (λ f. inl (e ∙ f)) (λ r. inr (ap inside e ∙ r.0, r.1)) (inside-from_Joined inside es p k))
    (λ q. ⊎_elim (λ f. inr (q.0, ap inside (sym f) ∙ q.1)) (λ r. inr (q.0, r.1)) (inside-from_Joined inside es p k))
    (inside-from_Joined inside es p h)

pub alone : (inside : ℕ → Bool) (es : List (ℕ × ℕ)) → EndsAre inside es → (x y : ℕ) → inside x ≡ false → label_of es x ≡ label_of es y → x ≡ y
alone inside es p x y out h = ⊎_elim (λ e. e) (λ q. absurd (let t = q.0 in grind (arith, t, out))) (inside-from_Joined inside es p (Joined-from_labels es x y h))

-- ---- the names of the rest add as many labels to the nodes' names as to the open ones
-- a label that differs from each of theirs is none of theirs
pub member_label : (l : ℕ → ℕ) (y : ℕ) (zs : List ℕ) → ((z : ℕ) → is_member ◌==◌ zs z ≡ true → l y ≡ l z → ⊥) → is_member ◌==◌ (map l zs) (l y) ≡ false
member_label l y [] h = refl
member_label l y (z ∷ zs) h =
    let ih = member_label l y zs (λ w m. h w (or_right (w == z) (is_member ◌==◌ zs w) m)) in
    let here = h z (or_left (z == z) (is_member ◌==◌ zs z) (eq-eqb z z refl)) in
    grind (arith, nat_tests, ih, here)

module _ (names open_names : List ℕ) (es : List (ℕ × ℕ)) (ends : AreAmong names es) (has_open : AllPass (is_member ◌==◌ names) open_names) where
  same_member : (y : ℕ) → (is_member ◌==◌ names y ≡ true → is_member ◌==◌ open_names y ≡ true) →
      is_member ◌==◌ (map (label_of es) names) (label_of es y) ≡ is_member ◌==◌ (map (label_of es) open_names) (label_of es y)
  same_member y h =
      ⊎_elim
      (λ t. is_member-map (label_of es) names y t ∙ sym (is_member-map (label_of es) open_names y (h t)))
      (λ f.
      member_label (label_of es) y names (λ z m same. let e : y ≡ z = alone (is_member ◌==◌ names) es ends y z f same in let n = ap (is_member ◌==◌ names) e in grind (arith, m, n, f))
      ∙ sym (member_label (label_of es) y open_names (λ z m same.
      let e : y ≡ z = alone (is_member ◌==◌ names) es ends y z f same in let n = ap (is_member ◌==◌ names) e in
      let k = from_All (is_member ◌==◌ names) open_names has_open z m in grind (arith, k, n, f))))
      (cases_Bool (is_member ◌==◌ names y))

  label_count-more : (ys : List ℕ) → ((y : ℕ) → is_member ◌==◌ ys y ≡ true → is_member ◌==◌ names y ≡ true → is_member ◌==◌ open_names y ≡ true) →
      label_count (label_of es) (ys ++ names) + label_count (label_of es) open_names ≡ label_count (label_of es) (ys ++ open_names) + label_count (label_of es) names
  label_count-more [] h = omega arith
  label_count-more (y ∷ ys) h =
      let l : ℕ → ℕ = label_of es in
      let ih = label_count-more ys (λ z m. h z (or_right (z == y) (is_member ◌==◌ ys z) m)) in
      let e = distinct_count-cons (l y) (map l (ys ++ names)) in
      let f = distinct_count-cons (l y) (map l (ys ++ open_names)) in
      let i = ap (λ zs. is_member ◌==◌ zs (l y)) (map-append l ys names) ∙ is_member-append (map l ys) (map l names) (l y) in
      let j = ap (λ zs. is_member ◌==◌ zs (l y)) (map-append l ys open_names) ∙ is_member-append (map l ys) (map l open_names) (l y) in
      let k = same_member y (h y (or_left (y == y) (is_member ◌==◌ ys y) (eq-eqb y y refl))) in
      grind (arith, ih, e, f, i, j, k)

-- ---- the edges of a pattern join what the edges of the nodes join
pub first_like_label : (l : ℕ → ℕ) (names : List ℕ) (x : ℕ) → l (first_like l names x) ≡ l x
first_like_label l [] x = refl
first_like_label l (y ∷ names) x =
    let ih = first_like_label l names x in
    elim (l x == l y) as (λ b. (l x == l y) ≡ b → l (cond b y (first_like l names x)) ≡ l x) [ true ↦ λ e. sym (eqb-true (l x) (l y) e) | false ↦ λ e. ih ] refl

pub first_like_same : (l : ℕ → ℕ) (names : List ℕ) (x y : ℕ) → l x ≡ l y → is_member ◌==◌ names x ≡ true → first_like l names x ≡ first_like l names y
first_like_same l [] x y h m = absurd (grind (arith, m))
first_like_same l (z ∷ names) x y h m =
    let ih = first_like_same l names x y h in let same = λ (e : x ≡ z). ap l e in grind (arith, nat_tests, ih, same, m, h)

zip_keeps : (l f : ℕ → ℕ) → ((x : ℕ) → l (f x) ≡ l x) → (xs : List ℕ) → All (λ e. l e.0 ≡ l e.1) (zip xs (map f xs))
zip_keeps l f h [] = All-nil (λ e. l e.0 ≡ l e.1)
zip_keeps l f h (x ∷ xs) = All-cons (λ e. l e.0 ≡ l e.1) (x, f x) (zip xs (map f xs)) (sym (h x)) (zip_keeps l f h xs)

in_zip : (f : ℕ → ℕ) (x : ℕ) (xs : List ℕ) → is_member ◌==◌ xs x ≡ true → Contains (zip xs (map f xs)) (x, f x)
in_zip f x [] m = absurd (grind (arith, m))
in_zip f x (y ∷ xs) m =
    ⊎_elim
    (λ e. let same : y ≡ x = sym (eqb-true x y e) in (0, omega arith, ap (λ z. (z, f z)) same))
    (λ n. let c = in_zip f x xs n in (suc c.0, omega (arith, c.1), c.2))
    (or_cases (x == y) (is_member ◌==◌ xs x) m)

-- a labelling that each edge keeps is kept by walks
pub keeps_Joined : (l : ℕ → ℕ) (es : List (ℕ × ℕ)) → All (λ e. l e.0 ≡ l e.1) es → {u v : ℕ} → Joined es u v → l u ≡ l v
keeps_Joined l es a (along {x = u} {y = v} h) = let at = a h.0 (u, v) h.1 in rw h.2 at at
keeps_Joined l es a stay = refl
keeps_Joined l es a (back h) = sym (keeps_Joined l es a h)
keeps_Joined l es a (on h k) = keeps_Joined l es a h ∙ keeps_Joined l es a k

-- not an inner name
abbrev pub is_outer : List ℕ → List ℕ → ℕ → Bool
is_outer names open_names x = is_member ◌==◌ open_names x || not (is_member ◌==◌ names x)

module _ (names open_names : List ℕ) (es : List (ℕ × ℕ)) (ends : AreAmong names es) where
  joined_pattern : (u v : ℕ) → is_outer names open_names u ≡ true → is_outer names open_names v ≡ true → label_of es u ≡ label_of es v →
      label_of (zip open_names (label_pattern es open_names)) u ≡ label_of (zip open_names (label_pattern es open_names)) v
  joined_pattern u v p q h =
      let first : ℕ → ℕ = first_like (label_of es) open_names in
      let edges = zip open_names (label_pattern es open_names) in
      ⊎_elim
      (λ s. ⊎_elim
      (λ t.
      let mu : is_member ◌==◌ open_names u ≡ true = grind (arith, p, s) in
      let mv : is_member ◌==◌ open_names v ≡ true = grind (arith, q, t) in
      labels-from_Joined edges (along (in_zip first u open_names mu))
      ∙ ap (label_of edges) (first_like_same (label_of es) open_names u v h mu)
      ∙ sym (labels-from_Joined edges (along (in_zip first v open_names mv))))
      (λ t. ap (label_of edges) (sym (alone (is_member ◌==◌ names) es ends v u t (sym h))))
      (cases_Bool (is_member ◌==◌ names v)))
      (λ s. ap (label_of edges) (alone (is_member ◌==◌ names) es ends u v s h))
      (cases_Bool (is_member ◌==◌ names u))

  pub Agree-pattern : Agree (is_outer names open_names) (label_of es) (label_of (zip open_names (label_pattern es open_names)))
  Agree-pattern u v p q =
      eqb_from_iff (label_of es u) (label_of es v) _ _ (joined_pattern u v p q)
      (λ h. keeps_Joined (label_of es) (zip open_names (label_pattern es open_names))
      (zip_keeps (label_of es) (first_like (label_of es) open_names) (first_like_label (label_of es) open_names) open_names)
      (Joined-from_labels (zip open_names (label_pattern es open_names)) u v h))

-- THE PARTS OF BOTH GRAPHS TOGETHER
pub label_count-through : (names others open_names : List ℕ) (es fs : List (ℕ × ℕ)) →
    AreAmong names es → AreAmong others fs → AllPass (is_member ◌==◌ names) open_names →
    ((x : ℕ) → is_member ◌==◌ others x ≡ true → is_member ◌==◌ names x ≡ true → is_member ◌==◌ open_names x ≡ true) →
    label_count (label_of (es ++ fs)) (names ++ others) ≡ label_closed es names open_names + label_count (label_of (zip open_names (label_pattern es open_names) ++ fs)) (others ++ open_names)
label_count-through names others open_names es fs p q has meets =
    let l : ℕ → ℕ = label_of es in
    let edges = zip open_names (label_pattern es open_names) in
    let outer : (x : ℕ) → is_member ◌==◌ others x ≡ true → is_outer names open_names x ≡ true = λ x m. let k = meets x m in grind (arith, k) in
    let in_left : (ys : List ℕ) (x : ℕ) → is_member ◌==◌ others x ≡ true → is_member ◌==◌ (others ++ ys) x ≡ true =
    λ ys x m. is_member-append others ys x ∙ or_left (is_member ◌==◌ others x) (is_member ◌==◌ ys x) m in
    let swapped : label_count (label_of (es ++ fs)) (names ++ others) ≡ label_count (label_after l fs) (others ++ names) =
    ap (λ k. label_count k (names ++ others)) (label_after-append (λ x. x) es fs) ∙ label_count-swap (label_after l fs) names others in
    let lists = label_count-lists (others ++ names) (others ++ open_names) fs l
    (EndsAre-weaker (is_member ◌==◌ others) (is_member ◌==◌ (others ++ names)) (in_left names) fs q)
    (EndsAre-weaker (is_member ◌==◌ others) (is_member ◌==◌ (others ++ open_names)) (in_left open_names) fs q) in
    let more = label_count-more names open_names es p has others meets in
    let below = distinct_count-le_from_within (map l open_names) (map l names)
    (All-map (λ z. is_member ◌==◌ (map l names) z ≡ true) l open_names
    (All-weaker (λ x. is_member ◌==◌ names x ≡ true) (λ x. is_member ◌==◌ (map l names) (l x) ≡ true) (λ x m. is_member-map l names x m) open_names has)) in
    let agree : label_count (label_after l fs) (others ++ open_names) ≡ label_count (label_of (edges ++ fs)) (others ++ open_names) =
    label_count-agree (is_outer names open_names) (label_after l fs) (label_after (label_of edges) fs) (others ++ open_names)
    (Agree-after (is_outer names open_names) l (label_of edges) fs (EndsAre-weaker (is_member ◌==◌ others) (is_outer names open_names) outer fs q) (Agree-pattern names open_names es p))
    (All-append (λ x. is_outer names open_names x ≡ true) others open_names
    (to_All (is_outer names open_names) others outer)
    (to_All (is_outer names open_names) open_names (λ x m. or_left (is_member ◌==◌ open_names x) _ m)))
    ∙ sym (ap (λ k. label_count k (others ++ open_names)) (label_after-append (λ x. x) edges fs)) in
    omega (arith, swapped, lists, more, below, agree)
