-- The part of a name is what walks join with it: as many rounds as there are names reach all of it. Each round reaches one
-- name more, or no round does from there on, since then both ends of each edge are reached or neither is.
use Rattle.std.proofs.Common.{◌≡◌, ℕ, zero, suc, ◌+◌, ◌≤◌, Bool, true, false, cond, ◌==◌, ◌||◌, ◌&&◌, List, [], ◌∷◌, length, get_or, Contains, All, count_by, refl, sym, ap, ◌∙◌, arith, inl, inr, ⊎_elim, ◌⊎◌, ◌↔◌, subst}
use Rattle.std.proofs.lemmas.Bool.{cases_Bool, eqb-true, eq-eqb, or_left, or_cases, and_parts}
use Rattle.std.proofs.lemmas.Bool.Decides.{nat_tests}
use Rattle.std.proofs.lemmas.Cmp.{nat_eq_equiv}
use Rattle.std.proofs.lemmas.List.Elements.{All-nil, All-cons, All-head, All-tail}
use Rattle.std.proofs.lemmas.List.Folds.{list_any_at}
use Rattle.std.proofs.lemmas.List.Sums.{sum_by-cons, count_by-le-length}
use Rattle.std.proofs.lemmas.Map.Made.{is_member-filter}
use Rattle.std.specs.List.{list_any}
use Rattle.std.specs.Set.{is_member}
use Rattle.graph_parts.specs.Ends.{AreAmong}
use Rattle.graph_parts.specs.Parts.{leads_to, after_rounds, part}
use Rattle.graph_parts.specs.Walks.{Joined, along, stay, back, on}

pub count_by-cons : (R : ℕ → Bool) (x : ℕ) (xs : List ℕ) → count_by R (x ∷ xs) ≡ cond (R x) 1 0 + count_by R xs
count_by-cons R x xs = sum_by-cons (λ z. cond (R z) 1 0) x xs

count_le : (R S : ℕ → Bool) (names : List ℕ) → ((z : ℕ) → R z ≡ true → S z ≡ true) → count_by R names ≤ count_by S names
count_le R S [] h = omega arith
count_le R S (x ∷ xs) h =
    let ih = count_le R S xs h in let e = count_by-cons R x xs in let f = count_by-cons S x xs in let g = h x in grind (arith, ih, e, f, g)

count_grows : (R S : ℕ → Bool) (y : ℕ) (names : List ℕ) → ((z : ℕ) → R z ≡ true → S z ≡ true) → is_member ◌==◌ names y ≡ true → R y ≡ false → S y ≡ true →
    count_by R names + 1 ≤ count_by S names
count_grows R S y [] h m p q = grind (arith, m)
count_grows R S y (x ∷ xs) h m p q =
    let ih = λ (n : is_member ◌==◌ xs y ≡ true). count_grows R S y xs h n p q in
    let le = count_le R S xs h in let e = count_by-cons R x xs in let f = count_by-cons S x xs in
    let g = h x in let same = λ (t : y ≡ x). ap R t in let same' = λ (t : y ≡ x). ap S t in
    grind (arith, nat_tests, ih, le, e, f, g, same, same', m, p, q)

-- both ends of each edge are reached, or neither
abbrev IsClosed : (ℕ → Bool) → List (ℕ × ℕ) → Type 0
IsClosed R es = All (λ e. R e.0 ≡ R e.1) es

-- where R is reached, S is after one more round
abbrev PassesOn : (ℕ → Bool) → (ℕ → Bool) → List (ℕ × ℕ) → Type 0
PassesOn R S es = All (λ e. (R e.0 ≡ true → S e.1 ≡ true) × (R e.1 ≡ true → S e.0 ≡ true)) es

closed_or_grows : (R S : ℕ → Bool) (names : List ℕ) (es : List (ℕ × ℕ)) → ((z : ℕ) → R z ≡ true → S z ≡ true) → PassesOn R S es → AreAmong names es →
    IsClosed R es ⊎ (count_by R names + 1 ≤ count_by S names)
closed_or_grows R S names [] h p q = inl (All-nil (λ e. R e.0 ≡ R e.1))
closed_or_grows R S names (e ∷ es) h p q =
    let step = All-head (λ e. (R e.0 ≡ true → S e.1 ≡ true) × (R e.1 ≡ true → S e.0 ≡ true)) e es p in
    let rest = closed_or_grows R S names es h (All-tail (λ e. (R e.0 ≡ true → S e.1 ≡ true) × (R e.1 ≡ true → S e.0 ≡ true)) e es p) q.2 in
    ⊎_elim
    (λ closed. ⊎_elim
    (λ a. ⊎_elim
    (λ b. inl (All-cons (λ e. R e.0 ≡ R e.1) e es (a ∙ sym b) closed))
    (λ b. inr (count_grows R S e.1 names h q.1 b (step.0 a)))
    (cases_Bool (R e.1)))
    (λ a. ⊎_elim
    (λ b. inr (count_grows R S e.0 names h q.0 a (step.1 b)))
    (λ b. inl (All-cons (λ e. R e.0 ≡ R e.1) e es (a ∙ sym b) closed))
    (cases_Bool (R e.1)))
    (cases_Bool (R e.0)))
    (λ grows. inr grows)
    rest

among_at : (names : List ℕ) (edges : List (ℕ × ℕ)) → AreAmong names edges → All (λ e. (is_member ◌==◌ names e.0 ≡ true) × (is_member ◌==◌ names e.1 ≡ true)) edges
among_at names [] h = All-nil (λ e. (is_member ◌==◌ names e.0 ≡ true) × (is_member ◌==◌ names e.1 ≡ true))
among_at names (e ∷ es) h = All-cons (λ e. (is_member ◌==◌ names e.0 ≡ true) × (is_member ◌==◌ names e.1 ≡ true)) e es (h.0, h.1) (among_at names es h.2)

any_closed : (reached : List ℕ) (y : ℕ) (es : List (ℕ × ℕ)) → IsClosed (is_member ◌==◌ reached) es → list_any (leads_to reached y) es ≡ true → is_member ◌==◌ reached y ≡ true
any_closed reached y [] c h = grind (arith, h)
any_closed reached y (e ∷ es) c h =
    let R : ℕ → Bool = is_member ◌==◌ reached in
    let rest = any_closed reached y es (All-tail (λ e. R e.0 ≡ R e.1) e es c) in
    let both = All-head (λ e. R e.0 ≡ R e.1) e es c in
    let at_1 = λ (t : e.1 ≡ y). ap R t in let at_0 = λ (t : e.0 ≡ y). ap R t in
    grind (arith, nat_tests, rest, both, at_1, at_0, h)

closed_Joined : (R : ℕ → Bool) (edges : List (ℕ × ℕ)) → IsClosed R edges → {u v : ℕ} → Joined edges u v → R u ≡ R v
closed_Joined R edges c (along {x = u} {y = v} h) = let at = c h.0 (u, v) h.1 in rw h.2 at at
closed_Joined R edges c stay = refl
closed_Joined R edges c (back h) = sym (closed_Joined R edges c h)
closed_Joined R edges c (on h k) = closed_Joined R edges c h ∙ closed_Joined R edges c k

joined_through : (edges : List (ℕ × ℕ)) (x : ℕ) (reached : List ℕ) → ((z : ℕ) → is_member ◌==◌ reached z ≡ true → Joined edges x z) → (y : ℕ) (es : List (ℕ × ℕ)) →
    ((e : ℕ × ℕ) → Contains es e → Contains edges e) → list_any (leads_to reached y) es ≡ true → Joined edges x y
joined_through edges x reached j y [] among h = absurd (grind (arith, h))
joined_through edges x reached j y (e ∷ es) among h =
    let R : ℕ → Bool = is_member ◌==◌ reached in
    let here : Joined edges e.0 e.1 = along (among e (0, omega arith, refl)) in
    ⊎_elim
    (λ t. ⊎_elim
    (λ p. let q = and_parts (R e.0) (e.1 == y) p in let to : e.1 ≡ y = eqb-true e.1 y q.1 in subst (λ z. Joined edges x z) to (on (j e.0 q.0) here))
    (λ p. let q = and_parts (R e.1) (e.0 == y) p in let to : e.0 ≡ y = eqb-true e.0 y q.1 in subst (λ z. Joined edges x z) to (on (j e.1 q.0) (back here)))
    (or_cases (R e.0 && e.1 == y) _ t))
    (λ t. joined_through edges x reached j y es (λ f c. among f (suc c.0, omega (arith, c.1), c.2)) t)
    (or_cases ((R e.0 && e.1 == y) || (R e.1 && e.0 == y)) _ h)

module _ (names : List ℕ) (edges : List (ℕ × ℕ)) (x : ℕ) where
  abbrev reached : ℕ → List ℕ
  reached k = after_rounds names edges (x ∷ []) k

  abbrev is_reached : ℕ → ℕ → Bool
  is_reached k y = is_member ◌==◌ (reached k) y

  -- one round: what was reached, and what an edge leads to
  next : (k y : ℕ) → is_reached (suc k) y ≡ (is_member ◌==◌ names y && (is_reached k y || list_any (leads_to (reached k) y) edges))
  next k y =
      let now = reached k in
      is_member-filter nat_eq_equiv (λ z. is_member ◌==◌ now z || list_any (leads_to now z) edges) y
      (λ z e. ap (λ w. is_member ◌==◌ now w || list_any (leads_to now w) edges) (eqb-true y z e)) names

  Joined-from_reached : (k y : ℕ) → is_reached k y ≡ true → Joined edges x y
  Joined-from_reached zero y h = ⊎_elim (λ e. subst (λ z. Joined edges x z) (sym (eqb-true y x e)) stay) (λ e. absurd (grind (arith, e))) (or_cases (y == x) _ h)
  Joined-from_reached (suc k) y h =
      let n = sym (next k y) ∙ h in
      ⊎_elim (Joined-from_reached k y) (joined_through edges x (reached k) (Joined-from_reached k) y edges (λ e c. c))
      (or_cases (is_reached k y) _ (and_parts (is_member ◌==◌ names y) _ n).1)

  module _ (there : is_member ◌==◌ names x ≡ true) (among : AreAmong names edges) where
    reached_names : (k y : ℕ) → is_reached k y ≡ true → is_member ◌==◌ names y ≡ true
    reached_names zero y h = ⊎_elim (λ e. ap (is_member ◌==◌ names) (eqb-true y x e) ∙ there) (λ e. absurd (grind (arith, e))) (or_cases (y == x) _ h)
    reached_names (suc k) y h = let n = next k y in grind (arith, h, n)

    one_more : (k y : ℕ) → is_reached k y ≡ true → is_reached (suc k) y ≡ true
    one_more k y h = let n = next k y in let m = reached_names k y h in grind (arith, h, n, m)

    led_to : (k y : ℕ) → is_member ◌==◌ names y ≡ true → list_any (leads_to (reached k) y) edges ≡ true → is_reached (suc k) y ≡ true
    led_to k y m l = let n = next k y in grind (arith, m, l, n)

    passes_on : (k : ℕ) → PassesOn (is_reached k) (is_reached (suc k)) edges
    passes_on k i d l =
        let e = get_or edges i d in
        let ends = among_at names edges among i d l in (
          λ h. led_to k e.1 ends.1 (list_any_at (leads_to (reached k) e.1) edges i d l (let same = eq-eqb e.1 e.1 refl in grind (arith, h, same))),
          λ h. led_to k e.0 ends.0 (list_any_at (leads_to (reached k) e.0) edges i d l (let same = eq-eqb e.0 e.0 refl in grind (arith, h, same))),
        )

    closed_same : (k y : ℕ) → IsClosed (is_reached k) edges → is_reached (suc k) y ≡ is_reached k y
    closed_same k y c =
        let n = next k y in
        let any = any_closed (reached k) y edges c in
        let m = reached_names k y in
        grind (arith, n, any, m)

    closed_on : (k : ℕ) → IsClosed (is_reached k) edges → IsClosed (is_reached (suc k)) edges
    closed_on k c i d l = closed_same k (get_or edges i d).0 c ∙ c i d l ∙ sym (closed_same k (get_or edges i d).1 c)

    counted : (ys : List ℕ) → is_member ◌==◌ ys x ≡ true → 1 ≤ count_by (is_reached zero) ys
    counted [] m = grind (arith, m)
    counted (z ∷ ys) m = let ih = counted ys in let e = count_by-cons (is_reached zero) z ys in grind (arith, nat_tests, ih, e, m)

    closed_by : (k : ℕ) → IsClosed (is_reached k) edges ⊎ (suc k ≤ count_by (is_reached k) names)
    closed_by zero = inr (counted names there)
    closed_by (suc k) =
        ⊎_elim
        (λ c. inl (closed_on k c))
        (λ n. ⊎_elim
        (λ c. inl (closed_on k c))
        (λ g. inr (omega (arith, n, g)))
        (closed_or_grows (is_reached k) (is_reached (suc k)) names edges (one_more k) (passes_on k) among))
        (closed_by k)

    closed_all : IsClosed (is_reached (length names)) edges
    closed_all =
        ⊎_elim (λ c. c) (λ n. absurd (omega (arith, n, count_by-le-length (is_reached (length names)) names))) (closed_by (length names))

    reach_itself : (k : ℕ) → is_reached k x ≡ true
    reach_itself zero = or_left (x == x) _ (eq-eqb x x refl)
    reach_itself (suc k) = one_more k x (reach_itself k)

-- A PART HAS ONLY NAMES
pub part-names : (names : List ℕ) (edges : List (ℕ × ℕ)) (x y : ℕ) → is_member ◌==◌ names x ≡ true → AreAmong names edges →
    is_member ◌==◌ (part names edges x) y ≡ true → is_member ◌==◌ names y ≡ true
unfolding part
part-names names edges x y there among h = reached_names names edges x there among (length names) y h

-- THE ROUNDS REACH WHAT WALKS JOIN
pub part-Joined : (names : List ℕ) (edges : List (ℕ × ℕ)) (x y : ℕ) → is_member ◌==◌ names x ≡ true → AreAmong names edges →
    (is_member ◌==◌ (part names edges x) y ≡ true) ↔ Joined edges x y
unfolding part
part-Joined names edges x y there among = (
  Joined-from_reached names edges x (length names) y,
  λ j. sym (closed_Joined (is_reached names edges x (length names)) edges (closed_all names edges x there among) j) ∙ reach_itself names edges x there among (length names),
)
