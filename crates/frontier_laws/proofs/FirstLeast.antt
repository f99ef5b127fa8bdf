-- The first of the places at which a measure is least, found by going through them.
use Rattle.std.proofs.Common.{◌≡◌, ◌≢◌, ℕ, suc, ⊎_elim, ◌<◌, ◌≤◌, ◌==◌, nat_lt, Bool, true, false, if◌then◌else◌, List, [], ◌∷◌, map, fold, filter, slice_index, take, length, ◌+◌, refl, sym, ap, subst, ◌∙◌, arith}
use Rattle.std.specs.List.{AllPairs, AllPass}
use Rattle.std.specs.Set.{is_member}
use Rattle.std.proofs.lemmas.List.Elements.{All-head, All-tail}
use Rattle.graph_parts.proofs.Ends.{is_member-itself, is_member-get_or}
use Rattle.std.proofs.lemmas.List.Sums.{fold_more}
use Rattle.std.proofs.lemmas.Bool.{cases_Bool, eq-eqb, or_left, or_right}
use Rattle.std.proofs.lemmas.Bool.Decides.{nat_tests}
use Rattle.list_lemmas.proofs.Items.{member_at}
use Rattle.frontier_laws.specs.Orders.{least_of, first_least}

-- The better of two places, the first where they are equal.
abbrev pub better : (ℕ → ℕ) → ℕ → ℕ → ℕ
better key best place = if nat_lt (key place) (key best) then place else best

-- The best of the places, going through them.
abbrev pub running : (ℕ → ℕ) → ℕ → List ℕ → ℕ
running key best places = fold (better key) best places

least_of-two : (a b : ℕ) (ns : List ℕ) → least_of (a ∷ b ∷ ns) ≡ least_of ((if nat_lt b a then b else a) ∷ ns)
least_of-two a b [] = refl
least_of-two a b (n ∷ ns) = let rest = least_of (n ∷ ns) in grind (arith, nat_tests)

least_of-below : (a : ℕ) (ns : List ℕ) → least_of (a ∷ ns) ≤ a
least_of-below a [] = omega arith
least_of-below a (n ∷ ns) = let rest = least_of (n ∷ ns) in grind (arith, nat_tests)

-- The first of the places with this value.
abbrev found : (ℕ → ℕ) → ℕ → List ℕ → ℕ
found key value places = slice_index (filter (λ place. key place == value) places) 0

found_hit : (key : ℕ → ℕ) (value x : ℕ) (places : List ℕ) → (key x == value) ≡ true → found key value (x ∷ places) ≡ x
found_hit key value x places e = rw (e) refl

found_miss : (key : ℕ → ℕ) (value x : ℕ) (places : List ℕ) → (key x == value) ≡ false → found key value (x ∷ places) ≡ found key value places
found_miss key value x places e = rw (e) refl

-- Of two first places, the better one stands for both.
first_least-two : (key : ℕ → ℕ) (x y : ℕ) (places : List ℕ) → first_least key (x ∷ y ∷ places) ≡ first_least key (better key x y ∷ places)
first_least-two key x y places = at (nat_lt (key y) (key x)) refl
  where
    rest : List ℕ
    rest = map key places

    second : nat_lt (key y) (key x) ≡ false → (b : Bool) → (key x == least_of (key x ∷ rest)) ≡ b →
        found key (least_of (key x ∷ rest)) (x ∷ y ∷ places) ≡ found key (least_of (key x ∷ rest)) (x ∷ places)
    second e true h = found_hit key (least_of (key x ∷ rest)) x (y ∷ places) h ∙ sym (found_hit key (least_of (key x ∷ rest)) x places h)
    second e false h =
        let below = least_of-below (key x) rest in
        found_miss key (least_of (key x ∷ rest)) x (y ∷ places) h
        ∙ found_miss key (least_of (key x ∷ rest)) y places (grind (arith, nat_tests, e, h, below))
        ∙ sym (found_miss key (least_of (key x ∷ rest)) x places h)

    at : (b : Bool) → nat_lt (key y) (key x) ≡ b →
        found key (least_of (key x ∷ key y ∷ rest)) (x ∷ y ∷ places) ≡ found key (least_of (key (if b then y else x) ∷ rest)) ((if b then y else x) ∷ places)
    at true e =
        let below = least_of-below (key y) rest in
        let one : least_of (key x ∷ key y ∷ rest) ≡ least_of (key y ∷ rest) = least_of-two (key x) (key y) rest ∙ ap (λ b. least_of ((if b then key y else key x) ∷ rest)) e in
        ap (λ value. found key value (x ∷ y ∷ places)) one ∙ found_miss key (least_of (key y ∷ rest)) x (y ∷ places) (grind (arith, nat_tests, e, below))
    at false e =
        let one : least_of (key x ∷ key y ∷ rest) ≡ least_of (key x ∷ rest) = least_of-two (key x) (key y) rest ∙ ap (λ b. least_of ((if b then key y else key x) ∷ rest)) e in
        ap (λ value. found key value (x ∷ y ∷ places)) one ∙ second e (key x == least_of (key x ∷ rest)) refl

first_least-one : (key : ℕ → ℕ) (x : ℕ) → first_least key (x ∷ []) ≡ x
first_least-one key x = found_hit key (key x) x [] (grind (arith, nat_tests))

-- Going through the places finds the first one at which the measure is least.
running-first_least : (key : ℕ → ℕ) (x : ℕ) (places : List ℕ) → running key x places ≡ first_least key (x ∷ places)
running-first_least key x [] = sym (first_least-one key x)
running-first_least key x (y ∷ places) = running-first_least key (better key x y) places ∙ sym (first_least-two key x y places)

-- FROM THE FIRST PLACE ON IT FINDS THE FIRST LEAST ONE
pub running-all : (key : ℕ → ℕ) (places : List ℕ) → 0 < length places → running key (slice_index places 0) places ≡ first_least key places
running-all key [] some = absurd (omega (arith, some))
running-all key (x ∷ places) some = ap (λ best. running key best places) (better-same (nat_lt (key x) (key x)) refl) ∙ running-first_least key x places
  where
    better-same : (b : Bool) → nat_lt (key x) (key x) ≡ b → (if b then x else x) ≡ x
    better-same true e = refl
    better-same false e = refl

-- One more place.
pub running-more : (key : ℕ → ℕ) (best : ℕ) (places : List ℕ) (i : ℕ) → i < length places →
    running key best (take (i + 1) places) ≡ better key (running key best (take i places)) (slice_index places i)
running-more key best places i small = fold_more (better key) best places i 0 small

pub better-then : (key : ℕ → ℕ) (best place : ℕ) → key place < key best → better key best place ≡ place
better-then key best place less = grind (arith, nat_tests, less)

pub better-else : (key : ℕ → ℕ) (best place : ℕ) → key best ≤ key place → better key best place ≡ best
better-else key best place more = grind (arith, nat_tests, more)

better-among : (key : ℕ → ℕ) (all : List ℕ) (best place : ℕ) → is_member ◌==◌ all best ≡ true → is_member ◌==◌ all place ≡ true → is_member ◌==◌ all (better key best place) ≡ true
better-among key all best place one two = at (nat_lt (key place) (key best))
  where
    at : (b : Bool) → is_member ◌==◌ all (if b then place else best) ≡ true
    at true = two
    at false = one

running-among : (key : ℕ → ℕ) (all : List ℕ) (best : ℕ) (places : List ℕ) → is_member ◌==◌ all best ≡ true → AllPass (is_member ◌==◌ all) places → is_member ◌==◌ all (running key best places) ≡ true
running-among key all best [] one some = one
running-among key all best (place ∷ places) one some =
    running-among key all (better key best place) places (better-among key all best place one (All-head (λ x. is_member ◌==◌ all x ≡ true) place places some))
    (All-tail (λ x. is_member ◌==◌ all x ≡ true) place places some)

-- AND THAT IS ONE OF THE PLACES
pub first_least-among : (key : ℕ → ℕ) (places : List ℕ) → places ≢ [] → is_member ◌==◌ places (first_least key places) ≡ true
first_least-among key [] some = absurd (some refl)
first_least-among key (x ∷ places) some =
    let all = x ∷ places in
    subst (λ place. is_member ◌==◌ all place ≡ true) (running-all key all (omega arith))
    (running-among key all x all (is_member-get_or all 0 (omega arith)) (is_member-itself all))

-- MEASURES THAT COMPARE ALIKE HAVE ONE FIRST LEAST PLACE
better-alike : (key other : ℕ → ℕ) (best place : ℕ) → nat_lt (key place) (key best) ≡ nat_lt (other place) (other best) → better key best place ≡ better other best place
better-alike key other best place same = ap (λ b. if b then place else best) same

running-alike : (key other : ℕ → ℕ) (all : List ℕ) → ((x y : ℕ) → is_member ◌==◌ all x ≡ true → is_member ◌==◌ all y ≡ true → nat_lt (key y) (key x) ≡ nat_lt (other y) (other x)) →
    (best : ℕ) (places : List ℕ) → is_member ◌==◌ all best ≡ true → AllPass (is_member ◌==◌ all) places → running key best places ≡ running other best places
running-alike key other all alike best [] one some = refl
running-alike key other all alike best (place ∷ places) one some =
    let two = All-head (λ x. is_member ◌==◌ all x ≡ true) place places some in
    running-alike key other all alike (better key best place) places (better-among key all best place one two) (All-tail (λ x. is_member ◌==◌ all x ≡ true) place places some)
    ∙ ap (λ best. running other best places) (better-alike key other best place (alike best place one two))

pub first_least-alike : (key other : ℕ → ℕ) (places : List ℕ) → 0 < length places →
    ((x y : ℕ) → is_member ◌==◌ places x ≡ true → is_member ◌==◌ places y ≡ true → nat_lt (key y) (key x) ≡ nat_lt (other y) (other x)) → first_least key places ≡ first_least other places
first_least-alike key other places some alike =
    sym (running-all key places some)
    ∙ running-alike key other places alike (slice_index places 0) places (is_member-get_or places 0 some) (is_member-itself places)
    ∙ running-all other places some

-- ---- told by comparing
-- Of no place the measure is less, and of none before it it is as little.
abbrev pub IsFirstLeast : (ℕ → ℕ) → List ℕ → ℕ → Type 0
IsFirstLeast key places place = (other : ℕ) → is_member ◌==◌ places other ≡ true → (key place ≤ key other) × (other < place → key place < key other)

running-stays : (key : ℕ → ℕ) (place : ℕ) (places : List ℕ) → ((other : ℕ) → is_member ◌==◌ places other ≡ true → key place ≤ key other) → running key place places ≡ place
running-stays key place [] least = refl
running-stays key place (x ∷ places) least =
    ap (λ best. running key best places) (better-else key place x (least x (or_left (x == x) (is_member ◌==◌ places x) (eq-eqb x x refl))))
    ∙ running-stays key place places (λ other m. least other (or_right (other == x) (is_member ◌==◌ places other) m))

better-above : (key : ℕ → ℕ) (place best x : ℕ) → key place < key best → key place < key x → key place < key (better key best x)
better-above key place best x one two = at (nat_lt (key x) (key best))
  where
    at : (b : Bool) → key place < key (if b then x else best)
    at true = two
    at false = one

running-reaches : (key : ℕ → ℕ) (place best : ℕ) (places : List ℕ) → key place < key best → AllPairs (λ x y. x < y) places → is_member ◌==◌ places place ≡ true → IsFirstLeast key places place → running key best places ≡ place
running-reaches key place best [] less up member first = absurd (not_in member)
  where
    not_in : false ≡ true → ⊥
    not_in e = grind (arith, e)
running-reaches key place best (x ∷ places) less up member first =
    ⊎_elim
    (λ (here : (place == x) ≡ true).
    let same : place ≡ x = grind (arith, nat_tests, here) in
    ap (λ best. running key best places) (better-then key best x (subst (λ x. key x < key best) same less) ∙ sym same)
    ∙ running-stays key place places (λ other m. (first other (or_right (other == x) (is_member ◌==◌ places other) m)).0))
    (λ (behind : (place == x) ≡ false).
    let in_rest : is_member ◌==◌ places place ≡ true = rw behind at member in
    let at = member_at places place in_rest in
    let before : x < place = (let less_at = up 0 (suc at.0) 0 (omega arith) (let l = at.1 in omega (arith, l)) in let e = at.2 in omega (arith, less_at, e)) in
    let strict = (first x (or_left (x == x) (is_member ◌==◌ places x) (eq-eqb x x refl))).1 before in
    running-reaches key place (better key best x) places (better-above key place best x less strict) (λ i j d m k. up (suc i) (suc j) d (omega (arith, m)) (omega (arith, k))) in_rest
    (λ other m. first other (or_right (other == x) (is_member ◌==◌ places other) m)))
    (cases_Bool (place == x))

-- SUCH A PLACE IS THE FIRST LEAST ONE
pub first_least-told : (key : ℕ → ℕ) (places : List ℕ) (place : ℕ) → AllPairs (λ x y. x < y) places → is_member ◌==◌ places place ≡ true → IsFirstLeast key places place → first_least key places ≡ place
first_least-told key [] place up member first = absurd (not_in member)
  where
    not_in : false ≡ true → ⊥
    not_in e = grind (arith, e)
first_least-told key (x ∷ places) place up member first =
    sym (running-all key (x ∷ places) (omega arith))
    ∙ ⊎_elim
    (λ (here : (place == x) ≡ true).
    let same : place ≡ x = grind (arith, nat_tests, here) in
    ap (λ start. running key start (x ∷ places)) (sym same) ∙ running-stays key place (x ∷ places) (λ other m. (first other m).0))
    (λ (behind : (place == x) ≡ false).
    let in_rest : is_member ◌==◌ places place ≡ true = rw behind at member in
    let at = member_at places place in_rest in
    let before : x < place = (let less_at = up 0 (suc at.0) 0 (omega arith) (let l = at.1 in omega (arith, l)) in let e = at.2 in omega (arith, less_at, e)) in
    let strict = (first x (or_left (x == x) (is_member ◌==◌ places x) (eq-eqb x x refl))).1 before in
    running-reaches key place x (x ∷ places) strict up member first)
    (cases_Bool (place == x))
