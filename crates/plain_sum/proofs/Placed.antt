-- The places of a node's ends, and the edges of its terms there.
use Rattle.std.proofs.Common.{◌≡◌, ℕ, zero, suc, ◌+◌, ◌<◌, ◌≤◌, List, [], ◌∷◌, ◌++◌, map, length, get_or, slice_index, take, drop, zip, add-one, refl, sym, ap, ◌∙◌, arith, All}
use Rattle.std.specs.List.{range_with_len}
use Rattle.std.proofs.lemmas.List.{get_or-drop, get_or_append_left}
use Rattle.std.proofs.lemmas.List.Elements.{All-nil, All-cons, All-head, All-tail, All-map, All-weaker}
use Rattle.std.proofs.lemmas.List.FromFn.{length-range_with_len, get_or-range_with_len}
use Rattle.plain_sum.specs.Places.{named, AreWithin, placed}

pub zip_more : (f : ℕ → ℕ) (xs ys : List ℕ) (i : ℕ) → i < length xs → i < length ys →
    zip (take (suc i) xs) (map f (take (suc i) ys)) ≡ zip (take i xs) (map f (take i ys)) ++ (get_or xs i 0, f (get_or ys i 0)) ∷ []
zip_more f [] ys i h k = absurd (omega arith)
zip_more f (x ∷ xs) [] i h k = absurd (omega arith)
zip_more f (x ∷ xs) (y ∷ ys) zero h k = refl
zip_more f (x ∷ xs) (y ∷ ys) (suc i) h k = ap (λ es. (x, f y) ∷ es) (zip_more f xs ys i (omega arith) (omega arith))

-- one more pair of the pairing that is placed from `start` on
pub edges_more : (start : ℕ) (partners : List ℕ) (i : ℕ) → i < length partners →
    zip (take (i + 1) (range_with_len start (length partners))) (map (λ partner. start + partner) (take (i + 1) partners))
    ≡ zip (take i (range_with_len start (length partners))) (map (λ partner. start + partner) (take i partners)) ++ (start + i, start + get_or partners i 0) ∷ []
edges_more start partners i l =
    let n = length-range_with_len start (length partners) in
    let more = zip_more (λ partner. start + partner) (range_with_len start (length partners)) partners i (omega (arith, n, l)) l in
    let at = get_or-range_with_len start (length partners) i 0 l in
    rw (add-one) (more ∙ ap (λ x. zip (take i (range_with_len start (length partners))) (map (λ partner. start + partner) (take i partners)) ++ (x, start + get_or partners i 0) ∷ []) at)

named_zip : (names xs ys : List ℕ) → named names (zip xs ys) ≡ zip (map (slice_index names) xs) (map (slice_index names) ys)
named_zip names [] ys = refl
named_zip names (x ∷ xs) [] = refl
named_zip names (x ∷ xs) (y ∷ ys) = ap (λ es. (slice_index names x, slice_index names y) ∷ es) (named_zip names xs ys)

-- one name further on
pub drop_one : (names : List ℕ) (start x : ℕ) (xs : List ℕ) → drop start names ≡ x ∷ xs → drop (start + 1) names ≡ xs
drop_one names zero x xs e = ap (drop 1) e
drop_one [] (suc start) x xs e = absurd (cc)
drop_one (n ∷ names) (suc start) x xs e = let k : suc start + 1 ≡ suc (start + 1) = omega arith in rw k (drop_one names start x xs e)

-- the name at a place behind `start`
read_at : (names xs : List ℕ) (start place : ℕ) → drop start names ≡ xs → slice_index names (start + place) ≡ slice_index xs place
read_at names xs start place e = sym (get_or-drop start names place 0) ∙ ap (λ ns. slice_index ns place) e

-- the names from a place on
read_range : (names ends rest : List ℕ) (start : ℕ) → drop start names ≡ ends ++ rest → map (slice_index names) (range_with_len start (length ends)) ≡ ends
read_range names [] rest start e = refl
read_range names (x ∷ ends) rest start e =
    let k : start + 0 ≡ start = omega arith in
    let here : slice_index names start ≡ x = ap (slice_index names) (sym k) ∙ read_at names (x ∷ (ends ++ rest)) start 0 e in
    let ih = read_range names ends rest (start + 1) (drop_one names start x (ends ++ rest) e) in
    cc

read_partners : (names ends rest : List ℕ) (start : ℕ) → drop start names ≡ ends ++ rest → (partners : List ℕ) → All (λ partner. partner < length ends) partners →
    map (slice_index names) (map (λ partner. start + partner) partners) ≡ map (slice_index ends) partners
read_partners names ends rest start e [] a = refl
read_partners names ends rest start e (p ∷ partners) a =
    let InEnds : ℕ → Type 0 = λ partner. partner < length ends in
    let here : slice_index names (start + p) ≡ slice_index ends p = read_at names (ends ++ rest) start p e ∙ get_or_append_left ends rest 0 p (All-head InEnds p partners a) in
    let ih = read_partners names ends rest start e partners (All-tail InEnds p partners a) in
    cc

-- THE EDGES OF A TERM, BY NAMES
pub named-placed : (names ends rest : List ℕ) (start : ℕ) (partners : List ℕ) → drop start names ≡ ends ++ rest → length partners ≡ length ends →
    All (λ partner. partner < length ends) partners → named names (placed start partners) ≡ zip ends (map (slice_index ends) partners)
named-placed names ends rest start partners e same a =
    named_zip names (range_with_len start (length partners)) (map (λ partner. start + partner) partners)
    ∙ ap (λ n. zip (map (slice_index names) (range_with_len start n)) (map (slice_index names) (map (λ partner. start + partner) partners))) same
    ∙ ap (λ xs. zip xs (map (slice_index names) (map (λ partner. start + partner) partners))) (read_range names ends rest start e)
    ∙ ap (λ ys. zip ends ys) (read_partners names ends rest start e partners a)

-- the places are places of the list
zip_within : (names xs ys : List ℕ) → All (λ x. x < length names) xs → All (λ y. y < length names) ys → AreWithin names (zip xs ys)
zip_within names [] ys a b = All-nil (λ edge. (edge.0 < length names) × (edge.1 < length names))
zip_within names (x ∷ xs) [] a b = All-nil (λ edge. (edge.0 < length names) × (edge.1 < length names))
zip_within names (x ∷ xs) (y ∷ ys) a b =
    let Inside : ℕ → Type 0 = λ z. z < length names in
    All-cons (λ edge. (edge.0 < length names) × (edge.1 < length names)) (x, y) (zip xs ys) (All-head Inside x xs a, All-head Inside y ys b)
    (zip_within names xs ys (All-tail Inside x xs a) (All-tail Inside y ys b))

range_within : (bound start n : ℕ) → start + n ≤ bound → All (λ x. x < bound) (range_with_len start n)
range_within bound start n l i d k =
    let len = length-range_with_len start n in
    let at = get_or-range_with_len start n i d (omega (arith, k, len)) in
    omega (arith, at, k, len, l)

pub within-placed : (names : List ℕ) (start : ℕ) (partners : List ℕ) → start + length partners ≤ length names → All (λ partner. partner < length partners) partners → AreWithin names (placed start partners)
within-placed names start partners room a =
    let InRow : ℕ → Type 0 = λ partner. partner < length partners in
    zip_within names (range_with_len start (length partners)) (map (λ partner. start + partner) partners) (range_within (length names) start (length partners) room)
    (All-map (λ z. z < length names) (λ partner. start + partner) partners (All-weaker InRow (λ partner. start + partner < length names) (λ p l. omega (arith, l, room)) partners a))
