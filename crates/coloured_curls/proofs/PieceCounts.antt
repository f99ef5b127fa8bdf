-- How often names stand, for pieces whose ends are listed by a function on a range of numbers.
use Rattle.std.proofs.Common.{◌≡◌, ◌≢◌, ℕ, zero, suc, ◌+◌, ◌<◌, ◌≤◌, ◌==◌, true, false, cond, List, ◌∷◌, map, refl, sym, ap, ap₂, ◌∙◌, arith, ⊎_elim, get_or}
use Rattle.std.specs.List.{range_with_len}
use Rattle.std.specs.Set.{is_member}
use Rattle.std.proofs.lemmas.Bool.{cases_Bool, cases_eq, eq-eqb}
use Rattle.std.proofs.lemmas.Bool.Decides.{nat_tests}
use Rattle.graph_parts.proofs.Ends.{is_member-itself}
use Rattle.state_sums.specs.Networks.{Node, names_of}
use Rattle.list_lemmas.specs.Times.{times_in}
use Rattle.list_lemmas.proofs.Times.{times_of_member, times_in-cons}
use Rattle.piece_laws.specs.Pieces.{IsPiece}
use Rattle.cables.proofs.NameCounts.{at}
use Rattle.cable_crossings.proofs.StepPieces.{member_of_one}

pub at_other : (z y : ℕ) → z ≢ y → at z y ≡ 0
at_other z y d = grind (arith, nat_tests, d)

pub at_same : (z y : ℕ) → z ≡ y → at z y ≡ 1
at_same z y e = grind (arith, nat_tests, e)

-- a piece, by the counts of its names
pub piece_from : (nodes : List Node) (open_names : List ℕ) → ((z : ℕ) → is_member ◌==◌ open_names z ≡ true → times_in (names_of nodes) z ≡ 1) →
    ((z : ℕ) → 1 ≤ times_in (names_of nodes) z → is_member ◌==◌ open_names z ≡ false → times_in (names_of nodes) z ≡ 2) → IsPiece nodes open_names
piece_from nodes open_names once twice = record {
  has_open = λ i d l. (let z = get_or open_names i d in member_of_one z (names_of nodes) (let t = once z (is_member-itself open_names i d l) in omega (arith, t)));
  inner = λ i d l. inside (get_or (names_of nodes) i d) (is_member-itself (names_of nodes) i d l);
}
  where
    inside : (z : ℕ) → is_member ◌==◌ (names_of nodes) z ≡ true → (times_in (names_of nodes) z == cond (is_member ◌==◌ open_names z) 1 2) ≡ true
    inside z m =
        ⊎_elim
        (λ t. ap (λ b. times_in (names_of nodes) z == cond b 1 2) t ∙ eq-eqb (times_in (names_of nodes) z) 1 (once z t))
        (λ t. ap (λ b. times_in (names_of nodes) z == cond b 1 2) t ∙ eq-eqb (times_in (names_of nodes) z) 2 (twice z (times_of_member z (names_of nodes) m) t))
        (cases_Bool (is_member ◌==◌ open_names z))

-- ---- lists by a function on a range
pub same_range : (f g : ℕ → ℕ) (a n : ℕ) → ((j : ℕ) → a ≤ j → j < a + n → f j ≡ g j) → map f (range_with_len a n) ≡ map g (range_with_len a n)
same_range f g a zero h = refl
same_range f g a (suc n) h = ap₂ (λ x xs. x ∷ xs) (h a (omega arith) (omega arith)) (same_range f g (a + 1) n (λ j l b. h j (omega (arith, l)) (omega (arith, b))))

pub none_in_range : (f : ℕ → ℕ) (z a n : ℕ) → ((j : ℕ) → a ≤ j → j < a + n → z ≢ f j) → times_in (map f (range_with_len a n)) z ≡ 0
none_in_range f z a zero h = refl
none_in_range f z a (suc n) h =
    let c = times_in-cons (f a) (map f (range_with_len (a + 1) n)) z in
    let o = at_other z (f a) (h a (omega arith) (omega arith)) in
    let ih = none_in_range f z (a + 1) n (λ j l b. h j (omega (arith, l)) (omega (arith, b))) in
    omega (arith, c, o, ih)

pub one_in_range : (f : ℕ → ℕ) (z i a n : ℕ) → a ≤ i → i < a + n → z ≡ f i → ((j : ℕ) → a ≤ j → j < a + n → z ≡ f j → j ≡ i) → times_in (map f (range_with_len a n)) z ≡ 1
one_in_range f z i a zero l b e one = absurd (omega (arith, l, b))
one_in_range f z i a (suc n) l b e one =
    let c = times_in-cons (f a) (map f (range_with_len (a + 1) n)) z in
    ⊎_elim
    (λ (s : i ≡ a).
    let o = at_same z (f a) (e ∙ ap f s) in
    let ih = none_in_range f z (a + 1) n (λ j p q w. (let t = one j (omega (arith, p)) (omega (arith, q)) w in omega (arith, t, s, p))) in
    omega (arith, c, o, ih))
    (λ d.
    let o = at_other z (f a) (λ w. (let t = one a (omega arith) (omega arith) w in d (sym t))) in
    let ih = one_in_range f z i (a + 1) n (omega (arith, l, d)) (omega (arith, b)) e (λ j p q w. one j (omega (arith, p)) (omega (arith, q)) w) in
    omega (arith, c, o, ih))
    (cases_eq i a)

pub found_in_range : (f : ℕ → ℕ) (z a n : ℕ) → 1 ≤ times_in (map f (range_with_len a n)) z → (i : ℕ) × (a ≤ i) × (i < a + n) × (z ≡ f i)
found_in_range f z a zero h = absurd (omega (arith, h))
found_in_range f z a (suc n) h =
    let c = times_in-cons (f a) (map f (range_with_len (a + 1) n)) z in
    ⊎_elim
    (λ (e : z ≡ f a). (a, omega arith, omega arith, e))
    (λ d.
    let o = at_other z (f a) d in
    let r = found_in_range f z (a + 1) n (omega (arith, c, o, h)) in
    (r.0, (let l = r.1 in omega (arith, l)), (let l = r.2 in omega (arith, l)), r.3))
    (cases_eq z (f a))

-- one entry changes
pub changed_in_range : (f g : ℕ → ℕ) (z i a n : ℕ) → a ≤ i → i < a + n → ((j : ℕ) → a ≤ j → j < a + n → j ≢ i → f j ≡ g j) →
    times_in (map g (range_with_len a n)) z + at z (f i) ≡ times_in (map f (range_with_len a n)) z + at z (g i)
changed_in_range f g z i a zero l b h = absurd (omega (arith, l, b))
changed_in_range f g z i a (suc n) l b h =
    let c = times_in-cons (f a) (map f (range_with_len (a + 1) n)) z in
    let d = times_in-cons (g a) (map g (range_with_len (a + 1) n)) z in
    ⊎_elim
    (λ (s : i ≡ a).
    let rest : times_in (map f (range_with_len (a + 1) n)) z ≡ times_in (map g (range_with_len (a + 1) n)) z = ap (λ xs. times_in xs z) (same_range f g (a + 1) n (λ j p q. h j (omega (arith, p)) (omega (arith, q)) (λ w. omega (arith, w, s, p)))) in
    let x : at z (f i) ≡ at z (f a) = ap (λ k. at z (f k)) s in
    let y : at z (g i) ≡ at z (g a) = ap (λ k. at z (g k)) s in
    omega (arith, c, d, rest, x, y))
    (λ n_is.
    let ih = changed_in_range f g z i (a + 1) n (omega (arith, l, n_is)) (omega (arith, b)) (λ j p q. h j (omega (arith, p)) (omega (arith, q))) in
    let x : at z (f a) ≡ at z (g a) = ap (at z) (h a (omega arith) (omega arith) (λ w. n_is (sym w))) in
    omega (arith, c, d, ih, x))
    (cases_eq i a)
