-- Words' networks at other names, and how far their new names go.
use Rattle.std.proofs.Common.{◌≡◌, ◌≢◌, ℕ, zero, suc, ◌+◌, ◌*◌, ◌<◌, ◌≤◌, ◌==◌, cond, List, [], ◌∷◌, map, length, refl, sym, ap, ap₂, ◌∙◌, arith, ⊎_elim, All}
use Rattle.std.specs.List.{range_with_len, zip}
use Rattle.std.proofs.lemmas.Bool.{cases_eq}
use Rattle.std.proofs.lemmas.Bool.Decides.{nat_tests}
use Rattle.std.proofs.lemmas.List.Elements.{All-cons, All-nil}
use Rattle.state_sums.specs.LocalSums.{arc, crossing, rename}
use Rattle.state_sums.specs.Networks.{Node, IsNode, names_of}
use Rattle.state_sums.proofs.WrittenNodes.{IsNode-crossing}
use Rattle.list_lemmas.specs.Times.{times_in}
use Rattle.piece_laws.specs.Arcs.{arcs_of}
use Rattle.strand_words.specs.Words.{Letter}
use Rattle.cables.proofs.NameCounts.{at}
use Rattle.cable_crossings.proofs.CabledBigon.{names_of_arcs, zip-times}
use Rattle.coloured_curls.specs.Boxes.{behind, letter_nodes, names_behind}
use Rattle.coloured_curls.proofs.LetterCounts.{given}
use Rattle.coloured_curls.proofs.LetterNets.{AreAmong}
use Rattle.coloured_curls.proofs.PieceCounts.{at_other}

pub letters_ok : (u : List Letter) (t : ℕ → ℕ) (c : ℕ) → All IsNode (letter_nodes u t c)
letters_ok [] t c = All-nil IsNode
letters_ok (l ∷ u) t c =
    All-cons IsNode (crossing l.straight l.hook (t (l.at + 1)) (c + 1) c (t l.at)) (letter_nodes u (behind t l.at c (c + 1)) (c + 2)) (IsNode-crossing l.straight l.hook (t (l.at + 1)) (c + 1) c (t l.at)) (letters_ok u (behind t l.at c (c + 1)) (c + 2))

-- ---- other names
next_names : (f t s : ℕ → ℕ) (n k c d : ℕ) → ((j : ℕ) → j < n → f (t j) ≡ s j) → ((i : ℕ) → f (c + i) ≡ d + i) → (j : ℕ) → j < n → f (behind t k c (c + 1) j) ≡ behind s k d (d + 1) j
next_names f t s n k c d h g j l =
    ⊎_elim
    (λ (e : j ≡ k). ap f (first (t j) e c (c + 1)) ∙ (let a = g 0 in let p : c + 0 ≡ c = omega arith in let q : d + 0 ≡ d = omega arith in ap f (sym p) ∙ a ∙ q) ∙ sym (first (s j) e d (d + 1)))
    (λ a. ⊎_elim
    (λ (e : j ≡ k + 1). ap f (second (t j) a e c (c + 1)) ∙ g 1 ∙ sym (second (s j) a e d (d + 1)))
    (λ b. ap f (other (t j) a b c (c + 1)) ∙ h j l ∙ sym (other (s j) a b d (d + 1)))
    (cases_eq j (k + 1)))
    (cases_eq j k)
  where
    first : (x : ℕ) → j ≡ k → (p q : ℕ) → cond (j == k) p (cond (j == k + 1) q x) ≡ p
    first x e p q = grind (arith, nat_tests, e)

    second : (x : ℕ) → j ≢ k → j ≡ k + 1 → (p q : ℕ) → cond (j == k) p (cond (j == k + 1) q x) ≡ q
    second x a e p q = grind (arith, nat_tests, a, e)

    other : (x : ℕ) → j ≢ k → j ≢ k + 1 → (p q : ℕ) → cond (j == k) p (cond (j == k + 1) q x) ≡ x
    other x a b p q = grind (arith, nat_tests, a, b)

further : (f : ℕ → ℕ) (c d : ℕ) → ((i : ℕ) → f (c + i) ≡ d + i) → (i : ℕ) → f (c + 2 + i) ≡ d + 2 + i
further f c d g i = ap f (let e : c + 2 + i ≡ c + (2 + i) = omega arith in e) ∙ g (2 + i) ∙ (let e : d + (2 + i) ≡ d + 2 + i = omega arith in e)

pub letters_renamed : (f : ℕ → ℕ) (n : ℕ) (u : List Letter) → AreAmong n u → (t s : ℕ → ℕ) (c d : ℕ) → ((j : ℕ) → j < n → f (t j) ≡ s j) → ((i : ℕ) → f (c + i) ≡ d + i) → rename f (letter_nodes u t c) ≡ letter_nodes u s d
letters_renamed f n [] a t s c d h g = refl
letters_renamed f n (l ∷ u) a t s c d h g =
    let low = a.0 in
    let here : f c ≡ d = ap f (let e : c ≡ c + 0 = omega arith in e) ∙ g 0 ∙ (let e : d + 0 ≡ d = omega arith in e) in
    let X : ℕ → ℕ → ℕ → ℕ → Node = crossing l.straight l.hook in
    let later = rename f (letter_nodes u (behind t l.at c (c + 1)) (c + 2)) in
    ap₂ (λ x y. X x y (f c) (f (t l.at)) ∷ later) (h (l.at + 1) low) (g 1)
    ∙ ap₂ (λ x y. X (s (l.at + 1)) (d + 1) x y ∷ later) here (h l.at (omega (arith, low)))
    ∙ ap (λ ns. X (s (l.at + 1)) (d + 1) d (s l.at) ∷ ns) (letters_renamed f n u a.1 (behind t l.at c (c + 1)) (behind s l.at d (d + 1)) (c + 2) (d + 2) (next_names f t s n l.at c d h g) (further f c d g))

pub behind_renamed : (f : ℕ → ℕ) (n : ℕ) (u : List Letter) → AreAmong n u → (t s : ℕ → ℕ) (c d : ℕ) → ((j : ℕ) → j < n → f (t j) ≡ s j) → ((i : ℕ) → f (c + i) ≡ d + i) → (j : ℕ) → j < n → f (names_behind u t c j) ≡ names_behind u s d j
behind_renamed f n [] a t s c d h g j l = h j l
behind_renamed f n (i ∷ u) a t s c d h g j l = behind_renamed f n u a.1 (behind t i.at c (c + 1)) (behind s i.at d (d + 1)) (c + 2) (d + 2) (next_names f t s n i.at c d h g) (further f c d g) j l

pub map_ranged : (f g h : ℕ → ℕ) (a n : ℕ) → ((j : ℕ) → a ≤ j → j < a + n → f (g j) ≡ h j) → map f (map g (range_with_len a n)) ≡ map h (range_with_len a n)
map_ranged f g h a zero e = refl
map_ranged f g h a (suc n) e = ap₂ (λ x xs. x ∷ xs) (e a (omega arith) (omega arith)) (map_ranged f g h (a + 1) n (λ j l b. e j (omega (arith, l)) (omega (arith, b))))

pub arcs_renamed : (f : ℕ → ℕ) (xs ys : List ℕ) → rename f (arcs_of (zip xs ys)) ≡ arcs_of (zip (map f xs) (map f ys))
arcs_renamed f [] ys = refl
arcs_renamed f (x ∷ xs) [] = refl
arcs_renamed f (x ∷ xs) (y ∷ ys) = ap (λ ns. arc (f x) (f y) ∷ ns) (arcs_renamed f xs ys)

-- ---- how often names stand
pub arcs_times : (xs ys : List ℕ) (z : ℕ) → length ys ≡ length xs → times_in (names_of (arcs_of (zip xs ys))) z ≡ times_in xs z + times_in ys z
arcs_times xs ys z e = ap (λ ns. times_in ns z) (names_of_arcs (zip xs ys)) ∙ zip-times z xs ys e

pub given_range : (u : List Letter) (c z : ℕ) → 1 ≤ given u c z → (c ≤ z) × (z < c + 2 * length u)
given_range [] c z h = absurd (omega (arith, h))
given_range (l ∷ u) c z h =
    ⊎_elim
    (λ (e : z ≡ c). (omega (arith, e), omega (arith, e)))
    (λ a. ⊎_elim
    (λ (e : z ≡ c + 1). (omega (arith, e), omega (arith, e)))
    (λ b. (
    let x : at z c ≡ 0 = at_other z c a in let y : at z (c + 1) ≡ 0 = at_other z (c + 1) b in
    let r = given_range u (c + 2) z (omega (arith, h, x, y)) in let r0 = r.0 in let r1 = r.1 in (omega (arith, r0), omega (arith, r1))))
    (cases_eq z (c + 1)))
    (cases_eq z c)
