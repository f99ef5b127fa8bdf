-- How often a name stands in a word's network, and lists of names that are shifted or read from the other end.
use Rattle.std.proofs.Common.{◌≡◌, ◌≢◌, ℕ, zero, suc, ◌+◌, ◌-◌, ◌*◌, ◌<◌, ◌≤◌, ◌==◌, cond, List, [], ◌∷◌, refl, ap, ap₂, arith}
use Rattle.std.proofs.lemmas.Bool.Decides.{nat_tests}
use Rattle.state_sums.specs.Networks.{names_of}
use Rattle.list_lemmas.specs.Times.{times_in}
use Rattle.list_lemmas.proofs.Times.{times_in-cons}
use Rattle.piece_laws.specs.Arcs.{arcs_of}
use Rattle.strand_words.specs.Words.{Letter}
use Rattle.cables.proofs.NameCounts.{at}
use Rattle.coloured_curls.specs.Boxes.{behind, letter_nodes, names_behind, arcs_between}
use Rattle.coloured_curls.proofs.GridCounts.{among, among_same, among_more}
use Rattle.coloured_curls.proofs.LetterNets.{AreAmong}
use Rattle.coloured_curls.proofs.PieceCounts.{at_other, changed_in_range}

-- ---- lists of names
among_shift : (f : ℕ → ℕ) (j count z : ℕ) → among f (j + 1) count z ≡ among (λ k. f (k + 1)) j count z
among_shift f j zero z = refl
among_shift f j (suc count) z =
    let a = among_more f (j + 1) count z in
    let b = among_more (λ k. f (k + 1)) j count z in
    let ih = among_shift f (j + 1) count z in
    omega (arith, a, b, ih)

among_last : (f : ℕ → ℕ) (j count z : ℕ) → among f j (suc count) z ≡ among f j count z + at z (f (j + count))
among_last f j zero z =
    let a = among_more f j 0 z in
    let e : at z (f (j + 0)) ≡ at z (f j) = ap (λ k. at z (f k)) (let e : j + 0 ≡ j = omega arith in e) in
    omega (arith, a, e)
among_last f j (suc count) z =
    let a = among_more f j (suc count) z in
    let b = among_more f j count z in
    let ih = among_last f (j + 1) count z in
    let e : at z (f (j + 1 + count)) ≡ at z (f (j + suc count)) = ap (λ k. at z (f k)) (let e : j + 1 + count ≡ j + suc count = omega arith in e) in
    omega (arith, a, b, ih, e)

pub among_split : (f : ℕ → ℕ) (j p q z : ℕ) → among f j (p + q) z ≡ among f j p z + among f (j + p) q z
among_split f j zero q z = let s : among f j (0 + q) z ≡ among f (j + 0) q z = ap₂ (λ i k. among f i k z) (let e : j ≡ j + 0 = omega arith in e) (let e : 0 + q ≡ q = omega arith in e) in omega (arith, s)
among_split f j (suc p) q z =
    let size : among f j (suc p + q) z ≡ among f j (suc (p + q)) z = ap (λ k. among f j k z) (let e : suc p + q ≡ suc (p + q) = omega arith in e) in
    let a = among_more f j (p + q) z in
    let b = among_more f j p z in
    let ih = among_split f (j + 1) p q z in
    let e : among f (j + 1 + p) q z ≡ among f (j + suc p) q z = ap (λ k. among f k q z) (let e : j + 1 + p ≡ j + suc p = omega arith in e) in
    omega (arith, size, a, b, ih, e)

pub among_further : (f : ℕ → ℕ) (o j count z : ℕ) → among f (j + o) count z ≡ among (λ k. f (k + o)) j count z
among_further f o j zero z = refl
among_further f o j (suc count) z =
    let a = among_more f (j + o) count z in
    let b = among_more (λ k. f (k + o)) j count z in
    let ih = among_further f o (j + 1) count z in
    let e : among f (j + o + 1) count z ≡ among f (j + 1 + o) count z = ap (λ k. among f k count z) (let e : j + o + 1 ≡ j + 1 + o = omega arith in e) in
    omega (arith, a, b, ih, e)

-- from the other end
pub among_reversed : (f : ℕ → ℕ) (c z : ℕ) → among (λ k. f (c - k)) 0 (suc c) z ≡ among f 0 (suc c) z
among_reversed f zero z = among_same (λ k. f (0 - k)) f 0 1 z (λ k l h. ap f (let e : 0 - k ≡ k = omega (arith, h) in e))
among_reversed f (suc c) z =
    let a = among_more (λ k. f (suc c - k)) 0 (suc c) z in
    let b : among (λ k. f (suc c - k)) (0 + 1) (suc c) z ≡ among (λ k. f (suc c - (k + 1))) 0 (suc c) z = among_shift (λ k. f (suc c - k)) 0 (suc c) z in
    let d : among (λ k. f (suc c - (k + 1))) 0 (suc c) z ≡ among (λ k. f (c - k)) 0 (suc c) z = among_same (λ k. f (suc c - (k + 1))) (λ k. f (c - k)) 0 (suc c) z (λ k l h. ap f (let e : suc c - (k + 1) ≡ c - k = omega arith in e)) in
    let ih = among_reversed f c z in
    let last = among_last f 0 (suc c) z in
    let e : at z (f (0 + suc c)) ≡ at z (f (suc c - 0)) = ap (λ k. at z (f k)) (let e : 0 + suc c ≡ suc c - 0 = omega arith in e) in
    omega (arith, a, b, d, ih, last, e)

-- two names change
pub behind_counts : (t : ℕ → ℕ) (k l r n z : ℕ) → k + 1 < n → among (behind t k l r) 0 n z + at z (t k) + at z (t (k + 1)) ≡ among t 0 n z + at z l + at z r
behind_counts t k l r n z low =
    let h : ℕ → ℕ = λ j. cond (j == k) l (t j) in
    let a = changed_in_range t h z k 0 n (omega arith) (omega (arith, low)) (λ j p q d. one j k l (t j) d) in
    let b = changed_in_range h (behind t k l r) z (k + 1) 0 n (omega arith) (omega (arith, low)) (λ j p q d. two j k l r (t j) d) in
    let p1 : h k ≡ l = here k l (t k) in
    let p2 : h (k + 1) ≡ t (k + 1) = there k l (t (k + 1)) in
    let p3 : behind t k l r (k + 1) ≡ r = second k l r (t (k + 1)) in
    let q1 = ap (at z) p1 in let q2 = ap (at z) p2 in let q3 = ap (at z) p3 in
    omega (arith, a, b, q1, q2, q3)
  where
    one : (j k l s : ℕ) → j ≢ k → s ≡ cond (j == k) l s
    one j k l s d = grind (arith, nat_tests, d)

    two : (j k l r s : ℕ) → j ≢ k + 1 → cond (j == k) l s ≡ cond (j == k) l (cond (j == k + 1) r s)
    two j k l r s d = grind (arith, nat_tests, d)

    here : (k l s : ℕ) → cond (k == k) l s ≡ l
    here k l s = grind (arith, nat_tests)

    there : (k l s : ℕ) → cond (k + 1 == k) l s ≡ s
    there k l s = grind (arith, nat_tests)

    second : (k l r s : ℕ) → cond (k + 1 == k) l (cond (k + 1 == k + 1) r s) ≡ r
    second k l r s = grind (arith, nat_tests)

-- ---- a word's names
-- how often z is a name that the word's letters give
abbrev pub given : List Letter → ℕ → ℕ → ℕ
given [] c z = 0
given (l ∷ u) c z = at z c + at z (c + 1) + given u (c + 2) z

pub given_low : (u : List Letter) (c z : ℕ) → z < c → given u c z ≡ 0
given_low [] c z l = refl
given_low (j ∷ u) c z l =
    let a = at_other z c (λ e. omega (arith, e, l)) in
    let b = at_other z (c + 1) (λ e. omega (arith, e, l)) in
    let ih = given_low u (c + 2) z (omega (arith, l)) in
    omega (arith, a, b, ih)

pub given_most : (u : List Letter) (c z : ℕ) → given u c z ≤ 1
given_most [] c z = omega arith
given_most (j ∷ u) c z =
    let ih = given_most u (c + 2) z in
    let low : z < c + 2 → given u (c + 2) z ≡ 0 = given_low u (c + 2) z in
    plain z c (given u (c + 2) z) ih low
  where
    plain : (z c g : ℕ) → g ≤ 1 → (z < c + 2 → g ≡ 0) → cond (z == c) 1 0 + cond (z == c + 1) 1 0 + g ≤ 1
    plain z c g m low = grind (arith, nat_tests, m, low)

-- HOW OFTEN A NAME STANDS IN A WORD'S NETWORK
pub letter_counts : (n : ℕ) (u : List Letter) (t : ℕ → ℕ) (c z : ℕ) → AreAmong n u → times_in (names_of (letter_nodes u t c)) z + among (names_behind u t c) 0 n z ≡ among t 0 n z + 2 * given u c z
letter_counts n [] t c z a = omega arith
letter_counts n (l ∷ u) t c z a =
    let ns = names_of (letter_nodes u (behind t l.at c (c + 1)) (c + 2)) in
    let i1 = times_in-cons (t (l.at + 1)) ((c + 1) ∷ c ∷ t l.at ∷ ns) z in
    let i2 = times_in-cons (c + 1) (c ∷ t l.at ∷ ns) z in
    let i3 = times_in-cons c (t l.at ∷ ns) z in
    let i4 = times_in-cons (t l.at) ns z in
    let b = behind_counts t l.at c (c + 1) n z a.0 in
    let ih = letter_counts n u (behind t l.at c (c + 1)) (c + 2) z a.1 in
    omega (arith, i1, i2, i3, i4, b, ih)

pub between_counts : (f g : ℕ → ℕ) (i count z : ℕ) → times_in (names_of (arcs_of (arcs_between f g i count))) z ≡ among f i count z + among g i count z
between_counts f g i zero z = refl
between_counts f g i (suc count) z =
    let ns = names_of (arcs_of (arcs_between f g (i + 1) count)) in
    let a = times_in-cons (f i) (g i ∷ ns) z in
    let b = times_in-cons (g i) ns z in
    let c = among_more f i count z in
    let d = among_more g i count z in
    let ih = between_counts f g (i + 1) count z in
    omega (arith, a, b, c, d, ih)

-- behind a word a name stands no more often than before it and among the names that the letters give
pub behind_most : (n : ℕ) (u : List Letter) (t : ℕ → ℕ) (c z : ℕ) → AreAmong n u → among (names_behind u t c) 0 n z ≤ among t 0 n z + given u c z
behind_most n [] t c z a = omega arith
behind_most n (l ∷ u) t c z a =
    let b = behind_counts t l.at c (c + 1) n z a.0 in
    let ih = behind_most n u (behind t l.at c (c + 1)) (c + 2) z a.1 in
    omega (arith, b, ih)
