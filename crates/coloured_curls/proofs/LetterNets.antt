-- A word of crossings on strands side by side as a network: each letter gives its two strands new names, numbered on from c.
--
--     letter_nodes u t c      the nodes, where the strand at place j has the name t j before the word
--     names_behind u t c      the names behind the word
--     lettered u c            the steps
use Rattle.std.proofs.Common.{◌≡◌, ◌≢◌, ℕ, zero, suc, ◌+◌, ◌<◌, ◌≤◌, ◌==◌, Bool, true, cond, List, [], ◌∷◌, ◌++◌, refl, sym, ap, ap₂, ◌∙◌, arith, ⊎_elim, subst}
use Rattle.std.specs.Set.{is_member}
use Rattle.std.proofs.lemmas.Bool.{cases_eq, eqb-true, or_cases}
use Rattle.std.proofs.lemmas.Bool.Decides.{nat_tests}
use Rattle.state_sums.specs.LocalSums.{crossing, arc, rename}
use Rattle.piece_laws.specs.Arcs.{arcs_of}
use Rattle.piece_laws.proofs.RenamedNodes.{rename-append}
use Rattle.strand_words.specs.Grids.{crossed, row, raised}
use Rattle.strand_words.specs.Boxes.{twist}
use Rattle.strand_words.specs.Words.{Letter, top}
use Rattle.word_networks.specs.PlacedGrids.{passes}
use Rattle.word_networks.specs.Spelling.{Spells}
use Rattle.word_networks.specs.Steps.{Step, letter, named, names_after, step_nodes, new_names, AreDistinct, HavePoints}
use Rattle.word_networks.specs.Strands.{strand_points}
use Rattle.word_networks.proofs.Grids.{step_nodes-append}
use Rattle.word_networks.proofs.Strands.{strand_top, strands_member}
use Rattle.cable_crossings.proofs.BundleBigon.{named_other, unless_member}
use Rattle.cable_crossings.proofs.StepPieces.{AllTop}
use Rattle.coloured_curls.specs.Boxes.{behind, letter_nodes, names_behind, arcs_between}

abbrev pub lettered : List Letter → ℕ → List Step
lettered [] c = []
lettered (l ∷ u) c = letter (top l.at) (top (l.at + 1)) l.straight l.hook c (c + 1) ∷ lettered u (c + 2)

-- each letter stands on two of n strands
abbrev pub AreAmong : ℕ → List Letter → Type 0
AreAmong n [] = Unit {0}
AreAmong n (l ∷ u) = (l.at + 1 < n) × AreAmong n u

AreAmong-append : (n : ℕ) (u w : List Letter) → AreAmong n u → AreAmong n w → AreAmong n (u ++ w)
AreAmong-append n [] w a b = b
AreAmong-append n (l ∷ u) w a b = (a.0, AreAmong-append n u w a.1 b)

row_among : (a b : ℕ) (s : Bool) (n i count : ℕ) → i + count < n → AreAmong n (row a b s i count)
row_among a b s n i zero l = tt
row_among a b s n i (suc count) l = (omega (arith, l), row_among a b s n (i + 1) count (omega (arith, l)))

pub twist_among : (a b : ℕ) (s : Bool) (n i count turns : ℕ) → i + count < n → AreAmong n (twist a b s i count turns)
twist_among a b s n i count zero l = tt
twist_among a b s n i count (suc turns) l = AreAmong-append n (row a b s i count) (twist a b s i count turns) (row_among a b s n i count l) (twist_among a b s n i count turns l)

pub lettered_spells : (u : List Letter) (c : ℕ) → Spells u (lettered u c)
lettered_spells [] c = tt
lettered_spells (l ∷ u) c = (refl, refl, refl, refl, lettered_spells u (c + 2))

pub lettered_tops : (n : ℕ) (u : List Letter) (c : ℕ) → AreAmong n u → AllTop n (lettered u c)
lettered_tops n [] c a = tt
lettered_tops n (l ∷ u) c a =
    let low = a.0 in
    ((l.at, l.at + 1, omega (arith, low), low, (λ e. omega (arith, e)), refl, refl), lettered_tops n u (c + 2) a.1)

pub lettered_from : (u : List Letter) (c z : ℕ) → is_member ◌==◌ (new_names (lettered u c)) z ≡ true → c ≤ z
lettered_from [] c z m = absurd (grind (arith, m))
lettered_from (l ∷ u) c z m =
    ⊎_elim (λ t. (let e = eqb-true z (c + 1) t in omega (arith, e)))
    (λ r. ⊎_elim (λ t. (let e = eqb-true z c t in omega (arith, e))) (λ s. (let ih = lettered_from u (c + 2) z s in omega (arith, ih)))
    (or_cases (z == c) (is_member ◌==◌ (new_names (lettered u (c + 2))) z) r))
    (or_cases (z == c + 1) (is_member ◌==◌ (c ∷ new_names (lettered u (c + 2))) z) m)

pub lettered_distinct : (u : List Letter) (c : ℕ) → AreDistinct (new_names (lettered u c))
lettered_distinct [] c = tt
lettered_distinct (l ∷ u) c = (
  unless_member (c ∷ new_names (lettered u (c + 2))) (c + 1) (λ m.
      ⊎_elim (λ t. (let e = eqb-true (c + 1) c t in omega (arith, e))) (λ s. (let ih = lettered_from u (c + 2) (c + 1) s in omega (arith, ih)))
      (or_cases (c + 1 == c) (is_member ◌==◌ (new_names (lettered u (c + 2))) (c + 1)) m)),
  (unless_member (new_names (lettered u (c + 2))) c (λ m. (let ih = lettered_from u (c + 2) c m in omega (arith, ih))), lettered_distinct u (c + 2)),
)

-- ---- the nodes of the steps, some places further right and at other names
step_on : (r name t : ℕ → ℕ) (n o at c k : ℕ) → at + 1 < n → r k ≡ c → r (k + 1) ≡ c + 1 → ((j : ℕ) → j < n → r (name (top (j + o))) ≡ t j) →
    (j : ℕ) → j < n → r (named (named name (top (at + o + 1)) (k + 1)) (top (at + o)) k (top (j + o))) ≡ behind t at c (c + 1) j
step_on r name t n o at c k low rc rd h j l =
    ⊎_elim
    (λ (e : j ≡ at). ap r (first (top (j + o)) (top (at + o)) k (named name (top (at + o + 1)) (k + 1) (top (j + o))) (ap (λ i. top (i + o)) e)) ∙ rc ∙ sym (here j at c (c + 1) (t j) e))
    (λ d. ⊎_elim
    (λ (e : j ≡ at + 1).
    ap r (named_other (named name (top (at + o + 1)) (k + 1)) (top (at + o)) k (top (j + o)) (λ w. omega (arith, w, e)) ∙ first (top (j + o)) (top (at + o + 1)) (k + 1) (name (top (j + o))) (omega (arith, e)))
    ∙ rd ∙ sym (there j at c (c + 1) (t j) e))
    (λ g.
    ap r (named_other (named name (top (at + o + 1)) (k + 1)) (top (at + o)) k (top (j + o)) (λ w. d (omega (arith, w))) ∙ named_other name (top (at + o + 1)) (k + 1) (top (j + o)) (λ w. g (omega (arith, w))))
    ∙ h j l ∙ sym (other j at c (c + 1) (t j) d g))
    (cases_eq j (at + 1)))
    (cases_eq j at)
  where
    first : (x p new old : ℕ) → x ≡ p → cond (x == p) new old ≡ new
    first x p new old e = grind (arith, nat_tests, e)

    here : (j k l r t : ℕ) → j ≡ k → cond (j == k) l (cond (j == k + 1) r t) ≡ l
    here j k l r t e = grind (arith, nat_tests, e)

    there : (j k l r t : ℕ) → j ≡ k + 1 → cond (j == k) l (cond (j == k + 1) r t) ≡ r
    there j k l r t e = grind (arith, nat_tests, e)

    other : (j k l r t : ℕ) → j ≢ k → j ≢ k + 1 → cond (j == k) l (cond (j == k + 1) r t) ≡ t
    other j k l r t d e = grind (arith, nat_tests, d, e)

module _ (r : ℕ → ℕ) (n o : ℕ) where
  abbrev Moves : ℕ → ℕ → Type 0
  Moves k c = (j : ℕ) → r (k + j) ≡ c + j

  moved_on : (k c : ℕ) → Moves k c → Moves (k + 2) (c + 2)
  moved_on k c m j = let a : k + 2 + j ≡ k + (2 + j) = omega arith in let b : c + (2 + j) ≡ c + 2 + j = omega arith in ap r a ∙ m (2 + j) ∙ b

  moved_first : (k c : ℕ) → Moves k c → r k ≡ c
  moved_first k c m = let a : k ≡ k + 0 = omega arith in let b : c + 0 ≡ c = omega arith in ap r a ∙ m 0 ∙ b

  next : (name t : ℕ → ℕ) (l : Letter) (k c : ℕ) → l.at + 1 < n → Moves k c → ((j : ℕ) → j < n → r (name (top (j + o))) ≡ t j) →
      (j : ℕ) → j < n → r (named (named name (top (l.at + o + 1)) (k + 1)) (top (l.at + o)) k (top (j + o))) ≡ behind t l.at c (c + 1) j
  next name t l k c low m h = step_on r name t n o l.at c k low (moved_first k c m) (m 1) h

  -- THE NODES
  pub lettered_nodes : (u : List Letter) (name t : ℕ → ℕ) (k c : ℕ) → AreAmong n u → Moves k c → ((j : ℕ) → j < n → r (name (top (j + o))) ≡ t j) → rename r (step_nodes name (lettered (raised o u) k)) ≡ letter_nodes u t c
  lettered_nodes [] name t k c a m h = refl
  lettered_nodes (l ∷ u) name t k c a m h =
      let low = a.0 in
      let rest = rename r (step_nodes (named (named name (top (l.at + o + 1)) (k + 1)) (top (l.at + o)) k) (lettered (raised o u) (k + 2))) in
      let right : r (name (top (l.at + o + 1))) ≡ t (l.at + 1) = ap (λ i. r (name (top i))) (let e : l.at + o + 1 ≡ l.at + 1 + o = omega arith in e) ∙ h (l.at + 1) low in
      let left : r (name (top (l.at + o))) ≡ t l.at = h l.at (omega (arith, low)) in
      ap₂ (λ p q. crossing l.straight l.hook p (r (k + 1)) (r k) q ∷ rest) right left
      ∙ ap₂ (λ p q. crossing l.straight l.hook (t (l.at + 1)) p q (t l.at) ∷ rest) (m 1) (moved_first k c m)
      ∙ ap (λ ns. crossing l.straight l.hook (t (l.at + 1)) (c + 1) c (t l.at) ∷ ns)
      (lettered_nodes u (named (named name (top (l.at + o + 1)) (k + 1)) (top (l.at + o)) k) (behind t l.at c (c + 1)) (k + 2) (c + 2) a.1 (moved_on k c m) (next name t l k c low m h))

  -- AND THE NAMES BEHIND THEM
  pub lettered_names : (u : List Letter) (name t : ℕ → ℕ) (k c : ℕ) → AreAmong n u → Moves k c → ((j : ℕ) → j < n → r (name (top (j + o))) ≡ t j) →
      (j : ℕ) → j < n → r (names_after name (lettered (raised o u) k) (top (j + o))) ≡ names_behind u t c j
  lettered_names [] name t k c a m h j l = h j l
  lettered_names (l ∷ u) name t k c a m h j low =
      lettered_names u (named (named name (top (l.at + o + 1)) (k + 1)) (top (l.at + o)) k) (behind t l.at c (c + 1)) (k + 2) (c + 2) a.1 (moved_on k c m) (next name t l k c a.0 m h) j low

-- ---- words further right
raised_append : (k : ℕ) (u w : List Letter) → raised k (u ++ w) ≡ raised k u ++ raised k w
raised_append k [] w = refl
raised_append k (l ∷ u) w = ap (λ r. record { at = l.at + k; straight = l.straight; hook = l.hook } ∷ r) (raised_append k u w)

raised_row : (a b : ℕ) (s : Bool) (k i count : ℕ) → raised k (row a b s i count) ≡ row a b s (i + k) count
raised_row a b s k i zero = refl
raised_row a b s k i (suc count) = ap (λ w. crossed a b s (i + k) ∷ w) (raised_row a b s k (i + 1) count ∙ ap (λ j. row a b s j count) (let e : i + 1 + k ≡ i + k + 1 = omega arith in e))

pub raised_twist : (a b : ℕ) (s : Bool) (k i count turns : ℕ) → raised k (twist a b s i count turns) ≡ twist a b s (i + k) count turns
raised_twist a b s k i count zero = refl
raised_twist a b s k i count (suc turns) = raised_append k (row a b s i count) (twist a b s i count turns) ∙ ap₂ (λ u w. u ++ w) (raised_row a b s k i count) (raised_twist a b s k i count turns)

pub among_raised : (n k : ℕ) (u : List Letter) → AreAmong n u → AreAmong (n + k) (raised k u)
among_raised n k [] a = tt
among_raised n k (l ∷ u) a = (let low = a.0 in omega (arith, low), among_raised n k u a.1)

pub raised_zero : (u : List Letter) → raised 0 u ≡ u
raised_zero [] = refl
raised_zero (l ∷ u) = ap₂ (λ i w. record { at = i; straight = l.straight; hook = l.hook } ∷ w) (let e : l.at + 0 ≡ l.at = omega arith in e) (raised_zero u)

pub raised_names : (k : ℕ) (u : List Letter) (c : ℕ) → new_names (lettered (raised k u) c) ≡ new_names (lettered u c)
raised_names k [] c = refl
raised_names k (l ∷ u) c = ap (λ ns. (c + 1) ∷ c ∷ ns) (raised_names k u (c + 2))

pub shifted_passes : (f new : ℕ → ℕ) (o i count : ℕ) → ((j : ℕ) → f (j + o) ≡ new j) → new_names (passes f (i + o) count) ≡ new_names (passes new i count)
shifted_passes f new o i zero h = refl
shifted_passes f new o i (suc count) h =
    ap₂ (λ x xs. x ∷ xs) (h i) (ap (λ k. new_names (passes f k count)) (let e : i + o + 1 ≡ i + 1 + o = omega arith in e) ∙ shifted_passes f new o (i + 1) count h)

-- ---- their points are there
there : (o n k : ℕ) → k < n → is_member ◌==◌ (strand_points o n) (top (k + o)) ≡ true
there o n k l = let e = strand_top (k + o) in strands_member o n (top (k + o)) (omega (arith, e)) (omega (arith, e, l))

pub lettered_have : (o n : ℕ) (u : List Letter) (c : ℕ) → AreAmong n u → HavePoints (strand_points o n) (lettered (raised o u) c)
lettered_have o n [] c a = tt
lettered_have o n (l ∷ u) c a =
    let low = a.0 in (
      (λ e. omega (arith, e)),
      there o n l.at (omega (arith, low)),
      ap (λ k. is_member ◌==◌ (strand_points o n) (top k)) (let e : l.at + o + 1 ≡ l.at + 1 + o = omega arith in e) ∙ there o n (l.at + 1) low,
      lettered_have o n u (c + 2) a.1,
    )

pub passes_have : (o n : ℕ) (new : ℕ → ℕ) (i count : ℕ) → i + count ≤ n → HavePoints (strand_points o n) (passes new (i + o) count)
passes_have o n new i zero l = tt
passes_have o n new i (suc count) l = (there o n i (omega (arith, l)), subst (λ k. HavePoints (strand_points o n) (passes new k count)) (let e : i + 1 + o ≡ i + o + 1 = omega arith in e) (passes_have o n new (i + 1) count (omega (arith, l))))

-- ---- the word's nodes, and arcs behind it
passes_nodes : (r name new f g : ℕ → ℕ) (o i count : ℕ) → ((k : ℕ) → i ≤ k → k < i + count → r (name (top (k + o))) ≡ f k) → ((k : ℕ) → i ≤ k → k < i + count → r (new (k + o)) ≡ g k) →
    rename r (step_nodes name (passes new (i + o) count)) ≡ arcs_of (arcs_between f g i count)
passes_nodes r name new f g o i zero hf hg = refl
passes_nodes r name new f g o i (suc count) hf hg =
    let next = named name (top (i + o)) (new (i + o)) in
    ap₂ (λ p q. arc p q ∷ rename r (step_nodes next (passes new (i + o + 1) count))) (hf i (omega arith) (omega arith)) (hg i (omega arith) (omega arith))
    ∙ ap (λ ns. arc (f i) (g i) ∷ ns)
    (ap (λ k. rename r (step_nodes next (passes new k count))) (let e : i + o + 1 ≡ i + 1 + o = omega arith in e)
    ∙ passes_nodes r next new f g o (i + 1) count
    (λ k lo hi. ap r (named_other name (top (i + o)) (new (i + o)) (top (k + o)) (λ e. omega (arith, e, lo))) ∙ hf k (omega (arith, lo)) (omega (arith, hi)))
    (λ k lo hi. hg k (omega (arith, lo)) (omega (arith, hi))))

-- THE NODES OF A WORD, AND ARCS TO THE NAMES BEHIND IT
pub net_nodes : (r : ℕ → ℕ) (n o : ℕ) (u : List Letter) (name t : ℕ → ℕ) (k c : ℕ) (new g : ℕ → ℕ) → AreAmong n u → ((j : ℕ) → r (k + j) ≡ c + j) → ((j : ℕ) → j < n → r (name (top (j + o))) ≡ t j) →
    ((j : ℕ) → j < n → r (new (j + o)) ≡ g j) → rename r (step_nodes name (lettered (raised o u) k ++ passes new o n)) ≡ letter_nodes u t c ++ arcs_of (arcs_between (names_behind u t c) g 0 n)
net_nodes r n o u name t k c new g a m h last =
    let steps = lettered (raised o u) k in
    let start : o ≡ 0 + o = omega arith in
    ap (rename r) (step_nodes-append name steps (passes new o n))
    ∙ rename-append r (step_nodes name steps) (step_nodes (names_after name steps) (passes new o n))
    ∙ ap₂ (λ xs ys. xs ++ ys) (lettered_nodes r n o u name t k c a m h)
    (ap (λ i. rename r (step_nodes (names_after name steps) (passes new i n))) start
    ∙ passes_nodes r (names_after name steps) new (names_behind u t c) g o 0 n
    (λ j lo hi. lettered_names r n o u name t k c a m h j (omega (arith, hi)))
    (λ j lo hi. last j (omega (arith, hi))))
