-- A box that is killed by hooks absorbs crossings, full twists and curls.
use Rattle.std.proofs.Common.{◌≡◌, ℕ, zero, suc, Bool, ◌+◌, ◌*◌, ◌%◌, ◌^◌, ◌<◌, ◌≤◌, List, [], ◌∷◌, ◌++◌, refl, sym, ap, ◌∙◌, arith, All}
use Rattle.std.proofs.Math.Nat.{pow-zero, pow-suc}
use Rattle.std.proofs.lemmas.List.Elements.{All-head, All-tail}
use Rattle.state_sums.specs.LocalSums.{AreSkeinNumbers}
use Rattle.state_sums.proofs.Congruent.{add_same_mod, mul_same_mod}
use Rattle.strand_words.specs.Boxes.{close_worth, AreStanding, Weighted, box_sum, IsBox, twist}
use Rattle.strand_words.specs.Grids.{crossed, row, grid}
use Rattle.strand_words.specs.Matings.{IsMating}
use Rattle.strand_words.specs.Words.{Letter, top, word_sum}
use Rattle.strand_words.proofs.Curls.{grid_closed}
use Rattle.strand_words.proofs.Sums.{hook_worth}

pub box_sum-two : (s h : ℕ) (box : List Weighted) (f g : (ℕ → ℕ) → ℕ) → box_sum box (λ n. s * f n + h * g n) ≡ s * box_sum box f + h * box_sum box g
box_sum-two s h [] f g = omega arith
box_sum-two s h (term ∷ box) f g = let ih = box_sum-two s h box f g in omega (arith, ih)

pub box_sum-times : (k : ℕ) (box : List Weighted) (f : (ℕ → ℕ) → ℕ) → box_sum box (λ n. k * f n) ≡ k * box_sum box f
box_sum-times k [] f = omega arith
box_sum-times k (term ∷ box) f = let ih = box_sum-times k box f in omega (arith, ih)

pub box_sum-alike : (m : ℕ) (P : (ℕ → ℕ) → Type 0) (box : List Weighted) (f g : (ℕ → ℕ) → ℕ) → All (λ term. P term.mate) box → ((mate : ℕ → ℕ) → P mate → f mate % m ≡ g mate % m) →
    box_sum box f % m ≡ box_sum box g % m
box_sum-alike m P [] f g a same = refl
box_sum-alike m P (term ∷ box) f g a same =
    add_same_mod m _ _ _ _ (mul_same_mod m term.weight _ _ (same term.mate (All-head (λ t. P t.mate) term box a)))
    (box_sum-alike m P box f g (All-tail (λ t. P t.mate) term box a) same)

-- a word of one weight of going straight, among the strands from low on, below high
abbrev pub IsStraightly : ℕ → ℕ → ℕ → List Letter → Type 0
IsStraightly s low high [] = Unit {0}
IsStraightly s low high (letter ∷ u) = (low ≤ letter.at) × (letter.at + 1 < high) × (letter.straight ≡ s) × IsStraightly s low high u

abbrev pub letters : List Letter → ℕ
letters [] = 0
letters (letter ∷ u) = letters u + 1

absorbed_plain : (m s h x y z p q : ℕ) → y % m ≡ 0 % m → x % m ≡ (p * z) % m → q ≡ p * s → (s * x + h * y) % m ≡ (q * z) % m
absorbed_plain m s h x y z p q e f g =
    add_same_mod m _ _ _ _ (mul_same_mod m s _ _ f) (mul_same_mod m h _ _ e)
    ∙ ap (λ n. n % m) (let t : s * (p * z) + h * 0 ≡ (p * s) * z = omega arith in t ∙ ap (λ n. n * z) (sym g))

module _ (m delta i count n : ℕ) (box : List Weighted) (is_box : IsBox m delta i count n box) where
  -- A WORD BESIDE A BOX
  pub absorbs_word : (s : ℕ) (u : List Letter) → IsStraightly s (i + count) (i + count + n) u → (worth : (ℕ → ℕ) → ℕ) →
      box_sum box (word_sum delta u worth) % m ≡ (s ^ letters u * box_sum box worth) % m
  absorbs_word s [] h worth = ap (λ k. k % m) (let e = pow-zero s in let k = box_sum box worth in rw e (omega arith))
  absorbs_word s (letter ∷ u) h worth =
      let p = top letter.at in
      let q = top (letter.at + 1) in
      let rest = word_sum delta u worth in
      ap (λ k. k % m) (box_sum-two letter.straight letter.hook box rest (hook_worth delta p q rest))
      ∙ absorbed_plain m letter.straight letter.hook (box_sum box rest) (box_sum box (hook_worth delta p q rest)) (box_sum box worth) (s ^ letters u) (s ^ (letters u + 1))
      (is_box.kills letter.at h.0 h.1 rest) (absorbs_word s u h.3 worth)
      (ap (λ k. s ^ k) (let e : letters u + 1 ≡ suc (letters u) = omega arith in e) ∙ pow-suc s (letters u) ∙ ap (λ k. s ^ letters u * k) (sym h.2))

-- ---- rows and twists
module _ (a b : ℕ) where
  row-IsStraightly : (s : Bool) (i k low high : ℕ) → low ≤ i → i + k < high → IsStraightly (crossed a b s 0).straight low high (row a b s i k)
  row-IsStraightly s i zero low high l h = tt
  row-IsStraightly s i (suc k) low high l h = (l, omega (arith, h), refl, row-IsStraightly s (i + 1) k low high (omega (arith, l)) (omega (arith, h)))

  IsStraightly-append : (s low high : ℕ) (u v : List Letter) → IsStraightly s low high u → IsStraightly s low high v → IsStraightly s low high (u ++ v)
  IsStraightly-append s low high [] v p q = q
  IsStraightly-append s low high (j ∷ u) v p q = (p.0, p.1, p.2, IsStraightly-append s low high u v p.3 q)

  letters-append : (u v : List Letter) → letters (u ++ v) ≡ letters u + letters v
  letters-append [] v = omega arith
  letters-append (j ∷ u) v = let ih = letters-append u v in omega (arith, ih)

  twist-IsStraightly : (s : Bool) (i k turns low high : ℕ) → low ≤ i → i + k < high → IsStraightly (crossed a b s 0).straight low high (twist a b s i k turns)
  twist-IsStraightly s i k zero low high l h = tt
  twist-IsStraightly s i k (suc turns) low high l h =
      IsStraightly-append (crossed a b s 0).straight low high (row a b s i k) (twist a b s i k turns) (row-IsStraightly s i k low high l h) (twist-IsStraightly s i k turns low high l h)

  row-letters : (s : Bool) (i k : ℕ) → letters (row a b s i k) ≡ k
  row-letters s i zero = refl
  row-letters s i (suc k) = let ih = row-letters s (i + 1) k in omega (arith, ih)

  twist-letters : (s : Bool) (i k turns : ℕ) → letters (twist a b s i k turns) ≡ turns * k
  twist-letters s i k zero = omega arith
  twist-letters s i k (suc turns) =
      let ih = twist-letters s i k turns in
      let e = letters-append (row a b s i k) (twist a b s i k turns) in
      let f = row-letters s i k in
      omega (arith, ih, e, f)

module _ (m delta i count n : ℕ) (box : List Weighted) (is_box : IsBox m delta i count (suc n) box) (a b : ℕ) (s : Bool) where
  -- TURNS BESIDE A BOX
  pub absorbs_twist : (turns : ℕ) (worth : (ℕ → ℕ) → ℕ) →
      box_sum box (word_sum delta (twist a b s (i + count) n turns) worth) % m ≡ ((crossed a b s 0).straight ^ (turns * n) * box_sum box worth) % m
  absorbs_twist turns worth =
      absorbs_word m delta i count (suc n) box is_box (crossed a b s 0).straight (twist a b s (i + count) n turns)
      (twist-IsStraightly a b s (i + count) n turns (i + count) (i + count + suc n) (omega arith) (omega arith)) worth
      ∙ ap (λ k. ((crossed a b s 0).straight ^ k * box_sum box worth) % m) (twist-letters a b s (i + count) n turns)

  -- A CURL BESIDE A BOX
  pub absorbs_curl : AreSkeinNumbers m a b delta → (w : ℕ) → (w % m ≡ ((crossed a b s 0).straight * delta + (crossed a b s 0).hook) % m) → (worth : (ℕ → ℕ) → ℕ) →
      box_sum box (word_sum delta (grid a b s i count (suc n)) (close_worth delta i count worth)) % m
      ≡ (w ^ count * (crossed a b s 0).straight ^ (count * n) * box_sum box worth) % m
  absorbs_curl numbers w factor worth =
      let turns = twist a b s (i + count) n count in
      let straight = (crossed a b s 0).straight in
      box_sum-alike m (λ mate. IsMating mate × AreStanding i count mate) box (word_sum delta (grid a b s i count (suc n)) (close_worth delta i count worth)) (λ mate. w ^ count * word_sum delta turns worth mate)
      is_box.are_matings (λ mate h. grid_closed m a b delta numbers s w factor n count i worth mate record { is_mating = h.0; standing = h.1 })
      ∙ ap (λ k. k % m) (box_sum-times (w ^ count) box (word_sum delta turns worth))
      ∙ mul_same_mod m (w ^ count) _ _ (absorbs_twist count worth)
      ∙ ap (λ k. k % m) (let x = w ^ count in let y = straight ^ (count * n) in let z = box_sum box worth in let t : x * (y * z) ≡ x * y * z = omega arith in t)
