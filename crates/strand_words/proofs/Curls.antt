-- A crossing of bundles, closed on the left, is a twist of the right bundle times a factor for each strand that is closed.
use Rattle.std.proofs.Common.{◌≡◌, ◌≢◌, ℕ, zero, suc, Bool, ◌+◌, ◌*◌, ◌%◌, ◌^◌, ◌<◌, ◌≤◌, List, [], ◌∷◌, ◌++◌, refl, sym, ap, ap₂, ◌∙◌, arith, append-nil, mul_comm, ◌==◌, if◌then◌else◌}
use Rattle.std.proofs.Math.Nat.{pow-zero, pow-suc}
use Rattle.std.proofs.lemmas.Bool.Decides.{nat_tests}
use Rattle.state_sums.specs.LocalSums.{AreSkeinNumbers}
use Rattle.state_sums.proofs.Congruent.{add_same_mod, mul_same_mod}
use Rattle.strand_words.specs.Boxes.{bottom, close_worth, AreStanding, twist}
use Rattle.strand_words.specs.Grids.{crossed, row, grid}
use Rattle.strand_words.specs.Matings.{IsMating, hooked, loop_worth}
use Rattle.strand_words.specs.Words.{Letter, top, word_sum}
use Rattle.strand_words.proofs.Bundles.{rows_apart, row-IsBraid, raised-row}
use Rattle.strand_words.proofs.Hooks.{hooked-IsMating, hooked_mates, hooked_between, hooked_turned}
use Rattle.strand_words.proofs.Rewriting.{IsFrom, IsFrom-append}
use Rattle.strand_words.proofs.Slides.{row-IsFrom, slide_grid}
use Rattle.strand_words.proofs.Sums.{next_top, word_sum-append, hook_worth, hook_far}

-- ---- what a letter keeps
pub record Kept (i count : ℕ) (mate : ℕ → ℕ) : Type 0 where
  pub is_mating : IsMating mate
  pub standing : AreStanding i count mate

stays_plain : (p k mt mk mk1 : ℕ) → mt ≡ p + p + 1 → p < k → (mk ≡ p + p → k + k ≡ mt) → (mk1 ≡ p + p → k + 1 + (k + 1) ≡ mt) → (mk ≢ p + p) × (mk1 ≢ p + p)
stays_plain p k mt mk mk1 e l f g = ((λ t. (let u = f t in omega (arith, e, u))), (λ t. (let u = g t in omega (arith, e, u))))

Kept-hooked : (i count k : ℕ) → i + count ≤ k → (mate : ℕ → ℕ) → Kept i count mate → Kept i count (hooked (top k) (top (k + 1)) mate)
Kept-hooked i count k l mate h = record {
  is_mating = hooked-IsMating (top k) (top (k + 1)) mate h.is_mating (next_top k);
  standing = λ p lo hi.
      let e = h.standing p lo hi in
      let bk = h.is_mating.back (top k) in
      let bn = h.is_mating.back (top (k + 1)) in
      let apart = stays_plain p k (mate (top p)) (mate (top k)) (mate (top (k + 1))) e (omega (arith, l, hi))
      (λ t. sym bk ∙ ap mate t) (λ t. sym bn ∙ ap mate t) in
      let n : p + p ≢ k + k = λ t. omega (arith, t, l, hi) in
      let o : p + p ≢ k + 1 + (k + 1) = λ t. omega (arith, t, l, hi) in
      kept_plain mate (top p) (top k) (top (k + 1)) n o (λ t. apart.0 (sym t)) (λ t. apart.1 (sym t)) ∙ e;
}
  where
    kept_plain : (mate : ℕ → ℕ) (x p q : ℕ) → x ≢ p → x ≢ q → x ≢ mate p → x ≢ mate q → hooked p q mate x ≡ mate x
    kept_plain mate x p q d e f g = grind (arith, nat_tests, d, e, f, g)

-- sums that are alike where some strands stand
alike_standing : (m delta i count : ℕ) (u : List Letter) → IsFrom (i + count) u → (worth other : (ℕ → ℕ) → ℕ) → ((mate : ℕ → ℕ) → Kept i count mate → worth mate % m ≡ other mate % m) →
    (mate : ℕ → ℕ) → Kept i count mate → word_sum delta u worth mate % m ≡ word_sum delta u other mate % m
alike_standing m delta i count [] l worth other same mate h = same mate h
alike_standing m delta i count (letter ∷ u) l worth other same mate h =
    let p = top letter.at in
    let q = top (letter.at + 1) in
    add_same_mod m _ _ _ _ (mul_same_mod m letter.straight _ _ (alike_standing m delta i count u l.1 worth other same mate h))
    (mul_same_mod m letter.hook _ _ (mul_same_mod m (loop_worth delta p q mate) _ _ (alike_standing m delta i count u l.1 worth other same (hooked p q mate) (Kept-hooked i count letter.at l.0 mate h))))

word_sum-times : (delta k : ℕ) (u : List Letter) (worth : (ℕ → ℕ) → ℕ) (mate : ℕ → ℕ) → word_sum delta u (λ n. k * worth n) mate ≡ k * word_sum delta u worth mate
word_sum-times delta k [] worth mate = refl
word_sum-times delta k (letter ∷ u) worth mate =
    let p = top letter.at in
    let q = top (letter.at + 1) in
    let e = ap (λ n. letter.straight * n) (word_sum-times delta k u worth mate) in
    let f = ap (λ n. letter.hook * (loop_worth delta p q mate * n)) (word_sum-times delta k u worth (hooked p q mate)) in
    omega (arith, e, f)

-- a strand further left is closed before a word or behind it
closed_before : (delta i : ℕ) (u : List Letter) → IsFrom (i + 1) u → (worth : (ℕ → ℕ) → ℕ) (mate : ℕ → ℕ) → IsMating mate →
    word_sum delta u (hook_worth delta (top i) (bottom i) worth) mate ≡ hook_worth delta (top i) (bottom i) (word_sum delta u worth) mate
closed_before delta i [] l worth mate h = refl
closed_before delta i (letter ∷ u) l worth mate h =
    let p = top letter.at in
    let q = top (letter.at + 1) in
    let w = loop_worth delta (top i) (bottom i) mate in
    let m = l.0 in
    let e = ap (λ n. letter.straight * n) (closed_before delta i u l.1 worth mate h) in
    let f = ap (λ n. letter.hook * (loop_worth delta p q mate * n)) (closed_before delta i u l.1 worth (hooked p q mate) (hooked-IsMating p q mate h (next_top letter.at))) in
    let g = ap (λ n. letter.hook * n)
    (hook_far delta p q (top i) (bottom i) (word_sum delta u worth) mate h (next_top letter.at) (λ t. omega (arith, m, t)) (λ t. omega (arith, m, t)) (λ t. omega (arith, m, t)) (λ t. omega (arith, m, t)) (λ t. omega (arith, t))) in
    omega (arith, e, f, g)

loop_plain : (delta x y : ℕ) → x ≡ y → (if x == y then delta else 1) ≡ delta
loop_plain delta x y e = grind (arith, nat_tests, e)

loop_other : (delta x y : ℕ) → x ≢ y → (if x == y then delta else 1) ≡ 1
loop_other delta x y e = grind (arith, nat_tests, e)

loop_apart : (delta p q o : ℕ) (mate : ℕ → ℕ) → p ≢ q → q ≢ o → loop_worth delta p o (hooked p q mate) ≡ 1
loop_apart delta p q o mate d e = grind (arith, nat_tests, d, e)

closed_plain : (s h d l k x y : ℕ) → x ≡ d * k → y ≡ 1 * k → l ≡ 1 → s * x + h * (l * y) ≡ (s * d + h) * k
closed_plain s h d l k x y e f g = rw (e, f, g) (omega arith)

pub times_same : (m x w k : ℕ) → x % m ≡ w % m → (x * k) % m ≡ (w * k) % m
times_same m x w k e = ap (λ n. n % m) (mul_comm x k) ∙ mul_same_mod m k x w e ∙ ap (λ n. n % m) (mul_comm k w)

power_plain : (w p q k : ℕ) → q ≡ p * w → w * (p * k) ≡ q * k
power_plain w p q k e = rw e (omega arith)

module _ (m a b delta : ℕ) (numbers : AreSkeinNumbers m a b delta) where
  -- ---- one strand
  one_closed : (s : Bool) (i : ℕ) (u : List Letter) → IsFrom (i + 1) u → (worth : (ℕ → ℕ) → ℕ) (mate : ℕ → ℕ) → Kept i 1 mate →
      word_sum delta (crossed a b s i ∷ u) (hook_worth delta (top i) (bottom i) worth) mate
      ≡ ((crossed a b s i).straight * delta + (crossed a b s i).hook) * word_sum delta u worth mate
  one_closed s i u l worth mate h =
      let p = top i in let q = top (i + 1) in let o = bottom i in
      let mating = h.is_mating in
      let stands : mate p ≡ o = h.standing i (omega arith) (omega arith) in
      let pq = next_top i in
      let po : p ≢ o = λ t. omega (arith, t) in
      let qo : q ≢ o = λ t. omega (arith, t) in
      let after = hooked p q mate in
      let rest = word_sum delta u worth in
      let straight = (crossed a b s i).straight in
      let hook = (crossed a b s i).hook in
      let stays : word_sum delta u (hook_worth delta p o worth) mate ≡ delta * rest mate =
      closed_before delta i u l worth mate mating
      ∙ ap₂ (λ x y. x * y) (loop_plain delta (mate p) o stands) (ap rest (hooked_mates p o mate mating po stands)) in
      let opens : word_sum delta u (hook_worth delta p o worth) after ≡ 1 * rest mate =
      closed_before delta i u l worth after (hooked-IsMating p q mate mating pq)
      ∙ ap₂ (λ x y. x * y) (loop_apart delta p q o mate pq qo)
      (ap rest (hooked_turned p o after (hooked-IsMating p q mate mating pq) po
      ∙ hooked_between o p q mate mating (λ t. po (sym t)) pq (λ t. qo (sym t)) (sym (ap mate stands) ∙ mating.back p))) in
      let one : loop_worth delta p q mate ≡ 1 = loop_other delta (mate p) q (λ t. qo (sym t ∙ stands)) in
      closed_plain straight hook delta (loop_worth delta p q mate) (rest mate) _ _ stays opens one

  grid-IsFrom : (s : Bool) (i rows columns bound : ℕ) → bound ≤ i → IsFrom bound (grid a b s i rows columns)
  grid-IsFrom s i zero columns bound l = tt
  grid-IsFrom s i (suc rows) columns bound l =
      IsFrom-append bound (row a b s (i + rows) columns) (grid a b s i rows columns) (row-IsFrom m a b delta numbers s (i + rows) columns bound (omega (arith, l))) (grid-IsFrom s i rows columns bound l)

  -- THE CROSSING OF BUNDLES, CLOSED ON THE LEFT
  pub grid_closed : (s : Bool) (w : ℕ) → (w % m ≡ ((crossed a b s 0).straight * delta + (crossed a b s 0).hook) % m) → (v o i : ℕ) (worth : (ℕ → ℕ) → ℕ) (mate : ℕ → ℕ) → Kept i o mate →
      word_sum delta (grid a b s i o (suc v)) (close_worth delta i o worth) mate % m ≡ (w ^ o * word_sum delta (twist a b s (i + o) v o) worth mate) % m
  grid_closed s w factor v zero i worth mate h = ap (λ n. n % m) (let e = pow-zero w in let k = worth mate in rw e (omega arith))
  grid_closed s w factor v (suc o) i worth mate h =
      let g = grid a b s (i + 1) o (suc v) in
      let r = row a b s (i + 1) v in
      let letter = crossed a b s i in
      let inside = close_worth delta (i + 1) o worth in
      let u = i + 1 + o in
      let turn = row a b s u v in
      let turns = twist a b s u v o in
      let number = (crossed a b s 0).straight * delta + (crossed a b s 0).hook in
      let split : grid a b s i (suc o) (suc v) ≡ g ++ letter ∷ r =
      ap (λ n. grid a b s i n (suc v)) (let e : suc o ≡ o + 1 = omega arith in e) ∙ rows_apart m a b delta numbers s i o 1 (suc v)
      ∙ ap (λ x. g ++ x) (append-nil (row a b s (i + 0) (suc v)) ∙ ap (λ n. row a b s n (suc v)) (let e : i + 0 ≡ i = omega arith in e)) in
      let first : Kept i 1 mate = record { is_mating = h.is_mating; standing = λ p lo hi. h.standing p lo (omega (arith, hi)) } in
      let others : Kept (i + 1) o mate = record { is_mating = h.is_mating; standing = λ p lo hi. h.standing p (omega (arith, lo)) (omega (arith, hi)) } in
      let last : u ≡ i + suc o = omega arith in
      ap (λ x. word_sum delta x (close_worth delta i (suc o) worth) mate % m) split
      ∙ ap (λ n. n % m) (word_sum-append delta g (letter ∷ r) (close_worth delta i (suc o) worth) mate)
      ∙ alike_standing m delta i 1 g (grid-IsFrom s (i + 1) o (suc v) (i + 1) (omega arith)) (word_sum delta (letter ∷ r) (close_worth delta i (suc o) worth)) (λ n. w * word_sum delta r inside n)
      (λ n k. ap (λ x. x % m) (one_closed s i r (row-IsFrom m a b delta numbers s (i + 1) v (i + 1) (omega arith)) inside n k) ∙ times_same m _ w (word_sum delta r inside n) (sym factor)) mate first
      ∙ ap (λ n. n % m) (word_sum-times delta w g (word_sum delta r inside) mate)
      ∙ mul_same_mod m w _ _
      (ap (λ n. n % m) (sym (word_sum-append delta g r inside mate))
      ∙ sym ((slide_grid m a b delta numbers s r (i + 1) o (suc v) (row-IsBraid m a b delta numbers s (i + 1) v (i + 1) (i + 1 + suc v) (omega arith) (omega arith))).at inside mate h.is_mating)
      ∙ ap (λ x. word_sum delta (x ++ g) inside mate % m) (raised-row m a b delta numbers s o (i + 1) v)
      ∙ ap (λ n. n % m) (word_sum-append delta turn g inside mate)
      ∙ alike_standing m delta (i + 1) o turn (row-IsFrom m a b delta numbers s u v (i + 1 + o) (omega arith)) (word_sum delta g inside) (λ n. w ^ o * word_sum delta turns worth n)
      (λ n k. grid_closed s w factor v o (i + 1) worth n k) mate others
      ∙ ap (λ n. n % m) (word_sum-times delta (w ^ o) turn (word_sum delta turns worth) mate))
      ∙ ap (λ n. n % m)
      (ap (λ n. w * (w ^ o * n)) (sym (word_sum-append delta turn turns worth mate))
      ∙ (let k = word_sum delta (turn ++ turns) worth mate in let e = pow-suc w o in let t : w * (w ^ o * k) ≡ w ^ suc o * k = power_plain w (w ^ o) (w ^ suc o) k e in t)
      ∙ ap (λ n. w ^ suc o * word_sum delta (twist a b s n v (suc o)) worth mate) last)
