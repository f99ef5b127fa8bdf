-- The relations of braids, as relations of words: both sides are sums over hooks, which Temperley and Lieb's relations make equal.
use Rattle.std.proofs.Common.{ℕ, ◌+◌, ◌*◌, [], ◌∷◌, sym, ap, arith}
use Rattle.state_sums.specs.LocalSums.{AreSkeinNumbers}
use Rattle.state_sums.proofs.Congruent.{congruent_by}
use Rattle.piece_laws.proofs.SkeinEquations.{smoothings_cancel}
use Rattle.strand_words.specs.Words.{top, SameWord, over, under}
use Rattle.strand_words.proofs.Sums.{next_top, over_top, hook_worth, hook_twice, hook_back, hook_forth}

-- THE SECOND MOVE
pub over_under : (m a b delta i : ℕ) → AreSkeinNumbers m a b delta → SameWord m delta (over a b i ∷ under a b i ∷ []) []
over_under m a b delta i numbers = record {
  at = λ worth mate h.
      let k = worth mate in
      let x = hook_worth delta (top i) (top (i + 1)) worth mate in
      let t = ap (λ n. b * (a * n)) (hook_twice delta (top i) (top (i + 1)) (top (i + 1 + 1)) worth mate h (next_top i) (next_top (i + 1)) (over_top i)) in
      let q = smoothings_cancel m a b delta numbers in
      congruent_by m _ _ (a * b) 1 (a * a + b * b + a * b * delta) 0 k x numbers.inverse q (omega (arith, t));
}

-- THE THIRD MOVE
pub braided : (m a b delta i : ℕ) → AreSkeinNumbers m a b delta → SameWord m delta (over a b i ∷ over a b (i + 1) ∷ over a b i ∷ []) (over a b (i + 1) ∷ over a b i ∷ over a b (i + 1) ∷ [])
braided m a b delta i numbers = record {
  at = λ worth mate h.
      let p = top i in let q = top (i + 1) in let r = top (i + 1 + 1) in
      let d = next_top i in let e = next_top (i + 1) in let f = over_top i in
      let k = worth mate in
      let x = hook_worth delta p q worth mate in
      let y = hook_worth delta q r worth mate in
      let xx = ap (λ n. b * (a * (b * n))) (hook_twice delta p q r worth mate h d e f) in
      let yy = ap (λ n. b * (a * (b * n))) (hook_twice delta q r p worth mate h e (λ t. f (sym t)) (λ t. d (sym t))) in
      let xyx = ap (λ n. b * (b * (b * n))) (hook_back delta p q r worth mate h d e f) in
      let yxy = ap (λ n. b * (b * (b * n))) (hook_forth delta p q r worth mate h d e f) in
      let z = smoothings_cancel m a b delta numbers in
      let n = a * a + b * b + a * b * delta in
      congruent_by m _ _ n 0 0 n (b * x) (b * y) z (sym z) (omega (arith, xx, yy, xyx, yxy));
}
