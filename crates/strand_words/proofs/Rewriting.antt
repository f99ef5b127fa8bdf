-- Rewriting words: to be the same word is an equivalence, kept on both sides; letters far apart change places; what a crossing
-- does, its inverse undoes.
use Rattle.std.proofs.Common.{◌≡◌, ℕ, ◌+◌, ◌*◌, ◌%◌, ◌<◌, ◌≤◌, List, [], ◌∷◌, ◌++◌, refl, sym, ap, ◌∙◌, arith, append_assoc, append-nil, subst}
use Rattle.state_sums.specs.LocalSums.{AreSkeinNumbers}
use Rattle.strand_words.specs.Words.{Letter, top, word_sum, SameWord, inverted, inverse}
use Rattle.strand_words.proofs.Braids.{over_under}
use Rattle.strand_words.proofs.Sums.{next_top, word_sum-append, word_sum-alike, hook_far}

-- each letter is far below the bound, or from it on
abbrev pub IsBelow : ℕ → List Letter → Type 0
IsBelow bound [] = Unit {0}
IsBelow bound (letter ∷ u) = (letter.at + 1 < bound) × IsBelow bound u

abbrev pub IsFrom : ℕ → List Letter → Type 0
IsFrom bound [] = Unit {0}
IsFrom bound (letter ∷ u) = (bound ≤ letter.at) × IsFrom bound u

-- each letter is a crossing of some weights
abbrev pub AreCrossings : ℕ → ℕ → List Letter → Type 0
AreCrossings m delta [] = Unit {0}
AreCrossings m delta (letter ∷ u) = AreSkeinNumbers m letter.straight letter.hook delta × AreCrossings m delta u

pub IsBelow-append : (bound : ℕ) (u v : List Letter) → IsBelow bound u → IsBelow bound v → IsBelow bound (u ++ v)
IsBelow-append bound [] v a b = b
IsBelow-append bound (j ∷ u) v a b = (a.0, IsBelow-append bound u v a.1 b)

pub IsFrom-append : (bound : ℕ) (u v : List Letter) → IsFrom bound u → IsFrom bound v → IsFrom bound (u ++ v)
IsFrom-append bound [] v a b = b
IsFrom-append bound (j ∷ u) v a b = (a.0, IsFrom-append bound u v a.1 b)

module _ {m delta : ℕ} where
  pub itself : {u : List Letter} → SameWord m delta u u
  itself = record { at = λ worth mate h. refl }

  pub back : {u v : List Letter} → SameWord m delta u v → SameWord m delta v u
  back s = record { at = λ worth mate h. sym (s.at worth mate h) }

  pub on : {u v w : List Letter} → SameWord m delta u v → SameWord m delta v w → SameWord m delta u w
  on s t = record { at = λ worth mate h. s.at worth mate h ∙ t.at worth mate h }

  pub same : {u v : List Letter} → u ≡ v → SameWord m delta u v
  same {u = u} e = subst (SameWord m delta u) e itself

  pub behind : (u : List Letter) {v w : List Letter} → SameWord m delta v w → SameWord m delta (u ++ v) (u ++ w)
  behind u {v = v} {w = w} s = record {
    at = λ worth mate h.
        ap (λ n. n % m) (word_sum-append delta u v worth mate)
        ∙ word_sum-alike m delta u (word_sum delta v worth) (word_sum delta w worth) (λ n p. s.at worth n p) mate h
        ∙ sym (ap (λ n. n % m) (word_sum-append delta u w worth mate));
  }

  pub before : {u v : List Letter} (w : List Letter) → SameWord m delta u v → SameWord m delta (u ++ w) (v ++ w)
  before {u = u} {v = v} w s = record {
    at = λ worth mate h.
        ap (λ n. n % m) (word_sum-append delta u w worth mate)
        ∙ s.at (word_sum delta w worth) mate h
        ∙ sym (ap (λ n. n % m) (word_sum-append delta v w worth mate));
  }

  -- BOTH SIDES
  pub within : (x : List Letter) {u v : List Letter} (y : List Letter) → SameWord m delta u v → SameWord m delta (x ++ (u ++ y)) (x ++ (v ++ y))
  within x y s = behind x (before y s)

  -- ---- far apart
  pub far_letters : (j k : Letter) → j.at + 1 < k.at → SameWord m delta (j ∷ k ∷ []) (k ∷ j ∷ [])
  far_letters j k l = record {
    at = λ worth mate h.
        let p = top j.at in let q = top (j.at + 1) in let r = top k.at in let s = top (k.at + 1) in
        let f = ap (λ n. j.hook * (k.hook * n)) (hook_far delta p q r s worth mate h (next_top j.at) (λ e. omega (arith, l, e)) (λ e. omega (arith, l, e)) (λ e. omega (arith, l, e)) (λ e. omega (arith, l, e)) (next_top k.at)) in
        ap (λ n. n % m) (omega (arith, f));
  }

  pub letter_far : (bound : ℕ) (j : Letter) (v : List Letter) → j.at + 1 < bound → IsFrom bound v → SameWord m delta (j ∷ v) (v ++ j ∷ [])
  letter_far bound j [] l a = itself
  letter_far bound j (k ∷ v) l a =
      let b = a.0 in
      on (before v (far_letters j k (omega (arith, l, b)))) (behind (k ∷ []) (letter_far bound j v l a.1))

  pub far_words : (bound : ℕ) (u v : List Letter) → IsBelow bound u → IsFrom bound v → SameWord m delta (u ++ v) (v ++ u)
  far_words bound [] v a b = same (sym (append-nil v))
  far_words bound (j ∷ u) v a b =
      on (behind (j ∷ []) (far_words bound u v a.1 b))
      (on (before u (letter_far bound j v a.0 b)) (same (append_assoc v (j ∷ []) u)))

  -- ---- inverse_word
  -- A WORD AND ITS INVERSE
  pub undone : (u : List Letter) → AreCrossings m delta u → SameWord m delta (u ++ inverse u) []
  undone [] a = itself
  undone (j ∷ u) a =
      on (same (ap (λ w. j ∷ w) (sym (append_assoc u (inverse u) (inverted j ∷ [])))))
      (on (behind (j ∷ []) (before (inverted j ∷ []) (undone u a.1)))
      (over_under m j.straight j.hook delta j.at a.0))
