-- The sums of words: joined words, sums that are alike modulo m, and the relations of hooks in sums.
--
--     hook_worth delta p q worth mate     what a mating is worth where p and q are hooked
use Rattle.std.proofs.Common.{◌≡◌, ◌≢◌, ℕ, ◌+◌, ◌*◌, ◌%◌, List, [], ◌∷◌, ◌++◌, refl, sym, ap, ◌∙◌, arith}
use Rattle.state_sums.proofs.Congruent.{add_same_mod, mul_same_mod}
use Rattle.strand_words.specs.Matings.{IsMating, hooked, loop_worth}
use Rattle.strand_words.specs.Words.{Letter, top, word_sum}
use Rattle.strand_words.proofs.Hooks.{hooked-IsMating, hooked_mates, hooked-meets, hooked_back, hooked_forth, hooked_far, loop_again, loop_beside, loop_before, loop_back, loop_far}

pub next_top : (i : ℕ) → top i ≢ top (i + 1)
next_top i e = omega (arith, e)

pub over_top : (i : ℕ) → top i ≢ top (i + 1 + 1)
over_top i e = omega (arith, e)

-- ---- joined words
pub word_sum-append : (delta : ℕ) (u v : List Letter) (worth : (ℕ → ℕ) → ℕ) (mate : ℕ → ℕ) → word_sum delta (u ++ v) worth mate ≡ word_sum delta u (word_sum delta v worth) mate
word_sum-append delta [] v worth mate = refl
word_sum-append delta (letter ∷ u) v worth mate =
    let p = top letter.at in
    let q = top (letter.at + 1) in
    let e = ap (λ n. letter.straight * n) (word_sum-append delta u v worth mate) in
    let f = ap (λ n. letter.hook * (loop_worth delta p q mate * n)) (word_sum-append delta u v worth (hooked p q mate)) in
    omega (arith, e, f)

-- what is alike behind a word
pub word_sum-alike : (m delta : ℕ) (u : List Letter) (worth other : (ℕ → ℕ) → ℕ) → ((mate : ℕ → ℕ) → IsMating mate → worth mate % m ≡ other mate % m) →
    (mate : ℕ → ℕ) → IsMating mate → word_sum delta u worth mate % m ≡ word_sum delta u other mate % m
word_sum-alike m delta [] worth other same mate h = same mate h
word_sum-alike m delta (letter ∷ u) worth other same mate h =
    let p = top letter.at in
    let q = top (letter.at + 1) in
    add_same_mod m _ _ _ _ (mul_same_mod m letter.straight _ _ (word_sum-alike m delta u worth other same mate h))
    (mul_same_mod m letter.hook _ _ (mul_same_mod m (loop_worth delta p q mate) _ _ (word_sum-alike m delta u worth other same (hooked p q mate) (hooked-IsMating p q mate h (next_top letter.at)))))

-- ---- hooks in sums
abbrev pub hook_worth : ℕ → ℕ → ℕ → ((ℕ → ℕ) → ℕ) → (ℕ → ℕ) → ℕ
hook_worth delta p q worth mate = loop_worth delta p q mate * worth (hooked p q mate)

both : (a b c d : ℕ) → a ≡ c → b ≡ d → a * b ≡ c * d
both a b c d e f = ap (λ n. n * b) e ∙ ap (λ n. c * n) f

module _ (delta p q r : ℕ) (worth : (ℕ → ℕ) → ℕ) (mate : ℕ → ℕ) (h : IsMating mate) (d : p ≢ q) (e : q ≢ r) (f : p ≢ r) where
  -- TEMPERLEY AND LIEB'S RELATIONS, IN SUMS
  pub hook_twice : hook_worth delta p q (hook_worth delta p q worth) mate ≡ delta * hook_worth delta p q worth mate
  hook_twice =
      let w = loop_worth delta p q mate in
      let k = worth (hooked p q mate) in
      ap (λ n. w * n)
      (both _ _ _ _ (loop_again delta p q mate d) (ap worth (hooked_mates p q (hooked p q mate) (hooked-IsMating p q mate h d) d (hooked-meets p q mate d))))
      ∙ (let t : w * (delta * k) ≡ delta * (w * k) = omega arith in t)

  pub hook_back : hook_worth delta p q (hook_worth delta q r (hook_worth delta p q worth)) mate ≡ hook_worth delta p q worth mate
  hook_back =
      let w = loop_worth delta p q mate in
      let k = worth (hooked p q mate) in
      let one = hooked p q mate in
      let one_is = hooked-IsMating p q mate h d in
      ap (λ n. w * n)
      (both _ _ _ _ (loop_beside delta p q r mate d e f)
      (both _ _ _ _ (loop_back delta p q r one one_is d e f (hooked-meets p q mate d)) (ap worth (hooked_back p q r mate h d e f)))
      ∙ (let t : 1 * (1 * k) ≡ k = omega arith in t))

  pub hook_forth : hook_worth delta q r (hook_worth delta p q (hook_worth delta q r worth)) mate ≡ hook_worth delta q r worth mate
  hook_forth =
      let w = loop_worth delta q r mate in
      let k = worth (hooked q r mate) in
      let one = hooked q r mate in
      ap (λ n. w * n)
      (both _ _ _ _ (loop_before delta p q r mate h d e f)
      (both _ _ _ _ (loop_beside delta p q r one d e f) (ap worth (hooked_forth p q r mate h d e f)))
      ∙ (let t : 1 * (1 * k) ≡ k = omega arith in t))

far_plain : (v w x y k l : ℕ) → w * y ≡ v * x → l ≡ k → v * (x * k) ≡ w * (y * l)
far_plain v w x y k l e f = (let t : v * (x * k) ≡ (v * x) * k = omega arith in t) ∙ ap (λ n. n * k) (sym e) ∙ ap (λ n. (w * y) * n) (sym f) ∙ (let t : (w * y) * l ≡ w * (y * l) = omega arith in t)

-- HOOKS FAR APART CHANGE PLACES
pub hook_far : (delta p q r s : ℕ) (worth : (ℕ → ℕ) → ℕ) (mate : ℕ → ℕ) → IsMating mate → p ≢ q → p ≢ r → p ≢ s → q ≢ r → q ≢ s → r ≢ s →
    hook_worth delta p q (hook_worth delta r s worth) mate ≡ hook_worth delta r s (hook_worth delta p q worth) mate
hook_far delta p q r s worth mate h d e f g i j =
    let v = loop_worth delta p q mate in
    let w = loop_worth delta r s mate in
    let x = loop_worth delta r s (hooked p q mate) in
    let y = loop_worth delta p q (hooked r s mate) in
    let k = worth (hooked r s (hooked p q mate)) in
    let l = worth (hooked p q (hooked r s mate)) in
    far_plain v w x y k l (loop_far delta p q r s mate h d e f g i j) (ap worth (hooked_far p q r s mate h d e f g i j))
