-- Words at other places: points renamed one to one, both ways, carry a word's sums along.
use Rattle.std.proofs.Common.{◌≡◌, ℕ, ◌+◌, ◌-◌, ◌*◌, ◌%◌, ◌<◌, ◌≤◌, Bool, true, false, cond, ◌==◌, nat_lt, if◌then◌else◌, List, [], ◌∷◌, refl, sym, ap, ap₂, ◌∙◌, arith}
use Rattle.std.proofs.lemmas.Bool.Decides.{nat_tests}
use Rattle.graph_parts.proofs.Agreement.{eqb_from_iff}
use Rattle.strand_words.specs.Grids.{raised}
use Rattle.strand_words.specs.Matings.{IsMating, hooked, loop_worth}
use Rattle.strand_words.specs.Words.{Letter, top, word_sum, SameWord}
use Rattle.strand_words.proofs.Hooks.{fun_ext}

cond_from : (from : ℕ → ℕ) (a b d e : Bool) (q p mq mp mx : ℕ) → from (cond a q (cond b p (cond d mq (cond e mp mx)))) ≡ cond a (from q) (cond b (from p) (cond d (from mq) (cond e (from mp) (from mx))))
cond_from from true b d e q p mq mp mx = refl
cond_from from false true d e q p mq mp mx = refl
cond_from from false false true e q p mq mp mx = refl
cond_from from false false false true q p mq mp mx = refl
cond_from from false false false false q p mq mp mx = refl

module _ (to from : ℕ → ℕ) (back : (x : ℕ) → from (to x) ≡ x) (forth : (x : ℕ) → to (from x) ≡ x) where
  abbrev inside : (ℕ → ℕ) → ℕ → ℕ
  inside mate x = from (mate (to x))

  abbrev outside : (ℕ → ℕ) → ℕ → ℕ
  outside mate x = to (mate (from x))

  inside-IsMating : (mate : ℕ → ℕ) → IsMating mate → IsMating (inside mate)
  inside-IsMating mate h = record {
    apart = λ x e. h.apart (to x) (sym (forth (mate (to x))) ∙ ap to e);
    back = λ x. ap (λ z. from (mate z)) (forth (mate (to x))) ∙ ap from (h.back (to x)) ∙ back x;
  }

  outside_inside : (mate : ℕ → ℕ) → outside (inside mate) ≡ mate
  outside_inside mate = fun_ext _ _ (λ x. forth (mate (to (from x))) ∙ ap mate (forth x))

  told : (x z : ℕ) → (to x == z) ≡ (x == from z)
  told x z = eqb_from_iff (to x) z x (from z) (λ e. sym (back x) ∙ ap from e) (λ e. ap to e ∙ forth z)

  hooked_inside : (p q : ℕ) (mate : ℕ → ℕ) → inside (hooked (to p) (to q) mate) ≡ hooked p q (inside mate)
  hooked_inside p q mate =
      fun_ext _ _ (λ x.
      cond_from from (to x == to p) (to x == to q) (to x == mate (to p)) (to x == mate (to q)) (to q) (to p) (mate (to q)) (mate (to p)) (mate (to x))
      ∙ ap₂ (λ b r. cond b (from (to q)) r) (told x (to p) ∙ ap (λ z. x == z) (back p))
      (ap₂ (λ b r. cond b (from (to p)) r) (told x (to q) ∙ ap (λ z. x == z) (back q))
      (ap₂ (λ b r. cond b (from (mate (to q))) r) (told x (mate (to p)))
      (ap (λ b. cond b (from (mate (to p))) (from (mate (to x)))) (told x (mate (to q))))))
      ∙ ap₂ (λ u v. cond (x == p) u (cond (x == q) v (cond (x == from (mate (to p))) (from (mate (to q))) (cond (x == from (mate (to q))) (from (mate (to p))) (from (mate (to x))))))) (back q) (back p))

  loop_inside : (delta p q : ℕ) (mate : ℕ → ℕ) → loop_worth delta (to p) (to q) mate ≡ loop_worth delta p q (inside mate)
  loop_inside delta p q mate =
      ap (λ b. cond b delta 1) (eqb_from_iff (mate (to p)) (to q) (from (mate (to p))) q (λ e. ap from e ∙ back q) (λ e. sym (forth (mate (to p))) ∙ ap to e))

  -- the letters of the second word stand at the renamed points
  abbrev pub AreRenamed : List Letter → List Letter → Type 0
  AreRenamed [] [] = Unit {0}
  AreRenamed [] (k ∷ v) = ⊥
  AreRenamed (j ∷ u) [] = ⊥
  AreRenamed (j ∷ u) (k ∷ v) = (top k.at ≡ to (top j.at)) × (top (k.at + 1) ≡ to (top (j.at + 1))) × (k.straight ≡ j.straight) × (k.hook ≡ j.hook) × AreRenamed u v

  sum_renamed : (delta : ℕ) (u v : List Letter) → AreRenamed u v → (worth : (ℕ → ℕ) → ℕ) (mate : ℕ → ℕ) → word_sum delta v worth mate ≡ word_sum delta u (λ n. worth (outside n)) (inside mate)
  sum_renamed delta [] [] a worth mate = ap worth (sym (outside_inside mate))
  sum_renamed delta [] (k ∷ v) a worth mate = absurd a
  sum_renamed delta (j ∷ u) [] a worth mate = absurd a
  sum_renamed delta (j ∷ u) (k ∷ v) a worth mate =
      let p = top j.at in
      let q = top (j.at + 1) in
      let rest : (ℕ → ℕ) → ℕ = word_sum delta v worth in
      let there : (ℕ → ℕ) → ℕ = word_sum delta u (λ n. worth (outside n)) in
      ap₂ (λ s h. s * rest mate + h * (loop_worth delta (top k.at) (top (k.at + 1)) mate * rest (hooked (top k.at) (top (k.at + 1)) mate))) a.2 a.3
      ∙ ap₂ (λ y z. j.straight * rest mate + j.hook * (loop_worth delta y z mate * rest (hooked y z mate))) a.0 a.1
      ∙ ap₂ (λ y z. j.straight * y + j.hook * z) (sum_renamed delta u v a.4 worth mate)
      (ap₂ (λ y z. y * z) (loop_inside delta p q mate) (sum_renamed delta u v a.4 worth (hooked (to p) (to q) mate) ∙ ap there (hooked_inside p q mate)))

  pub same_renamed : (m delta : ℕ) (u v u2 v2 : List Letter) → AreRenamed u u2 → AreRenamed v v2 → SameWord m delta u v → SameWord m delta u2 v2
  same_renamed m delta u v u2 v2 a b s = record {
    at = λ worth mate h.
        ap (λ n. n % m) (sum_renamed delta u u2 a worth mate)
        ∙ s.at (λ n. worth (outside n)) (inside mate) (inside-IsMating mate h)
        ∙ sym (ap (λ n. n % m) (sum_renamed delta v v2 b worth mate));
  }

-- ---- k places further right: the points below a bound go up, and those above them come down
up : ℕ → ℕ → ℕ → ℕ
up bound k x = if nat_lt x (bound + bound) then x + (k + k) else (if nat_lt x (bound + bound + (k + k)) then x - (bound + bound) else x)

down : ℕ → ℕ → ℕ → ℕ
down bound k x = if nat_lt x (k + k) then x + (bound + bound) else (if nat_lt x (bound + bound + (k + k)) then x - (k + k) else x)

down_up : (bound k x : ℕ) → down bound k (up bound k x) ≡ x
unfolding up down
down_up bound k x = grind (arith, nat_tests)

up_down : (bound k x : ℕ) → up bound k (down bound k x) ≡ x
unfolding up down
up_down bound k x = grind (arith, nat_tests)

up_top : (bound k i : ℕ) → i < bound → up bound k (top i) ≡ top (i + k)
unfolding up
up_top bound k i l = grind (arith, nat_tests, l)

-- a place beyond all letters
beyond : List Letter → ℕ
beyond [] = 0
beyond (letter ∷ u) = letter.at + 2 + beyond u

raised_renamed : (bound k : ℕ) (u : List Letter) → beyond u ≤ bound → AreRenamed (up bound k) (down bound k) (down_up bound k) (up_down bound k) u (raised k u)
unfolding beyond
raised_renamed bound k [] l = tt
raised_renamed bound k (j ∷ u) l =
    (sym (up_top bound k j.at (omega (arith, l))), ap top (let e : j.at + k + 1 ≡ j.at + 1 + k = omega arith in e) ∙ sym (up_top bound k (j.at + 1) (omega (arith, l))), refl, refl, raised_renamed bound k u (omega (arith, l)))

-- FURTHER RIGHT
pub same_raised : (m delta k : ℕ) (u v : List Letter) → SameWord m delta u v → SameWord m delta (raised k u) (raised k v)
same_raised m delta k u v s =
    let bound = beyond u + beyond v in
    same_renamed (up bound k) (down bound k) (down_up bound k) (up_down bound k) m delta u v (raised k u) (raised k v) (raised_renamed bound k u (omega arith)) (raised_renamed bound k v (omega arith)) s
