-- Standing strands are named: a name for each place, one to one, names their points.
use Rattle.std.proofs.Common.{◌≡◌, ◌≢◌, ℕ, zero, suc, ◌+◌, ◌<◌, ◌≤◌, Bool, true, ◌==◌, ◌||◌, ◌∷◌, refl, ap, ◌∙◌, arith, ⊎_elim, ◌⊎◌, inl, inr}
use Rattle.std.specs.Set.{is_member}
use Rattle.std.proofs.lemmas.Bool.{eqb-true, or_cases}
use Rattle.std.proofs.lemmas.Bool.Decides.{nat_tests}
use Rattle.graph_parts.proofs.Agreement.{eqb_from_iff}
use Rattle.strand_words.specs.Boxes.{bottom}
use Rattle.strand_words.specs.Matings.{IsMating}
use Rattle.strand_words.specs.Words.{top}
use Rattle.word_networks.specs.Steps.{AreNamed}
use Rattle.word_networks.specs.Strands.{strand_of, standing, strand_points}

pub standing_back : (u : ℕ) → standing (standing u) ≡ u
standing_back zero = refl
standing_back (suc zero) = refl
standing_back (suc (suc u)) = ap (λ n. suc (suc n)) (standing_back u)

standing_apart : (u : ℕ) → standing u ≢ u
standing_apart zero e = omega (arith, e)
standing_apart (suc zero) e = omega (arith, e)
standing_apart (suc (suc u)) e = standing_apart u (omega (arith, e))

pub standing-IsMating : IsMating standing
standing-IsMating = record { apart = standing_apart; back = standing_back }

pub standing_top : (i : ℕ) → standing (top i) ≡ bottom i
standing_top zero = refl
standing_top (suc i) =
    ap standing (let e : suc i + suc i ≡ suc (suc (i + i)) = omega arith in e)
    ∙ ap (λ n. suc (suc n)) (standing_top i) ∙ (let e : suc (suc (i + i + 1)) ≡ suc i + suc i + 1 = omega arith in e)

pub strand_top : (i : ℕ) → strand_of (top i) ≡ i
strand_top zero = refl
strand_top (suc i) = ap strand_of (let e : suc i + suc i ≡ suc (suc (i + i)) = omega arith in e) ∙ ap suc (strand_top i)

pub strand_bottom : (i : ℕ) → strand_of (bottom i) ≡ i
strand_bottom zero = refl
strand_bottom (suc i) = ap strand_of (let e : suc i + suc i + 1 ≡ suc (suc (i + i + 1)) = omega arith in e) ∙ ap suc (strand_bottom i)

pub strand_standing : (u : ℕ) → strand_of (standing u) ≡ strand_of u
strand_standing zero = refl
strand_standing (suc zero) = refl
strand_standing (suc (suc u)) = ap suc (strand_standing u)

-- a point is the top or the bottom of its strand
pub halves : (u : ℕ) → (u ≡ top (strand_of u)) ⊎ (u ≡ bottom (strand_of u))
halves zero = inl refl
halves (suc zero) = inr refl
halves (suc (suc u)) = ⊎_elim (λ e. inl (omega (arith, e))) (λ e. inr (omega (arith, e))) (halves u)

pub strands_told : (u v : ℕ) → (strand_of u == strand_of v) ≡ ((u == v) || (standing u == v))
strands_told zero zero = refl
strands_told zero (suc zero) = refl
strands_told zero (suc (suc v)) = grind (arith, nat_tests)
strands_told (suc zero) zero = refl
strands_told (suc zero) (suc zero) = refl
strands_told (suc zero) (suc (suc v)) = grind (arith, nat_tests)
strands_told (suc (suc u)) zero = grind (arith, nat_tests)
strands_told (suc (suc u)) (suc zero) = grind (arith, nat_tests)
strands_told (suc (suc u)) (suc (suc v)) = let ih = strands_told u v in plain (strand_of u) (strand_of v) u v (standing u) ih
  where
    plain : (a b u v s : ℕ) → (a == b) ≡ ((u == v) || (s == v)) → (suc a == suc b) ≡ ((suc (suc u) == suc (suc v)) || (suc (suc s) == suc (suc v)))
    plain a b u v s e = grind (arith, nat_tests, e)

pub member_strands : (i count u : ℕ) → is_member ◌==◌ (strand_points i count) u ≡ true → (i ≤ strand_of u) × (strand_of u < i + count)
member_strands i zero u m = absurd (grind (arith, m))
member_strands i (suc count) u m =
    ⊎_elim
    (λ t. (let e = ap strand_of (eqb-true u (top i) t) ∙ strand_top i in (omega (arith, e), omega (arith, e))))
    (λ r. ⊎_elim
    (λ t. (let e = ap strand_of (eqb-true u (bottom i) t) ∙ strand_bottom i in (omega (arith, e), omega (arith, e))))
    (λ s. (let ih = member_strands (i + 1) count u s in let a = ih.0 in let b = ih.1 in (omega (arith, a), omega (arith, b))))
    (or_cases (u == bottom i) (is_member ◌==◌ (strand_points (i + 1) count) u) r))
    (or_cases (u == top i) (is_member ◌==◌ (bottom i ∷ strand_points (i + 1) count) u) m)

pub strands_member : (i count u : ℕ) → i ≤ strand_of u → strand_of u < i + count → is_member ◌==◌ (strand_points i count) u ≡ true
strands_member i zero u l h = absurd (omega (arith, l, h))
strands_member i (suc count) u l h =
    let ih = λ (n : i + 1 ≤ strand_of u). strands_member (i + 1) count u n (omega (arith, h)) in
    let a = halves u in
    plain (is_member ◌==◌ (strand_points (i + 1) count) u) i (strand_of u) u l ih a
  where
    plain : (b : Bool) (i s u : ℕ) → i ≤ s → (i + 1 ≤ s → b ≡ true) → (u ≡ s + s) ⊎ (u ≡ s + s + 1) → ((u == i + i) || ((u == i + i + 1) || b)) ≡ true
    plain b i s u l h (inl e) = grind (arith, nat_tests, l, h, e)
    plain b i s u l h (inr e) = grind (arith, nat_tests, l, h, e)

-- STANDING STRANDS
pub standing_named : (count : ℕ) (base : ℕ → ℕ) → ((i j : ℕ) → i < count → j < count → base i ≡ base j → i ≡ j) → AreNamed (strand_points 0 count) (λ u. base (strand_of u)) standing
standing_named count base one = record {
  mating = standing-IsMating;
  closed = λ u m.
      let a = member_strands 0 count u m in let e = strand_standing u in let b = a.1 in
      strands_member 0 count (standing u) (omega arith) (omega (arith, b, e));
  tells = λ u v mu mv.
      let a = (member_strands 0 count u mu).1 in let b = (member_strands 0 count v mv).1 in
      eqb_from_iff (base (strand_of u)) (base (strand_of v)) (strand_of u) (strand_of v) (λ e. one (strand_of u) (strand_of v) (omega (arith, a)) (omega (arith, b)) e) (λ e. ap base e) ∙ strands_told u v;
}
