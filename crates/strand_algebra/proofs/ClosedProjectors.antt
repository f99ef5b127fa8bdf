-- The closure of the projector on n + 1 strands is Delta (n + 1): closing passes through the recursion by the trace, by one
-- strand more, and by the hook that closes a strand.
use Rattle.std.proofs.Common.{◌≡◌, ℕ, zero, suc, ◌+◌, ◌<◌, List, [], ◌∷◌, ℤ, pos, ◌+ℤ◌, ◌*ℤ◌, neg_ℤ, refl, sym, ap, ap₂, ◌∙◌, arith}
use Rattle.ring_identities.proofs.PowerLemmas.{power-add}
use Rattle.ring_identities.proofs.Congruences.{congruent_refl, congruent_eq, congruent_trans, congruent_sym, congruent_plus, congruent_times}
use Rattle.ring_identities.proofs.Identities.{reads, by_ring}
use Rattle.ring_identities.specs.Powers.{power}
use Rattle.ring_identities.specs.Residues.{Congruent}
use Rattle.root_quantum.specs.QuantumNumbers.{quantum_number}
use Rattle.strand_algebra.proofs.ClosedStacks.{trace}
use Rattle.strand_algebra.proofs.FormalSums.{Sum, total, formal_scale, formal_multiply, formal_close, formal_identity, formal_hook, formal_beside, AreAlike, formal_projector}
use Rattle.strand_algebra.proofs.HookRelations.{IsPairingOf-hooked}
use Rattle.strand_algebra.proofs.HookedClosures.{hook_closed}
use Rattle.strand_algebra.proofs.LabelProducts.{label_product, label_loops, label_closed_loops, hooked_behind}
use Rattle.strand_algebra.proofs.PairingAlgebra.{AreTerms-multiply, times_alike, assoc_alike, unit_alike}
use Rattle.strand_algebra.proofs.ProjectorTower.{total-beside, AreTerms-beside, beside_multiply, AreTerms-projector, projector_square}
use Rattle.strand_algebra.proofs.Totals.{AreTerms, total_same, total-times, total-plus, total-nothing, total-append, total-scale, within, total-multiply}
use Rattle.strand_algebra.proofs.WenzlScalars.{ratio, closures}
use Rattle.strand_algebra.proofs.WiderClosures.{closed_widened}
use Rattle.strand_algebra.specs.StrandPairings.{widened}

pub total-exchange : (x y : Sum) (w : List ℕ → List ℕ → ℤ) → total x (λ p. total y (w p)) ≡ total y (λ q. total x (λ p. w p q))
total-exchange [] y w = sym (total-nothing y)
total-exchange (t ∷ x) y w =
    ap₂ (λ a b. a +ℤ b) (sym (total-times t.0 y (w t.1))) (total-exchange x y w)
    ∙ sym (total-plus y (λ q. t.0 *ℤ w t.1 q) (λ q. total x (λ p. w p q)))

pub close_beside : (n : ℕ) (d : ℤ) (x : Sum) → AreTerms (n + n) x → formal_close (n + 1) d (formal_beside n x) ≡ d *ℤ formal_close n d x
unfolding power
close_beside n d x a =
    total-beside n x (λ p. power d (label_closed_loops (n + 1) p))
    ∙ total_same (n + n) x (λ p. power d (label_closed_loops (n + 1) (widened n p))) (λ p. d *ℤ power d (label_closed_loops n p)) a
    (λ p hp. ap (power d) (closed_widened n p hp) ∙ (let z : 1 + label_closed_loops n p ≡ suc (label_closed_loops n p) = omega arith in ap (power d) z))
    ∙ total-times d x (λ p. power d (label_closed_loops n p))

pub close_trace : (n : ℕ) (d : ℤ) (x y : Sum) → AreTerms (n + n) x → AreTerms (n + n) y → formal_close n d (formal_multiply n d x y) ≡ formal_close n d (formal_multiply n d y x)
close_trace n d x y a b =
    let w : List ℕ → ℤ = λ p. power d (label_closed_loops n p) in
    total-multiply n d x y w
    ∙ total-exchange x y (within n d w)
    ∙ total_same (n + n) y (λ q. total x (λ p. within n d w p q)) (λ q. total x (within n d w q)) b
    (λ q hq. total_same (n + n) x (λ p. within n d w p q) (within n d w q) a
    (λ p hp. sym (power-add d (label_loops n p q) (label_closed_loops n (label_product n p q))) ∙ ap (power d) (trace n p q hp hq) ∙ power-add d (label_loops n q p) (label_closed_loops n (label_product n q p))))
    ∙ sym (total-multiply n d y x w)

pub close_hook : (n : ℕ) (d : ℤ) (x : Sum) → AreTerms (n + 1 + (n + 1)) x → formal_close (n + 1 + 1) d (formal_multiply (n + 1 + 1) d (formal_beside (n + 1) x) (formal_hook (n + 1 + 1) n)) ≡ formal_close (n + 1) d x
close_hook n d x a =
    let w : List ℕ → ℤ = λ p. power d (label_closed_loops (n + 1 + 1) p) in
    total-multiply (n + 1 + 1) d (formal_beside (n + 1) x) (formal_hook (n + 1 + 1) n) w
    ∙ total-beside (n + 1) x (λ p. total (formal_hook (n + 1 + 1) n) (within (n + 1 + 1) d w p))
    ∙ total_same (n + 1 + (n + 1)) x (λ p. total (formal_hook (n + 1 + 1) n) (within (n + 1 + 1) d w (widened (n + 1) p))) (λ p. power d (label_closed_loops (n + 1) p)) a
    (λ p hp.
    by_ring (within (n + 1 + 1) d w (widened (n + 1) p) (hooked_behind (n + 1 + 1) n) ∷ []) (search reads depth 30) (search reads depth 30) refl
    ∙ sym (power-add d (label_loops (n + 1 + 1) (widened (n + 1) p) (hooked_behind (n + 1 + 1) n)) (label_closed_loops (n + 1 + 1) (label_product (n + 1 + 1) (widened (n + 1) p) (hooked_behind (n + 1 + 1) n))))
    ∙ ap (power d) (hook_closed n p hp))

close_first : (d : ℤ) → formal_close 1 d (formal_identity 1) ≡ d
unfolding power
close_first d = by_ring (d ∷ []) (search reads depth 30) (search reads depth 30) refl

module _ (m : ℕ) (d : ℤ) (inverse : ℕ → ℤ) where
  pub own_square : (n : ℕ) → n < 8 → ((k : ℕ) → k < n → Congruent m (quantum_number d (suc k) *ℤ inverse (suc k)) (pos 1)) → AreAlike m (formal_multiply (n + 1) d (formal_projector d inverse n) (formal_projector d inverse n)) (formal_projector d inverse n)
  own_square zero b h = unit_alike m 1 d (formal_identity 1) (AreTerms-projector d inverse zero)
  own_square (suc n) b h = projector_square m (suc n) d inverse (omega arith) b h

  close_next : (n : ℕ) → n < 8 → ((k : ℕ) → k < n → Congruent m (quantum_number d (suc k) *ℤ inverse (suc k)) (pos 1)) →
      Congruent m (formal_close (n + 1 + 1) d (formal_projector d inverse (suc n))) (d *ℤ formal_close (n + 1) d (formal_projector d inverse n) +ℤ neg_ℤ (ratio d inverse n) *ℤ formal_close (n + 1) d (formal_projector d inverse n))
  close_next n b h =
      let s = n + 1 + 1 in
      let f = formal_projector d inverse n in
      let F = formal_beside (n + 1) f in
      let e = formal_hook s n in
      let c = neg_ℤ (ratio d inverse n) in
      let w : List ℕ → ℤ = λ p. power d (label_closed_loops s p) in
      let vf = AreTerms-projector d inverse n in
      let vF = AreTerms-beside (n + 1) f vf in
      let ve : AreTerms (s + s) e = (IsPairingOf-hooked s n (omega arith), tt) in
      let middle : Congruent m (formal_close s d (formal_multiply s d (formal_multiply s d F e) F)) (formal_close (n + 1) d f) =
      congruent_trans (congruent_eq (close_trace s d (formal_multiply s d F e) F (AreTerms-multiply s d F e vF ve) vF))
      (congruent_trans (congruent_sym (assoc_alike m s d F F e vF vF ve w))
      (congruent_trans (times_alike m s d (formal_multiply s d F F) (formal_beside (n + 1) (formal_multiply (n + 1) d f f)) e e (λ v. congruent_sym (beside_multiply m (n + 1) d f f vf vf v)) (λ v. congruent_refl m (total e v)) w)
      (congruent_trans (congruent_eq (close_hook n d (formal_multiply (n + 1) d f f) (AreTerms-multiply (n + 1) d f f vf vf)))
      (own_square n b h (λ p. power d (label_closed_loops (n + 1) p)))))) in
      congruent_trans (congruent_eq (total-append F (formal_scale c (formal_multiply s d (formal_multiply s d F e) F)) w))
      (congruent_plus (congruent_eq (close_beside (n + 1) d f vf))
      (congruent_trans (congruent_eq (total-scale c (formal_multiply s d (formal_multiply s d F e) F) w)) (congruent_times (congruent_refl m c) middle)))

  -- THE CLOSURE OF THE PROJECTOR
  pub projector_closed : (n : ℕ) → n < 8 → ((k : ℕ) → k < n → Congruent m (quantum_number d (suc k) *ℤ inverse (suc k)) (pos 1)) → Congruent m (formal_close (n + 1) d (formal_projector d inverse n)) (quantum_number d (suc n))
  projector_closed n b h =
      closures m d inverse n h (λ k. formal_close (k + 1) d (formal_projector d inverse k)) (congruent_eq (close_first d))
      (λ k l. let z : suc k + 1 ≡ k + 1 + 1 = omega arith in rw z (close_next k (omega arith) (λ i a. h i (omega arith)))) n (omega arith)
