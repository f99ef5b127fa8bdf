-- The projector is unchanged where top and bottom are exchanged, and by half a turn: both are turns of the algebra (Turns).
use Rattle.std.proofs.Common.{◌≡◌, ℕ, suc, ◌+◌, ◌-◌, ◌<◌, nat_lt, ⊎_elim, if◌then◌else◌, List, [], ◌∷◌, map, ℤ, pos, ◌+ℤ◌, ◌*ℤ◌, refl, sym, ap, ap₂, ◌∙◌, arith}
use Rattle.std.proofs.lemmas.Bool.{cases_Bool}
use Rattle.ring_identities.proofs.Congruences.{congruent_refl, congruent_eq, congruent_trans}
use Rattle.ring_identities.specs.Powers.{power}
use Rattle.ring_identities.specs.Residues.{Congruent}
use Rattle.root_quantum.specs.QuantumNumbers.{quantum_number}
use Rattle.strand_algebra.proofs.ClosedProjectors.{total-exchange}
use Rattle.strand_algebra.proofs.Exchanges.{IsExchange, mirror_exchange, half_exchange, turned_at, IsPairingOf-turned, product_turned, loops_turned}
use Rattle.strand_algebra.proofs.FormalSums.{Sum, total, formal_add, formal_scale, formal_multiply, AreAlike, formal_projector}
use Rattle.strand_algebra.proofs.HookRelations.{hooked_at, IsPairingOf-hooked, hooks, place, AreHooks-hooks}
use Rattle.strand_algebra.proofs.LabelProducts.{hooked_behind_point, hooked_behind}
use Rattle.strand_algebra.proofs.PairingAlgebra.{Element, pairings}
use Rattle.strand_algebra.proofs.ProjectorTower.{family, AreProjectors-family, at_last}
use Rattle.strand_algebra.proofs.Stacks.{not_below, below_is}
use Rattle.strand_algebra.proofs.StraightStrands.{same_list, straight_at, IsPairingOf-straight}
use Rattle.strand_algebra.proofs.Totals.{AreTerms, total_same, total-append, total-scale, within, total-multiply}
use Rattle.strand_algebra.proofs.Turns.{IsTurn, turned_projector}
use Rattle.strand_algebra.proofs.WenzlScalars.{ratio, growth}
use Rattle.strand_algebra.specs.StrandPairings.{straight, exchanged}
use Rattle.std.proofs.lemmas.Bool.Decides.{nat_tests}

abbrev pub turned_sum : ℕ → (ℕ → ℕ) → Sum → Sum
turned_sum n t x = map (λ term. (term.0, exchanged n t term.1)) x

pub total-turned : (n : ℕ) (t : ℕ → ℕ) (x : Sum) (w : List ℕ → ℤ) → total (turned_sum n t x) w ≡ total x (λ p. w (exchanged n t p))
total-turned n t [] w = refl
total-turned n t (s ∷ x) w = ap (λ k. s.0 *ℤ w (exchanged n t s.1) +ℤ k) (total-turned n t x w)

pub AreTerms-turned : (n : ℕ) (t : ℕ → ℕ) → IsExchange n t → (x : Sum) → AreTerms (n + n) x → AreTerms (n + n) (turned_sum n t x)
AreTerms-turned n t h [] a = tt
AreTerms-turned n t h (s ∷ x) a = (IsPairingOf-turned n t h s.1 a.0, AreTerms-turned n t h x a.1)

turned_multiply : (n : ℕ) (t : ℕ → ℕ) → IsExchange n t → (d : ℤ) (x y : Sum) → AreTerms (n + n) x → AreTerms (n + n) y → (w : List ℕ → ℤ) →
    total (turned_sum n t (formal_multiply n d x y)) w ≡ total (formal_multiply n d (turned_sum n t y) (turned_sum n t x)) w
turned_multiply n t h d x y a b w =
    total-turned n t (formal_multiply n d x y) w
    ∙ total-multiply n d x y (λ p. w (exchanged n t p))
    ∙ total-exchange x y (within n d (λ p. w (exchanged n t p)))
    ∙ total_same (n + n) y (λ q. total x (λ p. within n d (λ r. w (exchanged n t r)) p q)) (λ q. total (turned_sum n t x) (within n d w (exchanged n t q))) b
    (λ q hq. total_same (n + n) x (λ p. within n d (λ r. w (exchanged n t r)) p q) (λ p. within n d w (exchanged n t q) (exchanged n t p)) a
    (λ p hp. ap₂ (λ i r. power d i *ℤ w r) (sym (loops_turned n t h p q hp hq)) (sym (product_turned n t h p q hp hq)))
    ∙ sym (total-turned n t x (within n d w (exchanged n t q))))
    ∙ sym (total-turned n t y (λ q. total (turned_sum n t x) (within n d w q)))
    ∙ sym (total-multiply n d (turned_sum n t y) (turned_sum n t x) w)

module _ (n : ℕ) (t : ℕ → ℕ) (h : IsExchange n t) where
  straight_plain : (i : ℕ) → i < n + n → t (n + n - 1 - t i) ≡ n + n - 1 - i
  straight_plain i b =
      ⊎_elim
      (λ c. let lt = below_is n i c in ap t (sym (h.across i lt)) ∙ h.twice (n + n - 1 - i) (omega arith))
      (λ c. let ge = not_below n i c in
      let lt = h.down i ge b in
      let e = h.across (t i) lt in
      e ∙ ap (λ k. n + n - 1 - k) (h.twice i b))
      (cases_Bool (nat_lt i n))

  turned_straight : exchanged n t (straight n) ≡ straight n
  turned_straight =
      same_list (n + n) (exchanged n t (straight n)) (straight n) (IsPairingOf-turned n t h (straight n) (IsPairingOf-straight n)).length_is (IsPairingOf-straight n).length_is
      (λ i b. turned_at n t h (straight n) i b ∙ ap t (straight_at n (t i) (h.below i b)) ∙ straight_plain i b ∙ sym (straight_at n i b))

  turned_hook : (i j : ℕ) → i + 1 < n → j + 1 < n → ((k : ℕ) → k < n + n → t (hooked_behind_point n i (t k)) ≡ hooked_behind_point n j k) → exchanged n t (hooked_behind n i) ≡ hooked_behind n j
  turned_hook i j a b e =
      same_list (n + n) (exchanged n t (hooked_behind n i)) (hooked_behind n j) (IsPairingOf-turned n t h (hooked_behind n i) (IsPairingOf-hooked n i a)).length_is (IsPairingOf-hooked n j b).length_is
      (λ k c. turned_at n t h (hooked_behind n i) k c ∙ ap t (hooked_at n i (t k) (h.below k c)) ∙ e k c ∙ sym (hooked_at n j k c))

mirror_hook : (n i k : ℕ) → i + 1 < n → k < n + n → n + n - 1 - hooked_behind_point n i (n + n - 1 - k) ≡ hooked_behind_point n i k
mirror_hook n i k a b = grind (arith, nat_tests)

abbrev pub half : ℕ → ℕ → ℕ
half n i = if nat_lt i n then i + n else i - n

half_hook : (n i k : ℕ) → i + 1 < n → k < n + n → half n (hooked_behind_point n i (half n k)) ≡ hooked_behind_point n (n - 2 - i) k
half_hook n i k a b = grind (arith, nat_tests)

module _ (m n : ℕ) (d : ℤ) (inverse : ℕ → ℤ) (some : 0 < n) (few : n < 8) (inverses : (k : ℕ) → k < n → Congruent m (quantum_number d (suc k) *ℤ inverse (suc k)) (pos 1))
    (t : ℕ → ℕ) (h : IsExchange (n + 1) t) (to : ℕ → ℕ) (to_below : (i : ℕ) → i < n → to i < n) (to_twice : (i : ℕ) → i < n → to (to i) ≡ i)
    (to_hook : (i k : ℕ) → i < n → k < n + 1 + (n + 1) → t (hooked_behind_point (n + 1) i (t k)) ≡ hooked_behind_point (n + 1) (to i) k) where
  turn : Element (n + 1) → Element (n + 1)
  turn x = record { sum = turned_sum (n + 1) t x.sum; valid = AreTerms-turned (n + 1) t h x.sum x.valid }

  is_turn : IsTurn m (pairings m (n + 1) d) (hooks (n + 1) (omega arith)) n to turn
  unfolding turn
  is_turn = record {
    turn_same = λ x y e w. congruent_trans (congruent_eq (total-turned (n + 1) t x.sum w)) (congruent_trans (e (λ p. w (exchanged (n + 1) t p))) (congruent_eq (sym (total-turned (n + 1) t y.sum w))));
    turn_null = λ w. congruent_refl m (pos 0);
    turn_unit = λ w. congruent_eq (ap (λ p. pos 1 *ℤ w p +ℤ pos 0) (turned_straight (n + 1) t h));
    turn_plus = λ x y w.
        congruent_eq (total-turned (n + 1) t (formal_add x.sum y.sum) w ∙ total-append x.sum y.sum (λ p. w (exchanged (n + 1) t p))
        ∙ sym (total-append (turned_sum (n + 1) t x.sum) (turned_sum (n + 1) t y.sum) w ∙ ap₂ (λ a b. a +ℤ b) (total-turned (n + 1) t x.sum w) (total-turned (n + 1) t y.sum w)));
    turn_by = λ c x w.
        congruent_eq (total-turned (n + 1) t (formal_scale c x.sum) w ∙ total-scale c x.sum (λ p. w (exchanged (n + 1) t p))
        ∙ sym (total-scale c (turned_sum (n + 1) t x.sum) w ∙ ap (λ a. c *ℤ a) (total-turned (n + 1) t x.sum w)));
    turn_times = λ x y w. congruent_eq (turned_multiply (n + 1) t h d x.sum y.sum x.valid y.valid w);
    turned_below = to_below;
    turn_hook = λ i b w.
        let e : place (n + 1) i ≡ i = omega arith in let c = to_below i b in let f : place (n + 1) (to i) ≡ to i = omega (arith, c) in
        congruent_eq (ap (λ p. pos 1 *ℤ w p +ℤ pos 0) (ap (λ k. exchanged (n + 1) t (hooked_behind (n + 1) k)) e ∙ turned_hook (n + 1) t h i (to i) (omega arith) (omega (arith, c)) (λ k l. to_hook i k b l) ∙ ap (hooked_behind (n + 1)) (sym f)));
    twice = to_twice;
  }

  -- the projector is unchanged
  pub projector_turned : AreAlike m (turned_sum (n + 1) t (formal_projector d inverse n)) (formal_projector d inverse n)
  unfolding turn
  projector_turned =
      let whole = turned_projector m (pairings m (n + 1) d) d (n + 1 - 1) (hooks (n + 1) (omega arith)) (ratio d inverse) (growth d inverse) (family m (n + 1) d inverse (omega arith))
      (AreHooks-hooks m (n + 1) d (omega arith) (omega arith)) (AreProjectors-family m (n + 1) d inverse (omega arith) (λ k b. inverses k (omega arith))) n (omega arith) to turn is_turn in
      rw (at_last m n d inverse some few inverses) at whole

module _ (m n : ℕ) (d : ℤ) (inverse : ℕ → ℤ) (some : 0 < n) (few : n < 8) (inverses : (k : ℕ) → k < n → Congruent m (quantum_number d (suc k) *ℤ inverse (suc k)) (pos 1)) where
  -- TOP AND BOTTOM EXCHANGED
  pub projector_mirror : AreAlike m (turned_sum (n + 1) (λ i. n + 1 + (n + 1) - 1 - i) (formal_projector d inverse n)) (formal_projector d inverse n)
  projector_mirror =
      projector_turned m n d inverse some few inverses (λ i. n + 1 + (n + 1) - 1 - i) (mirror_exchange (n + 1)) (λ i. i) (λ i b. b) (λ i b. refl) (λ i k a b. mirror_hook (n + 1) i k (omega arith) b)

  -- HALF A TURN
  pub projector_half : AreAlike m (turned_sum (n + 1) (half (n + 1)) (formal_projector d inverse n)) (formal_projector d inverse n)
  projector_half =
      projector_turned m n d inverse some few inverses (half (n + 1)) (half_exchange (n + 1)) (λ i. n + 1 - 2 - i) (λ i b. omega arith) (λ i b. omega arith) (λ i k a b. half_hook (n + 1) i k (omega arith) b)
