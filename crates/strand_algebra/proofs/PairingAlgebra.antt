-- The formal sums of pairings are an algebra up to being alike: each law is an equation of totals.
use Rattle.std.proofs.Common.{◌≡◌, ℕ, ◌+◌, List, [], ◌∷◌, map, ℤ, pos, ◌+ℤ◌, ◌*ℤ◌, refl, sym, ap, ap₂, ◌∙◌}
use Rattle.ring_identities.proofs.PowerLemmas.{power-add}
use Rattle.ring_identities.proofs.Congruences.{congruent_refl, congruent_plus, congruent_times, congruent_eq, congruent_sym, congruent_trans}
use Rattle.ring_identities.proofs.Identities.{reads, by_ring}
use Rattle.ring_identities.specs.Powers.{power}
use Rattle.ring_identities.specs.Residues.{Congruent}
use Rattle.strand_algebra.proofs.Algebras.{Algebra}
use Rattle.strand_algebra.proofs.Associativity.{product_assoc, loops_assoc}
use Rattle.strand_algebra.proofs.FormalSums.{Sum, total, formal_add, formal_scale, formal_multiply, formal_identity, AreAlike}
use Rattle.strand_algebra.proofs.LabelProducts.{label_product, label_loops, IsPairingOf}
use Rattle.strand_algebra.proofs.Stacks.{IsPairingOf-product}
use Rattle.strand_algebra.proofs.StraightStrands.{IsPairingOf-straight, straight_product, straight_loops, product_straight, loops_straight}
use Rattle.strand_algebra.proofs.Totals.{AreTerms, AreTerms-append, total-append, total-scale, total-times, total-plus, total-nothing, total_same, total_congruent, within, total-multiply}
use Rattle.strand_algebra.specs.StrandPairings.{straight}

pub record Element (n : ℕ) : Type 0 where
  pub sum : Sum
  pub valid : AreTerms (n + n) sum

pub AreTerms-scale : (size : ℕ) (c : ℤ) (x : Sum) → AreTerms size x → AreTerms size (formal_scale c x)
AreTerms-scale size c [] a = tt
AreTerms-scale size c (t ∷ x) a = (a.0, AreTerms-scale size c x a.1)

AreTerms-row : (n : ℕ) (d a : ℤ) (p : List ℕ) (y : Sum) → IsPairingOf (n + n) p → AreTerms (n + n) y → AreTerms (n + n) (map (λ t. (a *ℤ (t.0 *ℤ power d (label_loops n p t.1)), label_product n p t.1)) y)
AreTerms-row n d a p [] h v = tt
AreTerms-row n d a p (t ∷ y) h v = (IsPairingOf-product n p t.1 h v.0, AreTerms-row n d a p y h v.1)

pub AreTerms-multiply : (n : ℕ) (d : ℤ) (x y : Sum) → AreTerms (n + n) x → AreTerms (n + n) y → AreTerms (n + n) (formal_multiply n d x y)
AreTerms-multiply n d [] y a b = tt
AreTerms-multiply n d (s ∷ x) y a b =
    AreTerms-append (n + n) (map (λ t. (s.0 *ℤ (t.0 *ℤ power d (label_loops n s.1 t.1)), label_product n s.1 t.1)) y) (formal_multiply n d x y) (AreTerms-row n d s.0 s.1 y a.0 b) (AreTerms-multiply n d x y a.1 b)

-- both ways to put three in a row
assoc_worth : (n : ℕ) (d : ℤ) (w : List ℕ → ℤ) (p q r : List ℕ) → IsPairingOf (n + n) p → IsPairingOf (n + n) q → IsPairingOf (n + n) r →
    power d (label_loops n p q) *ℤ within n d w (label_product n p q) r ≡ power d (label_loops n q r) *ℤ within n d w p (label_product n q r)
assoc_worth n d w p q r hp hq hr =
    by_ring (power d (label_loops n p q) ∷ power d (label_loops n (label_product n p q) r) ∷ w (label_product n (label_product n p q) r) ∷ []) (search reads depth 30) (search reads depth 30) refl
    ∙ ap₂ (λ a b. a *ℤ w b) (sym (power-add d (label_loops n p q) (label_loops n (label_product n p q) r)) ∙ ap (power d) (loops_assoc n p q r hp hq hr) ∙ power-add d (label_loops n q r) (label_loops n p (label_product n q r))) (product_assoc n p q r hp hq hr)
    ∙ by_ring {v = power d (label_loops n q r) *ℤ within n d w p (label_product n q r)} (power d (label_loops n q r) ∷ power d (label_loops n p (label_product n q r)) ∷ w (label_product n p (label_product n q r)) ∷ []) (search reads depth 30) (search reads depth 30) refl

module _ (m n : ℕ) (d : ℤ) where
  pub times_alike : (x y u v : Sum) → AreAlike m x y → AreAlike m u v → AreAlike m (formal_multiply n d x u) (formal_multiply n d y v)
  times_alike x y u v h g w =
      congruent_trans (congruent_eq (total-multiply n d x u w))
      (congruent_trans (h (λ p. total u (within n d w p)))
      (congruent_trans (total_congruent m y (λ p. total u (within n d w p)) (λ p. total v (within n d w p)) (λ p. g (within n d w p)))
      (congruent_eq (sym (total-multiply n d y v w)))))

  pub assoc_alike : (x y z : Sum) → AreTerms (n + n) x → AreTerms (n + n) y → AreTerms (n + n) z → AreAlike m (formal_multiply n d (formal_multiply n d x y) z) (formal_multiply n d x (formal_multiply n d y z))
  assoc_alike x y z a b c w =
      congruent_eq
      (total-multiply n d (formal_multiply n d x y) z w
      ∙ total-multiply n d x y (λ s. total z (within n d w s))
      ∙ total_same (n + n) x (λ p. total y (λ q. power d (label_loops n p q) *ℤ total z (within n d w (label_product n p q)))) (λ p. total (formal_multiply n d y z) (within n d w p)) a (λ p hp.
      total_same (n + n) y (λ q. power d (label_loops n p q) *ℤ total z (within n d w (label_product n p q))) (λ q. total z (λ r. power d (label_loops n q r) *ℤ within n d w p (label_product n q r))) b (λ q hq.
      sym (total-times (power d (label_loops n p q)) z (within n d w (label_product n p q)))
      ∙ total_same (n + n) z (λ r. power d (label_loops n p q) *ℤ within n d w (label_product n p q) r) (λ r. power d (label_loops n q r) *ℤ within n d w p (label_product n q r)) c (λ r hr. assoc_worth n d w p q r hp hq hr))
      ∙ sym (total-multiply n d y z (within n d w p)))
      ∙ sym (total-multiply n d x (formal_multiply n d y z) w))

  pub unit_alike : (x : Sum) → AreTerms (n + n) x → AreAlike m (formal_multiply n d (formal_identity n) x) x
  unfolding power
  unit_alike x a w =
      congruent_eq
      (total-multiply n d (formal_identity n) x w
      ∙ by_ring (total x (within n d w (straight n)) ∷ []) (search reads depth 30) (search reads depth 30) refl
      ∙ total_same (n + n) x (within n d w (straight n)) w a
      (λ q hq. ap₂ (λ i s. power d i *ℤ w s) (straight_loops n q hq) (straight_product n q hq) ∙ by_ring (w q ∷ []) (search reads depth 30) (search reads depth 30) refl))

  pub alike_unit : (x : Sum) → AreTerms (n + n) x → AreAlike m (formal_multiply n d x (formal_identity n)) x
  unfolding power
  alike_unit x a w =
      congruent_eq
      (total-multiply n d x (formal_identity n) w
      ∙ total_same (n + n) x (λ p. total (formal_identity n) (within n d w p)) w a
      (λ p hp. by_ring (within n d w p (straight n) ∷ []) (search reads depth 30) (search reads depth 30) refl
      ∙ ap₂ (λ i s. power d i *ℤ w s) (loops_straight n p hp) (product_straight n p hp) ∙ by_ring (w p ∷ []) (search reads depth 30) (search reads depth 30) refl))

  -- ---- the laws of sums, multiples and products
  pub plus_same : (x y u v : Sum) → AreAlike m x y → AreAlike m u v → AreAlike m (formal_add x u) (formal_add y v)
  plus_same x y u v h g w =
      congruent_trans (congruent_eq (total-append x u w)) (congruent_trans (congruent_plus (h w) (g w)) (congruent_eq (sym (total-append y v w))))

  pub by_same : (a b : ℤ) (x y : Sum) → Congruent m a b → AreAlike m x y → AreAlike m (formal_scale a x) (formal_scale b y)
  by_same a b x y h g w =
      congruent_trans (congruent_eq (total-scale a x w)) (congruent_trans (congruent_times h (g w)) (congruent_eq (sym (total-scale b y w))))

  pub plus_assoc : (x y z : Sum) → AreAlike m (formal_add (formal_add x y) z) (formal_add x (formal_add y z))
  plus_assoc x y z w =
      congruent_eq
      (total-append (formal_add x y) z w ∙ ap (λ s. s +ℤ total z w) (total-append x y w)
      ∙ by_ring (total x w ∷ total y w ∷ total z w ∷ []) (search reads depth 30) (search reads depth 30) refl
      ∙ sym (total-append x (formal_add y z) w ∙ ap (λ s. total x w +ℤ s) (total-append y z w)))

  pub plus_null : (x : Sum) → AreAlike m (formal_add x []) x
  plus_null x w = congruent_eq (total-append x [] w ∙ by_ring (total x w ∷ []) (search reads depth 30) (search reads depth 30) refl)

  pub none_of : (x : Sum) → AreAlike m (formal_scale (pos 0) x) []
  none_of x w = congruent_eq (total-scale (pos 0) x w ∙ by_ring (total x w ∷ []) (search reads depth 30) (search reads depth 30) refl)

  pub one_of : (x : Sum) → AreAlike m (formal_scale (pos 1) x) x
  one_of x w = congruent_eq (total-scale (pos 1) x w ∙ by_ring (total x w ∷ []) (search reads depth 30) (search reads depth 30) refl)

  pub by_sum : (a b : ℤ) (x : Sum) → AreAlike m (formal_add (formal_scale a x) (formal_scale b x)) (formal_scale (a +ℤ b) x)
  by_sum a b x w =
      congruent_eq
      (total-append (formal_scale a x) (formal_scale b x) w ∙ ap₂ (λ s t. s +ℤ t) (total-scale a x w) (total-scale b x w)
      ∙ by_ring (a ∷ b ∷ total x w ∷ []) (search reads depth 30) (search reads depth 30) refl ∙ sym (total-scale (a +ℤ b) x w))

  pub by_product : (a b : ℤ) (x : Sum) → AreAlike m (formal_scale a (formal_scale b x)) (formal_scale (a *ℤ b) x)
  by_product a b x w =
      congruent_eq
      (total-scale a (formal_scale b x) w ∙ ap (λ s. a *ℤ s) (total-scale b x w)
      ∙ by_ring (a ∷ b ∷ total x w ∷ []) (search reads depth 30) (search reads depth 30) refl ∙ sym (total-scale (a *ℤ b) x w))

  pub times_null : (x : Sum) → AreAlike m (formal_multiply n d x []) []
  times_null x w = congruent_eq (total-multiply n d x [] w ∙ total-nothing x)

  pub times_plus : (x y z : Sum) → AreTerms (n + n) x → AreAlike m (formal_multiply n d x (formal_add y z)) (formal_add (formal_multiply n d x y) (formal_multiply n d x z))
  times_plus x y z a w =
      congruent_eq
      (total-multiply n d x (formal_add y z) w
      ∙ total_same (n + n) x (λ p. total (formal_add y z) (within n d w p)) (λ p. total y (within n d w p) +ℤ total z (within n d w p)) a (λ p h. total-append y z (within n d w p))
      ∙ total-plus x (λ p. total y (within n d w p)) (λ p. total z (within n d w p))
      ∙ sym (total-append (formal_multiply n d x y) (formal_multiply n d x z) w ∙ ap₂ (λ s t. s +ℤ t) (total-multiply n d x y w) (total-multiply n d x z w)))

  pub plus_times : (x y z : Sum) → AreAlike m (formal_multiply n d (formal_add x y) z) (formal_add (formal_multiply n d x z) (formal_multiply n d y z))
  plus_times x y z w =
      congruent_eq
      (total-multiply n d (formal_add x y) z w ∙ total-append x y (λ p. total z (within n d w p))
      ∙ sym (total-append (formal_multiply n d x z) (formal_multiply n d y z) w ∙ ap₂ (λ s t. s +ℤ t) (total-multiply n d x z w) (total-multiply n d y z w)))

  pub times_by : (a : ℤ) (x y : Sum) → AreTerms (n + n) x → AreAlike m (formal_multiply n d x (formal_scale a y)) (formal_scale a (formal_multiply n d x y))
  times_by a x y v w =
      congruent_eq
      (total-multiply n d x (formal_scale a y) w
      ∙ total_same (n + n) x (λ p. total (formal_scale a y) (within n d w p)) (λ p. a *ℤ total y (within n d w p)) v (λ p h. total-scale a y (within n d w p))
      ∙ total-times a x (λ p. total y (within n d w p))
      ∙ sym (total-scale a (formal_multiply n d x y) w ∙ ap (λ s. a *ℤ s) (total-multiply n d x y w)))

  pub by_times : (a : ℤ) (x y : Sum) → AreAlike m (formal_multiply n d (formal_scale a x) y) (formal_scale a (formal_multiply n d x y))
  by_times a x y w =
      congruent_eq
      (total-multiply n d (formal_scale a x) y w ∙ total-scale a x (λ p. total y (within n d w p))
      ∙ sym (total-scale a (formal_multiply n d x y) w ∙ ap (λ s. a *ℤ s) (total-multiply n d x y w)))

  -- THE ALGEBRA OF PAIRINGS
  abbrev pub pairings : Algebra m
  pairings = record {
    Element = Element n;
    Same = λ x y. AreAlike m x.sum y.sum;
    null = record { sum = []; valid = tt };
    unit = record { sum = formal_identity n; valid = (IsPairingOf-straight n, tt) };
    plus = λ x y. record { sum = formal_add x.sum y.sum; valid = AreTerms-append (n + n) x.sum y.sum x.valid y.valid };
    by = λ c x. record { sum = formal_scale c x.sum; valid = AreTerms-scale (n + n) c x.sum x.valid };
    times = λ x y. record { sum = formal_multiply n d x.sum y.sum; valid = AreTerms-multiply n d x.sum y.sum x.valid y.valid };
    same = λ x w. congruent_refl m (total x.sum w);
    back = λ x y h w. congruent_sym (h w);
    on = λ x y z h g w. congruent_trans (h w) (g w);
    plus_same = λ x y u v h g. plus_same x.sum y.sum u.sum v.sum h g;
    by_same = λ a b x y h g. by_same a b x.sum y.sum h g;
    times_same = λ x y u v h g. times_alike x.sum y.sum u.sum v.sum h g;
    plus_assoc = λ x y z. plus_assoc x.sum y.sum z.sum;
    plus_null = λ x. plus_null x.sum;
    by_null = λ a w. congruent_refl m (pos 0);
    none_of = λ x. none_of x.sum;
    one_of = λ x. one_of x.sum;
    by_sum = λ a b x. by_sum a b x.sum;
    by_product = λ a b x. by_product a b x.sum;
    times_null = λ x. times_null x.sum;
    null_times = λ x w. congruent_refl m (pos 0);
    times_plus = λ x y z. times_plus x.sum y.sum z.sum x.valid;
    plus_times = λ x y z. plus_times x.sum y.sum z.sum;
    times_by = λ a x y. times_by a x.sum y.sum x.valid;
    by_times = λ a x y. by_times a x.sum y.sum;
    assoc = λ x y z. assoc_alike x.sum y.sum z.sum x.valid y.valid z.valid;
    unit_times = λ x. unit_alike x.sum x.valid;
    times_unit = λ x. alike_unit x.sum x.valid;
  }
