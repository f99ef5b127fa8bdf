-- Algebras over the integers modulo m, with hooks, up to a congruence: what the induction along Wenzl's recursion needs, and no
-- pairing. Formal sums of pairings are one (PairingAlgebra).
--
--     Algebra m            sums, multiples and products with their laws, up to Same
--     AreHooks             elements with the relations of Temperley and Lieb at the loop value d
--     AreProjectors        elements made by Wenzl's recursion, with the ratios of the Delta_n
use Rattle.std.specs.Prelude.{ℕ, zero, suc, ◌<◌, ℤ, pos, ◌+ℤ◌, ◌*ℤ◌, neg_ℤ}
use Rattle.ring_identities.specs.Residues.{Congruent}

-- Sums, multiples and products that respect Same and have the laws of an algebra.
pub record Algebra (m : ℕ) : Type 1 where
  pub Element : Type 0
  pub Same : Element → Element → Type 0
  pub null : Element
  pub unit : Element
  pub plus : Element → Element → Element
  pub by : ℤ → Element → Element
  pub times : Element → Element → Element
  pub same : (x : Element) → Same x x
  pub back : (x y : Element) → Same x y → Same y x
  pub on : (x y z : Element) → Same x y → Same y z → Same x z
  pub plus_same : (x y u v : Element) → Same x y → Same u v → Same (plus x u) (plus y v)
  pub by_same : (a b : ℤ) (x y : Element) → Congruent m a b → Same x y → Same (by a x) (by b y)
  pub times_same : (x y u v : Element) → Same x y → Same u v → Same (times x u) (times y v)
  pub plus_assoc : (x y z : Element) → Same (plus (plus x y) z) (plus x (plus y z))
  pub plus_null : (x : Element) → Same (plus x null) x
  pub by_null : (a : ℤ) → Same (by a null) null
  pub none_of : (x : Element) → Same (by (pos 0) x) null
  pub one_of : (x : Element) → Same (by (pos 1) x) x
  pub by_sum : (a b : ℤ) (x : Element) → Same (plus (by a x) (by b x)) (by (a +ℤ b) x)
  pub by_product : (a b : ℤ) (x : Element) → Same (by a (by b x)) (by (a *ℤ b) x)
  pub times_null : (x : Element) → Same (times x null) null
  pub null_times : (x : Element) → Same (times null x) null
  pub times_plus : (x y z : Element) → Same (times x (plus y z)) (plus (times x y) (times x z))
  pub plus_times : (x y z : Element) → Same (times (plus x y) z) (plus (times x z) (times y z))
  pub times_by : (a : ℤ) (x y : Element) → Same (times x (by a y)) (by a (times x y))
  pub by_times : (a : ℤ) (x y : Element) → Same (times (by a x) y) (by a (times x y))
  pub assoc : (x y z : Element) → Same (times (times x y) z) (times x (times y z))
  pub unit_times : (x : Element) → Same (times unit x) x
  pub times_unit : (x : Element) → Same (times x unit) x

-- Hooks e 0 .. e (top - 1) with the relations of Temperley and Lieb at the loop value d.
pub record AreHooks (m : ℕ) (alg : Algebra m) (d : ℤ) (top : ℕ) (e : ℕ → alg.Element) : Type 0 where
  pub square : (i : ℕ) → i < top → alg.Same (alg.times (e i) (e i)) (alg.by d (e i))
  pub up : (i : ℕ) → suc i < top → alg.Same (alg.times (alg.times (e i) (e (suc i))) (e i)) (e i)
  pub down : (i : ℕ) → suc i < top → alg.Same (alg.times (alg.times (e (suc i)) (e i)) (e (suc i))) (e (suc i))
  pub apart : (i j : ℕ) → suc i < j → j < top → alg.Same (alg.times (e j) (e i)) (alg.times (e i) (e j))

-- The elements that Wenzl's recursion gives: f n is the projector on n + 1 strands. c n is Delta n / Delta (n + 1), and t n is Delta (n + 1) / Delta n.
pub record AreProjectors (m : ℕ) (alg : Algebra m) (d : ℤ) (top : ℕ) (e : ℕ → alg.Element) (c t : ℕ → ℤ) (f : ℕ → alg.Element) : Type 0 where
  pub first : alg.Same (f zero) alg.unit
  pub next : (n : ℕ) → n < top → alg.Same (f (suc n)) (alg.plus (f n) (alg.by (neg_ℤ (c n)) (alg.times (alg.times (f n) (e n)) (f n))))
  pub t_first : Congruent m (t zero) d
  pub t_next : (n : ℕ) → n < top → Congruent m (t (suc n)) (d +ℤ neg_ℤ (c n))
  pub inverse : (n : ℕ) → n < top → Congruent m (c n *ℤ t n) (pos 1)
