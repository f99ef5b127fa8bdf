-- The same algebra with the factors exchanged: what holds of products from the left holds from the right.
use Rattle.std.proofs.Common.{ℕ}
use Rattle.strand_algebra.proofs.Algebras.{Algebra}

abbrev pub opposite : {m : ℕ} → Algebra m → Algebra m
opposite alg = record alg {
  times = λ x y. alg.times y x;
  times_same = λ x y u v p q. alg.times_same u v x y q p;
  times_null = alg.null_times;
  null_times = alg.times_null;
  times_plus = λ x y z. alg.plus_times y z x;
  plus_times = λ x y z. alg.times_plus z x y;
  times_by = λ a x y. alg.by_times a y x;
  by_times = λ a x y. alg.times_by a y x;
  assoc = λ x y z. alg.back _ _ (alg.assoc z y x);
  unit_times = alg.times_unit;
  times_unit = alg.unit_times;
}
