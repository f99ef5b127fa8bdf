-- Congruences: they pass through sums, products and negatives, and are equations of residues.
use Rattle.std.proofs.Common.{◌≡◌, ℕ, suc, ◌+◌, ◌-◌, ◌*◌, ◌/◌, ◌%◌, ◌<◌, ◌≤◌, ℤ, pos, negsuc, ◌+ℤ◌, ◌-ℤ◌, ◌*ℤ◌, neg_ℤ, [], ◌∷◌, refl, sym, ap, ap₂, ◌∙◌, arith, mod-lt, mod-eq_of_lt}
use Rattle.std.proofs.lemmas.Int.{ints}
use Rattle.std.proofs.Math.Nat.{mod-add-div', add-mul-mod_self_right}
use Rattle.ring_identities.specs.Residues.{residue, Congruent}
use Rattle.ring_identities.proofs.Polynomials.{var, plus, times, negative, identity}

pub congruent_refl : (m : ℕ) (x : ℤ) → Congruent m x x
congruent_refl m x = record { factor = pos 0; is = omega (arith, ints) }

pub congruent_eq : {m : ℕ} {x y : ℤ} → x ≡ y → Congruent m x y
congruent_eq {m} {x} {y} e = record { factor = pos 0; is = omega (arith, ints) }

pub congruent_sym : {m : ℕ} {x y : ℤ} → Congruent m x y → Congruent m y x
congruent_sym {m} {x} {y} h =
    record {
      factor = neg_ℤ h.factor;
      is = identity (var 0) (plus (plus (var 0) (times (var 1) (var 2))) (times (negative (var 1)) (var 2))) (y ∷ h.factor ∷ pos m ∷ []) refl ∙ ap (λ k. k +ℤ neg_ℤ h.factor *ℤ pos m) (sym h.is);
    }

pub congruent_trans : {m : ℕ} {x y z : ℤ} → Congruent m x y → Congruent m y z → Congruent m x z
congruent_trans {m} {x} {y} {z} h g =
    record {
      factor = g.factor +ℤ h.factor;
      is = h.is ∙ ap (λ k. k +ℤ h.factor *ℤ pos m) g.is ∙ identity (plus (plus (var 0) (times (var 1) (var 3))) (times (var 2) (var 3))) (plus (var 0) (times (plus (var 1) (var 2)) (var 3))) (z ∷ g.factor ∷ h.factor ∷ pos m ∷ []) refl;
    }

pub congruent_plus : {m : ℕ} {x y u v : ℤ} → Congruent m x y → Congruent m u v → Congruent m (x +ℤ u) (y +ℤ v)
congruent_plus {m} {x} {y} {u} {v} h g =
    record {
      factor = h.factor +ℤ g.factor;
      is = ap₂ (λ k l. k +ℤ l) h.is g.is ∙ identity (plus (plus (var 0) (times (var 2) (var 4))) (plus (var 1) (times (var 3) (var 4)))) (plus (plus (var 0) (var 1)) (times (plus (var 2) (var 3)) (var 4))) (y ∷ v ∷ h.factor ∷ g.factor ∷ pos m ∷ []) refl;
    }

pub congruent_times : {m : ℕ} {x y u v : ℤ} → Congruent m x y → Congruent m u v → Congruent m (x *ℤ u) (y *ℤ v)
congruent_times {m} {x} {y} {u} {v} h g =
    record {
      factor = h.factor *ℤ v +ℤ y *ℤ g.factor +ℤ h.factor *ℤ g.factor *ℤ pos m;
      is =
          ap₂ (λ k l. k *ℤ l) h.is g.is
          ∙ identity (times (plus (var 0) (times (var 2) (var 4))) (plus (var 1) (times (var 3) (var 4)))) (plus (times (var 0) (var 1)) (times (plus (plus (times (var 2) (var 1)) (times (var 0) (var 3))) (times (times (var 2) (var 3)) (var 4))) (var 4))) (y ∷ v ∷ h.factor ∷ g.factor ∷ pos m ∷ []) refl;
    }

pub congruent_negative : {m : ℕ} {x y : ℤ} → Congruent m x y → Congruent m (neg_ℤ x) (neg_ℤ y)
congruent_negative {m} {x} {y} h =
    record {
      factor = neg_ℤ h.factor;
      is = ap neg_ℤ h.is ∙ identity (negative (plus (var 0) (times (var 1) (var 2)))) (plus (negative (var 0)) (times (negative (var 1)) (var 2))) (y ∷ h.factor ∷ pos m ∷ []) refl;
    }

pub congruent_minus : {m : ℕ} {x y u v : ℤ} → Congruent m x y → Congruent m u v → Congruent m (x -ℤ u) (y -ℤ v)
congruent_minus h g = congruent_plus h (congruent_negative g)

-- ---- residues
pub residue_below : (m : ℕ) (z : ℤ) → 0 < m → residue m z < m
unfolding residue
residue_below m (pos n) h = mod-lt n h
residue_below m (negsuc n) h = omega arith

pub residue_congruent : (m : ℕ) (z : ℤ) → 0 < m → Congruent m z (pos (residue m z))
unfolding residue
residue_congruent m (pos n) h = record { factor = pos (n / m); is = ap pos (sym (mod-add-div' n m)) }
residue_congruent m (negsuc n) h = record { factor = negsuc (n / m); is = omega (arith, ints, mod-add-div' n m, mod-lt n h) }

small_apart : (m r s : ℕ) (k : ℤ) → r < m → s < m → pos r ≡ pos s +ℤ k *ℤ pos m → r ≡ s
small_apart m r s (pos k) h g e =
    let same : r ≡ s + k * m = omega (arith, ints) in
    sym (mod-eq_of_lt h) ∙ ap (λ n. n % m) same ∙ add-mul-mod_self_right s k m ∙ mod-eq_of_lt g
small_apart m r s (negsuc k) h g e =
    let same : s ≡ r + suc k * m = omega (arith, ints) in
    sym (sym (mod-eq_of_lt g) ∙ ap (λ n. n % m) same ∙ add-mul-mod_self_right r (suc k) m ∙ mod-eq_of_lt h)

pub same_residue : {m : ℕ} {x y : ℤ} → 0 < m → Congruent m x y → residue m x ≡ residue m y
same_residue {m} {x} {y} h c =
    let whole = congruent_trans (congruent_sym (residue_congruent m x h)) (congruent_trans c (residue_congruent m y h)) in
    small_apart m (residue m x) (residue m y) whole.factor (residue_below m x h) (residue_below m y h) whole.is

pub congruent_of_residues : {m : ℕ} (x y : ℤ) → 0 < m → residue m x ≡ residue m y → Congruent m x y
congruent_of_residues {m} x y h e = congruent_trans (residue_congruent m x h) (congruent_trans (congruent_eq (ap pos e)) (congruent_sym (residue_congruent m y h)))

pub residue_small : (m n : ℕ) → n < m → residue m (pos n) ≡ n
unfolding residue
residue_small m n h = mod-eq_of_lt h

-- what a call ensures of its result, as a congruence
pub from_residue : (m n : ℕ) (z : ℤ) → 0 < m → n ≡ residue m z → Congruent m (pos n) z
from_residue m n z h e = congruent_trans (congruent_eq (ap pos e)) (congruent_sym (residue_congruent m z h))

-- ---- the natural numbers that code computes
pub natural_mod : {m x : ℕ} {u : ℤ} → 0 < m → Congruent m (pos x) u → Congruent m (pos (x % m)) u
unfolding residue
natural_mod {m} {x} h c = congruent_trans (congruent_sym (residue_congruent m (pos x) h)) c

pub natural_opposite : {m x : ℕ} {u : ℤ} → x ≤ m → Congruent m (pos x) u → Congruent m (pos (m - x)) (neg_ℤ u)
natural_opposite {m} {x} {u} b c = congruent_trans (record { factor = pos 1; is = omega (arith, ints) }) (congruent_negative c)

pub natural_difference : {m x y : ℕ} {u v : ℤ} → y ≤ x → Congruent m (pos x) u → Congruent m (pos y) v → Congruent m (pos (x - y)) (u -ℤ v)
natural_difference {m} {x} {y} {u} {v} b c d = congruent_trans (congruent_eq (omega (arith, ints))) (congruent_plus c (congruent_negative d))

pub congruent_cancel : {m : ℕ} {u v : ℤ} (w : ℤ) → Congruent m (u +ℤ w) (v +ℤ w) → Congruent m u v
congruent_cancel {m} {u} {v} w h = record { factor = h.factor; is = omega (arith, ints, h.is) }
