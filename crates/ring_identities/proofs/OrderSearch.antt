-- Trying each exponent finds the order, and there is one answer. By induction on the greatest exponent.
--
--     order_up_to-meets        the exponent found is the order, or there is none
--     order_up_to-unique       two such answers are equal
use Rattle.std.proofs.Common.{◌≡◌, ℕ, zero, suc, ◌<◌, Option, Some, None, Bool, true, false, cond, inl, inr, pos, refl, ap, subst, arith}
use Rattle.std.proofs.lemmas.Bool.{cases_lt}
use Rattle.std.proofs.lemmas.Bool.Decides.{Decides-eqb}
use Rattle.std.specs.Bool.{Decides}
use Rattle.std.specs.Option.{option_or}
use Rattle.ring_identities.specs.Residues.{residue}
use Rattle.ring_identities.specs.Powers.{power, IsUnity, IsOrder, IsOrderUpTo, order_up_to}

one_more : (m x n : ℕ) (found : Option ℕ) (test : Bool) → IsOrderUpTo m x n found → Decides test (IsUnity m x (suc n)) → IsOrderUpTo m x (suc n) (option_or found (cond test (Some (suc n)) None))
one_more m x n (Some t) test here decides = (omega (arith, here.0), here.1)
one_more m x n None true none decides =
    (omega arith, record { positive = omega arith; unity = decides.0 refl; least = λ s positive below. none s positive (omega arith) })
one_more m x n None false none decides =
    λ t positive within unity.
    elim (cases_lt t (suc n)) [
      | inl below ↦ none t positive (omega arith) unity
      | inr above ↦ (
          let last : t ≡ suc n = omega arith in
          let P : ℕ → Type 0 = IsUnity m x in
          let no = decides.1 (subst P last unity) in
          absurd (cc))
    ]

pub order_up_to-meets : (m x limit : ℕ) → IsOrderUpTo m x limit (order_up_to m x limit)
unfolding order_up_to
order_up_to-meets m x zero = λ t positive within. absurd (omega arith)
order_up_to-meets m x (suc n) =
    one_more m x n (order_up_to m x n) _ (order_up_to-meets m x n) (Decides-eqb (residue m (power (pos x) (suc n))) 1)

no_less : (m x s t : ℕ) → IsOrder m x s → IsOrder m x t → ¬ (s < t)
no_less m x s t here there less = there.least s here.positive less here.unity

pub order_up_to-unique : (m x limit : ℕ) (found other : Option ℕ) → IsOrderUpTo m x limit found → IsOrderUpTo m x limit other → found ≡ other
order_up_to-unique m x limit None None here there = refl
order_up_to-unique m x limit None (Some t) here there = absurd (here t there.1.positive there.0 there.1.unity)
order_up_to-unique m x limit (Some s) None here there = absurd (there s here.1.positive here.0 here.1.unity)
order_up_to-unique m x limit (Some s) (Some t) here there =
    let same : s ≡ t = omega (arith, no_less m x s t here.1 there.1, no_less m x t s there.1 here.1) in
    ap Some same
