-- At most one index is the first at which Delta_index shares a factor with m, and there is none where all inverses exist.
use Rattle.std.proofs.Common.{◌≡◌, ℕ, ◌<◌, ◌↔◌, Result, Ok, Err, sym, ap₂, subst}
use Rattle.wenzl_table.specs.declared.fault.WenzlFault.{WenzlFault}
use Rattle.wenzl_table.specs.declared.fault.WenzlFault.TheVariants.{NoInverse, Memory}
use Rattle.std.specs.Int.{IsGcd}
use Rattle.std.proofs.lemmas.Nat.Gcd.{same_from_IsGcd}
use Rattle.root_quantum.specs.Parameters.{Parameters}
use Rattle.root_quantum.specs.QuantumNumbers.{delta}
use Rattle.wenzl_table.specs.Inverses.{AreCoprime, IsFirstCommon}
use Rattle.temperley_lieb.proofs.AddedTerms.{same_or_less}

pub none_first : (p : Parameters) (n index common : ℕ) → AreCoprime p n → IsFirstCommon p n index common → ⊥
none_first p n index common all h = h.shared (same_from_IsGcd (delta p index) p.modulus common 1 h.divisor (all index h.above h.below))

-- a smaller first index contradicts
earlier : (p : Parameters) (n i j a b : ℕ) → IsFirstCommon p n i a → IsFirstCommon p n j b → i < j → ⊥
earlier p n i j a b h k l = h.shared (same_from_IsGcd (delta p i) p.modulus a 1 h.divisor (k.before i h.above l))

pub one_index : (p : Parameters) (n i j a b : ℕ) → IsFirstCommon p n i a → IsFirstCommon p n j b → i ≡ j
one_index p n i j a b h k = same_or_less i j (λ e. e) (λ l. absurd (earlier p n i j a b h k l)) (λ l. absurd (earlier p n j i b a k h l))

pub one_common : (p : Parameters) (n i j a b : ℕ) → IsFirstCommon p n i a → IsFirstCommon p n j b → a ≡ b
one_common p n i j a b h k =
    let P : ℕ → Type 0 = λ x. IsGcd (delta p x) p.modulus b in
    same_from_IsGcd (delta p i) p.modulus a b h.divisor (subst P (sym (one_index p n i j a b h k)) k.divisor)

-- ---- the answers of `build`
pub refused : {X : Type 0} (p : Parameters) (n i a index common : ℕ) → IsFirstCommon p n i a → (◌≡◌ {A = Result X WenzlFault} (Err (NoInverse i a)) (Err (NoInverse index common))) ↔ IsFirstCommon p n index common
refused p n i a index common h = (
  λ e. (let same : i ≡ index = cc in let also : a ≡ common = cc in subst (λ (j : ℕ). IsFirstCommon p n j common) same (subst (λ (b : ℕ). IsFirstCommon p n i b) also h)),
  λ k. ap₂ (λ j b. Err (NoInverse j b)) (one_index p n i index a common h k) (one_common p n i index a common h k),
)

pub made : {X : Type 0} (p : Parameters) (n index common : ℕ) (x : X) → AreCoprime p n → (◌≡◌ {A = Result X WenzlFault} (Ok x) (Err (NoInverse index common))) ↔ IsFirstCommon p n index common
made p n index common x h = (λ e. absurd (cc), λ k. absurd (none_first p n index common h k))

pub no_memory : {X : Type 0} (p : Parameters) (n index common : ℕ) → AreCoprime p n → (◌≡◌ {A = Result X WenzlFault} (Err Memory) (Err (NoInverse index common))) ↔ IsFirstCommon p n index common
no_memory p n index common h = (λ e. absurd (cc), λ k. absurd (none_first p n index common h k))
