-- Two halves of the workers, put together: both sums, or the stop of the lesser colouring.
--
--     IsLeast left right fault       of two faults the one of the lesser colouring, and want of memory before both
--     Fits m left right              both values are below m, and there is room for both turns
--     IsMerged m left right result   the result for both
use Rattle.std.specs.Prelude.{◌≡◌, ◌⊎◌, ℕ, ◌+◌, ◌^◌, ◌<◌, ◌≤◌, ◌++◌, pos, ◌+ℤ◌, Result, Ok, Err, MatchResult}
use Rattle.ring_identities.specs.Residues.{residue}
use Rattle.colour_share.specs.declared.part.Summed.{Summed}
use Rattle.colour_share.specs.declared.part.PartFault.{PartFault}
use Rattle.colour_share.specs.declared.part.PartFault.TheVariants.{Stopped, Memory}

abbrev pub IsLeast : PartFault → PartFault → PartFault → Type 0
IsLeast (Stopped a x) (Stopped b y) fault = ((a ≤ b) × (fault ≡ Stopped a x)) ⊎ ((b ≤ a) × (fault ≡ Stopped b y))
IsLeast Memory y fault = fault ≡ Memory
IsLeast (Stopped a x) Memory fault = fault ≡ Memory

abbrev pub Fits : ℕ → Result Summed PartFault → Result Summed PartFault → Type 0
Fits m (Ok left) (Ok right) = (left.value < m) × (right.value < m) × (left.turns + right.turns < 2 ^ 128)
Fits m (Ok left) (Err fault) = Unit {0}
Fits m (Err fault) right = Unit {0}

-- The value and the turns of both, and the notes one after another.
pub record IsBoth (m : ℕ) (left right both : Summed) : Type 0 where
  pub value : both.value ≡ residue m (pos left.value +ℤ pos right.value)
  pub below : both.value < m
  pub turns : both.turns ≡ left.turns + right.turns
  pub notes : both.notes.items ≡ left.notes.items ++ right.notes.items

abbrev pub IsMerged : ℕ → Result Summed PartFault → Result Summed PartFault → Result Summed PartFault → Type 0
IsMerged m (Ok left) (Ok right) result = MatchResult result (IsBoth m left right) (λ fault. fault ≡ Memory)
IsMerged m (Ok left) (Err fault) result = result ≡ Err fault
IsMerged m (Err fault) (Ok right) result = result ≡ Err fault
IsMerged m (Err left) (Err right) result = MatchResult result (λ _. ⊥) (IsLeast left right)
