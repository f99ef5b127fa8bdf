-- The laws of projectors, for each one that was built, also for a composite m (Lickorish, ch. 13; Kauffman and Lins).
--
--     HookAboveGivesZero f, HookBelowGivesZero f     a hook in front of it or behind it gives zero
--     IsOwnSquare f                                  f times f is f
--     ClosesToDelta f                                its closure is Delta_n
--     IsMirrored f                                   a pairing and its mirror image, top for bottom, have one coefficient
--     IsHalfTurned f                                 so have a pairing and what half a turn makes of it
use Rattle.std.specs.Prelude.{◌≡◌, ℕ, ◌<◌, List}
use Rattle.root_quantum.specs.QuantumNumbers.{loop_value, delta}
use Rattle.strand_algebra.specs.Elements.{coefficient, hook, multiply, close}
use Rattle.strand_algebra.specs.Laws.{nothing}
use Rattle.strand_algebra.specs.StrandPairings.{IsPairingOn, upside_down, half_turned}
use Rattle.wenzl_table.specs.Projectors.{Projector}

-- A hook on the projector.
abbrev pub HookAboveGivesZero : Projector → Type 0
HookAboveGivesZero f =
    let m = f.params.modulus in
    let n = f.colour in
    (i : ℕ) → 0 < i → i < n → multiply m (loop_value f.params) n (hook m n i) f.element.terms ≡ nothing m n

-- The projector on a hook.
abbrev pub HookBelowGivesZero : Projector → Type 0
HookBelowGivesZero f =
    let m = f.params.modulus in
    let n = f.colour in
    (i : ℕ) → 0 < i → i < n → multiply m (loop_value f.params) n f.element.terms (hook m n i) ≡ nothing m n

-- The projector on itself.
abbrev pub IsOwnSquare : Projector → Type 0
IsOwnSquare f = multiply f.params.modulus (loop_value f.params) f.colour f.element.terms f.element.terms ≡ f.element.terms

-- Its closure.
abbrev pub ClosesToDelta : Projector → Type 0
ClosesToDelta f = close f.params.modulus (loop_value f.params) f.colour f.element.terms ≡ delta f.params f.colour

-- Top and bottom exchanged.
abbrev pub IsMirrored : Projector → Type 0
IsMirrored f = (p : List ℕ) → IsPairingOn f.colour p → coefficient f.element.terms (upside_down f.colour p) ≡ coefficient f.element.terms p

-- Turned by half a turn.
abbrev pub IsHalfTurned : Projector → Type 0
IsHalfTurned f = (p : List ℕ) → IsPairingOn f.colour p → coefficient f.element.terms (half_turned f.colour p) ≡ coefficient f.element.terms p
