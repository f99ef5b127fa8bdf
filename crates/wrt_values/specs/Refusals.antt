-- The lines of refused values. (This project's own.)
--
--     text_of_inverse index common   a quantum number that shares a factor with the modulus
--     text_of_omega sign common  an Omega that shares a factor with it
--     text_of_step step          the step of a sweep, as a line names it
--     text_of_refusal refusal    the line of the refusal
use Rattle.std.specs.Prelude.{ℕ, List, ◌++◌, codes, decimal}
use Rattle.planar_check.specs.declared.sign.Sign.{Sign}
use Rattle.planar_check.specs.declared.sign.Sign.TheVariants.{Plus, Minus}
use Rattle.wrt_values.specs.declared.fault.SweepStep.{SweepStep}
use Rattle.wrt_values.specs.declared.fault.ValueRefusal.{ValueRefusal}
use Rattle.wrt_values.specs.declared.fault.ValueRefusal.TheVariants.{TooMany, Inertia, NoInverse, Wide, Table, NoOmegaInverse}

-- A quantum number that shares a factor with the modulus.
unfoldable pub text_of_inverse : ℕ → ℕ → List ℕ
text_of_inverse index common =
    codes "Delta " ++ (decimal index ++ (codes " has the common factor " ++ (decimal common ++ codes " with the modulus")))

-- An Omega that shares a factor with the modulus.
unfoldable pub text_of_omega : Sign → ℕ → List ℕ
text_of_omega Plus common = codes "Omega + has the common factor " ++ (decimal common ++ codes " with the modulus")
text_of_omega Minus common = codes "Omega - has the common factor " ++ (decimal common ++ codes " with the modulus")

-- The step of a sweep.
abbrev pub text_of_step : SweepStep → List ℕ
text_of_step step = codes "colouring " ++ decimal step.colouring ++ codes ": step " ++ decimal step.step

-- The line of the refusal.
abbrev pub text_of_refusal : ValueRefusal → List ℕ
text_of_refusal (TooMany components) = decimal components ++ codes " components give more than 65536 colourings"
text_of_refusal (Inertia step) = codes "inertia leaves 128 bits at step " ++ decimal step
text_of_refusal (NoInverse index common) = text_of_inverse index common
text_of_refusal (Wide step ends) = text_of_step step ++ codes " has " ++ decimal ends ++ codes " open ends"
text_of_refusal (Table step) = text_of_step step ++ codes " has more than 262144 pairings"
text_of_refusal (NoOmegaInverse sign common) = text_of_omega sign common
