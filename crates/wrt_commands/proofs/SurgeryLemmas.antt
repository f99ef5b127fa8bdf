-- The residue of a surgery value is the diagram's, in whatever order the crossings are taken.
use Rattle.std.proofs.Common.{◌≡◌, ℕ, Result, Ok, Err}
use Rattle.std.specs.Result.{result_and}
use Rattle.root_quantum.specs.Parameters.{Parameters}
use Rattle.planar_check.specs.Framings.{FramedDiagram}
use Rattle.coloured_values.specs.Surgery.{surgery}
use Rattle.frontier_laws.specs.Orders.{View}
use Rattle.wrt_values.specs.Surgery.{colouring_count, inertia_range, delta_inverses, kirby_turns, omega_inverses, valued, surgery_value}
use Rattle.wrt_values.specs.declared.fault.ValueRefusal.{ValueRefusal}
use Rattle.wrt_values.specs.declared.value.Value.{Value}

behind : {A : Type 0} (first : Result (Unit {0}) ValueRefusal) (next : Result A ValueRefusal) (value : A) → result_and first next ≡ Ok value → next ≡ Ok value
behind (Ok _) next value h = h
behind (Err refusal) next value h = absurd (cc)

of_valued : (residue : ℕ) (turns : Result ℕ ValueRefusal) (exist : Result (Unit {0}) ValueRefusal) (value : Value) → valued residue turns exist ≡ Ok value → value.residue ≡ residue
of_valued residue (Ok turns) (Ok _) value h = cc
of_valued residue (Ok turns) (Err refusal) value h = absurd (cc)
of_valued residue (Err refusal) exist value h = absurd (cc)

pub surgery_residue_law : (next : View → ℕ) (p : Parameters) (framed : FramedDiagram) (value : Value) → surgery_value next p framed ≡ Ok value → value.residue ≡ surgery p framed
surgery_residue_law next p framed value h =
    of_valued (surgery p framed) (kirby_turns next p framed) (omega_inverses p framed) value
    (behind (delta_inverses p framed) _ value (behind (inertia_range framed) _ value (behind (colouring_count p framed) _ value h)))
