-- Why a text of tetrahedra has no sum: too many colourings, then a Delta without an inverse, then the first refusal that a walk of the
-- admissible colourings meets, in each first at the faces and then at the tetrahedra. (This project's own.)
--
--     limit_at number fault                     a limit that the sum of a net meets in the colouring with that number
--     face_refusal p number f colours           the theta of the face f at these colours meets a limit, or shares a factor with the modulus
--     tetrahedron_refusal p number colours      the net of a tetrahedron meets a limit
--     first_of f number list                    the first refusal of the members of a list, which are numbered from there on
--     face_refusal_at, tetrahedron_refusal_at   the same of a face, or of a tetrahedron, by its labels
--     faces_refusal, tetrahedra_refusal         the first of the faces, which count from 1, and of the tetrahedra, of a colouring
--     colouring_refusal p items number colours  the first of a colouring that all faces allow; any other has none
--     walk_refusal p items                      the first of all colourings, which count from 1
--     count_refusal r n                         n labels have more than 65,536 colourings by 0 to r-2
--     delta_refusal p                           Delta_k is the first of Delta_1 to Delta_(r-3) that shares a factor with the modulus
--     inverse_refusal p n                       the same, where there is a label
--     refusal p items                           the first of these three
--
-- At 119, 2, 6 the theta of 0, 1, 1 is Delta_1, and shares 17 with 119. At 51, 37, 4 that of 0, 2, 2 is Delta_2, and shares 3 with 51.
use Rattle.std.specs.Prelude.{ℕ, ◌+◌, ◌-◌, ◌^◌, ◌==◌, not, Bool, nat_lt, cond, if◌then◌else◌, List, [], ◌∷◌, length, find, Option, Some, None, option_map, Result, Ok, Err}
use Rattle.std.specs.List.{range_with_len}
use Rattle.std.specs.Option.{option_or}
use Rattle.inertia_laws.specs.Fractions.{gcd}
use Rattle.root_quantum.specs.Parameters.{Parameters}
use Rattle.root_quantum.specs.QuantumNumbers.{delta}
use Rattle.frontier_sweep.specs.declared.fault.SweepFault.{SweepFault}
use Rattle.frontier_sweep.specs.declared.fault.SweepFault.TheVariants as sweeps
use Rattle.tetra_reader.specs.Tetras.{faces_of, tetrahedra_of}
use Rattle.tetra_reader.specs.declared.item.TetraItem.{TetraItem}
use Rattle.tetra_sum.specs.declared.fault.TetraFault.{TetraFault}
use Rattle.tetra_sum.specs.declared.fault.TetraFault.TheVariants as faults
use Rattle.tetra_sum.specs.declared.limits.TheConstants.{MOST_COLOURINGS}
use Rattle.tetra_sum.specs.Colourings.{are_allowed}
use Rattle.tetra_sum.specs.Nets.{theta_net, tetrahedron_net, net_value}
use Rattle.tetra_sum.specs.Sums.{text_labels, colours_at, colourings}

abbrev pub limit_at : ℕ → SweepFault → TetraFault
limit_at number (sweeps.Wide step ends) = faults.Wide number step ends
limit_at number (sweeps.Table step) = faults.Table number step
limit_at number sweeps.Memory = faults.Memory

-- A limit, or a theta without an inverse.
abbrev pub by_theta : ℕ → ℕ → ℕ → Result ℕ SweepFault → Option TetraFault
by_theta m number f (Ok theta) = cond (gcd theta m == 1) None (Some (faults.Theta number f (gcd theta m)))
by_theta m number f (Err fault) = Some (limit_at number fault)

abbrev pub by_tet : ℕ → Result ℕ SweepFault → Option TetraFault
by_tet number (Ok tet) = None
by_tet number (Err fault) = Some (limit_at number fault)

abbrev pub face_refusal : Parameters → ℕ → ℕ → List ℕ → Option TetraFault
face_refusal p number f colours = by_theta p.modulus number f (net_value p theta_net colours)

abbrev pub tetrahedron_refusal : Parameters → ℕ → List ℕ → Option TetraFault
tetrahedron_refusal p number colours = by_tet number (net_value p tetrahedron_net colours)

-- ---- the walk
abbrev pub first_of : {X : Type 0} → (ℕ → X → Option TetraFault) → ℕ → List X → Option TetraFault
first_of f number [] = None
first_of f number (x ∷ xs) = option_or (f number x) (first_of f (number + 1) xs)

abbrev pub face_refusal_at : Parameters → List ℕ → ℕ → List ℕ → ℕ → List ℕ → Option TetraFault
face_refusal_at p labels number colours f face = face_refusal p number f (colours_at labels colours face)

abbrev pub faces_refusal : Parameters → List ℕ → ℕ → List ℕ → List (List ℕ) → Option TetraFault
faces_refusal p labels number colours = first_of (face_refusal_at p labels number colours) 1

abbrev pub tetrahedron_refusal_at : Parameters → List ℕ → ℕ → List ℕ → ℕ → List ℕ → Option TetraFault
tetrahedron_refusal_at p labels number colours place tetrahedron = tetrahedron_refusal p number (colours_at labels colours tetrahedron)

abbrev pub tetrahedra_refusal : Parameters → List ℕ → ℕ → List ℕ → List (List ℕ) → Option TetraFault
tetrahedra_refusal p labels number colours = first_of (tetrahedron_refusal_at p labels number colours) 1

abbrev pub colouring_refusal : Parameters → List TetraItem → ℕ → List ℕ → Option TetraFault
colouring_refusal p items number colours =
    if are_allowed p.level (text_labels items) colours (faces_of items)
    then option_or (faces_refusal p (text_labels items) number colours (faces_of items)) (tetrahedra_refusal p (text_labels items) number colours (tetrahedra_of items))
    else None

abbrev pub walk_refusal : Parameters → List TetraItem → Option TetraFault
walk_refusal p items = first_of (colouring_refusal p items) 1 (colourings p items)

-- ---- what is looked at before
abbrev pub count_refusal : ℕ → ℕ → Option TetraFault
count_refusal r n = if nat_lt MOST_COLOURINGS ((r - 1) ^ n) then Some (faults.TooMany n MOST_COLOURINGS) else None

abbrev pub shares_factor : Parameters → ℕ → Bool
shares_factor p k = not (gcd (delta p k) p.modulus == 1)

abbrev pub delta_refusal : Parameters → Option TetraFault
delta_refusal p = option_map (λ k. faults.NoInverse k (gcd (delta p k) p.modulus)) (find (shares_factor p) (range_with_len 1 (p.level - 3)))

abbrev pub inverse_refusal : Parameters → ℕ → Option TetraFault
inverse_refusal p n = if n == 0 then None else delta_refusal p

unfoldable pub refusal : Parameters → List TetraItem → Option TetraFault
refusal p items =
    option_or (count_refusal p.level (length (text_labels items))) (option_or (inverse_refusal p (length (text_labels items))) (walk_refusal p items))
