-- The definitions at worked values: m = 41, A = 2, r = 5, and numbers that are no parameters.
use Rattle.std.proofs.Common.{◌≡◌, [], ◌∷◌, map, pos, negsuc, Some, None, refl}
use Rattle.ring_identities.specs.Residues.{residue}
use Rattle.ring_identities.specs.Powers.{power, signed_power, order_up_to}
use Rattle.root_quantum.specs.Parameters.{Parameters}
use Rattle.root_quantum.specs.Colours.{form_colours, greatest_colour}
use Rattle.root_quantum.specs.Refusals.{refusal}
use Rattle.root_quantum.specs.QuantumNumbers.{inverse_root, loop_value, quantum_number, delta, twist_factor, twist}
use Rattle.root_quantum.specs.declared.form.Form.TheVariants.{All, Even}
use Rattle.root_quantum.specs.declared.fault.ParamFault.TheVariants.{Modulus, Root, Level, EvenLevel, Order}
use Rattle.root_quantum.proofs.RefusalProofs.{accepted_law}

-- 2 has order 20 modulo 41
no_refusal : refusal All 41 2 5 ≡ None
unfolding refusal order_up_to power residue
no_refusal = refl

worked : Parameters
worked = record { modulus = 41; root = 2; level = 5; form = All; meets = (accepted_law All 41 2 5).1 no_refusal }

-- 2 times 21 is 42
inverse_of_two : inverse_root worked ≡ 21
unfolding worked inverse_root power residue
inverse_of_two = refl

-- -4 - 441 is -445, and 11 times 41 is 451
delta_is_six : loop_value worked ≡ 6
unfolding worked loop_value inverse_root power residue
delta_is_six = refl

-- Delta_0 to Delta_4
quantum_numbers : map (delta worked) (0 ∷ 1 ∷ 2 ∷ 3 ∷ 4 ∷ []) ≡ 1 ∷ 6 ∷ 35 ∷ 40 ∷ 0 ∷ []
unfolding worked delta quantum_number loop_value inverse_root power residue
quantum_numbers = refl

-- mu_0 to mu_3
twist_factors : map (λ n. twist worked n (pos 1)) (0 ∷ 1 ∷ 2 ∷ 3 ∷ []) ≡ 1 ∷ 33 ∷ 10 ∷ 32 ∷ []
unfolding worked twist twist_factor signed_power inverse_root power residue
twist_factors = refl

-- mu_2 to the power -1: 10 times 37 is 370, and 9 times 41 is 369
inverse_twist : twist worked 2 (negsuc 0) ≡ 37
unfolding worked twist twist_factor signed_power inverse_root power residue
inverse_twist = refl

-- the refusals, in their order
refusals : map (λ m. refusal All m 2 5) (0 ∷ 1 ∷ 4611686018427387904 ∷ []) ≡ Some Modulus ∷ Some Modulus ∷ Some Modulus ∷ []
unfolding refusal
refusals = refl

no_root : refusal All 41 0 2 ≡ Some Root
unfolding refusal
no_root = refl

past_root : refusal All 41 41 2 ≡ Some Root
unfolding refusal
past_root = refl

no_level : refusal All 41 2 11 ≡ Some Level
unfolding refusal
no_level = refl

-- 3 has order 3 modulo 13, where 12 is wanted
lesser_order : refusal All 13 3 3 ≡ Some (Order (Some 3))
unfolding refusal order_up_to power residue
lesser_order = refl

-- 6 has an order above 20 modulo 41
no_order : refusal All 41 6 5 ≡ Some (Order None)
unfolding refusal order_up_to power residue
no_order = refl

-- ---- the even form: 2 has order 10 modulo 11
even_order : refusal Even 11 2 5 ≡ None
unfolding refusal order_up_to power residue
even_order = refl

no_full_order : refusal All 11 2 5 ≡ Some (Order (Some 10))
unfolding refusal order_up_to power residue
no_full_order = refl

even_level : refusal Even 41 6 10 ≡ Some EvenLevel
unfolding refusal
even_level = refl

other_order : refusal Even 13 3 3 ≡ Some (Order (Some 3))
unfolding refusal order_up_to power residue
other_order = refl

-- the full order is taken in the even form too
full_order : refusal Even 41 2 5 ≡ None
unfolding refusal order_up_to power residue
full_order = refl

halved : Parameters
halved = record { modulus = 11; root = 2; level = 5; form = Even; meets = (accepted_law Even 11 2 5).1 even_order }

-- 2 times 6 is 12; -4 - 36 is -40, and 4 times 11 is 44
half_inverse : inverse_root halved ≡ 6
unfolding halved inverse_root power residue
half_inverse = refl

half_delta : loop_value halved ≡ 4
unfolding halved loop_value inverse_root power residue
half_delta = refl

-- ---- the colours of both forms at r = 5
full_colours : form_colours worked ≡ 0 ∷ 1 ∷ 2 ∷ 3 ∷ []
unfolding worked
full_colours = refl

even_colours : form_colours halved ≡ 0 ∷ 2 ∷ []
unfolding halved
even_colours = refl

greatest_colours : greatest_colour worked ∷ greatest_colour halved ∷ [] ≡ 3 ∷ 2 ∷ []
unfolding worked halved
greatest_colours = refl
