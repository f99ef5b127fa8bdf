-- The definitions, computed at 41, 2, 5: words, and what readings come to.
use Rattle.std.specs.Fmt.{digits}
use Rattle.std.specs.Prelude.{◌==◌}
use Rattle.std.specs.List.{slice_split}
use Rattle.std.proofs.Common.{◌≡◌, ℕ, true, false, List, [], ◌∷◌, ◌++◌, codes, ap, sym, None, Ok, Err, refl}
use Rattle.ring_identities.specs.Residues.{residue}
use Rattle.ring_identities.specs.Powers.{power, order_up_to}
use Rattle.graph_parts.specs.Parts.{part, part_count}
use Rattle.state_sums.specs.StateSums.{value}
use Rattle.root_quantum.specs.Parameters.{Parameters}
use Rattle.root_quantum.specs.Refusals.{refusal}
use Rattle.root_quantum.specs.QuantumNumbers.{inverse_root, loop_value}
use Rattle.root_quantum.proofs.RefusalProofs.{accepted_law}
use Rattle.root_quantum.specs.declared.form.Form.TheVariants.{All}
use Rattle.pd_reader.specs.declared.item.Item.{Item}
use Rattle.pd_reader.specs.declared.item.Item.TheVariants.{X, Loop}
use Rattle.planar_check.specs.Places.{other_place}
use Rattle.planar_check.specs.Planar.{face_count, piece_count, edge_count, wanted_faces}
use Rattle.diagram_brackets.specs.Brackets.{bracket}
use Rattle.wrt_words.proofs.OnLiterals.{words_on_literals}
use Rattle.wrt_request.proofs.OnLiterals.{request_on_literals}
use Rattle.wrt_request.specs.declared.request.Task.TheVariants.{Bracket, Torus}
use Rattle.wrt_request.specs.declared.order.OrderWord.TheVariants.{Listed, Greedy, Given}
use Rattle.wrt_request.specs.declared.option_name.OptionName.TheVariants.{Workers}
use Rattle.wrt_request.specs.declared.request.Sweep.{Sweep}
use Rattle.wrt_request.specs.declared.fault.PartsRefusal.TheVariants.{Takes, Option}
use Rattle.wrt_commands.specs.declared.arguments_refusal.ArgumentsRefusal.TheVariants.{Order}
use Rattle.wrt_commands.specs.declared.refusal.Refusal.TheVariants.{Words, Parameters as ParametersRefused, Plane, Arguments}
use Rattle.wrt_commands.specs.declared.words_refusal.WordsRefusal.TheVariants.{NoCommandLine, Parts}
use Rattle.wrt_commands.specs.DiagramReports.{diagram_report}
use Rattle.wrt_commands.specs.Openings.{opening, opened}
use Rattle.wrt_request.specs.Stages.{after}
use Rattle.wrt_commands.specs.Stops.{refused_as}
use Rattle.wrt_commands.specs.TorusOutcomes.{torus_outcome}
use Rattle.wrt_commands.proofs.ParametersLemmas.{made_law}

no_refusal : refusal All 41 2 5 ≡ None
unfolding refusal order_up_to power residue
no_refusal = refl

worked : Parameters
worked = record { modulus = 41; root = 2; level = 5; form = All; meets = (accepted_law All 41 2 5).1 no_refusal }

abbrev plain : Sweep
plain = record { order = Listed; turns = false }

-- ---- words: those that stand with single spaces (32) between them
abbrev spaced : List ℕ → List (List ℕ)
spaced = slice_split (λ b. b == 32)

bracket_words : opening (spaced (codes "bracket 41 2 5")) ≡ opened (Bracket plain) worked
unfolding words_on_literals request_on_literals worked
bracket_words = ap (λ found. after (refused_as ParametersRefused found) (opened (Bracket plain))) (sym (made_law All (record { modulus = 41; root = 2; level = 5 }) worked refl refl refl refl))

torus_words : opening (spaced (codes "torus 2 41 2 5 --turns --order=greedy")) ≡ opened (Torus 2 (record { order = Greedy; turns = true })) worked
unfolding words_on_literals request_on_literals worked
torus_words =
    ap (λ found. after (refused_as ParametersRefused found) (opened (Torus 2 (record { order = Greedy; turns = true }))))
    (sym (made_law All (record { modulus = 41; root = 2; level = 5 }) worked refl refl refl refl))

few_words : opening (spaced (codes "bracket 41")) ≡ Err (Words (Parts (Takes 3)))
unfolding words_on_literals request_on_literals
few_words = refl

another_option : opening (spaced (codes "bracket 41 2 5 --workers=2")) ≡ Err (Words (Parts (Option Workers)))
unfolding words_on_literals request_on_literals
another_option = refl

no_words : opening [] ≡ Err (Words NoCommandLine)
unfolding words_on_literals request_on_literals
no_words = refl

-- ---- diagrams
-- the left-handed trefoil
abbrev trefoil_items : List Item
trefoil_items = X (1 ∷ 4 ∷ 2 ∷ 5 ∷ []) ∷ X (3 ∷ 6 ∷ 4 ∷ 1 ∷ []) ∷ X (5 ∷ 2 ∷ 6 ∷ 3 ∷ []) ∷ []

empty_diagram : diagram_report worked plain [] ≡ Ok (codes "1" ++ 10 ∷ [])
unfolding digits worked bracket value loop_value inverse_root power residue face_count piece_count edge_count wanted_faces other_place part_count part
empty_diagram = refl

loop_with_empty_list : diagram_report worked (record { order = (Given []); turns = false }) (Loop 1 ∷ []) ≡ Ok (codes "6" ++ 10 ∷ [])
unfolding digits worked bracket value loop_value inverse_root power residue face_count piece_count edge_count wanted_faces other_place part_count part
loop_with_empty_list = refl

curl : diagram_report worked plain (X (1 ∷ 1 ∷ 2 ∷ 2 ∷ []) ∷ []) ≡ Ok (codes "34" ++ 10 ∷ [])
unfolding digits worked bracket value loop_value inverse_root power residue face_count piece_count edge_count wanted_faces other_place part_count part
curl = refl

trefoil : diagram_report worked plain trefoil_items ≡ Ok (codes "10" ++ 10 ∷ [])
unfolding digits worked bracket value loop_value inverse_root power residue face_count piece_count edge_count wanted_faces other_place part_count part
trefoil = refl

trefoil_turns : diagram_report worked (record { order = (Given (3 ∷ 1 ∷ 2 ∷ [])); turns = true }) trefoil_items ≡ Ok (codes "10" ++ 10 ∷ codes "turns 10" ++ 10 ∷ [])
unfolding digits worked bracket value loop_value inverse_root power residue face_count piece_count edge_count wanted_faces other_place part_count part
trefoil_turns = refl

list_too_short : diagram_report worked (record { order = (Given (1 ∷ 2 ∷ [])); turns = false }) trefoil_items ≡ Err (Arguments (Order 3))
unfolding digits worked bracket value loop_value inverse_root power residue face_count piece_count edge_count wanted_faces other_place part_count part
list_too_short = refl

number_twice : diagram_report worked (record { order = (Given (1 ∷ 2 ∷ 2 ∷ [])); turns = false }) trefoil_items ≡ Err (Arguments (Order 3))
unfolding digits worked bracket value loop_value inverse_root power residue face_count piece_count edge_count wanted_faces other_place part_count part
number_twice = refl

-- the Hopf link, as the torus link with two crossings
hopf_link : torus_outcome worked 2 (record { order = Listed; turns = true }) ≡ Ok (codes "1" ++ 10 ∷ codes "turns 6" ++ 10 ∷ [])
unfolding digits worked bracket value loop_value inverse_root power residue face_count piece_count edge_count wanted_faces other_place part_count part
hopf_link = refl

crossed : diagram_report worked plain (X (1 ∷ 2 ∷ 1 ∷ 2 ∷ []) ∷ []) ≡ Err (Plane (record { faces = 1; wanted = 3 }))
unfolding face_count piece_count edge_count wanted_faces other_place part_count part
crossed = refl
