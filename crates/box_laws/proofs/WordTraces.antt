-- The value of a closed network of a word is the word's trace.
use Rattle.std.proofs.Common.{◌≡◌, ℕ, ◌+◌, ◌*◌, ◌%◌, ◌^◌, List, [], ◌∷◌, ◌++◌, map, sum_by, refl, sym, ap, ap₂, ◌∙◌, arith}
use Rattle.std.proofs.lemmas.List.Sums.{sum_by-cons}
use Rattle.state_sums.specs.LocalSums.{pattern_sum}
use Rattle.state_sums.specs.Networks.{Network, Term}
use Rattle.state_sums.specs.StateSums.{value}
use Rattle.state_sums.proofs.Congruent.{pow_0}
use Rattle.strand_algebra.specs.Elements.{identity}
use Rattle.strand_algebra.specs.StrandPairings.{closure_loops}
use Rattle.strand_algebra.proofs.Collecting.{signed, noncrossing_element}
use Rattle.strand_algebra.proofs.Operations.{pairings_of, IsElement-identity}
use Rattle.strand_algebra.proofs.Totals.{AreTerms}
use Rattle.strand_words.specs.Boxes.{close_worth, box_sum}
use Rattle.strand_words.specs.Words.{word_sum}
use Rattle.word_networks.specs.PlacedGrids.{close_steps}
use Rattle.word_networks.specs.Steps.{names_after, points_after, step_nodes, step_sum, mate_worth}
use Rattle.word_networks.specs.Strands.{strand_of, standing, strand_points}
use Rattle.word_networks.proofs.NetworkLaws.{spelled_points, spelled_sum, word_sum-same}
use Rattle.word_networks.proofs.PlacedGrids.{step_sum-append, close_sum}
use Rattle.word_networks.proofs.StepNetworks.{step_pattern_sum}
use Rattle.word_networks.proofs.Strands.{standing_named}
use Rattle.box_laws.specs.Laws.{WordTracesLaw}
use Rattle.box_laws.specs.StrandBoxes.{strand_box}
use Rattle.box_laws.specs.Traces.{word_on}
use Rattle.box_laws.proofs.ClosedPairings.{closed_loops, none_left}
use Rattle.box_laws.proofs.Closings.{sum_of_closed}
use Rattle.box_laws.proofs.ProjectorCurls.{points_after-append}
use Rattle.box_laws.proofs.Traces.{word_on_sum, word_element, identity_sum}

-- a closure as a box's sum
closed_sum : (delta n : ℕ) (x : List Term) → AreTerms (n + n) (signed x) →
    sum_by (λ term. term.weight * delta ^ closure_loops n term.partner) x ≡ box_sum (strand_box 0 n x) (close_worth delta 0 n (λ mate. 1))
closed_sum delta n [] a = refl
closed_sum delta n (term ∷ x) a =
    sum_by-cons (λ t. t.weight * delta ^ closure_loops n t.partner) term x
    ∙ ap₂ (λ u v. term.weight * u + v) (closed_loops n term.partner a.0 delta) (closed_sum delta n x a.1)

-- THE TRACE
pub word_traces : WordTracesLaw
unfolding value
word_traces m delta n word steps base some on spells one from =
    let closing = close_steps 0 n in
    let name : ℕ → ℕ = λ u. base (strand_of u) in
    let points = strand_points 0 n in
    let all = steps ++ closing in
    let network : Network = record { nodes = step_nodes name all; free_loops = 0 } in
    let last = names_after name all in
    let left = points_after points all in
    let worth : (ℕ → ℕ) → ℕ = mate_worth delta 0 (λ found. 1) last left in
    let closed : (ℕ → ℕ) → ℕ = close_worth delta 0 n (λ mate. 1) in
    let left_is : left ≡ [] = points_after-append points steps closing ∙ ap (λ ps. points_after ps closing) (spelled_points points word steps spells) ∙ none_left n in
    let ones : worth ≡ (λ mate. 1) = λ i mate. (let t : worth mate ≡ 1 = (let e = pow_0 delta in one_plain (delta ^ 0) e) in t) i in
    let x = word_on m delta n (identity m n) word in
    let terms = pairings_of n x (noncrossing_element m n x (word_element m delta n word (identity m n) some (IsElement-identity m n some))) in
    ap (λ k. k % m)
    (sum_of_closed delta network
    ∙ ap (λ ns. pattern_sum delta network ns (λ found. 1)) (sym (ap (map last) left_is))
    ∙ step_pattern_sum points name standing all (standing_named n base one) from delta 0 (λ found. 1)
    ∙ step_sum-append delta steps closing worth standing
    ∙ spelled_sum delta word steps spells (step_sum delta closing worth) standing
    ∙ word_sum-same delta word (step_sum delta closing worth) closed (λ mate. close_sum delta 0 n worth mate ∙ ap (λ k. close_worth delta 0 n k mate) ones) standing)
    ∙ sym (identity_sum m n some (word_sum delta word closed))
    ∙ sym (word_on_sum m delta n word (identity m n) some on (IsElement-identity m n some) closed)
    ∙ sym (ap (λ k. k % m) (closed_sum delta n x terms))
  where
    one_plain : (y : ℕ) → y ≡ 1 → y * 1 ≡ 1
    one_plain y e = omega (arith, e)
