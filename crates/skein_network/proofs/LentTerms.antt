-- What a projector that was found lends: its terms are those of the definition, at most 1,430 of them.
--
-- The definition finds its inverses by trying each residue, so where they exist its projector is the one of the table. So a box with
-- lent terms is the definition's.
use Rattle.std.proofs.Common.{◌≡◌, ℕ, zero, suc, ◌+◌, ◌*◌, ◌≤◌, true, List, length, refl, sym, ap, ap₂, subst, ◌∙◌, arith}
use Rattle.std.specs.List.{Contains}
use Rattle.std.proofs.lemmas.List.{length-map}
use Rattle.std.proofs.lemmas.List.FromFn.{length-map-range_with_len}
use Rattle.state_sums.specs.Networks.{Term}
use Rattle.root_quantum.specs.Parameters.{Parameters}
use Rattle.root_quantum.specs.QuantumNumbers.{loop_value}
use Rattle.strand_algebra.specs.Noncrossing.{noncrossing}
use Rattle.strand_algebra.proofs.ProjectorLaws.{projector_found}
use Rattle.temperley_lieb.specs.Elements.{Element, IsWhole}
use Rattle.wenzl_table.specs.Projectors.{Projector, IsProjectorOf}
use Rattle.wenzl_table.specs.Tables.{Notes, IsFor}
use Rattle.wenzl_table.specs.Found.{Finds}
use Rattle.wenzl_table.specs.declared.found.Found.{Found}
use Rattle.wenzl_table.specs.declared.found.Found.TheVariants.{Shared, Own}
use Rattle.cables.specs.Strands.{first_names, second_names}
use Rattle.cables.specs.CableNodes.{box_node}
use Rattle.cables.specs.Nets.{projector_of}
use Rattle.cables.proofs.NumberedStrands.{first_length}
use Rattle.skein_network.specs.declared.edge.Edge.{Edge}
use Rattle.skein_network.specs.Edges.{colour_at, boxed_at, strands_at}
use Rattle.skein_network.specs.Boxes.{strands_box, label_box}
use Rattle.skein_network.specs.Colourings.{Holds, projector_in}

-- THE TERMS THAT ARE LENT
pub lent_terms : (p : Parameters) (f : Projector) (n : ℕ) → f.params ≡ p → f.colour ≡ n → IsProjectorOf f.params f.colour f.element → f.element.terms ≡ projector_of p n
lent_terms p f n same colour is =
    let m = f.params.meets.modulus.0 in
    projector_found f.params.modulus (loop_value f.params) f.colour f.element.terms (omega (arith, m)) is.terms ∙ ap₂ projector_of same colour

few_noncrossing : (n : ℕ) → n ≤ 8 → length (noncrossing n) ≤ 1430
few_noncrossing zero h = let e : length (noncrossing 0) ≡ 1 = refl in omega (arith, e)
few_noncrossing (suc zero) h = let e : length (noncrossing 1) ≡ 1 = refl in omega (arith, e)
few_noncrossing (suc (suc zero)) h = let e : length (noncrossing 2) ≡ 2 = refl in omega (arith, e)
few_noncrossing (suc (suc (suc zero))) h = let e : length (noncrossing 3) ≡ 5 = refl in omega (arith, e)
few_noncrossing (suc (suc (suc (suc zero)))) h = let e : length (noncrossing 4) ≡ 14 = refl in omega (arith, e)
few_noncrossing (suc (suc (suc (suc (suc zero))))) h = let e : length (noncrossing 5) ≡ 42 = refl in omega (arith, e)
few_noncrossing (suc (suc (suc (suc (suc (suc zero)))))) h = let e : length (noncrossing 6) ≡ 132 = refl in omega (arith, e)
few_noncrossing (suc (suc (suc (suc (suc (suc (suc zero))))))) h = let e : length (noncrossing 7) ≡ 429 = refl in omega (arith, e)
few_noncrossing (suc (suc (suc (suc (suc (suc (suc (suc zero)))))))) h = let e : length (noncrossing 8) ≡ 1430 = refl in omega (arith, e)
few_noncrossing (suc (suc (suc (suc (suc (suc (suc (suc (suc n))))))))) h = absurd (omega (arith, h))

pub few_terms : (e : Element) (terms : List Term) → IsWhole e → terms ≡ e.terms → length terms ≤ 1430
few_terms e terms whole same =
    let few = few_noncrossing e.strands whole.few in
    let long = ap length whole.partners in
    let mapped = length-map e.terms (λ (term : Term). term.partner) in
    let l = ap length same in
    omega (arith, few, long, mapped, l)

-- ---- what is held, by other names
pub held_at : (projectors lent : List Found) (n k : ℕ) → lent ≡ projectors → k ≡ n → Holds projectors n → Holds lent k
held_at projectors lent n k same colour held = (held.0, subst (λ fs. Contains fs held.0) (sym same) held.1, held.2 ∙ sym colour)

pub finds_for : (found : Found) (p : Parameters) (n : ℕ) (notes : Notes) → Finds found p n notes → IsFor (projector_in found) p n
finds_for (Shared f) p n notes h = h.1
finds_for (Own g) p n notes h = h.0

-- ---- a box
pub names_long : (names : List ℕ) (n label : ℕ) → names ≡ first_names n label → length names ≡ n
names_long names n label e = ap length e ∙ length-map-range_with_len (λ i. 16 * label + 2 * i) 0 n

pub labelled_box : (p : Parameters) (edges : List Edge) (group label : ℕ) → boxed_at edges label ≡ true → strands_box p (colour_at edges label) group true label ≡ label_box (strands_at p edges) group label
labelled_box p edges group label boxed =
    let n = colour_at edges label in
    let long = first_length (colour_at edges) (boxed_at edges) (projector_of p) label in
    ap₂ (λ terms own_names. box_node group terms (first_names n label) (second_names n own_names label)) (ap (projector_of p) (sym long)) (sym boxed)
