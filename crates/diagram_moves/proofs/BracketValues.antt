-- The bracket as the value of nodes at the labels themselves: names and groups do not matter.
use Rattle.std.proofs.Common.{◌≡◌, ℕ, ◌+◌, ◌*◌, ◌^◌, ◌%◌, List, [], ◌∷◌, ◌++◌, map, refl, sym, ap, ◌∙◌, arith, All}
use Rattle.std.specs.List.{AllByRecursion}
use Rattle.graph_parts.specs.Parts.{part_count}
use Rattle.pd_reader.specs.declared.item.Item.{Item}
use Rattle.pd_reader.specs.declared.item.Item.TheVariants as item
use Rattle.pd_reader.specs.Items.{HasItsSlots}
use Rattle.root_quantum.specs.Parameters.{Parameters}
use Rattle.root_quantum.specs.QuantumNumbers.{inverse_root, loop_value}
use Rattle.diagram_brackets.specs.Brackets.{strand_name, crossing_nodes, loop_count, bracket}
use Rattle.diagram_brackets.specs.Crossings.{crossing_node}
use Rattle.state_sums.specs.LocalSums.{rename}
use Rattle.state_sums.specs.Networks.{Node, IsNode, names_of}
use Rattle.state_sums.specs.StateSums.{value, term_edges}
use Rattle.state_sums.proofs.NetworkLaws.{any_names}
use Rattle.state_sums.proofs.StateSums.{state_sum-nested}
use Rattle.list_lemmas.proofs.Sums.{sum_by_same}
use Rattle.state_sums.proofs.Sums.{total}
use Rattle.diagram_moves.proofs.Nodes.{nodes_of, kept_none, IsNode-kept}
use Rattle.std.proofs.Common.{subst}

regrouped_names : (p : Parameters) (g : ℕ) (items : List Item) → names_of (crossing_nodes p g items) ≡ names_of (rename strand_name (nodes_of p.root (inverse_root p) items))
regrouped_names p g [] = refl
regrouped_names p g (item.X slots ∷ rest) = ap (λ ns. map strand_name slots ++ ns) (regrouped_names p (g + 1) rest)
regrouped_names p g (item.Loop label ∷ rest) = regrouped_names p g rest

regrouped : (p : Parameters) (g : ℕ) (items : List Item) (f : List (ℕ × ℕ) → ℕ) →
    total (crossing_nodes p g items) f ≡ total (rename strand_name (nodes_of p.root (inverse_root p) items)) f
regrouped p g [] f = refl
regrouped p g (item.X slots ∷ rest) f =
    let here : Node = crossing_node p 0 (map strand_name slots) in
    sum_by_same _ _ here.terms (λ term. ap (λ n. term.weight * n) (regrouped p (g + 1) rest (λ es. f (term_edges here term ++ es))))
regrouped p g (item.Loop label ∷ rest) f = regrouped p g rest f

-- THE BRACKET AT THE LABELS THEMSELVES
pub bracket_value : (p : Parameters) (items : List Item) → AllByRecursion HasItsSlots items →
    bracket p items ≡ value p.modulus (loop_value p) record { nodes = nodes_of p.root (inverse_root p) items; free_loops = loop_count items }
unfolding bracket value
bracket_value p items sizes =
    let d = loop_value p in
    let free = loop_count items in
    let a = p.root in
    let b = inverse_root p in
    let nodes = nodes_of a b items in
    let are : All IsNode nodes = (let P : List Node → Type 0 = λ ns. All IsNode ns in subst P (kept_none a b 1 items) (IsNode-kept a b [] 1 items sizes)) in
    ap (λ n. n % p.modulus)
    (state_sum-nested d (crossing_nodes p 1 items) free
    ∙ regrouped p 1 items (λ es. d ^ (part_count (names_of (crossing_nodes p 1 items)) es + free))
    ∙ ap (λ ns. total (rename strand_name nodes) (λ es. d ^ (part_count ns es + free))) (regrouped_names p 1 items)
    ∙ sym (state_sum-nested d (rename strand_name nodes) free))
    ∙ any_names p.modulus d free strand_name nodes are (λ u v q r e. let t : 16 * u ≡ 16 * v = e in omega (arith, t))
