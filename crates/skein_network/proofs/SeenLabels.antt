-- Labels that were passed, the latest first or last: the same ones.
--
-- So the names at a place are those of the second place where the label is among those passed, and else those of the first.
-- Of at most one strand both are the same.
use Rattle.std.proofs.Common.{◌≡◌, ℕ, zero, suc, ◌+◌, ◌*◌, ◌<◌, ◌≤◌, ◌==◌, ◌&&◌, not, Bool, true, false, cond, List, [], ◌∷◌, reverse, refl, ap, ◌∙◌, arith, ⊎_elim}
use Rattle.std.specs.Set.{is_member}
use Rattle.std.proofs.lemmas.Grind.{reverse_onto}
use Rattle.graph_parts.proofs.Distinct.{is_member-append}
use Rattle.std.proofs.lemmas.Bool.{cases_Bool}
use Rattle.root_quantum.specs.Parameters.{Parameters}
use Rattle.cables.specs.Strands.{Strands, names_at, first_names, second_names}
use Rattle.skein_network.specs.Edges.{colour_at, boxed_at, strands_at}
use Rattle.skein_network.specs.declared.edge.Edge.{Edge}

pub member_reverse : (xs : List ℕ) (x : ℕ) → is_member ◌==◌ (reverse xs) x ≡ is_member ◌==◌ xs x
member_reverse [] x = refl
member_reverse (y ∷ xs) x =
    let ih = member_reverse xs x in
    ap (λ ys. is_member ◌==◌ ys x) (reverse_onto xs y []) ∙ is_member-append (reverse xs) (y ∷ []) x ∙ grind (arith, ih)

pub at_second : (strands : Strands) (seen : List ℕ) (label : ℕ) → is_member ◌==◌ seen label ≡ true → names_at strands (reverse seen) label ≡ strands.second label
at_second strands seen label h = ap (λ b. cond b (strands.second label) (strands.first label)) (member_reverse seen label ∙ h)

pub at_first : (strands : Strands) (seen : List ℕ) (label : ℕ) → is_member ◌==◌ seen label ≡ false → names_at strands (reverse seen) label ≡ strands.first label
at_first strands seen label h = ap (λ b. cond b (strands.second label) (strands.first label)) (member_reverse seen label ∙ h)

pub both_tests : (b s t : Bool) → b ≡ true → s ≡ t → not s ≡ (b && not t)
both_tests b s t e f = grind (arith, e, f)

-- at most one strand
unboxed : (n label : ℕ) → n < 2 → second_names n false label ≡ first_names n label
unboxed zero label few = refl
unboxed (suc zero) label few = let e : 16 * label + 2 * 0 + 0 ≡ 16 * label + 2 * 0 = omega arith in ap (λ name. name ∷ []) e
unboxed (suc (suc n)) label few = absurd (omega (arith, few))

pub at_either : (p : Parameters) (edges : List Edge) (seen : List ℕ) (label : ℕ) → colour_at edges label < 2 → (boxed_at edges label ≡ true → 2 ≤ colour_at edges label) →
    names_at (strands_at p edges) seen label ≡ first_names (colour_at edges label) label
at_either p edges seen label few some =
    let n = colour_at edges label in
    let off : boxed_at edges label ≡ false = ⊎_elim (λ t. let two = some t in absurd (omega (arith, two, few))) (λ f. f) (cases_Bool (boxed_at edges label)) in
    elim (is_member ◌==◌ seen label) as (λ there. cond there (second_names n (boxed_at edges label) label) (first_names n label) ≡ first_names n label) [
      | true ↦ ap (λ b. second_names n b label) off ∙ unboxed n label few
      | false ↦ refl
    ]
