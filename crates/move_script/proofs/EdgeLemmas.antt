-- Edges by their places, and the greatest label.
use Rattle.std.proofs.Common.{◌≡◌, ℕ, ◌≤◌, true, false, not, cond, ◌==◌, List, [], ◌∷◌, length, Some, None, sym, ap, subst, ◌∙◌, arith, ⊎_elim}
use Rattle.std.specs.List.{AllByRecursion}
use Rattle.std.specs.Set.{is_member}
use Rattle.std.proofs.lemmas.Bool.{cases_Bool, eqb-true, lt-ltb}
use Rattle.std.proofs.lemmas.List.Quantifiers.{position-Some}
use Rattle.graph_parts.proofs.Ends.{is_member-get_or}
use Rattle.pd_reader.specs.declared.item.Item.{Item}
use Rattle.pd_reader.specs.Diagrams.{IsLabel}
use Rattle.planar_check.specs.Components.{greatest, rank}
use Rattle.planar_check.specs.Places.{first_place, place_labels}
use Rattle.diagram_moves.specs.Moves.{is_loop}
use Rattle.diagram_moves.proofs.PlaceLemmas.{index_has, place_labels_are}

-- a label with a first place stands at one, and one without stands at none
stands_there : (ls : List ℕ) (e p : ℕ) → first_place ls e ≡ Some p → is_member ◌==◌ ls e ≡ true
stands_there ls e p h =
    let at = position-Some (λ other. other == e) ls p 0 h in
    subst (λ (x : ℕ). is_member ◌==◌ ls x ≡ true) (eqb-true _ e at.1) (is_member-get_or ls p at.0)

stands_nowhere : (ls : List ℕ) (e : ℕ) → first_place ls e ≡ None → is_member ◌==◌ ls e ≡ false
stands_nowhere ls e h =
    ⊎_elim
    (λ t. let low = lt-ltb (rank ls e) (length ls) (index_has ls e t).0 in
    let some : Some (rank ls e) ≡ None = sym (ap (λ c. cond c (Some (rank ls e)) None) low) ∙ h in absurd cc)
    (λ t. t)
    (cases_Bool (is_member ◌==◌ ls e))

pub no_loop : (items : List Item) (e p : ℕ) → first_place (place_labels items) e ≡ Some p → is_loop items e ≡ false
no_loop items e p h = ap not (sym (ap (λ ls. is_member ◌==◌ ls e) (place_labels_are items)) ∙ stands_there (place_labels items) e p h)

pub a_loop : (items : List Item) (e : ℕ) → first_place (place_labels items) e ≡ None → is_loop items e ≡ true
a_loop items e h = ap not (sym (ap (λ ls. is_member ◌==◌ ls e) (place_labels_are items)) ∙ stands_nowhere (place_labels items) e h)

-- the greatest of labels is at most the greatest of all
pub greatest_in_range : (ls : List ℕ) → AllByRecursion IsLabel ls → greatest ls ≤ 2000000
greatest_in_range [] h = omega arith
greatest_in_range (l ∷ ls) h = let ih = greatest_in_range ls h.1 in let high = h.0.high in omega (arith, ih, high)
