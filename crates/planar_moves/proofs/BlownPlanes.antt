-- A Loop has no place.
use Rattle.std.proofs.Common.{◌≡◌, ℕ, ltb, cond, List, [], ◌∷◌, ◌++◌, length, refl, sym, ap, ◌∙◌, subst}
use Rattle.pd_reader.specs.declared.item.Item.{Item}
use Rattle.pd_reader.specs.declared.item.Item.TheVariants as item
use Rattle.planar_check.specs.Places.{crossings_of}
use Rattle.planar_check.specs.Planar.{HasItsFaces}
use Rattle.diagram_moves.specs.Rewriting.{fresh}
use Rattle.diagram_moves.proofs.Results.{blown_up}
use Rattle.planar_moves.specs.Laws.{BlowUpPlanarLaw}

no_place : (items : List Item) (l : ℕ) → crossings_of (items ++ item.Loop l ∷ []) ≡ crossings_of items
no_place [] l = refl
no_place (item.X slots ∷ rest) l = ap (λ (cs : List (List ℕ)). cond (ltb 0 (length slots)) (slots ∷ cs) cs) (no_place rest l)
no_place (item.Loop k ∷ rest) l = no_place rest l

pub blow_up_planar : BlowUpPlanarLaw
blow_up_planar items sign moved h =
    let same : crossings_of moved.items ≡ crossings_of items = ap (crossings_of) (blown_up items sign moved h) ∙ no_place items (fresh items) in
    let P : List (List ℕ) → Type 0 = λ (cs : List (List ℕ)). HasItsFaces cs in
    ((λ k. subst P (sym same) k), (λ k. subst P same k))
