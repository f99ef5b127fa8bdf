-- The definitions, computed at worked values.
use Rattle.std.proofs.Common.{◌≡◌, ℕ, List, [], ◌∷◌, ◌++◌, codes, Some, None, refl, ap, lit<}
use Rattle.std.proofs.lemmas.Fmt.{decimal_digit}
use Rattle.pd_reader.specs.declared.item.Item.{Item}
use Rattle.pd_reader.specs.declared.item.Item.TheVariants.{X, Loop}
use Rattle.pd_reader.specs.declared.item.NetItem.TheVariants.{Y}
use Rattle.pd_reader.specs.declared.fault.DiagramFault.TheVariants.{Label}
use Rattle.pd_reader.specs.Items.{item_labels, net_item_labels}
use Rattle.pd_reader.specs.Diagrams.{refusal}
use Rattle.pd_reader.specs.Texts.{written}
use Rattle.pd_reader.specs.Torus.{torus_items}

-- the left-handed trefoil
trefoil : List Item
trefoil = X (1 ∷ 4 ∷ 2 ∷ 5 ∷ []) ∷ X (3 ∷ 6 ∷ 4 ∷ 1 ∷ []) ∷ X (5 ∷ 2 ∷ 6 ∷ 3 ∷ []) ∷ []

trefoil_is_unrefused : refusal item_labels trefoil ≡ None
unfolding trefoil
trefoil_is_unrefused = refl

-- PD[X[1,1,1,2]]: label 1 stands 3 times, and PD[Loop[1],Loop[1]]: 4 times
three_times : refusal item_labels (X (1 ∷ 1 ∷ 1 ∷ 2 ∷ []) ∷ []) ≡ Some (Label 1 3)
three_times = refl

two_loops : refusal item_labels (Loop 1 ∷ Loop 1 ∷ []) ≡ Some (Label 1 4)
two_loops = refl

-- Net[Y[1,2,3]]: label 1 stands once
one_vertex : refusal net_item_labels (Y (1 ∷ 2 ∷ 3 ∷ []) ∷ []) ≡ Some (Label 1 1)
one_vertex = refl

theta : refusal net_item_labels (Y (1 ∷ 2 ∷ 3 ∷ []) ∷ Y (3 ∷ 2 ∷ 1 ∷ []) ∷ []) ≡ None
theta = refl

-- the torus link with three crossings
three_crossings : torus_items 3 ≡ X (2 ∷ 4 ∷ 3 ∷ 1 ∷ []) ∷ X (4 ∷ 6 ∷ 5 ∷ 3 ∷ []) ∷ X (6 ∷ 2 ∷ 1 ∷ 5 ∷ []) ∷ []
three_crossings = refl

-- the canonical spelling of an unknot
unknot_written : written (Loop 1 ∷ []) ≡ codes "PD[Loop[1]]"
unknot_written = ap (λ (digits : List ℕ). codes "PD[Loop[" ++ (digits ++ codes "]]")) (decimal_digit 1 (lit< tt))
