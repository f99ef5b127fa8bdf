-- The definitions, computed: the bigon that R2[1,3] makes in the left-handed trefoil is a face of two places.
use Rattle.std.proofs.Common.{◌≡◌, List, [], ◌∷◌, true, refl}
use Rattle.pd_reader.specs.declared.item.Item.{Item}
use Rattle.pd_reader.specs.declared.item.Item.TheVariants.{X}
use Rattle.planar_check.specs.declared.sign.Sign.TheVariants as signs
use Rattle.planar_check.specs.Places.{other_place}
use Rattle.diagram_moves.specs.Moves.{is_bigon}
use Rattle.script_reader.specs.declared.step.Step.TheVariants.{BlowUp, Curl}
use Rattle.move_results.specs.Laws.{added, place, next_of}

abbrev pushed_trefoil : List Item
pushed_trefoil =
    X (1 ∷ 4 ∷ 2 ∷ 5 ∷ []) ∷ X (3 ∷ 6 ∷ 4 ∷ 8 ∷ []) ∷ X (5 ∷ 2 ∷ 6 ∷ 10 ∷ []) ∷ X (9 ∷ 1 ∷ 10 ∷ 7 ∷ []) ∷ X (3 ∷ 8 ∷ 9 ∷ 7 ∷ []) ∷ []

-- the labels 9 and 7 bound the bigon
by_labels : is_bigon (9 ∷ 1 ∷ 10 ∷ 7 ∷ []) (3 ∷ 8 ∷ 9 ∷ 7 ∷ []) (0, 2) ≡ true
by_labels = refl

goes_on : next_of pushed_trefoil (place 4 0) ≡ place 5 3
unfolding other_place
goes_on = refl

comes_back : next_of pushed_trefoil (place 5 3) ≡ place 4 0
unfolding other_place
comes_back = refl

-- a blow-up adds a component, whose label is the greatest plus 1; a curl adds none
blown_up : added (BlowUp signs.Plus) pushed_trefoil ≡ 11 ∷ []
blown_up = refl

curled : added (Curl 1 signs.Minus) pushed_trefoil ≡ []
curled = refl
