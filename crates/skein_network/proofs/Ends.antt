-- Past the last item none is left.
use Rattle.std.proofs.Common.{◌≡◌, ℕ, ◌≤◌, List, [], ◌∷◌, length, drop, refl, arith}
use Rattle.std.proofs.lemmas.List.{length-drop}
use Rattle.pd_reader.specs.declared.item.NetItem.{NetItem}

pub none_left : (items : List NetItem) (i : ℕ) → length items ≤ i → drop i items ≡ []
none_left items i h = empty (drop i items) (let e = length-drop i items in omega (arith, e, h))
  where
    empty : (xs : List NetItem) → length xs ≡ 0 → xs ≡ []
    empty [] e = refl
    empty (x ∷ xs) e = absurd (omega (arith, e))
