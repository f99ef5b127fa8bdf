-- The definitions, computed at worked values.
use Rattle.std.proofs.Common.{◌≡◌, ◌∷◌, [], Some, None, refl}
use Rattle.tetra_reader.specs.declared.item.TetraItem.TheVariants as items
use Rattle.tetra_reader.specs.declared.fault.TetraText.TheVariants.{Face}
use Rattle.tetra_reader.specs.Tetras.{refusal}

-- the face 1, 5, 6 is not listed
missing : refusal (items.F (1 ∷ 2 ∷ 3 ∷ []) ∷ items.T (1 ∷ 2 ∷ 3 ∷ 4 ∷ 5 ∷ 6 ∷ []) ∷ []) ≡ Some (Face 1)
missing = refl

-- all four are, in other orders of their labels
listed :
    refusal
    (items.F (3 ∷ 2 ∷ 1 ∷ [])
    ∷ items.F (6 ∷ 1 ∷ 5 ∷ [])
    ∷ items.F (4 ∷ 6 ∷ 2 ∷ [])
    ∷ items.F (5 ∷ 3 ∷ 4 ∷ [])
    ∷ items.T (1 ∷ 2 ∷ 3 ∷ 4 ∷ 5 ∷ 6 ∷ [])
    ∷ [])
    ≡ None
listed = refl

-- 1, 1, 2 is not the face 1, 2, 2
counted : refusal (items.F (1 ∷ 2 ∷ 2 ∷ []) ∷ items.F (1 ∷ 1 ∷ 1 ∷ []) ∷ items.T (1 ∷ 1 ∷ 2 ∷ 1 ∷ 1 ∷ 1 ∷ []) ∷ []) ≡ Some (Face 1)
counted = refl
