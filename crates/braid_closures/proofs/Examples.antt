-- The definitions, computed at worked values.
use Rattle.std.proofs.Common.{◌≡◌, ◌∷◌, [], pos, negsuc, refl}
use Rattle.pd_reader.specs.declared.item.Item.TheVariants.{X, Loop}
use Rattle.braid_closures.specs.Closures.{closed}

-- BR[3,{}] closes to three loops
three_loops : closed (record { strands = 3; word = [] }) ≡ Loop 1 ∷ Loop 2 ∷ Loop 3 ∷ []
three_loops = refl

-- BR[2,{1,1}] to the Hopf link
hopf : closed (record { strands = 2; word = pos 1 ∷ pos 1 ∷ [] }) ≡ X (2 ∷ 4 ∷ 3 ∷ 1 ∷ []) ∷ X (4 ∷ 2 ∷ 1 ∷ 3 ∷ []) ∷ []
hopf = refl

-- one negative entry to a curl, beside a loop
curl : closed (record { strands = 3; word = negsuc 1 ∷ [] }) ≡ X (2 ∷ 3 ∷ 3 ∷ 2 ∷ []) ∷ Loop 1 ∷ []
curl = refl

-- BR[3,{1,-2,1}]
three_crossings : closed (record { strands = 3; word = pos 1 ∷ negsuc 1 ∷ pos 1 ∷ [] })
    ≡ X (2 ∷ 5 ∷ 4 ∷ 1 ∷ []) ∷ X (5 ∷ 3 ∷ 3 ∷ 6 ∷ []) ∷ X (6 ∷ 2 ∷ 1 ∷ 4 ∷ []) ∷ []
three_crossings = refl
