-- What a gluing along the seam of two pairings gives is their product. The product is the pairing that the parts of the glued
-- pairs give, and at most one pairing is that of the parts.
use Rattle.std.proofs.Common.{◌≡◌, ℕ, ◌++◌, List, sym, ◌∙◌}
use Rattle.arc_gluing.specs.Pairings.{IsPairedBy}
use Rattle.arc_gluing.proofs.GluingLaws.{one_pairing_by_parts}
use Rattle.strand_algebra.specs.GluedProducts.{below_names, above_names, left_names, glued_pairs}
use Rattle.strand_algebra.specs.StrandPairings.{IsPairingOn, product}
use Rattle.strand_algebra.proofs.ByLabels.{IsPairingOf-from_points}
use Rattle.strand_algebra.proofs.Gluings.{pairs_among, glued_partners}
use Rattle.strand_algebra.proofs.StrandSeams.{left_open}

-- THE PRODUCT
pub product_of_gluing : (n : ℕ) (p q s : List ℕ) → IsPairingOn n p → IsPairingOn n q → IsPairedBy (glued_pairs n p q) (left_names n) s → s ≡ product n p q
product_of_gluing n p q s hp hq h =
    let a = IsPairingOf-from_points n p hp in
    let b = IsPairingOf-from_points n q hq in
    sym (one_pairing_by_parts (below_names n ++ above_names n) (left_names n) s (glued_pairs n p q) (pairs_among n p q a b) (record { once = left_open n }) h)
    ∙ glued_partners n p q a b
