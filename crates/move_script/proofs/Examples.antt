-- The tables of the code, computed at worked values.
use Rattle.std.proofs.Common.{◌≡◌, [], ◌∷◌, pos, refl}
use Rattle.pd_reader.specs.declared.item.Item.TheVariants.{Loop}
use Rattle.planar_check.specs.declared.sign.Sign.TheVariants.{Plus}
use Rattle.script_reader.specs.declared.step.Step.TheVariants.{BlowUp, R2}
use Rattle.move_script.specs.FramedMoves.{framings_after}
use Rattle.move_script.specs.Tables.{anew, cut_by, joined}

-- 7 and 3 become 3, then 3 and 1 become 1
least_of_three : joined ((7, 3) ∷ (3, 1) ∷ []) 7 ≡ 1
least_of_three = refl

untouched : joined ((7, 3) ∷ (3, 1) ∷ []) 4 ≡ 4
untouched = refl

cut : cut_by ((5, 9) ∷ (2, 11) ∷ []) 2 6 ≡ 11
cut = refl

uncut : cut_by ((5, 9) ∷ (2, 11) ∷ []) 3 6 ≡ 6
uncut = refl

new_slots : anew ((2, 1 ∷ 2 ∷ 3 ∷ 4 ∷ []) ∷ []) 2 (5 ∷ 6 ∷ 7 ∷ 8 ∷ []) ≡ 1 ∷ 2 ∷ 3 ∷ 4 ∷ []
new_slots = refl

one_more : framings_after (record { items = Loop 1 ∷ []; framings = pos 3 ∷ [] }) (BlowUp Plus) ≡ pos 3 ∷ pos 1 ∷ []
one_more = refl

no_more : framings_after (record { items = Loop 1 ∷ []; framings = pos 3 ∷ [] }) (R2 1 1) ≡ pos 3 ∷ []
no_more = refl
