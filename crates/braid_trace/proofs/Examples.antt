-- The definitions, computed at worked values.
use Rattle.std.proofs.Common.{◌≡◌, ◌∷◌, [], pos, negsuc, Some, None, codes, refl}
use Rattle.text_shapes.specs.Reach.{place, reach}
use Rattle.text_shapes.specs.Tokens.{is_space}
use Rattle.braid_trace.specs.declared.fault.BraidFault.TheVariants.{Strands, Entry}
use Rattle.braid_trace.specs.Braids.{first_wide, refusal}

-- BR[3,{1,-2,1,-2}] is unrefused, BR[2,{2}] is refused for its entry 1, and BR[7,{}] for its strands
figure_eight : refusal (record { strands = 3; word = pos 1 ∷ negsuc 1 ∷ pos 1 ∷ negsuc 1 ∷ [] }) ≡ None
figure_eight = refl

wide : refusal (record { strands = 2; word = pos 2 ∷ [] }) ≡ Some (Entry 1 2)
wide = refl

seven : refusal (record { strands = 7; word = [] }) ≡ Some (Strands 7)
seven = refl

third : first_wide 2 (pos 1 ∷ negsuc 0 ∷ negsuc 1 ∷ []) ≡ Some 3
third = refl

-- "BR[2,{1,-1}]" is spelled by these tokens: one past its 12 bytes
whole : place (codes "BR[2,{1,-1}]") 0 (codes "BR" ∷ codes "[" ∷ codes "2" ∷ codes "," ∷ codes "{" ∷ codes "1" ∷ codes "," ∷ codes "-" ∷ codes "1" ∷ codes "}" ∷ codes "]" ∷ []) ≡ 13
unfolding reach is_space
whole = refl
