-- Framed diagrams and their linking matrices. A framing is a whole number, at most 2^60 in size, for each
-- component (Lickorish, ch. 12); components are numbered from 1. The linking matrix has the framings on
-- its diagonal, the linking numbers elsewhere.
--
--     FramedDiagram              the items of a diagram, and the framings of its components in their order
--     framing_of framed i        the framing of component i
--     is_large framing           the framing is past 2^60 in size
--     first_large framings       the first component whose framing is, if there is one
--     IsFramed framed            there is one framing for each component, and none is large
--     linking_entry framed i j   the linking matrix in row i and column j, which count from 1 as components do
--
-- The chain X[1,6,2,5] X[6,3,5,2] X[3,8,4,7] X[8,1,7,4] of three with the framings 0,0,0 has the rows 0,1,1;
-- 1,0,0; 1,0,0.
use Rattle.std.specs.Prelude.{◌≡◌, ℕ, suc, ◌-◌, ◌^◌, ◌==◌, ℤ, pos, Bool, false, nat_lt, if◌then◌else◌, List, length, slice_index_or, Option, option_map}
use Rattle.std.specs.Int.RustNames.{unsigned_abs}
use Rattle.std.specs.List.{All, position}
use Rattle.pd_reader.specs.declared.item.Item.{Item}
use Rattle.planar_check.specs.Components.{least_labels}
use Rattle.planar_check.specs.Signs.{linking}

-- a diagram with a framing for each component
pub record FramedDiagram : Type 0 where
  pub items : List Item
  pub framings : List ℤ

-- the framing of component i
abbrev pub framing_of : FramedDiagram → ℕ → ℤ
framing_of framed i = slice_index_or framed.framings (i - 1) (pos 0)

-- past 2^60 in size
abbrev pub is_large : ℤ → Bool
is_large framing = nat_lt (2 ^ 60) (unsigned_abs framing)

-- the first component whose framing is
abbrev pub first_large : List ℤ → Option ℕ
first_large framings = option_map suc (position is_large framings)

-- one framing for each component, none of them large
pub record IsFramed (framed : FramedDiagram) : Type 0 where
  pub count : length framed.framings ≡ length (least_labels framed.items)
  pub small : All (λ framing. is_large framing ≡ false) framed.framings

-- the framings on the diagonal, the linking numbers elsewhere
abbrev pub linking_entry : FramedDiagram → ℕ → ℕ → ℤ
linking_entry framed i j = if i == j then framing_of framed i else linking framed.items i j
