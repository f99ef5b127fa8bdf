-- The handle slide of component i over component j: j is doubled, and the copy becomes a part of i by a band.
--
-- Each crossing becomes a grid: a column for each under strand that it then has, a row for each over strand; columns go from
-- west to east, rows from south to north, where slot a lies south and slot b east. A strand of j becomes two, itself and its
-- copy, which lies on the side on which it lies at the place q of the band.
--
--              c2  c1
--              |   |
--         d1 --+---+-- b2      X[v11,h21,c2,d1], X[v12,b2,c1,h21]
--              |   |
--         d2 --+---+-- b1      X[a1,h11,v11,d2], X[a2,b1,v12,h11]
--              |   |
--              a1  a2
--
-- The band then joins i at the edge e with the copy of j at the copy of the edge f: of both edges the ends on one
-- side exchange their labels.
--
--     Slide                    over and onto: the components j and i; side: the walk of j comes in at q; along: it goes along
--                              the band as i does; copied: the label of each edge's copy
--     copy slide s             the copy of a strand
--     columns, rows slide s    the strands that stand for a strand, from west to east, from south to north
--     grid n columns rows      the crossings of a grid, row by row, whose inner edges are labelled from n on
--     inner columns rows       how many inner edges it has
--     doubled slide n pieces   all crossings so, with inner labels from n on
--     banded back e g pieces   the edges e and g exchange their ends: those that are left, or where `back` is false entered
--     curls plus f j entered k n pieces    k curls on the edge f of j, with new labels from n on
use Rattle.std.specs.Prelude.{ℕ, zero, suc, ◌+◌, ◌==◌, Bool, true, false, not, cond, if◌then◌else◌, List, [], ◌∷◌, ◌++◌, map}
use Rattle.graph_parts.specs.Renaming.{replaced}
use Rattle.slide_strands.specs.declared.strand.Strand.{Strand}
use Rattle.slide_strands.specs.declared.strand.Piece.{Piece}
use Rattle.slide_strands.specs.declared.strand.Piece.TheVariants.{Crossed, Free}
use Rattle.slide_strands.specs.Strands.{alike}

pub record Slide : Type 0 where
  pub over : ℕ
  pub onto : ℕ
  pub side : Bool
  pub along : Bool
  pub copied : ℕ → ℕ

module _ (slide : Slide) where
  -- the copy of a strand: a part of the component onto which it is slid
  abbrev pub copy : Strand → Strand
  copy s = record { from = slide.copied s.from; to = slide.copied s.to; ahead = alike slide.along s.ahead; component = slide.onto }

  -- the under strands that stand for an under strand, from west to east
  abbrev pub columns : Strand → List Strand
  columns s = cond (s.component == slide.over) (cond (alike s.ahead slide.side) (copy s ∷ s ∷ []) (s ∷ copy s ∷ [])) (s ∷ [])

  -- the over strands that stand for an over strand, from south to north
  abbrev pub rows : Strand → List Strand
  rows s = cond (s.component == slide.over) (cond (alike s.ahead slide.side) (s ∷ copy s ∷ []) (copy s ∷ s ∷ [])) (s ∷ [])

-- a strand up to an inner edge, and on from it
abbrev pub up_to : ℕ → Strand → Strand
up_to n s = record s { to = n }

abbrev pub on_from : ℕ → Strand → Strand
on_from n s = record s { from = n }

-- the crossings of a grid of one or two columns and rows
abbrev pub grid : ℕ → List Strand → List Strand → List Piece
grid n (u ∷ []) (o ∷ []) = Crossed u o ∷ []
grid n (u ∷ []) (o ∷ o' ∷ []) = Crossed (up_to n u) o ∷ Crossed (on_from n u) o' ∷ []
grid n (u ∷ u' ∷ []) (o ∷ []) = Crossed u (up_to n o) ∷ Crossed u' (on_from n o) ∷ []
grid n (u ∷ u' ∷ []) (o ∷ o' ∷ []) =
    Crossed (up_to n u) (up_to (n + 2) o) ∷ Crossed (up_to (n + 1) u') (on_from (n + 2) o)
    ∷ Crossed (on_from n u) (up_to (n + 3) o') ∷ Crossed (on_from (n + 1) u') (on_from (n + 3) o') ∷ []
grid n us os = []

-- how many inner edges a grid has
abbrev pub inner : List Strand → List Strand → ℕ
inner (u ∷ []) (o ∷ []) = 0
inner (u ∷ u' ∷ []) (o ∷ o' ∷ []) = 4
inner us os = 1

-- all crossings so
abbrev pub doubled : Slide → ℕ → List Piece → List Piece
doubled slide n [] = []
doubled slide n (Crossed u o ∷ pieces) =
    grid n (columns slide u) (rows slide o) ++ doubled slide (n + inner (columns slide u) (rows slide o)) pieces
doubled slide n (Free label ∷ pieces) = Free label ∷ doubled slide n pieces

-- e for g and g for e
abbrev pub exchanged : ℕ → ℕ → ℕ → ℕ
exchanged e g x = if x == e then g else if x == g then e else x

-- the end that is left gets another label, or, where `back` is false, the one that is entered
abbrev pub on_side : Bool → (ℕ → ℕ) → Strand → Strand
on_side back rename s = record s {
  from = cond (alike s.ahead back) s.from (rename s.from);
  to = cond (alike s.ahead back) (rename s.to) s.to;
}

abbrev pub piece_on_side : Bool → (ℕ → ℕ) → Piece → Piece
piece_on_side back rename (Crossed u o) = Crossed (on_side back rename u) (on_side back rename o)
piece_on_side back rename (Free label) = Free label

abbrev pub pieces_on_side : Bool → (ℕ → ℕ) → List Piece → List Piece
pieces_on_side back rename pieces = map (piece_on_side back rename) pieces

-- the band: the ends that are left, or entered, exchange the labels e and g
abbrev pub banded : Bool → ℕ → ℕ → List Piece → List Piece
banded back e g pieces = pieces_on_side back (exchanged e g) pieces

-- a curl on the edge f of component j, whose first end is entered or not: the second end gets the label n + 1, and n is the
-- curl's own edge
abbrev pub curl_under : ℕ → ℕ → ℕ → Bool → Strand
curl_under f j n entered = record { from = f; to = n; ahead = not entered; component = j }

abbrev pub curl_over : Bool → ℕ → ℕ → Bool → Strand
curl_over true j n entered = record { from = n; to = n + 1; ahead = not entered; component = j }
curl_over false j n entered = record { from = n + 1; to = n; ahead = entered; component = j }

abbrev pub curled : Bool → ℕ → ℕ → Bool → ℕ → List Piece → List Piece
curled plus f j entered n pieces = pieces_on_side entered (replaced f (n + 1)) pieces ++ Crossed (curl_under f j n entered) (curl_over plus j n entered) ∷ []

-- so many curls, with new labels from n on
abbrev pub curls : Bool → ℕ → ℕ → Bool → ℕ → ℕ → List Piece → List Piece
curls plus f j entered zero n pieces = pieces
curls plus f j entered (suc k) n pieces = curls plus f j entered k (n + 2) (curled plus f j entered n pieces)
