-- Curves without crossings stay as they are. And a label that is entered in the old pieces is entered in those of the slide.
use Rattle.std.proofs.Common.{◌≡◌, ℕ, zero, suc, ◌+◌, ◌≤◌, Bool, true, false, List, [], ◌∷◌, ◌++◌, refl, ap, ◌∙◌, arith}
use Rattle.graph_parts.specs.Renaming.{replaced}
use Rattle.slide_strands.specs.declared.strand.Strand.{Strand}
use Rattle.slide_strands.specs.declared.strand.Piece.{Piece}
use Rattle.slide_strands.specs.declared.strand.Piece.TheVariants.{Crossed, Free}
use Rattle.slide_strands.specs.Strands.{strands, end_sum, is_label, IsDirected}
use Rattle.slide_strands.specs.Doubling.{Slide, columns, rows, grid, inner, doubled, exchanged, pieces_on_side, banded, curl_under, curl_over, curled, curls}
use Rattle.slide_strands.proofs.Directions.{doubled_ends, side_ends}
use Rattle.slide_strands.proofs.SignSums.{is_short, columns_short, rows_short}

-- the labels of the curves without crossings
abbrev pub free : List Piece → List ℕ
free [] = []
free (Crossed u o ∷ pieces) = free pieces
free (Free label ∷ pieces) = label ∷ free pieces

pub free_on_side : (back : Bool) (rename : ℕ → ℕ) (ps : List Piece) → free (pieces_on_side back rename ps) ≡ free ps
free_on_side back rename [] = refl
free_on_side back rename (Crossed u o ∷ ps) = free_on_side back rename ps
free_on_side back rename (Free label ∷ ps) = ap (λ (ls : List ℕ). label ∷ ls) (free_on_side back rename ps)

free_push : (u o : Strand) (ps : List Piece) → free (ps ++ Crossed u o ∷ []) ≡ free ps
free_push u o [] = refl
free_push u o (Crossed v w ∷ ps) = free_push u o ps
free_push u o (Free label ∷ ps) = ap (λ (ls : List ℕ). label ∷ ls) (free_push u o ps)

pub free_curled : (plus : Bool) (f j : ℕ) (entered : Bool) (n : ℕ) (ps : List Piece) → free (curled plus f j entered n ps) ≡ free ps
free_curled plus f j entered n ps = free_push (curl_under f j n entered) (curl_over plus j n entered) (pieces_on_side entered (replaced f (n + 1)) ps) ∙ free_on_side entered (replaced f (n + 1)) ps

pub free_curls : (plus : Bool) (f j : ℕ) (entered : Bool) (k n : ℕ) (ps : List Piece) → free (curls plus f j entered k n ps) ≡ free ps
free_curls plus f j entered zero n ps = refl
free_curls plus f j entered (suc k) n ps =
    free_curls plus f j entered k (n + 2) (curled plus f j entered n ps)
    ∙ (free_push (curl_under f j n entered) (curl_over plus j n entered) (pieces_on_side entered (replaced f (n + 1)) ps) ∙ free_on_side entered (replaced f (n + 1)) ps)

free_grid : (n : ℕ) (rest : List Piece) (us os : List Strand) → is_short us ≡ true → is_short os ≡ true → free (grid n us os ++ rest) ≡ free rest
free_grid n rest [] os h k = absurd (cc)
free_grid n rest (u ∷ u' ∷ u'' ∷ us) os h k = absurd (cc)
free_grid n rest (u ∷ []) [] h k = absurd (cc)
free_grid n rest (u ∷ u' ∷ []) [] h k = absurd (cc)
free_grid n rest (u ∷ []) (o ∷ o' ∷ o'' ∷ os) h k = absurd (cc)
free_grid n rest (u ∷ u' ∷ []) (o ∷ o' ∷ o'' ∷ os) h k = absurd (cc)
free_grid n rest (u ∷ []) (o ∷ []) h k = refl
free_grid n rest (u ∷ []) (o ∷ o' ∷ []) h k = refl
free_grid n rest (u ∷ u' ∷ []) (o ∷ []) h k = refl
free_grid n rest (u ∷ u' ∷ []) (o ∷ o' ∷ []) h k = refl

pub free_doubled : (slide : Slide) (n : ℕ) (ps : List Piece) → free (doubled slide n ps) ≡ free ps
free_doubled slide n [] = refl
free_doubled slide n (Crossed u o ∷ ps) =
    let next = n + inner (columns slide u) (rows slide o) in
    free_grid n (doubled slide next ps) (columns slide u) (rows slide o) (columns_short slide u) (rows_short slide o) ∙ free_doubled slide next ps
free_doubled slide n (Free label ∷ ps) = ap (λ (ls : List ℕ). label ∷ ls) (free_doubled slide n ps)

-- a label that is entered once is still entered once there is the copy and the band
pub still_entered : (slide : Slide) (back : Bool) (e g n x : ℕ) (ps : List Piece) → IsDirected (strands (doubled slide n ps)) → IsDirected (strands (banded back e g (doubled slide n ps))) →
    1 ≤ end_sum true (is_label x) (strands ps) → 1 ≤ end_sum true (is_label x) (strands (banded back e g (doubled slide n ps)))
still_entered slide true e g n x ps d d' h =
    let kept = side_ends true true (exchanged e g) (is_label x) (doubled slide n ps) in
    let more = doubled_ends true (is_label x) slide n ps in
    omega (arith, kept, more, h)
still_entered slide false e g n x ps d d' h =
    let kept = side_ends false false (exchanged e g) (is_label x) (doubled slide n ps) in
    let more = doubled_ends true (is_label x) slide n ps in
    omega (arith, kept, more, h, d (is_label x), d' (is_label x))
