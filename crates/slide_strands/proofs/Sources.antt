-- The components of strands after curls, doubling and the band are old ones.
use Rattle.std.proofs.Common.{◌≡◌, ℕ, zero, suc, ◌+◌, ◌==◌, Bool, true, false, cond, List, [], ◌∷◌, ◌++◌}
use Rattle.std.specs.List.{AllByRecursion}
use Rattle.graph_parts.specs.Renaming.{replaced}
use Rattle.slide_strands.specs.declared.strand.Strand.{Strand}
use Rattle.slide_strands.specs.declared.strand.Piece.{Piece}
use Rattle.slide_strands.specs.declared.strand.Piece.TheVariants.{Crossed, Free}
use Rattle.slide_strands.specs.Strands.{alike, strands}
use Rattle.slide_strands.specs.Doubling.{Slide, copy, columns, rows, grid, inner, doubled, exchanged, pieces_on_side, banded, curl_under, curl_over, curled, curls}
use Rattle.slide_strands.proofs.Joins.{every_append, every_on_side}
use Rattle.slide_strands.proofs.SignSums.{is_short, columns_short, rows_short}

module _ (Good : ℕ → Type 0) where
  abbrev pub Of : Strand → Type 0
  Of s = Good s.component

  over_good : (plus : Bool) (j n : ℕ) (entered : Bool) → Good j → Of (curl_over plus j n entered)
  over_good true j n entered h = h
  over_good false j n entered h = h

  pub curls_components : (plus : Bool) (f j : ℕ) (entered : Bool) (k n : ℕ) (pieces : List Piece) → Good j → AllByRecursion Of (strands pieces) → AllByRecursion Of (strands (curls plus f j entered k n pieces))
  curls_components plus f j entered zero n pieces g h = h
  curls_components plus f j entered (suc k) n pieces g h =
      curls_components plus f j entered k (n + 2) (curled plus f j entered n pieces) g
      (every_append Of (pieces_on_side entered (replaced f (n + 1)) pieces) (Crossed (curl_under f j n entered) (curl_over plus j n entered) ∷ [])
      (every_on_side Of entered (replaced f (n + 1)) pieces h) (g, (over_good plus j n entered g, tt)))

  both : (s t : Strand) (b c : Bool) → Of s → Of t → AllByRecursion Of (cond b (cond c (t ∷ s ∷ []) (s ∷ t ∷ [])) (s ∷ []))
  both s t true true h k = (k, (h, tt))
  both s t true false h k = (h, (k, tt))
  both s t false c h k = (h, tt)

  both_rows : (s t : Strand) (b c : Bool) → Of s → Of t → AllByRecursion Of (cond b (cond c (s ∷ t ∷ []) (t ∷ s ∷ [])) (s ∷ []))
  both_rows s t true true h k = (h, (k, tt))
  both_rows s t true false h k = (k, (h, tt))
  both_rows s t false c h k = (h, tt)

  grid_good : (n : ℕ) (rest : List Piece) (us os : List Strand) → is_short us ≡ true → is_short os ≡ true → AllByRecursion Of us → AllByRecursion Of os → AllByRecursion Of (strands rest) →
      AllByRecursion Of (strands (grid n us os ++ rest))
  grid_good n rest [] os h k a b r = absurd (cc)
  grid_good n rest (u ∷ u' ∷ u'' ∷ us) os h k a b r = absurd (cc)
  grid_good n rest (u ∷ []) [] h k a b r = absurd (cc)
  grid_good n rest (u ∷ u' ∷ []) [] h k a b r = absurd (cc)
  grid_good n rest (u ∷ []) (o ∷ o' ∷ o'' ∷ os) h k a b r = absurd (cc)
  grid_good n rest (u ∷ u' ∷ []) (o ∷ o' ∷ o'' ∷ os) h k a b r = absurd (cc)
  grid_good n rest (u ∷ []) (o ∷ []) h k a b r = (a.0, (b.0, r))
  grid_good n rest (u ∷ []) (o ∷ o' ∷ []) h k a b r = (a.0, (b.0, (a.0, (b.1.0, r))))
  grid_good n rest (u ∷ u' ∷ []) (o ∷ []) h k a b r = (a.0, (b.0, (a.1.0, (b.0, r))))
  grid_good n rest (u ∷ u' ∷ []) (o ∷ o' ∷ []) h k a b r = (a.0, (b.0, (a.1.0, (b.0, (a.0, (b.1.0, (a.1.0, (b.1.0, r))))))))

  doubled_good : (slide : Slide) (n : ℕ) (pieces : List Piece) → Good slide.onto → AllByRecursion Of (strands pieces) → AllByRecursion Of (strands (doubled slide n pieces))
  doubled_good slide n [] g h = tt
  doubled_good slide n (Crossed u o ∷ pieces) g h =
      let next = n + inner (columns slide u) (rows slide o) in
      grid_good n (doubled slide next pieces) (columns slide u) (rows slide o) (columns_short slide u) (rows_short slide o)
      (both u (copy slide u) (u.component == slide.over) (alike u.ahead slide.side) h.0 g) (both_rows o (copy slide o) (o.component == slide.over) (alike o.ahead slide.side) h.1.0 g)
      (doubled_good slide next pieces g h.1.1)
  doubled_good slide n (Free label ∷ pieces) g h = doubled_good slide n pieces g h

  pub slid_components : (slide : Slide) (back : Bool) (e g n : ℕ) (pieces : List Piece) → Good slide.onto → AllByRecursion Of (strands pieces) → AllByRecursion Of (strands (banded back e g (doubled slide n pieces)))
  slid_components slide back e g n pieces good h = every_on_side Of back (exchanged e g) (doubled slide n pieces) (doubled_good slide n pieces good h)
