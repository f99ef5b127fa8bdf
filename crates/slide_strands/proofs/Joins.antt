-- What strands join. A fact on each strand of a list; an inner edge of a grid joins the halves of a strand; what the old strands
-- join, the doubled diagram joins between the old labels, and between their copies.
use Rattle.std.proofs.Common.{◌≡◌, ℕ, ◌+◌, ◌==◌, Bool, true, false, cond, List, [], ◌∷◌, ◌++◌, Contains, inl, refl, sym, subst, ◌∙◌, arith, ⊎_elim}
use Rattle.std.specs.List.{AllByRecursion}
use Rattle.graph_parts.specs.Walks.{Joined, along, stay, back, on}
use Rattle.graph_parts.proofs.Agreement.{Joined-wider}
use Rattle.graph_parts.proofs.Walks.{Contains-head, Contains-later, Contains-cases}
use Rattle.slide_strands.specs.declared.strand.Strand.{Strand}
use Rattle.slide_strands.specs.declared.strand.Piece.{Piece}
use Rattle.slide_strands.specs.declared.strand.Piece.TheVariants.{Crossed, Free}
use Rattle.slide_strands.specs.Strands.{alike, strands, piece_edges}
use Rattle.slide_strands.specs.Doubling.{Slide, copy, columns, rows, up_to, on_from, grid, inner, doubled, on_side, pieces_on_side}
use Rattle.slide_strands.proofs.SignSums.{is_short, columns_short, rows_short}

-- ---- facts on each strand
pub every_weaker : (P Q : Strand → Type 0) → ((s : Strand) → P s → Q s) → (ss : List Strand) → AllByRecursion P ss → AllByRecursion Q ss
every_weaker P Q f [] h = tt
every_weaker P Q f (s ∷ ss) h = (f s h.0, every_weaker P Q f ss h.1)

pub every_both : (P Q : Strand → Type 0) (ss : List Strand) → AllByRecursion P ss → AllByRecursion Q ss → AllByRecursion (λ s. P s × Q s) ss
every_both P Q [] h k = tt
every_both P Q (s ∷ ss) h k = ((h.0, k.0), every_both P Q ss h.1 k.1)

pub every_append : (P : Strand → Type 0) (ps qs : List Piece) → AllByRecursion P (strands ps) → AllByRecursion P (strands qs) → AllByRecursion P (strands (ps ++ qs))
every_append P [] qs h k = k
every_append P (Crossed u o ∷ ps) qs h k = (h.0, (h.1.0, every_append P ps qs h.1.1 k))
every_append P (Free label ∷ ps) qs h k = every_append P ps qs h k

pub every_on_side : (P : Strand → Type 0) (side : Bool) (rename : ℕ → ℕ) (ps : List Piece) → AllByRecursion (λ s. P (on_side side rename s)) (strands ps) → AllByRecursion P (strands (pieces_on_side side rename ps))
every_on_side P side rename [] h = tt
every_on_side P side rename (Crossed u o ∷ ps) h = (h.0, (h.1.0, every_on_side P side rename ps h.1.1))
every_on_side P side rename (Free label ∷ ps) h = every_on_side P side rename ps h

pub every_from_side : (P : Strand → Type 0) (side : Bool) (rename : ℕ → ℕ) (ps : List Piece) → AllByRecursion P (strands (pieces_on_side side rename ps)) → AllByRecursion (λ s. P (on_side side rename s)) (strands ps)
every_from_side P side rename [] h = tt
every_from_side P side rename (Crossed u o ∷ ps) h = (h.0, (h.1.0, every_from_side P side rename ps h.1.1))
every_from_side P side rename (Free label ∷ ps) h = every_from_side P side rename ps h

-- ---- edges and strands
wider : (es fs : List (ℕ × ℕ)) → ((x y : ℕ) → Contains es (x, y) → Contains fs (x, y)) → (x y : ℕ) → Joined es x y → Joined fs x y
wider es fs h x y j = Joined-wider es fs (λ a b c. inl (h a b c)) {x = x} {y = y} j

later_two : (a b : ℕ × ℕ) (es : List (ℕ × ℕ)) (x y : ℕ) → Joined es x y → Joined (a ∷ b ∷ es) x y
later_two a b es x y j = wider es (a ∷ b ∷ es) (λ u v c. Contains-later a (u, v) (b ∷ es) (Contains-later b (u, v) es c)) x y j

-- the ends of each strand are joined
pub all_joined : (ps : List Piece) → AllByRecursion (λ s. Joined (piece_edges ps) s.from s.to) (strands ps)
all_joined [] = tt
all_joined (Crossed u o ∷ ps) =
    let a : ℕ × ℕ = (u.from, u.to) in
    let b : ℕ × ℕ = (o.to, o.from) in
    let es = piece_edges ps in (
      along (Contains-head a (b ∷ es)),
      (
        back (along (Contains-later a b (b ∷ es) (Contains-head b es))),
        every_weaker (λ s. Joined es s.from s.to) (λ s. Joined (a ∷ b ∷ es) s.from s.to) (λ s j. later_two a b es s.from s.to j) (strands ps) (all_joined ps),
      ),
    )
all_joined (Free label ∷ ps) = all_joined ps

-- an edge is a strand, this way round or the other
module _ (R : ℕ → ℕ → Type 0) (turn : (x y : ℕ) → R x y → R y x) where
  pub edge_holds : (ps : List Piece) → AllByRecursion (λ s. R s.from s.to) (strands ps) → (x y : ℕ) → Contains (piece_edges ps) (x, y) → R x y
  edge_holds [] h x y (k, l, e) = absurd (omega (arith, l))
  edge_holds (Crossed u o ∷ ps) h x y c =
      let at : (a b : ℕ) → (a, b) ≡ (x, y) → R a b → R x y = λ a b e r. subst (λ (f : ℕ × ℕ). R f.0 f.1) e r in
      ⊎_elim (λ e. at u.from u.to e h.0)
      (λ d. ⊎_elim (λ e. at o.to o.from e (turn o.from o.to h.1.0)) (λ m. edge_holds ps h.1.1 x y m)
      (Contains-cases (o.to, o.from) (x, y) (piece_edges ps) d))
      (Contains-cases (u.from, u.to) (x, y) ((o.to, o.from) ∷ piece_edges ps) c)
  edge_holds (Free label ∷ ps) h x y c = edge_holds ps h x y c

  -- what holds along strands, and is an equivalence, holds of labels that are joined
  pub walk_holds : ((x : ℕ) → R x x) → ((x y z : ℕ) → R x y → R y z → R x z) → (ps : List Piece) → AllByRecursion (λ s. R s.from s.to) (strands ps) → (x y : ℕ) → Joined (piece_edges ps) x y → R x y
  walk_holds itself goes_on ps h x y (along {x = x'} {y = y'} c) = edge_holds ps h x y c
  walk_holds itself goes_on ps h x y (stay {x = x'}) = itself x
  walk_holds itself goes_on ps h x y (back {x = x'} {y = y'} j) = turn y x (walk_holds itself goes_on ps h y x j)
  walk_holds itself goes_on ps h x y (on {x = x'} {y = y'} {z = z'} j k) = goes_on x y' y (walk_holds itself goes_on ps h x y' j) (walk_holds itself goes_on ps h y' y k)

-- labels that are joined are joined elsewhere, if strands are
pub joined_through : (es : List (ℕ × ℕ)) (ps : List Piece) → AllByRecursion (λ s. Joined es s.from s.to) (strands ps) → (x y : ℕ) → Joined (piece_edges ps) x y → Joined es x y
joined_through es ps h x y j = walk_holds (λ a b. Joined es a b) (λ a b k. back k) (λ a. stay) (λ a b c k l. on k l) ps h x y j

-- labels that are joined have one class, and their copies are joined where the class is c
pub joined_class : (class : ℕ → ℕ) (c : ℕ) (copied : ℕ → ℕ) (es : List (ℕ × ℕ)) (ps : List Piece) →
    AllByRecursion (λ s. (class s.from ≡ class s.to) × (class s.from ≡ c → Joined es (copied s.from) (copied s.to))) (strands ps) →
    (x y : ℕ) → Joined (piece_edges ps) x y → (class x ≡ class y) × (class x ≡ c → Joined es (copied x) (copied y))
joined_class class c copied es ps h x y j =
    walk_holds (λ a b. (class a ≡ class b) × (class a ≡ c → Joined es (copied a) (copied b)))
    (λ a b r. (sym r.0, (λ e. back (r.1 (r.0 ∙ e))))) (λ a. (refl, (λ e. stay)))
    (λ a b d r s. (r.0 ∙ s.0, (λ e. on (r.1 e) (s.1 (sym r.0 ∙ e))))) ps h x y j

-- ---- grids
module _ (P Q : Strand → Type 0)
    (forth : (n : ℕ) (s : Strand) → P (up_to n s) → P (on_from n s) → Q s) (whole : (s : Strand) → P s → Q s) where
  -- from the pieces of strands to strands
  pub grid_joins : (n : ℕ) (rest : List Piece) (us os : List Strand) → is_short us ≡ true → is_short os ≡ true → AllByRecursion P (strands (grid n us os ++ rest)) →
      AllByRecursion Q us × AllByRecursion Q os × AllByRecursion P (strands rest)
  grid_joins n rest [] os h k a = absurd (cc)
  grid_joins n rest (u ∷ u' ∷ u'' ∷ us) os h k a = absurd (cc)
  grid_joins n rest (u ∷ []) [] h k a = absurd (cc)
  grid_joins n rest (u ∷ u' ∷ []) [] h k a = absurd (cc)
  grid_joins n rest (u ∷ []) (o ∷ o' ∷ o'' ∷ os) h k a = absurd (cc)
  grid_joins n rest (u ∷ u' ∷ []) (o ∷ o' ∷ o'' ∷ os) h k a = absurd (cc)
  grid_joins n rest (u ∷ []) (o ∷ []) h k a = ((whole u a.0, tt), (whole o a.1.0, tt), a.1.1)
  grid_joins n rest (u ∷ []) (o ∷ o' ∷ []) h k a =
      ((forth n u a.0 a.1.1.0, tt), (whole o a.1.0, (whole o' a.1.1.1.0, tt)), a.1.1.1.1)
  grid_joins n rest (u ∷ u' ∷ []) (o ∷ []) h k a =
      ((whole u a.0, (whole u' a.1.1.0, tt)), (forth n o a.1.0 a.1.1.1.0, tt), a.1.1.1.1)
  grid_joins n rest (u ∷ u' ∷ []) (o ∷ o' ∷ []) h k a =
      let b = a.1.1 in
      let c = b.1.1 in
      let d = c.1.1 in
      ((forth n u a.0 c.0, (forth (n + 1) u' b.0 d.0, tt)), (forth (n + 2) o a.1.0 b.1.0, (forth (n + 3) o' c.1.0 d.1.0, tt)), d.1.1)

module _ (slide : Slide) (Q : Strand → Type 0) where
  -- a strand and its copy
  abbrev pub AndCopy : Strand → Type 0
  AndCopy s = Q s × ((s.component == slide.over) ≡ true → Q (copy slide s))

  from_both : (s t : Strand) (b c : Bool) → AllByRecursion Q (cond b (cond c (t ∷ s ∷ []) (s ∷ t ∷ [])) (s ∷ [])) → Q s × (b ≡ true → Q t)
  from_both s t true true h = (h.1.0, λ e. h.0)
  from_both s t true false h = (h.0, λ e. h.1.0)
  from_both s t false c h = (h.0, λ e. absurd (cc))

  to_both : (s t : Strand) (b c : Bool) → Q s × (b ≡ true → Q t) → AllByRecursion Q (cond b (cond c (t ∷ s ∷ []) (s ∷ t ∷ [])) (s ∷ []))
  to_both s t true true h = (h.1 refl, (h.0, tt))
  to_both s t true false h = (h.0, (h.1 refl, tt))
  to_both s t false c h = (h.0, tt)

  from_rows : (s t : Strand) (b c : Bool) → AllByRecursion Q (cond b (cond c (s ∷ t ∷ []) (t ∷ s ∷ [])) (s ∷ [])) → Q s × (b ≡ true → Q t)
  from_rows s t true true h = (h.0, λ e. h.1.0)
  from_rows s t true false h = (h.1.0, λ e. h.0)
  from_rows s t false c h = (h.0, λ e. absurd (cc))

  to_rows : (s t : Strand) (b c : Bool) → Q s × (b ≡ true → Q t) → AllByRecursion Q (cond b (cond c (s ∷ t ∷ []) (t ∷ s ∷ [])) (s ∷ []))
  to_rows s t true true h = (h.0, (h.1 refl, tt))
  to_rows s t true false h = (h.1 refl, (h.0, tt))
  to_rows s t false c h = (h.0, tt)

  columns_have : (s : Strand) → AllByRecursion Q (columns slide s) → AndCopy s
  columns_have s h = from_both s (copy slide s) (s.component == slide.over) (alike s.ahead slide.side) h

  rows_have : (s : Strand) → AllByRecursion Q (rows slide s) → AndCopy s
  rows_have s h = from_rows s (copy slide s) (s.component == slide.over) (alike s.ahead slide.side) h

  pub columns_are : (s : Strand) → AndCopy s → AllByRecursion Q (columns slide s)
  columns_are s h = to_both s (copy slide s) (s.component == slide.over) (alike s.ahead slide.side) h

  pub rows_all : (s : Strand) → AndCopy s → AllByRecursion Q (rows slide s)
  rows_all s h = to_rows s (copy slide s) (s.component == slide.over) (alike s.ahead slide.side) h

  -- WHAT THE DOUBLED DIAGRAM'S STRANDS TELL OF THE OLD ONES AND THEIR COPIES
  module _ (P : Strand → Type 0) (forth : (n : ℕ) (s : Strand) → P (up_to n s) → P (on_from n s) → Q s) (whole : (s : Strand) → P s → Q s) where
    pub doubled_tells : (n : ℕ) (ps : List Piece) → AllByRecursion P (strands (doubled slide n ps)) → AllByRecursion AndCopy (strands ps)
    doubled_tells n [] h = tt
    doubled_tells n (Crossed u o ∷ ps) h =
        let next = n + inner (columns slide u) (rows slide o) in
        let g = grid_joins P Q forth whole n (doubled slide next ps) (columns slide u) (rows slide o) (columns_short slide u) (rows_short slide o) h in
        (columns_have u g.0, (rows_have o g.1, doubled_tells next ps g.2))
    doubled_tells n (Free label ∷ ps) h = doubled_tells n ps h

-- in particular, what they join
pub doubled_joins : (slide : Slide) (es : List (ℕ × ℕ)) (n : ℕ) (ps : List Piece) → AllByRecursion (λ s. Joined es s.from s.to) (strands (doubled slide n ps)) →
    AllByRecursion (AndCopy slide (λ s. Joined es s.from s.to)) (strands ps)
doubled_joins slide es n ps h =
    doubled_tells slide (λ s. Joined es s.from s.to) (λ s. Joined es s.from s.to) (λ m s a b. on a b) (λ s a. a) n ps h
