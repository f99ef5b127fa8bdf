-- Marks of labels in the doubled diagram: the old labels and those of the copies have marks, and an inner edge has the mark of the
-- strand on which it lies. So what holds of the old strands and of their copies goes over to the pieces into which they are cut.
use Rattle.std.proofs.Common.{◌≡◌, ℕ, zero, suc, ◌+◌, ◌-◌, ◌<◌, ◌≤◌, Bool, true, cond, List, [], ◌∷◌, ◌++◌, sym, ap, ◌∙◌, arith}
use Rattle.std.specs.Prelude.{nat_lt}
use Rattle.std.specs.List.{AllByRecursion}
use Rattle.std.proofs.lemmas.Bool.{lt-ltb, le-ltb}
use Rattle.slide_strands.specs.declared.strand.Strand.{Strand}
use Rattle.slide_strands.specs.declared.strand.Piece.{Piece}
use Rattle.slide_strands.specs.declared.strand.Piece.TheVariants.{Crossed, Free}
use Rattle.slide_strands.specs.Strands.{strands}
use Rattle.slide_strands.specs.Doubling.{Slide, copy, columns, rows, up_to, on_from, grid, inner, doubled}
use Rattle.slide_strands.proofs.SignSums.{is_short, columns_short, rows_short}
use Rattle.slide_strands.proofs.Joins.{AndCopy, columns_are, rows_all, every_weaker}

abbrev pub choose : ℕ → ℕ → ℕ → ℕ → ℕ → ℕ
choose zero a b c d = a
choose (suc zero) a b c d = b
choose (suc (suc zero)) a b c d = c
choose (suc (suc (suc k))) a b c d = d

module _ (outer : ℕ → ℕ) where
  -- the mark of an inner edge of a grid
  abbrev pub grid_mark : ℕ → List Strand → List Strand → ℕ → ℕ
  grid_mark n (u ∷ []) (o ∷ o' ∷ []) x = outer u.from
  grid_mark n (u ∷ u' ∷ []) (o ∷ []) x = outer o.from
  grid_mark n (u ∷ u' ∷ []) (o ∷ o' ∷ []) x = choose (x - n) (outer u.from) (outer u'.from) (outer o.from) (outer o'.from)
  grid_mark n us os x = 0

  abbrev pub inner_mark : Slide → ℕ → List Piece → ℕ → ℕ
  inner_mark slide n [] x = 0
  inner_mark slide n (Crossed u o ∷ pieces) x =
      cond (nat_lt x (n + inner (columns slide u) (rows slide o))) (grid_mark n (columns slide u) (rows slide o) x) (inner_mark slide (n + inner (columns slide u) (rows slide o)) pieces x)
  inner_mark slide n (Free label ∷ pieces) x = inner_mark slide n pieces x

  -- the mark of a label, where inner edges have labels from n on
  abbrev pub mark : Slide → ℕ → List Piece → ℕ → ℕ
  mark slide n pieces x = cond (nat_lt x n) (outer x) (inner_mark slide n pieces x)

  module _ (all : ℕ → ℕ) (B T : Strand → Type 0) (whole : (s : Strand) → B s → T s)
      (halves : (n : ℕ) (s : Strand) → B s → all n ≡ all s.from → T (up_to n s) × T (on_from n s)) where
    -- a strand of which B is known, and whose mark is the outer one
    abbrev pub Known : Strand → Type 0
    Known s = B s × (all s.from ≡ outer s.from)

    grid_every : (n : ℕ) (rest : List Piece) (us os : List Strand) → is_short us ≡ true → is_short os ≡ true → AllByRecursion Known us → AllByRecursion Known os →
        ((x : ℕ) → n ≤ x → x < n + inner us os → all x ≡ grid_mark n us os x) → AllByRecursion T (strands rest) → AllByRecursion T (strands (grid n us os ++ rest))
    grid_every n rest [] os h k a b m r = absurd (cc)
    grid_every n rest (u ∷ u' ∷ u'' ∷ us) os h k a b m r = absurd (cc)
    grid_every n rest (u ∷ []) [] h k a b m r = absurd (cc)
    grid_every n rest (u ∷ u' ∷ []) [] h k a b m r = absurd (cc)
    grid_every n rest (u ∷ []) (o ∷ o' ∷ o'' ∷ os) h k a b m r = absurd (cc)
    grid_every n rest (u ∷ u' ∷ []) (o ∷ o' ∷ o'' ∷ os) h k a b m r = absurd (cc)
    grid_every n rest (u ∷ []) (o ∷ []) h k a b m r = (whole u a.0.0, (whole o b.0.0, r))
    grid_every n rest (u ∷ []) (o ∷ o' ∷ []) h k a b m r =
        let t = halves n u a.0.0 (m n (omega arith) (omega arith) ∙ sym a.0.1) in
        (t.0, (whole o b.0.0, (t.1, (whole o' b.1.0.0, r))))
    grid_every n rest (u ∷ u' ∷ []) (o ∷ []) h k a b m r =
        let t = halves n o b.0.0 (m n (omega arith) (omega arith) ∙ sym b.0.1) in
        (whole u a.0.0, (t.0, (whole u' a.1.0.0, (t.1, r))))
    grid_every n rest (u ∷ u' ∷ []) (o ∷ o' ∷ []) h k a b m r =
        let pick : ℕ → ℕ = λ i. choose i (outer u.from) (outer u'.from) (outer o.from) (outer o'.from) in
        let at : (i j : ℕ) → n + i - n ≡ j → i < 4 → all (n + i) ≡ pick j = λ i j e l. m (n + i) (omega arith) (omega (arith, l)) ∙ ap pick e in
        let zero_on : all n ≡ pick 0 = m n (omega arith) (omega arith) ∙ ap pick (let e : n - n ≡ 0 = omega arith in e) in
        let t = halves n u a.0.0 (zero_on ∙ sym a.0.1) in
        let t' = halves (n + 1) u' a.1.0.0 (at 1 1 (omega arith) (omega arith) ∙ sym a.1.0.1) in
        let v = halves (n + 2) o b.0.0 (at 2 2 (omega arith) (omega arith) ∙ sym b.0.1) in
        let v' = halves (n + 3) o' b.1.0.0 (at 3 3 (omega arith) (omega arith) ∙ sym b.1.0.1) in
        (t.0, (v.0, (t'.0, (v.1, (t.1, (v'.0, (t'.1, (v'.1, r))))))))

    -- WHAT HOLDS OF THE STRANDS OF THE DOUBLED DIAGRAM
    pub doubled_every : (slide : Slide) (n : ℕ) (pieces : List Piece) → AllByRecursion (AndCopy slide Known) (strands pieces) →
        ((x : ℕ) → n ≤ x → all x ≡ inner_mark slide n pieces x) → AllByRecursion T (strands (doubled slide n pieces))
    doubled_every slide n [] h m = tt
    doubled_every slide n (Crossed u o ∷ pieces) h m =
        let us = columns slide u in
        let os = rows slide o in
        let next = n + inner us os in
        let first : (x : ℕ) → n ≤ x → x < next → all x ≡ grid_mark n us os x =
        λ x l k. m x l ∙ ap (λ (b : Bool). cond b (grid_mark n us os x) (inner_mark slide next pieces x)) (lt-ltb x next k) in
        let later : (x : ℕ) → next ≤ x → all x ≡ inner_mark slide next pieces x =
        λ x k. m x (omega (arith, k)) ∙ ap (λ (b : Bool). cond b (grid_mark n us os x) (inner_mark slide next pieces x)) (le-ltb x next k) in
        grid_every n (doubled slide next pieces) us os (columns_short slide u) (rows_short slide o) (columns_are slide Known u h.0) (rows_all slide Known o h.1.0) first
        (doubled_every slide next pieces h.1.1 later)
    doubled_every slide n (Free label ∷ pieces) h m = doubled_every slide n pieces h m

  -- ---- the mark of the doubled diagram
  pub mark_outer : (slide : Slide) (n : ℕ) (pieces : List Piece) (x : ℕ) → x < n → mark slide n pieces x ≡ outer x
  mark_outer slide n pieces x l = ap (λ (b : Bool). cond b (outer x) (inner_mark slide n pieces x)) (lt-ltb x n l)

  pub mark_inner : (slide : Slide) (n : ℕ) (pieces : List Piece) (x : ℕ) → n ≤ x → mark slide n pieces x ≡ inner_mark slide n pieces x
  mark_inner slide n pieces x l = ap (λ (b : Bool). cond b (outer x) (inner_mark slide n pieces x)) (le-ltb x n l)

-- THE MARKS OF THE DOUBLED DIAGRAM: both ends of a strand have one mark, and `of_mark` gives the component
module _ (outer of_mark : ℕ → ℕ) (slide : Slide) (n : ℕ) (pieces : List Piece) where
  abbrev pub marks : ℕ → ℕ
  marks = mark outer slide n pieces

  abbrev pub OuterMarked : Strand → Type 0
  OuterMarked s = (outer s.from ≡ outer s.to) × (of_mark (outer s.from) ≡ s.component) × (s.from < n) × (s.to < n)

  abbrev pub Marked : Strand → Type 0
  Marked s = (marks s.from ≡ marks s.to) × (of_mark (marks s.from) ≡ s.component)

  and_copy_weaker : (P Q : Strand → Type 0) → ((s : Strand) → P s → Q s) → (s : Strand) → AndCopy slide P s → AndCopy slide Q s
  and_copy_weaker P Q f s h = (f s h.0, (λ e. f (copy slide s) (h.1 e)))

  pub doubled_marks : AllByRecursion (AndCopy slide OuterMarked) (strands pieces) → AllByRecursion Marked (strands (doubled slide n pieces))
  doubled_marks h =
      let out : (x : ℕ) → x < n → marks x ≡ outer x = mark_outer outer slide n pieces in
      doubled_every outer marks Marked Marked (λ s m. m)
      (λ k s m e. ((sym e, m.1), (e ∙ m.0, ap of_mark e ∙ m.1)))
      slide n pieces
      (every_weaker (AndCopy slide OuterMarked) (AndCopy slide (Known outer marks Marked Marked (λ s m. m) (λ k s m e. ((sym e, m.1), (e ∙ m.0, ap of_mark e ∙ m.1)))))
      (and_copy_weaker OuterMarked (Known outer marks Marked Marked (λ s m. m) (λ k s m e. ((sym e, m.1), (e ∙ m.0, ap of_mark e ∙ m.1))))
      (λ s a. ((out s.from a.2 ∙ (a.0 ∙ sym (out s.to a.3)), ap of_mark (out s.from a.2) ∙ a.1), out s.from a.2)))
      (strands pieces) h)
      (mark_inner outer slide n pieces)
