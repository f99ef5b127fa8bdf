-- The pieces of a diagram: their items are the diagram's, their ends are the places with the directions of the walks, and so they are
-- directed: each label is entered at one of its two places and left at the other.
use Rattle.std.proofs.Common.{◌≡◌, ◌≢◌, ℕ, zero, suc, ◌+◌, ◌*◌, ◌<◌, ◌≤◌, ◌==◌, ◌&&◌, Bool, true, false, not, cond, List, [], ◌∷◌, ◌++◌, length, map, get_or, slice_index, count_by, refl, sym, ap, ap₂, ◌∙◌, arith, inl, inr, length-append, eq-eqb, ne_eqb}
use Rattle.std.specs.List.{AllByRecursion}
use Rattle.std.proofs.lemmas.Bool.{cases_Bool, eqb-true, eqb-false}
use Rattle.list_lemmas.specs.Times.{times_in}
use Rattle.list_lemmas.proofs.Times.{times_in-cons}
use Rattle.std.proofs.lemmas.List.Sums.{sum_by-cons}
use Rattle.pd_reader.specs.declared.item.Item.{Item}
use Rattle.pd_reader.specs.Items.{HasItsSlots}
use Rattle.pd_reader.specs.Diagrams.{IsDiagram}
use Rattle.planar_check.specs.Places.{labels_by_place, other_place, crossings_of}
use Rattle.planar_check.specs.Signs.{enters}
use Rattle.slide_strands.specs.declared.strand.Strand.{Strand}
use Rattle.slide_strands.specs.declared.strand.Piece.{Piece}
use Rattle.slide_strands.specs.declared.strand.Piece.TheVariants.{Crossed, Free}
use Rattle.slide_strands.specs.Strands.{alike, ends, strands, end_sum, is_label}
use Rattle.planar_check.specs.Directions.{opposite}
use Rattle.slide_laws.specs.Directed.{under_strand, over_strand, directed_from, directed, items_of}
use Rattle.planar_check.proofs.Directions.{walk_directions}
use Rattle.planar_check.proofs.Crossings.{slot_lists-X}
use Rattle.pd_reader.specs.declared.item.Item.TheVariants as items

-- ---- the items
same_slots : (at : List ℕ) → length at ≡ 4 → slice_index at 0 ∷ slice_index at 1 ∷ slice_index at 2 ∷ slice_index at 3 ∷ [] ≡ at
same_slots (a ∷ b ∷ c ∷ d ∷ []) four = refl
same_slots [] four = absurd (omega (arith, four))
same_slots (a ∷ []) four = absurd (omega (arith, four))
same_slots (a ∷ b ∷ []) four = absurd (omega (arith, four))
same_slots (a ∷ b ∷ c ∷ []) four = absurd (omega (arith, four))
same_slots (a ∷ b ∷ c ∷ d ∷ e ∷ more) four = absurd (omega (arith, four))

back_from : (all : List Item) (k : ℕ) (xs : List Item) → AllByRecursion HasItsSlots xs → items_of (directed_from all k xs) ≡ xs
back_from all k [] h = refl
back_from all k (items.X at ∷ xs) h = ap₂ (λ (a : List ℕ) (b : List Item). items.X a ∷ b) (same_slots at h.0) (back_from all (k + 1) xs h.1)
back_from all k (items.Loop label ∷ xs) h = ap (λ (b : List Item). items.Loop label ∷ b) (back_from all k xs h.1)

pub items_back : (xs : List Item) → AllByRecursion HasItsSlots xs → items_of (directed xs) ≡ xs
unfolding directed
items_back xs h = back_from xs 0 xs h

-- ---- the ends of pieces, place by place
-- for any pieces: a crossing's four slots
pub sizes_of : (ps : List Piece) → AllByRecursion HasItsSlots (items_of ps)
sizes_of [] = tt
sizes_of (Crossed u o ∷ ps) = (refl, sizes_of ps)
sizes_of (Free label ∷ ps) = (tt, sizes_of ps)

pub ends_labels : (ps : List Piece) → labels_by_place (crossings_of (items_of ps)) ≡ map (λ (e : ℕ × Bool). e.0) (ends ps)
ends_labels [] = refl
ends_labels (Crossed u o ∷ ps) = ap (λ (ls : List ℕ). u.from ∷ o.to ∷ u.to ∷ o.from ∷ ls) (ends_labels ps)
ends_labels (Free label ∷ ps) = ends_labels ps

-- the label is entered there, or left
abbrev pub is_end : Bool → ℕ → ℕ × Bool → Bool
is_end into x e = (e.0 == x) && alike into e.1

abbrev once : Bool → ℕ
once b = cond b 1 0

none_passes : (b : Bool) → once (b && false) ≡ 0
none_passes true = refl
none_passes false = refl

all_pass : (b : Bool) → once (b && true) ≡ once b
all_pass true = refl
all_pass false = refl

-- of both ends of a strand one is entered, the other left
strand_ends : (into : Bool) (x : ℕ) (from to : ℕ) (ahead : Bool) →
    once (is_end into x (from, ahead)) + once (is_end into x (to, not ahead)) ≡ is_label x (cond (alike into ahead) from to)
strand_ends true x from to true = let e = none_passes (to == x) in omega (arith, all_pass (from == x), e)
strand_ends true x from to false = let e = none_passes (from == x) in omega (arith, all_pass (to == x), e)
strand_ends false x from to true = let e = none_passes (from == x) in omega (arith, all_pass (to == x), e)
strand_ends false x from to false = let e = none_passes (to == x) in omega (arith, all_pass (from == x), e)

pub count_ends : (into : Bool) (x : ℕ) (ps : List Piece) → count_by (is_end into x) (ends ps) ≡ end_sum into (is_label x) (strands ps)
count_ends into x [] = refl
count_ends into x (Crossed u o ∷ ps) =
    let w : ℕ × Bool → ℕ = λ e. once (is_end into x e) in
    let a = sum_by-cons w (u.from, u.ahead) ((o.to, not o.ahead) ∷ (u.to, not u.ahead) ∷ (o.from, o.ahead) ∷ ends ps) in
    let b = sum_by-cons w (o.to, not o.ahead) ((u.to, not u.ahead) ∷ (o.from, o.ahead) ∷ ends ps) in
    let c = sum_by-cons w (u.to, not u.ahead) ((o.from, o.ahead) ∷ ends ps) in
    let d = sum_by-cons w (o.from, o.ahead) (ends ps) in
    omega (arith, a, b, c, d, strand_ends into x u.from u.to u.ahead, strand_ends into x o.from o.to o.ahead, count_ends into x ps)
count_ends into x (Free label ∷ ps) = count_ends into x ps

-- how often a label stands, in the order in which weights of ends compare
pub standing-cons : (x y : ℕ) (ls : List ℕ) → times_in (y ∷ ls) x ≡ is_label x y + times_in ls x
standing-cons x y ls = times_in-cons y ls x ∙ ap (λ (b : Bool). once b + times_in ls x) (elim (cases_Bool (x == y)) [
  | inl t ↦ t ∙ sym (eq-eqb y x (sym (eqb-true x y t)))
  | inr t ↦ t ∙ sym (ne_eqb y x (λ h. eqb-false x y t (sym h)))
])

-- ---- counting at places
module _ {A : Type 0} (test : A → Bool) (d : A) where
  pub count_none : (xs : List A) → ((q : ℕ) → q < length xs → test (get_or xs q d) ≡ false) → count_by test xs ≡ 0
  count_none [] h = refl
  count_none (x ∷ xs) h =
      let no : once (test x) ≡ 0 = ap once (h 0 (omega arith)) in
      omega (arith, sum_by-cons (λ y. once (test y)) x xs, no, count_none xs (λ q l. h (suc q) (omega (arith, l))))

  pub count_one : (xs : List A) (p : ℕ) → p < length xs → test (get_or xs p d) ≡ true → ((q : ℕ) → q < length xs → test (get_or xs q d) ≡ true → q ≡ p) → count_by test xs ≡ 1
  count_one [] p l t only = absurd (omega (arith, l))
  count_one (x ∷ xs) zero l t only =
      let yes : once (test x) ≡ 1 = ap once t in
      let none : (q : ℕ) → q < length xs → test (get_or xs q d) ≡ false =
      λ q k. elim (cases_Bool (test (get_or xs q d))) [ inl h ↦ absurd (let e = only (suc q) (omega (arith, k)) h in omega (arith, e)) | inr h ↦ h ] in
      omega (arith, sum_by-cons (λ y. once (test y)) x xs, yes, count_none xs none)
  count_one (x ∷ xs) (suc p) l t only =
      let no : once (test x) ≡ 0 = (elim (cases_Bool (test x)) [ inl h ↦ absurd (let e = only 0 (omega arith) h in omega (arith, e)) | inr h ↦ ap once h ]) in
      omega (arith, sum_by-cons (λ y. once (test y)) x xs, no, count_one xs p (omega (arith, l)) t (λ q k s. let e = only (suc q) (omega (arith, k)) s in omega (arith, e)))

  pub count_some : (xs : List A) (p : ℕ) → p < length xs → test (get_or xs p d) ≡ true → 1 ≤ count_by test xs
  count_some [] p l t = absurd (omega (arith, l))
  count_some (x ∷ xs) zero l t = let yes : once (test x) ≡ 1 = ap once t in omega (arith, sum_by-cons (λ y. once (test y)) x xs, yes)
  count_some (x ∷ xs) (suc p) l t = omega (arith, sum_by-cons (λ y. once (test y)) x xs, count_some xs p (omega (arith, l)) t)

  pub count_two : (xs : List A) (p q : ℕ) → p < length xs → q < length xs → p ≢ q → test (get_or xs p d) ≡ true → test (get_or xs q d) ≡ true → 2 ≤ count_by test xs
  count_two [] p q l k ne s t = absurd (omega (arith, l))
  count_two (x ∷ xs) zero zero l k ne s t = absurd (ne refl)
  count_two (x ∷ xs) zero (suc q) l k ne s t = let yes : once (test x) ≡ 1 = ap once s in omega (arith, sum_by-cons (λ y. once (test y)) x xs, yes, count_some xs q (omega (arith, k)) t)
  count_two (x ∷ xs) (suc p) zero l k ne s t = let yes : once (test x) ≡ 1 = ap once t in omega (arith, sum_by-cons (λ y. once (test y)) x xs, yes, count_some xs p (omega (arith, l)) s)
  count_two (x ∷ xs) (suc p) (suc q) l k ne s t =
      omega (arith, sum_by-cons (λ y. once (test y)) x xs, count_two xs p q (omega (arith, l)) (omega (arith, k)) (λ e. ne (ap (λ (m : ℕ). suc m) e)) s t)

-- ---- the ends of a diagram's pieces
abbrev pub pair : ℕ → Bool → ℕ × Bool
pair a b = (a, b)

module _ (xs : List Item) (diagram : IsDiagram xs) where
  abbrev ls : List ℕ
  ls = labels_by_place (crossings_of xs)

  straight : (p : ℕ) → p < length ls → enters xs (opposite p) ≡ not (enters xs p)
  straight p l = let d = walk_directions xs diagram in d.straight p l

  pub across : (p : ℕ) → p < length ls → enters xs (other_place ls p) ≡ not (enters xs p)
  across p l = let d = walk_directions xs diagram in d.across p l

  pair_of : (a b : ℕ) (c d : Bool) → a ≡ b → c ≡ d → pair a c ≡ pair b d
  pair_of a b c d e f = ap₂ pair e f

  four_ends : (k : ℕ) (at rest : List ℕ) (more : List (ℕ × Bool)) → length at ≡ 4 → 4 * k + 4 ≤ length ls →
      ((i : ℕ) → i < length rest → get_or more i (0, false) ≡ (slice_index rest i, enters xs (4 * (k + 1) + i))) → (i : ℕ) → i < 4 + length rest →
      get_or ((slice_index at 0, enters xs (4 * k)) ∷ (slice_index at 1, not (enters xs (4 * k + 3))) ∷ (slice_index at 2, not (enters xs (4 * k))) ∷ (slice_index at 3, enters xs (4 * k + 3)) ∷ more) i (0, false)
      ≡ (slice_index (at ++ rest) i, enters xs (4 * k + i))
  four_ends k (a ∷ b ∷ c ∷ d ∷ []) rest more four l h zero k' = pair_of a a (enters xs (4 * k)) (enters xs (4 * k + 0)) refl (ap (enters xs) (let e : 4 * k ≡ 4 * k + 0 = omega arith in e))
  four_ends k (a ∷ b ∷ c ∷ d ∷ []) rest more four l h (suc zero) k' =
      pair_of b b (not (enters xs (4 * k + 3))) (enters xs (4 * k + 1)) refl (sym (straight (4 * k + 3) (omega (arith, l))) ∙ ap (enters xs) (let e : opposite (4 * k + 3) ≡ 4 * k + 1 = omega arith in e))
  four_ends k (a ∷ b ∷ c ∷ d ∷ []) rest more four l h (suc (suc zero)) k' =
      pair_of c c (not (enters xs (4 * k))) (enters xs (4 * k + 2)) refl (sym (straight (4 * k) (omega (arith, l))) ∙ ap (enters xs) (let e : opposite (4 * k) ≡ 4 * k + 2 = omega arith in e))
  four_ends k (a ∷ b ∷ c ∷ d ∷ []) rest more four l h (suc (suc (suc zero))) k' = refl
  four_ends k (a ∷ b ∷ c ∷ d ∷ []) rest more four l h (suc (suc (suc (suc i)))) k' =
      h i (omega (arith, k')) ∙ pair_of (slice_index rest i) (slice_index rest i) (enters xs (4 * (k + 1) + i)) (enters xs (4 * k + suc (suc (suc (suc i))))) refl (ap (enters xs) (let e : 4 * (k + 1) + i ≡ 4 * k + suc (suc (suc (suc i))) = omega arith in e))
  four_ends k [] rest more four l h i k' = absurd (omega (arith, four))
  four_ends k (a ∷ []) rest more four l h i k' = absurd (omega (arith, four))
  four_ends k (a ∷ b ∷ []) rest more four l h i k' = absurd (omega (arith, four))
  four_ends k (a ∷ b ∷ c ∷ []) rest more four l h i k' = absurd (omega (arith, four))
  four_ends k (a ∷ b ∷ c ∷ d ∷ e ∷ f) rest more four l h i k' = absurd (omega (arith, four))

  ends_from : (k : ℕ) (rest : List Item) → AllByRecursion HasItsSlots rest → 4 * k + length (labels_by_place (crossings_of rest)) ≡ length ls →
      (i : ℕ) → i < length (labels_by_place (crossings_of rest)) → get_or (ends (directed_from xs k rest)) i (0, false) ≡ (slice_index (labels_by_place (crossings_of rest)) i, enters xs (4 * k + i))
  ends_from k [] h e i l = absurd (omega (arith, l))
  ends_from k (items.X at ∷ rest) h e i l =
      let more = labels_by_place (crossings_of rest) in
      let here = slot_lists-X at rest h.0 in
      let long : length (labels_by_place (crossings_of (items.X at ∷ rest))) ≡ 4 + length more =
      ap (λ (cs : List (List ℕ)). length (labels_by_place cs)) here ∙ (length-append at more ∙ ap (λ m. m + length more) h.0) in
      four_ends k at more (ends (directed_from xs (k + 1) rest)) h.0 (omega (arith, e, long))
      (ends_from (k + 1) rest h.1 (omega (arith, e, long))) i (omega (arith, l, long))
      ∙ ap (λ (cs : List (List ℕ)). (slice_index (labels_by_place cs) i, enters xs (4 * k + i))) (sym here)
  ends_from k (items.Loop label ∷ rest) h e i l = ends_from k rest h.1 e i l

  -- THE ENDS ARE THE PLACES, WITH THE DIRECTIONS OF THE WALKS
  pub ends_at : (p : ℕ) → p < length ls → get_or (ends (directed xs)) p (0, false) ≡ (slice_index ls p, enters xs p)
  unfolding directed
  ends_at p l = ends_from 0 xs diagram.sizes (omega arith) p l ∙ ap (λ (q : ℕ). (slice_index ls p, enters xs q)) (let e : 4 * 0 + p ≡ p = omega arith in e)

  -- ---- each strand
  module _ (P : Strand → Type 0)
      (each : (k : ℕ) (at : List ℕ) → 4 * k + 4 ≤ length ls → ((s : ℕ) → s < 4 → slice_index at s ≡ slice_index ls (4 * k + s)) → P (under_strand xs k at) × P (over_strand xs k at)) where
    every_from : (k : ℕ) (rest : List Item) → AllByRecursion HasItsSlots rest → 4 * k + length (labels_by_place (crossings_of rest)) ≡ length ls →
        ((i : ℕ) → i < length (labels_by_place (crossings_of rest)) → slice_index (labels_by_place (crossings_of rest)) i ≡ slice_index ls (4 * k + i)) → AllByRecursion P (strands (directed_from xs k rest))
    every_from k [] h e same = tt
    every_from k (items.X at ∷ rest) h e same =
        let more = labels_by_place (crossings_of rest) in
        let here = slot_lists-X at rest h.0 in
        let long : length (labels_by_place (crossings_of (items.X at ∷ rest))) ≡ 4 + length more =
        ap (λ (cs : List (List ℕ)). length (labels_by_place cs)) here ∙ (length-append at more ∙ ap (λ m. m + length more) h.0) in
        let first : (s : ℕ) → s < 4 → slice_index at s ≡ slice_index ls (4 * k + s) =
        λ s l. first_four at more h.0 s l ∙ (ap (λ (cs : List (List ℕ)). slice_index (labels_by_place cs) s) (sym here) ∙ same s (omega (arith, l, long))) in
        let now = each k at (omega (arith, e, long)) first in (
          now.0,
          (
            now.1,
            every_from (k + 1) rest h.1 (omega (arith, e, long))
                (λ i l. later_four at more h.0 i ∙ (ap (λ (cs : List (List ℕ)). slice_index (labels_by_place cs) (4 + i)) (sym here) ∙ (same (4 + i) (omega (arith, l, long)) ∙ ap (slice_index ls) (let q : 4 * k + (4 + i) ≡ 4 * (k + 1) + i = omega arith in q)))),
          ),
        )
      where
        first_four : (at more : List ℕ) → length at ≡ 4 → (s : ℕ) → s < 4 → slice_index at s ≡ slice_index (at ++ more) s
        first_four (a ∷ b ∷ c ∷ d ∷ []) more four zero l = refl
        first_four (a ∷ b ∷ c ∷ d ∷ []) more four (suc zero) l = refl
        first_four (a ∷ b ∷ c ∷ d ∷ []) more four (suc (suc zero)) l = refl
        first_four (a ∷ b ∷ c ∷ d ∷ []) more four (suc (suc (suc zero))) l = refl
        first_four (a ∷ b ∷ c ∷ d ∷ []) more four (suc (suc (suc (suc s)))) l = absurd (omega (arith, l))
        first_four [] more four s l = absurd (omega (arith, four))
        first_four (a ∷ []) more four s l = absurd (omega (arith, four))
        first_four (a ∷ b ∷ []) more four s l = absurd (omega (arith, four))
        first_four (a ∷ b ∷ c ∷ []) more four s l = absurd (omega (arith, four))
        first_four (a ∷ b ∷ c ∷ d ∷ e ∷ f) more four s l = absurd (omega (arith, four))

        later_four : (at more : List ℕ) → length at ≡ 4 → (i : ℕ) → slice_index more i ≡ slice_index (at ++ more) (4 + i)
        later_four (a ∷ b ∷ c ∷ d ∷ []) more four i = ap (slice_index (a ∷ b ∷ c ∷ d ∷ more)) (let e : suc (suc (suc (suc i))) ≡ 4 + i = omega arith in e)
        later_four [] more four i = absurd (omega (arith, four))
        later_four (a ∷ []) more four i = absurd (omega (arith, four))
        later_four (a ∷ b ∷ []) more four i = absurd (omega (arith, four))
        later_four (a ∷ b ∷ c ∷ []) more four i = absurd (omega (arith, four))
        later_four (a ∷ b ∷ c ∷ d ∷ e ∷ f) more four i = absurd (omega (arith, four))
    every_from k (items.Loop label ∷ rest) h e same = every_from k rest h.1 e same

    pub every_directed : AllByRecursion P (strands (directed xs))
    unfolding directed
    every_directed = every_from 0 xs diagram.sizes (omega arith) (λ i l. ap (slice_index ls) (let e : i ≡ 4 * 0 + i = omega arith in e))
