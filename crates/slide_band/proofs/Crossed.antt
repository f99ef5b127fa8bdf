-- The crossings of a diagram, as they are met one after the other: each has four places, and its labels are the diagram's.
use Rattle.std.proofs.Common.{◌≡◌, ℕ, zero, suc, ◌+◌, ◌*◌, ◌<◌, ◌≤◌, ◌==◌, ◌++◌, true, List, [], ◌∷◌, length, drop, get_or, slice_index, refl, sym, ap, subst, ◌∙◌, arith}
use Rattle.std.specs.List.{AllByRecursion}
use Rattle.std.specs.Set.{is_member}
use Rattle.std.proofs.lemmas.Bool.{or_left, or_right}
use Rattle.std.proofs.Common.{drop-cons}
use Rattle.std.proofs.lemmas.List.{drop_all}
use Rattle.graph_parts.proofs.Distinct.{is_member-append}
use Rattle.graph_parts.proofs.Ends.{is_member-get_or}
use Rattle.pd_reader.specs.declared.item.Item.{Item}
use Rattle.pd_reader.specs.declared.item.Item.TheVariants as items
use Rattle.pd_reader.specs.Items.{item_labels, HasItsSlots}
use Rattle.pd_reader.specs.Diagrams.{labels, IsDiagram}
use Rattle.planar_check.specs.Places.{crossings_of, place_labels}
use Rattle.planar_check.proofs.Crossings.{slot_lists-X, places_four, few_crossings}
use Rattle.slide_strands.specs.declared.strand.Piece.{Piece}
use Rattle.slide_laws.specs.Directed.{directed_from, directed}
use Rattle.slide_laws.specs.Slides.{is_edge}
use Rattle.slide_band.specs.Copies.{count_crossings}

counted : (xs : List Item) → AllByRecursion HasItsSlots xs → count_crossings xs ≡ length (crossings_of xs)
counted [] h = refl
counted (items.X slots ∷ xs) h = ap (λ (n : ℕ). suc n) (counted xs h.1) ∙ sym (ap length (slot_lists-X slots xs h.0))
counted (items.Loop label ∷ xs) h = counted xs h.1

-- the labels of an item are labels of all
labels_there : (xs : List Item) (i : ℕ) (d : Item) → i < length xs → (x : ℕ) → is_member ◌==◌ (item_labels (get_or xs i d)) x ≡ true → is_member ◌==◌ (labels item_labels xs) x ≡ true
labels_there [] i d l x m = absurd (omega (arith, l))
labels_there (y ∷ ys) zero d l x m =
    is_member-append (item_labels y) (labels item_labels ys) x ∙ or_left (is_member ◌==◌ (item_labels y) x) (is_member ◌==◌ (labels item_labels ys) x) m
labels_there (y ∷ ys) (suc i) d l x m =
    is_member-append (item_labels y) (labels item_labels ys) x
    ∙ or_right (is_member ◌==◌ (item_labels y) x) (is_member ◌==◌ (labels item_labels ys) x) (labels_there ys i d (omega (arith, l)) x m)

sizes_there : (xs : List Item) (i : ℕ) (d : Item) → i < length xs → AllByRecursion HasItsSlots xs → HasItsSlots (get_or xs i d)
sizes_there [] i d l h = absurd (omega (arith, l))
sizes_there (y ∷ ys) zero d l h = h.0
sizes_there (y ∷ ys) (suc i) d l h = sizes_there ys i d (omega (arith, l)) h.1

-- what is known of a crossing that is met
pub record IsThere (xs : List Item) (k : ℕ) (slots : List ℕ) : Type 0 where
  pub small : k ≤ 256
  pub within : 4 * k + 3 < length (place_labels xs)
  pub under : is_edge xs (slice_index slots 0) ≡ true
  pub over : is_edge xs (slice_index slots 1) ≡ true

pub crossing_there : (xs mid all : List Item) → xs ≡ mid → mid ≡ all → IsDiagram mid → (i k : ℕ) (d : Item) (slots : List ℕ) → i < length xs → get_or xs i d ≡ items.X slots →
    k + count_crossings (drop i xs) ≡ count_crossings xs → IsThere all k slots
crossing_there xs mid all first then of_mid i k d slots l is c =
    let same = first ∙ then in
    let diagram : IsDiagram xs = subst IsDiagram (sym first) of_mid in
    let now : drop i xs ≡ items.X slots ∷ drop (suc i) xs = drop-cons xs i d l ∙ ap (λ (x : Item). x ∷ drop (suc i) xs) is in
    let more = ap count_crossings now in
    let all_counted = counted xs diagram.sizes in
    let four = places_four xs diagram.sizes in
    let few = few_crossings xs diagram in
    let size : length slots ≡ 4 = subst HasItsSlots is (sizes_there xs i d l diagram.sizes) in
    let member : (s : ℕ) → s < 4 → is_edge xs (slice_index slots s) ≡ true =
    λ s t. labels_there xs i d l (slice_index slots s)
    (subst (λ (x : Item). is_member ◌==◌ (item_labels x) (slice_index slots s) ≡ true) (sym is) (is_member-get_or slots s (omega (arith, t, size)))) in
    subst (λ (ys : List Item). IsThere ys k slots) same (record {
      small = omega (arith, c, more, all_counted, few);
      within = omega (arith, c, more, all_counted, four);
      under = member 0 (omega arith);
      over = member 1 (omega arith);
    })

nothing_after : (ps : List Piece) → ps ++ [] ≡ ps
nothing_after [] = refl
nothing_after (p ∷ ps) = ap (λ (qs : List Piece). p ∷ qs) (nothing_after ps)

pub directed_done : (xs all : List Item) (k i : ℕ) (made : List Piece) → xs ≡ all → length xs ≤ i → made ++ directed_from all k (drop i xs) ≡ directed_from all 0 xs → made ≡ directed all
unfolding directed
directed_done xs all k i made same past h =
    sym (nothing_after made)
    ∙ (sym (ap (λ (ys : List Item). made ++ directed_from all k ys) (drop_all i xs past)) ∙ (h ∙ ap (directed_from all 0) same))
