-- The lists of the places of some items have one length and are in range, so that they can be looked up.
use Rattle.std.proofs.Common.{◌≡◌, ℕ, ◌+◌, ◌<◌, List, length, sym, ap, ◌∙◌, arith, All}
use Rattle.std.proofs.lemmas.List.Elements.{All-same, All-weaker}
use Rattle.std.proofs.lemmas.List.FromFn.{length-map-range_with_len}
use Rattle.planar_check.specs.declared.placed.Places.{Places}
use Rattle.planar_check.specs.Places.{labels_by_place, slots_after, owners, other_place, other_places}
use Rattle.planar_check.proofs.Pushes.{length-after, length-owners}
use Rattle.planar_check.proofs.Counts.{after_below, owners_below, others_below}
use Rattle.planar_check.specs.Tables.{ArePlaces}

-- the lists are those of the places of the items
pub record AreRead (cs : List (List ℕ)) (after numbers others : List ℕ) : Type 0 where
  pub after_are : after ≡ slots_after 0 cs
  pub owners_are : numbers ≡ owners 0 cs
  pub others_are : others ≡ other_places (labels_by_place cs)

-- the lists of the places, as they are read
pub lists_are : (cs : List (List ℕ)) (places : Places) (after numbers others : List ℕ) → ArePlaces cs places → after ≡ places.after.items → numbers ≡ places.owners.items → others ≡ places.others.items →
    AreRead cs after numbers others
lists_are cs places after numbers others are t n o = record {
  after_are = t ∙ are.after_are;
  owners_are = n ∙ are.owners_are;
  others_are = o ∙ are.others_are;
}

module _ (cs : List (List ℕ)) (after numbers others : List ℕ) (are : AreRead cs after numbers others) where
  pub others_long : length others ≡ length (labels_by_place cs)
  others_long = ap length are.others_are ∙ length-map-range_with_len (other_place (labels_by_place cs)) 0 (length (labels_by_place cs))

  pub after_long : length after ≡ length others
  after_long = ap length are.after_are ∙ (length-after 0 cs ∙ sym others_long)

  pub owners_long : length numbers ≡ length others
  owners_long = ap length are.owners_are ∙ (length-owners 0 cs ∙ sym others_long)

  pub after_in_range : All (λ p. p < length others) after
  after_in_range =
      let P : ℕ → Type 0 = λ p. p < length others in
      let Q : ℕ → Type 0 = λ p. p < 0 + length (labels_by_place cs) in
      All-same P after (slots_after 0 cs) are.after_are (All-weaker Q P (λ p h. omega (arith, h, others_long)) (slots_after 0 cs) (after_below 0 cs))

  pub owners_in_range : All (λ o. o < length cs) numbers
  owners_in_range =
      let P : ℕ → Type 0 = λ o. o < length cs in
      let Q : ℕ → Type 0 = λ o. o < 0 + length cs in
      All-same P numbers (owners 0 cs) are.owners_are (All-weaker Q P (λ o h. omega (arith, h)) (owners 0 cs) (owners_below 0 cs))

  pub others_in_range : All (λ p. p < length others) others
  others_in_range =
      let labels = labels_by_place cs in
      let P : ℕ → Type 0 = λ p. p < length others in
      let Q : ℕ → Type 0 = λ p. p < length labels in
      All-same P others (other_places labels) are.others_are (All-weaker Q P (λ p h. omega (arith, h, others_long)) (other_places labels) (others_below labels))
