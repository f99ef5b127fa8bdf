-- In the cable of a net each name stands twice, and is below 2^32.
use Rattle.std.proofs.Common.{◌≡◌, ℕ, ◌/◌, ◌^◌, ◌<◌, ◌≤◌, ◌==◌, Bool, true, List, length, arith, ⊎_elim}
use Rattle.std.specs.List.{AllByRecursion}
use Rattle.std.specs.Set.{is_member}
use Rattle.state_sums.specs.Networks.{Term, names_of}
use Rattle.list_lemmas.specs.Times.{times_in}
use Rattle.root_quantum.specs.Parameters.{Parameters}
use Rattle.pd_reader.specs.declared.item.NetItem.{NetItem}
use Rattle.pd_reader.specs.Items.{net_item_labels}
use Rattle.pd_reader.specs.Diagrams.{labels, IsLabel, IsNet}
use Rattle.cables.specs.Strands.{Strands, strands_of}
use Rattle.cables.specs.Cables.{cable_nodes, start, Fits}
use Rattle.cables.proofs.CableNames.{inner_total, cable-times}
use Rattle.cables.proofs.InnerNames.{inner_total_once, inner_total_range}
use Rattle.cables.proofs.LabelNames.{at_label, zero_or_some, outer_times}
use Rattle.list_lemmas.proofs.Times.{times_of_member}
use Rattle.cables.proofs.NumberedStrands.{first_length, as_many_strands, only_label, plain_second, first_once, box_once, label_low}

module _ (p : Parameters) (colour : ℕ → ℕ) (boxed : ℕ → Bool) (box : ℕ → List Term) (items : List NetItem) (net : IsNet items)
    (few : (label : ℕ) → colour label ≤ 8) (fits : AllByRecursion (Fits (strands_of colour boxed box)) items) (x : ℕ) where
  abbrev strands : Strands
  strands = strands_of colour boxed box

  abbrev names : List ℕ
  names = names_of (cable_nodes p strands (start items) items)

  few_strands : (label : ℕ) → length (strands.first label) ≤ 8
  few_strands label = let e = first_length colour boxed box label in let f = few label in omega (arith, e, f)

  pub found : 1 ≤ times_in names x → (times_in names x ≡ 2) × (x < 2 ^ 32)
  found h =
      let l = x / 16 in
      let only = only_label colour boxed box x few in
      let count = cable-times p strands x l only (as_many_strands colour boxed box) items (start items) fits in
      let outer = outer_times strands x l only (plain_second colour boxed box x l) (first_once colour boxed box x l) (box_once colour boxed box x l) items net.twice in
      let outer_is = outer.1.0 in
      let outer_one = outer.1.1.0 in
      let inner_one = inner_total_once strands x few_strands items 0 in
      let short = net.few in
      ⊎_elim
      (λ none.
      let range = inner_total_range strands x few_strands items 0 (omega (arith, count, outer_is, none, h)) in
      let high = range.1 in
      (omega (arith, count, outer_is, outer_one, inner_one, none, h), omega (arith, high, short)))
      (λ some.
      let one = some.1 in
      let more = outer.1.1.1 (omega (arith, one)) in
      let low = label_low colour boxed box x few l (at_label IsLabel l (labels net_item_labels items) net.in_range more.0).high more.1 in
      ⊎_elim
      (λ z. (omega (arith, count, outer_is, outer_one, one, z), omega (arith, low)))
      (λ s.
      let k = s.1 in
      let range = inner_total_range strands x few_strands items 0 (omega (arith, k)) in
      let high = range.0 in
      absurd (omega (arith, high, low)))
      (zero_or_some (inner_total strands x 0 items)))
      (zero_or_some outer.0)

  -- EACH NAME STANDS TWICE
  pub cable_twice : is_member ◌==◌ names x ≡ true → times_in names x ≡ 2
  cable_twice m = (found (times_of_member x names m)).0

  pub cable_short : is_member ◌==◌ names x ≡ true → x < 2 ^ 32
  cable_short m = (found (times_of_member x names m)).1
