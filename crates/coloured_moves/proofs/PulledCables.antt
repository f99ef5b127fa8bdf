-- R2Undo keeps the coloured value, where no inner edge of the bigon has a box: the bigon is four bundles of arcs, and these close.
use Rattle.std.proofs.Common.{◌≡◌, ℕ, ◌+◌, ◌<◌, ◌==◌, ◌⊎◌, inl, inr, true, false, List, [], ◌∷◌, Some, refl, sym, ap, ◌∙◌, arith}
use Rattle.std.specs.Set.{is_member}
use Rattle.std.proofs.lemmas.Bool.{eq-eqb, or_left}
use Rattle.std.proofs.lemmas.Bool.Decides.{nat_tests}
use Rattle.graph_parts.specs.Ends.{ends_of}
use Rattle.graph_parts.specs.LeastNames.{least_label}
use Rattle.graph_parts.specs.Walks.{Joined, along}
use Rattle.graph_parts.proofs.LeastLabels.{least_label-Joined}
use Rattle.list_lemmas.proofs.Times.{member_of_times}
use Rattle.root_quantum.specs.Parameters.{Parameters}
use Rattle.pd_reader.specs.declared.item.Item.{Item}
use Rattle.pd_reader.specs.Diagrams.{IsDiagram}
use Rattle.planar_check.specs.Components.{strand_edges}
use Rattle.cables.specs.Nets.{HasProjector}
use Rattle.coloured_values.specs.Coloured.{colour_of, is_boxed, coloured}
use Rattle.coloured_values.specs.Laws.{HasColours}
use Rattle.diagram_moves.specs.Laws.{IsPairedDiagram}
use Rattle.diagram_moves.specs.Moves.{is_bigon, bigon_classes, closing, removed}
use Rattle.diagram_moves.specs.Rewriting.{slot, crossing_at}
use Rattle.diagram_moves.proofs.NoNumbers.{nothing}
use Rattle.diagram_moves.proofs.Pulling.{recounted}
use Rattle.diagram_moves.proofs.Undone.{least_contraction}
use Rattle.move_results.proofs.ClosedComponents.{crossing_walks, ends_by, pulled_components, pulled_contracts}
use Rattle.move_results.proofs.DiagramResults.{as_paired}
use Rattle.coloured_moves.proofs.ExchangedStubs.{halved_stubbed}
use Rattle.coloured_moves.proofs.ClosedCables.{closed_coloured}
use Rattle.coloured_moves.proofs.PulledBundles as before
use Rattle.coloured_moves.proofs.Tests.{one_if}

module _ (p : Parameters) (items : List Item) (is : IsDiagram items) (c : ℕ) (here : List ℕ) (found : crossing_at items c ≡ Some here) (d : ℕ) (there : List ℕ) (also : crossing_at items d ≡ Some there) (apart : (d == c) ≡ false)
    (s t : ℕ) (low_s : s < 4) (low_t : t < 4) (test : is_bigon here there (s, t) ≡ true) (colours : List ℕ) (has : HasColours items colours) (projectors : (l : ℕ) → is_boxed items colours l ≡ true → HasProjector p (colour_of items colours l))
    (free_x : is_boxed items colours (slot here s) ≡ false) (free_y : is_boxed items colours (slot there (t + 1)) ≡ false)
    (after_is : IsDiagram (closing (least_label (bigon_classes here there (s, t))) (slot here s) (slot there (t + 1)) (removed (d ∷ c ∷ []) (least_label (bigon_classes here there (s, t))) items))) where
  abbrev pd : IsPairedDiagram items
  pd = as_paired items is

  abbrev x : ℕ
  x = slot here s

  abbrev y : ℕ
  y = slot there (t + 1)

  abbrev classes : List (ℕ × ℕ)
  classes = bigon_classes here there (s, t)

  abbrev label : ℕ → ℕ
  label = least_label classes

  abbrev gone : List ℕ
  gone = d ∷ c ∷ []

  s8 : s < 8
  s8 = omega (arith, low_s)

  t8 : t < 8
  t8 = omega (arith, low_t)

  shared_x : slot there t ≡ x
  shared_x = before.shared_x p items is c here found d there also apart s t low_s low_t test colours has projectors free_x free_y

  shared_y : slot here (s + 3) ≡ y
  shared_y = before.shared_y p items is c here found d there also apart s t low_s low_t test colours has projectors free_x free_y

  has_x : is_member ◌==◌ (ends_of classes) x ≡ true
  has_x = or_left (x == x) _ (eq-eqb x x refl)

  has_y : is_member ◌==◌ (ends_of classes) y ≡ true
  has_y = member_of_times y (ends_of classes) (let i : one_if (y == y) ≡ 1 = grind (arith, nat_tests) in omega (arith, i))

  abbrev component : ℕ → ℕ
  component = least_label (strand_edges items)

  joined : (u v : ℕ) → Joined (strand_edges items) u v → component u ≡ component v
  joined u v j = (least_label-Joined (strand_edges items) u v).1 j

  ends_class : (l : ℕ) → is_member ◌==◌ (ends_of classes) l ≡ true → (label l ≡ label x) ⊎ (label l ≡ label y)
  ends_class =
      let rules = least_contraction classes in
      ends_by label (label x) (label y) classes (
        (inl refl, rules.one x (slot here (s + 2)) (along (0, omega arith, refl))),
        (
          (inl refl, rules.one x (slot there (t + 2)) (along (1, omega arith, refl))),
          ((inr refl, rules.one y (slot here (s + 1)) (along (2, omega arith, refl))), ((inr refl, rules.one y (slot there (t + 3)) (along (3, omega arith, refl))), tt)),
        ),
      )

  -- R2UNDO KEEPS THE COLOURED VALUE
  pub pulled_coloured : coloured p (closing label x y (removed gone label items)) colours ≡ coloured p items colours
  unfolding coloured
  pulled_coloured =
      let halves = before.bundle_halves p items is c here found d there also apart s t low_s low_t test colours has projectors free_x free_y in
      let at_here = crossing_walks items c here found s s8 in
      let at_there = crossing_walks items d there also t t8 in
      closed_coloured p items is gone classes x y (recounted 1 0 0 0 nothing items pd c here found d there also apart s t low_s low_t test) has_x has_y ends_class
      (inl refl, (inl refl, (inr refl, (inr refl, tt)))) (
        joined x (slot here (s + 2)) at_here.0,
        (
          ap component (sym shared_x) ∙ joined (slot there t) (slot there (t + 2)) at_there.0,
          (
            ap component (sym shared_y) ∙ sym (joined (slot here (s + 1)) (slot here (s + 3)) at_here.1),
            (joined (slot there (t + 1)) (slot there (t + 3)) at_there.1, tt),
          ),
        ),
      )
      (pulled_contracts items pd c d here there s t found also apart low_s low_t test) (pulled_components items pd c d here there s t found also apart low_s low_t test) after_is colours
      (before.few p items is c here found d there also apart s t low_s low_t test colours has projectors free_x free_y) projectors
      (before.boxes p items is c here found d there also apart s t low_s low_t test colours has projectors free_x free_y)
      (before.bundle_pairs p items is c here found d there also apart s t low_s low_t test colours has projectors free_x free_y)
      (before.B p items is c here found d there also apart s t low_s low_t test colours has projectors free_x free_y) (halved_stubbed [] items)
      (halves.0, (halves.1, (halves.2, (halves.3, tt))))
      (before.state p items is c here found d there also apart s t low_s low_t test colours has projectors free_x free_y)
      ∙ sym (before.pulled_bundles p items is c here found d there also apart s t low_s low_t test colours has projectors free_x free_y)
