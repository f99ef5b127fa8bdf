-- R2 keeps the components' least labels.
use Rattle.std.proofs.Common.{◌≡◌, ◌≢◌, ℕ, ◌+◌, ◌*◌, ◌≤◌, Bool, true, ◌==◌, List, [], ◌∷◌, refl, sym, ap, ◌∙◌, arith, ⊎_elim, append-nil}
use Rattle.std.specs.List.{AllByRecursion}
use Rattle.std.specs.Set.{is_member}
use Rattle.std.proofs.lemmas.Bool.{cases_eq}
use Rattle.std.proofs.lemmas.Bool.Decides.{nat_tests}
use Rattle.graph_parts.specs.Walks.{Joined, along, back}
use Rattle.pd_reader.specs.declared.item.Item.{Item}
use Rattle.pd_reader.specs.declared.item.Item.TheVariants as item
use Rattle.pd_reader.specs.Items.{item_labels}
use Rattle.pd_reader.specs.Diagrams.{labels}
use Rattle.planar_check.specs.Components.{strand_edges, least_labels}
use Rattle.diagram_moves.specs.Laws.{IsPairedDiagram}
use Rattle.diagram_moves.specs.Moves.{pushed}
use Rattle.diagram_moves.specs.Rewriting.{crossing_labels, fresh}
use Rattle.move_results.proofs.CutComponents.{cut_contracts, cut_components, each_walk}
use Rattle.move_results.proofs.LeastLabelLists.{Contracts}
use Rattle.diagram_moves.proofs.Paired.{times_labels, loop_labels}
use Rattle.move_results.proofs.PairedAgain.{loop_labels-append}
use Rattle.move_results.proofs.PairedResults.{loop_labels-at_places}
use Rattle.diagram_moves.proofs.Pushing.{label, pairs, q1, q2, R, cut, label_old, label_n, label_n1, label_n2, label_n3, label_e1, label_e3, label_f1, label_f3, joined_label, each_back, low_e, low_f, sizes-pushed, pushed_times, new_four, crossing_label}
use Rattle.diagram_moves.proofs.Undone.{edge_of}
use Rattle.list_lemmas.specs.Times.{times_in}

module _ (items : List Item) (pd : IsPairedDiagram items) (e f : ℕ) (has_e : is_member ◌==◌ (crossing_labels items) e ≡ true) (has_f : is_member ◌==◌ (crossing_labels items) f ≡ true)
    (apart : e ≢ f) (b c : Bool) where
  abbrev n : ℕ
  n = fresh items

  abbrev to : ℕ → ℕ
  to = label items pd e f has_e has_f apart b c

  abbrev walked : List (ℕ × ℕ)
  walked = pairs items pd e f has_e has_f apart b c

  abbrev new : List Item
  new = item.X (q1 items pd e f has_e has_f apart b c) ∷ item.X (q2 items pd e f has_e has_f apart b c) ∷ []

  pub total : (z : ℕ) → times_in (labels item_labels (pushed items e f b c)) z ≡ times_in (labels item_labels items) z + 2 * new_four n z
  total z =
      let r = R items pd e f has_e has_f apart b c in
      let x = times_labels (pushed items e f b c) z in
      let y = times_labels items z in
      let u = pushed_times items pd e f has_e has_f apart b c z in
      let v : times_in (loop_labels (pushed items e f b c)) z ≡ times_in (loop_labels items) z =
      ap (λ ns. times_in ns z) (loop_labels-append r new ∙ append-nil (loop_labels r) ∙ loop_labels-at_places (cut items pd e f has_e has_f apart b c) 0 items) in
      omega (arith, x, y, u, v)

  in_new : AllByRecursion (λ w. Joined (strand_edges new) w.0 w.1) walked
  in_new = (along (0, omega arith, refl), (back (along (2, omega arith, refl)), (back (along (1, omega arith, refl)), (back (along (3, omega arith, refl)), tt))))

  collapse : AllByRecursion (λ w. to w.0 ≡ to w.1) (strand_edges new)
  collapse =
      let at_n = label_n items pd e f has_e has_f apart b c in
      let at_n2 = label_n2 items pd e f has_e has_f apart b c in
      let at_f3 = label_f3 items pd e f has_e has_f apart b c in
      let at_e1 = label_e1 items pd e f has_e has_f apart b c in
      let at_f1 = label_f1 items pd e f has_e has_f apart b c in
      let at_e3 = label_e3 items pd e f has_e has_f apart b c in
      (at_n2 ∙ sym at_f3, (at_e1 ∙ sym at_n, (at_f1 ∙ sym at_n2, (at_e3 ∙ sym at_n, tt))))

  lowers : (z : ℕ) → to z ≤ z
  lowers z = let x = low_e items pd e f has_e has_f apart b c in let y = low_f items pd e f has_e has_f apart b c in grind (arith, nat_tests, x, y)

  onto : (z : ℕ) → 1 ≤ new_four n z → is_member ◌==◌ (labels item_labels items) (to z) ≡ true
  onto z one =
      let has = is_member ◌==◌ (labels item_labels items) in
      let at_e = crossing_label items e has_e in
      let at_f = crossing_label items f has_f in
      ⊎_elim (λ s. ap has (ap to s ∙ label_n items pd e f has_e has_f apart b c) ∙ at_e)
      (λ s0. ⊎_elim (λ s. ap has (ap to s ∙ label_n1 items pd e f has_e has_f apart b c) ∙ at_e)
      (λ s1. ⊎_elim (λ s. ap has (ap to s ∙ label_n2 items pd e f has_e has_f apart b c) ∙ at_f)
      (λ s2. ⊎_elim (λ s. ap has (ap to s ∙ label_n3 items pd e f has_e has_f apart b c) ∙ at_f)
      (λ s3. absurd (grind (arith, nat_tests, s0, s1, s2, s3, one)))
      (cases_eq z (n + 3))) (cases_eq z (n + 2))) (cases_eq z (n + 1))) (cases_eq z n)

  pub pushed_contracts : Contracts (pushed items e f b c) items to
  pushed_contracts =
      cut_contracts items pd (cut items pd e f has_e has_f apart b c) new walked to (new_four n) (each_back items pd e f has_e has_f apart b c) (joined_label items pd e f has_e has_f apart b c)
      (each_walk walked (strand_edges new) in_new) (edge_of (strand_edges new) to collapse) (label_old items pd e f has_e has_f apart b c) lowers total onto

  pub pushed_components : least_labels (pushed items e f b c) ≡ least_labels items
  pushed_components =
      cut_components items pd (cut items pd e f has_e has_f apart b c) new walked to (new_four n) (each_back items pd e f has_e has_f apart b c) (joined_label items pd e f has_e has_f apart b c)
      (each_walk walked (strand_edges new) in_new) (edge_of (strand_edges new) to collapse) (label_old items pd e f has_e has_f apart b c) lowers total onto (sizes-pushed items pd e f has_e has_f apart b c)
