-- Curl keeps the components' least labels, on an edge and on a Loop.
use Rattle.std.proofs.Common.{◌≡◌, ℕ, ◌+◌, ◌*◌, ◌≤◌, true, ◌==◌, List, [], ◌∷◌, ◌++◌, refl, sym, ap, ◌∙◌, arith, ⊎_elim, append-nil}
use Rattle.std.specs.List.{AllByRecursion}
use Rattle.std.specs.Set.{is_member}
use Rattle.std.proofs.lemmas.Bool.{cases_eq}
use Rattle.std.proofs.lemmas.Bool.Decides.{nat_tests}
use Rattle.graph_parts.specs.Walks.{Joined, along, back}
use Rattle.pd_reader.specs.declared.item.Item.{Item}
use Rattle.pd_reader.specs.declared.item.Item.TheVariants as item
use Rattle.pd_reader.specs.Items.{item_labels}
use Rattle.pd_reader.specs.Diagrams.{labels}
use Rattle.planar_check.specs.Components.{strand_edges, least_labels}
use Rattle.planar_check.specs.declared.sign.Sign.{Sign}
use Rattle.planar_check.specs.declared.sign.Sign.TheVariants as signs
use Rattle.diagram_moves.specs.Laws.{IsPairedDiagram}
use Rattle.diagram_moves.specs.Moves.{curl_slots}
use Rattle.diagram_moves.specs.Rewriting.{crossing_labels, fresh}
use Rattle.move_results.proofs.CutComponents.{cut_contracts, cut_components, each_walk}
use Rattle.move_results.proofs.LeastLabelLists.{Contracts}
use Rattle.diagram_moves.proofs.Curling.{label, pairs, R, cut, slots, low, label_old, label_n, label_n1, joined_label, each_back, sizes-curled, curled_times, new_two, first_open, second_open}
use Rattle.diagram_moves.proofs.Paired.{times_labels, loop_labels}
use Rattle.move_results.proofs.PairedAgain.{loop_labels-append}
use Rattle.move_results.proofs.PairedResults.{loop_labels-at_places}
use Rattle.diagram_moves.proofs.Pushing.{crossing_label}
use Rattle.diagram_moves.proofs.Undone.{edge_of}
use Rattle.list_lemmas.specs.Times.{times_in}

module _ (items : List Item) (pd : IsPairedDiagram items) (e : ℕ) (has : is_member ◌==◌ (crossing_labels items) e ≡ true) (sign : Sign) where
  abbrev n : ℕ
  n = fresh items

  abbrev to : ℕ → ℕ
  to = label items pd e has sign

  abbrev walked : List (ℕ × ℕ)
  walked = pairs items pd e has sign

  abbrev new : List Item
  new = item.X (slots items pd e has sign) ∷ []

  abbrev after : List Item
  after = R items pd e has sign ++ new

  pub total : (z : ℕ) → times_in (labels item_labels after) z ≡ times_in (labels item_labels items) z + 2 * new_two items pd e has sign z
  total z =
      let r = R items pd e has sign in
      let x = times_labels after z in
      let y = times_labels items z in
      let u = curled_times items pd e has sign z in
      let v : times_in (loop_labels after) z ≡ times_in (loop_labels items) z =
      ap (λ ns. times_in ns z) (loop_labels-append r new ∙ append-nil (loop_labels r) ∙ loop_labels-at_places (cut items pd e has sign) 0 items) in
      omega (arith, x, y, u, v)

  in_new : (s : Sign) → AllByRecursion (λ (w : ℕ × ℕ). Joined (strand_edges (item.X (curl_slots e (n + 1) n s) ∷ [])) w.0 w.1) ((n, first_open e (n + 1) s) ∷ (n, second_open e (n + 1) s) ∷ [])
  in_new signs.Plus = (back (along (0, omega arith, refl)), (back (along (1, omega arith, refl)), tt))
  in_new signs.Minus = (along (1, omega arith, refl), (back (along (0, omega arith, refl)), tt))

  collapse : (s : Sign) → AllByRecursion (λ (w : ℕ × ℕ). to w.0 ≡ to w.1) (strand_edges (item.X (curl_slots e (n + 1) n s) ∷ []))
  collapse signs.Plus =
      let at_n = label_n items pd e has sign in let at_n1 = label_n1 items pd e has sign in let at_e = label_old items pd e has sign e (low items pd e has sign) in
      (at_e ∙ sym at_n, (at_n1 ∙ sym at_n, tt))
  collapse signs.Minus =
      let at_n = label_n items pd e has sign in let at_n1 = label_n1 items pd e has sign in let at_e = label_old items pd e has sign e (low items pd e has sign) in
      (at_e ∙ sym at_n, (at_n ∙ sym at_n1, tt))

  lowers : (z : ℕ) → to z ≤ z
  lowers z = let x = low items pd e has sign in grind (arith, nat_tests, x)

  onto : (z : ℕ) → 1 ≤ new_two items pd e has sign z → is_member ◌==◌ (labels item_labels items) (to z) ≡ true
  onto z one =
      let there = is_member ◌==◌ (labels item_labels items) in
      let at_e = crossing_label items e has in
      ⊎_elim (λ s. ap there (ap to s ∙ label_n items pd e has sign) ∙ at_e)
      (λ s0. ⊎_elim (λ s. ap there (ap to s ∙ label_n1 items pd e has sign) ∙ at_e)
      (λ s1. absurd (grind (arith, nat_tests, s0, s1, one)))
      (cases_eq z (n + 1))) (cases_eq z n)

  pub curled_contracts : Contracts after items to
  curled_contracts =
      cut_contracts items pd (cut items pd e has sign) new walked to (new_two items pd e has sign) (each_back items pd e has sign) (joined_label items pd e has sign)
      (each_walk walked (strand_edges new) (in_new sign)) (edge_of (strand_edges new) to (collapse sign)) (label_old items pd e has sign) lowers total onto

  pub curled_components : least_labels after ≡ least_labels items
  curled_components =
      cut_components items pd (cut items pd e has sign) new walked to (new_two items pd e has sign) (each_back items pd e has sign) (joined_label items pd e has sign)
      (each_walk walked (strand_edges new) (in_new sign)) (edge_of (strand_edges new) to (collapse sign)) (label_old items pd e has sign) lowers total onto (sizes-curled items pd e has sign)
