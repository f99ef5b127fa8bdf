-- The result of a move on a diagram is a diagram: labels in range, and not too many items.
use Rattle.std.proofs.Common.{◌≡◌, ℕ, ◌+◌, ◌*◌, ◌≤◌, true, false, cond, ◌==◌, List, [], ◌∷◌, ◌++◌, length, Ok, refl, sym, ap, ◌∙◌, arith, ⊎_elim, ◌⊎◌, inl, inr, subst}
use Rattle.std.specs.List.{AllByRecursion}
use Rattle.std.specs.Set.{is_member}
use Rattle.std.proofs.lemmas.Bool.{cases_Bool, eqb-true, or_cases, or_left, or_right, eq-eqb}
use Rattle.std.proofs.lemmas.Bool.Decides.{nat_tests}
use Rattle.pd_reader.specs.declared.item.Item.{Item}
use Rattle.pd_reader.specs.declared.item.Item.TheVariants as item
use Rattle.pd_reader.specs.Items.{item_labels}
use Rattle.pd_reader.specs.Diagrams.{labels, IsDiagram, IsLabel}
use Rattle.diagram_moves.specs.Laws.{IsPairedDiagram}
use Rattle.move_results.specs.Laws.{DiagramAgainLaw}
use Rattle.diagram_moves.specs.Moves.{move}
use Rattle.diagram_moves.specs.Rewriting.{fresh}
use Rattle.script_reader.specs.declared.step.Step.{Step}
use Rattle.diagram_moves.specs.declared.factor.Factor.{Factor}
use Rattle.script_reader.specs.declared.step.Step.TheVariants.{R2, R2Undo, R3, Curl, CurlUndo, BlowUp, Slide}
use Rattle.diagram_moves.specs.Steps.{Moved}
use Rattle.move_results.proofs.ClosedComponents.{pulled_contracts, uncurled_contracts}
use Rattle.move_results.proofs.ComponentLaws as loops
use Rattle.move_results.proofs.CurledComponents as curls
use Rattle.planar_check.specs.Components.{greatest}
use Rattle.diagram_moves.proofs.PlaceLemmas.{fresh_above}
use Rattle.diagram_moves.proofs.Curling.{new_two}
use Rattle.diagram_moves.proofs.NoNumbers.{nothing}
use Rattle.list_lemmas.proofs.Times.{member_of_times, times_none, times_of_member}
use Rattle.move_results.proofs.PairedResults.{paired_again, triangle_edges}
use Rattle.move_results.proofs.PushedComponents as pushes
use Rattle.diagram_moves.proofs.Pushing.{new_four}
use Rattle.diagram_moves.proofs.Results.{Reached, by_push, by_pull, by_slide, by_curl, by_curl_on_loop, by_uncurl, reached, blown_up, blown_few}
use Rattle.move_results.proofs.TriangleComponents.{after_members}
use Rattle.list_lemmas.specs.Times.{times_in}

-- a label of the result is one of the diagram, or one of four new ones
abbrev pub OldOrNew : List Item → ℕ → Type 0
OldOrNew items z = (is_member ◌==◌ (labels item_labels items) z ≡ true) ⊎ ((fresh items ≤ z) × (z ≤ fresh items + 3))

from_total : (items after : List Item) (z k : ℕ) → times_in (labels item_labels after) z ≡ times_in (labels item_labels items) z + 2 * k → (1 ≤ k → (fresh items ≤ z) × (z ≤ fresh items + 3)) →
    is_member ◌==◌ (labels item_labels after) z ≡ true → OldOrNew items z
from_total items after z k total new m =
    let one = times_of_member z (labels item_labels after) m in
    ⊎_elim (λ h. inl h) (λ h. inr (new (let none = times_none (labels item_labels items) z h in omega (arith, one, total, none)))) (cases_Bool (is_member ◌==◌ (labels item_labels items) z))

of_four : (n z : ℕ) → 1 ≤ new_four n z → (n ≤ z) × (z ≤ n + 3)
of_four n z h = (grind (arith, nat_tests, h), grind (arith, nat_tests, h))

of_two : (n z : ℕ) → 1 ≤ cond (z == n) 1 0 + cond (z == n + 1) 1 0 → (n ≤ z) × (z ≤ n + 3)
of_two n z h = (grind (arith, nat_tests, h), grind (arith, nat_tests, h))

of_one : (n z : ℕ) → 1 ≤ cond {A = ℕ} (z == n) 1 0 → (n ≤ z) × (z ≤ n + 3)
of_one n z h = (grind (arith, nat_tests, h), grind (arith, nat_tests, h))

pub old_or_new : (items after : List Item) → IsPairedDiagram items → {factor : Factor} → Reached items factor after → (z : ℕ) → is_member ◌==◌ (labels item_labels after) z ≡ true → OldOrNew items z
old_or_new items after pd (by_push e f b c has_e has_f apart) z m =
    from_total items after z (new_four (fresh items) z) (pushes.total items pd e f has_e has_f apart b c z) (of_four (fresh items) z) m
old_or_new items after pd (by_pull c g here there s t at_c at_g apart low_s low_t test) z m = inl ((pulled_contracts items pd c g here there s t at_c at_g apart low_s low_t test).within z m)
old_or_new items after pd (by_slide c g f here there beyond s t u at_c at_g at_f distinct low_s low_t low_u test) z m =
    let edges = triangle_edges here there beyond s t u test in
    let gc : (g == c) ≡ false = grind (arith, nat_tests, distinct) in
    let fc : (f == c) ≡ false = grind (arith, nat_tests, distinct) in
    let fg : (f == g) ≡ false = grind (arith, nat_tests, distinct) in
    let e = after_members 1 0 0 0 nothing items pd c here at_c g there at_g f beyond at_f gc fc fg (s + 3) t u (omega (arith, low_s)) (omega (arith, low_t)) (omega (arith, low_u)) edges.0 edges.1 edges.2 z in
    let one = times_of_member z (labels item_labels after) m in
    inl (member_of_times z (labels item_labels items) (omega (arith, one, e)))
old_or_new items after pd (by_curl e sign has) z m =
    from_total items after z (new_two items pd e has sign z) (curls.total items pd e has sign z) (of_two (fresh items) z) m
old_or_new items after pd (by_curl_on_loop e sign has out) z m =
    from_total items after z (cond (z == fresh items) 1 0) (loops.total items pd e has out sign z) (of_one (fresh items) z) m
old_or_new items after pd (by_uncurl c here s at_c low test) z m = inl ((uncurled_contracts items pd c here s at_c low test).within z m)

each_label : (ls : List ℕ) → ((x : ℕ) → is_member ◌==◌ ls x ≡ true → IsLabel x) → AllByRecursion IsLabel ls
each_label [] h = tt
each_label (l ∷ ls) h = (h l (or_left (l == l) (is_member ◌==◌ ls l) (eq-eqb l l refl)), each_label ls (λ x m. h x (or_right (x == l) (is_member ◌==◌ ls x) m)))

label_of : (ls : List ℕ) → AllByRecursion IsLabel ls → (x : ℕ) → is_member ◌==◌ ls x ≡ true → IsLabel x
label_of [] h x m = absurd (grind (arith, m))
label_of (l ∷ ls) h x m = ⊎_elim (λ e. subst IsLabel (sym (eqb-true x l e)) h.0) (λ n. label_of ls h.1 x n) (or_cases (x == l) (is_member ◌==◌ ls x) m)

in_range : (items : List Item) → IsDiagram items → fresh items + 3 ≤ 2000000 → (z : ℕ) → OldOrNew items z → IsLabel z
in_range items is room z old = ⊎_elim (λ m. label_of (labels item_labels items) is.in_range z m) (λ h. record { low = (let b = h.0 in omega (arith, b)); high = (let t = h.1 in omega (arith, t, room)) }) old

pub as_paired : (items : List Item) → IsDiagram items → IsPairedDiagram items
as_paired items is = record { sizes = is.sizes; twice = is.twice }

-- each label of a result is one of the diagram's, or one of four new ones
pub label_of_result : (items : List Item) (step : Step) (moved : Moved) → IsPairedDiagram items → move items step ≡ Ok moved → (z : ℕ) → is_member ◌==◌ (labels item_labels moved.items) z ≡ true → OldOrNew items z
label_of_result items (R2 e f) moved pd h = old_or_new items moved.items pd (reached items (R2 e f) moved refl h).0
label_of_result items (R2Undo c g) moved pd h = old_or_new items moved.items pd (reached items (R2Undo c g) moved refl h).0
label_of_result items (R3 c g f) moved pd h = old_or_new items moved.items pd (reached items (R3 c g f) moved refl h).0
label_of_result items (Curl e sign) moved pd h = old_or_new items moved.items pd (reached items (Curl e sign) moved refl h).0
label_of_result items (CurlUndo c) moved pd h = old_or_new items moved.items pd (reached items (CurlUndo c) moved refl h).0
label_of_result items (BlowUp sign) moved pd h = λ z m.
    let n = fresh items in
    let there = ap (λ its. is_member ◌==◌ (labels item_labels its) z) (blown_up items sign moved h) in
    from_total items (items ++ item.Loop n ∷ []) z (cond (z == n) 1 0) (loops.blown_labels items n z) (of_one n z) (sym there ∙ m)
label_of_result items (Slide e f) moved pd h = absurd cc

few_items : (items : List Item) (step : Step) (moved : Moved) → move items step ≡ Ok moved → length moved.items ≤ 256
few_items items (R2 e f) moved h = (reached items (R2 e f) moved refl h).1
few_items items (R2Undo c g) moved h = (reached items (R2Undo c g) moved refl h).1
few_items items (R3 c g f) moved h = (reached items (R3 c g f) moved refl h).1
few_items items (Curl e sign) moved h = (reached items (Curl e sign) moved refl h).1
few_items items (CurlUndo c) moved h = (reached items (CurlUndo c) moved refl h).1
few_items items (BlowUp sign) moved h = blown_few items sign moved h
few_items items (Slide e f) moved h = absurd cc

greatest_at_most : (ls : List ℕ) (n : ℕ) → ((z : ℕ) → is_member ◌==◌ ls z ≡ true → z ≤ n) → greatest ls ≤ n
greatest_at_most [] n h = omega arith
greatest_at_most (l ∷ ls) n h =
    let here = h l (or_left (l == l) (is_member ◌==◌ ls l) (eq-eqb l l refl)) in
    let rest = greatest_at_most ls n (λ z m. h z (or_right (z == l) (is_member ◌==◌ ls z) m)) in
    omega (arith, here, rest)

-- A STEP RAISES THE GREATEST LABEL BY AT MOST FOUR
pub greatest_grows : (items : List Item) (step : Step) (moved : Moved) → IsPairedDiagram items → move items step ≡ Ok moved → greatest (labels item_labels moved.items) ≤ greatest (labels item_labels items) + 4
greatest_grows items step moved pd h =
    greatest_at_most (labels item_labels moved.items) (greatest (labels item_labels items) + 4)
    (λ z m. ⊎_elim (λ old. let low = fresh_above items z old in omega (arith, low)) (λ new. omega (arith, new.1)) (label_of_result items step moved pd h z m))

-- A DIAGRAM AGAIN
pub diagram_again : DiagramAgainLaw
diagram_again items step moved is room h =
    let paired = paired_again items step moved (as_paired items is) h in
    record {
      few = few_items items step moved h;
      sizes = paired.sizes;
      in_range = each_label (labels item_labels moved.items) (λ x m. in_range items is room x (label_of_result items step moved (as_paired items is) h x m));
      twice = paired.twice;
    }
