use Rattle.std.proofs.Common.{rules, ◌≡◌, ◌≢◌, ◌<◌, ◌==◌, nat_lt, true, ℕ, List, [], ◌∷◌, length, slice_index, refl, ap, ◌∙◌, arith}
use Rattle.std.specs.Set.{is_member}
use Rattle.std.proofs.lemmas.Bool.Decides.{nat_tests}
use Rattle.frontier_laws.specs.Orders.{open_with, first_least}
use Rattle.frontier_laws.proofs.FirstLeast.{first_least-alike}
use Rattle.frontier_sweep.proofs.order.greedy_next.Goals as goal

filled : (places : List ℕ) → places ≢ [] → 0 < length places
filled [] some = absurd (some refl)
filled (place ∷ places) some = omega arith

pub returns-clause-next : goal.returns-clause-next
returns-clause-next c =
    let view = c.args.view.now in
    let rises : List ℕ = c.rises-rises.result.now in
    let has = c.rises-rises.ensures.value in
    let key : ℕ → ℕ = λ place. slice_index rises place in
    let alike : (x y : ℕ) → is_member ◌==◌ view.left x ≡ true → is_member ◌==◌ view.left y ≡ true → nat_lt (key y) (key x) ≡ nat_lt (open_with view y) (open_with view x) =
    λ x y in_x in_y. let a = has.each x in_x in let b = has.each y in_y in grind (arith, nat_tests, a, b) in
    let some = filled view.left c.requires in
    c.first_least.ensures.least key (search rules) ∙ ap (first_least key) c.left.ensures.value ∙ first_least-alike key (open_with view) view.left some alike
