use Rattle.std.proofs.Common.{◌≡◌, ℕ, ◌+◌, Option, Some, None, Result, Ok, Err, ap, ◌∙◌, arith}
use Rattle.std.specs.Result.{OnOk}
use Rattle.state_sums.specs.Networks.{Network}
use Rattle.frontier_laws.specs.Orders.{View}
use Rattle.frontier_sweep.specs.SweepResults.{sweep}
use Rattle.frontier_sweep.specs.declared.fault.SweepFault.{SweepFault}
use Rattle.frontier_sweep.proofs.tests.answer_of.Goals as goal

abbrev turns_of_answer : Option (Result ℕ SweepFault × ℕ) → ℕ
turns_of_answer (Some answer) = answer.1
turns_of_answer None = 0

abbrev fault_of_answer : Option (Result ℕ SweepFault × ℕ) → ℕ
fault_of_answer (Some (Ok value, turns)) = 0
fault_of_answer (Some (Err fault, turns)) = 1
fault_of_answer None = 1

-- the turns that are told are those by which the count has grown from 0
told : (next : View → ℕ) (network : Network) (answer : Result ℕ SweepFault) (before after turns : ℕ) → before ≡ 0 → turns ≡ after → OnOk answer ((count : ℕ) × (sweep next network ≡ Ok count) × (after ≡ before + count)) →
    (value count : ℕ) → ◌≡◌ {A = Option (Result ℕ SweepFault × ℕ)} (Some (answer, turns)) (Some (Ok value, count)) → sweep next network ≡ Ok count
told next network (Ok found) before after turns none same grown value count is =
    let grows : after ≡ before + grown.0 = grown.2 in
    let last : turns ≡ count = ap turns_of_answer is in
    grown.1 ∙ ap Ok (omega (arith, none, same, grows, last))
told next network (Err fault) before after turns none same grown value count is = absurd (let one : ◌≡◌ {A = ℕ} 1 0 = ap fault_of_answer is in omega (arith, one))

pub returns : goal.returns
returns g c next is_next = told next c.args.network.now _ _ _ _ c.new-turns.ensures c.count.ensures (c.contract-answer.ensures.turns next is_next)
