-- What comes of a sweep, from what a contraction says of it: where one function of the view tells each answer of the chooser, the
-- order is the one that this function gives, and so are its turns and its first limit.
use Rattle.std.proofs.Common.{inl, inr, ◌≡◌, ◌⊎◌, ℕ, ◌+◌, Ok, Err, refl, ap, sym, ◌∙◌}
use Rattle.state_sums.specs.Networks.{Network}
use Rattle.frontier_laws.specs.FunctionOrders.{nodes_by}
use Rattle.frontier_laws.specs.Orders.{View}
use Rattle.frontier_laws.specs.Turns.{turns, turns_of}
use Rattle.frontier_laws.specs.Views.{IsNext}
use Rattle.frontier_laws.proofs.FunctionOrders.{all_within, wide_first, full_first}
use Rattle.frontier_sweep.specs.SweepResults.{by_step, sweep}
use Rattle.frontier_sweep.specs.Sweeps.{IsSwept, IsStopped}
use Rattle.frontier_sweep.specs.declared.fault.SweepFault.{SweepFault}
use Rattle.frontier_sweep.specs.declared.fault.SweepFault.TheVariants.{Wide, Table, Memory}

module _ (next : View → ℕ) (answers : View → ℕ → Type 0) (network : Network) (is_next : IsNext next answers) where
  -- NO STEP MEETS A LIMIT: the count has grown by the turns of the function's order
  pub swept_by : (before after : ℕ) → IsSwept answers network before after → (count : ℕ) × (sweep next network ≡ Ok count) × (after ≡ before + count)
  swept_by before after h =
      let all = all_within next network answers is_next h.order h.part h.chosen h.whole h.within in (
        turns network h.order,
        ap (by_step (nodes_by next network)) all.1 ∙ ap (λ nodes. Ok (turns_of nodes)) (sym all.0),
        h.count,
      )

  -- A LIMIT IS MET: it is the first one of the function's order
  pub stopped_by : (fault : SweepFault) → IsStopped answers network fault → (fault ≡ Memory) ⊎ (sweep next network ≡ Err fault)
  stopped_by (Wide step ends) h =
      let first = wide_first next network answers is_next h.order h.part h.chosen step ends h.last h.steps h.limit in
      let wide = first.1 in
      let count = first.2 in
      inr (ap (by_step (nodes_by next network)) first.0 ∙ rw (wide, count) refl)
  stopped_by (Table step) h =
      let first = full_first next network answers is_next h.order h.part h.chosen step h.last h.steps h.limit in
      let narrow = first.1 in
      inr (ap (by_step (nodes_by next network)) first.0 ∙ rw narrow refl)
  stopped_by Memory h = inl refl
