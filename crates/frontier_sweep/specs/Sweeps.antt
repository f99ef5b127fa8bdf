-- What a contraction of a network comes to, beside its value: an order in which the chooser took the nodes, and the turns that
-- it takes, or the limit that it meets (this project's own).
--
--     IsSwept answers network before after      all nodes were taken in an order of the chooser's answers, no step of it
--                                               meets a limit, and the count has grown by its turns
--     IsWideStep answers network step ends      at that step, the last of some such order, more than 24 names are open
--     IsFullStep answers network step           at that step there are more than 262,144 pairings
--     IsStopped answers network fault           the same, by the fault
--     stopped_at step reason                    the fault of a step that was not taken for that reason
use Rattle.std.specs.Prelude.{◌≡◌, ℕ, ◌+◌, ◌≤◌, List, length, ⊤}
use Rattle.state_sums.specs.Networks.{Network}
use Rattle.frontier_laws.specs.Orders.{View, taken, IsChosen, IsPartOrder}
use Rattle.frontier_laws.specs.Turns.{turns, IsWithin, IsWideAt, IsFullAt}
use Rattle.frontier_sweep.specs.declared.fault.NotGlued.{NotGlued}
use Rattle.frontier_sweep.specs.declared.fault.NotGlued.TheVariants as reasons
use Rattle.frontier_sweep.specs.declared.fault.SweepFault.{SweepFault}
use Rattle.frontier_sweep.specs.declared.fault.SweepFault.TheVariants.{Wide, Table, Memory}

-- All nodes were taken, in an order of answers; no step meets a limit; the count has grown by the turns of that order.
pub record IsSwept (answers : View → ℕ → Type 0) (network : Network) (before after : ℕ) : Type 0 where
  pub order : List ℕ
  pub part : IsPartOrder (length network.nodes) order
  pub chosen : IsChosen answers network order
  pub whole : length order ≡ length network.nodes
  pub within : IsWithin (taken network.nodes order)
  pub count : after ≡ before + turns network order

-- After so many steps, each an answer, more than 24 names are open, for the first time that a limit is met.
pub record IsWideStep (answers : View → ℕ → Type 0) (network : Network) (step ends : ℕ) : Type 0 where
  pub order : List ℕ
  pub part : IsPartOrder (length network.nodes) order
  pub chosen : IsChosen answers network order
  pub last : length order ≡ step
  pub steps : length order ≤ length network.nodes
  pub limit : IsWideAt (taken network.nodes order) ends

-- After so many steps, each an answer, there are more than 262,144 pairings, for the first time that a limit is met.
pub record IsFullStep (answers : View → ℕ → Type 0) (network : Network) (step : ℕ) : Type 0 where
  pub order : List ℕ
  pub part : IsPartOrder (length network.nodes) order
  pub chosen : IsChosen answers network order
  pub last : length order ≡ step
  pub steps : length order ≤ length network.nodes
  pub limit : IsFullAt (taken network.nodes order)

-- The limit that was met; want of memory says nothing.
abbrev pub IsStopped : (View → ℕ → Type 0) → Network → SweepFault → Type 0
IsStopped answers network (Wide step ends) = IsWideStep answers network step ends
IsStopped answers network (Table step) = IsFullStep answers network step
IsStopped answers network Memory = ⊤

-- The fault of a step that was not taken for that reason.
abbrev pub stopped_at : ℕ → NotGlued → SweepFault
stopped_at step (reasons.Wide ends) = Wide step ends
stopped_at step reasons.Full = Table step
stopped_at step reasons.Memory = Memory
