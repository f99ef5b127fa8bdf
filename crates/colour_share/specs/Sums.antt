-- Kirby sums by workers: what a sum comes to, and why there is none. (Lickorish, ch. 13, for the sum; the rest is this project's own.)
--
--     sum_to each n                         each 1 to each n, added up
--     IsTurnCount answers p diagram turns   the turns over all colourings, each swept in an order of the chooser's answers
--     KnowsOwn table diagram workers worker notes    the notes are the table's, and know a projector of each colour of at least 2 in
--                                           each colouring that falls to the worker, from 1 on
--     AllKnowOwn table diagram workers list     so do the notes of each worker, that of worker 1 first
--     IsTooMany p diagram components limit  there are more than 65,536 colourings
--     IsNoInverse p diagram index common    there are not, and Delta_index is the first of those wanted that shares a factor
--     IsLimited answers p diagram index fault   the sweep of that colouring meets this limit, and no colouring before meets one
--     IsStoppedSum answers p diagram fault  the same, by the fault
--     IsFirstLimit next p diagram fault     the fault is that of `kirby_turns`, if it is a limit
use Rattle.std.specs.Prelude.{◌≡◌, ℕ, zero, suc, ◌+◌, ◌-◌, ◌<◌, ◌≤◌, ⊤, List, slice_get, Some, Err}
use Rattle.std.specs.List.{Contains}
use Rattle.root_quantum.specs.Parameters.{Parameters}
use Rattle.root_quantum.specs.Colours.{greatest_colour}
use Rattle.planar_check.specs.Framings.{FramedDiagram}
use Rattle.frontier_laws.specs.Orders.{View}
use Rattle.frontier_sweep.specs.Sweeps.{IsSwept, IsStopped}
use Rattle.frontier_sweep.specs.declared.fault.SweepFault.{SweepFault}
use Rattle.frontier_sweep.specs.declared.fault.SweepFault.TheVariants as sweeps
use Rattle.wenzl_table.specs.Inverses.{IsFirstCommon}
use Rattle.wenzl_table.specs.Tables.{Table, Notes, IsOf, Knows}
use Rattle.coloured_values.specs.Surgery.{component_count}
use Rattle.kirby_terms.specs.Terms.{network_at, chosen_colours, colouring_total}
use Rattle.colour_share.specs.Shares.{FallsTo, HasTooMany}
use Rattle.colour_share.specs.Turns.{refusal_at, kirby_turns}
use Rattle.colour_share.specs.declared.limits.TheConstants.{MOST_COLOURINGS}
use Rattle.colour_share.specs.declared.fault.SumFault.{SumFault}
use Rattle.colour_share.specs.declared.fault.SumFault.TheVariants.{TooMany, NoInverse, Wide, Table as TableFull, Memory}
use Rattle.colour_share.specs.declared.part.PartFault.{PartFault}
use Rattle.colour_share.specs.declared.part.PartFault.TheVariants as parts

abbrev pub sum_to : (ℕ → ℕ) → ℕ → ℕ
sum_to each zero = 0
sum_to each (suc n) = sum_to each n + each (suc n)

pub record IsTurnCount (answers : View → ℕ → Type 0) (p : Parameters) (diagram : FramedDiagram) (turns : ℕ) : Type 0 where
  pub each : ℕ → ℕ
  pub swept : (index : ℕ) → 1 ≤ index → index ≤ colouring_total p diagram → IsSwept answers (network_at p diagram index) 0 (each index)
  pub total : turns ≡ sum_to each (colouring_total p diagram)

-- Workers and colourings count from 1.
pub record KnowsOwn (table : Table) (diagram : FramedDiagram) (workers worker : ℕ) (notes : Notes) : Type 0 where
  pub of : IsOf notes table
  pub knows : (index : ℕ) → 1 ≤ index → index ≤ colouring_total table.params diagram → FallsTo workers worker index
      → (colour : ℕ) → 2 ≤ colour → Contains (chosen_colours table.params diagram index) colour → Knows notes colour

abbrev pub AllKnowOwn : Table → FramedDiagram → ℕ → List Notes → Type 0
AllKnowOwn table diagram workers list = (worker : ℕ) (notes : Notes) → 1 ≤ worker → slice_get list (worker - 1) ≡ Some notes → KnowsOwn table diagram workers worker notes

-- ---- why there is none
pub record IsTooMany (p : Parameters) (diagram : FramedDiagram) (components limit : ℕ) : Type 0 where
  pub many : HasTooMany p diagram
  pub components_are : components ≡ component_count diagram
  pub limit_is : limit ≡ MOST_COLOURINGS

pub record IsNoInverse (p : Parameters) (diagram : FramedDiagram) (index common : ℕ) : Type 0 where
  pub few : ¬ HasTooMany p diagram
  pub some : 0 < component_count diagram
  pub first : IsFirstCommon p (greatest_colour p) index common

pub record IsLimited (answers : View → ℕ → Type 0) (p : Parameters) (diagram : FramedDiagram) (index : ℕ) (fault : SweepFault) : Type 0 where
  pub some : 1 ≤ index
  pub last : index ≤ colouring_total p diagram
  pub before : (other : ℕ) → 1 ≤ other → other < index → (turns : ℕ) × IsSwept answers (network_at p diagram other) 0 turns
  pub stopped : IsStopped answers (network_at p diagram index) fault

abbrev pub IsStoppedSum : (View → ℕ → Type 0) → Parameters → FramedDiagram → SumFault → Type 0
IsStoppedSum answers p diagram (Wide index step ends) = IsLimited answers p diagram index (sweeps.Wide step ends)
IsStoppedSum answers p diagram (TableFull index step) = IsLimited answers p diagram index (sweeps.Table step)
IsStoppedSum answers p diagram (TooMany components limit) = ⊤
IsStoppedSum answers p diagram (NoInverse index common) = ⊤
IsStoppedSum answers p diagram Memory = ⊤

abbrev pub IsFirstLimit : (View → ℕ) → Parameters → FramedDiagram → SumFault → Type 0
IsFirstLimit next p diagram (Wide index step ends) = kirby_turns next p diagram ≡ Err (Wide index step ends)
IsFirstLimit next p diagram (TableFull index step) = kirby_turns next p diagram ≡ Err (TableFull index step)
IsFirstLimit next p diagram (TooMany components limit) = ⊤
IsFirstLimit next p diagram (NoInverse index common) = ⊤
IsFirstLimit next p diagram Memory = ⊤

-- What is looked at before the colourings.
abbrev pub IsRefused : Parameters → FramedDiagram → SumFault → Type 0
IsRefused p diagram (TooMany components limit) = IsTooMany p diagram components limit
IsRefused p diagram (NoInverse index common) = IsNoInverse p diagram index common
IsRefused p diagram (Wide index step ends) = ⊥
IsRefused p diagram (TableFull index step) = ⊥
IsRefused p diagram Memory = ⊥

-- The fault of some workers, as that of the sum.
abbrev pub fault_of : PartFault → SumFault
fault_of (parts.Stopped index fault) = refusal_at index fault
fault_of parts.Memory = Memory
