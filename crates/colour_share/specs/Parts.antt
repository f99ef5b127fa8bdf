-- What some of the workers come to. Workers and places of colourings count from 0 here: the colouring at a place has the number that
-- is 1 more.
--
--     falls workers from to place         the colouring at the place falls to a worker from `from` on, before `to`
--     share_sum each workers from to n    each of the numbers of those of the first n colourings that fall to them, added up
--     term_residue p diagram index        the term of a colouring, as a residue
--     AreTurns answers p diagram workers from to n each     each of these colourings is swept, with so many turns
--     IsPartSum answers p diagram workers from to n value turns     the value and the turns of these colourings
--     KnowsShare table diagram workers worker n notes       the worker's notes know the projectors of its colourings
--     AllKnow table diagram workers from n list             so do the notes of the workers from `from` on
--     AreSwept answers p diagram workers from to n          none of these colourings meets a limit
--     IsFirstStop answers p diagram workers from to n fault     the fault is that of the first of them that is not swept
--     IsPart table answers diagram workers from to n result     the whole result of these workers
use Rattle.std.specs.Prelude.{◌≡◌, ℕ, zero, suc, ◌+◌, ◌-◌, ◌%◌, ◌^◌, ◌<◌, ◌≤◌, ◌&&◌, nat_le, nat_lt, Bool, true, if◌then◌else◌, pos, List, length, slice_get, Some, Result, MatchResult}
use Rattle.std.specs.List.{Contains}
use Rattle.ring_identities.specs.Residues.{residue}
use Rattle.root_quantum.specs.Parameters.{Parameters}
use Rattle.planar_check.specs.Framings.{FramedDiagram}
use Rattle.frontier_laws.specs.Orders.{View}
use Rattle.frontier_sweep.specs.Sweeps.{IsSwept, IsStopped}
use Rattle.wenzl_table.specs.Tables.{Table, Notes, IsOf, Knows}
use Rattle.kirby_terms.specs.Terms.{term_at, network_at, chosen_colours}
use Rattle.colour_share.specs.declared.part.Summed.{Summed}
use Rattle.colour_share.specs.declared.part.PartFault.{PartFault}
use Rattle.colour_share.specs.declared.part.PartFault.TheVariants.{Stopped, Memory}

abbrev pub falls : ℕ → ℕ → ℕ → ℕ → Bool
falls workers from to place = nat_le from (place % workers) && nat_lt (place % workers) to

abbrev pub share_sum : (ℕ → ℕ) → ℕ → ℕ → ℕ → ℕ → ℕ
share_sum each workers from to zero = 0
share_sum each workers from to (suc place) = share_sum each workers from to place + (if falls workers from to place then each (suc place) else 0)

abbrev pub term_residue : Parameters → FramedDiagram → ℕ → ℕ
term_residue p diagram index = residue p.modulus (term_at p diagram index)

-- The colourings are swept with these turns, each at most 2^54.
pub record AreTurns (answers : View → ℕ → Type 0) (p : Parameters) (diagram : FramedDiagram) (workers from to n : ℕ) (each : ℕ → ℕ) : Type 0 where
  pub swept : (place : ℕ) → place < n → falls workers from to place ≡ true → IsSwept answers (network_at p diagram (suc place)) 0 (each (suc place))
  pub few : (place : ℕ) → place < n → falls workers from to place ≡ true → each (suc place) ≤ 2 ^ 54

pub record IsPartSum (answers : View → ℕ → Type 0) (p : Parameters) (diagram : FramedDiagram) (workers from to n value turns : ℕ) : Type 0 where
  pub value_is : value ≡ residue p.modulus (pos (share_sum (term_residue p diagram) workers from to n))
  pub below : value < p.modulus
  pub each : ℕ → ℕ
  pub are : AreTurns answers p diagram workers from to n each
  pub turns_are : turns ≡ share_sum each workers from to n

-- Of the first n colourings, those of one worker.
pub record KnowsShare (table : Table) (diagram : FramedDiagram) (workers worker n : ℕ) (notes : Notes) : Type 0 where
  pub of : IsOf notes table
  pub knows : (place : ℕ) → place < n → place % workers ≡ worker → (colour : ℕ) → 2 ≤ colour → Contains (chosen_colours table.params diagram (suc place)) colour → Knows notes colour

abbrev pub AllKnow : Table → FramedDiagram → ℕ → ℕ → ℕ → List Notes → Type 0
AllKnow table diagram workers from n list = (k : ℕ) (notes : Notes) → slice_get list k ≡ Some notes → KnowsShare table diagram workers (from + k) n notes

abbrev pub AreSwept : (View → ℕ → Type 0) → Parameters → FramedDiagram → ℕ → ℕ → ℕ → ℕ → Type 0
AreSwept answers p diagram workers from to n =
    (place : ℕ) → place < n → falls workers from to place ≡ true → (turns : ℕ) × IsSwept answers (network_at p diagram (suc place)) 0 turns

-- The contraction of that colouring stopped, and those of the colourings before it didn't.
pub record IsFirstOf (answers : View → ℕ → Type 0) (p : Parameters) (diagram : FramedDiagram) (workers from to n place : ℕ) : Type 0 where
  pub within : place < n
  pub before : AreSwept answers p diagram workers from to place

abbrev pub IsFirstStop : (View → ℕ → Type 0) → Parameters → FramedDiagram → ℕ → ℕ → ℕ → ℕ → PartFault → Type 0
IsFirstStop answers p diagram workers from to n (Stopped colouring fault) =
    (0 < colouring) × IsFirstOf answers p diagram workers from to n (colouring - 1) × IsStopped answers (network_at p diagram colouring) fault
IsFirstStop answers p diagram workers from to n Memory = Unit {0}

pub record IsPartOf (answers : View → ℕ → Type 0) (table : Table) (diagram : FramedDiagram) (workers from to n : ℕ) (part : Summed) : Type 0 where
  pub sum : IsPartSum answers table.params diagram workers from to n part.value part.turns
  pub count : length part.notes.items ≡ to - from
  pub notes : AllKnow table diagram workers from n part.notes.items

abbrev pub IsPart : (View → ℕ → Type 0) → Table → FramedDiagram → ℕ → ℕ → ℕ → ℕ → Result Summed PartFault → Type 0
IsPart answers table diagram workers from to n result =
    MatchResult result (IsPartOf answers table diagram workers from to n) (IsFirstStop answers table.params diagram workers from to n)
