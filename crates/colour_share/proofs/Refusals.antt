-- A missing inverse is named exactly where there is one, and only the first.
use Rattle.std.proofs.Common.{◌≡◌, ℕ, ◌↔◌, Result, Ok, Err, subst, sym, ap₂}
use Rattle.root_quantum.specs.Parameters.{Parameters}
use Rattle.root_quantum.specs.Colours.{greatest_colour}
use Rattle.planar_check.specs.Framings.{FramedDiagram}
use Rattle.wenzl_table.proofs.FirstCommons.{none_first, one_index, one_common}
use Rattle.frontier_sweep.specs.declared.fault.SweepFault.TheVariants as sweeps
use Rattle.kirby_terms.specs.Terms.{HasInverses}
use Rattle.colour_share.specs.Sums.{IsNoInverse, IsRefused, fault_of}
use Rattle.colour_share.specs.declared.fault.SumFault.{SumFault}
use Rattle.colour_share.specs.declared.fault.SumFault.TheVariants.{TooMany, NoInverse, Wide, Table, Memory}
use Rattle.colour_share.specs.declared.part.PartFault.{PartFault}
use Rattle.colour_share.specs.declared.part.PartFault.TheVariants as parts

none_missing : (p : Parameters) (diagram : FramedDiagram) (index common : ℕ) → HasInverses p diagram → IsNoInverse p diagram index common → ⊥
none_missing p diagram index common inverses k = none_first p (greatest_colour p) index common (inverses k.some) k.first

module _ {X : Type 0} (p : Parameters) (diagram : FramedDiagram) (index common : ℕ) where
  -- where it is what was looked at before the colourings
  pub refused_exactly : (fault : SumFault) → IsRefused p diagram fault → (◌≡◌ {A = Result X SumFault} (Err fault) (Err (NoInverse index common))) ↔ IsNoInverse p diagram index common
  refused_exactly (TooMany components limit) h = (λ e. absurd (cc), λ k. absurd (k.few h.many))
  refused_exactly (NoInverse i a) h = (
    λ e. (let same : i ≡ index = cc in let also : a ≡ common = cc in subst (λ (j : ℕ). IsNoInverse p diagram j common) same (subst (λ (b : ℕ). IsNoInverse p diagram i b) also h)),
    λ k. ap₂ (λ j b. Err (NoInverse j b)) (one_index p (greatest_colour p) i index a common h.first k.first) (one_common p (greatest_colour p) i index a common h.first k.first),
  )
  refused_exactly (Wide i step ends) h = absurd h
  refused_exactly (Table i step) h = absurd h
  refused_exactly Memory h = absurd h

  -- where the inverses exist
  pub value_exactly : (value : X) → HasInverses p diagram → (◌≡◌ {A = Result X SumFault} (Ok value) (Err (NoInverse index common))) ↔ IsNoInverse p diagram index common
  value_exactly value inverses = (λ e. absurd (cc), λ k. absurd (none_missing p diagram index common inverses k))

  stopped_exactly : (fault : PartFault) → HasInverses p diagram → (◌≡◌ {A = Result X SumFault} (Err (fault_of fault)) (Err (NoInverse index common))) ↔ IsNoInverse p diagram index common
  stopped_exactly (parts.Stopped i (sweeps.Wide step ends)) inverses = (λ e. absurd (cc), λ k. absurd (none_missing p diagram index common inverses k))
  stopped_exactly (parts.Stopped i (sweeps.Table step)) inverses = (λ e. absurd (cc), λ k. absurd (none_missing p diagram index common inverses k))
  stopped_exactly (parts.Stopped i sweeps.Memory) inverses = (λ e. absurd (cc), λ k. absurd (none_missing p diagram index common inverses k))
  stopped_exactly parts.Memory inverses = (λ e. absurd (cc), λ k. absurd (none_missing p diagram index common inverses k))

  pub stop_exactly : (fault : PartFault) (of : SumFault) → of ≡ fault_of fault → HasInverses p diagram → (◌≡◌ {A = Result X SumFault} (Err of) (Err (NoInverse index common))) ↔ IsNoInverse p diagram index common
  stop_exactly fault of is inverses =
      subst (λ (x : SumFault). (◌≡◌ {A = Result X SumFault} (Err x) (Err (NoInverse index common))) ↔ IsNoInverse p diagram index common) (sym is) (stopped_exactly fault inverses)
