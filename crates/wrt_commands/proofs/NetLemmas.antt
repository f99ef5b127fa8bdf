-- A net whose colours don't fit: the check stops for the refusal of the colours, or for want of memory.
use Rattle.std.proofs.Common.{◌≡◌, ◌∙◌, ◌⊎◌, inl, inr, ℕ, List, Option, Some, sym, ap, subst}
use Rattle.pd_reader.specs.declared.item.NetItem.{NetItem}
use Rattle.skein_network.specs.Refusals.{net_refusal}
use Rattle.skein_network.specs.declared.fault.CableFault.{CableFault}
use Rattle.skein_network.specs.declared.fault.CableFault.TheVariants as faults
use Rattle.wrt_commands.specs.declared.stop.Stop.{Stop}
use Rattle.wrt_commands.specs.ColourFits.{fits, stop_of_cable}
use Rattle.wrt_commands.specs.Stops.{Is, Stops}
use Rattle.wrt_commands.proofs.SweptLemmas.{fault_stops}

-- a fault of the colours, or want of memory
fault_or_memory : (found : Option CableFault) (fault : CableFault) (stop : Stop) → (fault ≡ faults.Memory) ⊎ (found ≡ Some fault) → stop ≡ stop_of_cable fault → Stops (Is (fits found)) stop
fault_or_memory found fault stop (inr is) told = fault_stops found fault stop is told
fault_or_memory found fault stop (inl memory) told =
    let T : Stop → Type 0 = λ s. Stops (Is (fits found)) s in subst T (sym (told ∙ ap stop_of_cable memory)) tt

-- THE CHECK STOPS
pub net_fault_stops : (items : List NetItem) (colours : List ℕ) (limit top : ℕ) → limit ≡ top → (fault : CableFault) (stop : Stop)
    → (fault ≡ faults.Memory) ⊎ (net_refusal limit items colours ≡ Some fault) → stop ≡ stop_of_cable fault → Stops (Is (fits (net_refusal top items colours))) stop
net_fault_stops items colours limit top same fault stop h told =
    let P : ℕ → Type 0 = λ t. Stops (Is (fits (net_refusal t items colours))) stop in
    subst P same (fault_or_memory (net_refusal limit items colours) fault stop h told)
