-- The cable of a diagram whose components all have colour 1: no colour is past a top of at least 1, no projector is wanted, and
-- the cable is the network of the bracket.
use Rattle.std.proofs.Common.{◌≡◌, ◌≢◌, ◌⊎◌, inl, inr, ◌∙◌, ℕ, zero, suc, ◌≤◌, List, All, Some, None, length, replicate, refl, sym, arith}
use Rattle.std.specs.List.{AllByRecursion}
use Rattle.std.proofs.lemmas.List.{length-replicate}
use Rattle.std.proofs.lemmas.List.Elements.{All-cons, All-nil}
use Rattle.root_quantum.specs.Parameters.{Parameters, top_colour}
use Rattle.pd_reader.specs.declared.item.Item.{Item}
use Rattle.pd_reader.specs.Diagrams.{IsDiagram}
use Rattle.planar_check.specs.Components.{greatest, least_labels}
use Rattle.diagram_brackets.specs.Brackets.{bracket_network}
use Rattle.coloured_values.specs.Coloured.{cabled}
use Rattle.coloured_values.proofs.ColouredLaws.{cabled_ones}
use Rattle.skein_network.specs.declared.fault.CableFault.{CableFault}
use Rattle.skein_network.specs.declared.fault.CableFault.TheVariants.{ColourCount, ColourTooLarge, Unequal, NotAdmissible, NoInverse, Memory}
use Rattle.skein_network.specs.Refusals.{colour_refusal, IsNoInverse}
use Rattle.kirby_terms.proofs.NoFaults.{no_refusal}

pub one_is_low : (p : Parameters) → 1 ≤ top_colour p
one_is_low p = let level = p.meets.level.0 in omega (arith, level)

all_one : (n : ℕ) → AllByRecursion (λ (colour : ℕ). colour ≡ 1) (replicate n 1)
all_one zero = tt
all_one (suc n) = (refl, all_one n)

all_low : (n : ℕ) → All (λ colour. colour ≤ 1) (replicate n 1)
all_low zero = All-nil (λ colour. colour ≤ 1)
all_low (suc n) = All-cons (λ colour. colour ≤ 1) 1 (replicate n 1) (omega arith) (all_low n)

greatest_low : (n : ℕ) → greatest (replicate n 1) ≤ 1
greatest_low zero = omega arith
greatest_low (suc n) = let rest = greatest_low n in omega (arith, rest)

-- none of Delta_1 to Delta_(n-1) is wanting where n is at most 1
none_missing : (p : Parameters) (n : ℕ) (fault : CableFault) → n ≤ 1 → IsNoInverse p n fault → ⊥
none_missing p n (ColourCount given wanted) low h = h
none_missing p n (ColourTooLarge colour limit) low h = h
none_missing p n (Unequal edge) low h = h
none_missing p n (NotAdmissible vertex) low h = h
none_missing p n (NoInverse index common) low h = let above = h.above in let below = h.below in omega (arith, low, above, below)
none_missing p n Memory low h = h

-- IT IS REFUSED FOR WANT OF MEMORY ALONE
pub memory_alone : (p : Parameters) (n top : ℕ) (fault : CableFault) → 1 ≤ top → fault ≢ Memory →
    (fault ≡ Memory) ⊎ ((colour_refusal top n (replicate n 1) ≡ Some fault) ⊎ ((colour_refusal top n (replicate n 1) ≡ None) × IsNoInverse p (greatest (replicate n 1)) fault)) → ⊥
memory_alone p n top fault one other (inl e) = other e
memory_alone p n top fault one other (inr (inl e)) =
    let low : All (λ colour. colour ≤ top) (replicate n 1) = λ i d l. (let at = all_low n i d l in omega (arith, at, one)) in
    let none = no_refusal top n (replicate n 1) (length-replicate n 1) low in
    let wrong : None ≡ Some fault = sym none ∙ e in
    cc
memory_alone p n top fault one other (inr (inr h)) = none_missing p (greatest (replicate n 1)) fault (greatest_low n) h.1

-- IT IS THE NETWORK OF THE BRACKET
pub plain_network : (p : Parameters) (items : List Item) → IsDiagram items → cabled p items (replicate (length (least_labels items)) 1) ≡ bracket_network p items
plain_network p items diagram =
    let n = length (least_labels items) in cabled_ones p items (replicate n 1) diagram (length-replicate n 1) (all_one n)
