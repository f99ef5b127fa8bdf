-- Colours of the form that have projectors are never refused.
use Rattle.std.proofs.Common.{◌≡◌, ◌≢◌, ◌⊎◌, ℕ, ◌<◌, ◌≤◌, false, nat_lt, if◌then◌else◌, Some, None, List, [], ◌∷◌, length, option_map, refl, sym, ap, ◌∙◌, arith, inl, inr, All}
use Rattle.std.proofs.lemmas.Bool.{eq-eqb}
use Rattle.std.proofs.lemmas.Bool.Decides.{nat_tests}
use Rattle.std.proofs.lemmas.Nat.Gcd.{same_from_IsGcd}
use Rattle.std.proofs.lemmas.List.Elements.{All-head, All-tail}
use Rattle.root_quantum.specs.Parameters.{Parameters}
use Rattle.root_quantum.specs.Colours.{greatest_colour}
use Rattle.root_quantum.specs.QuantumNumbers.{delta}
use Rattle.planar_check.specs.Components.{greatest}
use Rattle.planar_check.specs.Framings.{FramedDiagram}
use Rattle.wenzl_table.specs.Inverses.{IsFirstCommon}
use Rattle.coloured_values.specs.Surgery.{component_count}
use Rattle.skein_network.specs.declared.fault.CableFault.{CableFault}
use Rattle.skein_network.specs.declared.fault.CableFault.TheVariants.{ColourCount, ColourTooLarge, Unequal, NotAdmissible, NoInverse, Memory}
use Rattle.skein_network.specs.Refusals.{first_above, colour_refusal, IsNoInverse}
use Rattle.kirby_terms.specs.Terms.{HasInverses}

none_above : (top : ℕ) (colours : List ℕ) → All (λ n. n ≤ top) colours → first_above top colours ≡ None
none_above top [] each = refl
none_above top (c ∷ colours) each =
    let low : c ≤ top = All-head (λ n. n ≤ top) c colours each in
    let test : nat_lt top c ≡ false = grind (arith, nat_tests, low) in
    ap (λ b. if b then Some c else first_above top colours) test ∙ none_above top colours (All-tail (λ n. n ≤ top) c colours each)

pub no_refusal : (top wanted : ℕ) (colours : List ℕ) → length colours ≡ wanted → All (λ n. n ≤ top) colours → colour_refusal top wanted colours ≡ None
no_refusal top wanted colours count each =
    ap (λ b. if b then option_map (λ colour. ColourTooLarge colour top) (first_above top colours) else Some (ColourCount (length colours) wanted)) (eq-eqb (length colours) wanted count)
    ∙ ap (option_map (λ colour. ColourTooLarge colour top)) (none_above top colours each)

-- ---- the inverses
greatest_at_most : (top : ℕ) (colours : List ℕ) → All (λ n. n ≤ top) colours → greatest colours ≤ top
greatest_at_most top [] each = omega arith
greatest_at_most top (c ∷ colours) each =
    let low : c ≤ top = All-head (λ n. n ≤ top) c colours each in
    let rest = greatest_at_most top colours (All-tail (λ n. n ≤ top) c colours each) in
    omega (arith, low, rest)

some_colour : (colours : List ℕ) (index : ℕ) → index < greatest colours → 0 < length colours
some_colour [] index h = absurd (omega (arith, h))
some_colour (c ∷ colours) index h = omega arith

none_common : (p : Parameters) (diagram : FramedDiagram) (colours : List ℕ) (index common : ℕ) → length colours ≡ component_count diagram → All (λ n. n ≤ greatest_colour p) colours →
    HasInverses p diagram → IsFirstCommon p (greatest colours) index common → ⊥
none_common p diagram colours index common count each inverses h =
    let below = h.below in
    let some = some_colour colours index below in
    let high = greatest_at_most (greatest_colour p) colours each in
    h.shared (same_from_IsGcd (delta p index) p.modulus common 1 h.divisor (inverses (omega (arith, some, count)) index h.above (omega (arith, below, high))))

no_inverse : (p : Parameters) (n : ℕ) (fault : CableFault) → ((index common : ℕ) → IsFirstCommon p n index common → ⊥) → IsNoInverse p n fault → ⊥
no_inverse p n (ColourCount given wanted) none h = h
no_inverse p n (ColourTooLarge colour limit) none h = h
no_inverse p n (Unequal edge) none h = h
no_inverse p n (NotAdmissible vertex) none h = h
no_inverse p n (NoInverse index common) none h = none index common h
no_inverse p n Memory none h = h

-- THE CABLE IS REFUSED FOR WANT OF MEMORY ALONE
pub memory_alone : (p : Parameters) (diagram : FramedDiagram) (colours : List ℕ) (top : ℕ) (fault : CableFault) → length colours ≡ component_count diagram →
    All (λ n. n ≤ greatest_colour p) colours → greatest_colour p ≤ top → HasInverses p diagram → fault ≢ Memory →
    (fault ≡ Memory) ⊎ ((colour_refusal top (component_count diagram) colours ≡ Some fault) ⊎ ((colour_refusal top (component_count diagram) colours ≡ None) × IsNoInverse p (greatest colours) fault)) → ⊥
memory_alone p diagram colours top fault count each high inverses other (inl e) = other e
memory_alone p diagram colours top fault count each high inverses other (inr (inl e)) =
    let all : All (λ n. n ≤ top) colours = λ i d l. (let low = each i d l in omega (arith, low, high)) in
    let none = no_refusal top (component_count diagram) colours count all in
    let wrong : None ≡ Some fault = sym none ∙ e in
    cc
memory_alone p diagram colours top fault count each high inverses other (inr (inr h)) =
    no_inverse p (greatest colours) fault (λ index common. none_common p diagram colours index common count each inverses) h.1
