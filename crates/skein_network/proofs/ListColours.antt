-- Colours that aren't refused: as many as wanted, none past the top, so none above 8; and what the refusals say of a net.
--
-- A refusal is the first one of a list of reasons: there is none where there is none of each, and it is the second's where the
-- first gives none.
use Rattle.std.proofs.Common.{◌≡◌, ℕ, zero, suc, ◌≤◌, ◌==◌, ◌⊎◌, inl, inr, nat_lt, max, true, false, if◌then◌else◌, List, [], ◌∷◌, length, Option, Some, None, Result, IfErr, refl, ap, arith, ⊎_elim}
use Rattle.std.specs.List.{Contains}
use Rattle.std.specs.Option.{option_or, option_map}
use Rattle.std.specs.Set.{is_member}
use Rattle.std.proofs.lemmas.Bool.{eqb-true}
use Rattle.std.proofs.lemmas.Bool.Decides.{Decides-eqb, nat_tests}
use Rattle.std.proofs.lemmas.Map.Made.{is_member-Decides}
use Rattle.std.proofs.lemmas.Result.{MatchResult-weaker}
use Rattle.root_quantum.specs.Parameters.{Parameters, top_colour}
use Rattle.pd_reader.specs.declared.item.NetItem.{NetItem}
use Rattle.planar_check.specs.Components.{greatest}
use Rattle.planar_check.proofs.Strands.{member_at_most}
use Rattle.cables.specs.Nets.{first_unequal, first_inadmissible}
use Rattle.skein_network.specs.declared.edge.Edge.{Edge}
use Rattle.skein_network.specs.declared.fault.CableFault.{CableFault}
use Rattle.skein_network.specs.declared.fault.CableFault.TheVariants.{ColourCount, ColourTooLarge, Unequal, NotAdmissible, Memory}
use Rattle.skein_network.specs.Edges.{colour_at}
use Rattle.skein_network.specs.Colourings.{AreColoured}
use Rattle.skein_network.specs.Refusals.{first_above, colour_refusal, fit_refusal, IsNoInverse}

pub few_colours : (colours : List ℕ) (edges : List Edge) (top : ℕ) → AreColoured colours edges → greatest colours ≤ top → top ≤ 8 → (label : ℕ) → colour_at edges label ≤ 8
few_colours colours edges top coloured high few label =
    few_where (colour_at edges label) (λ some. let m = member_at_most colours (colour_at edges label) (coloured.listed label some) in omega (arith, m, high, few))
  where
    few_where : (n : ℕ) → (2 ≤ n → n ≤ 8) → n ≤ 8
    few_where zero h = omega arith
    few_where (suc zero) h = omega arith
    few_where (suc (suc n)) h = h (omega arith)

pub member_of : (xs : List ℕ) (x : ℕ) → Contains xs x → is_member ◌==◌ xs x ≡ true
member_of xs x there = (is_member-Decides Decides-eqb xs x).1 there

-- ---- what isn't refused
none_above : (top : ℕ) (colours : List ℕ) → first_above top colours ≡ None → greatest colours ≤ top
none_above top [] h = omega arith
none_above top (c ∷ colours) h =
    elim (nat_lt top c) as (λ b. nat_lt top c ≡ b → (if b then Some c else first_above top colours) ≡ None → max c (greatest colours) ≤ top) [
      | true ↦ λ t e. absurd (cc e)
      | false ↦ λ t e. (let ih = none_above top colours e in let low : c ≤ top = grind (arith, nat_tests, t) in omega (arith, ih, low))
    ] refl h

none_mapped : (f : ℕ → CableFault) (o : Option ℕ) → option_map f o ≡ None → o ≡ None
none_mapped f None e = refl
none_mapped f (Some x) e = absurd (cc e)

pub or_left_none : (a b : Option CableFault) → option_or a b ≡ None → a ≡ None
or_left_none None b e = refl
or_left_none (Some x) b e = absurd (cc e)

pub or_right_none : (a b : Option CableFault) → option_or a b ≡ None → b ≡ None
or_right_none None b e = e
or_right_none (Some x) b e = absurd (cc e)

pub or_second : (a b : Option CableFault) → a ≡ None → option_or a b ≡ b
or_second a b e = ap (λ o. option_or o b) e

pub or_first : (a b : Option CableFault) (fault : CableFault) → a ≡ Some fault → option_or a b ≡ Some fault
or_first a b fault e = ap (λ o. option_or o b) e

-- as many colours as wanted, and none past the top
pub not_refused : (top wanted : ℕ) (colours : List ℕ) → colour_refusal top wanted colours ≡ None → (length colours ≡ wanted) × (greatest colours ≤ top)
not_refused top wanted colours h =
    elim (length colours == wanted)
    as (λ b. (length colours == wanted) ≡ b → (if b then option_map (λ colour. ColourTooLarge colour top) (first_above top colours) else Some (ColourCount (length colours) wanted)) ≡ None → (length colours ≡ wanted) × (greatest colours ≤ top))
    [ true ↦ λ t e. (eqb-true (length colours) wanted t, none_above top colours (none_mapped (λ colour. ColourTooLarge colour top) (first_above top colours) e)) | false ↦ λ t e. absurd (cc e) ] refl h

-- no crossing changes a colour, and each vertex is admissible
pub unchanged : (colour : ℕ → ℕ) (items : List NetItem) → fit_refusal colour items ≡ None → first_unequal colour items ≡ None
unchanged colour items h = none_mapped Unequal (first_unequal colour items) (or_left_none (option_map Unequal (first_unequal colour items)) (option_map NotAdmissible (first_inadmissible colour 1 items)) h)

pub all_admissible : (colour : ℕ → ℕ) (items : List NetItem) → fit_refusal colour items ≡ None → first_inadmissible colour 1 items ≡ None
all_admissible colour items h = none_mapped NotAdmissible (first_inadmissible colour 1 items) (or_right_none (option_map Unequal (first_unequal colour items)) (option_map NotAdmissible (first_inadmissible colour 1 items)) h)

-- a fault of the projectors, where nothing is refused
pub no_projector : {A : Type 0} (refusal : Option CableFault) (p : Parameters) (n : ℕ) (r : Result A CableFault) → refusal ≡ None → IfErr r (λ fault. (fault ≡ Memory) ⊎ IsNoInverse p n fault) →
    IfErr r (λ fault. (fault ≡ Memory) ⊎ ((refusal ≡ Some fault) ⊎ ((refusal ≡ None) × IsNoInverse p n fault)))
no_projector refusal p n r none h =
    MatchResult-weaker r h (λ x t. t) (λ fault why. ⊎_elim (λ m. inl m) (λ is. inr (inr (none, is))) why)

pub top_few : (p : Parameters) (top : ℕ) → top ≤ top_colour p → top ≤ 8
top_few p top h = omega (arith, h)
