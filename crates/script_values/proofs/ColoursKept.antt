-- After a step there are as many colours as components again, and none is past the top colour: a blow-up's colour 1 is not.
use Rattle.std.proofs.Common.{◌≡◌, ℕ, ◌≤◌, List, [], ◌∷◌, ◌++◌, length, length-append, All, refl, sym, ap, subst, arith}
use Rattle.std.proofs.lemmas.List.Elements.{All-append, All-cons, All-nil}
use Rattle.root_quantum.specs.Parameters.{Parameters, top_colour}
use Rattle.pd_reader.specs.declared.item.Item.{Item}
use Rattle.planar_check.specs.Components.{greatest, least_labels}
use Rattle.skein_network.proofs.ListColours.{not_refused}
use Rattle.kirby_terms.proofs.NoFaults.{no_refusal}
use Rattle.script_reader.specs.declared.step.Step.{Step}
use Rattle.script_reader.specs.declared.step.Step.TheVariants.{R2, R2Undo, R3, Curl, CurlUndo, BlowUp, Slide}
use Rattle.move_results.specs.Laws.{added}
use Rattle.script_values.specs.Colours.{ColouredDiagram, HasFit, added_colours, colours_after}

pub each_below : (top : ℕ) (colours : List ℕ) → greatest colours ≤ top → All (λ n. n ≤ top) colours
each_below top [] h = All-nil (λ n. n ≤ top)
each_below top (c ∷ colours) h = All-cons (λ n. n ≤ top) c colours (omega (arith, h)) (each_below top colours (omega (arith, h)))

as_many : (items : List Item) (step : Step) → length (added_colours step) ≡ length (added step items)
as_many items (R2 over under) = refl
as_many items (R2Undo first second) = refl
as_many items (R3 first second third) = refl
as_many items (Curl edge sign) = refl
as_many items (CurlUndo crossing) = refl
as_many items (BlowUp sign) = refl
as_many items (Slide edge along) = refl

one_is_low : (p : Parameters) → 1 ≤ top_colour p
one_is_low p = let level = p.meets.level.0 in omega (arith, level)

low_added : (p : Parameters) (step : Step) → All (λ n. n ≤ top_colour p) (added_colours step)
low_added p (R2 over under) = All-nil (λ n. n ≤ top_colour p)
low_added p (R2Undo first second) = All-nil (λ n. n ≤ top_colour p)
low_added p (R3 first second third) = All-nil (λ n. n ≤ top_colour p)
low_added p (Curl edge sign) = All-nil (λ n. n ≤ top_colour p)
low_added p (CurlUndo crossing) = All-nil (λ n. n ≤ top_colour p)
low_added p (BlowUp sign) = All-cons (λ n. n ≤ top_colour p) 1 [] (one_is_low p) (All-nil (λ n. n ≤ top_colour p))
low_added p (Slide edge along) = All-nil (λ n. n ≤ top_colour p)

pub count_kept : (items result : List Item) (colours : List ℕ) (step : Step) → length colours ≡ length (least_labels items) → least_labels result ≡ least_labels items ++ added step items →
    length (colours_after colours step) ≡ length (least_labels result)
count_kept items result colours step count kept =
    let a = length-append colours (added_colours step) in
    let b = length-append (least_labels items) (added step items) in
    let c = as_many items step in
    let d = ap length kept in
    omega (arith, a, b, c, d, count)

-- COLOURS FIT AGAIN AFTER A STEP
pub fit_kept : (p : Parameters) (items result : List Item) (colours : List ℕ) (step : Step) → least_labels result ≡ least_labels items ++ added step items →
    HasFit p record { items = items; colours = colours } → HasFit p record { items = result; colours = colours_after colours step }
fit_kept p items result colours step kept fit =
    let is = not_refused (top_colour p) (length (least_labels items)) colours fit in
    no_refusal (top_colour p) (length (least_labels result)) (colours_after colours step) (count_kept items result colours step is.0 kept)
    (All-append (λ n. n ≤ top_colour p) colours (added_colours step) (each_below (top_colour p) colours is.1) (low_added p step))

pub fit_after : (p : Parameters) (coloured : ColouredDiagram) (result : List Item) (all : List ℕ) (step : Step) → least_labels result ≡ least_labels coloured.items ++ added step coloured.items →
    all ≡ colours_after coloured.colours step → HasFit p coloured → HasFit p record { items = result; colours = all }
fit_after p coloured result all step kept is fit =
    let F : List ℕ → Type 0 = λ colours. HasFit p record { items = result; colours = colours } in
    subst F (sym is) (fit_kept p coloured.items result coloured.colours step kept fit)
