-- Framings after a step: one for each component, none of them large.
use Rattle.std.proofs.Common.{◌≡◌, ℕ, suc, false, true, ℤ, pos, List, [], ◌++◌, length, Option, Some, None, option_map, length-append, refl, sym, ap, ◌∙◌, arith, All, subst}
use Rattle.std.specs.List.{position}
use Rattle.std.proofs.lemmas.List.Elements.{All-append, All-cons, All-get_or, All-nil}
use Rattle.std.proofs.lemmas.List.Quantifiers.{position-Some}
use Rattle.pd_reader.specs.declared.item.Item.{Item}
use Rattle.planar_check.specs.declared.sign.Sign.{Sign}
use Rattle.planar_check.specs.declared.sign.Sign.TheVariants as signs
use Rattle.planar_check.specs.Components.{least_labels}
use Rattle.planar_check.specs.Framings.{FramedDiagram, IsFramed, is_large}
use Rattle.planar_check.specs.Tables.{sign_value}
use Rattle.script_reader.specs.declared.step.Step.{Step}
use Rattle.script_reader.specs.declared.step.Step.TheVariants.{R2, R2Undo, R3, Curl, CurlUndo, BlowUp, Slide}
use Rattle.move_results.specs.Laws.{added}
use Rattle.move_script.specs.FramedMoves.{added_framings, framings_after}

abbrev Small : ℤ → Type 0
Small framing = is_large framing ≡ false

found_none : (xs : List ℤ) → All Small xs → (k : ℕ) (o : Option ℕ) → position is_large xs ≡ o → option_map suc o ≡ Some k → ⊥
found_none xs small k None e h = absurd (let f : ◌≡◌ {A = Option ℕ} None (Some k) = h in cc)
found_none xs small k (Some i) e h =
    let at = position-Some is_large xs i (pos 0) e in
    absurd (let f : true ≡ false = sym at.1 ∙ All-get_or Small xs i (pos 0) at.0 small in cc)

pub none_found : (xs : List ℤ) → All Small xs → (k : ℕ) → option_map suc (position is_large xs) ≡ Some k → ⊥
none_found xs small k h = found_none xs small k (position is_large xs) refl h

-- ---- after a step
as_many : (items : List Item) (step : Step) → length (added_framings step) ≡ length (added step items)
as_many items (R2 over under) = refl
as_many items (R2Undo first second) = refl
as_many items (R3 first second third) = refl
as_many items (Curl edge sign) = refl
as_many items (CurlUndo crossing) = refl
as_many items (BlowUp sign) = refl
as_many items (Slide edge along) = refl

small_sign : (sign : Sign) → Small (sign_value sign)
small_sign signs.Plus = refl
small_sign signs.Minus = refl

small_added : (step : Step) → All Small (added_framings step)
small_added (R2 over under) = All-nil Small
small_added (R2Undo first second) = All-nil Small
small_added (R3 first second third) = All-nil Small
small_added (Curl edge sign) = All-nil Small
small_added (CurlUndo crossing) = All-nil Small
small_added (BlowUp sign) = All-cons Small (sign_value sign) [] (small_sign sign) (All-nil Small)
small_added (Slide edge along) = All-nil Small

pub framed_after : (framed : FramedDiagram) (step : Step) (items : List Item) (framings : List ℤ) → IsFramed framed → least_labels items ≡ least_labels framed.items ++ added step framed.items → framings ≡ framings_after framed step →
    IsFramed record { items = items; framings = framings }
framed_after framed step items framings is labels same =
    let P : List ℤ → Type 0 = λ fs. IsFramed record { items = items; framings = fs } in
    let a = length-append framed.framings (added_framings step) in
    let b = length-append (least_labels framed.items) (added step framed.items) in
    let many = as_many framed.items step in
    let count = ap length labels in
    let before = is.count in
    subst P (sym same) (record { count = omega (arith, a, b, many, count, before); small = All-append Small framed.framings (added_framings step) is.small (small_added step) })
