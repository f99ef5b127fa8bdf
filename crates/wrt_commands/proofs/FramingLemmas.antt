-- Framings that fit a diagram, and those that don't, as the layer below says it.
use Rattle.std.proofs.Common.{◌≡◌, ◌≢◌, refl, arith, ap, suc, ℕ, ℤ, true, false, not, List, [], ◌∷◌, length, nat_lt, Some, None, Ok, Err}
use Rattle.std.specs.Prelude.{◌==◌, option_map}
use Rattle.std.specs.List.{All, position, position_or_len, prefix_len}
use Rattle.std.proofs.lemmas.Bool.Decides.{nat_tests}
use Rattle.std.proofs.lemmas.List.Elements.{All-head, All-tail}
use Rattle.pd_reader.specs.declared.item.Item.{Item}
use Rattle.planar_check.specs.Components.{least_labels}
use Rattle.planar_check.specs.Framings.{FramedDiagram, IsFramed, is_large, first_large}
use Rattle.wrt_commands.specs.declared.arguments_refusal.ArgumentsRefusal.TheVariants.{FramingCount, FramingSize}
use Rattle.wrt_commands.specs.declared.refusal.Refusal.TheVariants.{Arguments}
use Rattle.wrt_commands.specs.FramingFits.{fit_framings}

abbrev IsSmall : ℤ → Type 0
IsSmall framing = is_large framing ≡ false

-- where none is large, none is found
all_small : (framings : List ℤ) → All IsSmall framings → prefix_len (λ framing. not (is_large framing)) framings ≡ length framings
all_small [] small = refl
all_small (framing ∷ framings) small =
    let rest = all_small framings (All-tail IsSmall framing framings small) in
    rw (All-head IsSmall framing framings small) (omega (arith, rest))

none_large : (framings : List ℤ) → All IsSmall framings → first_large framings ≡ None
none_large framings small =
    let all : position_or_len is_large framings ≡ length framings = all_small framings small in
    let e : nat_lt (position_or_len is_large framings) (length framings) ≡ false = grind (arith, nat_tests) in
    let found : position is_large framings ≡ None = rw e refl in
    ap (option_map suc) found

of_framed : (framed : FramedDiagram) → IsFramed framed → fit_framings framed.items framed.framings ≡ Ok framed
of_framed framed keeps =
    let count = keeps.count in
    let e : (length framed.framings == length (least_labels framed.items)) ≡ true = grind (arith, nat_tests) in
    rw (e, none_large framed.framings keeps.small) refl

module _ (items : List Item) (framings : List ℤ) where
  pub framings_fit : (framed : FramedDiagram) → (framed.items ≡ items) × (framed.framings ≡ framings) → IsFramed framed → fit_framings items framings ≡ Ok framed
  framings_fit framed made keeps = rw (← made.0, ← made.1) (of_framed framed keeps)

  pub framings_miscounted : (given wanted : ℕ) → (given ≢ wanted) × (given ≡ length framings) × (wanted ≡ length (least_labels items))
      → fit_framings items framings ≡ Err (Arguments (FramingCount given wanted))
  framings_miscounted given wanted h =
      let differ = h.0 in let first = h.1 in let second = h.2 in
      let e : (length framings == length (least_labels items)) ≡ false = grind (arith, nat_tests) in
      rw (e, first, second) refl

  pub framing_large : (component : ℕ) → (length framings ≡ length (least_labels items)) × (first_large framings ≡ Some component)
      → fit_framings items framings ≡ Err (Arguments (FramingSize component))
  framing_large component h =
      let count = h.0 in
      let e : (length framings == length (least_labels items)) ≡ true = grind (arith, nat_tests) in
      rw (e, h.1) refl
