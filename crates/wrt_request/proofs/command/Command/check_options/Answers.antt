use Rattle.std.proofs.Common.{◌≡◌, ◌∙◌, refl, arith, ◌<◌, ◌+◌, ℕ, Bool, false, List, length, get_or, drop, drop-cons, add-one}
use Rattle.std.specs.Prelude.{find}
use Rattle.wrt_parts.specs.Texts.{texts_of}
use Rattle.wrt_request.specs.Commands.{all_options, is_foreign}
use Rattle.wrt_request.specs.declared.option_name.OptionName.TheVariants.{Colors}
use Rattle.wrt_request.proofs.command.Command.check_options.Goals as goal
use Rattle.wrt_request.proofs.command.Command.check_options.Goals.{else-is_given-via-then-is_given+else-not-has_option, else-is_given-via-else-is_given}

-- The search goes on behind an element that isn't sought.
passed : {X : Type 0} (p : X → Bool) (xs : List X) (i : ℕ) (d : X) → i < length xs → p (get_or xs i d) ≡ false → find p (drop i xs) ≡ find p (drop (i + 1) xs)
passed p xs i d h misses = rw (add-one i, drop-cons xs i d h, misses) refl

pub loop-option-preserved : goal.loop-option-preserved
loop-option-preserved c =
    let command = c.args.self in let texts = texts_of c.args.parts.now in let i = c.loop-option.option-index in
    let misses : is_foreign command texts (get_or all_options i Colors) ≡ false = elim c.else-is_given.branch [
      | else-is_given-via-then-is_given+else-not-has_option w ↦ grind arith
      | else-is_given-via-else-is_given w ↦ grind arith
    ] in
    c.loop-option.invariant ∙ passed (is_foreign command texts) all_options i Colors (omega arith) misses
