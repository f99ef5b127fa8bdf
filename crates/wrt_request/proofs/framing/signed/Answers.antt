use Rattle.std.proofs.Common.{◌∙◌, ap, sym, lit<, Some, None}
use Rattle.std.specs.Prelude.{option_and_then}
use Rattle.std.proofs.lemmas.Str.Pattern.{strip_prefix_char}
use Rattle.wrt_request.specs.Framings.{with_minus, without_sign}
use Rattle.wrt_request.proofs.FramingLemmas.{signed-minus, signed-plain, minus-fits, plain-fits}
use Rattle.wrt_request.proofs.framing.signed.Goals as goal

pub returns-in-Some-decimal : goal.returns-in-Some-decimal
returns-in-Some-decimal c =
    let text = strip_prefix_char 45 c.args.text.now (Some c.in-Some.digits) c.in-Some.ensures.cases (lit< tt) in
    let digits = sym c.decimal.ensures ∙ c.in-Some-decimal.is in
    minus-fits c.in-Some-decimal.number c.checked_sub_unsigned.result c.checked_sub_unsigned.ensures
    ∙ sym (signed-minus c.args.text.now c.in-Some.digits.now text ∙ ap (option_and_then with_minus) digits)

pub returns-in-None-decimal : goal.returns-in-None-decimal
returns-in-None-decimal c =
    let text = strip_prefix_char 45 c.args.text.now (Some c.in-Some.digits) c.in-Some.ensures.cases (lit< tt) in
    let digits = sym c.decimal.ensures ∙ c.in-None-decimal.is in
    sym (signed-minus c.args.text.now c.in-Some.digits.now text ∙ ap (option_and_then with_minus) digits)

pub returns-in-Some-decimal-2 : goal.returns-in-Some-decimal-2
returns-in-Some-decimal-2 c =
    let text = strip_prefix_char 45 c.args.text.now None c.in-None.ensures.cases (lit< tt) in
    let digits = sym c.decimal-in-None.ensures ∙ c.in-Some-decimal-2.is in
    plain-fits c.in-Some-decimal-2.number c.checked_add_unsigned.result c.checked_add_unsigned.ensures
    ∙ sym (signed-plain c.args.text.now text ∙ ap (option_and_then without_sign) digits)

pub returns-in-None-decimal-2 : goal.returns-in-None-decimal-2
returns-in-None-decimal-2 c =
    let text = strip_prefix_char 45 c.args.text.now None c.in-None.ensures.cases (lit< tt) in
    let digits = sym c.decimal-in-None.ensures ∙ c.in-None-decimal-2.is in
    sym (signed-plain c.args.text.now text ∙ ap (option_and_then without_sign) digits)
