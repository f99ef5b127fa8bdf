use Rattle.std.proofs.Common.{sym, ◌∙◌}
use Rattle.std.proofs.lemmas.Slice.Eq.{bytes_eq-Decides}
use Rattle.arc_pairing.proofs.KeptSeams.{written}
use Rattle.arc_pairing.proofs.kept.are_replaced.Goals as goal

pub returns : goal.returns
returns c =
    let same = written c.args.names.now c.copied-replaced.result.items c.as_mut_slice-places.result.now c.as_slice.result.now c.args.s c.args.x c.args.t c.args.y c.copied-replaced.ensures c.as_mut_slice-places.ensures.value c.as_slice.ensures.value in
    let d = bytes_eq-Decides c.args.outer.now c.as_slice.result.now in
    (λ t. d.0 (sym c.eq.ensures ∙ t) ∙ same, λ e. c.eq.ensures ∙ d.1 (e ∙ sym same))
