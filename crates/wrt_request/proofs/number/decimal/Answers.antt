use Rattle.std.proofs.Common.{◌∙◌, ap, sym}
use Rattle.wrt_request.specs.Decimals.{is_marked}
use Rattle.wrt_request.proofs.Numerals.{marked_none, plain_parsed}
use Rattle.wrt_request.proofs.number.decimal.Goals as goal

pub returns-then-is_marked : goal.returns-then-is_marked
returns-then-is_marked c =
    marked_none c.args.text.now (ap is_marked (sym c.as_bytes.ensures.value) ∙ sym c.if-is_marked.ensures)

pub returns-else-is_marked : goal.returns-else-is_marked
returns-else-is_marked c =
    c.ok.ensures.value ∙ plain_parsed c.args.text.now _ c.parse.ensures.value.0 (ap is_marked (sym c.as_bytes.ensures.value) ∙ sym c.if-is_marked.ensures)
