use Rattle.std.proofs.Common.{◌≡◌, ◌∙◌, refl, sym}
use lib.Pointwise.{bytes_decides}
use Rattle.tetra_sum.proofs.known.find.Goals as goal

pub loop-there-init : goal.loop-there-init
loop-there-init c = tt

pub returns-then-eq : goal.returns-then-eq
returns-then-eq c =
    let same : c.as_slice.result.now ≡ c.args.colours.now = (bytes_decides c.as_slice.result.now c.args.colours.now).0 (sym c.eq.ensures ∙ c.if-eq.true) in
    (c.there-item.result, (c.loop-there.there-index, c.loop-there-test.true, sym c.there-item.is), sym c.as_slice.ensures.value ∙ same, refl)

pub loop-there-preserved : goal.loop-there-preserved
loop-there-preserved c = tt
