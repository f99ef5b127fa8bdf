use Rattle.std.proofs.Common.{ap, Err}
use Rattle.wrt_commands.proofs.FramingLemmas.{framings_fit, framings_miscounted, framing_large}
use Rattle.wrt_commands.proofs.framing_fits.fit_framings.Goals as goal

pub returns-in-Ok : goal.returns-in-Ok
returns-in-Ok c = framings_fit c.args.plane c.args.framings.now c.in-Ok.framed c.in-Ok.ensures.made c.in-Ok.ensures.framed

pub returns-in-Err-Count : goal.returns-in-Err-Count
returns-in-Err-Count c =
    let s = c.in-Err-Count in
    framings_miscounted c.args.plane c.args.framings.now s.given s.wanted ((s.ensures.count s.given s.wanted).0 (ap Err s.field-0-is))

pub returns-in-Err-Size : goal.returns-in-Err-Size
returns-in-Err-Size c =
    let s = c.in-Err-Size in
    framing_large c.args.plane c.args.framings.now s.component ((s.ensures.size s.component).0 (ap Err s.field-0-is))
