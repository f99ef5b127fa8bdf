use Rattle.std.proofs.Common.{refl}
use Rattle.arc_pairing.proofs.FourChanges.{third_in, fourth_in, end_joined}
use Rattle.arc_pairing.proofs.pairing.Pairing.joined.Goals as goal

pub set-requires-3-clause-at : goal.set-requires-3-clause-at
set-requires-3-clause-at c =
    third_in c.args.self.now c.of-partners.ensures.pairing c.args.s c.args.t c.partner-x.result c.partner-y.result c.requires.s_in c.requires.t_in c.requires.apart
    c.partner-x.ensures c.partner-y.ensures c.if-x-t.false c.of-partners.result c.set.new.self c.set-2.new.self c.args.t c.args.s c.of-partners.ensures.value c.set.ensures c.set-2.ensures

pub set-requires-4-clause-at : goal.set-requires-4-clause-at
set-requires-4-clause-at c =
    fourth_in c.args.self.now c.of-partners.ensures.pairing c.args.s c.args.t c.partner-x.result c.partner-y.result c.requires.s_in c.requires.t_in c.requires.apart
    c.partner-x.ensures c.partner-y.ensures c.if-x-t.false c.of-partners.result c.set.new.self c.set-2.new.self c.args.t c.args.s c.of-partners.ensures.value c.set.ensures c.set-2.ensures
    c.set-3.new.self c.partner-y.result c.set-3.ensures

pub into_pairing-requires : goal.into_pairing-requires
into_pairing-requires c =
    (end_joined c.args.self.now c.of-partners.ensures.pairing c.args.s c.args.t c.partner-x.result c.partner-y.result c.requires.s_in c.requires.t_in c.requires.apart
    c.partner-x.ensures c.partner-y.ensures c.if-x-t.false c.of-partners.result c.set.new.self c.set-2.new.self c.args.t c.args.s c.of-partners.ensures.value c.set.ensures c.set-2.ensures
    c.set-3.new.self c.partner-y.result c.set-3.ensures c.set-4.new.self c.partner-x.result c.set-4.ensures refl refl refl refl).1
