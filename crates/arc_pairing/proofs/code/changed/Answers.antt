use Rattle.std.proofs.Common.{◌≡◌, ◌+◌, ◌-◌, ◌*◌, slice_set, subst, arith}
use Rattle.arc_pairing.specs.Codes.{weight, Spells}
use Rattle.arc_pairing.proofs.Spelling.{changed, room}
use Rattle.arc_pairing.proofs.code.changed.Goals as goal

pub overflow_add-result : goal.overflow_add-result
overflow_add-result c = let r = room c.requires.spelled.0 c.args.code c.placed.result c.requires.spelled.1 c.placed.ensures.small in omega (arith, r)

pub returns : goal.returns
returns c = λ partner spells within was.
    let e = c.placed.ensures.value in let f = c.placed-2.ensures.value in
    let g : c.args.code + c.args.is * weight c.args.at - c.args.was * weight c.args.at ≡ c.args.code + c.placed.result - c.placed-2.result = cc (e, f) in
    subst (λ n. Spells n (slice_set partner c.args.at c.args.is)) g (changed partner c.args.code c.args.at c.args.was c.args.is spells within was c.requires.is)
