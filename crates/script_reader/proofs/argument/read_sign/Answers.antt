use Rattle.planar_check.specs.declared.sign.Sign.TheVariants as signs
use Rattle.text_shapes.proofs.Closing.{not_there}
use Rattle.script_reader.proofs.SignArguments.{sign_found, sign_missed}
use Rattle.script_reader.proofs.argument.read_sign.Goals as goal

pub returns-then-stands-clause-ok : goal.returns-then-stands-clause-ok
returns-then-stands-clause-ok c =
    let here = c.stands.ensures.0 c.if-stands.true in
    sign_found c.args.bytes.now c.args.at c.skip-start.result c.skip-start.ensures signs.Plus here.0 here.1

pub returns-then-stands-2-clause-ok : goal.returns-then-stands-2-clause-ok
returns-then-stands-2-clause-ok c =
    let here = c.stands-2.ensures.0 c.if-stands-2.true in
    sign_found c.args.bytes.now c.args.at c.skip-start.result c.skip-start.ensures signs.Minus here.0 here.1

pub returns-clause-err : goal.returns-clause-err
returns-clause-err c =
    sign_missed c.args.bytes.now c.args.at c.skip-start.result c.skip-start.ensures
    (not_there c.stands.result c.args.bytes.now c.skip-start.result 43 c.if-stands.false c.stands.ensures.1)
    (not_there c.stands-2.result c.args.bytes.now c.skip-start.result 45 c.if-stands-2.false c.stands-2.ensures.1)
