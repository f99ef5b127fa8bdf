use Rattle.std.proofs.Common.{◌≡◌, ◌<◌, ◌-ℤ◌, ℕ, ℤ, pos, neg_ℤ, subst, arith}
use mir.Syntax.{w32}
use mir.Val.{of_z, to_z}
use Rattle.std.proofs.lemmas.Int.{ints}
use Rattle.std.proofs.lemmas.Result.{err_from_is_err_and}
use Rattle.text_shapes.specs.Readers.{Found}
use Rattle.text_shapes.proofs.Closing.{not_there}
use Rattle.pd_reader.specs.Signed.{IsSigned, signed_tokens}
use Rattle.pd_reader.proofs.SignedItems.{negative_found, negative_missed, positive_found, positive_missed}
use Rattle.pd_reader.proofs.signed.I32TextItem.read.Goals as goal

as_signed : (n : ℕ) → n < 1000000 → pos n ≡ to_z w32 n
as_signed n high = omega (arith, ints)

as_negative : (n : ℕ) → n < 1000000 → neg_ℤ (pos n) ≡ to_z w32 (of_z w32 (pos 0 -ℤ to_z w32 n))
as_negative n high = omega (arith, ints)

pub returns-in_err-size-clause-err : goal.returns-in_err-size-clause-err
returns-in_err-size-clause-err c =
    let p = err_from_is_err_and c.from_residual.result c.from_residual.ensures.1 in
    let here = c.stands.ensures.0 c.if-stands.true in
    rw (p.1, p.2) (negative_missed c.args.bytes.now c.args.at c.skip-start.result c.skip-start.ensures here.0 here.1 c.in_err-size.field-0.0 c.in_err-size.ensures.err)

pub returns-then-stands-clause-ok : goal.returns-then-stands-clause-ok
returns-then-stands-clause-ok c =
    let here = c.stands.ensures.0 c.if-stands.true in
    subst (λ (z : ℤ). Found IsSigned signed_tokens c.args.bytes.now c.args.at z c.in_ok-size.next) (as_negative c.in_ok-size.size c.in_ok-size.ensures.ok.fits_shape.high)
    (negative_found c.args.bytes.now c.args.at c.skip-start.result c.skip-start.ensures here.0 here.1 c.in_ok-size.size c.in_ok-size.next c.in_ok-size.ensures.ok)

pub returns-in-Some-clause-ok : goal.returns-in-Some-clause-ok
returns-in-Some-clause-ok c =
    subst (λ (z : ℤ). Found IsSigned signed_tokens c.args.bytes.now c.args.at z c.in-Some.next) (as_signed c.in-Some.size c.in-Some.ensures.some.fits.high)
    (positive_found c.args.bytes.now c.args.at c.skip-start.result c.skip-start.ensures (not_there c.stands.result c.args.bytes.now c.skip-start.result 45 c.if-stands.false c.stands.ensures.1) c.in-Some.size c.in-Some.next c.in-Some.ensures.some)

pub returns-in-None-clause-err : goal.returns-in-None-clause-err
returns-in-None-clause-err c =
    positive_missed c.args.bytes.now c.args.at c.skip-start.result c.skip-start.ensures (not_there c.stands.result c.args.bytes.now c.skip-start.result 45 c.if-stands.false c.stands.ensures.1) c.in-None.ensures.none
