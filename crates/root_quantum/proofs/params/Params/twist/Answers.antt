-- By the sign of t.
use Rattle.std.proofs.Common.{◌≡◌, ap, arith}
use Rattle.std.proofs.lemmas.Int.{ints}
use Rattle.root_quantum.proofs.TwistSteps.{twist_inverse, twist_power}
use Rattle.root_quantum.proofs.params.Params.twist.Goals as goal

pub returns-then-t-lt0-clause-value : goal.returns-then-t-lt0-clause-value
returns-then-t-lt0-clause-value c =
    let same : c.self.inside.ring ≡ c.args.self.now.modulus = ap (λ q. q.modulus) c.self.view_is in
    twist_inverse c.args.self.now c.args.n c.args.t c.self.inside.ring c.root_inverse.result c.twist_factor-factor.result c.unsigned_abs-exponent.result c.pow.result same (omega (arith, ints)) c.root_inverse.ensures.inverse (omega (arith, ints, c.unsigned_abs-exponent.ensures.value)) c.twist_factor-factor.ensures.value c.pow.ensures.power

pub returns-else-t-lt0-clause-value : goal.returns-else-t-lt0-clause-value
returns-else-t-lt0-clause-value c =
    let same : c.self.inside.ring ≡ c.args.self.now.modulus = ap (λ q. q.modulus) c.self.view_is in
    let root_is : c.self.inside.root ≡ c.args.self.now.root = ap (λ q. q.root) c.self.view_is in
    twist_power c.args.self.now c.args.n c.args.t c.self.inside.ring c.self.inside.root c.twist_factor-factor-else-t-lt0.result c.unsigned_abs-exponent.result c.pow-else-t-lt0.result same (omega (arith, ints)) root_is (omega (arith, ints, c.unsigned_abs-exponent.ensures.value)) c.twist_factor-factor-else-t-lt0.ensures.value c.pow-else-t-lt0.ensures.power
