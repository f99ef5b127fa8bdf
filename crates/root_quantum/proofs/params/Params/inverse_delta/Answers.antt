-- What the ring says of `Delta_n`.
use Rattle.std.proofs.Common.{◌≡◌, ap}
use Rattle.root_quantum.proofs.params.Params.inverse_delta.Goals as goal

pub returns-clause-common : goal.returns-clause-common
returns-clause-common c =
    let same : c.self.inside.ring ≡ c.args.self.now.modulus = ap (λ q. q.modulus) c.self.view_is in
    rw (← c.delta.ensures.value, ← same) c.inverse.ensures.common

pub returns-clause-coprime : goal.returns-clause-coprime
returns-clause-coprime c =
    let same : c.self.inside.ring ≡ c.args.self.now.modulus = ap (λ q. q.modulus) c.self.view_is in
    rw (← c.delta.ensures.value, ← same) c.inverse.ensures.coprime
