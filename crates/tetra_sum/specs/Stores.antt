-- What the known values of both nets keep.
--
--     AreStores p stores     they are the two nets, and each known value is its net's
use Rattle.std.specs.Prelude.{◌≡◌}
use Rattle.root_quantum.specs.Parameters.{Parameters}
use Rattle.tetra_sum.specs.declared.stores.Stores.{Stores}
use Rattle.tetra_sum.specs.Known.{IsStore}
use Rattle.tetra_sum.specs.Nets.{theta_net, tetrahedron_net}

pub record AreStores (p : Parameters) (stores : Stores) : Type 0 where
  pub theta_net : stores.theta.net ≡ theta_net
  pub theta : IsStore p stores.theta
  pub tetrahedron_net : stores.tetrahedron.net ≡ tetrahedron_net
  pub tetrahedron : IsStore p stores.tetrahedron
