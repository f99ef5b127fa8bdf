use Rattle.tetra_sum.proofs.stores.Stores.new.Goals as goal

pub returns : goal.returns
returns c = λ p.
    record { theta_net = c.in_ok-theta.ensures.net; theta = c.in_ok-theta.ensures.store p; tetrahedron_net = c.in_ok-tetrahedron.ensures.net; tetrahedron = c.in_ok-tetrahedron.ensures.store p }
