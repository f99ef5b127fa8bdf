-- Colours that fit the two nets: they are admissible at each vertex, and at most the top.
use Rattle.std.proofs.Common.{◌≡◌, ℕ, ◌≤◌, true, false, nat_lt, [], ◌∷◌, None, refl, arith}
use Rattle.std.proofs.lemmas.Bool.Decides.{nat_tests}
use Rattle.planar_check.specs.Components.{distinct}
use Rattle.cables.specs.Nets.{is_admissible}
use Rattle.skein_network.specs.Refusals.{net_refusal}
use Rattle.tetra_sum.specs.Nets.{theta_net, tetrahedron_net}
use Rattle.tetra_sum.proofs.ListedFaces.{turned, swapped}

not_above : (top x : ℕ) → x ≤ top → nat_lt top x ≡ false
not_above top x low = grind (arith, nat_tests, low)

pub theta_fits : (top x y z : ℕ) → x ≤ top → y ≤ top → z ≤ top → is_admissible x y z ≡ true → net_refusal top theta_net (x ∷ y ∷ z ∷ []) ≡ None
unfolding distinct
theta_fits top x y z lx ly lz here =
    let back : is_admissible z y x ≡ true = swapped y z x (turned x y z here) in
    rw (not_above top x lx, not_above top y ly, not_above top z lz, here, back) refl

pub tetrahedron_fits : (top a b c d e f : ℕ) → a ≤ top → b ≤ top → c ≤ top → d ≤ top → e ≤ top → f ≤ top → is_admissible a b c ≡ true → is_admissible a e f ≡ true →
    is_admissible b f d ≡ true → is_admissible c d e ≡ true → net_refusal top tetrahedron_net (a ∷ b ∷ c ∷ d ∷ e ∷ f ∷ []) ≡ None
unfolding distinct
tetrahedron_fits top a b c d e f la lb lc ld le lf abc aef bfd cde =
    rw (not_above top a la, not_above top b lb, not_above top c lc, not_above top d ld, not_above top e le, not_above top f lf, abc, aef, bfd, cde) refl
