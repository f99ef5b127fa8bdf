-- What `==` says of two parameters: it holds exactly of equal ones. The test that is derived compares the modulus with the shift
-- and the reciprocal that a ring keeps of it, the root, the level and the form.
use Rattle.std.proofs.Common.{◌≡◌, Bool, true, ◌==◌, ◌&&◌}
use Rattle.std.proofs.lemmas.Bool.{eqb-true}
use denote.Enum.Bare.{sameb, same_true}
use Rattle.list_lemmas.proofs.Bools.{and_first, and_second}
use Rattle.residue_ring.specs.Reciprocal.{shift_of, reciprocal_of}
use Rattle.root_quantum.specs.Parameters.{Parameters}
use Rattle.root_quantum.specs.contracts.form.Form.{the_type}
use Rattle.root_quantum.specs.contracts.params.ParamsPartialEq as derived
use Rattle.root_quantum.proofs.EqualParameters.{equal_parameters_law}

-- EQUAL BY THE TEST
pub equal_by_test : (p q : Parameters) → derived.TheImpl.ghosts.eq p q ≡ true → p ≡ q
equal_by_test p q h =
    let ring : Bool = (p.modulus == q.modulus) && ((shift_of p.modulus == shift_of q.modulus) && (reciprocal_of p.modulus == reciprocal_of q.modulus)) in
    let form : Bool = sameb the_type p.form q.form in
    let rest : Bool = (p.root == q.root) && ((p.level == q.level) && form) in
    let both : (ring && rest) ≡ true = h in
    let others : rest ≡ true = and_second ring rest both in
    let last : ((p.level == q.level) && form) ≡ true = and_second (p.root == q.root) ((p.level == q.level) && form) others in
    (equal_parameters_law p q).1 (
      eqb-true p.modulus q.modulus (and_first (p.modulus == q.modulus) ((shift_of p.modulus == shift_of q.modulus) && (reciprocal_of p.modulus == reciprocal_of q.modulus)) (and_first ring rest both)),
      eqb-true p.root q.root (and_first (p.root == q.root) ((p.level == q.level) && form) others),
      eqb-true p.level q.level (and_first (p.level == q.level) form last),
      same_true the_type tt p.form q.form (and_second (p.level == q.level) form last),
    )
