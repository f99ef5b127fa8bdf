use Rattle.std.proofs.Common.{ℤ, pos, ◌*◌, ◌-◌, ◌+◌, ◌<◌, ◌^◌, ◌++◌, ◌∷◌, [], List, subst, sym, get_or, unsigned_abs}
use Rattle.planar_check.proofs.SignSums.{first_small, second_small, twice_set_are}
use Rattle.planar_check.proofs.linking.add_sign.Goals as goal
use Rattle.planar_check.specs.Tables.{AreSignSums}

pub add_at-requires-clause-small : goal.add_at-requires-clause-small
add_at-requires-clause-small c =
    let before = c.requires.sums in
    first_small c.args.size c.args.crossing.now c.requires.within c.requires.apart c.args.sums.now before.0 before.2 before.1

pub add_at-requires-2-clause-small : goal.add_at-requires-2-clause-small
add_at-requires-2-clause-small c =
    let before = c.requires.sums in
    let x = c.args.crossing.now in
    let second = (x.over - 1) * c.args.size + (x.under - 1) in
    let P : List ℤ → Type 0 = λ sums. unsigned_abs (get_or sums second (pos 0)) < 2 ^ 32 in
    subst P (sym c.add_at.ensures) (second_small c.args.size x c.requires.within c.requires.apart c.args.sums.now before.0 before.2 before.1)

pub returns : goal.returns
returns c = λ before are.
    let x = c.args.crossing.now in
    let P : List ℤ → Type 0 = λ sums. AreSignSums c.args.size (before ++ x ∷ []) sums in
    rw (c.add_at-2.ensures, c.add_at.ensures) (twice_set_are c.args.size x c.requires.within c.requires.apart c.args.sums.now before are)
