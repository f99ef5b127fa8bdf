-- Items make no table shorter, and one with a new code makes it longer.
use Rattle.std.proofs.Common.{◌≡◌, ℕ, ◌+◌, ◌<◌, ◌≤◌, ◌==◌, cond, false, List, [], ◌∷◌, ◌++◌, length, ap, arith}
use Rattle.std.specs.Map.{keys_of}
use Rattle.std.specs.Set.{is_member}
use Rattle.frontier_laws.specs.Tables.{add_in, add_all}
use Rattle.frontier_laws.proofs.Tables.{add_in-length, add_all-append}

-- No items make a table shorter.
pub longer : (m : ℕ) (items table : List (ℕ × ℕ)) → length table ≤ length (add_all m table items)
longer m [] table = omega arith
longer m (item ∷ items) table =
    let ih = longer m items (add_in m item.0 item.1 table) in
    let l = add_in-length m item.0 item.1 table in
    grind (arith, ih, l)

-- More items behind them make no shorter one.
pub longer_behind : (m : ℕ) (table front back : List (ℕ × ℕ)) → length (add_all m table front) ≤ length (add_all m table (front ++ back))
longer_behind m table front back =
    let e = ap length (add_all-append m table front back) in
    let l = longer m back (add_all m table front) in
    omega (arith, e, l)

-- AN ITEM WITH A NEW CODE MAKES A LONGER ONE
pub longer_by_one : (m : ℕ) (table front back : List (ℕ × ℕ)) (item : ℕ × ℕ) → is_member ◌==◌ (keys_of (add_all m table front)) item.0 ≡ false →
    length (add_all m table front) < length (add_all m table (front ++ item ∷ back))
longer_by_one m table front back item new =
    let so_far = add_all m table front in
    let e = ap length (add_all-append m table front (item ∷ back)) in
    let b = longer m back (add_in m item.0 item.1 so_far) in
    let l = add_in-length m item.0 item.1 so_far in
    let c = ap (λ found. length so_far + cond found 0 1) new in
    omega (arith, e, b, l, c)
