-- What one more item, and all items, make of a table: its codes, its length, its entries and its residues.
use Rattle.std.proofs.Common.{◌≡◌, ℕ, zero, suc, ◌+◌, ◌%◌, ◌<◌, ◌==◌, Bool, cond, ◌||◌, List, [], ◌∷◌, ◌++◌, length, get_or, slice_index, refl, sym, ap, subst, ◌∙◌, arith, Some, ⊎_elim}
use Rattle.std.specs.List.{IsDistinct, All}
use Rattle.std.specs.Map.{keys_of, lookup, set_value}
use Rattle.std.specs.Set.{is_member}
use Rattle.std.proofs.Math.Nat.{mod-mod}
use Rattle.std.proofs.lemmas.Bool.{cases_Bool}
use Rattle.std.proofs.lemmas.Bool.Decides.{nat_tests}
use Rattle.std.proofs.lemmas.Cmp.{nat_eq_equiv}
use Rattle.std.proofs.lemmas.List.Elements.{All-head, All-tail, All-cons, All-nil}
use Rattle.std.proofs.lemmas.Map.Keys.{IsDistinct-push}
use Rattle.std.proofs.lemmas.Nat.{mod_below}
use Rattle.state_sums.proofs.Congruent.{add_same_mod}
use Rattle.frontier_laws.specs.Tables.{add_in, add_all}

-- ---- one more item
-- The codes after an item are those before it, and the item's.
pub add_in-codes : (m code c : ℕ) (table : List (ℕ × ℕ)) (q : ℕ) → is_member ◌==◌ (keys_of (add_in m code c table)) q ≡ (is_member ◌==◌ (keys_of table) q || q == code)
add_in-codes m code c [] q = grind arith
add_in-codes m code c (e ∷ table) q = let ih = add_in-codes m code c table q in grind (arith, nat_tests, ih)

-- One entry more where the code is new, and else as many.
pub add_in-length : (m code c : ℕ) (table : List (ℕ × ℕ)) → length (add_in m code c table) ≡ length table + cond (is_member ◌==◌ (keys_of table) code) 0 1
add_in-length m code c [] = refl
add_in-length m code c (e ∷ table) = let ih = add_in-length m code c table in grind (arith, nat_tests, ih)

-- A code that is in the table has more at its place.
pub add_in_present : (m code c old : ℕ) (table : List (ℕ × ℕ)) → lookup (◌==◌ code) table ≡ Some old → add_in m code c table ≡ set_value (◌==◌ code) table ((old + c) % m)
add_in_present m code c old [] h = grind (arith, h)
add_in_present m code c old (e ∷ table) h = let ih = add_in_present m code c old table in grind (arith, ih, h)

-- The codes keep their places, and a new one goes last.
pub add_in-keys : (m code c : ℕ) (table : List (ℕ × ℕ)) → keys_of (add_in m code c table) ≡ cond (is_member ◌==◌ (keys_of table) code) (keys_of table) (keys_of table ++ code ∷ [])
add_in-keys m code c [] = refl
add_in-keys m code c (e ∷ table) = let ih = add_in-keys m code c table in grind (arith, nat_tests, ih)

-- Distinct codes stay distinct.
pub add_in-distinct : (m code c : ℕ) (table : List (ℕ × ℕ)) → IsDistinct ◌==◌ (keys_of table) → IsDistinct ◌==◌ (keys_of (add_in m code c table))
add_in-distinct m code c table h =
    let e = add_in-keys m code c table in
    ⊎_elim
    (λ found. subst (IsDistinct ◌==◌) (sym (e ∙ ap (λ b. cond b (keys_of table) (keys_of table ++ code ∷ [])) found)) h)
    (λ new. subst (IsDistinct ◌==◌) (sym (e ∙ ap (λ b. cond b (keys_of table) (keys_of table ++ code ∷ [])) new)) (IsDistinct-push nat_eq_equiv (keys_of table) code h new))
    (cases_Bool (is_member ◌==◌ (keys_of table) code))

-- Only the residue of what is added counts.
pub add_in_same_mod : (m code c d : ℕ) (table : List (ℕ × ℕ)) → c % m ≡ d % m → add_in m code c table ≡ add_in m code d table
add_in_same_mod m code c d [] h = ap (λ n. (code, n) ∷ []) h
add_in_same_mod m code c d (e ∷ table) h =
    let ih = add_in_same_mod m code c d table h in
    let s : (e.1 + c) % m ≡ (e.1 + d) % m = add_same_mod m e.1 e.1 c d refl h in
    grind (arith, ih, s)

pub add_in-residue : (m code c : ℕ) (table : List (ℕ × ℕ)) → add_in m code (c % m) table ≡ add_in m code c table
add_in-residue m code c table = add_in_same_mod m code (c % m) c table (mod-mod c m)

-- Residues stay residues.
pub add_in-below : (m code c : ℕ) (table : List (ℕ × ℕ)) → 0 < m → All (λ entry. entry.1 < m) table → All (λ entry. entry.1 < m) (add_in m code c table)
add_in-below m code c [] pos h = All-cons (λ (entry : ℕ × ℕ). entry.1 < m) (code, c % m) [] (mod_below c m pos) (All-nil (λ (entry : ℕ × ℕ). entry.1 < m))
add_in-below m code c (e ∷ table) pos h =
    let P : ℕ × ℕ → Type 0 = λ entry. entry.1 < m in
    let rest = All-tail P e table h in
    ⊎_elim
    (λ found. let Q : Bool → Type 0 = λ b. All P (cond b ((e.0, (e.1 + c) % m) ∷ table) (e ∷ add_in m code c table)) in
    subst Q (sym found) (All-cons P (e.0, (e.1 + c) % m) table (mod_below (e.1 + c) m pos) rest))
    (λ new. let Q : Bool → Type 0 = λ b. All P (cond b ((e.0, (e.1 + c) % m) ∷ table) (e ∷ add_in m code c table)) in
    subst Q (sym new) (All-cons P e (add_in m code c table) (All-head P e table h) (add_in-below m code c table pos rest)))
    (cases_Bool (code == e.0))

-- ---- all items
pub add_all-append : (m : ℕ) (table front back : List (ℕ × ℕ)) → add_all m table (front ++ back) ≡ add_all m (add_all m table front) back
add_all-append m table [] back = refl
add_all-append m table (item ∷ front) back = add_all-append m (add_in m item.0 item.1 table) front back

-- One item more.
pub add_all-push : (m : ℕ) (table front : List (ℕ × ℕ)) (item : ℕ × ℕ) → add_all m table (front ++ item ∷ []) ≡ add_in m item.0 item.1 (add_all m table front)
add_all-push m table front item = add_all-append m table front (item ∷ [])

-- THE CODES AFTER ALL ITEMS ARE THOSE BEFORE THEM, AND THE ITEMS'
pub add_all-codes : (m : ℕ) (items table : List (ℕ × ℕ)) (q : ℕ) → is_member ◌==◌ (keys_of (add_all m table items)) q ≡ (is_member ◌==◌ (keys_of table) q || is_member ◌==◌ (keys_of items) q)
add_all-codes m [] table q = grind arith
add_all-codes m (item ∷ items) table q =
    let ih = add_all-codes m items (add_in m item.0 item.1 table) q in let k = add_in-codes m item.0 item.1 table q in grind (arith, ih, k)

pub add_all-distinct : (m : ℕ) (items table : List (ℕ × ℕ)) → IsDistinct ◌==◌ (keys_of table) → IsDistinct ◌==◌ (keys_of (add_all m table items))
add_all-distinct m [] table h = h
add_all-distinct m (item ∷ items) table h = add_all-distinct m items (add_in m item.0 item.1 table) (add_in-distinct m item.0 item.1 table h)

-- From the empty table all coefficients are residues.
pub add_all-below : (m : ℕ) (items table : List (ℕ × ℕ)) → 0 < m → All (λ entry. entry.1 < m) table → All (λ entry. entry.1 < m) (add_all m table items)
add_all-below m [] table pos h = h
add_all-below m (item ∷ items) table pos h = add_all-below m items (add_in m item.0 item.1 table) pos (add_in-below m item.0 item.1 table pos h)

-- ---- the codes by places
pub keys-at : (table : List (ℕ × ℕ)) (i : ℕ) (d : ℕ × ℕ) → i < length table → slice_index (keys_of table) i ≡ (get_or table i d).0
keys-at [] i d l = absurd (omega (arith, l))
keys-at (e ∷ table) zero d l = refl
keys-at (e ∷ table) (suc i) d l = keys-at table i d (omega (arith, l))
