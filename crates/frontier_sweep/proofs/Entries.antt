-- What a look-up tells of a table, and what an insertion makes of it.
use Rattle.std.proofs.Common.{◌≡◌, ℕ, ◌<◌, ◌==◌, ◌||◌, Bool, if◌then◌else◌, false, List, Some, None, Option, [], ◌∷◌, true, sym, refl, ap, subst, ◌∙◌, ◌+◌, ◌%◌, arith}
use Rattle.std.specs.Option.{unwrap_or}
use Rattle.indexmap.specs.IndexMap.{insert_entry}
use Rattle.ring_identities.proofs.Congruences.{residue_small}
use Rattle.ring_identities.specs.Residues.{residue}
use Rattle.frontier_laws.specs.Tables.{add_in}
use Rattle.std.specs.List.{All}
use Rattle.std.proofs.lemmas.Option.{none-some}
use Rattle.std.specs.Map.{lookup, keys_of}
use Rattle.std.specs.Prelude.{IfSome}
use Rattle.std.specs.Set.{is_member}
use Rattle.std.proofs.lemmas.Map.Entries.{All-lookup}

-- A coefficient that is found is below m.
pub found_below : (m code coefficient : ℕ) (table : List (ℕ × ℕ)) → All (λ entry. entry.1 < m) table → Some coefficient ≡ lookup (◌==◌ code) table → coefficient < m
found_below m code coefficient table below found = subst (λ (r : Option ℕ). IfSome r (λ c. c < m)) (sym found) (All-lookup (λ c. c < m) (◌==◌ code) table below)

-- Where none is found the code is not among the keys.
pub none_found : (code : ℕ) (table : List (ℕ × ℕ)) → None ≡ lookup (◌==◌ code) table → is_member ◌==◌ (keys_of table) code ≡ false
none_found code [] none = refl
none_found code (entry ∷ table) none = at (code == entry.0) (none_found code table) none
  where
    at : (b : Bool) → (None ≡ lookup (◌==◌ code) table → is_member ◌==◌ (keys_of table) code ≡ false) → None ≡ (if b then Some entry.1 else lookup (◌==◌ code) table) →
        (b || is_member ◌==◌ (keys_of table) code) ≡ false
    at true rest none = absurd (none-some entry.1 none)
    at false rest none = rest none

-- An item is added by the insertion of what its code had, and c more.
add_in-insert_entry : (m code c : ℕ) (table : List (ℕ × ℕ)) → add_in m code c table ≡ insert_entry ◌==◌ table code ((unwrap_or (lookup (◌==◌ code) table) 0 + c) % m)
add_in-insert_entry m code c [] = let e : 0 + c ≡ c = omega arith in grind (arith, e)
add_in-insert_entry m code c (e ∷ table) = let ih = add_in-insert_entry m code c table in grind (arith, ih)

small_remainder : (m c : ℕ) → c < m → c % m ≡ c
unfolding residue
small_remainder m c small = residue_small m c small

-- A CODE THAT IS NOT FOUND IS ADDED BY AN INSERTION
pub inserted : (m code c : ℕ) (table : List (ℕ × ℕ)) → c < m → None ≡ lookup (◌==◌ code) table → insert_entry ◌==◌ table code c ≡ add_in m code c table
inserted m code c table small none =
    let none_more : 0 + c ≡ c = omega arith in
    let whole : (0 + c) % m ≡ c = ap (λ c. c % m) none_more ∙ small_remainder m c small in
    sym (add_in-insert_entry m code c table ∙ ap (insert_entry ◌==◌ table code) (ap (λ (found : Option ℕ). (unwrap_or found 0 + c) % m) (sym none) ∙ whole))

-- What a look-up finds is below m, or 0.
pub coefficient_below : (m code : ℕ) (table : List (ℕ × ℕ)) → 0 < m → All (λ entry. entry.1 < m) table → unwrap_or (lookup (◌==◌ code) table) 0 < m
coefficient_below m code table some below = at (lookup (◌==◌ code) table) (All-lookup (λ c. c < m) (◌==◌ code) table below)
  where
    at : (found : Option ℕ) → IfSome found (λ c. c < m) → unwrap_or found 0 < m
    at (Some c) small = small
    at None small = some
