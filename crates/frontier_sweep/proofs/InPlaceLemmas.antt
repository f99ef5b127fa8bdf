-- What holds in the two loops of a step in place, pass by pass: the first so many coefficients are scaled, and saved; then what the other
-- term gives is added for the first so many entries as they were. No entry leaves its place, so each pairing is still found at its own.
use Rattle.std.proofs.Common.{◌≡◌, ℕ, zero, suc, ◌+◌, ◌*◌, ◌^◌, ◌<◌, ◌≤◌, ◌%◌, ◌==◌, false, List, [], ◌∷◌, ◌++◌, map, take, drop, length, get_or, take_all, refl, sym, ap, subst, ◌∙◌, arith}
use Rattle.std.specs.List.{All, zip}
use Rattle.std.specs.Map.{keys_of, values_of}
use Rattle.std.specs.Set.{is_member}
use Rattle.std.proofs.Math.Nat.{pow-zero}
use Rattle.std.proofs.Math.Seq.{split_at}
use Rattle.std.proofs.lemmas.List.{take_more, length-map}
use Rattle.std.proofs.lemmas.List.Elements.{All-cons, All-nil}
use Rattle.std.proofs.lemmas.Nat.{mod_below}
use Rattle.std.proofs.lemmas.List.Concat.{flat_map-append}
use Rattle.state_sums.specs.Networks.{Term}
use Rattle.arc_pairing.specs.Codes.{code_of}
use Rattle.arc_pairing.specs.Gluing.{Seam, ChangesNothing}
use Rattle.arc_pairing.specs.Pairings.{IsShortPairing}
use Rattle.indexmap.specs.Layout.{set_value_at}
use Rattle.frontier_laws.specs.Tables.{decoded, add_in, add_all, glued_item, contribution, contributions}
use Rattle.frontier_laws.proofs.Decoded.{decoded-code_of}
use Rattle.frontier_laws.proofs.TableLengths.{longer, longer_by_one}
use Rattle.frontier_laws.proofs.Tables.{add_in-residue, add_in-below, add_all-push}
use Rattle.kept_tables.specs.KeptTables.{LeavesCodes, scaled}
use Rattle.frontier_sweep.specs.LoopPowers.{LoopPowers}
use Rattle.frontier_sweep.specs.Steps.{Spells}

-- ---- a term that changes nothing
-- gives each pairing itself
pub same_item : (delta : ℕ) (seam : Seam) (partner : List ℕ) (coefficient : ℕ) (term : Term) → ChangesNothing seam term.partner → IsShortPairing partner → length partner ≡ length seam.inner →
    glued_item delta seam partner coefficient term ≡ (code_of partner, coefficient * term.weight)
same_item delta seam partner coefficient term changes short whole =
    let g = changes partner short whole in
    let code = ap code_of (sym g.partners) in
    let loops = ap (λ loops. coefficient * (term.weight * delta ^ loops)) (sym g.closed) in
    let one : coefficient * (term.weight * delta ^ 0) ≡ coefficient * term.weight = ap (λ n. coefficient * (term.weight * n)) (pow-zero delta) ∙ (let u : coefficient * (term.weight * 1) ≡ coefficient * term.weight = ap (λ n. coefficient * n) (let v : term.weight * 1 ≡ term.weight = omega arith in v) in u) in
    ap (λ code. (code, (glued_item delta seam partner coefficient term).1)) code ∙ ap (λ n. (code_of partner, n)) (loops ∙ one)

-- so it leaves the codes
pub leaves : (delta : ℕ) (seam : Seam) (term : Term) (table : List (ℕ × ℕ)) → ChangesNothing seam term.partner →
    ((i : ℕ) → i < length table → Spells (length seam.inner) (get_or table i (0, 0)).0) → LeavesCodes delta seam term table
leaves delta seam term table changes codes = λ at within.
    let entry = get_or table at (0, 0) in
    let s = codes at within in
    same_item delta seam _ entry.1 term changes s.short s.whole ∙ ap (λ code. (code, entry.1 * term.weight)) s.again

-- ---- the first loop
-- The first so many coefficients are scaled.
abbrev pub partly_scaled : ℕ → ℕ → ℕ → List (ℕ × ℕ) → List (ℕ × ℕ)
partly_scaled m weight zero table = table
partly_scaled m weight (suc at) [] = []
partly_scaled m weight (suc at) (entry ∷ table) = (entry.0, entry.1 * weight % m) ∷ partly_scaled m weight at table

partly-length : (m weight at : ℕ) (table : List (ℕ × ℕ)) → length (partly_scaled m weight at table) ≡ length table
partly-length m weight zero table = refl
partly-length m weight (suc at) [] = refl
partly-length m weight (suc at) (entry ∷ table) = ap suc (partly-length m weight at table)

partly-next : (m weight at : ℕ) (table : List (ℕ × ℕ)) → get_or (partly_scaled m weight at table) at (0, 0) ≡ get_or table at (0, 0)
partly-next m weight zero table = refl
partly-next m weight (suc at) [] = refl
partly-next m weight (suc at) (entry ∷ table) = partly-next m weight at table

partly-set : (m weight at : ℕ) (table : List (ℕ × ℕ)) → at < length table →
    set_value_at (partly_scaled m weight at table) at ((get_or table at (0, 0)).1 * weight % m) ≡ partly_scaled m weight (suc at) table
partly-set m weight at [] within = absurd (omega (arith, within))
partly-set m weight zero (entry ∷ table) within = refl
partly-set m weight (suc at) (entry ∷ table) within = ap (λ rest. (entry.0, entry.1 * weight % m) ∷ rest) (partly-set m weight at table (omega (arith, within)))

partly-all : (m weight : ℕ) (table : List (ℕ × ℕ)) → partly_scaled m weight (length table) table ≡ scaled m weight table
partly-all m weight [] = refl
partly-all m weight (entry ∷ table) = ap (λ rest. (entry.0, entry.1 * weight % m) ∷ rest) (partly-all m weight table)

pub values-at : (table : List (ℕ × ℕ)) (at : ℕ) → get_or (values_of table) at 0 ≡ (get_or table at (0, 0)).1
values-at [] at = refl
values-at (entry ∷ table) zero = refl
values-at (entry ∷ table) (suc at) = values-at table at

pub record IsScaledTo (m weight : ℕ) (old : List (ℕ × ℕ)) (count at : ℕ) (table : List (ℕ × ℕ)) (saved : List ℕ) (turns : ℕ) : Type 0 where
  pub table_is : table ≡ partly_scaled m weight at old
  pub saved_are : saved ≡ take at (values_of old)
  pub count_is : turns ≡ count + at

module _ (m weight : ℕ) (old : List (ℕ × ℕ)) (count at : ℕ) (table : List (ℕ × ℕ)) (saved : List ℕ) (turns : ℕ) (h : IsScaledTo m weight old count at table saved turns) (within : at < length old) where
  -- The entry at hand is in the table, and still as it was.
  pub still_in : at < length table
  still_in =
      let l = partly-length m weight at old in
      let e = ap (λ (table : List (ℕ × ℕ)). length table) h.table_is in
      omega (arith, l, e, within)

  pub still_as : get_or table at (0, 0) ≡ get_or old at (0, 0)
  still_as = ap (λ (table : List (ℕ × ℕ)). get_or table at (0, 0)) h.table_is ∙ partly-next m weight at old

  -- A pairing at its place has as many points as the code there spells.
  pub still_fits : (points : ℕ) (partner : List ℕ) → IsShortPairing partner → code_of partner ≡ (get_or table at (0, 0)).0 → Spells points (get_or old at (0, 0)).0 → length partner ≡ points
  still_fits points partner short code spells =
      let is : partner ≡ decoded (get_or old at (0, 0)).0 = sym (decoded-code_of partner short) ∙ ap decoded (code ∙ ap (λ (entry : ℕ × ℕ). entry.0) still_as) in
      ap (λ (partner : List ℕ). length partner) is ∙ spells.whole

-- ONE COEFFICIENT MORE
pub scaled_more : (m weight : ℕ) (old : List (ℕ × ℕ)) (count at : ℕ) (table : List (ℕ × ℕ)) (saved : List ℕ) (turns : ℕ) → IsScaledTo m weight old count at table saved turns → at < length old →
    (coefficient more : ℕ) → coefficient ≡ (get_or table at (0, 0)).1 → more ≡ coefficient * weight % m →
    (after : List (ℕ × ℕ)) → after ≡ set_value_at table at more → (kept : List ℕ) → kept ≡ saved ++ coefficient ∷ [] → (later : ℕ) → later ≡ turns + 1 →
    IsScaledTo m weight old count (at + 1) after kept later
scaled_more m weight old count at table saved turns h within coefficient more read more_is after after_is kept kept_is later later_is =
    let here : coefficient ≡ (get_or old at (0, 0)).1 = read ∙ ap (λ (entry : ℕ × ℕ). entry.1) (still_as m weight old count at table saved turns h within) in
    let next : at + 1 ≡ suc at = omega arith in
    let long : length (values_of old) ≡ length old = length-map old (λ (entry : ℕ × ℕ). entry.1) in
    record {
      table_is =
          after_is ∙ ap (λ table. set_value_at table at more) h.table_is
          ∙ ap (set_value_at (partly_scaled m weight at old) at) (more_is ∙ ap (λ n. n * weight % m) here)
          ∙ partly-set m weight at old within
          ∙ ap (λ n. partly_scaled m weight n old) (sym next);
      saved_are =
          kept_is ∙ ap (λ saved. saved ++ coefficient ∷ []) h.saved_are
          ∙ ap (λ n. take at (values_of old) ++ n ∷ []) (here ∙ sym (values-at old at))
          ∙ sym (take_more (values_of old) at 0 (omega (arith, long, within)));
      count_is = (let c = h.count_is in omega (arith, later_is, c));
    }

-- ALL COEFFICIENTS
pub scaled_all : (m weight : ℕ) (old : List (ℕ × ℕ)) (count at : ℕ) (table : List (ℕ × ℕ)) (saved : List ℕ) (turns : ℕ) → IsScaledTo m weight old count at table saved turns → at ≡ length old →
    (table ≡ scaled m weight old) × (saved ≡ values_of old)
scaled_all m weight old count at table saved turns h end =
    let long : length (values_of old) ≡ length old = length-map old (λ (entry : ℕ × ℕ). entry.1) in (
      h.table_is ∙ ap (λ n. partly_scaled m weight n old) end ∙ partly-all m weight old,
      h.saved_are ∙ ap (λ n. take n (values_of old)) (end ∙ sym long) ∙ take_all (length (values_of old)) (values_of old) (omega arith),
    )

-- A scaled table has the same codes at the same places, and residues.
pub scaled-length : (m weight : ℕ) (table : List (ℕ × ℕ)) → length (scaled m weight table) ≡ length table
scaled-length m weight table = length-map table (λ (entry : ℕ × ℕ). (entry.0, entry.1 * weight % m))

pub scaled-code : (m weight : ℕ) (table : List (ℕ × ℕ)) (i : ℕ) → (get_or (scaled m weight table) i (0, 0)).0 ≡ (get_or table i (0, 0)).0
scaled-code m weight [] i = refl
scaled-code m weight (entry ∷ table) zero = refl
scaled-code m weight (entry ∷ table) (suc i) = scaled-code m weight table i

pub scaled-below : (m weight : ℕ) (table : List (ℕ × ℕ)) → 0 < m → All (λ entry. entry.1 < m) (scaled m weight table)
scaled-below m weight [] some = All-nil (λ (entry : ℕ × ℕ). entry.1 < m)
scaled-below m weight (entry ∷ table) some =
    All-cons (λ (entry : ℕ × ℕ). entry.1 < m) (entry.0, entry.1 * weight % m) (scaled m weight table) (mod_below (entry.1 * weight) m some) (scaled-below m weight table some)

-- ---- the second loop
-- An entry keeps its place.
key_kept : (m code more : ℕ) (table : List (ℕ × ℕ)) (i : ℕ) → i < length table → (get_or (add_in m code more table) i (0, 0)).0 ≡ (get_or table i (0, 0)).0
key_kept m code more [] i within = absurd (omega (arith, within))
key_kept m code more (entry ∷ table) zero within = grind arith
key_kept m code more (entry ∷ table) (suc i) within = let ih = key_kept m code more table i (omega (arith, within)) in grind (arith, ih)

pub keys_kept : (m : ℕ) (items table : List (ℕ × ℕ)) (i : ℕ) → i < length table → (get_or (add_all m table items) i (0, 0)).0 ≡ (get_or table i (0, 0)).0
keys_kept m [] table i within = refl
keys_kept m (item ∷ items) table i within =
    let l = longer m (item ∷ []) table in
    keys_kept m items (add_in m item.0 item.1 table) i (omega (arith, within, l)) ∙ key_kept m item.0 item.1 table i within

-- An entry as it was: its code, which it still has, and its saved coefficient.
pub as_it_was : (table : List (ℕ × ℕ)) (saved : List ℕ) (i : ℕ) → i < length table → i < length saved → get_or (zip (keys_of table) saved) i (0, 0) ≡ ((get_or table i (0, 0)).0, get_or saved i 0)
as_it_was [] saved i within also = absurd (omega (arith, within))
as_it_was (entry ∷ table) [] i within also = absurd (omega (arith, also))
as_it_was (entry ∷ table) (c ∷ saved) zero within also = refl
as_it_was (entry ∷ table) (c ∷ saved) (suc i) within also = as_it_was table saved i (omega (arith, within)) (omega (arith, also))

zip-length : (table : List (ℕ × ℕ)) (saved : List ℕ) → length saved ≡ length table → length (zip (keys_of table) saved) ≡ length saved
zip-length [] [] same = refl
zip-length [] (c ∷ saved) same = absurd (omega (arith, same))
zip-length (entry ∷ table) [] same = refl
zip-length (entry ∷ table) (c ∷ saved) same = ap suc (zip-length table saved (omega (arith, same)))

pub restored : (table : List (ℕ × ℕ)) → zip (keys_of table) (values_of table) ≡ table
restored [] = refl
restored (entry ∷ table) = ap (λ rest. entry ∷ rest) (restored table)

pub record IsAddedTo (powers : LoopPowers) (seam : Seam) (other : Term) (old : List (ℕ × ℕ)) (saved : List ℕ) (count at : ℕ) (table : List (ℕ × ℕ)) (turns : ℕ) : Type 0 where
  pub table_is : table ≡ add_all powers.modulus old (contributions powers.delta seam (other ∷ []) (take at (zip (keys_of old) saved)))
  pub below : All (λ entry. entry.1 < powers.modulus) table
  pub few : length table ≤ 262144
  pub count_is : turns ≡ count + at

module _ (powers : LoopPowers) (seam : Seam) (other : Term) (old : List (ℕ × ℕ)) (saved : List ℕ) (count at : ℕ) (table : List (ℕ × ℕ)) (turns : ℕ)
    (h : IsAddedTo powers seam other old saved count at table turns) (whole : length saved ≡ length old) (within : at < length saved) where
  abbrev entries : List (ℕ × ℕ)
  entries = zip (keys_of old) saved

  abbrev one : List (ℕ × ℕ) → List (ℕ × ℕ)
  one = contributions powers.delta seam (other ∷ [])

  -- The entry that was there.
  abbrev pub was : ℕ × ℕ
  was = get_or (zip (keys_of old) saved) at (0, 0)

  in_old : at < length old
  in_old = omega (arith, whole, within)

  in_entries : at < length entries
  in_entries = let l = zip-length old saved whole in omega (arith, l, within)

  pub in_table : at < length table
  in_table =
      let l = longer powers.modulus (one (take at entries)) old in
      let e = ap (λ (table : List (ℕ × ℕ)). length table) h.table_is in
      let o = in_old in
      omega (arith, l, e, o)

  was_code : was.0 ≡ (get_or table at (0, 0)).0
  was_code =
      ap (λ (entry : ℕ × ℕ). entry.0) (as_it_was old saved at in_old within)
      ∙ sym (keys_kept powers.modulus (one (take at entries)) old at in_old)
      ∙ ap (λ (table : List (ℕ × ℕ)). (get_or table at (0, 0)).0) (sym h.table_is)

  was_coefficient : was.1 ≡ get_or saved at 0
  was_coefficient = ap (λ (entry : ℕ × ℕ). entry.1) (as_it_was old saved at in_old within)

  old_code : (get_or table at (0, 0)).0 ≡ (get_or old at (0, 0)).0
  old_code = sym was_code ∙ ap (λ (entry : ℕ × ℕ). entry.0) (as_it_was old saved at in_old within)

  -- A pairing at its place has as many points as the code there spells, and gives what the entry that was there does.
  pub was_fits : (points : ℕ) (partner : List ℕ) → IsShortPairing partner → code_of partner ≡ (get_or table at (0, 0)).0 → Spells points (get_or old at (0, 0)).0 → length partner ≡ points
  was_fits points partner short code spells =
      let is : partner ≡ decoded (get_or old at (0, 0)).0 = sym (decoded-code_of partner short) ∙ ap decoded (code ∙ old_code) in
      ap (λ (partner : List ℕ). length partner) is ∙ spells.whole

  pub was_item : (partner : List ℕ) → IsShortPairing partner → code_of partner ≡ (get_or table at (0, 0)).0 →
      glued_item powers.delta seam partner (get_or saved at 0) other ≡ contribution powers.delta seam was other
  was_item partner short code =
      let is : partner ≡ decoded was.0 = sym (decoded-code_of partner short) ∙ ap decoded (code ∙ sym was_code) in
      ap (λ (partner : List ℕ). glued_item powers.delta seam partner (get_or saved at 0) other) is
      ∙ ap (λ coefficient. glued_item powers.delta seam (decoded was.0) coefficient other) (sym was_coefficient)

  -- What all entries give: what those before it do, its own, and the rest.
  split : one entries ≡ one (take at entries) ++ contribution powers.delta seam was other ∷ one (drop (suc at) entries)
  split = ap one (split_at entries at (0, 0) in_entries) ∙ flat_map-append (λ entry. map (contribution powers.delta seam entry) (other ∷ [])) (take at entries) (was ∷ drop (suc at) entries)

  -- ONE ENTRY MORE
  pub added_more : 0 < powers.modulus → (code more : ℕ) (after : List (ℕ × ℕ)) → code ≡ (contribution powers.delta seam was other).0 → more ≡ (contribution powers.delta seam was other).1 % powers.modulus →
      after ≡ add_in powers.modulus code more table → length after ≤ 262144 → (later : ℕ) → later ≡ turns + 1 → IsAddedTo powers seam other old saved count (at + 1) after later
  added_more some code more after code_is more_is after_is few later later_is =
      let m = powers.modulus in
      let item = contribution powers.delta seam was other in
      let taken : one (take (at + 1) entries) ≡ one (take at entries) ++ item ∷ [] =
      ap one (take_more entries at (0, 0) in_entries) ∙ flat_map-append (λ entry. map (contribution powers.delta seam entry) (other ∷ [])) (take at entries) (was ∷ []) in
      record {
        table_is =
            after_is ∙ ap (λ code. add_in m code more table) code_is ∙ ap (λ more. add_in m item.0 more table) more_is ∙ add_in-residue m item.0 item.1 table
            ∙ ap (add_in m item.0 item.1) h.table_is
            ∙ sym (add_all-push m old (one (take at entries)) item)
            ∙ ap (add_all m old) (sym taken);
        below = subst (All (λ entry. entry.1 < m)) (sym after_is) (add_in-below m code more table some h.below);
        few = few;
        count_is = (let c = h.count_is in omega (arith, later_is, c));
      }

  -- A code that is new where there are 262,144.
  pub added_over : (code : ℕ) → code ≡ (contribution powers.delta seam was other).0 → is_member ◌==◌ (keys_of table) code ≡ false → 262144 ≤ length table →
      262144 < length (add_all powers.modulus old (one entries))
  added_over code code_is new full =
      let m = powers.modulus in
      let item = contribution powers.delta seam was other in
      let front = one (take at entries) in
      let fresh = ap (λ (so_far : List (ℕ × ℕ)). is_member ◌==◌ (keys_of so_far) item.0) (sym h.table_is) ∙ ap (is_member ◌==◌ (keys_of table)) (sym code_is) ∙ new in
      let more = longer_by_one m old front (one (drop (suc at) entries)) item fresh in
      let long = ap (λ (table : List (ℕ × ℕ)). length table) h.table_is in
      let all = ap (λ items. length (add_all m old items)) split in
      omega (arith, full, more, long, all)

-- ALL ENTRIES
pub added_all_entries : (powers : LoopPowers) (seam : Seam) (other : Term) (old : List (ℕ × ℕ)) (saved : List ℕ) (count at : ℕ) (table : List (ℕ × ℕ)) (turns : ℕ) →
    IsAddedTo powers seam other old saved count at table turns → length saved ≡ length old → at ≡ length saved →
    table ≡ add_all powers.modulus old (contributions powers.delta seam (other ∷ []) (zip (keys_of old) saved))
added_all_entries powers seam other old saved count at table turns h whole end =
    let entries = zip (keys_of old) saved in
    h.table_is ∙ ap (λ entries. add_all powers.modulus old (contributions powers.delta seam (other ∷ []) entries))
    (ap (λ n. take n entries) (end ∙ sym (zip-length old saved whole)) ∙ take_all (length entries) entries (omega arith))
