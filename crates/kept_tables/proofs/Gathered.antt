-- Items gathered in an empty table, and what two terms give gathered in place where one of them leaves all codes: what they give entry
-- by entry is, for sums and for codes, what the one gives to all entries and then what the other does.
use Rattle.std.proofs.Common.{◌≡◌, ℕ, suc, ◌+◌, ◌*◌, ◌%◌, ◌==◌, ◌||◌, false, List, [], ◌∷◌, map, refl, sym, ap, subst, ◌∙◌, ⊎_elim, arith}
use Rattle.std.specs.List.{flat_map, IsDistinct}
use Rattle.std.specs.Map.{keys_of}
use Rattle.std.specs.Set.{is_member}
use Rattle.std.proofs.lemmas.List.Sums.{sum_by-cons}
use Rattle.std.proofs.lemmas.Map.Made.{keys_of-map_values}
use Rattle.state_sums.specs.Networks.{Term}
use Rattle.state_sums.proofs.Congruent.{add_same_mod}
use Rattle.arc_pairing.specs.Gluing.{Seam}
use Rattle.frontier_laws.specs.Tables.{add_all, table_sum, contribution, contributions}
use Rattle.frontier_laws.proofs.Tables.{add_all-codes, add_all-distinct}
use Rattle.frontier_laws.proofs.TableSums.{add_all-sum, reduced}
use Rattle.kept_tables.specs.KeptTables.{AnewLaw, InPlaceLaw, IsGathered, AreTwo, LeavesCodes, scaled}

no_codes : IsDistinct ◌==◌ []
unfolding IsDistinct
no_codes = tt

-- GATHERED ANEW
pub anew : AnewLaw
anew m items = record {
  distinct = add_all-distinct m items [] no_codes;
  codes = λ code. add_all-codes m items [] code ∙ (let g : (false || is_member ◌==◌ (keys_of items) code) ≡ is_member ◌==◌ (keys_of items) code = refl in g);
  sums = λ worth. add_all-sum m worth items [] ∙ ap (λ n. n % m) (let e : 0 + table_sum worth items ≡ table_sum worth items = omega arith in e);
}

-- What each entry gives by one function, and by two.
abbrev each : (ℕ × ℕ → ℕ × ℕ) → List (ℕ × ℕ) → List (ℕ × ℕ)
each f table = flat_map (λ entry. f entry ∷ []) table

abbrev both : (ℕ × ℕ → ℕ × ℕ) → (ℕ × ℕ → ℕ × ℕ) → List (ℕ × ℕ) → List (ℕ × ℕ)
both f g table = flat_map (λ entry. f entry ∷ g entry ∷ []) table

module _ (f g : ℕ × ℕ → ℕ × ℕ) where
  both-sum : (worth : ℕ → ℕ) (table : List (ℕ × ℕ)) → table_sum worth (both f g table) ≡ table_sum worth (each f table) + table_sum worth (each g table)
  both-sum worth [] = refl
  both-sum worth (entry ∷ table) =
      let w : ℕ × ℕ → ℕ = λ entry. entry.1 * worth entry.0 in
      let ih = both-sum worth table in
      let a = sum_by-cons w (f entry) (g entry ∷ both f g table) in
      let b = sum_by-cons w (g entry) (both f g table) in
      let c = sum_by-cons w (f entry) (each f table) in
      let d = sum_by-cons w (g entry) (each g table) in
      omega (arith, ih, a, b, c, d)

  both-codes : (code : ℕ) (table : List (ℕ × ℕ)) → is_member ◌==◌ (keys_of (both f g table)) code ≡ (is_member ◌==◌ (keys_of (each f table)) code || is_member ◌==◌ (keys_of (each g table)) code)
  both-codes code [] = refl
  both-codes code (entry ∷ table) = let ih = both-codes code table in grind (arith, ih)

-- An entry whose coefficient is multiplied.
abbrev multiplied : ℕ → ℕ × ℕ → ℕ × ℕ
multiplied weight entry = (entry.0, entry.1 * weight)

pub keys-scaled : (m weight : ℕ) (table : List (ℕ × ℕ)) → keys_of (scaled m weight table) ≡ keys_of table
keys-scaled m weight table = keys_of-map_values (λ coefficient. coefficient * weight % m) table

scaled-sum : (m weight : ℕ) (worth : ℕ → ℕ) (table : List (ℕ × ℕ)) → table_sum worth (scaled m weight table) % m ≡ table_sum worth (map (multiplied weight) table) % m
scaled-sum m weight worth [] = refl
scaled-sum m weight worth (entry ∷ table) =
    let w : ℕ × ℕ → ℕ = λ entry. entry.1 * worth entry.0 in
    let now = entry.1 * weight in
    ap (λ n. n % m) (sum_by-cons w (entry.0, now % m) (scaled m weight table))
    ∙ reduced m now (worth entry.0) (table_sum worth (scaled m weight table))
    ∙ add_same_mod m (now * worth entry.0) (now * worth entry.0) (table_sum worth (scaled m weight table)) (table_sum worth (map (multiplied weight) table)) refl (scaled-sum m weight worth table)
    ∙ ap (λ n. n % m) (sym (sum_by-cons w (entry.0, now) (map (multiplied weight) table)))

module _ (delta : ℕ) (seam : Seam) (kept : Term) where
  left : (table : List (ℕ × ℕ)) → LeavesCodes delta seam kept table → each (λ entry. contribution delta seam entry kept) table ≡ map (multiplied kept.weight) table
  left [] leaves = refl
  left (entry ∷ table) leaves =
      let rest = left table (λ at within. leaves (suc at) (omega (arith, within))) in
      let first = leaves 0 (omega arith) in
      cc (rest, first)

module _ (m delta : ℕ) (seam : Seam) (kept other : Term) (table : List (ℕ × ℕ)) (distinct : IsDistinct ◌==◌ (keys_of table)) (leaves : LeavesCodes delta seam kept table) where
  abbrev by : Term → ℕ × ℕ → ℕ × ℕ
  by term entry = contribution delta seam entry term

  abbrev next : List (ℕ × ℕ)
  next = add_all m (scaled m kept.weight table) (contributions delta seam (other ∷ []) table)

  -- From all items: their sums are those of what both give, and so are their codes.
  from_all : (items : List (ℕ × ℕ)) →
      ((worth : ℕ → ℕ) → table_sum worth items ≡ table_sum worth (each (by kept) table) + table_sum worth (each (by other) table)) →
      ((code : ℕ) → is_member ◌==◌ (keys_of items) code ≡ (is_member ◌==◌ (keys_of (each (by kept) table)) code || is_member ◌==◌ (keys_of (each (by other) table)) code)) →
      IsGathered m items next
  from_all items sums codes = record {
    distinct = add_all-distinct m (contributions delta seam (other ∷ []) table) (scaled m kept.weight table) (subst (IsDistinct ◌==◌) (sym (keys-scaled m kept.weight table)) distinct);
    codes = λ code.
        add_all-codes m (contributions delta seam (other ∷ []) table) (scaled m kept.weight table) code
        ∙ ap (λ keys. is_member ◌==◌ keys code || is_member ◌==◌ (keys_of (each (by other) table)) code)
        (keys-scaled m kept.weight table ∙ sym (keys_of-map_values (λ coefficient. coefficient * kept.weight) table) ∙ ap (λ items. keys_of items) (sym (left delta seam kept table leaves)))
        ∙ sym (codes code);
    sums = λ worth.
        let others = table_sum worth (each (by other) table) in
        add_all-sum m worth (contributions delta seam (other ∷ []) table) (scaled m kept.weight table)
        ∙ add_same_mod m (table_sum worth (scaled m kept.weight table)) (table_sum worth (each (by kept) table)) others others
        (scaled-sum m kept.weight worth table ∙ ap (λ items. table_sum worth items % m) (sym (left delta seam kept table leaves))) refl
        ∙ ap (λ n. n % m) (sym (sums worth));
  }

  -- The kept term comes first, or last.
  first : IsGathered m (both (by kept) (by other) table) next
  first = from_all (both (by kept) (by other) table) (λ worth. both-sum (by kept) (by other) worth table) (λ code. both-codes (by kept) (by other) code table)

  last : IsGathered m (both (by other) (by kept) table) next
  last =
      from_all (both (by other) (by kept) table)
      (λ worth. let s = both-sum (by other) (by kept) worth table in omega (arith, s))
      (λ code. let c = both-codes (by other) (by kept) code table in grind (arith, c))

  gathered : (terms : List Term) → AreTwo terms kept other → IsGathered m (contributions delta seam terms table) next
  gathered terms two =
      ⊎_elim
      (λ is. subst (λ (terms : List Term). IsGathered m (contributions delta seam terms table) next) (sym is) first)
      (λ is. subst (λ (terms : List Term). IsGathered m (contributions delta seam terms table) next) (sym is) last)
      two

-- GATHERED IN PLACE
pub in_place : InPlaceLaw
in_place m delta seam terms kept other table two distinct leaves = gathered m delta seam kept other table distinct leaves terms two
