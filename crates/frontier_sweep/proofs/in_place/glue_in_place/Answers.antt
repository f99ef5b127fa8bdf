use Rattle.std.proofs.Common.{◌≡◌, ℕ, ◌<◌, List, [], ◌∷◌, Err, OnOk, length, get_or, sym, ap, subst, ◌∙◌, arith}
use Rattle.std.specs.List.{All, zip}
use Rattle.std.specs.Map.{keys_of, values_of}
use Rattle.std.proofs.lemmas.Map.Entries.{length-values_of}
use Rattle.frontier_laws.specs.Tables.{add_all, contributions}
use Rattle.kept_tables.specs.KeptTables.{scaled}
use Rattle.kept_tables.proofs.Gathered.{keys-scaled}
use Rattle.frontier_sweep.specs.Steps.{Spells}
use Rattle.frontier_sweep.specs.declared.fault.NotGlued.TheVariants.{Full}
use Rattle.frontier_sweep.proofs.InPlaceLemmas.{scaled-length, scaled-code, scaled-below, values-at, restored}
use Rattle.frontier_sweep.proofs.in_place.glue_in_place.Goals as goal

pub add_other-requires-clause-codes : goal.add_other-requires-clause-codes
add_other-requires-clause-codes c = λ i within.
    let m = c.args.step.powers.now.modulus in
    let weight = c.args.kept.now.weight in
    let now : c.scale.new.table ≡ scaled m weight c.args.table.now = c.in_ok-scale.ensures.scaled ∙ ap (scaled m weight) c.reserve.ensures in
    let small : i < length c.args.table.now = (let e = ap (λ (table : List (ℕ × ℕ)). length table) now in let l = scaled-length m weight c.args.table.now in omega (arith, within, e, l)) in
    subst (Spells (length c.args.step.seam.now.inner)) (sym (scaled-code m weight c.args.table.now i) ∙ ap (λ (table : List (ℕ × ℕ)). (get_or table i (0, 0)).0) (sym now)) (c.requires.codes i small)

pub add_other-requires-clause-coefficients : goal.add_other-requires-clause-coefficients
add_other-requires-clause-coefficients c = λ i within.
    let saved : c.as_slice.result.now ≡ values_of c.args.table.now = c.as_slice.ensures.value ∙ c.in_ok-scale.ensures.saved ∙ ap (λ (table : List (ℕ × ℕ)). values_of table) c.reserve.ensures in
    let small : i < length c.args.table.now = (let e = ap (λ (xs : List ℕ). length xs) saved in let l = length-values_of c.args.table.now in omega (arith, within, e, l)) in
    subst (λ n. n < c.args.step.powers.now.modulus) (sym (values-at c.args.table.now i) ∙ ap (λ (xs : List ℕ). get_or xs i 0) (sym saved)) (c.requires.coefficients i small)

pub add_other-requires-clause-below : goal.add_other-requires-clause-below
add_other-requires-clause-below c =
    let m = c.args.step.powers.now.modulus in
    let weight = c.args.kept.now.weight in
    let now : c.scale.new.table ≡ scaled m weight c.args.table.now = c.in_ok-scale.ensures.scaled ∙ ap (scaled m weight) c.reserve.ensures in
    subst (All (λ entry. entry.1 < m)) (sym now) (scaled-below m weight c.args.table.now c.requires.some)

pub returns-clause-added : goal.returns-clause-added
returns-clause-added c =
    let m = c.args.step.powers.now.modulus in
    let weight = c.args.kept.now.weight in
    let T = c.args.table.now in
    let one = contributions c.args.step.powers.now.delta c.args.step.seam.now (c.args.other.now ∷ []) in
    let now : c.scale.new.table ≡ scaled m weight T = c.in_ok-scale.ensures.scaled ∙ ap (scaled m weight) c.reserve.ensures in
    let saved : c.as_slice.result.now ≡ values_of T = c.as_slice.ensures.value ∙ c.in_ok-scale.ensures.saved ∙ ap (λ (table : List (ℕ × ℕ)). values_of table) c.reserve.ensures in
    let was : zip (keys_of c.scale.new.table) c.as_slice.result.now ≡ T = ap (λ (table : List (ℕ × ℕ)). zip (keys_of table) c.as_slice.result.now) now ∙ ap (λ keys. zip keys c.as_slice.result.now) (keys-scaled m weight T)
    ∙ ap (zip (keys_of T)) saved ∙ restored T in
    subst (λ table. OnOk c.add_other.result (c.add_other.new.table ≡ add_all m table (one T))) now
    (subst (λ entries. OnOk c.add_other.result (c.add_other.new.table ≡ add_all m c.scale.new.table (one entries))) was c.add_other.ensures.added)

pub returns-clause-full : goal.returns-clause-full
returns-clause-full c =
    let m = c.args.step.powers.now.modulus in
    let weight = c.args.kept.now.weight in
    let T = c.args.table.now in
    let one = contributions c.args.step.powers.now.delta c.args.step.seam.now (c.args.other.now ∷ []) in
    let now : c.scale.new.table ≡ scaled m weight T = c.in_ok-scale.ensures.scaled ∙ ap (scaled m weight) c.reserve.ensures in
    let saved : c.as_slice.result.now ≡ values_of T = c.as_slice.ensures.value ∙ c.in_ok-scale.ensures.saved ∙ ap (λ (table : List (ℕ × ℕ)). values_of table) c.reserve.ensures in
    let was : zip (keys_of c.scale.new.table) c.as_slice.result.now ≡ T = ap (λ (table : List (ℕ × ℕ)). zip (keys_of table) c.as_slice.result.now) now ∙ ap (λ keys. zip keys c.as_slice.result.now) (keys-scaled m weight T)
    ∙ ap (zip (keys_of T)) saved ∙ restored T in
    subst (λ table. c.add_other.result ≡ Err Full → 262144 < length (add_all m table (one T))) now
    (subst (λ entries. c.add_other.result ≡ Err Full → 262144 < length (add_all m c.scale.new.table (one entries))) was c.add_other.ensures.full)
