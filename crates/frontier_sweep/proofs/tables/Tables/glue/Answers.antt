use Rattle.std.proofs.Common.{◌≡◌, ℕ, ◌<◌, [], ◌∷◌, Ok, Err, Result, OnOk, length, sym, ap, subst, ◌∙◌}
use Rattle.std.specs.List.{All}
use Rattle.std.proofs.lemmas.List.Elements.{All-nil}
use Rattle.std.proofs.lemmas.Result.{err_from_is_err_and}
use Rattle.frontier_laws.specs.Tables.{add_all, contributions}
use Rattle.frontier_laws.proofs.Tables.{add_all-below}
use Rattle.kept_tables.specs.KeptTables.{IsGathered, scaled}
use Rattle.kept_tables.proofs.Gathered.{anew, in_place}
use Rattle.frontier_sweep.specs.Steps.{IsOverfull}
use Rattle.frontier_sweep.proofs.InPlaceLemmas.{leaves, scaled-below}
use Rattle.frontier_sweep.proofs.tables.Tables.glue.Goals as goal

-- What holds where there is a result holds by a law of it.
on_ok : {T E : Type 0} {A B : Type 0} (result : Result T E) → (A → B) → OnOk result A → OnOk result B
on_ok (Ok x) law a = law a
on_ok (Err e) law a = a

pub returns-in_ok-glue_table-in-None-clause-gathered : goal.returns-in_ok-glue_table-in-None-clause-gathered
returns-in_ok-glue_table-in-None-clause-gathered c =
    let step = c.args.step in
    let m = step.powers.now.modulus in
    let items = contributions step.powers.now.delta step.seam.now step.terms.now c.args.self.now in
    let next = c.swap.ensures.x_after ∙ c.in_ok-glue_table-in-None.ensures.added ∙ ap (λ table. add_all m [] (contributions step.powers.now.delta step.seam.now step.terms.now table)) c.self.view_is in
    subst (IsGathered m items) (sym next) (anew m items)

pub returns-in_ok-glue_table-in-None-clause-below : goal.returns-in_ok-glue_table-in-None-clause-below
returns-in_ok-glue_table-in-None-clause-below c =
    let step = c.args.step in
    let m = step.powers.now.modulus in
    let items = contributions step.powers.now.delta step.seam.now step.terms.now c.args.self.now in
    let next = c.swap.ensures.x_after ∙ c.in_ok-glue_table-in-None.ensures.added ∙ ap (λ table. add_all m [] (contributions step.powers.now.delta step.seam.now step.terms.now table)) c.self.view_is in
    subst (All (λ entry. entry.1 < m)) (sym next) (add_all-below m items [] c.requires.some (All-nil (λ (entry : ℕ × ℕ). entry.1 < m)))

pub returns-in_err-glue_table-in-None-clause-full : goal.returns-in_err-glue_table-in-None-clause-full
returns-in_err-glue_table-in-None-clause-full c full =
    let step = c.args.step in
    let m = step.powers.now.modulus in
    let p = err_from_is_err_and c.from_residual-in_err-glue_table-in-None.result c.from_residual-in_err-glue_table-in-None.ensures.1 in
    let many = (c.in_err-glue_table-in-None.ensures {u = tt}).full (ap Err (sym p.2) ∙ sym p.1 ∙ full) in
    let over : IsOverfull m (contributions step.powers.now.delta step.seam.now step.terms.now c.self.inside.table) = record { table = _; gathered = anew m (contributions step.powers.now.delta step.seam.now step.terms.now c.self.inside.table); many = many } in
    subst (λ table. IsOverfull m (contributions step.powers.now.delta step.seam.now step.terms.now table)) c.self.view_is over

-- Made in place, so is it.
pub returns-in-Some-clause-gathered : goal.returns-in-Some-clause-gathered
returns-in-Some-clause-gathered c =
    let step = c.args.step in
    let m = step.powers.now.modulus in
    let delta = step.powers.now.delta in
    let seam = step.seam.now in
    let kept = c.in-Some.kept.now in
    let other = c.in-Some.other.now in
    let T = c.args.self.now in
    let gathered = in_place m delta seam step.terms.now kept other T c.in-Some.ensures.two c.requires.distinct (leaves delta seam kept T c.in-Some.ensures.kept c.requires.codes) in
    let next = add_all m (scaled m kept.weight T) (contributions delta seam (other ∷ []) T) in
    on_ok c.glue_in_place.result (λ (is : c.glue_in_place.new.table ≡ next). subst (IsGathered m (contributions delta seam step.terms.now T)) (sym is) gathered)
    (subst (λ table. OnOk c.glue_in_place.result (c.glue_in_place.new.table ≡ add_all m (scaled m kept.weight table) (contributions delta seam (other ∷ []) table))) c.self.view_is c.glue_in_place.ensures.added)

pub returns-in-Some-clause-below : goal.returns-in-Some-clause-below
returns-in-Some-clause-below c =
    let step = c.args.step in
    let m = step.powers.now.modulus in
    let kept = c.in-Some.kept.now in
    let T = c.self.inside.table in
    let items = contributions step.powers.now.delta step.seam.now (c.in-Some.other.now ∷ []) T in
    on_ok c.glue_in_place.result (λ (is : c.glue_in_place.new.table ≡ add_all m (scaled m kept.weight T) items). subst (All (λ entry. entry.1 < m)) (sym is)
    (add_all-below m items (scaled m kept.weight T) c.requires.some (scaled-below m kept.weight T c.requires.some)))
    c.glue_in_place.ensures.added

pub returns-in-Some-clause-full : goal.returns-in-Some-clause-full
returns-in-Some-clause-full c full =
    let step = c.args.step in
    let m = step.powers.now.modulus in
    let delta = step.powers.now.delta in
    let seam = step.seam.now in
    let kept = c.in-Some.kept.now in
    let other = c.in-Some.other.now in
    let T = c.args.self.now in
    let gathered = in_place m delta seam step.terms.now kept other T c.in-Some.ensures.two c.requires.distinct (leaves delta seam kept T c.in-Some.ensures.kept c.requires.codes) in
    let many = subst (λ table. 262144 < length (add_all m (scaled m kept.weight table) (contributions delta seam (other ∷ []) table))) c.self.view_is (c.glue_in_place.ensures.full full) in
    record { table = add_all m (scaled m kept.weight T) (contributions delta seam (other ∷ []) T); gathered = gathered; many = many }
