use Rattle.std.proofs.Common.{◌&&◌, subst, sym, ap₂, ◌∙◌}
use Rattle.std.proofs.lemmas.Result.{err_from_is_err_and}
use Rattle.inertia_laws.specs.Range.{every_place, add_column_fits, take_row_fits}
use Rattle.inertia_cert.specs.Grids.{at, CausedBy}
use Rattle.inertia_cert.specs.Eliminations.{size_of, state}
use Rattle.inertia_cert.proofs.Stages.{caused_and, caused_first, rows_made, rows_fit}
use Rattle.inertia_cert.proofs.steps.add_place.Goals as goal

pub returns-in_err-matrix-clause-refused : goal.returns-in_err-matrix-clause-refused
returns-in_err-matrix-clause-refused c =
    let n = size_of c.args.now.now in
    let k = c.args.to in
    let j = c.args.from in
    let s = state c.args.now.now in
    let p = err_from_is_err_and c.from_residual-in_err-matrix.result c.from_residual-in_err-matrix.ensures.1 in
    rw (p.1, p.2)
    (caused_first _ _ (every_place n (take_row_fits k j s.q))
    (caused_first _ _ (every_place n (add_column_fits k j s.p))
    (caused_and _ (every_place n (add_column_fits k j s.m)) _
    (subst (CausedBy _) (rows_fit n k j c.requires.to c.requires.from (at c.in_ok-columns.columns) s.m c.in_ok-columns.ensures.made) c.in_err-matrix.ensures.refused))))

pub returns-clause-made : goal.returns-clause-made
returns-clause-made c =
    let n = size_of c.args.now.now in
    let s = state c.args.now.now in
    record {
      m = rows_made n c.args.to c.args.from c.requires.to c.requires.from (at c.in_ok-columns.columns) s.m c.in_ok-columns.ensures.made (at c.in_ok-matrix.matrix) c.in_ok-matrix.ensures.made;
      p = c.in_ok-p.ensures.made;
      q = c.in_ok-q.ensures.made;
    }

pub returns-clause-fit : goal.returns-clause-fit
returns-clause-fit c =
    let n = size_of c.args.now.now in
    let s = state c.args.now.now in
    let rows = rows_fit n c.args.to c.args.from c.requires.to c.requires.from (at c.in_ok-columns.columns) s.m c.in_ok-columns.ensures.made in
    ap₂ (λ u v. u && v) (ap₂ (λ u v. u && v) (ap₂ (λ u v. u && v) c.in_ok-columns.ensures.fit (sym rows ∙ c.in_ok-matrix.ensures.fit)) c.in_ok-p.ensures.fit) c.in_ok-q.ensures.fit
