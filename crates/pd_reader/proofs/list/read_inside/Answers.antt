use Rattle.std.proofs.Common.{◌≡◌, ◌+◌, sym, subst, ap, ◌∙◌, List, ℕ, [], ◌∷◌, ◌++◌}
use Rattle.std.specs.List.{AllByRecursion}
use Rattle.std.proofs.lemmas.Result.{err_from_is_err_and}
use Rattle.text_shapes.specs.Shapes.{items_behind, items_inside}
use Rattle.text_shapes.specs.Readers.{Found}
use Rattle.text_shapes.proofs.Closing.{not_there}
use Rattle.text_shapes.proofs.Chain.{LeadsTo-missed, LeadsTo-found}
use Rattle.text_shapes.proofs.Lists.{chain_skips, chain_begun, chain_none, chain_inside_missed}
use Rattle.pd_reader.proofs.StopLemmas.{LeadsTo-stop}
use Rattle.pd_reader.proofs.list.read_inside.Given.{Over}
use Rattle.pd_reader.proofs.list.read_inside.Goals as goal

abbrev Fit : (g : Over) → List g.row.I.Denot → Type 0
Fit g = AllByRecursion g.I.TextItem.fits

abbrev Behind : (g : Over) → ℕ → List g.row.I.Denot → List (List ℕ)
Behind g close = items_behind close g.I.TextItem.tokens

abbrev Inside : (g : Over) → ℕ → List g.row.I.Denot → List (List ℕ)
Inside g close = items_inside close g.I.TextItem.tokens

pub returns-then-stands-clause-ok : goal.returns-then-stands-clause-ok
returns-then-stands-clause-ok g c =
    let here = c.stands.ensures.0 c.if-stands.true in
    subst (λ xs. Found (Fit g) (Inside g c.args.close) c.args.bytes.now c.args.at xs (c.skip-first.result + 1)) (sym c.new-items.ensures.items)
    (LeadsTo-found (Fit g) (Inside g c.args.close) (Fit g) (Inside g c.args.close) (λ all. all) c.args.bytes.now c.args.at c.skip-first.result (c.skip-first.result + 1) [] (chain_skips (Fit g) (Inside g c.args.close) c.args.bytes.now c.args.at c.skip-first.result c.skip-first.ensures)
    (chain_none c.args.close c.requires.closing g.I.TextItem.fits g.I.TextItem.tokens c.args.bytes.now c.skip-first.result (c.skip-first.ensures.within, c.skip-first.ensures.stops) here.0 here.1 g.met.I.TextItem.begins_unclosed))

pub returns-in_err-item-clause-err : goal.returns-in_err-item-clause-err
returns-in_err-item-clause-err g c =
    let p = err_from_is_err_and c.from_residual.result c.from_residual.ensures.1 in
    rw (p.1, p.2) (LeadsTo-missed (Fit g) (Inside g c.args.close) (Fit g) (Inside g c.args.close) (λ all. all) c.args.bytes.now c.args.at c.skip-first.result c.in_err-item.field-0.0
    (chain_skips (Fit g) (Inside g c.args.close) c.args.bytes.now c.args.at c.skip-first.result c.skip-first.ensures)
    (chain_inside_missed c.args.close c.requires.closing g.I.TextItem.fits g.I.TextItem.tokens c.args.bytes.now c.skip-first.result c.in_err-item.field-0.0 (c.skip-first.ensures.within, c.skip-first.ensures.stops)
    (not_there c.stands.result c.args.bytes.now c.skip-first.result c.args.close c.if-stands.false c.stands.ensures.1) c.in_err-item.ensures.err))

pub returns-in_err-next-clause-err : goal.returns-in_err-next-clause-err
returns-in_err-next-clause-err g c =
    let p = err_from_is_err_and c.from_residual-in_err-next.result c.from_residual-in_err-next.ensures.1 in
    rw (p.1, p.2) (LeadsTo-stop (Fit g) (Inside g c.args.close) (Fit g) (Behind g c.args.close) (λ rest. c.in_ok-item.item ∷ rest) c.args.bytes.now c.args.at c.in_ok-item.after c.in_err-next.field-0.0
    (chain_begun c.args.close c.requires.closing g.I.TextItem.fits g.I.TextItem.tokens c.args.bytes.now c.args.at c.skip-first.result c.in_ok-item.after c.in_ok-item.item c.skip-first.ensures
    (not_there c.stands.result c.args.bytes.now c.skip-first.result c.args.close c.if-stands.false c.stands.ensures.1) c.in_ok-item.ensures.ok) c.in_err-next.ensures.err)

pub returns-clause-ok : goal.returns-clause-ok
returns-clause-ok g c =
    let found = c.in_ok-next.ensures.ok in
    let items : c.read_behind.new.items.items ≡ c.in_ok-item.item ∷ found.0 = found.1 ∙ ap (λ xs. xs ++ found.0) (c.in_ok-push.ensures.items ∙ ap (λ xs. xs ++ c.in_ok-item.item ∷ []) c.new-items.ensures.items) in
    subst (λ xs. Found (Fit g) (Inside g c.args.close) c.args.bytes.now c.args.at xs c.in_ok-next.next) (sym items)
    (LeadsTo-found (Fit g) (Inside g c.args.close) (Fit g) (Behind g c.args.close) (λ rest. c.in_ok-item.item ∷ rest) c.args.bytes.now c.args.at c.in_ok-item.after c.in_ok-next.next found.0
    (chain_begun c.args.close c.requires.closing g.I.TextItem.fits g.I.TextItem.tokens c.args.bytes.now c.args.at c.skip-first.result c.in_ok-item.after c.in_ok-item.item c.skip-first.ensures
    (not_there c.stands.result c.args.bytes.now c.skip-first.result c.args.close c.if-stands.false c.stands.ensures.1) c.in_ok-item.ensures.ok) found.2)
