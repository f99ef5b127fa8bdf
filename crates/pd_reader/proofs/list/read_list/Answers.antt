use Rattle.std.proofs.Common.{codes, List, ℕ, [], ◌∷◌}
use Rattle.std.specs.List.{AllByRecursion}
use Rattle.std.proofs.lemmas.Result.{err_from_is_err_and}
use Rattle.text_shapes.specs.Shapes.{items_inside, listed}
use Rattle.text_shapes.proofs.Closing.{bracket_is_token}
use Rattle.text_shapes.proofs.Chain.{LeadsTo-missed, LeadsTo-found, token_stands, token_falls}
use Rattle.text_shapes.proofs.Lists.{chain_opened}
use Rattle.pd_reader.proofs.StopLemmas.{LeadsTo-stop}
use Rattle.pd_reader.proofs.list.read_list.Given.{Over}
use Rattle.pd_reader.proofs.list.read_list.Goals as goal

abbrev Fit : (g : Over) → List g.row.I.Denot → Type 0
Fit g = AllByRecursion g.I.TextItem.fits

abbrev Inside : (g : Over) → List g.row.I.Denot → List (List ℕ)
Inside g = items_inside 93 g.I.TextItem.tokens

abbrev Opened : (g : Over) → List g.row.I.Denot → List (List ℕ)
Opened g all = codes "[" ∷ Inside g all

pub mark-requires-clause-token : goal.mark-requires-clause-token
mark-requires-clause-token g c = bracket_is_token

pub returns-in_err-place-clause-err : goal.returns-in_err-place-clause-err
returns-in_err-place-clause-err g c =
    let p = err_from_is_err_and c.from_residual.result c.from_residual.ensures.1 in
    rw (p.1, p.2) (token_falls (Fit g) c.args.head.now (Opened g) c.args.bytes.now c.args.at c.in_err-place.field-0.0 [] tt c.in_err-place.ensures.err)

pub returns-in_err-opened-clause-err : goal.returns-in_err-opened-clause-err
returns-in_err-opened-clause-err g c =
    let p = err_from_is_err_and c.from_residual-in_err-opened.result c.from_residual-in_err-opened.ensures.1 in
    rw (p.1, p.2) (LeadsTo-missed (Fit g) (listed g.I.TextItem.tokens c.args.head.now) (Fit g) (Opened g) (λ all. all) c.args.bytes.now c.args.at c.in_ok-place.place c.in_err-opened.field-0.0
    (token_stands (Fit g) c.args.head.now (Opened g) c.args.bytes.now c.args.at c.in_ok-place.place c.requires.token c.in_ok-place.ensures.ok)
    (token_falls (Fit g) (codes "[") (Inside g) c.args.bytes.now c.in_ok-place.place c.in_err-opened.field-0.0 [] tt c.in_err-opened.ensures.err))

pub returns-in_err-items-clause-err : goal.returns-in_err-items-clause-err
returns-in_err-items-clause-err g c =
    let p = err_from_is_err_and c.from_residual-in_err-items.result c.from_residual-in_err-items.ensures.1 in
    rw (p.1, p.2) (LeadsTo-stop (Fit g) (listed g.I.TextItem.tokens c.args.head.now) (Fit g) (Inside g) (λ all. all) c.args.bytes.now c.args.at c.in_ok-opened.opened c.in_err-items.field-0.0
    (chain_opened g.I.TextItem.fits g.I.TextItem.tokens c.args.bytes.now c.args.head.now c.args.at c.in_ok-place.place c.in_ok-opened.opened c.requires.token c.in_ok-place.ensures.ok c.in_ok-opened.ensures.ok) c.in_err-items.ensures.err)

pub returns-clause-ok : goal.returns-clause-ok
returns-clause-ok g c =
    LeadsTo-found (Fit g) (listed g.I.TextItem.tokens c.args.head.now) (Fit g) (Inside g) (λ all. all) c.args.bytes.now c.args.at c.in_ok-opened.opened c.in_ok-items.next c.in_ok-items.items.items
    (chain_opened g.I.TextItem.fits g.I.TextItem.tokens c.args.bytes.now c.args.head.now c.args.at c.in_ok-place.place c.in_ok-opened.opened c.requires.token c.in_ok-place.ensures.ok c.in_ok-opened.ensures.ok) c.in_ok-items.ensures.ok
