use Rattle.std.proofs.Common.{◌+◌, sym, subst, ap, ◌∙◌, append_assoc, append-nil, List, ℕ, [], ◌∷◌, ◌++◌}
use Rattle.std.specs.List.{AllByRecursion}
use Rattle.std.proofs.lemmas.Result.{err_from_is_err_and}
use Rattle.text_shapes.specs.Shapes.{items_behind}
use Rattle.text_shapes.specs.Readers.{Found}
use Rattle.text_shapes.proofs.Elements.{All-push}
use Rattle.text_shapes.proofs.Closing.{not_there}
use Rattle.text_shapes.proofs.Chain.{LeadsTo-missed, LeadsTo-found}
use Rattle.text_shapes.proofs.Lists.{chain_skips, chain_turn, chain_behind_missed, chain_closed, chain_nothing}
use Rattle.pd_reader.proofs.list.read_behind.Given.{Over}
use Rattle.pd_reader.proofs.list.read_behind.Goals as goal

abbrev Fit : (g : Over) → List g.row.I.Denot → Type 0
Fit g = AllByRecursion g.I.TextItem.fits

abbrev Behind : (g : Over) → ℕ → List g.row.I.Denot → List (List ℕ)
Behind g close = items_behind close g.I.TextItem.tokens

pub loop-at-init : goal.loop-at-init
loop-at-init g c = record {
  read = [];
  grown = sym (append-nil c.args.items.now.items);
  leads = chain_skips (Fit g) (Behind g c.args.close) c.args.bytes.now c.args.at c.skip-next.result c.skip-next.ensures;
  fit = tt;
  stop = (c.skip-next.ensures.within, c.skip-next.ensures.stops);
}

pub returns-in_err-item-clause-err : goal.returns-in_err-item-clause-err
returns-in_err-item-clause-err g c =
    let p = err_from_is_err_and c.from_residual.result c.from_residual.ensures.1 in
    let here = c.stands.ensures.0 c.loop-at-test.true in
    rw (p.1, p.2) (LeadsTo-missed (Fit g) (Behind g c.args.close) (Fit g) (Behind g c.args.close) (λ rest. c.loop-at.invariant.read ++ rest) c.args.bytes.now c.args.at c.loop-at.next c.in_err-item.field-0.0 c.loop-at.invariant.leads
    (chain_behind_missed c.args.close c.requires.closing g.I.TextItem.fits g.I.TextItem.tokens c.args.bytes.now c.loop-at.next c.in_err-item.field-0.0 c.loop-at.invariant.stop here.0 here.1 c.in_err-item.ensures.err))

pub returns-in_err-item-clause-kept : goal.returns-in_err-item-clause-kept
returns-in_err-item-clause-kept g c = (c.loop-at.invariant.read, c.loop-at.invariant.grown, c.loop-at.invariant.fit)

pub returns-in_err-push-clause-kept : goal.returns-in_err-push-clause-kept
returns-in_err-push-clause-kept g c = (c.loop-at.invariant.read, c.in_err-push.ensures.items ∙ c.loop-at.invariant.grown, c.loop-at.invariant.fit)

pub loop-at-preserved : goal.loop-at-preserved
loop-at-preserved g c =
    let here = c.stands.ensures.0 c.loop-at-test.true in
    record {
      read = c.loop-at.invariant.read ++ c.in_ok-item.item ∷ [];
      grown = c.in_ok-push.ensures.items ∙ (ap (λ xs. xs ++ c.in_ok-item.item ∷ []) c.loop-at.invariant.grown ∙ append_assoc c.args.items.now.items c.loop-at.invariant.read (c.in_ok-item.item ∷ []));
      leads = chain_turn c.args.close c.requires.closing g.I.TextItem.fits g.I.TextItem.tokens c.args.bytes.now (Behind g c.args.close) c.args.at c.loop-at.invariant.read c.loop-at.next c.in_ok-item.after c.skip-next-in-loop-at.result c.in_ok-item.item
          c.loop-at.invariant.leads c.loop-at.invariant.stop here.0 here.1 c.in_ok-item.ensures.ok c.skip-next-in-loop-at.ensures;
      fit = All-push g.I.TextItem.fits c.loop-at.invariant.read c.in_ok-item.item c.loop-at.invariant.fit c.in_ok-item.ensures.ok.fits_shape;
      stop = (c.skip-next-in-loop-at.ensures.within, c.skip-next-in-loop-at.ensures.stops);
    }

pub returns-then-stands-clause-ok : goal.returns-then-stands-clause-ok
returns-then-stands-clause-ok g c =
    let here = c.stands-2.ensures.0 c.if-stands.true in
    let found = LeadsTo-found (Fit g) (Behind g c.args.close) (Fit g) (Behind g c.args.close) (λ rest. c.loop-at.invariant.read ++ rest) c.args.bytes.now c.args.at c.loop-at.next (c.loop-at.next + 1) [] c.loop-at.invariant.leads
    (chain_closed c.args.close c.requires.closing g.I.TextItem.fits g.I.TextItem.tokens c.args.bytes.now c.loop-at.next c.loop-at.invariant.stop here.0 here.1) in (
      c.loop-at.invariant.read,
      c.loop-at.invariant.grown,
      subst (λ xs. Found (Fit g) (Behind g c.args.close) c.args.bytes.now c.args.at xs (c.loop-at.next + 1)) (append-nil c.loop-at.invariant.read) found,
    )

pub returns-then-stands-clause-kept : goal.returns-then-stands-clause-kept
returns-then-stands-clause-kept g c = (c.loop-at.invariant.read, c.loop-at.invariant.grown, c.loop-at.invariant.fit)

pub returns-else-stands-clause-kept : goal.returns-else-stands-clause-kept
returns-else-stands-clause-kept g c = (c.loop-at.invariant.read, c.loop-at.invariant.grown, c.loop-at.invariant.fit)

pub returns-else-stands-clause-err : goal.returns-else-stands-clause-err
returns-else-stands-clause-err g c =
    LeadsTo-missed (Fit g) (Behind g c.args.close) (Fit g) (Behind g c.args.close) (λ rest. c.loop-at.invariant.read ++ rest) c.args.bytes.now c.args.at c.loop-at.next c.loop-at.next c.loop-at.invariant.leads
    (chain_nothing c.args.close c.requires.closing g.I.TextItem.fits g.I.TextItem.tokens c.args.bytes.now c.loop-at.next c.loop-at.invariant.stop
    (not_there c.stands.result c.args.bytes.now c.loop-at.next 44 c.loop-at-test.false c.stands.ensures.1)
    (not_there c.stands-2.result c.args.bytes.now c.loop-at.next c.args.close c.if-stands.false c.stands-2.ensures.1))
