-- Each turn takes the next admissible colouring, with its own number.
use Rattle.std.proofs.Common.{◌≡◌, inl, inr, ◌+◌, ◌<◌, pos, ◌+ℤ◌, [], length, get_or, drop, take_all, refl, sym, ap, ap₂, ◌∙◌, arith, ⊎_elim}
use Rattle.std.proofs.lemmas.List.{get_or-map, length-map, drop_more}
use Rattle.ring_identities.specs.Residues.{residue}
use Rattle.coloured_values.specs.Surgery.{sum_over}
use Rattle.kirby_terms.proofs.Sums.{no_sum, sum_more}
use Rattle.tetra_sum.specs.Lists.{lists}
use Rattle.tetra_sum.specs.Refusals.{colouring_refusal}
use Rattle.tetra_sum.specs.Sums.{weight}
use Rattle.tetra_sum.proofs.KeptNotes.{keeps_itself, keeps_twice}
use Rattle.tetra_sum.proofs.Walks.{unnumbered, passed_one, stopped_at}
use Rattle.tetra_sum.proofs.WalkSteps.{number, walked, walk_is, sum_is, listed_at, low_colours, small_power, own_number, ready_at}
use Rattle.tetra_sum.proofs.sum.walk.Goals as goal

pub loop-colours-init : goal.loop-colours-init
loop-colours-init c =
    let p = c.args.table.now.params in
    let vs = c.args.tetra.now in
    let low = p.meets.modulus.0 in
    record {
      of = c.requires.of;
      kept = keeps_itself c.args.notes.now;
      stores = c.in_ok-stores.ensures p;
      value = no_sum p.modulus (weight p vs) (omega (arith, low));
      below = omega (arith, low);
      left = walk_is p vs (lists c.args.list.now) c.requires.list;
    }

pub number_of-number-requires-clause-few : goal.number_of-number-requires-clause-few
number_of-number-requires-clause-few c =
    let p = c.args.table.now.params in
    let vs = c.args.tetra.now in
    let i = c.loop-colours.colours-index in
    let below : i < length (lists c.args.list.now) = (let count = length-map c.args.list.now (λ v. v.items) in omega (arith, count, c.loop-colours-test.true)) in
    let item = get_or-map (λ v. v.items) c.args.list.now i c.colours-item.result [] c.loop-colours-test.true ∙ ap (λ v. v.items) (sym c.colours-item.is) in
    let listed = listed_at p vs (lists c.args.list.now) i c.requires.list below in
    low_colours p vs (get_or (lists c.args.list.now) i []) listed c.level.result c.deref.result.now (c.level.ensures ∙ ap (λ q. q.level) c.params-params.ensures) (c.deref.ensures.value ∙ sym item)

pub number_of-number-requires-clause-small : goal.number_of-number-requires-clause-small
number_of-number-requires-clause-small c =
    let p = c.args.table.now.params in
    let vs = c.args.tetra.now in
    let i = c.loop-colours.colours-index in
    let below : i < length (lists c.args.list.now) = (let count = length-map c.args.list.now (λ v. v.items) in omega (arith, count, c.loop-colours-test.true)) in
    let item = get_or-map (λ v. v.items) c.args.list.now i c.colours-item.result [] c.loop-colours-test.true ∙ ap (λ v. v.items) (sym c.colours-item.is) in
    let listed = listed_at p vs (lists c.args.list.now) i c.requires.list below in
    small_power p vs (get_or (lists c.args.list.now) i []) listed c.level.result c.deref.result.now (c.level.ensures ∙ ap (λ q. q.level) c.params-params.ensures) (c.deref.ensures.value ∙ sym item)
    c.requires.few

pub weight-requires-clause-ready : goal.weight-requires-clause-ready
weight-requires-clause-ready c =
    let p = c.args.table.now.params in
    let vs = c.args.tetra.now in
    let i = c.loop-colours.colours-index in
    let below : i < length (lists c.args.list.now) = (let count = length-map c.args.list.now (λ v. v.items) in omega (arith, count, c.loop-colours-test.true)) in
    let item = get_or-map (λ v. v.items) c.args.list.now i c.colours-item.result [] c.loop-colours-test.true ∙ ap (λ v. v.items) (sym c.colours-item.is) in
    let listed = listed_at p vs (lists c.args.list.now) i c.requires.list below in
    ready_at p vs c.args.table.now refl (get_or (lists c.args.list.now) i []) listed c.requires.top c.requires.projectors c.deref-in-loop-colours.result.now (c.deref-in-loop-colours.ensures.value ∙ sym item)

pub returns-in-Err-clause-refused : goal.returns-in-Err-clause-refused
returns-in-Err-clause-refused c =
    let p = c.args.table.now.params in
    let vs = c.args.tetra.now in
    let i = c.loop-colours.colours-index in
    let below : i < length (lists c.args.list.now) = (let count = length-map c.args.list.now (λ v. v.items) in omega (arith, count, c.loop-colours-test.true)) in
    let item = get_or-map (λ v. v.items) c.args.list.now i c.colours-item.result [] c.loop-colours-test.true ∙ ap (λ v. v.items) (sym c.colours-item.is) in
    let x = get_or (lists c.args.list.now) i [] in
    let listed = listed_at p vs (lists c.args.list.now) i c.requires.list below in
    let own = own_number p vs x listed c.level.result c.deref.result.now (c.level.ensures ∙ ap (λ q. q.level) c.params-params.ensures) (c.deref.ensures.value ∙ sym item) c.number_of-number.result c.number_of-number.ensures in
    let same = ap₂ (colouring_refusal p vs) own (c.deref-in-loop-colours.ensures.value ∙ sym item) in
    ⊎_elim inl
    (λ e. inr
    (c.loop-colours.invariant.left
    ∙ ap (walked p vs) (drop_more (lists c.args.list.now) i [] below)
    ∙ stopped_at (λ _ colours. colouring_refusal p vs (number p vs colours) colours) 0 x (drop (i + 1) (lists c.args.list.now)) c.in-Err.fault (sym same ∙ e)))
    c.in-Err.ensures.refused

pub loop-colours-preserved : goal.loop-colours-preserved
loop-colours-preserved c =
    let p = c.args.table.now.params in
    let vs = c.args.tetra.now in
    let i = c.loop-colours.colours-index in
    let low = p.meets.modulus.0 in
    let below : i < length (lists c.args.list.now) = (let count = length-map c.args.list.now (λ v. v.items) in omega (arith, count, c.loop-colours-test.true)) in
    let item = get_or-map (λ v. v.items) c.args.list.now i c.colours-item.result [] c.loop-colours-test.true ∙ ap (λ v. v.items) (sym c.colours-item.is) in
    let x = get_or (lists c.args.list.now) i [] in
    let listed = listed_at p vs (lists c.args.list.now) i c.requires.list below in
    let own = own_number p vs x listed c.level.result c.deref.result.now (c.level.ensures ∙ ap (λ q. q.level) c.params-params.ensures) (c.deref.ensures.value ∙ sym item) c.number_of-number.result c.number_of-number.ensures in
    let seen = c.deref-in-loop-colours.ensures.value ∙ sym item in
    let same = ap₂ (colouring_refusal p vs) own seen in
    let ring_is : c.ring.result.now ≡ p.modulus = c.ring.ensures ∙ ap (λ q. q.modulus) c.params-params.ensures in
    record {
      of = c.weight.ensures.of;
      kept = keeps_twice c.args.notes.now c.loop-colours.notes c.weight.new.notes c.loop-colours.invariant.kept c.weight.ensures.kept;
      stores = c.in-Ok.ensures.stores;
      value =
          sum_more p.modulus (weight p vs) (lists c.args.list.now) i [] c.loop-colours.sum c.in-Ok.weight c.add-sum.result (omega (arith, low)) below c.loop-colours.invariant.value
          (c.in-Ok.ensures.value ∙ ap (λ list. residue p.modulus (weight p vs list)) seen) (c.add-sum.ensures.sum ∙ ap (λ m. residue m (pos c.loop-colours.sum +ℤ pos c.in-Ok.weight)) ring_is);
      below = omega (arith, c.add-sum.ensures.below, ring_is);
      left =
          c.loop-colours.invariant.left
          ∙ ap (walked p vs) (drop_more (lists c.args.list.now) i [] below)
          ∙ passed_one (λ _ colours. colouring_refusal p vs (number p vs colours) colours) 0 x (drop (i + 1) (lists c.args.list.now)) (sym same ∙ c.in-Ok.ensures.none)
          ∙ unnumbered (λ colours. colouring_refusal p vs (number p vs colours) colours) 1 0 (drop (i + 1) (lists c.args.list.now));
    }

pub returns-clause-sum : goal.returns-clause-sum
returns-clause-sum c =
    let p = c.args.table.now.params in
    let vs = c.args.tetra.now in
    let i = c.loop-colours.colours-index in
    let count = length-map c.args.list.now (λ v. v.items) in
    c.loop-colours.invariant.value
    ∙ ap (λ xs. residue p.modulus (sum_over (weight p vs) xs)) (take_all i (lists c.args.list.now) (omega (arith, count, c.loop-colours-test.false)))
    ∙ sum_is p vs (lists c.args.list.now) c.requires.list
