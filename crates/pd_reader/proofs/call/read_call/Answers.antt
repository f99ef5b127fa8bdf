use Rattle.std.proofs.Common.{◌<◌, length, refl, arith, subst, ℕ, [], ◌∷◌}
use Rattle.std.proofs.lemmas.Result.{err_from_is_err_and, IfOk-weaker, IfErr-weaker}
use Rattle.text_shapes.specs.Tokens.{is_space}
use Rattle.text_shapes.specs.Readers.{Stands, Falls, Found, Missed}
use Rattle.text_shapes.proofs.Words.{IsWord-token}
use Rattle.text_shapes.proofs.Arguments.{HasSome, ArgsSoFar, args_begun, args_whole, args_head_missing, arg_close_missing}
use Rattle.text_shapes.proofs.Slots.{left_after, slot_mark_missing, slot_missing, slot_more, slots_read}
use Rattle.pd_reader.proofs.call.read_call.Given.{Over}
use Rattle.pd_reader.proofs.call.read_call.Goals as goal

has_some : (g : Over) → HasSome g.A.Argument.is_of_kind
has_some g = record { some = g.A.Argument.some; some_fits = g.met.A.Argument.some_is_of_kind }

pub word-requires-clause-token : goal.word-requires-clause-token
word-requires-clause-token g c = IsWord-token c.args.head.now c.requires.word

pub returns-in_err-place-clause-err : goal.returns-in_err-place-clause-err
returns-in_err-place-clause-err g c =
    let p = err_from_is_err_and c.from_residual.result c.from_residual.ensures.1 in
    rw (p.1, p.2) (args_head_missing g.A.Argument.tokens g.A.Argument.is_of_kind (has_some g) c.args.bytes.now c.args.at c.args.head.now c.requires.word c.args.slots.now c.in_err-place.field-0.0 c.in_err-place.ensures.err)

pub loop-i-init : goal.loop-i-init
loop-i-init g c = record {
  left = refl;
  read = args_begun g.A.Argument.tokens g.A.Argument.is_of_kind (has_some g) c.args.bytes.now c.args.at c.args.head.now c.requires.word c.args.slots.now c.in_ok-place.place c.in_ok-place.ensures.ok;
}

pub returns-in_err-start-clause-err : goal.returns-in_err-start-clause-err
returns-in_err-start-clause-err g c =
    let p = err_from_is_err_and c.from_residual-in_err-start.result c.from_residual-in_err-start.ensures.1 in
    let falls = subst (λ (b : ℕ). Falls c.args.bytes.now c.loop-i.place (b ∷ []) c.in_err-start.field-0.0) c.separator.ensures.mark c.in_err-start.ensures.err in
    let lt : c.loop-i.i < length c.loop-i.slots = omega arith in
    rw (p.1, p.2) (slot_mark_missing g.A.Argument.tokens g.A.Argument.is_of_kind (has_some g) c.args.bytes.now c.args.at c.args.head.now c.requires.word c.loop-i.slots c.args.slots.now c.loop-i.i c.loop-i.place c.loop-i.invariant.read
    c.index-slots-i.result c.loop-i.invariant.left lt c.in_err-start.field-0.0 falls)

pub returns-in_err-argument-clause-err : goal.returns-in_err-argument-clause-err
returns-in_err-argument-clause-err g c =
    let p = err_from_is_err_and c.from_residual-in_err-argument.result c.from_residual-in_err-argument.ensures.1 in
    let stands = subst (λ (b : ℕ). Stands c.args.bytes.now c.loop-i.place (b ∷ []) c.in_ok-start.start) c.separator.ensures.mark c.in_ok-start.ensures.ok in
    let lt : c.loop-i.i < length c.loop-i.slots = omega arith in
    let missed = subst (λ k. Missed (g.A.Argument.is_of_kind k) g.A.Argument.tokens c.args.bytes.now c.in_ok-start.start c.in_err-argument.field-0.0) c.index-slots-i.is c.in_err-argument.ensures.err in
    rw (p.1, p.2) (slot_missing g.A.Argument.tokens g.A.Argument.is_of_kind (has_some g) c.args.bytes.now c.args.at c.args.head.now c.requires.word c.loop-i.slots c.args.slots.now c.loop-i.i c.loop-i.place c.loop-i.invariant.read
    c.index-slots-i.result c.loop-i.invariant.left lt c.in_ok-start.start c.in_err-argument.field-0.0 stands missed)

pub loop-i-preserved : goal.loop-i-preserved
loop-i-preserved g c =
    let stands = subst (λ (b : ℕ). Stands c.args.bytes.now c.loop-i.place (b ∷ []) c.in_ok-start.start) c.separator.ensures.mark c.in_ok-start.ensures.ok in
    let lt : c.loop-i.i < length c.loop-i.slots = omega arith in
    let found = subst (λ k. Found (g.A.Argument.is_of_kind k) g.A.Argument.tokens c.args.bytes.now c.in_ok-start.start c.in_ok-argument.argument c.in_ok-argument.after) c.index-slots-i.is c.in_ok-argument.ensures.ok in
    record {
      left = left_after c.loop-i.slots c.args.slots.now c.loop-i.i c.in_ok-argument.argument c.loop-i.invariant.left;
      read = slot_more g.A.Argument.tokens g.A.Argument.is_of_kind (has_some g) c.args.bytes.now c.args.at c.args.head.now c.requires.word c.loop-i.slots c.args.slots.now c.loop-i.i c.loop-i.place c.loop-i.invariant.read
          c.index-slots-i.result c.loop-i.invariant.left lt c.in_ok-start.start c.in_ok-argument.after c.in_ok-argument.argument stands found;
    }

pub mark-requires-2-clause-token : goal.mark-requires-2-clause-token
unfolding is_space
mark-requires-2-clause-token g c = refl

read_all : (g : Over) (c : goal.After-mark-2 g) → ArgsSoFar g.A.Argument.tokens g.A.Argument.is_of_kind c.args.bytes.now c.args.at c.args.head.now c.args.slots.now [] c.loop-i.slots c.loop-i.i c.loop-i.place
read_all g c = slots_read g.A.Argument.tokens g.A.Argument.is_of_kind (has_some g) c.args.bytes.now c.args.at c.args.head.now c.requires.word c.loop-i.slots c.args.slots.now c.loop-i.i c.loop-i.place c.loop-i.invariant.read (omega arith) (omega arith)

pub returns-clause-ok : goal.returns-clause-ok
returns-clause-ok g c = IfOk-weaker c.mark-2.result _ _ (λ next s. args_whole g.A.Argument.tokens g.A.Argument.is_of_kind (has_some g) c.args.bytes.now c.args.at c.args.head.now c.requires.word c.args.slots.now c.loop-i.slots c.loop-i.i c.loop-i.place next (read_all g c) s) c.mark-2.ensures.ok

pub returns-clause-err : goal.returns-clause-err
returns-clause-err g c = IfErr-weaker c.mark-2.result _ _ (λ p falls. arg_close_missing g.A.Argument.tokens g.A.Argument.is_of_kind (has_some g) c.args.bytes.now c.args.at c.args.head.now c.requires.word c.args.slots.now c.loop-i.slots c.loop-i.i c.loop-i.place p (read_all g c) falls) c.mark-2.ensures.err
