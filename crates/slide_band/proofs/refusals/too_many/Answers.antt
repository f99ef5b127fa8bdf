use Rattle.std.proofs.Common.{◌≡◌, cond, Bool, Some, None, length, unsigned_abs, sym, ap, ◌∙◌, arith}
use Rattle.std.proofs.lemmas.Bool.{lt-ltb, le-ltb}
use Rattle.std.proofs.lemmas.Int.{ints}
use Rattle.slide_laws.specs.declared.fault.SlideFault.TheVariants.{TooMany}
use Rattle.slide_laws.specs.Slides.{items_after}
use Rattle.slide_band.proofs.Early.{directed_long, items_told}
use Rattle.slide_band.proofs.refusals.too_many.Goals as goal

pub added_crossings-requires : goal.added_crossings-requires
added_crossings-requires c =
    let few = c.requires.diagram.few in
    let long = ap length c.requires.pieces in
    omega (arith, few, long, directed_long c.args.framed.now.items)

pub overflow_add-items : goal.overflow_add-items
overflow_add-items c =
    let few = c.requires.diagram.few in
    let long = ap length c.requires.pieces in
    let added = c.added_crossings.ensures.few in
    omega (arith, few, long, directed_long c.args.framed.now.items, added)

pub overflow_add-items-2 : goal.overflow_add-items-2
overflow_add-items-2 c =
    let few = c.requires.diagram.few in
    let long = ap length c.requires.pieces in
    let added = c.added_crossings.ensures.few in
    let small = c.excess.ensures.small in
    let curls : c.unsigned_abs-curls.result ≡ unsigned_abs c.excess.result = (let v = c.unsigned_abs-curls.ensures.value in omega (arith, ints, v, small)) in
    omega (arith, few, long, directed_long c.args.framed.now.items, added, small, curls)

pub returns-then-items-curls : goal.returns-then-items-curls
returns-then-items-curls c =
    let small = c.excess.ensures.small in
    let curls : c.unsigned_abs-curls.result ≡ unsigned_abs c.excess.result = (let v = c.unsigned_abs-curls.ensures.value in omega (arith, ints, v, small)) in
    let same = items_told c.args.framed.now c.args.component c.args.pieces.now c.added_crossings.result c.unsigned_abs-curls.result c.requires.pieces c.added_crossings.ensures.added (curls ∙ ap unsigned_abs c.excess.ensures.excess) in
    let over = c.if-items-curls.true in
    let most = c.from.ensures in
    sym (ap (λ (b : Bool). cond b (Some (TooMany 256)) None) (lt-ltb 256 (items_after c.args.framed.now c.args.component) (omega (arith, same, over, most))))

pub returns-else-items-curls : goal.returns-else-items-curls
returns-else-items-curls c =
    let small = c.excess.ensures.small in
    let curls : c.unsigned_abs-curls.result ≡ unsigned_abs c.excess.result = (let v = c.unsigned_abs-curls.ensures.value in omega (arith, ints, v, small)) in
    let same = items_told c.args.framed.now c.args.component c.args.pieces.now c.added_crossings.result c.unsigned_abs-curls.result c.requires.pieces c.added_crossings.ensures.added (curls ∙ ap unsigned_abs c.excess.ensures.excess) in
    let under = c.if-items-curls.false in
    let most = c.from.ensures in
    sym (ap (λ (b : Bool). cond b (Some (TooMany 256)) None) (le-ltb 256 (items_after c.args.framed.now c.args.component) (omega (arith, same, under, most))))
