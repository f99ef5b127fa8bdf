use Rattle.std.proofs.Common.{◌≡◌, ◌<◌, ◌+◌, ◌-◌, ◌++◌, pos, List, length, get_or, set, drop, sym, ap, ◌∙◌, arith, refl, rules}
use Rattle.std.specs.Int.RustNames.{unsigned_abs}
use Rattle.std.specs.List.{range_with_len}
use Rattle.std.proofs.lemmas.Grind.{get_or_default_zero}
use Rattle.std.proofs.lemmas.List.FromFn.{length-range_with_len}
use Rattle.std.proofs.lemmas.Int.{to_z-of_z}
use Rattle.std.proofs.Math.ListN.{length-set}
use Rattle.pd_reader.specs.declared.item.Item.{Item}
use mir.Syntax.{w32}
use mir.Val.{SFits}
use Rattle.braid_closures.specs.Closures.{crossings, entry_item, new_label, unused_after}
use Rattle.braid_closures.proofs.Words.{tail_is, one_crossing, no_more, crossed, one_used}
use Rattle.braid_closures.proofs.closures.crossings.Goals as goal

pub loop-at-init : goal.loop-at-init
loop-at-init c =
    let word = c.args.word.now in
    record {
      all =
          ap (λ (xs : List Item). xs ++ crossings c.in_ok-labels.labels.items (c.args.strands + 1) word) c.new-items.ensures.items
          ∙ ap (λ ls. crossings ls (c.args.strands + 1) word) c.in_ok-labels.ensures;
      positions = ap length c.in_ok-labels.ensures ∙ length-range_with_len 1 c.args.strands;
      few = omega arith;
    }

pub index-requires : goal.index-requires
index-requires c =
    let e = get_or c.args.word.now c.loop-at.at (pos 0) in
    let fits : SFits w32 e = search rules in
    let size : c.unsigned_abs-position.result ≡ unsigned_abs e = c.unsigned_abs-position.ensures.value ∙ ap unsigned_abs (to_z-of_z w32 e fits) in
    let cross = crossed (record { strands = c.args.strands; word = c.args.word.now }) c.args.word.now c.loop-at.at c.unsigned_abs-position.result refl c.requires c.loop-at-test.true size in
    let low = cross.0 in
    let high = cross.1 in
    omega (arith, low, high)

pub loop-at-preserved : goal.loop-at-preserved
loop-at-preserved c =
    let word = c.args.word.now in
    let at = c.loop-at.at in
    let e = get_or word at (pos 0) in
    let fits : SFits w32 e = search rules in
    let same = to_z-of_z w32 e fits in
    let i = c.unsigned_abs-position.result in
    let size : i ≡ unsigned_abs e = c.unsigned_abs-position.ensures.value ∙ ap unsigned_abs same in
    let labels = c.loop-at.labels.items in
    let cross = crossed (record { strands = c.args.strands; word = c.args.word.now }) word at i refl c.requires c.loop-at-test.true size in
    let low = cross.0 in
    let high = cross.1 in
    let x_in : i - 1 < length labels = omega (arith, low, high) in
    let y_in : i < length labels = omega (arith, low, high) in
    let whole = crossings (range_with_len 1 c.args.strands) (c.args.strands + 1) word in
    let left = c.new_label-left.result in
    let right = c.new_label-right.result in
    let next = c.new_label-left.new.unused in
    let last = c.new_label-right.new.unused in
    let one = one_used (drop (at + 1) word) i c.loop-at.unused in
    let two = one_used (drop (at + 1) word) (i + 1) next in
    let tail = tail_is word (at + 1) in
    let en = c.new_label-left.ensures.unused ∙ ap (λ w. unused_after w i c.loop-at.unused) tail in
    let eu = c.new_label-right.ensures.unused ∙ ap (λ w. unused_after w (i + 1) next) tail in
    let el = c.new_label-left.ensures.label ∙ ap (λ w. new_label w i c.loop-at.unused) tail in
    let er = c.new_label-right.ensures.label ∙ ap (λ w. new_label w (i + 1) next) tail in
    let few = c.loop-at.invariant.few in
    record {
      all =
          ap (λ (xs : List Item). xs ++ crossings (set (set labels (i - 1) left) i right) last (drop (at + 1) word)) c.in_ok-push.ensures.items
          ∙ one_crossing c.loop-at.items.items whole labels c.loop-at.unused word at i c.index.result.now c.index-in-loop-at.result.now left right next last c.entry_item.result c.loop-at-test.true c.loop-at.invariant.all size
          (c.index.ensures ∙ get_or_default_zero labels (i - 1) c.index.result.now x_in) (c.index-in-loop-at.ensures ∙ get_or_default_zero labels i c.index-in-loop-at.result.now y_in) el en er eu
          (c.entry_item.ensures ∙ ap (λ z. entry_item z c.index.result.now c.index-in-loop-at.result.now left right) same);
      positions = length-set (set labels (i - 1) left) i right ∙ length-set labels (i - 1) left ∙ c.loop-at.invariant.positions;
      few = omega (arith, one, two, en, eu, few);
    }

pub returns : goal.returns
returns c =
    sym (no_more c.loop-at.items.items c.loop-at.labels.items c.loop-at.unused c.args.word.now c.loop-at.at (omega arith))
    ∙ c.loop-at.invariant.all
