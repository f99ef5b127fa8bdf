-- Each place is written back as it was, and the two notes there agree.
use Rattle.std.proofs.Common.{◌≡◌, ◌<◌, ℕ, List, map, length, get_or, sym, ap, subst, ◌∙◌, arith, IfSome}
use Rattle.once_cell.specs.Once.{Agrees}
use Rattle.wenzl_table.specs.Marks.{Mark, said_of}
use Rattle.wenzl_table.specs.Tables.{cells_of}
use Rattle.wenzl_table.proofs.NotePlaces.{cells_said}
use Rattle.wenzl_table.proofs.ComparedNotes.{same_cell, same_again, agree_more, agree_all}
use Rattle.wenzl_table.proofs.notes.compare_each.Goals as goal

-- a note that is read is that of the list at the start
read_first : (ms start : List Mark) (i : ℕ) (m : Mark) → m ≡ get_or ms i m → ms ≡ start → m ≡ get_or start i m
read_first ms start i m is e = is ∙ ap (λ (xs : List Mark). get_or xs i m) e

cells_are : (ms os : List Mark) → cells_of (said_of ms) ≡ cells_of (said_of os) → map (λ m. m.cell) ms ≡ map (λ m. m.cell) os
cells_are ms os h = sym (cells_said ms) ∙ h ∙ cells_said os

pub compare-requires : goal.compare-requires
compare-requires c =
    let ms = c.args.mine.now.items in
    let os = c.args.others.now.items in
    let i = c.loop-at.at in
    let m = c.index_mut-in-loop-at.result.now in
    let o = c.index_mut.result.now in
    let b : i < length ms = omega (arith, c.args.mine.now.ok.0) in
    ap (λ (x : Mark). x.cell) c.again-theirs.ensures.1
    ∙ same_cell ms os i m o (cells_are ms os c.requires) b (read_first c.loop-at.mine.items ms i m c.index_mut-in-loop-at.ensures.value c.loop-at.invariant.mine) (read_first c.loop-at.others.items os i o c.index_mut.ensures.value c.loop-at.invariant.others)

pub loop-at-preserved : goal.loop-at-preserved
loop-at-preserved c =
    let ms = c.args.mine.now.items in
    let os = c.args.others.now.items in
    let i = c.loop-at.at in
    let m = c.index_mut-in-loop-at.result.now in
    let o = c.index_mut.result.now in
    let b : i < length ms = omega (arith, c.args.mine.now.ok.0) in
    record {
      mine = same_again c.loop-at.mine.items i m c.compare.new.self c.index_mut-in-loop-at.ensures.value c.compare.ensures.0 ∙ c.loop-at.invariant.mine;
      others = same_again c.loop-at.others.items i o c.again-theirs.new.self c.index_mut.ensures.value c.again-theirs.ensures.0 ∙ c.loop-at.invariant.others;
      same = agree_more ms os i m o (cells_are ms os c.requires) b (read_first c.loop-at.mine.items ms i m c.index_mut-in-loop-at.ensures.value c.loop-at.invariant.mine)
          (read_first c.loop-at.others.items os i o c.index_mut.ensures.value c.loop-at.invariant.others)
          (subst (λ (x : Mark). IfSome x.known (Agrees m.known)) c.again-theirs.ensures.1 c.compare.ensures.1) c.loop-at.invariant.same;
    }

pub returns-clause-same : goal.returns-clause-same
returns-clause-same c = agree_all c.args.mine.now.items c.args.others.now.items c.loop-at.at (omega (arith, c.args.mine.now.ok.0)) c.loop-at.invariant.same
