-- The closure of a braid as a diagram (Alexander; the order of labels is this project's own). The strands run upward, and the top of
-- each position is joined with its bottom, round the right of the braid.
--
--     touches e p                     the entry e crosses the strand at position p: p is its size, or one more
--     is_touched word p               some entry of the word does
--     new_label later p unused        the label of position p behind an entry that touches it: its beginning label, which is p, where no
--                                     later entry touches it, else the next unused one
--     unused_after later p unused     the next unused label then
--     entry_item e x y left right     the crossing of an entry: x and y are the labels below it, left and right those above
--     relabelled labels i left right  the labels of the positions, with new ones at i and i+1
--     crossings labels unused word    the crossings of the entries, where the positions from 1 on have these labels
--     loops word p count              a loop for each position that no entry touches, of so many from p on
--     closed braid                    the diagram of the closure: its crossings, then its loops
--
--     left   right       left   right
--         \ /                \ /
--          /                  \          the crossing on the left, X[y,right,left,x], is that of a positive entry, whose strand
--         / \                / \         from x lies above; on the right X[x,y,right,left], of a negative one
--        x   y              x   y
--
-- BR[2,{1,1}] begins with the labels 1 and 2. Its first entry gives the positions the labels 3 and 4, its second one their beginning
-- labels: X[2,4,3,1], X[4,2,1,3].
use Rattle.std.specs.Prelude.{ℕ, zero, suc, ◌+◌, ◌-◌, ◌==◌, ◌||◌, Bool, false, if◌then◌else◌, ℤ, pos, negsuc, List, [], ◌∷◌, ◌++◌, set, slice_index}
use Rattle.std.specs.Int.RustNames.{unsigned_abs}
use Rattle.std.specs.List.{range_with_len}
use Rattle.pd_reader.specs.declared.item.Item.{Item}
use Rattle.pd_reader.specs.declared.item.Item.TheVariants.{X, Loop}
use Rattle.braid_trace.specs.Braids.{BraidWord}

-- The entry crosses the strands at its size and one more.
abbrev pub touches : ℤ → ℕ → Bool
touches e p = p == unsigned_abs e || p == unsigned_abs e + 1

abbrev pub is_touched : List ℤ → ℕ → Bool
is_touched [] p = false
is_touched (e ∷ word) p = touches e p || is_touched word p

-- A position that no later entry touches has its beginning label again.
abbrev pub new_label : List ℤ → ℕ → ℕ → ℕ
new_label later p unused = if is_touched later p then unused else p

abbrev pub unused_after : List ℤ → ℕ → ℕ → ℕ
unused_after later p unused = if is_touched later p then unused + 1 else unused

-- Of a positive entry the strand from below on the left lies above.
abbrev pub entry_item : ℤ → ℕ → ℕ → ℕ → ℕ → Item
entry_item (pos n) x y left right = X (y ∷ right ∷ left ∷ x ∷ [])
entry_item (negsuc n) x y left right = X (x ∷ y ∷ right ∷ left ∷ [])

-- Positions count from 1.
abbrev pub relabelled : List ℕ → ℕ → ℕ → ℕ → List ℕ
relabelled labels i left right = set (set labels (i - 1) left) i right

abbrev pub crossings : List ℕ → ℕ → List ℤ → List Item
crossings labels unused [] = []
crossings labels unused (e ∷ word) =
    let i = unsigned_abs e in
    let left = new_label word i unused in
    let next = unused_after word i unused in
    let right = new_label word (i + 1) next in
    entry_item e (slice_index labels (i - 1)) (slice_index labels i) left right
    ∷ crossings (relabelled labels i left right) (unused_after word (i + 1) next) word

abbrev pub loops : List ℤ → ℕ → ℕ → List Item
loops word p zero = []
loops word p (suc count) = if is_touched word p then loops word (p + 1) count else Loop p ∷ loops word (p + 1) count

-- Each position p begins with the label p.
abbrev pub closed : BraidWord → List Item
closed braid = crossings (range_with_len 1 braid.strands) (braid.strands + 1) braid.word ++ loops braid.word 1 braid.strands
