use Rattle.std.proofs.Common.{Err, ◌≡◌, ◌+◌, ◌*◌, ℕ, ℤ, pos, List, length, map, get_or, sym, subst, ap, ap₂, ◌∙◌, arith}
use Rattle.std.specs.List.{range_with_len}
use Rattle.pd_reader.specs.declared.item.Item.{Item}
use Rattle.inertia_cert.specs.SymmetricMatrices.{entry, square, IsEqualAcross}
use Rattle.planar_check.specs.declared.sign.Signed.{Signed}
use Rattle.planar_check.specs.Components.{least_labels}
use Rattle.planar_check.specs.Signs.{signed_crossings}
use Rattle.planar_check.specs.Framings.{FramedDiagram, IsFramed}
use Rattle.planar_check.proofs.LinkingEntries.{entry_is, entries_long, equal_across}
use Rattle.planar_check.proofs.linking.linking_matrix.Goals as goal
use Rattle.planar_check.specs.Tables.{entry_from, AreSignSums}

-- the sums are those of the framed diagram's crossings
sums_are : (framed : FramedDiagram) (items : List Item) (crossings : List Signed) (n : ℕ) (sums : List ℤ) → items ≡ framed.items → crossings ≡ signed_crossings items → AreSignSums n crossings sums →
    AreSignSums n (signed_crossings framed.items) sums
sums_are framed items crossings n sums same is are =
    let P : List Signed → Type 0 = λ list. AreSignSums n list sums in
    subst P (is ∙ ap signed_crossings same) are

-- there are as many framings as the matrix has rows
rows_are : (framed : FramedDiagram) (items : List Item) (n : ℕ) → IsFramed framed → items ≡ framed.items → n ≡ length (least_labels items) → n ≡ length framed.framings
rows_are framed items n kept same is = is ∙ (ap (λ (xs : List Item). length (least_labels xs)) same ∙ sym kept.count)

-- the entries, as they are read
listed : (framed : FramedDiagram) (framings sums read entries passed : List ℤ) → framings ≡ framed.framings → read ≡ sums → passed ≡ entries → entries ≡ map (entry_from framings read) (range_with_len 0 (length read))
    → passed ≡ map (entry_from framed.framings sums) (range_with_len 0 (length sums))
listed framed framings sums read entries passed f r p e = p ∙ (e ∙ ap₂ (λ fs ss. map (entry_from fs ss) (range_with_len 0 (length ss))) f r)

pub returns-in-Ok-clause-entries : goal.returns-in-Ok-clause-entries
returns-in-Ok-clause-entries c =
    let framed = c.args.framed.now in
    let n = c.components-size.result in
    let sums = c.in_ok-sums.sums.items in
    let is = rows_are framed c.planar.result.now n c.planar.ensures.framed c.planar.ensures.planar c.components-size.ensures.count in
    let are = sums_are framed c.planar-2.result.now c.crossings.result.now n sums c.planar-2.ensures.planar c.crossings.ensures.crossings.crossings_are c.in_ok-sums.ensures in
    let list = listed framed c.framings.result.now sums c.deref.result.now c.in_ok-entries.entries.items c.deref-2.result.now c.framings.ensures c.deref.ensures.value c.deref-2.ensures.value c.in_ok-entries.ensures.entries in
    let made = c.in-Ok.ensures.made in
    λ i j a b.
    ap (λ m. entry m i j) made
    ∙ (ap (λ (es : List ℤ). get_or es (i * n + j) (pos 0)) list
    ∙ entry_is framed n sums is are i j (omega (arith, a, ap (λ m. m.size) made)) (omega (arith, b, ap (λ m. m.size) made)))

pub unreachable-requires : goal.unreachable-requires
unreachable-requires c =
    let framed = c.args.framed.now in
    let n = c.components-size.result in
    let sums = c.in_ok-sums.sums.items in
    let is = rows_are framed c.planar.result.now n c.planar.ensures.framed c.planar.ensures.planar c.components-size.ensures.count in
    let are = sums_are framed c.planar-2.result.now c.crossings.result.now n sums c.planar-2.ensures.planar c.crossings.ensures.crossings.crossings_are c.in_ok-sums.ensures in
    let list = listed framed c.framings.result.now sums c.deref.result.now c.in_ok-entries.entries.items c.deref-2.result.now c.framings.ensures c.deref.ensures.value c.deref-2.ensures.value c.in_ok-entries.ensures.entries in
    ((c.in-Err-Size.ensures.size _ _).0 (ap Err c.in-Err-Size.field-0-is)).0 (ap length list ∙ entries_long framed n sums is are)

pub unreachable-requires-in-Err-NotSymmetric : goal.unreachable-requires-in-Err-NotSymmetric
unreachable-requires-in-Err-NotSymmetric c =
    let framed = c.args.framed.now in
    let n = c.components-size.result in
    let sums = c.in_ok-sums.sums.items in
    let is = rows_are framed c.planar.result.now n c.planar.ensures.framed c.planar.ensures.planar c.components-size.ensures.count in
    let are = sums_are framed c.planar-2.result.now c.crossings.result.now n sums c.planar-2.ensures.planar c.crossings.ensures.crossings.crossings_are c.in_ok-sums.ensures in
    let list = listed framed c.framings.result.now sums c.deref.result.now c.in_ok-entries.entries.items c.deref-2.result.now c.framings.ensures c.deref.ensures.value c.deref-2.ensures.value c.in_ok-entries.ensures.entries in
    let row = c.in-Err-NotSymmetric.field-0-0 in
    let column = c.in-Err-NotSymmetric.field-0-1 in
    let first = ((c.in-Err-NotSymmetric.ensures.not_symmetric row column).0 (ap Err c.in-Err-NotSymmetric.field-0-is)).1 in
    let P : List ℤ → Type 0 = λ es. IsEqualAcross (square n es) row column in
    first.unequal (subst P (sym list) (equal_across framed n sums is are row column first.row_in_range first.column_in_range))
