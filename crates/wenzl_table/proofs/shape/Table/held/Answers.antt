-- The call on the cell writes one note anew: it knows what the cell holds, and the others are as they were.
use Rattle.std.proofs.Common.{◌≡◌, ℕ, ◌-◌, ◌<◌, ◌≤◌, ◌∙◌, List, map, set, length, sym, ap, subst, arith}
use Rattle.std.specs.declared.alloc.Global.{Global}
use Rattle.std.proofs.lemmas.List.{length-map}
use Rattle.std.proofs.lemmas.Result.{MatchResult-weaker}
use Rattle.once_cell.specs.Once.{cell_name}
use Rattle.wenzl_table.specs.Tables.{Table, Notes, IsOf, cells_of, Keeps}
use Rattle.wenzl_table.specs.Marks.{Mark, said_of}
use Rattle.wenzl_table.proofs.NotePlaces.{cells_said, length_of, same_place, keeps_places, lasts_by, keeps, known_now}
use Rattle.wenzl_table.proofs.shape.Table.held.Goals as goal

-- the notes are of the cells, and reach to this one
same : (ms : List Mark) (cs : List (Global × ℕ)) (table : Table) (notes : Notes) → said_of ms ≡ notes → map cell_name cs ≡ table.cells → IsOf notes table → map (λ m. m.cell) ms ≡ map cell_name cs
same ms cs table notes view cells of = sym (cells_said ms) ∙ ap (λ (xs : Notes). cells_of xs) view ∙ of ∙ sym cells

within : (cs : List (Global × ℕ)) (n top own : ℕ) → 2 ≤ n → n ≤ top → own ≡ top → length cs ≡ own - 1 → n - 2 < length cs
within cs n top own low high e sized = omega (arith, low, high, e, sized)

noted : (ms : List Mark) (cs : List (Global × ℕ)) (k : ℕ) → map (λ m. m.cell) ms ≡ map cell_name cs → k < length cs → k < length ms
noted ms cs k e b = let l = length_of ms (map cell_name cs) e in let j = length-map cs cell_name in omega (arith, l, j, b)

pub get_or_try_init_as-requires-clause-cell : goal.get_or_try_init_as-requires-clause-cell
get_or_try_init_as-requires-clause-cell c =
    let ms = c.notes.inside.list.items in
    let cs = c.self.inside.cells.items in
    let n = c.args.inverses.colour in
    same_place ms cs (n - 2) c.index_mut-note.result.now c.index-cell.result.now
    (same ms cs c.args.self.now c.args.notes.now c.notes.view_is (ap (λ (t : Table). t.cells) c.self.view_is) c.requires.of)
    (within cs n c.args.self.now.top c.self.inside.top c.requires.low c.requires.high (ap (λ (t : Table). t.top) c.self.view_is) c.self.invariant.sized)
    c.index_mut-note.ensures.value c.index-cell.ensures

pub returns-clause-of : goal.returns-clause-of
returns-clause-of c =
    let ms = c.notes.inside.list.items in
    let at = c.args.inverses.colour - 2 in
    cells_said (set ms at c.get_or_try_init_as.new.note)
    ∙ keeps_places ms at c.index_mut-note.result.now c.get_or_try_init_as.new.note c.index_mut-note.ensures.value c.get_or_try_init_as.ensures.cell
    ∙ sym (cells_said ms) ∙ ap (λ (xs : Notes). cells_of xs) c.notes.view_is ∙ c.requires.of

pub returns-clause-kept : goal.returns-clause-kept
returns-clause-kept c =
    let ms = c.notes.inside.list.items in
    let cs = c.self.inside.cells.items in
    let n = c.args.inverses.colour in
    let x = c.get_or_try_init_as.new.note in
    let old = c.index_mut-note.result.now in
    let e = same ms cs c.args.self.now c.args.notes.now c.notes.view_is (ap (λ (t : Table). t.cells) c.self.view_is) c.requires.of in
    let b = within cs n c.args.self.now.top c.self.inside.top c.requires.low c.requires.high (ap (λ (t : Table). t.top) c.self.view_is) c.self.invariant.sized in
    subst (λ (xs : Notes). Keeps xs (said_of (set ms (n - 2) x))) c.notes.view_is
    (keeps ms (n - 2) old x (noted ms cs (n - 2) e b) c.index_mut-note.ensures.value
    (lasts_by c.get_or_try_init_as.result (λ held. held.now) old.known x.known c.get_or_try_init_as.ensures.value))

pub returns-clause-known : goal.returns-clause-known
returns-clause-known c =
    let ms = c.notes.inside.list.items in
    let cs = c.self.inside.cells.items in
    let n = c.args.inverses.colour in
    let e = same ms cs c.args.self.now c.args.notes.now c.notes.view_is (ap (λ (t : Table). t.cells) c.self.view_is) c.requires.of in
    let b = within cs n c.args.self.now.top c.self.inside.top c.requires.low c.requires.high (ap (λ (t : Table). t.top) c.self.view_is) c.self.invariant.sized in
    MatchResult-weaker c.get_or_try_init_as.result c.get_or_try_init_as.ensures.value
    (λ held p. known_now ms n c.get_or_try_init_as.new.note (noted ms cs (n - 2) e b) ∙ p.0)
    (λ _ _. tt)
