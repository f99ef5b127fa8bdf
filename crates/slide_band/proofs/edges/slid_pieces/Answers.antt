use Rattle.std.proofs.Common.{◌≡◌, ℕ, ◌+◌, Bool, List, length, ap, ap₂, subst, ◌∙◌}
use Rattle.std.specs.Result.{IfOk}
use Rattle.slide_strands.specs.declared.strand.Piece.{Piece}
use Rattle.slide_strands.specs.Doubling.{doubled, banded}
use Rattle.slide_band.specs.Copies.{copied_label, slide_with}
use Rattle.slide_band.proofs.Steps.{slid_told}
use Rattle.slide_band.proofs.edges.slid_pieces.Goals as goal

pub returns : goal.returns
returns c =
    let a = c.args in
    let names = c.in_ok-names.names.items in
    let first = a.top + 1 in
    let copy = c.copied-copy.ensures ∙ ap (λ (ns : List ℕ). copied_label ns first a.edges.along) c.deref-2.ensures.value in
    let all =
    c.deref-3.ensures.value
    ∙ (c.in_ok-doubled.ensures
    ∙ (ap (λ (ns : List ℕ). doubled (slide_with (record { over = a.edges.over; onto = a.edges.moved; side = a.at_along; along = c.alike.result }) ns first) (first + length ns) a.pieces.now) c.deref.ensures.value
    ∙ ap (λ (b : Bool). doubled (slide_with (record { over = a.edges.over; onto = a.edges.moved; side = a.at_along; along = b }) names first) (first + length names) a.pieces.now) c.alike.ensures)) in
    let made = ap₂ (λ (g : ℕ) (ps : List Piece). banded a.at_edge a.edges.edge g ps) copy all in
    let Q : List Piece → Type 0 = λ ps. IfOk c.band.result (λ slid. slid.items ≡ ps) in
    subst Q (made ∙ slid_told a.edges.moved a.edges.over a.edges.edge a.edges.along a.top a.pieces.now a.at_edge a.at_along names c.in_ok-names.ensures.labels) c.band.ensures
