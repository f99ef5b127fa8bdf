-- Tables: the working tool by which the states of nodes are summed node by node, and no definition that a public contract
-- rests on. A table has one entry for each pairing of the open names that arises: its code, and the residue of what the
-- states with this pairing come to. An entry stays where its coefficient is 0.
--
--     decoded code                           the partners that the code spells
--     add_in m code c table                  the table with c more at the code; a new code goes last
--     add_all m table items                  all items, one by one
--     table_sum worth table                  over the entries, the coefficient times what the code is worth
--     glued_item delta seam partner coefficient term    what a term gives when it is glued to a pairing
--     contribution, contributions            what each entry and each term give when they are glued
use Rattle.std.specs.Prelude.{ℕ, ◌+◌, ◌*◌, ◌^◌, ◌/◌, ◌%◌, ◌==◌, if◌then◌else◌, List, [], ◌∷◌, ◌++◌, map}
use Rattle.std.specs.List.{sum_by, fold, flat_map, range_with_len}
use Rattle.graph_parts.specs.Patterns.{closed_parts}
use Rattle.state_sums.specs.Networks.{Term}
use Rattle.arc_gluing.specs.Pairings.{partners_of}
use Rattle.arc_pairing.specs.Codes.{code_of}
use Rattle.arc_pairing.specs.Gluing.{Seam, glued_edges}

-- The digits of the code to base 32, as many as the number above 24 digits says.
abbrev pub decoded : ℕ → List ℕ
decoded code = map (λ place. code / 32 ^ place % 32) (range_with_len 0 (code / 1329227995784915872903807060280344576))

-- c more at the code; a new code goes last.
abbrev pub add_in : ℕ → ℕ → ℕ → List (ℕ × ℕ) → List (ℕ × ℕ)
add_in m code c [] = (code, c % m) ∷ []
add_in m code c (entry ∷ table) = if code == entry.0 then (entry.0, (entry.1 + c) % m) ∷ table else entry ∷ add_in m code c table

-- The items, one by one.
abbrev pub add_all : ℕ → List (ℕ × ℕ) → List (ℕ × ℕ) → List (ℕ × ℕ)
add_all m table items = fold (λ sum item. add_in m item.0 item.1 sum) table items

abbrev pub table_sum : (ℕ → ℕ) → List (ℕ × ℕ) → ℕ
table_sum worth table = sum_by (λ entry. entry.1 * worth entry.0) table

-- A term glued to a pairing with a coefficient: the code of the glued pairing, and the coefficient times the term's weight and
-- delta to the loops that close.
abbrev pub glued_item : ℕ → Seam → List ℕ → ℕ → Term → ℕ × ℕ
glued_item delta seam partner coefficient term =
    let names = seam.inner ++ seam.ends in
    let edges = glued_edges seam partner term.partner in
    (code_of (partners_of names edges seam.outer), coefficient * (term.weight * delta ^ closed_parts names edges seam.outer))

-- What an entry and a term give.
abbrev pub contribution : ℕ → Seam → ℕ × ℕ → Term → ℕ × ℕ
contribution delta seam entry term = glued_item delta seam (decoded entry.0) entry.1 term

abbrev pub contributions : ℕ → Seam → List Term → List (ℕ × ℕ) → List (ℕ × ℕ)
contributions delta seam terms table = flat_map (λ entry. map (contribution delta seam entry) terms) table
