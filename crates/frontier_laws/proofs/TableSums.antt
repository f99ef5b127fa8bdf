-- What a table comes to, whatever its codes are worth: after one more item, after all, and before a node is glued.
use Rattle.std.proofs.Common.{◌≡◌, ℕ, ◌+◌, ◌*◌, ◌^◌, ◌%◌, ◌==◌, cond, List, [], ◌∷◌, ◌++◌, map, sum_by, refl, ap, ◌∙◌, arith, mul_assoc, ⊎_elim}
use Rattle.std.proofs.Math.Nat.{mod-mod}
use Rattle.std.proofs.lemmas.Bool.{cases_Bool}
use Rattle.std.proofs.lemmas.Bool.Decides.{nat_tests}
use Rattle.std.proofs.lemmas.List.Sums.{sum_by-cons}
use Rattle.graph_parts.specs.Patterns.{closed_parts}
use Rattle.state_sums.specs.Networks.{Node, Term}
use Rattle.state_sums.proofs.Congruent.{add_same_mod, mul_same_mod}
use Rattle.list_lemmas.proofs.Sums.{sum_by_same, sum_by-map, sum_by-flat_map, sum_by-times}
use Rattle.arc_gluing.specs.Pairings.{partners_of}
use Rattle.arc_gluing.specs.Sums.{worth_before}
use Rattle.arc_pairing.specs.Codes.{code_of}
use Rattle.arc_pairing.specs.Gluing.{Seam, glued_edges}
use Rattle.frontier_laws.specs.Tables.{decoded, add_in, add_all, table_sum, contribution, contributions}

-- A residue counts as the number itself.
pub reduced : (m a w s : ℕ) → ((a % m) * w + s) % m ≡ (a * w + s) % m
reduced m a w s =
    let c : (w * (a % m)) % m ≡ (w * a) % m = mul_same_mod m w (a % m) a (mod-mod a m) in
    let e1 : (a % m) * w ≡ w * (a % m) = omega arith in
    let e2 : w * a ≡ a * w = omega arith in
    add_same_mod m ((a % m) * w) (a * w) s s (ap (λ n. n % m) e1 ∙ c ∙ ap (λ n. n % m) e2) refl

-- One more item adds its coefficient times what its code is worth.
pub add_in-sum : (m : ℕ) (worth : ℕ → ℕ) (code c : ℕ) (table : List (ℕ × ℕ)) → table_sum worth (add_in m code c table) % m ≡ (table_sum worth table + c * worth code) % m
add_in-sum m worth code c [] =
    let f : ℕ × ℕ → ℕ = λ entry. entry.1 * worth entry.0 in
    ap (λ n. n % m) (sum_by-cons f (code, c % m) []) ∙ reduced m c (worth code) 0 ∙ ap (λ n. n % m) (let e : c * worth code + 0 ≡ 0 + c * worth code = omega arith in e)
add_in-sum m worth code c (e ∷ table) =
    let f : ℕ × ℕ → ℕ = λ entry. entry.1 * worth entry.0 in
    let old = sum_by-cons f e table in
    ⊎_elim
    (λ found.
    let is : code ≡ e.0 = grind (arith, nat_tests, found) in
    let same = ap (λ n. c * worth n) is in
    let now = ap (λ b. sum_by f (cond b ((e.0, (e.1 + c) % m) ∷ table) (e ∷ add_in m code c table))) found ∙ sum_by-cons f (e.0, (e.1 + c) % m) table in
    ap (λ n. n % m) now ∙ reduced m (e.1 + c) (worth e.0) (sum_by f table)
    ∙ ap (λ n. n % m) (let g : (e.1 + c) * worth e.0 + sum_by f table ≡ sum_by f (e ∷ table) + c * worth code = omega (arith, old, same) in g))
    (λ new.
    let now = ap (λ b. sum_by f (cond b ((e.0, (e.1 + c) % m) ∷ table) (e ∷ add_in m code c table))) new ∙ sum_by-cons f e (add_in m code c table) in
    ap (λ n. n % m) now ∙ add_same_mod m (f e) (f e) (sum_by f (add_in m code c table)) (sum_by f table + c * worth code) refl (add_in-sum m worth code c table)
    ∙ ap (λ n. n % m) (let g : f e + (sum_by f table + c * worth code) ≡ sum_by f (e ∷ table) + c * worth code = omega (arith, old) in g))
    (cases_Bool (code == e.0))

-- THE SUM OF A TABLE AFTER ALL ITEMS
pub add_all-sum : (m : ℕ) (worth : ℕ → ℕ) (items table : List (ℕ × ℕ)) → table_sum worth (add_all m table items) % m ≡ (table_sum worth table + table_sum worth items) % m
add_all-sum m worth [] table = ap (λ n. n % m) (let e : table_sum worth table ≡ table_sum worth table + 0 = omega arith in e)
add_all-sum m worth (item ∷ items) table =
    let f : ℕ × ℕ → ℕ = λ entry. entry.1 * worth entry.0 in
    let c = sum_by-cons f item items in
    add_all-sum m worth items (add_in m item.0 item.1 table)
    ∙ add_same_mod m (sum_by f (add_in m item.0 item.1 table)) (sum_by f table + f item) (sum_by f items) (sum_by f items) (add_in-sum m worth item.0 item.1 table) refl
    ∙ ap (λ n. n % m) (let g : (sum_by f table + f item) + sum_by f items ≡ sum_by f table + sum_by f (item ∷ items) = omega (arith, c) in g)

-- THE SUM OF THE CONTRIBUTIONS OF A NODE, from the table before it
pub contributions-sum : (delta : ℕ) (node : Node) (inner outer : List ℕ) (worth : ℕ → ℕ) (table : List (ℕ × ℕ)) →
    let seam : Seam = record { inner = inner; ends = node.ends; outer = outer } in
    table_sum worth (contributions delta seam node.terms table) ≡ table_sum (λ code. worth_before delta node inner outer (λ partner. worth (code_of partner)) (decoded code)) table
contributions-sum delta node inner outer worth table =
    let seam : Seam = record { inner = inner; ends = node.ends; outer = outer } in
    let f : ℕ × ℕ → ℕ = λ entry. entry.1 * worth entry.0 in
    let names = inner ++ node.ends in
    let one : ℕ × ℕ → Term → ℕ = λ entry term.
    term.weight * (delta ^ closed_parts names (glued_edges seam (decoded entry.0) term.partner) outer * worth (code_of (partners_of names (glued_edges seam (decoded entry.0) term.partner) outer))) in
    sum_by-flat_map f (λ entry. map (contribution delta seam entry) node.terms) table
    ∙ sum_by_same _ _ table (λ entry. sum_by-map f (contribution delta seam entry) node.terms
    ∙ sum_by_same _ (λ term. entry.1 * one entry term) node.terms (λ term.
    let power = delta ^ closed_parts names (glued_edges seam (decoded entry.0) term.partner) outer in
    let value = worth (code_of (partners_of names (glued_edges seam (decoded entry.0) term.partner) outer)) in
    mul_assoc entry.1 (term.weight * power) value ∙ ap (λ n. entry.1 * n) (mul_assoc term.weight power value))
    ∙ sum_by-times entry.1 (one entry) node.terms)
