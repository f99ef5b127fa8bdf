-- Nodes with other names: two renamings one after the other, and one that changes nothing.
use Rattle.std.proofs.Common.{◌≡◌, ℕ, true, ◌==◌, List, [], ◌∷◌, ◌++◌, map, refl, ap, ◌∙◌}
use Rattle.std.specs.Set.{is_member}
use Rattle.std.proofs.lemmas.Bool.{or_left, or_right, eq-eqb}
use Rattle.graph_parts.proofs.Distinct.{is_member-append}
use Rattle.state_sums.specs.LocalSums.{rename}
use Rattle.state_sums.specs.Networks.{Node, names_of}

map_via : (f s g : ℕ → ℕ) (xs : List ℕ) → ((x : ℕ) → is_member ◌==◌ xs x ≡ true → f (s x) ≡ g x) → map f (map s xs) ≡ map g xs
map_via f s g [] h = refl
map_via f s g (x ∷ xs) h =
    let a = h x (or_left (x == x) (is_member ◌==◌ xs x) (eq-eqb x x refl)) in
    let ih = map_via f s g xs (λ y m. h y (or_right (y == x) (is_member ◌==◌ xs y) m)) in
    cc

map_fixed : (f : ℕ → ℕ) (xs : List ℕ) → ((x : ℕ) → is_member ◌==◌ xs x ≡ true → f x ≡ x) → map f xs ≡ xs
map_fixed f [] h = refl
map_fixed f (x ∷ xs) h =
    let a = h x (or_left (x == x) (is_member ◌==◌ xs x) (eq-eqb x x refl)) in
    let ih = map_fixed f xs (λ y m. h y (or_right (y == x) (is_member ◌==◌ xs y) m)) in
    cc

pub rename_via : (f s g : ℕ → ℕ) (nodes : List Node) → ((x : ℕ) → is_member ◌==◌ (names_of nodes) x ≡ true → f (s x) ≡ g x) → rename f (rename s nodes) ≡ rename g nodes
rename_via f s g [] h = refl
rename_via f s g (node ∷ nodes) h =
    let here = map_via f s g node.ends (λ x m. h x (is_member-append node.ends (names_of nodes) x ∙ or_left (is_member ◌==◌ node.ends x) (is_member ◌==◌ (names_of nodes) x) m)) in
    let ih = rename_via f s g nodes (λ x m. h x (is_member-append node.ends (names_of nodes) x ∙ or_right (is_member ◌==◌ node.ends x) (is_member ◌==◌ (names_of nodes) x) m)) in
    let first : Node = record { group = node.group; ends = map g node.ends; terms = node.terms } in
    ap (λ es. record { group = node.group; ends = es; terms = node.terms } ∷ rename f (rename s nodes)) here ∙ ap (λ ns. first ∷ ns) ih

pub rename_fixed : (f : ℕ → ℕ) (nodes : List Node) → ((x : ℕ) → is_member ◌==◌ (names_of nodes) x ≡ true → f x ≡ x) → rename f nodes ≡ nodes
rename_fixed f [] h = refl
rename_fixed f (node ∷ nodes) h =
    let here = map_fixed f node.ends (λ x m. h x (is_member-append node.ends (names_of nodes) x ∙ or_left (is_member ◌==◌ node.ends x) (is_member ◌==◌ (names_of nodes) x) m)) in
    let ih = rename_fixed f nodes (λ x m. h x (is_member-append node.ends (names_of nodes) x ∙ or_right (is_member ◌==◌ node.ends x) (is_member ◌==◌ (names_of nodes) x) m)) in
    ap (λ es. record { group = node.group; ends = es; terms = node.terms } ∷ rename f nodes) here ∙ ap (λ ns. node ∷ ns) ih

pub rename-append : (f : ℕ → ℕ) (xs ys : List Node) → rename f (xs ++ ys) ≡ rename f xs ++ rename f ys
rename-append f [] ys = refl
rename-append f (x ∷ xs) ys = ap (λ ns. record { group = x.group; ends = map f x.ends; terms = x.terms } ∷ ns) (rename-append f xs ys)
