-- Other names for the strands: the cable has them, where the names within grids are left alone.
use Rattle.std.proofs.Common.{◌≡◌, ℕ, ◌+◌, ◌-◌, ◌*◌, ◌^◌, ◌==◌, ◌&&◌, not, true, false, cond, List, [], ◌∷◌, ◌++◌, map, length, reverse, refl, sym, ap, ap₂, ◌∙◌, arith}
use Rattle.std.specs.List.{filter, range_with_len}
use Rattle.std.specs.Set.{is_member}
use Rattle.std.proofs.lemmas.List.{length-map, map-append}
use Rattle.std.proofs.lemmas.Grind.{reverse_onto}
use Rattle.state_sums.specs.Networks.{Node}
use Rattle.state_sums.specs.LocalSums.{rename}
use Rattle.root_quantum.specs.Parameters.{Parameters}
use Rattle.pd_reader.specs.declared.item.NetItem.{NetItem}
use Rattle.pd_reader.specs.declared.item.NetItem.TheVariants.{X, Y, Loop}
use Rattle.diagram_brackets.specs.Crossings.{crossing_node}
use Rattle.strand_algebra.specs.StrandPairings.{straight}
use Rattle.cables.specs.Strands.{Strands, names_at, renamed_strands}
use Rattle.cables.specs.CableNodes.{upright_names, line_names, row, grid, through_node, crossing_cable, vertex_partner, joining, vertex_cable, box_node}
use Rattle.cables.specs.Cables.{Standing, passed, past_all, box_nodes, loop_nodes, item_nodes, cable_nodes}
use Rattle.cables.specs.Laws.{RenamedCableLaw}

pub map-reverse : (f : ℕ → ℕ) (xs : List ℕ) → map f (reverse xs) ≡ reverse (map f xs)
map-reverse f [] = refl
map-reverse f (x ∷ xs) =
    ap (map f) (reverse_onto xs x [])
    ∙ map-append f (reverse xs) (x ∷ [])
    ∙ ap (λ ys. ys ++ f x ∷ []) (map-reverse f xs)
    ∙ sym (reverse_onto (map f xs) (f x) [])

rename-append : (r : ℕ → ℕ) (ns ms : List Node) → rename r (ns ++ ms) ≡ rename r ns ++ rename r ms
rename-append r [] ms = refl
rename-append r (n ∷ ns) ms = ap (λ xs. record { group = n.group; ends = map r n.ends; terms = n.terms } ∷ xs) (rename-append r ns ms)

moved_all : (r f g : ℕ → ℕ) → ((i : ℕ) → r (f i) ≡ g i) → (xs : List ℕ) → map r (map f xs) ≡ map g xs
moved_all r f g h [] = refl
moved_all r f g h (x ∷ xs) = ap₂ (λ y ys. y ∷ ys) (h x) (moved_all r f g h xs)

-- the names of grid k become those of grid k'
abbrev pub Moves : (ℕ → ℕ) → ℕ → ℕ → Type 0
Moves r k k' = (offset : ℕ) → r (2 ^ 25 + 128 * k + offset) ≡ 2 ^ 25 + 128 * k' + offset

next_moves : (r : ℕ → ℕ) (k k' : ℕ) → Moves r k k' → Moves r (k + 1) (k' + 1)
next_moves r k k' moves o =
    let a : 2 ^ 25 + 128 * (k + 1) + o ≡ 2 ^ 25 + 128 * k + (128 + o) = omega arith in
    let b : 2 ^ 25 + 128 * k' + (128 + o) ≡ 2 ^ 25 + 128 * (k' + 1) + o = omega arith in
    ap r a ∙ moves (128 + o) ∙ b

module _ (p : Parameters) (r : ℕ → ℕ) where
  row-renamed : (group : ℕ) (bottoms line tops : List ℕ) (west : ℕ) → row p group (map r bottoms) (r west) (map r line) (map r tops) ≡ rename r (row p group bottoms west line tops)
  row-renamed group [] line tops west = refl
  row-renamed group (b ∷ bottoms) [] tops west = refl
  row-renamed group (b ∷ bottoms) (e ∷ line) [] west = refl
  row-renamed group (b ∷ bottoms) (e ∷ line) (t ∷ tops) west = ap (λ ns. crossing_node p group (r b ∷ r e ∷ r t ∷ r west ∷ []) ∷ ns) (row-renamed group bottoms line tops e)

  module _ (k k' : ℕ) (moves : Moves r k k') where
    uprights_moved : (u i : ℕ) → map r (upright_names k u i) ≡ upright_names k' u i
    uprights_moved u i =
        moved_all r (λ j. 2 ^ 25 + 128 * k + 8 * i + j) (λ j. 2 ^ 25 + 128 * k' + 8 * i + j)
        (λ j.
        let a : 2 ^ 25 + 128 * k + 8 * i + j ≡ 2 ^ 25 + 128 * k + (8 * i + j) = omega arith in
        let b : 2 ^ 25 + 128 * k' + (8 * i + j) ≡ 2 ^ 25 + 128 * k' + 8 * i + j = omega arith in
        ap r a ∙ moves (8 * i + j) ∙ b) (range_with_len 0 u)

    lines_moved : (u i east : ℕ) → line_names k' u i ++ r east ∷ [] ≡ map r (line_names k u i ++ east ∷ [])
    lines_moved u i east =
        sym (map-append r (line_names k u i) (east ∷ [])
        ∙ ap (λ xs. xs ++ r east ∷ [])
        (moved_all r (λ j. 2 ^ 25 + 128 * k + 64 + 8 * i + j) (λ j. 2 ^ 25 + 128 * k' + 64 + 8 * i + j)
        (λ j.
        let a : 2 ^ 25 + 128 * k + 64 + 8 * i + j ≡ 2 ^ 25 + 128 * k + (64 + 8 * i + j) = omega arith in
        let b : 2 ^ 25 + 128 * k' + (64 + 8 * i + j) ≡ 2 ^ 25 + 128 * k' + 64 + 8 * i + j = omega arith in
        ap r a ∙ moves (64 + 8 * i + j) ∙ b) (range_with_len 0 (u - 1))))

    grid-renamed : (group u i : ℕ) (bottoms wests easts north : List ℕ) →
        grid p group k' u i (map r bottoms) (map r wests) (map r easts) (map r north) ≡ rename r (grid p group k u i bottoms wests easts north)
    grid-renamed group u i bottoms [] easts north = refl
    grid-renamed group u i bottoms (w ∷ []) [] north = refl
    grid-renamed group u i bottoms (w ∷ []) (e ∷ easts) north =
        ap (λ l. row p group (map r bottoms) (r w) l (map r north)) (lines_moved u i e) ∙ row-renamed group bottoms (line_names k u i ++ e ∷ []) north w
    grid-renamed group u i bottoms (w ∷ v ∷ wests) [] north = refl
    grid-renamed group u i bottoms (w ∷ v ∷ wests) (e ∷ easts) north =
        let tops = upright_names k u i in
        let line = line_names k u i ++ e ∷ [] in
        ap₂ (λ l t. row p group (map r bottoms) (r w) l t ++ grid p group k' u (i + 1) t (map r (v ∷ wests)) (map r easts) (map r north)) (lines_moved u i e) (sym (uprights_moved u i))
        ∙ ap₂ (λ x y. x ++ y) (row-renamed group bottoms line tops w) (grid-renamed group u (i + 1) tops (v ∷ wests) easts north)
        ∙ sym (rename-append r (row p group bottoms w line tops) (grid p group k u (i + 1) tops (v ∷ wests) easts north))

  through-renamed : (group : ℕ) (xs ys : List ℕ) → through_node group (map r xs) (map r ys) ∷ [] ≡ rename r (through_node group xs ys ∷ [])
  through-renamed group xs ys =
      ap₂ (λ ends n. record { group = group; ends = ends; terms = record { weight = 1; partner = straight n } ∷ [] } ∷ []) (sym (map-append r xs ys)) (length-map xs r)

  pub crossing-renamed : (group k k' : ℕ) → Moves r k k' → (a b c d : List ℕ) → crossing_cable p group k' (map r a) (map r b) (map r c) (map r d) ≡ rename r (crossing_cable p group k a b c d)
  crossing-renamed group k k' moves [] [] c d = refl
  crossing-renamed group k k' moves [] (b ∷ others) c d = through-renamed group (b ∷ others) d
  crossing-renamed group k k' moves (a ∷ more) [] c d = through-renamed group (a ∷ more) c
  crossing-renamed group k k' moves (a ∷ more) (b ∷ others) c d =
      ap (λ u. grid p group k' u 0 (map r (a ∷ more)) (reverse (map r d)) (map r (b ∷ others)) (reverse (map r c))) (length-map (a ∷ more) r)
      ∙ ap₂ (λ x y. grid p group k' (length (a ∷ more)) 0 (map r (a ∷ more)) x (map r (b ∷ others)) y) (sym (map-reverse r d)) (sym (map-reverse r c))
      ∙ grid-renamed k k' moves group (length (a ∷ more)) 0 (a ∷ more) (reverse d) (b ∷ others) (reverse c)

  three : (group : ℕ) (x y z : List ℕ) → Node
  three group x y z = record {
    group = group;
    ends = x ++ y ++ z;
    terms =
        record {
          weight = 1;
          partner = vertex_partner (joining (length x) (length y) (length z)) (joining (length y) (length z) (length x)) (joining (length z) (length x) (length y));
        } ∷ [];
  }

  three-renamed : (group : ℕ) (x y z : List ℕ) → three group (map r x) (map r y) (map r z) ∷ [] ≡ rename r (three group x y z ∷ [])
  unfolding three
  three-renamed group x y z =
      let f : List ℕ → ℕ → ℕ → ℕ → List Node = λ ends a b c. record { group = group; ends = ends; terms = record { weight = 1; partner = vertex_partner (joining a b c) (joining b c a) (joining c a b) } ∷ [] } ∷ [] in
      ap (λ ends. f ends (length (map r x)) (length (map r y)) (length (map r z))) (sym (map-append r (x ++ y) z ∙ ap (λ t. t ++ map r z) (map-append r x y)))
      ∙ ap (λ n. f (map r (x ++ y ++ z)) n (length (map r y)) (length (map r z))) (length-map x r)
      ∙ ap₂ (λ n k. f (map r (x ++ y ++ z)) (length x) n k) (length-map y r) (length-map z r)

  vertex-renamed : (group : ℕ) (x y z : List ℕ) → vertex_cable group (map r x) (map r y) (map r z) ≡ rename r (vertex_cable group x y z)
  unfolding three
  vertex-renamed group [] [] [] = refl
  vertex-renamed group [] [] (c ∷ z) = three-renamed group [] [] (c ∷ z)
  vertex-renamed group [] (b ∷ y) [] = three-renamed group [] (b ∷ y) []
  vertex-renamed group [] (b ∷ y) (c ∷ z) = three-renamed group [] (b ∷ y) (c ∷ z)
  vertex-renamed group (a ∷ x) [] [] = three-renamed group (a ∷ x) [] []
  vertex-renamed group (a ∷ x) [] (c ∷ z) = three-renamed group (a ∷ x) [] (c ∷ z)
  vertex-renamed group (a ∷ x) (b ∷ y) [] = three-renamed group (a ∷ x) (b ∷ y) []
  vertex-renamed group (a ∷ x) (b ∷ y) (c ∷ z) = three-renamed group (a ∷ x) (b ∷ y) (c ∷ z)

  module _ (strands : Strands) where
    at-renamed : (seen : List ℕ) (label : ℕ) → names_at (renamed_strands r strands) seen label ≡ map r (names_at strands seen label)
    at-renamed seen label =
        elim (is_member ◌==◌ seen label) as (λ b. cond b (map r (strands.second label)) (map r (strands.first label)) ≡ map r (cond b (strands.second label) (strands.first label))) [ true ↦ refl | false ↦ refl ]

    box-renamed : (group : ℕ) (xs ys : List ℕ) → box_node group (strands.box (length (map r xs))) (map r xs) (map r ys) ∷ [] ≡ rename r (box_node group (strands.box (length xs)) xs ys ∷ [])
    box-renamed group xs ys = ap₂ (λ n ends. record { group = group; ends = ends; terms = strands.box n } ∷ []) (length-map xs r) (sym (map-append r xs ys))

    boxes-renamed : (group : ℕ) (ls : List ℕ) →
        map (λ label. box_node group (strands.box (length (map r (strands.first label)))) (map r (strands.first label)) (map r (strands.second label))) ls
        ≡ rename r (map (λ label. box_node group (strands.box (length (strands.first label))) (strands.first label) (strands.second label)) ls)
    boxes-renamed group [] = refl
    boxes-renamed group (l ∷ ls) = ap₂ (λ x y. x ++ y) (box-renamed group (strands.first l) (strands.second l)) (boxes-renamed group ls)

    pub loop-renamed : (group : ℕ) (names : List ℕ) → loop_nodes (renamed_strands r strands) group (map r names) ≡ rename r (loop_nodes strands group names)
    loop-renamed group [] = refl
    loop-renamed group (x ∷ []) = refl
    loop-renamed group (x ∷ y ∷ names) =
        ap (λ ys. box_node group (strands.box (length (map r (x ∷ y ∷ names)))) (map r (x ∷ y ∷ names)) ys ∷ []) (sym (map-reverse r (x ∷ y ∷ names)))
        ∙ box-renamed group (x ∷ y ∷ names) (reverse (x ∷ y ∷ names))

    item-renamed : (standing : Standing) (k' : ℕ) → Moves r standing.index k' → (item : NetItem) → item_nodes p (renamed_strands r strands) (record standing { index = k' }) item ≡ rename r (item_nodes p strands standing item)
    item-renamed standing k' moves (X (a ∷ b ∷ c ∷ d ∷ [])) =
        let seen = standing.seen in
        let others : Strands = renamed_strands r strands in
        let slots = a ∷ b ∷ c ∷ d ∷ [] in
        let na = names_at strands seen a in let nb = names_at strands (a ∷ seen) b in
        let nc = names_at strands (b ∷ a ∷ seen) c in let nd = names_at strands (c ∷ b ∷ a ∷ seen) d in
        ap₂ (λ x y. x ++ y)
        (boxes-renamed standing.group (filter (λ label. is_member ◌==◌ slots label && (strands.boxed label && not (is_member ◌==◌ seen label))) (range_with_len 0 (past_all slots))))
        (ap₂ (λ x y. crossing_cable p standing.group k' x y (names_at others (b ∷ a ∷ seen) c) (names_at others (c ∷ b ∷ a ∷ seen) d)) (at-renamed seen a) (at-renamed (a ∷ seen) b)
        ∙ ap₂ (λ x y. crossing_cable p standing.group k' (map r na) (map r nb) x y) (at-renamed (b ∷ a ∷ seen) c) (at-renamed (c ∷ b ∷ a ∷ seen) d)
        ∙ crossing-renamed standing.group standing.index k' moves na nb nc nd)
        ∙ sym (rename-append r (box_nodes strands standing slots) (crossing_cable p standing.group standing.index na nb nc nd))
    item-renamed standing k' moves (X []) = refl
    item-renamed standing k' moves (X (a ∷ [])) = refl
    item-renamed standing k' moves (X (a ∷ b ∷ [])) = refl
    item-renamed standing k' moves (X (a ∷ b ∷ c ∷ [])) = refl
    item-renamed standing k' moves (X (a ∷ b ∷ c ∷ d ∷ e ∷ slots)) = refl
    item-renamed standing k' moves (Y (a ∷ b ∷ c ∷ [])) =
        let seen = standing.seen in
        let others : Strands = renamed_strands r strands in
        let slots = a ∷ b ∷ c ∷ [] in
        let na = names_at strands seen a in let nb = names_at strands (a ∷ seen) b in let nc = names_at strands (b ∷ a ∷ seen) c in
        ap₂ (λ x y. x ++ y)
        (boxes-renamed standing.group (filter (λ label. is_member ◌==◌ slots label && (strands.boxed label && not (is_member ◌==◌ seen label))) (range_with_len 0 (past_all slots))))
        (ap₂ (λ x y. vertex_cable standing.group x y (names_at others (b ∷ a ∷ seen) c)) (at-renamed seen a) (at-renamed (a ∷ seen) b)
        ∙ ap (λ x. vertex_cable standing.group (map r na) (map r nb) x) (at-renamed (b ∷ a ∷ seen) c)
        ∙ vertex-renamed standing.group na nb nc)
        ∙ sym (rename-append r (box_nodes strands standing slots) (vertex_cable standing.group na nb nc))
    item-renamed standing k' moves (Y []) = refl
    item-renamed standing k' moves (Y (a ∷ [])) = refl
    item-renamed standing k' moves (Y (a ∷ b ∷ [])) = refl
    item-renamed standing k' moves (Y (a ∷ b ∷ c ∷ d ∷ edges)) = refl
    item-renamed standing k' moves (Loop label) = loop-renamed standing.loop_group (strands.first label)

    nodes-renamed : (standing : Standing) (k' : ℕ) → Moves r standing.index k' → (items : List NetItem) →
        cable_nodes p (renamed_strands r strands) (record standing { index = k' }) items ≡ rename r (cable_nodes p strands standing items)
    nodes-renamed standing k' moves [] = refl
    nodes-renamed standing k' moves (X slots ∷ items) =
        ap₂ (λ x y. x ++ y) (item-renamed standing k' moves (X slots)) (nodes-renamed (passed standing (X slots)) (k' + 1) (next_moves r standing.index k' moves) items)
        ∙ sym (rename-append r (item_nodes p strands standing (X slots)) (cable_nodes p strands (passed standing (X slots)) items))
    nodes-renamed standing k' moves (Y edges ∷ items) =
        ap₂ (λ x y. x ++ y) (item-renamed standing k' moves (Y edges)) (nodes-renamed (passed standing (Y edges)) (k' + 1) (next_moves r standing.index k' moves) items)
        ∙ sym (rename-append r (item_nodes p strands standing (Y edges)) (cable_nodes p strands (passed standing (Y edges)) items))
    nodes-renamed standing k' moves (Loop label ∷ items) =
        ap₂ (λ x y. x ++ y) (item-renamed standing k' moves (Loop label)) (nodes-renamed (passed standing (Loop label)) (k' + 1) (next_moves r standing.index k' moves) items)
        ∙ sym (rename-append r (item_nodes p strands standing (Loop label)) (cable_nodes p strands (passed standing (Loop label)) items))

-- A RENAMED CABLE
pub renamed_cable : RenamedCableLaw
renamed_cable p strands r standing index items moves = nodes-renamed p r strands standing index moves items
