-- Items written one behind the other.
--
--     written_behind items    each item behind a comma
use Rattle.std.proofs.Common.{◌≡◌, ℕ, ◌+◌, ◌-◌, ◌<◌, ◌≤◌, List, [], ◌∷◌, ◌++◌, length, take, drop, get_or, refl, sym, ap, ◌∙◌, append_assoc, append-nil, arith}
use Rattle.std.specs.List.{concat}
use Rattle.std.proofs.lemmas.List.{take_more, take_all}
use Rattle.std.proofs.lemmas.List.Folds.{concat-append}
use Rattle.text_shapes.specs.Shapes.{items_behind, items_inside}
use Rattle.pd_reader.specs.declared.item.Item.{Item}
use Rattle.pd_reader.specs.declared.item.Item.TheVariants as items
use Rattle.pd_reader.specs.Texts.{item_tokens}

abbrev pub written_behind : List Item → List ℕ
written_behind [] = []
written_behind (v ∷ vs) = 44 ∷ (concat (item_tokens v) ++ written_behind vs)

pub written_behind-push : (vs : List Item) (v : Item) → written_behind (vs ++ v ∷ []) ≡ written_behind vs ++ 44 ∷ concat (item_tokens v)
written_behind-push [] v = ap (λ (xs : List ℕ). 44 ∷ xs) (append-nil (concat (item_tokens v)))
written_behind-push (w ∷ vs) v =
    ap (λ (xs : List ℕ). 44 ∷ xs) (ap (λ (xs : List ℕ). concat (item_tokens w) ++ xs) (written_behind-push vs v) ∙ sym (append_assoc (concat (item_tokens w)) (written_behind vs) (44 ∷ concat (item_tokens v))))

pub concat-behind : (vs : List Item) → concat (items_behind 93 item_tokens vs) ≡ written_behind vs ++ 93 ∷ []
concat-behind [] = refl
concat-behind (v ∷ vs) =
    ap (λ (xs : List ℕ). 44 ∷ xs) (concat-append (item_tokens v) (items_behind 93 item_tokens vs) ∙ (ap (λ (xs : List ℕ). concat (item_tokens v) ++ xs) (concat-behind vs) ∙ sym (append_assoc (concat (item_tokens v)) (written_behind vs) (93 ∷ []))))

-- one item more, behind a comma
pub written_turn : (before text : List ℕ) (vs : List Item) (i : ℕ) → i < length vs → text ≡ before ++ written_behind (take i vs)
    → (text ++ 44 ∷ []) ++ concat (item_tokens (get_or vs i (items.X []))) ≡ before ++ written_behind (take (i + 1) vs)
written_turn before text vs i lt e =
    let v = get_or vs i (items.X []) in
    let spelled : List ℕ = concat (item_tokens v) in
    let front : List ℕ = written_behind (take i vs) in
    let more : written_behind (take (i + 1) vs) ≡ front ++ 44 ∷ spelled = ap written_behind (take_more vs i (items.X []) lt) ∙ written_behind-push (take i vs) v in
    append_assoc text (44 ∷ []) spelled ∙ (ap (λ (xs : List ℕ). xs ++ 44 ∷ spelled) e ∙ (append_assoc before front (44 ∷ spelled) ∙ ap (λ (xs : List ℕ). before ++ xs) (sym more)))

-- the first item, and the others
pub written_first : (vs : List Item) → 1 ≤ length vs
    → concat (items_inside 93 item_tokens vs) ≡ concat (item_tokens (get_or vs 0 (items.X []))) ++ concat (items_behind 93 item_tokens (take (length vs - 1) (drop 1 vs)))
written_first [] le = absurd (omega arith)
written_first (v ∷ vs) le =
    let all : take (length (v ∷ vs) - 1) vs ≡ vs = take_all (length (v ∷ vs) - 1) vs (omega arith) in
    concat-append (item_tokens v) (items_behind 93 item_tokens vs) ∙ ap (λ (xs : List Item). concat (item_tokens v) ++ concat (items_behind 93 item_tokens xs)) (sym all)
