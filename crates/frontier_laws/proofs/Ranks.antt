-- Where a group stands in a list of groups: not before the groups in front of it that are others, and at the place that has it.
use Rattle.std.proofs.Common.{◌≡◌, ℕ, zero, suc, ⊎_elim, ◌+◌, ◌<◌, ◌≤◌, ◌==◌, nat_lt, Bool, true, false, not, cond, List, [], ◌∷◌, length, slice_index, take, take_all, refl, sym, ap, ◌∙◌, arith}
use Rattle.std.specs.List.{position_or_len}
use Rattle.std.specs.Set.{is_member}
use Rattle.std.proofs.lemmas.Bool.{cases_Bool}
use Rattle.std.proofs.lemmas.Bool.Decides.{nat_tests}
use Rattle.std.specs.Option.{unwrap_or}
use Rattle.std.proofs.Common.{Some, None}
use Rattle.frontier_laws.specs.Orders.{rank_in}

-- The first place of the group, or the length.
first_at : List ℕ → ℕ → ℕ
first_at groups group = position_or_len (λ other. group == other) groups

first_at-cons : (x : ℕ) (groups : List ℕ) (group : ℕ) → first_at (x ∷ groups) group ≡ cond (not (group == x)) (1 + first_at groups group) 0
unfolding first_at
first_at-cons x groups group = refl

-- The rank is that place, or behind the list.
rank-at : (groups : List ℕ) (group : ℕ) → rank_in groups group ≡ cond (nat_lt (first_at groups group) (length groups)) (first_at groups group) (length groups + group)
unfolding first_at
rank-at groups group = at (nat_lt (position_or_len (λ other. group == other) groups) (length groups)) refl
  where
    place : ℕ
    place = position_or_len (λ other. group == other) groups

    at : (b : Bool) → nat_lt (position_or_len (λ other. group == other) groups) (length groups) ≡ b →
        unwrap_or (cond b (Some (position_or_len (λ other. group == other) groups)) None) (length groups + group) ≡ cond b (position_or_len (λ other. group == other) groups) (length groups + group)
    at true e = refl
    at false e = refl

not_before : (groups : List ℕ) (group i : ℕ) → i ≤ length groups → is_member ◌==◌ (take i groups) group ≡ false → i ≤ first_at groups group
not_before groups group zero within none = omega arith
not_before [] group (suc i) within none = absurd (omega (arith, within))
not_before (x ∷ groups) group (suc i) within none =
    let cons = first_at-cons x groups group in
    ⊎_elim
    (λ (here : (group == x) ≡ true). absurd (true_not_false (sym (rw here refl) ∙ none)))
    (λ (other : (group == x) ≡ false).
    let rest : is_member ◌==◌ (take i groups) group ≡ false = rw other at none in
    let ih = not_before groups group i (omega (arith, within)) rest in
    grind (arith, cons, other, ih))
    (cases_Bool (group == x))
  where
    true_not_false : true ≡ false → ⊥
    true_not_false e = grind (arith, e)

not_behind : (groups : List ℕ) (group i : ℕ) → i < length groups → slice_index groups i ≡ group → first_at groups group ≤ i
not_behind [] group i within here = absurd (omega (arith, within))
not_behind (x ∷ groups) group zero within here = let cons = first_at-cons x groups group in let same : (group == x) ≡ true = grind (arith, nat_tests, here) in grind (arith, cons, same)
not_behind (x ∷ groups) group (suc i) within here =
    let cons = first_at-cons x groups group in
    let ih = not_behind groups group i (omega (arith, within)) here in
    grind (arith, cons, ih)

stands_there : (groups : List ℕ) (group : ℕ) → first_at groups group < length groups → slice_index groups (first_at groups group) ≡ group
stands_there [] group within = absurd (omega (arith, within))
stands_there (x ∷ groups) group within =
    let cons = first_at-cons x groups group in
    ⊎_elim
    (λ (here : (group == x) ≡ true).
    let first : first_at (x ∷ groups) group ≡ 0 = grind (arith, cons, here) in
    ap (slice_index (x ∷ groups)) first ∙ (let same : x ≡ group = grind (arith, nat_tests, here) in same))
    (λ (other : (group == x) ≡ false).
    let next : first_at (x ∷ groups) group ≡ suc (first_at groups group) = grind (arith, cons, other) in
    ap (slice_index (x ∷ groups)) next ∙ stands_there groups group (omega (arith, within, next)))
    (cases_Bool (group == x))

-- WHERE OTHER GROUPS STAND IN FRONT the rank is no less than their number
pub rank-behind : (groups : List ℕ) (group i : ℕ) → i ≤ length groups → is_member ◌==◌ (take i groups) group ≡ false → i ≤ rank_in groups group
rank-behind groups group i within none =
    let rank = rank-at groups group in
    let behind = not_before groups group i within none in
    grind (arith, nat_tests, rank, behind, within)

-- AT THE PLACE THAT HAS IT it is that place
pub rank-there : (groups : List ℕ) (group i : ℕ) → i < length groups → is_member ◌==◌ (take i groups) group ≡ false → slice_index groups i ≡ group → rank_in groups group ≡ i
rank-there groups group i within none here =
    let rank = rank-at groups group in
    let behind = not_before groups group i (omega (arith, within)) none in
    let most = not_behind groups group i within here in
    grind (arith, nat_tests, rank, behind, most, within)

-- NO OTHER GROUP has this rank
pub rank-only : (groups : List ℕ) (group i : ℕ) → i < length groups → rank_in groups group ≡ i → slice_index groups i ≡ group
rank-only groups group i within is =
    let rank = rank-at groups group in
    let first : first_at groups group ≡ i = grind (arith, nat_tests, rank, is, within) in
    ap (slice_index groups) (sym first) ∙ stands_there groups group (omega (arith, first, within))

-- A GROUP OUTSIDE THE LIST comes behind it
pub rank-outside : (groups : List ℕ) (group : ℕ) → is_member ◌==◌ groups group ≡ false → rank_in groups group ≡ length groups + group
rank-outside groups group none =
    let rank = rank-at groups group in
    let far = not_before groups group (length groups) (omega arith) (ap (λ groups. is_member ◌==◌ groups group) (take_all (length groups) groups (omega arith)) ∙ none) in
    grind (arith, nat_tests, rank, far)
