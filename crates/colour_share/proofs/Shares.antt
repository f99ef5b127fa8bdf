-- Sums over the colourings of some workers.
use Rattle.std.proofs.Common.{◌≡◌, ℕ, zero, suc, ◌+◌, ◌*◌, ◌%◌, ◌<◌, ◌≤◌, Bool, true, false, if◌then◌else◌, pos, ◌+ℤ◌, refl, sym, ap, ap₂, ◌∙◌, arith}
use Rattle.std.proofs.Math.Nat.{suc-mul, zero-mul}
use Rattle.std.proofs.lemmas.Bool.Decides.{nat_tests}
use Rattle.ring_identities.specs.Residues.{residue, Congruent}
use Rattle.ring_identities.proofs.Congruences.{congruent_eq, congruent_sym, congruent_trans, congruent_plus, residue_congruent, same_residue, residue_small}
use Rattle.colour_share.specs.Parts.{falls, share_sum}

pub falls_in : (workers worker place : ℕ) → place % workers ≡ worker → falls workers worker (worker + 1) place ≡ true
falls_in workers worker place e = grind (arith, nat_tests)

pub falls_out : (workers worker place : ℕ) → (place % workers ≡ worker → ⊥) → falls workers worker (worker + 1) place ≡ false
falls_out workers worker place e = grind (arith, nat_tests)

pub falls_one : (workers worker place : ℕ) → falls workers worker (worker + 1) place ≡ true → place % workers ≡ worker
falls_one workers worker place e = grind (arith, nat_tests)

pub falls_all : (workers place : ℕ) → 0 < workers → falls workers 0 workers place ≡ true
falls_all workers place some = let below : place % workers < workers = omega arith in grind (arith, nat_tests)

-- the first half, or the other
pub falls_left : (workers from mid to place : ℕ) → from ≤ mid → mid ≤ to → falls workers from to place ≡ true → falls workers from mid place ≡ true → falls workers mid to place ≡ false
falls_left workers from mid to place low high e f = grind (arith, nat_tests)

pub falls_right : (workers from mid to place : ℕ) → from ≤ mid → mid ≤ to → falls workers from to place ≡ true → falls workers from mid place ≡ false → falls workers mid to place ≡ true
falls_right workers from mid to place low high e f = grind (arith, nat_tests)

pub left_falls : (workers from mid to place : ℕ) → mid ≤ to → falls workers from mid place ≡ true → falls workers from to place ≡ true
left_falls workers from mid to place high e = grind (arith, nat_tests)

pub right_out : (workers from mid to place : ℕ) → falls workers mid to place ≡ true → falls workers from mid place ≡ false
right_out workers from mid to place e = grind (arith, nat_tests)

pub right_falls : (workers from mid to place : ℕ) → from ≤ mid → falls workers mid to place ≡ true → falls workers from to place ≡ true
right_falls workers from mid to place low e = grind (arith, nat_tests)

-- numbers that are the same where they count
pub share_same : (a b : ℕ → ℕ) (workers from to n : ℕ) → ((place : ℕ) → place < n → falls workers from to place ≡ true → a (suc place) ≡ b (suc place))
    → share_sum a workers from to n ≡ share_sum b workers from to n
share_same a b workers from to zero same = refl
share_same a b workers from to (suc n) same =
    ap₂ (λ s t. s + t) (share_same a b workers from to n (λ place low f. same place (omega (arith, low)) f)) (here (falls workers from to n) refl)
  where
    here : (f : Bool) → falls workers from to n ≡ f → (if f then a (suc n) else 0) ≡ (if f then b (suc n) else 0)
    here true e = same n (omega arith) e
    here false e = refl

pub share_le : (each : ℕ → ℕ) (most workers from to n : ℕ) → ((place : ℕ) → place < n → falls workers from to place ≡ true → each (suc place) ≤ most)
    → share_sum each workers from to n ≤ n * most
share_le each most workers from to zero few = let none = zero-mul most in omega (arith, none)
share_le each most workers from to (suc n) few =
    let rest = share_le each most workers from to n (λ place low f. few place (omega (arith, low)) f) in
    let more = suc-mul n most in
    let last = here (falls workers from to n) refl in
    omega (arith, rest, more, last)
  where
    here : (f : Bool) → falls workers from to n ≡ f → (if f then each (suc n) else 0) ≤ most
    here true e = few n (omega arith) e
    here false e = omega arith

pick_split : (workers from mid to place v : ℕ) → from ≤ mid → mid ≤ to
    → (if falls workers from to place then v else 0) ≡ (if falls workers from mid place then v else 0) + (if falls workers mid to place then v else 0)
pick_split workers from mid to place v low high = grind (arith, nat_tests)

-- TWO HALVES OF THE WORKERS
pub share_split : (each : ℕ → ℕ) (workers from mid to n : ℕ) → from ≤ mid → mid ≤ to
    → share_sum each workers from to n ≡ share_sum each workers from mid n + share_sum each workers mid to n
share_split each workers from mid to zero low high = refl
share_split each workers from mid to (suc n) low high =
    omega (arith, share_split each workers from mid to n low high, pick_split workers from mid to n (each (suc n)) low high)

-- ONE COLOURING MORE
pub share_in : (each : ℕ → ℕ) (workers from to n : ℕ) → falls workers from to n ≡ true → share_sum each workers from to (suc n) ≡ share_sum each workers from to n + each (suc n)
share_in each workers from to n f = ap (λ b. share_sum each workers from to n + (if b then each (suc n) else 0)) f

pub share_out : (each : ℕ → ℕ) (workers from to n : ℕ) → falls workers from to n ≡ false → share_sum each workers from to (suc n) ≡ share_sum each workers from to n
share_out each workers from to n f =
    let e : share_sum each workers from to (suc n) ≡ share_sum each workers from to n + 0 = ap (λ b. share_sum each workers from to n + (if b then each (suc n) else 0)) f in omega (arith, e)

-- ---- residues
-- THE RESIDUE OF A SUM, from those of its parts
pub residue_sum : (m a b x y r : ℕ) → 0 < m → x ≡ residue m (pos a) → y ≡ residue m (pos b) → r ≡ residue m (pos x +ℤ pos y) → r ≡ residue m (pos (a + b))
residue_sum m a b x y r some x_is y_is r_is =
    let left : Congruent m (pos x) (pos a) = congruent_trans (congruent_eq (ap pos x_is)) (congruent_sym (residue_congruent m (pos a) some)) in
    let right : Congruent m (pos y) (pos b) = congruent_trans (congruent_eq (ap pos y_is)) (congruent_sym (residue_congruent m (pos b) some)) in
    r_is ∙ same_residue some (congruent_plus left right)

pub own_residue : (m y : ℕ) → y < m → y ≡ residue m (pos y)
own_residue m y below = sym (residue_small m y below)
