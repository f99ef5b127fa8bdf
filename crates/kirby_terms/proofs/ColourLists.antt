-- The list of n + 1 colours with a number has the last colour by the remainder of that number, and the colours before by the quotient.
use Rattle.std.proofs.Common.{◌≡◌, ℕ, zero, suc, ◌+◌, ◌*◌, ◌/◌, ◌%◌, ◌^◌, ◌<◌, List, [], ◌∷◌, ◌++◌, length, map, flat_map, get_or, slice_index, refl, sym, ap, subst, subst₂, ◌∙◌, arith, length-append, get_or-append-add}
use Rattle.std.proofs.Math.Nat.{suc-mul, zero-mul, pow-suc, pow-zero}
use Rattle.std.proofs.Math.ListN.{get_or-append}
use Rattle.std.proofs.Math.Seq.{get_or-append_seam}
use Rattle.std.proofs.lemmas.Nat.{div-add-mod', div_below, mod_below}
use Rattle.std.proofs.lemmas.List.{get_or-map}
use Rattle.std.specs.List.{All}
use Rattle.std.proofs.lemmas.List.Elements.{All-nil, All-push, All-get_or}
use Rattle.coloured_values.specs.Surgery.{colour_lists}

-- ---- lists of blocks of one length
length_blocks : {X Y : Type 0} (f : X → List Y) (s : ℕ) (xs : List X) → ((x : X) → length (f x) ≡ s) → length (flat_map f xs) ≡ length xs * s
length_blocks f s [] each = sym (zero-mul s)
length_blocks f s (x ∷ xs) each =
    let l = length-append (f x) (flat_map f xs) in
    let here = each x in
    let rest = length_blocks f s xs each in
    let m = suc-mul (length xs) s in
    omega (arith, l, here, rest, m)

in_block : {X Y : Type 0} (f : X → List Y) (s : ℕ) (xs : List X) (q r : ℕ) (d : Y) (e : X) → ((x : X) → length (f x) ≡ s) → r < s → q < length xs →
    get_or (flat_map f xs) (q * s + r) d ≡ get_or (f (get_or xs q e)) r d
in_block f s [] q r d e each b h = absurd (omega (arith, h))
in_block f s (x ∷ xs) zero r d e each b h =
    let here = each x in
    let z : zero * s + r ≡ r = (let m = zero-mul s in omega (arith, m)) in
    ap (λ k. get_or (f x ++ flat_map f xs) k d) z ∙ get_or-append (f x) (flat_map f xs) d r (omega (arith, here, b))
in_block f s (x ∷ xs) (suc q) r d e each b h =
    let here = each x in
    let z : suc q * s + r ≡ length (f x) + (q * s + r) = (let m = suc-mul q s in omega (arith, m, here)) in
    ap (λ k. get_or (f x ++ flat_map f xs) k d) z
    ∙ get_or-append-add (f x) (flat_map f xs) (q * s + r) d
    ∙ in_block f s xs q r d e each b (omega (arith, h))

-- ---- the lists of colours
length_row : (colours list : List ℕ) → length (map (λ colour. list ++ colour ∷ []) colours) ≡ length colours
length_row [] list = refl
length_row (c ∷ colours) list = ap suc (length_row colours list)

-- HOW MANY LISTS THERE ARE
pub lists_count : (colours : List ℕ) (n : ℕ) → length (colour_lists colours n) ≡ length colours ^ n
lists_count colours zero = sym (pow-zero (length colours))
lists_count colours (suc n) =
    length_blocks (λ list. map (λ colour. list ++ colour ∷ []) colours) (length colours) (colour_lists colours n) (length_row colours)
    ∙ ap (λ k. k * length colours) (lists_count colours n)
    ∙ sym (pow-suc (length colours) n)

-- ONE COLOUR MORE
pub list_more : (colours : List ℕ) (n k : ℕ) → 0 < length colours → k < length colours ^ suc n →
    get_or (colour_lists colours (suc n)) k [] ≡ get_or (colour_lists colours n) (k / length colours) [] ++ slice_index colours (k % length colours) ∷ []
list_more colours n k some h =
    let s = length colours in
    let lists = colour_lists colours n in
    let row = λ (list : List ℕ). map (λ colour. list ++ colour ∷ []) colours in
    let count = lists_count colours n in
    let size = pow-suc s n in
    let b : k < s ^ n * s = omega (arith, h, size) in
    let q : k / s < s ^ n = div_below k s (s ^ n) some b in
    let r : k % s < s = mod_below k s some in
    ap (λ j. get_or (flat_map row lists) j []) (sym (div-add-mod' k s))
    ∙ in_block row s lists (k / s) (k % s) [] [] (length_row colours) r (omega (arith, q, count))
    ∙ get_or-map (λ colour. get_or lists (k / s) [] ++ colour ∷ []) colours (k % s) 0 [] r

-- the quotient is a number of the lists before
pub quotient_below : (s n k : ℕ) → 0 < s → k < s ^ suc n → k / s < s ^ n
quotient_below s n k some h = let size = pow-suc s n in div_below k s (s ^ n) some (omega (arith, h, size))

-- EACH HAS ITS LENGTH
pub list_length : (colours : List ℕ) (n k : ℕ) → 0 < length colours → k < length colours ^ n → length (get_or (colour_lists colours n) k []) ≡ n
list_length colours zero k some h = let z = pow-zero (length colours) in none k (omega (arith, h, z))
  where
    none : (k : ℕ) → k < 1 → length (get_or (colour_lists colours zero) k []) ≡ zero
    none zero b = refl
    none (suc k) b = absurd (omega (arith, b))
list_length colours (suc n) k some h =
    let before = list_length colours n (k / length colours) some (quotient_below (length colours) n k some h) in
    let l = length-append (get_or (colour_lists colours n) (k / length colours) []) (slice_index colours (k % length colours) ∷ []) in
    ap length (list_more colours n k some h) ∙ omega (arith, l, before)

-- the colours before the last are those of the quotient
pub colour_before : (colours : List ℕ) (n k i : ℕ) → 0 < length colours → k < length colours ^ suc n → i < n →
    slice_index (get_or (colour_lists colours (suc n)) k []) i ≡ slice_index (get_or (colour_lists colours n) (k / length colours) []) i
colour_before colours n k i some h b =
    let before = list_length colours n (k / length colours) some (quotient_below (length colours) n k some h) in
    ap (λ list. slice_index list i) (list_more colours n k some h)
    ∙ get_or-append (get_or (colour_lists colours n) (k / length colours) []) (slice_index colours (k % length colours) ∷ []) 0 i (omega (arith, b, before))

-- and the last is that of the remainder
pub colour_last : (colours : List ℕ) (n k : ℕ) → 0 < length colours → k < length colours ^ suc n →
    slice_index (get_or (colour_lists colours (suc n)) k []) n ≡ slice_index colours (k % length colours)
colour_last colours n k some h =
    let before = list_length colours n (k / length colours) some (quotient_below (length colours) n k some h) in
    let list = get_or (colour_lists colours n) (k / length colours) [] in
    let x = slice_index colours (k % length colours) in
    ap (λ xs. slice_index xs n) (list_more colours n k some h)
    ∙ ap (λ j. slice_index (list ++ x ∷ []) j) (sym before)
    ∙ get_or-append_seam list x [] 0

-- ---- the search for a colour, component by component from the last
pub one_turn : (colours : List ℕ) (s n k i : ℕ) → length colours ≡ s → 0 < s → k < s ^ suc n → i < n →
    slice_index (get_or (colour_lists colours (suc n)) k []) i ≡ slice_index (get_or (colour_lists colours n) (k / s) []) i
one_turn colours s n k i l some h b =
    let more : k < length colours ^ suc n = subst (λ t. k < t ^ suc n) (sym l) h in
    colour_before colours n k i (omega (arith, l, some)) more b ∙ ap (λ t. slice_index (get_or (colour_lists colours n) (k / t) []) i) l

pub last_turn : (colours : List ℕ) (s n k i : ℕ) → length colours ≡ s → 0 < s → k < s ^ n → n ≡ suc i →
    slice_index (get_or (colour_lists colours n) k []) i ≡ slice_index colours (k % s)
last_turn colours s n k i l some h e =
    let more : k < length colours ^ suc i = subst₂ (λ t j. k < t ^ j) (sym l) e h in
    ap (λ j. slice_index (get_or (colour_lists colours j) k []) i) e
    ∙ colour_last colours i k (omega (arith, l, some)) more
    ∙ ap (λ t. slice_index colours (k % t)) l

-- EACH COLOUR OF A LIST IS ONE OF THE COLOURS
pub all_colours : (P : ℕ → Type 0) (colours : List ℕ) (n k : ℕ) → 0 < length colours → k < length colours ^ n → All P colours → All P (get_or (colour_lists colours n) k [])
all_colours P colours zero k some h each = let z = pow-zero (length colours) in only k (omega (arith, h, z))
  where
    only : (k : ℕ) → k < 1 → All P (get_or (colour_lists colours zero) k [])
    only zero b = All-nil P
    only (suc k) b = absurd (omega (arith, b))
all_colours P colours (suc n) k some h each =
    subst (All P) (sym (list_more colours n k some h))
    (All-push P (get_or (colour_lists colours n) (k / length colours) []) (slice_index colours (k % length colours))
    (all_colours P colours n (k / length colours) some (quotient_below (length colours) n k some h) each)
    (All-get_or P colours (k % length colours) 0 (mod_below k (length colours) some) each))
