-- The early refusals: what the tests of the code tell.
use Rattle.std.proofs.Common.{◌≡◌, ℕ, suc, ◌+◌, ◌-◌, ◌*◌, ◌<◌, ◌≤◌, ◌==◌, ◌||◌, ◌^◌, Bool, true, false, not, cond, List, [], ◌∷◌, length, map, ltb, Option, Some, None, pos, unsigned_abs, refl, sym, ap, subst, ◌∙◌, arith, inl, inr, eq-eqb, ne_eqb}
use Rattle.std.specs.Prelude.{is_some, nat_lt}
use Rattle.std.specs.List.{find, range_with_len}
use Rattle.std.specs.Option.{option_or}
use Rattle.std.specs.Set.{is_member}
use Rattle.std.proofs.lemmas.Bool.{cases_Bool, eqb-true, eqb-false, ltb-false}
use Rattle.std.proofs.lemmas.Bool.Decides.{nat_tests}
use Rattle.std.proofs.lemmas.List.Elements.{All-get_or}
use Rattle.std.proofs.lemmas.List.FromFn.{length-map-range_with_len}
use Rattle.pd_reader.specs.declared.item.Item.{Item}
use Rattle.pd_reader.specs.declared.item.Item.TheVariants as items
use Rattle.pd_reader.specs.Diagrams.{IsDiagram}
use Rattle.planar_check.specs.Places.{first_place, place_labels, crossings_of}
use Rattle.planar_check.specs.Components.{rank, least_labels, number_of}
use Rattle.planar_check.specs.Framings.{FramedDiagram, IsFramed, framing_of, is_large}
use Rattle.planar_check.specs.Signs.{signed_at, signed_crossings, sign_sum, writhe}
use Rattle.planar_check.proofs.Crossings.{few_crossings}
use Rattle.planar_check.proofs.SignSums.{sum_small}
use Rattle.slide_laws.specs.declared.fault.SlideFault.{SlideFault}
use Rattle.slide_strands.specs.declared.strand.Piece.{Piece}
use Rattle.slide_strands.specs.Strands.{has_one, has_two, crossings_with}
use Rattle.slide_laws.specs.declared.fault.SlideFault.TheVariants.{NoEdge, LoopEdge, SameComponent, OddSigns, TooMany}
use Rattle.slide_laws.specs.Directed.{directed_from, directed}
use Rattle.slide_laws.specs.Slides.{is_edge, is_loop, edge_refusal, odd_with, odd_pair, excess, items_after, early_refusal}
use Rattle.planar_check.specs.declared.sign.Signed.{Signed}
use Rattle.planar_check.proofs.FewComponents.{number_first}

-- ---- a label stands at a place exactly where it has a first one
placed_test : (ls : List ℕ) (x : ℕ) → ltb (rank ls x) (length ls) ≡ is_member ◌==◌ ls x
placed_test [] x = refl
placed_test (y ∷ ys) x = elim (cases_Bool (y == x)) [
  | inl t ↦ (
      let here : (x == y) ≡ true = eq-eqb x y (sym (eqb-true y x t)) in
      let first : ltb 0 (suc (length ys)) ≡ true = grind (arith, nat_tests) in
      ap (λ (b : Bool). ltb (cond (not b) (1 + rank ys x) 0) (suc (length ys))) t ∙ (first ∙ sym (ap (λ (b : Bool). b || is_member ◌==◌ ys x) here)))
  | inr t ↦ (
      let other : (x == y) ≡ false = ne_eqb x y (λ e. eqb-false y x t (sym e)) in
      let next : ltb (1 + rank ys x) (suc (length ys)) ≡ ltb (rank ys x) (length ys) = grind (arith, nat_tests) in
      ap (λ (b : Bool). ltb (cond (not b) (1 + rank ys x) 0) (suc (length ys))) t
      ∙ (next ∙ (placed_test ys x ∙ sym (ap (λ (b : Bool). b || is_member ◌==◌ ys x) other))))
]

some_placed : (ls : List ℕ) (x : ℕ) → is_some (first_place ls x) ≡ is_member ◌==◌ ls x
some_placed ls x = by_test (ltb (rank ls x) (length ls)) ∙ placed_test ls x
  where
    by_test : (b : Bool) → is_some (cond b (Some (rank ls x)) None) ≡ b
    by_test true = refl
    by_test false = refl

pub loop_told : (xs : List Item) (x : ℕ) (found : Option ℕ) (none : Bool) → found ≡ first_place (place_labels xs) x → is_some found ≡ not none → none ≡ is_loop xs x
loop_told xs x found none is h = sym (not-not none) ∙ ap not (sym h ∙ (ap is_some is ∙ some_placed (place_labels xs) x))
  where
    not-not : (b : Bool) → not (not b) ≡ b
    not-not true = refl
    not-not false = refl

-- ---- the first of five refusals
pub third_of : (a b c d e : Option SlideFault) (fault : SlideFault) → a ≡ None → b ≡ None → Some fault ≡ c → Some fault ≡ option_or a (option_or b (option_or c (option_or d e)))
third_of a b c d e fault na nb h =
    sym (ap (λ (o : Option SlideFault). option_or o (option_or b (option_or c (option_or d e)))) na
    ∙ (ap (λ (o : Option SlideFault). option_or o (option_or c (option_or d e))) nb ∙ ap (λ (o : Option SlideFault). option_or o (option_or d e)) (sym h)))

pub fourth_of : (a b c d e : Option SlideFault) (fault : SlideFault) → a ≡ None → b ≡ None → c ≡ None → Some fault ≡ d → Some fault ≡ option_or a (option_or b (option_or c (option_or d e)))
fourth_of a b c d e fault na nb nc h =
    sym (ap (λ (o : Option SlideFault). option_or o (option_or b (option_or c (option_or d e)))) na
    ∙ (ap (λ (o : Option SlideFault). option_or o (option_or c (option_or d e))) nb
    ∙ (ap (λ (o : Option SlideFault). option_or o (option_or d e)) nc ∙ ap (λ (o : Option SlideFault). option_or o e) (sym h))))

pub last_of : (a b c d e r : Option SlideFault) → a ≡ None → b ≡ None → c ≡ None → d ≡ None → r ≡ e → r ≡ option_or a (option_or b (option_or c (option_or d e)))
last_of a b c d e r na nb nc nd h =
    h
    ∙ sym (ap (λ (o : Option SlideFault). option_or o (option_or b (option_or c (option_or d e)))) na
    ∙ (ap (λ (o : Option SlideFault). option_or o (option_or c (option_or d e))) nb
    ∙ (ap (λ (o : Option SlideFault). option_or o (option_or d e)) nc ∙ ap (λ (o : Option SlideFault). option_or o e) nd)))

second_passes : (test : ℕ → Bool) (R : ℕ → SlideFault) (e f : ℕ) → None ≡ edge_refusal test R e f → test f ≡ false
second_passes test R e f h = by_tests (test e) (test f) h
  where
    by_tests : (a b : Bool) → None ≡ cond a (Some (R e)) (cond b (Some (R f)) None) → b ≡ false
    by_tests true b k = absurd cc
    by_tests false true k = absurd cc
    by_tests false false k = refl

not_false : (b : Bool) → not b ≡ false → b ≡ true
not_false true h = refl
not_false false h = absurd cc

-- f is an edge, so its component is the first or a later one
pub number_low : (xs : List Item) (e f : ℕ) → IsDiagram xs → None ≡ edge_refusal (λ x. not (is_edge xs x)) NoEdge e f → 1 ≤ number_of xs f
number_low xs e f diagram h = number_first xs diagram.sizes f (not_false (is_edge xs f) (second_passes (λ x. not (is_edge xs x)) NoEdge e f h))

module _ (framed : FramedDiagram) (e f : ℕ) where
  abbrev no_edge : List Item → Option SlideFault
  no_edge xs = edge_refusal (λ x. not (is_edge xs x)) NoEdge e f

  abbrev loop_edge : List Item → Option SlideFault
  loop_edge xs = edge_refusal (is_loop xs) LoopEdge e f

  abbrev one_component : List Item → Option SlideFault
  one_component xs = cond (number_of xs e == number_of xs f) (Some SameComponent) None

  abbrev odd_sums : List Item → Option SlideFault
  odd_sums xs = odd_pair (signed_crossings xs) (range_with_len 1 (length (least_labels xs))) (range_with_len 1 (length (least_labels xs)))

  abbrev too_many : ℕ → Option SlideFault
  too_many j = cond (nat_lt 256 (items_after framed j)) (Some (TooMany 256)) None

  abbrev numbered : ℕ → Option SlideFault
  numbered n = odd_pair (signed_crossings framed.items) (range_with_len 1 n) (range_with_len 1 n)

  pub early_third : (xs : List Item) → xs ≡ framed.items → (fault : SlideFault) → None ≡ no_edge xs → None ≡ loop_edge xs → Some fault ≡ one_component xs → Some fault ≡ early_refusal framed e f
  early_third xs same fault =
      subst (λ (ys : List Item). None ≡ no_edge ys → None ≡ loop_edge ys → Some fault ≡ one_component ys → Some fault ≡ early_refusal framed e f) (sym same)
      (λ a b h. third_of (no_edge framed.items) (loop_edge framed.items) (one_component framed.items) (numbered (length framed.framings)) (too_many (number_of framed.items f)) fault (sym a) (sym b) h)

  pub early_fourth : (xs : List Item) → xs ≡ framed.items → IsFramed framed → (fault : SlideFault) → None ≡ no_edge xs → None ≡ loop_edge xs → None ≡ one_component xs → Some fault ≡ odd_sums xs → Some fault ≡ early_refusal framed e f
  early_fourth xs same is_framed fault =
      subst (λ (ys : List Item). None ≡ no_edge ys → None ≡ loop_edge ys → None ≡ one_component ys → Some fault ≡ odd_sums ys → Some fault ≡ early_refusal framed e f) (sym same)
      (λ a b d h. fourth_of (no_edge framed.items) (loop_edge framed.items) (one_component framed.items) (numbered (length framed.framings)) (too_many (number_of framed.items f)) fault (sym a) (sym b) (sym d)
      (h ∙ ap numbered (sym is_framed.count)))

  pub early_last : (xs : List Item) → xs ≡ framed.items → IsFramed framed → (j : ℕ) (r : Option SlideFault) → None ≡ no_edge xs → None ≡ loop_edge xs → None ≡ one_component xs → None ≡ odd_sums xs →
      j ≡ number_of xs f → r ≡ too_many j → r ≡ early_refusal framed e f
  early_last xs same is_framed j r =
      subst (λ (ys : List Item). None ≡ no_edge ys → None ≡ loop_edge ys → None ≡ one_component ys → None ≡ odd_sums ys → j ≡ number_of ys f → r ≡ too_many j → r ≡ early_refusal framed e f) (sym same)
      (λ a b d o k h. last_of (no_edge framed.items) (loop_edge framed.items) (one_component framed.items) (numbered (length framed.framings)) (too_many (number_of framed.items f)) r
      (sym a) (sym b) (sym d) (sym (o ∙ ap numbered (sym is_framed.count))) (h ∙ ap too_many k))

-- ---- pairs of components
pub pair_next : (cs : List Signed) (bs : List ℕ) (a n : ℕ) → a < n → None ≡ odd_with cs a bs → odd_pair cs (range_with_len a (n - a)) bs ≡ odd_pair cs (range_with_len (a + 1) (n - (a + 1))) bs
pair_next cs bs a n l h =
    ap (λ (m : ℕ). odd_pair cs (range_with_len a m) bs) (let e : n - a ≡ suc (n - (a + 1)) = omega arith in e)
    ∙ ap (λ (o : Option ℕ). elim o as (λ _. Option SlideFault) [ None ↦ odd_pair cs (range_with_len (a + 1) (n - (a + 1))) bs | Some b ↦ Some (OddSigns a b) ]) (sym h)

-- ---- sizes
long_from : (all : List Item) (k : ℕ) (xs : List Item) → length (directed_from all k xs) ≡ length xs
long_from all k [] = refl
long_from all k (items.X at ∷ xs) = ap (λ (n : ℕ). suc n) (long_from all (k + 1) xs)
long_from all k (items.Loop label ∷ xs) = ap (λ (n : ℕ). suc n) (long_from all k xs)

pub directed_long : (xs : List Item) → length (directed xs) ≡ length xs
unfolding directed
directed_long xs = long_from xs 0 xs

-- a framing is at most 2^60 in size, and a writhe at most 256
pub framing_small : (framed : FramedDiagram) (c : ℕ) → IsFramed framed → 1 ≤ c → c ≤ length (least_labels framed.items) → unsigned_abs (framing_of framed c) ≤ 2 ^ 60
framing_small framed c h low high =
    let count = h.count in
    let small : is_large (framing_of framed c) ≡ false = All-get_or (λ framing. is_large framing ≡ false) framed.framings (c - 1) (pos 0) (omega (arith, low, high, count)) h.small in
    ltb-false (2 ^ 60) (unsigned_abs (framing_of framed c)) small

pub sum_few : (xs : List Item) (i j : ℕ) → IsDiagram xs → unsigned_abs (sign_sum xs i j) ≤ 256
unfolding signed_crossings
sum_few xs i j diagram =
    let crossings = map (signed_at xs) (range_with_len 0 (length (crossings_of xs))) in
    let long : length crossings ≡ length (crossings_of xs) = length-map-range_with_len (signed_at xs) 0 (length (crossings_of xs)) in
    let sum = sum_small i j crossings in
    let few = few_crossings xs diagram in
    omega (arith, sum, long, few)

pub writhe_small : (xs : List Item) (c : ℕ) → IsDiagram xs → unsigned_abs (writhe xs c) ≤ 256
writhe_small xs c diagram = sum_few xs c c diagram

-- ---- a search through a range
pub find_next : (test : ℕ → Bool) (b n : ℕ) → b < n → test b ≡ false → find test (range_with_len b (n - b)) ≡ find test (range_with_len (b + 1) (n - (b + 1)))
find_next test b n l h =
    ap (λ (m : ℕ). find test (range_with_len b m)) (let e : n - b ≡ suc (n - (b + 1)) = omega arith in e)
    ∙ ap (λ (t : Bool). cond t (Some b) (find test (range_with_len (b + 1) (n - (b + 1))))) h

pub find_here : (test : ℕ → Bool) (b n : ℕ) → b < n → test b ≡ true → Some b ≡ find test (range_with_len b (n - b))
find_here test b n l h =
    sym (ap (λ (m : ℕ). find test (range_with_len b m)) (let e : n - b ≡ suc (n - (b + 1)) = omega arith in e)
    ∙ ap (λ (t : Bool). cond t (Some b) (find test (range_with_len (b + 1) (n - (b + 1))))) h)

pub find_none : (test : ℕ → Bool) (b n : ℕ) → n ≤ b → None ≡ find test (range_with_len b (n - b))
find_none test b n l = ap (λ (m : ℕ). find test (range_with_len b m)) (let e : 0 ≡ n - b = omega arith in e)

-- ---- the number of items
pub items_told : (framed : FramedDiagram) (c : ℕ) (pieces : List Piece) (added curls : ℕ) → pieces ≡ directed framed.items → added ≡ crossings_with (has_one c) pieces + 3 * crossings_with (has_two c) pieces →
    curls ≡ unsigned_abs (excess framed c) → length pieces + added + 4 * curls ≡ items_after framed c
items_told framed c pieces added curls same a e =
    let long = ap length same ∙ directed_long framed.items in
    let now = a ∙ ap (λ (ps : List Piece). crossings_with (has_one c) ps + 3 * crossings_with (has_two c) ps) same in
    omega (arith, long, now, e)
