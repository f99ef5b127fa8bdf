-- Where the two places of some labels are exchanged, the strands have other names: strand i has that of strand n + 1 - i at the
-- other place. So the value stays.
use Rattle.std.proofs.Common.{◌≡◌, ℕ, ◌+◌, ◌-◌, ◌*◌, ◌/◌, ◌%◌, ◌^◌, ◌<◌, ◌≤◌, ◌&&◌, nat_lt, Bool, true, false, if◌then◌else◌, List, [], ◌∷◌, map, reverse, slice_index, refl, sym, ap, ap₂, ◌∙◌, arith, ⊎_elim}
use Rattle.std.specs.List.{AllByRecursion, range_with_len}
use Rattle.std.proofs.lemmas.Bool.{cases_Bool}
use Rattle.std.proofs.lemmas.Bool.Decides.{nat_tests}
use Rattle.std.proofs.lemmas.List.{ext_get_or, get_or-map, get_or-reverse, length-map, length-reverse, reverse-reverse}
use Rattle.std.proofs.lemmas.List.FromFn.{length-range_with_len, get_or-range_with_len, length-map-range_with_len}
use Rattle.state_sums.specs.Networks.{Term}
use Rattle.state_sums.specs.StateSums.{value}
use Rattle.state_sums.proofs.NetworkLaws.{any_names}
use Rattle.pd_reader.specs.declared.item.NetItem.{NetItem}
use Rattle.pd_reader.specs.declared.item.NetItem.TheVariants.{X, Y, Loop}
use Rattle.pd_reader.specs.Items.{net_item_labels}
use Rattle.pd_reader.specs.Diagrams.{labels, IsLabel}
use Rattle.cables.specs.Strands.{Strands, strands_of, exchanged, renamed_strands}
use Rattle.cables.specs.Cables.{cable_nodes, start, loop_count, loops_at}
use Rattle.cables.specs.Laws.{ExchangedPlacesLaw}
use Rattle.cables.proofs.RenamedCables.{map-reverse, renamed_cable}
use Rattle.cables.proofs.SameCables.{AreAlike, same_cable}
use Rattle.cables.proofs.CableLaws.{cable_network}

-- the k-th name, where k is i
ranged : (f : ℕ → ℕ) (n k : ℕ) → k < n → slice_index (map f (range_with_len 0 n)) k ≡ f k
ranged f n k h =
    let long = length-range_with_len 0 n in
    let z : 0 + k ≡ k = omega arith in
    get_or-map f (range_with_len 0 n) k 0 0 (omega (arith, h, long)) ∙ ap f (get_or-range_with_len 0 n k 0 h ∙ z)

turned_list : (r f g : ℕ → ℕ) (n : ℕ) → ((i : ℕ) → i < n → r (f i) ≡ g (n - 1 - i)) → map r (map f (range_with_len 0 n)) ≡ reverse (map g (range_with_len 0 n))
turned_list r f g n h =
    let fs = map f (range_with_len 0 n) in
    let gs = map g (range_with_len 0 n) in
    let lf = length-map-range_with_len f 0 n in
    let lg = length-map-range_with_len g 0 n in
    let lr = length-map fs r in
    ext_get_or 0 (map r fs) (reverse gs) (lr ∙ lf ∙ sym (length-reverse gs ∙ lg)) (λ k b.
    let kn : k < n = omega (arith, b, lr, lf) in
    get_or-map r fs k 0 0 (omega (arith, kn, lf))
    ∙ ap r (ranged f n k kn)
    ∙ h k kn
    ∙ sym (get_or-reverse gs k 0 (omega (arith, kn, lg)) ∙ ap (λ i. slice_index gs (i - 1 - k)) lg ∙ ranged g n (n - 1 - k) (omega (arith, kn))))

kept_list : (r f : ℕ → ℕ) (n : ℕ) → ((i : ℕ) → r (f i) ≡ f i) → (xs : List ℕ) → map r (map f xs) ≡ map f xs
kept_list r f n h [] = refl
kept_list r f n h (x ∷ xs) = ap₂ (λ y ys. y ∷ ys) (h x) (kept_list r f n h xs)

abbrev shift : Bool → ℕ
shift boxed = if boxed then 1 else 0

module _ (colour : ℕ → ℕ) (boxed chosen : ℕ → Bool) (few : (label : ℕ) → colour label ≤ 8) where
  abbrev flip : ℕ → ℕ → ℕ
  flip label c = if boxed label then 1 - c else c

  -- the name x is that of strand i, from 0, of the label, where c is 1 behind a box
  abbrev moved : ℕ → ℕ → ℕ → ℕ → ℕ
  moved x label i c = if nat_lt x (2 ^ 25) && (chosen label && nat_lt i (colour label)) then 16 * label + 2 * (colour label - 1 - i) + flip label c else x

  abbrev turn : ℕ → ℕ
  turn x = moved x (x / 16) (x % 16 / 2) (x % 2)

  flip-le : (label c : ℕ) → c ≤ 1 → flip label c ≤ 1
  flip-le label c h = elim (boxed label) as (λ b. (if b then 1 - c else c) ≤ 1) [ true ↦ omega arith | false ↦ h ]

  flip_twice : (label c : ℕ) → c ≤ 1 → flip label (flip label c) ≡ c
  flip_twice label c h = elim (boxed label) as (λ b. (if b then 1 - (if b then 1 - c else c) else (if b then 1 - c else c)) ≡ c) [ true ↦ omega (arith, h) | false ↦ refl ]

  parts : (label i c : ℕ) → i ≤ 7 → c ≤ 1 → turn (16 * label + 2 * i + c) ≡ moved (16 * label + 2 * i + c) label i c
  parts label i c hi hc =
      let x = 16 * label + 2 * i + c in
      let e1 : x / 16 ≡ label = omega (arith, hi, hc) in
      let e2 : x % 16 / 2 ≡ i = omega (arith, hi, hc) in
      let e3 : x % 2 ≡ c = omega (arith, hi, hc) in
      ap₂ (λ l j. moved x l j (x % 2)) e1 e2 ∙ ap (moved x label i) e3

  turn_chosen : (label i c : ℕ) → label < 2097152 → i < colour label → c ≤ 1 → chosen label ≡ true → turn (16 * label + 2 * i + c) ≡ 16 * label + 2 * (colour label - 1 - i) + flip label c
  turn_chosen label i c low hi hc h =
      let b = few label in
      let x = 16 * label + 2 * i + c in
      let below : x < 2 ^ 25 = omega (arith, low, hi, hc, b) in
      let y : ℕ = 16 * label + 2 * (colour label - 1 - i) + flip label c in
      parts label i c (omega (arith, hi, b)) hc
      ∙ ap (λ t. if nat_lt x (2 ^ 25) && (t && nat_lt i (colour label)) then y else x) h
      ∙ taken x i (colour label) y below hi
    where
      taken : (x i n y : ℕ) → x < 2 ^ 25 → i < n → (if nat_lt x (2 ^ 25) && (true && nat_lt i n) then y else x) ≡ y
      taken x i n y a b = grind (arith, nat_tests, a, b)

  turn_other : (label i c : ℕ) → i ≤ 7 → c ≤ 1 → chosen label ≡ false → turn (16 * label + 2 * i + c) ≡ 16 * label + 2 * i + c
  turn_other label i c hi hc h =
      let x = 16 * label + 2 * i + c in
      let y : ℕ = 16 * label + 2 * (colour label - 1 - i) + flip label c in
      parts label i c hi hc
      ∙ ap (λ t. if nat_lt x (2 ^ 25) && (t && nat_lt i (colour label)) then y else x) h
      ∙ left (nat_lt x (2 ^ 25)) x y
    where
      left : (b : Bool) (x y : ℕ) → (if b && false then y else x) ≡ x
      left true x y = refl
      left false x y = refl

  turn_high : (x : ℕ) → 2 ^ 25 ≤ x → turn x ≡ x
  turn_high x h = out x (16 * (x / 16) + 2 * (colour (x / 16) - 1 - x % 16 / 2) + flip (x / 16) (x % 2)) (chosen (x / 16) && nat_lt (x % 16 / 2) (colour (x / 16))) h
    where
      out : (x y : ℕ) (b : Bool) → 2 ^ 25 ≤ x → (if nat_lt x (2 ^ 25) && b then y else x) ≡ x
      out x y b h = grind (arith, nat_tests, h)

  -- what is moved: each case of the test
  turn_cases : (P : ℕ → Type 0) (x : ℕ) → (turn x ≡ x → P x) → (x < 2 ^ 25 → chosen (x / 16) ≡ true → x % 16 / 2 < colour (x / 16) → P x) → P x
  turn_cases P x same move =
      ⊎_elim
      (λ t. move (below x (chosen (x / 16)) (nat_lt (x % 16 / 2) (colour (x / 16))) t) (second (nat_lt x (2 ^ 25)) (chosen (x / 16)) (nat_lt (x % 16 / 2) (colour (x / 16))) t) (third x (chosen (x / 16)) (x % 16 / 2) (colour (x / 16)) t))
      (λ t. same (ap (λ b. if b then 16 * (x / 16) + 2 * (colour (x / 16) - 1 - x % 16 / 2) + flip (x / 16) (x % 2) else x) t))
      (cases_Bool (nat_lt x (2 ^ 25) && (chosen (x / 16) && nat_lt (x % 16 / 2) (colour (x / 16)))))
    where
      below : (x : ℕ) (b c : Bool) → (nat_lt x (2 ^ 25) && (b && c)) ≡ true → x < 2 ^ 25
      below x b c t = grind (arith, nat_tests, t)

      second : (a b c : Bool) → (a && (b && c)) ≡ true → b ≡ true
      second a b c t = grind (arith, t)

      third : (x : ℕ) (b : Bool) (i n : ℕ) → (nat_lt x (2 ^ 25) && (b && nat_lt i n)) ≡ true → i < n
      third x b i n t = grind (arith, nat_tests, t)

  turn_twice : (x : ℕ) → turn (turn x) ≡ x
  turn_twice x =
      turn_cases (λ y. turn (turn y) ≡ y) x (λ e. ap turn e ∙ e)
      (λ low h hi.
      let l = x / 16 in let i = x % 16 / 2 in let c = x % 2 in
      let whole : 16 * l + 2 * i + c ≡ x = omega arith in
      let l_low : l < 2097152 = omega (arith, low) in
      let c_low : c ≤ 1 = omega arith in
      let once : turn x ≡ 16 * l + 2 * (colour l - 1 - i) + flip l c = ap turn (sym whole) ∙ turn_chosen l i c l_low hi c_low h in
      ap turn once
      ∙ turn_chosen l (colour l - 1 - i) (flip l c) l_low (omega (arith, hi)) (flip-le l c c_low) h
      ∙ (let f = flip_twice l c c_low in omega (arith, f, hi, whole)))

  turn_apart : (u v : ℕ) → turn u ≡ turn v → u ≡ v
  turn_apart u v e = sym (turn_twice u) ∙ ap turn e ∙ turn_twice v

  module _ (box : ℕ → List Term) where
    abbrev strands : Strands
    strands = strands_of colour boxed box

    alike : (label : ℕ) → IsLabel label → AreAlike (exchanged strands chosen) (renamed_strands turn strands) label
    alike label is =
        let high = is.high in
        let n = colour label in
        let b = few label in
        let low : label < 2097152 = omega (arith, high) in
        let f : ℕ → ℕ = λ i. 16 * label + 2 * i in
        let g : ℕ → ℕ = λ i. 16 * label + 2 * i + shift (boxed label) in
        let s1 : shift (boxed label) ≤ 1 = elim (boxed label) as (λ t. shift t ≤ 1) [ true ↦ omega arith | false ↦ omega arith ] in
        let flat : (i : ℕ) → 16 * label + 2 * i + 0 ≡ 16 * label + 2 * i = λ i. omega arith in
        let flip0 : flip label 0 ≡ shift (boxed label) = elim (boxed label) as (λ t. (if t then 1 - 0 else 0) ≡ shift t) [ true ↦ refl | false ↦ refl ] in
        let flip1 : flip label (shift (boxed label)) ≡ 0 = elim (boxed label) as (λ t. (if t then 1 - shift t else shift t) ≡ 0) [ true ↦ refl | false ↦ refl ] in
        ⊎_elim
        (λ h.
        let there : map turn (strands.first label) ≡ strands.second label =
        turned_list turn f g n (λ i hi. ap turn (sym (flat i)) ∙ turn_chosen label i 0 low hi (omega arith) h ∙ (let z = flip0 in omega (arith, z))) in
        let back : map turn (strands.second label) ≡ strands.first label =
        map-reverse turn (map g (range_with_len 0 n))
        ∙ ap reverse (turned_list turn g f n (λ i hi. turn_chosen label i (shift (boxed label)) low hi s1 h ∙ (let z = flip1 in omega (arith, z))))
        ∙ reverse-reverse (map f (range_with_len 0 n)) in
        record {
          first = ap (λ t. if t then strands.second label else strands.first label) h ∙ sym there;
          second = ap (λ t. if t then strands.first label else strands.second label) h ∙ sym back;
          boxed = refl;
        })
        (λ h.
        let there : map turn (strands.first label) ≡ strands.first label = kept_names f (λ i hi. ap turn (sym (flat i)) ∙ turn_other label i 0 (omega (arith, hi, b)) (omega arith) h ∙ flat i) in
        let back : map turn (strands.second label) ≡ strands.second label =
        map-reverse turn (map g (range_with_len 0 n))
        ∙ ap reverse (kept_names g (λ i hi. turn_other label i (shift (boxed label)) (omega (arith, hi, b)) s1 h)) in
        record {
          first = ap (λ t. if t then strands.second label else strands.first label) h ∙ sym there;
          second = ap (λ t. if t then strands.first label else strands.second label) h ∙ sym back;
          boxed = refl;
        })
        (cases_Bool (chosen label))
      where
        kept_names : (f : ℕ → ℕ) → ((i : ℕ) → i < colour label → turn (f i) ≡ f i) → map turn (map f (range_with_len 0 (colour label))) ≡ map f (range_with_len 0 (colour label))
        kept_names f h =
            let n = colour label in
            let fs = map f (range_with_len 0 n) in
            let lf = length-map-range_with_len f 0 n in
            let lr = length-map fs turn in
            ext_get_or 0 (map turn fs) fs lr (λ k b.
            let kn : k < n = omega (arith, b, lr, lf) in
            get_or-map turn fs k 0 0 (omega (arith, kn, lf)) ∙ ap turn (ranged f n k kn) ∙ h k kn ∙ sym (ranged f n k kn))

    all_alike : (ls : List ℕ) → AllByRecursion IsLabel ls → AllByRecursion (AreAlike (exchanged strands chosen) (renamed_strands turn strands)) ls
    all_alike [] h = tt
    all_alike (l ∷ ls) h = (alike l h.0, all_alike ls h.1)

renamed_loops : (r : ℕ → ℕ) (others : Strands) (items : List NetItem) → loop_count (renamed_strands r others) items ≡ loop_count others items
renamed_loops r others [] = refl
renamed_loops r others (X slots ∷ items) = renamed_loops r others items
renamed_loops r others (Y edges ∷ items) = renamed_loops r others items
renamed_loops r others (Loop label ∷ items) = ap₂ (λ x y. x + y) (loops-map (others.first label)) (renamed_loops r others items)
  where
    loops-map : (names : List ℕ) → loops_at (map r names) ≡ loops_at names
    loops-map [] = refl
    loops-map (x ∷ []) = refl
    loops-map (x ∷ y ∷ names) = refl

-- PLACES EXCHANGED
pub exchanged_places : ExchangedPlacesLaw
exchanged_places p colour boxed box items chosen m delta net few boxes fits =
    let strands : Strands = strands_of colour boxed box in
    let r : ℕ → ℕ = turn colour boxed chosen few in
    let nodes = cable_nodes p strands (start items) items in
    let is = cable_network p colour boxed box items net few boxes fits in
    ap (value m delta)
    (same_cable (exchanged strands chosen) (renamed_strands r strands) refl p items (all_alike colour boxed chosen few box (labels net_item_labels items) net.in_range)
    ∙ ap₂ (λ ns k. record { nodes = ns; free_loops = k }) (renamed_cable p strands r (start items) 0 items (λ o. turn_high colour boxed chosen few (2 ^ 25 + 128 * 0 + o) (omega arith))) (renamed_loops r strands items))
    ∙ any_names m delta (loop_count strands items) r nodes is.is_network.nodes (λ u v hu hv e. turn_apart colour boxed chosen few u v e)
