-- What is kept of rises and ends, pass by pass.
use Rattle.std.proofs.Common.{◌≡◌, ◌≢◌, ◌⊎◌, ⊎_elim, inl, inr, ℕ, suc, ◌+◌, ◌*◌, ◌%◌, ◌<◌, ◌≤◌, ◌==◌, Bool, true, false, List, [], ◌∷◌, ◌++◌, map, length, slice_index, get_or, sym, refl, ap, subst, ◌∙◌, arith}
use Rattle.std.specs.List.{All}
use Rattle.std.specs.List.Sorted.{IsNonDecreasing, IsPermutation}
use Rattle.std.specs.Set.{is_member}
use Rattle.std.proofs.Math.ListN.{set}
use Rattle.std.proofs.lemmas.Bool.{cases_Bool, or_left, or_right}
use Rattle.std.proofs.lemmas.Bool.Decides.{nat_tests}
use Rattle.std.proofs.lemmas.List.{get_or-set_same, get_or-set_other, length-set}
use Rattle.std.proofs.lemmas.List.Elements.{All-append, All-map}
use Rattle.std.proofs.lemmas.List.Sorted.{All-permutation, list_any-IsPermutation}
use Rattle.graph_parts.proofs.Counting.{is_member-map}
use Rattle.graph_parts.proofs.Distinct.{is_member-append}
use Rattle.state_sums.specs.Networks.{Node}
use Rattle.list_lemmas.proofs.Items.{member_at}
use Rattle.frontier_laws.specs.Orders.{node_at}
use Rattle.frontier_laws.specs.Rises.{rise}
use Rattle.frontier_laws.proofs.Rises.{rise-alike}
use Rattle.graph_parts.proofs.Ends.{is_member-get_or}
use Rattle.frontier_sweep.specs.Rises.{place_key, IsEndsIndex, IsRight, AreRises, IsAfter}

-- The numbers of the ends of the first so many nodes are there, and each is of one of the nodes.
pub record HasEnds (nodes : List Node) (done : ℕ) (index : List ℕ) : Type 0 where
  pub has : (place name : ℕ) → place < done → is_member ◌==◌ (node_at nodes place).ends name ≡ true → is_member ◌==◌ index (place_key name place) ≡ true
  pub below : All (λ key. key % 65536 < length nodes) index

place_key-place : (name place : ℕ) → place < 65536 → place_key name place % 65536 ≡ place
place_key-place name place small = omega (arith, small)

-- ONE NODE MORE
pub ends_more : (nodes : List Node) (done : ℕ) (index : List ℕ) → HasEnds nodes done index → length nodes ≤ 65536 → done < length nodes → (ends next : List ℕ) → ends ≡ (node_at nodes done).ends →
    next ≡ index ++ map (λ name. place_key name done) ends → HasEnds nodes (done + 1) next
ends_more nodes done index h few small ends next ends_are next_is = record {
  has = λ place name less member.
      ap (λ keys. is_member ◌==◌ keys (place_key name place)) next_is
      ∙ is_member-append index (map (λ name. place_key name done) ends) (place_key name place)
      ∙ ⊎_elim
      (λ (before : place < done). or_left (is_member ◌==◌ index (place_key name place)) (is_member ◌==◌ (map (λ name. place_key name done) ends) (place_key name place)) (h.has place name before member))
      (λ (last : place ≡ done).
      let in_ends : is_member ◌==◌ ends name ≡ true = ap (λ ends. is_member ◌==◌ ends name) (ends_are ∙ ap (λ place. (node_at nodes place).ends) (sym last)) ∙ member in
      or_right (is_member ◌==◌ index (place_key name place)) (is_member ◌==◌ (map (λ name. place_key name done) ends) (place_key name place))
      (ap (λ place. is_member ◌==◌ (map (λ name. place_key name done) ends) (place_key name place)) last ∙ is_member-map (λ name. place_key name done) ends name in_ends))
      (let split : (place < done) ⊎ (place ≡ done) = grind (arith, less) in split);
  below = subst (All (λ key. key % 65536 < length nodes)) (sym next_is)
      (All-append (λ key. key % 65536 < length nodes) index (map (λ name. place_key name done) ends) h.below
      (All-map (λ key. key % 65536 < length nodes) (λ name. place_key name done) ends (λ k d within. let at = place_key-place (get_or ends k d) done (omega (arith, few, small)) in omega (arith, at, small))));
}

-- SORTED, THEY ARE THE INDEX
pub index_sorted : (nodes : List Node) (done : ℕ) (keys sorted : List ℕ) → HasEnds nodes done keys → length nodes ≤ done → length nodes ≤ 65536 → IsPermutation keys sorted → IsNonDecreasing sorted → IsEndsIndex nodes sorted
index_sorted nodes done keys sorted h all few permuted increasing = record {
  few = few;
  increasing = increasing;
  has = λ place name small member. sym (list_any-IsPermutation (λ other. place_key name place == other) keys sorted permuted) ∙ h.has place name (omega (arith, small, all)) member;
  below = All-permutation (λ key. key % 65536 < length nodes) keys sorted permuted h.below;
}

-- ---- one end
-- The rises are right at the nodes of the index from low on, but for the one that was taken, and where they were.
pub record AreRefreshedAt (nodes : List Node) (names index before : List ℕ) (taken low at : ℕ) (each : List ℕ) : Type 0 where
  pub whole : length each ≡ length nodes
  pub right : (k : ℕ) → low ≤ k → k < at → slice_index index k % 65536 ≢ taken → IsRight nodes names each (slice_index index k % 65536)
  pub stays : (place : ℕ) → place < length nodes → IsRight nodes names before place → IsRight nodes names each place

-- A right rise more leaves the others right.
set_right : (nodes : List Node) (names each : List ℕ) (place value other : ℕ) → place < length each → value ≡ rise names (node_at nodes place).ends → IsRight nodes names each other → IsRight nodes names (set each place value) other
set_right nodes names each place value other within is right = at (other == place) refl
  where
    at : (b : Bool) → (other == place) ≡ b → IsRight nodes names (set each place value) other
    at true e = let same : other ≡ place = grind (arith, nat_tests, e) in
        subst (λ other. IsRight nodes names (set each place value) other) (sym same) (get_or-set_same each place value 0 within ∙ is)
    at false e = let apart : other ≢ place = grind (arith, nat_tests, e) in get_or-set_other each place other value 0 apart ∙ right

module _ (nodes : List Node) (names index before : List ℕ) (taken low at : ℕ) (each : List ℕ) (h : AreRefreshedAt nodes names index before taken low at each) where
  -- ONE NODE OF THE INDEX MORE
  pub refreshed_more : (value : ℕ) → slice_index index at % 65536 < length nodes → value ≡ rise names (node_at nodes (slice_index index at % 65536)).ends →
      AreRefreshedAt nodes names index before taken low (at + 1) (set each (slice_index index at % 65536) value)
  refreshed_more value below is =
      let place = slice_index index at % 65536 in
      let within : place < length each = (let w = h.whole in omega (arith, w, below)) in
      record {
        whole = length-set each place value ∙ h.whole;
        right = λ k from to apart.
            ⊎_elim
            (λ (less : k < at). set_right nodes names each place value (slice_index index k % 65536) within is (h.right k from less apart))
            (λ (here : k ≡ at).
            let same : place ≡ slice_index index k % 65536 = ap (λ k. slice_index index k % 65536) (sym here) in
            subst (λ other. IsRight nodes names (set each place value) other) same (get_or-set_same each place value 0 within ∙ is))
            (let split : (k < at) ⊎ (k ≡ at) = grind (arith, to) in split);
        stays = λ other small right. set_right nodes names each place value other within is (h.stays other small right);
      }

  -- THE NODE THAT WAS TAKEN
  pub refreshed_past : slice_index index at % 65536 ≡ taken → AreRefreshedAt nodes names index before taken low (at + 1) each
  refreshed_past here = record {
    whole = h.whole;
    right = λ k from to apart.
        ⊎_elim
        (λ (less : k < at). h.right k from less apart)
        (λ (last : k ≡ at). absurd (apart (ap (λ k. slice_index index k % 65536) last ∙ here)))
        (let split : (k < at) ⊎ (k ≡ at) = grind (arith, to) in split);
    stays = h.stays;
  }

  -- THEN THE RISES ARE RIGHT AT ALL NODES THAT HAVE THE END, but for the one that was taken
  pub refreshed_all : IsEndsIndex nodes index → (end : ℕ) → ((k : ℕ) → k < low → slice_index index k < end * 65536) → ((k : ℕ) → at ≤ k → k < length index → end * 65536 + 65536 ≤ slice_index index k) →
      (place : ℕ) → place < length nodes → place ≢ taken → is_member ◌==◌ (node_at nodes place).ends end ≡ true → IsRight nodes names each place
  refreshed_all is end low_before behind place small apart member =
      let few = is.few in
      let found = member_at index (place_key end place) (is.has place end small member) in
      let k = found.0 in
      let here : slice_index index k ≡ end * 65536 + place = found.2 in
      let within = found.1 in
      let from : low ≤ k = not_less k low (λ less. let below = low_before k less in omega (arith, below, here)) in
      let to : k < at = not_more k at (λ more. let above = behind k more within in omega (arith, above, here, small, few)) in
      let key : slice_index index k % 65536 ≡ place = ap (λ key. key % 65536) here ∙ rest place end (omega (arith, small, few)) in
      subst (IsRight nodes names each) key (h.right k from to (λ same. apart (sym key ∙ same)))
    where
      not_less : (k low : ℕ) → (k < low → ⊥) → low ≤ k
      not_less k low less = grind (arith, less)

      not_more : (k high : ℕ) → (high ≤ k → ⊥) → k < high
      not_more k high more = grind (arith, more)

      rest : (place end : ℕ) → place < 65536 → (end * 65536 + place) % 65536 ≡ place
      rest place end small = omega (arith, small)

-- ---- all ends of a node
-- The rises are right at all nodes that have one of the first so many ends, where it is open, and where they were.
pub record AreRefreshed (nodes : List Node) (names ends before : List ℕ) (taken done : ℕ) (each : List ℕ) : Type 0 where
  pub whole : length each ≡ length nodes
  pub right : (k : ℕ) → k < done → is_member ◌==◌ names (slice_index ends k) ≡ true → (place : ℕ) → place < length nodes → place ≢ taken → is_member ◌==◌ (node_at nodes place).ends (slice_index ends k) ≡ true →
      IsRight nodes names each place
  pub stays : (place : ℕ) → place < length nodes → IsRight nodes names before place → IsRight nodes names each place

-- ONE END MORE
pub refreshed_end : (nodes : List Node) (names ends before : List ℕ) (taken done : ℕ) (each : List ℕ) → AreRefreshed nodes names ends before taken done each → (end : ℕ) → end ≡ slice_index ends done → (next : List ℕ) →
    length next ≡ length nodes → (is_member ◌==◌ names end ≡ true → (place : ℕ) → place < length nodes → place ≢ taken → is_member ◌==◌ (node_at nodes place).ends end ≡ true → IsRight nodes names next place) →
    ((place : ℕ) → place < length nodes → IsRight nodes names each place → IsRight nodes names next place) → AreRefreshed nodes names ends before taken (done + 1) next
refreshed_end nodes names ends before taken done each h end end_is next whole right stays = record {
  whole = whole;
  right = λ k small shown place below apart member.
      ⊎_elim
      (λ (less : k < done). stays place below (h.right k less shown place below apart member))
      (λ (here : k ≡ done).
      let same : slice_index ends k ≡ end = ap (slice_index ends) here ∙ sym end_is in
      right (subst (λ name. is_member ◌==◌ names name ≡ true) same shown) place below apart (subst (λ name. is_member ◌==◌ (node_at nodes place).ends name ≡ true) same member))
      (let split : (k < done) ⊎ (k ≡ done) = grind (arith, small) in split);
  stays = λ place below right. stays place below (h.stays place below right);
}

false_not_true : false ≡ true → ⊥
false_not_true e = grind (arith, e)

-- AN END THAT ISN'T OPEN
pub refreshed_none : (nodes : List Node) (names ends before : List ℕ) (taken done : ℕ) (each : List ℕ) → AreRefreshed nodes names ends before taken done each → (end : ℕ) → end ≡ slice_index ends done →
    is_member ◌==◌ names end ≡ false → AreRefreshed nodes names ends before taken (done + 1) each
refreshed_none nodes names ends before taken done each h end end_is none =
    refreshed_end nodes names ends before taken done each h end end_is each h.whole (λ shown. absurd (false_not_true (sym none ∙ shown))) (λ place below right. right)

-- The first of some names that is one of others, if there is one.
shared_end : (names ends : List ℕ) → ((k : ℕ) × (k < length ends) × (is_member ◌==◌ names (slice_index ends k) ≡ true)) ⊎ ((name : ℕ) → is_member ◌==◌ ends name ≡ true → is_member ◌==◌ names name ≡ false)
shared_end names [] = inr (λ name member. absurd (false_not_true member))
shared_end names (end ∷ ends) =
    ⊎_elim
    (λ here. inl (0, omega arith, here))
    (λ apart.
    ⊎_elim
    (λ rest. inl (suc rest.0, omega (arith, rest.1), rest.2))
    (λ none. inr (λ name member.
    ⊎_elim
    (λ (same : (name == end) ≡ true). let e : name ≡ end = grind (arith, nat_tests, same) in ap (is_member ◌==◌ names) e ∙ apart)
    (λ (other : (name == end) ≡ false). none name (rw other at member))
    (cases_Bool (name == end))))
    (shared_end names ends))
    (cases_Bool (is_member ◌==◌ names end))

-- THEN ALL RISES ARE RIGHT: a node left that shares no end has the rise that it had
pub refreshed_whole : (nodes : List Node) (names ends old each : List ℕ) (taken done : ℕ) → length ends ≤ done → AreRefreshed nodes names ends old taken done each → (before left next : List ℕ) → AreRises nodes left before old →
    IsAfter nodes taken ends names before left next → AreRises nodes next names each
refreshed_whole nodes names ends old each taken done all h before left next was after = record {
  whole = h.whole;
  right = λ place below in_next.
      let own = (node_at nodes place).ends in
      let kept = after.kept place in_next in
      ⊎_elim
      (λ shares. h.right shares.0 (let l = shares.1 in omega (arith, l, all)) (after.shared place in_next (slice_index ends shares.0) shares.2 (is_member-get_or ends shares.0 shares.1)) place below kept.1 shares.2)
      (λ apart. h.stays place below (was.right place below kept.0 ∙ sym (rise-alike names before own (λ name member. after.beside name (apart_too own apart name member)))))
      (shared_end own ends);
}
  where
    apart_too : (own : List ℕ) → ((name : ℕ) → is_member ◌==◌ ends name ≡ true → is_member ◌==◌ own name ≡ false) → (name : ℕ) → is_member ◌==◌ own name ≡ true → is_member ◌==◌ ends name ≡ false
    apart_too own apart name member = at (is_member ◌==◌ ends name) refl
      where
        at : (b : Bool) → is_member ◌==◌ ends name ≡ b → b ≡ false
        at false e = refl
        at true e = absurd (false_not_true (sym (apart name e) ∙ member))
