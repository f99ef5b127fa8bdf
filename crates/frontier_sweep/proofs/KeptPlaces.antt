-- The names that are open with one node more, in any order: while they are listed, each name stands as often as it should; and how
-- many they are does not depend on the order.
use Rattle.std.proofs.Common.{◌≡◌, ℕ, ◌+◌, ◌<◌, ◌≤◌, ◌==◌, cond, List, [], ◌∷◌, ◌++◌, length, slice_index, take, take_all, get_or, sym, ap, subst, ◌∙◌, arith}
use Rattle.std.specs.List.{filter, remove}
use Rattle.std.specs.List.Sorted.{IsPermutation}
use Rattle.std.proofs.lemmas.Bool.Decides.{nat_tests}
use Rattle.std.proofs.lemmas.List.{length-append, take_more}
use Rattle.std.proofs.lemmas.List.Sorted.{length_permutation, sum_by-IsPermutation, IsPermutation-remove}
use Rattle.std.proofs.lemmas.List.Sums.{count_by-le-length, length-filter}
use Rattle.state_sums.specs.Networks.{Node, names_of}
use Rattle.state_sums.specs.LocalSums.{open_names_in}
use Rattle.arc_gluing.specs.Laws.{AreFew}
use Rattle.arc_gluing.specs.Pairings.{AreOpen}
use Rattle.arc_gluing.proofs.EachState.{AreOpen-open_names_in, times_in-more}
use Rattle.arc_pairing.specs.Gluing.{open_name_count}
use Rattle.list_lemmas.specs.Times.{times_in}
use Rattle.list_lemmas.proofs.Permuted.{permuted_times}
use Rattle.list_lemmas.proofs.Times.{times_in-append, times_in-cons, times_in-filter}
use Rattle.frontier_laws.specs.Turns.{open_count}
use Rattle.frontier_laws.proofs.OpenNames.{AreOpen-open_names}
use Rattle.frontier_sweep.specs.Places.{is_new}

-- ---- while they are listed
-- Of the first so many names those that are no ends are listed, and each new end is listed or still to be.
pub record IsPlaced (names ends : List ℕ) (done : ℕ) (open_ fresh : List ℕ) : Type 0 where
  pub same : (x : ℕ) → times_in open_ x + times_in fresh x ≡ cond (times_in ends x == 0) (times_in (take done names) x) 0 + cond (is_new names ends x) 1 0
  pub room : length open_ + length fresh ≤ done + 24

-- The same of equal lists.
pub placed_as : (names ends : List ℕ) (done : ℕ) (open_ fresh listed rest : List ℕ) → listed ≡ open_ → rest ≡ fresh → IsPlaced names ends done open_ fresh → IsPlaced names ends done listed rest
placed_as names ends done open_ fresh listed rest a b h = subst (λ listed. IsPlaced names ends done listed rest) (sym a) (subst (IsPlaced names ends done open_) (sym b) h)

-- At first none is.
pub placed_none : (names ends fresh : List ℕ) → fresh ≡ filter (is_new names ends) ends → length ends ≤ 24 → IsPlaced names ends 0 [] fresh
placed_none names ends fresh is few = record {
  same = λ x.
      let f = ap (λ fresh. times_in fresh x) is ∙ times_in-filter (is_new names ends) ends x in
      grind (arith, nat_tests, f);
  room = (let e = ap length is in let f = length-filter (is_new names ends) ends in let b = count_by-le-length (is_new names ends) ends in omega (arith, e, f, b, few));
}

module _ (names ends : List ℕ) (done : ℕ) (open_ fresh : List ℕ) (h : IsPlaced names ends done open_ fresh) (within : done < length names) where
  taken_more : (x : ℕ) → times_in (take (done + 1) names) x ≡ times_in (take done names) x + cond (x == slice_index names done) 1 0
  taken_more x =
      let one = times_in-cons (slice_index names done) [] x in
      ap (λ (names : List ℕ). times_in names x) (take_more names done 0 within)
      ∙ times_in-append (take done names) (slice_index names done ∷ []) x
      ∙ ap (λ n. times_in (take done names) x + n) (grind (arith, one))

  -- A name that is no end stays.
  pub placed_stays : times_in ends (slice_index names done) ≡ 0 → IsPlaced names ends (done + 1) (open_ ++ slice_index names done ∷ []) fresh
  placed_stays none = record {
    same = λ x.
        let s = h.same x in
        let t = taken_more x in
        let a = times_in-append open_ (slice_index names done ∷ []) x in
        let c = times_in-cons (slice_index names done) [] x in
        grind (arith, nat_tests, s, t, a, c, none);
    room = (let r = h.room in let l = length-append open_ (slice_index names done ∷ []) in omega (arith, r, l));
  }

  -- In the place of an end none is listed,
  pub placed_glued : 0 < times_in ends (slice_index names done) → IsPlaced names ends (done + 1) open_ fresh
  placed_glued some = record {
    same = λ x. let s = h.same x in let t = taken_more x in grind (arith, nat_tests, s, t, some);
    room = (let r = h.room in omega (arith, r));
  }

-- or a new one.
pub placed_moved : (names ends : List ℕ) (done : ℕ) (open_ fresh : List ℕ) → IsPlaced names ends done open_ fresh → (place name : ℕ) → place < length fresh → name ≡ get_or fresh place name →
    IsPlaced names ends done (open_ ++ name ∷ []) (remove fresh place)
placed_moved names ends done open_ fresh h place name within is = record {
  same = λ x.
      let s = h.same x in
      let p = sum_by-IsPermutation (λ z. cond (x == z) 1 0) fresh (name ∷ remove fresh place) (IsPermutation-remove fresh place name within is) in
      let a = times_in-append open_ (name ∷ []) x in
      let b = times_in-cons name [] x in
      let c = times_in-cons name (remove fresh place) x in
      grind (arith, nat_tests, s, p, a, b, c);
  room = (let r = h.room in let l = length-append open_ (name ∷ []) in let p = length_permutation fresh (name ∷ remove fresh place) (IsPermutation-remove fresh place name within is) in omega (arith, r, l, p));
}

-- AT THE END THEY ARE LISTED, behind them those that are still to be
pub placed_all : (names ends open_ fresh : List ℕ) → ((x : ℕ) → times_in names x ≤ 1) → IsPlaced names ends (length names) open_ fresh → AreOpen (names ++ ends) (open_ ++ fresh)
placed_all names ends open_ fresh single h = record {
  once = λ x.
      let s = h.same x in
      let o = single x in
      let w = ap (λ names. times_in names x) (take_all (length names) names (omega arith)) in
      let a = times_in-append open_ fresh x in
      let b = times_in-append names ends x in
      grind (arith, nat_tests, s, o, w, a, b);
}

-- Sorted, they are the same.
pub open_sorted : (all names sorted : List ℕ) → AreOpen all names → IsPermutation names sorted → AreOpen all sorted
open_sorted all names sorted h p = record { once = λ x. let e = sum_by-IsPermutation (λ z. cond (x == z) 1 0) names sorted p in e ∙ h.once x }

-- ---- how many they are
pub open_length : (all found : List ℕ) → AreOpen all found → length found ≡ open_name_count all
open_length all found h =
    let single = AreOpen-open_names_in all in
    length_permutation (open_names_in all) found (permuted_times found (open_names_in all) (λ x. single.once x ∙ sym (h.once x)))
    ∙ length-filter (λ x. times_in all x == 1) all

module _ (nodes : List Node) (node : Node) (few : AreFew (nodes ++ node ∷ [])) (names : List ℕ) (open_in : AreOpen (names_of nodes) names) where
  -- Whether a name stands once with the node can be told from the names that were open before.
  pub open_more : (outer : List ℕ) → AreOpen (names ++ node.ends) outer → AreOpen (names_of (nodes ++ node ∷ [])) outer
  open_more outer h = record {
    once = λ x.
        let a = h.once x in
        let b = times_in-append names node.ends x in
        let c = open_in.once x in
        let d = times_in-more nodes node x in
        let e = few x in
        grind (arith, nat_tests, a, b, c, d, e);
  }

  -- None of the names that were open before and of the node's ends stands more than twice.
  pub few_more : (x : ℕ) → times_in (names ++ node.ends) x ≤ 2
  few_more x =
      let b = times_in-append names node.ends x in
      let c = open_in.once x in
      let d = times_in-more nodes node x in
      let e = few x in
      grind (arith, nat_tests, b, c, d, e)

-- AS MANY NAMES ARE OPEN IN ANY ORDER
pub count_open : (nodes : List Node) (names : List ℕ) → AreOpen (names_of nodes) names → length names ≡ open_count nodes
count_open nodes names h = open_length (names_of nodes) names h ∙ sym (open_length (names_of nodes) _ (AreOpen-open_names nodes))

pub count_more : (nodes : List Node) (node : Node) → AreFew (nodes ++ node ∷ []) → (names : List ℕ) → AreOpen (names_of nodes) names → open_name_count (names ++ node.ends) ≡ open_count (nodes ++ node ∷ [])
count_more nodes node few names open_in =
    let all = names ++ node.ends in
    sym (length-filter (λ x. times_in all x == 1) all)
    ∙ count_open (nodes ++ node ∷ []) (open_names_in all) (open_more nodes node few names open_in (open_names_in all) (AreOpen-open_names_in all))
