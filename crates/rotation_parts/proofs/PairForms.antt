-- Flatness where the edges are given by a pairing: 2 (V + F) = n + 4k.
use Rattle.std.proofs.Common.{◌≡◌, ◌≤◌, ◌<◌, ℕ, zero, suc, ◌+◌, ◌*◌, ◌==◌, Bool, true, false, cond, not, ltb, List, [], ◌∷◌, ◌++◌, map, length, count_by, filter, refl, sym, ap, ◌∙◌, subst, arith, ⊎_elim}
use Rattle.std.specs.List.{range_with_len}
use Rattle.std.specs.Set.{is_member, distinct_count}
use Rattle.std.proofs.lemmas.Bool.{eqb-true, cases_Bool, or_cases, or_left, or_right, ltb-true}
use Rattle.std.proofs.lemmas.Bool.Decides.{nat_tests}
use Rattle.std.proofs.lemmas.List.Elements.{Contains-append_left, Contains-append_right, Contains-append_cases}
use Rattle.std.proofs.lemmas.List.Filters.{length-filter_both}
use Rattle.std.proofs.lemmas.List.FromFn.{length-range_with_len}
use Rattle.std.proofs.lemmas.List.Sums.{length-filter}
use Rattle.graph_parts.specs.Ends.{AreAmong}
use Rattle.graph_parts.specs.Parts.{part_count}
use Rattle.graph_parts.specs.Walks.{along, on}
use Rattle.graph_parts.proofs.Agreement.{to_All}
use Rattle.graph_parts.proofs.Counting.{distinct_count-cons}
use Rattle.graph_parts.proofs.Distinct.{distinct_count-le_from_within}
use Rattle.graph_parts.proofs.Ends.{EndsAre-append}
use Rattle.graph_parts.proofs.Numbered.{numbered-member as in_range, is_member-numbered as range_has}
use Rattle.rotation_parts.specs.Laws.{PairFormLaw}
use Rattle.rotation_parts.specs.Rotations.{across, steps, cycle_count, follower, faces_of, pieces_of, paired_edges, IsPermutation, IsPairing, pair_graph}
use Rattle.rotation_parts.proofs.Exchange.{mapped_member, mapped_count}
use Rattle.rotation_parts.proofs.FlatEdges.{across_joined, graph_among}
use Rattle.rotation_parts.proofs.Pairings.{across_paired, paired_count, paired_contains, paired_ends}
use Rattle.rotation_parts.proofs.Steps.{same_steps, same_parts, step_of, walks, equal_joined, step_along, steps_among}

pub range_from : (a n q : ℕ) → is_member ◌==◌ (range_with_len a n) q ≡ true → a ≤ q
range_from a zero q m = absurd (grind (arith, m))
range_from a (suc n) q m = ⊎_elim (λ e. let t = eqb-true q a e in omega (arith, t)) (λ r. let ih = range_from (a + 1) n q r in omega (arith, ih)) (or_cases (q == a) (is_member ◌==◌ (range_with_len (a + 1) n) q) m)

-- ---- a pairing has half as many edges as names
pub filter_member : (p : ℕ → Bool) (xs : List ℕ) (x : ℕ) → is_member ◌==◌ (filter p xs) x ≡ true → (is_member ◌==◌ xs x ≡ true) × (p x ≡ true)
filter_member p [] x m = absurd (grind (arith, m))
filter_member p (y ∷ xs) x m =
    let Q : Bool → Type 0 = λ b. is_member ◌==◌ (cond b (y ∷ filter p xs) (filter p xs)) x ≡ true → p y ≡ b → (is_member ◌==◌ (y ∷ xs) x ≡ true) × (p x ≡ true) in
    let later : is_member ◌==◌ (filter p xs) x ≡ true → (is_member ◌==◌ (y ∷ xs) x ≡ true) × (p x ≡ true) = λ h. (let r = filter_member p xs x h in (or_right (x == y) (is_member ◌==◌ xs x) r.0, r.1)) in
    let yes : Q true = λ h t. ⊎_elim (λ e. let s = eqb-true x y e in (or_left (x == y) (is_member ◌==◌ xs x) e, ap p s ∙ t)) (λ r. later r) (or_cases (x == y) (is_member ◌==◌ (filter p xs) x) h) in
    let none : Q false = λ h t. later h in
    ⊎_elim (λ t. subst Q (sym t) yes m refl) (λ t. subst Q (sym t) none m refl) (cases_Bool (p y))

pub member_filter : (p : ℕ → Bool) (xs : List ℕ) (x : ℕ) → is_member ◌==◌ xs x ≡ true → p x ≡ true → is_member ◌==◌ (filter p xs) x ≡ true
member_filter p [] x m t = absurd (grind (arith, m))
member_filter p (y ∷ xs) x m t =
    let P : Bool → Type 0 = λ b. is_member ◌==◌ (cond b (y ∷ filter p xs) (filter p xs)) x ≡ true in
    ⊎_elim
    (λ e. let s = eqb-true x y e in subst P (sym (ap p (sym s) ∙ t)) (or_left (x == y) (is_member ◌==◌ (filter p xs) x) e))
    (λ r. let ih = member_filter p xs x r t in ⊎_elim (λ u. subst P (sym u) (or_right (x == y) (is_member ◌==◌ (filter p xs) x) ih)) (λ u. subst P (sym u) ih) (cases_Bool (p y)))
    (or_cases (x == y) (is_member ◌==◌ xs x) m)

filter_distinct : (p : ℕ → Bool) (a n : ℕ) → distinct_count ◌==◌ (filter p (range_with_len a n)) ≡ length (filter p (range_with_len a n))
filter_distinct p a zero = refl
filter_distinct p a (suc n) =
    let rest = filter p (range_with_len (a + 1) n) in
    let ih = filter_distinct p (a + 1) n in
    let P : Bool → Type 0 = λ b. distinct_count ◌==◌ (cond b (a ∷ rest) rest) ≡ length (cond b (a ∷ rest) rest) in
    let c = distinct_count-cons a rest in
    let out : is_member ◌==◌ rest a ≡ false =
    ⊎_elim (λ t. absurd (let l = range_from (a + 1) n a (filter_member p (range_with_len (a + 1) n) a t).0 in omega (arith, l))) (λ f. f) (cases_Bool (is_member ◌==◌ rest a)) in
    let one : P true = (let z : cond {A = ℕ} (is_member ◌==◌ rest a) 0 1 ≡ 1 = ap (λ b. cond {A = ℕ} b 0 1) out in omega (arith, c, ih, z)) in
    ⊎_elim (λ t. subst P (sym t) one) (λ t. subst P (sym t) ih) (cases_Bool (p a))

module _ (n : ℕ) (other : ℕ → ℕ) (is : IsPairing n other) where
  abbrev names : List ℕ
  names = range_with_len 0 n

  abbrev lower : ℕ → Bool
  lower p = ltb p (other p)

  abbrev upper : ℕ → Bool
  upper p = not (ltb p (other p))

  permutes : IsPermutation names other other
  permutes = record {
    inside = λ x m. range_has n (other x) (is.low x (in_range n x m));
    inside_back = λ x m. range_has n (other x) (is.low x (in_range n x m));
    undone = λ x m. is.twice x (in_range n x m);
    done_again = λ x m. is.twice x (in_range n x m);
  }

  within : (f g : ℕ → Bool) → ((x : ℕ) → x < n → f x ≡ true → g (other x) ≡ true) → length (filter f names) ≤ length (filter g names)
  within f g h =
      let fs = filter f names in
      let a = filter_distinct f 0 n in
      let b = filter_distinct g 0 n in
      let c = mapped_count names other other permutes fs (to_All (is_member ◌==◌ names) fs (λ x m. (filter_member f names x m).0)) in
      let d = distinct_count-le_from_within (map other fs) (filter g names)
      (to_All (is_member ◌==◌ (filter g names)) (map other fs) (λ y m.
      let w = mapped_member other fs y m in
      let r = filter_member f names w.0 w.1 in
      let l = in_range n w.0 r.0 in
      ap (is_member ◌==◌ (filter g names)) (sym w.2) ∙ member_filter g names (other w.0) (range_has n (other w.0) (is.low w.0 l)) (h w.0 l r.1))) in
      omega (arith, a, b, c, d)

  pub half : 2 * count_by lower names ≡ n
  half =
      let both = length-filter_both lower upper (λ x. refl) names in
      let long = length-range_with_len 0 n in
      let count = length-filter lower names in
      let up = within lower upper (λ x l t. let lt = ltb-true x (other x) t in let tw = is.twice x l in grind (arith, nat_tests, lt, tw)) in
      let down = within upper lower (λ x l t. let ne = is.apart x l in let tw = is.twice x l in grind (arith, nat_tests, t, ne, tw)) in
      omega (arith, both, long, count, up, down)

module _ (n : ℕ) (turn before other : ℕ → ℕ) (turns : IsPermutation (range_with_len 0 n) turn before) (is : IsPairing n other) where
  abbrev pub all : List ℕ
  all = range_with_len 0 n

  abbrev pub edges : List (ℕ × ℕ)
  edges = paired_edges other all

  pub edges_among : AreAmong all edges
  edges_among = paired_ends (is_member ◌==◌ all) other all (λ p m. (m, range_has n (other p) (is.low p (in_range n p m))))

  across_is : (x : ℕ) → is_member ◌==◌ all x ≡ true → across edges x ≡ other x
  across_is x m = across_paired n other is x (in_range n x m)

  faces_form : faces_of all turn edges ≡ cycle_count all (λ x. turn (other x))
  faces_form = ap (part_count all) (same_steps (follower turn edges) (λ x. turn (other x)) all (λ x m. ap turn (across_is x m)))

  pieces_form : pieces_of all turn edges ≡ part_count all (pair_graph all turn other)
  pieces_form =
      let turn_steps = steps turn all in
      let es = edges ++ turn_steps in
      let fs = pair_graph all turn other in
      same_parts all es fs (graph_among all turn before turns edges edges_among)
      (EndsAre-append (is_member ◌==◌ all) (steps other all) turn_steps
      (steps_among other all (λ x m. range_has n (other x) (is.low x (in_range n x m)))) (steps_among turn all turns.inside))
      (λ x y j. walks es fs (λ u v c. ⊎_elim
      (λ l. let r = paired_contains other all u v l in
      on (walks (steps other all) fs (λ a b d. along (Contains-append_left (steps other all) turn_steps (a, b) d)) (step_along other all u r.0)) (equal_joined fs (other u) v r.1))
      (λ l. along (Contains-append_right (steps other all) turn_steps (u, v) l))
      (Contains-append_cases edges turn_steps (u, v) c)) j)
      (λ x y j. walks fs es (λ u v c. ⊎_elim
      (λ l. let r = step_of other all u v l in
      on (walks edges es (λ a b d. along (Contains-append_left edges turn_steps (a, b) d)) (across_joined edges u))
      (equal_joined es (across edges u) v (across_is u r.0 ∙ r.1)))
      (λ l. along (Contains-append_right edges turn_steps (u, v) l))
      (Contains-append_cases (steps other all) turn_steps (u, v) c)) j)

pub pair_form : PairFormLaw
pair_form n turn before other turns is =
    let all = range_with_len 0 n in
    let edges = paired_count other all in
    let halves = half n other is in
    let faces = faces_form n turn before other turns is in
    let pieces = pieces_form n turn before other turns is in
    ((λ h. omega (arith, h, edges, halves, faces, pieces)), (λ h. omega (arith, h, edges, halves, faces, pieces)))
