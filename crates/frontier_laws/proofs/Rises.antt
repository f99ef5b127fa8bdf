-- By how much the number of open names rises when a node is taken: what it is beside the number of names that are open then, and
-- that it depends on no name but the node's ends. The names that are ends are counted along the names and along the ends.
use Rattle.std.proofs.Common.{◌≡◌, ℕ, ◌+◌, ◌≤◌, ◌==◌, ◌&&◌, Bool, true, cond, not, List, [], ◌∷◌, ◌++◌, length, refl, sym, ap, ◌∙◌, arith}
use Rattle.std.specs.List.{sum_by, count_by}
use Rattle.std.specs.Set.{is_member}
use Rattle.std.proofs.lemmas.Bool.{eq-eqb, or_left, or_right}
use Rattle.std.proofs.lemmas.Bool.Decides.{nat_tests}
use Rattle.std.proofs.lemmas.List.Sums.{sum_by-cons, count_by-le-length}
use Rattle.state_sums.specs.Networks.{Node}
use Rattle.graph_parts.proofs.PartLaws.{count_by_all}
use Rattle.graph_parts.proofs.Rounds.{count_by-cons}
use Rattle.list_lemmas.proofs.Sums.{sum_by_same}
use Rattle.list_lemmas.specs.Times.{times_in}
use Rattle.list_lemmas.proofs.Times.{times_in-cons, times_in-append, times_of_member, times_none}
use Rattle.arc_gluing.specs.Laws.{AreFew}
use Rattle.arc_pairing.specs.Gluing.{open_name_count}
use Rattle.frontier_laws.specs.Orders.{open_names}
use Rattle.frontier_laws.specs.Rises.{opening, closing, rise}
use Rattle.frontier_laws.proofs.OpenNames.{few_after}
use Rattle.frontier_laws.proofs.OpenWith.{open_name_count-once, once_open}

-- ---- two lists, each counted along the other
sum_zero : (xs : List ℕ) → sum_by (λ x. times_in [] x) xs ≡ 0
sum_zero [] = refl
sum_zero (x ∷ xs) = let ih = sum_zero xs in let a = sum_by-cons (λ x. times_in [] x) x xs in omega (arith, ih, a)

sum_both : (f g : ℕ → ℕ) (xs : List ℕ) → sum_by (λ x. f x + g x) xs ≡ sum_by f xs + sum_by g xs
sum_both f g [] = refl
sum_both f g (x ∷ xs) =
    let ih = sum_both f g xs in
    let a = sum_by-cons (λ x. f x + g x) x xs in let b = sum_by-cons f x xs in let c = sum_by-cons g x xs in
    omega (arith, ih, a, b, c)

sum_alike : (f g : ℕ → ℕ) (xs : List ℕ) → ((x : ℕ) → is_member ◌==◌ xs x ≡ true → f x ≡ g x) → sum_by f xs ≡ sum_by g xs
sum_alike f g [] same = refl
sum_alike f g (x ∷ xs) same =
    let here : f x ≡ g x = same x (or_left (x == x) (is_member ◌==◌ xs x) (eq-eqb x x refl)) in
    let ih = sum_alike f g xs (λ y m. same y (or_right (y == x) (is_member ◌==◌ xs y) m)) in
    let a = sum_by-cons f x xs in let b = sum_by-cons g x xs in
    omega (arith, here, ih, a, b)

one_turned : (x e : ℕ) → cond {A = ℕ} (e == x) 1 0 ≡ cond (x == e) 1 0
one_turned x e = grind (arith, nat_tests)

-- How often each of some names stands among others, summed, is how often each of these stands among the first.
times_turned : (names ends : List ℕ) → sum_by (λ x. times_in ends x) names ≡ sum_by (λ e. times_in names e) ends
times_turned [] ends = sym (sum_zero ends)
times_turned (x ∷ names) ends =
    let ih = times_turned names ends in
    let a = sum_by-cons (λ x. times_in ends x) x names in
    let b = sum_by_same (λ e. times_in (x ∷ names) e) (λ e. cond (e == x) 1 0 + times_in names e) ends (λ e. times_in-cons x names e) in
    let c = sum_both (λ e. cond (e == x) 1 0) (λ e. times_in names e) ends in
    let d : sum_by (λ e. cond (e == x) 1 0) ends ≡ times_in ends x = sum_by_same (λ e. cond (e == x) 1 0) (λ e. cond (x == e) 1 0) ends (one_turned x) in
    omega (arith, ih, a, b, c, d)

module _ (names ends : List ℕ) (once : (x : ℕ) → times_in names x ≤ 1) (few : (x : ℕ) → times_in (names ++ ends) x ≤ 2) where
  along_names : (x : ℕ) → is_member ◌==◌ names x ≡ true → times_in ends x ≡ cond (is_member ◌==◌ ends x) 1 0
  along_names x member =
      let some = times_of_member x names member in
      let both = times_in-append names ends x in
      let two = few x in
      let yes = times_of_member x ends in
      let no = times_none ends x in
      grind (arith, some, both, two, yes, no)

  along_ends : (e : ℕ) → is_member ◌==◌ ends e ≡ true → times_in names e ≡ cond (is_member ◌==◌ names e) 1 0
  along_ends e member =
      let one = once e in
      let yes = times_of_member e names in
      let no = times_none names e in
      grind (arith, one, yes, no)

  -- The names that are ends are as many as the ends that are names.
  closing_turned : count_by (λ name. is_member ◌==◌ ends name) names ≡ closing names ends
  closing_turned = sym (sum_alike (λ x. times_in ends x) (λ x. cond (is_member ◌==◌ ends x) 1 0) names along_names) ∙ times_turned names ends ∙ sum_alike (λ e. times_in names e) (λ e. cond (is_member ◌==◌ names e) 1 0) ends along_ends

  -- THE RISE AND THE NUMBER OF NAMES THAT ARE OPEN THEN
  pub rise_and_open : length names ≤ 24 → rise names ends + length names ≡ open_name_count (names ++ ends) + 24
  rise_and_open short =
      let all = open_name_count-once names ends once in
      let parts = count_both (λ name. is_member ◌==◌ ends name) names in
      let turned = closing_turned in
      let most = count_by-le-length (λ name. is_member ◌==◌ ends name) names in
      omega (arith, all, parts, turned, most, short)
    where
      count_both : (test : ℕ → Bool) (xs : List ℕ) → count_by test xs + count_by (λ x. not (test x)) xs ≡ length xs
      count_both test [] = refl
      count_both test (x ∷ xs) =
          let ih = count_both test xs in
          let a = count_by-cons test x xs in
          let b = count_by-cons (λ x. not (test x)) x xs in
          grind (arith, ih, a, b)

-- THE RISE OF A NODE THAT IS LEFT: beside the names that are open before, it is how many are open then
pub rise-open : (nodes : List Node) (node : Node) → AreFew (nodes ++ node ∷ []) → length (open_names nodes) ≤ 24 →
    rise (open_names nodes) node.ends + length (open_names nodes) ≡ open_name_count (open_names nodes ++ node.ends) + 24
rise-open nodes node few short = rise_and_open (open_names nodes) node.ends (once_open nodes (open_names nodes) refl) (few_after nodes node few) short

-- NAMES THAT ARE NO ENDS DON'T MATTER
pub rise-alike : (names others ends : List ℕ) → ((x : ℕ) → is_member ◌==◌ ends x ≡ true → is_member ◌==◌ names x ≡ is_member ◌==◌ others x) → rise names ends ≡ rise others ends
rise-alike names others ends same =
    let opens : opening names ends ≡ opening others ends = count_by_all _ _ ends (λ x m. ap (λ b. not b && (times_in ends x == 1)) (same x m)) in
    let closes : closing names ends ≡ closing others ends = count_by_all _ _ ends (λ x m. same x m) in
    omega (arith, opens, closes)
