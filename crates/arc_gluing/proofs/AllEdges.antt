-- All edges, one by one: the mates know the ends of all paths, and the loops that closed are the labels that were lost.
use Rattle.std.proofs.Common.{◌≡◌, ◌≢◌, ℕ, ◌+◌, Bool, true, cond, ◌==◌, List, [], ◌∷◌, ◌++◌, map, refl, sym, ap, ◌∙◌, arith}
use Rattle.std.specs.Set.{is_member}
use Rattle.std.proofs.lemmas.Bool.{eq-eqb, or_left, or_right}
use Rattle.std.proofs.lemmas.Bool.Decides.{nat_tests}
use Rattle.arc_gluing.proofs.OneEdge as step
use Rattle.graph_parts.proofs.Counting.{label_count-relabel, label_count-joined, distinct_count-cons, is_member-map}
use Rattle.graph_parts.specs.Ends.{EndsAre, ends_of}
use Rattle.graph_parts.specs.Labels.{relabel, label_after, label_count}
use Rattle.list_lemmas.specs.Times.{times_in}
use Rattle.arc_gluing.specs.Mates.{joined_mates, closes, mates_after, loops_after, IsMated}
use Rattle.graph_parts.proofs.Through.{member_label}
use Rattle.list_lemmas.proofs.Times.{times_of_member, member_of_times, times_in-pair}

module _ (a b : ℕ) (rest : List ℕ) (mate label : ℕ → ℕ) (h : IsMated (times_in (a ∷ b ∷ rest)) mate label) (names : List ℕ) (p : is_member ◌==◌ names a ≡ true) (q : is_member ◌==◌ names b ≡ true) where
  count_closed : mate a ≡ b → 1 + label_count (relabel label (a, b)) rest + label_count label names ≡ label_count (relabel label (a, b)) names + label_count label (a ∷ b ∷ rest)
  count_closed loop =
      let times = times_in (a ∷ b ∷ rest) in let left = times_in rest in let split = times_in-pair a b rest in
      let same : label a ≡ label b = step.label_same a b times left mate label split h loop in
      let e = label_count-joined label a b names same in
      let f = label_count-joined label a b rest same in
      let c = distinct_count-cons (label a) (map label (b ∷ rest)) in
      let d = distinct_count-cons (label b) (map label rest) in
      let m = member_label label b rest (λ z mz k.
      let tz = times_of_member z rest mz in
      let na : z ≢ a = step.not_a a b times left mate label split h loop z tz in
      let nb : z ≢ b = step.not_b a b times left mate label split h loop z tz in
      nb (h.only a z (step.has_a a b times left mate label split h) (let s = split z in omega (arith, s, tz)) (same ∙ k) na ∙ loop)) in
      grind (arith, nat_tests, e, f, c, d, m, same)

  count_open : mate a ≢ b → label_count (relabel label (a, b)) rest + label_count label names ≡ label_count (relabel label (a, b)) names + label_count label (a ∷ b ∷ rest)
  count_open open_ =
      let times = times_in (a ∷ b ∷ rest) in let left = times_in rest in let split = times_in-pair a b rest in
      let after : ℕ → ℕ = relabel label (a, b) in
      let d : label a ≢ label b = step.lab_apart a b times left mate label split h open_ in
      let e = label_count-relabel label a b names p q in
      let f = label_count-relabel label a b (a ∷ b ∷ rest) (or_left (a == a) _ (eq-eqb a a refl)) (or_right (b == a) _ (or_left (b == b) _ (eq-eqb b b refl))) in
      let u : is_member ◌==◌ rest (mate a) ≡ true = member_of_times (mate a) rest (let k = step.left_u a b times left mate label split h open_ in omega (arith, k)) in
      let g = is_member-map after rest (mate a) u in
      let lu : after (mate a) ≡ label b = step.lab_u a b times left mate label split h open_ in
      let la : after a ≡ label b = grind (arith, nat_tests) in
      let lb : after b ≡ label b = grind (arith, nat_tests) in
      let ma : is_member ◌==◌ (map after rest) (after a) ≡ true = ap (is_member ◌==◌ (map after rest)) (la ∙ sym lu) ∙ g in
      let mb : is_member ◌==◌ (map after rest) (after b) ≡ true = ap (is_member ◌==◌ (map after rest)) (lb ∙ sym lu) ∙ g in
      let c1 = distinct_count-cons (after a) (map after (b ∷ rest)) in
      let c2 = distinct_count-cons (after b) (map after rest) in
      let ma2 : is_member ◌==◌ (map after (b ∷ rest)) (after a) ≡ true = or_right (after a == after b) _ ma in
      let k1 = ap {B = ℕ} (λ t. cond t 0 1) ma2 in
      let k2 = ap {B = ℕ} (λ t. cond t 0 1) mb in
      let cost : Bool → ℕ = λ t. cond t 0 1 in
      let k3 : cost (label a == label b) ≡ 1 = grind (arith, nat_tests, d) in
      omega (arith, e, f, c1, c2, k1, k2, k3)

  count_step : closes mate (a, b) + label_count (relabel label (a, b)) rest + label_count label names ≡ label_count (relabel label (a, b)) names + label_count label (a ∷ b ∷ rest)
  count_step = let c = count_closed in let o = count_open in grind (arith, nat_tests, c, o)

-- THE MATES AFTER ALL EDGES
pub IsMated-after : (edges : List (ℕ × ℕ)) (out : List ℕ) (mate label : ℕ → ℕ) → IsMated (times_in (ends_of edges ++ out)) mate label →
    IsMated (times_in out) (mates_after mate edges) (label_after label edges)
IsMated-after [] out mate label h = h
IsMated-after (e ∷ edges) out mate label h =
    IsMated-after edges out (joined_mates mate e) (relabel label e)
    (step.IsMated-joined e.0 e.1 (times_in (e.0 ∷ e.1 ∷ ends_of edges ++ out)) (times_in (ends_of edges ++ out)) mate label (times_in-pair e.0 e.1 (ends_of edges ++ out)) h)

-- THE LOOPS AFTER ALL EDGES
pub loops_after-count : (edges : List (ℕ × ℕ)) (out names : List ℕ) (mate label : ℕ → ℕ) → IsMated (times_in (ends_of edges ++ out)) mate label → EndsAre (is_member ◌==◌ names) edges →
    loops_after mate edges + label_count (label_after label edges) out + label_count label names ≡ label_count (label_after label edges) names + label_count label (ends_of edges ++ out)
loops_after-count [] out names mate label h p = omega arith
loops_after-count (e ∷ edges) out names mate label h p =
    let ih = loops_after-count edges out names (joined_mates mate e) (relabel label e)
    (step.IsMated-joined e.0 e.1 (times_in (e.0 ∷ e.1 ∷ ends_of edges ++ out)) (times_in (ends_of edges ++ out)) mate label (times_in-pair e.0 e.1 (ends_of edges ++ out)) h) p.2 in
    let s = count_step e.0 e.1 (ends_of edges ++ out) mate label h names p.0 p.1 in
    omega (arith, ih, s)
