-- One node more behind a choice of terms: the pairing and the closed parts after it, by labels. The pairing so far stands in for
-- the edges of the choice, so that only its pairs and the term's are joined.
use Rattle.std.proofs.Common.{◌≡◌, ℕ, ◌+◌, ◌≤◌, true, ◌==◌, List, ◌++◌, map, length, slice_index, sym, subst, arith}
use Rattle.std.specs.Set.{is_member}
use Rattle.std.specs.List.{AllPass}
use Rattle.std.proofs.lemmas.Bool.Decides.{nat_tests}
use Rattle.list_lemmas.proofs.Times.{times_of_member, member_of_times, times_in-append}
use Rattle.arc_gluing.proofs.Glued.{glued}
use Rattle.arc_gluing.proofs.Places.{AreOnce, AreOnce-from_times, place_in-at, place_in-found, label_partners-is}
use Rattle.arc_gluing.proofs.PointPairs.{times_in-pairs}
use Rattle.list_lemmas.proofs.Items.{all_pass_at}
use Rattle.arc_gluing.proofs.Glued.{EndsAre-pair_edges}
use Rattle.arc_gluing.proofs.Through.{label_closed-pairing, IsPairedLabels-through}
use Rattle.graph_parts.proofs.Distinct.{is_member-append}
use Rattle.graph_parts.proofs.Ends.{EndsAre-append, EndsAre-weaker, is_member-get_or}
use Rattle.graph_parts.specs.Ends.{EndsAre, ends_of}
use Rattle.graph_parts.specs.Patterns.{label_closed}
use Rattle.state_sums.specs.Networks.{IsPairing}
use Rattle.graph_parts.specs.Labels.{label_of}
use Rattle.arc_gluing.proofs.Copied.{stepped}
use Rattle.arc_gluing.specs.Mates.{mates_after, pairs_below, IsMated, IsPairedLabels, label_partners}
use Rattle.arc_gluing.specs.Pairings.{pair_edges, AreOpen}
use Rattle.arc_gluing.specs.Seams.{AreOpenBehind, place_in}
use Rattle.list_lemmas.specs.Times.{times_in}

-- a choice pairs the open names
pub record IsChoice (names open_names : List ℕ) (es : List (ℕ × ℕ)) : Type 0 where
  pub inside : EndsAre (is_member ◌==◌ names) es
  pub paired : IsPairedLabels es open_names (label_partners es open_names)

pub AreOnce-open : (names open_names : List ℕ) → AreOpen names open_names → AreOnce open_names
AreOnce-open names open_names h = AreOnce-from_times open_names (λ x. let k = h.once x in grind (arith, nat_tests, k))

module _ (names ends inner outer : List ℕ) (few : (x : ℕ) → times_in names x + times_in ends x ≤ 2) (open_in : AreOpen names inner) (out : AreOpenBehind inner ends outer) where
  pub open_out : AreOpen (names ++ ends) outer
  open_out = record { once = λ x. let a = times_in-append names ends x in let b = few x in let c = open_in.once x in let d = out.once x in grind (arith, nat_tests, a, b, c, d) }

  has : AllPass (is_member ◌==◌ names) inner
  has = all_pass_at (is_member ◌==◌ names) inner (λ i l. let x = slice_index inner i in
      let t = times_of_member x inner (is_member-get_or inner i l) in let c = open_in.once x in member_of_times x names (grind (arith, nat_tests, t, c)))

  meets : (x : ℕ) → is_member ◌==◌ ends x ≡ true → is_member ◌==◌ names x ≡ true → is_member ◌==◌ inner x ≡ true
  meets x m n = let a = times_of_member x ends m in let b = times_of_member x names n in let c = few x in let d = open_in.once x in member_of_times x inner (grind (arith, nat_tests, a, b, c, d))

  left : AllPass (is_member ◌==◌ (ends ++ inner)) outer
  left = all_pass_at (is_member ◌==◌ (ends ++ inner)) outer (λ i l. let x = slice_index outer i in
      let t = times_of_member x outer (is_member-get_or outer i l) in let c = out.once x in let a = times_in-append ends inner x in member_of_times x (ends ++ inner) (grind (arith, nat_tests, t, c, a)))

  once_out : AreOnce outer
  once_out = AreOnce-open (names ++ ends) outer open_out

  module _ (es : List (ℕ × ℕ)) (choice : IsChoice names inner es) (term : List ℕ) (pt : IsPairing term) (lt : length term ≡ length ends) where
    abbrev old : List ℕ
    old = label_partners es inner

    lo : length (label_partners es inner) ≡ length inner
    lo = choice.paired.whole

    abbrev short : List (ℕ × ℕ)
    short = pair_edges inner (label_partners es inner) ++ pair_edges ends term

    abbrev mate : ℕ → ℕ
    mate = mates_after (λ y. y) (pairs_below inner (label_partners es inner) (length (label_partners es inner)))

    abbrev rest : List (ℕ × ℕ)
    rest = pairs_below ends term (length term)

    abbrev found : List ℕ
    found = map (λ x. place_in outer (mates_after mate rest x)) outer

    single : (x : ℕ) → times_in inner x ≤ 1
    single x = let k = open_in.once x in grind (arith, nat_tests, k)

    start : IsMated (times_in (ends_of rest ++ outer)) mate (label_of (pairs_below inner (label_partners es inner) (length (label_partners es inner))))
    start = stepped inner ends outer (label_partners es inner) rest choice.paired.is_pairing lo out (λ x. times_in-pairs ends term pt x lt) single

    short_any : IsPairedLabels short outer found
    short_any = glued inner ends outer (label_partners es inner) term choice.paired.is_pairing pt lo lt out single mate start (place_in outer) (place_in-at outer once_out) (place_in-found outer once_out)

    pub short_paired : IsPairedLabels short outer (label_partners short outer)
    short_paired = let P : List ℕ → Type 0 = λ p. IsPairedLabels short outer p in subst P (sym (label_partners-is short outer found once_out short_any)) short_any

    term_inside : EndsAre (is_member ◌==◌ ends) (pair_edges ends term)
    term_inside = EndsAre-pair_edges ends term pt lt

    whole_any : IsPairedLabels (es ++ pair_edges ends term) outer (label_partners short outer)
    whole_any = IsPairedLabels-through names ends inner outer (label_partners es inner) es (pair_edges ends term) choice.inside term_inside has meets left choice.paired (label_partners short outer) short_paired

    -- THE PAIRING AFTER A GLUING
    pub label_partners-glue : label_partners (es ++ pair_edges ends term) outer ≡ label_partners short outer
    label_partners-glue = label_partners-is (es ++ pair_edges ends term) outer (label_partners short outer) once_out whole_any

    pub label_closed-more : label_closed (es ++ pair_edges ends term) (names ++ ends) outer ≡ label_closed es names inner + label_closed short (inner ++ ends) outer
    label_closed-more = label_closed-pairing names ends inner outer (label_partners es inner) es (pair_edges ends term) choice.inside term_inside has meets left choice.paired

    -- THE CHOICE WITH ONE TERM MORE
    pub next_choice : IsChoice (names ++ ends) outer (es ++ pair_edges ends term)
    next_choice = record {
      inside = EndsAre-append (is_member ◌==◌ (names ++ ends)) es (pair_edges ends term)
          (EndsAre-weaker (is_member ◌==◌ names) (is_member ◌==◌ (names ++ ends)) (λ x m. let a = is_member-append names ends x in grind (arith, a, m)) es choice.inside)
          (EndsAre-weaker (is_member ◌==◌ ends) (is_member ◌==◌ (names ++ ends)) (λ x m. let a = is_member-append names ends x in grind (arith, a, m)) (pair_edges ends term) term_inside);
      paired = let P : List ℕ → Type 0 = λ p. IsPairedLabels (es ++ pair_edges ends term) outer p in subst P (sym label_partners-glue) whole_any;
    }
