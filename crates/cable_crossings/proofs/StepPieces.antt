-- A run of steps on n strands as a piece: how often its names stand. So steps that spell one word count alike at any names that
-- stand twice.
use Rattle.std.proofs.Common.{◌≡◌, ◌≢◌, ℕ, zero, suc, ◌+◌, ◌*◌, ◌<◌, ◌≤◌, ◌==◌, ◌||◌, ◌⊎◌, inl, inr, Bool, true, false, cond, List, [], ◌∷◌, ◌++◌, map, refl, sym, ap, ap₂, ◌∙◌, arith, ⊎_elim, All, subst, get_or}
use Rattle.std.specs.Set.{is_member}
use Rattle.std.proofs.lemmas.Bool.{cases_Bool, eqb-true, eq-eqb, or_cases, cases_eq}
use Rattle.std.proofs.lemmas.Bool.Decides.{nat_tests}
use Rattle.std.proofs.lemmas.List.Elements.{All-cons, All-nil, All-head, All-tail}
use Rattle.graph_parts.proofs.Ends.{is_member-itself}
use Rattle.state_sums.specs.LocalSums.{rename}
use Rattle.state_sums.specs.Networks.{Node, IsNode, names_of}
use Rattle.list_lemmas.specs.Times.{times_in}
use Rattle.state_sums.specs.StateSums.{value}
use Rattle.piece_laws.specs.Pieces.{IsPiece, ArePaired}
use Rattle.piece_laws.proofs.PiecesAnywhere.{piece_anywhere}
use Rattle.list_lemmas.proofs.Times.{times_of_member, times_in-cons}
use Rattle.piece_laws.proofs.NameCounts.{member_mapped}
use Rattle.cables.proofs.NameCounts.{at}
use Rattle.strand_words.specs.Boxes.{bottom}
use Rattle.strand_words.specs.Words.{Letter, SameWord, top}
use Rattle.word_networks.specs.Spelling.{Spells, AgreeOn}
use Rattle.word_networks.specs.Steps.{Step, letter, pass, join, named, name_after, names_after, step_nodes, new_names, AreDistinct, HavePoints, AreStepsFrom, AreNamed}
use Rattle.word_networks.specs.Strands.{strand_of, standing, strand_points}
use Rattle.word_networks.proofs.Fresh.{AreSteps-from}
use Rattle.word_networks.proofs.NetworkLaws.{same_words}
use Rattle.word_networks.proofs.StepNetworks.{are_nodes}
use Rattle.word_networks.proofs.Strands.{standing_named, member_strands, strands_member, strand_top, strand_bottom, halves}

-- ---- nodes of both runs
pub All-first : (P : Node → Type 0) (xs ys : List Node) → All P (xs ++ ys) → All P xs
All-first P [] ys h = All-nil P
All-first P (x ∷ xs) ys h = All-cons P x xs (All-head P x (xs ++ ys) h) (All-first P xs ys (All-tail P x (xs ++ ys) h))

pub All-second : (P : Node → Type 0) (xs ys : List Node) → All P (xs ++ ys) → All P ys
All-second P [] ys h = h
All-second P (x ∷ xs) ys h = All-second P xs ys (All-tail P x (xs ++ ys) h)

at-le : (x y : ℕ) → at x y ≤ 1
at-le x y = elim (x == y) as (λ b. cond b 1 0 ≤ 1) [ true ↦ omega arith | false ↦ omega arith ]

-- how often z is the name of the top of one of the first n strands
abbrev pub tops_times : (ℕ → ℕ) → ℕ → ℕ → ℕ
tops_times name zero z = 0
tops_times name (suc n) z = tops_times name n z + at z (name (top n))

top_apart : (i j : ℕ) → i ≢ j → top i ≢ top j
top_apart i j d e = d (omega (arith, e))

tops_same : (f g : ℕ → ℕ) (n z : ℕ) → ((k : ℕ) → k < n → f (top k) ≡ g (top k)) → tops_times f n z ≡ tops_times g n z
tops_same f g zero z h = refl
tops_same f g (suc n) z h = ap₂ (λ x y. x + y) (tops_same f g n z (λ k l. h k (omega (arith, l)))) (ap (at z) (h n (omega arith)))

pub tops_none : (f : ℕ → ℕ) (n z : ℕ) → ((k : ℕ) → k < n → f (top k) ≢ z) → tops_times f n z ≡ 0
tops_none f zero z h = refl
tops_none f (suc n) z h =
    let ih = tops_none f n z (λ k l. h k (omega (arith, l))) in
    let d = h n (omega arith) in
    let none : at z (f (top n)) ≡ 0 = away z (f (top n)) d in
    omega (arith, ih, none)
  where
    away : (z y : ℕ) → y ≢ z → at z y ≡ 0
    away z y d = grind (arith, nat_tests, d)

tops_one : (f : ℕ → ℕ) (n k : ℕ) → k < n → 1 ≤ tops_times f n (f (top k))
tops_one f zero k l = absurd (omega (arith, l))
tops_one f (suc n) k l =
    ⊎_elim
    (λ e. (let one : at (f (top k)) (f (top n)) ≡ 1 = ap (λ i. at (f (top k)) (f (top i))) (sym e) ∙ itself (f (top k)) in omega (arith, one)))
    (λ d. (let ih = tops_one f n k (omega (arith, l, d)) in omega (arith, ih)))
    (cases_eq k n)
  where
    itself : (y : ℕ) → at y y ≡ 1
    itself y = grind (arith, nat_tests)

tops_found : (f : ℕ → ℕ) (n z : ℕ) → 1 ≤ tops_times f n z → (k : ℕ) × (k < n) × (f (top k) ≡ z)
tops_found f zero z h = absurd (omega (arith, h))
tops_found f (suc n) z h =
    ⊎_elim (λ e. (n, omega arith, e))
    (λ d.
    let none = away z (f (top n)) d in
    let r = tops_found f n z (omega (arith, h, none)) in
    (r.0, omega (arith, r.1), r.2))
    (cases_eq (f (top n)) z)
  where
    away : (z y : ℕ) → y ≢ z → at z y ≡ 0
    away z y d = grind (arith, nat_tests, d)

tops_most : (f : ℕ → ℕ) (n z : ℕ) → ((i j : ℕ) → i < n → j < n → f (top i) ≡ f (top j) → i ≡ j) → tops_times f n z ≤ 1
tops_most f zero z one = omega arith
tops_most f (suc n) z one =
    ⊎_elim
    (λ e. (
    let none = tops_none f n z (λ k l s. (let t = one k n (omega (arith, l)) (omega arith) (s ∙ sym e) in omega (arith, t, l))) in
    let b = at-le z (f (top n)) in omega (arith, none, b)))
    (λ d. (let ih = tops_most f n z (λ i j a b e. one i j (omega (arith, a)) (omega (arith, b)) e) in let none = away z (f (top n)) d in omega (arith, ih, none)))
    (cases_eq (f (top n)) z)
  where
    away : (z y : ℕ) → y ≢ z → at z y ≡ 0
    away z y d = grind (arith, nat_tests, d)

named_here : (name : ℕ → ℕ) (p new : ℕ) → named name p new p ≡ new
named_here name p new = plain p new (name p)
  where
    plain : (p new old : ℕ) → cond (p == p) new old ≡ new
    plain p new old = grind (arith, nat_tests)

named_away : (name : ℕ → ℕ) (p new x : ℕ) → x ≢ p → named name p new x ≡ name x
named_away name p new x d = plain p new (name x) x d
  where
    plain : (p new old x : ℕ) → x ≢ p → cond (x == p) new old ≡ old
    plain p new old x d = grind (arith, nat_tests, d)

tops_named : (name : ℕ → ℕ) (i new n z : ℕ) → i < n → tops_times (named name (top i) new) n z + at z (name (top i)) ≡ tops_times name n z + at z new
tops_named name i new zero z l = absurd (omega (arith, l))
tops_named name i new (suc n) z l =
    ⊎_elim
    (λ e.
    let rest = tops_same (named name (top i) new) name n z (λ k b. named_away name (top i) new (top k) (top_apart k i (λ s. omega (arith, s, b, e)))) in
    let here : at z (named name (top i) new (top n)) ≡ at z new = ap (λ k. at z (named name (top i) new (top k))) (sym e) ∙ ap (at z) (named_here name (top i) new) in
    let old : at z (name (top i)) ≡ at z (name (top n)) = ap (λ k. at z (name (top k))) e in
    omega (arith, rest, here, old))
    (λ d.
    let ih = tops_named name i new n z (omega (arith, l, d)) in
    let here : at z (named name (top i) new (top n)) ≡ at z (name (top n)) = ap (at z) (named_away name (top i) new (top n) (top_apart n i (λ s. d (sym s)))) in
    omega (arith, ih, here))
    (cases_eq i n)

-- each step is a letter on tops of two of the strands, or an arc from such a top
abbrev pub AllTop : ℕ → List Step → Type 0
AllTop n [] = Unit {0}
AllTop n (letter p q straight hook left right ∷ steps) = ((i : ℕ) × (j : ℕ) × (i < n) × (j < n) × (i ≢ j) × (p ≡ top i) × (q ≡ top j)) × AllTop n steps
AllTop n (pass p new ∷ steps) = ((i : ℕ) × (i < n) × (p ≡ top i)) × AllTop n steps
AllTop n (join p q ∷ steps) = ⊥

pub AllTop-append : (n : ℕ) (s t : List Step) → AllTop n s → AllTop n t → AllTop n (s ++ t)
AllTop-append n [] t a b = b
AllTop-append n (letter p q straight hook left right ∷ s) t a b = (a.0, AllTop-append n s t a.1 b)
AllTop-append n (pass p new ∷ s) t a b = (a.0, AllTop-append n s t a.1 b)
AllTop-append n (join p q ∷ s) t a b = absurd a

four-times : (z b e t w : ℕ) (ns : List ℕ) → times_in (b ∷ e ∷ t ∷ w ∷ ns) z ≡ at z b + at z e + at z t + at z w + times_in ns z
four-times z b e t w ns =
    let k = times_in-cons b (e ∷ t ∷ w ∷ ns) z in
    let l = times_in-cons e (t ∷ w ∷ ns) z in
    let m = times_in-cons t (w ∷ ns) z in
    let n = times_in-cons w ns z in
    omega (arith, k, l, m, n)

two-times : (z b e : ℕ) (ns : List ℕ) → times_in (b ∷ e ∷ ns) z ≡ at z b + at z e + times_in ns z
two-times z b e ns = let k = times_in-cons b (e ∷ ns) z in let l = times_in-cons e ns z in omega (arith, k, l)

letter_tops : (name : ℕ → ℕ) (i j left right n z : ℕ) → i < n → j < n → i ≢ j →
    tops_times (named (named name (top j) right) (top i) left) n z + at z (name (top i)) + at z (name (top j)) ≡ tops_times name n z + at z left + at z right
letter_tops name i j left right n z li lj d =
    let a = tops_named name j right n z lj in
    let b = tops_named (named name (top j) right) i left n z li in
    let c : at z (named name (top j) right (top i)) ≡ at z (name (top i)) = ap (at z) (named_away name (top j) right (top i) (top_apart i j d)) in
    omega (arith, a, b, c)

-- HOW OFTEN NAMES STAND
pub step_times : (n z : ℕ) (name : ℕ → ℕ) (steps : List Step) → AllTop n steps →
    times_in (names_of (step_nodes name steps)) z + tops_times (names_after name steps) n z ≡ tops_times name n z + 2 * times_in (new_names steps) z
step_times n z name [] a = omega arith
step_times n z name (letter p q straight hook left right ∷ steps) a =
    let at_p = a.0.5 in
    let at_q = a.0.6 in
    let i = a.0.0 in
    let j = a.0.1 in
    let next = name_after name (letter p q straight hook left right) in
    let ih = step_times n z next steps a.1 in
    let t = letter_tops name i j left right n z a.0.2 a.0.3 a.0.4 in
    let same : tops_times next n z ≡ tops_times (named (named name (top j) right) (top i) left) n z = ap₂ (λ x y. tops_times (named (named name y right) x left) n z) at_p at_q in
    let node = four-times z (name q) right left (name p) (names_of (step_nodes next steps)) in
    let news = two-times z right left (new_names steps) in
    let np : at z (name p) ≡ at z (name (top i)) = ap (λ x. at z (name x)) at_p in
    let nq : at z (name q) ≡ at z (name (top j)) = ap (λ x. at z (name x)) at_q in
    omega (arith, ih, t, same, node, news, np, nq)
step_times n z name (pass p new ∷ steps) a =
    let at_p = a.0.2 in
    let i = a.0.0 in
    let next = name_after name (pass p new) in
    let ih = step_times n z next steps a.1 in
    let t = tops_named name i new n z a.0.1 in
    let same : tops_times next n z ≡ tops_times (named name (top i) new) n z = ap (λ x. tops_times (named name x new) n z) at_p in
    let node = two-times z (name p) new (names_of (step_nodes next steps)) in
    let news = times_in-cons new (new_names steps) z in
    let np : at z (name p) ≡ at z (name (top i)) = ap (λ x. at z (name x)) at_p in
    omega (arith, ih, t, same, node, news, np)
step_times n z name (join p q ∷ steps) a = absurd a

last_most : (n z : ℕ) (name : ℕ → ℕ) (steps : List Step) → AllTop n steps → tops_times (names_after name steps) n z ≤ tops_times name n z + times_in (new_names steps) z
last_most n z name [] a = omega arith
last_most n z name (letter p q straight hook left right ∷ steps) a =
    let next = name_after name (letter p q straight hook left right) in
    let ih = last_most n z next steps a.1 in
    let t = letter_tops name a.0.0 a.0.1 left right n z a.0.2 a.0.3 a.0.4 in
    let same : tops_times next n z ≡ tops_times (named (named name (top a.0.1) right) (top a.0.0) left) n z = ap₂ (λ x y. tops_times (named (named name y right) x left) n z) a.0.5 a.0.6 in
    let news = two-times z right left (new_names steps) in
    omega (arith, ih, t, same, news)
last_most n z name (pass p new ∷ steps) a =
    let next = name_after name (pass p new) in
    let ih = last_most n z next steps a.1 in
    let t = tops_named name a.0.0 new n z a.0.1 in
    let same : tops_times next n z ≡ tops_times (named name (top a.0.0) new) n z = ap (λ x. tops_times (named name x new) n z) a.0.2 in
    let news = times_in-cons new (new_names steps) z in
    omega (arith, ih, t, same, news)
last_most n z name (join p q ∷ steps) a = absurd a

bottom_top : (k i : ℕ) → bottom k ≢ top i
bottom_top k i e = omega (arith, e)

pub bottoms_kept : (n : ℕ) (name : ℕ → ℕ) (steps : List Step) → AllTop n steps → (k : ℕ) → names_after name steps (bottom k) ≡ name (bottom k)
bottoms_kept n name [] a k = refl
bottoms_kept n name (letter p q straight hook left right ∷ steps) a k =
    bottoms_kept n (name_after name (letter p q straight hook left right)) steps a.1 k
    ∙ named_away (named name q right) p left (bottom k) (λ e. bottom_top k a.0.0 (e ∙ a.0.5))
    ∙ named_away name q right (bottom k) (λ e. bottom_top k a.0.1 (e ∙ a.0.6))
bottoms_kept n name (pass p new ∷ steps) a k =
    bottoms_kept n (name_after name (pass p new)) steps a.1 k ∙ named_away name p new (bottom k) (λ e. bottom_top k a.0.0 (e ∙ a.0.2))
bottoms_kept n name (join p q ∷ steps) a k = absurd a

have_tops : (n : ℕ) (steps : List Step) → AllTop n steps → HavePoints (strand_points 0 n) steps
have_tops n [] a = tt
have_tops n (letter p q straight hook left right ∷ steps) a = (
  (λ e. top_apart a.0.0 a.0.1 a.0.4 (sym a.0.5 ∙ e ∙ a.0.6)),
  there p a.0.0 a.0.5 a.0.2,
  there q a.0.1 a.0.6 a.0.3,
  have_tops n steps a.1,
)
  where
    there : (p i : ℕ) → p ≡ top i → i < n → is_member ◌==◌ (strand_points 0 n) p ≡ true
    there p i e l = ap (is_member ◌==◌ (strand_points 0 n)) e ∙ strands_member 0 n (top i) (omega arith) (let s = strand_top i in omega (arith, s, l))
have_tops n (pass p new ∷ steps) a = (
  (ap (is_member ◌==◌ (strand_points 0 n)) a.0.2 ∙ strands_member 0 n (top a.0.0) (omega arith) (let s = strand_top a.0.0 in let l = a.0.1 in omega (arith, s, l))),
  have_tops n steps a.1,
)
have_tops n (join p q ∷ steps) a = absurd a

distinct_times : (xs : List ℕ) (z : ℕ) → AreDistinct xs → times_in xs z ≤ 1
distinct_times [] z d = omega arith
distinct_times (x ∷ xs) z d =
    let ih = distinct_times xs z d.1 in
    let c = times_in-cons x xs z in
    let b = at-le z x in
    ⊎_elim
    (λ (e : z ≡ x). (
    let none : times_in xs z ≡ 0 = none_of z xs (ap (is_member ◌==◌ xs) e ∙ d.0) in omega (arith, none, c, b)))
    (λ n. (let away = out z x n in omega (arith, ih, c, away)))
    (cases_eq z x)
  where
    none_of : (z : ℕ) (xs : List ℕ) → is_member ◌==◌ xs z ≡ false → times_in xs z ≡ 0
    none_of z [] m = refl
    none_of z (y ∷ ys) m =
        let ih = none_of z ys (grind (arith, m)) in
        let c = times_in-cons y ys z in
        let away : at z y ≡ 0 = grind (arith, nat_tests, m) in
        omega (arith, ih, c, away)

    out : (z y : ℕ) → z ≢ y → at z y ≡ 0
    out z y d = grind (arith, nat_tests, d)

pub member_of_one : (z : ℕ) (xs : List ℕ) → 1 ≤ times_in xs z → is_member ◌==◌ xs z ≡ true
member_of_one z [] h = absurd (omega (arith, h))
member_of_one z (y ∷ ys) h =
    let c = times_in-cons y ys z in
    ⊎_elim
    (λ (e : z ≡ y). first z y (is_member ◌==◌ ys z) e)
    (λ n. (let away = out z y n in second (z == y) (is_member ◌==◌ ys z) (member_of_one z ys (omega (arith, h, c, away)))))
    (cases_eq z y)
  where
    first : (z y : ℕ) (t : Bool) → z ≡ y → ((z == y) || t) ≡ true
    first z y t e = grind (arith, nat_tests, e)

    second : (s t : Bool) → t ≡ true → (s || t) ≡ true
    second s t e = grind (arith, e)

    out : (z y : ℕ) → z ≢ y → at z y ≡ 0
    out z y d = grind (arith, nat_tests, d)

-- ---- strands that stand, with one name each
abbrev pub based : (ℕ → ℕ) → ℕ → ℕ
based base u = base (strand_of u)

-- steps on n strands, whose names are new, and behind which no strand has a name from before
pub record IsRun (n : ℕ) (base : ℕ → ℕ) (steps : List Step) : Type 0 where
  pub tops : AllTop n steps
  pub distinct : AreDistinct (new_names steps)
  pub apart : (z k : ℕ) → is_member ◌==◌ (new_names steps) z ≡ true → k < n → z ≢ base k
  pub behind : (j k : ℕ) → j < n → k < n → names_after (based base) steps (top j) ≢ base k

module _ (n : ℕ) (base : ℕ → ℕ) (one : (i j : ℕ) → i < n → j < n → base i ≡ base j → i ≡ j) where
  abbrev name : ℕ → ℕ
  name = based base

  at_top : (k : ℕ) → name (top k) ≡ base k
  at_top k = ap base (strand_top k)

  one_top : (i j : ℕ) → i < n → j < n → name (top i) ≡ name (top j) → i ≡ j
  one_top i j a b e = one i j a b (sym (at_top i) ∙ e ∙ at_top j)

  module _ (steps : List Step) (run : IsRun n base steps) where
    abbrev last : ℕ → ℕ
    last = names_after name steps

    abbrev nodes : List Node
    nodes = step_nodes name steps

    -- a name is one from before, or a new one, once
    once : (z : ℕ) → tops_times name n z + times_in (new_names steps) z ≤ 1
    once z =
        let a = tops_most name n z one_top in
        let b = distinct_times (new_names steps) z run.distinct in
        ⊎_elim
        (λ m.
        let none = tops_none name n z (λ k l e. run.apart z k m l (sym e ∙ at_top k)) in omega (arith, none, b))
        (λ m. (let none : times_in (new_names steps) z ≡ 0 = absent z (new_names steps) m in omega (arith, none, a)))
        (cases_Bool (is_member ◌==◌ (new_names steps) z))
      where
        some : (k : ℕ) → (1 ≤ k) ⊎ (k ≡ 0)
        some zero = inr refl
        some (suc k) = inl (omega arith)

        absent : (z : ℕ) (xs : List ℕ) → is_member ◌==◌ xs z ≡ false → times_in xs z ≡ 0
        absent z xs m =
            ⊎_elim (λ (h : 1 ≤ times_in xs z). absurd (let t = member_of_one z xs h in grind (arith, t, m))) (λ (h : times_in xs z ≡ 0). h) (some (times_in xs z))

    -- a name from before and one behind stand once
    before_once : (k : ℕ) → k < n → times_in (names_of nodes) (base k) ≡ 1
    before_once k l =
        let c = step_times n (base k) name steps run.tops in
        let o = once (base k) in
        let t = ap (λ z. tops_times name n z) (at_top k) in
        let h = tops_one name n k l in
        let none = tops_none last n (base k) (λ j m. run.behind j k m l) in
        omega (arith, c, o, t, h, none)

    behind_once : (k : ℕ) → k < n → times_in (names_of nodes) (last (top k)) ≡ 1
    behind_once k l =
        let z = last (top k) in
        let c = step_times n z name steps run.tops in
        let o = once z in
        let h = tops_one last n k l in
        let most = last_most n z name steps run.tops in
        let none = tops_none name n z (λ j m e. run.behind k j l m (sym e ∙ at_top j)) in
        omega (arith, c, o, h, most, none)

    abbrev points : List ℕ
    points = strand_points 0 n

    at_bottom : (k : ℕ) → last (bottom k) ≡ base k
    at_bottom k = bottoms_kept n name steps run.tops k ∙ ap base (strand_bottom k)

    point_once : (u : ℕ) → is_member ◌==◌ points u ≡ true → times_in (names_of nodes) (last u) ≡ 1
    point_once u m =
        let l = (member_strands 0 n u m).1 in
        let k = strand_of u in
        ⊎_elim
        (λ e. ap (λ x. times_in (names_of nodes) (last x)) e ∙ behind_once k (omega (arith, l)))
        (λ e. ap (λ x. times_in (names_of nodes) (last x)) e ∙ ap (times_in (names_of nodes)) (at_bottom k) ∙ before_once k (omega (arith, l)))
        (halves u)

    open_once : (z : ℕ) → is_member ◌==◌ (map last points) z ≡ true → times_in (names_of nodes) z ≡ 1
    open_once z m = let r = member_mapped last points z m in ap (times_in (names_of nodes)) r.2 ∙ point_once r.0 r.1

    inner_twice : (z : ℕ) → is_member ◌==◌ (names_of nodes) z ≡ true → is_member ◌==◌ (map last points) z ≡ false → times_in (names_of nodes) z ≡ 2
    inner_twice z m out =
        let h = times_of_member z (names_of nodes) m in
        let c = step_times n z name steps run.tops in
        let o = once z in
        let before : tops_times name n z ≡ 0 =
        tops_none name n z (λ k l e. not_open (bottom k) (strands_member 0 n (bottom k) (omega arith) (let s = strand_bottom k in omega (arith, s, l))) (at_bottom k ∙ sym (at_top k) ∙ e)) in
        let behind : tops_times last n z ≡ 0 =
        tops_none last n z (λ k l e. not_open (top k) (strands_member 0 n (top k) (omega arith) (let s = strand_top k in omega (arith, s, l))) e) in
        omega (arith, h, c, o, before, behind)
      where
        mapped : (f : ℕ → ℕ) (xs : List ℕ) (u : ℕ) → is_member ◌==◌ xs u ≡ true → is_member ◌==◌ (map f xs) (f u) ≡ true
        mapped f [] u m = absurd (grind (arith, m))
        mapped f (x ∷ xs) u m =
            ⊎_elim
            (λ t. left (f u) (f x) (is_member ◌==◌ (map f xs) (f u)) (ap f (eqb-true u x t)))
            (λ t. right (f u == f x) (is_member ◌==◌ (map f xs) (f u)) (mapped f xs u t))
            (or_cases (u == x) (is_member ◌==◌ xs u) m)
          where
            left : (a b : ℕ) (t : Bool) → a ≡ b → ((a == b) || t) ≡ true
            left a b t e = grind (arith, nat_tests, e)

            right : (s t : Bool) → t ≡ true → (s || t) ≡ true
            right s t e = grind (arith, e)

        not_open : (u : ℕ) → is_member ◌==◌ points u ≡ true → last u ≢ z
        not_open u p e = let t = mapped last points u p in let s = ap (is_member ◌==◌ (map last points)) e in grind (arith, t, s, out)

    -- A RUN IS A PIECE
    pub run_piece : IsPiece nodes (map last points)
    run_piece = record {
      has_open = λ i d l. (let z = get_or (map last points) i d in member_of_one z (names_of nodes) (let t = open_once z (is_member-itself (map last points) i d l) in omega (arith, t)));
      inner = λ i d l. inside (get_or (names_of nodes) i d) (is_member-itself (names_of nodes) i d l);
    }
      where
        inside : (z : ℕ) → is_member ◌==◌ (names_of nodes) z ≡ true → (times_in (names_of nodes) z == cond (is_member ◌==◌ (map last points) z) 1 2) ≡ true
        inside z m =
            ⊎_elim
            (λ t. ap (λ b. times_in (names_of nodes) z == cond b 1 2) t ∙ eq-eqb (times_in (names_of nodes) z) 1 (open_once z t))
            (λ t. ap (λ b. times_in (names_of nodes) z == cond b 1 2) t ∙ eq-eqb (times_in (names_of nodes) z) 2 (inner_twice z m t))
            (cases_Bool (is_member ◌==◌ (map last points) z))

    pub run_from : AreStepsFrom points name steps
    run_from = record {
      are_steps = AreSteps-from points (map name points) steps (have_tops n steps run.tops) run.distinct
          (λ z m. unseen z m);
      meets_all = λ i d l. met (get_or (map name points) i d) (is_member-itself (map name points) i d l);
    }
      where
        from_point : (z : ℕ) → is_member ◌==◌ (map name points) z ≡ true → (k : ℕ) × (k < n) × (z ≡ base k)
        from_point z m =
            let r = member_mapped name points z m in
            let l = (member_strands 0 n r.0 r.1).1 in
            (strand_of r.0, omega (arith, l), r.2)

        met : (z : ℕ) → is_member ◌==◌ (map name points) z ≡ true → is_member ◌==◌ (names_of nodes) z ≡ true
        met z m =
            let r = from_point z m in
            member_of_one z (names_of nodes) (let t = before_once r.0 r.1 in let e = ap (times_in (names_of nodes)) r.2 in omega (arith, t, e))

        unseen : (z : ℕ) → is_member ◌==◌ (new_names steps) z ≡ true → is_member ◌==◌ (map name points) z ≡ false
        unseen z m = ⊎_elim (λ t. absurd (let r = from_point z t in run.apart z r.0 m r.1 r.2)) (λ t. t) (cases_Bool (is_member ◌==◌ (map name points) z))

  -- RUNS OF ONE WORD COUNT ALIKE AT ANY NAMES
  pub runs_anywhere : (m delta free : ℕ) (u v : List Letter) (steps others : List Step) (r : ℕ → ℕ) (rest : List Node) → SameWord m delta u v → Spells u steps → Spells v others →
      IsRun n base steps → IsRun n base others → AgreeOn (strand_points 0 n) (names_after name steps) (names_after name others) → All IsNode rest →
      ArePaired (map r (names_of (step_nodes name steps))) (map r (names_of (step_nodes name steps)) ++ names_of rest) →
      ArePaired (map r (names_of (step_nodes name others))) (map r (names_of (step_nodes name others)) ++ names_of rest) →
      value m delta record { nodes = rename r (step_nodes name steps) ++ rest; free_loops = free } ≡ value m delta record { nodes = rename r (step_nodes name others) ++ rest; free_loops = free }
  runs_anywhere m delta free u v steps others r rest same su sv a b agree ok old_pairs new_pairs =
      let named : AreNamed (strand_points 0 n) name standing = standing_named n base one in
      let alike = same_words m delta 0 (strand_points 0 n) name standing u v steps others same su sv named (run_from steps a) (run_from others b) agree in
      let P : List ℕ → Type 0 = λ ns. IsPiece (step_nodes name steps) ns in
      let nothing : free ≡ 0 + free = omega arith in
      let piece = subst P (maps_agree (names_after name steps) (names_after name others) (strand_points 0 n) agree) (run_piece steps a) in
      ap (λ k. value m delta record { nodes = rename r (step_nodes name steps) ++ rest; free_loops = k }) nothing
      ∙ piece_anywhere m delta free r (map (names_after name others) (strand_points 0 n)) record { nodes = step_nodes name steps; free_loops = 0 } record { nodes = step_nodes name others; free_loops = 0 } rest
      (are_nodes name steps) (are_nodes name others) ok piece (run_piece others b) old_pairs new_pairs alike
      ∙ sym (ap (λ k. value m delta record { nodes = rename r (step_nodes name others) ++ rest; free_loops = k }) nothing)
    where
      maps_agree : (f g : ℕ → ℕ) (xs : List ℕ) → AgreeOn xs f g → map f xs ≡ map g xs
      maps_agree f g [] h = refl
      maps_agree f g (x ∷ xs) h = ap₂ (λ y ys. y ∷ ys) (h x (front x (is_member ◌==◌ xs x))) (maps_agree f g xs (λ u m. h u (behind (u == x) (is_member ◌==◌ xs u) m)))
        where
          front : (x : ℕ) (t : Bool) → ((x == x) || t) ≡ true
          front x t = grind (arith, nat_tests)

          behind : (s t : Bool) → t ≡ true → (s || t) ≡ true
          behind s t e = grind (arith, e)
