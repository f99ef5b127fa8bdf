-- How many labels the points have: one for each pair of mates. Hooking keeps it, and joining two points takes one away.
use Rattle.std.proofs.Common.{◌≡◌, ◌≢◌, ℕ, ◌+◌, Bool, true, false, cond, not, ◌==◌, ◌||◌, ◌&&◌, List, [], ◌∷◌, refl, sym, ap, ◌∙◌, arith, map, ⊎_elim}
use Rattle.std.specs.Set.{is_member}
use Rattle.std.proofs.lemmas.Bool.Decides.{nat_tests}
use Rattle.graph_parts.specs.Labels.{relabel, label_count, Agree}
use Rattle.graph_parts.proofs.Agreement.{label_count-agree}
use Rattle.graph_parts.proofs.Counting.{label_count-relabel, distinct_count-cons, is_member-map}
use Rattle.graph_parts.proofs.Ends.{is_member-itself}
use Rattle.graph_parts.proofs.PartLaws.{label_count-same_names}
use Rattle.strand_words.specs.Matings.{IsMating, hooked}
use Rattle.strand_words.proofs.Hooks.{hooked-IsMating}
use Rattle.word_networks.specs.Steps.{without}
use Rattle.word_networks.proofs.Labels.{relabel_tells, label_none}
use Rattle.std.proofs.lemmas.Bool.{cases_eq}

-- labels tell points apart as the mating does
abbrev pub Tells : List ℕ → (ℕ → ℕ) → (ℕ → ℕ) → Type 0
Tells points mate f = (u v : ℕ) → is_member ◌==◌ points u ≡ true → is_member ◌==◌ points v ≡ true → (f u == f v) ≡ ((u == v) || (mate u == v))

pub Agree-tells : (points : List ℕ) (mate f g : ℕ → ℕ) → Tells points mate f → Tells points mate g → Agree (is_member ◌==◌ points) f g
Agree-tells points mate f g h k u v p q = h u v p q ∙ sym (k u v p q)

pub count_tells : (points : List ℕ) (mate f g : ℕ → ℕ) → Tells points mate f → Tells points mate g → label_count f points ≡ label_count g points
count_tells points mate f g h k = label_count-agree (is_member ◌==◌ points) f g points (Agree-tells points mate f g h k) (is_member-itself points)

pub is_member-without : (p q : ℕ) (points : List ℕ) (u : ℕ) → is_member ◌==◌ (without p q points) u ≡ (is_member ◌==◌ points u && (not (u == p) && not (u == q)))
is_member-without p q [] u = refl
is_member-without p q (x ∷ points) u = let ih = is_member-without p q points u in grind (arith, nat_tests, ih)

-- behind a hook, of the other points
pub hooked_tells : (points : List ℕ) (p q : ℕ) (mate f : ℕ → ℕ) → IsMating mate → p ≢ q → is_member ◌==◌ points p ≡ true → is_member ◌==◌ points q ≡ true → Tells points mate f →
    (u v : ℕ) → is_member ◌==◌ points u ≡ true → is_member ◌==◌ points v ≡ true → u ≢ p → u ≢ q → v ≢ p → v ≢ q →
    (relabel f (p, q) u == relabel f (p, q) v) ≡ ((u == v) || (hooked p q mate u == v))
hooked_tells points p q mate f h d mp mq tells u v mu mv a b c e =
    relabel_tells f p q u v
    ∙ told_plain mate p q u v h d a b c e (f u == f v) (f u == f p) (f v == f q) (f u == f q) (f v == f p) (tells u v mu mv) (tells u p mu mp) (tells v q mv mq) (tells u q mu mq) (tells v p mv mp)
  where
    told_plain : (mate : ℕ → ℕ) (p q u v : ℕ) → IsMating mate → p ≢ q → u ≢ p → u ≢ q → v ≢ p → v ≢ q → (uv up vq uq vp : Bool) →
        uv ≡ ((u == v) || (mate u == v)) → up ≡ ((u == p) || (mate u == p)) → vq ≡ ((v == q) || (mate v == q)) → uq ≡ ((u == q) || (mate u == q)) → vp ≡ ((v == p) || (mate v == p)) →
        (uv || ((up && vq) || (uq && vp))) ≡ ((u == v) || (hooked p q mate u == v))
    told_plain mate p q u v h d a b c e uv up vq uq vp i j k l n =
        let bp = h.back p in let bq = h.back q in let bu = h.back u in let bv = h.back v in
        grind (arith, nat_tests, bp, bq, bu, bv, d, a, b, c, e, i, j, k, l, n)

-- the points stay among themselves
abbrev pub IsClosed : List ℕ → (ℕ → ℕ) → Type 0
IsClosed points mate = (u : ℕ) → is_member ◌==◌ points u ≡ true → is_member ◌==◌ points (mate u) ≡ true

pub IsClosed-hooked : (points : List ℕ) (p q : ℕ) (mate : ℕ → ℕ) → IsMating mate → p ≢ q → is_member ◌==◌ points p ≡ true → is_member ◌==◌ points q ≡ true → IsClosed points mate → IsClosed points (hooked p q mate)
IsClosed-hooked points p q mate h d mp mq c u m =
    let a = c p mp in let b = c q mq in let e = c u m in
    grind (arith, nat_tests, a, b, e, mp, mq)

pub IsClosed-without : (points : List ℕ) (p q : ℕ) (mate : ℕ → ℕ) → IsMating mate → p ≢ q → is_member ◌==◌ points p ≡ true → is_member ◌==◌ points q ≡ true → IsClosed points mate → IsClosed (without p q points) (hooked p q mate)
IsClosed-without points p q mate h d mp mq c u m =
    let a = IsClosed-hooked points p q mate h d mp mq c u in
    let i = is_member-without p q points u in
    let j = is_member-without p q points (hooked p q mate u) in
    let x = (hooked-IsMating p q mate h d).back u in
    let y = apart_plain p q u mate h d in
    j ∙ both_plain (is_member ◌==◌ points u) (is_member ◌==◌ points (hooked p q mate u)) (u == p) (u == q) (hooked p q mate u == p) (hooked p q mate u == q) a (sym i ∙ m) y
  where
    apart_plain : (p q u : ℕ) (mate : ℕ → ℕ) → IsMating mate → p ≢ q → (u == p) ≡ false → (u == q) ≡ false → ((hooked p q mate u == p) ≡ false) × ((hooked p q mate u == q) ≡ false)
    apart_plain p q u mate h d e f =
        let ap_ = h.apart p in let aq = h.apart q in
        let bp = h.back p in let bq = h.back q in let bu = h.back u in
        (grind (arith, nat_tests, ap_, aq, bp, bq, bu, d, e, f), grind (arith, nat_tests, ap_, aq, bp, bq, bu, d, e, f))

    both_plain : (u v up uq vp vq : Bool) → (u ≡ true → v ≡ true) → (u && (not up && not uq)) ≡ true → (up ≡ false → uq ≡ false → (vp ≡ false) × (vq ≡ false)) → (v && (not vp && not vq)) ≡ true
    both_plain u v up uq vp vq h m k =
        let a : up ≡ false = grind (arith, m) in
        let b : uq ≡ false = grind (arith, m) in
        let c = k a b in
        let e = h (grind (arith, m)) in
        grind (arith, c.0, c.1, e)

members_plain : (points : List ℕ) (p q u : ℕ) → is_member ◌==◌ points p ≡ true → is_member ◌==◌ points q ≡ true → is_member ◌==◌ points u ≡ is_member ◌==◌ (p ∷ q ∷ without p q points) u
members_plain points p q u mp mq =
    let i = is_member-without p q points u in
    let a = λ (e : u ≡ p). ap (is_member ◌==◌ points) e ∙ mp in
    let b = λ (e : u ≡ q). ap (is_member ◌==◌ points) e ∙ mq in
    grind (arith, nat_tests, i, a, b)

module _ (points : List ℕ) (p q : ℕ) (mate f : ℕ → ℕ) (h : IsMating mate) (d : p ≢ q) (mp : is_member ◌==◌ points p ≡ true) (mq : is_member ◌==◌ points q ≡ true) (closed : IsClosed points mate) (tells : Tells points mate f) where
  abbrev others : List ℕ
  others = without p q points

  abbrev after : ℕ → ℕ
  after = relabel f (p, q)

  same_members : (u : ℕ) → is_member ◌==◌ points u ≡ is_member ◌==◌ (p ∷ q ∷ others) u
  same_members u = members_plain points p q u mp mq

  counted : label_count after (p ∷ q ∷ others) + cond (f p == f q) 0 1 ≡ label_count f points
  counted =
      label_count-relabel f p q (p ∷ q ∷ others) (sym (same_members p) ∙ mp) (sym (same_members q) ∙ mq)
      ∙ sym (label_count-same_names f points (p ∷ q ∷ others) same_members)

  pair_told : (f p == f q) ≡ (mate p == q)
  pair_told = let e = tells p q mp mq in grind (arith, nat_tests, e, d)

  -- q's label is among those of the others just where its old mate is
  label_met : is_member ◌==◌ (map after others) (after q) ≡ not (mate p == q)
  label_met = ⊎_elim mates_met apart_met (cases_eq (mate p) q)
    where
      mates_met : mate p ≡ q → is_member ◌==◌ (map after others) (after q) ≡ not (mate p == q)
      mates_met e =
          label_none after q others
          (λ z m t.
          let i = is_member-without p q points z in
          let g = sym i ∙ m in
          let a = tells z p (grind (arith, g)) mp in
          let b = tells z q (grind (arith, g)) mq in
          let bp = h.back p in let bz = h.back z in let bq = h.back q in
          grind (arith, nat_tests, g, a, b, bp, bz, bq, e, t, d))
          ∙ grind (arith, nat_tests, e)

      apart_met : mate p ≢ q → is_member ◌==◌ (map after others) (after q) ≡ not (mate p == q)
      apart_met n =
          let i = is_member-without p q points (mate p) in
          let c = closed p mp in
          let a = h.apart p in
          let there : is_member ◌==◌ others (mate p) ≡ true = i ∙ grind (arith, nat_tests, c, a, n) in
          let t = tells (mate p) p c mp in
          let b = h.back p in
          let e : after (mate p) ≡ after q = grind (arith, nat_tests, t, b, d) in
          ap (is_member ◌==◌ (map after others)) (sym e) ∙ is_member-map after others (mate p) there ∙ grind (arith, nat_tests, n)

  after_others : label_count after others + 1 ≡ label_count f points
  after_others =
      let a = counted in
      let b = pair_told in
      let c = label_met in
      let x = distinct_count-cons (after p) (map after (q ∷ others)) in
      let y = distinct_count-cons (after q) (map after others) in
      let e : after p ≡ after q = grind (arith, nat_tests) in
      let g : is_member ◌==◌ (map after (q ∷ others)) (after p) ≡ true = grind (arith, nat_tests, e) in
      counted_plain (label_count after (p ∷ q ∷ others)) (label_count after (q ∷ others)) (label_count after others) (label_count f points) (f p == f q) (mate p == q) _ _ a b c g x y
    where
      counted_plain : (all two one f : ℕ) (s t c g : Bool) → all + cond s 0 1 ≡ f → s ≡ t → c ≡ not t → g ≡ true → all ≡ cond g 0 1 + two → two ≡ cond c 0 1 + one → one + 1 ≡ f
      counted_plain all two one f s t c g i j k l m n = grind (arith, i, j, k, l, m, n)

  -- TWO POINTS LESS
  pub count_without : (g : ℕ → ℕ) → Tells others (hooked p q mate) g → label_count g others + 1 ≡ label_count f points
  count_without g told =
      let known : Tells others (hooked p q mate) after =
      λ u v mu mv.
      let a = sym (is_member-without p q points u) ∙ mu in
      let b = sym (is_member-without p q points v) ∙ mv in
      hooked_tells points p q mate f h d mp mq tells u v (grind (arith, a)) (grind (arith, b)) (λ e. grind (arith, nat_tests, a, e)) (λ e. grind (arith, nat_tests, a, e)) (λ e. grind (arith, nat_tests, b, e)) (λ e. grind (arith, nat_tests, b, e)) in
      ap (λ n. n + 1) (count_tells others (hooked p q mate) g after told known) ∙ after_others
