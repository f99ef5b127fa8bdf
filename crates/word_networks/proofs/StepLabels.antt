-- What one step makes of labels: a new name beside an old one, two points joined, a hook.
use Rattle.std.proofs.Common.{◌≡◌, ◌≢◌, ℕ, ◌+◌, Bool, true, false, cond, ◌==◌, ◌||◌, ◌&&◌, List, ◌∷◌, refl, sym, ap, ap₂, ◌∙◌, arith, ⊎_elim}
use Rattle.std.specs.Set.{is_member}
use Rattle.std.proofs.lemmas.Bool.Decides.{nat_tests}
use Rattle.graph_parts.specs.Labels.{relabel, label_count}
use Rattle.graph_parts.proofs.Counting.{label_count-relabel}
use Rattle.strand_words.specs.Matings.{IsMating, hooked}
use Rattle.strand_words.proofs.Hooks.{hooked-IsMating, hooked_mates, hooked-meets, hooked_turned}
use Rattle.word_networks.specs.Steps.{named, without}
use Rattle.word_networks.proofs.Labels.{World, World-appear, World-edge, label_apart, count_appear, relabel_tells}
use Rattle.word_networks.proofs.Points.{Tells, IsClosed, IsClosed-hooked, IsClosed-without, is_member-without, hooked_tells, count_without}
use Rattle.std.proofs.lemmas.Bool.{cases_eq}

-- labels, names and a mating that fit one another
pub record State (l : ℕ → ℕ) (seen : List ℕ) (name : ℕ → ℕ) (points : List ℕ) (mate : ℕ → ℕ) : Type 0 where
  pub world : World l seen
  pub mating : IsMating mate
  pub closed : IsClosed points mate
  pub known : (u : ℕ) → is_member ◌==◌ points u ≡ true → is_member ◌==◌ seen (name u) ≡ true
  pub tells : Tells points mate (λ u. l (name u))

-- ---- a new name beside an old one
abbrev pub Keeps : List ℕ → (ℕ → ℕ) → (ℕ → ℕ) → Type 0
Keeps seen l k = (z w : ℕ) → is_member ◌==◌ seen z ≡ true → is_member ◌==◌ seen w ≡ true → (k z == k w) ≡ (l z == l w)

attach : (l : ℕ → ℕ) (seen : List ℕ) (x new : ℕ) → World l seen → is_member ◌==◌ seen new ≡ false → is_member ◌==◌ seen x ≡ true → Keeps seen l (relabel l (x, new))
attach l seen x new w n m z v mz mv =
    let a = label_apart l seen new z w n mz in
    let b = label_apart l seen new v w n mv in
    relabel_tells l x new z v ∙ plain (l z) (l v) (l x) (l new) a b
  where
    plain : (z v x n : ℕ) → n ≢ z → n ≢ v → ((z == v) || (((z == x) && (v == n)) || ((z == n) && (v == x)))) ≡ (z == v)
    plain z v x n a b = grind (arith, nat_tests, a, b)

attach_back : (l : ℕ → ℕ) (seen : List ℕ) (x new : ℕ) → World l seen → is_member ◌==◌ seen new ≡ false → is_member ◌==◌ seen x ≡ true → Keeps seen l (relabel l (new, x))
attach_back l seen x new w n m z v mz mv =
    let a = label_apart l seen new z w n mz in
    let b = label_apart l seen new v w n mv in
    relabel_tells l new x z v ∙ plain (l z) (l v) (l x) (l new) a b
  where
    plain : (z v x n : ℕ) → n ≢ z → n ≢ v → ((z == v) || (((z == n) && (v == x)) || ((z == x) && (v == n)))) ≡ (z == v)
    plain z v x n a b = grind (arith, nat_tests, a, b)

count_attach : (l : ℕ → ℕ) (seen : List ℕ) (x new : ℕ) → World l seen → is_member ◌==◌ seen new ≡ false → is_member ◌==◌ seen x ≡ true →
    (label_count (relabel l (x, new)) (new ∷ seen) ≡ label_count l seen) × (label_count (relabel l (new, x)) (new ∷ seen) ≡ label_count l seen)
count_attach l seen x new w n m =
    let a = count_appear l seen new w n in
    let d = label_apart l seen new x w n m in
    let e : (l x == l new) ≡ false = grind (arith, nat_tests, d) in
    let f : (l new == l x) ≡ false = grind (arith, nat_tests, d) in
    let here : is_member ◌==◌ (new ∷ seen) new ≡ true = grind (arith, nat_tests) in
    let there : is_member ◌==◌ (new ∷ seen) x ≡ true = grind (arith, m) in
    let p = label_count-relabel l x new (new ∷ seen) there here in
    let q = label_count-relabel l new x (new ∷ seen) here there in
    (plain _ _ _ _ a p e, plain _ _ _ _ a q f)
  where
    plain : (k c d : ℕ) (b : Bool) → d ≡ 1 + c → k + cond b 0 1 ≡ d → b ≡ false → k ≡ c
    plain k c d b a p e = grind (arith, a, p, e)

named_plain : (k name : ℕ → ℕ) (p new u : ℕ) → k new ≡ k (name p) → k (named name p new u) ≡ k (name u)
named_plain k name p new u e =
    let same = λ (t : u ≡ p). ap (λ v. k (name v)) t in
    elim (u == p) as (λ b. (u == p) ≡ b → k (cond b new (name u)) ≡ k (name u)) [ true ↦ λ t. e ∙ sym (same (grind (arith, nat_tests, t))) | false ↦ λ t. refl ] refl

-- what a state becomes under labels that keep the old ones apart
State-attached : (l k : ℕ → ℕ) (seen : List ℕ) (name : ℕ → ℕ) (points : List ℕ) (mate : ℕ → ℕ) (p new : ℕ) → State l seen name points mate →
    World k (new ∷ seen) → Keeps seen l k → k new ≡ k (name p) → State k (new ∷ seen) (named name p new) points mate
State-attached l k seen name points mate p new s w keeps e = record {
  world = w;
  mating = s.mating;
  closed = s.closed;
  known = λ u m. let a = s.known u m in known_plain seen (u == p) new (name u) a;
  tells = λ u v mu mv.
      ap₂ (λ x y. x == y) (named_plain k name p new u e) (named_plain k name p new v e)
      ∙ keeps (name u) (name v) (s.known u mu) (s.known v mv) ∙ s.tells u v mu mv;
}
  where
    known_plain : (seen : List ℕ) (b : Bool) (new x : ℕ) → is_member ◌==◌ seen x ≡ true → is_member ◌==◌ (new ∷ seen) (cond b new x) ≡ true
    known_plain seen true new x m = grind (arith, nat_tests)
    known_plain seen false new x m = grind (arith, m)

module _ (l : ℕ → ℕ) (seen : List ℕ) (name : ℕ → ℕ) (points : List ℕ) (mate : ℕ → ℕ) (p new : ℕ) (s : State l seen name points mate)
    (mp : is_member ◌==◌ points p ≡ true) (n : is_member ◌==◌ seen new ≡ false) where
  here : is_member ◌==◌ (new ∷ seen) new ≡ true
  here = grind (arith, nat_tests)

  there : is_member ◌==◌ (new ∷ seen) (name p) ≡ true
  there = let m = s.known p mp in grind (arith, m)

  -- GOING ON UNDER A NEW NAME
  pub State-pass : State (relabel l (name p, new)) (new ∷ seen) (named name p new) points mate
  State-pass =
      State-attached l (relabel l (name p, new)) seen name points mate p new s (World-edge l (new ∷ seen) (name p) new (World-appear l seen new s.world n) there here)
      (attach l seen (name p) new s.world n (s.known p mp)) (grind (arith, nat_tests))

  pub State-pass_back : State (relabel l (new, name p)) (new ∷ seen) (named name p new) points mate
  State-pass_back =
      State-attached l (relabel l (new, name p)) seen name points mate p new s (World-edge l (new ∷ seen) new (name p) (World-appear l seen new s.world n) here there)
      (attach_back l seen (name p) new s.world n (s.known p mp)) (grind (arith, nat_tests))

  pub count_pass : label_count (relabel l (name p, new)) (new ∷ seen) ≡ label_count l seen
  count_pass = (count_attach l seen (name p) new s.world n (s.known p mp)).0

  pub count_pass_back : label_count (relabel l (new, name p)) (new ∷ seen) ≡ label_count l seen
  count_pass_back = (count_attach l seen (name p) new s.world n (s.known p mp)).1

-- ---- two points joined
module _ (l : ℕ → ℕ) (seen : List ℕ) (name : ℕ → ℕ) (points : List ℕ) (mate : ℕ → ℕ) (p q : ℕ) (s : State l seen name points mate)
    (d : p ≢ q) (mp : is_member ◌==◌ points p ≡ true) (mq : is_member ◌==◌ points q ≡ true) where
  among : (u : ℕ) → is_member ◌==◌ (without p q points) u ≡ true → (is_member ◌==◌ points u ≡ true) × (u ≢ p) × (u ≢ q)
  among u m =
      let i = sym (is_member-without p q points u) ∙ m in
      (grind (arith, i), (λ t. grind (arith, nat_tests, i, t)), (λ t. grind (arith, nat_tests, i, t)))

  -- TWO POINTS LESS
  pub State-join : State (relabel l (name p, name q)) seen name (without p q points) (hooked p q mate)
  State-join = record {
    world = World-edge l seen (name p) (name q) s.world (s.known p mp) (s.known q mq);
    mating = hooked-IsMating p q mate s.mating d;
    closed = IsClosed-without points p q mate s.mating d mp mq s.closed;
    known = λ u m. s.known u (among u m).0;
    tells = λ u v mu mv.
        let a = among u mu in let b = among v mv in
        hooked_tells points p q mate (λ w. l (name w)) s.mating d mp mq s.tells u v a.0 b.0 a.1 a.2 b.1 b.2;
  }

  pair_told : (l (name p) == l (name q)) ≡ (mate p == q)
  pair_told = let e = s.tells p q mp mq in grind (arith, nat_tests, e, d)

  pub count_join : label_count (relabel l (name p, name q)) seen + cond (mate p == q) 0 1 ≡ label_count l seen
  count_join = ap (λ b. label_count (relabel l (name p, name q)) seen + cond b 0 1) (sym pair_told) ∙ label_count-relabel l (name p) (name q) seen (s.known p mp) (s.known q mq)

  pub points_join : label_count (λ u. relabel l (name p, name q) (name u)) (without p q points) + 1 ≡ label_count (λ u. l (name u)) points
  points_join = count_without points p q mate (λ u. l (name u)) s.mating d mp mq s.closed s.tells (λ u. relabel l (name p, name q) (name u)) State-join.tells

-- ---- a hook
told_plain : (k : ℕ → ℕ) (left right ku kv p q u v mu mv : ℕ) → p ≢ q → k left ≡ k right → (u ≢ p → u ≢ q → ku ≢ k left) → (v ≢ p → v ≢ q → kv ≢ k left) →
    (u ≡ p → mu ≡ q) → (u ≡ q → mu ≡ p) → (mu ≡ p → u ≡ q) → (mu ≡ q → u ≡ p) → (u ≢ p → u ≢ q → v ≢ p → v ≢ q → (ku == kv) ≡ ((u == v) || (mu == v))) →
    (cond (u == p) (k left) (cond (u == q) (k right) ku) == cond (v == p) (k left) (cond (v == q) (k right) kv)) ≡ ((u == v) || (mu == v))
told_plain k left right ku kv p q u v mu mv d e f g h i j n o =
    ⊎_elim (λ (a : u ≡ p). grind (arith, nat_tests, a, d, e, g, h))
    (λ (a : u ≢ p).
    ⊎_elim (λ (b : u ≡ q). grind (arith, nat_tests, a, b, d, e, g, i))
    (λ (b : u ≢ q).
    let x = f a b in let y = o a b in
    grind (arith, nat_tests, a, b, d, e, x, y, j, n))
    (cases_eq u q))
    (cases_eq u p)

cond_name : (k name : ℕ → ℕ) (p q left right u : ℕ) → k (named (named name q right) p left u) ≡ cond (u == p) (k left) (cond (u == q) (k right) (k (name u)))
cond_name k name p q left right u =
    elim (u == p) as (λ b. k (cond b left (cond (u == q) right (name u))) ≡ cond b (k left) (cond (u == q) (k right) (k (name u))))
    [ true ↦ refl | false ↦ elim (u == q) as (λ b. k (cond b right (name u)) ≡ cond b (k right) (k (name u))) [ true ↦ refl | false ↦ refl ] ]

module _ (l : ℕ → ℕ) (seen : List ℕ) (name : ℕ → ℕ) (points : List ℕ) (mate : ℕ → ℕ) (p q left right : ℕ) (s : State l seen name points mate)
    (d : p ≢ q) (mp : is_member ◌==◌ points p ≡ true) (mq : is_member ◌==◌ points q ≡ true) (nr : is_member ◌==◌ seen right ≡ false) (nl : is_member ◌==◌ (right ∷ seen) left ≡ false) where
  abbrev both : List ℕ
  both = left ∷ right ∷ seen

  abbrev joined : ℕ → ℕ
  joined = relabel l (name q, name p)

  abbrev after : ℕ → ℕ
  after = relabel joined (right, left)

  abbrev names : ℕ → ℕ
  names = named (named name q right) p left

  other_way : hooked q p mate ≡ hooked p q mate
  other_way = sym (hooked_turned p q mate s.mating d)

  first_world : World joined seen
  first_world = World-edge l seen (name q) (name p) s.world (s.known q mq) (s.known p mp)

  both_world : World joined both
  both_world = World-appear joined (right ∷ seen) left (World-appear joined seen right first_world nr) nl

  sees : (z : ℕ) → is_member ◌==◌ seen z ≡ true → is_member ◌==◌ both z ≡ true
  sees z m = grind (arith, m)

  apart_right : (z : ℕ) → is_member ◌==◌ seen z ≡ true → joined right ≢ joined z
  apart_right z m = label_apart joined seen right z first_world nr m

  apart_left : (z : ℕ) → is_member ◌==◌ (right ∷ seen) z ≡ true → joined left ≢ joined z
  apart_left z m = label_apart joined (right ∷ seen) left z (World-appear joined seen right first_world nr) nl m

  after_same : after left ≡ after right
  after_same = grind (arith, nat_tests)

  after_apart : (z : ℕ) → is_member ◌==◌ seen z ≡ true → after z ≢ after left
  after_apart z m =
      let a = apart_right z m in
      let b = apart_left z (grind (arith, m)) in
      plain (joined z) (joined right) (joined left) a b
    where
      plain : (z r l : ℕ) → r ≢ z → l ≢ z → cond (z == r) l z ≢ cond (l == r) l l
      plain z r l a b e = grind (arith, nat_tests, a, b, e)

  after_old : (z w : ℕ) → is_member ◌==◌ seen z ≡ true → is_member ◌==◌ seen w ≡ true → (after z == after w) ≡ (joined z == joined w)
  after_old z w mz mw =
      let a = apart_right z mz in
      let b = apart_right w mw in
      plain (joined z) (joined w) (joined right) (joined left) a b
    where
      plain : (z w r l : ℕ) → r ≢ z → r ≢ w → (cond (z == r) l z == cond (w == r) l w) ≡ (z == w)
      plain z w r l a b = grind (arith, nat_tests, a, b)

  old_told : (u v : ℕ) → is_member ◌==◌ points u ≡ true → is_member ◌==◌ points v ≡ true → u ≢ p → u ≢ q → v ≢ p → v ≢ q → (after (name u) == after (name v)) ≡ ((u == v) || (hooked p q mate u == v))
  old_told u v mu mv a b c e =
      after_old (name u) (name v) (s.known u mu) (s.known v mv)
      ∙ hooked_tells points q p mate (λ w. l (name w)) s.mating (λ t. d (sym t)) mq mp s.tells u v mu mv b a e c
      ∙ ap (λ n. (u == v) || (n u == v)) other_way

  hook_told : Tells points (hooked p q mate) (λ u. after (names u))
  hook_told u v mu mv =
      let new = hooked p q mate in
      let is = hooked-IsMating p q mate s.mating d in
      let np : new p ≡ q = hooked-meets p q mate d in
      let nq : new q ≡ p = ap new (sym np) ∙ is.back p in
      ap₂ (λ x y. x == y) (cond_name after name p q left right u) (cond_name after name p q left right v)
      ∙ told_plain after left right (after (name u)) (after (name v)) p q u v (new u) (new v) d after_same (λ a b. after_apart (name u) (s.known u mu)) (λ a b. after_apart (name v) (s.known v mv))
      (λ t. ap new t ∙ np) (λ t. ap new t ∙ nq) (λ t. sym (is.back u) ∙ ap new t ∙ np) (λ t. sym (is.back u) ∙ ap new t ∙ nq) (λ a b c e. old_told u v mu mv a b c e)

  known_names : (u : ℕ) → is_member ◌==◌ points u ≡ true → is_member ◌==◌ both (names u) ≡ true
  known_names u m = plain seen left right (name u) (u == p) (u == q) (s.known u m)
    where
      plain : (seen : List ℕ) (left right x : ℕ) (b c : Bool) → is_member ◌==◌ seen x ≡ true → is_member ◌==◌ (left ∷ right ∷ seen) (cond b left (cond c right x)) ≡ true
      plain seen left right x true c m = grind (arith, nat_tests)
      plain seen left right x false true m = grind (arith, nat_tests)
      plain seen left right x false false m = grind (arith, m)

  -- THE MATING BEHIND A HOOK
  pub State-hook : State after both names points (hooked p q mate)
  State-hook = record {
    world = World-edge joined both right left both_world (grind (arith, nat_tests)) (grind (arith, nat_tests));
    mating = hooked-IsMating p q mate s.mating d;
    closed = IsClosed-hooked points p q mate s.mating d mp mq s.closed;
    known = known_names;
    tells = hook_told;
  }

  pub count_hook : label_count after both ≡ label_count l seen + cond (mate p == q) 1 0
  count_hook =
      let a = count_join l seen name points mate q p s (λ t. d (sym t)) mq mp in
      let b = count_appear joined seen right first_world nr in
      let c = count_appear joined (right ∷ seen) left (World-appear joined seen right first_world nr) nl in
      let e = label_count-relabel joined right left both (grind (arith, nat_tests)) (grind (arith, nat_tests)) in
      let f = apart_left right (grind (arith, nat_tests)) in
      let g : (joined right == joined left) ≡ false = grind (arith, nat_tests, f) in
      let bp = s.mating.back p in let bq = s.mating.back q in
      let t : (mate q == p) ≡ (mate p == q) = turn_plain (mate p) (mate q) p q (λ x. sym bq ∙ ap mate x) (λ x. sym bp ∙ ap mate x) in
      counted _ _ _ _ _ (mate q == p) (mate p == q) _ a b c e g t
    where
      turn_plain : (mp mq p q : ℕ) → (mq ≡ p → q ≡ mp) → (mp ≡ q → p ≡ mq) → (mq == p) ≡ (mp == q)
      turn_plain mp mq p q h k = grind (arith, nat_tests, h, k)

      counted : (all j x y k : ℕ) (b c g : Bool) → j + cond b 0 1 ≡ k → x ≡ 1 + j → y ≡ 1 + x → all + cond g 0 1 ≡ y → g ≡ false → b ≡ c → all ≡ k + cond c 1 0
      counted all j x y k b c g p q r s t u = grind (arith, p, q, r, s, t, u)

  -- A HOOK KEEPS THE NUMBER OF LABELS AT THE POINTS
  pub points_hook : label_count (λ u. after (names u)) points ≡ label_count (λ u. l (name u)) points
  points_hook =
      let new = hooked p q mate in
      let is = hooked-IsMating p q mate s.mating d in
      let closed = IsClosed-hooked points p q mate s.mating d mp mq s.closed in
      let still : hooked p q new ≡ new = hooked_mates p q new is d (hooked-meets p q mate d) in
      let f : ℕ → ℕ = λ u. after (names u) in
      let old : ℕ → ℕ = λ u. l (name u) in
      let one = count_without points p q new f is d mp mq closed hook_told f (λ u v mu mv. hook_told u v (among l seen name points mate p q s d mp mq u mu).0 (among l seen name points mate p q s d mp mq v mv).0 ∙ ap (λ n. (u == v) || (n u == v)) (sym still)) in
      let two = count_without points p q mate old s.mating d mp mq s.closed s.tells f (λ u v mu mv. hook_told u v (among l seen name points mate p q s d mp mq u mu).0 (among l seen name points mate p q s d mp mq v mv).0) in
      sym one ∙ two
