-- Walks do not turn round. Places have an opposite place (straight on through the crossing) and another place (across the
-- edge), both without fixed places and their own reverses. A walk goes from a place to the other place of the opposite one. It
-- never comes to the place opposite to one that it entered: the middle of such a walk would be a place that is its own
-- opposite or its own other place. And each place of a component is entered by the walk or by its reverse.
use Rattle.std.proofs.Common.{◌≡◌, ◌≢◌, ◌⊎◌, ℕ, zero, suc, ◌+◌, ◌<◌, List, inl, inr, refl, sym, ap, subst, ◌∙◌, arith, ⊎_elim}
use Rattle.std.specs.List.{Contains}
use Rattle.graph_parts.specs.Walks.{Joined, along, stay, back, on}

-- the places of a diagram
pub record ArePlaced (n : ℕ) (opposite other : ℕ → ℕ) : Type 0 where
  pub opposite_within : (p : ℕ) → p < n → opposite p < n
  pub other_within : (p : ℕ) → p < n → other p < n
  pub opposite_back : (p : ℕ) → p < n → opposite (opposite p) ≡ p
  pub other_back : (p : ℕ) → p < n → other (other p) ≡ p
  pub opposite_apart : (p : ℕ) → p < n → opposite p ≢ p
  pub other_apart : (p : ℕ) → p < n → other p ≢ p

module _ (n : ℕ) (opposite other : ℕ → ℕ) (placed : ArePlaced n opposite other) where
  open placed use {opposite_within, other_within, opposite_back, other_back, opposite_apart, other_apart}

  -- the next place that the walk enters
  abbrev pub next : ℕ → ℕ
  next p = other (opposite p)

  abbrev pub walked : ℕ → ℕ → ℕ
  walked zero p = p
  walked (suc k) p = walked k (next p)

  next_within : (p : ℕ) → p < n → next p < n
  next_within p l = other_within (opposite p) (opposite_within p l)

  pub walked_within : (k p : ℕ) → p < n → walked k p < n
  walked_within zero p l = l
  walked_within (suc k) p l = walked_within k (next p) (next_within p l)

  walked_next : (k p : ℕ) → walked k (next p) ≡ next (walked k p)
  walked_next zero p = refl
  walked_next (suc k) p = walked_next k (next p)

  walked_walked : (j k p : ℕ) → walked j (walked k p) ≡ walked (j + k) p
  walked_walked zero k p = ap (λ m. walked m p) (let e : k ≡ 0 + k = omega arith in e)
  walked_walked (suc j) k p =
      ap (walked j) (sym (walked_next k p)) ∙ (walked_walked j k (next p) ∙ ap (λ m. walked m p) (let e : suc (j + k) ≡ suc j + k = omega arith in e))

  -- back across the edge and straight on
  next_back : (p : ℕ) → p < n → opposite (other (next p)) ≡ p
  next_back p l = ap opposite (other_back (opposite p) (opposite_within p l)) ∙ opposite_back p l

  next_same : (p q : ℕ) → p < n → q < n → next p ≡ next q → p ≡ q
  next_same p q l m e = sym (next_back p l) ∙ (ap (λ r. opposite (other r)) e ∙ next_back q m)

  -- a walk never comes to the opposite place
  no_return : (k p : ℕ) → p < n → walked k p ≢ opposite p
  no_return zero p l e = opposite_apart p l (sym e)
  no_return (suc zero) p l e = other_apart (opposite p) (opposite_within p l) e
  no_return (suc (suc k)) p l e =
      let q = next p in
      let within = next_within p l in
      let last : next (walked k q) ≡ opposite p = sym (walked_next k q) ∙ e in
      let before : opposite (walked k q) ≡ q = sym (other_back (opposite (walked k q)) (opposite_within (walked k q) (walked_within k q within))) ∙ ap other last in
      no_return k q within (sym (opposite_back (walked k q) (walked_within k q within)) ∙ ap opposite before)

  -- two walks meet
  pub record Meet (p q : ℕ) : Type 0 where
    pub steps : ℕ
    pub others : ℕ
    pub same : walked steps p ≡ walked others q

  pub meet_self : (p : ℕ) → Meet p p
  meet_self p = record { steps = 0; others = 0; same = refl }

  pub meet_back : (p q : ℕ) → Meet p q → Meet q p
  meet_back p q m = record { steps = m.others; others = m.steps; same = sym m.same }

  pub meet_on : (p q r : ℕ) → Meet p q → Meet q r → Meet p r
  meet_on p q r a b = record {
    steps = b.steps + a.steps;
    others = a.others + b.others;
    same = sym (walked_walked b.steps a.steps p)
        ∙ (ap (walked b.steps) a.same
        ∙ (walked_walked b.steps a.others q
        ∙ (ap (λ m. walked m q) (let e : b.steps + a.others ≡ a.others + b.steps = omega arith in e)
        ∙ (sym (walked_walked a.others b.steps q)
        ∙ (ap (walked a.others) b.same ∙ walked_walked a.others b.others r)))));
  }

  pub meet_next : (p : ℕ) → Meet (next p) p
  meet_next p = record { steps = 0; others = 1; same = refl }

  both_back : (a b p : ℕ) → p < n → walked a p ≢ walked b (opposite p)
  both_back zero b p l e =
      no_return b (opposite p) (opposite_within p l) (sym e ∙ sym (opposite_back p l))
  both_back (suc a) zero p l e = no_return (suc a) p l e
  both_back (suc a) (suc b) p l e =
      both_back a b p l (next_same (walked a p) (walked b (opposite p)) (walked_within a p l) (walked_within b (opposite p) (opposite_within p l))
      (sym (walked_next a p) ∙ (e ∙ walked_next b (opposite p))))

  -- ONE WAY: a place and its opposite one are not both on a walk
  pub one_way : (p f : ℕ) → p < n → Meet p f → Meet (opposite p) f → ⊥
  one_way p f l a b = let m = meet_on p f (opposite p) a (meet_back (opposite p) f b) in both_back m.steps m.others p l m.same

  -- ---- the edges from each place to the next
  module _ (edges : List (ℕ × ℕ)) (are : (p q : ℕ) → Contains edges (p, q) → q ≡ next p) (have : (p : ℕ) → p < n → Contains edges (p, next p)) where
    pub joined_meets : (p q : ℕ) → Joined edges p q → Meet p q
    joined_meets p q (along {x = x} {y = y} h) = subst (λ r. Meet p r) (sym (are p q h)) (meet_back (next p) p (meet_next p))
    joined_meets p q (stay {x = x}) = meet_self p
    joined_meets p q (back {x = x} {y = y} j) = meet_back q p (joined_meets q p j)
    joined_meets p q (on {x = x} {y = y} {z = z} j k) = meet_on p y q (joined_meets p y j) (joined_meets y q k)

    walked_joined : (k p : ℕ) → p < n → Joined edges p (walked k p)
    walked_joined zero p l = stay
    walked_joined (suc k) p l = on (along (have p l)) (walked_joined k (next p) (next_within p l))

    pub meets_joined : (p q : ℕ) → p < n → q < n → Meet p q → Joined edges p q
    meets_joined p q l k m = on (subst (λ r. Joined edges p r) m.same (walked_joined m.steps p l)) (back (walked_joined m.others q k))

  -- ---- the places of a component
  -- the walk or its reverse comes to the place
  abbrev pub Reached : ℕ → ℕ → Type 0
  Reached f p = Meet p f ⊎ Meet (opposite p) f

  pub reached_opposite : (f p : ℕ) → p < n → Reached f p → Reached f (opposite p)
  reached_opposite f p l (inl m) = inr (subst (λ q. Meet q f) (sym (opposite_back p l)) m)
  reached_opposite f p l (inr m) = inl m

  -- across the edge lies the next place of the opposite one
  pub across_next : (p : ℕ) → p < n → next (opposite p) ≡ other p
  across_next p l = ap other (opposite_back p l)

  pub across_meets : (p f : ℕ) → p < n → Meet (opposite p) f → Meet (other p) f
  across_meets p f l m = meet_on (other p) (opposite p) f (subst (λ q. Meet q (opposite p)) (across_next p l) (meet_next (opposite p))) m

  pub meets_across : (p f : ℕ) → p < n → Meet (other p) f → Meet (opposite p) f
  meets_across p f l m = meet_on (opposite p) (other p) f (meet_back (other p) (opposite p) (subst (λ q. Meet q (opposite p)) (across_next p l) (meet_next (opposite p)))) m

  pub reached_other : (f p : ℕ) → p < n → Reached f p → Reached f (other p)
  reached_other f p l (inl m) =
      inr (meet_on (opposite (other p)) p f
      (meet_back p (opposite (other p)) (subst (λ q. Meet q (opposite (other p))) (ap other (opposite_back (other p) (other_within p l)) ∙ other_back p l) (meet_next (opposite (other p)))))
      m)
  reached_other f p l (inr m) = inl (across_meets p f l m)

  module _ (label : ℕ → ℕ) (twice : (p q : ℕ) → p < n → q < n → label q ≡ label p → (q ≡ p) ⊎ (q ≡ other p))
      (strands : List (ℕ × ℕ)) (through : (x y : ℕ) → Contains strands (x, y) → (p : ℕ) × ((p < n) × (label p ≡ x) × (label (opposite p) ≡ y))) (f : ℕ) (within : f < n) where
    -- all places of the label are reached
    abbrev All_reached : ℕ → Type 0
    All_reached x = (p : ℕ) → p < n → label p ≡ x → Reached f p

    from_place : (p x : ℕ) → p < n → label p ≡ x → Reached f p → All_reached x
    from_place p x l e r q m d =
        ⊎_elim (λ s. subst (Reached f) (sym s) r) (λ s. subst (Reached f) (sym s) (reached_other f p l r)) (twice p q l m (d ∙ sym e))

    along_strand : (x y : ℕ) → Contains strands (x, y) → (All_reached x → All_reached y) × (All_reached y → All_reached x)
    along_strand x y h =
        let t = through x y h in
        let p = t.0 in
        let l = t.1.0 in
        let forth : All_reached x → All_reached y = λ all. from_place (opposite p) y (opposite_within p l) t.1.2 (reached_opposite f p l (all p l t.1.1)) in
        let over : All_reached y → All_reached x = λ all. from_place p x l t.1.1 (subst (Reached f) (opposite_back p l) (reached_opposite f (opposite p) (opposite_within p l) (all (opposite p) (opposite_within p l) t.1.2))) in
        (forth, over)

    both_ways : (x y : ℕ) → Joined strands x y → (All_reached x → All_reached y) × (All_reached y → All_reached x)
    both_ways x y (along {x = x'} {y = y'} h) = along_strand x y h
    both_ways x y (stay {x = x'}) = ((λ all. all), (λ all. all))
    both_ways x y (back {x = x'} {y = y'} j) = let b = both_ways y x j in (b.1, b.0)
    both_ways x y (on {x = x'} {y = y'} {z = z'} j k) = let a = both_ways x y' j in let b = both_ways y' y k in ((λ all. b.0 (a.0 all)), (λ all. a.1 (b.1 all)))

    -- COVERED: each place of the component is entered by the walk or by its reverse
    pub covered : (p : ℕ) → p < n → Joined strands (label f) (label p) → Reached f p
    covered p l j =
        let b = both_ways (label f) (label p) j in
        b.0 (from_place f (label f) within refl (inl (meet_self f))) p l refl
