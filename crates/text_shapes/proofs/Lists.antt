-- Items in brackets, whatever comes behind them: each item that is found is one step (`LeadsTo`) from
-- what may come behind a list so far to what may come behind it and the item.
--
--     chain_opened, chain_begun       the head, the bracket, and the first item
--     chain_turn                      a comma and an item more
--     chain_none, chain_closed        the mark that closes
--     chain_inside_missed, chain_behind_missed, chain_nothing   what is missing
use Rattle.std.proofs.Common.{inl, inr, ◌≡◌, ◌⊎◌, ℕ, ◌+◌, ◌-◌, ◌<◌, ◌≤◌, true, false, codes, List, [], ◌∷◌, ◌++◌, length, get_or, refl, sym, ap, subst, ◌∙◌, append_assoc, arith}
use Rattle.std.specs.List.{AllByRecursion}
use Rattle.text_shapes.specs.Tokens.{is_space}
use Rattle.text_shapes.specs.Reach.{BeginsUnclosed, IsMarked, IsToken, is_closing, is_word_byte, place}
use Rattle.text_shapes.specs.Readers.{Found, LeadsTo, Missed, Skips, Stands}
use Rattle.text_shapes.specs.Shapes.{items_behind, items_inside, listed}
use Rattle.text_shapes.proofs.Chain.{LeadsTo-renamed, LeadsTo-then, token_stands}
use Rattle.text_shapes.proofs.Closing.{bracket_is_token, closing_apart, closing_begins_none, closing_marks, closing_no_space}
use Rattle.text_shapes.proofs.Places.{IsStop, place-mark, place-no_mark, place-skips}

-- white space is passed over
pub chain_skips : {A : Type 0} (fits_a : A → Type 0) (F : A → List (List ℕ)) (bytes : List ℕ) (at next : ℕ) → Skips bytes at next → LeadsTo fits_a F fits_a F (λ v. v) bytes at next
chain_skips fits_a F bytes at next s = record {
  from = omega (arith, s.sum);
  within = s.within;
  onto = λ v h. h;
  same = λ v more. place-skips bytes at next (F v ++ more) s;
  others = λ v more h. inl (v, refl, h);
}

module _ {V : Type 0} (close : ℕ) (closing : is_closing close ≡ true) (fits : V → Type 0) (item : V → List (List ℕ)) (bytes : List ℕ) where
  abbrev All_fit : List V → Type 0
  All_fit = AllByRecursion fits

  -- behind an item stands a mark
  behind_marked : (ws : List V) (more : List (List ℕ)) → IsMarked (items_behind close item ws ++ more)
  unfolding is_word_byte
  behind_marked [] more = closing_marks close closing
  behind_marked (w ∷ ws) more = refl

  pub chain_first : (first next : ℕ) (v : V) → IsStop bytes first → (first < length bytes → get_or bytes first 0 ≡ close → ⊥) → Found fits item bytes first v next
      → LeadsTo All_fit (items_inside close item) All_fit (items_behind close item) (λ ws. v ∷ ws) bytes first next
  chain_first first next v stop ne f = record {
    from = omega (arith, f.from);
    within = f.within;
    onto = λ ws h. (f.fits_shape, h);
    same = λ ws more. ap (place bytes first) (append_assoc (item v) (items_behind close item ws) more) ∙ f.same (items_behind close item ws ++ more);
    others = others;
  }
    where
      others : (all : List V) (more : List (List ℕ)) → AllByRecursion fits all → ((ws : List V) × (all ≡ v ∷ ws) × AllByRecursion fits ws) ⊎ (place bytes first (items_inside close item all ++ more) ≤ next)
      others [] more h = inr (omega (arith, place-no_mark bytes first close [] more stop ne, f.from))
      others (w ∷ ws) more h = elim (f.others w (items_behind close item ws ++ more) h.0 (behind_marked ws more)) [
        | inl e ↦ inl (ws, ap (λ (x : V). x ∷ ws) e, h.1)
        | inr le ↦ inr (subst (λ (ts : List (List ℕ)). place bytes first ts ≤ next) (sym (append_assoc (item w) (items_behind close item ws) more)) le)
      ]

  -- white space and the first item
  pub chain_begun : (at first next : ℕ) (v : V) → Skips bytes at first → (first < length bytes → get_or bytes first 0 ≡ close → ⊥) → Found fits item bytes first v next
      → LeadsTo All_fit (items_inside close item) All_fit (items_behind close item) (λ ws. v ∷ ws) bytes at next
  chain_begun at first next v k ne f =
      LeadsTo-then All_fit (items_inside close item) All_fit (items_inside close item) All_fit (items_behind close item) (λ vs. vs) (λ ws. v ∷ ws) bytes at first next
      (chain_skips All_fit (items_inside close item) bytes at first k) (chain_first first next v (k.within, k.stops) ne f)

  pub chain_inside_missed : (first p : ℕ) → IsStop bytes first → (first < length bytes → get_or bytes first 0 ≡ close → ⊥) → Missed fits item bytes first p → Missed All_fit (items_inside close item) bytes first p
  chain_inside_missed first p stop ne m = record {
    within = m.within;
    furthest = m.furthest ∷ [];
    fits_shape = (m.fits_shape, tt);
    reached = λ more. ap (place bytes first) (append_assoc (item m.furthest) (items_behind close item []) more) ∙ m.reached (items_behind close item [] ++ more);
    most = most;
  }
    where
      most : (all : List V) (more : List (List ℕ)) → AllByRecursion fits all → place bytes first (items_inside close item all ++ more) ≤ p
      most [] more h = omega (arith, place-no_mark bytes first close [] more stop ne, m.reached [])
      most (w ∷ ws) more h = subst (λ (ts : List (List ℕ)). place bytes first ts ≤ p) (sym (append_assoc (item w) (items_behind close item ws) more)) (m.most w (items_behind close item ws ++ more) h.0)

  pub chain_more : (here next : ℕ) (v : V) → IsStop bytes here → here < length bytes → get_or bytes here 0 ≡ 44 → Found fits item bytes (here + 1) v next
      → LeadsTo All_fit (items_behind close item) All_fit (items_behind close item) (λ ws. v ∷ ws) bytes here next
  chain_more here next v stop lt comma f = record {
    from = omega (arith, f.from);
    within = f.within;
    onto = λ ws h. (f.fits_shape, h);
    same = λ ws more. place-mark bytes here 44 ((item v ++ items_behind close item ws) ++ more) stop lt comma ∙ (ap (place bytes (here + 1)) (append_assoc (item v) (items_behind close item ws) more) ∙ f.same (items_behind close item ws ++ more));
    others = others;
  }
    where
      others : (all : List V) (more : List (List ℕ)) → AllByRecursion fits all → ((ws : List V) × (all ≡ v ∷ ws) × AllByRecursion fits ws) ⊎ (place bytes here (items_behind close item all ++ more) ≤ next)
      others [] more h = inr (omega (arith, place-no_mark bytes here close [] more stop (λ l e. closing_apart close closing (sym e ∙ comma)), f.from))
      others (w ∷ ws) more h = elim (f.others w (items_behind close item ws ++ more) h.0 (behind_marked ws more)) [
        | inl e ↦ inl (ws, ap (λ (x : V). x ∷ ws) e, h.1)
        | inr le ↦ inr (
            let e : place bytes here (items_behind close item (w ∷ ws) ++ more) ≡ place bytes (here + 1) (item w ++ (items_behind close item ws ++ more))
            = place-mark bytes here 44 ((item w ++ items_behind close item ws) ++ more) stop lt comma ∙ ap (place bytes (here + 1)) (append_assoc (item w) (items_behind close item ws) more) in
            omega (arith, le, e))
      ]

  pub chain_behind_missed : (here p : ℕ) → IsStop bytes here → here < length bytes → get_or bytes here 0 ≡ 44 → Missed fits item bytes (here + 1) p → Missed All_fit (items_behind close item) bytes here p
  chain_behind_missed here p stop lt comma m = record {
    within = m.within;
    furthest = m.furthest ∷ [];
    fits_shape = (m.fits_shape, tt);
    reached = λ more. step m.furthest [] more ∙ m.reached (items_behind close item [] ++ more);
    most = most;
  }
    where
      step : (w : V) (ws : List V) (more : List (List ℕ)) → place bytes here (items_behind close item (w ∷ ws) ++ more) ≡ place bytes (here + 1) (item w ++ (items_behind close item ws ++ more))
      step w ws more = place-mark bytes here 44 ((item w ++ items_behind close item ws) ++ more) stop lt comma ∙ ap (place bytes (here + 1)) (append_assoc (item w) (items_behind close item ws) more)

      most : (all : List V) (more : List (List ℕ)) → AllByRecursion fits all → place bytes here (items_behind close item all ++ more) ≤ p
      most [] more h = omega (arith, place-no_mark bytes here close [] more stop (λ l e. closing_apart close closing (sym e ∙ comma)), m.reached [])
      most (w ∷ ws) more h = omega (arith, step w ws more, m.most w (items_behind close item ws ++ more) h.0)

  -- the mark that closes is no white space
  ends_there : (here : ℕ) → get_or bytes here 0 ≡ close → is_space (get_or bytes (here + 1 - 1) 0) ≡ false
  ends_there here e = (let same : here + 1 - 1 ≡ here = omega arith in rw (same, e) (closing_no_space close closing))

  pub chain_closed : (here : ℕ) → IsStop bytes here → here < length bytes → get_or bytes here 0 ≡ close → Found All_fit (items_behind close item) bytes here [] (here + 1)
  chain_closed here stop lt e = record {
    fits_shape = tt;
    from = omega arith;
    ends = ends_there here e;
    within = omega (arith, lt);
    same = λ more. place-mark bytes here close more stop lt e;
    others = others;
  }
    where
      others : (all : List V) (more : List (List ℕ)) → AllByRecursion fits all → IsMarked more → (all ≡ []) ⊎ (place bytes here (items_behind close item all ++ more) ≤ here + 1)
      others [] more h marked = inl refl
      others (w ∷ ws) more h marked = inr (omega (arith, place-no_mark bytes here 44 [] ((item w ++ items_behind close item ws) ++ more) stop (λ l c. closing_apart close closing (sym e ∙ c))))

  pub chain_nothing : (here : ℕ) → IsStop bytes here → (here < length bytes → get_or bytes here 0 ≡ 44 → ⊥) → (here < length bytes → get_or bytes here 0 ≡ close → ⊥) → Missed All_fit (items_behind close item) bytes here here
  chain_nothing here stop comma bracket = record {
    within = stop.0;
    furthest = [];
    fits_shape = tt;
    reached = λ more. place-no_mark bytes here close [] more stop bracket;
    most = most;
  }
    where
      most : (all : List V) (more : List (List ℕ)) → AllByRecursion fits all → place bytes here (items_behind close item all ++ more) ≤ here
      most [] more h = omega (arith, place-no_mark bytes here close [] more stop bracket)
      most (w ∷ ws) more h = omega (arith, place-no_mark bytes here 44 [] ((item w ++ items_behind close item ws) ++ more) stop comma)

  -- one item more, and the white space behind it
  pub chain_turn : (F : List V → List (List ℕ)) (a : ℕ) (xs : List V) (here after next : ℕ) (v : V) → LeadsTo All_fit F All_fit (items_behind close item) (λ ws. xs ++ ws) bytes a here → IsStop bytes here → here < length bytes → get_or bytes here 0 ≡ 44
      → Found fits item bytes (here + 1) v after → Skips bytes after next → LeadsTo All_fit F All_fit (items_behind close item) (λ ws. (xs ++ v ∷ []) ++ ws) bytes a next
  chain_turn F a xs here after next v l stop lt comma f k =
      let one = LeadsTo-then All_fit F All_fit (items_behind close item) All_fit (items_behind close item) (λ ws. xs ++ ws) (λ ws. v ∷ ws) bytes a here after l (chain_more here after v stop lt comma f) in
      let two = LeadsTo-then All_fit F All_fit (items_behind close item) All_fit (items_behind close item) (λ ws. xs ++ v ∷ ws) (λ ws. ws) bytes a after next one (chain_skips All_fit (items_behind close item) bytes after next k) in
      LeadsTo-renamed All_fit F All_fit (items_behind close item) (λ ws. xs ++ v ∷ ws) (λ ws. (xs ++ v ∷ []) ++ ws) bytes a next (λ ws. sym (append_assoc xs (v ∷ []) ws)) two

  -- there are none
  pub chain_none : (first : ℕ) → IsStop bytes first → first < length bytes → get_or bytes first 0 ≡ close → ((v : V) → fits v → BeginsUnclosed (item v))
      → Found All_fit (items_inside close item) bytes first [] (first + 1)
  chain_none first stop lt e none = record {
    fits_shape = tt;
    from = omega arith;
    ends = ends_there first e;
    within = omega (arith, lt);
    same = λ more. place-mark bytes first close more stop lt e;
    others = others;
  }
    where
      others : (all : List V) (more : List (List ℕ)) → AllByRecursion fits all → IsMarked more → (all ≡ []) ⊎ (place bytes first (items_inside close item all ++ more) ≤ first + 1)
      others [] more h marked = inl refl
      others (w ∷ ws) more h marked = inr (
          let le : place bytes first ((item w ++ items_behind close item ws) ++ more) ≤ first = subst (λ (ts : List (List ℕ)). place bytes first ts ≤ first) (sym (append_assoc (item w) (items_behind close item ws) more)) (closing_begins_none bytes first close (item w) (items_behind close item ws ++ more) stop e closing (none w h.0)) in
          omega (arith, le))

-- a word and the bracket that opens
pub chain_opened : {V : Type 0} (fits : V → Type 0) (item : V → List (List ℕ)) (bytes : List ℕ) (head : List ℕ) (at place opened : ℕ) → IsToken head → Stands bytes at head place → Stands bytes place (codes "[") opened
    → LeadsTo (AllByRecursion fits) (listed item head) (AllByRecursion fits) (items_inside 93 item) (λ vs. vs) bytes at opened
chain_opened fits item bytes head at place opened token s o =
    LeadsTo-then (AllByRecursion fits) (listed item head) (AllByRecursion fits) (λ vs. codes "[" ∷ items_inside 93 item vs) (AllByRecursion fits) (items_inside 93 item) (λ vs. vs) (λ vs. vs) bytes at place opened
    (token_stands (AllByRecursion fits) head (λ vs. codes "[" ∷ items_inside 93 item vs) bytes at place token s)
    (token_stands (AllByRecursion fits) (codes "[") (items_inside 93 item) bytes place opened bracket_is_token o)
