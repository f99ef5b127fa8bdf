-- A call read argument by argument, of any kinds.
--
-- `ArgsSoFar` says where a reader stands: the head and some arguments are read up to here, any call that
-- may stand there goes on with them, and each other breaks off before here. It holds behind the head,
-- and each argument that is found keeps it; where a mark or an argument is missing, each call breaks off
-- at the same place, so none is found.
--
--     args_begun, args_more, args_whole       the head stands, an argument more stands, the call is whole
--     args_head_missing, arg_mark_missing,
--     arg_missing, arg_close_missing          what is missing
use Rattle.std.proofs.Common.{inl, inr, ◌≡◌, ◌⊎◌, ℕ, ◌+◌, ◌≤◌, true, codes, List, [], ◌∷◌, ◌++◌, length, drop, refl, sym, ap, subst, ◌∙◌, append_assoc, append-nil, arith}
use Rattle.std.specs.List.{AllByRecursion}
use Rattle.std.proofs.lemmas.Bool.{ne_eqb}
use Rattle.text_shapes.specs.Reach.{IsWord, is_word_byte, place}
use Rattle.text_shapes.specs.Readers.{Falls, Found, Missed, OtherHeadsStop, Stands}
use Rattle.text_shapes.specs.Shapes.{AreOf, arguments, call}
use Rattle.text_shapes.specs.Tokens.{is_space}
use Rattle.text_shapes.proofs.Ends.{mark_ends}
use Rattle.text_shapes.proofs.Marks.{comma_marked, last_byte, mark_before, mark_is_token, no_letter, open_marked}
use Rattle.text_shapes.proofs.Words.{IsWord-token, place-beaten, place-stands}

-- some argument of each kind
pub record HasSome {K A : Type 0} (fits : K → A → Type 0) : Type 0 where
  pub some : K → A
  pub some_fits : (k : K) → fits k (some k)

module _ {K A : Type 0} (tokens : A → List (List ℕ)) (fits : K → A → Type 0) (bytes : List ℕ) (at : ℕ) (head : List ℕ) (kinds : List K) where
  -- the head and the arguments xs have been read, and arguments of these kinds are left
  pub record ArgsSoFar (left : List K) (xs : List A) (i here : ℕ) : Type 0 where
    pub from : at ≤ here
    pub within : here ≤ length bytes
    pub onto : (ys : List A) → AreOf fits left ys → AreOf fits kinds (xs ++ ys)
    pub same : (ys : List A) (more : List (List ℕ)) → place bytes at (call tokens head (xs ++ ys) ++ more) ≡ place bytes here (arguments tokens (mark_before i) ys ++ more)
    pub others : (all : List A) (more : List (List ℕ)) → AreOf fits kinds all → ((ys : List A) × (all ≡ xs ++ ys) × AreOf fits left ys) ⊎ (place bytes at (call tokens head all ++ more) ≤ here)
    pub heads : ((i ≡ 0) × Stands bytes at head here) ⊎ OtherHeadsStop tokens bytes at head here

module _ {K A : Type 0} (tokens : A → List (List ℕ)) (fits : K → A → Type 0) (has_some : HasSome fits) (bytes : List ℕ) (at : ℕ) (head : List ℕ) (word : IsWord head) (kinds : List K) where
  abbrev SoFar : List K → List A → ℕ → ℕ → Type 0
  SoFar = ArgsSoFar tokens fits bytes at head kinds

  pub args_begun : (here : ℕ) → Stands bytes at head here → SoFar kinds [] 0 here
  args_begun here s = record {
    from = omega (arith, s.sum);
    within = s.within;
    onto = λ ys h. h;
    same = λ ys more. place-stands bytes at head here (arguments tokens (codes "[") ys ++ more) (IsWord-token head word) s;
    others = λ all more h. inl (all, refl, h);
    heads = inl (refl, s);
  }

  heads_stop : (here i start : ℕ) → Stands bytes at head here → Stands bytes here (mark_before i) start → OtherHeadsStop tokens bytes at head here
  heads_stop here i start s mark other ys more other_word ne =
      place-beaten bytes at head other here (arguments tokens (codes "[") ys ++ more) s word other_word (open_marked tokens ys more) ne
      (λ c x y e r. no_letter mark.space i (drop start bytes) c y mark.blank (last_byte head c x (subst (AllByRecursion (λ b. is_word_byte b ≡ true)) e other_word.1)) (sym mark.split ∙ r))

  behind_mark : (i here start : ℕ) (y : A) (ys : List A) (more : List (List ℕ)) → Stands bytes here (mark_before i) start
      → place bytes here (arguments tokens (mark_before i) (y ∷ ys) ++ more) ≡ place bytes start (tokens y ++ (arguments tokens (codes ",") ys ++ more))
  behind_mark i here start y ys more mark =
      place-stands bytes here (mark_before i) start ((tokens y ++ arguments tokens (codes ",") ys) ++ more) (mark_is_token i) mark
      ∙ ap (place bytes start) (append_assoc (tokens y) (arguments tokens (codes ",") ys) more)

  split_more : (k : K) (left : List K) (xs : List A) (start after : ℕ) (a : A) → ((y : A) (ys : List A) (more : List (List ℕ)) → place bytes at (call tokens head (xs ++ y ∷ ys) ++ more) ≡ place bytes start (tokens y ++ (arguments tokens (codes ",") ys ++ more)))
      → Found (fits k) tokens bytes start a after → (all : List A) (more : List (List ℕ)) (ys : List A) → all ≡ xs ++ ys → AreOf fits (k ∷ left) ys
      → ((zs : List A) × (all ≡ (xs ++ a ∷ []) ++ zs) × AreOf fits left zs) ⊎ (place bytes at (call tokens head all ++ more) ≤ after)
  split_more k left xs start after a leads found all more [] e h = absurd h
  split_more k left xs start after a leads found all more (y ∷ ys) e h =
      elim (found.others y (arguments tokens (codes ",") ys ++ more) h.0 (comma_marked tokens ys more)) [
        | inl is ↦ inl (ys, e ∙ rw (is, append_assoc xs (a ∷ []) ys) refl, h.1)
        | inr le ↦ inr (rw e (omega (arith, le, leads y ys more)))
      ]

  -- a mark and an argument more
  pub args_more : (k : K) (left : List K) (xs : List A) (i here start after : ℕ) (a : A) → SoFar (k ∷ left) xs i here → Stands bytes here (mark_before i) start → Found (fits k) tokens bytes start a after
      → SoFar left (xs ++ a ∷ []) (i + 1) after
  args_more k left xs i here start after a so_far mark found =
      let next_mark : mark_before (i + 1) ≡ codes "," = rw (ne_eqb (i + 1) 0 (λ e. omega arith)) refl in
      let forward : here ≤ after = omega (arith, mark.sum, found.from) in
      let leads : (y : A) (ys : List A) (more : List (List ℕ)) → place bytes at (call tokens head (xs ++ y ∷ ys) ++ more) ≡ place bytes start (tokens y ++ (arguments tokens (codes ",") ys ++ more))
      = λ y ys more. so_far.same (y ∷ ys) more ∙ behind_mark i here start y ys more mark in
      record {
        from = omega (arith, so_far.from, forward);
        within = found.within;
        onto = λ ys h. rw (append_assoc xs (a ∷ []) ys) (so_far.onto (a ∷ ys) (found.fits_shape, h));
        same = λ ys more. rw (next_mark, append_assoc xs (a ∷ []) ys) (leads a ys more ∙ found.same (arguments tokens (codes ",") ys ++ more));
        others = λ all more h. elim (so_far.others all more h) [
          | inr le ↦ inr (omega (arith, le, forward))
          | inl rest ↦ split_more k left xs start after a leads found all more rest.0 rest.1 rest.2
        ];
        heads = elim so_far.heads [
          | inl begun ↦ inr (λ other ys more w ne. omega (arith, forward, heads_stop here i start begun.1 mark other ys more w ne))
          | inr ended ↦ inr (λ other ys more w ne. omega (arith, forward, ended other ys more w ne))
        ];
      }

  some_of : List K → List A
  some_of [] = []
  some_of (k ∷ ks) = has_some.some k ∷ some_of ks

  some_are : (ks : List K) → AreOf fits ks (some_of ks)
  unfolding some_of
  some_are [] = tt
  some_are (k ∷ ks) = (has_some.some_fits k, some_are ks)

  -- where the arguments that may come break off
  args_break : (left : List K) (xs : List A) (i here p : ℕ) → SoFar left xs i here → here ≤ p → p ≤ length bytes
      → (best : List A) → AreOf fits left best → ((more : List (List ℕ)) → place bytes here (arguments tokens (mark_before i) best ++ more) ≡ p)
      → ((ys : List A) (more : List (List ℕ)) → AreOf fits left ys → place bytes here (arguments tokens (mark_before i) ys ++ more) ≤ p) → Missed (AreOf fits kinds) (call tokens head) bytes at p
  args_break left xs i here p so_far forward within best fit at_p most_p = record {
    within = within;
    furthest = xs ++ best;
    fits_shape = so_far.onto best fit;
    reached = λ more. so_far.same best more ∙ at_p more;
    most = λ all more h. elim (so_far.others all more h) [
      | inr passed ↦ omega (arith, passed, forward)
      | inl rest ↦ rw rest.1 (omega (arith, so_far.same rest.0 more, most_p rest.0 more rest.2))
    ];
  }

  -- a mark that isn't there
  args_fall : (left : List K) (xs : List A) (i here p : ℕ) → SoFar left xs i here → ((ys : List A) (more : List (List ℕ)) → AreOf fits left ys → place bytes here (arguments tokens (mark_before i) ys ++ more) ≡ p)
      → here ≤ p → p ≤ length bytes → Missed (AreOf fits kinds) (call tokens head) bytes at p
  args_fall left xs i here p so_far at_p forward within =
      args_break left xs i here p so_far forward within (some_of left) (some_are left) (λ more. at_p (some_of left) more (some_are left)) (λ ys more h. omega (arith, at_p ys more h))

  pub arg_mark_missing : (k : K) (left : List K) (xs : List A) (i here p : ℕ) → SoFar (k ∷ left) xs i here → Falls bytes here (mark_before i) p → Missed (AreOf fits kinds) (call tokens head) bytes at p
  arg_mark_missing k left xs i here p so_far falls = args_fall (k ∷ left) xs i here p so_far at_p (omega (arith, falls.same [])) falls.within
    where
      at_p : (ys : List A) (more : List (List ℕ)) → AreOf fits (k ∷ left) ys → place bytes here (arguments tokens (mark_before i) ys ++ more) ≡ p
      at_p [] more h = absurd h
      at_p (y ∷ ys) more h = falls.same ((tokens y ++ arguments tokens (codes ",") ys) ++ more)

  pub arg_missing : (k : K) (left : List K) (xs : List A) (i here start p : ℕ) → SoFar (k ∷ left) xs i here → Stands bytes here (mark_before i) start → Missed (fits k) tokens bytes start p
      → Missed (AreOf fits kinds) (call tokens head) bytes at p
  arg_missing k left xs i here start p so_far mark missed =
      args_break (k ∷ left) xs i here p so_far (omega (arith, mark.sum, missed.reached [])) missed.within (missed.furthest ∷ some_of left) (missed.fits_shape, some_are left)
      (λ more. behind_mark i here start missed.furthest (some_of left) more mark ∙ missed.reached (arguments tokens (codes ",") (some_of left) ++ more)) most_p
    where
      most_p : (ys : List A) (more : List (List ℕ)) → AreOf fits (k ∷ left) ys → place bytes here (arguments tokens (mark_before i) ys ++ more) ≤ p
      most_p [] more h = absurd h
      most_p (y ∷ ys) more h = omega (arith, behind_mark i here start y ys more mark, missed.most y (arguments tokens (codes ",") ys ++ more) h.0)

  pub arg_close_missing : (xs : List A) (i here p : ℕ) → SoFar [] xs i here → Falls bytes here (codes "]") p → Missed (AreOf fits kinds) (call tokens head) bytes at p
  arg_close_missing xs i here p so_far falls = args_fall [] xs i here p so_far at_p (omega (arith, falls.same [])) falls.within
    where
      at_p : (ys : List A) (more : List (List ℕ)) → AreOf fits [] ys → place bytes here (arguments tokens (mark_before i) ys ++ more) ≡ p
      at_p [] more h = falls.same more
      at_p (y ∷ ys) more h = absurd h

  nothing_left : (ys : List A) → AreOf fits [] ys → ys ≡ []
  nothing_left [] h = refl
  nothing_left (y ∷ ys) h = absurd h

  pub args_whole : (xs : List A) (i here next : ℕ) → SoFar [] xs i here → Stands bytes here (codes "]") next → Found (AreOf fits kinds) (call tokens head) bytes at xs next
  unfolding is_space
  args_whole xs i here next so_far s =
      let forward : here ≤ next = omega (arith, s.sum) in
      record {
        fits_shape = subst (AreOf fits kinds) (append-nil xs) (so_far.onto [] tt);
        from = omega (arith, so_far.from, s.sum);
        ends = mark_ends bytes here 93 next refl s;
        within = s.within;
        same = λ more. sym (ap (λ (zs : List A). place bytes at (call tokens head zs ++ more)) (append-nil xs)) ∙ so_far.same [] more ∙ place-stands bytes here (codes "]") next more refl s;
        others = λ all more h marked. elim (so_far.others all more h) [
          | inr passed ↦ inr (omega (arith, passed, forward))
          | inl rest ↦ inl (rest.1 ∙ rw (nothing_left rest.0 rest.2) (append-nil xs))
        ];
      }

  pub args_head_missing : (p : ℕ) → Falls bytes at head p → Missed (AreOf fits kinds) (call tokens head) bytes at p
  args_head_missing p falls = record {
    within = falls.within;
    furthest = some_of kinds;
    fits_shape = some_are kinds;
    reached = λ more. falls.same (arguments tokens (codes "[") (some_of kinds) ++ more);
    most = λ all more h. omega (arith, falls.same (arguments tokens (codes "[") all ++ more));
  }
