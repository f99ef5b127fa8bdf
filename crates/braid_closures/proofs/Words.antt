-- Words entry by entry: which positions they touch, one more crossing, one more loop.
use Rattle.std.proofs.Common.{◌≡◌, ℕ, zero, suc, ◌+◌, ◌-◌, ◌<◌, ◌≤◌, ◌||◌, Bool, true, false, cond, ℤ, pos, List, [], ◌∷◌, ◌++◌, drop, take, get_or, length, set, refl, sym, ap, ◌∙◌, arith, append_assoc, append-nil, subst}
use Rattle.std.specs.Int.RustNames.{unsigned_abs}
use Rattle.std.specs.List.{AllByRecursion, range_with_len}
use Rattle.std.proofs.lemmas.List.{drop_more, drop_all, take_all, length-drop}
use Rattle.pd_reader.specs.declared.item.Item.{Item}
use Rattle.pd_reader.specs.declared.item.Item.TheVariants.{Loop}
use Rattle.braid_trace.specs.Braids.{BraidWord, IsBraid}
use Rattle.braid_closures.specs.Closures.{touches, is_touched, new_label, unused_after, entry_item, crossings, loops}

-- ---- what words touch
pub touched_from : (word : List ℤ) (i p : ℕ) → i < length word → is_touched (drop i word) p ≡ (touches (get_or word i (pos 0)) p || is_touched (drop (i + 1) word) p)
touched_from word i p l = ap (λ w. is_touched w p) (drop_more word i (pos 0) l)

pub touched_here : (word : List ℤ) (i p : ℕ) → i < length word → is_touched word p ≡ is_touched (drop i word) p → touches (get_or word i (pos 0)) p ≡ true → is_touched word p ≡ true
touched_here word i p l so t = so ∙ touched_from word i p l ∙ ap (λ b. b || is_touched (drop (i + 1) word) p) t

pub touched_later : (word : List ℤ) (i p : ℕ) → i < length word → is_touched word p ≡ is_touched (drop i word) p → touches (get_or word i (pos 0)) p ≡ false → is_touched word p ≡ is_touched (drop (i + 1) word) p
touched_later word i p l so t = so ∙ touched_from word i p l ∙ ap (λ b. b || is_touched (drop (i + 1) word) p) t

pub touched_never : (word : List ℤ) (i p : ℕ) → length word ≤ i → is_touched word p ≡ is_touched (drop i word) p → is_touched word p ≡ false
touched_never word i p l so = so ∙ ap (λ w. is_touched w p) (drop_all i word l)

-- ---- one more crossing
pub range_last : (a k : ℕ) → range_with_len a (suc k) ≡ range_with_len a k ++ (a + k) ∷ []
range_last a zero = (let e : a ≡ a + 0 = omega arith in ap (λ x. x ∷ []) e)
range_last a (suc k) = ap (λ xs. a ∷ xs) (range_last (a + 1) k ∙ (let e : a + 1 + k ≡ a + suc k = omega arith in ap (λ x. range_with_len (a + 1) k ++ x ∷ []) e))

-- all that follows an entry
pub tail_is : (word : List ℤ) (k : ℕ) → take (length word - k) (drop k word) ≡ drop k word
tail_is word k = take_all (length word - k) (drop k word) (let e = length-drop k word in omega (arith, e))

pub all_at : (P : ℤ → Type 0) (word : List ℤ) (i : ℕ) → i < length word → AllByRecursion P word → P (get_or word i (pos 0))
all_at P [] i l a = absurd (omega (arith, l))
all_at P (e ∷ word) zero l a = a.0
all_at P (e ∷ word) (suc i) l a = all_at P word i (omega (arith, l)) a.1

-- the size of an entry
pub crossed : (braid : BraidWord) (word : List ℤ) (at u : ℕ) → word ≡ braid.word → IsBraid braid → at < length word → u ≡ unsigned_abs (get_or word at (pos 0)) → (1 ≤ u) × (u < braid.strands)
crossed braid word at u same is l e =
    let P : ℤ → Type 0 = λ z. (1 ≤ unsigned_abs z) × (unsigned_abs z < braid.strands) in
    let found = all_at P word at l (subst (AllByRecursion P) (sym same) is.cross) in
    let low = found.0 in
    let high = found.1 in
    (omega (arith, low, e), omega (arith, high, e))

module _ (items whole : List Item) (labels : List ℕ) (unused : ℕ) (word : List ℤ) (at : ℕ) where
  abbrev later : List ℤ
  later = drop (at + 1) word

  pub one_crossing : (i x y left right next last : ℕ) (item : Item) → at < length word → items ++ crossings labels unused (drop at word) ≡ whole → i ≡ unsigned_abs (get_or word at (pos 0)) →
      x ≡ get_or labels (i - 1) 0 → y ≡ get_or labels i 0 → left ≡ new_label later i unused → next ≡ unused_after later i unused →
      right ≡ new_label later (i + 1) next → last ≡ unused_after later (i + 1) next → item ≡ entry_item (get_or word at (pos 0)) x y left right →
      (items ++ item ∷ []) ++ crossings (set (set labels (i - 1) left) i right) last later ≡ whole
  one_crossing i x y left right next last item l so ei ex ey el en er eu e =
      let entry = get_or word at (pos 0) in
      let made : crossings labels unused (entry ∷ later) ≡ item ∷ crossings (set (set labels (i - 1) left) i right) last later = rw (e, eu, er, en, el, ey, ex, ei) refl in
      append_assoc items (item ∷ []) (crossings (set (set labels (i - 1) left) i right) last later)
      ∙ ap (λ xs. items ++ xs) (sym made)
      ∙ ap (λ w. items ++ crossings labels unused w) (sym (drop_more word at (pos 0) l))
      ∙ so

pub no_more : (items : List Item) (labels : List ℕ) (unused : ℕ) (word : List ℤ) (at : ℕ) → length word ≤ at → items ++ crossings labels unused (drop at word) ≡ items
no_more items labels unused word at l = ap (λ w. items ++ crossings labels unused w) (drop_all at word l) ∙ append-nil items

pub one_used : (word : List ℤ) (p unused : ℕ) → unused_after word p unused ≤ unused + 1
one_used word p unused = plain (is_touched word p) unused
  where
    plain : (b : Bool) (u : ℕ) → cond b (u + 1) u ≤ u + 1
    plain true u = omega arith
    plain false u = omega arith

-- ---- one more loop
pub loops_more : (word : List ℤ) (p count : ℕ) → loops word p (suc count) ≡ loops word p 1 ++ loops word (p + 1) count
loops_more word p count = plain (is_touched word p) (Loop p) (loops word (p + 1) count)
  where
    plain : (b : Bool) (x : Item) (xs : List Item) → cond b xs (x ∷ xs) ≡ cond b [] (x ∷ []) ++ xs
    plain true x xs = refl
    plain false x xs = refl

pub one_loop : (items whole : List Item) (word : List ℤ) (place n : ℕ) → place < n → items ++ loops word (place + 1) (n - place) ≡ whole →
    (items ++ loops word (place + 1) 1) ++ loops word (place + 1 + 1) (n - (place + 1)) ≡ whole
one_loop items whole word place n l so =
    let left : suc (n - (place + 1)) ≡ n - place = omega (arith, l) in
    append_assoc items (loops word (place + 1) 1) (loops word (place + 1 + 1) (n - (place + 1)))
    ∙ ap (λ xs. items ++ xs) (sym (loops_more word (place + 1) (n - (place + 1))))
    ∙ ap (λ k. items ++ loops word (place + 1) k) left ∙ so

pub no_loop : (items whole : List Item) (word : List ℤ) (place n : ℕ) → n ≤ place → items ++ loops word (place + 1) (n - place) ≡ whole → items ≡ whole
no_loop items whole word place n l so =
    let none : 0 ≡ n - place = omega (arith, l) in
    sym (append-nil items) ∙ ap (λ k. items ++ loops word (place + 1) k) none ∙ so
