-- One turn of the reading of a call whose slots hold, before they are read, the kinds of what is to
-- stand there, and afterwards what was read.
use Rattle.std.proofs.Common.{◌≡◌, ℕ, ◌+◌, ◌<◌, List, [], ◌∷◌, length, take, drop, get_or, set, sym, ap, subst, ◌∙◌, arith}
use Rattle.std.proofs.lemmas.List.{drop_more, drop-drop, drop-set-lt, take_more_set, drop_all, take_all}
use Rattle.text_shapes.specs.Shapes.{AreOf, call}
use Rattle.text_shapes.specs.Reach.{IsWord}
use Rattle.text_shapes.specs.Readers.{Falls, Found, Missed, Stands}
use Rattle.text_shapes.proofs.Arguments.{ArgsSoFar, HasSome, args_more, arg_mark_missing, arg_missing}
use Rattle.text_shapes.proofs.Marks.{mark_before}

module _ {A : Type 0} where
  -- the slot at i, and the slots behind it
  left_at : (slots kinds : List A) (i : ℕ) (d : A) → drop i slots ≡ drop i kinds → i < length slots → drop i kinds ≡ get_or slots i d ∷ drop (i + 1) kinds
  left_at slots kinds i d same lt =
      let more = drop_more slots i d lt in
      let behind : drop (i + 1) slots ≡ drop (i + 1) kinds = sym (drop-drop 1 i slots) ∙ ap (drop 1) same ∙ drop-drop 1 i kinds in
      sym same ∙ more ∙ ap (λ (x : List A). get_or slots i d ∷ x) behind

  pub left_after : (slots kinds : List A) (i : ℕ) (a : A) → drop i slots ≡ drop i kinds → drop (i + 1) (set slots i a) ≡ drop (i + 1) kinds
  left_after slots kinds i a same = drop-set-lt (i + 1) slots i a (omega arith) ∙ (sym (drop-drop 1 i slots) ∙ ap (drop 1) same ∙ drop-drop 1 i kinds)

-- one turn of the loop over the slots
module _ {A : Type 0} (tokens : A → List (List ℕ)) (fits : A → A → Type 0) (has_some : HasSome fits) (bytes : List ℕ) (at : ℕ) (head : List ℕ) (word : IsWord head) (slots kinds : List A) (i here : ℕ)
    (read : ArgsSoFar tokens fits bytes at head kinds (drop i kinds) (take i slots) i here) where
  module _ (d : A) (same : drop i slots ≡ drop i kinds) (lt : i < length slots) where
    turned : ArgsSoFar tokens fits bytes at head kinds (get_or slots i d ∷ drop (i + 1) kinds) (take i slots) i here
    turned = subst (λ (ks : List A). ArgsSoFar tokens fits bytes at head kinds ks (take i slots) i here) (left_at slots kinds i d same lt) read

    pub slot_mark_missing : (p : ℕ) → Falls bytes here (mark_before i) p → Missed (AreOf fits kinds) (call tokens head) bytes at p
    slot_mark_missing p falls = arg_mark_missing tokens fits has_some bytes at head word kinds (get_or slots i d) (drop (i + 1) kinds) (take i slots) i here p turned falls

    pub slot_missing : (start p : ℕ) → Stands bytes here (mark_before i) start → Missed (fits (get_or slots i d)) tokens bytes start p → Missed (AreOf fits kinds) (call tokens head) bytes at p
    slot_missing start p mark missed = arg_missing tokens fits has_some bytes at head word kinds (get_or slots i d) (drop (i + 1) kinds) (take i slots) i here start p turned mark missed

    pub slot_more : (start after : ℕ) (a : A) → Stands bytes here (mark_before i) start → Found (fits (get_or slots i d)) tokens bytes start a after
        → ArgsSoFar tokens fits bytes at head kinds (drop (i + 1) kinds) (take (i + 1) (set slots i a)) (i + 1) after
    slot_more start after a mark found =
        subst (λ (xs : List A). ArgsSoFar tokens fits bytes at head kinds (drop (i + 1) kinds) xs (i + 1) after) (sym (take_more_set slots i a lt))
        (args_more tokens fits has_some bytes at head word kinds (get_or slots i d) (drop (i + 1) kinds) (take i slots) i here start after a turned mark found)

  -- all the slots are read
  pub slots_read : length kinds ≡ i → length slots ≡ i → ArgsSoFar tokens fits bytes at head kinds [] slots i here
  slots_read all_kinds all_slots =
      subst (λ (xs : List A). ArgsSoFar tokens fits bytes at head kinds [] xs i here) (take_all i slots (omega arith))
      (subst (λ (ks : List A). ArgsSoFar tokens fits bytes at head kinds ks (take i slots) i here) (drop_all i kinds (omega arith)) read)
