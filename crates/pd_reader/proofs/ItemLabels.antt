-- The labels of one item more, what holds of one more, and what it means that there is no reason
-- against the items.
use Rattle.std.proofs.Common.{inl, inr, ◌≡◌, ℕ, ltb, false, length, Option, Some, None, option_map, List, [], ◌∷◌, ◌++◌, refl, sym, ap, ◌∙◌, append_assoc, append-nil}
use Rattle.std.specs.List.{AllByRecursion}
use Rattle.std.proofs.lemmas.Bool.{cases_Bool, ltb-false, le-ltb}
use Rattle.pd_reader.specs.declared.fault.DiagramFault.TheVariants as faults
use Rattle.list_lemmas.specs.Times.{times_in}
use Rattle.pd_reader.specs.Diagrams.{labels, least_unpaired, refusal, IsLabel, IsPaired}
use Rattle.pd_reader.proofs.Least.{each_stands_twice, none_is_unpaired}

pub labels-push : {I : Type 0} (labels_of : I → List ℕ) (xs : List I) (x : I) → labels labels_of (xs ++ x ∷ []) ≡ labels labels_of xs ++ labels_of x
labels-push labels_of [] x = append-nil (labels_of x)
labels-push labels_of (y ∷ ys) x = ap (λ (ls : List ℕ). labels_of y ++ ls) (labels-push labels_of ys x) ∙ sym (append_assoc (labels_of y) (labels labels_of ys) (labels_of x))

module _ {I : Type 0} (labels_of : I → List ℕ) where
  no_label : (items : List I) (least : Option ℕ) → option_map (λ label. faults.Label label (times_in (labels labels_of items) label)) least ≡ None → least ≡ None
  no_label items None e = refl
  no_label items (Some label) e = absurd cc

  pub unrefused_is_paired : (has_size : I → Type 0) (items : List I) → refusal labels_of items ≡ None → AllByRecursion has_size items → AllByRecursion IsLabel (labels labels_of items)
      → IsPaired labels_of has_size items
  unrefused_is_paired has_size items e sizes in_range =
      elim (cases_Bool (ltb 256 (length items))) [
        | inl many ↦ (let refused : Some (faults.TooMany 256) ≡ None = rw many at e in absurd cc)
        | inr few ↦ record {
          few = ltb-false 256 (length items) few;
          sizes = sizes;
          in_range = in_range;
          twice = each_stands_twice (labels labels_of items) (no_label items (least_unpaired (labels labels_of items)) (rw few at e));
        }
      ]

  pub paired_is_unrefused : (has_size : I → Type 0) (items : List I) → IsPaired labels_of has_size items → refusal labels_of items ≡ None
  paired_is_unrefused has_size items h =
      let few : ltb 256 (length items) ≡ false = le-ltb 256 (length items) h.few in
      rw (few, none_is_unpaired (labels labels_of items) h.twice) refl
