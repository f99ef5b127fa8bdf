use Rattle.std.proofs.Common.{◌≤◌, ◌∙◌, ◌∷◌, List, ℕ, length, ap, sym, subst}
use Rattle.pd_reader.specs.declared.item.Item.{Item}
use Rattle.pd_reader.proofs.Written.{written_first}
use Rattle.pd_reader.proofs.write.write_pd.Goals as goal

pub returns-in_ok-write_behind-in-len1-up : goal.returns-in_ok-write_behind-in-len1-up
returns-in_ok-write_behind-in-len1-up c =
    c.in_ok-write_behind-in-len1-up.ensures
    ∙ rw (c.in_ok-extend_from_slice-in-len1-up.ensures.items, c.as_bytes.ensures.value, c.in_ok-to_string-in-len1-up.ensures.ok, c.in_ok-text.ensures.items, c.items.ensures.items)
    (ap (λ (xs : List ℕ). 80 ∷ 68 ∷ 91 ∷ xs) (sym (written_first c.args.diagram.now (subst (λ (xs : List Item). 1 ≤ length xs) c.items.ensures.items c.in-len1-up.len_at_least))))
