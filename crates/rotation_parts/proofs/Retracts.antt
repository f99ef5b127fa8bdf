-- Graphs in which joined names become one have as many parts.
use Rattle.std.proofs.Common.{◌≡◌, ℕ, ◌==◌, List, map, sym, ap, ◌∙◌, Contains}
use Rattle.std.specs.Set.{is_member, distinct_count}
use Rattle.graph_parts.specs.Labels.{label_of, Agree}
use Rattle.graph_parts.specs.Walks.{Joined, along, stay, back, on}
use Rattle.graph_parts.proofs.Agreement.{label_count-agree, eqb_from_iff}
use Rattle.graph_parts.proofs.Counting.{is_member-map}
use Rattle.graph_parts.proofs.Ends.{is_member-itself}
use Rattle.graph_parts.proofs.LeastNames.{part_count-labels}
use Rattle.graph_parts.proofs.PartLaws.{label_count-same_names}
use Rattle.graph_parts.proofs.Renaming.{map_map}
use Rattle.graph_parts.proofs.Walks.{labels-from_Joined, Joined-from_labels}
use Rattle.rotation_parts.specs.Laws.{RetractLaw}
use Rattle.rotation_parts.specs.GraphMaps.{IsRetract}
use Rattle.rotation_parts.proofs.Exchange.{mapped_member}
use Rattle.rotation_parts.proofs.Steps.{bool_from_iff}

pub walks_along : (es fs : List (ℕ × ℕ)) (f : ℕ → ℕ) → ((x y : ℕ) → Contains es (x, y) → Joined fs (f x) (f y)) → {x y : ℕ} → Joined es x y → Joined fs (f x) (f y)
walks_along es fs f h (along {x = x} {y = y} c) = h x y c
walks_along es fs f h stay = stay
walks_along es fs f h (back j) = back (walks_along es fs f h j)
walks_along es fs f h (on j k) = on (walks_along es fs f h j) (walks_along es fs f h k)

module _ (names others : List ℕ) (es fs : List (ℕ × ℕ)) (f g : ℕ → ℕ) (is : IsRetract names others es fs f g) where
  agree : Agree (is_member ◌==◌ names) (label_of es) (λ x. label_of fs (f x))
  agree x y mx my =
      eqb_from_iff (label_of es x) (label_of es y) (label_of fs (f x)) (label_of fs (f y))
      (λ e. labels-from_Joined fs (walks_along es fs f is.down (Joined-from_labels es x y e)))
      (λ e. labels-from_Joined es (on (is.near x mx) (on (walks_along fs es g is.up (Joined-from_labels fs (f x) (f y) e)) (back (is.near y my)))))

  same_members : (u : ℕ) → is_member ◌==◌ (map f names) u ≡ is_member ◌==◌ others u
  same_members u = bool_from_iff (is_member ◌==◌ (map f names) u) (is_member ◌==◌ others u)
      (λ m. let w = mapped_member f names u m in ap (is_member ◌==◌ others) (sym w.2) ∙ is.onto_others w.0 w.1)
      (λ m. ap (is_member ◌==◌ (map f names)) (sym (is.one_of u m)) ∙ is_member-map f names (g u) (is.into_names u m))

pub retract : RetractLaw
retract names others es fs f g p q is =
    part_count-labels names es p
    ∙ label_count-agree (is_member ◌==◌ names) (label_of es) (λ x. label_of fs (f x)) names (agree names others es fs f g is) (is_member-itself names)
    ∙ ap (distinct_count ◌==◌) (sym (map_map (label_of fs) f names))
    ∙ label_count-same_names (label_of fs) (map f names) others (same_members names others es fs f g is)
    ∙ sym (part_count-labels others fs q)
