-- A rotation system under other names.
use Rattle.std.proofs.Common.{◌≡◌, ℕ, ◌==◌, true, List, sym, ap, ◌∙◌}
use Rattle.std.specs.Set.{is_member}
use Rattle.graph_parts.specs.Parts.{part_count}
use Rattle.graph_parts.specs.Walks.{on}
use Rattle.rotation_parts.specs.Laws.{RenamedCountsLaw}
use Rattle.rotation_parts.specs.Drawings.{IsRenamed}
use Rattle.rotation_parts.specs.Rotations.{steps, cycle_count, pair_graph}
use Rattle.rotation_parts.proofs.PieceGraphs.{pair_among, over, round, piece_walks}
use Rattle.rotation_parts.proofs.Retracts.{retract}
use Rattle.rotation_parts.proofs.Steps.{step_of, equal_joined, step_along, steps_among}

module _ (names others : List ℕ) (turn other turned drawn f g : ℕ → ℕ) (is : IsRenamed names others turn other turned drawn f g) where
  abbrev phi : ℕ → ℕ
  phi x = turn (other x)

  abbrev psi : ℕ → ℕ
  psi u = turned (drawn u)

  phi_in : (x : ℕ) → is_member ◌==◌ names x ≡ true → is_member ◌==◌ names (phi x) ≡ true
  phi_in x m = is.turn_in (other x) (is.other_in x m)

  -- what is done at f x
  psi_is : (x : ℕ) → is_member ◌==◌ names x ≡ true → psi (f x) ≡ f (phi x)
  psi_is x m = ap turned (is.pairs x m) ∙ is.turns (other x) (is.other_in x m)

  -- and at u
  at_new : (h k : ℕ → ℕ) → ((x : ℕ) → is_member ◌==◌ names x ≡ true → k (f x) ≡ f (h x)) → (u : ℕ) → is_member ◌==◌ others u ≡ true → k u ≡ f (h (g u))
  at_new h k e u m = ap k (sym (is.new_again u m)) ∙ e (g u) (is.into_names u m)

  new_in : (h k : ℕ → ℕ) → ((x : ℕ) → is_member ◌==◌ names x ≡ true → k (f x) ≡ f (h x)) → ((x : ℕ) → is_member ◌==◌ names x ≡ true → is_member ◌==◌ names (h x) ≡ true) →
      (u : ℕ) → is_member ◌==◌ others u ≡ true → is_member ◌==◌ others (k u) ≡ true
  new_in h k e inside u m = ap (is_member ◌==◌ others) (at_new h k e u m) ∙ is.onto_others (h (g u)) (inside (g u) (is.into_names u m))

  new_back : (h k : ℕ → ℕ) → ((x : ℕ) → is_member ◌==◌ names x ≡ true → k (f x) ≡ f (h x)) → ((x : ℕ) → is_member ◌==◌ names x ≡ true → is_member ◌==◌ names (h x) ≡ true) →
      (u : ℕ) → is_member ◌==◌ others u ≡ true → h (g u) ≡ g (k u)
  new_back h k e inside u m = sym (is.old_again (h (g u)) (inside (g u) (is.into_names u m))) ∙ ap g (sym (at_new h k e u m))

  renamed_faces : cycle_count names phi ≡ cycle_count others psi
  renamed_faces =
      let es = steps phi names in
      let fs = steps psi others in
      retract names others es fs f g (steps_among phi names phi_in) (steps_among psi others (new_in phi psi psi_is phi_in))
      record {
        onto_others = is.onto_others;
        into_names = is.into_names;
        one_of = is.new_again;
        near = λ x m. equal_joined es x (g (f x)) (sym (is.old_again x m));
        down = λ x y c. (let r = step_of phi names x y c in on (step_along psi others (f x) (is.onto_others x r.0)) (equal_joined fs (psi (f x)) (f y) (psi_is x r.0 ∙ ap f r.1)));
        up = λ u v c. (let r = step_of psi others u v c in on (step_along phi names (g u) (is.into_names u r.0)) (equal_joined es (phi (g u)) (g v) (new_back phi psi psi_is phi_in u r.0 ∙ ap g r.1)));
      }

  renamed_pieces : part_count names (pair_graph names turn other) ≡ part_count others (pair_graph others turned drawn)
  renamed_pieces =
      let es = pair_graph names turn other in
      let fs = pair_graph others turned drawn in
      retract names others es fs f g (pair_among names turn other is.other_in is.turn_in) (pair_among others turned drawn (new_in other drawn is.pairs is.other_in) (new_in turn turned is.turns is.turn_in))
      record {
        onto_others = is.onto_others;
        into_names = is.into_names;
        one_of = is.new_again;
        near = λ x m. equal_joined es x (g (f x)) (sym (is.old_again x m));
        down = piece_walks names turn other fs f
            (λ x m. on (over others turned drawn (f x) (is.onto_others x m)) (equal_joined fs (drawn (f x)) (f (other x)) (is.pairs x m)))
            (λ x m. on (round others turned drawn (f x) (is.onto_others x m)) (equal_joined fs (turned (f x)) (f (turn x)) (is.turns x m)));
        up = piece_walks others turned drawn es g
            (λ u m. on (over names turn other (g u) (is.into_names u m)) (equal_joined es (other (g u)) (g (drawn u)) (new_back other drawn is.pairs is.other_in u m)))
            (λ u m. on (round names turn other (g u) (is.into_names u m)) (equal_joined es (turn (g u)) (g (turned u)) (new_back turn turned is.turns is.turn_in u m)));
      }

pub renamed_counts : RenamedCountsLaw
renamed_counts names others turn other turned drawn f g is = (renamed_faces names others turn other turned drawn f g is, renamed_pieces names others turn other turned drawn f g is)
