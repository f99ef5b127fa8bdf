-- Three runs of steps, one after the other, are a run, where their names are apart.
use Rattle.std.proofs.Common.{◌≡◌, ◌≢◌, ℕ, ◌<◌, ◌==◌, ◌⊎◌, true, List, ◌++◌, sym, ap, ap₂, ◌∙◌, ⊎_elim, subst}
use Rattle.std.specs.Set.{is_member}
use Rattle.std.proofs.lemmas.Bool.{or_cases}
use Rattle.graph_parts.proofs.Distinct.{is_member-append}
use Rattle.state_sums.specs.LocalSums.{rename}
use Rattle.state_sums.specs.Networks.{Node}
use Rattle.piece_laws.proofs.RenamedNodes.{rename-append}
use Rattle.strand_words.specs.Words.{top}
use Rattle.word_networks.specs.Steps.{Step, names_after, step_nodes, new_names, AreDistinct}
use Rattle.word_networks.proofs.Fresh.{new_names-append, AreDistinct-append}
use Rattle.word_networks.proofs.Grids.{names_after-append, step_nodes-append}
use Rattle.cable_crossings.proofs.BundleBigon.{unless_member}
use Rattle.cable_crossings.proofs.StepPieces.{AllTop, AllTop-append, IsRun, based}

either : (s t : List Step) (z : ℕ) → is_member ◌==◌ (new_names (s ++ t)) z ≡ true → (is_member ◌==◌ (new_names s) z ≡ true) ⊎ (is_member ◌==◌ (new_names t) z ≡ true)
either s t z m =
    or_cases (is_member ◌==◌ (new_names s) z) (is_member ◌==◌ (new_names t) z)
    (sym (is_member-append (new_names s) (new_names t) z) ∙ ap (λ ns. is_member ◌==◌ ns z) (sym (new_names-append s t)) ∙ m)

distinct_both : (s t : List Step) → AreDistinct (new_names s) → AreDistinct (new_names t) → ((z : ℕ) → is_member ◌==◌ (new_names s) z ≡ true → is_member ◌==◌ (new_names t) z ≡ true → ⊥) → AreDistinct (new_names (s ++ t))
distinct_both s t a b clash =
    subst AreDistinct (sym (new_names-append s t))
    (AreDistinct-append (new_names s) (new_names t) a b (λ z m. unless_member (new_names t) z (λ k. clash z m k)))

module _ (n : ℕ) (base : ℕ → ℕ) (s t u : List Step) where
  abbrev all : List Step
  all = s ++ (t ++ u)

  module _ (top_s : AllTop n s) (top_t : AllTop n t) (top_u : AllTop n u) (new_s : AreDistinct (new_names s)) (new_t : AreDistinct (new_names t)) (new_u : AreDistinct (new_names u)) (A B C : ℕ → Type 0)
      (in_s : (z : ℕ) → is_member ◌==◌ (new_names s) z ≡ true → A z) (in_t : (z : ℕ) → is_member ◌==◌ (new_names t) z ≡ true → B z) (in_u : (z : ℕ) → is_member ◌==◌ (new_names u) z ≡ true → C z)
      (apart_st : (z : ℕ) → A z → B z → ⊥) (apart_su : (z : ℕ) → A z → C z → ⊥) (apart_tu : (z : ℕ) → B z → C z → ⊥)
      (old_s : (z k : ℕ) → A z → k < n → z ≢ base k) (old_t : (z k : ℕ) → B z → k < n → z ≢ base k) (old_u : (z k : ℕ) → C z → k < n → z ≢ base k)
      (behind : (j k : ℕ) → j < n → k < n → names_after (based base) all (top j) ≢ base k) where
    pub three_runs : IsRun n base all
    three_runs = record {
      tops = AllTop-append n s (t ++ u) top_s (AllTop-append n t u top_t top_u);
      distinct = distinct_both s (t ++ u) new_s (distinct_both t u new_t new_u (λ z p q. apart_tu z (in_t z p) (in_u z q)))
          (λ z p q. ⊎_elim (λ k. apart_st z (in_s z p) (in_t z k)) (λ k. apart_su z (in_s z p) (in_u z k)) (either t u z q));
      apart = λ z k m l. ⊎_elim (λ p. old_s z k (in_s z p) l) (λ q. ⊎_elim (λ p. old_t z k (in_t z p) l) (λ p. old_u z k (in_u z p) l) (either t u z q)) (either s (t ++ u) z m);
      behind = behind;
    }

-- the names behind, and the nodes
pub three_names : (name : ℕ → ℕ) (s t u : List Step) → names_after name (s ++ (t ++ u)) ≡ names_after (names_after (names_after name s) t) u
three_names name s t u = names_after-append name s (t ++ u) ∙ names_after-append (names_after name s) t u

pub three_nodes : (r name : ℕ → ℕ) (s t u : List Step) (x y z : List Node) → rename r (step_nodes name s) ≡ x → rename r (step_nodes (names_after name s) t) ≡ y →
    rename r (step_nodes (names_after (names_after name s) t) u) ≡ z → rename r (step_nodes name (s ++ (t ++ u))) ≡ x ++ (y ++ z)
three_nodes r name s t u x y z p q w =
    let next = names_after name s in
    ap (rename r) (step_nodes-append name s (t ++ u) ∙ ap (λ ns. step_nodes name s ++ ns) (step_nodes-append next t u))
    ∙ rename-append r (step_nodes name s) (step_nodes next t ++ step_nodes (names_after next t) u)
    ∙ ap₂ (λ xs ys. xs ++ ys) p (rename-append r (step_nodes next t) (step_nodes (names_after next t) u) ∙ ap₂ (λ xs ys. xs ++ ys) q w)
