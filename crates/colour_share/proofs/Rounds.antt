-- One colouring more of one worker.
use Rattle.std.proofs.Common.{◌≡◌, ℕ, suc, ◌+◌, ◌-◌, ◌*◌, ◌%◌, ◌^◌, ◌<◌, ◌≤◌, ◌==◌, true, if◌then◌else◌, pos, ◌+ℤ◌, refl, sym, ap, subst, ◌∙◌, add-one, arith, inl, inr}
use Rattle.std.specs.List.{Contains}
use Rattle.std.proofs.lemmas.Bool.{cases_lt}
use Rattle.std.proofs.lemmas.Bool.Decides.{nat_tests}
use Rattle.ring_identities.specs.Residues.{residue}
use Rattle.ring_identities.proofs.Congruences.{residue_small}
use Rattle.root_quantum.specs.Parameters.{Parameters}
use Rattle.planar_check.specs.Framings.{FramedDiagram}
use Rattle.frontier_laws.specs.Orders.{View}
use Rattle.frontier_sweep.specs.Sweeps.{IsSwept}
use Rattle.wenzl_table.specs.Tables.{Table, Notes, IsOf, Keeps, Knows}
use Rattle.kirby_terms.specs.Terms.{term_at, network_at, chosen_colours}
use Rattle.colour_share.specs.Parts.{falls, share_sum, term_residue, IsPartSum, KnowsShare, IsFirstOf}
use Rattle.colour_share.proofs.Shares.{falls_in, falls_out, falls_one, share_same, share_le, share_in, share_out, residue_sum, own_residue}

-- the numbers with one more
abbrev with : (ℕ → ℕ) → ℕ → ℕ → ℕ → ℕ
with each at own index = if index == at then own else each index

with_at : (each : ℕ → ℕ) (at own : ℕ) → with each at own at ≡ own
with_at each at own = grind (arith, nat_tests)

with_other : (each : ℕ → ℕ) (at own index : ℕ) → index < at → with each at own index ≡ each index
with_other each at own index less = grind (arith, nat_tests)

module _ (answers : View → ℕ → Type 0) (p : Parameters) (diagram : FramedDiagram) (workers worker : ℕ) where
  -- nothing is taken
  pub none_taken : 0 < p.modulus → IsPartSum answers p diagram workers worker (worker + 1) 0 0 0
  none_taken some = record {
    value_is = sym (residue_small p.modulus 0 some);
    below = some;
    each = λ index. 0;
    are = record { swept = λ place low f. absurd (omega (arith, low)); few = λ place low f. absurd (omega (arith, low)) };
    turns_are = refl;
  }

  -- the colouring falls to the worker
  pub one_in : (place value turns term own next : ℕ) → IsPartSum answers p diagram workers worker (worker + 1) place value turns → 0 < p.modulus → place % workers ≡ worker →
      term ≡ residue p.modulus (term_at p diagram (suc place)) → term < p.modulus → IsSwept answers (network_at p diagram (suc place)) 0 own → own ≤ 2 ^ 54 →
      next ≡ residue p.modulus (pos value +ℤ pos term) → next < p.modulus → IsPartSum answers p diagram workers worker (worker + 1) (suc place) next (turns + own)
  one_in place value turns term own next h some mine term_is term_below swept few next_is next_below =
      let f = falls_in workers worker place mine in
      let each = with h.each (suc place) own in
      let mine_is : each (suc place) ≡ own = with_at h.each (suc place) own in
      record {
        value_is =
            residue_sum p.modulus (share_sum (term_residue p diagram) workers worker (worker + 1) place) term value term next some h.value_is (own_residue p.modulus term term_below) next_is
            ∙ ap (λ t. residue p.modulus (pos (share_sum (term_residue p diagram) workers worker (worker + 1) place + t))) term_is
            ∙ ap (λ s. residue p.modulus (pos s)) (sym (share_in (term_residue p diagram) workers worker (worker + 1) place f));
        below = next_below;
        each = each;
        are = record {
          swept = λ k low g. elim (cases_lt k place) [
            | inl less ↦ subst (IsSwept answers (network_at p diagram (suc k)) 0) (sym (with_other h.each (suc place) own (suc k) (omega (arith, less)))) (h.are.swept k less g)
            | inr more ↦ let same : place ≡ k = omega (arith, more, low) in
                subst (λ (j : ℕ). IsSwept answers (network_at p diagram (suc j)) 0 (each (suc j))) same (subst (IsSwept answers (network_at p diagram (suc place)) 0) (sym mine_is) swept)
          ];
          few = λ k low g. elim (cases_lt k place) [
            | inl less ↦ let e = with_other h.each (suc place) own (suc k) (omega (arith, less)) in let b = h.are.few k less g in omega (arith, e, b)
            | inr more ↦ let same : place ≡ k = omega (arith, more, low) in subst (λ (j : ℕ). each (suc j) ≤ 2 ^ 54) same (omega (arith, mine_is, few))
          ];
        };
        turns_are =
            let before : share_sum each workers worker (worker + 1) place ≡ share_sum h.each workers worker (worker + 1) place =
            share_same each h.each workers worker (worker + 1) place (λ k low g. with_other h.each (suc place) own (suc k) (omega (arith, low))) in
            let more = share_in each workers worker (worker + 1) place f in
            let t = h.turns_are in
            omega (arith, before, more, mine_is, t);
      }

  -- or it doesn't
  pub one_out : (place value turns : ℕ) → IsPartSum answers p diagram workers worker (worker + 1) place value turns → (place % workers ≡ worker → ⊥) →
      IsPartSum answers p diagram workers worker (worker + 1) (suc place) value turns
  one_out place value turns h other =
      let f = falls_out workers worker place other in
      let old = λ (k : ℕ) (low : k < suc place) (g : falls workers worker (worker + 1) k ≡ true).
      (elim (cases_lt k place) as (λ _. k < place) [
        | inl less ↦ less
        | inr more ↦ let same : k ≡ place = omega (arith, more, low) in absurd (other (subst (λ (j : ℕ). j % workers ≡ worker) same (falls_one workers worker k g)))
      ]) in
      record {
        value_is = h.value_is ∙ ap (λ s. residue p.modulus (pos s)) (sym (share_out (term_residue p diagram) workers worker (worker + 1) place f));
        below = h.below;
        each = h.each;
        are = record { swept = λ k low g. h.are.swept k (old k low g) g; few = λ k low g. h.are.few k (old k low g) g };
        turns_are = h.turns_are ∙ sym (share_out h.each workers worker (worker + 1) place f);
      }

  -- the turns of few colourings fit
  pub few_turns : (place value turns : ℕ) → IsPartSum answers p diagram workers worker (worker + 1) place value turns → turns ≤ place * 2 ^ 54
  few_turns place value turns h = let b = share_le h.each (2 ^ 54) workers worker (worker + 1) place h.are.few in let t = h.turns_are in omega (arith, b, t)

  -- the same, by the number that is 1 more
  pub one_more : (place value turns term own next : ℕ) → IsPartSum answers p diagram workers worker (worker + 1) place value turns → 0 < p.modulus → place % workers ≡ worker →
      term ≡ residue p.modulus (term_at p diagram (place + 1)) → term < p.modulus → IsSwept answers (network_at p diagram (place + 1)) 0 own → own ≤ 2 ^ 54 →
      next ≡ residue p.modulus (pos value +ℤ pos term) → next < p.modulus → IsPartSum answers p diagram workers worker (worker + 1) (place + 1) next (turns + own)
  one_more place value turns term own next h some mine term_is term_below swept few next_is next_below =
      let e = add-one place in
      subst (λ (k : ℕ). IsPartSum answers p diagram workers worker (worker + 1) k next (turns + own)) (sym e)
      (one_in place value turns term own next h some mine (term_is ∙ ap (λ k. residue p.modulus (term_at p diagram k)) e) term_below
      (subst (λ (k : ℕ). IsSwept answers (network_at p diagram k) 0 own) e swept) few next_is next_below)

  pub none_more : (place value turns : ℕ) → IsPartSum answers p diagram workers worker (worker + 1) place value turns → (place % workers ≡ worker → ⊥) →
      IsPartSum answers p diagram workers worker (worker + 1) (place + 1) value turns
  none_more place value turns h other =
      subst (λ (k : ℕ). IsPartSum answers p diagram workers worker (worker + 1) k value turns) (sym (add-one place)) (one_out place value turns h other)

  -- A CONTRACTION STOPS
  pub stops : (total place value turns : ℕ) → IsPartSum answers p diagram workers worker (worker + 1) place value turns → place < total →
      IsFirstOf answers p diagram workers worker (worker + 1) total (place + 1 - 1)
  stops total place value turns h low =
      let e : place + 1 - 1 ≡ place = omega arith in
      subst (IsFirstOf answers p diagram workers worker (worker + 1) total) (sym e) record { within = low; before = λ k less f. (h.each (suc k), h.are.swept k less f) }

-- ---- notes
pub knows_kept : (before after : Notes) → Keeps before after → (n : ℕ) → Knows before n → Knows after n
knows_kept before after kept n h = (h.0, rw h.1 at (kept n))

module _ (table : Table) (diagram : FramedDiagram) (workers worker : ℕ) where
  pub knows_none : (notes : Notes) → IsOf notes table → KnowsShare table diagram workers worker 0 notes
  knows_none notes of = record { of = of; knows = λ place low mine colour high has. absurd (omega (arith, low)) }

  pub knows_more : (place : ℕ) (before after : Notes) → KnowsShare table diagram workers worker place before → IsOf after table → Keeps before after →
      ((colour : ℕ) → 2 ≤ colour → Contains (chosen_colours table.params diagram (suc place)) colour → Knows after colour) → KnowsShare table diagram workers worker (suc place) after
  knows_more place before after h of kept here = record {
    of = of;
    knows = λ k low mine colour high has. elim (cases_lt k place) [
      | inl less ↦ knows_kept before after kept colour (h.knows k less mine colour high has)
      | inr more ↦ let same : k ≡ place = omega (arith, more, low) in
          here colour high (subst (λ (j : ℕ). Contains (chosen_colours table.params diagram (suc j)) colour) same has)
    ];
  }

  pub knows_next : (place : ℕ) (before after : Notes) → KnowsShare table diagram workers worker place before → IsOf after table → Keeps before after →
      ((colour : ℕ) → 2 ≤ colour → Contains (chosen_colours table.params diagram (place + 1)) colour → Knows after colour) → KnowsShare table diagram workers worker (place + 1) after
  knows_next place before after h of kept here =
      let e = add-one place in
      subst (λ (k : ℕ). KnowsShare table diagram workers worker k after) (sym e)
      (knows_more place before after h of kept (λ colour high has. here colour high (subst (λ (k : ℕ). Contains (chosen_colours table.params diagram k) colour) (sym e) has)))

  pub knows_same : (place : ℕ) (notes : Notes) → KnowsShare table diagram workers worker place notes → (place % workers ≡ worker → ⊥) → KnowsShare table diagram workers worker (place + 1) notes
  knows_same place notes h other = subst (λ (k : ℕ). KnowsShare table diagram workers worker k notes) (sym (add-one place)) record {
    of = h.of;
    knows = λ k low mine colour high has. elim (cases_lt k place) [
      | inl less ↦ h.knows k less mine colour high has
      | inr more ↦ let same : k ≡ place = omega (arith, more, low) in absurd (other (subst (λ (j : ℕ). j % workers ≡ worker) same mine))
    ];
  }
