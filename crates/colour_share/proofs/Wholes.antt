-- All workers together: the whole sum, and the first limit.
use Rattle.std.proofs.Common.{◌≡◌, ◌≢◌, ℕ, zero, suc, ◌+◌, ◌-◌, ◌<◌, ◌≤◌, List, [], length, take, take_all, get_or, Result, Ok, Err, ℤ, pos, ◌+ℤ◌, ◌*ℤ◌, refl, sym, ap, ap₂, subst, ◌∙◌, add-one, arith, inl, inr}
use Rattle.std.specs.List.{Contains}
use Rattle.std.proofs.lemmas.Bool.{cases_lt}
use Rattle.ring_identities.specs.Residues.{residue}
use Rattle.ring_identities.proofs.Congruences.{residue_below, residue_small}
use Rattle.root_quantum.specs.Parameters.{Parameters}
use Rattle.root_quantum.specs.Colours.{form_colours}
use Rattle.planar_check.specs.Framings.{FramedDiagram}
use Rattle.frontier_laws.specs.Orders.{View}
use Rattle.frontier_laws.specs.Views.{IsNext}
use Rattle.frontier_sweep.specs.SweepResults.{sweep}
use Rattle.frontier_sweep.specs.Sweeps.{IsSwept}
use Rattle.frontier_sweep.specs.declared.fault.SweepFault.{SweepFault}
use Rattle.frontier_sweep.specs.declared.fault.SweepFault.TheVariants as sweeps
use Rattle.frontier_sweep.proofs.SweepResults.{swept_by, stopped_by}
use Rattle.wenzl_table.specs.Tables.{Table, Notes}
use Rattle.coloured_values.specs.Coloured.{framed}
use Rattle.coloured_values.specs.Surgery.{kirby, deltas, sum_over, colour_lists, component_count}
use Rattle.kirby_terms.specs.Terms.{network_at, chosen_colours, colouring_total}
use Rattle.kirby_terms.proofs.ColourLists.{lists_count}
use Rattle.kirby_terms.proofs.Sums.{no_sum, sum_more}
use Rattle.colour_share.specs.ResultSums.{result_plus, result_sum}
use Rattle.colour_share.specs.Turns.{refusal_at, numbered, colouring_turns, kirby_turns}
use Rattle.colour_share.specs.Parts.{share_sum, term_residue, IsPartSum, AllKnow, IsFirstStop}
use Rattle.colour_share.specs.Sums.{sum_to, IsTurnCount, AllKnowOwn, IsLimited, IsStoppedSum, IsFirstLimit, fault_of}
use Rattle.colour_share.specs.declared.fault.SumFault.{SumFault}
use Rattle.colour_share.specs.declared.fault.SumFault.TheVariants as faults
use Rattle.colour_share.specs.declared.part.PartFault.{PartFault}
use Rattle.colour_share.specs.declared.part.PartFault.TheVariants.{Stopped, Memory}
use Rattle.colour_share.proofs.Shares.{falls_all, share_in, residue_sum, own_residue}

-- ALL WORKERS take all colourings
share_all : (each : ℕ → ℕ) (workers n : ℕ) → 0 < workers → share_sum each workers 0 workers n ≡ sum_to each n
share_all each workers zero some = refl
share_all each workers (suc n) some = share_in each workers 0 workers n (falls_all workers n some) ∙ ap (λ s. s + each (suc n)) (share_all each workers n some)

-- ---- the value
module _ (p : Parameters) (diagram : FramedDiagram) where
  lists : List (List ℕ)
  lists = colour_lists (form_colours p) (component_count diagram)

  abbrev term_of : List ℕ → ℤ
  term_of colours = deltas p colours *ℤ pos (framed p diagram.items diagram.framings colours)

  -- the residues of the first terms, added up
  first_terms : (k : ℕ) → 0 < p.modulus → k ≤ length lists → residue p.modulus (pos (sum_to (term_residue p diagram) k)) ≡ residue p.modulus (sum_over term_of (take k lists))
  unfolding lists
  first_terms zero some within = residue_small p.modulus 0 some ∙ no_sum p.modulus term_of some
  first_terms (suc k) some within =
      let tr = term_residue p diagram in
      let before = residue p.modulus (pos (sum_to tr k)) in
      let next = residue p.modulus (pos (sum_to tr (suc k))) in
      let less : suc k - 1 ≡ k = omega arith in
      let term_is : tr (suc k) ≡ residue p.modulus (term_of (get_or lists k [])) = ap (λ j. residue p.modulus (term_of (get_or lists j []))) less in
      let next_is : next ≡ residue p.modulus (pos before +ℤ pos (tr (suc k))) =
      sym (residue_sum p.modulus (sum_to tr k) (tr (suc k)) before (tr (suc k)) (residue p.modulus (pos before +ℤ pos (tr (suc k)))) some refl (own_residue p.modulus (tr (suc k)) (residue_below p.modulus _ some)) refl) in
      sum_more p.modulus term_of lists k [] before (tr (suc k)) next some (omega (arith, within)) (first_terms k some (omega (arith, within))) term_is next_is
      ∙ ap (λ j. residue p.modulus (sum_over term_of (take j lists))) (add-one k)

  all_terms : 0 < p.modulus → residue p.modulus (pos (sum_to (term_residue p diagram) (colouring_total p diagram))) ≡ kirby p diagram.items diagram.framings
  unfolding lists kirby
  all_terms some =
      let count : length lists ≡ colouring_total p diagram = lists_count (form_colours p) (component_count diagram) in
      first_terms (colouring_total p diagram) some (omega (arith, count))
      ∙ ap (λ xs. residue p.modulus (sum_over term_of xs)) (take_all (colouring_total p diagram) lists (omega (arith, count)))

-- ---- the turns
module _ (answers : View → ℕ → Type 0) (p : Parameters) (diagram : FramedDiagram) (workers : ℕ) (some : 0 < workers) where
  -- THE VALUE IS THE KIRBY SUM
  pub whole_value : (total value turns : ℕ) → total ≡ colouring_total p diagram → 0 < p.modulus → IsPartSum answers p diagram workers 0 workers total value turns →
      value ≡ kirby p diagram.items diagram.framings
  whole_value total value turns total_is many h =
      h.value_is ∙ ap (λ s. residue p.modulus (pos s)) (share_all (term_residue p diagram) workers total some ∙ ap (sum_to (term_residue p diagram)) total_is) ∙ all_terms p diagram many

  -- and the turns are those of all colourings
  pub whole_turns : (total value turns : ℕ) → total ≡ colouring_total p diagram → IsPartSum answers p diagram workers 0 workers total value turns → IsTurnCount answers p diagram turns
  whole_turns total value turns total_is h = record {
    each = h.each;
    swept = λ index low high.
        let is : suc (index - 1) ≡ index = omega (arith, low) in
        subst (λ (k : ℕ). IsSwept answers (network_at p diagram k) 0 (h.each k)) is (h.are.swept (index - 1) (omega (arith, low, high, total_is)) (falls_all workers (index - 1) some));
    total = h.turns_are ∙ share_all h.each workers total some ∙ ap (sum_to h.each) total_is;
  }

  -- A LIMIT is that of the first colouring that meets one
  limited : (total index : ℕ) (fault : SweepFault) → total ≡ colouring_total p diagram → IsFirstStop answers p diagram workers 0 workers total (Stopped index fault) → IsLimited answers p diagram index fault
  limited total index fault total_is h = record {
    some = omega (arith, h.0);
    last = omega (arith, h.0, h.1.within, total_is);
    before = λ other low less.
        let is : suc (other - 1) ≡ other = omega (arith, low) in
        subst (λ (k : ℕ). (turns : ℕ) × IsSwept answers (network_at p diagram k) 0 turns) is (h.1.before (other - 1) (omega (arith, low, less)) (falls_all workers (other - 1) some));
    stopped = h.2;
  }

  pub whole_stop : (total : ℕ) (fault : PartFault) → total ≡ colouring_total p diagram → IsFirstStop answers p diagram workers 0 workers total fault → IsStoppedSum answers p diagram (fault_of fault)
  whole_stop total (Stopped index (sweeps.Wide step ends)) total_is h = limited total index (sweeps.Wide step ends) total_is h
  whole_stop total (Stopped index (sweeps.Table step)) total_is h = limited total index (sweeps.Table step) total_is h
  whole_stop total (Stopped index sweeps.Memory) total_is h = tt
  whole_stop total Memory total_is h = tt

-- ---- where a function tells each answer
sum_ok : {E : Type 0} (each : ℕ → Result ℕ E) (values : ℕ → ℕ) (n : ℕ) → ((k : ℕ) → k < n → each (suc k) ≡ Ok (values (suc k))) → result_sum each n ≡ Ok (sum_to values n)
sum_ok each values zero all = refl
sum_ok each values (suc n) all = ap₂ result_plus (sum_ok each values n (λ k low. all k (omega (arith, low)))) (all n (omega arith))

some_ok : {E : Type 0} (each : ℕ → Result ℕ E) (n : ℕ) → ((k : ℕ) → k < n → (value : ℕ) × (each (suc k) ≡ Ok value)) → (value : ℕ) × (result_sum each n ≡ Ok value)
some_ok each zero all = (0, refl)
some_ok each (suc n) all =
    let before = some_ok each n (λ k low. all k (omega (arith, low))) in
    let here = all n (omega arith) in (before.0 + here.0, ap₂ result_plus before.1 here.1)

-- the first refusal
sum_err : {E : Type 0} (each : ℕ → Result ℕ E) (n j : ℕ) (refusal : E) → j < n → ((k : ℕ) → k < j → (value : ℕ) × (each (suc k) ≡ Ok value)) → each (suc j) ≡ Err refusal → result_sum each n ≡ Err refusal
sum_err each zero j refusal low before here = absurd (omega (arith, low))
sum_err each (suc n) j refusal low before here =
    elim (cases_lt j n) [
      | inl less ↦ ap (λ r. result_plus r (each (suc n))) (sum_err each n j refusal less before here)
      | inr more ↦ let same : j ≡ n = omega (arith, low, more) in
          let rest = some_ok each n (λ k below. before k (omega (arith, below, same))) in
          ap₂ result_plus rest.1 (ap (λ k. each (suc k)) (sym same) ∙ here)
    ]

module _ (next : View → ℕ) (answers : View → ℕ → Type 0) (p : Parameters) (diagram : FramedDiagram) (is_next : IsNext next answers) where
  swept_turns : (index turns : ℕ) → IsSwept answers (network_at p diagram index) 0 turns → colouring_turns next p diagram index ≡ Ok turns
  swept_turns index turns h =
      let found = swept_by next answers (network_at p diagram index) is_next 0 turns h in
      let same : found.0 ≡ turns = omega (arith, found.2) in
      ap (numbered index) (found.1 ∙ ap Ok same)

  -- THE TURNS ARE THOSE OF ITS ORDERS
  pub turns_by : (turns : ℕ) → IsTurnCount answers p diagram turns → kirby_turns next p diagram ≡ Ok turns
  turns_by turns h =
      sum_ok (colouring_turns next p diagram) h.each (colouring_total p diagram) (λ k low. swept_turns (suc k) (h.each (suc k)) (h.swept (suc k) (omega arith) (omega (arith, low)))) ∙ ap Ok (sym h.total)

  limit_by : (index : ℕ) (fault : SweepFault) → fault ≢ sweeps.Memory → IsLimited answers p diagram index fault → kirby_turns next p diagram ≡ Err (refusal_at index fault)
  limit_by index fault other h =
      let is : suc (index - 1) ≡ index = (let low = h.some in omega (arith, low)) in
      let stop : sweep next (network_at p diagram index) ≡ Err fault = elim (stopped_by next answers (network_at p diagram index) is_next fault h.stopped) [ inl memory ↦ absurd (other memory) | inr e ↦ e ] in
      sum_err (colouring_turns next p diagram) (colouring_total p diagram) (index - 1) (refusal_at index fault) (let low = h.some in let high = h.last in omega (arith, low, high))
      (λ k below. let b = h.before (suc k) (omega arith) (omega (arith, below)) in (b.0, swept_turns (suc k) b.0 b.1))
      (ap (colouring_turns next p diagram) is ∙ ap (numbered index) stop)

  -- AND SO IS THE LIMIT
  pub first_limit : (fault : SumFault) → IsStoppedSum answers p diagram fault → IsFirstLimit next p diagram fault
  first_limit (faults.Wide index step ends) h = limit_by index (sweeps.Wide step ends) (λ e. absurd (cc)) h
  first_limit (faults.Table index step) h = limit_by index (sweeps.Table step) (λ e. absurd (cc)) h
  first_limit (faults.TooMany components limit) h = tt
  first_limit (faults.NoInverse index common) h = tt
  first_limit faults.Memory h = tt

-- ---- notes
pub own_notes : (table : Table) (diagram : FramedDiagram) (workers total : ℕ) (list : List Notes) → total ≡ colouring_total table.params diagram → AllKnow table diagram workers 0 total list → AllKnowOwn table diagram workers list
own_notes table diagram workers total list total_is h worker notes low at =
    let share = h (worker - 1) notes at in
    record {
      of = share.of;
      knows = λ index first last mine colour high has.
          let is : suc (index - 1) ≡ index = omega (arith, first) in
          let zero_plus : 0 + (worker - 1) ≡ worker - 1 = omega arith in
          share.knows (index - 1) (omega (arith, first, last, total_is)) (mine ∙ sym zero_plus) colour high
          (subst (λ (k : ℕ). Contains (chosen_colours table.params diagram k) colour) (sym is) has);
    }
