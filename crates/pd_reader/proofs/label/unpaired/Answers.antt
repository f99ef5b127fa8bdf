use Rattle.std.proofs.Common.{◌≡◌, refl, sym, ap, ◌∙◌, ℕ, true, false, take, get_or, eq-eqb, ne_eqb, Option, Some, None}
use Rattle.std.proofs.lemmas.List.{take_all, take_more}
use Rattle.list_lemmas.specs.Times.{times_in}
use Rattle.pd_reader.specs.Diagrams.{least_unpaired}
use Rattle.pd_reader.proofs.Least.{is_unpaired, least_among, least_among-more, least_among-same, lesser}
use Rattle.pd_reader.proofs.label.unpaired.Goals as goal
use Rattle.pd_reader.proofs.label.unpaired.Goals.{then-times-ne2+in-Some, then-times-ne2+in-None, else-times-ne2}

pub loop-label-preserved : goal.loop-label-preserved
loop-label-preserved c =
    let ls = c.args.labels.now in
    let i = c.loop-label.label-index in
    let front = take i ls in
    let n = get_or ls i 0 in
    let more = take_more ls i 0 c.loop-label-test.true in
    let count : c.times.result ≡ times_in ls n = c.times.ensures ∙ (ap (λ xs. times_in xs n) c.deref.ensures.value ∙ c.in_ok-sorted.ensures.same n) in
    elim c.if-times-ne2.branch [
      | then-times-ne2+in-Some w ↦
          let odd : is_unpaired ls n ≡ true = rw (ne_eqb (times_in ls n) 2 (λ e. w.if-times-ne2.true (count ∙ e))) refl in
          let before : least_among ls front ≡ Some w.in-Some.other = sym c.loop-label.invariant ∙ w.in-Some.is in
          w.least-is ∙ (ap (λ (x : ℕ). Some x) w.min.ensures ∙ sym (ap (least_among ls) more ∙ (least_among-more ls front n odd ∙ ap (λ (x : Option ℕ). Some (lesser x n)) before)))
      | then-times-ne2+in-None w ↦
          let odd : is_unpaired ls n ≡ true = rw (ne_eqb (times_in ls n) 2 (λ e. w.if-times-ne2.true (count ∙ e))) refl in
          let before : least_among ls front ≡ None = sym c.loop-label.invariant ∙ w.in-None.is in
          w.least-is ∙ sym (ap (least_among ls) more ∙ (least_among-more ls front n odd ∙ ap (λ (x : Option ℕ). Some (lesser x n)) before))
      | else-times-ne2 w ↦
          let even : is_unpaired ls n ≡ false = rw (eq-eqb (times_in ls n) 2 (sym count ∙ w.if-times-ne2.false)) refl in
          w.least-is ∙ (c.loop-label.invariant ∙ sym (ap (least_among ls) more ∙ least_among-same ls front n even))
    ]

pub returns-in-Some-least : goal.returns-in-Some-least
returns-in-Some-least c =
    let ls = c.args.labels.now in
    let n = c.in-Some-least.label in
    let count : c.times-in-Some-least.result ≡ times_in ls n = c.times-in-Some-least.ensures ∙ (ap (λ xs. times_in xs n) c.deref-in-Some-least.ensures.value ∙ c.in_ok-sorted.ensures.same n) in
    let all : take c.loop-label.label-index ls ≡ ls = take_all c.loop-label.label-index ls c.loop-label-test.false in
    let least : least_unpaired ls ≡ Some n = sym (sym c.in-Some-least.is ∙ (c.loop-label.invariant ∙ ap (least_among ls) all)) in
    rw (least, count) refl
