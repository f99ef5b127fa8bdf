use Rattle.std.proofs.Common.{◌≡◌, ◌==◌, ℕ, List, [], ◌∷◌, length, slice_index, set, cond, ap, ◌∙◌, arith, length-append}
use Rattle.std.specs.BTreeMap.{get}
use Rattle.std.specs.Ordering.{nat_cmp}
use Rattle.std.proofs.lemmas.List.{with_items_is}
use Rattle.planar_check.proofs.OtherPlaces.{first_met_more, first_place_met, others_more, new_long, others_are}
use Rattle.planar_check.proofs.other.label_places.Goals as goal

pub loop-place-preserved : goal.loop-place-preserved
loop-place-preserved c =
    let labels = c.args.labels.now in
    let k = c.loop-place.place in
    let first = c.in_ok-first.first in
    let before = c.loop-place.invariant in
    let met = before.firsts (slice_index labels k) in
    let found = get nat_cmp c.loop-place.firsts (slice_index labels k) in
    let is = c.in_ok-first.ensures.first in
    let pushed = c.push.new.self.items in
    let push = c.in_ok-push.ensures.items in
    let new = c.give_other.new.others in
    let gave : new ≡ cond (slice_index pushed first == first) (set pushed first k) pushed =
    c.give_other.ensures ∙ ap (λ (xs : List ℕ). cond (slice_index xs first == first) (set xs first k) xs) c.deref_mut.ensures.value in
    let long = new_long labels k first found is met c.loop-place.others.items pushed new before.length before.others push gave in
    let same = with_items_is c.push.new.self new (omega (arith, long, before.length, c.push.new.self.ok.0, ap length push, length-append c.loop-place.others.items (first ∷ []))) in
    record {
      length = ap length same ∙ long;
      firsts = λ label. first_met_more labels k label first found (get nat_cmp c.loop-place.firsts label) _ is (c.in_ok-first.ensures.met label) met (before.firsts label);
      others = λ p l. ap (λ (xs : List ℕ). slice_index xs p) same ∙ others_more labels k first found is met c.loop-place.others.items pushed new before.length before.others push gave p l;
    }

pub returns-clause-firsts : goal.returns-clause-firsts
returns-clause-firsts c = λ label.
    let whole : c.loop-place.place ≡ length c.args.labels.now = omega (arith, c.loop-place-test.false, c.loop-place.auto.place-end) in
    first_place_met c.args.labels.now c.loop-place.place label (get nat_cmp c.loop-place.firsts label) whole (c.loop-place.invariant.firsts label)

pub returns-clause-others : goal.returns-clause-others
returns-clause-others c =
    let before = c.loop-place.invariant in
    let whole : c.loop-place.place ≡ length c.args.labels.now = omega (arith, c.loop-place-test.false, c.loop-place.auto.place-end) in
    others_are c.args.labels.now c.loop-place.place c.loop-place.others.items whole before.length before.others
