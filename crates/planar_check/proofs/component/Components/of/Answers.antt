use Rattle.std.proofs.Common.{◌≡◌, ◌==◌, ◌<◌, ℕ, List, Option, length, map, slice_index, refl, sym, subst, ap, ◌∙◌, arith}
use Rattle.std.specs.BTreeMap.{get}
use Rattle.std.specs.List.{filter}
use Rattle.std.specs.List.Sorted.{IsStrictlySortedBy}
use Rattle.std.specs.Ordering.{nat_cmp}
use Rattle.std.proofs.lemmas.List.{length-map}
use Rattle.std.proofs.lemmas.List.FromFn.{length-map-range_with_len}
use Rattle.pd_reader.specs.declared.item.Item.{Item}
use Rattle.pd_reader.specs.Items.{item_labels}
use Rattle.pd_reader.specs.Diagrams.{labels, IsDiagram}
use Rattle.planar_check.specs.Places.{crossings_of, place_labels}
use Rattle.planar_check.specs.Components.{distinct, component_least, rank}
use Rattle.planar_check.specs.Signs.{walk_of, enters}
use Rattle.planar_check.specs.Tables.{AreComponents}
use Rattle.planar_check.proofs.ComponentLists.{found_are, components_read, names_sorted, all_sorted, rank_inside, least_found}
use Rattle.planar_check.proofs.Crossings.{places_four, few_crossings, walks_are, labels_covered, leasts_at_places, firsts_within, entered_are, signed_are}
use Rattle.planar_check.proofs.PlaceLists.{lists_are, after_long, after_in_range, others_in_range}
use Rattle.planar_check.proofs.component.Components.of.Goals as goal

-- what is found, as each list is read by the next call
read_are : (xs : List Item) → IsDiagram xs → (found read names read_2 leasts read_3 read_4 all : List ℕ) → read ≡ found → found ≡ labels item_labels xs → names ≡ distinct read → read_2 ≡ names → leasts ≡ map (component_least xs) read_2 →
    read_3 ≡ names → read_4 ≡ leasts → ((least : ℕ → ℕ) → read_4 ≡ map least read_3 → all ≡ filter (λ name. least name == name) read_3) → AreComponents xs names leasts all
read_are xs diagram found read names read_2 leasts read_3 read_4 all r f n r2 l r3 r4 own =
    found_are xs diagram names leasts all (n ∙ ap distinct (r ∙ f)) (l ∙ ap (map (component_least xs)) r2)
    (λ least e. own least (r4 ∙ (e ∙ ap (map least) (sym r3))) ∙ ap (filter (λ name. least name == name)) r3)

pub least_in_cycles-requires-clause-same_length : goal.least_in_cycles-requires-clause-same_length
least_in_cycles-requires-clause-same_length c =
    let cs = crossings_of c.args.items.now in
    after_long cs _ _ _ (lists_are cs c.args.places.now c.deref-5.result.now _ c.deref-6.result.now c.requires.places c.deref-5.ensures.value refl c.deref-6.ensures.value)

pub least_in_cycles-requires-clause-after_in_range : goal.least_in_cycles-requires-clause-after_in_range
least_in_cycles-requires-clause-after_in_range c =
    let cs = crossings_of c.args.items.now in
    after_in_range cs _ _ _ (lists_are cs c.args.places.now c.deref-5.result.now _ c.deref-6.result.now c.requires.places c.deref-5.ensures.value refl c.deref-6.ensures.value)

pub least_in_cycles-requires-clause-others_in_range : goal.least_in_cycles-requires-clause-others_in_range
least_in_cycles-requires-clause-others_in_range c =
    let cs = crossings_of c.args.items.now in
    others_in_range cs _ _ _ (lists_are cs c.args.places.now c.deref-5.result.now _ c.deref-6.result.now c.requires.places c.deref-5.ensures.value refl c.deref-6.ensures.value)

pub leasts_at-requires-clause-sorted : goal.leasts_at-requires-clause-sorted
leasts_at-requires-clause-sorted c =
    let xs = c.args.items.now in
    let are = read_are xs c.requires.diagram _ _ c.in_ok-names.names.items _ c.in_ok-leasts.leasts.items _ _ c.in_ok-all.all.items
    c.deref.ensures.value c.in_ok-labels.ensures.items c.in_ok-names.ensures c.deref-2.ensures.value c.in_ok-leasts.ensures c.deref-3.ensures.value c.deref-4.ensures.value c.in_ok-all.ensures in
    subst (IsStrictlySortedBy nat_cmp) (sym c.deref-8.ensures.value) (names_sorted xs _ _ _ are)

pub leasts_at-requires-clause-in_range : goal.leasts_at-requires-clause-in_range
leasts_at-requires-clause-in_range c =
    let xs = c.args.items.now in
    let all = c.in_ok-all.all.items in
    let are = read_are xs c.requires.diagram _ _ c.in_ok-names.names.items _ c.in_ok-leasts.leasts.items _ _ all
    c.deref.ensures.value c.in_ok-labels.ensures.items c.in_ok-names.ensures c.deref-2.ensures.value c.in_ok-leasts.ensures c.deref-3.ensures.value c.deref-4.ensures.value c.in_ok-all.ensures in
    let names = c.deref-8.result.now in
    let leasts = c.deref-9.result.now in
    let again = components_read xs c.in_ok-names.names.items c.in_ok-leasts.leasts.items all names leasts all c.deref-8.ensures.value c.deref-9.ensures.value refl are in
    labels_covered xs c.requires.diagram.sizes (λ label. rank names label < length leasts) (rank_inside xs names leasts all again) c.deref-7.result.now (c.deref-7.ensures.value ∙ c.requires.places.labels_are)

-- the least labels at the places
there_are : (xs : List Item) (diagram : IsDiagram xs) (names leasts all : List ℕ) → AreComponents xs names leasts all → (read names_read leasts_read there : List ℕ) → read ≡ place_labels xs → names_read ≡ names → leasts_read ≡ leasts →
    there ≡ map (λ label. slice_index leasts_read (rank names_read label)) read → there ≡ map (component_least xs) (place_labels xs)
there_are xs diagram names leasts all are read names_read leasts_read there r n l e =
    let again = components_read xs names leasts all names_read leasts_read all n l refl are in
    e ∙ leasts_at_places xs diagram.sizes (λ label. slice_index leasts_read (rank names_read label)) (least_found xs names_read leasts_read all again) read r

pub entered-requires : goal.entered-requires
entered-requires c =
    let xs = c.args.items.now in
    let are = read_are xs c.requires.diagram _ _ c.in_ok-names.names.items _ c.in_ok-leasts.leasts.items _ _ c.in_ok-all.all.items
    c.deref.ensures.value c.in_ok-labels.ensures.items c.in_ok-names.ensures c.deref-2.ensures.value c.in_ok-leasts.ensures c.deref-3.ensures.value c.deref-4.ensures.value c.in_ok-all.ensures in
    let e = c.requires.places in
    let walks = walks_are (crossings_of xs) c.deref-5.result.now c.deref-6.result.now c.in_ok-walks.walks.items (c.deref-5.ensures.value ∙ e.after_are) (c.deref-6.ensures.value ∙ e.others_are) c.in_ok-walks.ensures in
    let there = there_are xs c.requires.diagram _ _ c.in_ok-all.all.items are c.deref-7.result.now c.deref-8.result.now c.deref-9.result.now c.in_ok-there.there.items (c.deref-7.ensures.value ∙ e.labels_are) c.deref-8.ensures.value c.deref-9.ensures.value c.in_ok-there.ensures in
    let found : ℕ → Option ℕ = λ label. get nat_cmp c.args.places.now.firsts label in
    let read_walks = c.deref-10.ensures.value ∙ walks in
    let read_there = c.deref-11.ensures.value ∙ there in
    record {
      firsts = firsts_within xs c.deref-10.result.now c.deref-11.result.now c.in_ok-all.all.items found read_walks read_there are.all_are e.firsts_are;
      leasts = ap length read_there ∙ (length-map (place_labels xs) (component_least xs) ∙ sym (ap length read_walks ∙ length-map-range_with_len (walk_of (crossings_of xs)) 0 (length (place_labels xs))));
    }

pub signed_crossings-requires : goal.signed_crossings-requires
signed_crossings-requires c =
    let xs = c.args.items.now in
    let are = read_are xs c.requires.diagram _ _ c.in_ok-names.names.items _ c.in_ok-leasts.leasts.items _ _ c.in_ok-all.all.items
    c.deref.ensures.value c.in_ok-labels.ensures.items c.in_ok-names.ensures c.deref-2.ensures.value c.in_ok-leasts.ensures c.deref-3.ensures.value c.deref-4.ensures.value c.in_ok-all.ensures in
    let e = c.requires.places in
    let walks = walks_are (crossings_of xs) c.deref-5.result.now c.deref-6.result.now c.in_ok-walks.walks.items (c.deref-5.ensures.value ∙ e.after_are) (c.deref-6.ensures.value ∙ e.others_are) c.in_ok-walks.ensures in
    let there = there_are xs c.requires.diagram _ _ c.in_ok-all.all.items are c.deref-7.result.now c.deref-8.result.now c.deref-9.result.now c.in_ok-there.there.items (c.deref-7.ensures.value ∙ e.labels_are) c.deref-8.ensures.value c.deref-9.ensures.value c.in_ok-there.ensures in
    let found : ℕ → Option ℕ = λ label. get nat_cmp c.args.places.now.firsts label in
    let read_walks = c.deref-10.ensures.value ∙ walks in
    let read_there = c.deref-11.ensures.value ∙ there in
    let entered = entered_are xs c.deref-10.result.now c.deref-11.result.now c.in_ok-all.all.items found read_walks read_there are.all_are e.firsts_are c.in_ok-entered.entered.items c.in_ok-entered.ensures in
    let long = ap length (c.deref-12.ensures.value ∙ entered) ∙ length-map-range_with_len (enters xs) 0 (length (place_labels xs)) in
    let again = c.deref-13.ensures.value ∙ there in
    let all = c.deref-14.ensures.value in
    record {
      in_range = omega (arith, long, places_four xs c.requires.diagram.sizes, e.count_is);
      small = omega (arith, few_crossings xs c.requires.diagram, e.count_is);
      leasts = ap length again ∙ (length-map (place_labels xs) (component_least xs) ∙ sym long);
      few = omega (arith, ap length all, are.few);
      sorted = subst (IsStrictlySortedBy nat_cmp) (sym all) (all_sorted xs _ _ _ are);
    }

pub returns : goal.returns
returns c =
    let xs = c.args.items.now in
    let are = read_are xs c.requires.diagram _ _ c.in_ok-names.names.items _ c.in_ok-leasts.leasts.items _ _ c.in_ok-all.all.items
    c.deref.ensures.value c.in_ok-labels.ensures.items c.in_ok-names.ensures c.deref-2.ensures.value c.in_ok-leasts.ensures c.deref-3.ensures.value c.deref-4.ensures.value c.in_ok-all.ensures in
    let e = c.requires.places in
    let walks = walks_are (crossings_of xs) c.deref-5.result.now c.deref-6.result.now c.in_ok-walks.walks.items (c.deref-5.ensures.value ∙ e.after_are) (c.deref-6.ensures.value ∙ e.others_are) c.in_ok-walks.ensures in
    let there = there_are xs c.requires.diagram _ _ c.in_ok-all.all.items are c.deref-7.result.now c.deref-8.result.now c.deref-9.result.now c.in_ok-there.there.items (c.deref-7.ensures.value ∙ e.labels_are) c.deref-8.ensures.value c.deref-9.ensures.value c.in_ok-there.ensures in
    let found : ℕ → Option ℕ = λ label. get nat_cmp c.args.places.now.firsts label in
    let read_walks = c.deref-10.ensures.value ∙ walks in
    let read_there = c.deref-11.ensures.value ∙ there in
    let entered = entered_are xs c.deref-10.result.now c.deref-11.result.now c.in_ok-all.all.items found read_walks read_there are.all_are e.firsts_are c.in_ok-entered.entered.items c.in_ok-entered.ensures in
    record {
      components = are;
      entered = entered;
      crossings = record {
        crossings_are = signed_are xs c.deref-10.result.now c.deref-13.result.now c.deref-14.result.now found read_walks (c.deref-13.ensures.value ∙ there) (c.deref-14.ensures.value ∙ are.all_are) e.firsts_are
            c.requires.diagram.sizes c.deref-12.result.now (c.deref-12.ensures.value ∙ entered) c.args.places.now.item_count c.in_ok-crossings.crossings.items e.count_is c.in_ok-crossings.ensures.crossings;
        few = omega (arith, c.in_ok-crossings.crossings.ok.0, c.in_ok-crossings.ensures.few);
      };
    }
