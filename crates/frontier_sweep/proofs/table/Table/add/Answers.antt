use Rattle.std.proofs.Common.{◌≡◌, ◌<◌, ◌==◌, ◌++◌, ◌∷◌, [], ℕ, List, cond, length, take, sym, ap, subst, ◌∙◌, arith}
use Rattle.std.proofs.lemmas.Map.Entries.{length-keys_of}
use Rattle.arc_pairing.specs.Codes.{code_of}
use Rattle.std.specs.List.{All}
use Rattle.std.specs.Map.{set_value}
use Rattle.std.specs.Map.{keys_of}
use Rattle.std.specs.Set.{is_member}
use Rattle.indexmap.specs.IndexMap.{insert_entry}
use Rattle.std.specs.Option.{option_copied_mut}
use Rattle.frontier_laws.specs.Tables.{add_in}
use Rattle.frontier_laws.proofs.Tables.{add_in-keys, add_in_present}
use Rattle.frontier_sweep.specs.Coded.{AreCoded}
use Rattle.frontier_sweep.proofs.CodedLemmas.{coded_more}
use Rattle.frontier_sweep.proofs.Entries.{found_below, none_found, inserted}
use Rattle.frontier_sweep.proofs.Remainders.{residue_of_sum}
use Rattle.frontier_sweep.proofs.table.Table.add.Goals as goal

pub add-requires-clause-x_below : goal.add-requires-clause-x_below
add-requires-clause-x_below c =
    found_below c.args.ring.now c.code-code.result c.in-Some.coefficient.now c.self.inside.entries.entries (subst (λ (table : List (ℕ × ℕ)). All (λ entry. entry.1 < c.args.ring.now) table) (sym c.self.view_is) c.requires.below)
    (sym (ap option_copied_mut c.in-Some.is) ∙ c.get_mut.ensures.value)

pub returns-in-Some-clause-added : goal.returns-in-Some-clause-added
returns-in-Some-clause-added c =
    let m = c.args.ring.now in
    let code = c.code-code.result in
    let old = c.in-Some.coefficient.now in
    let found = sym c.get_mut.ensures.value ∙ ap option_copied_mut c.in-Some.is in
    (c.get_mut.follows.holds c.add.result).0
    ∙ ap (set_value (◌==◌ code) c.self.inside.entries.entries) (c.add.ensures.sum ∙ residue_of_sum m old c.args.more)
    ∙ sym (add_in_present m code c.args.more old c.self.inside.entries.entries found)
    ∙ ap (add_in m code c.args.more) c.self.view_is
    ∙ ap (λ code. add_in m code c.args.more c.args.self.now) c.code-code.ensures.value

pub returns-then-len-ge-MOST_PAIRINGS-clause-full : goal.returns-then-len-ge-MOST_PAIRINGS-clause-full
returns-then-len-ge-MOST_PAIRINGS-clause-full c _ =
    let none = sym (ap option_copied_mut c.in-None.is) ∙ c.get_mut.ensures.value in
    let same = ap (λ map. length map.entries) c.get_mut.follows.holds-at-none ∙ ap (λ (table : List (ℕ × ℕ)). length table) c.self.view_is in (
      ap (is_member ◌==◌ (keys_of c.args.self.now)) (sym c.code-code.ensures.value)
          ∙ ap (λ (table : List (ℕ × ℕ)). is_member ◌==◌ (keys_of table) c.code-code.result) (sym c.self.view_is)
          ∙ none_found c.code-code.result c.self.inside.entries.entries none,
      (let l = c.len-len.ensures.len in let t = c.if-len-ge-MOST_PAIRINGS.true in omega (arith, l, t, same)),
    )

pub returns-in_ok-insert-in-None-clause-added : goal.returns-in_ok-insert-in-None-clause-added
returns-in_ok-insert-in-None-clause-added c =
    let none = sym (ap option_copied_mut c.in-None.is) ∙ c.get_mut.ensures.value in
    (c.in_ok-insert-in-None.ensures {u = tt}).entries
    ∙ ap (λ map. insert_entry ◌==◌ map.entries c.code-code.result c.args.more) c.get_mut.follows.holds-at-none
    ∙ inserted c.args.ring.now c.code-code.result c.args.more c.self.inside.entries.entries c.requires.more none
    ∙ ap (add_in c.args.ring.now c.code-code.result c.args.more) c.self.view_is
    ∙ ap (λ code. add_in c.args.ring.now code c.args.more c.args.self.now) c.code-code.ensures.value

-- A new pairing stands behind the others, as its code does.
pub invariant_of-self-in_ok-insert-in-None : goal.invariant_of-self-in_ok-insert-in-None
invariant_of-self-in_ok-insert-in-None c =
    let none = sym (ap option_copied_mut c.in-None.is) ∙ c.get_mut.ensures.value in
    let table = c.self.inside.entries.entries in
    let code = c.code-code.result in
    let absent = none_found code table none in
    let keys : keys_of c.insert.new.self.entries ≡ keys_of table ++ code_of c.args.pairing ∷ [] =
    ap (λ (table : List (ℕ × ℕ)). keys_of table)
    ((c.in_ok-insert-in-None.ensures {u = tt}).entries
    ∙ ap (λ map. insert_entry ◌==◌ map.entries code c.args.more) c.get_mut.follows.holds-at-none
    ∙ inserted c.args.ring.now code c.args.more table c.requires.more none)
    ∙ add_in-keys c.args.ring.now code c.args.more table
    ∙ ap (λ found. cond found (keys_of table) (keys_of table ++ code ∷ [])) absent
    ∙ ap (λ code. keys_of table ++ code ∷ []) c.code-code.ensures.value in
    let long : c.len-len.result ≡ length (keys_of table) = c.len-len.ensures.len ∙ ap (λ map. length map.entries) c.get_mut.follows.holds-at-none ∙ sym (length-keys_of table) in
    let pairings : c.push.new.self.items ≡ take (length (keys_of table)) c.self.inside.pairings.items ++ c.args.pairing ∷ [] =
    (c.in_ok-push-in-None.ensures {u = tt}).items
    ∙ ap (λ (pairings : List (List ℕ)). pairings ++ c.args.pairing ∷ []) (c.truncate.ensures.items ∙ ap (λ n. take n c.self.inside.pairings.items) long) in
    subst (λ codes. AreCoded codes c.push.new.self.items) (sym keys)
    (subst (AreCoded (keys_of table ++ code_of c.args.pairing ∷ [])) (sym pairings) (coded_more (keys_of table) c.self.inside.pairings.items c.args.pairing c.self.invariant))
