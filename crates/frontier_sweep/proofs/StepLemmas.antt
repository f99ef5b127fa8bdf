-- What holds in the loops of a step that makes a table anew, pass by pass: the table is that of the terms glued so far, and has at most 262,144 entries.
use Rattle.std.proofs.Common.{◌≡◌, ℕ, suc, ◌+◌, ◌*◌, ◌<◌, ◌≤◌, ◌%◌, ◌==◌, false, List, [], ◌∷◌, ◌++◌, map, take, drop, length, get_or, Some, sym, ap, subst, ◌∙◌, append-nil, arith}
use Rattle.std.specs.List.{All}
use Rattle.std.specs.Map.{keys_of}
use Rattle.std.specs.Option.{unwrap_or}
use Rattle.std.specs.Set.{is_member}
use Rattle.std.proofs.Math.Seq.{split_at}
use Rattle.std.proofs.lemmas.List.{map-append, take_more, take-append-drop}
use Rattle.std.proofs.lemmas.List.Concat.{flat_map-append}
use Rattle.state_sums.specs.Networks.{Term}
use Rattle.arc_pairing.specs.Gluing.{Seam}
use Rattle.frontier_laws.specs.Tables.{add_in, add_all, glued_item, contribution, contributions}
use Rattle.frontier_laws.proofs.Tables.{add_in-residue, add_in-below, add_all-push, add_all-append, add_all-below}
use Rattle.frontier_laws.proofs.TableLengths.{longer_behind, longer_by_one}
use Rattle.frontier_sweep.specs.LoopPowers.{LoopPowers}

-- The first so many terms are glued to the pairing.
pub record IsGluedTo (powers : LoopPowers) (seam : Seam) (partner : List ℕ) (coefficient : ℕ) (terms : List Term) (old : List (ℕ × ℕ)) (count done : ℕ) (next : List (ℕ × ℕ)) (turns : ℕ) : Type 0 where
  pub table : next ≡ add_all powers.modulus old (map (glued_item powers.delta seam partner coefficient) (take done terms))
  pub below : All (λ entry. entry.1 < powers.modulus) next
  pub few : length next ≤ 262144
  pub count_is : turns ≡ count + done

-- So far map and take, one term more.
taken_more : {X : Type 0} (f : X → ℕ × ℕ) (xs : List X) (j : ℕ) (d : X) → j < length xs → map f (take (j + 1) xs) ≡ map f (take j xs) ++ f (get_or xs j d) ∷ []
taken_more f xs j d within = ap (map f) (take_more xs j d within) ∙ map-append f (take j xs) (get_or xs j d ∷ [])

module _ (powers : LoopPowers) (seam : Seam) (partner : List ℕ) (coefficient : ℕ) (terms : List Term) (old next : List (ℕ × ℕ)) (count j turns : ℕ)
    (h : IsGluedTo powers seam partner coefficient terms old count j next turns) (within : j < length terms) (term : Term) (read : term ≡ get_or terms j term) where
  abbrev pub item : Term → ℕ × ℕ
  item = glued_item powers.delta seam partner coefficient

  -- ONE TERM MORE
  pub glued_more : (code more : ℕ) (after : List (ℕ × ℕ)) → code ≡ (item term).0 → more ≡ (item term).1 % powers.modulus → more < powers.modulus → after ≡ add_in powers.modulus code more next → length after ≤ 262144 →
      IsGluedTo powers seam partner coefficient terms old count (j + 1) after (turns + 1)
  glued_more code more after code_is more_is small after_is few = record {
    few = few;
    table =
        after_is
        ∙ ap (λ code. add_in powers.modulus code more next) code_is
        ∙ ap (λ more. add_in powers.modulus (item term).0 more next) more_is
        ∙ add_in-residue powers.modulus (item term).0 (item term).1 next
        ∙ ap (add_in powers.modulus (item term).0 (item term).1) h.table
        ∙ sym (add_all-push powers.modulus old (map item (take j terms)) (item term))
        ∙ ap (λ last. add_all powers.modulus old (map item (take j terms) ++ item last ∷ [])) read
        ∙ ap (add_all powers.modulus old) (sym (taken_more item terms j term within));
    below = subst (All (λ entry. entry.1 < powers.modulus)) (sym after_is) (add_in-below powers.modulus code more next (omega (arith, small)) h.below);
    count_is = (let e = h.count_is in omega (arith, e));
  }

  -- A code that is new where there are 262,144.
  pub glued_over : (code : ℕ) → code ≡ (item term).0 → is_member ◌==◌ (keys_of next) code ≡ false → 262144 ≤ length next → 262144 < length (add_all powers.modulus old (map item terms))
  glued_over code code_is new full =
      let front = map item (take j terms) in
      let back = map item (drop (suc j) terms) in
      let split = ap (map item) (split_at terms j term within) ∙ map-append item (take j terms) (get_or terms j term ∷ drop (suc j) terms)
      ∙ ap (λ last. front ++ item last ∷ back) (sym read) in
      let fresh = ap (λ (so_far : List (ℕ × ℕ)). is_member ◌==◌ (keys_of so_far) (item term).0) (sym h.table) ∙ ap (is_member ◌==◌ (keys_of next)) (sym code_is) ∙ new in
      let more = longer_by_one powers.modulus old front back (item term) fresh in
      let long = ap length h.table in
      let all = ap (λ items. length (add_all powers.modulus old items)) split in
      omega (arith, full, more, long, all)

-- What the first so many entries give, one more.
contributions_more : (delta : ℕ) (seam : Seam) (terms : List Term) (table : List (ℕ × ℕ)) (i : ℕ) → i < length table →
    contributions delta seam terms (take (i + 1) table) ≡ contributions delta seam terms (take i table) ++ map (contribution delta seam (get_or table i (0, 0))) terms
contributions_more delta seam terms table i within =
    let one : ℕ × ℕ → List (ℕ × ℕ) = λ entry. map (contribution delta seam entry) terms in
    let entry = get_or table i (0, 0) in
    ap (contributions delta seam terms) (take_more table i (0, 0) within) ∙ flat_map-append one (take i table) (entry ∷ []) ∙ ap (λ last. contributions delta seam terms (take i table) ++ last) (append-nil (one entry))

-- The terms are glued to the first so many entries.
pub record IsGluedToAll (powers : LoopPowers) (seam : Seam) (terms : List Term) (table : List (ℕ × ℕ)) (count done : ℕ) (next : List (ℕ × ℕ)) (turns : ℕ) : Type 0 where
  pub table_is : next ≡ add_all powers.modulus [] (contributions powers.delta seam terms (take done table))
  pub below : All (λ entry. entry.1 < powers.modulus) next
  pub few : length next ≤ 262144
  pub count_is : turns ≡ count + done * length terms

module _ (powers : LoopPowers) (seam : Seam) (terms : List Term) (table next : List (ℕ × ℕ)) (count i turns : ℕ) (h : IsGluedToAll powers seam terms table count i next turns) (within : i < length table) (entry : ℕ × ℕ)
    (read : entry ≡ get_or table i (0, 0)) where
  -- ONE ENTRY MORE
  pub entry_more : 0 < powers.modulus → (after : List (ℕ × ℕ)) → after ≡ add_all powers.modulus next (map (contribution powers.delta seam entry) terms) → length after ≤ 262144 →
      IsGluedToAll powers seam terms table count (i + 1) after (turns + length terms)
  entry_more some after after_is few = record {
    few = few;
    table_is =
        after_is
        ∙ ap (λ so_far. add_all powers.modulus so_far (map (contribution powers.delta seam entry) terms)) h.table_is
        ∙ sym (add_all-append powers.modulus [] (contributions powers.delta seam terms (take i table)) (map (contribution powers.delta seam entry) terms))
        ∙ ap (λ last. add_all powers.modulus [] (contributions powers.delta seam terms (take i table) ++ map (contribution powers.delta seam last) terms)) read
        ∙ ap (add_all powers.modulus []) (sym (contributions_more powers.delta seam terms table i within));
    below = subst (All (λ entry. entry.1 < powers.modulus)) (sym after_is) (add_all-below powers.modulus (map (contribution powers.delta seam entry) terms) next some h.below);
    count_is = (let e = h.count_is in let n = length terms in let d : (i + 1) * n ≡ i * n + n = omega arith in omega (arith, e, d));
  }

  -- An overflow at that entry.
  pub entry_over : 262144 < length (add_all powers.modulus next (map (contribution powers.delta seam entry) terms)) → 262144 < length (add_all powers.modulus [] (contributions powers.delta seam terms table))
  entry_over over =
      let one : ℕ × ℕ → List (ℕ × ℕ) = λ entry. map (contribution powers.delta seam entry) terms in
      let so_far = contributions powers.delta seam terms (take i table) in
      let here = ap length (ap (λ before. add_all powers.modulus before (one entry)) h.table_is ∙ sym (add_all-append powers.modulus [] so_far (one entry))
      ∙ ap (λ last. add_all powers.modulus [] (so_far ++ one last)) read ∙ ap (add_all powers.modulus []) (sym (contributions_more powers.delta seam terms table i within))) in
      let split = ap (λ entries. add_all powers.modulus [] (contributions powers.delta seam terms entries)) (sym (take-append-drop (i + 1) table))
      ∙ ap (add_all powers.modulus []) (flat_map-append one (take (i + 1) table) (drop (i + 1) table)) in
      let more = longer_behind powers.modulus [] (contributions powers.delta seam terms (take (i + 1) table)) (contributions powers.delta seam terms (drop (i + 1) table)) in
      let all = ap length split in
      omega (arith, over, here, more, all)

pub some_same : {X : Type 0} (x y : X) → Some x ≡ Some y → x ≡ y
some_same x y same = ap (λ found. unwrap_or found x) same
