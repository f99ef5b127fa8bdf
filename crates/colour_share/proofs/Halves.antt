-- Two halves of the workers.
use Rattle.std.proofs.Common.{◌≡◌, ℕ, suc, ◌+◌, ◌-◌, ◌*◌, ◌^◌, ◌<◌, ◌≤◌, Bool, true, false, if◌then◌else◌, List, [], ◌∷◌, ◌++◌, length, Some, Result, Ok, Err, pos, ◌+ℤ◌, refl, sym, ap, subst, ◌∙◌, arith, inl, inr, slice_get, get_or, length-append}
use Rattle.std.proofs.lemmas.Bool.{cases_lt}
use Rattle.std.proofs.lemmas.Option.{slice_get_within, slice_get-get_or, get_or_from_slice_get}
use Rattle.std.proofs.lemmas.List.{get_or_append_left, get_or-append-add}
use Rattle.ring_identities.specs.Residues.{residue}
use Rattle.root_quantum.specs.Parameters.{Parameters}
use Rattle.planar_check.specs.Framings.{FramedDiagram}
use Rattle.frontier_laws.specs.Orders.{View}
use Rattle.frontier_sweep.specs.Sweeps.{IsSwept}
use Rattle.wenzl_table.specs.Tables.{Table, Notes}
use Rattle.kirby_terms.specs.Terms.{network_at}
use Rattle.colour_share.specs.Parts.{falls, share_sum, term_residue, IsPartSum, KnowsShare, AllKnow, AreSwept, IsFirstStop, IsPartOf, IsPart}
use Rattle.colour_share.specs.Merging.{IsLeast, Fits, IsBoth, IsMerged}
use Rattle.colour_share.specs.declared.part.Summed.{Summed}
use Rattle.colour_share.specs.declared.part.PartFault.{PartFault}
use Rattle.colour_share.specs.declared.part.PartFault.TheVariants.{Stopped, Memory}
use Rattle.colour_share.proofs.Shares.{falls_right, right_out, share_same, share_le, share_split, residue_sum}

-- ---- lists of notes
module _ (table : Table) (diagram : FramedDiagram) (workers n : ℕ) where
  pub one_knows : (worker : ℕ) (notes : Notes) → KnowsShare table diagram workers worker n notes → AllKnow table diagram workers worker n (notes ∷ [])
  one_knows worker notes h k other is =
      let low : k < 1 = slice_get_within (notes ∷ []) k other is in
      let first : k ≡ 0 = omega arith in
      let same : notes ≡ other = subst (λ (j : ℕ). get_or (notes ∷ []) j other ≡ other) first (get_or_from_slice_get (notes ∷ []) k other other is) in
      let at : worker ≡ worker + k = omega arith in
      subst (λ (j : ℕ). KnowsShare table diagram workers j n other) at (subst (KnowsShare table diagram workers worker n) same h)

  all_know : (from mid : ℕ) (xs ys : List Notes) → from + length xs ≡ mid → AllKnow table diagram workers from n xs → AllKnow table diagram workers mid n ys → AllKnow table diagram workers from n (xs ++ ys)
  all_know from mid xs ys long a b k notes is =
      elim (cases_lt k (length xs)) [
        | inl less ↦ let e : slice_get xs k ≡ Some notes = slice_get-get_or xs k notes less ∙ ap Some (sym (get_or_append_left xs ys notes k less) ∙ get_or_from_slice_get (xs ++ ys) k notes notes is) in a k notes e
        | inr more ↦ let within : k < length (xs ++ ys) = slice_get_within (xs ++ ys) k notes is in
            let both = length-append xs ys in
            let rest : k - length xs < length ys = omega arith in
            let k_is : length xs + (k - length xs) ≡ k = omega arith in
            let f : get_or (xs ++ ys) (length xs + (k - length xs)) notes ≡ notes = subst (λ (j : ℕ). get_or (xs ++ ys) j notes ≡ notes) (sym k_is) (get_or_from_slice_get (xs ++ ys) k notes notes is) in
            let e : slice_get ys (k - length xs) ≡ Some notes = slice_get-get_or ys (k - length xs) notes rest ∙ ap Some (sym (get_or-append-add xs ys (k - length xs) notes) ∙ f) in
            let at : mid + (k - length xs) ≡ from + k = omega arith in
            subst (λ (j : ℕ). KnowsShare table diagram workers j n notes) at (b (k - length xs) notes e)
      ]

-- ---- sums and stops
module _ (answers : View → ℕ → Type 0) (p : Parameters) (diagram : FramedDiagram) (workers from mid to : ℕ) (low : from ≤ mid) (high : mid ≤ to) where
  -- by halves
  by_half : {A : Type 0} (n place : ℕ) → falls workers from to place ≡ true → (falls workers from mid place ≡ true → A) → (falls workers mid to place ≡ true → A) → A
  by_half {A = A} n place f left right = cases (falls workers from mid place) refl
    where
      cases : (b : Bool) → falls workers from mid place ≡ b → A
      cases true e = left e
      cases false e = right (falls_right workers from mid to place low high f e)

  swept_both : (n : ℕ) → AreSwept answers p diagram workers from mid n → AreSwept answers p diagram workers mid to n → AreSwept answers p diagram workers from to n
  swept_both n a b place within f = by_half n place f (a place within) (b place within)

  swept_less : (a b n less : ℕ) → less ≤ n → AreSwept answers p diagram workers a b n → AreSwept answers p diagram workers a b less
  swept_less a b n less few h place within f = h place (omega (arith, within, few)) f

  are_swept : (a b n value turns : ℕ) → IsPartSum answers p diagram workers a b n value turns → AreSwept answers p diagram workers a b n
  are_swept a b n value turns h place within f = (h.each (suc place), h.are.swept place within f)

  few_turns : (a b n value turns : ℕ) → IsPartSum answers p diagram workers a b n value turns → turns ≤ n * 2 ^ 54
  few_turns a b n value turns h = let few = share_le h.each (2 ^ 54) workers a b n h.are.few in let t = h.turns_are in omega (arith, few, t)

  -- the numbers of both halves
  abbrev each_both : (ℕ → ℕ) → (ℕ → ℕ) → ℕ → ℕ
  each_both a b index = if falls workers from mid (index - 1) then a index else b index

  each_left : (a b : ℕ → ℕ) (place : ℕ) → falls workers from mid place ≡ true → each_both a b (suc place) ≡ a (suc place)
  each_left a b place f = ap (λ k. if falls workers from mid k then a (suc place) else b (suc place)) (let e : suc place - 1 ≡ place = omega arith in e) ∙ ap (λ t. if t then a (suc place) else b (suc place)) f

  each_right : (a b : ℕ → ℕ) (place : ℕ) → falls workers from mid place ≡ false → each_both a b (suc place) ≡ b (suc place)
  each_right a b place f = ap (λ k. if falls workers from mid k then a (suc place) else b (suc place)) (let e : suc place - 1 ≡ place = omega arith in e) ∙ ap (λ t. if t then a (suc place) else b (suc place)) f

  -- BOTH SUMS
  sum_both : (n a s b t value : ℕ) → 0 < p.modulus → IsPartSum answers p diagram workers from mid n a s → IsPartSum answers p diagram workers mid to n b t →
      value ≡ residue p.modulus (pos a +ℤ pos b) → value < p.modulus → IsPartSum answers p diagram workers from to n value (s + t)
  sum_both n a s b t value some x y value_is value_below =
      let each = each_both x.each y.each in
      record {
        value_is =
            residue_sum p.modulus (share_sum (term_residue p diagram) workers from mid n) (share_sum (term_residue p diagram) workers mid to n) a b value some x.value_is y.value_is value_is
            ∙ ap (λ k. residue p.modulus (pos k)) (sym (share_split (term_residue p diagram) workers from mid to n low high));
        below = value_below;
        each = each;
        are = record {
          swept = λ place within f. by_half n place f
              (λ g. subst (IsSwept answers (network_at p diagram (suc place)) 0) (sym (each_left x.each y.each place g)) (x.are.swept place within g))
              (λ g. subst (IsSwept answers (network_at p diagram (suc place)) 0) (sym (each_right x.each y.each place (right_out workers from mid to place g))) (y.are.swept place within g));
          few = λ place within f. by_half n place f
              (λ g. let e = each_left x.each y.each place g in let few = x.are.few place within g in omega (arith, e, few))
              (λ g. let e = each_right x.each y.each place (right_out workers from mid to place g) in let few = y.are.few place within g in omega (arith, e, few));
        };
        turns_are =
            let left : share_sum each workers from mid n ≡ share_sum x.each workers from mid n = share_same each x.each workers from mid n (λ place within g. each_left x.each y.each place g) in
            let right : share_sum each workers mid to n ≡ share_sum y.each workers mid to n =
            share_same each y.each workers mid to n (λ place within g. each_right x.each y.each place (right_out workers from mid to place g)) in
            let whole = share_split each workers from mid to n low high in
            let u = x.turns_are in
            let v = y.turns_are in
            omega (arith, left, right, whole, u, v);
      }

  stop_left : (n : ℕ) (fault : PartFault) → AreSwept answers p diagram workers mid to n → IsFirstStop answers p diagram workers from mid n fault → IsFirstStop answers p diagram workers from to n fault
  stop_left n Memory swept h = tt
  stop_left n (Stopped k fault) swept h =
      (h.0, record { within = h.1.within; before = swept_both (k - 1) h.1.before (swept_less mid to n (k - 1) (omega (arith, h.1.within)) swept) }, h.2)

  stop_right : (n : ℕ) (fault : PartFault) → AreSwept answers p diagram workers from mid n → IsFirstStop answers p diagram workers mid to n fault → IsFirstStop answers p diagram workers from to n fault
  stop_right n Memory swept h = tt
  stop_right n (Stopped k fault) swept h =
      (h.0, record { within = h.1.within; before = swept_both (k - 1) (swept_less from mid n (k - 1) (omega (arith, h.1.within)) swept) h.1.before }, h.2)

  -- THE LESSER STOP
  stop_both : (n : ℕ) (a b r : PartFault) → IsLeast a b r → IsFirstStop answers p diagram workers from mid n a → IsFirstStop answers p diagram workers mid to n b → IsFirstStop answers p diagram workers from to n r
  stop_both n Memory b r is h k = subst (IsFirstStop answers p diagram workers from to n) (sym is) tt
  stop_both n (Stopped x f) Memory r is h k = subst (IsFirstStop answers p diagram workers from to n) (sym is) tt
  stop_both n (Stopped x f) (Stopped y e) r (inl is) h k =
      subst (IsFirstStop answers p diagram workers from to n) (sym is.1)
      (h.0, record { within = h.1.within; before = swept_both (x - 1) h.1.before (swept_less mid to (y - 1) (x - 1) (omega (arith, is.0)) k.1.before) }, h.2)
  stop_both n (Stopped x f) (Stopped y e) r (inr is) h k =
      subst (IsFirstStop answers p diagram workers from to n) (sym is.1)
      (k.0, record { within = k.1.within; before = swept_both (y - 1) (swept_less from mid (x - 1) (y - 1) (omega (arith, is.0)) h.1.before) k.1.before }, k.2)

-- ---- whole results
module _ (answers : View → ℕ → Type 0) (table : Table) (diagram : FramedDiagram) (workers from mid to n : ℕ) (some : 0 < table.params.modulus) (low : from < mid) (high : mid < to) where
  both_part : (a b both : Summed) → IsPartOf answers table diagram workers from mid n a → IsPartOf answers table diagram workers mid to n b → IsBoth table.params.modulus a b both →
      IsPartOf answers table diagram workers from to n both
  both_part a b both x y h = record {
    sum = subst (IsPartSum answers table.params diagram workers from to n both.value) (sym h.turns)
        (sum_both answers table.params diagram workers from mid to (omega (arith, low)) (omega (arith, high)) n a.value a.turns b.value b.turns both.value some x.sum y.sum h.value h.below);
    count = (let e = ap length h.notes ∙ length-append a.notes.items b.notes.items in let u = x.count in let v = y.count in omega (arith, e, u, v, low, high));
    notes = subst (AllKnow table diagram workers from n) (sym h.notes) (all_know table diagram workers n from mid a.notes.items b.notes.items (let u = x.count in omega (arith, u, low)) x.notes y.notes);
  }

  -- THE HALVES PUT TOGETHER
  pub halves : (a b r : Result Summed PartFault) → IsPart answers table diagram workers from mid n a → IsPart answers table diagram workers mid to n b → IsMerged table.params.modulus a b r →
      IsPart answers table diagram workers from to n r
  halves (Ok a) (Ok b) (Ok s) x y m = both_part a b s x y m
  halves (Ok a) (Ok b) (Err e) x y m = subst (IsFirstStop answers table.params diagram workers from to n) (sym m) tt
  halves (Ok a) (Err f) r x y m =
      let h : IsPart answers table diagram workers from to n (Err f) = stop_right answers table.params diagram workers from mid to (omega (arith, low)) (omega (arith, high)) n f (are_swept answers table.params diagram workers from mid to (omega (arith, low)) (omega (arith, high)) from mid n a.value a.turns x.sum) y in
      subst (IsPart answers table diagram workers from to n) (sym m) h
  halves (Err e) (Ok b) r x y m =
      let h : IsPart answers table diagram workers from to n (Err e) = stop_left answers table.params diagram workers from mid to (omega (arith, low)) (omega (arith, high)) n e (are_swept answers table.params diagram workers from mid to (omega (arith, low)) (omega (arith, high)) mid to n b.value b.turns y.sum) x in
      subst (IsPart answers table diagram workers from to n) (sym m) h
  halves (Err e) (Err f) (Ok s) x y m = absurd m
  halves (Err e) (Err f) (Err g) x y m = stop_both answers table.params diagram workers from mid to (omega (arith, low)) (omega (arith, high)) n e f g m x y

  -- there is room for both turns
  pub fits : (a b : Result Summed PartFault) → n ≤ 65536 → IsPart answers table diagram workers from mid n a → IsPart answers table diagram workers mid to n b → Fits table.params.modulus a b
  fits (Ok a) (Ok b) few x y =
      let u = few_turns answers table.params diagram workers from mid to (omega (arith, low)) (omega (arith, high)) from mid n a.value a.turns x.sum in
      let v = few_turns answers table.params diagram workers from mid to (omega (arith, low)) (omega (arith, high)) mid to n b.value b.turns y.sum in
      (x.sum.below, y.sum.below, omega (arith, u, v, few))
  fits (Ok a) (Err f) few x y = tt
  fits (Err e) (Ok b) few x y = tt
  fits (Err e) (Err f) few x y = tt
