-- A move multiplies the bracket by its factor: each kind of step by its own file, put together here.
use Rattle.std.proofs.Common.{◌≡◌, ℕ, ◌+◌, ◌*◌, ◌^◌, ◌%◌, ◌<◌, true, false, cond, not, ◌&&◌, ◌||◌, ◌==◌, pos, negsuc, List, [], ◌∷◌, ◌++◌, Some, Ok, refl, sym, ap, ◌∙◌, arith, ⊎_elim, subst, append-nil}
use Rattle.std.specs.List.{AllByRecursion}
use Rattle.std.proofs.Math.Nat.{mod-mod}
use Rattle.std.proofs.lemmas.Bool.{eqb-true, cases_Bool, and_parts}
use Rattle.std.proofs.lemmas.Bool.Decides.{nat_tests}
use Rattle.std.proofs.lemmas.Nat.{mul-mod_first, mul-mod_second}
use Rattle.graph_parts.specs.LeastNames.{least_label}
use Rattle.pd_reader.specs.declared.item.Item.{Item}
use Rattle.pd_reader.specs.declared.item.Item.TheVariants as item
use Rattle.pd_reader.specs.Items.{HasItsSlots}
use Rattle.planar_check.specs.declared.sign.Sign.{Sign}
use Rattle.planar_check.specs.declared.sign.Sign.TheVariants as signs
use Rattle.root_quantum.specs.Parameters.{Parameters}
use Rattle.root_quantum.specs.QuantumNumbers.{inverse_root, loop_value, twist}
use Rattle.root_quantum.proofs.LawProofs.{twist_none_law}
use Rattle.diagram_brackets.specs.Brackets.{loop_count, bracket}
use Rattle.state_sums.specs.StateSums.{value}
use Rattle.state_sums.proofs.Congruent.{pow_0, pow_1}
use Rattle.diagram_moves.specs.Laws.{PlainMovesLaw, IsPairedDiagram}
use Rattle.diagram_moves.specs.Moves.{plain, second_place, pushed, bigon_classes, is_triangle, triangle_rewritten, triangle_slots, curl_classes, curl_of, curl_slots, curled_loop, closing, removed, finished}
use Rattle.diagram_moves.specs.Rewriting.{slot, crossing_at, fresh, at_places}
use Rattle.script_reader.specs.declared.step.Step.TheVariants.{R2, R2Undo, R3, Curl, CurlUndo, BlowUp, Slide}
use Rattle.diagram_moves.specs.declared.factor.Factor.{Factor}
use Rattle.diagram_moves.specs.Steps.{Moved}
use Rattle.diagram_moves.specs.Values.{factor_value}
use Rattle.diagram_moves.proofs.Accepted.{finished_Ok}
use Rattle.diagram_moves.proofs.BracketValues.{bracket_value}
use Rattle.diagram_moves.proofs.Results.{Reached, by_push, by_pull, by_slide, by_curl, by_curl_on_loop, by_uncurl, reached}
use Rattle.diagram_moves.proofs.Curling.{is_plus, curled_value, sizes-curled, curled_loop_value, sizes-curled_loop, loop_slots_four, blown_value}
use Rattle.diagram_moves.proofs.Nodes.{nodes_of, nodes_of-append, IsNode-nodes}
use Rattle.piece_laws.proofs.ParameterNumbers.{skein_numbers}
use Rattle.diagram_moves.proofs.Paired.{sizes-append}
use Rattle.diagram_moves.proofs.Pulling.{pulled_value, uncurled_value, wrapped}
use Rattle.diagram_moves.proofs.Pushing.{pushed_value, sizes-pushed}
use Rattle.diagram_moves.proofs.Rewritten.{rewritten_same}
use Rattle.diagram_moves.proofs.Triangles.{triangle_value, sizes-triangle}
use Rattle.diagram_moves.proofs.Undone.{sizes-closing, loop_count-append}

-- ---- factors
bracket_small : (p : Parameters) (items : List Item) → bracket p items % p.modulus ≡ bracket p items
unfolding bracket value
bracket_small p items = mod-mod _ p.modulus

plain_factor : (p : Parameters) (items : List Item) → factor_value p plain * bracket p items % p.modulus ≡ bracket p items
plain_factor p items =
    let a = twist_none_law p 1 in
    let b = pow_0 (loop_value p) in
    let one : twist p 1 (pos 0) * loop_value p ^ 0 ≡ 1 = rw (a, b) in
    ap (λ n. n * bracket p items % p.modulus) one ∙ ap (λ n. n % p.modulus) (let e : 1 * bracket p items ≡ bracket p items = omega arith in e) ∙ bracket_small p items

abbrev sign_twist : Parameters → Sign → ℕ
sign_twist p signs.Plus = twist p 1 (pos 1)
sign_twist p signs.Minus = twist p 1 (negsuc 0)

sign_factor : (p : Parameters) (sign : Sign) → factor_value p (curl_of sign) ≡ sign_twist p sign
sign_factor p signs.Plus = let b = pow_0 (loop_value p) in rw b (omega arith)
sign_factor p signs.Minus = let b = pow_0 (loop_value p) in rw b (omega arith)

curl_condition : (p : Parameters) (sign : Sign) → (let u = cond (is_plus sign) p.root (inverse_root p) in sign_twist p sign + u * u * u) % p.modulus ≡ 0 % p.modulus
curl_condition p signs.Plus = (skein_numbers p).positive_curl
curl_condition p signs.Minus = (skein_numbers p).negative_curl

abbrev opposite : Sign → Sign
opposite signs.Plus = signs.Minus
opposite signs.Minus = signs.Plus

twists_cancel : (p : Parameters) (sign : Sign) → sign_twist p (opposite sign) * sign_twist p sign % p.modulus ≡ 1 % p.modulus
twists_cancel p signs.Plus = ap (λ n. n % p.modulus) (let e : twist p 1 (negsuc 0) * twist p 1 (pos 1) ≡ twist p 1 (pos 1) * twist p 1 (negsuc 0) = omega arith in e) ∙ (skein_numbers p).inverse_curls
twists_cancel p signs.Minus = (skein_numbers p).inverse_curls

-- from w B' = B to B' = w' B
divided : (m w v old new : ℕ) → v * w % m ≡ 1 % m → old ≡ w * new % m → new % m ≡ v * old % m
divided m w v old new inverse h =
    sym
    (ap (λ n. v * n % m) h
    ∙ mul-mod_second v (w * new) m
    ∙ ap (λ n. n % m) (let e : v * (w * new) ≡ (v * w) * new = omega arith in e)
    ∙ sym (mul-mod_first (v * w) new m)
    ∙ ap (λ n. n * new % m) inverse
    ∙ mul-mod_first 1 new m
    ∙ ap (λ n. n % m) (let e : 1 * new ≡ new = omega arith in e))

module _ (p : Parameters) (items : List Item) (pd : IsPairedDiagram items) where
  abbrev m : ℕ
  m = p.modulus

  abbrev d : ℕ
  d = loop_value p

  abbrev a : ℕ
  a = p.root

  abbrev b : ℕ
  b = inverse_root p

  abbrev Holds : Factor → List Item → Type 0
  Holds factor after = bracket p after ≡ factor_value p factor * bracket p items % m

  abbrev kept_value : List Item → ℕ
  kept_value its = value m d record { nodes = nodes_of a b its; free_loops = loop_count its }

  -- a move without a factor
  kept_plain : (after : List Item) → AllByRecursion HasItsSlots after → kept_value after ≡ kept_value items → Holds plain after
  kept_plain after sizes same = bracket_value p after sizes ∙ same ∙ sym (bracket_value p items pd.sizes) ∙ sym (plain_factor p items)

  -- a curl that comes
  curl_made : (sign : Sign) (after : List Item) → AllByRecursion HasItsSlots after → kept_value after ≡ sign_twist p sign * kept_value items % m → Holds (curl_of sign) after
  curl_made sign after sizes same =
      bracket_value p after sizes ∙ same ∙ sym (ap (λ n. sign_twist p sign * n % m) (bracket_value p items pd.sizes)) ∙ sym (ap (λ n. n * bracket p items % m) (sign_factor p sign))

  -- a curl that goes
  curl_gone : (sign : Sign) (after : List Item) → AllByRecursion HasItsSlots after → kept_value items ≡ sign_twist p sign * kept_value after % m → Holds (curl_of (opposite sign)) after
  curl_gone sign after sizes same =
      let old = bracket_value p items pd.sizes ∙ same ∙ sym (ap (λ n. sign_twist p sign * n % m) (bracket_value p after sizes)) in
      sym (bracket_small p after)
      ∙ divided m (sign_twist p sign) (sign_twist p (opposite sign)) (bracket p items) (bracket p after) (twists_cancel p sign) old
      ∙ sym (ap (λ n. n * bracket p items % m) (sign_factor p (opposite sign)))

  -- ---- R3
  all_apart : (c g f : ℕ) → (c == g || (g == f || c == f)) ≡ false →
      ((g == c) ≡ false) × ((f == c) ≡ false) × ((f == g) ≡ false) × ((c == g) ≡ false) × ((c == f) ≡ false) × ((g == f) ≡ false)
  all_apart c g f h = (
    grind (arith, nat_tests, h),
    grind (arith, nat_tests, h),
    grind (arith, nat_tests, h),
    grind (arith, nat_tests, h),
    grind (arith, nat_tests, h),
    grind (arith, nat_tests, h),
  )

  turned_once_more : (c g f : ℕ) (here there beyond : List ℕ) (k l j : ℕ) → ((c == g) ≡ false) → ((c == f) ≡ false) → ((g == c) ≡ false) → ((f == c) ≡ false) →
      triangle_rewritten items g f c there beyond here l j k ≡ triangle_rewritten items c g f here there beyond k l j
  turned_once_more c g f here there beyond k l j cg cf gc fc =
      rewritten_same (triangle_slots g f c there beyond here l j k) (triangle_slots c g f here there beyond k l j)
      (λ n slots. grind (arith, nat_tests, cg, cf, gc, fc)) 1 items

  slid : (c g f : ℕ) (here there beyond : List ℕ) (s t u : ℕ) → crossing_at items c ≡ Some here → crossing_at items g ≡ Some there → crossing_at items f ≡ Some beyond →
      (c == g || (g == f || c == f)) ≡ false → s < 4 → t < 4 → u < 4 → is_triangle here there beyond (s, (t, u)) ≡ true →
      value m d record { nodes = nodes_of a b items; free_loops = loop_count items }
      ≡ value m d record { nodes = nodes_of a b (triangle_rewritten items c g f here there beyond (s + 3) t u); free_loops = loop_count (triangle_rewritten items c g f here there beyond (s + 3) t u) }
  slid c g f here there beyond s t u at_c at_g at_f distinct low_s low_t low_u test =
      let ap_art = all_apart c g f distinct in
      let t1 = and_parts (slot here s == slot there t) _ test in
      let t2 = and_parts (slot there (t + 1) == slot beyond u) _ t1.1 in
      let t3 = and_parts (slot beyond (u + 1) == slot here (s + 3)) _ t2.1 in
      let k = s + 3 in
      let next : slot here (k + 1) ≡ slot here s = wrapped here s 0 ∙ ap (slot here) (let e : s + 0 ≡ s = omega arith in e) in
      let edge_0 : slot there t ≡ slot here (k + 1) = sym (eqb-true (slot here s) (slot there t) t1.0) ∙ sym next in
      let edge_1 : slot beyond u ≡ slot there (t + 1) = sym (eqb-true (slot there (t + 1)) (slot beyond u) t2.0) in
      let edge_2 : slot here k ≡ slot beyond (u + 1) = sym (eqb-true (slot beyond (u + 1)) (slot here (s + 3)) t3.0) in
      let low_k : k < 8 = omega (arith, low_s) in
      let low_l : t < 8 = omega (arith, low_t) in
      let low_j : u < 8 = omega (arith, low_u) in
      let numbers = (skein_numbers p).skein in
      let V : List Item → ℕ = λ xs. value m d record { nodes = nodes_of a b xs; free_loops = loop_count xs } in
      let same_parity : (k % 2) ≡ ((s + 1) % 2) = omega arith in
      let differ : not ((s + 1) % 2 == t % 2 && t % 2 == u % 2) ≡ true = t3.1 in
      let below : (x : ℕ) → x % 2 < 2 = λ x. omega arith in
      let bk = below k in let bl = below t in let bj = below u in
      let first = λ (even : (k % 2 == 0) ≡ true) (odd : (t % 2 == 0) ≡ false).
      triangle_value m d a b numbers items pd c here at_c g there at_g f beyond at_f ap_art.0 ap_art.1 ap_art.2 k t u low_k low_l low_j edge_0 edge_1 edge_2 even odd in
      let second = λ (even : (t % 2 == 0) ≡ true) (odd : (u % 2 == 0) ≡ false).
      triangle_value m d a b numbers items pd g there at_g f beyond at_f c here at_c ap_art.2 ap_art.3 ap_art.4 t u k low_l low_j low_k edge_1 edge_2 edge_0 even odd
      ∙ ap V (turned_once_more c g f here there beyond k t u ap_art.3 ap_art.4 ap_art.0 ap_art.1) in
      let third = λ (even : (u % 2 == 0) ≡ true) (odd : (k % 2 == 0) ≡ false).
      triangle_value m d a b numbers items pd f beyond at_f c here at_c g there at_g ap_art.4 ap_art.5 ap_art.0 u k t low_j low_k low_l edge_2 edge_0 edge_1 even odd
      ∙ ap V (turned_once_more g f c there beyond here t u k ap_art.5 ap_art.0 ap_art.2 ap_art.3)
      ∙ ap V (turned_once_more c g f here there beyond k t u ap_art.3 ap_art.4 ap_art.0 ap_art.1) in
      ⊎_elim
      (λ ek. ⊎_elim
      (λ el. ⊎_elim (λ ej. absurd (grind (arith, nat_tests, ek, el, ej, differ, same_parity, bk, bl, bj))) (λ oj. second el oj) (cases_Bool (u % 2 == 0)))
      (λ ol. first ek ol)
      (cases_Bool (t % 2 == 0)))
      (λ ok. ⊎_elim
      (λ ej. third ej ok)
      (λ oj. ⊎_elim (λ el. second el oj) (λ ol. absurd (grind (arith, nat_tests, ok, ol, oj, differ, same_parity, bk, bl, bj))) (cases_Bool (t % 2 == 0)))
      (cases_Bool (u % 2 == 0)))
      (cases_Bool (k % 2 == 0))

  -- ---- each result, but BlowUp's
  holds : (after : List Item) {factor : Factor} → Reached items factor after → Holds factor after
  holds after (by_push e f first_of_e first_of_f has_e has_f apart) =
      kept_plain (pushed items e f first_of_e first_of_f) (sizes-pushed items pd e f has_e has_f apart first_of_e first_of_f)
      (pushed_value items pd e f has_e has_f apart first_of_e first_of_f m d a b (skein_numbers p).skein)
  holds after (by_pull c g here there s t at_c at_g apart low_s low_t test) =
      let label : ℕ → ℕ = least_label (bigon_classes here there (s, t)) in
      kept_plain (closing label (slot here s) (slot there (t + 1)) (removed (g ∷ c ∷ []) label items))
      (sizes-closing (g ∷ c ∷ []) label (slot here s) (slot there (t + 1)) items pd.sizes)
      (sym (pulled_value m d a b (skein_numbers p).skein items pd c here at_c g there at_g apart s t low_s low_t test))
  holds after (by_slide c g f here there beyond s t u at_c at_g at_f distinct low_s low_t low_u test) =
      kept_plain (triangle_rewritten items c g f here there beyond (s + 3) t u) (sizes-triangle items c g f here there beyond (s + 3) t u pd.sizes)
      (sym (slid c g f here there beyond s t u at_c at_g at_f distinct low_s low_t low_u test))
  holds after (by_curl e sign has) =
      curl_made sign (at_places (λ q label. cond (q == second_place items e) (fresh items + 1) label) 0 items ++ item.X (curl_slots e (fresh items + 1) (fresh items) sign) ∷ [])
      (sizes-curled items pd e has sign)
      (curled_value items pd e has sign m d a b (skein_numbers p).skein (sign_twist p sign) (curl_condition p sign))
  holds after (by_curl_on_loop e sign has out) =
      curl_made sign (curled_loop e (curl_slots e e (fresh items) sign) items)
      (sizes-curled_loop e (curl_slots e e (fresh items) sign) (loop_slots_four items pd e has out sign) items pd.sizes)
      (curled_loop_value items pd e has out sign m d a b (skein_numbers p).skein (sign_twist p sign) (curl_condition p sign))
  holds after (by_uncurl c here s at_c low test) =
      let label : ℕ → ℕ = least_label (curl_classes here s) in
      let after = closing label (slot here s) (slot here s) (removed (c ∷ []) label items) in
      let sizes = sizes-closing (c ∷ []) label (slot here s) (slot here s) items pd.sizes in
      let numbers = (skein_numbers p).skein in
      let Cube : ℕ → ℕ → Type 0 = λ w u. (w + u * u * u) % m ≡ 0 % m in
      ⊎_elim
      (λ even.
      subst (λ (sign : Sign). Holds (curl_of sign) after) (sym (ap (λ z. cond z signs.Minus signs.Plus) even))
      (curl_gone signs.Plus after sizes
      (uncurled_value m d a b numbers items pd c here at_c s low test (twist p 1 (pos 1)) (subst (Cube (twist p 1 (pos 1))) (sym (ap (λ z. cond z a b) even)) (skein_numbers p).positive_curl))))
      (λ odd.
      subst (λ (sign : Sign). Holds (curl_of sign) after) (sym (ap (λ z. cond z signs.Minus signs.Plus) odd))
      (curl_gone signs.Minus after sizes
      (uncurled_value m d a b numbers items pd c here at_c s low test (twist p 1 (negsuc 0)) (subst (Cube (twist p 1 (negsuc 0))) (sym (ap (λ z. cond z a b) odd)) (skein_numbers p).negative_curl))))
      (cases_Bool (s % 2 == 0))

  -- ---- BlowUp
  blow_up_holds : (moved : Moved) → finished record { curl = pos 0; circle = 1 } (items ++ item.Loop (fresh items) ∷ []) ≡ Ok moved → Holds moved.factor moved.items
  blow_up_holds moved h =
      let after = items ++ item.Loop (fresh items) ∷ [] in
      let one : Factor = record { curl = pos 0; circle = 1 } in
      let sizes = sizes-append items (item.Loop (fresh items) ∷ []) pd.sizes (tt, tt) in
      let none = twist_none_law p 1 in
      let first = pow_1 d in
      let factor : factor_value p one ≡ d = rw (none, first) (omega arith) in
      subst (λ (w : Moved). Holds w.factor w.items) (sym (finished_Ok one after moved h))
      (bracket_value p after sizes
      ∙ ap (λ ns. value m d record { nodes = ns; free_loops = loop_count after }) (nodes_of-append a b items (item.Loop (fresh items) ∷ []) ∙ append-nil (nodes_of a b items))
      ∙ ap (λ n. value m d record { nodes = nodes_of a b items; free_loops = n }) (loop_count-append items (item.Loop (fresh items) ∷ []))
      ∙ blown_value m d (loop_count items) (nodes_of a b items) (IsNode-nodes a b items pd.sizes)
      ∙ sym (ap (λ n. d * n % m) (bracket_value p items pd.sizes))
      ∙ sym (ap (λ n. n * bracket p items % m) factor))

-- A MOVE MULTIPLIES THE BRACKET BY ITS FACTOR
pub plain_moves : PlainMovesLaw
plain_moves p items (R2 e f) moved pd h = holds p items pd moved.items (reached items (R2 e f) moved refl h).0
plain_moves p items (R2Undo c d) moved pd h = holds p items pd moved.items (reached items (R2Undo c d) moved refl h).0
plain_moves p items (R3 c d f) moved pd h = holds p items pd moved.items (reached items (R3 c d f) moved refl h).0
plain_moves p items (Curl e sign) moved pd h = holds p items pd moved.items (reached items (Curl e sign) moved refl h).0
plain_moves p items (CurlUndo c) moved pd h = holds p items pd moved.items (reached items (CurlUndo c) moved refl h).0
plain_moves p items (BlowUp sign) moved pd h = blow_up_holds p items pd moved h
plain_moves p items (Slide e f) moved pd h = absurd cc
