use Rattle.std.proofs.Common.{◌≡◌, ℕ, Ok, Err, ap}
use Rattle.frontier_sweep.specs.Next.{next_of}
use Rattle.colour_share.specs.Sums.{IsNoInverse}
use Rattle.wrt_values.proofs.Surgeries.{turns_are, wide, full, no_delta, not_too_many}
use Rattle.wrt_values.proofs.surgery.kirby_value.Goals as goal

pub returns-in-Ok-clause-turns : goal.returns-in-Ok-clause-turns
returns-in-Ok-clause-turns g c =
    let next = next_of c.args.order.now in
    let q = c.in_ok-table.table.params in
    let none : (index common : ℕ) → ¬ IsNoInverse q c.args.framed.now index common = λ index common h. let e = (c.in-Ok.ensures.no_inverse index common).1 h in absurd (cc) in
    turns_are next q c.args.params.now c.args.framed.now c.in_ok-table.ensures.params c.in-Ok.summed.turns c.requires.few none (c.in-Ok.ensures.exact next (λ view place v l a. a))

pub returns-in-Err-NoInverse-clause-refused : goal.returns-in-Err-NoInverse-clause-refused
returns-in-Err-NoInverse-clause-refused g c =
    let s = c.in-Err-NoInverse in
    no_delta (next_of c.args.order.now) c.in_ok-table.table.params c.args.params.now c.args.framed.now c.in_ok-table.ensures.params s.index s.common ((s.ensures.no_inverse s.index s.common).0 (ap Err s.field-0-is))

pub returns-in-Err-Wide-clause-refused : goal.returns-in-Err-Wide-clause-refused
returns-in-Err-Wide-clause-refused g c =
    let next = next_of c.args.order.now in
    let s = c.in-Err-Wide in
    let q = c.in_ok-table.table.params in
    let none : (index common : ℕ) → ¬ IsNoInverse q c.args.framed.now index common = λ index common h. let e = (s.ensures.no_inverse index common).1 h in let is = s.field-0-is in absurd (cc) in
    wide next q c.args.params.now c.args.framed.now c.in_ok-table.ensures.params s.colouring s.step s.ends s.field-0 s.field-0-is c.requires.few none (s.ensures.first next (λ view place v l a. a))

pub returns-in-Err-Table-clause-refused : goal.returns-in-Err-Table-clause-refused
returns-in-Err-Table-clause-refused g c =
    let next = next_of c.args.order.now in
    let s = c.in-Err-Table in
    let q = c.in_ok-table.table.params in
    let none : (index common : ℕ) → ¬ IsNoInverse q c.args.framed.now index common = λ index common h. let e = (s.ensures.no_inverse index common).1 h in let is = s.field-0-is in absurd (cc) in
    full next q c.args.params.now c.args.framed.now c.in_ok-table.ensures.params s.colouring s.step s.field-0 s.field-0-is c.requires.few none (s.ensures.first next (λ view place v l a. a))

pub unreachable-requires : goal.unreachable-requires
unreachable-requires g c =
    let s = c.in-Err-TooMany in
    not_too_many (next_of c.args.order.now) c.in_ok-table.table.params c.args.params.now c.args.framed.now c.in_ok-table.ensures.params s.field-0-0 s.field-0-1
    ((s.ensures.too_many s.field-0-0 s.field-0-1).0 (ap Err s.field-0-is)) c.requires.few
