use Rattle.std.proofs.Common.{◌≡◌, take, drop}
use Rattle.text_shapes.proofs.Arguments.{ArgsSoFar}
use Rattle.pd_reader.proofs.call.read_call.Given as goal

-- the slots before i hold what was read, the others their kinds
abbrev pub invariant-loop-i : goal.invariant-loop-i
invariant-loop-i g l = record {
  left : drop l.i l.slots ≡ drop l.i l.fn.slots;
  read : ArgsSoFar g.A.Argument.tokens g.A.Argument.is_of_kind l.bytes l.at l.head l.fn.slots (drop l.i l.fn.slots) (take l.i l.slots) l.i l.place;
}
