use Rattle.std.proofs.Common.{◌≡◌, ◌++◌, drop, map, option_map}
use Rattle.wrt_request.specs.Framings.{signed_value}
use Rattle.wrt_request.specs.Lists.{members_by}
use Rattle.wrt_request.proofs.framing.framings_in.Given as goal

-- The framings that were read, before those of the texts that are left.
abbrev pub invariant-loop-text : goal.invariant-loop-text
invariant-loop-text l =
    members_by signed_value (map (λ s. s.now) l.texts) ≡ option_map (λ ns. l.members.items ++ ns) (members_by signed_value (map (λ s. s.now) (drop l.text-index l.texts)))
