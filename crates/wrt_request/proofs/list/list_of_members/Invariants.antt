use Rattle.std.proofs.Common.{◌≡◌, ◌++◌, drop, map, option_map}
use Rattle.wrt_request.specs.Lists.{members_of}
use Rattle.wrt_request.proofs.list.list_of_members.Given as goal

-- The members that were read, before those of the texts that are left.
abbrev pub invariant-loop-text : goal.invariant-loop-text
invariant-loop-text l =
    members_of (map (λ s. s.now) l.texts) ≡ option_map (λ ns. l.members.items ++ ns) (members_of (map (λ s. s.now) (drop l.text-index l.texts)))
