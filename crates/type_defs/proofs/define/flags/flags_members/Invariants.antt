use Rattle.std.proofs.Common.{◌≡◌, map, take}
use Rattle.type_defs.specs.FlagsDef.{flags_member}
use Rattle.type_defs.proofs.define.flags.flags_members.Given as goal

abbrev pub invariant-loop-member : goal.invariant-loop-member
invariant-loop-member l = l.items ≡ map flags_member (take l.member-index l.members)
