use Rattle.std.proofs.Common.{◌≡◌, ◌≤◌, drop, take}
use Rattle.serde_json.specs.Data.{Members}
use Rattle.msg_json.specs.View.{entries, members_view, with_members}
use Rattle.msg_json.proofs.KeyLemmas.{AreKeysOf}
use Rattle.msg_json.proofs.look.are_keys.Given as goal

-- the number of keys of the members so far
abbrev pub invariant-loop-index : goal.invariant-loop-index
invariant-loop-index l =
    (found : Members) × AreKeysOf (take l.index l.members) l.keys found × (l.keys ≤ l.count) × (with_members found (entries (drop l.index l.members)) ≡ members_view l.members)
