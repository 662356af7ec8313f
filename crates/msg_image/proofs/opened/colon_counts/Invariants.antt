use Rattle.std.proofs.Common.{◌≡◌, map, take}
use Rattle.msg_names.specs.Name.{colons_of}
use Rattle.msg_image.proofs.opened.colon_counts.Given as goal

abbrev pub invariant-loop-index : goal.invariant-loop-index
invariant-loop-index l = l.colons.items ≡ take l.index (map colons_of l.names)
