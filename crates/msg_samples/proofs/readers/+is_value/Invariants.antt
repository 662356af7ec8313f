use Rattle.std.proofs.Common.{◌+◌, ◌*◌}
use Rattle.msg_samples.proofs.readers.+is_value.Given as goal

abbrev pub decreases-is_value : goal.decreases-is_value
decreases-is_value l = 2 * l.depth

abbrev pub decreases-are_values : goal.decreases-are_values
decreases-are_values l = 2 * l.depth + 1

abbrev pub decreases-has_members : goal.decreases-has_members
decreases-has_members l = 2 * l.depth + 1
