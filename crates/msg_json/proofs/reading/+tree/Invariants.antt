use Rattle.std.proofs.Common.{◌≡◌, ℕ, ◌+◌, ◌*◌, ◌≤◌, ◌++◌, List, length}
use Rattle.json.specs.Json.{items, members, value, parse_map}
use Rattle.serde_json.specs.Read.{of_items, of_members, converted}
use Rattle.msg_json.specs.Reading.{items_first, members_first}
use Rattle.msg_json.specs.View.{members_view}
use Rattle.msg_json.specs.declared.tree.Tree.{Tree}
use Rattle.msg_json.proofs.ViewLemmas.{Entry, items_before}
use Rattle.msg_json.proofs.reading.+tree.Given as goal

abbrev pub decreases-tree : goal.decreases-tree
decreases-tree l = 2 * l.depth

abbrev pub decreases-values : goal.decreases-values
decreases-values l = 2 * l.depth + 1

abbrev pub decreases-members : goal.decreases-members
decreases-members l = 2 * l.depth + 1

-- The values of this list so far are the last on the stack.
abbrev pub invariant-values-items : goal.invariant-values-items
invariant-values-items l =
    (n : ℕ) × (found : List Tree) × (length l.reader ≤ n) × (l.stack.values.items ≡ l.fn.stack.values.items ++ found)
    × (items_first l.depth l.fn.reader ≡ parse_map (items_before found) (converted of_items (items (value l.depth) n l.reader)))
    × (length l.reader ≤ length l.fn.reader) × (l.stack.members.items ≡ l.fn.stack.members.items)

abbrev pub decreases-values-items : goal.decreases-values-items
decreases-values-items l = length l.reader

-- The members of this object so far are the last on the stack.
abbrev pub invariant-members-members : goal.invariant-members-members
invariant-members-members l =
    (n : ℕ) × (found : List Entry) × (length l.reader ≤ n) × (l.stack.members.items ≡ l.fn.stack.members.items ++ found)
    × (members_first l.depth l.fn.reader ≡ converted (λ ms. of_members ms (members_view found)) (members (value l.depth) n l.reader))
    × (length l.reader ≤ length l.fn.reader) × (l.stack.values.items ≡ l.fn.stack.values.items)

abbrev pub decreases-members-members : goal.decreases-members-members
decreases-members-members l = length l.reader
