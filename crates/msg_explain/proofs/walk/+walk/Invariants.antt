use Rattle.std.proofs.Common.{map}
use Rattle.serde_json.specs.Data.{object}
use Rattle.msg_json.specs.View.{view, members_view}
use Rattle.msg_explain.specs.Walks.{KeysAreTold, PlacesAreTold}
use Rattle.msg_explain.proofs.WalkLemmas.{Walked}
use Rattle.msg_explain.proofs.walk.+walk.Given as goal

abbrev pub invariant-walk_members-loop-place : goal.invariant-walk_members-loop-place
invariant-walk_members-loop-place l =
    Walked l.walk l.fn.path.items l.path.items l.fn.told.items l.told.items (KeysAreTold l.walk l.path.items l.fn.wanted (object (members_view l.members)) l.place l.told.items)

abbrev pub invariant-walk_values-loop-place : goal.invariant-walk_values-loop-place
invariant-walk_values-loop-place l =
    Walked l.walk l.fn.path.items l.path.items l.fn.told.items l.told.items (PlacesAreTold l.walk l.fn.path.items l.fn.wanted (map view l.values) l.place l.told.items)
