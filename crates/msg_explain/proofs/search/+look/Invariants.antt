use Rattle.std.proofs.Common.{map}
use Rattle.serde_json.specs.Data.{object}
use Rattle.msg_json.specs.View.{view, members_view}
use Rattle.msg_explain.specs.Places.{KeysFit, PlacesFit}
use Rattle.msg_explain.proofs.PlaceLemmas.{Searched}
use Rattle.msg_explain.proofs.search.+look.Given as goal

abbrev pub invariant-look_at_keys-loop-place : goal.invariant-look_at_keys-loop-place
invariant-look_at_keys-loop-place l =
    Searched l.whole.wanted (view l.whole.document) l.fn.path.items l.path.items l.fn.told.items l.told.items (KeysFit l.fn.wanted (object (members_view l.members)) l.place)

abbrev pub invariant-look_at_places-loop-place : goal.invariant-look_at_places-loop-place
invariant-look_at_places-loop-place l =
    Searched l.whole.wanted (view l.whole.document) l.fn.path.items l.path.items l.fn.told.items l.told.items (PlacesFit l.fn.wanted (map view l.values) l.place)
