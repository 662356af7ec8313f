use Rattle.std.proofs.Common.{◌≡◌, ◌++◌, drop}
use Rattle.std.specs.List.{flat_map}
use Rattle.msg_form.specs.Views.{lists_view}
use Rattle.msg_form.proofs.judge.lists.push_all.Given as goal

abbrev pub invariant-loop-part : goal.invariant-loop-part
invariant-loop-part g l =
    lists_view l.all.items ++ flat_map g.T.HasLists.lists (drop l.part-index l.parts) ≡ lists_view l.initial.all.items ++ flat_map g.T.HasLists.lists l.parts
