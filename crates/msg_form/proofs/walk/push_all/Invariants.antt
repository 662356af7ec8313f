use Rattle.std.proofs.Common.{◌≡◌, ◌++◌, drop}
use Rattle.std.specs.List.{flat_map}
use Rattle.msg_form.specs.Text.{texts_view}
use Rattle.msg_form.proofs.walk.push_all.Given as goal

abbrev pub invariant-loop-part : goal.invariant-loop-part
invariant-loop-part g l =
    texts_view l.texts.items ++ flat_map g.T.HasSelectors.selectors (drop l.part-index l.parts) ≡ texts_view l.initial.texts.items ++ flat_map g.T.HasSelectors.selectors l.parts
