use Rattle.std.proofs.Common.{◌≡◌, ◌++◌, drop}
use Rattle.msg_form.specs.Text.{texts_view}
use Rattle.msg_form.specs.Views.{pairs_view}
use Rattle.msg_form.specs.Walk.{list_texts}
use Rattle.msg_form.proofs.walk.push_list.Given as goal

abbrev pub invariant-loop-pair : goal.invariant-loop-pair
invariant-loop-pair l =
    texts_view l.texts.items ++ list_texts (pairs_view (drop l.pair-index l.pairs)) ≡ texts_view l.initial.texts.items ++ list_texts (pairs_view l.pairs)
