use Rattle.std.proofs.Common.{◌≡◌, not, drop}
use Rattle.std.specs.List.{list_any}
use Rattle.msg_names.specs.Name.{is_selector_name}
use Rattle.msg_form.specs.Text.{texts_view}
use Rattle.msg_form.proofs.judge.selectors.has_bad_selector.Given as goal

abbrev pub invariant-loop-selector : goal.invariant-loop-selector
invariant-loop-selector l = list_any (λ t. not (is_selector_name t)) (texts_view (drop l.selector-index l.selector-items)) ≡ list_any (λ t. not (is_selector_name t)) (texts_view l.selector-items)
