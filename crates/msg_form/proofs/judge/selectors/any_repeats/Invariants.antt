use Rattle.std.proofs.Common.{◌≡◌, map, drop}
use Rattle.std.specs.List.{list_any}
use Rattle.msg_form.specs.Text.{has_duplicate}
use Rattle.msg_form.proofs.judge.selectors.any_repeats.Given as goal

abbrev pub invariant-loop-list : goal.invariant-loop-list
invariant-loop-list l =
    list_any (λ ps. has_duplicate (map (λ p. p.selector.now) ps.now)) (drop l.list-index l.lists) ≡ list_any (λ ps. has_duplicate (map (λ p. p.selector.now) ps.now)) l.lists
