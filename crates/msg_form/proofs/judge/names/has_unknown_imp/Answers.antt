use Rattle.std.proofs.Common.{ap, ◌∙◌}
use Rattle.std.specs.List.{list_any}
use Rattle.msg_form.specs.Faults.{has_unknown_imp}
use Rattle.msg_form.specs.Lists.{imp_names, imps_named}
use Rattle.msg_form.specs.Text.{is_unknown}
use Rattle.msg_form.specs.Views.{form_view}
use Rattle.msg_form.proofs.BodyLemmas.{is_unknown-distinct}
use Rattle.msg_form.proofs.judge.names.has_unknown_imp.Goals as goal

pub returns : goal.returns
unfolding has_unknown_imp
returns c =
    let f = form_view c.args.form.now in
    let outside = rw (c.deref.ensures.value, c.deref-2.ensures.value, c.in_ok-lists.ensures) at c.names_imp_outside.ensures in
    outside ∙ ap (λ p. list_any p (imps_named f)) (ap is_unknown c.requires.imps ∙ is_unknown-distinct (imp_names f))
