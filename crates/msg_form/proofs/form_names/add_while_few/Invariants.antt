use Rattle.std.proofs.Common.{◌≡◌, drop}
use Rattle.std.specs.Prelude.{fold}
use Rattle.msg_names.specs.Numbering.{with_name}
use Rattle.msg_form.specs.Text.{texts_view}
use Rattle.msg_form.proofs.form_names.add_while_few.Given as goal

abbrev pub invariant-loop-text : goal.invariant-loop-text
invariant-loop-text l = fold with_name l.selectors (texts_view (drop l.text-index l.texts)) ≡ fold with_name l.initial.selectors (texts_view l.texts)
