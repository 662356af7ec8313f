use Rattle.std.proofs.Common.{not, ap, ◌∙◌}
use Rattle.msg_names.specs.Numbering.{with_name}
use Rattle.msg_form.specs.Text.{is_among, texts_view}
use Rattle.msg_form.proofs.NameSetLemmas.{among-texts_view, texts_view-insert_key}
use Rattle.msg_form.proofs.name_set.NameSet.insert.Goals as goal

pub returns-clause-added : goal.returns-clause-added
returns-clause-added c = c.in_ok-insert.ensures.added ∙ ap not (among-texts_view c.self.inside.names.keys c.args.name ∙ ap (is_among c.args.name.now) c.self.view_is)

pub returns-clause-names : goal.returns-clause-names
returns-clause-names c = ap texts_view c.in_ok-insert.ensures.keys ∙ texts_view-insert_key c.self.inside.names.keys c.args.name ∙ ap (λ ns. with_name ns c.args.name.now) c.self.view_is
