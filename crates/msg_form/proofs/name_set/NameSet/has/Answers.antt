use Rattle.std.proofs.Common.{ap, ◌∙◌}
use Rattle.msg_form.specs.Text.{is_among}
use Rattle.msg_form.proofs.NameSetLemmas.{among-texts_view}
use Rattle.msg_form.proofs.name_set.NameSet.has.Goals as goal

pub returns : goal.returns
returns c = c.contains.ensures ∙ among-texts_view c.self.inside.names.keys c.args.name ∙ ap (is_among c.args.name.now) c.self.view_is
