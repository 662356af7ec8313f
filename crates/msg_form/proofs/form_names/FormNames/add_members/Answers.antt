use Rattle.std.proofs.Common.{ap, refl, ◌∙◌}
use Rattle.std.specs.Prelude.{fold}
use Rattle.msg_names.specs.Numbering.{with_name}
use Rattle.msg_form.specs.Text.{repeats}
use Rattle.msg_form.proofs.FormNamesLemmas.{object_names_shown, imp_names_shown}
use Rattle.msg_form.proofs.form_names.FormNames.add_members.Goals as goal

pub returns : goal.returns
returns c =
    let objects = object_names_shown c.args.form.now c.deref.result.now c.deref.ensures.value in
    let imps = imp_names_shown c.args.form.now c.deref-2.result.now c.deref-2.ensures.value in
    record {
      objects = c.in_ok-self.ensures.names ∙ ap (fold with_name c.args.self.now.objects) objects;
      imps = c.in_ok-self-2.ensures.names ∙ ap (fold with_name c.args.self.now.imps) imps;
      object_twice = c.in_ok-self.ensures.twice ∙ ap (repeats c.args.self.now.objects) objects;
      imp_twice = c.in_ok-self-2.ensures.twice ∙ ap (repeats c.args.self.now.imps) imps;
      selectors = refl;
      listed = refl;
      classes = refl;
      roots = refl;
      class_twice = refl;
    }
