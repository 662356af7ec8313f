use Rattle.std.proofs.Common.{ap, refl, ◌∙◌}
use Rattle.std.specs.Prelude.{fold, filter, is_none, map}
use Rattle.msg_names.specs.Numbering.{with_name}
use Rattle.std.proofs.lemmas.Result.{on_ok_weaker}
use Rattle.msg_form.specs.Form.{ClassForm}
use Rattle.msg_form.specs.Views.{classes_view}
use Rattle.msg_form.proofs.ClassLemmas.{same_names}
use Rattle.msg_form.proofs.form_names.FormNames.add_classes.Goals as goal

pub returns : goal.returns
returns c =
    on_ok_weaker c.add_roots.result
    (λ roots. record {
      listed = c.in_ok-add_names.ensures.names ∙ ap (fold with_name c.args.self.now.listed) (same_names c.args.form.now c.deref.result.now c.deref.ensures.value);
      classes = c.in_ok-self.ensures.names;
      roots = roots ∙ ap (λ cs. fold with_name c.args.self.now.roots (map (λ (k : ClassForm). k.name) (filter (λ (k : ClassForm). is_none k.superclass) (classes_view cs)))) c.deref-2.ensures.value;
      class_twice = c.in_ok-self.ensures.twice;
      selectors = refl;
      objects = refl;
      imps = refl;
    })
    c.add_roots.ensures
