use Rattle.std.proofs.Common.{◌≡◌, map, filter, drop}
use Rattle.std.specs.Prelude.{fold, is_none}
use Rattle.msg_names.specs.Numbering.{with_name}
use Rattle.msg_form.specs.Views.{class_view}
use Rattle.msg_form.proofs.form_names.add_roots.Given as goal

abbrev pub invariant-loop-class : goal.invariant-loop-class
invariant-loop-class l =
    fold with_name l.roots (map (λ c. c.name) (filter (λ c. is_none c.superclass) (map class_view (drop l.class-index l.classes)))) ≡ fold with_name l.initial.roots (map (λ c. c.name) (filter (λ c. is_none c.superclass) (map class_view l.classes)))
