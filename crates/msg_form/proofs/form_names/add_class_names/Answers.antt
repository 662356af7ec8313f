use Rattle.msg_form.proofs.ClassLemmas.{class_names-added, repeated_names}
use Rattle.msg_form.proofs.form_names.add_class_names.Goals as goal

pub returns-clause-names : goal.returns-clause-names
returns-clause-names c =
    class_names-added c.args.form.now c.deref.result.now c.deref-2.result.now c.args.names.now c.add_names.new.names c.add_names-2.new.names c.deref.ensures.value c.deref-2.ensures.value c.in_ok-listed_twice.ensures.names c.in_ok-made_twice.ensures.names

pub returns-clause-twice : goal.returns-clause-twice
returns-clause-twice c =
    repeated_names c.args.form.now c.deref.result.now c.deref-2.result.now c.args.names.now c.add_names.new.names c.in_ok-listed_twice.listed_twice c.in_ok-made_twice.made_twice c.deref.ensures.value c.deref-2.ensures.value
    c.in_ok-listed_twice.ensures.twice c.in_ok-listed_twice.ensures.names c.in_ok-made_twice.ensures.twice
