use Rattle.msg_form.specs.Views.{form_view}
use Rattle.msg_form.proofs.CitedLemmas.{unknown-in_bodies, unknown-at_home, unknown-elsewhere}
use Rattle.msg_form.proofs.judge.names.has_unknown_class.Goals as goal

pub returns-then-bodies : goal.returns-then-bodies
returns-then-bodies c = unknown-in_bodies (form_view c.args.form.now) c.args.bodies.unknown_class c.requires.bodies.unknown_class c.if-bodies.true

pub returns-then-has_home_outside : goal.returns-then-has_home_outside
returns-then-has_home_outside c =
    let f = c.args.form.now in
    let names = c.args.names.now in
    unknown-at_home (form_view f) c.args.bodies.unknown_class c.requires.bodies.unknown_class names.listed c.has_home_outside.result c.requires.names.listed c.has_home_outside.ensures c.if-has_home_outside.true

pub returns : goal.returns
returns c =
    let f = c.args.form.now in
    let names = c.args.names.now in
    unknown-elsewhere (form_view f) c.args.bodies.unknown_class c.requires.bodies.unknown_class names.listed names.classes c.has_home_outside.result c.names_class_outside.result c.if-bodies.false
    c.requires.names.listed c.has_home_outside.ensures c.if-has_home_outside.false c.requires.names.classes c.names_class_outside.ensures
