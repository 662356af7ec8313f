use Rattle.std.proofs.Common.{map, sym, ◌∙◌}
use Rattle.msg_json.specs.View.{view}
use Rattle.msg_form.proofs.ReadLemmas.{attach_is}
use Rattle.msg_form.proofs.read.change.worded_change.Goals as goal

pub returns-then-eq : goal.returns-then-eq
returns-then-eq c = rw (attach_is c.args.word.now (map view c.args.values.now) (sym c.eq.ensures ∙ c.if-eq.true)) c.attach.ensures
