use Rattle.std.proofs.Common.{sym}
use Rattle.msg_names.proofs.SetLemmas.{names-interned}
use Rattle.msg_names.proofs.names.Names.intern.Goals as goal

pub invariant_of-self : goal.invariant_of-self
invariant_of-self c =
    names-interned c.intern_in.result c.self.inside.set.keys c.intern_in.new.set.keys c.args.text.now c.intern_in.ensures.names c.intern_in.ensures.err c.intern_in.ensures.few (sym c.if-not-is_selector_name.ensures) c.self.invariant
