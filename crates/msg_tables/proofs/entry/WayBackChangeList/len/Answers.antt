use Rattle.std.proofs.Common.{length, sym, ap, ◌∙◌}
use Rattle.msg_tables.proofs.WayLemmas.{length-undo}
use Rattle.msg_tables.proofs.entry.WayBackChangeList.len.Goals as goal

pub returns-clause-count : goal.returns-clause-count
returns-clause-count c = sym (length-undo c.self.inside.entries.now) ∙ ap length c.self.view_is
