use Rattle.std.proofs.Common.{sym, ◌∙◌}
use Rattle.msg_runtime.proofs.AloneLemmas.{flushed_told}
use Rattle.msg_runtime.proofs.flushing_all.flush_changed.Goals as goal

pub returns-else-flushes_all-clause-flushed : goal.returns-else-flushes_all-clause-flushed
returns-else-flushes_all-clause-flushed g c = λ h stands d inside flushed.
    c.flush_written.ensures.flushed h stands d (flushed_told c.args.tables.now.counts (g.L.ChangeList.changes c.args.changes.now) h c.args.entries.now d (sym c.flushes_all.ensures ∙ c.if-flushes_all.false) flushed)
