use Rattle.msg_tables.proofs.RewriteLemmas.{journal-both}
use Rattle.msg_tables.proofs.tables.Tables.rewrite_both.Goals as goal

pub returns-clause-back : goal.returns-clause-back
returns-clause-back c one two is js = journal-both c.args.self.now c.rewrite-second.new.self c.rewrite-first.new.self c.args.first c.args.second one two c.rewrite-second.ensures.value c.rewrite-first.ensures.value c.rewrite-second.ensures.grown c.rewrite-first.ensures.grown is js
