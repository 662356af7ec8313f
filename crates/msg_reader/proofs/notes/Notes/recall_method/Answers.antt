use Rattle.std.proofs.Common.{◌∙◌, ap, sym}
use Rattle.msg_reader.specs.Notes.{recalled}
use Rattle.msg_reader.proofs.NoteLemmas.{recalled_blank, recalled_none}
use Rattle.msg_reader.proofs.notes.Notes.recall_method.Goals as goal

pub returns-then-sel-eq0-clause-noted : goal.returns-then-sel-eq0-clause-noted
returns-then-sel-eq0-clause-noted c =
    sym (ap (recalled c.args.self.now c.args.since c.args.slot) c.if-sel-eq0.true ∙ recalled_none c.args.self.now c.args.since c.args.slot)

pub returns-clause-blank : goal.returns-clause-blank
returns-clause-blank c blank = c.recall_named.ensures.noted ∙ recalled_blank c.args.self.now c.args.since c.args.slot c.args.sel blank
