use Rattle.std.proofs.Common.{ap, ◌∙◌}
use Rattle.msg_tables.specs.declared.take_back.Start.{Start}
use Rattle.msg_reasons.proofs.MovingLemmas.{finds_on}
use Rattle.msg_reasons.proofs.moving.MovingFinder.find.Goals as goal

pub returns-clause-lawful : goal.returns-clause-lawful
returns-clause-lawful c = λ p here.
    finds_on c.args.self.now c.follow.new.self c.note.new.self c.args.class c.args.sel c.search-lookup.result c.start-changes.result.changes p here
    c.follow.ensures.moved c.note.ensures.noted c.search-lookup.ensures.found c.search-lookup.ensures.class c.search-lookup.ensures.sel (ap (λ (s : Start). s.changes) c.start-changes.ensures.start)
