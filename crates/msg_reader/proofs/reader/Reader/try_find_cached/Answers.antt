use Rattle.std.proofs.Common.{[], length, ◌∙◌, inl, inr, arith}
use Rattle.msg_names.specs.Number.{selector_number}
use Rattle.msg_reader.specs.Kept.{MissesAfter, MissesUnlessChanged}
use Rattle.msg_reader.proofs.ReaderLemmas.{as_long, if_none, loads_more, missed_before, one_after}
use Rattle.msg_reader.proofs.reader.Reader.try_find_cached.Goals as goal

pub try_find_at-requires-clause-notes : goal.try_find_at-requires-clause-notes
try_find_at-requires-clause-notes c =
    c.notes_are_of_longer_histories.ensures c.refresh-count.new.self.sender.front c.args.self.now.sender.front c.args.notes.now c.refresh-count.ensures.begins c.requires.notes

pub returns-then-count-since-clause-notes : goal.returns-then-count-since-clause-notes
returns-then-count-since-clause-notes c =
    c.notes_are_of_longer_histories.ensures c.refresh-count.new.self.sender.front c.args.self.now.sender.front c.args.notes.now c.refresh-count.ensures.begins c.requires.notes

pub returns-then-count-since-clause-stamps : goal.returns-then-count-since-clause-stamps
returns-then-count-since-clause-stamps c = ([], c.refresh-count.ensures.stamps)

pub returns-then-count-since-clause-missed : goal.returns-then-count-since-clause-missed
returns-then-count-since-clause-missed c =
    let has = c.requires.loaded in
    inr (
      c.args.since,
      (has.0, c.refresh-count.ensures.stamps ∙ has.1),
      omega (arith, as_long c.refresh-count.new.self.sender.front c.args.self.now.sender.front c.refresh-count.ensures.begins, c.refresh-count.ensures.length, c.if-count-since.true),
    )

pub returns-clause-stamps : goal.returns-clause-stamps
returns-clause-stamps c =
    loads_more c.args.self.now.sender c.refresh-count.new.self.sender c.try_find_at.new.self.sender c.refresh-count.ensures.stamps c.try_find_at.ensures.stamps

pub returns-clause-missed : goal.returns-clause-missed
returns-clause-missed c =
    let a = c.args.arena.now in
    let sel = selector_number c.args.sel in
    let was = c.args.self.now.sender in
    let saw = c.refresh-count.new.self.sender in
    let is = c.try_find_at.new.self.sender in
    if_none (MissesAfter a c.args.class sel c.refresh-count.result is) (MissesUnlessChanged a c.args.class sel was is) c.try_find_at.result
    (missed_before a c.args.class sel (length was.front.changes) c.refresh-count.result is (omega (arith, as_long saw.front was.front c.refresh-count.ensures.begins, c.refresh-count.ensures.length))) c.try_find_at.ensures.missed

pub returns-then-count-since-clause-probed : goal.returns-then-count-since-clause-probed
returns-then-count-since-clause-probed c = inl c.refresh-count.ensures.no_probe

pub returns-clause-probed : goal.returns-clause-probed
returns-clause-probed c =
    one_after c.args.arena.now c.args.class (selector_number c.args.sel) c.args.self.now.sender c.refresh-count.new.self.sender c.try_find_at.new.self.sender c.refresh-count.ensures.no_probe (inr c.try_find_at.ensures.probed)
