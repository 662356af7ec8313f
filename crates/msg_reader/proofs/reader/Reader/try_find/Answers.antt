use Rattle.std.proofs.Common.{inl, length, sym}
use Rattle.msg_names.specs.Number.{selector_number, imp_number}
use Rattle.std.specs.Prelude.{option_map}
use Rattle.msg_reader.specs.Kept.{MissesUnlessChanged}
use Rattle.msg_reader.proofs.ReaderLemmas.{as_long, found_later, found_noted, has_loaded, if_none, missed_before, one_after, stamp_is_no_probe}
use Rattle.msg_reader.proofs.reader.Reader.try_find.Goals as goal

pub try_find_cached-requires-clause-notes : goal.try_find_cached-requires-clause-notes
try_find_cached-requires-clause-notes c =
    c.notes_are_of_longer_histories.ensures c.stamp-since.new.self.sender.front c.args.self.now.sender.front c.args.notes.now c.stamp-since.ensures.begins c.requires.notes

pub try_find_cached-requires-clause-loaded : goal.try_find_cached-requires-clause-loaded
try_find_cached-requires-clause-loaded c = has_loaded c.args.class c.stamp-since.result c.args.self.now.sender c.stamp-since.new.self.sender c.stamp-since.ensures.loaded

pub returns-in-Some-clause-some : goal.returns-in-Some-clause-some
returns-in-Some-clause-some c =
    let sees = c.stamp-since.new.self.sender.front in
    let are = c.notes_are_of_longer_histories.ensures sees c.args.self.now.sender.front c.args.notes.now c.stamp-since.ensures.begins c.requires.notes in
    (c.in-Some.ensures.found sees are c.stamp-since.ensures.accepted c.stamp-since.ensures.since).0

pub returns-in-Some-clause-listed : goal.returns-in-Some-clause-listed
returns-in-Some-clause-listed c =
    let sees = c.stamp-since.new.self.sender.front in
    let are = c.notes_are_of_longer_histories.ensures sees c.args.self.now.sender.front c.args.notes.now c.stamp-since.ensures.begins c.requires.notes in
    (c.in-Some.ensures.found sees are c.stamp-since.ensures.accepted c.stamp-since.ensures.since).1

pub returns-in-Some-clause-notes : goal.returns-in-Some-clause-notes
returns-in-Some-clause-notes c =
    c.notes_are_of_longer_histories.ensures c.stamp-since.new.self.sender.front c.args.self.now.sender.front c.args.notes.now c.stamp-since.ensures.begins c.requires.notes

pub returns-in-Some-clause-noted : goal.returns-in-Some-clause-noted
returns-in-Some-clause-noted c =
    (c.stamp-since.result, has_loaded c.args.class c.stamp-since.result c.args.self.now.sender c.stamp-since.new.self.sender c.stamp-since.ensures.loaded, λ short. sym c.in-Some.ensures.noted)

pub returns-in-Some-clause-private : goal.returns-in-Some-clause-private
returns-in-Some-clause-private c =
    found_noted c.args.notes.now c.args.class (selector_number c.args.sel) c.stamp-since.result (imp_number c.in-Some.imp) c.args.self.now.sender c.stamp-since.new.self.sender c.stamp-since.ensures.loaded c.in-Some.ensures.noted

pub returns-in-None-clause-private : goal.returns-in-None-clause-private
returns-in-None-clause-private c =
    found_later c.args.notes.now c.try_find_cached.new.notes c.args.class (selector_number c.args.sel) c.stamp-since.result c.args.self.now.sender c.stamp-since.new.self.sender c.try_find_cached.new.self.sender (option_map imp_number c.try_find_cached.result)
    c.stamp-since.ensures.loaded c.try_find_cached.ensures.stamps c.in-None.ensures.noted

pub returns-in-None-clause-missed : goal.returns-in-None-clause-missed
returns-in-None-clause-missed c =
    let a = c.args.arena.now in
    let sel = selector_number c.args.sel in
    let was = c.args.self.now.sender in
    let saw = c.stamp-since.new.self.sender in
    let is = c.try_find_cached.new.self.sender in
    if_none (MissesUnlessChanged a c.args.class sel saw is) (MissesUnlessChanged a c.args.class sel was is) c.try_find_cached.result (missed_before a c.args.class sel (length was.front.changes) (length saw.front.changes) is (as_long saw.front was.front c.stamp-since.ensures.begins)) c.try_find_cached.ensures.missed

pub returns-in-Some-clause-probed : goal.returns-in-Some-clause-probed
returns-in-Some-clause-probed c = inl (stamp_is_no_probe c.args.class c.stamp-since.result c.args.self.now.sender c.stamp-since.new.self.sender c.stamp-since.ensures.loaded)

pub returns-in-None-clause-probed : goal.returns-in-None-clause-probed
returns-in-None-clause-probed c =
    one_after c.args.arena.now c.args.class (selector_number c.args.sel) c.args.self.now.sender c.stamp-since.new.self.sender c.try_find_cached.new.self.sender
    (stamp_is_no_probe c.args.class c.stamp-since.result c.args.self.now.sender c.stamp-since.new.self.sender c.stamp-since.ensures.loaded) c.try_find_cached.ensures.probed
