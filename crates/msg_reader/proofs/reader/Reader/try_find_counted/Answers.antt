use Rattle.std.proofs.Common.{◌≡◌, ◌≤◌, ◌∙◌, ℕ, sym, inl, inr, length, arith}
use Rattle.msg_names.specs.Number.{selector_number, imp_number}
use Rattle.msg_tables.specs.History.{lookup}
use Rattle.msg_model.specs.Stamps.{last_affected}
use Rattle.msg_model.specs.State.{first}
use Rattle.msg_model.proofs.StampLemmas.{since as stays-since}
use Rattle.msg_reader.specs.Kept.{MissesAfter, MissesUnlessChanged}
use Rattle.msg_reader.proofs.ReaderLemmas.{as_long, found_unprobed, has_loaded, if_none, missed_before, no_probe_yet, one_after, stamp_is_no_probe}
use Rattle.msg_reader.proofs.reader.Reader.try_find_counted.Goals as goal

pub try_find_at-requires-clause-notes : goal.try_find_at-requires-clause-notes
try_find_at-requires-clause-notes c =
    let grows = c.notes_are_of_longer_histories.ensures in
    let saw = c.args.self.now.sender.front in
    let counted = c.refresh-count.new.self.sender.front in
    grows c.stamp-since.new.self.sender.front counted c.args.notes.now c.stamp-since.ensures.begins (grows counted saw c.args.notes.now c.refresh-count.ensures.begins c.requires.notes)

pub returns-then-since-count-clause-some : goal.returns-then-since-count-clause-some
returns-then-since-count-clause-some c =
    let grows = c.notes_are_of_longer_histories.ensures in
    let counted = c.refresh-count.new.self.sender.front in
    let sees = c.stamp-since.new.self.sender.front in
    let are = grows sees counted c.args.notes.now c.stamp-since.ensures.begins (grows counted c.args.self.now.sender.front c.args.notes.now c.refresh-count.ensures.begins c.requires.notes) in
    (c.in-Some.ensures.found sees are c.stamp-since.ensures.accepted c.stamp-since.ensures.since).0

pub returns-then-since-count-clause-listed : goal.returns-then-since-count-clause-listed
returns-then-since-count-clause-listed c =
    let grows = c.notes_are_of_longer_histories.ensures in
    let counted = c.refresh-count.new.self.sender.front in
    let sees = c.stamp-since.new.self.sender.front in
    let are = grows sees counted c.args.notes.now c.stamp-since.ensures.begins (grows counted c.args.self.now.sender.front c.args.notes.now c.refresh-count.ensures.begins c.requires.notes) in
    (c.in-Some.ensures.found sees are c.stamp-since.ensures.accepted c.stamp-since.ensures.since).1

-- no change after so many affects the class reference, so it was found after so many
pub returns-then-since-count-clause-notes : goal.returns-then-since-count-clause-notes
returns-then-since-count-clause-notes c =
    let grows = c.notes_are_of_longer_histories.ensures in
    let counted = c.refresh-count.new.self.sender.front in
    let sees = c.stamp-since.new.self.sender.front in
    let ok = c.stamp-since.ensures.accepted in
    let are = grows sees counted c.args.notes.now c.stamp-since.ensures.begins (grows counted c.args.self.now.sender.front c.args.notes.now c.refresh-count.ensures.begins c.requires.notes) in
    let told = c.in-Some.ensures.found sees are ok c.stamp-since.ensures.since in
    let n : ℕ = c.refresh-count.result in
    let sel : ℕ = selector_number c.args.sel in
    let last : last_affected sees c.args.class ≤ n = omega (arith, c.if-since-count.true, c.stamp-since.ensures.since) in
    let within : n ≤ length sees.changes = omega (arith, as_long sees counted c.stamp-since.ensures.begins, c.refresh-count.ensures.length) in
    let then : imp_number c.in-Some.imp ≡ lookup (first n sees) c.args.class sel = told.0 ∙ sym (stays-since sees c.args.class sel n ok.origin ok.changes last within) in
    c.keep.ensures.notes sees are within then told.1

pub returns-then-since-count-clause-noted : goal.returns-then-since-count-clause-noted
returns-then-since-count-clause-noted c = (
  c.stamp-since.result,
  has_loaded c.args.class c.stamp-since.result c.refresh-count.new.self.sender c.stamp-since.new.self.sender c.stamp-since.ensures.loaded,
  λ short. c.keep.ensures.kept c.stamp-since.result c.if-since-count.true short,
)

pub returns-then-since-count-clause-unprobed : goal.returns-then-since-count-clause-unprobed
returns-then-since-count-clause-unprobed c =
    found_unprobed c.args.notes.now c.args.class (selector_number c.args.sel) c.stamp-since.result (imp_number c.in-Some.imp) c.args.self.now.sender c.refresh-count.new.self.sender c.stamp-since.new.self.sender
    c.refresh-count.ensures.stamps c.refresh-count.ensures.no_probe c.stamp-since.ensures.loaded c.in-Some.ensures.noted

pub returns-else-since-count-clause-some : goal.returns-else-since-count-clause-some
returns-else-since-count-clause-some c =
    let grows = c.notes_are_of_longer_histories.ensures in
    let counted = c.refresh-count.new.self.sender.front in
    let sees = c.stamp-since.new.self.sender.front in
    let are = grows sees counted c.args.notes.now c.stamp-since.ensures.begins (grows counted c.args.self.now.sender.front c.args.notes.now c.refresh-count.ensures.begins c.requires.notes) in
    (c.in-Some.ensures.found sees are c.stamp-since.ensures.accepted c.stamp-since.ensures.since).0

pub returns-else-since-count-clause-listed : goal.returns-else-since-count-clause-listed
returns-else-since-count-clause-listed c =
    let grows = c.notes_are_of_longer_histories.ensures in
    let counted = c.refresh-count.new.self.sender.front in
    let sees = c.stamp-since.new.self.sender.front in
    let are = grows sees counted c.args.notes.now c.stamp-since.ensures.begins (grows counted c.args.self.now.sender.front c.args.notes.now c.refresh-count.ensures.begins c.requires.notes) in
    (c.in-Some.ensures.found sees are c.stamp-since.ensures.accepted c.stamp-since.ensures.since).1

pub returns-else-since-count-clause-notes : goal.returns-else-since-count-clause-notes
returns-else-since-count-clause-notes c =
    let grows = c.notes_are_of_longer_histories.ensures in
    let saw = c.args.self.now.sender.front in
    let counted = c.refresh-count.new.self.sender.front in
    grows c.stamp-since.new.self.sender.front counted c.args.notes.now c.stamp-since.ensures.begins (grows counted saw c.args.notes.now c.refresh-count.ensures.begins c.requires.notes)

pub returns-else-since-count-clause-noted : goal.returns-else-since-count-clause-noted
returns-else-since-count-clause-noted c =
    (c.stamp-since.result, has_loaded c.args.class c.stamp-since.result c.refresh-count.new.self.sender c.stamp-since.new.self.sender c.stamp-since.ensures.loaded, λ short. sym c.in-Some.ensures.noted)

pub returns-else-since-count-clause-unprobed : goal.returns-else-since-count-clause-unprobed
returns-else-since-count-clause-unprobed c =
    found_unprobed c.args.notes.now c.args.class (selector_number c.args.sel) c.stamp-since.result (imp_number c.in-Some.imp) c.args.self.now.sender c.refresh-count.new.self.sender c.stamp-since.new.self.sender
    c.refresh-count.ensures.stamps c.refresh-count.ensures.no_probe c.stamp-since.ensures.loaded c.in-Some.ensures.noted

pub returns-in-None-clause-notes : goal.returns-in-None-clause-notes
returns-in-None-clause-notes c =
    let grows = c.notes_are_of_longer_histories.ensures in
    let saw = c.args.self.now.sender.front in
    let counted = c.refresh-count.new.self.sender.front in
    grows c.stamp-since.new.self.sender.front counted c.args.notes.now c.stamp-since.ensures.begins (grows counted saw c.args.notes.now c.refresh-count.ensures.begins c.requires.notes)

pub returns-in-None-clause-missed : goal.returns-in-None-clause-missed
returns-in-None-clause-missed c =
    inr (
      c.stamp-since.result,
      has_loaded c.args.class c.stamp-since.result c.refresh-count.new.self.sender c.stamp-since.new.self.sender c.stamp-since.ensures.loaded,
      omega (arith, as_long c.refresh-count.new.self.sender.front c.args.self.now.sender.front c.refresh-count.ensures.begins, c.refresh-count.ensures.length, c.if-count-since.true),
    )

pub returns-then-since-count-clause-probed : goal.returns-then-since-count-clause-probed
returns-then-since-count-clause-probed c = inl (no_probe_yet c.args.self.now.sender c.refresh-count.new.self.sender c.stamp-since.new.self.sender c.refresh-count.ensures.no_probe
    (stamp_is_no_probe c.args.class c.stamp-since.result c.refresh-count.new.self.sender c.stamp-since.new.self.sender c.stamp-since.ensures.loaded))

pub returns-else-since-count-clause-probed : goal.returns-else-since-count-clause-probed
returns-else-since-count-clause-probed c = inl (no_probe_yet c.args.self.now.sender c.refresh-count.new.self.sender c.stamp-since.new.self.sender c.refresh-count.ensures.no_probe
    (stamp_is_no_probe c.args.class c.stamp-since.result c.refresh-count.new.self.sender c.stamp-since.new.self.sender c.stamp-since.ensures.loaded))

pub returns-in-None-clause-probed : goal.returns-in-None-clause-probed
returns-in-None-clause-probed c = inl (no_probe_yet c.args.self.now.sender c.refresh-count.new.self.sender c.stamp-since.new.self.sender c.refresh-count.ensures.no_probe
    (stamp_is_no_probe c.args.class c.stamp-since.result c.refresh-count.new.self.sender c.stamp-since.new.self.sender c.stamp-since.ensures.loaded))

pub returns-in-None-2-clause-probed : goal.returns-in-None-2-clause-probed
returns-in-None-2-clause-probed c =
    one_after c.args.arena.now c.args.class (selector_number c.args.sel) c.args.self.now.sender c.stamp-since.new.self.sender c.try_find_at.new.self.sender (no_probe_yet c.args.self.now.sender c.refresh-count.new.self.sender c.stamp-since.new.self.sender c.refresh-count.ensures.no_probe
    (stamp_is_no_probe c.args.class c.stamp-since.result c.refresh-count.new.self.sender c.stamp-since.new.self.sender c.stamp-since.ensures.loaded)) (inr c.try_find_at.ensures.probed)

pub returns-in-None-2-clause-missed : goal.returns-in-None-2-clause-missed
returns-in-None-2-clause-missed c =
    let a = c.args.arena.now in
    let sel = selector_number c.args.sel in
    let was = c.args.self.now.sender in
    let saw = c.refresh-count.new.self.sender in
    let is = c.try_find_at.new.self.sender in
    if_none (MissesAfter a c.args.class sel c.refresh-count.result is) (MissesUnlessChanged a c.args.class sel was is) c.try_find_at.result
    (missed_before a c.args.class sel (length was.front.changes) c.refresh-count.result is (omega (arith, as_long saw.front was.front c.refresh-count.ensures.begins, c.refresh-count.ensures.length))) c.try_find_at.ensures.missed
