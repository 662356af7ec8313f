use Rattle.std.proofs.Common.{rules, ◌≡◌, ◌≤◌, ◌∙◌, ap, sym, ℕ, List, [], ◌∷◌, inl, inr, length, arith}
use Rattle.msg_names.specs.Number.{selector_number, imp_number}
use Rattle.msg_names.specs.declared.value.ClassRef.{ClassRef}
use Rattle.msg_tables.specs.Origin.{last_imp}
use Rattle.msg_tables.specs.History.{BeginsWith, lookup}
use Rattle.msg_model.specs.Stamps.{last_affected}
use Rattle.msg_model.specs.State.{first}
use Rattle.msg_model.proofs.StampLemmas.{longer-stays, since as stays-since}
use Rattle.msg_cache.specs.Record.{Misses}
use Rattle.msg_cache.specs.Views.{layout}
use Rattle.msg_reader.specs.Kept.{MissesAfter}
use Rattle.msg_reader.proofs.ReaderLemmas.{anyway, as_long, has_loaded, one_probe, stamps_are, still_one}
use Rattle.msg_reader.proofs.reader.Reader.try_find_at.Goals as goal

pub returns-in_err-imp-clause-notes : goal.returns-in_err-imp-clause-notes
returns-in_err-imp-clause-notes c =
    let on : BeginsWith c.probe.new.self.sender.front c.args.self.now.sender.front = search rules in
    c.notes_are_of_longer_histories.ensures c.probe.new.self.sender.front c.args.self.now.sender.front c.args.notes.now on c.requires.notes

pub returns-in_err-imp-clause-stamps : goal.returns-in_err-imp-clause-stamps
returns-in_err-imp-clause-stamps c = ([], c.probe.ensures.probes.stamps)

pub returns-in_err-imp-clause-missed : goal.returns-in_err-imp-clause-missed
returns-in_err-imp-clause-missed c =
    let a = c.args.arena.now in
    let is = c.probe.new.self.sender in
    let missed : Misses (layout a) is.last = search rules in
    anyway (MissesAfter a c.args.class (selector_number c.args.sel) c.args.count is) c.from_residual.result
    (inl (c.probe.ensures.probes.class_is, c.probe.ensures.probes.sel_is, missed))

pub returns-then-count-after-clause-notes : goal.returns-then-count-after-clause-notes
returns-then-count-after-clause-notes c =
    let grows = c.notes_are_of_longer_histories.ensures in
    let saw = c.args.self.now.sender.front in
    let probed = c.probe.new.self.sender.front in
    let sees = c.stamp-after.new.self.sender.front in
    let on : BeginsWith probed saw = search rules in
    grows sees probed c.args.notes.now c.stamp-after.ensures.begins (grows probed saw c.args.notes.now on c.requires.notes)

pub returns-then-count-after-clause-stamps : goal.returns-then-count-after-clause-stamps
returns-then-count-after-clause-stamps c =
    let one : ClassRef × ℕ = (c.args.class, c.stamp-after.result) in
    (one ∷ [], stamps_are c.args.class c.stamp-after.result c.probe.new.self.sender c.stamp-after.new.self.sender c.stamp-after.ensures.loaded ∙ ap (λ (l : List (ClassRef × ℕ)). one ∷ l) c.probe.ensures.probes.stamps)

pub returns-then-count-after-clause-missed : goal.returns-then-count-after-clause-missed
returns-then-count-after-clause-missed c =
    inr (c.stamp-after.result, has_loaded c.args.class c.stamp-after.result c.probe.new.self.sender c.stamp-after.new.self.sender c.stamp-after.ensures.loaded, c.if-count-after.true)

pub returns-clause-stamps : goal.returns-clause-stamps
returns-clause-stamps c =
    let one : ClassRef × ℕ = (c.args.class, c.stamp-after.result) in
    (one ∷ [], stamps_are c.args.class c.stamp-after.result c.probe.new.self.sender c.stamp-after.new.self.sender c.stamp-after.ensures.loaded ∙ ap (λ (l : List (ClassRef × ℕ)). one ∷ l) c.probe.ensures.probes.stamps)

-- no change after so many affects the class reference, so what the probe found is found now
pub returns-clause-some : goal.returns-clause-some
returns-clause-some c =
    let saw = c.args.self.now.sender.front in
    let probed = c.probe.new.self.sender.front in
    let sees = c.stamp-after.new.self.sender.front in
    let ok = c.stamp-after.ensures.accepted in
    let on : BeginsWith probed saw = search rules in
    let few : last_affected sees c.args.class ≤ length probed.changes = omega (arith, as_long probed saw on, c.requires.count, c.if-count-after.false, c.stamp-after.ensures.since) in
    let found : imp_number c.in_ok-imp.imp ≡ lookup probed c.args.class (selector_number c.args.sel) = search rules in
    found ∙ sym (longer-stays sees probed c.args.class (selector_number c.args.sel) ok.origin ok.changes c.stamp-after.ensures.begins few)

-- and it was found after so many
pub returns-clause-counted : goal.returns-clause-counted
returns-clause-counted c =
    let saw = c.args.self.now.sender.front in
    let probed = c.probe.new.self.sender.front in
    let sees = c.stamp-after.new.self.sender.front in
    let ok = c.stamp-after.ensures.accepted in
    let onward = c.stamp-after.ensures.begins in
    let on : BeginsWith probed saw = search rules in
    let n : ℕ = c.args.count in
    let sel : ℕ = selector_number c.args.sel in
    let few : last_affected sees c.args.class ≤ length probed.changes = omega (arith, as_long probed saw on, c.requires.count, c.if-count-after.false, c.stamp-after.ensures.since) in
    let last : last_affected sees c.args.class ≤ n = omega (arith, c.if-count-after.false, c.stamp-after.ensures.since) in
    let within : n ≤ length sees.changes = omega (arith, as_long probed saw on, as_long sees probed onward, c.requires.count) in
    let found : imp_number c.in_ok-imp.imp ≡ lookup probed c.args.class sel = search rules in
    found ∙ sym (longer-stays sees probed c.args.class sel ok.origin ok.changes onward few) ∙ sym (stays-since sees c.args.class sel n ok.origin ok.changes last within)

-- so it is noted
pub returns-clause-notes : goal.returns-clause-notes
returns-clause-notes c =
    let grows = c.notes_are_of_longer_histories.ensures in
    let saw = c.args.self.now.sender.front in
    let probed = c.probe.new.self.sender.front in
    let sees = c.stamp-after.new.self.sender.front in
    let ok = c.stamp-after.ensures.accepted in
    let onward = c.stamp-after.ensures.begins in
    let on : BeginsWith probed saw = search rules in
    let n : ℕ = c.args.count in
    let sel : ℕ = selector_number c.args.sel in
    let few : last_affected sees c.args.class ≤ length probed.changes = omega (arith, as_long probed saw on, c.requires.count, c.if-count-after.false, c.stamp-after.ensures.since) in
    let last : last_affected sees c.args.class ≤ n = omega (arith, c.if-count-after.false, c.stamp-after.ensures.since) in
    let within : n ≤ length sees.changes = omega (arith, as_long probed saw on, as_long sees probed onward, c.requires.count) in
    let found : imp_number c.in_ok-imp.imp ≡ lookup probed c.args.class sel = search rules in
    let then : imp_number c.in_ok-imp.imp ≡ lookup (first n sees) c.args.class sel =
    found ∙ sym (longer-stays sees probed c.args.class sel ok.origin ok.changes onward few) ∙ sym (stays-since sees c.args.class sel n ok.origin ok.changes last within) in
    let listed : imp_number c.in_ok-imp.imp ≤ last_imp sees.origin.counts = search rules in
    c.keep.ensures.notes sees (grows sees probed c.args.notes.now onward (grows probed saw c.args.notes.now on c.requires.notes)) within then listed

pub returns-clause-noted : goal.returns-clause-noted
returns-clause-noted c = (
  c.stamp-after.result,
  has_loaded c.args.class c.stamp-after.result c.probe.new.self.sender c.stamp-after.new.self.sender c.stamp-after.ensures.loaded,
  λ short. c.keep.ensures.kept c.stamp-after.result (omega (arith, c.if-count-after.false)) short,
)

pub returns-in_err-imp-clause-probed : goal.returns-in_err-imp-clause-probed
returns-in_err-imp-clause-probed c = one_probe c.args.arena.now c.args.class c.args.sel c.args.self.now.sender c.probe.new.self.sender c.probe.ensures.probes

pub returns-then-count-after-clause-probed : goal.returns-then-count-after-clause-probed
returns-then-count-after-clause-probed c =
    still_one c.args.arena.now c.args.class c.args.class (selector_number c.args.sel) c.stamp-after.result c.args.self.now.sender c.probe.new.self.sender c.stamp-after.new.self.sender c.stamp-after.ensures.loaded
    (one_probe c.args.arena.now c.args.class c.args.sel c.args.self.now.sender c.probe.new.self.sender c.probe.ensures.probes)

pub returns-clause-probed : goal.returns-clause-probed
returns-clause-probed c =
    still_one c.args.arena.now c.args.class c.args.class (selector_number c.args.sel) c.stamp-after.result c.args.self.now.sender c.probe.new.self.sender c.stamp-after.new.self.sender c.stamp-after.ensures.loaded
    (one_probe c.args.arena.now c.args.class c.args.sel c.args.self.now.sender c.probe.new.self.sender c.probe.ensures.probes)
