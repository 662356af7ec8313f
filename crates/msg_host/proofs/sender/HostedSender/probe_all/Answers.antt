use Rattle.std.proofs.Common.{◌≡◌, ◌<◌, ◌∙◌, ℕ, List, All, true, false, ap, length, subst}
use Rattle.msg_cache.specs.Views.{classes}
use Rattle.msg_reader.specs.Cost.{ProbesAtMost}
use Rattle.msg_reader.specs.Several.{AreNoted, KeepOthersOfAll, LackOne, MissOne}
use Rattle.msg_reader.specs.declared.lookup.Lookup.{Lookup}
use Rattle.msg_host.specs.Lookups.{AreRowsFoundAt, lookups_in}
use Rattle.msg_host.specs.declared.lookups.LookupRow.{LookupRow}
use Rattle.msg_host.proofs.LookupLemmas.{as_many, asked-classes, found-rows}
use Rattle.msg_host.proofs.sender.HostedSender.probe_all.Goals as goal

pub try_find_all-requires-clause-asked : goal.try_find_all-requires-clause-asked
try_find_all-requires-clause-asked c =
    let list = c.in_ok-lookups.lookups in
    let many : list.classes ≡ classes c.args.self.now.arena = c.in_ok-lookups.ensures.rows.1 ∙ c.class_count.ensures in
    subst (λ (n : ℕ). All (λ (k : Lookup). k.class.class < n) (lookups_in list.classes list.rows.now)) many (asked-classes list.classes c.args.self.now.seen.front list.rows.now list.asked)

pub returns-clause-found : goal.returns-clause-found
returns-clause-found c = λ is.
    let list = c.in_ok-lookups.lookups in
    let yes : c.try_find_all.result ≡ true = cc in
    let t = c.try_find_all.ensures.found yes in
    (t.0, t.1, t.2, subst (λ (rows : List LookupRow). AreRowsFoundAt t.0 rows c.try_find_all.new.imps) c.in_ok-lookups.ensures.rows.0 (found-rows list.classes t.0 list.rows.now c.try_find_all.new.imps list.asked t.3))

pub returns-clause-recalled : goal.returns-clause-recalled
returns-clause-recalled c = λ is.
    let list = c.in_ok-lookups.lookups in
    let no : c.try_find_all.result ≡ false = cc in
    let many : list.classes ≡ classes c.args.self.now.arena = c.in_ok-lookups.ensures.rows.1 ∙ c.class_count.ensures in
    let of-arena = subst (λ (n : ℕ). LackOne c.args.notes.now (lookups_in n list.rows.now) c.args.self.now.seen c.try_find_all.new.self.seen) many (c.try_find_all.ensures.recalled no) in
    subst (λ (rows : List LookupRow). LackOne c.args.notes.now (lookups_in (classes c.args.self.now.arena) rows) c.args.self.now.seen c.try_find_all.new.self.seen) c.in_ok-lookups.ensures.rows.0 of-arena

pub returns-clause-missed : goal.returns-clause-missed
returns-clause-missed c = λ is.
    let list = c.in_ok-lookups.lookups in
    let a = c.args.self.now.arena in
    let no : c.try_find_all.result ≡ false = cc in
    let many : list.classes ≡ classes a = c.in_ok-lookups.ensures.rows.1 ∙ c.class_count.ensures in
    let of-arena = subst (λ (n : ℕ). MissOne a (lookups_in n list.rows.now) c.args.self.now.seen c.try_find_all.new.self.seen) many (c.try_find_all.ensures.missed no) in
    subst (λ (rows : List LookupRow). MissOne a (lookups_in (classes a) rows) c.args.self.now.seen c.try_find_all.new.self.seen) c.in_ok-lookups.ensures.rows.0 of-arena

pub returns-clause-noted : goal.returns-clause-noted
returns-clause-noted c = λ is.
    let list = c.in_ok-lookups.lookups in
    let a = c.args.self.now.arena in
    let yes : c.try_find_all.result ≡ true = cc in
    let many : list.classes ≡ classes a = c.in_ok-lookups.ensures.rows.1 ∙ c.class_count.ensures in
    let of-arena = subst (λ (n : ℕ). AreNoted c.try_find_all.new.notes c.args.self.now.seen c.try_find_all.new.self.seen (lookups_in n list.rows.now) c.try_find_all.new.imps) many (c.try_find_all.ensures.noted yes) in
    subst (λ (rows : List LookupRow). AreNoted c.try_find_all.new.notes c.args.self.now.seen c.try_find_all.new.self.seen (lookups_in (classes a) rows) c.try_find_all.new.imps) c.in_ok-lookups.ensures.rows.0 of-arena

pub returns-clause-others : goal.returns-clause-others
returns-clause-others c =
    let list = c.in_ok-lookups.lookups in
    let a = c.args.self.now.arena in
    let many : list.classes ≡ classes a = c.in_ok-lookups.ensures.rows.1 ∙ c.class_count.ensures in
    let of-arena = subst (λ (n : ℕ). KeepOthersOfAll c.args.notes.now c.try_find_all.new.notes (lookups_in n list.rows.now)) many c.try_find_all.ensures.others in
    subst (λ (rows : List LookupRow). KeepOthersOfAll c.args.notes.now c.try_find_all.new.notes (lookups_in (classes a) rows)) c.in_ok-lookups.ensures.rows.0 of-arena

pub returns-clause-probed : goal.returns-clause-probed
returns-clause-probed c =
    let list = c.in_ok-lookups.lookups in
    let many = as_many list.classes list.rows.now ∙ ap (λ (rows : List LookupRow). length rows) c.in_ok-lookups.ensures.rows.0 in
    subst (λ (n : ℕ). ProbesAtMost n c.args.self.now.seen c.try_find_all.new.self.seen) many c.try_find_all.ensures.probed
