use Rattle.std.proofs.Common.{◌≡◌, ◌<◌, ◌∙◌, ℕ, List, All, subst}
use Rattle.msg_cache.specs.Views.{classes}
use Rattle.msg_reader.specs.Several.{AreNotedOrAt, KeepOthersOfAll}
use Rattle.msg_reader.specs.declared.lookup.Lookup.{Lookup}
use Rattle.msg_host.specs.Lookups.{AreRowsFoundAt, lookups_in}
use Rattle.msg_host.specs.declared.lookups.LookupRow.{LookupRow}
use Rattle.msg_host.proofs.LookupLemmas.{asked-classes, found-rows}
use Rattle.msg_host.proofs.runtime.HostedRuntime.fill_all.Goals as goal

pub answer_all-requires-clause-asked : goal.answer_all-requires-clause-asked
answer_all-requires-clause-asked c =
    let list = c.in_ok-lookups.lookups in
    let many : list.classes ≡ classes c.args.self.now.arena = c.in_ok-lookups.ensures.rows.1 ∙ c.class_count.ensures.count in
    subst (λ (n : ℕ). All (λ (k : Lookup). k.class.class < n) (lookups_in list.classes list.rows.now)) many (asked-classes list.classes c.args.self.now.keeper.history list.rows.now list.asked)

pub returns-clause-found : goal.returns-clause-found
returns-clause-found c =
    let list = c.in_ok-lookups.lookups in
    let h = c.args.self.now.keeper.history in
    subst (λ (rows : List LookupRow). AreRowsFoundAt h rows c.answer_all.new.imps) c.in_ok-lookups.ensures.rows.0 (found-rows list.classes h list.rows.now c.answer_all.new.imps list.asked c.answer_all.ensures.found)

pub returns-clause-noted : goal.returns-clause-noted
returns-clause-noted c =
    let list = c.in_ok-lookups.lookups in
    let a = c.args.self.now.arena in
    let h = c.args.self.now.keeper.history in
    let v = c.args.sender.now.seen in
    let w = c.answer_all.new.sender.seen in
    let many : list.classes ≡ classes a = c.in_ok-lookups.ensures.rows.1 ∙ c.class_count.ensures.count in
    let of-arena = subst (λ (n : ℕ). AreNotedOrAt h c.answer_all.new.notes v w (lookups_in n list.rows.now) c.answer_all.new.imps) many c.answer_all.ensures.noted in
    subst (λ (rows : List LookupRow). AreNotedOrAt h c.answer_all.new.notes v w (lookups_in (classes a) rows) c.answer_all.new.imps) c.in_ok-lookups.ensures.rows.0 of-arena

pub returns-clause-others : goal.returns-clause-others
returns-clause-others c =
    let list = c.in_ok-lookups.lookups in
    let a = c.args.self.now.arena in
    let many : list.classes ≡ classes a = c.in_ok-lookups.ensures.rows.1 ∙ c.class_count.ensures.count in
    let of-arena = subst (λ (n : ℕ). KeepOthersOfAll c.args.notes.now c.answer_all.new.notes (lookups_in n list.rows.now)) many c.answer_all.ensures.others in
    subst (λ (rows : List LookupRow). KeepOthersOfAll c.args.notes.now c.answer_all.new.notes (lookups_in (classes a) rows)) c.in_ok-lookups.ensures.rows.0 of-arena
