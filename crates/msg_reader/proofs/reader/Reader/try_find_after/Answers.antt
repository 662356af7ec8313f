use Rattle.std.proofs.Common.{◌≤◌, ◌++◌, ◌∷◌, ◌∙◌, ℕ, List, [], length, refl, sym, ap, inl, inr, arith, append_assoc}
use Rattle.msg_names.specs.Number.{imp_number, selector_number}
use Rattle.msg_names.specs.declared.value.ClassRef.{ClassRef}
use Rattle.msg_model.specs.Stamps.{last_affected}
use Rattle.msg_model.proofs.StampLemmas.{since as stays-since}
use Rattle.msg_cache.specs.declared.view.SenderView.{SenderView}
use Rattle.msg_reader.specs.Notes.{IsKeptAt}
use Rattle.msg_reader.specs.Several.{IsNotedAmong, LoadsAmong}
use Rattle.msg_reader.proofs.ReaderLemmas.{as_long, has_loaded, if_some, stamps_are}
use Rattle.msg_reader.proofs.reader.Reader.try_find_after.Goals as goal

pub try_find_at-requires-clause-notes : goal.try_find_at-requires-clause-notes
try_find_at-requires-clause-notes c =
    c.notes_are_of_longer_histories.ensures c.stamp-since.new.self.sender.front c.args.self.now.sender.front c.args.notes.now c.stamp-since.ensures.begins c.requires.notes

pub try_find_at-requires-clause-count : goal.try_find_at-requires-clause-count
try_find_at-requires-clause-count c = omega (arith, as_long c.stamp-since.new.self.sender.front c.args.self.now.sender.front c.stamp-since.ensures.begins, c.requires.count)

pub returns-then-count-since-clause-notes : goal.returns-then-count-since-clause-notes
returns-then-count-since-clause-notes c =
    c.notes_are_of_longer_histories.ensures c.stamp-since.new.self.sender.front c.args.self.now.sender.front c.args.notes.now c.stamp-since.ensures.begins c.requires.notes

pub returns-then-count-since-clause-stamps : goal.returns-then-count-since-clause-stamps
returns-then-count-since-clause-stamps c =
    let one : ClassRef × ℕ = (c.args.lookup.class, c.stamp-since.result) in
    (one ∷ [], stamps_are c.args.lookup.class c.stamp-since.result c.args.self.now.sender c.stamp-since.new.self.sender c.stamp-since.ensures.loaded)

pub returns-then-count-since-clause-recalled : goal.returns-then-count-since-clause-recalled
returns-then-count-since-clause-recalled c =
    inr (c.stamp-since.result, ([], [], stamps_are c.args.lookup.class c.stamp-since.result c.args.self.now.sender c.stamp-since.new.self.sender c.stamp-since.ensures.loaded), inl c.if-count-since.true)

pub returns-then-count-since-clause-missed : goal.returns-then-count-since-clause-missed
returns-then-count-since-clause-missed c =
    inr (c.stamp-since.result, has_loaded c.args.lookup.class c.stamp-since.result c.args.self.now.sender c.stamp-since.new.self.sender c.stamp-since.ensures.loaded, c.if-count-since.true)

-- no change after so many affects the class reference, so what is noted was found after so many
pub returns-in-Some-clause-counted : goal.returns-in-Some-clause-counted
returns-in-Some-clause-counted c =
    let sees = c.stamp-since.new.self.sender.front in
    let saw = c.args.self.now.sender.front in
    let ok = c.stamp-since.ensures.accepted in
    let n : ℕ = c.args.count in
    let are = c.notes_are_of_longer_histories.ensures sees saw c.args.notes.now c.stamp-since.ensures.begins c.requires.notes in
    let told = c.in-Some.ensures.found sees are ok c.stamp-since.ensures.since in
    let last : last_affected sees c.args.lookup.class ≤ n = omega (arith, c.if-count-since.false, c.stamp-since.ensures.since) in
    let within : n ≤ length sees.changes = omega (arith, as_long sees saw c.stamp-since.ensures.begins, c.requires.count) in
    told.0 ∙ sym (stays-since sees c.args.lookup.class (selector_number c.args.lookup.sel) n ok.origin ok.changes last within)

pub returns-in-Some-clause-notes : goal.returns-in-Some-clause-notes
returns-in-Some-clause-notes c =
    c.notes_are_of_longer_histories.ensures c.stamp-since.new.self.sender.front c.args.self.now.sender.front c.args.notes.now c.stamp-since.ensures.begins c.requires.notes

pub returns-in-Some-clause-stamps : goal.returns-in-Some-clause-stamps
returns-in-Some-clause-stamps c =
    let one : ClassRef × ℕ = (c.args.lookup.class, c.stamp-since.result) in
    (one ∷ [], stamps_are c.args.lookup.class c.stamp-since.result c.args.self.now.sender c.stamp-since.new.self.sender c.stamp-since.ensures.loaded)

pub returns-in-Some-clause-recalled : goal.returns-in-Some-clause-recalled
returns-in-Some-clause-recalled c = inl (refl, refl)

pub returns-in-None-clause-stamps : goal.returns-in-None-clause-stamps
returns-in-None-clause-stamps c =
    let one : ClassRef × ℕ = (c.args.lookup.class, c.stamp-since.result) in
    let (more, is) = c.try_find_at.ensures.stamps in
    let stamped = stamps_are c.args.lookup.class c.stamp-since.result c.args.self.now.sender c.stamp-since.new.self.sender c.stamp-since.ensures.loaded in
    let with-one : List (ClassRef × ℕ) = more ++ one ∷ [] in
    (with-one, is ∙ ap (λ (l : List (ClassRef × ℕ)). more ++ l) stamped ∙ sym (append_assoc more (one ∷ []) c.args.self.now.sender.stamps))

pub returns-in-None-clause-recalled : goal.returns-in-None-clause-recalled
returns-in-None-clause-recalled c =
    let (more, is) = c.try_find_at.ensures.stamps in
    let stamped = stamps_are c.args.lookup.class c.stamp-since.result c.args.self.now.sender c.stamp-since.new.self.sender c.stamp-since.ensures.loaded in
    inr (c.stamp-since.result, (more, [], is ∙ ap (λ (l : List (ClassRef × ℕ)). more ++ l) stamped), inr (sym c.in-None.ensures.noted))

pub returns-then-count-since-clause-looks : goal.returns-then-count-since-clause-looks
returns-then-count-since-clause-looks c = ap (λ (u : SenderView). u.looks) c.stamp-since.ensures.loaded

pub returns-in-Some-clause-looks : goal.returns-in-Some-clause-looks
returns-in-Some-clause-looks c = ap (λ (u : SenderView). u.looks) c.stamp-since.ensures.loaded

pub returns-in-None-clause-looks : goal.returns-in-None-clause-looks
returns-in-None-clause-looks c = c.try_find_at.ensures.looks ∙ ap (λ (u : SenderView). u.looks) c.stamp-since.ensures.loaded

pub returns-in-Some-clause-noted : goal.returns-in-Some-clause-noted
returns-in-Some-clause-noted c =
    (c.stamp-since.result, ([], [], stamps_are c.args.lookup.class c.stamp-since.result c.args.self.now.sender c.stamp-since.new.self.sender c.stamp-since.ensures.loaded), λ low. sym c.in-Some.ensures.noted)

pub returns-in-None-clause-noted : goal.returns-in-None-clause-noted
returns-in-None-clause-noted c =
    let since = c.stamp-since.result in
    let (more, is) = c.try_find_at.ensures.stamps in
    let stamped = stamps_are c.args.lookup.class since c.args.self.now.sender c.stamp-since.new.self.sender c.stamp-since.ensures.loaded in
    let loaded : LoadsAmong c.args.lookup.class since c.args.self.now.sender c.try_find_at.new.self.sender = (more, [], is ∙ ap (λ (l : List (ClassRef × ℕ)). more ++ l) stamped) in
    if_some (IsKeptAt c.args.count c.try_find_at.new.notes c.args.lookup.class c.args.lookup.sel) (λ i. IsNotedAmong c.try_find_at.new.notes c.args.self.now.sender c.try_find_at.new.self.sender c.args.lookup (imp_number i))
    c.try_find_at.result (λ i kept. (since, loaded, kept since (omega (arith, c.if-count-since.false)))) c.try_find_at.ensures.kept

pub returns-then-count-since-clause-probed : goal.returns-then-count-since-clause-probed
returns-then-count-since-clause-probed c = omega (arith, ap (λ (u : SenderView). u.count) c.stamp-since.ensures.loaded)

pub returns-in-Some-clause-probed : goal.returns-in-Some-clause-probed
returns-in-Some-clause-probed c = omega (arith, ap (λ (u : SenderView). u.count) c.stamp-since.ensures.loaded)

pub returns-in-None-clause-probed : goal.returns-in-None-clause-probed
returns-in-None-clause-probed c = omega (arith, c.try_find_at.ensures.probed.0, ap (λ (u : SenderView). u.count) c.stamp-since.ensures.loaded)
