-- if a word isn't 0, some word isn't
use Rattle.std.proofs.Common.{◌≡◌, length, slice_index, sym, ◌∙◌, ap, true, arith}
use Rattle.std.proofs.lemmas.List.{get_or_read_under}
use Rattle.msg_model.specs.Steps.{some_below, is_entry}
use Rattle.msg_model.proofs.BelowLemmas.{some_below-true, entry}
use Rattle.msg_model.proofs.buckets.Buckets.has_entry.Goals as goal

pub returns-then-index-ne0 : goal.returns-then-index-ne0
returns-then-index-ne0 c =
    let place = c.loop-place.place in
    let words = c.self.inside.words.items in
    let count : c.len-place-end.result ≡ length words = c.len-place-end.ensures ∙ c.self.inside.words.ok.0 in
    let read = get_or_read_under words place c.len-place-end.result c.index.result.now 0 c.index.ensures c.loop-place-test.true count in
    let found : some_below (length words) (λ p. is_entry (slice_index words p)) ≡ true = some_below-true (length words) place (λ p. is_entry (slice_index words p)) (let lt = c.loop-place-test.true in omega (arith, count)) (ap is_entry (sym read) ∙ entry c.index.result.now c.if-index-ne0.true) in
    rw (← c.self.view_is) (sym found)
