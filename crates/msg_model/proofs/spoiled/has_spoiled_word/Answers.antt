-- if a word will not agree, some word will not
use Rattle.std.proofs.Common.{◌<◌, ◌∙◌, sym, ap, subst, slice_index, length}
use Rattle.std.specs.Prelude.{◌&&◌}
use Rattle.msg_tables.specs.Log.{lookup, and_then}
use Rattle.msg_model.specs.Steps.{is_entry, disagrees}
use Rattle.msg_model.proofs.BelowLemmas.{some_below-true}
use Rattle.msg_model.proofs.spoiled.has_spoiled_word.Goals as goal

pub returns-then-would_disagree : goal.returns-then-would_disagree
returns-then-would_disagree c = λ h stands.
    let words = c.args.words.now in
    sym (some_below-true (length words) c.loop-place.place (λ p. is_entry (slice_index words p) && disagrees (lookup (and_then h c.args.change.now)) c.args.class (slice_index words p))
    (subst (λ n. c.loop-place.place < n) c.capacity-place-end.ensures c.loop-place-test.true)
    (ap (λ w. is_entry w && disagrees (lookup (and_then h c.args.change.now)) c.args.class w) (sym c.word.ensures) ∙ sym (c.would_disagree.ensures h stands) ∙ c.if-would_disagree.true))
