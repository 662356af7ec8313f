use Rattle.std.proofs.Common.{◌≡◌, ◌<◌, length, None}
use Rattle.msg_names.specs.Number.{selector_number}
use Rattle.msg_buckets.specs.Probing.{probe_place, end_of}
use Rattle.msg_buckets.proofs.FindLemmas.{reads_before}
use Rattle.msg_buckets.proofs.array.find.Given as goal

abbrev pub invariant-loop-step : goal.invariant-loop-step
invariant-loop-step l = record {
  within : l.place < length l.words;
  place : l.place ≡ probe_place (selector_number l.selector) (length l.words) l._step;
  none_yet : end_of (selector_number l.selector) (reads_before l.words (selector_number l.selector) l._step) ≡ None;
}
