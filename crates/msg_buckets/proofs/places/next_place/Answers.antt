use Rattle.std.proofs.Common.{◌∙◌, ap, ◌%◌, ◌+◌}
use Rattle.msg_buckets.proofs.PlaceLemmas.{and_capacity, probe_place-next}
use Rattle.msg_buckets.proofs.places.next_place.Goals as goal

pub returns-clause-next : goal.returns-clause-next
returns-clause-next c sel k is = and_capacity (c.args.place + 1) c.args.capacity c.requires.capacity ∙ ap (λ n. (n + 1) % c.args.capacity) is ∙ probe_place-next sel c.args.capacity k
