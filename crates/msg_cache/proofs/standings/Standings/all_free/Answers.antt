use Rattle.std.proofs.Common.{◌≡◌, ℕ, List, [], Bool, true, length, replicate, ap, ◌∙◌, arith}
use Rattle.std.specs.Prelude.{slice_index}
use Rattle.std.proofs.lemmas.List.{length-replicate}
use Rattle.msg_cache.specs.Standings.{uses}
use Rattle.msg_cache.proofs.UseLemmas.{all_zero, uses_first}
use Rattle.msg_cache.proofs.standings.Standings.all_free.Goals as goal

pub invariant_of-result : goal.invariant_of-result
invariant_of-result c =
    let marks : c.in_ok-all.field-0 ≡ replicate c.args.arrays true = c.in_ok-all.ensures in
    let zeros : c.in_ok-all_first.field-0 ≡ replicate c.args.senders 0 = c.in_ok-all_first.ensures in
    let none : length c.in_ok-with_capacity.field-0.items ≡ 0 = ap (λ (l : List ℕ). length l) c.in_ok-with_capacity.ensures.items in record {
      few_arrays = omega (arith, c.requires.arrays, ap (λ (l : List Bool). length l) marks, length-replicate c.args.arrays true);
      few_senders = c.requires.senders;
      room = omega (arith, ap (λ (l : List Bool). length l) marks, length-replicate c.args.arrays true, c.in_ok-with_capacity.ensures.exact);
      unmarked = λ p lt. absurd (omega arith);
      distinct = λ p q less lt. absurd (omega arith);
      ends = omega arith;
      cursors = ap (λ (l : List ℕ). length l) zeros ∙ length-replicate c.args.senders 0;
      within = λ n l. omega (arith, all_zero c.args.senders n, ap (λ (l : List ℕ). slice_index l n) zeros);
    }

pub returns : goal.returns
returns c =
    let marks : c.in_ok-all.field-0 ≡ replicate c.args.arrays true = c.in_ok-all.ensures in
    let zeros : c.in_ok-all_first.field-0 ≡ replicate c.args.senders 0 = c.in_ok-all_first.ensures in
    (λ i. record { senders = c.args.senders; uses = uses (marks i) (c.in_ok-with_capacity.ensures.items i) 0 c.args.senders (zeros i); ready = [] })
    ∙ (λ i. record { senders = c.args.senders; uses = uses_first c.args.arrays c.args.senders (replicate c.args.senders 0) i; ready = [] })
