use Rattle.std.proofs.Common.{◌*◌, ◌/◌, ◌+◌, ◌<◌, List, Bool, false, length, sym, ap, ◌∙◌, subst, arith}
use Rattle.std.specs.Prelude.{slice_index_or, slice_set}
use Rattle.msg_cache.specs.BitSet.{HasNone}
use Rattle.msg_cache.specs.LayeredSet.{IsSummary}
use Rattle.msg_cache.proofs.LayeredLemmas.{summary_left, summary_last}
use Rattle.msg_cache.proofs.layered_set.LayeredSet.remove.Goals as goal

pub invariant_of-self-else-take_out-2 : goal.invariant_of-self-else-take_out-2
invariant_of-self-else-take_out-2 c =
    let s = c.self.inside in
    let n = c.args.number in
    let numbers = c.take_out.new.set in
    let words = c.take_out-then-take_out.new.set in
    let inside : n < length s.numbers = omega (arith, c.requires, ap (λ (l : List Bool). length l) c.self.view_is) in
    let inside_words : n / 64 < length s.words = omega (arith, inside, c.self.invariant.words.room) in
    let out = c.take_out.ensures.set in
    let out_words = c.take_out-then-take_out.ensures.set in
    let last = c.take_out.ensures.last c.if-take_out.true in
    let left = c.take_out-then-take_out.ensures.others c.if-take_out-2.false in record {
      words = subst (λ (l : List Bool). IsSummary l words) (sym out) (subst (λ (l : List Bool). IsSummary (slice_set s.numbers n false) l) (sym out_words)
          (summary_last s.numbers s.words n c.self.invariant.words inside (subst (λ (l : List Bool). HasNone l (64 * (n / 64)) (64 * (n / 64 + 1))) out last)));
      blocks = subst (λ (l : List Bool). IsSummary l s.blocks) (sym out_words)
          (summary_left s.words s.blocks (n / 64) c.self.invariant.blocks inside_words left.0 left.1 (ap (λ (l : List Bool). slice_index_or l left.0 false) (sym out_words) ∙ left.2));
    }

pub invariant_of-self-else-take_out : goal.invariant_of-self-else-take_out
invariant_of-self-else-take_out c =
    let s = c.self.inside in
    let n = c.args.number in
    let inside : n < length s.numbers = omega (arith, c.requires, ap (λ (l : List Bool). length l) c.self.view_is) in
    let out = c.take_out.ensures.set in
    let left = c.take_out.ensures.others c.if-take_out.false in record {
      words = subst (λ (l : List Bool). IsSummary l s.words) (sym out) (summary_left s.numbers s.words n c.self.invariant.words inside left.0 left.1 (ap (λ (l : List Bool). slice_index_or l left.0 false) (sym out) ∙ left.2));
      blocks = c.self.invariant.blocks;
    }
