use Rattle.std.proofs.Common.{◌≡◌, ℕ, ◌*◌, ◌/◌, ◌%◌, ◌^◌, ◌<◌, ◌≤◌, List, Bool, true, length, set, ap, ◌∙◌, arith, w64}
use Rattle.std.specs.Prelude.{slice_index, bit_or}
use Rattle.std.specs.Int.{bit_at}
use Rattle.std.proofs.lemmas.List.{get_or_default}
use Rattle.std.proofs.lemmas.Nat.Bits.{bit_at_set_same, bit_at_set_other}
use Rattle.std.proofs.Math.ListN.{length-set}
use Rattle.msg_cache.proofs.BitSetLemmas.{members_length, members_written}
use Rattle.msg_cache.proofs.bit_set.BitSet.insert.Goals as goal

pub index_mut-requires : goal.index_mut-requires
index_mut-requires c =
    let s = c.self.inside in
    omega (arith, c.requires, members_length s.words.items s.limit, ap (λ (l : List Bool). length l) c.self.view_is, c.self.invariant.room, s.words.ok.0)

pub invariant_of-self : goal.invariant_of-self
invariant_of-self c =
    let s = c.self.inside in record {
      room = omega (arith, c.self.invariant.room, length-set s.words.items (c.args.number / 64) (bit_or c.index_mut.result.now (1 * 2 ^ (c.args.number % 64) % 2 ^ 64)));
      few = c.self.invariant.few;
    }

pub returns : goal.returns
returns c =
    let s = c.self.inside in
    let a = c.args.number in
    let k : ℕ = a % 64 in
    let kl : k < 64 = omega arith in
    let w = c.index_mut.result.now in
    let inside : a < s.limit = omega (arith, c.requires, members_length s.words.items s.limit, ap (λ (l : List Bool). length l) c.self.view_is) in
    let room : s.limit ≤ 64 * length s.words.items = c.self.invariant.room in
    let read : w ≡ slice_index s.words.items (a / 64) = c.index_mut.ensures.value ∙ get_or_default s.words.items (a / 64) w 0 (omega arith) in
    members_written s.words.items s.limit a (bit_or w (1 * 2 ^ k % 2 ^ 64)) 1 inside room (bit_at_set_same w64 w k kl) (λ i l ne. bit_at_set_other w64 w k kl i ne ∙ ap (λ x. bit_at x i) read)
    ∙ ap (λ (l : List Bool). set l a true) c.self.view_is
