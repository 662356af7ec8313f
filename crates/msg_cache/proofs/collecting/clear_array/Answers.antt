use Rattle.std.proofs.Common.{ℕ, List, length, ap, ◌∙◌, arith}
use Rattle.std.specs.Prelude.{slice_index_or}
use Rattle.msg_model.specs.declared.state.Standing.{Standing}
use Rattle.msg_model.specs.declared.state.Standing.TheVariants.{Free}
use Rattle.msg_cache.specs.Layout.{layout_of}
use Rattle.msg_cache.proofs.LayoutLemmas.{inside}
use Rattle.msg_cache.specs.Plays.{Sat, keeper_of}
use Rattle.msg_cache.proofs.ClearingLemmas.{clears_standings}
use Rattle.msg_cache.proofs.collecting.clear_array.Goals as goal

pub clear_place-requires-clause-table : goal.clear_place-requires-clause-table
clear_place-requires-clause-table c =
    let a = c.args.arena.now in let z = layout_of a.key in
    let t = inside z c.args.array c.loop-place.place (let e = c.capacity-capacity.ensures in let l = c.loop-place-test.true in omega arith) in
    rw c.shared-shared.ensures.table (c.loop-place.invariant.table ∙ c.requires.table, omega (arith, c.base-base.ensures.base, t, c.shared-shared.ensures.count))

pub clear_place-requires-clause-few : goal.clear_place-requires-clause-few
clear_place-requires-clause-few c = rw c.shared-shared.ensures.table c.shared-shared.ensures.few

pub clear_place-requires-clause-within : goal.clear_place-requires-clause-within
clear_place-requires-clause-within c =
    let a = c.args.arena.now in let z = layout_of a.key in
    let t = inside z c.args.array c.loop-place.place (let e = c.capacity-capacity.ensures in let l = c.loop-place-test.true in omega arith) in
    omega (arith, c.base-base.ensures.base, t, ap (λ (l : List ℕ). length l) c.loop-place.invariant.words, c.loop-place.invariant.tidy.kept.words)

pub clear_place-requires-clause-free : goal.clear_place-requires-clause-free
clear_place-requires-clause-free c =
    ap (λ (x : Sat). slice_index_or (keeper_of x.0).standings c.args.array Free) c.loop-place.invariant.told
    ∙ ap (λ (l : List Standing). slice_index_or l c.args.array Free) (clears_standings c.base-base.result c.loop-place.place (keeper_of c.args.seat.now.me.0))
    ∙ c.requires.free
