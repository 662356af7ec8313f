use Rattle.std.proofs.Common.{◌≡◌, ℕ, ◌+◌, List, length, sym, ap, ◌∙◌, subst, arith}
use Rattle.std.specs.Prelude.{slice_index, slice_set}
use Rattle.std.proofs.lemmas.List.{get_or_default}
use Rattle.msg_cache.specs.declared.view.KeeperView.{KeeperView}
use Rattle.msg_cache.specs.Layout.{layout_of, SettingView}
use Rattle.msg_cache.specs.Rule.{TidyBy}
use Rattle.msg_cache.specs.Uses.{settled}
use Rattle.msg_cache.specs.Plays.{stored}
use Rattle.msg_cache.specs.Keeping.{filled, InOrder}
use Rattle.msg_tables.specs.History.{lookup}
use Rattle.msg_cache.specs.Plays.{Sat, keeper_of}
use Rattle.msg_names.specs.Number.{selector_number}
use Rattle.msg_cache.proofs.OrderLemmas.{live_below, words_within, place_in, kept_filled, some_word}
use Rattle.msg_cache.proofs.keeper.Keeper.put.Goals as goal

pub store_entry-requires-clause-table : goal.store_entry-requires-clause-table
store_entry-requires-clause-table c =
    let a = c.args.arena.now in
    let key = a.key in
    let z = layout_of key in
    let s = c.args.self.now in
    let k = keeper_of s.seat.me.0 in
    let kept_is = c.requires.arena.1 in
    let sel = selector_number c.args.selector in
    let al = live_below lookup key k s.remembered.items s.occupied.items kept_is c.args.class c.args.array c.requires.live in
    let here = place_in lookup key k s.remembered.items s.occupied.items kept_is c.args.array c.args.place sel al c.requires.found in
    let end = words_within lookup key k s.remembered.items s.occupied.items kept_is c.args.array al in
    rw c.shared-shared.ensures.table (c.requires.arena.0, omega (arith, c.base-base.ensures.base, here.0, end, kept_is.tidy.kept.words, c.shared-shared.ensures.count, c.shared-shared.ensures.few))

pub store_entry-requires-clause-few : goal.store_entry-requires-clause-few
store_entry-requires-clause-few c = rw c.shared-shared.ensures.table c.shared-shared.ensures.few

pub store_entry-requires-clause-place : goal.store_entry-requires-clause-place
store_entry-requires-clause-place c =
    let a = c.args.arena.now in
    let key = a.key in
    let z = layout_of key in
    let s = c.args.self.now in
    let k = keeper_of s.seat.me.0 in
    let kept_is = c.requires.arena.1 in
    let sel = selector_number c.args.selector in
    let al = live_below lookup key k s.remembered.items s.occupied.items kept_is c.args.class c.args.array c.requires.live in
    let here = place_in lookup key k s.remembered.items s.occupied.items kept_is c.args.array c.args.place sel al c.requires.found in
    let end = words_within lookup key k s.remembered.items s.occupied.items kept_is c.args.array al in
    rw c.shared-shared.ensures.key (c.base-base.ensures.base, here.0)

pub store_entry-requires-clause-clear : goal.store_entry-requires-clause-clear
store_entry-requires-clause-clear c =
    let a = c.args.arena.now in
    let key = a.key in
    let z = layout_of key in
    let s = c.args.self.now in
    let k = keeper_of s.seat.me.0 in
    let kept_is = c.requires.arena.1 in
    let sel = selector_number c.args.selector in
    let al = live_below lookup key k s.remembered.items s.occupied.items kept_is c.args.class c.args.array c.requires.live in
    let here = place_in lookup key k s.remembered.items s.occupied.items kept_is c.args.array c.args.place sel al c.requires.found in
    let end = words_within lookup key k s.remembered.items s.occupied.items kept_is c.args.array al in
    ap (λ (b : ℕ). slice_index k.words (b + c.args.place)) c.base-base.ensures.base ∙ here.1

pub overflow_add-base : goal.overflow_add-base
overflow_add-base c =
    let a = c.args.arena.now in
    let key = a.key in
    let z = layout_of key in
    let s = c.args.self.now in
    let k = keeper_of s.seat.me.0 in
    let kept_is = c.requires.arena.1 in
    let sel = selector_number c.args.selector in
    let al = live_below lookup key k s.remembered.items s.occupied.items kept_is c.args.class c.args.array c.requires.live in
    let here = place_in lookup key k s.remembered.items s.occupied.items kept_is c.args.array c.args.place sel al c.requires.found in
    let end = words_within lookup key k s.remembered.items s.occupied.items kept_is c.args.array al in
    omega (arith, c.base-base.ensures.base, here.0, end, kept_is.tidy.kept.words, c.shared-shared.ensures.count, c.shared-shared.ensures.few)

pub index_mut-requires : goal.index_mut-requires
index_mut-requires c =
    let a = c.args.arena.now in
    let key = a.key in
    let z = layout_of key in
    let s = c.args.self.now in
    let k = keeper_of s.seat.me.0 in
    let kept_is = c.requires.arena.1 in
    let sel = selector_number c.args.selector in
    let al = live_below lookup key k s.remembered.items s.occupied.items kept_is c.args.class c.args.array c.requires.live in
    let here = place_in lookup key k s.remembered.items s.occupied.items kept_is c.args.array c.args.place sel al c.requires.found in
    let end = words_within lookup key k s.remembered.items s.occupied.items kept_is c.args.array al in
    omega (arith, c.base-base.ensures.base, here.0, end, kept_is.tidy.kept.words, c.shared-shared.ensures.count, c.shared-shared.ensures.few, ap (λ (l : List ℕ). length l) s.words_are, s.words.ok.0)

pub returns-clause-arena : goal.returns-clause-arena
returns-clause-arena c =
    let a = c.args.arena.now in
    let key = a.key in
    let z = layout_of key in
    let s = c.args.self.now in
    let k = keeper_of s.seat.me.0 in
    let kept_is = c.requires.arena.1 in
    let sel = selector_number c.args.selector in
    let al = live_below lookup key k s.remembered.items s.occupied.items kept_is c.args.class c.args.array c.requires.live in
    let here = place_in lookup key k s.remembered.items s.occupied.items kept_is c.args.array c.args.place sel al c.requires.found in
    let end = words_within lookup key k s.remembered.items s.occupied.items kept_is c.args.array al in
    let w = c.pack-word.result in
    let view : keeper_of c.store_entry.new.seat.me.0 ≡ filled z c.args.array c.args.place w k = ap (λ (x : Sat). keeper_of x.0) c.store_entry.ensures.told ∙ ap (λ (b : ℕ). stored (b + c.args.place) w k) c.base-base.ensures.base in
    let had : c.index_mut-2.result.now ≡ slice_index s.occupied.items c.args.array = c.index_mut-2.ensures.value ∙ get_or_default s.occupied.items c.args.array c.index_mut-2.result.now 0 (omega (arith, kept_is.counts, al)) in (
      c.store_entry.ensures.seat.0 ∙ c.requires.arena.0,
      subst (λ (x : KeeperView × ℕ). InOrder lookup key x.0 s.remembered.items (slice_set s.occupied.items c.args.array (x.1 + 1))) (λ i. (sym view i, sym had i))
          (kept_filled lookup key k s.remembered.items s.occupied.items kept_is c.args.class c.args.array c.args.place sel w c.requires.live c.requires.found c.requires.room c.pack-word.ensures.selector (some_word w sel c.pack-word.ensures.selector c.args.selector.positive)
          (subst (λ (x : SettingView × KeeperView). TidyBy lookup x.0 x.1) (λ i. (c.shared-shared.ensures.key i, view i)) c.store_entry.ensures.tidy)),
      c.requires.arena.2,
    )

pub invariant_of-self-clause-standings_are : goal.invariant_of-self-clause-standings_are
invariant_of-self-clause-standings_are c = let s = c.args.self.now in s.standings_are ∙ ap (λ (x : Sat). settled s.standings.senders (keeper_of x.0).standings) (sym c.store_entry.ensures.told)
