use Rattle.std.proofs.Common.{◌≡◌, ℕ, suc, ◌<◌, length, get_or, true, refl, sym, ap, ◌∙◌, subst, arith}
use Rattle.msg_tables.specs.Origin.{class_total}
use Rattle.std.specs.Prelude.{slice_index}
use Rattle.std.proofs.Math.ListN.{length-set}
use Rattle.msg_buckets.proofs.CapacityLemmas.{capacity_bounds}
use Rattle.msg_cache.specs.declared.view.KeeperView.{KeeperView}
use Rattle.msg_cache.specs.Layout.{layout_of, header_at, SettingView}
use Rattle.msg_cache.specs.Rule.{TidyBy}
use Rattle.msg_cache.specs.Plays.{installed}
use Rattle.msg_cache.specs.Keeping.{InOrder}
use Rattle.msg_tables.specs.History.{lookup}
use Rattle.msg_cache.specs.Plays.{Sat, keeper_of}
use Rattle.std.proofs.lemmas.List.{length-map}
use Rattle.msg_model.specs.Steps.{everyone}
use Rattle.msg_cache.specs.Uses.{StandingsView, free, live, settled, use_of, use_at}
use Rattle.msg_cache.proofs.SettledLemmas.{used_at, retired_length, retired_free, installed_settled}
use Rattle.msg_cache.proofs.LayoutLemmas.{header_inside}
use Rattle.msg_cache.proofs.SweepingLemmas.{sizes, few_arrays}
use Rattle.msg_cache.proofs.OrderLemmas.{kept_installed, header_read, header_small, live_used}
use Rattle.msg_cache.proofs.keeper.Keeper.install.Goals as goal

pub store_array-requires-clause-clear : goal.store_array-requires-clause-clear
store_array-requires-clause-clear c = rw c.shared-shared.ensures.key (λ q lt. c.requires.arena.1.cleared c.args.array q c.requires.free lt)

pub retire_in-requires-clause-header : goal.retire_in-requires-clause-header
retire_in-requires-clause-header c =
    let a = c.args.arena.now in
    let key = a.key in
    let s = c.args.self.now in
    let k = keeper_of s.seat.me.0 in
    let kept_is = c.requires.arena.1 in
    let cl : c.args.class.class < class_total key.origin = c.requires.class in
    let n = c.index-header.result.now in
    let read : n ≡ slice_index k.words (header_at c.args.class) = header_read s.words.items k.words (header_at c.args.class) n (length k.words) s.words_are (c.index-header.ensures ∙ ap (λ (i : ℕ). get_or s.words.items i n) c.header_at-at.ensures) refl (let hi = header_inside (layout_of key) c.args.class cl in omega (arith, kept_is.tidy.kept.words, hi)) in
    omega (arith, header_small lookup key k s.remembered.items s.occupied.items kept_is c.args.class n cl read, ap (λ (v : StandingsView). length v.uses) s.standings_are, length-map k.standings use_of)

pub retire_in-requires-clause-live : goal.retire_in-requires-clause-live
retire_in-requires-clause-live c = λ b is.
    let key = c.args.arena.now.key in
    let s = c.args.self.now in
    let k = keeper_of s.seat.me.0 in
    let kept_is = c.requires.arena.1 in
    let cl : c.args.class.class < class_total key.origin = c.requires.class in
    let n = c.index-header.result.now in
    let read : n ≡ slice_index k.words (header_at c.args.class) = header_read s.words.items k.words (header_at c.args.class) n (length k.words) s.words_are (c.index-header.ensures ∙ ap (λ (i : ℕ). get_or s.words.items i n) c.header_at-at.ensures) refl (let hi = header_inside (layout_of key) c.args.class cl in omega (arith, kept_is.tidy.kept.words, hi)) in
    live_used lookup key k s.remembered.items s.occupied.items kept_is c.args.class n b s.standings.uses cl read is (ap (λ (v : StandingsView). v.uses) s.standings_are)

pub install-requires : goal.install-requires
install-requires c =
    let s = c.args.self.now in
    let k = keeper_of s.seat.me.0 in
    let e = c.retire_in.ensures in
    let all = everyone s.standings.senders in
    let key = c.args.arena.now.key in
    let kept_is = c.requires.arena.1 in
    let cl : c.args.class.class < class_total key.origin = c.requires.class in
    let n = c.index-header.result.now in
    let read : n ≡ slice_index k.words (header_at c.args.class) = header_read s.words.items k.words (header_at c.args.class) n (length k.words) s.words_are (c.index-header.ensures ∙ ap (λ (i : ℕ). get_or s.words.items i n) c.header_at-at.ensures) refl (let hi = header_inside (layout_of key) c.args.class cl in omega (arith, kept_is.tidy.kept.words, hi)) in
    let alive : (b : ℕ) → n ≡ suc b → use_at s.standings.uses b ≡ live = λ b is. live_used lookup key k s.remembered.items s.occupied.items kept_is c.args.class n b s.standings.uses cl read is (ap (λ (v : StandingsView). v.uses) s.standings_are) in
    let was : use_at s.standings.uses c.args.array ≡ free = ap (λ (v : StandingsView). use_at v.uses c.args.array) s.standings_are ∙ used_at k.standings c.args.array ∙ ap use_of c.requires.free in record {
      array = omega (arith, ap (λ (v : StandingsView). length v.uses) e, retired_length n all s.standings.uses, ap (λ (v : StandingsView). length v.uses) s.standings_are, length-map k.standings use_of, c.requires.arena.1.tidy.kept.standings, c.requires.array);
      free = ap (λ (v : StandingsView). use_at v.uses c.args.array) e ∙ retired_free n all s.standings.uses c.args.array was alive;
      ready = ap (λ (v : StandingsView). v.ready) e ∙ ap (λ (v : StandingsView). v.ready) s.standings_are;
    }

pub invariant_of-self-clause-standings_are : goal.invariant_of-self-clause-standings_are
invariant_of-self-clause-standings_are c =
    let key = c.args.arena.now.key in
    let s = c.args.self.now in
    let k = keeper_of s.seat.me.0 in
    let kept_is = c.requires.arena.1 in
    let cl : c.args.class.class < class_total key.origin = c.requires.class in
    let n = c.index-header.result.now in
    let read : n ≡ slice_index k.words (header_at c.args.class) = header_read s.words.items k.words (header_at c.args.class) n (length k.words) s.words_are (c.index-header.ensures ∙ ap (λ (i : ℕ). get_or s.words.items i n) c.header_at-at.ensures) refl (let hi = header_inside (layout_of key) c.args.class cl in omega (arith, kept_is.tidy.kept.words, hi)) in
    installed_settled s.standings k c.args.class s.standings_are s.senders_are c.retire_in.new.standings c.install.new.self n c.args.array read c.retire_in.ensures c.install.ensures
    ∙ ap (λ (x : Sat). settled c.install.new.self.senders (keeper_of x.0).standings) (sym c.store_array.ensures.told)

pub returns-clause-arena : goal.returns-clause-arena
returns-clause-arena c =
    let a = c.args.arena.now in
    let key = a.key in
    let s = c.args.self.now in
    let k = keeper_of s.seat.me.0 in
    let cl : c.args.class.class < class_total key.origin = c.requires.class in
    let view : keeper_of c.store_array.new.seat.me.0 ≡ installed c.args.class c.args.array k = ap (λ (x : Sat). keeper_of x.0) c.store_array.ensures.told in (
      c.store_array.ensures.seat.0 ∙ c.requires.arena.0,
      subst (λ (x : KeeperView). InOrder lookup key x s.remembered.items s.occupied.items) (sym view)
          (kept_installed lookup key k s.remembered.items s.occupied.items c.requires.arena.1 c.args.class c.args.array cl c.requires.array c.requires.free (subst (λ (x : SettingView × KeeperView). TidyBy lookup x.0 x.1) (λ i. (c.shared-shared.ensures.key i, view i)) c.store_array.ensures.tidy)),
      length-set s.used.items c.args.array true ∙ c.requires.arena.2,
    )

pub overflow_cast-array : goal.overflow_cast-array
overflow_cast-array c =
    let key = c.args.arena.now.key in
    let few = few_arrays key.capacities (λ b bl. let t = (capacity_bounds (slice_index key.capacities b) (sizes key.capacities c.shared-shared.ensures.capacities b bl)).0 in omega arith) in
    omega (arith, c.requires.array, few, c.shared-shared.ensures.count, c.shared-shared.ensures.few)

pub index-requires : goal.index-requires
index-requires c = omega (arith, c.requires.array, c.requires.arena.2)

pub index_mut-requires-2 : goal.index_mut-requires-2
index_mut-requires-2 c = omega (arith, c.requires.array, c.requires.arena.2)
