use Rattle.std.proofs.Common.{◌≡◌, ℕ, ◌-◌, ◌*◌, ◌<◌, List, length, get_or, refl, sym, ap, ◌∙◌, subst, arith}
use Rattle.msg_tables.specs.Origin.{class_total}
use Rattle.std.specs.Prelude.{slice_index, slice_set}
use Rattle.msg_names.specs.ClassRef.{slot_of}
use Rattle.msg_names.proofs.ClassRefLemmas.{slot_of-inside}
use Rattle.msg_cache.specs.declared.view.KeeperView.{KeeperView}
use Rattle.msg_cache.specs.Layout.{layout_of, header_at, SettingView}
use Rattle.msg_cache.specs.Rule.{TidyBy}
use Rattle.msg_cache.specs.Plays.{flushed}
use Rattle.msg_cache.specs.Keeping.{header, remember, InOrder}
use Rattle.msg_tables.specs.History.{lookup}
use Rattle.msg_cache.specs.Plays.{Sat, keeper_of}
use Rattle.msg_cache.proofs.LayoutLemmas.{header_inside}
use Rattle.msg_cache.proofs.SweepingLemmas.{sizes}
use Rattle.msg_cache.proofs.OrderLemmas.{kept_flushed, header_read, live_of}
use Rattle.std.proofs.lemmas.List.{length-map}
use Rattle.msg_cache.specs.Uses.{StandingsView, settled, use_of, use_at}
use Rattle.msg_cache.proofs.SettledLemmas.{used_at, flushed_settled}
use Rattle.msg_cache.proofs.keeper.Keeper.flush.Goals as goal

pub capacity-capacity-requires : goal.capacity-capacity-requires
capacity-capacity-requires c =
    let a = c.args.arena.now in
    let key = a.key in
    let s = c.args.self.now in
    let k = keeper_of s.seat.me.0 in
    let kept_is = c.requires.arena.1 in
    let cl : c.args.class.class < class_total key.origin = c.requires.class in
    let hi = header_inside (layout_of key) c.args.class cl in
    let n = c.index-header.result.now in
    let read : n ≡ slice_index k.words (header_at c.args.class) = header_read s.words.items k.words (header_at c.args.class) n (length k.words) s.words_are (c.index-header.ensures ∙ ap (λ (i : ℕ). get_or s.words.items i n) c.header_at-place.ensures) refl (omega (arith, kept_is.tidy.kept.words, hi)) in
    let live = live_of lookup key k s.remembered.items s.occupied.items kept_is c.args.class n cl read c.if-header-eq0.false in
    live.1

pub store_none-requires-clause-live : goal.store_none-requires-clause-live
store_none-requires-clause-live c =
    let a = c.args.arena.now in
    let key = a.key in
    let s = c.args.self.now in
    let k = keeper_of s.seat.me.0 in
    let kept_is = c.requires.arena.1 in
    let cl : c.args.class.class < class_total key.origin = c.requires.class in
    let hi = header_inside (layout_of key) c.args.class cl in
    let n = c.index-header.result.now in
    let read : n ≡ slice_index k.words (header_at c.args.class) = header_read s.words.items k.words (header_at c.args.class) n (length k.words) s.words_are (c.index-header.ensures ∙ ap (λ (i : ℕ). get_or s.words.items i n) c.header_at-place.ensures) refl (omega (arith, kept_is.tidy.kept.words, hi)) in
    let live = live_of lookup key k s.remembered.items s.occupied.items kept_is c.args.class n cl read c.if-header-eq0.false in
    live.2

pub retire-requires : goal.retire-requires
retire-requires c =
    let a = c.args.arena.now in
    let key = a.key in
    let s = c.args.self.now in
    let k = keeper_of s.seat.me.0 in
    let kept_is = c.requires.arena.1 in
    let cl : c.args.class.class < class_total key.origin = c.requires.class in
    let hi = header_inside (layout_of key) c.args.class cl in
    let n = c.index-header.result.now in
    let read : n ≡ slice_index k.words (header_at c.args.class) = header_read s.words.items k.words (header_at c.args.class) n (length k.words) s.words_are (c.index-header.ensures ∙ ap (λ (i : ℕ). get_or s.words.items i n) c.header_at-place.ensures) refl (omega (arith, kept_is.tidy.kept.words, hi)) in
    let live = live_of lookup key k s.remembered.items s.occupied.items kept_is c.args.class n cl read c.if-header-eq0.false in record {
      array = omega (arith, live.1, kept_is.tidy.kept.standings, ap (λ (v : StandingsView). length v.uses) s.standings_are, length-map k.standings use_of);
      live = ap (λ (v : StandingsView). use_at v.uses (n - 1)) s.standings_are ∙ used_at k.standings (n - 1) ∙ ap use_of live.0;
      ready = ap (λ (v : StandingsView). v.ready) s.standings_are;
    }

pub index_mut-requires-2 : goal.index_mut-requires-2
index_mut-requires-2 c =
    let key = c.args.arena.now.key in
    let t = slot_of-inside c.args.class (class_total key.origin) (2 * class_total key.origin) refl c.requires.class in
    omega (arith, t, c.requires.arena.1.classes, c.header_at-place.ensures)

pub returns-clause-arena : goal.returns-clause-arena
returns-clause-arena c =
    let a = c.args.arena.now in
    let key = a.key in
    let s = c.args.self.now in
    let k = keeper_of s.seat.me.0 in
    let kept_is = c.requires.arena.1 in
    let cl : c.args.class.class < class_total key.origin = c.requires.class in
    let hi = header_inside (layout_of key) c.args.class cl in
    let n = c.index-header.result.now in
    let read : n ≡ slice_index k.words (header_at c.args.class) = header_read s.words.items k.words (header_at c.args.class) n (length k.words) s.words_are (c.index-header.ensures ∙ ap (λ (i : ℕ). get_or s.words.items i n) c.header_at-place.ensures) refl (omega (arith, kept_is.tidy.kept.words, hi)) in
    let live = live_of lookup key k s.remembered.items s.occupied.items kept_is c.args.class n cl read c.if-header-eq0.false in
    let view : keeper_of c.store_none.new.seat.me.0 ≡ flushed c.args.class k = ap (λ (x : Sat). keeper_of x.0) c.store_none.ensures.told in
    let noted : slice_set s.remembered.items (slot_of c.args.class) c.capacity-capacity.result ≡ remember (layout_of key) c.args.class (header k c.args.class) s.remembered.items = (λ i. slice_set s.remembered.items (slot_of c.args.class) (c.capacity-capacity.ensures.capacity i)) ∙ ap (λ (h : ℕ). remember (layout_of key) c.args.class h s.remembered.items) (sym live.2) in
    let at : c.header_at-place.result - 1 ≡ slot_of c.args.class = omega (arith, c.header_at-place.ensures) in (
      c.store_none.ensures.seat.0 ∙ c.requires.arena.0,
      subst (λ (x : KeeperView × List ℕ). InOrder lookup key x.0 x.1 s.occupied.items) (λ i. (sym view i, (sym noted ∙ ap (λ (p : ℕ). slice_set s.remembered.items p c.capacity-capacity.result) (sym at)) i))
          (kept_flushed lookup key k s.remembered.items s.occupied.items kept_is (sizes key.capacities c.shared-shared.ensures.capacities) c.args.class cl (subst (λ (x : SettingView × KeeperView). TidyBy lookup x.0 x.1) (λ i. (c.shared-shared.ensures.key i, view i)) c.store_none.ensures.tidy)),
      c.requires.arena.2,
    )

pub returns-clause-remembered : goal.returns-clause-remembered
returns-clause-remembered c =
    let a = c.args.arena.now in
    let key = a.key in
    let s = c.args.self.now in
    let k = keeper_of s.seat.me.0 in
    let kept_is = c.requires.arena.1 in
    let cl : c.args.class.class < class_total key.origin = c.requires.class in
    let hi = header_inside (layout_of key) c.args.class cl in
    let n = c.index-header.result.now in
    let read : n ≡ slice_index k.words (header_at c.args.class) = header_read s.words.items k.words (header_at c.args.class) n (length k.words) s.words_are (c.index-header.ensures ∙ ap (λ (i : ℕ). get_or s.words.items i n) c.header_at-place.ensures) refl (omega (arith, kept_is.tidy.kept.words, hi)) in
    let live = live_of lookup key k s.remembered.items s.occupied.items kept_is c.args.class n cl read c.if-header-eq0.false in
    let at : c.header_at-place.result - 1 ≡ slot_of c.args.class = omega (arith, c.header_at-place.ensures) in
    (λ i. slice_set s.remembered.items (at i) (c.capacity-capacity.ensures.capacity i)) ∙ ap (λ (h : ℕ). remember (layout_of key) c.args.class h s.remembered.items) (sym live.2)

pub invariant_of-self-clause-standings_are : goal.invariant_of-self-clause-standings_are
invariant_of-self-clause-standings_are c =
    let a = c.args.arena.now in
    let key = a.key in
    let s = c.args.self.now in
    let k = keeper_of s.seat.me.0 in
    let kept_is = c.requires.arena.1 in
    let cl : c.args.class.class < class_total key.origin = c.requires.class in
    let hi = header_inside (layout_of key) c.args.class cl in
    let n = c.index-header.result.now in
    let read : n ≡ slice_index k.words (header_at c.args.class) = header_read s.words.items k.words (header_at c.args.class) n (length k.words) s.words_are (c.index-header.ensures ∙ ap (λ (i : ℕ). get_or s.words.items i n) c.header_at-place.ensures) refl (omega (arith, kept_is.tidy.kept.words, hi)) in
    let live = live_of lookup key k s.remembered.items s.occupied.items kept_is c.args.class n cl read c.if-header-eq0.false in
    flushed_settled s.standings k c.args.class s.standings_are s.senders_are c.retire.new.self (n - 1) live.2 c.retire.ensures
    ∙ ap (λ (x : Sat). settled c.retire.new.self.senders (keeper_of x.0).standings) (sym c.store_none.ensures.told)

pub invariant_of-self-clause-words_are : goal.invariant_of-self-clause-words_are
invariant_of-self-clause-words_are c =
    let s = c.args.self.now in
    (λ i. slice_set (s.words_are i) (c.header_at-place.ensures i) 0) ∙ ap (λ (x : Sat). (keeper_of x.0).words) (sym c.store_none.ensures.told)
