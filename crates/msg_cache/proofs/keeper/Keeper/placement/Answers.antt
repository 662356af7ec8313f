use Rattle.std.proofs.Common.{◌≡◌, ℕ, ◌+◌, ◌-◌, ◌<◌, ◌≤◌, List, length, get_or, refl, sym, ap, ◌∙◌, subst, arith}
use Rattle.msg_tables.specs.Origin.{class_total}
use Rattle.std.specs.Prelude.{slice_index}
use Rattle.std.proofs.lemmas.List.{get_or_default}
use Rattle.msg_buckets.specs.Capacity.{fill_limit}
use Rattle.msg_buckets.specs.Array.{occupied_in}
use Rattle.msg_cache.specs.Layout.{layout_of, header_at}
use Rattle.std.proofs.Common.{rules}
use Rattle.msg_tables.specs.History.{lookup}
use Rattle.msg_cache.specs.Plays.{keeper_of}
use Rattle.msg_names.specs.Number.{selector_number}
use Rattle.msg_cache.proofs.LayoutLemmas.{header_inside}
use Rattle.msg_cache.proofs.SweepingLemmas.{array_length}
use Rattle.msg_cache.proofs.OrderLemmas.{words_within, header_read, live_of, live_words_are, placement_by}
use Rattle.msg_cache.proofs.keeper.Keeper.placement.Goals as goal

pub base-base-requires : goal.base-base-requires
base-base-requires c =
    let a = c.args.arena.now in
    let key = a.key in
    let s = c.args.self.now in
    let k = keeper_of s.seat.me.0 in
    let kept_is = c.requires.arena.1 in
    let cl : c.args.class.class < class_total key.origin = c.requires.class in
    let n = c.index-header.result.now in
    let read : n ≡ slice_index k.words (header_at c.args.class) = header_read s.words.items k.words (header_at c.args.class) n (length k.words) s.words_are (c.index-header.ensures ∙ ap (λ (i : ℕ). get_or s.words.items i n) c.header_at-at.ensures) refl (let hi = header_inside (layout_of key) c.args.class cl in omega (arith, kept_is.tidy.kept.words, hi)) in
    (live_of lookup key k s.remembered.items s.occupied.items kept_is c.args.class n cl read c.if-header-eq0.false).1

pub capacity-capacity-requires : goal.capacity-capacity-requires
capacity-capacity-requires c =
    let a = c.args.arena.now in
    let key = a.key in
    let s = c.args.self.now in
    let k = keeper_of s.seat.me.0 in
    let kept_is = c.requires.arena.1 in
    let cl : c.args.class.class < class_total key.origin = c.requires.class in
    let n = c.index-header.result.now in
    let read : n ≡ slice_index k.words (header_at c.args.class) = header_read s.words.items k.words (header_at c.args.class) n (length k.words) s.words_are (c.index-header.ensures ∙ ap (λ (i : ℕ). get_or s.words.items i n) c.header_at-at.ensures) refl (let hi = header_inside (layout_of key) c.args.class cl in omega (arith, kept_is.tidy.kept.words, hi)) in
    (live_of lookup key k s.remembered.items s.occupied.items kept_is c.args.class n cl read c.if-header-eq0.false).1

pub overflow_add-base : goal.overflow_add-base
overflow_add-base c =
    let a = c.args.arena.now in
    let key = a.key in
    let s = c.args.self.now in
    let k = keeper_of s.seat.me.0 in
    let kept_is = c.requires.arena.1 in
    let cl : c.args.class.class < class_total key.origin = c.requires.class in
    let n = c.index-header.result.now in
    let read : n ≡ slice_index k.words (header_at c.args.class) = header_read s.words.items k.words (header_at c.args.class) n (length k.words) s.words_are (c.index-header.ensures ∙ ap (λ (i : ℕ). get_or s.words.items i n) c.header_at-at.ensures) refl (let hi = header_inside (layout_of key) c.args.class cl in omega (arith, kept_is.tidy.kept.words, hi)) in
    let live = live_of lookup key k s.remembered.items s.occupied.items kept_is c.args.class n cl read c.if-header-eq0.false in
    let end = words_within lookup key k s.remembered.items s.occupied.items kept_is (n - 1) live.1 in
    omega (arith, c.base-base.ensures.base, c.base-base.ensures.few, c.capacity-capacity.ensures.capacity)

pub offset_bounds-deref-base : goal.offset_bounds-deref-base
offset_bounds-deref-base c =
    let a = c.args.arena.now in
    let key = a.key in
    let s = c.args.self.now in
    let k = keeper_of s.seat.me.0 in
    let kept_is = c.requires.arena.1 in
    let cl : c.args.class.class < class_total key.origin = c.requires.class in
    let n = c.index-header.result.now in
    let read : n ≡ slice_index k.words (header_at c.args.class) = header_read s.words.items k.words (header_at c.args.class) n (length k.words) s.words_are (c.index-header.ensures ∙ ap (λ (i : ℕ). get_or s.words.items i n) c.header_at-at.ensures) refl (let hi = header_inside (layout_of key) c.args.class cl in omega (arith, kept_is.tidy.kept.words, hi)) in
    let live = live_of lookup key k s.remembered.items s.occupied.items kept_is c.args.class n cl read c.if-header-eq0.false in
    let end = words_within lookup key k s.remembered.items s.occupied.items kept_is (n - 1) live.1 in
    omega (arith, c.base-base.ensures.base, c.base-base.ensures.few, c.capacity-capacity.ensures.capacity)

pub slice_bounds-placement_in_array-end : goal.slice_bounds-placement_in_array-end
slice_bounds-placement_in_array-end c =
    let a = c.args.arena.now in
    let key = a.key in
    let s = c.args.self.now in
    let k = keeper_of s.seat.me.0 in
    let kept_is = c.requires.arena.1 in
    let cl : c.args.class.class < class_total key.origin = c.requires.class in
    let n = c.index-header.result.now in
    let read : n ≡ slice_index k.words (header_at c.args.class) = header_read s.words.items k.words (header_at c.args.class) n (length k.words) s.words_are (c.index-header.ensures ∙ ap (λ (i : ℕ). get_or s.words.items i n) c.header_at-at.ensures) refl (let hi = header_inside (layout_of key) c.args.class cl in omega (arith, kept_is.tidy.kept.words, hi)) in
    let live = live_of lookup key k s.remembered.items s.occupied.items kept_is c.args.class n cl read c.if-header-eq0.false in
    let end = words_within lookup key k s.remembered.items s.occupied.items kept_is (n - 1) live.1 in
    let top : c.base-base.result + c.capacity-capacity.result ≤ length c.deref.result.now = omega (arith, c.base-base.ensures.base, c.capacity-capacity.ensures.capacity, end, kept_is.tidy.kept.words, ap (λ (l : List ℕ). length l) (c.deref.ensures.value ∙ s.words_are)) in
    let low : c.base-base.result ≤ c.base-base.result + c.capacity-capacity.result = omega arith in
    search rules

pub placement_in_array-requires-clause-occupied : goal.placement_in_array-requires-clause-occupied
placement_in_array-requires-clause-occupied c =
    let a = c.args.arena.now in
    let key = a.key in
    let s = c.args.self.now in
    let k = keeper_of s.seat.me.0 in
    let kept_is = c.requires.arena.1 in
    let cl : c.args.class.class < class_total key.origin = c.requires.class in
    let n = c.index-header.result.now in
    let read : n ≡ slice_index k.words (header_at c.args.class) = header_read s.words.items k.words (header_at c.args.class) n (length k.words) s.words_are (c.index-header.ensures ∙ ap (λ (i : ℕ). get_or s.words.items i n) c.header_at-at.ensures) refl (let hi = header_inside (layout_of key) c.args.class cl in omega (arith, kept_is.tidy.kept.words, hi)) in
    let live = live_of lookup key k s.remembered.items s.occupied.items kept_is c.args.class n cl read c.if-header-eq0.false in
    let end = words_within lookup key k s.remembered.items s.occupied.items kept_is (n - 1) live.1 in
    let are = live_words_are lookup key k s.remembered.items s.occupied.items kept_is c.deref.result.now s.words.items c.base-base.result c.capacity-capacity.result (n - 1) c.deref.ensures.value s.words_are c.base-base.ensures.base c.capacity-capacity.ensures.capacity in
    let long = array_length (layout_of key) k (n - 1) end in
    c.index.ensures ∙ get_or_default s.occupied.items (n - 1) c.index.result.now 0 (omega (arith, kept_is.counts, live.1)) ∙ kept_is.counted (n - 1) live.1 ∙ ap occupied_in (sym are)

pub placement_in_array-requires-clause-room : goal.placement_in_array-requires-clause-room
placement_in_array-requires-clause-room c =
    let a = c.args.arena.now in
    let key = a.key in
    let s = c.args.self.now in
    let k = keeper_of s.seat.me.0 in
    let kept_is = c.requires.arena.1 in
    let cl : c.args.class.class < class_total key.origin = c.requires.class in
    let n = c.index-header.result.now in
    let read : n ≡ slice_index k.words (header_at c.args.class) = header_read s.words.items k.words (header_at c.args.class) n (length k.words) s.words_are (c.index-header.ensures ∙ ap (λ (i : ℕ). get_or s.words.items i n) c.header_at-at.ensures) refl (let hi = header_inside (layout_of key) c.args.class cl in omega (arith, kept_is.tidy.kept.words, hi)) in
    let live = live_of lookup key k s.remembered.items s.occupied.items kept_is c.args.class n cl read c.if-header-eq0.false in
    let end = words_within lookup key k s.remembered.items s.occupied.items kept_is (n - 1) live.1 in
    let are = live_words_are lookup key k s.remembered.items s.occupied.items kept_is c.deref.result.now s.words.items c.base-base.result c.capacity-capacity.result (n - 1) c.deref.ensures.value s.words_are c.base-base.ensures.base c.capacity-capacity.ensures.capacity in
    let long = array_length (layout_of key) k (n - 1) end in
    let few = kept_is.within c.args.class (n - 1) live.0 in
    let is = c.index.ensures ∙ get_or_default s.occupied.items (n - 1) c.index.result.now 0 (omega (arith, kept_is.counts, live.1)) in
    subst (λ (m : ℕ). c.index.result.now ≤ fill_limit m) (sym (ap (λ (l : List ℕ). length l) are ∙ long)) (omega (arith, is, few))

pub returns-clause-placement : goal.returns-clause-placement
returns-clause-placement c =
    let a = c.args.arena.now in
    let key = a.key in
    let s = c.args.self.now in
    let k = keeper_of s.seat.me.0 in
    let kept_is = c.requires.arena.1 in
    let cl : c.args.class.class < class_total key.origin = c.requires.class in
    let n = c.index-header.result.now in
    let read : n ≡ slice_index k.words (header_at c.args.class) = header_read s.words.items k.words (header_at c.args.class) n (length k.words) s.words_are (c.index-header.ensures ∙ ap (λ (i : ℕ). get_or s.words.items i n) c.header_at-at.ensures) refl (let hi = header_inside (layout_of key) c.args.class cl in omega (arith, kept_is.tidy.kept.words, hi)) in
    let live = live_of lookup key k s.remembered.items s.occupied.items kept_is c.args.class n cl read c.if-header-eq0.false in
    let end = words_within lookup key k s.remembered.items s.occupied.items kept_is (n - 1) live.1 in
    let are = live_words_are lookup key k s.remembered.items s.occupied.items kept_is c.deref.result.now s.words.items c.base-base.result c.capacity-capacity.result (n - 1) c.deref.ensures.value s.words_are c.base-base.ensures.base c.capacity-capacity.ensures.capacity in
    let long = array_length (layout_of key) k (n - 1) end in
    c.placement_in_array.ensures.placement ∙ placement_by (layout_of key) s.remembered.items k c.args.class (selector_number c.args.selector) (n - 1) _ live.2 are (ap (λ (l : List ℕ). length l) are ∙ long)
