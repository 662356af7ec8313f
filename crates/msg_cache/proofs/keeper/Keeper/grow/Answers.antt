use Rattle.std.proofs.Common.{ℕ, ◌<◌, sym, ap, ◌∙◌, arith}
use Rattle.msg_tables.specs.Origin.{class_total}
use Rattle.msg_buckets.specs.Probing.{empty, probe_place}
use Rattle.msg_buckets.proofs.CapacityLemmas.{capacity_bounds}
use Rattle.msg_cache.specs.Layout.{layout_of}
use Rattle.msg_tables.specs.History.{lookup}
use Rattle.msg_cache.specs.Plays.{keeper_of}
use Rattle.msg_names.specs.Number.{selector_number}
use Rattle.msg_cache.proofs.OrderLemmas.{fresh_find}
use Rattle.msg_cache.proofs.keeper.Keeper.grow.Goals as goal

pub put-requires-clause-found : goal.put-requires-clause-found
put-requires-clause-found c =
    let a = c.args.arena.now in
    let key = a.key in
    let z = layout_of key in
    let s = c.args.self.now in
    let k = keeper_of s.seat.me.0 in
    let cl : c.args.class.class < class_total key.origin = c.requires.class in
    let fresh = fresh_find lookup key k (keeper_of c.install.new.self.seat.me.0) s.remembered.items s.occupied.items c.requires.arena.1 c.args.class c.args.array (selector_number c.args.selector) cl c.requires.array c.requires.free (omega (arith, c.capacity.ensures.capacity, (capacity_bounds c.capacity.result c.capacity.ensures.listed).0)) c.install.ensures.view in
    fresh.0 ∙ ap empty (ap (λ (n : ℕ). probe_place (selector_number c.args.selector) n 0) (sym c.capacity.ensures.capacity) ∙ sym c.first_place-place.ensures.first)

pub put-requires-clause-room : goal.put-requires-clause-room
put-requires-clause-room c =
    let a = c.args.arena.now in
    let key = a.key in
    let z = layout_of key in
    let s = c.args.self.now in
    let k = keeper_of s.seat.me.0 in
    let cl : c.args.class.class < class_total key.origin = c.requires.class in
    let fresh = fresh_find lookup key k (keeper_of c.install.new.self.seat.me.0) s.remembered.items s.occupied.items c.requires.arena.1 c.args.class c.args.array (selector_number c.args.selector) cl c.requires.array c.requires.free (omega (arith, c.capacity.ensures.capacity, (capacity_bounds c.capacity.result c.capacity.ensures.listed).0)) c.install.ensures.view in
    omega (arith, fresh.1, c.capacity.ensures.capacity, (capacity_bounds c.capacity.result c.capacity.ensures.listed).0)
