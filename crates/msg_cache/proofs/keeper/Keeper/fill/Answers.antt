use Rattle.std.proofs.Common.{ℕ, refl, sym, ap, ◌∙◌}
use Rattle.msg_cache.specs.declared.view.KeeperView.{KeeperView}
use Rattle.msg_cache.specs.Layout.{layout_of}
use Rattle.msg_tables.specs.History.{lookup}
use Rattle.msg_cache.specs.Plays.{keeper_of}
use Rattle.msg_names.specs.Number.{selector_number, imp_number}
use Rattle.msg_cache.proofs.OrderLemmas.{collects_rest, fills_grown, fills_none}
use Rattle.msg_cache.proofs.keeper.Keeper.fill.Goals as goal

pub grow-requires-in-Some-free_array-clause-agrees : goal.grow-requires-in-Some-free_array-clause-agrees
grow-requires-in-Some-free_array-clause-agrees c =
    let F : KeeperView → ℕ = λ x. lookup x.history c.args.class (selector_number c.args.selector) in
    c.requires.agrees ∙ ap F (sym (collects_rest c.collect-freed.ensures.collects))

pub returns-in-Some-free_array-clause-fills : goal.returns-in-Some-free_array-clause-fills
returns-in-Some-free_array-clause-fills c =
    let z = layout_of c.args.arena.now.key in
    let k = keeper_of c.args.self.now.seat.me.0 in
    let j = keeper_of c.collect-freed.new.self.seat.me.0 in
    fills_grown z c.args.self.now.remembered.items c.args.class (selector_number c.args.selector) (imp_number c.args.implementation) c.in-Take.capacity c.collect-freed.result k j (keeper_of c.grow-in-Some-free_array.new.self.seat.me.0)
    (sym c.placement.ensures.placement ∙ c.in-Take.is) (sym c.free_array.ensures.lowest ∙ c.in_default.is) c.collect-freed.ensures.collects c.in-Some-free_array.array
    (sym c.free_array-in-Take.ensures.lowest ∙ c.in-Some-free_array.is) c.grow-in-Some-free_array.ensures.view

pub returns-in_default-free_array-clause-fills : goal.returns-in_default-free_array-clause-fills
returns-in_default-free_array-clause-fills c =
    let z = layout_of c.args.arena.now.key in
    let k = keeper_of c.args.self.now.seat.me.0 in
    let j = keeper_of c.collect-freed.new.self.seat.me.0 in
    fills_none z c.args.self.now.remembered.items c.args.class (selector_number c.args.selector) (imp_number c.args.implementation) c.in-Take.capacity c.collect-freed.result k j j
    (sym c.placement.ensures.placement ∙ c.in-Take.is) (sym c.free_array.ensures.lowest ∙ c.in_default.is) c.collect-freed.ensures.collects (sym c.free_array-in-Take.ensures.lowest ∙ c.in_default-free_array.is) refl
