use Rattle.std.proofs.Common.{◌+◌, ◌^◌, ◌<◌, length, ap, subst, arith}
use Rattle.msg_model.specs.State.{capacity}
use Rattle.msg_cache.specs.Layout.{layout_of, base}
use Rattle.msg_cache.specs.Views.{ArenaView}
use Rattle.msg_cache.proofs.LayoutLemmas.{array_ends}
use Rattle.msg_cache.proofs.arena.Arena.base.Goals as goal

pub returns-clause-few : goal.returns-clause-few
returns-clause-few c =
    let z = layout_of c.self.inside.table.shared.key in
    let less : c.args.array < length z.capacities = omega (arith, c.requires, ap (λ (a : ArenaView). length a.key.capacities) c.self.view_is) in
    subst (λ (a : ArenaView). base (layout_of a.key) c.args.array + capacity (layout_of a.key) c.args.array < 2 ^ 32) c.self.view_is
    (omega (arith, array_ends z c.args.array less, c.self.invariant.words, c.self.invariant.few_words))
