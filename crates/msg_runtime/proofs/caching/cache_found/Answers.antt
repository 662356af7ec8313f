use Rattle.msg_names.specs.Number.{selector_number, imp_number}
use Rattle.msg_cache.specs.Ours.{view}
use Rattle.msg_cache.specs.Views.{layout}
use Rattle.msg_runtime.proofs.caching.cache_found.Goals as goal

pub returns-clause-history : goal.returns-clause-history
returns-clause-history c =
    let old = c.args.keeper.now in
    let s = selector_number c.args.sel in
    let i = imp_number c.args.imp in
    let kept = c.a_fill_changes_caches_alone.ensures (layout c.args.arena.now) old.remembered.items c.args.class s i (view old) (view c.fill-filled.new.self) c.fill-filled.result c.fill-filled.ensures.fills in
    kept.0

pub returns-clause-seats : goal.returns-clause-seats
returns-clause-seats c =
    let old = c.args.keeper.now in
    let s = selector_number c.args.sel in
    let i = imp_number c.args.imp in
    let kept = c.a_fill_changes_caches_alone.ensures (layout c.args.arena.now) old.remembered.items c.args.class s i (view old) (view c.fill-filled.new.self) c.fill-filled.result c.fill-filled.ensures.fills in
    λ j. (kept.1 j, kept.3 j)

pub returns-clause-filled : goal.returns-clause-filled
returns-clause-filled c = (c.fill-filled.result, c.fill-filled.ensures.fills, c.fill-filled.ensures.report)
