use Rattle.std.proofs.Common.{◌≡◌, ◌∙◌, ap, subst, sym}
use Rattle.msg_cache.specs.Ours.{opened}
use Rattle.msg_cache.specs.Plays.{given_again}
use Rattle.msg_names.specs.Number.{selector_number, imp_number}
use Rattle.msg_cache.specs.Views.{ArenaView, layout}
use Rattle.msg_cache.specs.declared.answer.Report.{Report}
use Rattle.msg_runtime.specs.Parts.{IsFilled, keeper_view, keeper_remembered, keeper_report}
use Rattle.msg_runtime.specs.View.{RuntimeView}
use Rattle.msg_runtime.proofs.runtime.Runtime.answer.Goals as goal

pub returns-clause-cached : goal.returns-clause-cached
returns-clause-cached c =
    let s = selector_number c.args.sel in
    let i = imp_number c.lookup-imp.result in
    let was = c.self.inside.keeper in
    let now = c.cache_found.new.keeper in
    let k = keeper_view now in
    let here = subst (λ (a : ArenaView). IsFilled (layout a) (keeper_remembered was) c.args.class s i (keeper_view was) k (keeper_report was) (keeper_report now)) c.requires.arena c.cache_found.ensures.filled in
    let seen = subst (λ (r : RuntimeView). IsFilled (layout c.args.self.now.arena) r.remembered c.args.class s i r.keeper k r.report (keeper_report now)) c.self.view_is here in
    let counted = subst (λ (r : Report). IsFilled (layout c.args.self.now.arena) c.args.self.now.remembered c.args.class s i c.args.self.now.keeper k c.args.self.now.report r) (sym (c.renew.ensures.report ∙ c.open.ensures.report)) seen in
    let lies_open = subst (λ (a : ArenaView). keeper_view c.open.new.self ≡ opened (layout a) c.args.class k) c.requires.arena c.open.ensures.view in
    (k, counted, c.renew.ensures.view ∙ ap (given_again c.args.reader.now.sender) lies_open)
