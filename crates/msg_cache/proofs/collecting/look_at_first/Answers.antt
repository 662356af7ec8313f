use Rattle.std.proofs.Common.{◌≡◌, ℕ, suc, ◌+◌, ◌<◌, length, set, false, sym, ap, ◌∙◌, subst, arith}
use Rattle.std.proofs.lemmas.List.{get_or-set_other}
use Rattle.std.proofs.Math.ListN.{length-set}
use Rattle.msg_cache.specs.Plays.{looked, Sat, kept, keeper_of}
use Rattle.msg_cache.specs.Keeping.{looks}
use Rattle.msg_cache.proofs.ClearingLemmas.{looks_more}
use Rattle.msg_cache.specs.Layout.{SettingView}
use Rattle.msg_cache.specs.Rule.{TidyBy}
use Rattle.msg_tables.specs.History.{lookup}
use Rattle.msg_cache.proofs.collecting.look_at_first.Goals as goal

pub loop-number-preserved : goal.loop-number-preserved
loop-number-preserved c =
    let i = c.loop-number.invariant in
    let n = c.loop-number.number in
    let outs = c.loop-number.were.items in
    let r = c.load_probe.result in
    let k0 = keeper_of c.args.seat.now.me.0 in
    let next : suc n ≡ n + 1 = omega arith in
    let lt : n < length outs = let o = c.requires.were in let k = c.requires.known in let t = c.loop-number-test.true in omega (arith, i.long) in record {
      table = c.load_probe.ensures.seat.0 ∙ i.table;
      id = c.load_probe.ensures.seat.1 ∙ i.id;
      told = c.load_probe.ensures.told ∙ ap (λ (x : Sat). kept (looked n r (keeper_of x.0))) i.told
          ∙ ap kept (sym (looks_more n outs r k0 lt)) ∙ ap (λ (m : ℕ). kept (looks m (set outs n r) k0)) next;
      long = length-set outs n r ∙ i.long;
      others = λ m le. get_or-set_other outs n m r false (λ e. omega arith) ∙ i.others m (omega arith);
      tidy = subst (λ (x : SettingView). TidyBy lookup x (keeper_of c.load_probe.new.seat.me.0)) c.shared-shared.ensures.key c.load_probe.ensures.tidy;
    }
