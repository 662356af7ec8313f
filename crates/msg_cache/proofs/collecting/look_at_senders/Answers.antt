use Rattle.std.proofs.Common.{◌≡◌, ℕ, ◌+◌, ◌-◌, List, Bool, sym, ap, ◌∙◌, arith}
use Rattle.msg_model.specs.State.{awaits}
use Rattle.msg_cache.specs.Keeping.{looks}
use Rattle.msg_cache.specs.Layout.{SettingView}
use Rattle.msg_cache.specs.Plays.{Sat, kept, keeper_of, rest_looked}
use Rattle.msg_cache.proofs.NobodyLemmas.{looks_all, looks_given}
use Rattle.msg_cache.proofs.collecting.look_at_senders.Goals as goal

pub look_at_rest-requires-clause-nobody : goal.look_at_rest-requires-clause-nobody
look_at_rest-requires-clause-nobody c = λ n le.
    let k0 = keeper_of c.args.seat.now.me.0 in
    ap (λ (x : Sat). awaits (keeper_of x.0).given n) c.look_at_first.ensures.told
    ∙ ap (λ (g : List Bool). awaits g n) (looks_given c.args.outs.now.known c.look_at_first.new.were.items k0)
    ∙ c.requires.nobody n le

pub returns-clause-told : goal.returns-clause-told
returns-clause-told c =
    let k0 = keeper_of c.args.seat.now.me.0 in
    let n = c.args.outs.now.known in
    let were = c.look_at_first.new.were.items in
    let senders = c.args.arena.now.key.senders in
    let d : ℕ = senders - n in
    let all : n + d ≡ senders = omega (arith, c.args.outs.now.within, c.requires.outs) in
    c.look_at_rest.ensures.told
    ∙ ap (λ (x : SettingView). kept (rest_looked n (x.senders - n) (keeper_of c.look_at_first.new.seat.me.0))) c.shared.ensures.key
    ∙ ap (λ (x : Sat). kept (rest_looked n d (keeper_of x.0))) c.look_at_first.ensures.told
    ∙ ap kept (sym (looks_all n d were k0 (λ m le lt. c.look_at_first.ensures.others m le ∙ c.args.outs.now.others m le (omega (arith, c.requires.outs)))))
    ∙ ap (λ (m : ℕ). kept (looks m were k0)) all
