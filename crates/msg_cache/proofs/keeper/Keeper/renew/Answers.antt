use Rattle.std.proofs.Common.{◌≡◌, ℕ, List, Bool, true, false, ap, sym, ◌∙◌, subst, arith, rules}
use Rattle.std.specs.Prelude.{slice_set}
use Rattle.std.proofs.lemmas.List.{get_or-set_other, set-set}
use Rattle.msg_cache.specs.declared.view.SenderView.{SenderView}
use Rattle.msg_tables.specs.History.{lookup}
use Rattle.msg_cache.specs.declared.view.KeeperView.{KeeperView}
use Rattle.msg_cache.specs.Layout.{SettingView}
use Rattle.msg_cache.specs.Rule.{TidyBy}
use Rattle.msg_cache.specs.Uses.{settled}
use Rattle.msg_cache.specs.Plays.{keeper_of, taken_in, given_out}
use Rattle.msg_cache.specs.Keeping.{InOrder}
use Rattle.msg_cache.proofs.OrderLemmas.{kept_given, kept_taken}
use Rattle.msg_cache.proofs.TidyLemmas.{tidy_given}
use Rattle.msg_cache.proofs.keeper.Keeper.renew.Goals as goal

pub returns-clause-arena : goal.returns-clause-arena
returns-clause-arena c =
    let key = c.args.arena.now.key in
    let s = c.args.self.now in
    let k = keeper_of s.seat.me.0 in
    let v = c.args.prober.now.sender in
    let two : keeper_of c.renew.new.keeper.me.0 ≡ given_out v.number (taken_in v k) = search rules in
    let tidy = subst (λ (x : SettingView). TidyBy lookup x (taken_in v k)) c.shared.ensures.key c.renew.ensures.tidy in
    let taken = kept_taken lookup key k s.remembered.items s.occupied.items c.requires.arena.1 v tidy in (
      c.renew.ensures.table ∙ c.requires.arena.0,
      subst (λ (y : KeeperView). InOrder lookup key y s.remembered.items s.occupied.items) (sym two)
          (kept_given lookup key (taken_in v k) s.remembered.items s.occupied.items taken v.number (tidy_given lookup key (taken_in v k) v.number tidy)),
      c.requires.arena.2,
    )

pub invariant_of-self-clause-given_are : goal.invariant_of-self-clause-given_are
invariant_of-self-clause-given_are c =
    let s = c.args.self.now in
    let k = keeper_of s.seat.me.0 in
    let v = c.args.prober.now.sender in
    let two : keeper_of c.renew.new.keeper.me.0 ≡ given_out v.number (taken_in v k) = search rules in
    let number : c.number-number.result ≡ v.number = c.number-number.ensures ∙ ap (λ (w : SenderView). w.number) c.renew.ensures.sender in
    ap (λ (n : ℕ). slice_set s.given.items n true) number
    ∙ ap (λ (g : List Bool). slice_set g v.number true) s.given_are
    ∙ sym (set-set k.given v.number false true)
    ∙ ap (λ (j : KeeperView). j.given) (sym two)

pub invariant_of-self-clause-standings_are : goal.invariant_of-self-clause-standings_are
invariant_of-self-clause-standings_are c =
    let s = c.args.self.now in
    let v = c.args.prober.now.sender in
    let two : keeper_of c.renew.new.keeper.me.0 ≡ given_out v.number (taken_in v (keeper_of s.seat.me.0)) = search rules in
    s.standings_are ∙ ap (λ (j : KeeperView). settled s.standings.senders j.standings) (sym two)

pub invariant_of-self-clause-nobody : goal.invariant_of-self-clause-nobody
invariant_of-self-clause-nobody c = λ n le.
    let s = c.args.self.now in
    let known = c.know.ensures in
    get_or-set_other s.given.items c.number-number.result n true false (λ e. omega (arith, known.number)) ∙ s.nobody n (omega (arith, known.known))
