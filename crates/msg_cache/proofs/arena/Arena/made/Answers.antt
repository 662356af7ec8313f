use Rattle.std.proofs.Common.{◌≡◌, ℕ, ◌*◌, List, length, All, None, sym, ap, ◌∙◌, subst, arith, rules}
use Rattle.msg_tables.specs.Origin.{class_total}
use Rattle.std.specs.Prelude.{replicate}
use Rattle.msg_buckets.specs.Capacity.{IsCapacity, capacities}
use Rattle.msg_tables.specs.History.{lookup}
use Rattle.msg_cache.specs.Config.{spread, refusal_of, setting_of}
use Rattle.msg_cache.specs.Layout.{SettingView, setting_for, total}
use Rattle.msg_cache.specs.Plays.{Sat, kept, keeper_of}
use Rattle.msg_cache.specs.Rule.{first_keeper}
use Rattle.msg_cache.proofs.ConfigLemmas.{spread_all, not_refused, total_spread}
use Rattle.msg_cache.specs.Keeping.{AreGroups, InOrder}
use Rattle.msg_cache.proofs.OrderLemmas.{kept_first}
use Rattle.msg_cache.proofs.arena.Arena.made.Goals as goal

pub of-requires-clause-capacities : goal.of-requires-clause-capacities
of-requires-clause-capacities c = subst (All IsCapacity) (sym c.in_ok-capacities.ensures) (spread_all IsCapacity c.args.config.arrays capacities (search rules))

pub of-requires-clause-senders : goal.of-requires-clause-senders
of-requires-clause-senders c =
    let none : refusal_of c.args.origin.now c.args.config ≡ None = search rules in
    let t = not_refused c.args.origin.now c.args.config none in
    let f = c.class_count-classes.ensures.sound.few_senders in (t.0, omega (arith, t.1))

pub of-requires-clause-room : goal.of-requires-clause-room
of-requires-clause-room c =
    let none : refusal_of c.args.origin.now c.args.config ≡ None = search rules in
    let t = (not_refused c.args.origin.now c.args.config none).2 in
    let f = c.class_count-classes.ensures.sound.few_words in
    let s = total_spread c.args.config.arrays capacities in
    let u : total c.in_ok-capacities.capacities.items ≡ total (spread c.args.config.arrays capacities) = ap total c.in_ok-capacities.ensures in omega arith

pub of-requires-clause-firsts : goal.of-requires-clause-firsts
of-requires-clause-firsts c = subst (λ (l : List ℕ). AreGroups l c.firsts_of.result) (sym c.in_ok-capacities.ensures) c.firsts_of.ensures

pub returns-clause-ok : goal.returns-clause-ok
returns-clause-ok c =
    let none : refusal_of c.args.origin.now c.args.config ≡ None = search rules in
    let some_sender = (not_refused c.args.origin.now c.args.config none).0 in
    let key : SettingView = setting_of c.args.origin.now c.args.config in
    let is : c.in_ok-arena.arena.key ≡ key = c.in_ok-arena.ensures.key ∙ ap (setting_for c.args.origin.now c.args.config.senders) c.in_ok-capacities.ensures in
    let me = c.in_ok-keeper.ensures.seat ∙ c.in_ok-arena.ensures.seat ∙ ap (λ (k : SettingView). kept (first_keeper k)) is in
    let arrays : c.arrays-arrays.result ≡ length key.capacities = c.arrays-arrays.ensures.count ∙ ap (λ (k : SettingView). length k.capacities) is in
    let classes : c.class_count-classes.result ≡ class_total key.origin = c.class_count-classes.ensures.count in
    let has : c.in_ok-keeper.keeper.occupied.items ≡ replicate (length key.capacities) 0 = c.in_ok-keeper.ensures.occupied ∙ ap (λ (n : ℕ). replicate n 0) arrays in
    let rem : c.in_ok-keeper.keeper.remembered.items ≡ replicate (2 * class_total key.origin) 0 = c.in_ok-keeper.ensures.remembered ∙ ap (λ (n : ℕ). replicate (2 * n) 0) classes in (
      none,
      is,
      ap (λ (x : Sat). keeper_of x.0) me,
      (
        c.in_ok-keeper.ensures.table ∙ c.in_ok-arena.ensures.table,
        subst (λ (x : SettingView × Sat × List ℕ × List ℕ). InOrder lookup x.0 (keeper_of x.1.0) x.2 x.3) (λ i. (sym is i, sym me i, sym rem i, sym has i)) (kept_first lookup key c.class_count-classes.ensures.sound some_sender),
        c.in_ok-keeper.ensures.used ∙ arrays ∙ ap (λ (k : SettingView). length k.capacities) (sym is),
      ),
    )
