use Rattle.std.proofs.Common.{ℕ, sym, subst}
use mathlib.Core.Option.{none}
use Rattle.atomic_table.specs.Table.{step, Allows}
use Rattle.msg_tables.specs.History.{lookup}
use Rattle.msg_cache.specs.Layout.{layout_of, probe_at}
use Rattle.msg_cache.specs.Rule.{holds, TidyBy}
use Rattle.msg_cache.specs.Plays.{keeper_of, Looks}
use Rattle.msg_cache.proofs.AllowedKeeper.{look_allowed, tidied, kept_is}
use Rattle.msg_cache.proofs.steps.load_probe.Goals as goal

pub load-requires : goal.load-requires
load-requires g c =
    let seat = c.args.seat.now in
    let key = c.args.words.now.key in
    let n = c.args.words.now.table_id.slots in (
      c.requires.table.0,
      c.requires.table.1,
      rw (c.requires.about.0, c.requires.about.1)
          (subst (λ (i : ℕ). Allows (holds lookup key) n seat.id seat.me i (λ x. x) (λ f m'. Looks c.args.number (step n i 0 0 none) seat.me f m' × TidyBy lookup key (keeper_of m'.0))) (sym c.requires.word.0)
          (tidied lookup key n seat.id seat.me c.requires.keeper (probe_at (layout_of key) c.args.number) (λ x. x) (Looks c.args.number (step n (probe_at (layout_of key) c.args.number) 0 0 none) seat.me)
          (look_allowed lookup key n seat.id seat.me c.requires.keeper c.args.number c.requires.word.1)
          (λ x m' t. kept_is _ m' t))),
    )
