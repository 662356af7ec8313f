use Rattle.std.proofs.Common.{ℕ, ◌+◌, sym, subst}
use mathlib.Core.Option.{none}
use Rattle.atomic_table.specs.Table.{step, Allows}
use Rattle.msg_tables.specs.History.{lookup}
use Rattle.msg_cache.specs.Layout.{layout_of, base}
use Rattle.msg_cache.specs.Rule.{holds, TidyBy}
use Rattle.msg_cache.specs.Plays.{keeper_of, Stores}
use Rattle.msg_cache.proofs.AllowedKeeper.{clear_allowed, tidied, kept_is}
use Rattle.msg_cache.proofs.steps.clear_word.Goals as goal

pub store-requires : goal.store-requires
store-requires g c =
    let seat = c.args.seat.now in
    let key = c.args.words.now.key in
    let n = c.args.words.now.table_id.slots in
    let w : ℕ = 0 in (
      c.requires.table.0,
      c.requires.table.1,
      rw c.requires.about
          (subst (λ (b : ℕ). Allows (holds lookup key) n seat.id seat.me (b + c.args.place) (λ _. w) (λ _ m'. Stores (step n (b + c.args.place) w 0 none) seat.me w m' × TidyBy lookup key (keeper_of m'.0))) (sym c.requires.place.0)
          (tidied lookup key n seat.id seat.me c.requires.keeper (base (layout_of key) c.args.array + c.args.place) (λ _. w) (λ _. Stores (step n (base (layout_of key) c.args.array + c.args.place) w 0 none) seat.me w)
          (clear_allowed lookup key n seat.id seat.me c.requires.keeper c.args.array c.args.place c.requires.free c.requires.place.1)
          (λ x m' t. kept_is _ m' t))),
    )
