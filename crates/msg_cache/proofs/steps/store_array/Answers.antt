use Rattle.std.proofs.Common.{ℕ, ◌≡◌, ◌+◌, suc, refl, subst, arith}
use mathlib.Core.Option.{none}
use Rattle.atomic_table.specs.Table.{step, Allows}
use Rattle.msg_tables.specs.History.{lookup}
use Rattle.msg_cache.specs.Layout.{header_at}
use Rattle.msg_cache.specs.Rule.{holds, TidyBy}
use Rattle.msg_cache.specs.Plays.{keeper_of, Installs}
use Rattle.msg_cache.proofs.AllowedKeeper.{install_allowed, tidied, kept_is}
use Rattle.msg_cache.proofs.steps.store_array.Goals as goal

pub store-requires : goal.store-requires
store-requires g c =
    let seat = c.args.seat.now in
    let key = c.args.words.now.key in
    let n = c.args.words.now.table_id.slots in
    let i : ℕ = header_at c.args.class in
    let next : suc c.args.array ≡ c.args.array + 1 = omega arith in
    rw (c.requires.about, c.header_at.ensures) (
      c.requires.table.0,
      c.requires.table.1,
      subst (λ (w : ℕ). Allows (holds lookup key) n seat.id seat.me i (λ _. w) (λ _ m'. Installs (step n i w 0 none) seat.me w m' × TidyBy lookup key (keeper_of m'.0))) next
          (tidied lookup key n seat.id seat.me c.requires.keeper i (λ _. suc c.args.array) (λ _. Installs (step n i (suc c.args.array) 0 none) seat.me (suc c.args.array))
          (install_allowed lookup key n seat.id seat.me c.requires.keeper c.args.class c.args.array c.requires.class c.requires.array c.requires.free c.requires.clear)
          (λ x m' t. kept_is _ m' (t c.args.class c.args.array refl refl))),
    )
