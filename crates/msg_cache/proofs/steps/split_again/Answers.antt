use Rattle.msg_tables.specs.History.{lookup}
use Rattle.msg_cache.proofs.AllowedKeeper.{give_allowed}
use Rattle.msg_cache.proofs.steps.split_again.Goals as goal

pub split_seat-requires : goal.split_seat-requires
split_seat-requires g c =
    let seat = c.args.seat.now in
    (c.requires.table.0, c.requires.table.1, rw (c.requires.about, c.requires.stamped) (give_allowed lookup c.args.words.now.key 0 seat.id seat.me c.requires.keeper c.args.number c.args._before.now.value.sender.stamps c.requires.number c.requires.free))
