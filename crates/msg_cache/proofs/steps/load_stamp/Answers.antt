use Rattle.msg_tables.specs.History.{lookup}
use Rattle.msg_cache.proofs.AllowedSender.{stamp_allowed}
use Rattle.msg_cache.proofs.steps.load_stamp.Goals as goal

pub load-requires : goal.load-requires
load-requires g c =
    let seat = c.args.seat.now in
    (c.requires.table.0, c.requires.table.1, rw (c.requires.place, c.requires.class_asked) (stamp_allowed lookup c.args.words.now.key c.args.words.now.table_id.slots seat.id seat.me c.requires.sender c.args._class c.requires.class c.requires.free))
