use Rattle.msg_image.specs.Opened.{origin_of}
use Rattle.msg_bench.proofs.BeginLemmas.{begins}
use Rattle.msg_bench.proofs.bed.opened.Goals as goal

pub returns : goal.returns
returns c =
    let ok = c.in_ok-arena.ensures.ok in
    begins (origin_of c.args.image.now) c.args.config c.in_ok-arena.arena c.in_ok-arena.keeper c.in_ok-tables.tables ok.1 ok.3 c.in_ok-tables.ensures.stands c.in_ok-tables.ensures.classes c.requires
