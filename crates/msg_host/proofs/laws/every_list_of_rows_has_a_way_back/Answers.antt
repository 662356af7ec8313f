use Rattle.std.proofs.Common.{◌≡◌, ◌+◌, None, length, take, sym, ap, subst, ◌∙◌, arith}
use Rattle.msg_tables.specs.History.{log}
use Rattle.msg_tables.specs.Log as logs
use Rattle.msg_tables.specs.Log.{Log, table}
use Rattle.msg_tables.specs.ListLaws.{IsMadeAt}
use Rattle.msg_tables.specs.Origin.{IsSound, OriginView}
use Rattle.msg_tables.specs.RoomLaws.{LackRoomFor}
use Rattle.msg_tables.specs.Several.{and_all, refused_from}
use Rattle.msg_tables.specs.Undo.{AreFit, undo_all}
use Rattle.msg_host.specs.Listing.{AreMeant}
use Rattle.msg_host.proofs.ConfigLemmas.{host_origin_sound, few-classes}
use Rattle.msg_host.proofs.ListingLemmas.{meant-same}
use Rattle.msg_host.proofs.WayBackLemmas.{host-fit, log-as_one, length-all, rows-numbered}
use Rattle.msg_host.proofs.laws.every_list_of_rows_has_a_way_back.Goals as goal

pub returns : goal.returns
returns c = λ v w rows undo n is (xs, meant, made, held) (zs, also, back).
    let h = log v.keeper.history in
    let same : zs ≡ xs = meant-same rows zs xs also meant in
    let ys = undo_all (table h) xs in
    let means : AreMeant (take n undo) ys = subst (λ us. AreMeant (take n undo) (undo_all (table h) us)) same back in
    let longer : log w.keeper.history ≡ and_all h xs = ap log made.history ∙ log-as_one v.keeper.history xs in
    let ready : IsMadeAt h xs = record {
      sound = subst IsSound (sym is.origin.origin) (host_origin_sound is.origin.config (few-classes is.origin.config is.origin.within));
      fit = subst AreFit (sym is.origin.origin) (host-fit is.origin.config);
      log = is.log;
      accepted = c.parts_are_accepted_one_after_another.ensures.accepted h xs 0 made.accepted;
      numbered = rows-numbered rows xs meant;
    } in
    record {
      changes = ys;
      meant = means;
      accepted = λ few.
          let many : length (log w.keeper.history).changes ≡ length h.changes + length xs = ap (λ (g : Log). length g.changes) longer ∙ length-all h xs in
          let limit = ap (λ (o : OriginView). o.limits.changes) is.origin.origin in
          subst (λ g. refused_from 0 g ys ≡ None) (sym longer) (c.a_way_back_is_accepted.ensures h xs ready (omega (arith, few, many, limit)));
      lookups = λ d s.
          ap (λ g. logs.lookup g d s) (log-as_one w.keeper.history ys ∙ ap (λ g. and_all g ys) longer) ∙ c.a_way_back_brings_back_each_lookup.ensures.lookups h xs d s ready;
      memory = λ place (us, means-too, accepted, lacks).
          let these : us ≡ ys = meant-same (take n undo) us ys means-too means in
          c.a_way_back_wants_no_memory.ensures.memory h xs w.rooms w.written.room (place + 1) ready held.rows held.entries
          (subst (λ g. LackRoomFor w.rooms w.written.room g (take (place + 1) ys)) longer (subst (λ ts. LackRoomFor w.rooms w.written.room (log w.keeper.history) (take (place + 1) ts)) these lacks));
    }
