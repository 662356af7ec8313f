use Rattle.std.proofs.Common.{◌≡◌, ◌∙◌, ap, refl, subst, sym}
use Rattle.msg_tables.specs.Noted.{WrittenView}
use Rattle.msg_host.specs.Listing.{TellsRowsBack}
use Rattle.msg_host.proofs.ListingLemmas.{rows_undone}
use Rattle.msg_host.proofs.WayBackLemmas.{taken_back}
use Rattle.msg_host.proofs.runtime.HostedRuntime.make_all_with_undo.Goals as goal

pub returns-clause-back : goal.returns-clause-back
returns-clause-back c = λ done.
    let v = c.args.self.now in
    let w = c.change_rows.new.self in
    let rows = c.args.rows.now in
    let undo = c.write_way_back.new.rows in
    let same : c.as_slice-entries.result.now ≡ w.written.entries = c.as_slice-entries.ensures ∙ ap (λ (x : WrittenView). x.entries) c.written.ensures in
    let told = subst (TellsRowsBack rows v.keeper.history) (sym same) c.in-Ok.ensures.back in
    let undoes = rows_undone rows undo v.keeper.history _ c.as_slice-entries.result.now told refl c.write_way_back.ensures.meant in
    taken_back v w rows undo _ c.every_list_of_rows_has_a_way_back.ensures c.count-accepted.ensures.hosts c.count-accepted.ensures.accepted c.in-Ok.ensures.made undoes
