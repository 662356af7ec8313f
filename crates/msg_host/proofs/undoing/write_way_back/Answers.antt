use Rattle.std.proofs.Common.{◌≡◌, ◌<◌, ◌+◌, ◌-◌, length, take, drop, subst, sym, ap, ◌∙◌, arith}
use Rattle.std.proofs.lemmas.List.{length-set}
use Rattle.msg_tables.specs.Journal.{undo_entry, undo_journal}
use Rattle.msg_host.specs.Listing.{AreMeant, change_in}
use Rattle.msg_host.proofs.ListingLemmas.{one-more, undo-drop, undoing-meant}
use Rattle.msg_host.proofs.undoing.write_way_back.Goals as goal

pub loop-place-preserved : goal.loop-place-preserved
loop-place-preserved c =
    let es = c.args.entries.now in
    let i = c.loop-place.place in
    let e = c.index-entries-entries.result in
    let inside : i < length es = c.loop-place-test.true in
    record {
      meant = subst (AreMeant (take (i + 1) _)) (sym (undo-drop es i e inside c.index-entries-entries.is))
          (one-more c.loop-place.rows i c.undoing.result (undo_journal (drop (length es - i) es)) (undo_entry e) (omega (arith, inside, c.loop-place.invariant.length, c.requires)) (ap change_in c.undoing.ensures ∙ undoing-meant e) c.loop-place.invariant.meant);
      length = length-set c.loop-place.rows i c.undoing.result ∙ c.loop-place.invariant.length;
    }

pub returns-clause-meant : goal.returns-clause-meant
returns-clause-meant c =
    let es = c.args.entries.now in
    let end : c.loop-place.place ≡ length es = omega (arith, c.loop-place-test.false) in
    let none : length es - length es ≡ 0 = omega arith in
    subst (λ k. AreMeant (take (length es) c.loop-place.rows) (undo_journal (drop k es))) none
    (subst (λ n. AreMeant (take n c.loop-place.rows) (undo_journal (drop (length es - n) es))) end c.loop-place.invariant.meant)
