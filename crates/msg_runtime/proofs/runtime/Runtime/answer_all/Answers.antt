use Rattle.std.proofs.Common.{◌≡◌, ◌<◌, ◌≤◌, ◌∙◌, ℕ, [], length, refl, sym, ap, subst, arith}
use Rattle.std.proofs.lemmas.List.{length-set}
use Rattle.msg_tables.specs.History.{BeginsWith, History}
use Rattle.msg_tables.proofs.BeginsLemmas.{begins_refl, begins_trans}
use Rattle.msg_tables.proofs.TakeLemmas.{All-at}
use Rattle.msg_cache.specs.Views.{ArenaView, IsSenderOf, classes, layout}
use Rattle.msg_cache.specs.declared.view.KeeperView.{KeeperView}
use Rattle.msg_reader.specs.Notes.{StayStamped}
use Rattle.msg_reader.specs.Several.{IsNotedOrAt, found_of}
use Rattle.msg_reader.specs.declared.lookup.Lookup.{Lookup}
use Rattle.msg_reader.proofs.SeveralLemmas.{found_next, found_whole, more_more, noted_next, noted_or_later, noted_or_on, noted_or_one, noted_whole, same_both, stay_on}
use Rattle.msg_runtime.proofs.runtime.Runtime.answer_all.Goals as goal

pub loop-place-init : goal.loop-place-init
loop-place-init g c =
    let h = c.args.self.now.keeper.history in
    let saw = c.args.reader.now.sender.front in
    let sees = c.meet.new.reader.sender.front in
    let on : BeginsWith sees saw = subst (λ (f : History). BeginsWith f saw) (sym c.meet.ensures.front) c.meet.ensures.begins in
    record {
      arena = c.meet.ensures.arena;
      history = ap (λ (k : KeeperView). k.history) c.meet.ensures.keeper;
      remembered = c.meet.ensures.remembered;
      room = c.meet.ensures.room;
      rested = c.meet.ensures.rested;
      reader = c.meet.ensures.reader;
      number = c.meet.ensures.number;
      begins = subst (λ (f : History). BeginsWith f h) (sym c.meet.ensures.front) (begins_refl h);
      notes = c.notes_are_of_longer_histories.ensures sees saw c.args.notes.now on c.requires.notes;
      stamped = λ are. are;
      stamps = ([], c.meet.ensures.stamps);
      others = λ place none. (refl, refl);
      noted = λ place k i lt. absurd (omega (arith, lt));
      places = c.requires.places;
      found = λ b. refl;
    }

pub recall_or_answer-imp-requires-clause-class : goal.recall_or_answer-imp-requires-clause-class
recall_or_answer-imp-requires-clause-class g c =
    let k = c.get-lookup.result in
    let asked = All-at (λ (x : Lookup). x.class.class < classes c.args.self.now.arena) (g.L.LookupList.lookups c.args.lookups.now) c.loop-place.place k c.requires.asked c.get-lookup.ensures in
    subst (λ (a : ArenaView). k.class.class < classes a) (sym c.loop-place.invariant.arena) asked

pub recall_or_answer-imp-requires-clause-reader : goal.recall_or_answer-imp-requires-clause-reader
recall_or_answer-imp-requires-clause-reader g c = subst (λ (a : ArenaView). IsSenderOf a c.loop-place.reader) (sym c.loop-place.invariant.arena) c.loop-place.invariant.reader

pub loop-place-preserved : goal.loop-place-preserved
loop-place-preserved g c =
    let ks = g.L.LookupList.lookups c.args.lookups.now in
    let h = c.args.self.now.keeper.history in
    let k = c.get-lookup.result in
    let place = c.loop-place.place in
    let saw = c.loop-place.reader.sender.front in
    let reader = c.recall_or_answer-imp.new.reader in
    let n = c.recall_or_answer-imp.new.notes in
    let v = c.args.reader.now.sender in
    let u = c.loop-place.reader.sender in
    let w = reader.sender in
    let sees = reader.sender.front in
    let e = c.recall_or_answer-imp.ensures in
    let inv = c.loop-place.invariant in
    let on = begins_trans sees saw h e.begins inv.begins in
    let noted = subst (λ (t : History × ℕ). IsNotedOrAt t.0 n u w k t.1) (λ z. (inv.history z, sym c.number.ensures z)) e.noted in
    let inside : place < length c.loop-place.imps = omega (arith, c.loop-place-test.true, c.len-place-end.ensures.count, inv.places) in
    record {
      arena = e.arena ∙ inv.arena;
      history = e.history ∙ inv.history;
      remembered = e.remembered ∙ inv.remembered;
      room = (e.room.0 ∙ inv.room.0, e.room.1 ∙ inv.room.1);
      rested = e.rested ∙ inv.rested;
      reader = subst (λ (a : ArenaView). IsSenderOf a reader) inv.arena e.reader;
      number = e.number ∙ inv.number;
      begins = on;
      notes = e.notes;
      stamped = λ are. subst (λ (a : ArenaView). StayStamped (layout a) c.loop-place.notes c.recall_or_answer-imp.new.notes) inv.arena e.stamped (inv.stamped are);
      stamps = more_more v u w inv.stamps e.stamps;
      others = λ p none. stay_on c.args.notes.now c.loop-place.notes n p (inv.others p none) (e.others p (none k (place, c.get-lookup.ensures)));
      noted = noted_next (IsNotedOrAt h c.loop-place.notes v u) (IsNotedOrAt h n v w) ks c.loop-place.imps place k c.number.result c.get-lookup.ensures
          (noted_or_one h n n v u w k c.number.result inv.stamps noted)
          (λ j x. noted_or_on h c.loop-place.notes n v u w k j x e.others e.stamps) inv.noted;
      places = length-set c.loop-place.imps place c.number.result ∙ inv.places;
      found = λ b.
          let same = same_both sees h on b in
          let is : c.number.result ≡ found_of h k = c.number.ensures ∙ e.found ∙ ap (λ (f : History). found_of f k) same in
          found_next h ks c.loop-place.imps place k c.number.result inside c.get-lookup.ensures is (inv.found (begins_trans h sees saw b e.begins));
    }

pub returns-clause-found : goal.returns-clause-found
returns-clause-found g c =
    let ks = g.L.LookupList.lookups c.args.lookups.now in
    let saw = c.loop-place.reader.sender.front in
    let b = subst (λ (f : History). BeginsWith f saw) c.loop-place.invariant.history c.meet-2.ensures.begins in
    let all : length ks ≤ c.loop-place.place = omega (arith, c.loop-place-test.false, c.len-place-end.ensures.count) in
    found_whole c.args.self.now.keeper.history ks c.loop-place.imps c.loop-place.place c.loop-place.invariant.places all (c.loop-place.invariant.found b)

pub returns-clause-notes : goal.returns-clause-notes
returns-clause-notes g c =
    let saw = c.loop-place.reader.sender.front in
    let b = subst (λ (f : History). BeginsWith f saw) c.loop-place.invariant.history c.meet-2.ensures.begins in
    c.notes_are_of_longer_histories.ensures c.args.self.now.keeper.history saw c.loop-place.notes b c.loop-place.invariant.notes

pub returns-clause-noted : goal.returns-clause-noted
returns-clause-noted g c =
    let ks = g.L.LookupList.lookups c.args.lookups.now in
    let h = c.args.self.now.keeper.history in
    let v = c.args.reader.now.sender in
    let u = c.loop-place.reader.sender in
    let w = c.meet-2.new.reader.sender in
    let n = c.loop-place.notes in
    let all : length ks ≤ c.loop-place.place = omega (arith, c.loop-place-test.false, c.len-place-end.ensures.count) in
    λ place k i lt here has last.
    noted_or_later h n n v u w k i ([], c.meet-2.ensures.stamps)
    (noted_whole (IsNotedOrAt h n v u) ks c.loop-place.imps c.loop-place.place all c.loop-place.invariant.noted place k i lt here has last)
