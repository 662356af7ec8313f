use Rattle.std.proofs.Common.{◌≡◌, ◌≤◌, ◌<◌, ◌∙◌, ℕ, [], length, refl, sym, ap, subst, inl, arith}
use Rattle.std.proofs.lemmas.List.{length-set}
use Rattle.msg_model.specs.State.{first}
use Rattle.msg_names.specs.Number.{imp_number, selector_number}
use Rattle.msg_tables.proofs.BeginsLemmas.{begins_refl, begins_trans}
use Rattle.msg_reader.specs.Several.{IsNotedAmong, found_of}
use Rattle.msg_reader.proofs.ReaderLemmas.{as_long, missed_before}
use Rattle.msg_reader.proofs.SeveralLemmas.{first_is, found_next, lack_next, more_more, noted_next, noted_on, noted_one, noted_whole, stay_next, stay_on}
use Rattle.msg_reader.proofs.reader.Reader.try_find_all.Goals as goal

pub loop-place-init : goal.loop-place-init
loop-place-init g c = record {
  reader = c.refresh-count.ensures.reader;
  begins = begins_refl c.refresh-count.new.self.sender.front;
  notes = c.notes_are_of_longer_histories.ensures c.refresh-count.new.self.sender.front c.args.self.now.sender.front c.args.notes.now c.refresh-count.ensures.begins c.requires.notes;
  stamped = λ are. are;
  room = refl;
  found = refl;
  stamps = ([], c.refresh-count.ensures.stamps);
  most = omega arith;
  probed = omega (arith, c.refresh-count.ensures.no_probe.0);
  looks = c.refresh-count.ensures.looked;
  others = λ place none. (refl, refl);
  noted = λ place k i lt. absurd (omega (arith, lt));
  stays = inl refl;
}

pub returns-in_default-clause-stamped : goal.returns-in_default-clause-stamped
returns-in_default-clause-stamped g c = λ are. c.try_find_after.ensures.stamped (c.loop-place.invariant.stamped are)

pub returns-in_default-clause-recalled : goal.returns-in_default-clause-recalled
returns-in_default-clause-recalled g c =
    let v = c.args.self.now.sender in
    let some : length v.front.changes ≤ c.refresh-count.result = omega (arith, as_long c.refresh-count.new.self.sender.front v.front c.refresh-count.ensures.begins, c.refresh-count.ensures.length) in
    lack_next c.args.notes.now (g.L.LookupList.lookups c.args.lookups.now) c.get-lookup.result c.refresh-count.result v c.loop-place.self.sender c.try_find_after.new.self.sender some (c.loop-place.place, c.get-lookup.ensures) c.loop-place.invariant.stamps c.try_find_after.ensures.stamps
    c.loop-place.notes c.try_find_after.new.notes c.try_find_after.result c.in_default.is c.loop-place.invariant.stays c.try_find_after.ensures.recalled

pub returns-in_default-clause-missed : goal.returns-in_default-clause-missed
returns-in_default-clause-missed g c =
    let v = c.args.self.now.sender in
    let k = c.get-lookup.result in
    let some : length v.front.changes ≤ c.refresh-count.result = omega (arith, as_long c.refresh-count.new.self.sender.front v.front c.refresh-count.ensures.begins, c.refresh-count.ensures.length) in
    (k, (c.loop-place.place, c.get-lookup.ensures), missed_before c.args.arena.now k.class (selector_number k.sel) (length v.front.changes) c.refresh-count.result c.try_find_after.new.self.sender some c.in_default.ensures.missed)

pub loop-place-preserved : goal.loop-place-preserved
loop-place-preserved g c =
    let ks = g.L.LookupList.lookups c.args.lookups.now in
    let v = c.args.self.now.sender in
    let u = c.loop-place.self.sender in
    let w = c.try_find_after.new.self.sender in
    let k = c.get-lookup.result in
    let place = c.loop-place.place in
    let start = c.refresh-count.new.self.sender.front in
    let some : length v.front.changes ≤ c.refresh-count.result = omega (arith, as_long start v.front c.refresh-count.ensures.begins, c.refresh-count.ensures.length) in
    let on = begins_trans w.front u.front start c.try_find_after.ensures.begins c.loop-place.invariant.begins in
    let then = first_is w.front start c.refresh-count.result on c.refresh-count.ensures.length in
    let counted : imp_number c.in-Some.imp ≡ found_of (first c.refresh-count.result w.front) k = c.in-Some.ensures.counted in
    let is : c.number.result ≡ found_of start k = c.number.ensures ∙ counted ∙ ap (λ h. found_of h k) then in
    let noted = subst (λ (i : ℕ). IsNotedAmong c.try_find_after.new.notes u w k i) (sym c.number.ensures) c.in-Some.ensures.noted in
    let inside : place < length c.loop-place.imps = omega (arith, c.loop-place-test.true, c.len-place-end.ensures.count, c.loop-place.invariant.room, c.requires.room) in
    record {
      reader = c.try_find_after.ensures.reader;
      begins = on;
      notes = c.try_find_after.ensures.notes;
      stamped = λ are. c.try_find_after.ensures.stamped (c.loop-place.invariant.stamped are);
      room = length-set c.loop-place.imps place c.number.result ∙ c.loop-place.invariant.room;
      found = found_next start ks c.loop-place.imps place k c.number.result inside c.get-lookup.ensures is c.loop-place.invariant.found;
      stamps = more_more v u w c.loop-place.invariant.stamps c.try_find_after.ensures.stamps;
      most = omega (arith, c.loop-place-test.true, c.len-place-end.ensures.count);
      probed = omega (arith, c.try_find_after.ensures.probed, c.loop-place.invariant.probed);
      looks = c.try_find_after.ensures.looks ∙ c.loop-place.invariant.looks;
      others = λ p none. stay_on c.args.notes.now c.loop-place.notes c.try_find_after.new.notes p (c.loop-place.invariant.others p none) (c.try_find_after.ensures.others p (none k (place, c.get-lookup.ensures)));
      noted = noted_next (IsNotedAmong c.loop-place.notes v u) (IsNotedAmong c.try_find_after.new.notes v w) ks c.loop-place.imps place k c.number.result c.get-lookup.ensures
          (noted_one c.try_find_after.new.notes v u w k c.number.result c.loop-place.invariant.stamps noted)
          (λ j x. noted_on c.loop-place.notes c.try_find_after.new.notes v u w k j x c.try_find_after.ensures.others c.try_find_after.ensures.stamps) c.loop-place.invariant.noted;
      stays = stay_next c.args.notes.now ks k c.refresh-count.result v u w some (place, c.get-lookup.ensures) c.loop-place.invariant.stamps c.try_find_after.ensures.stamps c.loop-place.notes c.try_find_after.new.notes c.try_find_after.result c.loop-place.invariant.stays c.try_find_after.ensures.recalled;
    }

pub returns-clause-noted : goal.returns-clause-noted
returns-clause-noted g c = λ some.
    let ks = g.L.LookupList.lookups c.args.lookups.now in
    let all : length ks ≤ c.loop-place.place = omega (arith, c.loop-place-test.false, c.len-place-end.ensures.count) in
    noted_whole (IsNotedAmong c.loop-place.notes c.args.self.now.sender c.loop-place.self.sender) ks c.loop-place.imps c.loop-place.place all c.loop-place.invariant.noted

pub returns-in_default-clause-others : goal.returns-in_default-clause-others
returns-in_default-clause-others g c = λ p none.
    stay_on c.args.notes.now c.loop-place.notes c.try_find_after.new.notes p (c.loop-place.invariant.others p none)
    (c.try_find_after.ensures.others p (none c.get-lookup.result (c.loop-place.place, c.get-lookup.ensures)))

pub returns-in_default-clause-probed : goal.returns-in_default-clause-probed
returns-in_default-clause-probed g c = omega (arith, c.try_find_after.ensures.probed, c.loop-place.invariant.probed, c.loop-place-test.true, c.len-place-end.ensures.count)

pub returns-clause-probed : goal.returns-clause-probed
returns-clause-probed g c = omega (arith, c.loop-place.invariant.probed, c.loop-place.invariant.most)
