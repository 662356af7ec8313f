use Rattle.std.proofs.Common.{◌∙◌, sym, ap, refl, arith, length}
use Rattle.msg_names.specs.Number.{selector_number}
use Rattle.msg_buckets.specs.Probing.{hit}
use Rattle.msg_buckets.proofs.CapacityLemmas.{capacity_bounds}
use Rattle.msg_buckets.proofs.FindLemmas.{find_in-hit, find_in-empty, find_in-wrapped, none_yet}
use Rattle.msg_buckets.proofs.FullLemmas.{wrapped_is_full}
use Rattle.msg_buckets.proofs.array.find.Goals as goal

pub overflow_cast-capacity : goal.overflow_cast-capacity
overflow_cast-capacity c = omega (arith, capacity_bounds (length c.args.words.now) c.requires)

pub loop-step-init : goal.loop-step-init
loop-step-init c = record {
  within = omega (arith, c.first_place-place.ensures.within);
  place = c.first_place-place.ensures.first;
  none_yet = refl;
}

pub returns-in-Hit-clause-found : goal.returns-in-Hit-clause-found
returns-in-Hit-clause-found c =
    let i = c.loop-step.invariant in
    let found = find_in-hit c.args.words.now (selector_number c.args.selector) c.loop-step._step c.loop-step.place i.none_yet c.loop-step-test.true i.place c.args.selector.positive c.in-Hit.ensures.0 in
    sym (found ∙ ap hit c.in-Hit.ensures.1)

pub returns-in-Empty-clause-found : goal.returns-in-Empty-clause-found
returns-in-Empty-clause-found c =
    let i = c.loop-step.invariant in
    sym (find_in-empty c.args.words.now (selector_number c.args.selector) c.loop-step._step c.loop-step.place i.none_yet c.loop-step-test.true i.place c.in-Empty.ensures)

pub loop-step-preserved : goal.loop-step-preserved
loop-step-preserved c =
    let i = c.loop-step.invariant in
    record {
      within = c.next_place-place.ensures.within;
      place = c.next_place-place.ensures.next (selector_number c.args.selector) c.loop-step._step i.place;
      none_yet = none_yet c.args.words.now (selector_number c.args.selector) c.loop-step._step c.loop-step.place i.none_yet c.loop-step-test.true i.place c.in-Other.ensures.0 c.in-Other.ensures.1;
    }

pub returns-clause-found : goal.returns-clause-found
returns-clause-found c = sym (find_in-wrapped c.args.words.now (selector_number c.args.selector) c.loop-step._step c.loop-step.invariant.none_yet c.loop-step-test.false)

pub returns-clause-full : goal.returns-clause-full
returns-clause-full c =
    wrapped_is_full c.args.words.now (selector_number c.args.selector) (find_in-wrapped c.args.words.now (selector_number c.args.selector) c.loop-step._step c.loop-step.invariant.none_yet c.loop-step-test.false)
