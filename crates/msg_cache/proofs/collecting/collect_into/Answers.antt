use Rattle.std.proofs.Common.{◌≡◌, ℕ, ◌+◌, ◌<◌, List, ◌∷◌, ◌++◌, [], map, length, take, drop, set, get_or, refl, sym, ap, ◌∙◌, subst, arith}
use Rattle.std.proofs.lemmas.List.{drop_more, take_more, take_all, drop_all}
use Rattle.std.specs.List.Sorted.{IsPermutation}
use Rattle.std.proofs.lemmas.List.Sorted.{length_permutation}
use Rattle.msg_model.specs.View.{standing_at}
use Rattle.msg_cache.specs.declared.view.KeeperView.{KeeperView}
use Rattle.msg_cache.specs.Layout.{layout_of}
use Rattle.msg_cache.specs.Keeping.{standing_of, looks, look_count, emptied, all_emptied, newly_free, freed}
use Rattle.msg_cache.specs.Uses.{StandingsView, ArrayUse, use_of, use_at}
use Rattle.msg_tables.specs.History.{lookup}
use Rattle.msg_cache.specs.Plays.{Sat, keeper_of}
use Rattle.msg_cache.proofs.AllowedKeeper.{kept_is}
use Rattle.msg_cache.proofs.SettledLemmas.{collects_nothing, looks_at_all, used_at, free_used, waiting_used, newly_ready, seen_uses, looks_length}
use Rattle.msg_cache.proofs.SweepingLemmas.{Swept, swept_none, swept_rest, swept_next, kept_swept, looks_rest}
use Rattle.msg_cache.proofs.collecting.collect_into.Goals as goal

pub see_out-freed-requires-clause-awaits_some : goal.see_out-freed-requires-clause-awaits_some
see_out-freed-requires-clause-awaits_some c = λ a aw e.
    let k0 = keeper_of c.args.seat.now.me.0 in
    let was = waiting_used (standing_at k0.standings a) aw (sym (used_at k0.standings a) ∙ ap (λ (v : StandingsView). use_at v.uses a) (sym c.requires.standings) ∙ e) in
    let t = c.requires.in_order.tidy.sound.lawful.awaits_some was.0 was.1 a aw was.2 in (t.0, t.2)

pub loop-turn-init : goal.loop-turn-init
loop-turn-init c =
    let n = c.args.arena.now.key.senders in
    let key = c.args.arena.now.key in
    let k0 = keeper_of c.args.seat.now.me.0 in
    let outs = c.look_at_senders.new.outs.were.items in
    let e = c.look_at_senders.ensures in
    let had = c.args.occupied.now.items in
    let at : keeper_of c.look_at_senders.new.seat.me.0 ≡ looks n outs k0 = ap (λ (x : Sat). keeper_of x.0) e.told in record {
      table = e.seat.0;
      id = e.seat.1;
      keeper = kept_is (looks n outs k0) c.look_at_senders.new.seat.me e.told;
      tidy = e.tidy;
      words = c.requires.words ∙ ap (λ (x : KeeperView). x.words) (sym (looks_rest n outs k0)) ∙ ap (λ (x : KeeperView). x.words) (sym at);
      senders = refl;
      uses = refl;
      ready = refl;
      swept = subst (λ (x : KeeperView). Swept (layout_of key) k0 x had [] x had) (sym at) (swept_none lookup key k0 c.args.remembered.now.items had n outs c.requires.in_order);
    }

pub clear_array-requires-clause-free : goal.clear_array-requires-clause-free
clear_array-requires-clause-free c =
    let n = c.args.arena.now.key.senders in
    let z = layout_of c.args.arena.now.key in
    let k0 = keeper_of c.args.seat.now.me.0 in
    let k = keeper_of c.loop-turn.seat.me.0 in
    let outs = c.look_at_senders.new.outs.were.items in
    let a = c.take_ready-array.result in
    let at : keeper_of c.look_at_senders.new.seat.me.0 ≡ looks n outs k0 = ap (λ (x : Sat). keeper_of x.0) c.look_at_senders.ensures.told in
    let uses = seen_uses n c.args.standings.now.senders outs k0 c.see_out-freed.new.self.uses (ap (λ (v : StandingsView). v.senders) c.requires.standings) (c.see_out-freed.ensures.uses k0.standings (ap (λ (v : StandingsView). v.uses) c.requires.standings)) in
    let rest = swept_rest z k0 n outs c.args.occupied.now.items (take c.loop-turn._turn c.see_out-freed.new.self.ready) k c.loop-turn.occupied.items
    (subst (λ (x : KeeperView). Swept z k0 x c.args.occupied.now.items (take c.loop-turn._turn c.see_out-freed.new.self.ready) k c.loop-turn.occupied.items) at c.loop-turn.invariant.swept) in
    ap (λ (x : KeeperView). standing_of x a) rest ∙ free_used (standing_at (looks n outs k0).standings a)
    (sym (used_at (looks n outs k0).standings a) ∙ ap (λ (l : List ArrayUse). use_at l a) (sym uses) ∙ ap (λ (l : List ArrayUse). use_at l a) (sym c.loop-turn.invariant.uses) ∙ c.take_ready-array.ensures.free.1)

pub loop-turn-preserved : goal.loop-turn-preserved
loop-turn-preserved c =
    let z = layout_of c.args.arena.now.key in
    let k0 = keeper_of c.args.seat.now.me.0 in
    let j = keeper_of c.look_at_senders.new.seat.me.0 in
    let k = keeper_of c.loop-turn.seat.me.0 in
    let i = c.loop-turn._turn in
    let v = c.loop-turn.invariant in
    let all = c.see_out-freed.new.self.ready in
    let a = c.take_ready-array.result in
    let left = c.take_ready-array.new.self.ready in
    let had = c.args.occupied.now.items in
    let has = c.loop-turn.occupied.items in
    let lt : i < length all = omega (arith, c.loop-turn-test.true, c.see_out-freed.ensures.count) in
    let next : drop i all ≡ a ∷ left = sym v.ready ∙ c.take_ready-array.ensures.taken in
    let both : get_or all i 0 ∷ drop (i + 1) all ≡ a ∷ left = sym (drop_more all i 0 lt) ∙ next in
    let here : get_or all i 0 ≡ a = cc in
    let rest : drop (i + 1) all ≡ left = cc in
    let outs = c.look_at_senders.new.outs.were.items in
    let n = c.args.arena.now.key.senders in
    let uses = seen_uses n c.args.standings.now.senders outs k0 c.see_out-freed.new.self.uses (ap (λ (v : StandingsView). v.senders) c.requires.standings) (c.see_out-freed.ensures.uses k0.standings (ap (λ (v : StandingsView). v.uses) c.requires.standings)) in
    let size : length c.loop-turn.standings.uses ≡ length z.capacities = ap (λ (l : List ArrayUse). length l) (v.uses ∙ uses) ∙ looks_length n outs k0 ∙ c.requires.in_order.tidy.kept.standings in
    let inside : a < length z.capacities = omega (arith, c.take_ready-array.ensures.free.0) in record {
      table = c.clear_array.ensures.seat.0 ∙ v.table;
      id = c.clear_array.ensures.seat.1 ∙ v.id;
      keeper = kept_is (emptied z a k) c.clear_array.new.seat.me c.clear_array.ensures.told;
      tidy = c.clear_array.ensures.tidy;
      words = c.clear_array.ensures.words;
      senders = c.take_ready-array.ensures.same.0 ∙ v.senders;
      uses = c.take_ready-array.ensures.same.1 ∙ v.uses;
      ready = sym rest;
      swept = subst (λ (x : List ℕ × KeeperView). Swept z k0 j had x.0 x.1 (set has a 0)) (λ y. ((ap (λ (b : ℕ). take i all ++ b ∷ []) (sym here) ∙ sym (take_more all i 0 lt)) y, sym (ap (λ (x : Sat). keeper_of x.0) c.clear_array.ensures.told) y))
          (swept_next z k0 j had (take i all) k has a v.swept inside);
    }

-- if no array is retired
pub returns-then-not-has_retired-clause-collects : goal.returns-then-not-has_retired-clause-collects
returns-then-not-has_retired-clause-collects c =
    let key = c.args.arena.now.key in
    collects_nothing (layout_of key) key.senders (keeper_of c.args.seat.now.me.0) c.args.standings.now c.requires.standings (sym c.has_retired.ensures ∙ c.if-not-has_retired.true)

pub returns-clause-collects : goal.returns-clause-collects
returns-clause-collects c =
    let n = c.args.arena.now.key.senders in
    let z = layout_of c.args.arena.now.key in
    let k0 = keeper_of c.args.seat.now.me.0 in
    let k = keeper_of c.loop-turn.seat.me.0 in
    let outs = c.look_at_senders.new.outs.were.items in
    let all = c.see_out-freed.new.self.ready in
    let at : keeper_of c.look_at_senders.new.seat.me.0 ≡ looks n outs k0 = ap (λ (x : Sat). keeper_of x.0) c.look_at_senders.ensures.told in
    let uses = seen_uses n c.args.standings.now.senders outs k0 c.see_out-freed.new.self.uses (ap (λ (v : StandingsView). v.senders) c.requires.standings) (c.see_out-freed.ensures.uses k0.standings (ap (λ (v : StandingsView). v.uses) c.requires.standings)) in
    let each : look_count z k0 ≡ n = looks_at_all z n k0 c.args.standings.now c.requires.standings (sym c.has_retired.ensures ∙ c.if-not-has_retired.false) in
    let freed_are : IsPermutation all (freed z outs k0) = subst (λ (m : ℕ). IsPermutation all (newly_free z k0 (looks m outs k0))) (sym each) (newly_ready z k0 (looks n outs k0) c.args.standings.now.uses c.see_out-freed.new.self.uses all c.requires.in_order.tidy.kept.standings (ap (λ (v : StandingsView). v.uses) c.requires.standings) uses c.see_out-freed.ensures.ready) in
    let done : take c.loop-turn._turn all ≡ all = take_all c.loop-turn._turn all (omega (arith, c.loop-turn-test.false, c.see_out-freed.ensures.count)) in record {
      outs = outs;
      collects = record {
        order = all;
        are_freed = freed_are;
        view = c.loop-turn.invariant.swept.told ∙ (λ i. all_emptied z (done i) (at i)) ∙ ap (λ (m : ℕ). all_emptied z all (looks m outs k0)) (sym each);
      };
      count = c.see_out-freed.ensures.count ∙ sym (length_permutation all (freed z outs k0) freed_are);
    }

pub returns-clause-in_order : goal.returns-clause-in_order
returns-clause-in_order c =
    let n = c.args.arena.now.key.senders in
    let key = c.args.arena.now.key in
    let z = layout_of key in
    let k0 = keeper_of c.args.seat.now.me.0 in
    let k = keeper_of c.loop-turn.seat.me.0 in
    let outs = c.look_at_senders.new.outs.were.items in
    let all = c.see_out-freed.new.self.ready in
    let had = c.args.occupied.now.items in
    let at : keeper_of c.look_at_senders.new.seat.me.0 ≡ looks n outs k0 = ap (λ (x : Sat). keeper_of x.0) c.look_at_senders.ensures.told in
    let uses = seen_uses n c.args.standings.now.senders outs k0 c.see_out-freed.new.self.uses (ap (λ (v : StandingsView). v.senders) c.requires.standings) (c.see_out-freed.ensures.uses k0.standings (ap (λ (v : StandingsView). v.uses) c.requires.standings)) in
    let freed_are = newly_ready z k0 (looks n outs k0) c.args.standings.now.uses c.see_out-freed.new.self.uses all c.requires.in_order.tidy.kept.standings (ap (λ (v : StandingsView). v.uses) c.requires.standings) uses c.see_out-freed.ensures.ready in
    let done : take c.loop-turn._turn all ≡ all = take_all c.loop-turn._turn all (omega (arith, c.loop-turn-test.false, c.see_out-freed.ensures.count)) in
    kept_swept lookup key k0 c.args.remembered.now.items n outs had all k c.loop-turn.occupied.items c.requires.in_order c.loop-turn.invariant.tidy
    (subst (λ (x : KeeperView × List ℕ). Swept z k0 x.0 had x.1 k c.loop-turn.occupied.items) (λ i. (at i, done i)) c.loop-turn.invariant.swept) freed_are

pub returns-clause-standings : goal.returns-clause-standings
returns-clause-standings c =
    let n = c.args.arena.now.key.senders in
    let z = layout_of c.args.arena.now.key in
    let k0 = keeper_of c.args.seat.now.me.0 in
    let k = keeper_of c.loop-turn.seat.me.0 in
    let outs = c.look_at_senders.new.outs.were.items in
    let all = c.see_out-freed.new.self.ready in
    let v = c.loop-turn.invariant in
    let at : keeper_of c.look_at_senders.new.seat.me.0 ≡ looks n outs k0 = ap (λ (x : Sat). keeper_of x.0) c.look_at_senders.ensures.told in
    let uses = seen_uses n c.args.standings.now.senders outs k0 c.see_out-freed.new.self.uses (ap (λ (v : StandingsView). v.senders) c.requires.standings) (c.see_out-freed.ensures.uses k0.standings (ap (λ (v : StandingsView). v.uses) c.requires.standings)) in
    let rest = swept_rest z k0 n outs c.args.occupied.now.items (take c.loop-turn._turn all) k c.loop-turn.occupied.items
    (subst (λ (x : KeeperView). Swept z k0 x c.args.occupied.now.items (take c.loop-turn._turn all) k c.loop-turn.occupied.items) at v.swept) in
    let senders : c.loop-turn.standings.senders ≡ n = v.senders ∙ c.see_out-freed.ensures.senders ∙ ap (λ (v : StandingsView). v.senders) c.requires.standings in
    let same : c.loop-turn.standings.uses ≡ map use_of k.standings = v.uses ∙ uses ∙ ap (λ (x : KeeperView). map use_of x.standings) (sym rest) in
    let none : c.loop-turn.standings.ready ≡ [] = v.ready ∙ drop_all c.loop-turn._turn all (omega (arith, c.loop-turn-test.false, c.see_out-freed.ensures.count)) in
    λ i. record { senders = senders i; uses = same i; ready = none i }
