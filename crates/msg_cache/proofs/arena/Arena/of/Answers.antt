use Rattle.std.proofs.Common.{◌≡◌, ℕ, suc, ◌+◌, ◌*◌, ◌<◌, ◌≤◌, List, [], ◌∷◌, length, take, All, sym, ap, ◌∙◌, subst, arith, add-one, rules, take_all}
use borrow.Author.Count.{below_more}
use Rattle.std.specs.Prelude.{slice_index, slice_index_or, replicate}
use Rattle.std.proofs.lemmas.List.{take-replicate, length-replicate, length_push, get_or_append_left, get_or_push}
use Rattle.msg_buckets.specs.Capacity.{IsCapacity}
use Rattle.atomic_table.specs.Table.{opening as opened}
use Rattle.msg_tables.specs.History.{lookup}
use Rattle.msg_cache.specs.declared.arena.Span.{Span}
use Rattle.msg_cache.specs.declared.view.View.TheVariants.{Keeper}
use Rattle.msg_cache.specs.Layout.{SettingView, layout_of, total, base, stamps, probes, word_count}
use Rattle.msg_cache.specs.Keeping.{AreGroups}
use Rattle.msg_cache.specs.Rule.{holds, first_keeper}
use Rattle.msg_cache.proofs.OpeningLemmas.{opens, total_more, total_part}
use Rattle.msg_cache.proofs.arena.Arena.of.Goals as goal

pub overflow_add-probes-in-loop-capacity : goal.overflow_add-probes-in-loop-capacity
overflow_add-probes-in-loop-capacity c =
    let i : ℕ = c.loop-capacity.capacity-index in
    let l : List ℕ = c.args.capacities.items in
    let e : slice_index_or c.deref-capacity-items.result.now i 0 ≡ slice_index l i = ap (λ xs. slice_index_or xs i 0) c.deref-capacity-items.ensures.value in
    let lt : i < length l = subst (λ (xs : List ℕ). i < length xs) c.deref-capacity-items.ensures.value c.loop-capacity-test.true in
    let t = total_more l i lt in let u = total_part l (suc i) in let n = c.loop-capacity.invariant.next in let r = c.requires.room in let f = c.class_count.ensures.sound.few_classes in
    omega arith

pub overflow_cast-probes-in-loop-capacity : goal.overflow_cast-probes-in-loop-capacity
overflow_cast-probes-in-loop-capacity c =
    let l : List ℕ = c.args.capacities.items in
    let u = total_part l c.loop-capacity.capacity-index in let n = c.loop-capacity.invariant.next in let r = c.requires.room in let f = c.class_count.ensures.sound.few_classes in
    omega arith

pub loop-capacity-preserved : goal.loop-capacity-preserved
loop-capacity-preserved c =
    let i : ℕ = c.loop-capacity.capacity-index in
    let l : List ℕ = c.args.capacities.items in
    let e : slice_index_or c.deref-capacity-items.result.now i 0 ≡ slice_index l i = ap (λ xs. slice_index_or xs i 0) c.deref-capacity-items.ensures.value in
    let lt : i < length l = subst (λ (xs : List ℕ). i < length xs) c.deref-capacity-items.ensures.value c.loop-capacity-test.true in
    let t = total_more l i lt in let n = c.loop-capacity.invariant.next in
    let s : total (take (i + 1) l) ≡ total (take (suc i) l) = ap (λ (x : ℕ). total (take x l)) (add-one i) in
    let old : List Span = c.loop-capacity.spans.items in
    let x : Span = record { base = c.loop-capacity.probes; capacity = slice_index_or c.deref-capacity-items.result.now i 0 } in
    record {
      count = ap length c.in_ok-push.ensures.items ∙ length_push old x ∙ ap (λ (x : ℕ). x + 1) c.loop-capacity.invariant.count;
      next = omega (arith, t, n, e, s);
      spans = below_more _ _
          (λ a al d. ap (λ xs. slice_index_or xs a d) c.in_ok-push.ensures.items ∙ get_or_append_left old (x ∷ []) d a (let k = c.loop-capacity.invariant.count in omega arith) ∙ c.loop-capacity.invariant.spans a al d)
          (λ d. ap (λ xs. slice_index_or xs i d) c.in_ok-push.ensures.items ∙ get_or_push old x d i c.loop-capacity.invariant.count ∙ (λ j. record { base = n j; capacity = e j }));
    }

pub of_words-requires : goal.of_words-requires
of_words-requires c =
    let key : SettingView = record { origin = c.args.origin.now; senders = c.args.senders; capacities = c.args.capacities.items } in
    let n : ℕ = c.loop-capacity.probes + 8 + 2 * c.class_count-2.result + 8 * c.args.senders in
    let ends : length c.args.capacities.items ≤ c.loop-capacity.capacity-index = subst (λ (xs : List ℕ). length xs ≤ c.loop-capacity.capacity-index) c.deref-capacity-items.ensures.value c.loop-capacity-test.false in
    let whole : take c.loop-capacity.capacity-index c.args.capacities.items ≡ c.args.capacities.items = take_all c.loop-capacity.capacity-index c.args.capacities.items ends in
    let same : total (take c.loop-capacity.capacity-index c.args.capacities.items) ≡ total c.args.capacities.items = ap total whole in
    let m = c.loop-capacity.invariant.next in
    let count : n ≡ word_count (layout_of key) = omega arith in
    let w : c.in_ok-words.words.items ≡ replicate n 0 = search rules in
    subst (λ (x : List ℕ × SettingView). holds lookup x.1 (opened x.0 [] (Keeper (first_keeper x.1))))
    (λ i. (sym (c.deref.ensures.value ∙ w) i, record { origin = sym c.of.ensures i; senders = c.args.senders; capacities = (sym c.of-2.ensures i).items }))
    (opens lookup key n c.class_count.ensures.sound c.requires.senders.0 count).0

pub invariant_of-arena : goal.invariant_of-arena
invariant_of-arena c =
    let l : List ℕ = c.args.capacities.items in
    let k : ℕ = c.loop-capacity.capacity-index in
    let setting : SettingView = record { origin = c.args.origin.now; senders = c.args.senders; capacities = l } in
    let key : c.in_ok-table.table.shared.key ≡ setting = c.in_ok-table.ensures.5 ∙ (λ j. record { origin = c.of.ensures j; senders = c.args.senders; capacities = (c.of-2.ensures j).items }) in
    let ends : length l ≤ k = subst (λ (xs : List ℕ). length xs ≤ k) c.deref-capacity-items.ensures.value c.loop-capacity-test.false in
    let all : k ≡ length l = search rules in
    let same : total (take k l) ≡ total l = ap total (take_all k l ends) in
    let n : ℕ = c.loop-capacity.probes + 8 + 2 * c.class_count-2.result + 8 * c.args.senders in
    let end : c.loop-capacity.probes + 8 ≡ stamps (layout_of setting) = omega (arith, c.loop-capacity.invariant.next, same) in
    let next : c.loop-capacity.probes + 8 + 2 * c.class_count-2.result ≡ probes (layout_of setting) = omega (arith, end, c.class_count-2.ensures) in
    let zeros : c.in_ok-words.words.items ≡ replicate n 0 = search rules in
    let count : c.in_ok-table.table.shared.table_id.words ≡ n = c.in_ok-table.ensures.0 ∙ ap length (c.deref.ensures.value ∙ zeros) ∙ length-replicate n 0 in
    let words : c.in_ok-table.table.shared.table_id.words ≡ word_count (layout_of setting) = count ∙ ap (λ (x : ℕ). x + 8 * c.args.senders) next in
    record {
      are_capacities = subst (λ (x : SettingView). All IsCapacity x.capacities) (sym key) c.requires.capacities;
      spans = subst (λ (x : SettingView). (i : ℕ) → i < length x.capacities → (d : Span) → slice_index_or c.loop-capacity.spans.items i d ≡ record { base = base (layout_of x) i; capacity = slice_index x.capacities i }) (sym key)
          (λ i lt d. c.loop-capacity.invariant.spans i (omega arith) d);
      spans_count = c.loop-capacity.invariant.count ∙ all ∙ ap (λ (x : SettingView). length x.capacities) (sym key);
      firsts = subst (λ (x : SettingView). AreGroups x.capacities c.args.firsts) (sym key) c.requires.firsts;
      senders = ap (λ (x : SettingView). x.senders) (sym key);
      few_senders = c.requires.senders.1;
      stamps = end ∙ ap (λ (x : SettingView). stamps (layout_of x)) (sym key);
      probes = next ∙ ap (λ (x : SettingView). probes (layout_of x)) (sym key);
      words = words ∙ ap (λ (x : SettingView). word_count (layout_of x)) (sym key);
      few_words = let r = c.requires.room in let f = c.class_count.ensures.sound.few_classes in let s = c.requires.senders.1 in omega arith;
    }

pub returns-clause-words : goal.returns-clause-words
returns-clause-words c =
    let l : List ℕ = c.args.capacities.items in
    let k : ℕ = c.loop-capacity.capacity-index in
    let setting : SettingView = record { origin = c.args.origin.now; senders = c.args.senders; capacities = l } in
    let key : c.in_ok-table.table.shared.key ≡ setting = c.in_ok-table.ensures.5 ∙ (λ j. record { origin = c.of.ensures j; senders = c.args.senders; capacities = (c.of-2.ensures j).items }) in
    let ends : length l ≤ k = subst (λ (xs : List ℕ). length xs ≤ k) c.deref-capacity-items.ensures.value c.loop-capacity-test.false in
    let same : total (take k l) ≡ total l = ap total (take_all k l ends) in
    let n : ℕ = c.loop-capacity.probes + 8 + 2 * c.class_count-2.result in
    let next : n ≡ probes (layout_of setting) = omega (arith, c.loop-capacity.invariant.next, same, c.class_count-2.ensures) in
    let zeros : c.in_ok-words.words.items ≡ replicate (n + 8 * c.args.senders) 0 = search rules in
    c.truncate.ensures.items ∙ ap (take n) zeros ∙ take-replicate n (n + 8 * c.args.senders) 0 (omega arith)
    ∙ ap (λ (x : ℕ). replicate x 0) (next ∙ ap (λ (x : SettingView). probes (layout_of x)) (sym key))
