use Rattle.std.proofs.Common.{◌≡◌, ◌++◌, ◌∷◌, [], refl, sym, ap, ◌∙◌, subst, arith}
use Rattle.std.specs.Option.{option_to_list}
use Rattle.msg_names.proofs.TestLemmas.{neither}
use Rattle.msg_tables.specs.Journal.{AllFitBack, CanAllGoBack, lists_before, supers_before, order_before, before_all}
use Rattle.msg_rows.specs.RowList.{rooms_of, rows_of}
use Rattle.std.specs.Vec.{vec_capacity}
use Rattle.msg_rows.proofs.RoomLemmas.{grown-on, grown-same}
use Rattle.msg_tables.proofs.JournalLemmas.{before-append, fit-all, fit-back, fit-front, supers-kept}
use Rattle.msg_tables.proofs.take_back.unwrite_all.Goals as goal

pub unwrite-made-requires : goal.unwrite-made-requires
unwrite-made-requires c =
    let rest = c.pop.new.self.items in
    let e = c.in-Some.entry in
    let split : c.loop-entry.journal.items ≡ rest ++ e ∷ [] = c.pop.ensures.items ∙ ap (λ o. rest ++ option_to_list o) c.in-Some.is in
    let all = subst (λ es. CanAllGoBack es (vec_capacity c.loop-entry.order) c.loop-entry.lists c.loop-entry.order.items) split c.loop-entry.invariant.back in
    (fit-back (rooms_of c.loop-entry.lists) (vec_capacity c.loop-entry.order) (rows_of c.loop-entry.lists) c.loop-entry.order.items rest (e ∷ []) all).0

pub loop-entry-preserved : goal.loop-entry-preserved
loop-entry-preserved c =
    let rest = c.pop.new.self.items in
    let e = c.in-Some.entry in
    let split : c.loop-entry.journal.items ≡ rest ++ e ∷ [] = c.pop.ensures.items ∙ ap (λ o. rest ++ option_to_list o) c.in-Some.is in
    record {
      supers = ap (before_all supers_before rest) c.unwrite-made.ensures.supers ∙ sym (before-append supers_before rest (e ∷ []) c.loop-entry.supers.items)
          ∙ ap (λ es. before_all supers_before es c.loop-entry.supers.items) (sym split) ∙ c.loop-entry.invariant.supers;
      order = ap (before_all order_before rest) c.unwrite-made.ensures.order ∙ sym (before-append order_before rest (e ∷ []) c.loop-entry.order.items)
          ∙ ap (λ es. before_all order_before es c.loop-entry.order.items) (sym split) ∙ c.loop-entry.invariant.order;
      lists = ap (before_all lists_before rest) c.unwrite-made.ensures.lists ∙ sym (before-append lists_before rest (e ∷ []) (rows_of c.loop-entry.lists))
          ∙ ap (λ es. before_all lists_before es (rows_of c.loop-entry.lists)) (sym split) ∙ c.loop-entry.invariant.lists;
      room = c.unwrite-made.ensures.room ∙ c.loop-entry.invariant.room;
      back =
          let n = vec_capacity c.loop-entry.order in
          let all = subst (λ es. CanAllGoBack es n c.loop-entry.lists c.loop-entry.order.items) split c.loop-entry.invariant.back in
          let front = fit-front (rooms_of c.loop-entry.lists) n (rows_of c.loop-entry.lists) c.loop-entry.order.items rest (e ∷ []) all in
          let lists = subst (λ ls. AllFitBack (rooms_of c.loop-entry.lists) n ls (order_before e c.loop-entry.order.items) rest) (sym c.unwrite-made.ensures.lists) front in
          let order = subst (λ o. AllFitBack (rooms_of c.loop-entry.lists) n (rows_of c.unwrite-made.new.lists) o rest) (sym c.unwrite-made.ensures.order) lists in
          fit-all (rooms_of c.loop-entry.lists) (rooms_of c.unwrite-made.new.lists) n (vec_capacity c.unwrite-made.new.order) (rows_of c.unwrite-made.new.lists) c.unwrite-made.new.order.items rest c.unwrite-made.ensures.keeps (omega (arith, c.unwrite-made.ensures.room)) order;
      keeps = grown-on (rooms_of c.args.lists.now) (rooms_of c.loop-entry.lists) (rooms_of c.unwrite-made.new.lists) c.loop-entry.invariant.keeps c.unwrite-made.ensures.keeps;
      journal = omega (arith, c.loop-entry.invariant.journal, c.pop.ensures.capacity);
      kept = λ none.
          let both = neither c.loop-entry.made c.unwrite-made.result none in
          c.unwrite-made.ensures.supers ∙ supers-kept e c.loop-entry.supers.items (sym c.unwrite-made.ensures.made ∙ both.1) ∙ c.loop-entry.invariant.kept both.0;
    }

pub loop-entry-init : goal.loop-entry-init
loop-entry-init c = record { supers = refl; order = refl; lists = refl; room = refl; back = c.requires; keeps = grown-same (rooms_of c.args.lists.now); journal = omega arith; kept = λ none. refl }
