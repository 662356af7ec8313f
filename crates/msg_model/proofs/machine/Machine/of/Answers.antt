-- each list is what it was made with
use Rattle.std.proofs.Common.{[], ◌∷◌, map, ◌≡◌, ◌*◌, rules, replicate, length, sym, ap, ◌∙◌, subst}
use Rattle.std.specs.Prelude.{None}
use Rattle.msg_tables.specs.History.{log}
use Rattle.msg_tables.specs.Stands.{StandsAt}
use Rattle.msg_model.specs.declared.state.Standing.TheVariants.{Free}
use Rattle.msg_model.specs.declared.state.Whereabouts.TheVariants.{Out}
use Rattle.msg_model.specs.Inside.{view_of}
use Rattle.msg_model.proofs.OpenLemmas.{IsNew, new_layout, new_state, new_whole}
use Rattle.msg_model.proofs.machine.Machine.of.Goals as goal

is_new : (c : goal.In_ok-vec-3) → IsNew c.args.origin.now c.args.senders c.args.arrays.now (view_of (record { origin = c.of.result; changes = c.new.result; tables = c.in_ok-open.field-0; written = c.none.result; live = c.in_ok-vec.field-0; arrays = c.in_ok-empty_arrays.field-0; standings = c.in_ok-vec-2.field-0; whereabouts = c.in_ok-vec-3.field-0 }))
is_new c =
    let live : c.in_ok-vec.field-0.items ≡ replicate (2 * c.class_count-classes.result) None = search rules in
    let standings : c.in_ok-vec-2.field-0.items ≡ replicate (length c.args.arrays.now) Free = search rules in
    let whereabouts : c.in_ok-vec-3.field-0.items ≡ replicate c.args.senders Out = search rules in
    record {
      history = λ i. record { origin = c.of.ensures i; changes = map (λ x. x ∷ []) (c.new.ensures.items i) };
      live = live ∙ ap (λ n. replicate (2 * n) None) c.class_count-classes.ensures.count;
      arrays = c.in_ok-empty_arrays.ensures;
      standings = standings;
      whereabouts = whereabouts;
    }

pub invariant_of-result : goal.invariant_of-result
invariant_of-result c = record {
  whole = new_whole c.args.origin.now c.args.senders c.args.arrays.now _ (is_new c) c.requires.few_senders;
  tables = subst (λ h. StandsAt c.in_ok-open.field-0 (log h)) (sym (is_new c).history) c.in_ok-open.ensures.stands;
}

pub returns-clause-layout : goal.returns-clause-layout
returns-clause-layout c = new_layout c.args.origin.now c.args.senders c.args.arrays.now _ (is_new c)

pub returns-clause-state : goal.returns-clause-state
returns-clause-state c = new_state c.args.origin.now c.args.senders c.args.arrays.now _ (is_new c)
