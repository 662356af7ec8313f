-- the tables are at the longer history
use Rattle.std.specs.Result.{OnOk, is_err}
use Rattle.std.proofs.Common.{rules, [], ◌∷◌, ◌++◌, ◌≡◌, Bool, false, Result, Ok, Err, true≢false, subst, sym, ◌∙◌}
use Rattle.msg_tables.specs.Log as logs
use Rattle.msg_tables.specs.History.{log}
use Rattle.msg_tables.specs.Several.{and_all}
use Rattle.msg_tables.specs.Stands.{StandsAt}
use Rattle.msg_model.specs.Inside.{view_of}
use Rattle.msg_model.proofs.WholeLemmas.{alone, stands_longer}
use Rattle.msg_model.proofs.machine.Machine.commit.Goals as goal

made : {A B P : Type 0} (r : Result A B) → is_err r ≡ false → OnOk r P → P
made (Ok a) e p = p
made (Err b) e p = absurd (true≢false e)

pub invariant_of-self-2 : goal.invariant_of-self-2
invariant_of-self-2 c =
    let whole = c.self.invariant.whole in
    let x = c.args.change in
    let h = log (view_of c.self.inside).history in
    let one : c.from_ref.result.now ≡ x ∷ [] = search rules in
    let made-all = made c.apply_all-made.result (sym c.is_err.ensures.value ∙ c.if-is_err.false) c.apply_all-made.ensures.ok h c.self.invariant.tables in
    let stands : StandsAt c.apply_all-made.new.self (logs.and_then h x) = subst (λ xs. StandsAt c.apply_all-made.new.self (and_all h xs)) one made-all.1 in
    let pushed : c.push-pushed.new.self.items ≡ c.self.inside.changes.items ++ x ∷ [] = search rules in
    record {
      whole = record {
        headers = whole.headers;
        standings = whole.standings;
        few_senders = whole.few_senders;
        live_arrays = whole.live_arrays;
        held_arrays = whole.held_arrays;
        live_classes = whole.live_classes;
      };
      tables = subst (λ cs. StandsAt c.apply_all-made.new.self (log (alone c.self.inside.origin.value cs))) (sym pushed) (stands_longer c.apply_all-made.new.self c.self.inside.origin.value c.self.inside.changes.items x stands);
    }
