use Rattle.std.proofs.Common.{ℕ, ◌≡◌, ◌+◌, ◌*◌, cond, length, Some, slice_get, sym, ap, ◌∙◌, subst, arith}
use Rattle.std.specs.Prelude.{OnOk}
use Rattle.std.proofs.lemmas.Option.{same_Some}
use Rattle.msg_tables.specs.After.{rows_at}
use Rattle.msg_tables.specs.Opening.{Adds, size_of_list}
use Rattle.msg_tables.specs.Origin.{OriginView, IsSound, IsSoundList}
use Rattle.msg_tables.specs.Methods.{MethodsOf}
use Rattle.msg_tables.proofs.HoldsLemmas.{length-method_numbers}
use Rattle.msg_tables.proofs.OpeningLemmas.{take-room}
use Rattle.msg_tables.proofs.TakeLemmas.{All-at}
use Rattle.msg_tables.proofs.tables.Tables.open_list.Goals as goal

-- a list that is read is sound
sound_list : (o : OriginView) (p : ℕ) (l : MethodsOf) → IsSound o → slice_get o.lists p ≡ Some l → IsSoundList o l
sound_list o p l sound at = All-at (IsSoundList o) o.lists p l sound.lists at

pub open_methods-requires-clause-class : goal.open_methods-requires-clause-class
open_methods-requires-clause-class c =
    let l : MethodsOf = record { class = c.list.result.0; methods = c.list.result.1.now } in
    omega (arith, c.requires.tables.classes, (sound_list c.args.origin.now (2 * c.args.pair + cond c.args.meta 1 0) l c.requires.sound c.list.ensures).class)

pub open_methods-requires-clause-listed : goal.open_methods-requires-clause-listed
open_methods-requires-clause-listed c =
    let l : MethodsOf = record { class = c.list.result.0; methods = c.list.result.1.now } in
    rw (c.requires.tables.counts, c.as_slice.ensures) (sound_list c.args.origin.now (2 * c.args.pair + cond c.args.meta 1 0) l c.requires.sound c.list.ensures).methods

pub open_methods-requires-clause-room : goal.open_methods-requires-clause-room
open_methods-requires-clause-room c =
    let l : MethodsOf = record { class = c.list.result.0; methods = c.list.result.1.now } in
    let count = sym (length-method_numbers c.as_slice.result.now) ∙ ap length c.as_slice.ensures in
    let limits = ap (λ m. m.rows) c.requires.tables.limits in
    omega (arith, limits, count, c.requires.before, take-room size_of_list c.args.origin.now.lists (2 * c.args.pair + cond c.args.meta 1 0) l c.list.ensures, c.requires.sound.few_rows)

pub returns : goal.returns
returns c = λ list at.
    let l : MethodsOf = record { class = c.list.result.0; methods = c.list.result.1.now } in
    let same : l ≡ list = same_Some l list (sym c.list.ensures ∙ at) in
    let read : OnOk c.open_methods.result (Adds c.args.self.now c.open_methods.new.self (rows_at c.list.result.0 c.list.result.1.now)) = subst (λ ms. OnOk c.open_methods.result (Adds c.args.self.now c.open_methods.new.self (rows_at c.list.result.0 ms))) c.as_slice.ensures c.open_methods.ensures in
    subst (λ (m : MethodsOf). OnOk c.open_methods.result (Adds c.args.self.now c.open_methods.new.self (rows_at m.class m.methods))) same read
