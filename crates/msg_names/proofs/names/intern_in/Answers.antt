use Rattle.std.proofs.Common.{◌≡◌, ◌∙◌, sym, ap, map, string_bytes, Some, None, true, false, arith, rules, bytes_eq}
use Rattle.std.specs.Prelude.{is_some}
use Rattle.std.specs.List.{list_any}
use Rattle.msg_names.specs.Number.{selector_number}
use Rattle.msg_names.specs.Numbering.{number_of}
use Rattle.msg_names.proofs.NumberLemmas.{is_some-number_of, with_name-present, next_number}
use Rattle.std.proofs.lemmas.List.{length-map}
use Rattle.msg_names.proofs.SetLemmas.{names-insert_key}
use Rattle.msg_names.proofs.names.intern_in.Goals as goal

pub returns-in-Some-clause-names : goal.returns-in-Some-clause-names
returns-in-Some-clause-names c = sym (with_name-present (map string_bytes c.args.set.now.keys) c.args.text.now (selector_number c.in-Some.selector) (sym c.in-Some.ensures))

pub returns-in-Some-clause-many : goal.returns-in-Some-clause-many
returns-in-Some-clause-many c =
    let present : list_any (bytes_eq c.args.text.now) (map string_bytes c.args.set.now.keys) ≡ true = is_some-number_of (map string_bytes c.args.set.now.keys) c.args.text.now ∙ ap is_some (sym c.in-Some.ensures) in
    grind arith

pub returns-then-len-ge-MAX_NAMES-clause-many : goal.returns-then-len-ge-MAX_NAMES-clause-many
returns-then-len-ge-MAX_NAMES-clause-many c =
    let absent : list_any (bytes_eq c.args.text.now) (map string_bytes c.args.set.now.keys) ≡ false = is_some-number_of (map string_bytes c.args.set.now.keys) c.args.text.now ∙ ap is_some (sym c.in_default.ensures) in
    (λ _. (omega arith, absent), λ _. search rules)

pub returns-clause-ok : goal.returns-clause-ok
returns-clause-ok c =
    let names = names-insert_key c.args.set.now.keys c.insert.new.self.keys c.in-Ok.name c.args.text.now c.in-Ok.ensures.ok c.in-Ok-insert.ensures.keys in
    let new : number_of (map string_bytes c.args.set.now.keys) c.args.text.now ≡ None = sym c.in_default.ensures in
    rw (names, next_number (map string_bytes c.args.set.now.keys) c.args.text.now new) (ap Some (omega (arith, length-map c.args.set.now.keys string_bytes)))

pub returns-clause-names : goal.returns-clause-names
returns-clause-names c = names-insert_key c.args.set.now.keys c.insert.new.self.keys c.in-Ok.name c.args.text.now c.in-Ok.ensures.ok c.in-Ok-insert.ensures.keys

pub returns-in_default-from_str-clause-memory : goal.returns-in_default-from_str-clause-memory
returns-in_default-from_str-clause-memory c = λ _. is_some-number_of (map string_bytes c.args.set.now.keys) c.args.text.now ∙ ap is_some (sym c.in_default.ensures)

pub returns-in_default-insert-clause-memory : goal.returns-in_default-insert-clause-memory
returns-in_default-insert-clause-memory c = λ _. is_some-number_of (map string_bytes c.args.set.now.keys) c.args.text.now ∙ ap is_some (sym c.in_default.ensures)
