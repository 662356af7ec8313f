use Rattle.std.proofs.Common.{◌≡◌, ◌∙◌, sym, subst, ap, Some, None, true, false, arith, rules, bytes_eq, ℕ}
use Rattle.std.specs.Prelude.{is_some, Vec}
use Rattle.std.specs.Global.{Global}
use Rattle.std.specs.List.{list_any}
use Rattle.msg_names.specs.Numbering.{AreNumbered, number_of}
use Rattle.msg_names.proofs.NumberLemmas.{is_some-number_of, with_name-present, next_number}
use Rattle.std.proofs.lemmas.List.{length-map}
use Rattle.msg_names.specs.Texts.{texts_of}
use Rattle.msg_names.proofs.NumberedLemmas.{numbered-with}
use Rattle.msg_names.proofs.TextLemmas.{texts-inserted}
use Rattle.msg_names.proofs.texts.intern_in.Goals as goal

pub returns-in-Some-clause-texts : goal.returns-in-Some-clause-texts
returns-in-Some-clause-texts c = sym (with_name-present (texts_of c.args.set.now.keys) c.args.text.now c.in-Some.number (sym c.in-Some.ensures))

pub returns-in-Some-clause-many : goal.returns-in-Some-clause-many
returns-in-Some-clause-many c =
    let present : list_any (bytes_eq c.args.text.now) (texts_of c.args.set.now.keys) ≡ true = is_some-number_of (texts_of c.args.set.now.keys) c.args.text.now ∙ ap is_some (sym c.in-Some.ensures) in
    grind arith

pub returns-then-len-ge-MAX_TEXTS-clause-many : goal.returns-then-len-ge-MAX_TEXTS-clause-many
returns-then-len-ge-MAX_TEXTS-clause-many c =
    let absent : list_any (bytes_eq c.args.text.now) (texts_of c.args.set.now.keys) ≡ false = is_some-number_of (texts_of c.args.set.now.keys) c.args.text.now ∙ ap is_some (sym c.in_default.ensures) in
    (λ _. (omega arith, absent), λ _. search rules)

pub returns-in_err-copy-clause-memory : goal.returns-in_err-copy-clause-memory
returns-in_err-copy-clause-memory c = λ _. is_some-number_of (texts_of c.args.set.now.keys) c.args.text.now ∙ ap is_some (sym c.in_default.ensures)

pub returns-in_default-insert-clause-memory : goal.returns-in_default-insert-clause-memory
returns-in_default-insert-clause-memory c = λ _. is_some-number_of (texts_of c.args.set.now.keys) c.args.text.now ∙ ap is_some (sym c.in_default.ensures)

pub returns-clause-texts : goal.returns-clause-texts
returns-clause-texts c = texts-inserted c.args.set.now.keys c.insert.new.self.keys c.in_ok-copy.copy c.args.text.now c.in_ok-copy.ensures.ok c.in-Ok.ensures.keys

pub returns-clause-ok : goal.returns-clause-ok
returns-clause-ok c =
    let texts = texts-inserted c.args.set.now.keys c.insert.new.self.keys c.in_ok-copy.copy c.args.text.now c.in_ok-copy.ensures.ok c.in-Ok.ensures.keys in
    let new : number_of (texts_of c.args.set.now.keys) c.args.text.now ≡ None = sym c.in_default.ensures in
    rw (texts, next_number (texts_of c.args.set.now.keys) c.args.text.now new) (ap Some (omega (arith, length-map c.args.set.now.keys (λ (k : Vec ℕ Global). k.items))))

pub returns-clause-numbered : goal.returns-clause-numbered
returns-clause-numbered c =
    let texts = texts-inserted c.args.set.now.keys c.insert.new.self.keys c.in_ok-copy.copy c.args.text.now c.in_ok-copy.ensures.ok c.in-Ok.ensures.keys in
    subst AreNumbered (sym texts) (numbered-with (texts_of c.args.set.now.keys) c.args.text.now (sym c.in_default.ensures) c.requires.numbered)
