use Rattle.std.proofs.Common.{refl}
use Rattle.std.proofs.lemmas.List.Elements.{All-replicate}
use Rattle.msg_reader.specs.Blank.{IsBlank}
use Rattle.msg_reader.proofs.NoteLemmas.{blank_of}
use Rattle.msg_reader.proofs.notes.Notes.new.Goals as goal

pub returns-clause-blank : goal.returns-clause-blank
returns-clause-blank c = record {
  first = All-replicate IsBlank 8192 _ (record { seal = refl; imp = refl; stamp = refl });
  second = All-replicate IsBlank 8192 _ (record { seal = refl; imp = refl; stamp = refl });
}

pub returns-clause-notes : goal.returns-clause-notes
returns-clause-notes c h = blank_of h _ (returns-clause-blank c)

pub invariant_of-result-3 : goal.invariant_of-result-3
invariant_of-result-3 c = record {
  after = λ p d inside blank. All-replicate IsBlank 8192 _ (record { seal = refl; imp = refl; stamp = refl }) p d inside;
  unwritten = λ part b small is p d inside at. All-replicate IsBlank 8192 _ (record { seal = refl; imp = refl; stamp = refl }) p d inside;
}
