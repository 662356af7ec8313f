use Rattle.msg_cache.specs.Views.{IsFoundAt}
use Rattle.msg_reader.specs.Found.{IsListed}
use Rattle.msg_reader.specs.Notes.{TellFound}
use Rattle.msg_reader.proofs.ReaderLemmas.{if_some}
use Rattle.msg_reader.proofs.reader.Reader.recall.Goals as goal

pub returns-clause-found : goal.returns-clause-found
returns-clause-found c =
    let sees = c.stamp-since.new.self.sender.front in
    let are = c.notes_are_of_longer_histories.ensures sees c.args.self.now.sender.front c.args.notes.now c.stamp-since.ensures.begins c.requires.notes in
    if_some (TellFound c.args.notes.now c.stamp-since.result c.args.class c.args.sel) (IsFoundAt sees c.args.class c.args.sel) c.recall.result
    (λ i t. (t sees are c.stamp-since.ensures.accepted c.stamp-since.ensures.since).0) c.recall.ensures.found

pub returns-clause-listed : goal.returns-clause-listed
returns-clause-listed c =
    let sees = c.stamp-since.new.self.sender.front in
    let are = c.notes_are_of_longer_histories.ensures sees c.args.self.now.sender.front c.args.notes.now c.stamp-since.ensures.begins c.requires.notes in
    if_some (TellFound c.args.notes.now c.stamp-since.result c.args.class c.args.sel) (IsListed sees) c.recall.result
    (λ i t. (t sees are c.stamp-since.ensures.accepted c.stamp-since.ensures.since).1) c.recall.ensures.found

pub returns-clause-notes : goal.returns-clause-notes
returns-clause-notes c =
    c.notes_are_of_longer_histories.ensures c.stamp-since.new.self.sender.front c.args.self.now.sender.front c.args.notes.now c.stamp-since.ensures.begins c.requires.notes

pub returns-clause-exact : goal.returns-clause-exact
returns-clause-exact c = (c.stamp-since.result, c.stamp-since.ensures.loaded, c.recall.ensures.noted)
