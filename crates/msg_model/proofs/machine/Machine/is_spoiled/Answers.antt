-- the array's words, and the tables' classes
use Rattle.std.proofs.Common.{[], ◌∷◌, ◌≡◌, ◌<◌, length, map, sym, ◌∙◌, ap, subst}
use Rattle.std.specs.Prelude.{None, slice_index}
use Rattle.msg_tables.specs.Origin.{class_total}
use Rattle.msg_tables.specs.Log as logs
use Rattle.msg_tables.specs.History.{lookup, and_then, log}
use Rattle.msg_tables.proofs.HistoryLemmas.{log-one}
use Rattle.msg_tables.specs.Several.{refusal_of_all}
use Rattle.msg_tables.proofs.StandsLemmas.{class_count}
use Rattle.msg_model.specs.declared.state.Standing.TheVariants.{Live}
use Rattle.msg_model.specs.Inside.{view_of}
use Rattle.msg_model.specs.Steps.{is_spoiled}
use Rattle.msg_model.specs.View.{MachineView, word_at, standing_at}
use Rattle.msg_tables.specs.Written.{SeeksAmong}
use Rattle.msg_model.proofs.WholeLemmas.{refused_alone, class_listed, spoiled_as}
use Rattle.msg_tables.proofs.PresenceLemmas.{seeks-listed}
use Rattle.msg_model.proofs.machine.Machine.is_spoiled.Goals as goal

pub has_spoiled_word-requires-clause-class : goal.has_spoiled_word-requires-clause-class
has_spoiled_word-requires-clause-class c = class_listed c.self.inside.tables _ c.self.invariant.tables c.in-Live.class.class
    (subst (λ v. c.in-Live.class.class < class_total v.history.origin) (sym c.self.view_is) c.in-Live.ensures.listed)

pub has_spoiled_word-requires-clause-listed : goal.has_spoiled_word-requires-clause-listed
has_spoiled_word-requires-clause-listed c =
    subst (λ n. SeeksAmong n c.args.change.now) (sym (class_count c.self.inside.tables _ c.self.invariant.tables))
    (seeks-listed _ c.args.change.now (sym (refused_alone _ c.args.change.now) ∙ subst (λ v. refusal_of_all (log v.history) (c.args.change.now ∷ []) ≡ None) (sym c.self.view_is) c.requires.accepted))

pub returns-in-Live : goal.returns-in-Live
returns-in-Live c =
    let a = c.args.array in
    let x = c.args.change.now in
    let standing = subst (λ v. Live c.in-Live.class ≡ standing_at v.standings a) (sym c.self.view_is) c.in-Live.ensures.standing in
    subst (λ (v : MachineView). c.has_spoiled_word.result ≡ is_spoiled (lookup (and_then v.history (x ∷ []))) (slice_index (map length v.arrays) a) (word_at v.arrays a) (standing_at v.standings a)) c.self.view_is
    (c.has_spoiled_word.ensures (log (view_of c.self.inside).history) c.self.invariant.tables
    ∙ ap (λ g. is_spoiled (logs.lookup g) (length c.index.result.now) (slice_index c.index.result.now) (Live c.in-Live.class)) (sym (log-one (view_of c.self.inside).history x))
    ∙ spoiled_as (lookup (and_then (view_of c.self.inside).history (x ∷ []))) c.self.inside.arrays.items a c.index.result.now (Live c.in-Live.class)
    (subst (λ (v : MachineView). a < length (map length v.arrays)) (sym c.self.view_is) c.requires.array) c.index.ensures
    ∙ ap (is_spoiled (lookup (and_then (view_of c.self.inside).history (x ∷ []))) (slice_index (map length c.self.inside.arrays.items) a) (word_at c.self.inside.arrays.items a)) standing)
