use Rattle.std.proofs.Common.{ap, sym, ◌∙◌, length}
use Rattle.msg_names.specs.Number.{selector_number, imp_number}
use Rattle.msg_tables.specs.Chain.{chain_of}
use Rattle.msg_tables.specs.View.{kept_method}
use Rattle.msg_tables.proofs.ChainLemmas.{chain_from, Suffices}
use Rattle.msg_tables.proofs.OrderLemmas.{only_present-listed, suffices}
use Rattle.msg_tables.proofs.LookupLemmas.{stops, goes_on, chain-begins}
use Rattle.msg_tables.proofs.tables.Tables.method.Goals as goal

enough : (c : goal.After-present-at) → Suffices c.args.self.now.order (length c.args.self.now.supers) c.present-at.result
enough c = suffices c.args.self.now.order (length c.args.self.now.supers) c.present-at.result c.present-at.ensures.enough

pub loop-at-init : goal.loop-at-init
loop-at-init c =
    let begins = chain-begins c.args.self.now.supers c.args.class in
    let is = c.present-at.ensures.value in
    record {
      listed = only_present-listed c.args.self.now.supers c.args.class c.present-at.result is c.requires;
      rest = (
        length c.args.self.now.supers,
        enough c,
        ap (λ o. kept_method c.args.self.now.lists (chain_from (length c.args.self.now.supers) c.args.self.now.supers o) (selector_number c.args.sel)) is ∙ sym (ap (λ cs. kept_method c.args.self.now.lists cs (selector_number c.args.sel)) begins),
      );
    }

pub returns-in-Some-own-clause-method : goal.returns-in-Some-own-clause-method
returns-in-Some-own-clause-method c =
    let (n, enough, so_far) = c.loop-at.invariant.rest in
    stops c.args.self.now.lists c.args.self.now.supers c.args.self.now.order (selector_number c.args.sel) n c.loop-at.at c.in-Some.here (kept_method c.args.self.now.lists (chain_of c.args.self.now.supers c.args.class) (selector_number c.args.sel)) c.in-Some.is (imp_number c.in-Some-own.imp)
    (sym c.in-Some-own.ensures.own) so_far

pub loop-at-preserved : goal.loop-at-preserved
loop-at-preserved c =
    let (n, enough, so_far) = c.loop-at.invariant.rest in
    record {
      listed = c.above-at.ensures.listed;
      rest = goes_on c.args.self.now.lists c.args.self.now.supers c.args.self.now.order (selector_number c.args.sel) n c.loop-at.at c.in-Some.here (kept_method c.args.self.now.lists (chain_of c.args.self.now.supers c.args.class) (selector_number c.args.sel)) c.in-Some.is
          c.above-at.result enough (sym c.in_default-own.ensures.own) c.above-at.ensures.value (λ d e. rw e at c.above-at.ensures.fewer) so_far;
    }
