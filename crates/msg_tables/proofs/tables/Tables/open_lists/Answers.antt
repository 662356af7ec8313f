use Rattle.std.proofs.Common.{◌≡◌, ◌<◌, ◌+◌, ◌*◌, ℕ, List, length, take, take_all, Some, slice_get, ap, ◌∙◌, subst, arith}
use Rattle.std.specs.Prelude.{sum_by}
use Rattle.msg_tables.specs.After.{rows_at, list_rows}
use Rattle.msg_tables.specs.Methods.{MethodsOf}
use Rattle.msg_tables.specs.Opening.{Adds, size_of_list}
use Rattle.msg_tables.specs.View.{TablesView}
use Rattle.msg_tables.proofs.OpeningLemmas.{adds-next, adds-count, adds-for}
use Rattle.msg_tables.proofs.TakeLemmas.{element}
use Rattle.msg_tables.proofs.tables.Tables.open_lists.Goals as goal

-- the first list of a pair, after those before it
one_more : (a b c : TablesView) (lists : List MethodsOf) (pair count : ℕ) → 2 * count ≡ length lists → pair < count → Adds a b (list_rows (take (2 * pair) lists))
    → ((l : MethodsOf) → slice_get lists (2 * pair + 0) ≡ Some l → Adds b c (rows_at l.class l.methods)) → Adds a c (list_rows (take (2 * pair + 1) lists))
one_more a b c lists pair count same inside before adds =
    let place : 2 * pair + 0 ≡ 2 * pair = omega arith in
    let (l, at) = element lists (2 * pair) (omega (arith, same, inside)) in
    adds-next a b c lists (2 * pair) (2 * pair + 1) l (omega arith) at before (adds l (ap (slice_get lists) place ∙ at))

pub open_list-requires-clause-before : goal.open_list-requires-clause-before
open_list-requires-clause-before c =
    let lists = c.args.origin.now.lists in
    let place : 2 * c.loop-pair.pair ≡ 2 * c.loop-pair.pair + 0 = omega arith in
    adds-count c.args.self.now c.loop-pair.self (take (2 * c.loop-pair.pair) lists) c.requires.blank c.loop-pair.invariant ∙ ap (λ n. sum_by size_of_list (take n lists)) place

pub open_list-requires-in-loop-pair-clause-tables : goal.open_list-requires-in-loop-pair-clause-tables
open_list-requires-in-loop-pair-clause-tables c =
    let lists = c.args.origin.now.lists in
    adds-for c.args.origin.now c.args.self.now c.open_list.new.self (list_rows (take (2 * c.loop-pair.pair + 1) lists)) c.requires.tables
    (one_more c.args.self.now c.loop-pair.self c.open_list.new.self lists c.loop-pair.pair c.pair_count-pair-end.result c.pair_count-pair-end.ensures.pairs c.loop-pair-test.true c.loop-pair.invariant c.in_ok-open_list.ensures)

pub open_list-requires-in-loop-pair-clause-before : goal.open_list-requires-in-loop-pair-clause-before
open_list-requires-in-loop-pair-clause-before c =
    let lists = c.args.origin.now.lists in
    adds-count c.args.self.now c.open_list.new.self (take (2 * c.loop-pair.pair + 1) lists) c.requires.blank
    (one_more c.args.self.now c.loop-pair.self c.open_list.new.self lists c.loop-pair.pair c.pair_count-pair-end.result c.pair_count-pair-end.ensures.pairs c.loop-pair-test.true c.loop-pair.invariant c.in_ok-open_list.ensures)

pub loop-pair-preserved : goal.loop-pair-preserved
loop-pair-preserved c =
    let lists = c.args.origin.now.lists in
    let pair = c.loop-pair.pair in
    let first = one_more c.args.self.now c.loop-pair.self c.open_list.new.self lists pair c.pair_count-pair-end.result c.pair_count-pair-end.ensures.pairs c.loop-pair-test.true c.loop-pair.invariant c.in_ok-open_list.ensures in
    let (l, at) = element lists (2 * pair + 1) (omega (arith, c.pair_count-pair-end.ensures.pairs, c.loop-pair-test.true)) in
    adds-next c.args.self.now c.open_list.new.self c.open_list-in-loop-pair.new.self lists (2 * pair + 1) (2 * (pair + 1)) l (omega arith) at first (c.in_ok-open_list-2.ensures l at)

pub returns : goal.returns
returns c =
    let lists = c.args.origin.now.lists in
    let end = take_all (2 * c.loop-pair.pair) lists (omega (arith, c.pair_count-pair-end.ensures.pairs, c.loop-pair-test.false)) in
    subst (λ ls. Adds c.args.self.now c.loop-pair.self (list_rows ls)) end c.loop-pair.invariant
