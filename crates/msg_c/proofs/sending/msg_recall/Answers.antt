use Rattle.std.proofs.Common.{rules, ◌≡◌, ◌<◌, ◌%◌, ℕ, sym, subst, arith}
use Rattle.msg_reader.specs.Notes.{IsRecalledSince}
use Rattle.msg_c.proofs.sending.msg_recall.Goals as goal

pub returns-in-Some-eq0-clause-found : goal.returns-in-Some-eq0-clause-found
returns-in-Some-eq0-clause-found c = λ some h front.
    let zero_is : c.in-Some-eq0.field-0 ≡ 0 = search rules in
    let are = c.args.sender.now.noted.seen h front in
    subst (λ (i : ℕ). IsRecalledSince h c.args.since c.args.slot c.args.sel i) zero_is (c.in-Some-eq0.ensures.found h are)

-- an implementation's number takes 32 bits
pub returns-in-Some-clause-found : goal.returns-in-Some-clause-found
returns-in-Some-clause-found c = λ some h front.
    let are = c.args.sender.now.noted.seen h front in
    let short : c.in-Some.imp < 4294967296 = search rules in
    let same : c.in-Some.imp % 4294967296 ≡ c.in-Some.imp = omega arith in
    subst (λ (i : ℕ). IsRecalledSince h c.args.since c.args.slot c.args.sel i) (sym same) (c.in-Some.ensures.found h are)
