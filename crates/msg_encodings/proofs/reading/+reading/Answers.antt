use Rattle.std.proofs.Common.{rules, ◌≡◌, ◌∙◌, sym, ap, ℕ, ◌-◌, length, get_or, take, drop, true, false, List, arith}
use Rattle.std.specs.Prelude.{max}
use Rattle.msg_encodings.specs.Shapes.{place}
use Rattle.msg_encodings.specs.Texts.{past_one, past_name}
use Rattle.msg_encodings.specs.Reading.{Read, ends, front, first, of_kind}
use Rattle.msg_encodings.specs.declared.letters.Kind.{Kind}
use Rattle.msg_encodings.specs.declared.shapes.Shape.{Shape}
use Rattle.msg_encodings.proofs.Shorter.{first-shortens}
use Rattle.msg_encodings.proofs.Fields.{fields-end, fields-kept, member-shorter, first-none, first-empty, first-some, empty, apart}
use Rattle.msg_encodings.proofs.reading.+reading.Goals as goal

pub first-returns-then-depth-eq0-clause-shape : goal.first-returns-then-depth-eq0-clause-shape
first-returns-then-depth-eq0-clause-shape t c = c.plain.ensures.value ∙ sym (ap (λ (r : Read). r.0) (first-none c.args.depth c.args.text.now c.if-depth-eq0.true))

pub first-returns-then-depth-eq0-clause-rest : goal.first-returns-then-depth-eq0-clause-rest
first-returns-then-depth-eq0-clause-rest t c = sym (ap (λ (r : Read). r.1) (first-none c.args.depth c.args.text.now c.if-depth-eq0.true))

pub first-returns-in-empty-clause-shape : goal.first-returns-in-empty-clause-shape
first-returns-in-empty-clause-shape t c = c.plain-in-empty.ensures.value ∙ sym (ap (λ (r : Read). r.0) (first-empty c.args.depth c.args.text.now (omega arith) (sym c.past.ensures ∙ empty c.past.result.now c.in-empty.len_below)))

pub first-returns-in-empty-clause-rest : goal.first-returns-in-empty-clause-rest
first-returns-in-empty-clause-rest t c = sym (ap (λ (r : Read). r.1) (first-empty c.args.depth c.args.text.now (omega arith) (sym c.past.ensures ∙ empty c.past.result.now c.in-empty.len_below)))

pub first-returns-in-len1-up-clause-shape : goal.first-returns-in-len1-up-clause-shape
first-returns-in-len1-up-clause-shape t c =
    let text = c.past.result.now in
    let rest = take (length text - 1) (drop 1 text) in
    let is = first-some c.args.depth c.args.text.now (get_or text 0 0) rest (omega arith) (sym c.past.ensures ∙ apart text c.in-len1-up.len_at_least) in
    c.behind.ensures.shape ∙ ap (λ (k : Kind). (of_kind (first (c.args.depth - 1)) (get_or text 0 0) rest k).0) c.kind_of.ensures ∙ sym (ap (λ (r : Read). r.0) is)

pub first-returns-in-len1-up-clause-rest : goal.first-returns-in-len1-up-clause-rest
first-returns-in-len1-up-clause-rest t c =
    let text = c.past.result.now in
    let rest = take (length text - 1) (drop 1 text) in
    let is = first-some c.args.depth c.args.text.now (get_or text 0 0) rest (omega arith) (sym c.past.ensures ∙ apart text c.in-len1-up.len_at_least) in
    c.behind.ensures.rest ∙ ap (λ (k : Kind). (of_kind (first (c.args.depth - 1)) (get_or text 0 0) rest k).1) c.kind_of.ensures ∙ sym (ap (λ (r : Read). r.1) is)

pub fields-returns-then-ends-clause-shape : goal.fields-returns-then-ends-clause-shape
fields-returns-then-ends-clause-shape t c =
    let l = c.loop-at in
    let at : ends c.args.close (past_name l.rest.now) ≡ true = search rules in
    c.whole.ensures.value ∙ ap (λ (r : Read). r.0) (sym (fields-end (first c.args.depth) c.args.close (length l.rest.now) l.end l.align l.rest.now at) ∙ l.invariant.is)

pub fields-returns-then-ends-clause-rest : goal.fields-returns-then-ends-clause-rest
fields-returns-then-ends-clause-rest t c =
    let l = c.loop-at in
    let at : ends c.args.close (past_name l.rest.now) ≡ true = search rules in
    c.past_one.ensures ∙ ap (past_one c.args.close) c.past_name-at.ensures ∙ ap (λ (r : Read). r.1) (sym (fields-end (first c.args.depth) c.args.close (length l.rest.now) l.end l.align l.rest.now at) ∙ l.invariant.is)

pub fields-loop-at-smaller : goal.fields-loop-at-smaller
fields-loop-at-smaller t c =
    let at : ends c.args.close (past_name c.loop-at.rest.now) ≡ false = search rules in
    let less = member-shorter (first c.args.depth) (first-shortens c.args.depth) c.args.close c.loop-at.rest.now at in
    omega (arith, less, ap length c.first.ensures.rest, ap (λ (text : List ℕ). length (first c.args.depth text).1) c.past_name-at.ensures)

pub fields-loop-at-preserved : goal.fields-loop-at-preserved
fields-loop-at-preserved t c =
    let l = c.loop-at in
    let type = first c.args.depth in
    let at : ends c.args.close (past_name l.rest.now) ≡ false = search rules in
    let member : c.first.result.0 ≡ (type (past_name l.rest.now)).0 = c.first.ensures.shape ∙ ap (λ (text : List ℕ). (type text).0) c.past_name-at.ensures in
    let rest : c.first.result.1.now ≡ (type (past_name l.rest.now)).1 = c.first.ensures.rest ∙ ap (λ (text : List ℕ). (type text).1) c.past_name-at.ensures in
    let end : c.max-end.result ≡ max l.end (place (front c.args.close l.end) (type (past_name l.rest.now)).0).1 = c.max-end.ensures ∙ ap (λ (k : ℕ). max l.end k) (ap (λ (p : ℕ × ℕ). p.1) c.place-last.ensures ∙ ap (λ (k : ℕ). (place k c.first.result.0).1) c.front.ensures ∙ ap (λ (s : Shape). (place (front c.args.close l.end) s).1) member) in
    let align : c.max-align.result ≡ max l.align (type (past_name l.rest.now)).0.align = c.max-align.ensures ∙ ap (λ (s : Shape). max l.align s.align) member in
    record {
      some = omega arith;
      most = omega arith;
      is = fields-kept type (first-shortens c.args.depth) c.args.close l.end l.align l.rest.now c.max-end.result c.max-align.result c.first.result.1.now at end align rest ∙ l.invariant.is;
    }
