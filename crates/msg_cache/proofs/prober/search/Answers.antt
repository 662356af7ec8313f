use Rattle.std.proofs.Common.{◌≡◌, ℕ, ◌-◌, ◌<◌, length, ap, ◌∙◌, arith}
use Rattle.msg_names.specs.Number.{selector_number}
use Rattle.msg_buckets.specs.Probing.{probe_place, end_of}
use Rattle.msg_model.specs.State.{capacity}
use Rattle.msg_cache.specs.Layout.{layout_of, base}
use Rattle.msg_cache.proofs.LayoutLemmas.{inside}
use Rattle.msg_cache.proofs.ProbeLemmas.{headed_holding, headed_probes, read_seated, next_reading}
use Rattle.msg_cache.proofs.prober.search.Goals as goal

pub load_bucket-word-requires-clause-table : goal.load_bucket-word-requires-clause-table
load_bucket-word-requires-clause-table g c =
    let a : ℕ = c.load_header-header.result - 1 in
    let z = layout_of c.args.arena.now.key in
    let p : ℕ = c.first_place-place.result in
    let b : ℕ = c.base-base.result in
    let lt : p < capacity z a = let t = c.first_place-place.ensures.within in let u = c.capacity-capacity.ensures.capacity in omega arith in
    let t = inside z a p lt in let e : b ≡ base z a = c.base-base.ensures.base in let w = c.shared-shared.ensures.count in
    rw c.shared-shared.ensures.table (c.load_header-header.ensures.seat.0 ∙ c.requires.table, omega arith)

pub load_bucket-word-requires-clause-few : goal.load_bucket-word-requires-clause-few
load_bucket-word-requires-clause-few g c = rw c.shared-shared.ensures.table c.shared-shared.ensures.few

pub loop-imp-init : goal.loop-imp-init
loop-imp-init g c =
    let t = c.load_header-header.ensures.told in
    let r = c.load_bucket-word.ensures in
    let p = c.first_place-place.ensures in
    let a : ℕ = c.load_header-header.result - 1 in
    let h = headed_holding a t (let e = c.if-header-eq0.false in omega arith) in
    record {
      table = r.seat.0 ∙ c.load_header-header.ensures.seat.0;
      id = r.seat.1 ∙ c.load_header-header.ensures.seat.1;
      sender = read_seated r.told;
      reading = next_reading c.args.sel.positive r.told (headed_probes t) h.0 h.1 (ap (end_of (selector_number c.args.sel)) h.2) (ap length h.2) (omega (arith, p.within)) c.capacity-capacity.ensures.capacity c.base-base.ensures.base p.first;
      place = p.first;
      within = p.within;
      some = omega arith;
      few = let w = p.within in omega arith;
    }

pub load_bucket-word-requires-in-loop-imp-clause-table : goal.load_bucket-word-requires-in-loop-imp-clause-table
load_bucket-word-requires-in-loop-imp-clause-table g c =
    let a : ℕ = c.load_header-header.result - 1 in
    let z = layout_of c.args.arena.now.key in
    let p : ℕ = c.next_place-place.result in
    let b : ℕ = c.base-base.result in
    let lt : p < capacity z a = let t = c.next_place-place.ensures.within in let u = c.capacity-capacity.ensures.capacity in omega arith in
    let t = inside z a p lt in let e : b ≡ base z a = c.base-base.ensures.base in let w = c.shared-shared.ensures.count in
    rw c.shared-shared.ensures.table (c.loop-imp.invariant.table ∙ c.requires.table, omega arith)

pub load_bucket-word-requires-in-loop-imp-clause-few : goal.load_bucket-word-requires-in-loop-imp-clause-few
load_bucket-word-requires-in-loop-imp-clause-few g c = rw c.shared-shared.ensures.table c.shared-shared.ensures.few

pub loop-imp-preserved : goal.loop-imp-preserved
loop-imp-preserved g c =
    let i = c.loop-imp.invariant in
    let r = c.load_bucket-word-in-loop-imp.ensures in
    let o = c.in-Other.ensures in
    let n = c.next_place-place.ensures in
    let s : ℕ = selector_number c.args.sel in
    let cap : ℕ = c.capacity-capacity.result in
    let k : ℕ = c.loop-imp.loads in
    let at : c.next_place-place.result ≡ probe_place s cap k = n.next s (k - 1) i.place ∙ ap (λ (x : ℕ). probe_place s cap x) (let w = i.some in omega arith) in
    let lt : k < cap = let w = i.few in let e = c.if-loads-capacity.false in omega arith in
    record {
      table = r.seat.0 ∙ i.table;
      id = r.seat.1 ∙ i.id;
      sender = read_seated r.told;
      reading = next_reading c.args.sel.positive r.told i.reading.probes i.reading.holding i.reading.array (i.reading.passed o.0 o.1) i.reading.count lt c.capacity-capacity.ensures.capacity c.base-base.ensures.base at;
      place = at ∙ ap (λ (x : ℕ). probe_place s cap x) (omega arith);
      within = n.within;
      some = omega arith;
      few = omega (arith, lt);
    }
