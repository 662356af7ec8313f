use Rattle.std.proofs.Common.{◌≡◌, ◌+◌, ◌<◌, ◌≤◌, ◌⊎◌, ℕ, true, ap, sym, ◌∙◌, refl, subst, arith}
use Rattle.msg_tables.specs.Origin.{class_total}
use Rattle.msg_tables.specs.History.{History, log}
use Rattle.msg_tables.specs.Stands.{StandsAt}
use Rattle.msg_model.specs.State.{awaits}
use Rattle.msg_cache.specs.declared.view.KeeperView.{KeeperView}
use Rattle.msg_runtime.specs.Parts.{AreOut, IsKeeperOf, keeper_view}
use Rattle.msg_runtime.specs.Resting.{AreRested}
use Rattle.msg_runtime.specs.View.{RuntimeView}
use Rattle.msg_runtime.proofs.runtime.Runtime.sender.Goals as goal

-- a number that is one of those, and isn't given, is out
is_out : (k : KeeperView) (senders n : ℕ) → n < senders → (senders ≤ n) ⊎ (awaits k.given n ≡ true) → awaits k.given n ≡ true
is_out k senders n below either = grind arith

out_on : (k : KeeperView) (n : ℕ) → AreOut n k → awaits k.given n ≡ true → AreOut (n + 1) k
out_on k n out here = λ m below. grind arith

pub loop-number-init : goal.loop-number-init
loop-number-init c = record {
  together = c.self.invariant;
  arena = ap (λ v. v.arena) c.self.view_is;
  keeper = ap (λ v. v.keeper) c.self.view_is;
  remembered = ap (λ v. v.remembered) c.self.view_is;
  report = ap (λ v. v.report) c.self.view_is;
  rooms = ap (λ v. v.rooms) c.self.view_is;
  written = ap (λ v. v.written) c.self.view_is;
  rested = ap (λ v. v.rested) c.self.view_is;
  out = subst (λ (v : RuntimeView). AreOut c.self.inside.full v.keeper) c.self.view_is c.self.invariant.full;
}

pub loop-number-preserved : goal.loop-number-preserved
loop-number-preserved c =
    let inv = c.loop-number.invariant in
    let e = c.in_default.ensures in
    let history = ap (λ (k : KeeperView). k.history) e.view in
    let here = is_out (keeper_view c.loop-number.self-inside.keeper) c.args.arena.now.key.senders c.loop-number.number (omega (arith, c.loop-number-test.true, c.senders-number-end.ensures.senders)) (e.none.0 refl) in record {
      together = record {
        keeper = subst (λ a. IsKeeperOf a c.give_out.new.self) (c.requires.arena ∙ sym inv.arena) e.arena;
        tables = subst (λ (h : History). StandsAt c.loop-number.self-inside.tables (log h)) (sym history) inv.together.tables;
        origin = ap (λ (h : History). h.origin) history ∙ inv.together.origin;
        classes = inv.together.classes ∙ ap (λ (h : History). class_total h.origin) (sym history);
        rests = subst (λ k. AreRested k c.loop-number.self-inside.rested.items) (sym e.view) inv.together.rests;
        full = subst (λ k. AreOut c.loop-number.self-inside.full k) (sym e.view) inv.together.full;
      };
      arena = inv.arena;
      keeper = e.view ∙ inv.keeper;
      remembered = e.remembered ∙ inv.remembered;
      report = e.report ∙ inv.report;
      rooms = inv.rooms;
      written = inv.written;
      rested = inv.rested;
      out = out_on c.args.self.now.keeper c.loop-number.number inv.out (subst (λ (k : KeeperView). awaits k.given c.loop-number.number ≡ true) inv.keeper here);
    }
