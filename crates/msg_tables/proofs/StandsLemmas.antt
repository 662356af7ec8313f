-- What tables at a log know of it.
use Rattle.std.proofs.Common.{◌≡◌, ℕ, Bool, length, sym, ap, ap₂, subst, ◌∙◌}
use Rattle.std.specs.Prelude.{◌||◌, nat_lt}
use Rattle.msg_tables.specs.Chain.{has_subclass}
use Rattle.msg_tables.specs.Log.{Log, table}
use Rattle.msg_tables.specs.Origin.{class_total, lacks_imp, misfits_in, unlike_in}
use Rattle.msg_tables.specs.Refusal.{is_in_use, no_imp, misfits, unlike}
use Rattle.msg_tables.specs.Stands.{Holds, StandsAt}
use Rattle.msg_tables.specs.View.{IsKept, TablesView}
use Rattle.msg_tables.proofs.LogLemmas.{length-supers}

module _ (t : TablesView) (h : Log) (stands : StandsAt t h) where
  pub class_count : length t.supers ≡ class_total h.origin
  class_count = ap length stands.supers ∙ length-supers h

  pub imp-stands : (i : ℕ) → lacks_imp t.counts i ≡ no_imp h i
  unfolding no_imp
  imp-stands i = ap (λ cs. lacks_imp cs i) stands.counts

  pub misfits-stand : (s i : ℕ) → misfits_in t.counts s i ≡ misfits h s i
  unfolding misfits
  misfits-stand s i = ap (λ cs. misfits_in cs s i) stands.counts

  pub unlike-stand : (s u : ℕ) → unlike_in t.counts s u ≡ unlike h s u
  unfolding unlike
  unlike-stand s u = ap (λ cs. unlike_in cs s u) stands.counts

  pub in-use : (k : ℕ) (b : Bool) → (nat_lt k t.listed || has_subclass t.supers k) ≡ b → b ≡ is_in_use h k
  unfolding is_in_use
  in-use k b e = sym e ∙ ap₂ (λ n ss. nat_lt k n || has_subclass ss k) stands.listed stands.supers

-- tables that are the same except for room are at the same log
pub stands-kept : (old new : TablesView) (h : Log) → IsKept old new → StandsAt old h → StandsAt new h
stands-kept old new h kept stands = record {
  log = stands.log;
  supers = ap (λ (t : TablesView). t.supers) kept ∙ stands.supers;
  listed = ap (λ (t : TablesView). t.listed) kept ∙ stands.listed;
  rows = subst (λ ls. Holds ls (table h).rows) (sym (ap (λ (t : TablesView). t.lists) kept)) stands.rows;
  row_count = ap (λ (t : TablesView). t.row_count) kept ∙ stands.row_count;
  changes = ap (λ (t : TablesView). t.change_count) kept ∙ stands.changes;
  counts = ap (λ (t : TablesView). t.counts) kept ∙ stands.counts;
  limits = ap (λ (t : TablesView). t.limits) kept ∙ stands.limits;
}
