-- What stays of the keeper's view by itself, and what it gives.
use Rattle.std.proofs.Common.{List, ◌≡◌, ℕ, ◌<◌, Bool, true, false, Some, None, refl, sym, ◌∙◌}
use Rattle.msg_tables.specs.Origin.{class_total}
use Rattle.std.proofs.Math.ListN.{length-set}
use Rattle.msg_names.specs.declared.value.ClassRef.{ClassRef}
use Rattle.msg_tables.specs.declared.change.Change.{Change}
use Rattle.msg_tables.specs.Several.{is_affected_by_all}
use Rattle.msg_tables.specs.History.{History, and_then, log}
use Rattle.msg_cache.specs.declared.view.KeeperView.{KeeperView}
use Rattle.msg_cache.specs.Layout.{SettingView, layout_of}
use Rattle.msg_cache.specs.Plays.{lent, given_out}
use Rattle.msg_cache.specs.Rule.{LiveWordsAgreeAfter, TidyBy, live_in}

-- the turn was split off
pub tidy_lent : (look : History → ClassRef → ℕ → ℕ) (key : SettingView) (k : KeeperView) → TidyBy look key k → TidyBy look key (lent k)
tidy_lent look key k t = record {
  kept = record {
    words = t.kept.words;
    standings = t.kept.standings;
    given = t.kept.given;
    version = t.kept.version;
    stamps = t.kept.stamps;
    begins = t.kept.begins;
    accepted = t.kept.accepted;
    told = t.kept.told;
    home = λ g e. absurd (cc);
    never = λ e. absurd (cc);
    some_sender = t.kept.some_sender;
  };
  sound = t.sound;
}

-- a seat of a sender was split off
pub tidy_given : (look : History → ClassRef → ℕ → ℕ) (key : SettingView) (k : KeeperView) (n : ℕ) → TidyBy look key k → TidyBy look key (given_out n k)
tidy_given look key k n t = record {
  kept = record {
    words = t.kept.words;
    standings = t.kept.standings;
    given = length-set k.given n true ∙ t.kept.given;
    version = t.kept.version;
    stamps = t.kept.stamps;
    begins = t.kept.begins;
    accepted = t.kept.accepted;
    told = t.kept.told;
    home = t.kept.home;
    never = t.kept.never;
    some_sender = t.kept.some_sender;
  };
  sound = t.sound;
}

-- If a change affects no class reference that has a live array, words of live arrays agree after it
-- as before.
pub agrees_after : (look : History → ClassRef → ℕ → ℕ) (key : SettingView) (k : KeeperView) (x : List Change) → ((c : ClassRef) (s : ℕ) → is_affected_by_all (log k.history) x c ≡ false → look (and_then k.history x) c s ≡ look k.history c s) → TidyBy look key k
    → ((c : ClassRef) → c.class < class_total key.origin → is_affected_by_all (log k.history) x c ≡ true → live_in (layout_of key) k.words c ≡ None)
    → LiveWordsAgreeAfter look key k x
agrees_after look key k x unchanged t flushed c b q there live lt entry =
    let before = t.sound.lawful.live_words c b q live lt entry in
    (before.0, before.1 ∙ sym (unchanged c _ (step (is_affected_by_all (log k.history) x c) refl)))
  where
    step : (b' : Bool) → is_affected_by_all (log k.history) x c ≡ b' → is_affected_by_all (log k.history) x c ≡ false
    step false e = e
    step true e =
        let none = flushed c (t.sound.in_range.live_class c b live) e in
        let u : Some b ≡ None = sym (t.sound.lawful.stands_live c b live) ∙ none in absurd (cc)
