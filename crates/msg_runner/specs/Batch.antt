-- The contracts' view of what workers did beside the changes.
use Rattle.std.specs.Prelude.{ℕ, map, Vec}
use Rattle.std.specs.Global.{Global}
use Rattle.msg_image.specs.Plain.{item_parts}
use Rattle.msg_tables.specs.History.{History, BeginsWith}
use Rattle.msg_eval.specs.declared.reply.Reply.{Reply}
use Rattle.msg_answers.specs.Serving.{IsServed, Served, at_worker, sends_of, share_of, worker_of}
use Rattle.msg_answers.specs.declared.part.Part.{Part}
use Rattle.msg_runner.specs.declared.workers.Batch.{Batch}

-- the batch has the replies and outcomes of a part, whose changes led from one history to another
abbrev pub HasServed : Part → History → Batch → History → Type 0
HasServed p h b now = IsServed p.image.now (worker_of p.deal.cut p.deal.workers) p.deal.workers h (map item_parts p.items.now) (map (λ (rs : Vec Reply Global). rs.items) b.shares.items) b.outcomes.items now

-- a worker has answered its share of a part beside the changes, which led from one history to
-- another that has each of its points
abbrev pub HasAnswered : Part → ℕ → History → Batch → History → Type 0
HasAnswered p w h b now =
    (last : History)
    × Served h (share_of (worker_of p.deal.cut p.deal.workers) w 0 (sends_of p.image.now (map item_parts p.items.now))) (at_worker (map (λ (rs : Vec Reply Global). rs.items) b.shares.items) w) last
    × BeginsWith now last
