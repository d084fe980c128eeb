use Rattle.std.proofs.Common.{◌≡◌, ◌≤◌, ◌+◌, subst, ℕ, List}
use Rattle.std.specs.Prelude.{IfOk, OnOk}
use Rattle.sg_history.specs.History.{past}
use Rattle.channel_cache.specs.Kept.{WereAsked, refills_at}
use Rattle.channel_cache.specs.Listed.{listed_in, sequences_of}
use Rattle.channel_cache.specs.Reads.{ask_reads}
use Rattle.channel_cache.proofs.caches.ask_channel.Goals as goal

pub returns-clause-sequences : goal.returns-clause-sequences
returns-clause-sequences c =
    subst (λ (l : List (List ℕ)). IfOk c.ask.result (λ found. found.sequences.items ≡ sequences_of (listed_in (past c.args.log.now.entries c.args.to) l))) c.from_ref.ensures.value c.ask.ensures.sequences

pub returns-clause-refills : goal.returns-clause-refills
returns-clause-refills c =
    subst (λ (l : List (List ℕ)). IfOk c.ask.result (λ found. found.refills ≡ refills_at c.args.lists.now l c.args.to)) c.from_ref.ensures.value c.ask.ensures.refills

pub returns-clause-asked : goal.returns-clause-asked
returns-clause-asked c =
    subst (λ (l : List (List ℕ)). OnOk c.ask.result (c.args.lists.now.place ≤ c.args.to → WereAsked c.args.lists.now c.ask.new.self l c.args.to)) c.from_ref.ensures.value c.ask.ensures.asked

pub returns-clause-reads : goal.returns-clause-reads
returns-clause-reads c =
    subst (λ (l : List (List ℕ)). c.ask.new.log.reads ≤ c.args.log.now.reads + ask_reads c.args.lists.now c.args.log.now.entries l c.args.to) c.from_ref.ensures.value c.ask.ensures.reads
