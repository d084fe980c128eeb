use Rattle.std.proofs.Common.{◌∙◌, ap, sym, arith}
use Rattle.std.specs.Prelude.{String}
use Rattle.std.specs.Global.{Global}
use Rattle.std.proofs.lemmas.Bool.{false≢true}
use Rattle.lru.specs.LruCache.{LruCache}
use Rattle.channel_cache.specs.inner.Asking.{names_of}
use Rattle.channel_cache.specs.Sequences.{is_kept}
use Rattle.channel_cache.specs.declared.sequences.Sequences.{Sequences}
use Rattle.channel_cache.proofs.Filled.{filling_most}
use Rattle.channel_cache.proofs.asking.ask_behind.Goals as goal

pub ask-requires-clause-lists : goal.ask-requires-clause-lists
ask-requires-clause-lists c = λ x s kept. absurd (false≢true (sym (ap (λ (l : LruCache (String Global) Sequences). is_kept l.entries x) c.in_ok-none.ensures) ∙ kept))

pub returns-clause-reads : goal.returns-clause-reads
returns-clause-reads c = omega (arith, c.ask.ensures.reads, filling_most c.in_ok-none.none.cap c.args.channels.now (names_of c.in_ok-none.none.entries) c.args.to)

pub returns-in_err-found-clause-reads : goal.returns-in_err-found-clause-reads
returns-in_err-found-clause-reads c = omega (arith, c.ask.ensures.reads, filling_most c.in_ok-none.none.cap c.args.channels.now (names_of c.in_ok-none.none.entries) c.args.to)
