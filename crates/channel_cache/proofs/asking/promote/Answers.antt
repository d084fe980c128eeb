use Rattle.std.proofs.Common.{◌∙◌, ap, sym}
use Rattle.std.specs.Prelude.{String}
use Rattle.std.specs.Global.{Global}
use Rattle.lru.specs.LruCache.{LruCache, lru_cache}
use Rattle.channel_cache.specs.inner.Asking.{names_of}
use Rattle.channel_cache.specs.Sequences.{Lists, list_of}
use Rattle.channel_cache.specs.declared.sequences.Sequences.{Sequences}
use Rattle.channel_cache.proofs.Names.{promoted_lists, promoted_names, promoted_none}
use Rattle.channel_cache.proofs.asking.promote.Goals as goal

pub returns-clause-names : goal.returns-clause-names
returns-clause-names c = λ is.
    ap (λ (l : LruCache (String Global) Sequences). names_of l.entries) c.promote.ensures.entries
    ∙ promoted_names c.args.lists.now.entries c.args.channel.now c.args.lists.now.cap c.count.ensures.apart c.count.ensures.within (sym c.promote.ensures.value ∙ is)

pub returns-clause-same : goal.returns-clause-same
returns-clause-same c = λ is.
    c.promote.ensures.entries
    ∙ ap (λ (es : Lists). lru_cache es c.args.lists.now.cap) (promoted_none c.args.lists.now.entries c.args.channel.now (sym c.promote.ensures.value ∙ is))

pub returns-clause-lists : goal.returns-clause-lists
returns-clause-lists c = λ b.
    ap (λ (l : LruCache (String Global) Sequences). list_of l.entries b) c.promote.ensures.entries
    ∙ promoted_lists c.args.lists.now.entries c.args.channel.now b
