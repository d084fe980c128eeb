use Rattle.std.proofs.Common.{◌∙◌, ap, arith, ℕ, List}
use Rattle.std.specs.Prelude.{String}
use Rattle.std.specs.Global.{Global}
use Rattle.lru.specs.LruCache.{LruCache}
use Rattle.channel_cache.specs.Asked.{asked_after}
use Rattle.channel_cache.specs.inner.Asking.{names_of}
use Rattle.channel_cache.specs.Stands.{has}
use Rattle.channel_cache.specs.declared.sequences.Sequences.{Sequences}
use Rattle.channel_cache.proofs.Names.{put_holds, put_kept, put_names, put_kept_room}
use Rattle.channel_cache.proofs.asking.put_new.Goals as goal

pub returns-clause-names : goal.returns-clause-names
returns-clause-names c =
    ap (λ (l : LruCache (String Global) Sequences). names_of l.entries) c.in_ok-before.ensures.entries
    ∙ put_names c.args.lists.now.entries c.args.lists.now.cap c.in_ok-name.name c.new.result c.count.ensures.apart c.count.ensures.within c.count.ensures.some
    ∙ ap (λ (n : List ℕ). asked_after c.args.lists.now.cap n (names_of c.args.lists.now.entries)) (c.in_ok-name.ensures.ok ∙ c.as_str.ensures.value)

pub returns-clause-holds : goal.returns-clause-holds
returns-clause-holds c = λ x s.
    put_holds c.args.lists.now.entries c.args.lists.now.cap c.in_ok-name.name c.new.result (λ s. ap (λ (l : List ℕ). has l s) c.new.ensures) c.args.channel.now (c.in_ok-name.ensures.ok ∙ c.as_str.ensures.value) c.put.new.self.entries (ap (λ (l : LruCache (String Global) Sequences). l.entries) c.in_ok-before.ensures.entries) x s

pub returns-clause-kept : goal.returns-clause-kept
returns-clause-kept c = λ x.
    put_kept c.args.lists.now.entries c.args.lists.now.cap c.in_ok-name.name c.new.result c.args.channel.now (c.in_ok-name.ensures.ok ∙ c.as_str.ensures.value) c.put.new.self.entries (ap (λ (l : LruCache (String Global) Sequences). l.entries) c.in_ok-before.ensures.entries) x

pub returns-clause-room : goal.returns-clause-room
returns-clause-room c = λ room x.
    put_kept_room c.args.lists.now.entries c.args.lists.now.cap c.in_ok-name.name c.new.result c.args.channel.now (c.in_ok-name.ensures.ok ∙ c.as_str.ensures.value) c.put.new.self.entries (ap (λ (l : LruCache (String Global) Sequences). l.entries) c.in_ok-before.ensures.entries)
    (omega (arith, room, c.count.ensures.fits)) x
